-- A struct's ghost field can only say that there is a tree (∥ ∥₁). Its ways are there all the same: of those to one name the shortest is one alone. Assumes nothing.
use Prim.Native.Nat.{ℕ, suc, ◌-◌, ◌≤◌, ◌<◌}
use mathlib.Core.Path.{◌≡◌, refl, sym}
use mathlib.Core.List.{List}
use mathlib.Core.Bool.{Bool, not}
use mathlib.Core.Logic.{⊎_elim, ∥∥₁_elim, ∥∥₁_map}
use mathlib.Core.HLevel.{Σ_prop_path}
use native.Mathlib.Omega.{arith}
use native.Mathlib.Bridge.{le_prop}
use native.Mathlib.Nat.{ℕ_set, eq-or-lt_of_le, le_refl}
use borrow.Author.Tests.{eqb-true, eqb-false, not-true, not-false}
use lib.Dec.{eqb}
use Rattle.std.specs.Prelude.{Option, None, Some}
use Rattle.sections.specs.First.{first_bad}
use Rattle.sections.proofs.First.{first_each, first_bad_lem}
use Rattle.sections.proofs.Search.{lt_or_ge}
use Rattle.census.specs.Inner.Tree.{link_at, Found, Grown}

module _ (name : ℕ → ℕ) (links : List ℕ) (a : ℕ) where
  -- the way of the name a comes to a record of that name after d children, over no empty link, and to none before
  record Nearest (d : ℕ) : Type 0 where
    filled : (e : ℕ) → e ≤ d → 0 < link_at links a e
    own : name (link_at links a d - 1) ≡ a
    before : (e : ℕ) → e < d → name (link_at links a e - 1) ≡ a → ⊥

  nearest_prop : (d : ℕ) → IsProp (Nearest d)
  nearest_prop d = Prim.hlevel (le_prop, ℕ_set)

  -- that is so of one depth alone
  nearest_once : IsProp ((d : ℕ) × Nearest d)
  nearest_once x y =
      Σ_prop_path
      nearest_prop
      (⊎_elim
      (λ (l : x.0 < y.0). absurd (y.1.before x.0 l x.1.own))
      (λ (l : y.0 ≤ x.0). ⊎_elim (λ (e : y.0 ≡ x.0). sym e) (λ (m : y.0 < x.0). absurd (x.1.before y.0 m y.1.own)) (eq-or-lt_of_le l))
      (lt_or_ge x.0 y.0))

  abbrev other : ℕ → Bool
  other e = not (eqb (name (link_at links a e - 1)) a)

  -- any way to the name passes that record, or ends there
  nearest_of : Found name links a → (d : ℕ) × Nearest d
  nearest_of w = by (first_bad other (suc w.depth)) refl
    where
      by : (r : Option ℕ) → first_bad other (suc w.depth) ≡ r → (d : ℕ) × Nearest d
      by None g = absurd (eqb-false _ a (not-true _ (first_each other (suc w.depth) g w.depth (le_refl (suc w.depth)))) w.own)
      by (Some d) g =
          let h = first_bad_lem other (suc w.depth) d g in (
            d,
            record {
              filled = λ e l. w.filled e (omega (arith, h.within));
              own = eqb-true _ a (not-false _ h.refuses);
              before = λ e l. eqb-false _ a (not-true _ (h.before e l));
            },
          )

  -- so where it is only said that there is a way to the name, there is one
  pub found_told : ∥ Found name links a ∥₁ → Found name links a
  found_told t =
      let x = ∥∥₁_elim t nearest_once nearest_of in
      record { depth = x.0; filled = x.1.filled; own = x.1.own }

-- so what is only said to be a tree is one
pub grown_told : (name : ℕ → ℕ) (u : ℕ) {links : List ℕ} → ∥ Grown name u links ∥₁ → Grown name u links
grown_told name u {links} t =
    record {
      slots = ∥∥₁_elim t (ℕ_set _ _) (λ g. g.slots);
      rows = λ s. ∥∥₁_elim t le_prop (λ g. g.rows s);
      rises = λ s f. ∥∥₁_elim t le_prop (λ g. g.rises s f);
      found = λ j l. found_told name links (name j) (∥∥₁_map t (λ g. g.found j l));
    }
