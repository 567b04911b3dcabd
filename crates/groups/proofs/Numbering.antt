-- Lines that belong together: how many they are, and each by its number. Assumes nothing.
use Prim.Native.Nat.{ℕ, ◌<◌}
use mathlib.Core.Path.{◌≡◌, refl}
use mathlib.Core.Bool.{Bool, true, false, cond}
use mathlib.Core.List.{List, [], ◌∷◌}
use borrow.Author.Tests.{eq-eqb, ne_eqb}
use lib.Dec.{eqb}
use lib.ListN.{length}
use native.Mathlib.Omega.{arith}
use Rattle.ground.specs.Nth.{found, nth}
use Rattle.rules.specs.Rules.{factor_of}
use Rattle.records.specs.declared.rows.Entry.{Entry}
use Rattle.records.specs.declared.rows.Constraint.{Constraint}
use Rattle.records.specs.declared.rows.UnitRow.{UnitRow}
use Rattle.records.specs.declared.rows.Contract.{Contract}
use Rattle.amounts.specs.Pools.{halves_of}
use Rattle.amounts.specs.declared.pools.Halves.{Halves}
use Rattle.amounts.specs.declared.pools.Pools.{Pools}
use Rattle.amounts.specs.declared.pools.Residual.{Residual}
use Rattle.statement.specs.declared.Line.{Line}
use Rattle.lines.specs.Lines.{unit_lines, rest_lines, region_lines, ace_line, asoe_line}
use Rattle.groups.specs.Inner.Each.{each_of, region_each}

-- whichever of two lists is taken, so long it is
pub choice_length : {A : Type 0} (t : Bool) (xs ys : List A) → length (cond t xs ys) ≡ cond t (length xs) (length ys)
choice_length true xs ys = refl
choice_length false xs ys = refl

-- ---- how many

pub unit_length : (r : Constraint) (p : Pools) (q : UnitRow) → length (unit_lines r p q) ≡ each_of r
unfolding unit_lines each_of
unit_length r p q = choice_length (eqb r.mode 1) _ _

pub rest_length : (r : Constraint) (x : Residual) (o t : ℕ) → length (rest_lines r x o t) ≡ each_of r
unfolding rest_lines each_of
rest_length r x o t = choice_length (eqb r.mode 1) _ _

-- and of mode 0 there is one
pub single : (r : Constraint) → r.mode ≡ 0 → 1 ≡ each_of r
unfolding each_of
single r z = rw (ne_eqb r.mode 1 (λ (q : r.mode ≡ 1). omega arith))

pub region_length : (entry own : ℕ → Entry) (k : Contract) (g : ℕ) → length (region_lines entry own k g) ≡ region_each (factor_of k.factors g)
unfolding region_lines
region_length entry own k g = choice_length (eqb (factor_of k.factors g) 0) _ _

-- ---- three lines or one, by the mode; the line of number i

module _ (mode : ℕ) (a b c : Line) (i : ℕ) where
  abbrev pub Three : List Line
  Three = cond (eqb mode 1) (a ∷ b ∷ c ∷ []) (c ∷ [])

  module _ (l : i < length Three) where
    pub only : {x : Line} → (mode ≡ 1 → ⊥) → x ≡ c → nth Three i ≡ found x
    unfolding nth
    only d e =
        let n = ne_eqb mode 1 d in
        let z : i ≡ 0 = omega (arith, rw n at l) in
        rw (n, z, e)

    pub first : {x : Line} → mode ≡ 1 → i ≡ 0 → x ≡ a → nth Three i ≡ found x
    unfolding nth
    first m z e = rw (eq-eqb mode 1 m, z, e)

    pub second : {x : Line} → mode ≡ 1 → i ≡ 1 → x ≡ b → nth Three i ≡ found x
    unfolding nth
    second m z e = rw (eq-eqb mode 1 m, z, e)

    pub third : {x : Line} → mode ≡ 1 → (i ≡ 0 → ⊥) → (i ≡ 1 → ⊥) → x ≡ c → nth Three i ≡ found x
    unfolding nth
    third m d f e =
        let n = eq-eqb mode 1 m in
        let z : i ≡ 2 = omega (arith, rw n at l) in
        rw (n, z, e)

-- ---- a contract in a region

module _ (entry own : ℕ → Entry) (k : Contract) (g i : ℕ) (l : i < length (region_lines entry own k g)) where
  -- it benefits, or it had no line
  pub benefits : factor_of k.factors g ≡ 0 → ⊥
  unfolding region_lines
  benefits z = absurd (none (rw (eq-eqb _ _ z) at l))
    where
      none : i < 0 → ⊥
      none h = omega arith

  module _ {x : Halves} {e : Entry} (p : x ≡ halves_of k.payment (factor_of k.factors g)) (q : e ≡ entry g) where
    pub by_ace_lem : {a : Line} → i ≡ 0 → a ≡ ace_line k.id g x (own g).ace e.ace → nth (region_lines entry own k g) i ≡ found a
    unfolding region_lines nth
    by_ace_lem z r = rw (ne_eqb _ _ benefits, z) (rw (r, p, q))

    pub by_asoe_lem : {a : Line} → (i ≡ 0 → ⊥) → a ≡ asoe_line k.id g x (own g).asoe e.asoe → nth (region_lines entry own k g) i ≡ found a
    unfolding region_lines nth
    by_asoe_lem d r =
        let n = ne_eqb _ _ benefits in
        let z : i ≡ 1 = omega (arith, rw n at l) in
        rw (n, z) (rw (r, p, q))
