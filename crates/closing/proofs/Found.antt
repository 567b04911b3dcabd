-- A pool that a number finds is one of some constraint's, or some contract's: what holds of all of these holds of it. Assumes nothing.
use Prim.Native.Nat.{ℕ, zero, suc, ◌<◌}
use mathlib.Core.Path.{◌≡◌, refl}
use mathlib.Core.Bool.{Bool, true, false, cond}
use mathlib.Core.List.{[], List, ◌∷◌, ◌++◌}
use native.Mathlib.Omega.{arith}
use native.Mathlib.Nat.{le_refl}
use borrow.Author.Tests.{eqb-true, eqb-false}
use lib.Dec.{eqb}
use Rattle.sections.proofs.Cases.{zero_one}
use Rattle.records.specs.declared.rows.Constraint.{Constraint}
use Rattle.accounts.specs.Rows.{joined}
use Rattle.accounts.specs.Account.{public_of}
use Rattle.accounts.proofs.Lists.{joined_rows}
use Rattle.book.specs.Book.{Book}
use Rattle.recovery.specs.declared.kinds.Kind.{Kind}
use Rattle.recovery.specs.declared.kinds.Kind.TheVariants.{Contingency, Fpp, Used, Unused}
use Rattle.balance.specs.Pools.{Pool, constraint_pool, constraint_pools, contract_pool, pools_in, past, found, pool_at}
use Rattle.balance.specs.Inner.Shapes.{belongs}

-- every pool that a number finds in the list has Q
abbrev pub Each : (Pool → Type 0) → List Pool → Type 0
Each Q ls = (number : ℕ) (p : Pool) → pool_at ls number ≡ found p → Q p

-- what is past the end is not found
past_found : (p : Pool) → past ≡ found p → ⊥
past_found p e = zero_one cc

module _ (Q : Pool → Type 0) where
  -- no pool
  each_none : Each Q []
  unfolding pool_at
  each_none number p e = absurd (past_found p e)

  -- one more
  each_more : (p : Pool) (ls : List Pool) → Q p → Each Q ls → Each Q (p ∷ ls)
  unfolding pool_at
  each_more p ls h k zero q e = let s : p ≡ q = cc in rw (← s) h
  each_more p ls h k (suc number) q e = k number q e

  -- two lists
  each_append : (xs ys : List Pool) → Each Q xs → Each Q ys → Each Q (xs ++ ys)
  unfolding pool_at
  each_append [] ys h k number p e = k number p e
  each_append (x ∷ xs) ys h k zero p e = h zero p e
  each_append (x ∷ xs) ys h k (suc number) p e = each_append xs ys (λ m q d. h (suc m) q d) k number p e

  -- lists one behind the other
  each_joined : (f : ℕ → List Pool) (n : ℕ) → ((i : ℕ) → i < n → Each Q (f i)) → Each Q (joined f n)
  unfolding joined
  each_joined f zero h = each_none
  each_joined f (suc n) h = each_append (joined f n) (f n) (each_joined f n (λ i l. h i (omega arith))) (h n (le_refl (suc n)))

  -- the pools of a constraint, by its mode
  module _ (r : Constraint) (plain : r.mode ≡ 0 → Q (constraint_pool r Contingency)) (shared : (r.mode ≡ 0 → ⊥) → (kind : Kind) → belongs r kind ≡ true → Q (constraint_pool r kind)) where
    -- one for contingency, three or one for regulation
    each_constraint : Each Q (constraint_pools r)
    unfolding constraint_pools belongs
    each_constraint = by (eqb r.mode 0) refl (eqb r.mode 1) refl
      where
        by : (x : Bool) → eqb r.mode 0 ≡ x → (y : Bool) → eqb r.mode 1 ≡ y
            → Each Q (cond x (constraint_pool r Contingency ∷ []) (cond y (constraint_pool r Fpp ∷ constraint_pool r Used ∷ constraint_pool r Unused ∷ []) (constraint_pool r Unused ∷ [])))
        by true e y f = each_more _ [] (plain (eqb-true r.mode 0 e)) each_none
        by false e true f =
            let h = shared (eqb-false r.mode 0 e) in
            each_more _ _ (h Fpp f) (each_more _ _ (h Used f) (each_more _ [] (h Unused (rw e)) each_none))
        by false e false f = each_more _ [] (shared (eqb-false r.mode 0 e) Unused (rw e)) each_none

  -- the pools of a book
  pub each_pool : (B : Book) → ((j : ℕ) → j < B.header.constraints → (B.constraint j).mode ≡ 0 → Q (constraint_pool (B.constraint j) Contingency))
      → ((j : ℕ) → j < B.header.constraints → ((B.constraint j).mode ≡ 0 → ⊥) → (kind : Kind) → belongs (B.constraint j) kind ≡ true → Q (constraint_pool (B.constraint j) kind))
      → ((i : ℕ) → i < B.header.contracts → Q (contract_pool (B.contract i))) → Each Q (pools_in (public_of B))
  unfolding pools_in public_of
  each_pool B plain shared k =
      rw (← joined_rows B.constraint constraint_pools B.header.constraints, ← joined_rows B.contract (λ c. contract_pool c ∷ []) B.header.contracts)
      (each_append _ _ (each_joined _ _ (λ j l. each_constraint (B.constraint j) (plain j l) (shared j l))) (each_joined _ _ (λ i l. each_more _ [] (k i l) each_none)))
