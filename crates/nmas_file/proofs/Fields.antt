-- The array of a row's fields, from what was read and what was made: e is the region's entry, x the halves of the payment's part. Assumes nothing.
use Prim.Native.Nat.{ℕ, ◌+◌, ◌^◌, ◌<◌}
use mathlib.Core.Path.{◌≡◌}
use mathlib.Core.List.{[], ◌∷◌}
use native.Mathlib.Omega.{arith}
use lib.IntN.{nat_abs}
use Rattle.rules.specs.Rules.{factor_of}
use Rattle.records.specs.declared.rows.Entry.{Entry}
use Rattle.records.specs.declared.rows.Contract.{Contract}
use Rattle.totals.specs.Inner.Totals.{entry_of}
use Rattle.totals.specs.declared.entries.Totals.{Totals}
use Rattle.amounts.specs.Pools.{halves_of}
use Rattle.amounts.specs.declared.pools.Halves.{Halves}
use Rattle.lines.specs.Lines.{ace_line, asoe_line}
use Rattle.nmas.specs.Rows.{fields_of}
use Rattle.nmas_file.specs.File.{size_by_ace, size_by_asoe, row_with}
use Rattle.nmas_file.specs.Inner.Walks.{Fileable}
use Rattle.nmas_file.specs.declared.Head.{Head}
use Rattle.nmas_file.proofs.Ranges.{ace_small, asoe_small}

module _ (head : Head) (entry : ℕ → Entry) (own : Totals) (k : Contract) (g : ℕ) {e : Entry} {x : Halves} {a s : ℕ} (p : e ≡ entry g) (q : x ≡ halves_of k.payment (factor_of k.factors g)) (i : a ≡ nat_abs (ace_line k.id g x (entry_of own g).ace e.ace).amount) (j : s ≡ nat_abs (asoe_line k.id g x (entry_of own g).asoe e.asoe).amount) where
  by_ace_lem : a ≡ size_by_ace entry (entry_of own) k g
  by_ace_lem = rw (q, p) at i

  by_asoe_lem : s ≡ size_by_asoe entry (entry_of own) k g
  by_asoe_lem = rw (q, p) at j

  pub sum_small : Fileable head entry k own → g < 5 → (factor_of k.factors g ≡ 0 → ⊥) → a + s < 2 ^ 64
  sum_small h l d = omega (arith, by_ace_lem, by_asoe_lem, ace_small head entry k own h g l d, asoe_small head entry k own h g l d)

  pub fields_are : (head.date ∷ head.run ∷ head.interval ∷ head.account ∷ 0 ∷ k.id ∷ head.payment_type ∷ g ∷ factor_of k.factors g ∷ k.payment ∷ (a + s) ∷ (entry_of own g).ace ∷ e.ace ∷ (entry_of own g).asoe ∷ e.asoe ∷ a ∷ s ∷ []) ≡ fields_of (row_with head entry (entry_of own) k g)
  fields_are = rw (by_ace_lem, by_asoe_lem, p)
