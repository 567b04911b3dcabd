-- What each check's function answers is the check of the table. Sections come as bytes that equal the book's from where they start.
-- Assumes nothing.
use Prim.Native.Nat.{ℕ}
use mathlib.Core.List.{List}
use mathlib.Core.Path.{◌≡◌, ◌∙◌}
use Rattle.ground.specs.Bytes.{part_from}
use Rattle.sections.specs.First.{first_bad}
use Rattle.sections.specs.Inner.Order.{Keeps, PairsRise}
use Rattle.sections.specs.Refusal.{at_record, earlier, first_of, Verdict}
use Rattle.std.specs.Prelude.{Option}
use Rattle.sections.proofs.Verdicts.{earlier_last}
use Rattle.records.specs.Rows.{entry_row, constraint_row, unit_row, energy_row, contract_row}
use Rattle.factors.specs.Naming.{named_at}
use Rattle.factors.specs.Factors.{factors_at}
use Rattle.totals.specs.Sums.{entry_has_sums}
use Rattle.totals.specs.Divisors.{constraint_divides, contract_divides}
use Rattle.book.specs.declared.header.Header.{Header}
use Rattle.book.specs.Header.{units_from, energies_from, contracts_from}
use Rattle.locking.specs.Locking.{settled_by, pick}
use Rattle.book.specs.Book.{book_in, book_of}
use Rattle.book.specs.Table.{check7, check8, check9, check10}

module _ (b : List ℕ) (h : Header) where
  pub check7_is : {cons units : List ℕ} {u : ℕ} {found : Option ℕ} {v : Verdict} → cons ≡ part_from 84 b → units ≡ part_from (units_from h) b → u ≡ units_from h → found ≡ first_bad (named_at (constraint_row cons) h.constraints (unit_row units)) h.units → v ≡ at_record 7 u 20 found → v ≡ check7 (book_in b h)
  unfolding check7
  check7_is a d e f g = g ∙ rw (f, e, a, d)

  pub check8_is : {cons units : List ℕ} {found : Option ℕ} {v : Verdict} → cons ≡ part_from 84 b → units ≡ part_from (units_from h) b → found ≡ first_bad (factors_at (unit_row units) h.units (constraint_row cons)) h.constraints → v ≡ at_record 8 84 40 found → v ≡ check8 (book_in b h)
  unfolding check8
  check8_is a d f g = g ∙ rw (f, a, d)

  pub check9_is : {regions energy : List ℕ} {found : Option ℕ} {v : Verdict} → regions ≡ part_from 24 b → energy ≡ part_from (energies_from h) b → found ≡ first_bad (entry_has_sums (energy_row energy) h.energies (entry_row regions)) 5 → v ≡ at_record 9 24 12 found → v ≡ check9 (book_in b h)
  unfolding check9
  check9_is a d f g = g ∙ rw (f, a, d)

  pub check10_is : (l : List ℕ) {regions cons contracts : List ℕ} {k : ℕ} {shared paid : Option ℕ} {v₁ v₂ v : Verdict} → regions ≡ part_from 24 b → cons ≡ part_from 84 b → contracts ≡ part_from (contracts_from h) b → k ≡ contracts_from h → shared ≡ first_bad (constraint_divides (entry_row regions) (constraint_row cons)) h.constraints → paid ≡ first_bad (λ i. contract_divides (pick (settled_by (contract_row contracts i)) (entry_row (part_from 24 b)) (entry_row (part_from 24 l))) (contract_row contracts) i) h.contracts → v₁ ≡ at_record 10 84 40 shared → v₂ ≡ at_record 10 k 36 paid → v ≡ earlier v₁ v₂ → v ≡ check10 (book_in b h) (book_of l)
  unfolding check10 first_of
  check10_is l {v₂ = v₂} x y z e p q r s a = a ∙ rw (← earlier_last v₂, r, s, p, q, e, x, y, z)

-- rows whose pairs rise keep the order of their first numbers
pub keeps_first : {a x : ℕ → ℕ} {n : ℕ} → PairsRise a x n → Keeps a n
keeps_first p = record { keep = p.first }
