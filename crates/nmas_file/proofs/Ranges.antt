-- Each field of a row is in its column's range. Assumes nothing.
use Prim.Native.Nat.{ℕ, zero, suc, ◌≤◌, ◌<◌}
use mathlib.Core.Path.{◌≡◌, refl}
use mathlib.Core.List.{List, [], ◌∷◌}
use native.Mathlib.Omega.{arith}
use native.Mathlib.Nat.{le_of_suc-le-suc, not-suc-le-zero}
use lib.ListN.{length, get_or}
use Rattle.rules.specs.Rules.{factor_of}
use Rattle.records.specs.declared.rows.Entry.{Entry}
use Rattle.records.specs.declared.rows.Contract.{Contract}
use Rattle.totals.specs.Inner.Totals.{entry_of}
use Rattle.totals.specs.declared.entries.Totals.{Totals}
use Rattle.amounts.proofs.Sizes.{halves_small}
use Rattle.lines.proofs.Limit.{halves_within}
use Rattle.columns.specs.Columns.{number_form, columns, InRange}
use Rattle.columns.specs.declared.Form.{Form}
use Rattle.nmas.specs.Rows.{fields_of, field_of, RowFine}
use Rattle.nmas_file.specs.File.{size_by_ace, size_by_asoe, row_with}
use Rattle.nmas_file.specs.Inner.Walks.{Fileable}
use Rattle.nmas_file.specs.declared.Head.{Head}

-- fields in the ranges of columns, one by one
abbrev AllIn : List Form → List ℕ → Type 0
AllIn [] xs = Unit
AllIn (f ∷ fs) [] = ⊥
AllIn (f ∷ fs) (x ∷ xs) = ((f.least ≤ x) × (x ≤ f.most)) × AllIn fs xs

all_at : (fs : List Form) (xs : List ℕ) → AllIn fs xs → (d : Form) (i : ℕ) → i < length fs → ((get_or fs i d).least ≤ get_or xs i 0) × (get_or xs i 0 ≤ (get_or fs i d).most)
all_at [] xs h d i l = absurd (not-suc-le-zero l)
all_at (f ∷ fs) [] h d i l = absurd h
all_at (f ∷ fs) (x ∷ xs) h d zero l = h.0
all_at (f ∷ fs) (x ∷ xs) h d (suc i) l = all_at fs xs h.1 d i (le_of_suc-le-suc l)

module _ (head : Head) (entry : ℕ → Entry) (k : Contract) (own : Totals) (h : Fileable head entry k own) (g : ℕ) (l : g < 5) (d : factor_of k.factors g ≡ 0 → ⊥) where
  -- no amount passes 50,000,000,000: each is a rounded part of a half of the payment
  pub ace_small : size_by_ace entry (entry_of own) k g ≤ 50_000_000_000
  ace_small = (halves_within k.id g _ (halves_small _ _ h.settles.rule.payment (h.settles.rule.factor g l)) (h.settles.ace g l d) (h.settles.asoe g l d)).0.small

  pub asoe_small : size_by_asoe entry (entry_of own) k g ≤ 50_000_000_000
  asoe_small = (halves_within k.id g _ (halves_small _ _ h.settles.rule.payment (h.settles.rule.factor g l)) (h.settles.ace g l d) (h.settles.asoe g l d)).1.0.small

  all_in : AllIn columns (fields_of (row_with head entry (entry_of own) k g))
  all_in = (
    (omega arith, h.header.date),
    (
      (h.header.run_low, h.header.run_high),
      (
        (h.header.interval_low, h.header.interval_high),
        (
          (h.header.account_low, h.header.account_high),
          (
            (omega arith, omega arith),
            (
              (h.settles.rule.id, h.narrow),
              (
                (omega arith, h.header.payment_type),
                (
                  (omega arith, omega (arith, l)),
                  (
                    (omega (arith, d), h.settles.rule.factor g l),
                    (
                      (omega arith, h.settles.rule.payment),
                      (
                        (omega arith, omega (arith, ace_small, asoe_small)),
                        (
                          (omega arith, omega (arith, (h.settles.ace g l d).part, (h.entries g l).ace)),
                          (
                            (omega arith, (h.entries g l).ace),
                            (
                              (omega arith, omega (arith, (h.settles.asoe g l d).part, (h.entries g l).asoe)),
                              (
                                (omega arith, (h.entries g l).asoe),
                                (
                                  (omega arith, ace_small),
                                  ((omega arith, asoe_small), tt),
                                ),
                              ),
                            ),
                          ),
                        ),
                      ),
                    ),
                  ),
                ),
              ),
            ),
          ),
        ),
      ),
    ),
  )

  pub row_ranges : (column : ℕ) → column < 17 → InRange column (field_of (row_with head entry (entry_of own) k g) column)
  row_ranges column r = all_at columns (fields_of (row_with head entry (entry_of own) k g)) all_in (number_form 0 0 0) column r

  -- the row is one that the reader takes
  pub row_fine : RowFine (row_with head entry (entry_of own) k g)
  row_fine = record { ranges = row_ranges; date = h.header.real; sum = refl }
