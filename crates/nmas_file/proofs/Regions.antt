-- A contract's row in one region: none, or one. Assumes nothing.
use Prim.Native.Nat.{ℕ, ◌<◌}
use mathlib.Core.Path.{◌≡◌, refl}
use mathlib.Core.List.{List, append-nil}
use borrow.Author.Tests.{eq-eqb, ne_eqb}
use lib.ListN.{length}
use Rattle.rules.specs.Rules.{factor_of}
use Rattle.records.specs.declared.rows.Entry.{Entry}
use Rattle.records.specs.declared.rows.Contract.{Contract}
use Rattle.totals.specs.Inner.Totals.{entry_of}
use Rattle.totals.specs.declared.entries.Totals.{Totals}
use Rattle.columns.specs.Columns.{InRange}
use Rattle.nmas.specs.Rows.{fields_of, fields_text, row_text, text_of}
use Rattle.nmas.specs.Inner.Cells.{held}
use Rattle.nmas.specs.Inner.Puts.{InTurn}
use Rattle.nmas_file.specs.File.{row_with, region_rows}
use Rattle.nmas_file.specs.Inner.Walks.{Fileable}
use Rattle.nmas_file.specs.declared.Head.{Head}
use Rattle.nmas_file.proofs.Ranges.{row_ranges}

module _ (head : Head) (entry : ℕ → Entry) (own : Totals) (k : Contract) (g : ℕ) where
  pub none_long : factor_of k.factors g ≡ 0 → length (text_of (region_rows head entry (entry_of own) k g)) ≡ 0
  unfolding region_rows text_of
  none_long e = rw (eq-eqb _ _ e) refl

  module _ {room : List ℕ → ℕ → List ℕ → Type 0} {puts : List ℕ → ℕ → List ℕ → List ℕ → ℕ → Type 0} (turn : InTurn room puts) where
    pub region_none : factor_of k.factors g ≡ 0 → {l : List ℕ} {t : ℕ} → puts l t (text_of (region_rows head entry (entry_of own) k g)) l t
    unfolding region_rows text_of
    region_none e {l} {t} = rw (eq-eqb _ _ e) (turn.none l t)

  -- fields are the row's
  module _ (d : factor_of k.factors g ≡ 0 → ⊥) {fields : List ℕ} (e : fields ≡ fields_of (row_with head entry (entry_of own) k g)) where
    pub region_ranges : Fileable head entry k own → g < 5 → (column : ℕ) → column < 17 → InRange column (held fields column)
    region_ranges h l = rw e (row_ranges head entry k own h g l d)

    pub text_one : text_of (region_rows head entry (entry_of own) k g) ≡ fields_text (held fields) 17
    unfolding region_rows text_of row_text
    text_one = rw (ne_eqb _ _ d, append-nil, e)

    module _ {room : List ℕ → ℕ → List ℕ → Type 0} {puts : List ℕ → ℕ → List ℕ → List ℕ → ℕ → Type 0} (turn : InTurn room puts) where
      pub region_room : {l : List ℕ} {t : ℕ} → room l t (text_of (region_rows head entry (entry_of own) k g)) → room l t (fields_text (held fields) 17)
      region_room r = rw text_one at r

      pub region_put : {l b : List ℕ} {t y : ℕ} → puts l t (fields_text (held fields) 17) b y → puts l t (text_of (region_rows head entry (entry_of own) k g)) b y
      region_put w = rw text_one w
