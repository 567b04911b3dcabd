-- The amounts and energies of a row that was read are small: its fields are in their ranges. Assumes nothing.
use Prim.Native.Nat.{ℕ, zero, suc}
use mathlib.Core.Path.{subst, sym}
use mathlib.Core.List.{List, [], ◌∷◌}
use native.Mathlib.Omega.{arith}
use Rattle.ground.specs.Nth.{nth}
use Rattle.ground.specs.Inner.Each.{Each}
use Rattle.nmas.specs.Rows.{RowFine}
use Rattle.nmas.specs.declared.Row.{Row}
use Rattle.nmas_reading.specs.Reading.{TextRead, all, part, row_read, numbered_row, RowOf}
use Rattle.nmas_reading.specs.Inner.Sized.{Sized, RowSized}
use Rattle.std.specs.Prelude.{Result}
use Rattle.sections.specs.declared.Refusal.{Refusal}

sized : (r : Row) → RowFine r → Sized r
sized r f =
    let in_range = f.ranges in
    record {
      recovery = omega (arith, (in_range 10 (omega arith)).1);
      own_ace = omega (arith, (in_range 11 (omega arith)).1);
      region_ace = omega (arith, (in_range 12 (omega arith)).1);
      own_asoe = omega (arith, (in_range 13 (omega arith)).1);
      region_asoe = omega (arith, (in_range 14 (omega arith)).1);
      by_ace = omega (arith, (in_range 15 (omega arith)).1);
      by_asoe = omega (arith, (in_range 16 (omega arith)).1);
    }

numbered_sized : (rs : List Row) → Each RowFine rs → (index : ℕ) → RowSized (numbered_row (nth rs index))
unfolding nth numbered_row RowSized
numbered_sized [] f index = tt
numbered_sized (r ∷ rs) f zero = sized r f.0
numbered_sized (r ∷ rs) f (suc index) = numbered_sized rs f.1 index

read_sized : {s : List ℕ} (t : TextRead s) (index : ℕ) → RowSized (row_read t index)
unfolding row_read RowSized
read_sized (all rs t) index = numbered_sized rs t.fine index
read_sized (part rs t) index = tt

pub row_sized : {s : List ℕ} {index : ℕ} {r : Result Row Refusal} → RowOf s index r → RowSized r
row_sized {s} {index} c = subst RowSized (sym c.answer) (read_sized c.reading index)
