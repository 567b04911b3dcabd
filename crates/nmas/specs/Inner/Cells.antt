-- A row as an array of its fields, and some of its fields.
use Rattle.std.specs.Prelude.{ℕ, zero, suc, ◌+◌, List, [], ◌++◌, get_or}
use Rattle.columns.specs.Columns.{cell_text}
use Rattle.nmas.specs.declared.Row.{Row}

-- what an array holds for a column
abbrev pub held : List ℕ → ℕ → ℕ
held cells column = get_or cells column 0

-- the n fields from a column on, one behind the other, each with the byte behind it
unfoldable pub fields_run : (ℕ → ℕ) → ℕ → ℕ → List ℕ
fields_run field from zero = []
fields_run field from (suc n) = fields_run field from n ++ cell_text (from + n) (field (from + n))

-- the row that it holds
abbrev pub row_in : List ℕ → Row
row_in cells =
    record {
      date = held cells 0;
      run = held cells 1;
      interval = held cells 2;
      account = held cells 3;
      contract = held cells 5;
      payment_type = held cells 6;
      region = held cells 7;
      factor = held cells 8;
      payment = held cells 9;
      recovery = held cells 10;
      own_ace = held cells 11;
      region_ace = held cells 12;
      own_asoe = held cells 13;
      region_asoe = held cells 14;
      by_ace = held cells 15;
      by_asoe = held cells 16;
    }
