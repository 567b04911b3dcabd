-- When bytes are a statement, and what it says. 01, The statement: "A statement is read exactly when its mark and version are right, its header
-- fields in range, it has 0 to 2,152 lines, its length is 24 + 24 x lines, reserved bytes are 0, account and ids are from 1, parts are 1 to 10,
-- regions 1 to 31 (one bit for parts 9 and 10), unit non-zero exactly in parts 3 to 5, amounts within 50,000,000,000 either way and not positive
-- outside parts 3 and 6. Line order isn't judged."
use Rattle.std.specs.Prelude.{ℕ, zero, suc, ◌+◌, ◌*◌, List, [], ◌∷◌, ◌++◌, Bool, cond, ◌&&◌, ◌||◌, eqb, leb, ℤ, nat_abs, length}
use Rattle.ground.specs.Bytes.{byte_at, u16_at, u32_at, i64_at}
use Rattle.ground.specs.Every.{all_of}
use Rattle.numbers.specs.Sign.{negative}
use Rattle.ground.specs.Units.{money_limit, most_lines}
use Rattle.calendar.specs.Calendar.{is_period}
use Rattle.sections.specs.Search.{all}
use Rattle.statement.specs.declared.Heading.{Heading}
use Rattle.statement.specs.declared.Line.{Line}

-- ---- the header

-- "RCS; reserved byte; 16-bit version 1; .. reserved u32"
abbrev pub mark_tests : List ℕ → List Bool
mark_tests s =
    eqb (byte_at s 0) 82
    ∷ eqb (byte_at s 1) 67
    ∷ eqb (byte_at s 2) 83
    ∷ eqb (byte_at s 3) 0
    ∷ eqb (u16_at s 4) 1
    ∷ eqb (u32_at s 20) 0
    ∷ []

abbrev pub statement_marked : List ℕ → Bool
statement_marked s = all_of (mark_tests s)

-- "interval, date and run as in the book; line count u16; account u32"
unfoldable pub heading_at : List ℕ → Heading
heading_at s = record { account = u32_at s 16; date = u32_at s 8; interval = u16_at s 6; run = u16_at s 12; lines = u16_at s 14 }

-- "its header fields in range, it has 0 to 2,152 lines, .. account .. from 1"
abbrev pub heading_ok : Heading → Bool
heading_ok h = is_period h.interval h.date h.run && leb h.lines most_lines && leb 1 h.account

-- ---- a line

-- where line i stands
abbrev pub line_from : ℕ → ℕ
line_from i = 24 + i * 24

-- "id u32; part u8; regions u8; reserved u16; unit u32; reserved u32; amount i64"
unfoldable pub line_at : List ℕ → ℕ → Line
line_at s i =
    record {
      id = u32_at s (line_from i);
      part = byte_at s (line_from i + 4);
      regions = byte_at s (line_from i + 5);
      unit = u32_at s (line_from i + 8);
      amount = i64_at s (line_from i + 16);
    }

-- the first n lines, "in their order"
unfoldable pub lines_in : List ℕ → ℕ → List Line
lines_in s zero = []
lines_in s (suc n) = lines_in s n ++ (line_at s n ∷ [])

-- "reserved bytes are 0"
abbrev pub spare_clear : List ℕ → ℕ → Bool
spare_clear s i = eqb (u16_at s (line_from i + 6)) 0 && eqb (u32_at s (line_from i + 12)) 0

-- "regions 1 to 31 (one bit for parts 9 and 10)"
abbrev pub one_bit : ℕ → Bool
one_bit m = eqb m 1 || eqb m 2 || eqb m 4 || eqb m 8 || eqb m 16

abbrev pub regions_ok : ℕ → ℕ → Bool
regions_ok part m = leb 1 m && leb m 31 && (leb part 8 || one_bit m)

-- "unit non-zero exactly in parts 3 to 5"
abbrev pub unit_field_ok : ℕ → ℕ → Bool
unit_field_ok part unit = cond (leb 3 part && leb part 5) (leb 1 unit) (eqb unit 0)

-- "amounts within 50,000,000,000 either way and not positive outside parts 3 and 6"
abbrev pub amount_ok : ℕ → ℤ → Bool
amount_ok part z = leb (nat_abs z) money_limit && (eqb part 3 || eqb part 6 || eqb (nat_abs z) 0 || negative z)

-- "ids are from 1, parts are 1 to 10"
abbrev pub line_ok : Line → Bool
line_ok l =
    leb 1 l.id && leb 1 l.part && leb l.part 10
    && regions_ok l.part l.regions && unit_field_ok l.part l.unit && amount_ok l.part l.amount

unfoldable pub line_holds : List ℕ → ℕ → Bool
line_holds s i = spare_clear s i && line_ok (line_at s i)

-- ---- the whole

-- "its length is 24 + 24 x lines"
unfoldable pub headed : List ℕ → Bool
headed s = statement_marked s && heading_ok (heading_at s) && eqb (length s) (24 + (heading_at s).lines * 24)

unfoldable pub is_statement : List ℕ → Bool
is_statement s = leb 24 (length s) && headed s && all (line_holds s) (heading_at s).lines
