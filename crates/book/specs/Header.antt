-- The header of a book and where its sections start. 01, The book: "Header, 24 bytes", "Five region entries, 12 bytes", "Sections stand in
-- this order": constraints of 40 bytes, unit rows of 20, energy rows of 24, contracts of 36.
use Rattle.std.specs.Prelude.{ℕ, ◌+◌, ◌*◌, List, [], ◌∷◌, Bool, eqb, leb}
use Rattle.ground.specs.Bytes.{byte_at, u16_at, u32_at}
use Rattle.ground.specs.Every.{all_of}
use Rattle.calendar.specs.Calendar.{is_period}
use Rattle.book.specs.declared.header.Header.{Header}

-- "the three letters RCB; reserved byte; 16-bit version 1; .. reserved u16"
abbrev pub book_marked : List ℕ → Bool
book_marked b =
    all_of (eqb (byte_at b 0) 82
    ∷ eqb (byte_at b 1) 67
    ∷ eqb (byte_at b 2) 66
    ∷ eqb (byte_at b 3) 0
    ∷ eqb (u16_at b 4) 1
    ∷ eqb (u16_at b 22) 0
    ∷ [])

-- "interval u16; date u32; run u16; counts u16 of constraints, unit rows, energy rows, contracts"
unfoldable pub header_of : List ℕ → Header
header_of b =
    record {
      interval = u16_at b 6;
      date = u32_at b 8;
      run = u16_at b 12;
      constraints = u16_at b 14;
      units = u16_at b 16;
      energies = u16_at b 18;
      contracts = u16_at b 20;
    }

-- "counts of constraints (0 to 64), unit rows (0 to 600), energy rows (0 to 1,024), contracts (0 to 16)"
abbrev pub range_tests : Header → List Bool
range_tests h =
    is_period h.interval h.date h.run
    ∷ leb h.constraints 64
    ∷ leb h.units 600
    ∷ leb h.energies 1024
    ∷ leb h.contracts 16
    ∷ []

abbrev pub in_range : Header → Bool
in_range h = all_of (range_tests h)

-- where the unit rows, the energy rows and the contracts start, and where the book ends
abbrev pub units_from : Header → ℕ
units_from h = 84 + h.constraints * 40

abbrev pub energies_from : Header → ℕ
energies_from h = 84 + h.constraints * 40 + h.units * 20

abbrev pub contracts_from : Header → ℕ
contracts_from h = 84 + h.constraints * 40 + h.units * 20 + h.energies * 24

abbrev pub whole_length : Header → ℕ
whole_length h = 84 + h.constraints * 40 + h.units * 20 + h.energies * 24 + h.contracts * 36
