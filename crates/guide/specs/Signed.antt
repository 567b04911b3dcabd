-- The records of a book with their signs, each number read where it stands in the section's bytes. 01, The book, gives each record's fields
-- in order. Beside each field is the symbol of the Settlements Guide (document 000).
use Rattle.std.specs.Prelude.{ℕ, ◌+◌, ◌*◌, List, ℤ, pos, nat_abs}
use Rattle.ground.specs.Bytes.{byte_at, u32_at, i32_at, i64_at, part_from}
use Rattle.book.specs.Header.{header_of, units_from, energies_from, contracts_from}
use Rattle.book.specs.declared.header.Header.{Header}

-- the energies of a region: "total ACE (i32, -20,000,000 to 0), total ASOE (i32, 0 to 20,000,000), residual total (i32, 0 to 20,000,000)".
-- All accounts' are the guide's RATCE, RATSOE and ATE, one account's own are its TCE, TSOE and TE (000, 2.4.1 to 2.4.3).
pub record Energies : Type 0 where
  pub ace : ℤ
  pub asoe : ℤ
  pub residual : ℤ

-- a region entry, 12 bytes
unfoldable pub entry_at : List ℕ → ℕ → Energies
entry_at s g = record { ace = i32_at s (g * 12); asoe = i32_at s (g * 12 + 4); residual = i32_at s (g * 12 + 8) }

-- a constraint, 40 bytes: cost is TLCR, TRCR or TSFCAS, price is P_regulation, usage is U (000, 2.4 and 4)
pub record SignedConstraint : Type 0 where
  pub id : ℕ
  pub service : ℕ
  pub mask : ℕ
  pub mode : ℕ
  pub cost : ℤ
  pub price : ℤ
  pub rcr : ℤ
  pub usage : ℤ
  pub rcf : ℤ
  pub drcf : ℤ

unfoldable pub constraint_at : List ℕ → ℕ → SignedConstraint
constraint_at s i =
    record {
      id = u32_at s (i * 40);
      service = byte_at s (i * 40 + 4);
      mask = byte_at s (i * 40 + 5);
      mode = byte_at s (i * 40 + 6);
      cost = i64_at s (i * 40 + 8);
      price = pos (u32_at s (i * 40 + 16));
      rcr = pos (u32_at s (i * 40 + 20));
      usage = pos (u32_at s (i * 40 + 24));
      rcf = i32_at s (i * 40 + 28);
      drcf = i32_at s (i * 40 + 32);
    }

-- a unit row, 20 bytes, with the unit's CF and DCF
pub record SignedUnit : Type 0 where
  pub constraint : ℕ
  pub unit : ℕ
  pub account : ℕ
  pub cf : ℤ
  pub dcf : ℤ

unfoldable pub unit_at : List ℕ → ℕ → SignedUnit
unit_at s i =
    record {
      constraint = u32_at s (i * 20);
      unit = u32_at s (i * 20 + 4);
      account = u32_at s (i * 20 + 8);
      cf = i32_at s (i * 20 + 12);
      dcf = i32_at s (i * 20 + 16);
    }

-- an energy row, 24 bytes: "The residual pair leaves out points that have a factor."
pub record SignedEnergy : Type 0 where
  pub account : ℕ
  pub region : ℕ
  pub ace : ℤ
  pub asoe : ℤ
  pub rest_ace : ℤ
  pub rest_asoe : ℤ

unfoldable pub energy_at : List ℕ → ℕ → SignedEnergy
energy_at s i =
    record {
      account = u32_at s (i * 24);
      region = byte_at s (i * 24 + 4);
      ace = i32_at s (i * 24 + 8);
      asoe = i32_at s (i * 24 + 12);
      rest_ace = i32_at s (i * 24 + 16);
      rest_asoe = i32_at s (i * 24 + 20);
    }

-- "TE is |residual ACE| + |residual ASOE|". 000, 2.4.3 and 4: TE = |ASOE| + |ACE| of the connection points without a CF
abbrev pub te : SignedEnergy → ℤ
te r = pos (nat_abs r.rest_ace + nat_abs r.rest_asoe)

-- a contract, 36 bytes: "kind u8, 1 ordinary or 2 test"; payment is SRP, the factor of region g is RBF (000, 3.5)
pub record SignedContract : Type 0 where
  pub id : ℕ
  pub kind : ℕ
  pub payment : ℤ
  pub factor : ℕ → ℕ

unfoldable pub contract_at : List ℕ → ℕ → SignedContract
contract_at s i =
    record {
      id = u32_at s (i * 36);
      kind = byte_at s (i * 36 + 4);
      payment = i64_at s (i * 36 + 8);
      factor = λ g. u32_at s (i * 36 + (16 + g * 4));
    }

-- "Sections stand in this order."
pub record SignedBook : Type 0 where
  pub header : Header
  pub entry : ℕ → Energies
  pub constraint : ℕ → SignedConstraint
  pub unit : ℕ → SignedUnit
  pub energy : ℕ → SignedEnergy
  pub contract : ℕ → SignedContract

abbrev pub signed_book : List ℕ → SignedBook
signed_book b =
    let h = header_of b in
    record {
      header = h;
      entry = entry_at (part_from 24 b);
      constraint = constraint_at (part_from 84 b);
      unit = unit_at (part_from (units_from h) b);
      energy = energy_at (part_from (energies_from h) b);
      contract = contract_at (part_from (contracts_from h) b);
    }
