-- Where each record's fields stand: record i of a section, from the section's bytes. 01, The book, gives each record's fields in order.
-- A number that is 0 or below is held by its size. CF is pcf - ncf and RCF is prcf - nrcf, of which one is 0: ncf and nrcf are the sizes of the
-- papers' NCF = min(0, CF) and NRCF = min(0, RCF).
use Rattle.std.specs.Prelude.{ℕ, ◌+◌, ◌*◌, List, [], ◌∷◌}
use Rattle.ground.specs.Bytes.{byte_at, u24_at, u32_at, u64_at}
use Rattle.numbers.specs.Sizes.{size_below, above_of, below_of}
use Rattle.records.specs.declared.rows.Entry.{Entry}
use Rattle.records.specs.declared.rows.Constraint.{Constraint}
use Rattle.records.specs.declared.rows.UnitRow.{UnitRow}
use Rattle.records.specs.declared.rows.EnergyRow.{EnergyRow}
use Rattle.records.specs.declared.rows.Contract.{Contract}

-- "Five region entries, 12 bytes: total ACE, total ASOE, residual total"
unfoldable pub entry_row : List ℕ → ℕ → Entry
entry_row s i =
    record {
      ace = size_below (u32_at s (i * 12));
      asoe = u32_at s (i * 12 + 4);
      residual = u32_at s (i * 12 + 8);
    }

-- "Constraint, 40 bytes: id; service; regions; mode; reserved byte; cost; price; RCR; usage; RCF; DRCF; reserved u32"
unfoldable pub constraint_row : List ℕ → ℕ → Constraint
constraint_row s i =
    record {
      id = u32_at s (i * 40);
      service = byte_at s (i * 40 + 4);
      mask = byte_at s (i * 40 + 5);
      mode = byte_at s (i * 40 + 6);
      spare = byte_at s (i * 40 + 7);
      cost = u64_at s (i * 40 + 8);
      price = u32_at s (i * 40 + 16);
      rcr = u32_at s (i * 40 + 20);
      usage = u32_at s (i * 40 + 24);
      prcf = above_of (u32_at s (i * 40 + 28));
      nrcf = below_of (u32_at s (i * 40 + 28));
      drcf = size_below (u32_at s (i * 40 + 32));
      tail = u32_at s (i * 40 + 36);
    }

-- "Unit row, 20 bytes: constraint id, unit id, account; CF; DCF"
unfoldable pub unit_row : List ℕ → ℕ → UnitRow
unit_row s i =
    record {
      constraint = u32_at s (i * 20);
      unit = u32_at s (i * 20 + 4);
      account = u32_at s (i * 20 + 8);
      pcf = above_of (u32_at s (i * 20 + 12));
      ncf = below_of (u32_at s (i * 20 + 12));
      dcf = size_below (u32_at s (i * 20 + 16));
    }

-- "Energy row, 24 bytes: account; region; three reserved bytes; ACE; ASOE; residual ACE; residual ASOE"
unfoldable pub energy_row : List ℕ → ℕ → EnergyRow
energy_row s i =
    record {
      account = u32_at s (i * 24);
      region = byte_at s (i * 24 + 4);
      spare = u24_at s (i * 24 + 5);
      ace = size_below (u32_at s (i * 24 + 8));
      asoe = u32_at s (i * 24 + 12);
      race = size_below (u32_at s (i * 24 + 16));
      rasoe = u32_at s (i * 24 + 20);
    }

-- "Contract, 36 bytes: id; kind; three reserved bytes; payment; five regional benefit factors"
unfoldable pub contract_row : List ℕ → ℕ → Contract
contract_row s i =
    record {
      id = u32_at s (i * 36);
      kind = byte_at s (i * 36 + 4);
      spare = u24_at s (i * 36 + 5);
      payment = u64_at s (i * 36 + 8);
      factors =
          u32_at s (i * 36 + 16)
          ∷ u32_at s (i * 36 + 20)
          ∷ u32_at s (i * 36 + 24)
          ∷ u32_at s (i * 36 + 28)
          ∷ u32_at s (i * 36 + 32)
          ∷ [];
    }
