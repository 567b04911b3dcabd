-- Energy by its kind, and check 9. 01, Refusals, 9: "a region entry differs from its rows' sums".
use Rattle.std.specs.Prelude.{ℕ, ◌+◌, Bool, List, [], ◌∷◌, eqb}
use Rattle.ground.specs.Every.{all_of}
use Rattle.sections.specs.Total.{total_of}
use Rattle.market.specs.Kinds.{picked}
use Rattle.market.specs.declared.Basis.{Basis}
use Rattle.market.specs.declared.Basis.TheVariants.{Ace, Asoe, Residual}
use Rattle.records.specs.declared.rows.Entry.{Entry}
use Rattle.records.specs.declared.rows.EnergyRow.{EnergyRow}

-- ---- energy by its kind

-- a region entry's: "total ACE, total ASOE, residual total"
abbrev pub entry_by : Basis → Entry → ℕ
entry_by b e = picked b e.ace e.asoe e.residual

-- an energy row's: "|residual ACE| + |residual ASOE|" is its residual energy
abbrev pub row_by : Basis → EnergyRow → ℕ
row_by b r = picked b r.ace r.asoe (r.race + r.rasoe)

-- a number of each kind, put as a region's entry is
abbrev pub entry_with : (Basis → ℕ) → Entry
entry_with number = record { ace = number Ace; asoe = number Asoe; residual = number Residual }

-- ---- check 9

-- a row's region, and what it counts for in its region's totals
abbrev pub region_of : (ℕ → EnergyRow) → ℕ → ℕ
region_of energy i = (energy i).region

abbrev pub energy_of : Basis → (ℕ → EnergyRow) → ℕ → ℕ
energy_of b energy i = row_by b (energy i)

-- the sum over those of the n energy rows that are in region g
abbrev pub sum_in : (ℕ → EnergyRow) → ℕ → ℕ → Basis → ℕ
sum_in energy n g b = total_of (region_of energy) g (energy_of b energy) n

abbrev pub sum_tests : Entry → (Basis → ℕ) → List Bool
sum_tests e sum = eqb e.ace (sum Ace) ∷ eqb e.asoe (sum Asoe) ∷ eqb e.residual (sum Residual) ∷ []

abbrev pub entry_is : Entry → (Basis → ℕ) → Bool
entry_is e sum = all_of (sum_tests e sum)

-- entry g has its rows' sums, of each kind
unfoldable pub entry_has_sums : (ℕ → EnergyRow) → ℕ → (ℕ → Entry) → ℕ → Bool
entry_has_sums energy n entry g = entry_is (entry g) (sum_in energy n g)
