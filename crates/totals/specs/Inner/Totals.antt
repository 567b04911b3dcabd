-- Energies by region, all accounts' or one's, put as a region's entry is: ACE, ASOE and residual energy, by their sizes.
use Rattle.std.specs.Prelude.{ℕ, ◌≡◌, List, get_or, length}
use Rattle.market.specs.declared.Basis.{Basis}
use Rattle.market.specs.declared.Basis.TheVariants.{Ace, Asoe, Residual}
use Rattle.records.specs.declared.rows.Entry.{Entry}
use Rattle.totals.specs.Sums.{entry_with}
use Rattle.totals.specs.declared.entries.Totals.{Totals}

-- the sums of one kind
abbrev pub sums_by : Basis → Totals → List ℕ
sums_by Ace t = t.ace
sums_by Asoe t = t.asoe
sums_by Residual t = t.residual

-- a place for each of the five regions: what the type `[u64; 5]` says of each of the three
pub record Five (t : Totals) : Type 0 where
  pub each : (b : Basis) → length (sums_by b t) ≡ 5

-- the sum of one kind in region g
abbrev pub sum_at : Totals → ℕ → Basis → ℕ
sum_at t g b = get_or (sums_by b t) g 0

abbrev pub entry_of : Totals → ℕ → Entry
entry_of t g = entry_with (sum_at t g)
