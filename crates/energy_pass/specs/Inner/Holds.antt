-- Whether the checks of the energy rows and the region entries pass, which is what the pass answers. 01, Refusals, has the checks.
use Rattle.std.specs.Prelude.{ℕ, Bool, ◌&&◌}
use Rattle.sections.specs.Order.{rises_by}
use Rattle.sections.specs.Search.{all}
use Rattle.rules.specs.Rules.{energy_ok, energy_below}
use Rattle.records.specs.declared.rows.Entry.{Entry}
use Rattle.records.specs.declared.rows.EnergyRow.{EnergyRow}
use Rattle.totals.specs.Sums.{entry_has_sums}

-- none of the n energy rows is refused by 5, "a field outside the rules above", or 6, "(account, region) pairs .. not strictly rising",
-- and none of the five region entries by 9, "a region entry differs from its rows' sums"
unfoldable pub energies_hold : (ℕ → EnergyRow) → ℕ → (ℕ → Entry) → Bool
energies_hold energy n entry =
    all (λ i. energy_ok (energy i)) n && all (rises_by energy_below energy) n && all (entry_has_sums energy n entry) 5
