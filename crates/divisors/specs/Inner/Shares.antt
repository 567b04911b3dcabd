-- What a function says of one region that is asked for each region of a constraint.
use Rattle.std.specs.Prelude.{ℕ, ◌<◌, ◌≡◌}
use Rattle.market.specs.declared.Basis.{Basis}
use Rattle.market.specs.declared.Region.{Region}
use Rattle.records.specs.declared.rows.Entry.{Entry}
use Rattle.totals.specs.Sums.{entry_by}
use Rattle.divisors.specs.declared.Share.{Share}

-- each answer that it may give of a region has the region's energies of that kind: of the one entries an account's, of the others the total
abbrev pub HasOf : (Basis → Region → Share → Type 0) → (ℕ → Entry) → (ℕ → Entry) → Type 0
HasOf post own total =
    (b : Basis) (g : Region) (x : Share)
    → g.number < 5
    → post b g x
    → (x.own ≡ entry_by b (own g.number)) × (x.total ≡ entry_by b (total g.number))
