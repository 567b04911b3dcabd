-- What checks 9 and 10 say of a region entry, fact by fact, for whoever builds on them.
use Rattle.std.specs.Prelude.{◌<◌, ℕ, ◌≡◌}
use Rattle.market.specs.declared.Basis.{Basis}
use Rattle.records.specs.declared.rows.Entry.{Entry}
use Rattle.totals.specs.Sums.{entry_by}

-- what the rule says of a region that benefits
pub record Funded (e : Entry) : Type 0 where
  pub ace : 0 < e.ace
  pub asoe : 0 < e.asoe

-- its energy of each kind is this sum
pub record SumsTo (e : Entry) (sum : Basis → ℕ) : Type 0 where
  pub each : (b : Basis) → entry_by b e ≡ sum b
