-- What sharing by energy rests on.
use Rattle.std.specs.Prelude.{ℕ, ◌≤◌, ◌<◌}
use Rattle.ground.specs.Units.{total_limit}

-- what sharing by energy rests on: an account's own energy is part of a total that is not 0
pub record Shared (own total : ℕ) : Type 0 where
  pub part : own ≤ total
  pub above : 0 < total
  pub below : total ≤ total_limit
