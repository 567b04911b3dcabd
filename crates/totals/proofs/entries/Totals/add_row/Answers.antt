-- `totals::entries::Totals::add_row` meets its contract. Each of the three sums gets its number. Assumes nothing.
use native.Mathlib.Omega.{arith}
use Rattle.market.specs.declared.Basis.TheVariants.{Ace, Asoe, Residual}
use Rattle.totals.proofs.entries.Totals.add_row.Goals as goal

pub bump-requires : goal.bump-requires
bump-requires c = (c.requires.0, (c.requires.1.each Ace, omega (arith, c.row_by.ensures)))

pub bump-requires-2 : goal.bump-requires-2
bump-requires-2 c = (c.requires.0, (c.requires.1.each Asoe, omega (arith, c.row_by-2.ensures)))

pub bump-requires-3 : goal.bump-requires-3
bump-requires-3 c = (c.requires.0, (c.requires.1.each Residual, omega (arith, c.row_by-3.ensures)))
