-- Every case of the table holds: each definition computes to what the document says. Assumes nothing.
use mathlib.Core.Path.{refl}
use Rattle.ground.specs.Le.{le16, le32, le64, int64}
use Rattle.numbers.specs.Sizes.{above_of, below_of}
use Rattle.sections.specs.First.{and_then, first_bad}
use Rattle.sections.specs.Order.{rises_by}
use Rattle.sections.specs.Refusal.{at_record}
use Rattle.sections.specs.Search.{some}
use Rattle.sections.specs.Total.{total, keyed}
use Rattle.dispatch.specs.Dispatch.{dispatch_row, amount_of, sum_with, row_ok, rows_verdict, cost_if, payment, base_cost}
use Rattle.records.specs.Rows.{entry_row, constraint_row, unit_row, energy_row}
use Rattle.market.specs.Kinds.{basis_of, mode_with}
use Rattle.totals.specs.Divisors.{counted_in}
use Rattle.locking.specs.Locking.{reads_locked}
use Rattle.book.specs.Header.{header_of}
use Rattle.book.specs.Table.{locked_for}
use Rattle.amounts.specs.Pools.{pools_by_mode, residual_pools}
use Rattle.amounts.specs.Shares.{by_factor, by_energy}
use Rattle.accounts.specs.Rows.{rows_of, keep, sum_of, concat_map}
use Rattle.accounts.specs.Account.{public_of, rows_of_account, own_energy}
use Rattle.lines.specs.Lines.{unit_lines, rest_lines}
use Rattle.settlement.specs.Settle.{entry_in, of_constraint, constraint_lines, lines_of}
use Rattle.cases.specs.Written.{int32}
use Rattle.cases.specs.Cases.{table, AllHold}

-- one `refl` for each row, in the table's order
pub proved_cases : AllHold table
unfolding le16 le32 le64 int32 int64 above_of below_of and_then first_bad rises_by at_record some total keyed dispatch_row amount_of sum_with row_ok rows_verdict cost_if payment base_cost entry_row constraint_row unit_row energy_row mode_with basis_of counted_in reads_locked header_of locked_for pools_by_mode residual_pools by_factor by_energy rows_of keep sum_of concat_map public_of rows_of_account own_energy unit_lines rest_lines entry_in of_constraint constraint_lines lines_of
proved_cases = (refl, (refl, (refl, (refl, (refl, (refl, (refl, (refl, (refl, (refl, (refl, (refl, (refl, tt)))))))))))))
