-- `lookup::contract::contract_line` meets its contract. The invariant: the lines of the regions so far are passed. Assumes nothing.
use native.Mathlib.Omega.{arith}
use mathlib.Core.Path.{sym, ◌∙◌}
use Rattle.records.specs.Rows.{entry_row}
use Rattle.totals.specs.Inner.Totals.{entry_of}
use Rattle.groups.proofs.Numbering.{region_length}
use Rattle.lookup.proofs.Answered.{line_told, past_told}
use Rattle.lookup.proofs.Joined.{pass_none, pass_length, pass_all, found_in}
use Rattle.lookup.proofs.contract.contract_line.Goals as goal

pub loop-g-init : goal.loop-g-init
loop-g-init c = pass_none _ _

pub region_line-requires-clause-i_in_bounds : goal.region_line-requires-clause-i_in_bounds
region_line-requires-clause-i_in_bounds c = omega (arith, c.region_count-lines.ensures.0, region_length (entry_row c.args.regions.now) (entry_of c.args.own) c.args.k c.loop-g.g)

pub returns-then-left-lines : goal.returns-then-left-lines
returns-then-left-lines c = line_told _ _ (found_in _ _ _ c.loop-g.invariant _ c.loop-g-test.true c.region_line.ensures)

pub loop-g-preserved : goal.loop-g-preserved
loop-g-preserved c = pass_length _ _ _ c.loop-g.invariant (c.region_count-lines.ensures.0 ∙ sym (region_length _ _ _ _)) c.if-left-lines.false

pub returns : goal.returns
returns c = past_told _ _ (pass_all _ _ _ c.loop-g.invariant _ c.loop-g.auto.g-end c.loop-g-test.false)
