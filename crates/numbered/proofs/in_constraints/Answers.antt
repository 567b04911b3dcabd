-- `numbered::in_constraints` meets its contract. The invariant: the lines of the constraints so far are passed, and the search stands at the first row of the next one, since each row names a constraint and the ids rise. Assumes nothing.
use Rattle.sections.proofs.Walk.{stands_first}
use Rattle.lookup.proofs.Answered.{past_told}
use Rattle.lookup.proofs.Joined.{pass_none, pass_all}
use Rattle.numbered.proofs.Records.{con_found, con_passed, con_next}
use Rattle.numbered.proofs.in_constraints.Goals as goal

pub loop-j-init : goal.loop-j-init
loop-j-init c = (pass_none _ _, λ l. stands_first _ _ _ _ c.requires.ready.rise c.requires.ready.names l)

pub returns-in-Ok : goal.returns-in-Ok
returns-in-Ok c = con_found _ _ _ _ _ _ _ _ c.loop-j.invariant.0 c.constraint_row-r.ensures c.constraint_line.ensures _ c.loop-j-test.true c.in-Ok.is

pub loop-j-preserved : goal.loop-j-preserved
loop-j-preserved c = let r = c.constraint_row-r.ensures in
    let x = c.constraint_line.ensures in
    let h = c.loop-j.invariant.0 in
    (con_passed _ _ _ _ _ _ _ _ h r x c.in-Err.is, λ l. con_next _ _ _ _ _ _ _ _ h r x c.requires.ready.rise c.requires.ready.names c.in-Err.is l)

pub returns : goal.returns
returns c = past_told _ _ (pass_all _ _ _ c.loop-j.invariant.0 _ c.loop-j.auto.j-end c.loop-j-test.false)
