-- `walk::constraints` meets its contract. The invariant: the lines of the constraints so far are out, and the cursor stands at the first row of the next one, since each row names a constraint and the ids rise. Assumes nothing.
use Rattle.sections.proofs.Walk.{stands_first, stands_next}
use Rattle.emission.proofs.Loops.{out_start, out_room, out_more}
use Rattle.walk.proofs.Records.{settles_at, con_room, con_out}
use Rattle.walk.proofs.constraints.Goals as goal

pub loop-j-init : goal.loop-j-init
loop-j-init c = (out_start _, λ l. stands_first _ _ _ _ c.requires.ready.rise c.requires.ready.names l)

pub constraint_lines-here-requires : goal.constraint_lines-here-requires
constraint_lines-here-requires c = let l = c.loop-j-test.true in
    let e = c.constraint_row-r.ensures in
    let o = c.share_of-share.ensures.0 in
    let d = c.share_of-share.ensures.1 in
    let i = c.loop-j.invariant in
    record { m_in_bounds = c.requires.in_bounds.1.1; walked = c.requires.ready.walked; stands = rw e (i.1 l); settles = settles_at _ _ _ _ _ c.args.account _ _ e o d c.requires.ready l; line_room = con_room _ _ c.args.n _ _ _ _ _ e o d (out_room _ _ i.0 _ l c.requires.line_room) }

pub loop-j-preserved : goal.loop-j-preserved
loop-j-preserved c = let e = c.constraint_row-r.ensures in
    let o = c.share_of-share.ensures.0 in
    let d = c.share_of-share.ensures.1 in
    let x = c.constraint_lines-here.ensures in
    (out_more _ _ c.loop-j.invariant.0 (con_out _ _ c.args.n _ _ _ _ _ e o d x), λ l. stands_next _ _ _ _ c.requires.ready.rise c.requires.ready.names _ _ (rw e at x.past) l)
