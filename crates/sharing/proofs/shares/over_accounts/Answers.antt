-- `sharing::shares::over_accounts` meets its contract. The invariant, `Making`: the rows so far are whole accounts, and of each one a call was made. The measure is what is left. Assumes nothing.
use native.Mathlib.Omega.{arith}
use Rattle.sharing.proofs.Groups.{making_none, making_start, making_calls, making_more, making_end}
use Rattle.sharing.proofs.shares.over_accounts.Goals as goal

pub returns-then-p-eq0 : goal.returns-then-p-eq0
returns-then-p-eq0 g c = making_none _ _ _ _ _ c.if-p-eq0.true

pub loop-i-init : goal.loop-i-init
loop-i-init g c = making_start _ _ _ _ _ c.requires.sorted

pub add-made-requires : goal.add-made-requires
add-made-requires g c = making_calls _ _ _ _ _ (goal.F-pre g c.args.add) c.requires.sorted c.requires.adds c.loop-i.invariant c.loop-i-test.true c.gather-g.ensures

pub loop-i-preserved : goal.loop-i-preserved
loop-i-preserved g c = making_more _ _ _ _ _ c.requires.sorted c.loop-i.invariant c.loop-i-test.true c.gather-g.ensures c.add-made.ensures

pub returns : goal.returns
returns g c = making_end _ _ _ _ _ c.if-p-eq0.false c.loop-i.invariant (omega (arith, c.loop-i.invariant.rows.within))
