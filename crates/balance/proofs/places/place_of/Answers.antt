-- `balance::places::place_of` meets its contract. The invariant, `Looking`: the pools of the first j constraints are passed. Assumes nothing.
use native.Mathlib.Omega.{arith}
use Rattle.balance.proofs.Finding.{look_start, look_more, found_kind, found_contract, found_past}
use Rattle.balance.proofs.places.place_of.Goals as goal

pub loop-j-init : goal.loop-j-init
loop-j-init c = look_start _ _ _

pub returns-then-left-pools : goal.returns-then-left-pools
returns-then-left-pools c = found_kind _ _ _ _ _ c.loop-j.invariant c.loop-j-test.true _ c.constraint_row-r.ensures _ c.pools_in-pools.ensures _ _ c.if-left-pools.true c.kind_at.ensures

pub loop-j-preserved : goal.loop-j-preserved
loop-j-preserved c = look_more _ _ _ _ _ c.loop-j.invariant c.loop-j-test.true _ c.constraint_row-r.ensures _ c.pools_in-pools.ensures (omega arith)

pub returns-then-left-contracts : goal.returns-then-left-contracts
returns-then-left-contracts c = found_contract _ _ _ _ _ c.loop-j.invariant (omega arith) _ c.if-left-contracts.true

pub returns : goal.returns
returns c = found_past _ _ _ _ _ c.loop-j.invariant (omega arith) _ (omega arith)
