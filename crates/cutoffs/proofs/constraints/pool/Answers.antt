-- `cutoffs::constraints::pool` meets its contract. The kind decides which pool it is, of those that were rounded; unused has the opposite of what used has. Assumes nothing.
use mathlib.Core.Path.{ap, ◌∙◌}
use native.Mathlib.Omega.{arith}
use lib.IntN.{ℤ, pos, neg_ℤ, ◌-ℤ◌, +ℤ_idl}
use mir.Syntax.{w64}
use mir.Facts.{to_z-of_z}
use borrow.Author.Rules.{sfits_of}
use Rattle.ground.specs.Units.{million}
use Rattle.amounts.specs.declared.pools.PoolCuts.{PoolCuts}
use Rattle.amounts.specs.Pools.{pool_cuts_of}
use Rattle.cutoffs.specs.Cutoffs.{pool_cut, pool_stage}
use Rattle.cutoffs.proofs.Made.{used_low}
use Rattle.cutoffs.proofs.constraints.pool.Goals as goal

pub minus-requires : goal.minus-requires
minus-requires c = rw (to_z-of_z {w = w64} {z = c.pool_cuts-rounded.result.used} (sfits_of c.struct_told-in-Unused-1.given.1.0.1), ap (λ (x : PoolCuts). x.used) c.pool_cuts-rounded.ensures) (omega (arith, used_low c.args.r))

pub returns-in-Contingency : goal.returns-in-Contingency
unfolding pool_stage
returns-in-Contingency c = c.pool_stage.ensures ∙ rw c.in-Contingency.is

pub returns-in-Fpp : goal.returns-in-Fpp
unfolding pool_stage
returns-in-Fpp c = c.pool_stage-in-Fpp.ensures ∙ rw c.in-Fpp.is (ap (pool_cut 120) (to_z-of_z {w = w64} {z = c.pool_cuts-rounded.result.fpp} (sfits_of c.struct_told-1.given.0.1) ∙ ap (λ (x : PoolCuts). x.fpp) c.pool_cuts-rounded.ensures))

pub returns-in-Used : goal.returns-in-Used
unfolding pool_stage
returns-in-Used c = c.pool_stage-in-Used.ensures ∙ rw c.in-Used.is (ap (pool_cut million) (to_z-of_z {w = w64} {z = c.pool_cuts-rounded.result.used} (sfits_of c.struct_told-in-Used-1.given.1.0.1) ∙ ap (λ (x : PoolCuts). x.used) c.pool_cuts-rounded.ensures))

pub returns-in-Unused : goal.returns-in-Unused
unfolding pool_stage
returns-in-Unused c = c.pool_stage-in-Unused.ensures ∙ rw c.in-Unused.is (ap (pool_cut million) (to_z-of_z {w = w64} (sfits_of c.minus.type_inv) ∙ c.minus.ensures ∙ ap (λ (x : ℤ). pos 0 -ℤ x) (to_z-of_z {w = w64} {z = c.pool_cuts-rounded.result.used} (sfits_of c.struct_told-in-Unused-1.given.1.0.1) ∙ ap (λ (x : PoolCuts). x.used) c.pool_cuts-rounded.ensures) ∙ +ℤ_idl (neg_ℤ (pool_cuts_of c.args.r).used)))

pub returns-in-Payment : goal.returns-in-Payment
unfolding pool_stage
returns-in-Payment c = c.pool_stage-in-Payment.ensures ∙ rw c.in-Payment.is
