-- `cutoffs::constraints::regulation` meets its contract. The stage before the unit lines, where there is one; then these, the residual pool and its shares. Assumes nothing.
use mathlib.Core.Path.{refl, ap, ◌∙◌}
use mathlib.Core.List.{[], ◌∷◌}
use native.Mathlib.Omega.{arith}
use lib.Dec.{eqb}
use Rattle.book.specs.Laid.{book_at}
use Rattle.accounts.specs.Inner.Energies.{energies_of}
use Rattle.cutoffs.specs.Cutoffs.{pool_stage, residual_stage, stage_at}
use Rattle.cutoffs.specs.Inner.Shapes.{unit_shape, share_shape, regulation_shapes}
use Rattle.std.specs.Prelude.{Ok}
use Rattle.cutoffs.proofs.Numbering.{first_at, behind_at, third_past}
use Rattle.cutoffs.proofs.constraints.regulation.Goals as goal

pub returns-then-index-first : goal.returns-then-index-first
unfolding regulation_shapes
returns-then-index-first c = ap Ok c.pool.ensures ∙ first_at (eqb c.args.r.mode 1) (pool_stage c.args.r c.args.kind) (unit_shape (book_at c.args.book.now) c.args.r c.args.kind ∷ residual_stage c.args.r c.args.kind ∷ share_shape (energies_of (book_at c.args.book.now)) c.args.r c.args.kind ∷ []) c.pool_stages-first.ensures c.args.index c.if-index-first.true

pub returns-in-0 : goal.returns-in-0
unfolding regulation_shapes stage_at
returns-in-0 c = ap Ok c.unit.ensures ∙ behind_at (eqb c.args.r.mode 1) (pool_stage c.args.r c.args.kind) (unit_shape (book_at c.args.book.now) c.args.r c.args.kind ∷ residual_stage c.args.r c.args.kind ∷ share_shape (energies_of (book_at c.args.book.now)) c.args.r c.args.kind ∷ []) c.pool_stages-first.ensures c.args.index 0 (omega (arith, c.if-index-first.false)) c.in-0.is

pub returns-in-1 : goal.returns-in-1
unfolding regulation_shapes stage_at
returns-in-1 c = ap Ok c.residual.ensures ∙ behind_at (eqb c.args.r.mode 1) (pool_stage c.args.r c.args.kind) (unit_shape (book_at c.args.book.now) c.args.r c.args.kind ∷ residual_stage c.args.r c.args.kind ∷ share_shape (energies_of (book_at c.args.book.now)) c.args.r c.args.kind ∷ []) c.pool_stages-first.ensures c.args.index 1 (omega (arith, c.if-index-first.false)) c.in-1.is

pub returns-in-2 : goal.returns-in-2
unfolding regulation_shapes stage_at
returns-in-2 c = ap Ok c.share.ensures ∙ behind_at (eqb c.args.r.mode 1) (pool_stage c.args.r c.args.kind) (unit_shape (book_at c.args.book.now) c.args.r c.args.kind ∷ residual_stage c.args.r c.args.kind ∷ share_shape (energies_of (book_at c.args.book.now)) c.args.r c.args.kind ∷ []) c.pool_stages-first.ensures c.args.index 2 (omega (arith, c.if-index-first.false)) c.in-2.is

pub returns-in_default : goal.returns-in_default
unfolding regulation_shapes
returns-in_default c = third_past _ _ _ _ (λ z. omega arith) (λ z. omega arith) (λ z. omega arith) ∙ behind_at (eqb c.args.r.mode 1) (pool_stage c.args.r c.args.kind) (unit_shape (book_at c.args.book.now) c.args.r c.args.kind ∷ residual_stage c.args.r c.args.kind ∷ share_shape (energies_of (book_at c.args.book.now)) c.args.r c.args.kind ∷ []) c.pool_stages-first.ensures c.args.index _ (omega (arith, c.if-index-first.false)) (refl)
