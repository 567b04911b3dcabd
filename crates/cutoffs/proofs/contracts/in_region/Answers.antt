-- `cutoffs::contracts::in_region` meets its contract. One after the other. Assumes nothing.
use Prim.Native.Nat.{ℕ}
use mathlib.Core.Path.{◌≡◌, sym, ap, ◌∙◌}
use mathlib.Core.List.{[], ◌∷◌}
use native.Mathlib.Omega.{arith}
use Rattle.accounts.specs.Inner.Lent.{lent}
use Rattle.cutoffs.specs.Cutoffs.{whole_stage, half_stage, stage_at}
use Rattle.cutoffs.specs.Inner.Shapes.{ace_shape, asoe_shape}
use Rattle.std.specs.Prelude.{Ok}
use Rattle.recovery.proofs.Sharing.{consumed_shareable, sent_shareable}
use Rattle.cutoffs.proofs.Made.{consumed_fits, sent_fits, ace_is, asoe_is}
use Rattle.cutoffs.proofs.Numbering.{region_at}
use Rattle.cutoffs.proofs.contracts.in_region.Goals as goal

pub lines-requires : goal.lines-requires
lines-requires c = (consumed_fits _ _ (lent c.args.e) c.half_part.ensures (consumed_shareable c.args.e.sound c.requires.paid_by.0 _ c.requires.paid_by.1.0 c.requires.paid_by.1.1), c.requires.paid_by.1.0)

pub lines-requires-in_default : goal.lines-requires-in_default
lines-requires-in_default c = (sent_fits _ _ (lent c.args.e) c.half_part-in_default.ensures (sent_shareable c.args.e.sound c.requires.paid_by.0 _ c.requires.paid_by.1.0 c.requires.paid_by.1.1), c.requires.paid_by.1.0)

pub returns-in-0 : goal.returns-in-0
unfolding stage_at
returns-in-0 c = ap Ok c.whole.ensures ∙ ap (λ (i : ℕ). stage_at (whole_stage c.args.k c.args.g ∷ half_stage c.args.k c.args.g ∷ ace_shape (lent c.args.e) c.args.k c.args.g ∷ asoe_shape (lent c.args.e) c.args.k c.args.g ∷ []) i) (sym c.in-0.is) ∙ region_at (lent c.args.e) c.args.k c.args.g c.args.left c.requires.paid_by.1.1

pub returns-in-1 : goal.returns-in-1
unfolding stage_at
returns-in-1 c = ap Ok c.half.ensures ∙ ap (λ (i : ℕ). stage_at (whole_stage c.args.k c.args.g ∷ half_stage c.args.k c.args.g ∷ ace_shape (lent c.args.e) c.args.k c.args.g ∷ asoe_shape (lent c.args.e) c.args.k c.args.g ∷ []) i) (sym c.in-1.is) ∙ region_at (lent c.args.e) c.args.k c.args.g c.args.left c.requires.paid_by.1.1

pub returns-in-2 : goal.returns-in-2
unfolding stage_at
returns-in-2 c = ap Ok (ace_is _ _ (lent c.args.e) c.half_part.ensures c.lines.ensures) ∙ ap (λ (i : ℕ). stage_at (whole_stage c.args.k c.args.g ∷ half_stage c.args.k c.args.g ∷ ace_shape (lent c.args.e) c.args.k c.args.g ∷ asoe_shape (lent c.args.e) c.args.k c.args.g ∷ []) i) (sym c.in-2.is) ∙ region_at (lent c.args.e) c.args.k c.args.g c.args.left c.requires.paid_by.1.1

pub returns-in_default : goal.returns-in_default
unfolding stage_at
returns-in_default c = let e : c.args.left ≡ 3 = omega arith in ap Ok (asoe_is _ _ (lent c.args.e) c.half_part-in_default.ensures c.lines-in_default.ensures) ∙ ap (λ (i : ℕ). stage_at (whole_stage c.args.k c.args.g ∷ half_stage c.args.k c.args.g ∷ ace_shape (lent c.args.e) c.args.k c.args.g ∷ asoe_shape (lent c.args.e) c.args.k c.args.g ∷ []) i) (sym e) ∙ region_at (lent c.args.e) c.args.k c.args.g c.args.left c.requires.paid_by.1.1
