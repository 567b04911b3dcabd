-- `rules::fields::shares_ok` meets its contract. The factors so far are tested and summed. Assumes nothing.
use mathlib.Core.Path.{◌≡◌, refl}
use native.Mathlib.Omega.{arith}
use Rattle.sections.proofs.Total.{total_none, total_more}
use Rattle.sections.proofs.Search.{all_none, all_more}
use Rattle.rules.specs.Rules.{shares_ok}
use Rattle.rules.proofs.fields.shares_ok.Goals as goal

pub loop-factor-init : goal.loop-factor-init
loop-factor-init c = (all_none _, total_none _, omega arith)

pub loop-factor-preserved : goal.loop-factor-preserved
loop-factor-preserved c = (all_more _ _ c.loop-factor.invariant.0 refl, total_more _ _ c.loop-factor.invariant.1 refl, omega (arith, c.loop-factor.invariant.2, c.loop-factor-test.element_fits.fits))

pub returns : goal.returns
unfolding shares_ok
returns c = let e : c.loop-factor.factor-index ≡ 5 = omega arith in rw (c.loop-factor.invariant.0, c.loop-factor.invariant.1, e)
