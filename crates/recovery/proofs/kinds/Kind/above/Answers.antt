-- `recovery::kinds::Kind::above` meets its contract. The kind decides. Assumes nothing.
use mathlib.Core.Path.{◌≡◌, refl, ap}
use Rattle.recovery.specs.declared.kinds.Factors.{Factors}
use Rattle.recovery.specs.declared.kinds.Kind.{Kind}
use Rattle.recovery.specs.declared.kinds.Kind.TheVariants.{Contingency, Fpp, Used, Unused, Payment}
use Rattle.recovery.specs.ByKind.{factor_above}
use Rattle.recovery.proofs.kinds.Kind.above.Goals as goal

pub returns-in-Fpp : goal.returns-in-Fpp
unfolding factor_above
returns-in-Fpp g c = rw c.in-Fpp.is (ap (λ (f : Factors). f.above) c.factors.ensures)

no_other : (kind : Kind) (q : Factors) → (kind ≡ Fpp → ⊥) → 0 ≡ factor_above kind q
unfolding factor_above
no_other Contingency q d = refl
no_other Fpp q d = absurd (d refl)
no_other Used q d = refl
no_other Unused q d = refl
no_other Payment q d = refl

pub returns-in_default : goal.returns-in_default
returns-in_default g c = no_other _ _ c.in_default.not-Fpp
