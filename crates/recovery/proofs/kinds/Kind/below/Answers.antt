-- `recovery::kinds::Kind::below` meets its contract. The kind decides. Assumes nothing.
use mathlib.Core.Path.{◌≡◌, refl, ap}
use mathlib.Core.Logic.{inl, inr}
use Rattle.recovery.specs.declared.kinds.Factors.{Factors}
use Rattle.recovery.specs.declared.kinds.Kind.{Kind}
use Rattle.recovery.specs.declared.kinds.Kind.TheVariants.{Contingency, Fpp, Used, Unused, Payment}
use Rattle.recovery.specs.ByKind.{factor_below}
use Rattle.recovery.proofs.kinds.Kind.below.Goals as goal

pub returns-in-Fpp : goal.returns-in-Fpp
unfolding factor_below
returns-in-Fpp g c = let told = ap (λ (f : Factors). f.below) c.factors.ensures in elim c.in-Fpp.is [ inl e ↦ rw e told | inr e ↦ rw e told ]

pub returns-in-Unused : goal.returns-in-Unused
unfolding factor_below
returns-in-Unused g c = rw c.in-Unused.is (ap (λ (f : Factors). f.default) c.factors-in-Unused.ensures)

no_other : (kind : Kind) (q : Factors) → (kind ≡ Fpp → ⊥) → (kind ≡ Used → ⊥) → (kind ≡ Unused → ⊥) → 0 ≡ factor_below kind q
unfolding factor_below
no_other Contingency q a b d = refl
no_other Fpp q a b d = absurd (a refl)
no_other Used q a b d = absurd (b refl)
no_other Unused q a b d = absurd (d refl)
no_other Payment q a b d = refl

pub returns-in_default : goal.returns-in_default
returns-in_default g c = no_other _ _ c.in_default.not-Fpp c.in_default.not-Used c.in_default.not-Unused
