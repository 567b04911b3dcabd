-- A call that is lent a buffer and does not refuse: what it gives, and that this stands at the front. Assumes nothing.
use Prim.Native.Nat.{ℕ}
use mathlib.Core.Path.{◌≡◌, sym, ap, ◌∙◌}
use mathlib.Core.List.{List}
use native.Mathlib.Omega.{arith}
use Rattle.ground.proofs.Put.{put_there}
use Rattle.statement.specs.Lent.{Outcome, gives}
use Rattle.answers.specs.declared.WrittenAnswer.{WrittenAnswer}
use Rattle.demands.specs.Demand1.{OneOf, Gives, Answered, written, short, refused}
use Rattle.demands.specs.Demand2.{front}

-- what it gives
pub record Given (o : Outcome) (l : List ℕ) (r : WrittenAnswer) (x : List ℕ) : Type 0 where
  pub bytes : List ℕ
  pub is : o ≡ gives bytes
  pub gives_them : Gives bytes l r x

pub given : (numbers : List ℕ) (o : Outcome) (l : List ℕ) (r : WrittenAnswer) (x : List ℕ) → (OneOf numbers 0 → ⊥) → Answered numbers o l r x → r.refusal ≡ 0 → Given o l r x
given numbers o l r x none (written xs e g) z = record { bytes = xs; is = e; gives_them = g }
given numbers o l r x none (short xs e h k g) z = absurd (omega (arith, sym (ap (λ (w : WrittenAnswer). w.refusal) g.answer) ∙ z))
given numbers o l r x none (refused number place e h g) z = absurd (none (rw (sym (ap (λ (w : WrittenAnswer). w.refusal) g.answer) ∙ z) at h))

-- what stands at the front
pub front_is : (xs l : List ℕ) (r : WrittenAnswer) (x : List ℕ) → Gives xs l r x → front r x ≡ xs
front_is xs l r x g = rw (g.answer, g.bytes) (put_there l 0 xs (omega (arith, g.room)))
