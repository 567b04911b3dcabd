-- What a function that is asked of single records says, whatever function it is.
use Rattle.std.specs.Prelude.{ℕ, ◌<◌, ◌≡◌}

-- each answer that it may give of one of the first n records is t's
abbrev pub AnswersAs : {A : Type 0} → (ℕ → A → Type 0) → ℕ → (ℕ → A) → Type 0
AnswersAs post n t = (i : ℕ) (b : _) → i < n → post i b → b ≡ t i
