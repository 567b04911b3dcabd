-- The element of a number among lists joined: what a loop over them needs to know. Assumes nothing.
use Prim.Native.Nat.{ℕ, zero, suc, ◌+◌, ◌-◌, ◌≤◌, ◌<◌}
use mathlib.Core.Path.{◌≡◌, refl, ◌∙◌}
use mathlib.Core.List.{List}
use mathlib.Core.Logic.{⊎_elim}
use native.Mathlib.Nat.{eq-or-lt_of_le, not-suc-le-zero, le_of_suc-le-suc}
use lib.ListN.{length}
use Rattle.ground.specs.Nth.{found, past, nth}
use Rattle.ground.proofs.Nth.{nth_front, nth_behind, nth_past}
use Rattle.accounts.specs.Rows.{joined}
use Rattle.accounts.proofs.Joined.{joined_more, joined_all}

module _ {A : Type 0} (f : ℕ → List A) (number : ℕ) where
  pub pass_none : nth (joined f 0) number ≡ past number
  unfolding joined nth
  pass_none = refl

  -- the first i lists are passed, and so much of the number is left
  module _ (i : ℕ) {left : ℕ} (h : nth (joined f i) number ≡ past left) where
    pub pass_more : {rest : ℕ} → nth (f i) left ≡ past rest → nth (joined f (i + 1)) number ≡ past rest
    pass_more e = rw (← joined_more f i) (nth_behind (joined f i) (f i) number h ∙ e)

    pub pass_length : {k : ℕ} → k ≡ length (f i) → k ≤ left → nth (joined f (i + 1)) number ≡ past (left - k)
    pass_length e l = rw e (pass_more (nth_past (f i) left (rw e at l)))

    pub pass_all : (n : ℕ) → i ≤ n → n ≤ i → nth (joined f n) number ≡ past left
    pass_all n a b = rw (← joined_all f i n a b) h

    pub found_in : (n : ℕ) {x : A} → i < n → nth (f i) left ≡ found x → nth (joined f n) number ≡ found x
    unfolding joined
    found_in zero l e = absurd (not-suc-le-zero l)
    found_in (suc n) l e =
        ⊎_elim
        (λ (q : i ≡ n). rw (← q) (nth_behind (joined f i) (f i) number h ∙ e))
        (λ (m : i < n). nth_front (joined f n) (f n) number (found_in n m e))
        (eq-or-lt_of_le (le_of_suc-le-suc l))
