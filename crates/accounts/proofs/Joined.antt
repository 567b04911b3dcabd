-- Lists that stand one for each index, joined in order: what a loop over the indices needs to know. Assumes nothing.
use Prim.Native.Nat.{ℕ, zero, suc, ◌+◌, ◌*◌, ◌≤◌, ◌<◌}
use mathlib.Core.Path.{◌≡◌, refl, ap₂}
use mathlib.Core.List.{List, [], ◌++◌, append-nil}
use mathlib.Core.Logic.{⊎_elim}
use native.Mathlib.Omega.{arith}
use native.Mathlib.Numerals.{add-one}
use native.Mathlib.Nat.{eq-or-lt_of_le, not-suc-le-zero, le_of_suc-le-suc, le_refl}
use lib.ListN.{length, length-append}
use Rattle.ground.specs.Inner.Each.{Each}
use Rattle.ground.proofs.Each.{each_append}
use Rattle.accounts.specs.Rows.{joined}
use Rattle.sections.specs.Total.{total}
use Rattle.sections.proofs.Search.{to_zero}
use Rattle.sections.proofs.Total.{total_bound}

module _ {A : Type 0} (f : ℕ → List A) where
  pub joined_none : joined f 0 ≡ []
  unfolding joined
  joined_none = refl

  pub joined_more : (i : ℕ) → joined f i ++ f i ≡ joined f (i + 1)
  unfolding joined
  joined_more i = rw add-one

  -- the loop's end
  pub joined_all : (i n : ℕ) → i ≤ n → n ≤ i → joined f i ≡ joined f n
  joined_all i n h k = let e : i ≡ n = omega arith in rw e

  -- the lists before and at i are part of the whole
  pub joined_room : (i n : ℕ) → i < n → length (joined f i) + length (f i) ≤ length (joined f n)
  unfolding joined
  joined_room i zero h = absurd (not-suc-le-zero h)
  joined_room i (suc n) h =
      ⊎_elim
      (λ (q : i ≡ n). rw (← q, length-append) (omega arith))
      (λ (l : i < n). rw length-append (omega (arith, joined_room i n l)))
      (eq-or-lt_of_le (le_of_suc-le-suc h))

  -- records that give nothing
  pub joined_nothing : (n : ℕ) → ((k : ℕ) → k < n → f k ≡ []) → joined f n ≡ []
  unfolding joined
  joined_nothing zero h = refl
  joined_nothing (suc n) h = rw (joined_nothing n (λ k l. h k (omega arith)), h n (le_refl (suc n)))

  -- from record i on nothing is given, so the lists so far are the whole
  pub joined_rest : (i n : ℕ) → i ≤ n → ((k : ℕ) → i ≤ k → k < n → f k ≡ []) → joined f i ≡ joined f n
  unfolding joined
  joined_rest i zero l h = rw (to_zero i l)
  joined_rest i (suc n) l h =
      ⊎_elim
      (λ (e : i ≡ suc n). rw e)
      (λ (j : i < suc n). rw (h n (le_of_suc-le-suc j) (le_refl (suc n)), append-nil) (joined_rest i n (le_of_suc-le-suc j) (λ k a b. h k a (omega arith))))
      (eq-or-lt_of_le l)

-- the length of lists joined is the sum of their lengths
pub joined_length : {A : Type 0} (f : ℕ → List A) (n : ℕ) → length (joined f n) ≡ total (λ k. length (f k)) n
unfolding joined total
joined_length f zero = refl
joined_length f (suc n) = rw (length-append, joined_length f n)

-- and lists of at most b make at most n * b
pub joined_bound : {A : Type 0} (f : ℕ → List A) (b n : ℕ) → ((k : ℕ) → length (f k) ≤ b) → length (joined f n) ≤ n * b
joined_bound f b n h = rw (joined_length f n) (total_bound (λ k. length (f k)) b n (λ k l. h k))

-- lists that agree one by one agree joined
pub joined_same : {A : Type 0} (f g : ℕ → List A) (n : ℕ) → ((k : ℕ) → k < n → f k ≡ g k) → joined f n ≡ joined g n
unfolding joined
joined_same f g zero h = refl
joined_same f g (suc n) h = ap₂ ◌++◌ (joined_same f g n (λ k l. h k (omega arith))) (h n (le_refl (suc n)))

-- what holds of each element of each list holds of each of the lists joined
pub each_joined : {A : Type 0} (P : A → Type 0) (f : ℕ → List A) (n : ℕ) → ((k : ℕ) → k < n → Each P (f k)) → Each P (joined f n)
unfolding joined
each_joined P f zero h = tt
each_joined P f (suc n) h = each_append P (joined f n) (f n) (each_joined P f n (λ k l. h k (omega arith))) (h n (le_refl (suc n)))
