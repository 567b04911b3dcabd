-- What it says of any two records that each is above its forerunner.
use Rattle.std.specs.Prelude.{ℕ, ◌≤◌, ◌<◌, ◌≡◌}

-- a later record has a larger number
pub record Rises (f : ℕ → ℕ) (n : ℕ) : Type 0 where
  pub rise : (i j : ℕ) → i < j → j < n → f i < f j

-- a later record has no smaller number
pub record Keeps (f : ℕ → ℕ) (n : ℕ) : Type 0 where
  pub keep : (i j : ℕ) → i ≤ j → j < n → f i ≤ f j

-- the pairs of two later rows rise: by their first numbers, and where these are equal by their second
pub record PairsRise (a x : ℕ → ℕ) (n : ℕ) : Type 0 where
  pub first : (i j : ℕ) → i ≤ j → j < n → a i ≤ a j
  pub second : (i j : ℕ) → i < j → j < n → a i ≡ a j → x i < x j
