-- What it says that a spelling stands in a text, and that a reader finds exactly what stands there.
use Rattle.std.specs.Prelude.{ℕ, ◌+◌, ◌≤◌, ◌≡◌, List, Bool, true, false, ◌&&◌, leb, length, ℤ, nat_abs}
use Rattle.ground.specs.Bytes.{byte_at, part}
use Rattle.decimal.specs.Decimal.{number_text, signed_text}

-- the bytes of the digits 0 to 9 are 48 to 57
abbrev pub is_digit : ℕ → Bool
is_digit b = leb 48 b && leb b 57

-- the text s has the bytes xs from place k
pub record Stands (xs s : List ℕ) (k : ℕ) : Type 0 where
  pub bytes : part s k (length xs) ≡ xs

-- xs stands in s from k to e, and no digit follows; past the end of s stands none
pub record Field (xs s : List ℕ) (k e : ℕ) : Type 0 where
  pub stands : Stands xs s k
  pub ends : e ≡ k + length xs
  pub stop : is_digit (byte_at s e) ≡ false

-- a number with d decimals, at most limit, is spelled from k to e
pub record Number (s : List ℕ) (k d limit x e : ℕ) : Type 0 where
  pub small : x ≤ limit
  pub field : Field (number_text x d) s k e

-- a number with a sign and d decimals, of a size at most limit, is spelled from k to e
pub record Signed (s : List ℕ) (k d limit : ℕ) (z : ℤ) (e : ℕ) : Type 0 where
  pub small : nat_abs z ≤ limit
  pub field : Field (signed_text z d) s k e

-- an answer that finds what is there: where it is good, its value is there and ends at next; where not, no value is there
pub record Decides {A : Type 0} (There : A → ℕ → Type 0) (good : Bool) (value : A) (next : ℕ) : Type 0 where
  pub found : good ≡ true → There value next
  pub none : good ≡ false → (x : A) (e : ℕ) → There x e → ⊥

-- a value of any kind: x is in range, and its spelling stands in s from k to e
pub record Spelled {A : Type 0} (Fine : A → Type 0) (spell : A → List ℕ) (s : List ℕ) (k : ℕ) (x : A) (e : ℕ) : Type 0 where
  pub fine : Fine x
  pub stands : Stands (spell x) s k
  pub ends : e ≡ k + length (spell x)
