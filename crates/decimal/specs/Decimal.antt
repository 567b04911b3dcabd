-- How a number is spelled: decimal digits, the highest first. 02, Req 05: "Numbers have four decimals for money, three for MWh, six for
-- the benefit factor", "no spare leading zeros, no -0". 01, Worked interval: "dollars to four places, any minus first".
use Rattle.std.specs.Prelude.{ℕ, zero, suc, ◌+◌, ◌/◌, ◌%◌, ◌^◌, List, [], ◌∷◌, ◌++◌, cond, ltb, ℤ, pos, negsuc}

-- one digit; the bytes of 0 to 9 are 48 to 57
abbrev pub digit_text : ℕ → List ℕ
digit_text x = (48 + x) ∷ []

-- the digits of x, for any n that is at least x: below 10 its one digit, else those of x / 10 and then its last
unfoldable pub decimal_within : ℕ → ℕ → List ℕ
decimal_within zero x = digit_text x
decimal_within (suc n) x = cond (ltb x 10) (digit_text x) (decimal_within n (x / 10) ++ digit_text (x % 10))

-- the digits of x: at least one, and "no spare leading zeros"
unfoldable pub decimal_of : ℕ → List ℕ
decimal_of x = decimal_within x x

-- the last n digits of x, zeros in front where it has fewer
unfoldable pub last_digits : ℕ → ℕ → List ℕ
last_digits zero x = []
last_digits (suc n) x = last_digits n (x / 10) ++ digit_text (x % 10)

-- a point, 46, and the last d digits of x: "four decimals for money, three for MWh, six for the benefit factor"; nothing where d is 0
unfoldable pub point_text : ℕ → ℕ → List ℕ
point_text zero x = []
point_text (suc d) x = 46 ∷ last_digits (suc d) x

-- x with d decimals: a point before its last d digits, at least one digit before the point
unfoldable pub number_text : ℕ → ℕ → List ℕ
number_text x d = decimal_of (x / 10 ^ d) ++ point_text d x

-- a number with a sign: "any minus first", 45, and its size. Zero is not below 0 and has no minus: "no -0"
unfoldable pub signed_text : ℤ → ℕ → List ℕ
signed_text (pos n) d = number_text n d
signed_text (negsuc n) d = 45 ∷ number_text (suc n) d
