-- What the numbers of services, regions and modes stand for, and by which energy a service's cost is shared.
use Rattle.std.specs.Prelude.{ℕ, ◌/◌, ◌%◌, ◌^◌, Bool, ◌&&◌, cond, List, [], ◌∷◌, eqb, leb}
use Rattle.market.specs.declared.Basis.{Basis}
use Rattle.market.specs.declared.Basis.TheVariants.{Ace, Asoe, Residual}
use Rattle.market.specs.declared.Mode.{Mode}
use Rattle.market.specs.declared.Mode.TheVariants.{Contingency, Factored, Default, Unknown}

-- 01, The book: "Each service and region has one fixed number that belongs to its kind."
-- "Services 1 to 8 are very fast, fast, slow, delayed, each raise (odd) then lower (even); 9 and 10 are regulation raise and lower."
abbrev pub service_numbers : List ℕ
service_numbers = 1 ∷ 2 ∷ 3 ∷ 4 ∷ 5 ∷ 6 ∷ 7 ∷ 8 ∷ 9 ∷ 10 ∷ []

-- "in the order NSW1, QLD1, SA1, TAS1, VIC1"; "region u8, 0 to 4"
abbrev pub region_numbers : List ℕ
region_numbers = 0 ∷ 1 ∷ 2 ∷ 3 ∷ 4 ∷ []

-- 01, The book: "service u8, 1 to 10"
abbrev pub is_service : ℕ → Bool
is_service number = leb 1 number && leb number 10

-- 01, The book: "each raise (odd) then lower (even)"
abbrev pub raises : ℕ → Bool
raises number = eqb (number % 2) 1

-- 01, The book: "9 and 10 are regulation raise and lower"
abbrev pub regulates : ℕ → Bool
regulates number = leb 9 number

-- 01, Refusals, 10: "raise contingency, total ASOE over its regions; lower, total ACE; regulation, residual total"; Lines: "ASOE for raise, ACE for lower"
unfoldable pub basis_of : ℕ → Basis
basis_of number = cond (regulates number) Residual (cond (raises number) Asoe Ace)

-- of an ACE, an ASOE and a residual energy the one that a cost is shared by
abbrev pub picked : Basis → ℕ → ℕ → ℕ → ℕ
picked Ace ace asoe residual = ace
picked Asoe ace asoe residual = asoe
picked Residual ace asoe residual = residual

-- 01, The book: "The regions of a constraint are one bit each, bit 0 for NSW1"
abbrev pub bit_set : ℕ → ℕ → Bool
bit_set mask region = eqb (mask / 2 ^ region % 2) 1

-- 01, The book: "Mode 0 (contingency) .. Mode 1 (factored) and mode 2 (default, no factors received)"; "Only when a constraint is
-- factored are its price, response and usage read for an amount."
unfoldable pub mode_with : ℕ → ℕ → ℕ → ℕ → Mode
mode_with number price response usage =
    cond (eqb number 0) Contingency
    (cond (eqb number 1) (Factored price response usage)
    (cond (eqb number 2) Default Unknown))
