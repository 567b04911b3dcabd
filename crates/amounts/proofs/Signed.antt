-- What is credited less what is charged, where one of the two is nothing: a rounded share of one side, with its sign. (The guide's signed
-- products stand in the crate guide.) Assumes nothing.
use Prim.Native.Nat.{ℕ, ◌+◌, ◌*◌, ◌≤◌}
use mathlib.Core.Path.{◌≡◌, refl, sym, subst, ap, ap₂, ◌∙◌}
use mathlib.Core.Bool.{Bool, true, false, ◌||◌}
use borrow.Author.Tests.{eqb-true}
use lib.Dec.{T, eqb}
use lib.IntN.{pos, neg_ℤ, ◌+ℤ◌, ◌-ℤ◌, ◌*ℤ◌, +ℤ_idl, +ℤ_idr}
use native.Mathlib.Nat.{mul_comm, mul-zero, zero-mul, zero-add, add-zero}
use native.Mathlib.Omega.{arith}
use Rattle.numbers.specs.Round.{round_n, cut_n}
use Rattle.numbers.specs.Sign.{signed, less}
use Rattle.numbers.proofs.Sizes.{less_plus}
use Rattle.numbers.proofs.Ring.{less_same, less_minus, less_times}
use Rattle.numbers.proofs.Rounding.{round_zero}
use Rattle.amounts.specs.Shares.{by_factor, by_energy, cut_by_factor, cut_by_energy}

-- nothing charged, and nothing credited
credit_only : (a : ℕ) → less a 0 ≡ pos a
credit_only a = +ℤ_idr (pos a)

charge_only : (a : ℕ) → less 0 a ≡ neg_ℤ (pos a)
charge_only a = +ℤ_idl (neg_ℤ (pos a))

-- a share of nothing
none_of : (n d : ℕ) → n ≡ 0 → round_n n d ≡ 0
none_of n d e = ap (λ (k : ℕ). round_n k d) e ∙ round_zero d

less_none : (a n d : ℕ) → n ≡ 0 → less (round_n a d) (round_n n d) ≡ pos (round_n a d)
less_none a n d e = ap (less (round_n a d)) (none_of n d e) ∙ credit_only (round_n a d)

none_less : (a n d : ℕ) → n ≡ 0 → less (round_n n d) (round_n a d) ≡ neg_ℤ (pos (round_n a d))
none_less a n d e = ap (λ (k : ℕ). less k (round_n a d)) (none_of n d e) ∙ charge_only (round_n a d)

-- a factor that is not above 0, and a pool of which nothing is credited
pub factor_below : (pool below : ℕ) → by_factor pool 0 below ≡ signed true (round_n (pool * below) 1_000_000)
unfolding by_factor
factor_below pool below = none_less (pool * below) (pool * 0) 1_000_000 (mul-zero pool)

pub charge_shared : (charge own total : ℕ) → by_energy 0 charge own total ≡ signed true (round_n (charge * own) total)
unfolding by_energy
charge_shared charge own total = none_less (charge * own) (0 * own) total (zero-mul own)

-- a pool of one side at most is no larger than that side, and its part is one rounded share with the side's sign
pub side_small : (credit charge m : ℕ) → (eqb credit 0 || eqb charge 0) ≡ true → credit ≤ m → charge ≤ m → credit + charge ≤ m
side_small credit charge m t h k = by (eqb credit 0) refl (eqb charge 0) refl t
  where
    by : (x : Bool) → eqb credit 0 ≡ x → (y : Bool) → eqb charge 0 ≡ y → (x || y) ≡ true → credit + charge ≤ m
    by true e y f t = omega (arith, eqb-true credit 0 e)
    by false e true f t = omega (arith, eqb-true charge 0 f)
    by false e false f t = absurd (subst T (sym t) tt)

pub side_shared : (credit charge own total : ℕ) → (eqb credit 0 || eqb charge 0) ≡ true → signed (eqb credit 0) (round_n ((credit + charge) * own) total) ≡ by_energy credit charge own total
unfolding by_energy
side_shared credit charge own total t = by (eqb credit 0) refl (eqb charge 0) refl t
  where
    by : (x : Bool) → eqb credit 0 ≡ x → (y : Bool) → eqb charge 0 ≡ y → (x || y) ≡ true → signed x (round_n ((credit + charge) * own) total) ≡ by_energy credit charge own total
    by true e y f t = rw (eqb-true credit 0 e, zero-add) (sym (none_less (charge * own) (0 * own) total (zero-mul own)))
    by false e true f t = rw (eqb-true charge 0 f, add-zero) (sym (less_none (credit * own) (0 * own) total (zero-mul own)))
    by false e false f t = absurd (subst T (sym t) tt)

-- the same of a factor, by which a pool is multiplied from the other side
pub side_factored : (pool above below : ℕ) → (eqb above 0 || eqb below 0) ≡ true → signed (eqb above 0) (round_n (pool * (above + below)) 1_000_000) ≡ by_factor pool above below
unfolding by_factor by_energy
side_factored pool above below t =
    ap (λ (n : ℕ). signed (eqb above 0) (round_n n 1_000_000)) (mul_comm pool (above + below))
    ∙ side_shared above below pool 1_000_000 t
    ∙ ap₂ (λ (m n : ℕ). less (round_n m 1_000_000) (round_n n 1_000_000)) (mul_comm above pool) (mul_comm below pool)

-- ---- an amount times its divisor, and what was cut off it, make its exact numerator

sides_exact : (a b d : ℕ) → less (round_n a d) (round_n b d) *ℤ pos d +ℤ (cut_n a d -ℤ cut_n b d) ≡ less a b
sides_exact a b d =
    ap₂ ◌+ℤ◌ (less_times (round_n a d) (round_n b d) d) (less_minus a (round_n a d * d) b (round_n b d * d))
    ∙ less_plus (round_n a d * d) (round_n b d * d) (a + round_n b d * d) (round_n a d * d + b)
    ∙ less_same (round_n a d * d + (a + round_n b d * d)) (round_n b d * d + (round_n a d * d + b)) a b (omega arith)

-- of a unit line, and of a residual pool
pub factor_exact : (pool above below : ℕ) → by_factor pool above below *ℤ pos 1_000_000 +ℤ cut_by_factor pool above below ≡ less (pool * above) (pool * below)
unfolding by_factor cut_by_factor
factor_exact pool above below = sides_exact (pool * above) (pool * below) 1_000_000

-- of a line that is shared by energy
pub energy_exact : (credit charge own total : ℕ) → by_energy credit charge own total *ℤ pos total +ℤ cut_by_energy credit charge own total ≡ less (credit * own) (charge * own)
unfolding by_energy cut_by_energy
energy_exact credit charge own total = sides_exact (credit * own) (charge * own) total
