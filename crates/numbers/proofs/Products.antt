-- How large products can be. Assumes nothing.
use Prim.Native.Nat.{ℕ, ◌*◌, ◌≤◌}
use native.Mathlib.Nat.{mul-le-mul}

-- two numbers of 32 bits
pub wide_product : (a b : ℕ) → a ≤ 4_294_967_295 → b ≤ 4_294_967_295 → a * b ≤ 18_446_744_065_119_617_025
wide_product a b h g = mul-le-mul {n₁ = a} {m₁ = b} {n₂ = 4_294_967_295} {m₂ = 4_294_967_295} h g
