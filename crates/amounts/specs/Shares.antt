-- A rounded part of a pool. A number with a sign is held as what is credited less what is charged, of which one is 0; rounding keeps the
-- sign, so each side is rounded by its size (the crate guide has the laws over signed numbers).
use Rattle.std.specs.Prelude.{ℕ, ◌*◌, ℤ, ◌-ℤ◌}
use Rattle.numbers.specs.Round.{round_n, cut_n}
use Rattle.numbers.specs.Sign.{less}
use Rattle.ground.specs.Units.{million}

-- "round(pool x factor / 1,000,000)", where the factor is above - below, of which one is 0
unfoldable pub by_factor : ℕ → ℕ → ℕ → ℤ
by_factor pool above below = less (round_n (pool * above) million) (round_n (pool * below) million)

-- "round(pool x own / total)", where the pool is credit - charge
unfoldable pub by_energy : ℕ → ℕ → ℕ → ℕ → ℤ
by_energy credit charge own total = less (round_n (credit * own) total) (round_n (charge * own) total)

-- ---- what is cut off them. 02, Req 06: "Every pool, unit, residual and contract calculation passes it up"

unfoldable pub cut_by_factor : ℕ → ℕ → ℕ → ℤ
cut_by_factor pool above below = cut_n (pool * above) million -ℤ cut_n (pool * below) million

unfoldable pub cut_by_energy : ℕ → ℕ → ℕ → ℕ → ℤ
cut_by_energy credit charge own total = cut_n (credit * own) total -ℤ cut_n (charge * own) total
