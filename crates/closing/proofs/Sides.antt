-- A factor with a sign lies above 0 or below, and not both: so a rounding by it cuts off at most half of its divisor. Assumes nothing.
use Prim.Native.Nat.{ℕ, zero, suc, ◌+◌, ◌*◌, ◌≤◌, ◌<◌}
use mathlib.Core.Path.{◌≡◌, refl, sym, ◌∙◌}
use mathlib.Core.Bool.{Bool, true, false, cond}
use mathlib.Core.List.{List}
use mathlib.Core.Logic.{◌⊎◌, inl, inr, ⊎_elim}
use native.Mathlib.Omega.{arith}
use native.Mathlib.Nat.{le_refl, zero-mul}
use lib.Dec.{ltb}
use lib.IntN.{nat_abs, ◌-ℤ◌}
use Rattle.numbers.specs.Round.{round_n, cut_n}
use Rattle.numbers.specs.Sign.{less}
use Rattle.numbers.specs.Sizes.{size_below, above_of, below_of}
use Rattle.numbers.proofs.Rounding.{half_above, half_below, share_nothing, half, cut_sides}
use Rattle.ground.specs.Units.{million}
use Rattle.sections.specs.Total.{total}
use Rattle.records.specs.Rows.{constraint_row, unit_row}
use Rattle.records.specs.declared.rows.Constraint.{Constraint}
use Rattle.records.specs.declared.rows.UnitRow.{UnitRow}
use Rattle.book.specs.Book.{Book, book_of}
use Rattle.amounts.specs.Pools.{residual_pools}
use Rattle.amounts.specs.declared.pools.Pools.{Pools}
use Rattle.recovery.specs.ByKind.{rest_above, rest_below, above_by, below_by, pool_by, credit_by, charge_by, factor_above, factor_below}
use Rattle.recovery.specs.Inner.Shapes.{cut_above}
use Rattle.recovery.specs.declared.kinds.Kind.{Kind}
use Rattle.recovery.specs.declared.kinds.Kind.TheVariants.{Contingency, Fpp, Used, Unused, Payment}

-- ---- of the bytes

pub record OneSided (B : Book) : Type 0 where
  pub units : (u : ℕ) → ((B.unit u).pcf ≡ 0) ⊎ ((B.unit u).ncf ≡ 0)
  pub constraints : (j : ℕ) → ((B.constraint j).prcf ≡ 0) ⊎ ((B.constraint j).nrcf ≡ 0)

-- bits are a number above 0 or one below
one_side : (w : ℕ) → (above_of w ≡ 0) ⊎ (below_of w ≡ 0)
unfolding above_of below_of
one_side w = by (ltb w 2_147_483_648)
  where
    by : (t : Bool) → (cond t w 0 ≡ 0) ⊎ (cond t 0 (size_below w) ≡ 0)
    by true = inr refl
    by false = inl refl

-- so of every row of a book
pub one_sided : (b : List ℕ) → OneSided (book_of b)
unfolding unit_row constraint_row
one_sided b = record { units = λ u. one_side _; constraints = λ j. one_side _ }

-- ---- by kind

-- a unit row's factor
pub unit_side : (kind : Kind) (q : UnitRow) → (q.pcf ≡ 0) ⊎ (q.ncf ≡ 0) → (above_by kind q ≡ 0) ⊎ (below_by kind q ≡ 0)
unfolding factor_above factor_below
unit_side Contingency q s = inl refl
unit_side Fpp q s = s
unit_side Used q s = inl refl
unit_side Unused q s = inl refl
unit_side Payment q s = inl refl

-- the residual's
pub rest_side : (kind : Kind) (r : Constraint) → (r.prcf ≡ 0) ⊎ (r.nrcf ≡ 0) → (rest_above kind r ≡ 0) ⊎ (rest_below kind r ≡ 0)
unfolding factor_above factor_below
rest_side Contingency r s = inl refl
rest_side Fpp r s = s
rest_side Used r s = inl refl
rest_side Unused r s = inl refl
rest_side Payment r s = inl refl

-- ---- residual pools: a pool by the residual's factor, each side rounded

module _ (r : Constraint) (x : Pools) where
  -- what is credited
  pub rest_credit : (kind : Kind) → round_n (pool_by kind x * rest_above kind r) million ≡ credit_by kind (residual_pools r x)
  unfolding pool_by factor_above credit_by residual_pools
  rest_credit Contingency = refl
  rest_credit Fpp = refl
  rest_credit Used = sym (share_nothing x.used million refl)
  rest_credit Unused = sym (share_nothing x.unused million refl)
  rest_credit Payment = refl

  -- what is charged
  pub rest_charge : (kind : Kind) → round_n (pool_by kind x * rest_below kind r) million ≡ charge_by kind (residual_pools r x)
  unfolding pool_by factor_below charge_by residual_pools
  rest_charge Contingency = refl
  rest_charge Fpp = refl
  rest_charge Used = refl
  rest_charge Unused = refl
  rest_charge Payment = refl

  -- one of the two is 0
  pub pools_side : (kind : Kind) → (rest_above kind r ≡ 0) ⊎ (rest_below kind r ≡ 0) → (credit_by kind (residual_pools r x) ≡ 0) ⊎ (charge_by kind (residual_pools r x) ≡ 0)
  pools_side kind s =
      ⊎_elim
      (λ (e : rest_above kind r ≡ 0). inl (sym (share_nothing (pool_by kind x) million e ∙ rest_credit kind)))
      (λ (e : rest_below kind r ≡ 0). inr (sym (share_nothing (pool_by kind x) million e ∙ rest_charge kind)))
      s

-- ---- sizes

-- one side of a multiple is 0 too
pub times_side : (x a b : ℕ) → (a ≡ 0) ⊎ (b ≡ 0) → (a * x ≡ 0) ⊎ (b * x ≡ 0)
times_side x a b s = ⊎_elim (λ (e : a ≡ 0). inl (rw e (zero-mul x))) (λ (e : b ≡ 0). inr (rw e (zero-mul x))) s

-- a rounding of which one side is 0
pub cut_small : (a b d : ℕ) → 0 < d → (a ≡ 0) ⊎ (b ≡ 0) → 2 * nat_abs (cut_n a d -ℤ cut_n b d) ≤ d
cut_small a b d l s = rw (← cut_sides a b d s) (half (less a b) d l)

-- numbers of at most n halves of d each, by what lies above and below
pub total_halves : (f g n : ℕ → ℕ) (d m : ℕ) → ((u : ℕ) → u < m → 2 * f u ≤ 2 * g u + n u * d) → 2 * total f m ≤ 2 * total g m + total n m * d
unfolding total
total_halves f g n d zero h = omega arith
total_halves f g n d (suc m) h = omega (arith, total_halves f g n d m (λ u l. h u (omega arith)), h m (le_refl (suc m)))

-- of a unit row: what lies above against what lies below
pub above_halves : (pool a b : ℕ) → (a ≡ 0) ⊎ (b ≡ 0) → 2 * cut_above pool a b ≤ 2 * cut_above pool b a + million
unfolding cut_above
above_halves pool a b s =
    ⊎_elim
    (λ (e : a ≡ 0). rw (← share_nothing pool million e, e) (omega (arith, half_below (pool * b) million (omega arith))))
    (λ (e : b ≡ 0). rw (← share_nothing pool million e, e) (omega (arith, half_above (pool * a) million (omega arith))))
    s
