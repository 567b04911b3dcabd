-- Why a balance is not nil: amount plus sum is what the roundings of the pool cut off, to the last fraction. 02, Req 06: "Finance asks why a balance
-- isn't nil. Let the rounding operation answer what it cut off, as a signed numerator (exact less rounded) over its divisor".
use Rattle.std.specs.Prelude.{ℕ, ◌*◌, ◌<◌, ◌≡◌, List, [], ◌∷◌, ℤ, pos, neg_ℤ, ◌+ℤ◌, ◌-ℤ◌, ◌*ℤ◌}
use Rattle.numbers.specs.Round.{round_n}
use Rattle.ground.specs.Units.{million}
use Rattle.records.specs.declared.rows.Constraint.{Constraint}
use Rattle.records.specs.declared.rows.Contract.{Contract}
use Rattle.rules.specs.Rules.{factor_of}
use Rattle.book.specs.Book.{Book}
use Rattle.amounts.specs.Pools.{pools_of, halves_of}
use Rattle.amounts.specs.declared.pools.Halves.{Halves}
use Rattle.accounts.specs.Rows.{sum_of}
use Rattle.accounts.specs.Account.{rows_of_account, own_energy}
use Rattle.recovery.specs.declared.kinds.Kind.TheVariants.{Fpp, Used, Unused}
use Rattle.balance.specs.Pools.{Pool}
use Rattle.balance.specs.Balance.{line_sum}
use Rattle.cutoffs.specs.Cutoffs.{pool_stage, part_over, whole_stage, half_stage, ace_stage, asoe_stage, stages_in}
use Rattle.cutoffs.specs.declared.Stage.{Stage}
use Rattle.cutoffs.specs.declared.Stage.TheVariants.{Line, Unit, Residual, Share, Whole, Half, Ace, Asoe}
use Rattle.cutoffs.specs.declared.Stage.TheVariants as stage
use Rattle.cutoffs.specs.declared.Cut.{Cut}

-- ---- fractions

-- a numerator over a divisor
pub record Fraction : Type 0 where
  pub over : ℤ
  pub under : ℕ

-- a/b + c/d = (a x d + c x b) / (b x d)
unfoldable pub plus : Fraction → Fraction → Fraction
plus x y = record { over = x.over *ℤ pos y.under +ℤ y.over *ℤ pos x.under; under = x.under * y.under }

-- 0/1
unfoldable pub nil : Fraction
nil = record { over = pos 0; under = 1 }

-- ---- what a pool's stages say of its balance

-- How what a stage cut off stands in amount plus sum. The lines of contingency and contracts are minus what was rounded, so what was cut off is left to
-- recover; those of regulation are what was rounded itself, so it is missing in the sum. Two stages do not enter: the lines share a pool as it was
-- rounded, and the amount to recover is that one (none for FPP); and what the one half of a part lacks the other half has
unfoldable pub entering : Stage → ℤ → ℤ
entering Line cut = cut
entering stage.Pool cut = pos 0
entering Unit cut = neg_ℤ cut
entering Residual cut = neg_ℤ cut
entering Share cut = neg_ℤ cut
entering Whole cut = cut
entering Half cut = pos 0
entering Ace cut = cut
entering Asoe cut = cut

-- of one stage: that over its divisor
unfoldable pub left_by : Cut → Fraction
left_by c = record { over = entering c.stage c.cut; under = c.divisor }

-- of all stages of a pool together
unfoldable pub said_by : List Cut → Fraction
said_by [] = nil
said_by (c ∷ cs) = plus (left_by c) (said_by cs)

-- amount plus sum is what the stages say, exactly
pub record Explained (B L : Book) (p : Pool) : Type 0 where
  pub exact : (pos p.amount +ℤ line_sum B L p) *ℤ pos (said_by (stages_in B L p)).under ≡ (said_by (stages_in B L p)).over
  -- and it says something: no divisor is 0
  pub above : 0 < (said_by (stages_in B L p)).under

-- ---- stage by stage: rounded, times the divisor, and what was cut off make the exact number

-- a factored constraint's pools
pub record PoolsExact (r : Constraint) : Type 0 where
  -- "FPP pool = round(price x RCR / 120)."
  pub fpp : pos (pools_of r).fpp *ℤ pos 120 +ℤ (pool_stage r Fpp).cut ≡ pos (r.price * r.rcr)
  -- "used = round(cost x usage / 1,000,000)"
  pub used : pos (pools_of r).used *ℤ pos million +ℤ (pool_stage r Used).cut ≡ pos (r.cost * r.usage)
  -- "unused = cost - used."
  pub unused : pos (pools_of r).unused *ℤ pos million +ℤ (pool_stage r Unused).cut ≡ pos (r.cost * million) -ℤ pos (r.cost * r.usage)

-- the two halves of a contract's part in region g
abbrev pub halves_in : Contract → ℕ → Halves
halves_in k g = halves_of k.payment (factor_of k.factors g)

-- what all accounts pay of them: "The account's two lines are -round(half x own / region total), by ACE and ASOE."
unfoldable pub paid_by_ace : Book → List ℕ → Contract → ℕ → ℕ
paid_by_ace E accounts k g = sum_of (λ a. round_n ((halves_in k g).consumed * (own_energy (rows_of_account E a).energies g).ace) (E.entry g).ace) accounts

unfoldable pub paid_by_asoe : Book → List ℕ → Contract → ℕ → ℕ
paid_by_asoe E accounts k g = sum_of (λ a. round_n ((halves_in k g).sent * (own_energy (rows_of_account E a).energies g).asoe) (E.entry g).asoe) accounts

-- a contract in a region that it benefits; E is the book that settles it
pub record RegionExact (E : Book) (accounts : List ℕ) (k : Contract) (g : ℕ) : Type 0 where
  -- "r = round(payment x factor / 1,000,000)."
  pub whole : pos (round_n (part_over k g) million) *ℤ pos million +ℤ (whole_stage k g).cut ≡ pos (k.payment * factor_of k.factors g)
  -- "The consumed half is r / 2, an odd r rounded up; the sent-out half is the rest."
  pub consumed : pos (halves_in k g).consumed *ℤ pos 2 +ℤ (half_stage k g).cut ≡ pos (round_n (part_over k g) million)
  pub sent : pos (halves_in k g).sent *ℤ pos 2 -ℤ (half_stage k g).cut ≡ pos (round_n (part_over k g) million)
  -- what is not paid of each half
  pub ace : (pos (halves_in k g).consumed -ℤ pos (paid_by_ace E accounts k g)) *ℤ pos (E.entry g).ace ≡ (ace_stage E accounts k g).cut
  pub asoe : (pos (halves_in k g).sent -ℤ pos (paid_by_asoe E accounts k g)) *ℤ pos (E.entry g).asoe ≡ (asoe_stage E accounts k g).cut
