-- Check 5's ranges of the numbers that have a sign, and check 8's and check 9's sums, over whole numbers with their signs.
use Rattle.std.specs.Prelude.{ℕ, ◌≤◌, ◌<◌, ◌≡◌, cond, ◌↔◌, eqb, ℤ, pos, neg_ℤ, ◌+ℤ◌}
use Rattle.numbers.specs.Sizes.{InRange}
use Rattle.ground.specs.Units.{million, money_limit, energy_limit}
use Rattle.book.specs.Book.{Book}
use Rattle.guide.specs.Numbers.{sum, min0, whole_factor}
use Rattle.guide.specs.Signed.{SignedConstraint, SignedUnit, SignedEnergy, te, SignedBook}

-- ---- 5

-- "-20,000,000 to 0", "0 to 20,000,000", "within 1,000,000 either way": a test of the size that is read, and the number's range
abbrev UpToZero : ℕ → ℕ → ℤ → Type 0
UpToZero limit size z = (size ≤ limit) ↔ InRange (neg_ℤ (pos limit)) (pos 0) z

abbrev FromZero : ℕ → ℕ → ℤ → Type 0
FromZero limit size z = (size ≤ limit) ↔ InRange (pos 0) (pos limit) z

abbrev EitherWay : ℕ → ℕ → ℕ → ℤ → Type 0
EitherWay limit above below z = ((above ≤ limit) × (below ≤ limit)) ↔ InRange (neg_ℤ (pos limit)) (pos limit) z

-- 5: "a field outside the rules above". The tests are of sizes (records/specs/Rules.antt), B's, and each holds exactly where the number of S,
-- with its sign, lies in the range that 01, The book, gives it.
pub record RangesAgree (B : Book) (S : SignedBook) : Type 0 where
  -- "total ACE (i32, -20,000,000 to 0), total ASOE (i32, 0 to 20,000,000), residual total (i32, 0 to 20,000,000)"
  pub total_ace : (g : ℕ) → UpToZero energy_limit (B.entry g).ace (S.entry g).ace
  pub total_asoe : (g : ℕ) → FromZero energy_limit (B.entry g).asoe (S.entry g).asoe
  pub residual : (g : ℕ) → FromZero energy_limit (B.entry g).residual (S.entry g).residual
  -- "cost i64, 0 to 50,000,000,000", "RCF i32, within 1,000,000 either way; DRCF i32, -1,000,000 to 0"
  pub cost : (j : ℕ) → FromZero money_limit (B.constraint j).cost (S.constraint j).cost
  pub rcf : (j : ℕ) → EitherWay million (B.constraint j).prcf (B.constraint j).nrcf (S.constraint j).rcf
  pub drcf : (j : ℕ) → UpToZero million (B.constraint j).drcf (S.constraint j).drcf
  -- "CF i32, within 1,000,000 either way; DCF i32, -1,000,000 to 0"
  pub cf : (u : ℕ) → EitherWay million (B.unit u).pcf (B.unit u).ncf (S.unit u).cf
  pub dcf : (u : ℕ) → UpToZero million (B.unit u).dcf (S.unit u).dcf
  -- "ACE (i32, -20,000,000 to 0); ASOE (i32, 0 to 20,000,000)"
  pub ace : (i : ℕ) → UpToZero energy_limit (B.energy i).ace (S.energy i).ace
  pub asoe : (i : ℕ) → FromZero energy_limit (B.energy i).asoe (S.energy i).asoe
  -- "residual ACE, from ACE up to 0; residual ASOE, from 0 up to ASOE", where ACE and ASOE keep their own
  pub rest_ace : (i : ℕ) → (B.energy i).ace ≤ energy_limit
      → ((B.energy i).race ≤ (B.energy i).ace) ↔ InRange (S.energy i).ace (pos 0) (S.energy i).rest_ace
  pub rest_asoe : (i : ℕ) → (B.energy i).asoe ≤ energy_limit
      → ((B.energy i).rasoe ≤ (B.energy i).asoe) ↔ InRange (pos 0) (S.energy i).asoe (S.energy i).rest_asoe
  -- "payment i64, 0 to 50,000,000,000"
  pub payment : (k : ℕ) → FromZero money_limit (B.contract k).payment (S.contract k).payment

-- ---- 8

-- a number of the unit rows that name the constraint, summed
unfoldable pub unit_sum : SignedBook → SignedConstraint → (SignedUnit → ℤ) → ℤ
unit_sum S r x = sum (λ u. cond (eqb (S.unit u).constraint r.id) (x (S.unit u)) (pos 0)) S.header.units

-- 8: "mode 1: CFs + RCF = 0; negative CFs + min(0, RCF) = -1,000,000. Mode 2: every CF is 0. Modes 1 and 2: DCFs + DRCF = -1,000,000."
-- 002, FPP calculations: Sum(CF) + RCF = 0; Sum(NCF) + NRCF = -1; Sum(DCF) + DRCF = -1
pub record FactorSums (S : SignedBook) (r : SignedConstraint) : Type 0 where
  pub whole : r.mode ≡ 1 → unit_sum S r (λ q. q.cf) +ℤ r.rcf ≡ pos 0
  pub negatives : r.mode ≡ 1 → unit_sum S r (λ q. min0 q.cf) +ℤ min0 r.rcf ≡ neg_ℤ whole_factor
  pub none : r.mode ≡ 2 → (u : ℕ) → u < S.header.units → (S.unit u).constraint ≡ r.id → (S.unit u).cf ≡ pos 0
  pub defaults : (r.mode ≡ 0 → ⊥) → unit_sum S r (λ q. q.dcf) +ℤ r.drcf ≡ neg_ℤ whole_factor

-- ---- 9

-- a number of the energy rows in region g, summed
unfoldable pub region_sum : SignedBook → ℕ → (SignedEnergy → ℤ) → ℤ
region_sum S g x = sum (λ i. cond (eqb (S.energy i).region g) (x (S.energy i)) (pos 0)) S.header.energies

-- 9: "a region entry differs from its rows' sums"; "residual total (.. sum of |residual ACE| + |residual ASOE|)"
pub record EntrySums (S : SignedBook) (g : ℕ) : Type 0 where
  pub ace : (S.entry g).ace ≡ region_sum S g (λ r. r.ace)
  pub asoe : (S.entry g).asoe ≡ region_sum S g (λ r. r.asoe)
  pub residual : (S.entry g).residual ≡ region_sum S g te
