-- A record is the one at its place where each of its fields is. Assumes nothing.
use Prim.Native.Nat.{ℕ, ◌+◌, ◌*◌, ◌≤◌, ◌<◌}
use native.Mathlib.Omega.{arith}
use native.Mathlib.Nat.{suc-mul, le_trans, mul-le-mul_right}
use native.Mathlib.Numerals.{add-one}
use mathlib.Core.List.{List, [], ◌∷◌}
use mathlib.Core.Path.{◌≡◌}
use lib.Dec.{T, leb, leb→le}
use mir.Syntax.{w64}
use mir.Val.{Fits}
use Rattle.ground.specs.Bytes.{byte_at, u24_at, u32_at, u64_at}
use Rattle.numbers.specs.Sizes.{size_below, above_of, below_of}
use Rattle.records.specs.Rows.{entry_row, constraint_row, unit_row, energy_row, contract_row}
use Rattle.records.specs.declared.rows.Entry.{Entry}
use Rattle.records.specs.declared.rows.Constraint.{Constraint}
use Rattle.records.specs.declared.rows.UnitRow.{UnitRow}
use Rattle.records.specs.declared.rows.EnergyRow.{EnergyRow}
use Rattle.records.specs.declared.rows.Contract.{Contract}

pub entry_is_lem : (s : List ℕ) (i : ℕ) (r : Entry) → r.ace ≡ size_below (u32_at s (i * 12)) → r.asoe ≡ u32_at s (i * 12 + 4) → r.residual ≡ u32_at s (i * 12 + 8) → r ≡ entry_row s i
unfolding entry_row
entry_is_lem s i r a b c = λ j. record { ace = a j; asoe = b j; residual = c j }

pub constraint_is : (s : List ℕ) (i : ℕ) (r : Constraint) → r.id ≡ u32_at s (i * 40) → r.service ≡ byte_at s (i * 40 + 4) → r.mask ≡ byte_at s (i * 40 + 5) → r.mode ≡ byte_at s (i * 40 + 6) → r.spare ≡ byte_at s (i * 40 + 7) → r.cost ≡ u64_at s (i * 40 + 8) → r.price ≡ u32_at s (i * 40 + 16) → r.rcr ≡ u32_at s (i * 40 + 20) → r.usage ≡ u32_at s (i * 40 + 24) → r.prcf ≡ above_of (u32_at s (i * 40 + 28)) → r.nrcf ≡ below_of (u32_at s (i * 40 + 28)) → r.drcf ≡ size_below (u32_at s (i * 40 + 32)) → r.tail ≡ u32_at s (i * 40 + 36) → r ≡ constraint_row s i
unfolding constraint_row
constraint_is s i r a b c d e f g h k l m n o =
    λ j. record { id = a j; service = b j; mask = c j; mode = d j; spare = e j; cost = f j; price = g j; rcr = h j; usage = k j; prcf = l j; nrcf = m j; drcf = n j; tail = o j }

pub unit_is : (s : List ℕ) (i : ℕ) (r : UnitRow) → r.constraint ≡ u32_at s (i * 20) → r.unit ≡ u32_at s (i * 20 + 4) → r.account ≡ u32_at s (i * 20 + 8) → r.pcf ≡ above_of (u32_at s (i * 20 + 12)) → r.ncf ≡ below_of (u32_at s (i * 20 + 12)) → r.dcf ≡ size_below (u32_at s (i * 20 + 16)) → r ≡ unit_row s i
unfolding unit_row
unit_is s i r a b c d e f = λ j. record { constraint = a j; unit = b j; account = c j; pcf = d j; ncf = e j; dcf = f j }

pub energy_is : (s : List ℕ) (i : ℕ) (r : EnergyRow) → r.account ≡ u32_at s (i * 24) → r.region ≡ byte_at s (i * 24 + 4) → r.spare ≡ u24_at s (i * 24 + 5) → r.ace ≡ size_below (u32_at s (i * 24 + 8)) → r.asoe ≡ u32_at s (i * 24 + 12) → r.race ≡ size_below (u32_at s (i * 24 + 16)) → r.rasoe ≡ u32_at s (i * 24 + 20) → r ≡ energy_row s i
unfolding energy_row
energy_is s i r a b c d e f g = λ j. record { account = a j; region = b j; spare = c j; ace = d j; asoe = e j; race = f j; rasoe = g j }

pub five : {a b c d e a' b' c' d' e' : ℕ} → a ≡ a' → b ≡ b' → c ≡ c' → d ≡ d' → e ≡ e' → (a ∷ b ∷ c ∷ d ∷ e ∷ []) ≡ (a' ∷ b' ∷ c' ∷ d' ∷ e' ∷ [])
five a b c d e = λ j. a j ∷ b j ∷ c j ∷ d j ∷ e j ∷ []

pub contract_is : (s : List ℕ) (i : ℕ) (r : Contract) → r.id ≡ u32_at s (i * 36) → r.kind ≡ byte_at s (i * 36 + 4) → r.spare ≡ u24_at s (i * 36 + 5) → r.payment ≡ u64_at s (i * 36 + 8) → r.factors ≡ (u32_at s (i * 36 + 16) ∷ u32_at s (i * 36 + 20) ∷ u32_at s (i * 36 + 24) ∷ u32_at s (i * 36 + 28) ∷ u32_at s (i * 36 + 32) ∷ []) → r ≡ contract_row s i
unfolding contract_row
contract_is s i r a b c d e = λ j. record { id = a j; kind = b j; spare = c j; payment = d j; factors = e j }

-- record i of n lies within the section
pub slot : (i n k l : ℕ) → i < n → n * k ≤ l → (i + 1) * k ≤ l
slot i n k l h g = rw add-one (le_trans (mul-le-mul_right k h) g)

-- and so does its leading number
pub lead_slot : (i n k l : ℕ) → i < n → (n * k ≤ l) × (4 ≤ k) → i * k + 4 ≤ l
lead_slot i n k l h g = omega (arith, rw (add-one, suc-mul) at (slot i n k l h g.0))

-- b bytes at offset a of record i lie within the section
pub within : (i k l a b : ℕ) → T (leb (a + b) k) → (i + 1) * k ≤ l → i * k + a + b ≤ l
within i k l a b t h = omega (arith, leb→le (a + b) k t, rw (add-one, suc-mul) at h)

pub from_start : (i k l b : ℕ) → T (leb b k) → (i + 1) * k ≤ l → i * k + b ≤ l
from_start i k l b t h = omega (arith, leb→le b k t, rw (add-one, suc-mul) at h)

pub reads : (i k l a : ℕ) → T (leb (a + 1) k) → (i + 1) * k ≤ l → i * k + a < l
reads i k l a t h = omega (arith, leb→le (a + 1) k t, rw (add-one, suc-mul) at h)

-- and a place before its end is a number of 64 bits
pub before_end : (x a k : ℕ) → T (leb a k) → Fits w64 (x + k) → Fits w64 (x + a)
before_end x a k t h = record { fits = omega (arith, leb→le a k t, h.fits) }
