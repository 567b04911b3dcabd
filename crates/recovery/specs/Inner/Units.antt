-- The sums over a constraint's unit rows, row by row. Only contracts of inner functions speak of these.
use Rattle.std.specs.Prelude.{ℕ, zero, suc, ◌+◌, ◌*◌, ◌≤◌, ◌<◌, ◌≡◌, Bool, true, false, eqb, ℤ, nat_abs}
use Rattle.numbers.specs.Sign.{less}
use Rattle.numbers.specs.Round.{round_n}
use Rattle.ground.specs.Units.{million, money_limit}
use Rattle.records.specs.declared.rows.UnitRow.{UnitRow}
use Rattle.factors.specs.Naming.{key_of}
use Rattle.recovery.specs.ByKind.{above_by, below_by}
use Rattle.recovery.specs.Inner.Shapes.{unit_rows, unit_credit, unit_charge, unit_cut_above, unit_cut_below}
use Rattle.recovery.specs.declared.kinds.Kind.{Kind}
use Rattle.recovery.specs.declared.units.UnitSums.{UnitSums}

-- row q of the constraint added to the sums t
pub record RowAdded (t : UnitSums) (q : UnitRow) (kind : Kind) (pool : ℕ) (x : UnitSums) : Type 0 where
  pub rows : x.rows ≡ t.rows + 1
  pub credit : x.credit ≡ t.credit + round_n (pool * above_by kind q) million
  pub charge : x.charge ≡ t.charge + round_n (pool * below_by kind q) million

-- the sums over the first u of the rows, and how large they can be
pub record SumsAre (unit : ℕ → UnitRow) (m id : ℕ) (kind : Kind) (pool u : ℕ) (x : UnitSums) : Type 0 where
  pub within : u ≤ m
  pub rows : x.rows ≡ unit_rows unit u id
  pub credit : x.credit ≡ unit_credit unit u id kind pool
  pub charge : x.charge ≡ unit_charge unit u id kind pool
  pub few : x.rows ≤ u
  pub credit_small : x.credit ≤ u * money_limit
  pub charge_small : x.charge ≤ u * money_limit

-- what was cut off the first u of the rows, and how large that can be: at most 600 of at most 1,000,000 each
pub record CutsAre (unit : ℕ → UnitRow) (m id : ℕ) (kind : Kind) (pool u : ℕ) (x : ℤ) : Type 0 where
  pub within : u ≤ m
  pub cut : x ≡ less (unit_cut_above unit u id kind pool) (unit_cut_below unit u id kind pool)
  pub small : nat_abs x ≤ u * million

-- ---- what calls of a function make of a value, by what each says of its result: post

-- a call of it, or none
abbrev pub Called : {T : Type 0} → Bool → (T → Type 0) → (T → T → Type 0) → T → Type 0
Called {T} true before post x = (y : T) × (before y × post y x)
Called false before post x = before x

-- one call for each of the first u rows that is the constraint's
unfoldable pub Made : {T : Type 0} → (T → UnitRow → T → Type 0) → (ℕ → UnitRow) → ℕ → T → ℕ → T → Type 0
Made post unit id start zero x = x ≡ start
Made post unit id start (suc u) x = Called (eqb (key_of unit u) id) (Made post unit id start u) (λ y z. post y (unit u) z) x

-- the function may be called of each of the m rows that is the constraint's, after the calls for those before it
abbrev pub Adds : {T : Type 0} → (ℕ → UnitRow) → ℕ → ℕ → (T → UnitRow → Type 0) → (T → UnitRow → T → Type 0) → T → Type 0
Adds {T} unit m id pre post start = (u : ℕ) (x : T) → u < m → Made post unit id start u x → pre x (unit u)
