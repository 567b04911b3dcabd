-- What the sums of a pool rest on. Only contracts between our own functions speak of these.
use Rattle.std.specs.Prelude.{ℕ, ◌+◌, ◌*◌, ◌≤◌, ◌<◌, ◌≡◌, cond, List, eqb, ℤ, nat_abs, length, get_or}
use Rattle.numbers.specs.Round.{round_n}
use Rattle.ground.specs.Units.{million, money_limit, total_limit}
use Rattle.sections.specs.Total.{total}
use Rattle.rules.specs.Rules.{factor_of}
use Rattle.records.specs.declared.rows.Entry.{Entry}
use Rattle.records.specs.declared.rows.Constraint.{Constraint}
use Rattle.records.specs.declared.rows.Contract.{Contract}
use Rattle.records.specs.declared.rows.EnergyRow.{EnergyRow}
use Rattle.totals.specs.Inner.Energies.{Energies}
use Rattle.totals.specs.Inner.Facts.{Funded}
use Rattle.amounts.specs.Pools.{halves_of}
use Rattle.recovery.specs.Recovers.{benefiting}
use Rattle.recovery.specs.Inner.Shapes.{shared_sum, shared_cut, region_paid}
use Rattle.recovery.specs.declared.contracts.Paid.{Paid}
use Rattle.recovery.specs.declared.contracts.Recovered.{Recovered}

-- a contract whose payment can be shared by these energies: each region that it benefits has both
pub record PaidBy (entry : ℕ → Entry) (k : Contract) : Type 0 where
  pub payment : k.payment ≤ money_limit
  pub factor : (g : ℕ) → g < 5 → factor_of k.factors g ≤ million
  pub funded : (g : ℕ) → g < 5 → (factor_of k.factors g ≡ 0 → ⊥) → Funded (entry g)

-- what an amount that is shared over a constraint's regions comes to
pub record PartIs (E : Energies) (r : Constraint) (amount x : ℕ) : Type 0 where
  pub sum : x ≡ shared_sum E r amount
  pub small : x ≤ 51_200_000_000_000

-- and what was cut off its shares
pub record CutIs (E : Energies) (r : Constraint) (amount : ℕ) (x : ℤ) : Type 0 where
  pub cut : x ≡ shared_cut E r amount
  pub small : nat_abs x ≤ 51_200_000_000

-- how many regions a contract benefits, and what all accounts pay in them
pub record PaidIs (E : Energies) (k : Contract) (x : Paid) : Type 0 where
  pub regions : x.regions ≡ benefiting k
  pub charge : x.charge ≡ total (region_paid E k) 5
  pub few : x.regions ≤ 5
  pub small : x.charge ≤ 102_400_000_000_000

-- ---- a contract's payment row by row, from a list that has what each region recovers

-- what a contract recovers in region g: the two halves of its payment there, and the energies that share them
abbrev pub part_in : (ℕ → Entry) → Contract → ℕ → Recovered
part_in entry k g =
    let x = halves_of k.payment (factor_of k.factors g) in
    record { factor = factor_of k.factors g; consumed = x.consumed; sent = x.sent; ace = (entry g).ace; asoe = (entry g).asoe }

-- what a list has of region g
abbrev pub of_region : List Recovered → ℕ → Recovered
of_region parts g = get_or parts g (record { factor = 0; consumed = 0; sent = 0; ace = 0; asoe = 0 })

-- the first m of the five are those of the first m regions
pub record PartsAre (entry : ℕ → Entry) (k : Contract) (m : ℕ) (parts : List Recovered) : Type 0 where
  pub long : length parts ≡ 5
  pub each : (g : ℕ) → g < m → of_region parts g ≡ part_in entry k g

-- a row's rounded shares of two halves, each by its energy of a total
abbrev pub two_shares : Recovered → EnergyRow → ℕ
two_shares p r = round_n (p.consumed * r.ace) p.ace + round_n (p.sent * r.asoe) p.asoe

-- what the account of a row pays of p, where the contract benefits its region
abbrev pub pays_of : Recovered → EnergyRow → ℕ
pays_of p r = cond (eqb p.factor 0) 0 (two_shares p r)

-- what the account of a row pays for its region
unfoldable pub row_pays : List Recovered → EnergyRow → ℕ
row_pays parts r = pays_of (of_region parts r.region) r

-- an energy of a whole can be given its share of a half
pub record Fair (half own whole : ℕ) : Type 0 where
  pub small : half ≤ money_limit
  pub within : own ≤ whole
  pub above : 0 < whole
  pub below : whole ≤ total_limit

-- so can both energies of a row, where the contract benefits its region
pub record Payable (parts : List Recovered) (r : EnergyRow) : Type 0 where
  pub region : r.region < 5
  pub ace : let p = of_region parts r.region in (p.factor ≡ 0 → ⊥) → Fair p.consumed r.ace p.ace
  pub asoe : let p = of_region parts r.region in (p.factor ≡ 0 → ⊥) → Fair p.sent r.asoe p.asoe

-- and those of n rows
pub record AllPayable (parts : List Recovered) (energy : ℕ → EnergyRow) (n : ℕ) : Type 0 where
  pub few : n ≤ 1024
  pub row : (i : ℕ) → i < n → Payable parts (energy i)
