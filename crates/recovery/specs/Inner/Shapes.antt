-- What a pool comes to over all accounts, as one pass over the rows meets it: what unit rows give and take by a factor, and what is shared by
-- energy. Only contracts between our own functions speak of these.
use Rattle.std.specs.Prelude.{ℕ, ◌+◌, ◌*◌, ◌^◌, cond, eqb, ℤ}
use Rattle.numbers.specs.Round.{round_n}
use Rattle.ground.specs.Units.{million}
use Rattle.market.specs.Kinds.{basis_of}
use Rattle.market.specs.declared.Basis.TheVariants as basis
use Rattle.rules.specs.Rules.{factor_of}
use Rattle.records.specs.declared.rows.Entry.{Entry}
use Rattle.records.specs.declared.rows.Constraint.{Constraint}
use Rattle.records.specs.declared.rows.UnitRow.{UnitRow}
use Rattle.records.specs.declared.rows.Contract.{Contract}
use Rattle.factors.specs.Factors.{sum_over}
use Rattle.totals.specs.Divisors.{over_regions}
use Rattle.totals.specs.Inner.Energies.{Energies}
use Rattle.amounts.specs.Pools.{pools_of, residual_pools, halves_of}
use Rattle.sharing.specs.Inner.Shares.{part_sum, part_cut}
use Rattle.sharing.specs.declared.shares.Part.{Part}
use Rattle.recovery.specs.Recovers.{recovers}
use Rattle.recovery.specs.ByKind.{above_by, below_by, pool_by, credit_by, charge_by}
use Rattle.recovery.specs.declared.kinds.Kind.{Kind}
use Rattle.recovery.specs.declared.kinds.Recovery.{Recovery}

-- what a pool of this kind rests on
unfoldable pub recovery_of : Constraint → Kind → Recovery
recovery_of r kind =
    record {
      amount = recovers r kind;
      pool = pool_by kind (pools_of r);
      credit = credit_by kind (residual_pools r (pools_of r));
      charge = charge_by kind (residual_pools r (pools_of r));
    }

-- ---- unit rows

-- how many unit rows a constraint has
unfoldable pub unit_rows : (ℕ → UnitRow) → ℕ → ℕ → ℕ
unit_rows unit m id = sum_over unit m id (λ q. 1)

-- what its unit rows are credited of a pool, and charged
unfoldable pub unit_credit : (ℕ → UnitRow) → ℕ → ℕ → Kind → ℕ → ℕ
unit_credit unit m id kind pool = sum_over unit m id (λ q. round_n (pool * above_by kind q) million)

unfoldable pub unit_charge : (ℕ → UnitRow) → ℕ → ℕ → Kind → ℕ → ℕ
unit_charge unit m id kind pool = sum_over unit m id (λ q. round_n (pool * below_by kind q) million)

-- what their lines cut off: what lies above 0 less what lies below, of a row its exact share with the rounded one of the other side, in millionths
unfoldable pub cut_above : ℕ → ℕ → ℕ → ℕ
cut_above pool above below = pool * above + round_n (pool * below) million * million

unfoldable pub unit_cut_above : (ℕ → UnitRow) → ℕ → ℕ → Kind → ℕ → ℕ
unit_cut_above unit m id kind pool = sum_over unit m id (λ q. cut_above pool (above_by kind q) (below_by kind q))

unfoldable pub unit_cut_below : (ℕ → UnitRow) → ℕ → ℕ → Kind → ℕ → ℕ
unit_cut_below unit m id kind pool = sum_over unit m id (λ q. cut_above pool (below_by kind q) (above_by kind q))

-- ---- shared by energy

-- an amount shared over a constraint's regions
unfoldable pub part_of : (ℕ → Entry) → Constraint → ℕ → Part
part_of entry r amount = record { amount = amount; whole = over_regions entry r; mask = r.mask; basis = basis_of r.service }

-- the two halves of a contract's payment in region g
unfoldable pub consumed_part : (ℕ → Entry) → Contract → ℕ → Part
consumed_part entry k g =
    record { amount = (halves_of k.payment (factor_of k.factors g)).consumed; whole = (entry g).ace; mask = 2 ^ g; basis = basis.Ace }

unfoldable pub sent_part : (ℕ → Entry) → Contract → ℕ → Part
sent_part entry k g =
    record { amount = (halves_of k.payment (factor_of k.factors g)).sent; whole = (entry g).asoe; mask = 2 ^ g; basis = basis.Asoe }

-- what all accounts pay in region g, where the contract benefits it
unfoldable pub region_paid : Energies → Contract → ℕ → ℕ
region_paid E k g =
    cond (eqb (factor_of k.factors g) 0) 0
    (part_sum (consumed_part E.entry k g) E.row E.rows + part_sum (sent_part E.entry k g) E.row E.rows)

-- what an amount that is shared over a constraint's regions comes to over all accounts
abbrev pub shared_sum : Energies → Constraint → ℕ → ℕ
shared_sum E r amount = part_sum (part_of E.entry r amount) E.row E.rows

-- and what was cut off these shares
abbrev pub shared_cut : Energies → Constraint → ℕ → ℤ
shared_cut E r amount = part_cut (part_of E.entry r amount) E.row E.rows
