-- The balance of each kind of pool, by what its unit rows and its energies come to. Only contracts of inner functions speak of these; proofs/ ties
-- them to the balance's own definition.
use Rattle.std.specs.Prelude.{ℕ, ◌+◌, ◌*◌, Bool, false, not, cond, eqb, pos}
use Rattle.numbers.specs.Sign.{less}
use Rattle.sections.specs.Total.{total}
use Rattle.records.specs.declared.rows.Constraint.{Constraint}
use Rattle.records.specs.declared.rows.Contract.{Contract}
use Rattle.totals.specs.Inner.Energies.{Energies}
use Rattle.book.specs.Book.{Book}
use Rattle.amounts.specs.Pools.{pools_of, residual_pools}
use Rattle.accounts.specs.Inner.Energies.{energies_of}
use Rattle.recovery.specs.Recovers.{recovers, benefiting}
use Rattle.recovery.specs.ByKind.{pool_by, credit_by, charge_by}
use Rattle.recovery.specs.Inner.Shapes.{unit_rows, unit_credit, unit_charge, region_paid, shared_sum}
use Rattle.balance.specs.declared.Balance.{Balance}
use Rattle.recovery.specs.declared.kinds.Kind.{Kind}
use Rattle.recovery.specs.declared.kinds.Kind.TheVariants.{Contingency, Fpp, Used, Unused, Payment}

-- the kinds of pool that a constraint of its mode has
unfoldable pub belongs : Constraint → Kind → Bool
belongs r Contingency = eqb r.mode 0
belongs r Fpp = eqb r.mode 1
belongs r Used = eqb r.mode 1
belongs r Unused = not (eqb r.mode 0)
belongs r Payment = false

-- ---- the balance of each kind of pool, of so many accounts

unfoldable pub contingency_shape : Energies → ℕ → Constraint → Balance
contingency_shape E accounts r =
    record {
      amount = pos r.cost;
      lines = accounts;
      sum = less 0 (shared_sum E r r.cost);
    }

unfoldable pub regulation_shape : Book → ℕ → Constraint → Kind → Balance
regulation_shape B accounts r kind =
    record {
      amount = pos (recovers r kind);
      lines = unit_rows B.unit B.header.units r.id + accounts;
      sum =
          less
          (unit_credit B.unit B.header.units r.id kind (pool_by kind (pools_of r)) + shared_sum (energies_of B) r (credit_by kind (residual_pools r (pools_of r))))
          (unit_charge B.unit B.header.units r.id kind (pool_by kind (pools_of r)) + shared_sum (energies_of B) r (charge_by kind (residual_pools r (pools_of r))));
    }

-- of a constraint, by its mode
unfoldable pub constraint_shape : Book → ℕ → Constraint → Kind → Balance
constraint_shape B accounts r kind =
    cond (eqb r.mode 0) (contingency_shape (energies_of B) accounts r) (regulation_shape B accounts r kind)

-- two lines of each account in each benefiting region
unfoldable pub contract_shape : Energies → ℕ → Contract → Balance
contract_shape E accounts k =
    record {
      amount = pos k.payment;
      lines = benefiting k * (2 * accounts);
      sum = less 0 (total (region_paid E k) 5);
    }
