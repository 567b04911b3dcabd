-- The stages of each kind of pool, by what one pass over the rows meets. Only contracts of inner functions speak of these; proofs/Stages ties them to
-- the stages' own definition.
use Rattle.std.specs.Prelude.{ℕ, cond, List, [], ◌∷◌, ◌++◌, eqb, ◌-ℤ◌}
use Rattle.numbers.specs.Sign.{less}
use Rattle.ground.specs.Units.{million}
use Rattle.rules.specs.Rules.{factor_of}
use Rattle.records.specs.declared.rows.Entry.{Entry}
use Rattle.records.specs.declared.rows.Constraint.{Constraint}
use Rattle.records.specs.declared.rows.Contract.{Contract}
use Rattle.totals.specs.Divisors.{over_regions}
use Rattle.totals.specs.Inner.Energies.{Energies}
use Rattle.book.specs.Book.{Book}
use Rattle.amounts.specs.Pools.{pools_of, residual_pools}
use Rattle.accounts.specs.Rows.{joined}
use Rattle.accounts.specs.Inner.Energies.{energies_of}
use Rattle.sharing.specs.Inner.Shares.{part_cut}
use Rattle.sharing.specs.declared.shares.Part.{Part}
use Rattle.recovery.specs.ByKind.{pool_by, credit_by, charge_by}
use Rattle.recovery.specs.Inner.Shapes.{unit_cut_above, unit_cut_below, consumed_part, sent_part, shared_cut}
use Rattle.recovery.specs.declared.kinds.Kind.{Kind}
use Rattle.cutoffs.specs.Cutoffs.{pool_stage, residual_stage, whole_stage, half_stage}
use Rattle.cutoffs.specs.declared.Stage.TheVariants.{Line, Unit, Share, Ace, Asoe}
use Rattle.cutoffs.specs.declared.Cut.{Cut}
use Rattle.cutoffs.specs.declared.contracts.Side.{Side}
use Rattle.cutoffs.specs.declared.contracts.Side.TheVariants.{Consumed, SentOut}

-- ---- a constraint's

unfoldable pub line_shape : Energies → Constraint → Cut
line_shape E r = record { stage = Line; region = 0; divisor = over_regions E.entry r; cut = shared_cut E r r.cost }

unfoldable pub unit_shape : Book → Constraint → Kind → Cut
unit_shape B r kind =
    record {
      stage = Unit;
      region = 0;
      divisor = million;
      cut = less (unit_cut_above B.unit B.header.units r.id kind (pool_by kind (pools_of r))) (unit_cut_below B.unit B.header.units r.id kind (pool_by kind (pools_of r)));
    }

unfoldable pub share_shape : Energies → Constraint → Kind → Cut
share_shape E r kind =
    record {
      stage = Share;
      region = 0;
      divisor = over_regions E.entry r;
      cut = shared_cut E r (credit_by kind (residual_pools r (pools_of r))) -ℤ shared_cut E r (charge_by kind (residual_pools r (pools_of r)));
    }

unfoldable pub regulation_shapes : Book → Constraint → Kind → List Cut
regulation_shapes B r kind =
    cond (eqb r.mode 1) (pool_stage r kind ∷ []) []
    ++ (unit_shape B r kind ∷ residual_stage r kind ∷ share_shape (energies_of B) r kind ∷ [])

unfoldable pub constraint_shapes : Book → Constraint → Kind → List Cut
constraint_shapes B r kind = cond (eqb r.mode 0) (line_shape (energies_of B) r ∷ []) (regulation_shapes B r kind)

-- ---- a contract's, by the energies of the book that settles it

-- a half of region g's part, as its lines share it
unfoldable pub half_part : Side → (ℕ → Entry) → Contract → ℕ → Part
half_part Consumed entry k g = consumed_part entry k g
half_part SentOut entry k g = sent_part entry k g

unfoldable pub ace_shape : Energies → Contract → ℕ → Cut
ace_shape E k g =
    record { stage = Ace; region = g; divisor = (E.entry g).ace; cut = part_cut (consumed_part E.entry k g) E.row E.rows }

unfoldable pub asoe_shape : Energies → Contract → ℕ → Cut
asoe_shape E k g =
    record { stage = Asoe; region = g; divisor = (E.entry g).asoe; cut = part_cut (sent_part E.entry k g) E.row E.rows }

unfoldable pub region_shapes : Energies → Contract → ℕ → List Cut
region_shapes E k g =
    cond (eqb (factor_of k.factors g) 0) [] (whole_stage k g ∷ half_stage k g ∷ ace_shape E k g ∷ asoe_shape E k g ∷ [])

unfoldable pub contract_shapes : Energies → Contract → List Cut
contract_shapes E k = joined (region_shapes E k) 5
