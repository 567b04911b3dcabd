-- The pools of a book, in book order, and the lines of each. 01, Balance: "pools are numbered from 0 in book order: one for a mode 0 constraint,
-- three for mode 1 (FPP, used, unused), one for mode 2, one for a contract."
use Rattle.std.specs.Prelude.{ℕ, zero, suc, [], List, ◌∷◌, ◌++◌, Bool, cond, ◌&&◌, ◌||◌, eqb}
use Rattle.records.specs.declared.rows.Constraint.{Constraint}
use Rattle.records.specs.declared.rows.Contract.{Contract}
use Rattle.accounts.specs.Rows.{concat_map}
use Rattle.accounts.specs.Account.{Public}
use Rattle.statement.specs.declared.Line.{Line}
use Rattle.recovery.specs.Recovers.{recovers, benefiting}
use Rattle.recovery.specs.declared.kinds.Kind.{Kind}
use Rattle.recovery.specs.declared.kinds.Kind.TheVariants.{Contingency, Fpp, Used, Unused, Payment}

-- the record that a pool is of
pub data Source : Type 0 where
  of_constraint : Constraint → Source
  of_contract : Contract → Source

-- a pool: the record that it is of, and its id, which of its lines, the amount to recover, and how many amounts are rounded before its lines are
pub record Pool : Type 0 where
  pub source : Source
  pub id : ℕ
  pub kind : Kind
  pub amount : ℕ
  pub stages : ℕ

-- ---- a constraint's pools

-- "one half more for a regulation or FPP pool": its residual pool is rounded before it is shared
unfoldable pub stages_of : Kind → ℕ
stages_of Contingency = 0
stages_of Fpp = 1
stages_of Used = 1
stages_of Unused = 1
stages_of Payment = 0

unfoldable pub constraint_pool : Constraint → Kind → Pool
constraint_pool r kind = record { source = of_constraint r; id = r.id; kind = kind; amount = recovers r kind; stages = stages_of kind }

-- "one for a mode 0 constraint, three for mode 1 (FPP, used, unused), one for mode 2"
unfoldable pub constraint_pools : Constraint → List Pool
constraint_pools r =
    cond (eqb r.mode 0) (constraint_pool r Contingency ∷ [])
    (cond (eqb r.mode 1) (constraint_pool r Fpp ∷ constraint_pool r Used ∷ constraint_pool r Unused ∷ []) (constraint_pool r Unused ∷ []))

-- ---- a contract's pool

unfoldable pub contract_pool : Contract → Pool
contract_pool k = record { source = of_contract k; id = k.id; kind = Payment; amount = k.payment; stages = benefiting k }

-- ---- all pools

unfoldable pub pools_in : Public → List Pool
pools_in public = concat_map constraint_pools public.constraints ++ concat_map (λ k. contract_pool k ∷ []) public.contracts

-- the pool of a number from 0, or none: "pool .. number past the end"
pub data Found : Type 0 where
  past : Found
  found : Pool → Found

unfoldable pub pool_at : List Pool → ℕ → Found
pool_at [] number = past
pool_at (p ∷ ps) zero = found p
pool_at (p ∷ ps) (suc number) = pool_at ps number

-- ---- its lines

-- "1 contingency by ACE, 2 by ASOE; unit lines 3 FPP, 4 used, 5 unused; residual lines 6 FPP, 7 used, 8 unused; 9 contract by ACE, 10 by ASOE"
abbrev pub has_part : Kind → ℕ → Bool
has_part Contingency part = eqb part 1 || eqb part 2
has_part Fpp part = eqb part 3 || eqb part 6
has_part Used part = eqb part 4 || eqb part 7
has_part Unused part = eqb part 5 || eqb part 8
has_part Payment part = eqb part 9 || eqb part 10

-- whether a line of a statement is in a pool
unfoldable pub in_pool : Pool → Line → Bool
in_pool p l = eqb l.id p.id && has_part p.kind l.part
