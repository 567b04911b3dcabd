-- What the roundings of a pool cut off. 02, Req 06: "a balance names the sums of these numerators, one for each rounding stage, region by region for a
-- contract." A cut-off part is exact less rounded of the quotient inside 01's round( ), over its divisor; where 01 writes -round( ), the line is minus
-- the whole number and what was cut off stays as it is. Each stage is over the very numbers that the lines are made of (lines/specs/Lines.antt,
-- settlement/specs/Settle.antt).
use Rattle.std.specs.Prelude.{ℕ, zero, suc, ◌*◌, cond, List, [], ◌∷◌, ◌++◌, eqb, ℤ, pos, neg_ℤ, Result, Ok, Err}
use Rattle.numbers.specs.Round.{round_n, cut_n}
use Rattle.ground.specs.Units.{million}
use Rattle.sections.specs.Refusal.{Verdict, refused}
use Rattle.sections.specs.declared.Refusal.{Refusal}
use Rattle.rules.specs.Rules.{factor_of}
use Rattle.records.specs.declared.rows.Constraint.{Constraint}
use Rattle.records.specs.declared.rows.UnitRow.{UnitRow}
use Rattle.records.specs.declared.rows.Contract.{Contract}
use Rattle.totals.specs.Divisors.{over_regions}
use Rattle.locking.specs.Locking.{settled_by, pick}
use Rattle.book.specs.Book.{Book, book_of}
use Rattle.book.specs.Table.{locked_for, verdict}
use Rattle.amounts.specs.Pools.{pools_of, pool_cuts_of, residual_pools, halves_of}
use Rattle.amounts.specs.Shares.{cut_by_factor, cut_by_energy}
use Rattle.accounts.specs.Rows.{sum_z, joined}
use Rattle.accounts.specs.Account.{public_of, rows_of_account, own_energy}
use Rattle.recovery.specs.ByKind.{above_by, below_by, pool_by, rest_above, rest_below, credit_by, charge_by}
use Rattle.recovery.specs.declared.kinds.Kind.{Kind}
use Rattle.recovery.specs.declared.kinds.Kind.TheVariants.{Contingency, Fpp, Used, Unused, Payment}
use Rattle.balance.specs.Pools.{Pool, Source, of_constraint, of_contract, Found, past, found, pools_in, pool_at}
use Rattle.balance.specs.Balance.{accounts_of}
use Rattle.cutoffs.specs.declared.Stage.{Stage}
use Rattle.cutoffs.specs.declared.Stage.TheVariants.{Line, Unit, Residual, Share, Whole, Half, Ace, Asoe}
use Rattle.cutoffs.specs.declared.Stage.TheVariants as stage
use Rattle.cutoffs.specs.declared.Cut.{Cut}

-- ---- a constraint's stages; L is the book that test payments are settled by

-- it has no regions apart
abbrev pub of_all : Stage → ℕ → ℤ → Cut
of_all s divisor cut = record { stage = s; region = 0; divisor = divisor; cut = cut }

abbrev pub pool_cut : ℕ → ℤ → Cut
pool_cut divisor cut = of_all stage.Pool divisor cut

-- an account's own energy, and the total, over the constraint's regions: of ASOE, ACE or the residual, by its service
unfoldable pub own_over : Book → Constraint → ℕ → ℕ
own_over B r account = over_regions (own_energy (rows_of_account B account).energies) r

abbrev pub total_over : Book → Constraint → ℕ
total_over B r = over_regions B.entry r

-- an amount that is shared by energy, credit - charge: what the shares of all accounts cut off
unfoldable pub shares_cut : Book → Book → Constraint → ℕ → ℕ → ℤ
shares_cut B L r credit charge = sum_z (λ a. cut_by_energy credit charge (own_over B r a) (total_over B r)) (accounts_of B L)

-- "Contingency: -round(cost x own / total)"
unfoldable pub line_stage : Book → Book → Constraint → Cut
line_stage B L r = of_all Line (total_over B r) (shares_cut B L r r.cost 0)

-- "used = round(cost x usage / 1,000,000); unused = cost - used." "FPP pool = round(price x RCR / 120)." Unused is not rounded itself: it has more
-- what used has less
unfoldable pub pool_stage : Constraint → Kind → Cut
pool_stage r Contingency = pool_cut million (pos 0)
pool_stage r Fpp = pool_cut 120 (pool_cuts_of r).fpp
pool_stage r Used = pool_cut million (pool_cuts_of r).used
pool_stage r Unused = pool_cut million (neg_ℤ (pool_cuts_of r).used)
pool_stage r Payment = pool_cut million (pos 0)

-- "Unit lines: round(pool x factor / 1,000,000)": of a unit row, where it names the constraint
unfoldable pub unit_cut : Constraint → Kind → UnitRow → ℤ
unit_cut r kind q = cond (eqb q.constraint r.id) (cut_by_factor (pool_by kind (pools_of r)) (above_by kind q) (below_by kind q)) (pos 0)

-- of all accounts' own rows
unfoldable pub unit_stage : Book → Book → Constraint → Kind → Cut
unit_stage B L r kind = of_all Unit million (sum_z (λ a. sum_z (unit_cut r kind) (rows_of_account B a).units) (accounts_of B L))

-- "Residual pools are made the same way, from RCF, min(0, RCF), DRCF."
unfoldable pub residual_stage : Constraint → Kind → Cut
residual_stage r kind = of_all Residual million (cut_by_factor (pool_by kind (pools_of r)) (rest_above kind r) (rest_below kind r))

-- "An account's residual line is round(residual pool x TE / ATE)."
unfoldable pub share_stage : Book → Book → Constraint → Kind → Cut
share_stage B L r kind =
    of_all Share (total_over B r) (shares_cut B L r (credit_by kind (residual_pools r (pools_of r))) (charge_by kind (residual_pools r (pools_of r))))

-- "Mode 2: all unused": its pool is not rounded
unfoldable pub regulation_stages : Book → Book → Constraint → Kind → List Cut
regulation_stages B L r kind =
    cond (eqb r.mode 1) (pool_stage r kind ∷ []) []
    ++ (unit_stage B L r kind ∷ residual_stage r kind ∷ share_stage B L r kind ∷ [])

unfoldable pub constraint_stages : Book → Book → Constraint → Kind → List Cut
constraint_stages B L r kind = cond (eqb r.mode 0) (line_stage B L r ∷ []) (regulation_stages B L r kind)

-- ---- a contract's stages in region g; E is the book that settles it

-- "r = round(payment x factor / 1,000,000)"
unfoldable pub part_over : Contract → ℕ → ℕ
part_over k g = k.payment * factor_of k.factors g

unfoldable pub whole_stage : Contract → ℕ → Cut
whole_stage k g = record { stage = Whole; region = g; divisor = million; cut = cut_n (part_over k g) million }

-- "The consumed half is r / 2, an odd r rounded up; the sent-out half is the rest", which has more what the consumed half has less
unfoldable pub half_stage : Contract → ℕ → Cut
half_stage k g = record { stage = Half; region = g; divisor = 2; cut = cut_n (round_n (part_over k g) million) 2 }

-- "The account's two lines are -round(half x own / region total), by ACE and ASOE."
unfoldable pub ace_stage : Book → List ℕ → Contract → ℕ → Cut
ace_stage E accounts k g =
    record {
      stage = Ace;
      region = g;
      divisor = (E.entry g).ace;
      cut = sum_z (λ a. cut_n ((halves_of k.payment (factor_of k.factors g)).consumed * (own_energy (rows_of_account E a).energies g).ace) (E.entry g).ace) accounts;
    }

unfoldable pub asoe_stage : Book → List ℕ → Contract → ℕ → Cut
asoe_stage E accounts k g =
    record {
      stage = Asoe;
      region = g;
      divisor = (E.entry g).asoe;
      cut = sum_z (λ a. cut_n ((halves_of k.payment (factor_of k.factors g)).sent * (own_energy (rows_of_account E a).energies g).asoe) (E.entry g).asoe) accounts;
    }

-- "each region with a benefit factor above 0"
unfoldable pub region_stages : Book → List ℕ → Contract → ℕ → List Cut
region_stages E accounts k g =
    cond (eqb (factor_of k.factors g) 0) []
    (whole_stage k g ∷ half_stage k g ∷ ace_stage E accounts k g ∷ asoe_stage E accounts k g ∷ [])

-- "region by region for a contract", its energies of the book that settles it
unfoldable pub contract_stages : Book → Book → Contract → List Cut
contract_stages B L k = joined (region_stages (pick (settled_by k) B L) (accounts_of B L) k) 5

-- ---- a pool's stages, numbered from 0

unfoldable pub stages_by : Book → Book → Source → Kind → List Cut
stages_by B L (of_constraint r) kind = constraint_stages B L r kind
stages_by B L (of_contract k) kind = contract_stages B L k

abbrev pub stages_in : Book → Book → Pool → List Cut
stages_in B L p = stages_by B L p.source p.kind

-- 15: "past the end"
unfoldable pub stage_at : List Cut → ℕ → Result Cut Refusal
stage_at [] index = refused 15 0
stage_at (c ∷ cs) zero = Ok c
stage_at (c ∷ cs) (suc index) = stage_at cs index

-- of the pool, and of the stage in it
unfoldable pub cut_for : Book → Book → Found → ℕ → Result Cut Refusal
cut_for B L past index = refused 15 0
cut_for B L (found p) index = stage_at (stages_in B L p) index

unfoldable pub cuts_in : Book → Book → ℕ → ℕ → Result Cut Refusal
cuts_in B L number index = cut_for B L (pool_at (pools_in (public_of B)) number) index

-- "Numbers 1 to 10 come from every call on a book", and 17 and 18
unfoldable pub cut_if : Verdict → Result Cut Refusal → Result Cut Refusal
cut_if (Ok _) x = x
cut_if (Err e) x = Err e

-- of the book b, with l lent as the locked one
unfoldable pub cut_of : List ℕ → List ℕ → ℕ → ℕ → Result Cut Refusal
cut_of b l number index = cut_if (verdict b l) (cuts_in (book_of b) (book_of (locked_for b l)) number index)
