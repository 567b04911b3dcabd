-- Check 10. 01, Refusals, 10: "a total to divide by is zero". "It applies though the pool is 0."
use Rattle.std.specs.Prelude.{ℕ, Bool, ◌&&◌, ◌||◌, not, cond, eqb}
use Rattle.sections.specs.Search.{all}
use Rattle.sections.specs.Total.{total}
use Rattle.market.specs.Kinds.{basis_of, bit_set}
use Rattle.rules.specs.Rules.{factor_of}
use Rattle.records.specs.declared.rows.Entry.{Entry}
use Rattle.records.specs.declared.rows.Constraint.{Constraint}
use Rattle.records.specs.declared.rows.Contract.{Contract}
use Rattle.totals.specs.Sums.{entry_by}

-- "raise contingency, total ASOE over its regions; lower, total ACE; regulation, residual total": region g counts where its bit is set
unfoldable pub counted_in : Constraint → Entry → ℕ → ℕ
counted_in r e g = cond (bit_set r.mask g) (entry_by (basis_of r.service) e) 0

-- a constraint's energy over its regions: of the region entries it is the total that the constraint divides by, of an account's own energies the
-- part of it that is the account's
abbrev pub over_regions : (ℕ → Entry) → Constraint → ℕ
over_regions entry r = total (λ g. counted_in r (entry g) g) 5

unfoldable pub constraint_divides : (ℕ → Entry) → (ℕ → Constraint) → ℕ → Bool
constraint_divides entry con j = not (eqb (over_regions entry (con j)) 0)

-- "contract, total ACE or ASOE in a region whose benefit factor isn't 0"
abbrev pub funded_in : (ℕ → Entry) → ℕ → ℕ → Bool
funded_in entry factor g = eqb factor 0 || (not (eqb (entry g).ace 0) && not (eqb (entry g).asoe 0))

unfoldable pub contract_divides : (ℕ → Entry) → (ℕ → Contract) → ℕ → Bool
contract_divides entry contract k = all (λ g. funded_in entry (factor_of (contract k).factors g) g) 5
