-- `census::grown_accounts` meets its contract. The invariant: the count is the number of accounts of the unit rows and the energy rows so far. The tree stays as the unit rows left it. Assumes nothing.
use mathlib.Core.Path.{◌≡◌, ◌∙◌}
use mathlib.Core.List.{[]}
use native.Mathlib.Omega.{arith}
use Rattle.records.specs.Rows.{energy_row, unit_row}
use Rattle.sharing.specs.Accounts.{unit_account}
use Rattle.census.proofs.Counting.{count_none, count_more, count_few, accounts_turned, accounts_fit}
use Rattle.sharing.proofs.Once.{length_named}
use Rattle.census.proofs.grown_accounts.Goals as goal

pub loop-i-init : goal.loop-i-init
loop-i-init c = c.unit_accounts-count.ensures.value ∙ count_none _ _

pub loop-i-preserved : goal.loop-i-preserved
loop-i-preserved c = count_more _ _ _ c.loop-i.invariant c.new_energy-count.ensures

pub overflow_add-count : goal.overflow_add-count
overflow_add-count c = omega (arith, count_few _ _ _ (loop-i-preserved c), length_named (unit_account (unit_row c.before.args.units.now)) c.before.args.m [])

pub returns-clause-value : goal.returns-clause-value
returns-clause-value c = let args = c.args in
    let e : c.loop-i.i ≡ args.n = omega arith in
    let all = rw e at c.loop-i.invariant ∙ accounts_turned (energy_row args.energy.now) _ (unit_row args.units.now) _ in
    (all, accounts_fit _ _ c.requires.sorted c.requires.n_in_bounds.1.0 all)
