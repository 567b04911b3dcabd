-- `census::new_energy` meets its contract. The two searches say whether the account is known. Assumes nothing.
use mathlib.Core.Path.{◌∙◌}
use mathlib.Core.List.{[]}
use Rattle.records.specs.Rows.{energy_row, unit_row}
use Rattle.sharing.specs.Once.{named}
use Rattle.sharing.specs.Accounts.{energy_account, unit_account}
use Rattle.census.proofs.Counting.{known_before, known_other, known_new, seen_has}
use Rattle.census.proofs.new_energy.Goals as goal

pub returns-then-goes_on : goal.returns-then-goes_on
returns-then-goes_on c = let args = c.args in
    known_before (energy_account (energy_row args.energy.now)) _ (named (unit_account (unit_row args.units.now)) args.m []) c.goes_on.ensures c.if-goes_on.true

pub returns-then-in_units : goal.returns-then-in_units
returns-then-in_units c = let args = c.args in
    known_other (energy_account (energy_row args.energy.now)) _ _ c.energy_account.ensures (c.in_units.ensures ∙ seen_has (unit_account (unit_row args.units.now)) _ _) c.if-in_units.true

pub returns : goal.returns
returns c = let args = c.args in
    known_new (energy_account (energy_row args.energy.now)) _ _ c.goes_on.ensures c.if-goes_on.false c.energy_account.ensures (c.in_units.ensures ∙ seen_has (unit_account (unit_row args.units.now)) _ _) c.if-in_units.false
