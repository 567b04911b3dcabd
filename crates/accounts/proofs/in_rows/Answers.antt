-- `accounts::in_rows` meets its contract. The invariant, `Sums`: each place has the sum of its region over the account's rows so far. Assumes nothing.
use native.Mathlib.Omega.{arith}
use Rattle.records.specs.Rows.{energy_row}
use Rattle.accounts.proofs.Turns.{sums_start, own_room, own_more, sums_end, sums_done}
use Rattle.accounts.proofs.in_rows.Goals as goal

pub first_from-first-requires : goal.first_from-first-requires
unfolding energy_row
first_from-first-requires c = record { size_in_bounds = omega arith; keeps = c.requires.keeps }

pub loop-i-init : goal.loop-i-init
unfolding energy_row
loop-i-init c = sums_start (energy_row c.args.energy.now) _ _ _ c.first_from-first.ensures

pub add_row-requires : goal.add_row-requires
unfolding energy_row
add_row-requires c = own_room (energy_row c.args.energy.now) _ _ _ c.loop-i.invariant c.has_key.ensures c.if-not-has_key.false c.energy_row-r.ensures c.requires.by_index c.requires.n_in_bounds.1

pub loop-i-preserved : goal.loop-i-preserved
unfolding energy_row
loop-i-preserved c = own_more (energy_row c.args.energy.now) _ _ _ c.loop-i.invariant c.has_key.ensures c.if-not-has_key.false c.energy_row-r.ensures c.requires.by_index c.add_row.ensures

pub returns-then-not-has_key : goal.returns-then-not-has_key
unfolding energy_row
returns-then-not-has_key c = sums_end (energy_row c.args.energy.now) _ _ _ _ c.requires.keeps c.first_from-first.ensures c.loop-i.invariant c.has_key.ensures c.if-not-has_key.true

pub returns : goal.returns
unfolding energy_row
returns c = sums_done (energy_row c.args.energy.now) _ _ _ _ c.requires.keeps c.first_from-first.ensures c.loop-i.invariant (omega (arith, c.loop-i-test.false))
