-- `accounts::in_rows` meets its contract. The invariant, `Sums`: each place has the sum of its region over the account's rows so far. Assumes nothing.
use Rattle.records.specs.Rows.{energy_row}
use Rattle.accounts.proofs.Turns.{Sums}
use Rattle.accounts.proofs.in_rows.Given as goal

abbrev pub invariant-loop-i : goal.invariant-loop-i
invariant-loop-i l = Sums (energy_row l.energy) l.n l.account l.i l.own
