-- `balance::places::place_of` meets its contract. The invariant, `Looking`: the pools of the first j constraints are passed. Assumes nothing.
use Rattle.balance.proofs.Finding.{Looking}
use Rattle.records.specs.Rows.{constraint_row}
use Rattle.balance.proofs.places.place_of.Given as goal

abbrev pub invariant-loop-j : goal.invariant-loop-j
invariant-loop-j l = Looking (constraint_row l.cons) l.n l.number l.left l.j
