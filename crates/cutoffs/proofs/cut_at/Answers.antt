-- `cutoffs::cut_at` meets its contract. By the place of the pool. Assumes nothing.
use mathlib.Core.Path.{sym, ap, ◌∙◌}
use mathlib.Core.List.{List}
use native.Mathlib.Omega.{arith}
use Rattle.book.specs.Laid.{book_at}
use Rattle.balance.proofs.Ends.{constraint_in, contract_in, paid_in}
use Rattle.cutoffs.specs.Cutoffs.{stage_at}
use Rattle.cutoffs.specs.declared.Cut.{Cut}
use Rattle.cutoffs.proofs.Ends.{end_constraint, end_contract, end_15, constraint_stages_lem, contract_found}
use Rattle.cutoffs.proofs.cut_at.Goals as goal

pub constraint_cut-requires : goal.constraint_cut-requires
constraint_cut-requires c = let o = constraint_in (book_at c.args.book.now) (book_at c.args.second.now) c.args.number (rw c.constraints.ensures.bytes at c.place_of.ensures) c.in-Some.is c.in-Constraint.is in
    record { sound = (c.requires.sound, c.requires.divisor _ o.0); j_lt_constraints = o }

pub contract_row-k-requires : goal.contract_row-k-requires
contract_row-k-requires c = omega (arith, c.contracts.ensures.long, contract_in (book_at c.args.book.now) (book_at c.args.second.now) c.args.number (rw c.constraints.ensures.bytes at c.place_of.ensures) c.in-Some.is c.in-Contract.is)

pub contract_cut-requires : goal.contract_cut-requires
contract_cut-requires c = let row = rw c.contracts.ensures.bytes at c.contract_row-k.ensures in
    let within = contract_in (book_at c.args.book.now) (book_at c.args.second.now) c.args.number (rw c.constraints.ensures.bytes at c.place_of.ensures) c.in-Some.is c.in-Contract.is in
    record { sound = (c.requires.sound, c.requires.locked); paid_by = paid_in c.requires _ within row }

pub returns-in-Constraint : goal.returns-in-Constraint
returns-in-Constraint c = end_constraint (book_at c.args.book.now) (book_at c.args.second.now) c.args.number c.args.index (rw c.constraints.ensures.bytes at c.place_of.ensures) c.in-Some.is c.in-Constraint.is (c.constraint_cut.ensures ∙ ap (λ (l : List Cut). stage_at l c.args.index) (sym (constraint_stages_lem c.requires _ _)))

pub returns-in-Contract : goal.returns-in-Contract
returns-in-Contract c = let row = rw c.contracts.ensures.bytes at c.contract_row-k.ensures in
    end_contract (book_at c.args.book.now) (book_at c.args.second.now) c.args.number c.args.index (rw c.constraints.ensures.bytes at c.place_of.ensures) c.in-Some.is c.in-Contract.is (contract_found c.requires c.args.index row c.contract_cut.ensures)

pub returns-in_default : goal.returns-in_default
returns-in_default c = end_15 (book_at c.args.book.now) (book_at c.args.second.now) c.args.number c.args.index (rw c.constraints.ensures.bytes at c.place_of.ensures) c.in_default.is
