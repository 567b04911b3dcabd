-- `balance::balance_at` meets its contract. By the place of the pool. Assumes nothing.
use native.Mathlib.Omega.{arith}
use Rattle.book.specs.Laid.{book_at}
use Rattle.balance.proofs.Ends.{constraint_in, end_constraint, contract_in, end_contract, end_15, end_priced, end_paid, paid_in}
use Rattle.balance.proofs.balance_at.Goals as goal

pub constraint_balance-requires : goal.constraint_balance-requires
constraint_balance-requires c = let o = constraint_in (book_at c.args.book.now) (book_at c.args.second.now) c.args.number (rw c.constraints.ensures.bytes at c.place_of.ensures) c.in-Some.is c.in-Constraint.is in
    record { count_bound = c.accounts-count.ensures.few; sound = (c.requires.promise.sound, c.requires.promise.divisor _ o.0); j_lt_constraints = o }

pub contract_row-k-requires : goal.contract_row-k-requires
contract_row-k-requires c = omega (arith, c.contracts.ensures.long, contract_in (book_at c.args.book.now) (book_at c.args.second.now) c.args.number (rw c.constraints.ensures.bytes at c.place_of.ensures) c.in-Some.is c.in-Contract.is)

pub contract_balance-requires : goal.contract_balance-requires
contract_balance-requires c = let row = rw c.contracts.ensures.bytes at c.contract_row-k.ensures in
    let within = contract_in (book_at c.args.book.now) (book_at c.args.second.now) c.args.number (rw c.constraints.ensures.bytes at c.place_of.ensures) c.in-Some.is c.in-Contract.is in
    record { count_bound = c.accounts-count.ensures.few; sound = (c.requires.promise.sound, c.requires.promise.locked); paid_by = paid_in c.requires.promise _ within row }

pub returns-in-Constraint : goal.returns-in-Constraint
returns-in-Constraint c = let q = rw c.constraints.ensures.bytes at c.place_of.ensures in
    let o = c.in-Some.is in
    let e = c.in-Constraint.is in
    let own = constraint_in (book_at c.args.book.now) (book_at c.args.second.now) c.args.number q o e in
    end_constraint (book_at c.args.book.now) (book_at c.args.second.now) c.args.number q o e (end_priced c.requires.promise c.accounts-count.ensures _ own.0 _ own.1 c.constraint_balance.ensures)

pub returns-in-Contract : goal.returns-in-Contract
returns-in-Contract c = let q = rw c.constraints.ensures.bytes at c.place_of.ensures in
    let o = c.in-Some.is in
    let e = c.in-Contract.is in
    let row = rw c.contracts.ensures.bytes at c.contract_row-k.ensures in
    end_contract (book_at c.args.book.now) (book_at c.args.second.now) c.args.number q o e (end_paid c.requires.promise c.accounts-count.ensures _ (contract_in (book_at c.args.book.now) (book_at c.args.second.now) c.args.number q o e) row c.contract_balance.ensures)

pub returns-in_default : goal.returns-in_default
returns-in_default c = end_15 (book_at c.args.book.now) (book_at c.args.second.now) c.args.number (rw c.constraints.ensures.bytes at c.place_of.ensures) c.in_default.is
