-- `balance::contract_balance` meets its contract. The energies are those of the book that settles the contract. Assumes nothing.
use mathlib.Core.Path.{ap, ◌∙◌}
use Rattle.totals.specs.Inner.Energies.{Energies}
use Rattle.book.specs.Laid.{book_at}
use Rattle.balance.specs.Inner.Shapes.{contract_shape}
use Rattle.balance.proofs.Resting.{settling, settling_paid}
use Rattle.balance.proofs.contract_balance.Goals as goal

pub contract-requires : goal.contract-requires
contract-requires c = (settling_paid (book_at c.args.book.now) (book_at c.args.second.now) c.args.k c.of.ensures c.settling-e.ensures c.requires.paid_by, c.requires.count_bound)

pub returns : goal.returns
returns c = c.contract.ensures ∙ ap (λ (E : Energies). contract_shape E c.args.count c.args.k) (settling (book_at c.args.book.now) (book_at c.args.second.now) c.args.k c.of.ensures c.settling-e.ensures)
