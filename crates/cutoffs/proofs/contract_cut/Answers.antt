-- `cutoffs::contract_cut` meets its contract. The energies are those of the book that settles the contract. Assumes nothing.
use mathlib.Core.Path.{ap, ◌∙◌}
use Rattle.totals.specs.Inner.Energies.{Energies}
use Rattle.book.specs.Laid.{book_at}
use Rattle.balance.proofs.Resting.{settling, settling_paid}
use Rattle.cutoffs.specs.Cutoffs.{stage_at}
use Rattle.cutoffs.specs.Inner.Shapes.{contract_shapes}
use Rattle.cutoffs.proofs.contract_cut.Goals as goal

pub stage-requires : goal.stage-requires
stage-requires c = settling_paid (book_at c.args.book.now) (book_at c.args.second.now) c.args.k c.of.ensures c.settling-e.ensures c.requires.paid_by

pub returns : goal.returns
returns c = c.stage.ensures ∙ ap (λ (E : Energies). stage_at (contract_shapes E c.args.k) c.args.index) (settling (book_at c.args.book.now) (book_at c.args.second.now) c.args.k c.of.ensures c.settling-e.ensures)
