-- `checks::order` meets its contract. Section after section decides, or leaves the word to the next. Assumes nothing.
use Rattle.sections.proofs.Verdicts.{handed_on, verdict_stop, verdict_go, verdict_last}
use Rattle.book.specs.Table.{check6}
use Rattle.checks.proofs.order.Goals as goal

pub returns-in_err-order : goal.returns-in_err-order
unfolding check6
returns-in_err-order c = verdict_stop _ c.in_err-order.was (handed_on _ c.from_residual.ensures.1) c.order.ensures

pub returns-in_err-order-2 : goal.returns-in_err-order-2
unfolding check6
returns-in_err-order-2 c = verdict_go _ c.in_ok-order.was c.order.ensures
    (verdict_stop _ c.in_err-order-2.was (handed_on _ c.from_residual-in_err-order-2.ensures.1) (rw c.units_at.ensures at c.order-2.ensures))

pub returns-in_err-order-3 : goal.returns-in_err-order-3
unfolding check6
returns-in_err-order-3 c = verdict_go _ c.in_ok-order.was c.order.ensures
    (verdict_go _ c.in_ok-order-2.was (rw c.units_at.ensures at c.order-2.ensures)
    (verdict_stop _ c.in_err-order-3.was (handed_on _ c.from_residual-in_err-order-3.ensures.1) (rw c.energies_at.ensures at c.order-3.ensures)))

pub returns : goal.returns
unfolding check6
returns c = verdict_go _ c.in_ok-order.was c.order.ensures
    (verdict_go _ c.in_ok-order-2.was (rw c.units_at.ensures at c.order-2.ensures)
    (verdict_go _ c.in_ok-order-3.was (rw c.energies_at.ensures at c.order-3.ensures)
    (verdict_last (rw c.contracts_at.ensures at c.order-4.ensures))))
