-- `passes::short_sections` meets its contract. Section after section decides, or leaves the word to the next. Assumes nothing.
use Rattle.sections.proofs.Verdicts.{handed_on, verdict_stop, verdict_go, verdict_last}
use Rattle.passes.specs.Inner.Passes.{short_checks}
use Rattle.passes.proofs.short_sections.Goals as goal

pub returns-in_err-fields : goal.returns-in_err-fields
unfolding short_checks
returns-in_err-fields c = verdict_stop _ c.in_err-fields.was (handed_on _ c.from_residual.ensures.1) c.fields.ensures

pub returns-in_err-fields-2 : goal.returns-in_err-fields-2
unfolding short_checks
returns-in_err-fields-2 c = verdict_go _ c.in_ok-fields.was c.fields.ensures
    (verdict_stop _ c.in_err-fields-2.was (handed_on _ c.from_residual-in_err-fields-2.ensures.1) c.fields-2.ensures)

pub returns-in_err-fields-3 : goal.returns-in_err-fields-3
unfolding short_checks
returns-in_err-fields-3 c = verdict_go _ c.in_ok-fields.was c.fields.ensures
    (verdict_go _ c.in_ok-fields-2.was c.fields-2.ensures
    (verdict_stop _ c.in_err-fields-3.was (handed_on _ c.from_residual-in_err-fields-3.ensures.1) (rw c.contracts_at-from.ensures at c.fields-3.ensures)))

pub returns-in_err-order : goal.returns-in_err-order
unfolding short_checks
returns-in_err-order c = verdict_go _ c.in_ok-fields.was c.fields.ensures
    (verdict_go _ c.in_ok-fields-2.was c.fields-2.ensures
    (verdict_go _ c.in_ok-fields-3.was (rw c.contracts_at-from.ensures at c.fields-3.ensures)
    (verdict_stop _ c.in_err-order.was (handed_on _ c.from_residual-in_err-order.ensures.1) c.order.ensures)))

pub returns : goal.returns
unfolding short_checks
returns c = verdict_go _ c.in_ok-fields.was c.fields.ensures
    (verdict_go _ c.in_ok-fields-2.was c.fields-2.ensures
    (verdict_go _ c.in_ok-fields-3.was (rw c.contracts_at-from.ensures at c.fields-3.ensures)
    (verdict_go _ c.in_ok-order.was c.order.ensures
    (verdict_last (rw c.contracts_at-from.ensures at c.order-2.ensures)))))
