-- `checks::up_to_factors` meets its contract. Each check decides, or leaves the word and what it has shown to the next. Assumes nothing.
use Rattle.sections.proofs.Verdicts.{handed_on, verdict_stop, verdict_go, verdict_last}
use Rattle.book.proofs.Steps.{fields_of, ordered_of, named_of}
use Rattle.checks.proofs.up_to_factors.Goals as goal

pub returns-in_err-fields : goal.returns-in_err-fields
returns-in_err-fields c = verdict_stop _ c.in_err-fields.was (handed_on _ c.from_residual.ensures.1) c.fields.ensures

pub returns-in_err-order : goal.returns-in_err-order
returns-in_err-order c = verdict_go _ c.in_ok-fields.was c.fields.ensures
    (verdict_stop _ c.in_err-order.was (handed_on _ c.from_residual-in_err-order.ensures.1) c.order.ensures)

pub names-requires : goal.names-requires
names-requires c = ordered_of _ c.in_ok-order.was c.order.ensures

pub returns-in_err-names : goal.returns-in_err-names
returns-in_err-names c = verdict_go _ c.in_ok-fields.was c.fields.ensures
    (verdict_go _ c.in_ok-order.was c.order.ensures
    (verdict_stop _ c.in_err-names.was (handed_on _ c.from_residual-in_err-names.ensures.1) c.names.ensures))

pub factor_sums-requires : goal.factor_sums-requires
factor_sums-requires c = record { fields = fields_of _ c.in_ok-fields.was c.fields.ensures; ordered = ordered_of _ c.in_ok-order.was c.order.ensures; named = named_of _ c.in_ok-names.was c.names.ensures }

pub returns : goal.returns
returns c = verdict_go _ c.in_ok-fields.was c.fields.ensures
    (verdict_go _ c.in_ok-order.was c.order.ensures
    (verdict_go _ c.in_ok-names.was c.names.ensures
    (verdict_last c.factor_sums.ensures)))
