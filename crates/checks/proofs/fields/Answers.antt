-- `checks::fields` meets its contract. Section after section decides, or leaves the word to the next. Assumes nothing.
use Rattle.sections.proofs.Verdicts.{handed_on, verdict_stop, verdict_go, verdict_last}
use Rattle.book.specs.Table.{check5}
use Rattle.checks.proofs.fields.Goals as goal

pub returns-in_err-fields : goal.returns-in_err-fields
unfolding check5
returns-in_err-fields c = verdict_stop _ c.in_err-fields.was (handed_on _ c.from_residual.ensures.1) c.fields.ensures

pub returns-in_err-fields-2 : goal.returns-in_err-fields-2
unfolding check5
returns-in_err-fields-2 c = verdict_go _ c.in_ok-fields.was c.fields.ensures
    (verdict_stop _ c.in_err-fields-2.was (handed_on _ c.from_residual-in_err-fields-2.ensures.1) c.fields-2.ensures)

pub returns-in_err-fields-3 : goal.returns-in_err-fields-3
unfolding check5
returns-in_err-fields-3 c = verdict_go _ c.in_ok-fields.was c.fields.ensures
    (verdict_go _ c.in_ok-fields-2.was c.fields-2.ensures
    (verdict_stop _ c.in_err-fields-3.was (handed_on _ c.from_residual-in_err-fields-3.ensures.1) (rw c.units_at.ensures at c.fields-3.ensures)))

pub returns-in_err-fields-4 : goal.returns-in_err-fields-4
unfolding check5
returns-in_err-fields-4 c = verdict_go _ c.in_ok-fields.was c.fields.ensures
    (verdict_go _ c.in_ok-fields-2.was c.fields-2.ensures
    (verdict_go _ c.in_ok-fields-3.was (rw c.units_at.ensures at c.fields-3.ensures)
    (verdict_stop _ c.in_err-fields-4.was (handed_on _ c.from_residual-in_err-fields-4.ensures.1) (rw c.energies_at.ensures at c.fields-4.ensures))))

pub returns : goal.returns
unfolding check5
returns c = verdict_go _ c.in_ok-fields.was c.fields.ensures
    (verdict_go _ c.in_ok-fields-2.was c.fields-2.ensures
    (verdict_go _ c.in_ok-fields-3.was (rw c.units_at.ensures at c.fields-3.ensures)
    (verdict_go _ c.in_ok-fields-4.was (rw c.energies_at.ensures at c.fields-4.ensures)
    (verdict_last (rw c.contracts_at.ensures at c.fields-5.ensures)))))
