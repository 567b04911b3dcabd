-- `verdict::soundness` meets its contract. Rule after rule of the whole decides, or leaves the word to the next; the checks of the records come last. Assumes nothing.
use mathlib.Core.Path.{sym, ◌∙◌}
use borrow.Author.Tests.{leb-true, eqb-true}
use Rattle.sections.proofs.Verdicts.{handed_on, verdict_stop, verdict_go, unless_held}
use Rattle.book.specs.Table.{check1, check2, check3, check4, soundness}
use Rattle.verdict.proofs.Whole.{laid_of}
use Rattle.verdict.proofs.soundness.Goals as goal

pub is_marked-requires : goal.is_marked-requires
is_marked-requires c = leb-true _ _ (unless_held 1 _ (sym c.unless.ensures ∙ c.in_ok-unless.was))

pub header_of-h-requires : goal.header_of-h-requires
header_of-h-requires c = leb-true _ _ (unless_held 1 _ (sym c.unless.ensures ∙ c.in_ok-unless.was))

pub invariant_of-laid : goal.invariant_of-laid
invariant_of-laid c = record { laid = laid_of _ _ c.in_range.ensures (unless_held 3 _ (sym c.unless-3.ensures ∙ c.in_ok-unless-3.was)) c.whole_length.ensures (eqb-true _ _ (unless_held 4 _ (sym c.unless-4.ensures ∙ c.in_ok-unless-4.was))) }

pub returns-in_err-unless : goal.returns-in_err-unless
unfolding soundness check1 check2 check3 check4
returns-in_err-unless c = verdict_stop _ c.in_err-unless.was (handed_on _ c.from_residual.ensures.1) c.unless.ensures

pub returns-in_err-unless-2 : goal.returns-in_err-unless-2
unfolding soundness check1 check2 check3 check4
returns-in_err-unless-2 c = verdict_go _ c.in_ok-unless.was c.unless.ensures
    (verdict_stop _ c.in_err-unless-2.was (handed_on _ c.from_residual-in_err-unless-2.ensures.1) (rw c.is_marked.ensures at c.unless-2.ensures))

pub returns-in_err-unless-3 : goal.returns-in_err-unless-3
unfolding soundness check1 check2 check3 check4
returns-in_err-unless-3 c = verdict_go _ c.in_ok-unless.was c.unless.ensures
    (verdict_go _ c.in_ok-unless-2.was (rw c.is_marked.ensures at c.unless-2.ensures)
    (verdict_stop _ c.in_err-unless-3.was (handed_on _ c.from_residual-in_err-unless-3.ensures.1) (rw (c.in_range.ensures, c.header_of-h.ensures) at c.unless-3.ensures)))

pub returns-in_err-unless-4 : goal.returns-in_err-unless-4
unfolding soundness check1 check2 check3 check4
returns-in_err-unless-4 c = verdict_go _ c.in_ok-unless.was c.unless.ensures
    (verdict_go _ c.in_ok-unless-2.was (rw c.is_marked.ensures at c.unless-2.ensures)
    (verdict_go _ c.in_ok-unless-3.was (rw (c.in_range.ensures, c.header_of-h.ensures) at c.unless-3.ensures)
    (verdict_stop _ c.in_err-unless-4.was (handed_on _ c.from_residual-in_err-unless-4.ensures.1) (rw (c.whole_length.ensures, c.header_of-h.ensures) at c.unless-4.ensures))))

pub returns : goal.returns
unfolding soundness check1 check2 check3 check4
returns c = verdict_go _ c.in_ok-unless.was c.unless.ensures
    (verdict_go _ c.in_ok-unless-2.was (rw c.is_marked.ensures at c.unless-2.ensures)
    (verdict_go _ c.in_ok-unless-3.was (rw (c.in_range.ensures, c.header_of-h.ensures) at c.unless-3.ensures)
    (verdict_go _ c.in_ok-unless-4.was (rw (c.whole_length.ensures, c.header_of-h.ensures) at c.unless-4.ensures)
    (rw c.header_of-h.ensures at c.records.ensures))))
