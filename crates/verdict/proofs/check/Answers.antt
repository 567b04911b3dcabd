-- `verdict::check` meets its contract. A book that is not sound has its answer, one whose test payments have no locked book too, and the others give check 10 what it rests on. Assumes nothing.
use Rattle.sections.proofs.Verdicts.{handed_on}
use Rattle.verdict.proofs.InTurn.{header_room, laid_in, unsound, not_lent, locked_room, tenth}
use Rattle.verdict.proofs.check.Goals as goal

pub returns-in_err-soundness : goal.returns-in_err-soundness
returns-in_err-soundness c = unsound _ _ c.soundness.ensures c.in_err-soundness.was (handed_on _ c.from_residual.ensures.1)

pub header_of-requires : goal.header_of-requires
header_of-requires c = header_room _ c.soundness.ensures c.in_ok-soundness.was

pub invariant_of-laid : goal.invariant_of-laid
invariant_of-laid c = record { laid = laid_in _ c.soundness.ensures c.in_ok-soundness.was c.header_of.ensures }

pub returns-in_err-lent : goal.returns-in_err-lent
returns-in_err-lent c = not_lent _ _ c.soundness.ensures c.in_ok-soundness.was c.header_of.ensures c.lent.ensures c.in_err-lent.was (handed_on _ c.from_residual-in_err-lent.ensures.1)

pub zero_totals-requires : goal.zero_totals-requires
zero_totals-requires c = locked_room _ _ c.soundness.ensures c.in_ok-soundness.was c.header_of.ensures c.lent.ensures c.in_ok-lent.was c.settles_tests.ensures

pub returns : goal.returns
returns c = tenth _ _ c.soundness.ensures c.in_ok-soundness.was c.header_of.ensures c.lent.ensures c.in_ok-lent.was c.settles_tests.ensures c.zero_totals.ensures
