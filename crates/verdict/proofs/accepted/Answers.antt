-- `verdict::accepted` meets its contract. Where no check refuses, both books are as long as their headers say. Assumes nothing.
use native.Mathlib.Omega.{arith}
use mathlib.Core.Path.{refl, sym, ◌∙◌}
use Rattle.sections.proofs.Verdicts.{handed_on}
use Rattle.book.proofs.Second.{given, laid_in, is_locked, locked_laid}
use Rattle.verdict.proofs.accepted.Goals as goal

pub returns-in_err-check : goal.returns-in_err-check
returns-in_err-check c = rw (handed_on _ c.from_residual.ensures.1) (sym c.check.ensures ∙ c.in_err-check.was)

pub header_of-requires : goal.header_of-requires
header_of-requires c = omega (arith, (given _ _ c.check.ensures c.in_ok-check.was).long)

pub invariant_of-first : goal.invariant_of-first
invariant_of-first c = record { laid = laid_in _ _ c.check.ensures c.in_ok-check.was c.header_of.ensures }

pub header_of-requires-2 : goal.header_of-requires-2
header_of-requires-2 c = omega (arith, (locked_laid _ _ c.check.ensures c.in_ok-check.was c.header_of.ensures c.settles_tests-bytes.ensures).long)

pub invariant_of-second : goal.invariant_of-second
invariant_of-second c = record { laid = rw c.header_of-2.ensures (locked_laid _ _ c.check.ensures c.in_ok-check.was c.header_of.ensures c.settles_tests-bytes.ensures) }

pub returns : goal.returns
returns c = let second = is_locked _ _ c.check.ensures c.in_ok-check.was c.header_of.ensures c.settles_tests-bytes.ensures in
    record { unrefused = sym c.check.ensures ∙ c.in_ok-check.was; book = refl; header = c.header_of.ensures; second = second; second_header = rw second at c.header_of-2.ensures }
