-- `nmas_reading::read_through` meets its contract. The invariant: the text so far is rows, and where the one that is asked for begins is kept. The measure is what is left of the text. Assumes nothing.
use mathlib.Core.Path.{refl}
use native.Mathlib.Omega.{arith}
use Rattle.nmas_reading.proofs.Texts.{begun_none, begun_forth, begun_more, begun_stop, begun_all}
use Rattle.nmas_reading.proofs.read_through.Goals as goal

pub loop-at-init : goal.loop-at-init
loop-at-init c = (c.requires, begun_none _ _)

pub returns-in_default : goal.returns-in_default
returns-in_default c = record { fields_len = c.in_default.ensures.fields_len; walked = begun_stop _ _ c.loop-at.invariant.1 c.in_default.ensures.row_found c.loop-at-test.true }

pub loop-at-smaller : goal.loop-at-smaller
loop-at-smaller c = omega (arith, begun_forth _ _ c.loop-at.invariant.1 c.in-Some.ensures.row_found, c.loop-at-test.true)

pub loop-at-preserved : goal.loop-at-preserved
loop-at-preserved c = (c.in-Some.ensures.fields_len, begun_more _ _ c.loop-at.invariant.1 c.in-Some.ensures.row_found refl c.kept-asked.ensures)

pub returns : goal.returns
returns c = record { fields_len = c.loop-at.invariant.0; walked = begun_all _ _ c.loop-at.invariant.1 c.loop-at-test.false }
