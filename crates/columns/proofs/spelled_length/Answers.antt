-- `columns::spelled_length` meets its contract. A number is as long as its text, a word as its letters. Assumes nothing.
use mathlib.Core.Path.{sym, ap, ◌∙◌}
use native.Mathlib.Omega.{arith}
use lib.ListN.{length}
use Rattle.columns.proofs.Forms.{as_number, as_word}
use mir.Facts.{to_z-of_z}
use mir.Syntax.{w64}
use borrow.Author.Rules.{sfits_of}
use Rattle.columns.proofs.spelled_length.Goals as goal

pub returns-in-None : goal.returns-in-None
returns-in-None c = rw (as_number c.args.f c.args.x c.in-None.is) (rw (to_z-of_z {w = w64} (sfits_of c.signed.type_inv) ∙ c.signed.ensures) at c.signed_length.ensures)

pub returns-in-Some : goal.returns-in-Some
returns-in-Some c = let w = c.word_of.ensures in
    (ap length (w.0 ∙ sym (as_word c.args.f c.args.x c.in-Some.is)), omega (arith, w.1))
