-- `columns::put_spelled` meets its contract. A number or a word is written. Assumes nothing.
use mathlib.Core.Path.{sym, ◌∙◌}
use Rattle.columns.proofs.Forms.{as_number, as_word}
use mir.Facts.{to_z-of_z}
use mir.Syntax.{w64}
use borrow.Author.Rules.{sfits_of}
use Rattle.columns.proofs.put_spelled.Goals as goal

pub put_signed-requires : goal.put_signed-requires
put_signed-requires c = rw (to_z-of_z {w = w64} (sfits_of c.signed.type_inv) ∙ c.signed.ensures) (rw (as_number c.args.f c.args.x c.in-None.is) at c.requires.x_in_bounds)

pub returns-in-None : goal.returns-in-None
returns-in-None c = rw (as_number c.args.f c.args.x c.in-None.is) (rw (to_z-of_z {w = w64} (sfits_of c.signed.type_inv) ∙ c.signed.ensures) at c.put_signed.ensures)

pub put_word-requires : goal.put_word-requires
put_word-requires c = rw (c.word_of.ensures.0 ∙ sym (as_word c.args.f c.args.x c.in-Some.is)) c.requires.x_in_bounds

pub returns-in-Some : goal.returns-in-Some
returns-in-Some c = rw (as_word c.args.f c.args.x c.in-Some.is) (rw c.word_of.ensures.0 at c.put_word.ensures)
