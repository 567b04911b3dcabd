-- `columns_reading::letters_to` meets its contract. The letters, and then the byte. Assumes nothing.
use native.Mathlib.Omega.{arith}
use mathlib.Core.Path.{refl}
use Rattle.columns_reading.proofs.Words.{letters_none, letters_within, letters_told}
use Rattle.columns_reading.proofs.letters_to.Goals as goal

pub returns-then-not-starts : goal.returns-then-not-starts
returns-then-not-starts c = letters_none c.args.word.now c.args.end _ _ c.starts.ensures c.if-not-starts.true

pub overflow_add-at : goal.overflow_add-at
overflow_add-at c = omega (arith, letters_within c.args.word.now c.args.end c.args.text.now c.args.at refl c.requires.word_some c.starts.ensures c.if-not-starts.false)

pub returns : goal.returns
returns c = letters_told c.args.word.now c.args.end c.args.text.now c.args.at refl c.requires.word_some c.starts.ensures c.if-not-starts.false c.requires.end_nonzero c.byte_at.ensures refl
