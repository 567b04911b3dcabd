-- `columns_reading::take_word` meets its contract. The invariant: none of the words so far stands there. Assumes nothing.
use native.Mathlib.Omega.{arith}
use Rattle.columns_reading.proofs.Words.{word_fits}
use Rattle.columns_reading.proofs.take_word.Goals as goal

pub overflow_add-result : goal.overflow_add-result
overflow_add-result c = omega (arith, word_fits c.args.words c.args.last c.args.end c.args.text.now c.args.at _ c.word_of-word.ensures.0 c.letters_to.ensures c.if-letters_to.true)

pub overflow_add-result-then-letters_to : goal.overflow_add-result-then-letters_to
overflow_add-result-then-letters_to c = omega (arith, word_fits c.args.words c.args.last c.args.end c.args.text.now c.args.at _ c.word_of-word.ensures.0 c.letters_to.ensures c.if-letters_to.true)
