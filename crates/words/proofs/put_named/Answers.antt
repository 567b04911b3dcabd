-- `words::put_named` meets its contract: the word, then the number. Assumes nothing.
use Rattle.ground.proofs.Put.{wrote_more}
use Rattle.words.proofs.put_named.Goals as goal

pub returns : goal.returns
returns c = wrote_more c.put_word-e.ensures c.put_whole.ensures
