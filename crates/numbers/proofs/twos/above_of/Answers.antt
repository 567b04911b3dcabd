-- `numbers::twos::above_of` meets its contract. The test decides the case. Assumes nothing.
use borrow.Author.Tests.{lt-ltb, le-ltb}
use Rattle.numbers.specs.Sizes.{above_of}
use Rattle.numbers.proofs.twos.above_of.Goals as goal

pub returns-then-w-lt2147483648 : goal.returns-then-w-lt2147483648
unfolding above_of
returns-then-w-lt2147483648 c = rw (lt-ltb _ _ c.if-w-lt2147483648.true)

pub returns-else-w-lt2147483648 : goal.returns-else-w-lt2147483648
unfolding above_of
returns-else-w-lt2147483648 c = rw (le-ltb _ _ c.if-w-lt2147483648.false)
