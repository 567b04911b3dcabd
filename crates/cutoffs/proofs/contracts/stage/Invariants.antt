-- `cutoffs::contracts::stage` meets its contract. The invariant, `Reached`: the stages of the regions so far come first, and left is the number behind them. Assumes nothing.
use Rattle.accounts.specs.Inner.Lent.{lent}
use Rattle.cutoffs.proofs.Numbering.{Reached}
use Rattle.cutoffs.proofs.contracts.stage.Given as goal

abbrev pub invariant-loop-g : goal.invariant-loop-g
invariant-loop-g l = Reached (lent l.e) l.k l.index l.g l.left
