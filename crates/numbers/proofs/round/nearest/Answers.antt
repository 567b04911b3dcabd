-- `numbers::round::nearest` meets its contract. With half of the divisor added, the quotient is the rounded number, and the remainder less that half
-- is what was cut off. Assumes nothing.
use mathlib.Core.Path.{sym, ◌∙◌}
use mir.Syntax.{w64}
use mir.Facts.{to_z-of_z}
use borrow.Author.Rules.{sfits_of}
use Rattle.numbers.proofs.Rounding.{half_added, cut_left}
use Rattle.numbers.proofs.round.nearest.Goals as goal

pub returns : goal.returns
returns c =
    record {
      whole = sym (half_added c.args.n c.args.d c.requires.above);
      cut = to_z-of_z {w = w64} (sfits_of c.difference.type_inv) ∙ c.difference.ensures ∙ cut_left c.args.n c.args.d c.requires.above;
    }
