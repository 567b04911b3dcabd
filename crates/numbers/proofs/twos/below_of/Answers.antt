-- `numbers::twos::below_of` meets its contract. The size of what was chosen is what is chosen of the sizes, since that of 0 is 0. Assumes nothing.
use Prim.Native.Nat.{ℕ}
use mathlib.Core.Path.{◌≡◌, refl, ap, ◌∙◌}
use mathlib.Core.Bool.{Bool, true, false, cond}
use lib.Dec.{ltb}
use Rattle.numbers.specs.Sizes.{size_below, below_of}
use Rattle.numbers.proofs.twos.below_of.Goals as goal

size-chosen : (t : Bool) (w : ℕ) → size_below (cond t 0 w) ≡ cond t 0 (size_below w)
size-chosen true w = refl
size-chosen false w = refl

pub returns : goal.returns
unfolding below_of
returns c = c.size_of.ensures ∙ ap size_below c.below_bits.ensures
    ∙ size-chosen (ltb c.args.w 2_147_483_648) c.args.w
