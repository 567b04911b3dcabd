-- `amounts::pools::halves_of` meets its contract. The part is at most the payment, so that its half fits; the half of an odd part is
-- rounded up, and the two halves make the part. Assumes nothing.
use Prim.Native.Nat.{ℕ, ◌+◌, ◌-◌, ◌/◌}
use mathlib.Core.Path.{◌≡◌, ap, ◌∙◌}
use native.Mathlib.Omega.{arith}
use Rattle.numbers.specs.Round.{round_n}
use Rattle.amounts.specs.Pools.{halve, halves_of}
use Rattle.amounts.specs.declared.pools.Halves.{Halves}
use Rattle.amounts.proofs.pools.halves_of.Goals as goal

-- a part and one of its halves
abbrev halved : ℕ → ℕ → Halves
halved part consumed = record { consumed = consumed; sent = part - consumed }

odd-up : (part : ℕ) → round_n part 2 ≡ (part + 1) / 2
odd-up part = omega arith

pub returns : goal.returns
unfolding halves_of
returns c = ap (halved c.share-part.result) (c.half_of-consumed.ensures.whole ∙ odd-up c.share-part.result) ∙ ap halve c.share-part.ensures
