-- `decimal_reading::take_places` meets its contract. The invariant: sum is what the digits passed make, behind those of v. Assumes nothing.
use Prim.Native.Nat.{◌+◌}
use mathlib.Core.Path.{sym, ◌∙◌}
use Rattle.decimal_reading.proofs.Taking.{seen, passed_none, passed_more, passed_fits}
use Rattle.decimal_reading.proofs.take_places.Goals as goal

pub loop-i-init : goal.loop-i-init
loop-i-init c = passed_none

pub with_digit-sum-requires : goal.with_digit-sum-requires
with_digit-sum-requires c = (
  passed_fits c.args.decimals c.loop-i.invariant c.loop-i.auto.i-end c.requires.decimals_bound,
  sym c.is_digit.ensures ∙ c.if-not-is_digit.false,
)

pub loop-i-preserved : goal.loop-i-preserved
loop-i-preserved c = let wide = c.wide-x.ensures in
    passed_more c.loop-i.invariant wide
    (seen c.args.text.now (c.args.at + c.loop-i.i) _ wide c.is_digit.ensures c.if-not-is_digit.false)
    c.with_digit-sum.ensures
