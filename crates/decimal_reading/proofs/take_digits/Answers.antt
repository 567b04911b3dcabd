-- `decimal_reading::take_digits` meets its contract. The invariant: sum is what the digits passed make. Assumes nothing.
use Prim.Native.Nat.{◌+◌}
use mathlib.Core.Path.{sym, ◌∙◌}
use native.Mathlib.Omega.{arith}
use Rattle.decimal_reading.proofs.Taking.{seen, passed_none, passed_more, sum_fits, sum_found, sum_ended, sum_long}
use Rattle.decimal_reading.proofs.take_digits.Goals as goal

pub loop-i-init : goal.loop-i-init
loop-i-init c = passed_none

pub returns-then-n-i : goal.returns-then-n-i
returns-then-n-i c = sum_ended c.loop-i.invariant (omega (arith, c.saturating_sub-n.ensures, c.if-n-i.true))

pub returns-then-not-is_digit : goal.returns-then-not-is_digit
returns-then-not-is_digit c = sum_found c.loop-i.invariant (seen c.args.text.now (c.args.at + c.loop-i.i) _ c.wide-x.ensures c.is_digit.ensures c.if-not-is_digit.true)
    c.loop-i-test.true
    (omega (arith, c.saturating_sub-n.ensures, c.if-n-i.false))

pub with_digit-sum-requires : goal.with_digit-sum-requires
with_digit-sum-requires c = (
  sum_fits c.loop-i.invariant (omega (arith, c.requires, c.loop-i-test.true)),
  sym c.is_digit.ensures ∙ c.if-not-is_digit.false,
)

pub loop-i-preserved : goal.loop-i-preserved
loop-i-preserved c = let wide = c.wide-x.ensures in
    passed_more c.loop-i.invariant wide
    (seen c.args.text.now (c.args.at + c.loop-i.i) _ wide c.is_digit.ensures c.if-not-is_digit.false)
    c.with_digit-sum.ensures

pub returns : goal.returns
returns c = sum_long c.loop-i.invariant c.loop-i-test.false
