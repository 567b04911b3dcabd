-- `divisors::over_regions` meets its contract. The invariant: each sum so far, with those of the regions that are left, is the whole, and there is room for these. The measure is how many are left. Assumes nothing.
use mathlib.Core.Path.{◌∙◌}
use native.Mathlib.Omega.{arith}
use Rattle.market.proofs.Walk.{first_is_region, one_fewer, sum_start, sum_more, sum_end}
use Rattle.divisors.proofs.Turns.{regions_few, over_is_divisor}
use Rattle.divisors.proofs.over_regions.Goals as goal

pub loop-basis-init : goal.loop-basis-init
loop-basis-init g c =
    let few = regions_few c.args.r.mask 0 5 in
    record { sums = λ own total h. (sum_start _ _, sum_start _ _); own_room = omega (arith, few); total_room = omega (arith, few) }

pub has-x-requires : goal.has-x-requires
has-x-requires g c = c.requires.by_region _ _ (first_is_region _ _ c.first_in-step.ensures.0)

pub overflow_add-own : goal.overflow_add-own
overflow_add-own g c =
    let e = c.first_in-step.ensures.0 in
    let x = c.requires.small _ _ _ (first_is_region _ _ e) c.has-x.ensures in
    omega (arith, c.loop-basis.invariant.own_room, one_fewer _ _ e, x.0)

pub overflow_add-total : goal.overflow_add-total
overflow_add-total g c =
    let e = c.first_in-step.ensures.0 in
    let x = c.requires.small _ _ _ (first_is_region _ _ e) c.has-x.ensures in
    omega (arith, c.loop-basis.invariant.total_room, one_fewer _ _ e, x.1)

pub loop-basis-preserved : goal.loop-basis-preserved
loop-basis-preserved g c =
    let e = c.first_in-step.ensures.0 in
    let i = c.loop-basis.invariant in
    let l = first_is_region _ _ e in
    let x = c.requires.small _ _ _ l c.has-x.ensures in
    let fewer = one_fewer _ _ e in
    record {
      sums = λ own total h. (sum_more _ _ (i.sums own total h).0 _ e (h _ _ _ l c.has-x.ensures).0, sum_more _ _ (i.sums own total h).1 _ e (h _ _ _ l c.has-x.ensures).1);
      own_room = omega (arith, i.own_room, fewer, x.0);
      total_room = omega (arith, i.total_room, fewer, x.1);
    }

pub returns : goal.returns
returns g c own total h =
    let s = c.loop-basis.invariant.sums own total h in
    let n = c.count_in.ensures in
    let r = c.args.r in (
      sum_end _ _ s.0 n (omega (arith, c.loop-basis-test.false)) ∙ over_is_divisor own r c.of-basis.ensures c.of.ensures,
      sum_end _ _ s.1 n (omega (arith, c.loop-basis-test.false)) ∙ over_is_divisor total r c.of-basis.ensures c.of.ensures,
    )
