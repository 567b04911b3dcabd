-- `balance::pools::regulation` meets its contract. Unit rows by their factors, and the residual pool over all accounts. Assumes nothing.
use mir.Syntax.{w64}
use mathlib.Core.Path.{◌∙◌}
use native.Mathlib.Omega.{arith}
use borrow.Author.Rules.{sfits_of}
use mir.Facts.{to_z-of_z}
use Rattle.book.specs.Laid.{book_at}
use Rattle.balance.proofs.Resting.{constraint_rule, shares_over, part_in, regulation_is}
use Rattle.recovery.proofs.Sharing.{recovery_small}
use Rattle.balance.proofs.pools.regulation.Goals as goal

pub unit_sums-u-requires : goal.unit_sums-u-requires
unit_sums-u-requires c = let known = c.requires.sound in
    record { m_in_bounds = (c.units.ensures.long, (recovery_small _ _ (constraint_rule c.requires.sound _ c.requires.of_constraint.0) c.recovery_of-x.ensures).pool); walked = rw c.units.ensures.bytes (record { few = known.few.units; rules = known.fields.units; keep = record { keep = known.ordered.units.first } }) }

pub over_regions-credit-requires : goal.over_regions-credit-requires
over_regions-credit-requires c = let o = c.requires.of_constraint in
    shares_over (book_at c.args.book.now) c.of-e.ensures _ o.1 c.divisor-whole.ensures (recovery_small _ _ (constraint_rule c.requires.sound _ o.0) c.recovery_of-x.ensures).credit

pub over_regions-charge-requires : goal.over_regions-charge-requires
over_regions-charge-requires c = let o = c.requires.of_constraint in
    shares_over (book_at c.args.book.now) c.of-e.ensures _ o.1 c.divisor-whole.ensures (recovery_small _ _ (constraint_rule c.requires.sound _ o.0) c.recovery_of-x.ensures).charge

pub signed-requires : goal.signed-requires
signed-requires c = omega (arith, (recovery_small _ _ (constraint_rule c.requires.sound _ c.requires.of_constraint.0) c.recovery_of-x.ensures).amount)

pub returns : goal.returns
returns c = let e = c.of-e.ensures in
    let units = c.units.ensures.bytes in
    regulation_is (book_at c.args.book.now) _ _ _ _ c.recovery_of-x.ensures (rw units at c.unit_sums-u.ensures) (part_in e c.over_regions-credit.ensures) (part_in e c.over_regions-charge.ensures) (to_z-of_z {w = w64} (sfits_of c.signed.type_inv) ∙ c.signed.ensures) (to_z-of_z {w = w64} (sfits_of c.net.type_inv) ∙ c.net.ensures)
