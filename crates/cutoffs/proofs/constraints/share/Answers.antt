-- `cutoffs::constraints::share` meets its contract. Both sides of the residual pool are shared over all accounts, and what was cut off the one is taken from that of the other. Assumes nothing.
use mathlib.Core.Path.{ap, ap₂, ◌∙◌}
use lib.IntN.{◌-ℤ◌}
use mir.Syntax.{w64}
use mir.Facts.{to_z-of_z}
use borrow.Author.Rules.{sfits_of}
use Rattle.book.specs.Laid.{book_at}
use Rattle.accounts.specs.Inner.Energies.{energies_of}
use Rattle.totals.specs.Divisors.{over_regions}
use Rattle.totals.specs.Inner.Energies.{Energies}
use Rattle.balance.proofs.Resting.{constraint_rule, shares_over}
use Rattle.recovery.proofs.Sharing.{recovery_small}
use Rattle.cutoffs.proofs.Made.{cut_in, share_is}
use Rattle.cutoffs.proofs.constraints.share.Goals as goal

pub cut_over_regions-credit-requires : goal.cut_over_regions-credit-requires
cut_over_regions-credit-requires c = let o = c.requires.of_constraint in
    shares_over (book_at c.args.book.now) c.of-e.ensures _ o.1 c.divisor-whole.ensures (recovery_small _ _ (constraint_rule c.requires.sound _ o.0) c.recovery_of-x.ensures).credit

pub cut_over_regions-charge-requires : goal.cut_over_regions-charge-requires
cut_over_regions-charge-requires c = let o = c.requires.of_constraint in
    shares_over (book_at c.args.book.now) c.of-e.ensures _ o.1 c.divisor-whole.ensures (recovery_small _ _ (constraint_rule c.requires.sound _ o.0) c.recovery_of-x.ensures).charge

pub returns : goal.returns
returns c = let e = c.of-e.ensures in
    share_is (energies_of (book_at c.args.book.now)) _ _ c.recovery_of-x.ensures (c.divisor-whole.ensures ∙ ap (λ (E : Energies). over_regions E.entry c.args.r) e) (cut_in e c.cut_over_regions-credit.ensures) (cut_in e c.cut_over_regions-charge.ensures)
    (to_z-of_z {w = w64} (sfits_of c.minus.type_inv) ∙ c.minus.ensures ∙ ap₂ ◌-ℤ◌ (to_z-of_z {w = w64} {z = c.cut_over_regions-credit.result} (sfits_of c.cut_over_regions-credit.type_inv)) (to_z-of_z {w = w64} {z = c.cut_over_regions-charge.result} (sfits_of c.cut_over_regions-charge.type_inv)))
