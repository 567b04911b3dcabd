-- `lookup::constraint::other_line` meets its contract. The mode decides: the one line, or one of the residual's. Assumes nothing.
use Rattle.amounts.proofs.Sizes.{pools_small, residual_small}
use Rattle.lookup.proofs.OneConstraint.{other_plain, rest_in, other_rest}
use Rattle.lookup.proofs.constraint.other_line.Goals as goal

pub returns-then-r-eq-CONTINGENCY : goal.returns-then-r-eq-CONTINGENCY
returns-then-r-eq-CONTINGENCY c = let x = c.share_of-share.ensures in
    other_plain _ _ _ _ c.requires.i_in_bounds c.if-r-eq-CONTINGENCY.true (rw (x.0, x.1) at c.contingency_line.ensures)

pub residual_of-x-requires-clause-small_pools : goal.residual_of-x-requires-clause-small_pools
residual_of-x-requires-clause-small_pools c = rw c.pools_of.ensures (pools_small _ c.requires.rests.rule)

pub rest_line-requires : goal.rest_line-requires
rest_line-requires c = let small = pools_small _ c.requires.rests.rule in
    let x = c.share_of-share.ensures in
    record {
      i_in_bounds = rw (c.residual_of-x.ensures, c.pools_of.ensures, x.0, x.1) (rest_in _ _ _ _ c.requires.i_in_bounds c.if-r-eq-CONTINGENCY.false);
      small_residual = rw (c.residual_of-x.ensures, c.pools_of.ensures) (residual_small _ _ c.requires.rests.rule small);
    }

pub returns : goal.returns
returns c = let x = c.share_of-share.ensures in
    other_rest _ _ _ _ c.requires.i_in_bounds c.if-r-eq-CONTINGENCY.false (rw (c.residual_of-x.ensures, c.pools_of.ensures, x.0, x.1) at c.rest_line.ensures)
