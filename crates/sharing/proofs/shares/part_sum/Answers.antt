-- `sharing::shares::part_sum` meets its contract. Each call adds an account's share, and before each one the sum is small enough for it. Assumes nothing.
use Rattle.std.proofs.Common.{rules}
use Rattle.sharing.proofs.Groups.{own_small, sum_room, sum_over}
use Rattle.sharing.proofs.shares.part_sum.Goals as goal

pub over_accounts-requires-clause-adds : goal.over_accounts-requires-clause-adds
over_accounts-requires-clause-adds c l a x few made =
    let h = c.requires.shareable in
    let small = own_small _ _ _ h a in
    let room = sum_room _ _ _ h (λ x own y u q. search rules) l x few made in
    search rules

pub returns : goal.returns
returns c = sum_over _ _ _ c.requires.shareable (λ x own y u q. search rules) c.requires.sorted c.over_accounts.ensures
