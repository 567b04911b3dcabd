-- `sharing::shares::part_cut` meets its contract. Each call adds what an account's share cut off, and before each one the sum is small enough for it. Assumes nothing.
use Rattle.std.proofs.Common.{rules}
use mir.Syntax.{w64}
use mir.Facts.{to_z-of_z}
use borrow.Author.Rules.{sfits_of}
use Rattle.sharing.proofs.Groups.{own_small, cut_room, cut_over}
use Rattle.sharing.proofs.shares.part_cut.Goals as goal

pub over_accounts-requires-clause-adds : goal.over_accounts-requires-clause-adds
over_accounts-requires-clause-adds c l a x few made =
    let h = c.requires.shareable in
    let small = own_small _ _ _ h a in
    let room = cut_room _ _ _ h (λ x own y u q. search rules) l x few made in
    search rules

pub returns : goal.returns
returns c = rw (to_z-of_z {w = w64} (sfits_of c.over_accounts.type_inv))
    (cut_over _ _ _ c.requires.shareable (λ x own y u q. search rules) c.requires.sorted c.over_accounts.ensures)
