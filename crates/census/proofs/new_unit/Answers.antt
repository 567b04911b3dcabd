-- `census::new_unit` meets its contract. The place of the account says whether it is known; if not, the row is put there. Assumes nothing.
use mathlib.Core.Path.{refl, sym}
use native.Mathlib.Omega.{arith}
use Rattle.census.proofs.Counting.{seen_old, seen_new}
use Rattle.census.proofs.Tree.{place_old, place_new, grown_old, grown_more}
use Rattle.census.proofs.new_unit.Goals as goal

pub returns-then-links-slot-gt0 : goal.returns-then-links-slot-gt0
returns-then-links-slot-gt0 c = let tree = c.requires.grown in
    let account = c.unit_account.ensures in
    let place = c.find-slot.ensures.place in
    record { value = seen_old _ _ account (sym (place_old _ _ _ _ tree place (omega arith))) refl; grown_2 = grown_old _ _ _ tree account place (omega arith) }

pub returns : goal.returns
returns c = let tree = c.requires.grown in
    let account = c.unit_account.ensures in
    let place = c.find-slot.ensures.place in
    record { value = seen_new _ _ account (sym (place_new _ _ _ _ tree place (omega arith))) refl; grown_2 = grown_more _ _ _ tree account place c.find-slot.ensures.upper_bound c.requires.u_bound.0 (omega arith) refl }
