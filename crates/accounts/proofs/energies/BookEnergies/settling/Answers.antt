-- `accounts::energies::BookEnergies::settling` meets its contract. The section that was handed back and the rows' place are of the one book. Assumes nothing.
use Rattle.accounts.proofs.Handed.{handed_energies, handed_laid, handed_sound}
use Rattle.accounts.proofs.energies.BookEnergies.settling.Goals as goal

pub invariant_of-result : goal.invariant_of-result
invariant_of-result c = let b = c.args.book.now in
    let l = c.args.locked.now in
    record { laid = handed_laid b.bytes.now b.header l.bytes.now l.header c.energies_of.ensures c.part_in.ensures b.laid l.laid; sound = handed_sound b.bytes.now b.header l.bytes.now l.header c.energies_of.ensures c.part_in.ensures c.requires.0 c.requires.1 }

pub returns : goal.returns
returns c = let b = c.args.book.now in
    let l = c.args.locked.now in
    handed_energies b.bytes.now b.header l.bytes.now l.header c.energies_of.ensures c.part_in.ensures
