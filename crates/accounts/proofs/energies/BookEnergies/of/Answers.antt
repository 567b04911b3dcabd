-- `accounts::energies::BookEnergies::of` meets its contract. The rows stand where the header says, and a sound book's are sound. Assumes nothing.
use Rattle.accounts.proofs.Parts.{part_laid, part_sound, part_energies}
use Rattle.accounts.proofs.energies.BookEnergies.of.Goals as goal

pub invariant_of-result : goal.invariant_of-result
invariant_of-result c = let b = c.args.book.now in
    rw c.entries.ensures.bytes (record { laid = part_laid b.bytes.now b.header _ c.part_of.ensures b.laid; sound = part_sound b.bytes.now b.header _ c.part_of.ensures c.requires })

pub returns : goal.returns
returns c = let b = c.args.book.now in rw c.entries.ensures.bytes (part_energies b.bytes.now b.header _ c.part_of.ensures)
