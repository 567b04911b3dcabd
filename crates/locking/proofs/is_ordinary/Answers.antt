-- `locking::is_ordinary` meets its contract. The kind decides. Assumes nothing.
use mathlib.Core.Path.{refl}
use denote.Enum.Bare.{sameb}
use Rattle.locking.proofs.Picked.{ordinary_told}
use Rattle.locking.specs.declared.Source.TheVariants.{Current}
use Rattle.locking.specs.contracts.Source.{the_type}
use Rattle.locking.proofs.is_ordinary.Goals as goal

pub returns : goal.returns
returns c = rw (c.eq.ensures, c.of.ensures, c.contract_row.ensures) (ordinary_told (λ s. sameb the_type s Current) _ refl refl)
