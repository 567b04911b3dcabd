-- What holds of each of the three energies holds of any. Assumes nothing.
use Rattle.market.specs.declared.Basis.{Basis}
use Rattle.market.specs.declared.Basis.TheVariants.{Ace, Asoe, Residual}

pub each_basis : (P : Basis → Type 0) → P Ace → P Asoe → P Residual → (b : Basis) → P b
each_basis P a o r Ace = a
each_basis P a o r Asoe = o
each_basis P a o r Residual = r
