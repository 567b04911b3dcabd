-- `rules::fields::terms_ok` meets its contract. A factored mode is tested by its data, and any other has nothing to test. Assumes nothing.
use mathlib.Core.Bool.{true}
use mathlib.Core.Path.{◌≡◌, refl}
use borrow.Enum.Refused.{opened}
use Rattle.rules.specs.Rules.{terms_ok}
use Rattle.market.proofs.Modes.{unfactored}
use Rattle.rules.proofs.fields.terms_ok.Goals as goal

pub returns-in_default : goal.returns-in_default
unfolding terms_ok
returns-in_default c = unfactored (λ m. true ≡ terms_ok m) refl refl refl c.args.mode (opened c.in_default.in_default-own.keys2)

pub returns : goal.returns
unfolding terms_ok
returns c = rw (c.product.ensures, c.in-Factored.is)
