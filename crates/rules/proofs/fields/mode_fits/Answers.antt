-- `rules::fields::mode_fits` meets its contract. The tests are those of the definition. Assumes nothing.
use Rattle.rules.specs.Rules.{mode_fits}
use Rattle.rules.proofs.fields.mode_fits.Goals as goal

pub returns : goal.returns
unfolding mode_fits
returns c = rw (c.no_terms-bare.ensures, c.is_regulation-regulation.ensures, c.of.ensures)
