-- `sections::earlier` meets its contract: std's `and` is the first refusal of two. Assumes nothing.
use mathlib.Core.Path.{◌≡◌, refl, ◌∙◌}
use Rattle.std.specs.Result.{result_and}
use Rattle.std.specs.Prelude.{Ok, Err}
use Rattle.sections.specs.Refusal.{Verdict, earlier}
use Rattle.sections.proofs.earlier.Goals as goal

and_is_earlier : (a b : Verdict) → result_and a b ≡ earlier a b
unfolding earlier
and_is_earlier (Ok _) b = refl
and_is_earlier (Err e) b = refl

pub returns : goal.returns
returns c = c.and.ensures ∙ and_is_earlier c.args.a c.args.b
