-- `checks::one_by_one` meets its contract. 5 to 8 decide, or leave the word and what 5 has shown to 9. Assumes nothing.
use mathlib.Core.Path.{refl, sym, ◌∙◌}
use mathlib.Core.List.{[], ◌∷◌}
use Rattle.sections.proofs.Verdicts.{handed_on, verdict_stop, verdict_go, verdict_last, first_held, first_joined}
use Rattle.book.specs.Laid.{book_at}
use Rattle.book.specs.Table.{check5, check6, check7, check8, check9}
use Rattle.book.proofs.Steps.{fields_of}
use Rattle.checks.proofs.one_by_one.Goals as goal

pub returns-in_err-up_to_factors : goal.returns-in_err-up_to_factors
returns-in_err-up_to_factors c = let B = book_at c.args.book.now in
    verdict_stop _ c.in_err-up_to_factors.was (handed_on _ c.from_residual.ensures.1) c.up_to_factors.ensures
    ∙ first_joined (check5 B ∷ check6 B ∷ check7 B ∷ check8 B ∷ []) (check9 B ∷ [])

pub region_sums-requires : goal.region_sums-requires
region_sums-requires c = fields_of _ (first_held _ _ (sym c.up_to_factors.ensures ∙ c.in_ok-up_to_factors.was)).here refl

pub returns : goal.returns
returns c = let B = book_at c.args.book.now in
    verdict_go _ c.in_ok-up_to_factors.was c.up_to_factors.ensures (verdict_last c.region_sums.ensures)
    ∙ first_joined (check5 B ∷ check6 B ∷ check7 B ∷ check8 B ∷ []) (check9 B ∷ [])
