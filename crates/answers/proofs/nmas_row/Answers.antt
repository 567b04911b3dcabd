-- `answers::nmas_row` meets its contract. Each number with a sign is made from its size. Assumes nothing.
use mathlib.Core.Path.{◌∙◌}
use mir.Facts.{to_z-of_z}
use mir.Syntax.{w64}
use Rattle.answers.specs.Answers.{nmas_row_answer}
use borrow.Author.Rules.{sfits_of}
use Rattle.answers.proofs.nmas_row.Goals as goal

pub returns : goal.returns
unfolding nmas_row_answer
returns c = let r = c.args.r in
    let e1 = to_z-of_z {w = w64} (sfits_of c.signed.type_inv) ∙ c.signed.ensures in
    let e2 = to_z-of_z {w = w64} (sfits_of c.signed-2.type_inv) ∙ c.signed-2.ensures in
    let e3 = to_z-of_z {w = w64} (sfits_of c.signed-3.type_inv) ∙ c.signed-3.ensures in
    let e4 = to_z-of_z {w = w64} (sfits_of c.signed-4.type_inv) ∙ c.signed-4.ensures in
    let e5 = to_z-of_z {w = w64} (sfits_of c.signed-5.type_inv) ∙ c.signed-5.ensures in
    let e6 = to_z-of_z {w = w64} (sfits_of c.signed-6.type_inv) ∙ c.signed-6.ensures in
    let e7 = to_z-of_z {w = w64} (sfits_of c.signed-7.type_inv) ∙ c.signed-7.ensures in
    λ j. record { refusal = 0; place = 0; date = r.date; run = r.run; interval = r.interval; account = r.account; contract = r.contract; payment_type = r.payment_type; region = r.region; factor = r.factor; payment = r.payment; recovery = e1 j; own_ace = e2 j; region_ace = e3 j; own_asoe = e4 j; region_asoe = e5 j; by_ace = e6 j; by_asoe = e7 j }
