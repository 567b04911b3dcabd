-- What a check that refuses nothing leaves for those after it; v is what the check answered. Assumes nothing.
use mathlib.Core.Path.{◌≡◌, sym, ◌∙◌}
use mathlib.Core.Bool.{true}
use borrow.Author.Tests.{leb-true}
use Rattle.ground.proofs.Every.{every}
use Rattle.sections.specs.Refusal.{Verdict, unrefused}
use Rattle.sections.proofs.Verdicts.{record_held, first_held}
use Rattle.rules.proofs.Rule.{entry_rules, constraint_rules, unit_rules, energy_rules, contract_rules, constraints_rise, units_rise, energies_rise, contracts_rise}
use Rattle.factors.proofs.Said.{owner_of, names_of}
use Rattle.book.specs.declared.header.Header.{Header}
use Rattle.book.specs.Header.{range_tests, in_range}
use Rattle.book.specs.Book.{Book}
use Rattle.book.specs.Table.{check5, check6, check7}
use Rattle.book.specs.Inner.Facts.{Few, Fields, Ordered, Named}

pub few_of : (h : Header) → in_range h ≡ true → Few h
few_of h e =
    let k = every (range_tests h) e in
    record {
      constraints = leb-true _ _ k.1.0;
      units = leb-true _ _ k.1.1.0;
      energies = leb-true _ _ k.1.1.1.0;
      contracts = leb-true _ _ k.1.1.1.1.0;
    }

module _ (B : Book) where
  pub fields_of : {v : Verdict} → v ≡ unrefused → v ≡ check5 B → Fields B
  unfolding check5
  fields_of g q =
      let e = sym q ∙ g in
      let r = first_held _ _ e in
      let c = first_held _ _ r.rest in
      let u = first_held _ _ c.rest in
      let n = first_held _ _ u.rest in
      let k = first_held _ _ n.rest in
      record {
        entries = entry_rules B.entry 5 (record_held _ _ _ _ r.here);
        constraints = constraint_rules B.constraint B.header.constraints (record_held _ _ _ _ c.here);
        units = unit_rules B.unit B.header.units (record_held _ _ _ _ u.here);
        energies = energy_rules B.energy B.header.energies (record_held _ _ _ _ n.here);
        contracts = contract_rules B.contract B.header.contracts (record_held _ _ _ _ k.here);
      }

  pub ordered_of : {v : Verdict} → v ≡ unrefused → v ≡ check6 B → Ordered B
  unfolding check6
  ordered_of g q =
      let e = sym q ∙ g in
      let c = first_held _ _ e in
      let u = first_held _ _ c.rest in
      let n = first_held _ _ u.rest in
      let k = first_held _ _ n.rest in
      record {
        constraints = constraints_rise B.constraint B.header.constraints (record_held _ _ _ _ c.here);
        units = units_rise B.unit B.header.units (record_held _ _ _ _ u.here);
        energies = energies_rise B.energy B.header.energies (record_held _ _ _ _ n.here);
        contracts = contracts_rise B.contract B.header.contracts (record_held _ _ _ _ k.here);
      }

  pub named_of : {v : Verdict} → v ≡ unrefused → v ≡ check7 B → Named B
  unfolding check7
  named_of g q =
      let e = sym q ∙ g in
      record { names = names_of B.constraint B.header.constraints B.unit B.header.units (owner_of B.constraint B.header.constraints B.unit B.header.units (record_held _ _ _ _ e)) }
