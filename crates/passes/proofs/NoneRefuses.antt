-- Where the short sections pass their checks and the passes over the long ones find nothing wrong, no check refuses the book; and where one
-- of them finds something wrong, a check does. Assumes nothing.
use Prim.Native.Nat.{ℕ, ◌<◌}
use mathlib.Core.List.{List}
use mathlib.Core.Path.{◌≡◌, refl, sym, ◌∙◌}
use mathlib.Core.Bool.{Bool, true, false, not}
use borrow.Author.Tests.{not-true, not-false}
use Rattle.ground.specs.Bytes.{part_from}
use Rattle.sections.specs.First.{first_bad}
use Rattle.sections.specs.Order.{rises_by}
use Rattle.sections.specs.Inner.Order.{Rises}
use Rattle.sections.specs.Refusal.{at_record, earlier, first_of, Verdict, unrefused}
use Rattle.std.specs.Prelude.{None, Ok, Err}
use Rattle.sections.proofs.Cases.{no_yes}
use Rattle.sections.proofs.First.{first_each, first_good}
use Rattle.sections.proofs.Verdicts.{record_held, first_held}
use Rattle.records.specs.Rows.{entry_row, constraint_row, unit_row, energy_row}
use Rattle.rules.specs.Rules.{entry_ok, constraint_ok, unit_ok, energy_ok, contract_ok, constraint_below, unit_below, energy_below, contract_below}
use Rattle.rules.specs.Inner.Facts.{EntryRule, ConstraintRule}
use Rattle.rules.proofs.Rule.{entry_rules, constraint_rules, constraints_rise}
use Rattle.factors.specs.Naming.{id_of, named_at}
use Rattle.factors.specs.Factors.{factors_at}
use Rattle.totals.specs.Sums.{entry_has_sums}
use Rattle.unit_pass.specs.Inner.Holds.{units_hold}
use Rattle.unit_pass.proofs.Said.{UnitsHold, units_say, units_said}
use Rattle.energy_pass.specs.Inner.Holds.{energies_hold}
use Rattle.energy_pass.proofs.Said.{EnergiesHold, energies_say, energies_said}
use Rattle.book.specs.declared.header.Header.{Header}
use Rattle.book.specs.Header.{units_from, energies_from}
use Rattle.book.specs.Book.{Book, book_in}
use Rattle.book.specs.Table.{check5, check6, check7, check8, check9, record_checks}
use Rattle.book.proofs.Passed.{none_refused}
use Rattle.passes.specs.Inner.Passes.{short_checks, accepts}

-- what the short sections show
record Short (B : Book) : Type 0 where
  entries : first_bad (λ i. entry_ok (B.entry i)) 5 ≡ None
  constraints : first_bad (λ i. constraint_ok (B.constraint i)) B.header.constraints ≡ None
  contracts : first_bad (λ i. contract_ok (B.contract i)) B.header.contracts ≡ None
  rise : first_bad (rises_by constraint_below B.constraint) B.header.constraints ≡ None
  contracts_order : first_bad (rises_by contract_below B.contract) B.header.contracts ≡ None

module _ (B : Book) {v : Verdict} (g : v ≡ unrefused) (q : v ≡ first_of (short_checks B)) where
  short : Short B
  unfolding short_checks
  short =
      let e = first_held _ _ (sym q ∙ g) in
      let c = first_held _ _ e.rest in
      let k = first_held _ _ c.rest in
      let r = first_held _ _ k.rest in
      let o = first_held _ _ r.rest in
      record {
        entries = record_held _ _ _ _ e.here;
        constraints = record_held _ _ _ _ c.here;
        contracts = record_held _ _ _ _ k.here;
        rise = record_held _ _ _ _ r.here;
        contracts_order = record_held _ _ _ _ o.here;
      }

  pub ids_rise : Rises (id_of B.constraint) B.header.constraints
  ids_rise = constraints_rise B.constraint B.header.constraints short.rise

  pub entries_rule : (g : ℕ) → g < 5 → EntryRule (B.entry g)
  entries_rule = entry_rules B.entry 5 short.entries

  pub constraints_rule : (j : ℕ) → j < B.header.constraints → ConstraintRule (B.constraint j)
  constraints_rule = constraint_rules B.constraint B.header.constraints short.constraints

  module _ (u : UnitsHold B.constraint B.header.constraints B.unit B.header.units) (n : EnergiesHold B.energy B.header.energies B.entry) where
    -- no check refuses it
    pub none_refuses : true ≡ accepts (first_of (record_checks B))
    unfolding check5 check6 check7 check8 check9 at_record earlier first_of accepts
    none_refuses =
        rw (
          short.entries,
          short.constraints,
          first_good (λ i. unit_ok (B.unit i)) _ u.fields,
          first_good (λ i. energy_ok (B.energy i)) _ n.fields,
          short.contracts,
          short.rise,
          first_good (rises_by unit_below B.unit) _ u.order,
          first_good (rises_by energy_below B.energy) _ n.order,
          short.contracts_order,
          first_good (named_at B.constraint B.header.constraints B.unit) _ u.named,
          first_good (factors_at B.unit B.header.units B.constraint) _ u.factored,
          first_good (entry_has_sums B.energy B.header.energies B.entry) _ n.sums,
        )

-- ---- what acceptance says of what is looked at

refuses : (v : Verdict) → (v ≡ unrefused → ⊥) → false ≡ accepts v
unfolding accepts
refuses (Ok _) d = absurd (d refl)
refuses (Err e) d = refl

pub accepts_only : (v : Verdict) → true ≡ accepts v → unrefused ≡ v
unfolding accepts
accepts_only (Ok _) e = refl
accepts_only (Err x) e = absurd (no_yes refl (sym e))

record Through (B : Book) : Type 0 where
  short : first_of (short_checks B) ≡ unrefused
  units : UnitsHold B.constraint B.header.constraints B.unit B.header.units
  energies : EnergiesHold B.energy B.header.energies B.entry

short_all : (B : Book) → Short B → first_of (short_checks B) ≡ unrefused
unfolding short_checks at_record earlier first_of
short_all B s = rw (s.entries, s.constraints, s.contracts, s.rise, s.contracts_order)

through : (B : Book) → first_of (record_checks B) ≡ unrefused → Through B
unfolding check5 check6 check7 check8 check9
through B e =
    let c = none_refused B e in
    let entries = first_held _ _ c.fields in
    let constraints = first_held _ _ entries.rest in
    let units = first_held _ _ constraints.rest in
    let energies = first_held _ _ units.rest in
    let contracts = first_held _ _ energies.rest in
    let ids = first_held _ _ c.order in
    let unit_pairs = first_held _ _ ids.rest in
    let energy_pairs = first_held _ _ unit_pairs.rest in
    let contract_ids = first_held _ _ energy_pairs.rest in
    record {
      short = short_all B (record {
        entries = record_held _ _ _ _ entries.here;
        constraints = record_held _ _ _ _ constraints.here;
        contracts = record_held _ _ _ _ contracts.here;
        rise = record_held _ _ _ _ ids.here;
        contracts_order = record_held _ _ _ _ contract_ids.here;
      });
      units = record {
        fields = first_each (λ i. unit_ok (B.unit i)) _ (record_held _ _ _ _ units.here);
        order = first_each (rises_by unit_below B.unit) _ (record_held _ _ _ _ unit_pairs.here);
        named = first_each (named_at B.constraint B.header.constraints B.unit) _ (record_held _ _ _ _ c.names);
        factored = first_each (factors_at B.unit B.header.units B.constraint) _ (record_held _ _ _ _ c.factors);
      };
      energies = record {
        fields = first_each (λ i. energy_ok (B.energy i)) _ (record_held _ _ _ _ energies.here);
        order = first_each (rises_by energy_below B.energy) _ (record_held _ _ _ _ energy_pairs.here);
        sums = first_each (entry_has_sums B.energy B.header.energies B.entry) _ (record_held _ _ _ _ c.sums);
      };
    }

-- ---- so no is right where one of them finds something; v is what it answered

module _ (B : Book) where
  one_refuses : (Through B → ⊥) → false ≡ accepts (first_of (record_checks B))
  one_refuses d = refuses (first_of (record_checks B)) (λ e. d (through B e))

  pub short_refuse : {v : Verdict} → (v ≡ unrefused → ⊥) → v ≡ first_of (short_checks B) → false ≡ accepts (first_of (record_checks B))
  short_refuse d q = one_refuses (λ t. d (q ∙ t.short))

-- ---- what a pass said of the sections as they were lent; t is what it answered

module _ (b : List ℕ) (h : Header) {t : Bool} where
  module _ {cons units : List ℕ} (c : cons ≡ part_from 84 b) (e : units ≡ part_from (units_from h) b) (f : t ≡ units_hold (constraint_row cons) h.constraints (unit_row units) h.units) where
    units_is : t ≡ units_hold (book_in b h).constraint h.constraints (book_in b h).unit h.units
    units_is = rw (c, e) at f

    pub units_pass : not t ≡ false → UnitsHold (book_in b h).constraint h.constraints (book_in b h).unit h.units
    units_pass g = units_say _ _ _ _ (sym units_is ∙ not-false t g)

    pub units_refuse : not t ≡ true → false ≡ accepts (first_of (record_checks (book_in b h)))
    units_refuse g = one_refuses (book_in b h) (λ z. no_yes (sym units_is ∙ not-true t g) (units_said _ _ _ _ z.units))

  module _ {regions energy : List ℕ} (c : regions ≡ part_from 24 b) (e : energy ≡ part_from (energies_from h) b) (f : t ≡ energies_hold (energy_row energy) h.energies (entry_row regions)) where
    energies_is : t ≡ energies_hold (book_in b h).energy h.energies (book_in b h).entry
    energies_is = rw (c, e) at f

    pub energies_pass : not t ≡ false → EnergiesHold (book_in b h).energy h.energies (book_in b h).entry
    energies_pass g = energies_say _ _ _ (sym energies_is ∙ not-false t g)

    pub energies_refuse : not t ≡ true → false ≡ accepts (first_of (record_checks (book_in b h)))
    energies_refuse g = one_refuses (book_in b h) (λ z. no_yes (sym energies_is ∙ not-true t g) (energies_said _ _ _ z.energies))
