-- `passes::none_refuses` meets its contract. Where it answers true, each section has been seen to hold, and where it answers false, what was looked at last refuses the book. Assumes nothing.
use mathlib.Core.Path.{ap}
use mathlib.Core.Bool.{not}
use Rattle.sections.proofs.Verdicts.{none_refused_is, one_refused_is}
use Rattle.book.specs.Laid.{book_at}
use Rattle.passes.proofs.NoneRefuses.{ids_rise, entries_rule, constraints_rule, none_refuses, short_refuse, units_pass, units_refuse, energies_pass, energies_refuse}
use Rattle.passes.proofs.none_refuses.Goals as goal

pub returns-then-is_err : goal.returns-then-is_err
returns-then-is_err c = short_refuse (book_at c.args.book.now) (one_refused_is c.is_err.ensures.value c.if-is_err.true) c.short_sections.ensures

pub units_hold-requires : goal.units_hold-requires
units_hold-requires c = let B = book_at c.args.book.now in
    let passed = (none_refused_is c.is_err.ensures.value c.if-is_err.false) in
    let verdict = c.short_sections.ensures in
    let stands = c.constraints.ensures.bytes in
    record { n_in_bounds = (c.constraints.ensures.long, (c.units.ensures.long, c.args.book.now.laid.few.units)); rises = rw stands (ids_rise B passed verdict); by_index = rw stands (constraints_rule B passed verdict) }

pub returns-then-not-units_hold : goal.returns-then-not-units_hold
returns-then-not-units_hold c = units_refuse c.args.book.now.bytes.now c.args.book.now.header c.constraints.ensures.bytes c.units.ensures.bytes c.units_hold.ensures (ap not c.if-not-units_hold.true)

pub energies_hold-requires : goal.energies_hold-requires
energies_hold-requires c = record { in_bounds = (c.entries.ensures.long, (c.energies.ensures.long, c.args.book.now.laid.few.energies)); by_index = rw c.entries.ensures.bytes (entries_rule (book_at c.args.book.now) (none_refused_is c.is_err.ensures.value c.if-is_err.false) c.short_sections.ensures) }

pub returns-then-not-energies_hold : goal.returns-then-not-energies_hold
returns-then-not-energies_hold c = energies_refuse c.args.book.now.bytes.now c.args.book.now.header c.entries.ensures.bytes c.energies.ensures.bytes c.energies_hold.ensures (ap not c.if-not-energies_hold.true)

pub returns : goal.returns
returns c = let b = c.args.book.now.bytes.now in
    let h = c.args.book.now.header in
    none_refuses (book_at c.args.book.now) (none_refused_is c.is_err.ensures.value c.if-is_err.false) c.short_sections.ensures
    (units_pass b h c.constraints.ensures.bytes c.units.ensures.bytes c.units_hold.ensures (ap not c.if-not-units_hold.false))
    (energies_pass b h c.entries.ensures.bytes c.energies.ensures.bytes c.energies_hold.ensures (ap not c.if-not-energies_hold.false))
