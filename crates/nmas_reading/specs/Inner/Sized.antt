-- A row whose amounts and energies a number with a sign can hold.
use Rattle.std.specs.Prelude.{◌^◌, ◌<◌, Result, Ok, Err}
use Rattle.sections.specs.declared.Refusal.{Refusal}
use Rattle.nmas.specs.declared.Row.{Row}

pub record Sized (r : Row) : Type 0 where
  pub recovery : r.recovery < 2 ^ 63
  pub own_ace : r.own_ace < 2 ^ 63
  pub region_ace : r.region_ace < 2 ^ 63
  pub own_asoe : r.own_asoe < 2 ^ 63
  pub region_asoe : r.region_asoe < 2 ^ 63
  pub by_ace : r.by_ace < 2 ^ 63
  pub by_asoe : r.by_asoe < 2 ^ 63

-- that of an answer, where it has one
unfoldable pub RowSized : Result Row Refusal → Type 0
RowSized (Ok r) = Sized r
RowSized (Err e) = Unit
