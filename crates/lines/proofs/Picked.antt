-- A contract's lines by the energies that were handed back: r is the energy section, and t the account's energies in the same book. Assumes nothing.
use Prim.Native.Nat.{ℕ}
use mathlib.Core.Path.{◌≡◌}
use mathlib.Core.List.{List}
use Rattle.ground.specs.Bytes.{part_from}
use Rattle.records.specs.Rows.{entry_row}
use Rattle.records.specs.declared.rows.Contract.{Contract}
use Rattle.totals.specs.Inner.Totals.{entry_of}
use Rattle.totals.specs.declared.entries.Totals.{Totals}
use Rattle.locking.specs.Locking.{source_of, pick}
use Rattle.locking.specs.Inner.Handed.{Handed}
use Rattle.locking.specs.declared.Source.{Source}
use Rattle.locking.proofs.Section.{picked_entries}
use Rattle.accounts.specs.Rows.{joined}
use Rattle.accounts.specs.declared.energies.OwnEnergies.{OwnEnergies}
use Rattle.lines.specs.Lines.{region_lines}
use Rattle.lines.specs.Inner.Walks.{settled_lines, ContractSettles, SettledIn}

module _ {b l r : List ℕ} {s : Source} (h : Handed s b l r) (own : OwnEnergies) (k : Contract) {t : Totals} (e : s ≡ source_of k.kind) (f : t ≡ pick s own.current own.locked) where
  pub settles_in : SettledIn (entry_row (part_from 24 b)) (entry_row (part_from 24 l)) own k → ContractSettles (entry_row r) k t
  settles_in w = rw (picked_entries h, f, e) w

  pub lines_in_lem : joined (region_lines (entry_row r) (entry_of t) k) 5 ≡ settled_lines (entry_row (part_from 24 b)) (entry_row (part_from 24 l)) own k
  lines_in_lem = rw (picked_entries h, f, e)
