-- The energy section that was handed back, r: its region entries are those of the book that was picked, and they lie within it. Assumes nothing.
use Prim.Native.Nat.{ℕ, ◌-◌, ◌≤◌}
use mathlib.Core.Path.{◌≡◌, sym, ap, ◌∙◌}
use mathlib.Core.List.{List}
use native.Mathlib.Omega.{arith}
use lib.ListN.{length, length-drop}
use Rattle.ground.specs.Bytes.{part_from}
use Rattle.ground.proofs.Part.{part_drop}
use Rattle.records.specs.Rows.{entry_row}
use Rattle.locking.specs.Locking.{pick}
use Rattle.locking.specs.Inner.Handed.{Handed}
use Rattle.locking.specs.declared.Source.{Source}
use Rattle.locking.proofs.Picked.{of_either, picked_of}

module _ {b l r : List ℕ} {s : Source} (h : Handed s b l r) where
  pub picked_entries : entry_row r ≡ pick s (entry_row (part_from 24 b)) (entry_row (part_from 24 l))
  picked_entries = ap entry_row h.bytes ∙ sym (picked_of (λ x. entry_row (part_from 24 x)) b l s)

  pub picked_room : 84 ≤ length b → 84 ≤ length l → 60 ≤ length r
  picked_room p q =
      let m : 84 ≤ length (pick s b l) = of_either (λ x. 84 ≤ length x) b l p q s in
      let long : length (part_from 24 (pick s b l)) ≡ length (pick s b l) - 24 = rw (part_drop 24 (pick s b l)) (length-drop 24 (pick s b l)) in
      rw h.bytes (omega (arith, long, m))
