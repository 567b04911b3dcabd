-- A contract's rows by the energies that were handed back: r is the energy section, and t the account's energies in the same book. And those of
-- contract i of a section. Assumes nothing.
use Prim.Native.Nat.{ℕ}
use mathlib.Core.Path.{◌≡◌}
use mathlib.Core.List.{List}
use Rattle.ground.specs.Bytes.{part_from}
use Rattle.records.specs.Rows.{entry_row}
use Rattle.records.specs.declared.rows.Entry.{Entry}
use Rattle.records.specs.declared.rows.Contract.{Contract}
use Rattle.totals.specs.Inner.Totals.{entry_of}
use Rattle.totals.specs.declared.entries.Totals.{Totals}
use Rattle.locking.specs.Locking.{source_of, pick}
use Rattle.locking.specs.Inner.Handed.{Handed}
use Rattle.locking.specs.declared.Source.{Source}
use Rattle.locking.proofs.Section.{picked_entries}
use Rattle.accounts.specs.declared.energies.OwnEnergies.{OwnEnergies}
use Rattle.nmas.specs.Rows.{text_of}
use Rattle.nmas.specs.Inner.Puts.{InTurn}
use Rattle.nmas_file.specs.File.{contract_rows}
use Rattle.nmas_file.specs.Inner.Walks.{Fileable, FileableIn, settled_rows, rows_at}
use Rattle.nmas_file.specs.declared.Head.{Head}

module _ (head : Head) {b l r : List ℕ} {s : Source} (h : Handed s b l r) (own : OwnEnergies) (k : Contract) {t : Totals} (e : s ≡ source_of k.kind) (f : t ≡ pick s own.current own.locked) where
  pub fileable_in : FileableIn head (entry_row (part_from 24 b)) (entry_row (part_from 24 l)) own k → Fileable head (entry_row r) k t
  fileable_in w = rw (picked_entries h, f, e) w

  rows_in_lem : contract_rows head (entry_row r) (entry_of t) k ≡ settled_rows head (entry_row (part_from 24 b)) (entry_row (part_from 24 l)) own k
  rows_in_lem = rw (picked_entries h, f, e)

  module _ {room : List ℕ → ℕ → List ℕ → Type 0} {puts : List ℕ → ℕ → List ℕ → List ℕ → ℕ → Type 0} (turn : InTurn room puts) where
    pub room_in : {x : List ℕ} {p : ℕ} → room x p (text_of (settled_rows head (entry_row (part_from 24 b)) (entry_row (part_from 24 l)) own k)) → room x p (text_of (contract_rows head (entry_row r) (entry_of t) k))
    room_in w = rw rows_in_lem w

    pub put_in : {x y : List ℕ} {p q : ℕ} → puts x p (text_of (contract_rows head (entry_row r) (entry_of t) k)) y q → puts x p (text_of (settled_rows head (entry_row (part_from 24 b)) (entry_row (part_from 24 l)) own k)) y q
    put_in w = rw rows_in_lem at w

module _ (head : Head) (current locked : ℕ → Entry) (own : OwnEnergies) (contract : ℕ → Contract) (i : ℕ) {k : Contract} (e : k ≡ contract i) where
  rows_are : settled_rows head current locked own k ≡ rows_at head current locked own contract i
  unfolding rows_at
  rows_are = rw e

  pub fileable_at : FileableIn head current locked own (contract i) → FileableIn head current locked own k
  fileable_at w = rw e w

  module _ {room : List ℕ → ℕ → List ℕ → Type 0} {puts : List ℕ → ℕ → List ℕ → List ℕ → ℕ → Type 0} (turn : InTurn room puts) where
    pub room_at : {x : List ℕ} {p : ℕ} → room x p (text_of (rows_at head current locked own contract i)) → room x p (text_of (settled_rows head current locked own k))
    room_at w = rw rows_are w

    pub put_at : {x y : List ℕ} {p q : ℕ} → puts x p (text_of (settled_rows head current locked own k)) y q → puts x p (text_of (rows_at head current locked own contract i)) y q
    put_at w = rw rows_are at w
