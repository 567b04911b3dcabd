-- The lines of the constraints and then those of the contracts; L is the book that test payments are settled by. Assumes nothing.
use Prim.Native.Nat.{ℕ, ◌+◌, ◌≤◌}
use mathlib.Core.Path.{◌≡◌, sym, ap, ◌∙◌}
use mathlib.Core.List.{List}
use lib.ListN.{length, length-append}
use native.Mathlib.Omega.{arith}
use Rattle.accounts.specs.declared.energies.OwnEnergies.{OwnEnergies}
use Rattle.book.specs.Book.{Book}
use Rattle.lines.specs.Inner.Walks.{book_lines}
use Rattle.lines.proofs.Parts.{con_part, paid_part, both_parts}
use Rattle.emission.specs.Inner.Emitted.{Emitted, LineRoom}
use Rattle.emission.proofs.Emission.{emitted_more, room_less, room_rest}

module _ (B L : Book) (account : ℕ) (own : OwnEnergies) where
  count : length (con_part B L account own) + length (paid_part B L account own) ≡ length (book_lines B L account own)
  count = sym (ap length (both_parts B L account own) ∙ length-append (con_part B L account own) (paid_part B L account own))

  first_of : (x y : ℕ) {z : ℕ} → x + y ≡ z → x ≤ z
  first_of x y q = omega arith

  module _ {i : List ℕ} {t : ℕ} where
    pub first_room : LineRoom i t (length (book_lines B L account own)) → LineRoom i t (length (con_part B L account own))
    first_room r = room_less _ _ (first_of _ _ count) r

    module _ {a : List ℕ} {x : ℕ} (c : Emitted i t (con_part B L account own) a x) where
      pub second_room : LineRoom i t (length (book_lines B L account own)) → LineRoom a x (length (paid_part B L account own))
      second_room r = room_rest (con_part B L account own) _ (rw (← count) at r) c

      pub both_out : {d : List ℕ} {y : ℕ} → Emitted a x (paid_part B L account own) d y → Emitted i t (book_lines B L account own) d y
      both_out g = rw (both_parts B L account own) (emitted_more (con_part B L account own) (paid_part B L account own) c g)
