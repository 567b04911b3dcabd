-- What checks 3 and 4 leave for the checks of the records. Assumes nothing.
use Prim.Native.Nat.{ℕ}
use mathlib.Core.List.{List}
use mathlib.Core.Path.{◌≡◌, sym, ◌∙◌}
use mathlib.Core.Bool.{Bool, true}
use lib.ListN.{length}
use Rattle.book.specs.declared.header.Header.{Header}
use Rattle.book.specs.Header.{in_range, whole_length}
use Rattle.book.specs.Inner.Facts.{Laid}
use Rattle.book.proofs.Steps.{few_of}

pub laid_of : (b : List ℕ) (h : Header) {r : Bool} {n : ℕ} → r ≡ in_range h → r ≡ true → n ≡ whole_length h → length b ≡ n → Laid b h
laid_of b h s g w z = record { few = few_of h (sym s ∙ g); long = z ∙ w }
