-- A column's number: one that stands there, and is not below the column's least. Assumes nothing.
use Prim.Native.Nat.{ℕ}
use mathlib.Core.Path.{◌≡◌, refl, sym, ap, ◌∙◌}
use mathlib.Core.Bool.{Bool, true, false, false≢true}
use mathlib.Core.List.{List}
use borrow.Author.Tests.{le-leb, leb-true}
use lib.Dec.{leb}
use Rattle.decimal.specs.Standing.{is_digit}
use Rattle.std.specs.Bool.{then_some}
use Rattle.decimal_reading.specs.Reads.{Reads}
use Rattle.decimal_reading.specs.declared.Taken.{Taken}
use Rattle.decimal_reading.specs.Sided.{SidedThen}
use Rattle.decimal_reading.proofs.Sides.{sided_once}
use Rattle.columns.specs.declared.Form.{Form}
use Rattle.columns_reading.specs.Inner.Taking.{NumberTo}

module _ (f : Form) (end : ℕ) (apart : is_digit end ≡ false) (s : List ℕ) (k : ℕ) where
  abbrev Sided : ℕ → ℕ → Type 0
  Sided = SidedThen f.charge f.decimals f.most end s k

  sided : (x e : ℕ) → NumberTo f end s k x e → Sided x e
  sided x e t = record { fine = t.fine.1; stands = t.stands; ends = t.ends }

  once : (x y e g : ℕ) → Sided x e → Sided y g → (x ≡ y) × (e ≡ g)
  once = sided_once f.charge f.decimals f.most end apart s k

  pub number_decided : (n : Taken) → Sided n.value n.next → Reads (NumberTo f end s k) (then_some (leb f.least n.value) n)
  number_decided n t = by (leb f.least n.value) refl
    where
      by : (b : Bool) → leb f.least n.value ≡ b → Reads (NumberTo f end s k) (then_some b n)
      by true j = record { fine = (leb-true f.least n.value j, t.fine); stands = t.stands; ends = t.ends }
      by false j = λ y m w.
          let z = (once n.value y n.next m t (sided y m w)).0 in
          false≢true (sym j ∙ ap (leb f.least) z ∙ le-leb f.least y w.fine.0)

  -- a text has one at a place
  pub number_to_once : (x y e g : ℕ) → NumberTo f end s k x e → NumberTo f end s k y g → (x ≡ y) × (e ≡ g)
  number_to_once x y e g t u = once x y e g (sided x e t) (sided y g u)
