-- Answers with a value and its end, or nothing: what they say is what Decides says, what is there is found where there is only one, and a reader of one
-- thing reads another that says the same. Assumes nothing.
use Prim.Native.Nat.{ℕ}
use mathlib.Core.Path.{◌≡◌, refl}
use mathlib.Core.Bool.{Bool, true, false}
use Rattle.std.specs.Prelude.{Option, None, Some}
use Rattle.decimal.specs.Standing.{Decides}
use Rattle.decimal.proofs.Standing.{decides_none, decides_one}
use Rattle.decimal_reading.specs.Reads.{Reads}
use Rattle.decimal_reading.specs.declared.Taken.{Taken}

-- the flag, the value and the end as one answer
abbrev pub answer : Bool → ℕ → ℕ → Option Taken
answer true v n = Some (record { value = v; next = n })
answer false v n = None

module _ {There : ℕ → ℕ → Type 0} where
  pub reads_decides : (g : Bool) (v n : ℕ) → Reads There (answer g v n) → Decides There g v n
  reads_decides true v n h = decides_one h
  reads_decides false v n h = decides_none v n h

  pub decides_reads : (g : Bool) (v n : ℕ) → Decides There g v n → Reads There (answer g v n)
  decides_reads true v n h = h.found refl
  decides_reads false v n h = h.none refl

  -- what is there is found, where there is only one
  pub reads_once : (r : Option Taken) → Reads There r → ((x y e f : ℕ) → There x e → There y f → (x ≡ y) × (e ≡ f)) → (x e : ℕ) → There x e → r ≡ Some (record { value = x; next = e })
  reads_once None h once x e t = absurd (h x e t)
  reads_once (Some u) h once x e t = let p = once u.value x u.next e h t in λ j. Some (record { value = p.0 j; next = p.1 j })

-- what stands for one thing stands for another that says the same
pub reads_same : {There Here : ℕ → ℕ → Type 0} → ((x e : ℕ) → There x e → Here x e) → ((x e : ℕ) → Here x e → There x e) → (r : Option Taken) → Reads There r → Reads Here r
reads_same out into None h = λ x e t. h x e (into x e t)
reads_same out into (Some u) h = out u.value u.next h
