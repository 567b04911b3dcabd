-- Bytes that stand in a text: end to end, in parts, one alone, and what was put; and answers that find them. Assumes nothing.
use Prim.Native.Nat.{ℕ, suc, ◌+◌, ◌≤◌, ◌<◌}
use mathlib.Core.Path.{◌≡◌, refl, sym, ap, ◌∙◌}
use mathlib.Core.List.{List, [], ◌∷◌, ◌++◌}
use mathlib.Core.Bool.{Bool, true, false, true≢false, false≢true}
use native.Mathlib.Omega.{arith}
use native.Mathlib.Nat.{le-add_right}
use native.Mathlib.Numerals.{add-one}
use lib.ListN.{length, take, drop, length-append, length-take, length-drop}
use lib.Seq.{take_at, drop_at, take-take}
use Rattle.ground.specs.Bytes.{byte_at, part}
use Rattle.ground.specs.Put.{put}
use Rattle.ground.proofs.Part.{part_join, part_two, part_none, part_first, part_length}
use Rattle.ground.proofs.Put.{put_there}
use Rattle.decimal.specs.Standing.{Stands, Decides}

-- the bytes of a part are its first bytes and one more
pub part_last : (s : List ℕ) (k n : ℕ) → k + n < length s → part s k (suc n) ≡ part s k n ++ (byte_at s (k + n) ∷ [])
part_last s k n h = rw (← add-one n, ← part_join s k n 1, part_first s (k + n) 0 h, part_none)

module _ {s : List ℕ} {k : ℕ} where
  pub stands_none : Stands [] s k
  stands_none = record { bytes = part_none s k }

  pub stands_two : {xs ys : List ℕ} → Stands xs s k → Stands ys s (k + length xs) → Stands (xs ++ ys) s k
  stands_two {xs} {ys} p q =
      record { bytes = rw length-append (sym (part_two s k (length xs) (length ys) (sym p.bytes) (sym q.bytes))) }

  pub stands_first : (xs ys : List ℕ) → Stands (xs ++ ys) s k → Stands xs s k
  unfolding part
  stands_first xs ys p =
      record {
        bytes =
            sym (take-take (length xs) (length (xs ++ ys)) (drop k s) (rw length-append (le-add_right (length xs) (length ys))))
            ∙ ap (take (length xs)) p.bytes
            ∙ take_at xs ys (length xs) refl;
      }

  pub stands_rest : (xs ys : List ℕ) → Stands (xs ++ ys) s k → Stands ys s (k + length xs)
  stands_rest xs ys p =
      let m = length xs in
      let n = length ys in
      let f = (stands_first xs ys p).bytes in
      record {
        bytes =
            sym (drop_at (part s k m) (part s (k + m) n) m (ap length f))
            ∙ ap (drop m) (part_join s k m n ∙ ap (part s k) (sym (length-append xs ys)) ∙ p.bytes)
            ∙ drop_at xs ys m refl;
      }

  pub stands_one : (x : ℕ) → k < length s → byte_at s k ≡ x → Stands (x ∷ []) s k
  stands_one x h e = record { bytes = rw (part_first s k 0 h, part_none, e) }

  -- what stands there, lies in the text
  pub stands_within : (xs : List ℕ) → 1 ≤ length xs → Stands xs s k → k + length xs ≤ length s
  unfolding part
  stands_within xs h p = omega (arith, simp (length-take, length-drop) at (ap length p.bytes))

  pub stands_byte : (x : ℕ) → Stands (x ∷ []) s k → byte_at s k ≡ x
  stands_byte x p =
      let h = stands_within (x ∷ []) (omega arith) p in
      ap (λ (l : List ℕ). byte_at l 0) (sym (part_first s k 0 (omega arith)) ∙ p.bytes)

-- the bytes of a part stand there
pub stands_part : (s : List ℕ) (k n : ℕ) {xs : List ℕ} → k + n ≤ length s → part s k n ≡ xs → (length xs ≡ n) × Stands xs s k
stands_part s k n h e =
    let l = sym (ap length e) ∙ part_length s k n h in
    (l, record { bytes = ap (part s k) l ∙ e })

-- two that stand at one place, as long as each other, are the same
pub stands_same : {xs ys s : List ℕ} {k : ℕ} → Stands xs s k → Stands ys s k → length xs ≡ length ys → xs ≡ ys
stands_same {s = s} {k = k} p q e = sym p.bytes ∙ ap (part s k) e ∙ q.bytes

-- what was written stands there
pub stands_put : (l : List ℕ) (k : ℕ) (xs : List ℕ) → k + length xs ≤ length l → Stands xs (put l k xs) k
stands_put l k xs h = record { bytes = put_there l k xs h }

-- ---- answers

module _ {A : Type 0} {There : A → ℕ → Type 0} where
  pub decides_none : (v : A) (n : ℕ) → ((x : A) (e : ℕ) → There x e → ⊥) → Decides There false v n
  decides_none v n f = record { found = λ q. absurd (false≢true q); none = λ q. f }

  pub decides_one : {v : A} {n : ℕ} → There v n → Decides There true v n
  decides_one h = record { found = λ q. h; none = λ q. absurd (true≢false q) }

  -- what is there is found, where there is only one
  pub decided : {good : Bool} {v : A} {n : ℕ} → Decides There good v n → ((x y : A) (e f : ℕ) → There x e → There y f → (x ≡ y) × (e ≡ f)) → (x : A) (e : ℕ) → There x e → (good ≡ true) × (v ≡ x) × (n ≡ e)
  decided {good} {v} {n} d once x e h = by good refl
    where
      by : (t : Bool) → good ≡ t → (good ≡ true) × (v ≡ x) × (n ≡ e)
      by true q = let p = once v x n e (d.found q) h in (q, p.0, p.1)
      by false q = absurd (d.none q x e h)
