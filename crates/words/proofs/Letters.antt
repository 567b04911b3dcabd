-- A letter copied behind the ones before it, and what a comparison of the bytes that stand somewhere with a word tells. Assumes nothing.
use Prim.Native.Nat.{ℕ, ◌+◌, ◌≤◌, ◌<◌}
use mathlib.Core.Path.{◌≡◌, sym, ap, ◌∙◌}
use mathlib.Core.List.{List, [], ◌∷◌}
use mathlib.Core.Bool.{Bool, false, false≢true}
use native.Mathlib.Omega.{arith}
use native.Mathlib.Numerals.{add-one}
use lib.Dec.{eqb}
use lib.ListN.{length, take, drop, get_or}
use lib.Pointwise.{pointwise, bytes_decides}
use lib.Seq.{take-suc}
use Rattle.ground.specs.Bytes.{part}
use Rattle.ground.specs.Put.{put}
use Rattle.ground.specs.Inner.Put.{Wrote}
use Rattle.ground.proofs.Put.{wrote_more}
use Rattle.decimal.proofs.Standing.{stands_within}
use Rattle.words.specs.Inner.Tells.{Tells}

pub wrote_letter : (word : List ℕ) (i : ℕ) {l : List ℕ} {k : ℕ} {a b : List ℕ} → Wrote l k (take i word) a (k + i) → i < length word → b ≡ put a (k + i) (get_or word i 0 ∷ []) → Wrote l k (take (i + 1) word) b (k + (i + 1))
wrote_letter word i {l} {k} {a} {b} w h e =
    let one : Wrote a (k + i) (get_or word i 0 ∷ []) b (k + (i + 1)) = record { bytes = e; next = omega arith } in
    rw (add-one, take-suc word i 0 h, ← add-one) (wrote_more w one)

module _ {w s : List ℕ} {k : ℕ} where
  pub tells_same : {n : ℕ} {t : Bool} → n ≡ length w → t ≡ pointwise eqb (take n (drop k s)) w → Tells w s k t
  unfolding part
  tells_same {n} m e =
      let same = bytes_decides (take n (drop k s)) w in
      let there : take n (drop k s) ≡ part s k (length w) = ap (λ (j : ℕ). take j (drop k s)) m in
      record {
        yes = λ q. record { bytes = sym there ∙ same.0 (sym e ∙ q) };
        no = λ q h. false≢true (sym q ∙ e ∙ same.1 (there ∙ h.bytes));
      }

  pub tells_short : 1 ≤ length w → length s < k + length w → Tells w s k false
  tells_short z h = record { yes = λ q. absurd (false≢true q); no = λ q p. omega (arith, stands_within w z p) }
