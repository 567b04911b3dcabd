-- Marks put in a word, the last row's first, and taken from it again, the first row's first. Assumes nothing.
use Prim.Native.Nat.{ℕ, zero, suc, ◌+◌, ◌-◌, ◌*◌, ◌/◌, ◌%◌, ◌≤◌, ◌<◌}
use mathlib.Core.Path.{◌≡◌, refl, ◌∙◌, sym, ap}
use mathlib.Core.List.{List}
use mathlib.Core.Bool.{Bool, true, false, cond}
use mathlib.Core.Logic.{⊎_elim}
use native.Mathlib.Omega.{arith}
use native.Mathlib.Nat.{add-zero, add-suc, le_refl}
use borrow.Author.Tests.{eq-eqb, ne_eqb}
use lib.ListN.{length, get_or, set, length-set}
use lib.Seq.{get_or-set_same, get_or-set_other}
use Rattle.sections.proofs.Search.{lt_or_ge}
use Rattle.joint.specs.Inner.Marks.{after, odd, left_for, marked, Word}

-- ---- a word

-- words of d bits are below this
unfoldable pub room : ℕ → ℕ
room zero = 1
room (suc d) = 2 * room d

room_longer : (d e : ℕ) → room d ≤ room (d + e)
unfolding room
room_longer d zero = rw add-zero (le_refl (room d))
room_longer d (suc e) = rw add-suc (omega (arith, room_longer d e))

room_few : (d : ℕ) → d ≤ 63 → room d ≤ 9_223_372_036_854_775_808
unfolding room
room_few d l =
    let e : d + (63 - d) ≡ 63 = omega arith in
    rw e at (room_longer d (63 - d))

-- the first bit taken off leaves the others
after_first : (w j : ℕ) → after w (suc j) ≡ after (w / 2) j
unfolding after
after_first w zero = refl
after_first w (suc j) = ap (λ n. n / 2) (after_first w j)

-- w has the marks of rows u .. e - 1
pub record Filling (t : ℕ → Bool) (e u w : ℕ) : Type 0 where
  pub small : w < room (e - u)
  pub bit : (j : ℕ) → u + j < e → odd (after w j) ≡ t (u + j)

module _ (t : ℕ → Bool) (e : ℕ) where
  pub fill_none : Filling t e e 0
  unfolding room
  fill_none =
      record { small = rw (none e) (omega arith); bit = λ j l. absurd (omega (arith, l)) }
    where
      none : (e : ℕ) → e - e ≡ 0
      none e = omega arith

  -- the row before has this mark
  fill_more : (u w x : ℕ) (b : Bool) → Filling t e u w → 0 < u → u ≤ e → b ≡ t (u - 1) → x ≡ cond b 1 0 → Filling t e (u - 1) (w * 2 + x)
  unfolding after room
  fill_more u w x b f l h d z =
      record {
        small = rw longer (omega (arith, f.small, few b z));
        bit = bits;
      }
    where
      longer : e - (u - 1) ≡ suc (e - u)
      longer = omega arith

      few : (b : Bool) → x ≡ cond b 1 0 → x ≤ 1
      few true z = omega arith
      few false z = omega arith

      last : (b : Bool) → x ≡ cond b 1 0 → odd (w * 2 + x) ≡ b
      last true z = eq-eqb ((w * 2 + x) % 2) 1 (omega arith)
      last false z = ne_eqb ((w * 2 + x) % 2) 1 (λ (q : (w * 2 + x) % 2 ≡ 1). omega arith)

      halved : (w * 2 + x) / 2 ≡ w
      halved = omega (arith, few b z)

      bits : (j : ℕ) → u - 1 + j < e → odd (after (w * 2 + x) j) ≡ t (u - 1 + j)
      bits zero m = let same : u - 1 + 0 ≡ u - 1 = omega arith in rw same (last b z ∙ d)
      bits (suc j) m =
          let same : u - 1 + suc j ≡ u + j = omega arith in
          rw (same, after_first (w * 2 + x) j, halved) (f.bit j (omega arith))

  pub fill_yes : (u w : ℕ) {b : Bool} → Filling t e u w → 0 < u → u ≤ e → b ≡ t (u - 1) → b ≡ true → Filling t e (u - 1) (w * 2 + 1)
  fill_yes u w f l h d y = fill_more u w 1 true f l h (sym y ∙ d) refl

  pub fill_no : (u w : ℕ) {b : Bool} → Filling t e u w → 0 < u → u ≤ e → b ≡ t (u - 1) → b ≡ false → Filling t e (u - 1) (w * 2)
  fill_no u w f l h d y = rw add-zero at (fill_more u w 0 false f l h (sym y ∙ d) refl)

  -- there is room for one more
  pub fill_room : (u w : ℕ) → Filling t e u w → e < u + 64 → w < 9_223_372_036_854_775_808
  fill_room u w f l = omega (arith, f.small, room_few (e - u) (omega arith))

  pub fill_done : (m k w : ℕ) → Filling t e k w → ((u : ℕ) → u < m → u < k + 64 → u < e) → Word t m k w
  fill_done m k w f h = record { bit = λ j l d. f.bit j (h (k + j) d (omega arith)) }

-- ---- words in a row

-- the words before word k have their marks
pub record Marking (t : ℕ → Bool) (m k : ℕ) (marks : List ℕ) : Type 0 where
  pub long : length marks ≡ 10
  pub each : (u : ℕ) → u < m → u < k * 64 → marked marks u ≡ t u

module _ (t : ℕ → Bool) (m : ℕ) where
  pub mark_none : {marks : List ℕ} → length marks ≡ 10 → Marking t m 0 marks
  mark_none l = record { long = l; each = λ u a b. absurd (omega (arith, b)) }

  pub mark_more : (k : ℕ) {w : ℕ} {marks marks' : List ℕ} → Marking t m k marks → k < 10 → Word t m (k * 64) w → marks' ≡ set marks k w → Marking t m (k + 1) marks'
  unfolding left_for
  mark_more k {w} {marks} g l d e =
      rw e
      (record {
        long = length-set marks k w ∙ g.long;
        each = λ u a b. ⊎_elim (λ (h : u < k * 64). before u a h) (λ (h : k * 64 ≤ u). here u a h b) (lt_or_ge u (k * 64));
      })
    where
      before : (u : ℕ) → u < m → u < k * 64 → marked (set marks k w) u ≡ t u
      before u a h = rw (get_or-set_other marks k (u / 64) w 0 (λ (q : u / 64 ≡ k). omega arith)) (g.each u a h)

      here : (u : ℕ) → u < m → k * 64 ≤ u → u < (k + 1) * 64 → marked (set marks k w) u ≡ t u
      here u a h b =
          let word : u / 64 ≡ k = omega arith in
          let row : k * 64 + u % 64 ≡ u = omega arith in
          rw (word, get_or-set_same marks k w 0 (rw g.long l)) (rw row at (d.bit (u % 64) (omega arith) (rw row a)))

  pub mark_done : (k : ℕ) {marks : List ℕ} → Marking t m k marks → m ≤ k * 64 → (u : ℕ) → u < m → marked marks u ≡ t u
  mark_done k g h u l = g.each u l (omega arith)

-- ---- marks taken from their words, row by row

module _ (marks : List ℕ) (u : ℕ) where
  pub left_new : u % 64 ≡ 0 → get_or marks (u / 64) 0 ≡ left_for marks u
  unfolding left_for after
  left_new e = rw e

  pub left_next : {w : ℕ} → w ≡ left_for marks u → ((u + 1) % 64 ≡ 0 → ⊥) → w / 2 ≡ left_for marks (u + 1)
  unfolding left_for after
  left_next e d =
      let word : (u + 1) / 64 ≡ u / 64 = omega arith in
      let row : (u + 1) % 64 ≡ suc (u % 64) = omega arith in
      rw (word, row, e)
