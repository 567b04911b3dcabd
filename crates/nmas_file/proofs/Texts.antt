-- Rows one behind the other as a text: what a loop that measures it, one that writes it and one that does either need to know. Assumes nothing.
use Prim.Native.Nat.{ℕ, zero, suc, ◌+◌, ◌*◌, ◌≤◌, ◌<◌}
use mathlib.Core.Path.{◌≡◌, refl, sym, ap, ◌∙◌}
use mathlib.Core.List.{List, [], ◌∷◌, ◌++◌, append_assoc}
use native.Mathlib.Omega.{arith}
use lib.ListN.{length, length-append}
use native.Mathlib.Numerals.{add-one}
use mathlib.Core.Logic.{⊎_elim}
use Rattle.sections.proofs.Search.{lt_or_ge}
use Rattle.ground.specs.Inner.Put.{Wrote}
use Rattle.nmas.specs.Inner.Puts.{InTurn, written_in_turn}
use Rattle.accounts.specs.Rows.{joined}
use Rattle.accounts.proofs.Joined.{joined_none, joined_more, joined_all}
use Rattle.nmas.specs.Rows.{text_of}
use Rattle.nmas.specs.declared.Row.{Row}

pub text_append : (xs ys : List Row) → text_of (xs ++ ys) ≡ text_of xs ++ text_of ys
unfolding text_of
text_append [] ys = refl
text_append (x ∷ xs) ys = rw (text_append xs ys, append_assoc)

module _ (f : ℕ → List Row) where
  -- the texts of rows joined are joined texts
  pub text_joined : (n : ℕ) → text_of (joined f n) ≡ joined (λ i. text_of (f i)) n
  unfolding joined text_of
  text_joined zero = refl
  text_joined (suc n) = text_append (joined f n) (f n) ∙ ap (λ (xs : List ℕ). xs ++ text_of (f n)) (text_joined n)

  pub text_more : (i : ℕ) → text_of (joined f (i + 1)) ≡ text_of (joined f i) ++ text_of (f i)
  text_more i = ap text_of (sym (joined_more f i)) ∙ text_append (joined f i) (f i)

  -- ---- put, written or measured: the first i of n stand in b from k to m

  module _ {room : List ℕ → ℕ → List ℕ → Type 0} {puts : List ℕ → ℕ → List ℕ → List ℕ → ℕ → Type 0} (turn : InTurn room puts) where
    pub rows_none : (l : List ℕ) (k : ℕ) → puts l k (text_of (joined f 0)) l k
    unfolding text_of
    rows_none l k = rw (joined_none f) (turn.none l k)

    module _ (i : ℕ) {l : List ℕ} {k : ℕ} {b : List ℕ} {m : ℕ} (c : puts l k (text_of (joined f i)) b m) where
      pub rows_room : (n : ℕ) → i < n → room l k (text_of (joined f n)) → room b m (text_of (f i))
      rows_room zero h r = absurd (omega arith)
      rows_room (suc n) h r =
          let one : room l k (text_of (joined f n) ++ text_of (f n)) = rw (← add-one, text_more n) at r in
          ⊎_elim (λ p. rows_room n p (turn.first _ _ _ _ one))
          (λ p. let e : n ≡ i = omega arith in turn.rest _ _ _ _ _ _ (rw e at one) c)
          (lt_or_ge i n)

      pub rows_more : {d : List ℕ} {e : ℕ} → puts b m (text_of (f i)) d e → puts l k (text_of (joined f (i + 1))) d e
      rows_more w = rw (text_more i) (turn.more _ _ _ _ _ _ _ _ c w)

      pub rows_all : {n : ℕ} → i ≤ n → n ≤ i → puts l k (text_of (joined f n)) b m
      rows_all {n} g h = rw (← joined_all f i n g h) c

  -- ---- measured: the first i of n make `sum` bytes, each at most b

  pub record Counted (b n i sum : ℕ) : Type 0 where
    pub within : i ≤ n
    pub long : sum ≡ length (text_of (joined f i))
    pub small : sum ≤ i * b

  more : (i b : ℕ) → (i + 1) * b ≡ i * b + b
  more i b = omega arith

  pub counted_more : {b n i sum x : ℕ} → Counted b n i sum → i < n → (x ≡ length (text_of (f i))) × (x ≤ b) → Counted b n (i + 1) (sum + x)
  counted_more {b} {n} {i} {sum} {x} c h e =
      record { within = omega arith; long = rw (text_more i, length-append, ← c.long, ← e.0); small = rw (more i b) (omega (arith, c.small, e.1)) }

  -- how long they are together, where none is longer than b
  pub text_bound : (b n : ℕ) → ((i : ℕ) → i < n → length (text_of (f i)) ≤ b) → length (text_of (joined f n)) ≤ n * b
  unfolding text_of
  text_bound b zero h = rw (joined_none f) (omega arith)
  text_bound b (suc n) h =
      let before : Counted b (suc n) n (length (text_of (joined f n))) = record { within = omega arith; long = refl; small = text_bound b n (λ i l. h i (omega arith)) } in
      let all : Counted b (suc n) (n + 1) (length (text_of (joined f n)) + length (text_of (f n))) = counted_more before (omega arith) (refl, h n (omega arith)) in
      rw (← add-one, ← all.long) all.small

  -- ---- written: the first i of n stand in b from k to m

  pub record Filled (n : ℕ) (l : List ℕ) (k i : ℕ) (b : List ℕ) (m : ℕ) : Type 0 where
    pub within : i ≤ n
    pub wrote : Wrote l k (text_of (joined f i)) b m

  module _ {n : ℕ} {l : List ℕ} {k i : ℕ} {b : List ℕ} {m : ℕ} (c : Filled n l k i b m) where
    pub filled_more : i < n → {d : List ℕ} {e : ℕ} → Wrote b m (text_of (f i)) d e → Filled n l k (i + 1) d e
    filled_more h w = record { within = omega arith; wrote = rows_more written_in_turn i c.wrote w }
