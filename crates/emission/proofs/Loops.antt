-- A loop that emits what each record gives, one after the other. Assumes nothing.
use Prim.Native.Nat.{ℕ, ◌+◌, ◌≤◌, ◌<◌}
use mathlib.Core.List.{List}
use lib.ListN.{length}
use Rattle.accounts.specs.Rows.{joined}
use Rattle.accounts.proofs.Joined.{joined_none, joined_more, joined_all, joined_room}
use Rattle.statement.specs.declared.Line.{Line}
use Rattle.emission.specs.Inner.Emitted.{Emitted, LineRoom}
use Rattle.emission.proofs.Emission.{emitted_none, emitted_more, room_less, room_rest}

module _ (f : ℕ → List Line) {l : List ℕ} {t : ℕ} where
  pub out_start : Emitted l t (joined f 0) l t
  out_start = rw (joined_none f) (emitted_none l t)

  module _ (i : ℕ) {b : List ℕ} {x : ℕ} (h : Emitted l t (joined f i) b x) where
    pub out_room : (n : ℕ) → i < n → LineRoom l t (length (joined f n)) → LineRoom b x (length (f i))
    out_room n j o = room_rest (joined f i) _ (room_less _ _ (joined_room f i n j) o) h

    pub out_more : {a : List ℕ} {y : ℕ} → Emitted b x (f i) a y → Emitted l t (joined f (i + 1)) a y
    out_more g = rw (← joined_more f i) (emitted_more (joined f i) (f i) h g)

    pub out_all : (n : ℕ) → i ≤ n → n ≤ i → Emitted l t (joined f n) b x
    out_all n p q = rw (← joined_all f i n p q) h
