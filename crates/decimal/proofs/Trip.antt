-- The two round trips of a number, written and read, read and written; and that each has one spelling, no two the same. Assumes nothing.
use Prim.Native.Nat.{ℕ, ◌+◌, ◌-◌, ◌≤◌}
use mathlib.Core.Path.{◌≡◌, sym, ap, ◌∙◌}
use mathlib.Core.List.{List}
use mathlib.Core.Bool.{Bool, true, false}
use native.Mathlib.Omega.{arith}
use native.Mathlib.Nat.{le_refl}
use lib.ListN.{length, get_or-eq_default}
use lib.Seq.{take-length}
use lib.IntN.{ℤ, nat_abs}
use Rattle.ground.specs.Bytes.{byte_at, part}
use Rattle.ground.specs.Inner.Put.{Wrote}
use Rattle.decimal.specs.Decimal.{number_text, signed_text}
use Rattle.decimal.specs.Standing.{is_digit, Field, Number, Signed, Decides}
use Rattle.decimal.proofs.Standing.{decided, stands_put}
use Rattle.decimal.proofs.Once.{number_once}
use Rattle.decimal.proofs.Signs.{signed_once}

module _ (d limit : ℕ) where
  -- a spelling that stands there is found: x is read back
  pub spelled_is_read : {s : List ℕ} {k x e : ℕ} {g : Bool} {v n : ℕ} → x ≤ limit → Field (number_text x d) s k e → Decides (Number s k d limit) g v n → (g ≡ true) × (v ≡ x) × (n ≡ e)
  spelled_is_read {x = x} {e = e} h f c = decided c (λ a b i j p q. number_once p q) x e (record { small = h; field = f })

  -- written and read: x comes back, and the reader ends where the writer did, if no digit stands behind
  pub written_and_read : {l b : List ℕ} {k x e : ℕ} {g : Bool} {v n : ℕ} → x ≤ limit → k + length (number_text x d) ≤ length l → Wrote l k (number_text x d) b e → is_digit (byte_at b e) ≡ false → Decides (Number b k d limit) g v n → (g ≡ true) × (v ≡ x) × (n ≡ e)
  written_and_read {l} {b} {k} {x} {e} h r w z c =
      spelled_is_read h (record { stands = rw w.bytes (stands_put l k (number_text x d) r); ends = w.next; stop = z }) c

  -- read and written: what is read as v has exactly the bytes of v
  pub read_and_written : {s : List ℕ} {k : ℕ} {g : Bool} {v n : ℕ} → Decides (Number s k d limit) g v n → g ≡ true → part s k (n - k) ≡ number_text v d
  read_and_written {s} {k} {g} {v} {n} c h =
      let f = (c.found h).field in
      let o : n - k ≡ length (number_text v d) = omega (arith, f.ends) in
      rw o f.stands.bytes

  -- one spelling: texts in which the same number is read have the same bytes there
  pub one_spelling : {s t : List ℕ} {k j : ℕ} {g h : Bool} {v n m : ℕ} → Decides (Number s k d limit) g v n → g ≡ true → Decides (Number t j d limit) h v m → h ≡ true → part s k (n - k) ≡ part t j (m - j)
  one_spelling c p e q = read_and_written c p ∙ sym (read_and_written e q)

  -- the same four of a number with a sign
  pub signed_is_read : {s : List ℕ} {k e : ℕ} {z : ℤ} {g : Bool} {v : ℤ} {n : ℕ} → nat_abs z ≤ limit → Field (signed_text z d) s k e → Decides (Signed s k d limit) g v n → (g ≡ true) × (v ≡ z) × (n ≡ e)
  signed_is_read {e = e} {z = z} h f c = decided c (λ a b i j p q. signed_once p q) z e (record { small = h; field = f })

  pub signed_written_and_read : {l b : List ℕ} {k e : ℕ} {z : ℤ} {g : Bool} {v : ℤ} {n : ℕ} → nat_abs z ≤ limit → k + length (signed_text z d) ≤ length l → Wrote l k (signed_text z d) b e → is_digit (byte_at b e) ≡ false → Decides (Signed b k d limit) g v n → (g ≡ true) × (v ≡ z) × (n ≡ e)
  signed_written_and_read {l} {b} {k} {e} {z} h r w q c =
      signed_is_read h (record { stands = rw w.bytes (stands_put l k (signed_text z d) r); ends = w.next; stop = q }) c

  pub signed_read_and_written : {s : List ℕ} {k : ℕ} {g : Bool} {v : ℤ} {n : ℕ} → Decides (Signed s k d limit) g v n → g ≡ true → part s k (n - k) ≡ signed_text v d
  signed_read_and_written {s} {k} {g} {v} {n} c h =
      let f = (c.found h).field in
      let o : n - k ≡ length (signed_text v d) = omega (arith, f.ends) in
      rw o f.stands.bytes

  pub signed_one_spelling : {s t : List ℕ} {k j : ℕ} {g h : Bool} {v : ℤ} {n m : ℕ} → Decides (Signed s k d limit) g v n → g ≡ true → Decides (Signed t j d limit) h v m → h ≡ true → part s k (n - k) ≡ part t j (m - j)
  signed_one_spelling c p e q = signed_read_and_written c p ∙ sym (signed_read_and_written e q)

-- ---- no two numbers are spelled alike

-- a text that is the spelling and nothing else
alone : (xs : List ℕ) → Field xs xs 0 (length xs)
unfolding part
alone xs =
    let past : byte_at xs (length xs) ≡ 0 = get_or-eq_default xs 0 (le_refl (length xs)) in
    record { stands = record { bytes = take-length xs }; ends = omega arith; stop = ap is_digit past }

pub number_apart : (d x y : ℕ) → number_text x d ≡ number_text y d → x ≡ y
number_apart d x y e =
    let s = number_text x d in
    let a : Number s 0 d (x + y) x (length s) = record { small = omega arith; field = alone s } in
    let b : Number s 0 d (x + y) y (length s) = record { small = omega arith; field = rw (← e) (alone s) } in
    (number_once a b).0

pub signed_apart : (d : ℕ) (y z : ℤ) → signed_text y d ≡ signed_text z d → y ≡ z
signed_apart d y z e =
    let s = signed_text y d in
    let a : Signed s 0 d (nat_abs y + nat_abs z) y (length s) = record { small = omega arith; field = alone s } in
    let b : Signed s 0 d (nat_abs y + nat_abs z) z (length s) = record { small = omega arith; field = rw (← e) (alone s) } in
    (signed_once a b).0
