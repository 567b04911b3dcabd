-- Bytes that are put behind one another, written into a text or only measured.
use Rattle.std.specs.Prelude.{ℕ, ◌+◌, ◌^◌, ◌≤◌, ◌<◌, ◌≡◌, List, [], ◌++◌, length}
use mathlib.Core.Path.{refl, ◌∙◌}
use native.Mathlib.Omega.{arith}
use lib.ListN.{length-append}
use Rattle.ground.specs.Inner.Put.{Wrote}
use Rattle.ground.proofs.Put.{wrote_none, wrote_more, wrote_length}

-- the text l has room for xs from k on
pub record HasRoom (l : List ℕ) (k : ℕ) (xs : List ℕ) : Type 0 where
  pub fits : k + length xs ≤ length l

-- the place behind xs is a number that a word holds
pub record Countable (l : List ℕ) (k : ℕ) (xs : List ℕ) : Type 0 where
  pub fits : k + length xs < 2 ^ 64

-- xs is measured from k on, and nothing is written: b is l, and e is where xs would end
pub record Measures (l : List ℕ) (k : ℕ) (xs : List ℕ) (b : List ℕ) (e : ℕ) : Type 0 where
  pub same : b ≡ l
  pub next : e ≡ k + length xs

-- bytes can be put one behind the other where there is room for them together, and are then put as one
pub record InTurn (room : List ℕ → ℕ → List ℕ → Type 0) (puts : List ℕ → ℕ → List ℕ → List ℕ → ℕ → Type 0) : Type 0 where
  pub none : (l : List ℕ) (k : ℕ) → puts l k [] l k
  pub more : (l : List ℕ) (k : ℕ) (xs ys a b : List ℕ) (m e : ℕ) → puts l k xs a m → puts a m ys b e → puts l k (xs ++ ys) b e
  pub first : (l : List ℕ) (k : ℕ) (xs ys : List ℕ) → room l k (xs ++ ys) → room l k xs
  pub rest : (l : List ℕ) (k : ℕ) (xs ys a : List ℕ) (m : ℕ) → room l k (xs ++ ys) → puts l k xs a m → room a m ys

pub written_in_turn : InTurn HasRoom Wrote
written_in_turn =
    record {
      none = wrote_none;
      more = λ l k xs ys a b m e p q. wrote_more p q;
      first = λ l k xs ys r. record { fits = omega (arith, r.fits, length-append xs ys) };
      rest = λ l k xs ys a m r w. record { fits = omega (arith, r.fits, length-append xs ys, w.next, wrote_length w) };
    }

pub measured_in_turn : InTurn Countable Measures
measured_in_turn =
    record {
      none = λ l k. record { same = refl; next = omega arith };
      more = λ l k xs ys a b m e p q. record { same = q.same ∙ p.same; next = omega (arith, p.next, q.next, length-append xs ys) };
      first = λ l k xs ys r. record { fits = omega (arith, r.fits, length-append xs ys) };
      rest = λ l k xs ys a m r w. record { fits = omega (arith, r.fits, length-append xs ys, w.next) };
    }
