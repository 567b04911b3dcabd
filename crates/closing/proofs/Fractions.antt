-- What stages leave, added up as fractions: in millionths, and by its size. Assumes nothing.
use Prim.Native.Nat.{ℕ, zero, suc, ◌+◌, ◌*◌, ◌≤◌, ◌<◌}
use mathlib.Core.Path.{◌≡◌, refl, sym, ap, ap₂, ◌∙◌}
use mathlib.Core.List.{List, [], ◌∷◌, ◌++◌}
use native.Mathlib.Omega.{arith}
use native.Mathlib.Nat.{eq_of_mul-eq-mul_right, le_of_mul-le-mul_left, le_refl, mul-le-mul_left, mul-pos, one-mul}
use lib.IntN.{ℤ, pos, nat_abs, one, ◌+ℤ◌, ◌*ℤ◌, +ℤ_idl, *ℤ-one, zero-*ℤ}
use Rattle.numbers.specs.Sign.{less}
use Rattle.numbers.proofs.Ring.{above, sum, product, same, apart, parts, less_times, less_same}
use Rattle.numbers.proofs.Sizes.{less_plus, less_size}
use Rattle.numbers.proofs.Signs.{sum_size, size_times}
use Rattle.ground.specs.Units.{million}
use Rattle.sections.specs.Total.{total}
use Rattle.accounts.specs.Rows.{joined}
use Rattle.cutoffs.specs.declared.Cut.{Cut}
use Rattle.closing.specs.Explained.{Fraction, plus, nil, entering, left_by, said_by}

-- ---- sums and products of whole numbers with a sign

-- the numerator of three fractions, added from either end
regroup : (p q s : ℤ) (b d f : ℕ) → (p *ℤ pos d +ℤ q *ℤ pos b) *ℤ pos f +ℤ s *ℤ pos (b * d) ≡ p *ℤ pos (d * f) +ℤ (q *ℤ pos f +ℤ s *ℤ pos d) *ℤ pos b
regroup p q s b d f =
    rw (above (b * d), above (d * f), above b, above d, above f, (parts p).is, (parts q).is, (parts s).is) (simp (sum, product) (same _ _ _ _ (omega arith)))

-- m is p/b in parts of t, and n is q/d
added : (m n p q : ℤ) (b d t : ℕ) → m *ℤ pos b ≡ p *ℤ pos t → n *ℤ pos d ≡ q *ℤ pos t → (m +ℤ n) *ℤ pos (b * d) ≡ (p *ℤ pos d +ℤ q *ℤ pos b) *ℤ pos t
added m n p q b d t e f =
    let h = apart _ _ _ _ (simp (above, product) at (rw ((parts m).is, (parts p).is) at e)) in
    let k = apart _ _ _ _ (simp (above, product) at (rw ((parts n).is, (parts q).is) at f)) in
    let hd = ap (λ (x : ℕ). x * d) h in
    let kb = ap (λ (x : ℕ). x * b) k in
    rw (above (b * d), above b, above d, above t, (parts m).is, (parts n).is, (parts p).is, (parts q).is) (simp (sum, product) (same _ _ _ _ (omega arith)))

-- both sides without t
cancelled : (z p : ℤ) (b t : ℕ) → 0 < t → z *ℤ pos t *ℤ pos b ≡ p *ℤ pos t → z *ℤ pos b ≡ p
cancelled z p b t l e =
    let h = apart _ _ _ _ (simp (above, product) at (rw ((parts z).is, (parts p).is) at e)) in
    rw (above b, (parts z).is, (parts p).is) (simp product (same _ _ _ _ (eq_of_mul-eq-mul_right t l _ _ (omega arith))))

-- ---- sums of fractions

-- three, added from either end
plus_plus : (x y z : Fraction) → plus (plus x y) z ≡ plus x (plus y z)
unfolding plus
plus_plus x y z = ap₂ (λ (p : ℤ) (b : ℕ). record { over = p; under = b }) (regroup x.over y.over z.over x.under y.under z.under) (omega arith)

-- nothing, added
nil_plus : (x : Fraction) → plus nil x ≡ x
unfolding plus nil one
nil_plus x = ap₂ (λ (p : ℤ) (b : ℕ). record { over = p; under = b }) (rw (zero-*ℤ (pos x.under), *ℤ-one x.over) (+ℤ_idl x.over)) (one-mul x.under)

-- of two lists of stages
said_append : (xs ys : List Cut) → said_by (xs ++ ys) ≡ plus (said_by xs) (said_by ys)
unfolding said_by
said_append [] ys = sym (nil_plus (said_by ys))
said_append (c ∷ xs) ys = ap (plus (left_by c)) (said_append xs ys) ∙ sym (plus_plus (left_by c) (said_by xs) (said_by ys))

-- ---- what n roundings leave: a fraction that is a - b millionths, and at most half of one for each

pub record Left (n a b : ℕ) (x : Fraction) : Type 0 where
  pub exact : less a b *ℤ pos x.under ≡ x.over *ℤ pos million
  pub above : 0 < x.under
  pub size : 2 * nat_abs x.over ≤ n * x.under

-- the same, counted otherwise
pub left_as : {m c d : ℕ} (n a b : ℕ) {x : Fraction} → Left m c d x → m ≡ n → c + b ≡ a + d → Left n a b x
left_as {m} {c} {d} n a b {x} h e f =
    record {
      exact = ap (λ (z : ℤ). z *ℤ pos x.under) (sym (less_same c d a b f)) ∙ h.exact;
      above = h.above;
      size = rw (← e) h.size;
    }

-- of two
left_plus : {n a b m c d : ℕ} {x y : Fraction} → Left n a b x → Left m c d y → Left (n + m) (a + c) (b + d) (plus x y)
unfolding plus
left_plus {n} {a} {b} {m} {c} {d} {x} {y} h k =
    record {
      exact =
          ap (λ (z : ℤ). z *ℤ pos (x.under * y.under)) (sym (less_plus a b c d))
          ∙ added (less a b) (less c d) x.over y.over x.under y.under million h.exact k.exact;
      above = mul-pos h.above k.above;
      size =
          omega (arith, sum_size (x.over *ℤ pos y.under) (y.over *ℤ pos x.under), size_times x.over y.under, size_times y.over x.under, mul-le-mul_left y.under h.size, mul-le-mul_left x.under k.size);
    }

-- of no stage
pub left_none : Left 0 0 0 (said_by [])
unfolding said_by nil
left_none = record { exact = refl; above = omega arith; size = omega arith }

-- of one stage more
pub left_more : {n a b m c d : ℕ} (s : Cut) (cs : List Cut) → Left n a b (left_by s) → Left m c d (said_by cs) → Left (n + m) (a + c) (b + d) (said_by (s ∷ cs))
unfolding said_by
left_more s cs h k = left_plus h k

-- of lists one behind the other
pub left_joined : (f : ℕ → List Cut) (n a b : ℕ → ℕ) (m : ℕ) → ((g : ℕ) → g < m → Left (n g) (a g) (b g) (said_by (f g))) → Left (total n m) (total a m) (total b m) (said_by (joined f m))
unfolding total joined
left_joined f n a b zero h = left_none
left_joined f n a b (suc m) h =
    rw (said_append (joined f m) (f m)) (left_plus (left_joined f n a b m (λ g l. h g (omega arith))) (h m (le_refl (suc m))))

-- ---- one stage

module _ (c : Cut) (n a b : ℕ) where
  -- whole units of money over the divisor
  pub stage_whole : 0 < c.divisor → entering c.stage c.cut ≡ less (a * c.divisor) (b * c.divisor) → 2 * nat_abs (entering c.stage c.cut) ≤ n * c.divisor → Left n (a * million) (b * million) (left_by c)
  unfolding left_by
  stage_whole l e s =
      record {
        exact =
            less_times (a * million) (b * million) c.divisor
            ∙ less_same (a * million * c.divisor) (b * million * c.divisor) (a * c.divisor * million) (b * c.divisor * million) (omega arith)
            ∙ sym (ap (λ (z : ℤ). z *ℤ pos million) e ∙ less_times (a * c.divisor) (b * c.divisor) million);
        above = l;
        size = s;
      }

  -- over a million
  pub stage_millionths : c.divisor ≡ million → entering c.stage c.cut ≡ less a b → 2 * a ≤ 2 * b + n * million → 2 * b ≤ 2 * a + n * million → Left n a b (left_by c)
  unfolding left_by
  stage_millionths d e h k =
      record {
        exact = ap₂ (λ (z : ℤ) (t : ℕ). z *ℤ pos t) (sym e) d;
        above = omega arith;
        size = rw (d, e) (less_size a b (n * million) h k);
      }

-- ---- what is left of c - d units of money

module _ {n a b : ℕ} {x : Fraction} (c d : ℕ) (h : Left n a b x) (e : a + d * million ≡ c * million + b) where
  -- it is the fraction
  pub left_is : less c d *ℤ pos x.under ≡ x.over
  left_is =
      cancelled (less c d) x.over x.under million (omega arith)
      (ap (λ (z : ℤ). z *ℤ pos x.under) (less_times c d million ∙ sym (less_same a b (c * million) (d * million) e)) ∙ h.exact)

  -- a half for each rounding
  pub left_small : 2 * nat_abs (less c d) ≤ n
  left_small =
      le_of_mul-le-mul_left {m = 2 * nat_abs (less c d)} {n = n} {k = x.under} (omega (arith, h.size, ap nat_abs left_is, size_times (less c d) x.under)) h.above
