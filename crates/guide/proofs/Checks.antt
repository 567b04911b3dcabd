-- Check 5's tests of sizes pass exactly the numbers in 01's ranges, and checks 8 and 9 a record exactly where the sums of whole numbers with
-- their signs are what 01 says: the tests add up sizes, and sizes add up as the numbers do. Assumes nothing.
use Prim.Native.Nat.{ℕ, zero, suc, ◌+◌, ◌*◌, ◌≤◌, ◌<◌, ◌^◌}
use mathlib.Core.Path.{◌≡◌, refl, sym, ap, ap₂, subst, ◌∙◌}
use mathlib.Core.Bool.{Bool, true, false, ◌&&◌, ◌||◌, not}
use mathlib.Core.List.{List, [], ◌∷◌}
use mathlib.Core.Logic.{◌↔◌, ◌⊎◌, inl, inr, ⊎_elim}
use native.Mathlib.Omega.{arith}
use borrow.Author.Tests.{eqb-true, eq-eqb}
use lib.Dec.{eqb}
use lib.IntN.{ℤ, pos, neg_ℤ, ◌+ℤ◌}
use mir.Syntax.{w32, w64}
use mir.Val.{to_z}
use mir.Facts.{to_z_pos}
use Rattle.ground.specs.Bytes.{u32_at, u64_at, part_from, AreBytes}
use Rattle.ground.specs.Every.{all_of}
use Rattle.ground.specs.Inner.Every.{Every}
use Rattle.numbers.specs.Sign.{less}
use Rattle.numbers.specs.Sizes.{size_below, above_of, below_of, InRange}
use Rattle.numbers.specs.Inner.Sizes.{Sides, above, below}
use Rattle.ground.proofs.Every.{every, all}
use Rattle.ground.proofs.Back.{u32_small}
use Rattle.ground.proofs.Part.{part_bytes}
use Rattle.numbers.proofs.Sizes.{minus_is, minus_to_zero, zero_to, either_way, less_plus, less_zero, zero_less}
use Rattle.sections.specs.Total.{keyed}
use Rattle.market.specs.declared.Basis.{Basis}
use Rattle.market.specs.declared.Basis.TheVariants.{Ace, Asoe, Residual}
use Rattle.sections.specs.Refusal.{unrefused}
use Rattle.sections.proofs.Search.{all_each, all_of_lem}
use Rattle.records.specs.Rows.{entry_row, constraint_row, unit_row, energy_row, contract_row}
use Rattle.records.specs.declared.rows.Constraint.{Constraint}
use Rattle.factors.specs.Naming.{key_of}
use Rattle.factors.specs.Factors.{factors_ok, sum_over, no_factor, factors_at}
use Rattle.totals.specs.Sums.{sum_in, sum_tests, entry_has_sums}
use Rattle.book.specs.Header.{header_of, units_from, energies_from, contracts_from}
use Rattle.book.specs.Book.{book_of}
use Rattle.book.specs.Inner.Facts.{Fields}
use Rattle.book.specs.Table.{check5}
use Rattle.book.proofs.Steps.{fields_of}
use Rattle.guide.specs.Numbers.{min0, whole_factor}
use Rattle.guide.specs.Signed as signed
use Rattle.guide.specs.Signed.{SignedConstraint, constraint_at, unit_at, energy_at, contract_at, te, signed_book}
use Rattle.guide.specs.Checks.{RangesAgree, unit_sum, FactorSums, region_sum, EntrySums}
use Rattle.guide.proofs.Numbers.{sides_less, sides_min0, minus_plus, sum_pos, sum_minus, sum_less, pos_back, minus_back}
use Rattle.guide.proofs.Sized.{SizedConstraint, sized_entry, sized_constraint, sized_unit, sized_energy}

-- ---- a test of sizes, and the numbers

pos_test : {x y : ℤ} (m n : ℕ) → x ≡ pos m → y ≡ pos n → (eqb m n ≡ true) ↔ (x ≡ y)
pos_test m n e f = ((λ t. e ∙ ap pos (eqb-true m n t) ∙ sym f), λ q. eq-eqb m n (pos_back m n (sym e ∙ q ∙ f)))

minus_test : {x y : ℤ} (m n : ℕ) → x ≡ neg_ℤ (pos m) → y ≡ neg_ℤ (pos n) → (eqb m n ≡ true) ↔ (x ≡ y)
minus_test m n e f =
    ((λ t. e ∙ ap (λ (k : ℕ). neg_ℤ (pos k)) (eqb-true m n t) ∙ sym f), λ q. eq-eqb m n (minus_back m n (sym e ∙ q ∙ f)))

less_test : {x : ℤ} (m n : ℕ) → x ≡ less m n → (eqb m n ≡ true) ↔ (x ≡ pos 0)
less_test m n e = ((λ t. e ∙ zero_less m n (eqb-true m n t)), λ q. eq-eqb m n (less_zero m n (sym e ∙ q)))

-- a number of either side is 0 where both sides are
no_sides : {x : ℤ} {m n : ℕ} → Sides x m n → (eqb m 0 && eqb n 0 ≡ true) ↔ (x ≡ pos 0)
no_sides {x} {m} {n} s = (there s, back s)
  where
    there : Sides x m n → eqb m 0 && eqb n 0 ≡ true → x ≡ pos 0
    there (above e f) t = e ∙ ap pos (eqb-true m 0 (every (eqb m 0 ∷ eqb n 0 ∷ []) t).0)
    there (below e f) t = e ∙ ap (λ (k : ℕ). neg_ℤ (pos k)) (eqb-true n 0 (every (eqb m 0 ∷ eqb n 0 ∷ []) t).1.0)

    back : Sides x m n → x ≡ pos 0 → eqb m 0 && eqb n 0 ≡ true
    back (above e f) q = all (eqb m 0 ∷ eqb n 0 ∷ []) (eq-eqb m 0 (pos_back m 0 (sym e ∙ q)), (eq-eqb n 0 f, tt))
    back (below e f) q = all (eqb m 0 ∷ eqb n 0 ∷ []) (eq-eqb m 0 f, (eq-eqb n 0 (minus_back n 0 (sym e ∙ q)), tt))

-- ---- check 5

module _ (s : List ℕ) (a : AreBytes s) (k : ℕ) where
  up_to_zero : (limit : ℕ) → limit < 2 ^ 31 → (size_below (u32_at s k) ≤ limit) ↔ InRange (neg_ℤ (pos limit)) (pos 0) (to_z w32 (u32_at s k))
  up_to_zero limit l = minus_to_zero limit (u32_at s k) l (u32_small s a k)

  from_zero : (limit : ℕ) → limit < 2 ^ 31 → (u32_at s k ≤ limit) ↔ InRange (pos 0) (pos limit) (to_z w32 (u32_at s k))
  from_zero limit l = zero_to w32 limit (u32_at s k) l

  either : (limit : ℕ) → ((above_of (u32_at s k) ≤ limit) × (below_of (u32_at s k) ≤ limit)) ↔ InRange (neg_ℤ (pos limit)) (pos limit) (to_z w32 (u32_at s k))
  either limit = either_way limit (u32_at s k) (u32_small s a k)

  -- from or up to the number that stands at another place
  up_from : (m : ℕ) → size_below (u32_at s m) ≤ 20_000_000 → (size_below (u32_at s k) ≤ size_below (u32_at s m)) ↔ InRange (to_z w32 (u32_at s m)) (pos 0) (to_z w32 (u32_at s k))
  up_from m l =
      subst (λ (x : ℤ). (size_below (u32_at s k) ≤ size_below (u32_at s m)) ↔ InRange x (pos 0) (to_z w32 (u32_at s k))) (sym (minus_is (u32_at s m) (u32_small s a m) (omega arith)))
      (up_to_zero (size_below (u32_at s m)) (omega arith))

  up_to : (m : ℕ) → u32_at s m ≤ 20_000_000 → (u32_at s k ≤ u32_at s m) ↔ InRange (pos 0) (to_z w32 (u32_at s m)) (to_z w32 (u32_at s k))
  up_to m l =
      let h : u32_at s m < 2 ^ 31 = omega arith in
      subst (λ (x : ℤ). (u32_at s k ≤ u32_at s m) ↔ InRange (pos 0) x (to_z w32 (u32_at s k))) (sym (to_z_pos w32 h)) (from_zero (u32_at s m) h)

-- for all bytes, check 5's tests of numbers that have a sign pass exactly 01's ranges
pub check_5_is_the_guides : (b : List ℕ) → AreBytes b → RangesAgree (book_of b) (signed_book b)
unfolding entry_row signed.entry_at constraint_row constraint_at unit_row unit_at energy_row energy_at contract_row contract_at
check_5_is_the_guides b a =
    let s₁ = part_from 24 b in
    let s₂ = part_from 84 b in
    let s₃ = part_from (units_from (header_of b)) b in
    let s₄ = part_from (energies_from (header_of b)) b in
    let s₅ = part_from (contracts_from (header_of b)) b in
    let a₁ = part_bytes 24 b a in
    let a₂ = part_bytes 84 b a in
    let a₃ = part_bytes (units_from (header_of b)) b a in
    let a₄ = part_bytes (energies_from (header_of b)) b a in
    record {
      total_ace = λ g. up_to_zero s₁ a₁ (g * 12) 20_000_000 (omega arith);
      total_asoe = λ g. from_zero s₁ a₁ (g * 12 + 4) 20_000_000 (omega arith);
      residual = λ g. from_zero s₁ a₁ (g * 12 + 8) 20_000_000 (omega arith);
      cost = λ j. zero_to w64 50_000_000_000 (u64_at s₂ (j * 40 + 8)) (omega arith);
      rcf = λ j. either s₂ a₂ (j * 40 + 28) 1_000_000;
      drcf = λ j. up_to_zero s₂ a₂ (j * 40 + 32) 1_000_000 (omega arith);
      cf = λ u. either s₃ a₃ (u * 20 + 12) 1_000_000;
      dcf = λ u. up_to_zero s₃ a₃ (u * 20 + 16) 1_000_000 (omega arith);
      ace = λ i. up_to_zero s₄ a₄ (i * 24 + 8) 20_000_000 (omega arith);
      asoe = λ i. from_zero s₄ a₄ (i * 24 + 12) 20_000_000 (omega arith);
      rest_ace = λ i l. up_from s₄ a₄ (i * 24 + 16) (i * 24 + 8) l;
      rest_asoe = λ i l. up_to s₄ a₄ (i * 24 + 20) (i * 24 + 12) l;
      payment = λ k. zero_to w64 50_000_000_000 (u64_at s₅ (k * 36 + 8)) (omega arith);
    }

-- ---- check 8

-- the tests of a factored constraint, and of one in default mode
abbrev one_tests : Constraint → ℕ → ℕ → ℕ → List Bool
one_tests r p m d = eqb (p + r.prcf) (m + r.nrcf) ∷ eqb (m + r.nrcf) 1_000_000 ∷ eqb (d + r.drcf) 1_000_000 ∷ []

abbrev two_tests : Constraint → ℕ → Bool → List Bool
two_tests r d none = none ∷ eqb (d + r.drcf) 1_000_000 ∷ []

module _ (r : Constraint) (p m d : ℕ) (none : Bool) where
  test_zero : r.mode ≡ 0 → factors_ok r p m d none ≡ true
  test_zero e = rw e refl

  test_one : r.mode ≡ 1 → factors_ok r p m d none ≡ all_of (one_tests r p m d)
  test_one e = rw e (alone (all_of (one_tests r p m d)))
    where
      alone : (t : Bool) → (t || false) ≡ t
      alone true = refl
      alone false = refl

  test_two : r.mode ≡ 2 → factors_ok r p m d none ≡ all_of (two_tests r d none)
  test_two e = rw e refl

-- "every CF is 0", row by row
implied : (t u : Bool) → (not t || u) ≡ true → t ≡ true → u ≡ true
implied t u e q = rw q at e

implies : (t u : Bool) → (t ≡ true → u ≡ true) → (not t || u) ≡ true
implies true u h = h refl
implies false u h = refl

modes : (m : ℕ) → m ≤ 2 → (m ≡ 0) ⊎ ((m ≡ 1) ⊎ (m ≡ 2))
modes zero l = inl refl
modes (suc zero) l = inr (inl refl)
modes (suc (suc zero)) l = inr (inr refl)
modes (suc (suc (suc m))) l = absurd (over l)
  where
    over : suc (suc (suc m)) ≤ 2 → ⊥
    over l = omega arith

module _ (b : List ℕ) (a : AreBytes b) (f : Fields (book_of b)) (j : ℕ) (l : j < (header_of b).constraints) where
  -- the constraint by its sizes and with its signs
  abbrev r : Constraint
  r = (book_of b).constraint j

  abbrev z : SignedConstraint
  z = (signed_book b).constraint j

  sized : SizedConstraint r z
  sized = sized_constraint b a f j l

  -- the sums of its units' positive CFs, negative CFs and DCFs, by their sizes
  abbrev pcf : ℕ
  pcf = sum_over (book_of b).unit (header_of b).units r.id (λ q. q.pcf)

  abbrev ncf : ℕ
  ncf = sum_over (book_of b).unit (header_of b).units r.id (λ q. q.ncf)

  abbrev dcf : ℕ
  dcf = sum_over (book_of b).unit (header_of b).units r.id (λ q. q.dcf)

  abbrev none : Bool
  none = no_factor (book_of b).unit (header_of b).units r.id

  named : ℕ → Bool
  named u = eqb ((book_of b).unit u).constraint r.id

  cf_sum : unit_sum (signed_book b) z (λ q. q.cf) ≡ less pcf ncf
  unfolding unit_sum keyed constraint_row constraint_at unit_row unit_at named
  cf_sum =
      sum_less (λ u. ((signed_book b).unit u).cf) (λ u. ((book_of b).unit u).pcf) (λ u. ((book_of b).unit u).ncf) named (header_of b).units
      (λ u m. sides_less (sized_unit b a f u m).cf)

  negative_sum : unit_sum (signed_book b) z (λ q. min0 q.cf) ≡ neg_ℤ (pos ncf)
  unfolding unit_sum keyed constraint_row constraint_at unit_row unit_at named
  negative_sum =
      sum_minus (λ u. min0 ((signed_book b).unit u).cf) (λ u. ((book_of b).unit u).ncf) named (header_of b).units
      (λ u m. sides_min0 (sized_unit b a f u m).cf)

  dcf_sum : unit_sum (signed_book b) z (λ q. q.dcf) ≡ neg_ℤ (pos dcf)
  unfolding unit_sum keyed constraint_row constraint_at unit_row unit_at named
  dcf_sum = sum_minus (λ u. ((signed_book b).unit u).dcf) (λ u. ((book_of b).unit u).dcf) named (header_of b).units (λ u m. (sized_unit b a f u m).dcf)

  -- each test and its equation

  whole_test : (eqb (pcf + r.prcf) (ncf + r.nrcf) ≡ true) ↔ (unit_sum (signed_book b) z (λ q. q.cf) +ℤ z.rcf ≡ pos 0)
  whole_test = less_test (pcf + r.prcf) (ncf + r.nrcf) (ap₂ ◌+ℤ◌ cf_sum (sides_less sized.rcf) ∙ less_plus pcf ncf r.prcf r.nrcf)

  negative_test : (eqb (ncf + r.nrcf) 1_000_000 ≡ true) ↔ (unit_sum (signed_book b) z (λ q. min0 q.cf) +ℤ min0 z.rcf ≡ neg_ℤ whole_factor)
  negative_test = minus_test (ncf + r.nrcf) 1_000_000 (ap₂ ◌+ℤ◌ negative_sum (sides_min0 sized.rcf) ∙ minus_plus ncf r.nrcf) refl

  default_test : (eqb (dcf + r.drcf) 1_000_000 ≡ true) ↔ (unit_sum (signed_book b) z (λ q. q.dcf) +ℤ z.drcf ≡ neg_ℤ whole_factor)
  default_test = minus_test (dcf + r.drcf) 1_000_000 (ap₂ ◌+ℤ◌ dcf_sum sized.drcf ∙ minus_plus dcf r.drcf) refl

  abbrev NoFactor : Type 0
  NoFactor = (u : ℕ) → u < (header_of b).units → ((signed_book b).unit u).constraint ≡ z.id → ((signed_book b).unit u).cf ≡ pos 0

  none_holds : none ≡ true → NoFactor
  none_holds e u m q =
      let s = sized_unit b a f u m in
      (no_sides s.cf).0
      (implied (eqb (key_of (book_of b).unit u) r.id) (eqb ((book_of b).unit u).pcf 0 && eqb ((book_of b).unit u).ncf 0)
      (all_each (λ v. not (eqb (key_of (book_of b).unit v) r.id) || (eqb ((book_of b).unit v).pcf 0 && eqb ((book_of b).unit v).ncf 0)) (header_of b).units e u m)
      (eq-eqb (key_of (book_of b).unit u) r.id (sym s.constraint ∙ q ∙ sized.id)))

  none_passes : NoFactor → none ≡ true
  none_passes h =
      all_of_lem (λ v. not (eqb (key_of (book_of b).unit v) r.id) || (eqb ((book_of b).unit v).pcf 0 && eqb ((book_of b).unit v).ncf 0)) (header_of b).units
      (λ u m.
      let s = sized_unit b a f u m in
      implies (eqb (key_of (book_of b).unit u) r.id) (eqb ((book_of b).unit u).pcf 0 && eqb ((book_of b).unit u).ncf 0)
      (λ t. (no_sides s.cf).1 (h u m (s.constraint ∙ eqb-true (key_of (book_of b).unit u) r.id t ∙ sym sized.id))))

  -- the whole record's test

  by_mode : (r.mode ≡ 0) ⊎ ((r.mode ≡ 1) ⊎ (r.mode ≡ 2))
  by_mode = modes r.mode (f.constraints j l).mode

  factors_hold : factors_ok r pcf ncf dcf none ≡ true → FactorSums (signed_book b) z
  factors_hold e =
      record {
        whole = λ m. whole_test.0 (one (sym sized.mode ∙ m)).0;
        negatives = λ m. negative_test.0 (one (sym sized.mode ∙ m)).1.0;
        none = λ m. none_holds (two (sym sized.mode ∙ m)).0;
        defaults = λ live. ⊎_elim
            (λ (m : r.mode ≡ 0). absurd (live (sized.mode ∙ m)))
            (λ o. ⊎_elim (λ (m : r.mode ≡ 1). default_test.0 (one m).1.1.0) (λ (m : r.mode ≡ 2). default_test.0 (two m).1.0) o)
            by_mode;
      }
    where
      one : r.mode ≡ 1 → Every (one_tests r pcf ncf dcf)
      one m = every (one_tests r pcf ncf dcf) (sym (test_one r pcf ncf dcf none m) ∙ e)

      two : r.mode ≡ 2 → Every (two_tests r dcf none)
      two m = every (two_tests r dcf none) (sym (test_two r pcf ncf dcf none m) ∙ e)

  factors_pass : FactorSums (signed_book b) z → factors_ok r pcf ncf dcf none ≡ true
  factors_pass h = ⊎_elim (test_zero r pcf ncf dcf none) (λ o. ⊎_elim one two o) by_mode
    where
      live : (m : ℕ) → r.mode ≡ suc m → z.mode ≡ 0 → ⊥
      live m e q = omega (arith, sized.mode)

      one : r.mode ≡ 1 → factors_ok r pcf ncf dcf none ≡ true
      one m =
          test_one r pcf ncf dcf none m
          ∙ all (one_tests r pcf ncf dcf)
          (whole_test.1 (h.whole (sized.mode ∙ m)), (negative_test.1 (h.negatives (sized.mode ∙ m)), (default_test.1 (h.defaults (live 0 m)), tt)))

      two : r.mode ≡ 2 → factors_ok r pcf ncf dcf none ≡ true
      two m =
          test_two r pcf ncf dcf none m
          ∙ all (two_tests r dcf none) (none_passes (h.none (sized.mode ∙ m)), (default_test.1 (h.defaults (live 1 m)), tt))

-- for a book whose records keep check 5, check 8 passes a constraint exactly where its factors make 01's sums
pub check_8_is_the_guides : (b : List ℕ) → AreBytes b → check5 (book_of b) ≡ unrefused → (j : ℕ) → j < (header_of b).constraints → (factors_at (book_of b).unit (header_of b).units (book_of b).constraint j ≡ true) ↔ FactorSums (signed_book b) ((signed_book b).constraint j)
unfolding factors_at
check_8_is_the_guides b a e j l = let f = fields_of (book_of b) e refl in (factors_hold b a f j l, factors_pass b a f j l)

-- ---- check 9

module _ (b : List ℕ) (a : AreBytes b) (f : Fields (book_of b)) (g : ℕ) (l : g < 5) where
  -- the sums of its rows' ACE, ASOE and residual energy, by their sizes
  abbrev in_region : Basis → ℕ
  in_region = sum_in (book_of b).energy (header_of b).energies g

  here : ℕ → Bool
  here i = eqb ((book_of b).energy i).region g

  ace_sum : region_sum (signed_book b) g (λ r. r.ace) ≡ neg_ℤ (pos (in_region Ace))
  unfolding region_sum keyed energy_row energy_at here
  ace_sum = sum_minus (λ i. ((signed_book b).energy i).ace) (λ i. ((book_of b).energy i).ace) here (header_of b).energies (λ i m. (sized_energy b a f i m).ace)

  asoe_sum : region_sum (signed_book b) g (λ r. r.asoe) ≡ pos (in_region Asoe)
  unfolding region_sum keyed energy_row energy_at here
  asoe_sum = sum_pos (λ i. ((signed_book b).energy i).asoe) (λ i. ((book_of b).energy i).asoe) here (header_of b).energies (λ i m. (sized_energy b a f i m).asoe)

  residual_sum : region_sum (signed_book b) g te ≡ pos (in_region Residual)
  unfolding region_sum keyed energy_row energy_at here
  residual_sum = sum_pos (λ i. te ((signed_book b).energy i)) (λ i. ((book_of b).energy i).race + ((book_of b).energy i).rasoe) here (header_of b).energies (λ i m. (sized_energy b a f i m).residual)

  ace_test : (eqb ((book_of b).entry g).ace (in_region Ace) ≡ true) ↔ (((signed_book b).entry g).ace ≡ region_sum (signed_book b) g (λ r. r.ace))
  ace_test = minus_test ((book_of b).entry g).ace (in_region Ace) (sized_entry b a f g l).ace ace_sum

  asoe_test : (eqb ((book_of b).entry g).asoe (in_region Asoe) ≡ true) ↔ (((signed_book b).entry g).asoe ≡ region_sum (signed_book b) g (λ r. r.asoe))
  asoe_test = pos_test ((book_of b).entry g).asoe (in_region Asoe) (sized_entry b a f g l).asoe asoe_sum

  residual_test : (eqb ((book_of b).entry g).residual (in_region Residual) ≡ true) ↔ (((signed_book b).entry g).residual ≡ region_sum (signed_book b) g te)
  residual_test = pos_test ((book_of b).entry g).residual (in_region Residual) (sized_entry b a f g l).residual residual_sum

  abbrev tests : List Bool
  tests = sum_tests ((book_of b).entry g) in_region

  entry_holds : all_of tests ≡ true → EntrySums (signed_book b) g
  entry_holds t =
      let h = every tests t in
      record { ace = ace_test.0 h.0; asoe = asoe_test.0 h.1.0; residual = residual_test.0 h.1.1.0 }

  entry_passes : EntrySums (signed_book b) g → all_of tests ≡ true
  entry_passes h = all tests (ace_test.1 h.ace, (asoe_test.1 h.asoe, (residual_test.1 h.residual, tt)))

-- for a book whose records keep check 5, check 9 passes a region's entry exactly where it is its rows' sums
pub check_9_is_the_guides : (b : List ℕ) → AreBytes b → check5 (book_of b) ≡ unrefused → (g : ℕ) → g < 5 → (entry_has_sums (book_of b).energy (header_of b).energies (book_of b).entry g ≡ true) ↔ EntrySums (signed_book b) g
unfolding entry_has_sums
check_9_is_the_guides b a e g l = let f = fields_of (book_of b) e refl in (entry_holds b a f g l, entry_passes b a f g l)
