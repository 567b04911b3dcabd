-- The sums over a constraint's unit rows, turn by turn. Assumes nothing.
use Prim.Native.Nat.{ℕ, zero, suc, ◌+◌, ◌*◌, ◌≤◌, ◌<◌}
use mathlib.Core.Path.{◌≡◌, refl, sym, ap, ap₂, ◌∙◌}
use mathlib.Core.Bool.{Bool, true, false}
use mathlib.Core.Logic.{⊎_elim}
use native.Mathlib.Omega.{arith}
use native.Mathlib.Numerals.{add-one}
use native.Mathlib.Nat.{add_comm, add-zero, le_refl, eq-or-lt_of_le}
use borrow.Author.Tests.{eqb-true, eqb-false, eq-eqb, ne_eqb}
use lib.Dec.{eqb}
use lib.IntN.{pos, nat_abs, ◌+ℤ◌, ℤ}
use Rattle.numbers.specs.Sign.{less}
use Rattle.numbers.specs.Round.{round_n, cut_n, Rounds}
use Rattle.numbers.specs.declared.round.Rounded.{Rounded}
use Rattle.numbers.proofs.Signs.{sum_size, minus_size}
use Rattle.numbers.proofs.Sizes.{less_plus}
use Rattle.numbers.proofs.Ring.{less_minus}
use Rattle.numbers.proofs.Rounding.{round_share, cut_half}
use Rattle.amounts.specs.Shares.{cut_by_factor}
use Rattle.sections.specs.Inner.Walk.{Stands, at_key, Past}
use Rattle.sections.specs.Total.{total, keyed}
use Rattle.sections.proofs.Total.{total_more, keyed_miss}
use Rattle.sections.proofs.Walk.{Run, run_start, run_next, at_key_lem, sum_more}
use Rattle.rules.specs.Inner.Facts.{UnitRule}
use Rattle.records.specs.declared.rows.UnitRow.{UnitRow}
use Rattle.factors.specs.Naming.{key_of}
use Rattle.factors.specs.Inner.Runs.{Walked}
use Rattle.recovery.specs.ByKind.{above_by, below_by, factor_above, factor_below}
use Rattle.recovery.specs.Inner.Shapes.{unit_rows, unit_credit, unit_charge, cut_above, unit_cut_above, unit_cut_below}
use Rattle.recovery.specs.Inner.Units.{RowAdded, SumsAre, CutsAre, Called, Made, Adds}
use Rattle.recovery.specs.declared.kinds.Kind.{Kind}
use Rattle.recovery.specs.declared.kinds.Kind.TheVariants.{Contingency, Fpp, Used, Unused, Payment}
use Rattle.recovery.specs.declared.units.UnitSums.{UnitSums}

-- ---- one row

-- a factor is at most a whole
pub above_small : (kind : Kind) (q : UnitRow) → UnitRule q → above_by kind q ≤ 1_000_000
unfolding factor_above
above_small Contingency q u = omega arith
above_small Fpp q u = u.pcf
above_small Used q u = omega arith
above_small Unused q u = omega arith
above_small Payment q u = omega arith

pub below_small : (kind : Kind) (q : UnitRow) → UnitRule q → below_by kind q ≤ 1_000_000
unfolding factor_below
below_small Contingency q u = omega arith
below_small Fpp q u = u.ncf
below_small Used q u = u.ncf
below_small Unused q u = u.dcf
below_small Payment q u = omega arith

-- the share of a factor that was found, and what it cuts off
pub rounds_by : (pool : ℕ) {f g : ℕ} {x : Rounded} → f ≡ g → Rounds (pool * f) 1_000_000 x → Rounds (pool * g) 1_000_000 x
rounds_by pool e h = rw e at h

pub share_cut : {n : ℕ} {x : Rounded} → Rounds n 1_000_000 x → nat_abs x.cut ≤ 500_000
share_cut {n} h = rw h.cut (omega (arith, cut_half n 1_000_000 (omega arith)))

-- what its line cuts off, by what lies above 0 and what lies below
pub cut_is : (pool above below : ℕ) → cut_by_factor pool above below ≡ less (cut_above pool above below) (cut_above pool below above)
unfolding cut_by_factor cut_above
cut_is pool above below =
    less_minus (pool * above) (round_n (pool * above) 1_000_000 * 1_000_000) (pool * below) (round_n (pool * below) 1_000_000 * 1_000_000)
    ∙ ap (less (pool * above + round_n (pool * below) 1_000_000 * 1_000_000)) (add_comm (round_n (pool * above) 1_000_000 * 1_000_000) (pool * below))

-- it is at most a million, of both sides together
pub cut_low : (pool above below : ℕ) → nat_abs (cut_by_factor pool above below) ≤ 1_000_000
unfolding cut_by_factor
cut_low pool above below =
    omega (arith, minus_size (cut_n (pool * above) 1_000_000) (cut_n (pool * below) 1_000_000), cut_half (pool * above) 1_000_000 (omega arith), cut_half (pool * below) 1_000_000 (omega arith))

-- ---- the constraint's rows, a call for each

module _ (unit : ℕ → UnitRow) (m id : ℕ) where
  module _ {T : Type 0} (post : T → UnitRow → T → Type 0) (start : T) where
    -- a row of it, and one of another constraint
    made_row : (u : ℕ) (x y : T) → key_of unit u ≡ id → Made post unit id start u x → post x (unit u) y → Made post unit id start (u + 1) y
    unfolding Made
    made_row u x y e h q = rw (add-one, eq-eqb (key_of unit u) id e) (x, (h, q))

    made_other : (u : ℕ) (x : T) → (key_of unit u ≡ id → ⊥) → Made post unit id start u x → Made post unit id start (u + 1) x
    unfolding Made
    made_other u x d h = rw (add-one, ne_eqb (key_of unit u) id d) h

    -- rows of others change nothing
    made_others : (u n : ℕ) (x : T) → u ≤ n → ((i : ℕ) → u ≤ i → i < n → key_of unit i ≡ id → ⊥) → Made post unit id start u x → Made post unit id start n x
    made_others u zero x l d h = let e : u ≡ 0 = omega arith in rw e at h
    made_others u (suc n) x l d h =
        ⊎_elim
        (λ (e : u ≡ suc n). rw e at h)
        (λ (k : u < suc n). rw (← add-one) (made_other n x (d n (omega arith) (le_refl (suc n))) (made_others u n x (omega arith) (λ i a b. d i a (omega arith)) h)))
        (eq-or-lt_of_le l)

    -- how far the run of the constraint's rows is, and what is made so far
    pub record Running (u : ℕ) (x : T) : Type 0 where
      pub run : Run (key_of unit) m id u
      pub made : Made post unit id start u x

    -- before its rows there is no call
    pub running_start : (u : ℕ) → Stands (key_of unit) m id u → Running u start
    unfolding Made
    running_start u s =
        record { run = run_start _ m id u s; made = made_others 0 u start (omega arith) (λ i a l e. omega (arith, s.under i l)) refl }

    -- the loop's test holds of row u: it is there, and the constraint's
    module _ (u : ℕ) {x : T} {t : Bool} (h : Running u x) (e : t ≡ at_key (key_of unit) m id u) (a : t ≡ true) where
      pub row_at : (u < m) × (key_of unit u ≡ id)
      row_at = at_key_lem (key_of unit) m id u (rw e at a)

      -- q is row u: it can be told
      pub row_calls : (pre : T → UnitRow → Type 0) {q : UnitRow} → q ≡ unit u → Adds unit m id pre post start → pre x q
      row_calls pre i c = rw i (c u x row_at.0 h.made)

      -- a turn: y is what was made with it
      pub running_more : {q : UnitRow} {y : T} → q ≡ unit u → post x q y → Running (u + 1) y
      running_more i p =
          record { run = run_next _ m id u h.run row_at.0 row_at.1; made = made_row u _ _ row_at.1 h.made (rw i at p) }

    -- behind its rows there is no more call
    pub running_end : (u : ℕ) {x : T} → Running u x → Past (key_of unit) m id u → Made post unit id start m x
    running_end u {x} h p = made_others u m x p.high (λ i a l e. omega (arith, p.over i a l)) h.made

  -- a row of another constraint adds nothing to a sum
  sum_other : (f : ℕ → ℕ) (u : ℕ) {t : ℕ} → t ≡ total (keyed (key_of unit) id f) u → (key_of unit u ≡ id → ⊥) → t ≡ total (keyed (key_of unit) id f) (u + 1)
  sum_other f u {t} h d = sym (add-zero t) ∙ total_more _ u h (sym (keyed_miss (key_of unit) id f u d))

  module _ (w : Walked unit m) (kind : Kind) (pool : ℕ) where
    -- ---- the sums

    module _ (small : pool ≤ 50_000_000_000) {post : UnitSums → UnitRow → UnitSums → Type 0} (adds : (t : UnitSums) (q : UnitRow) (x : UnitSums) → post t q x → RowAdded t q kind pool x) where
      sums_more : (u : ℕ) {t x : UnitSums} → u < m → key_of unit u ≡ id → SumsAre unit m id kind pool u t → RowAdded t (unit u) kind pool x → SumsAre unit m id kind pool (u + 1) x
      unfolding unit_rows unit_credit unit_charge
      sums_more u l e h p =
          record {
            within = omega arith;
            rows = rw p.rows (sum_more _ m id _ u h.rows e refl);
            credit = rw p.credit (sum_more _ m id _ u h.credit e refl);
            charge = rw p.charge (sum_more _ m id _ u h.charge e refl);
            few = omega (arith, p.rows, h.few);
            credit_small =
                omega (arith, p.credit, h.credit_small, round_share pool (above_by kind (unit u)) 1_000_000 (above_small kind (unit u) (w.rules u l)));
            charge_small =
                omega (arith, p.charge, h.charge_small, round_share pool (below_by kind (unit u)) 1_000_000 (below_small kind (unit u) (w.rules u l)));
          }

      sums_other : (u : ℕ) {x : UnitSums} → u < m → (key_of unit u ≡ id → ⊥) → SumsAre unit m id kind pool u x → SumsAre unit m id kind pool (u + 1) x
      unfolding unit_rows unit_credit unit_charge
      sums_other u l d h =
          record {
            within = omega arith;
            rows = sum_other _ u h.rows d;
            credit = sum_other _ u h.credit d;
            charge = sum_other _ u h.charge d;
            few = omega (arith, h.few);
            credit_small = omega (arith, h.credit_small);
            charge_small = omega (arith, h.charge_small);
          }

      pub sums_made : (u : ℕ) {x : UnitSums} → u ≤ m → Made post unit id (record { rows = 0; credit = 0; charge = 0 }) u x → SumsAre unit m id kind pool u x
      unfolding Made unit_rows unit_credit unit_charge total
      sums_made zero l e =
          rw e (record { within = l; rows = refl; credit = refl; charge = refl; few = omega arith; credit_small = omega arith; charge_small = omega arith })
      sums_made (suc u) {x} l h = by (λ y b. sums_made u {x = y} (omega arith) b) (eqb (key_of unit u) id) refl h
        where
          by : ((y : UnitSums) → Made post unit id (record { rows = 0; credit = 0; charge = 0 }) u y → SumsAre unit m id kind pool u y) → (t : Bool) → eqb (key_of unit u) id ≡ t → Called t (Made post unit id (record { rows = 0; credit = 0; charge = 0 }) u) (λ y z. post y (unit u) z) x → SumsAre unit m id kind pool (suc u) x
          by before true e (y, (b, q)) = rw (← add-one) (sums_more u l (eqb-true _ id e) (before y b) (adds y (unit u) x q))
          by before false e b = rw (← add-one) (sums_other u l (eqb-false _ id e) (before x b))

      -- before the call for row u
      pub sums_room : (u : ℕ) (x : UnitSums) → u < m → Made post unit id (record { rows = 0; credit = 0; charge = 0 }) u x → UnitRule (unit u) × ((x.rows < 600) × ((x.credit ≤ 30_000_000_000_000) × (x.charge ≤ 30_000_000_000_000)))
      sums_room u x l h =
          let few = w.few in
          let s = sums_made u (omega arith) h in
          (w.rules u l, omega (arith, s.few, s.credit_small, s.charge_small))

    -- ---- what was cut off them

    module _ {post : ℤ → UnitRow → ℤ → Type 0} (adds : (x : ℤ) (q : UnitRow) (y : ℤ) → post x q y → y ≡ x +ℤ cut_by_factor pool (above_by kind q) (below_by kind q)) where
      cuts_more : (u : ℕ) {x y : ℤ} → u < m → key_of unit u ≡ id → CutsAre unit m id kind pool u x → y ≡ x +ℤ cut_by_factor pool (above_by kind (unit u)) (below_by kind (unit u)) → CutsAre unit m id kind pool (u + 1) y
      unfolding unit_cut_above unit_cut_below
      cuts_more u {x} {y} l e h p =
          let q = unit u in
          record {
            within = omega arith;
            cut =
                p
                ∙ ap₂ ◌+ℤ◌ h.cut (cut_is pool (above_by kind q) (below_by kind q))
                ∙ less_plus (unit_cut_above unit u id kind pool) (unit_cut_below unit u id kind pool) (cut_above pool (above_by kind q) (below_by kind q)) (cut_above pool (below_by kind q) (above_by kind q))
                ∙ ap₂ less (sum_more _ m id _ u refl e refl) (sum_more _ m id _ u refl e refl);
            small = omega (arith, ap nat_abs p, sum_size x (cut_by_factor pool (above_by kind q) (below_by kind q)), cut_low pool (above_by kind q) (below_by kind q), h.small);
          }

      cuts_other : (u : ℕ) {x : ℤ} → u < m → (key_of unit u ≡ id → ⊥) → CutsAre unit m id kind pool u x → CutsAre unit m id kind pool (u + 1) x
      unfolding unit_cut_above unit_cut_below
      cuts_other u l d h =
          record {
            within = omega arith;
            cut = h.cut ∙ ap₂ less (sum_other _ u refl d) (sum_other _ u refl d);
            small = omega (arith, h.small);
          }

      pub cuts_made : (u : ℕ) {x : ℤ} → u ≤ m → Made post unit id (pos 0) u x → CutsAre unit m id kind pool u x
      unfolding Made unit_cut_above unit_cut_below total
      cuts_made zero l e = rw e (record { within = l; cut = refl; small = omega arith })
      cuts_made (suc u) {x} l h = by (λ y b. cuts_made u {x = y} (omega arith) b) (eqb (key_of unit u) id) refl h
        where
          by : ((y : ℤ) → Made post unit id (pos 0) u y → CutsAre unit m id kind pool u y) → (t : Bool) → eqb (key_of unit u) id ≡ t → Called t (Made post unit id (pos 0) u) (λ y z. post y (unit u) z) x → CutsAre unit m id kind pool (suc u) x
          by before true e (y, (b, q)) = rw (← add-one) (cuts_more u l (eqb-true _ id e) (before y b) (adds y (unit u) x q))
          by before false e b = rw (← add-one) (cuts_other u l (eqb-false _ id e) (before x b))

      -- before the call for row u
      pub cuts_room : (u : ℕ) (x : ℤ) → u < m → Made post unit id (pos 0) u x → UnitRule (unit u) × (nat_abs x ≤ 600_000_000)
      cuts_room u x l h =
          let few = w.few in
          let s = cuts_made u (omega arith) h in
          (w.rules u l, omega (arith, s.small))

-- ---- what was cut off the constraint's rows, by a loop over them

module _ (unit : ℕ → UnitRow) (m id : ℕ) (kind : Kind) (pool : ℕ) where
  pub record Cutting (u : ℕ) (x : ℤ) : Type 0 where
    pub run : Run (key_of unit) m id u
    pub cuts : CutsAre unit m id kind pool u x

  -- the loop's test holds of row u
  module _ (u : ℕ) {x : ℤ} {t : Bool} (h : Cutting u x) (e : t ≡ at_key (key_of unit) m id u) (a : t ≡ true) where
    -- q is row u, and z what is cut off it
    module _ {q : UnitRow} (i : q ≡ unit u) (w : Walked unit m) where
      pub cutting_more : {z y : ℤ} → z ≡ cut_by_factor pool (above_by kind q) (below_by kind q) → y ≡ x +ℤ z → Cutting (u + 1) y
      cutting_more {z} {y} d p =
          let row = at_key_lem (key_of unit) m id u (rw e at a) in
          let cut : z ≡ cut_by_factor pool (above_by kind (unit u)) (below_by kind (unit u)) = d ∙ ap (λ (q : UnitRow). cut_by_factor pool (above_by kind q) (below_by kind q)) i in
          record {
            run = run_next _ m id u h.run row.0 row.1;
            cuts = cuts_more unit m id w kind pool {post = λ x q y. y ≡ x +ℤ cut_by_factor pool (above_by kind q) (below_by kind q)} (λ x q y p. p) u row.0 row.1 h.cuts (p ∙ ap (λ (c : ℤ). x +ℤ c) cut);
          }
