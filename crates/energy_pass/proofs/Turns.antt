-- The pass over the energy rows turn by turn: what is known of the rows so far, and of the last one's key. Assumes nothing.
use Prim.Native.Nat.{ℕ, suc, ◌+◌, ◌-◌, ◌*◌, ◌≤◌, ◌<◌}
use mathlib.Core.Path.{◌≡◌, refl, sym, ap, ◌∙◌}
use mathlib.Core.Bool.{Bool, true, false, not}
use mathlib.Core.List.{List, [], ◌∷◌}
use mathlib.Core.Logic.{⊎_elim}
use native.Mathlib.Omega.{arith}
use native.Mathlib.Nat.{eq-zero-or-pos}
use borrow.Author.Count.{below_none, below_more}
use borrow.Author.Tests.{not-true, not-false}
use lib.ListN.{replicate}
use lib.Seq.{ext_get_or}
use Rattle.std.specs.Prelude.{Option, None, Some}
use Rattle.ground.proofs.Every.{every, all}
use Rattle.sections.specs.Order.{rises_by}
use Rattle.sections.specs.Inner.Walk.{Split}
use Rattle.sections.proofs.Cases.{same_answer, no_yes}
use Rattle.sections.proofs.Order.{rises_first, rises_later, rises_step, key_below, below_key}
use Rattle.market.specs.declared.Basis.{Basis}
use Rattle.market.specs.declared.Basis.TheVariants.{Ace, Asoe, Residual}
use Rattle.rules.specs.Rules.{energy_below}
use Rattle.records.specs.declared.rows.EnergyRow.{EnergyRow}
use Rattle.totals.specs.Sums.{row_by}
use Rattle.totals.specs.Inner.Turns.{TotalsOf, SumRoom, Added}
use Rattle.totals.specs.declared.entries.Totals.{Totals}
use Rattle.totals.proofs.Turns.{totals_are, sums_room, totals_none, totals_more}
use Rattle.energy_pass.specs.Inner.Energies.{account_region, row_holds, row_keeps, EachKeeps, AllSummed}
use Rattle.energy_pass.proofs.Rows.{RowHolds, row_says, row_said}

-- a row that holds after some key holds after each smaller one
after : (a b : ℕ) {r : EnergyRow} → a ≤ b → RowHolds b r → RowHolds a r
after a b l h =
    record {
      above = omega (arith, h.above);
      region = h.region;
      spare = h.spare;
      race = h.race;
      rasoe = h.rasoe;
    }

-- five sums by region are no others
split_once : (group f : ℕ → ℕ) (i : ℕ) {l x : List ℕ} → Split 5 group f i l → Split 5 group f i x → l ≡ x
split_once group f i {l} {x} h g =
    ext_get_or 0 l x (h.long ∙ sym g.long) (λ k b. let m : k < 5 = rw h.long at b in h.each k m ∙ sym (g.each k m))

-- energies of 32 bits
pub record Narrow (r : EnergyRow) : Type 0 where
  pub ace : r.ace < 4_294_967_296
  pub asoe : r.asoe < 4_294_967_296

-- and so is their sum, whatever is residual of them
narrow_row : (b : Basis) (r : EnergyRow) → Narrow r → r.race ≤ r.ace → r.rasoe ≤ r.asoe → row_by b r ≤ 8_589_934_590
narrow_row Ace r h c s = omega (arith, h.ace)
narrow_row Asoe r h c s = omega (arith, h.asoe)
narrow_row Residual r h c s = omega (arith, h.ace, h.asoe)

module _ (energy : ℕ → EnergyRow) where
  -- what it says that row i keeps its rules, and back
  pub record RowKeeps (i : ℕ) : Type 0 where
    pub fields : RowHolds 4_294_967_295 (energy i)
    pub order : rises_by energy_below energy i ≡ true

  pub keeps_says : (i : ℕ) → row_keeps energy i ≡ true → RowKeeps i
  keeps_says i e =
      let h = every (row_holds 4_294_967_295 (energy i) ∷ rises_by energy_below energy i ∷ []) e in
      record { fields = row_says 4_294_967_295 (energy i) h.0; order = h.1.0 }

  pub keeps_said : (i : ℕ) → RowKeeps i → row_keeps energy i ≡ true
  keeps_said i h =
      all (row_holds 4_294_967_295 (energy i) ∷ rises_by energy_below energy i ∷ []) (row_said 4_294_967_295 (energy i) h.fields, (h.order, tt))

  -- the rows before i keep their rules, t has their sums, and the last one's key is `before`
  pub record Rows (i before : ℕ) (t : Totals) : Type 0 where
    pub low : 4_294_967_295 ≤ before
    pub first : i ≡ 0 → before ≡ 4_294_967_295
    pub last : (i ≡ 0 → ⊥) → before ≡ account_region (energy (i - 1))
    pub each : (j : ℕ) → j < i → row_keeps energy j ≡ true
    pub narrow : (j : ℕ) → j < i → Narrow (energy j)
    pub sums : TotalsOf energy i t

  pub rows_none : Rows 0 4_294_967_295 (record { ace = replicate 5 0; asoe = replicate 5 0; residual = replicate 5 0 })
  rows_none =
      record {
        low = omega arith;
        first = λ _. refl;
        last = λ no. absurd (no refl);
        each = below_none _;
        narrow = below_none _;
        sums = totals_none energy;
      }

  -- row i holds after the last key exactly where it keeps its rules
  row_exact : (i before : ℕ) {t : Totals} → Rows i before t → row_holds before (energy i) ≡ row_keeps energy i
  row_exact i before s = same_answer _ _ there back
    where
      there : row_holds before (energy i) ≡ true → row_keeps energy i ≡ true
      there e =
          let h = row_says before (energy i) e in
          keeps_said i (record { fields = after 4_294_967_295 before s.low h; order = rises_at h })
        where
          rises_at : RowHolds before (energy i) → rises_by energy_below energy i ≡ true
          rises_at h =
              ⊎_elim
              (λ (e : i ≡ 0). sym (rises_first energy_below energy i e))
              (λ (l : 0 < i). let no : i ≡ 0 → ⊥ = λ (e : i ≡ 0). omega arith in
              let k = s.last no in
              sym (rises_later energy_below energy i no refl refl (sym (key_below 4_294_967_296 (energy (i - 1)).account (energy (i - 1)).region (energy i).account (energy i).region (omega (arith, h.region)) (omega (arith, h.above))))))
              (eq-zero-or-pos i)

      back : row_keeps energy i ≡ true → row_holds before (energy i) ≡ true
      back e =
          let h = keeps_says i e in
          let f = h.fields in
          row_said before (energy i) (record { above = over h; region = f.region; spare = f.spare; race = f.race; rasoe = f.rasoe })
        where
          step : (k : ℕ) → i ≡ k + 1 → rises_by energy_below energy i ≡ true → account_region (energy k) < account_region (energy i)
          step k q o =
              let up : suc k ≡ i = omega arith in
              let p = rises_step energy_below energy k (rw (← up) at o) in
              rw (← up) (below_key 4_294_967_296 (energy k).account (energy k).region (energy (suc k)).account (energy (suc k)).region (omega (arith, (keeps_says k (s.each k (omega arith))).fields.region)) p)

          over : RowKeeps i → before < account_region (energy i)
          over h =
              ⊎_elim
              (λ (e : i ≡ 0). rw (s.first e) h.fields.above)
              (λ (l : 0 < i). let no : i ≡ 0 → ⊥ = λ (e : i ≡ 0). omega arith in
              rw (s.last no) (step (i - 1) (omega arith) h.order))
              (eq-zero-or-pos i)

  module _ (i : ℕ) {before : ℕ} {t : Totals} {r : EnergyRow} {b : Bool} (s : Rows i before t) (e : r ≡ energy i) (q : b ≡ row_holds before r) where
    -- the row's test failed
    pub rows_stop : (n : ℕ) → i < n → not b ≡ true → EachKeeps energy n → ⊥
    rows_stop n l f h = no_yes (sym (row_exact i before s) ∙ rw e at (sym q ∙ not-true b f)) (h i l)

    module _ (f : not b ≡ false) {head : ℕ} (d : head ≡ r.region + 256 * r.spare) where
      held : RowHolds before r
      held = row_says before r (sym q ∙ not-false b f)

      -- it passed: x are the sums with it
      pub rows_more : {key : ℕ} {x : Totals} → r.ace < 4_294_967_296 → r.asoe < 4_294_967_296 → Added t head r x → key ≡ r.account * 4_294_967_296 + head → Rows (i + 1) key x
      rows_more {key} {x} a c p k =
          let g : head ≡ r.region = omega (arith, held.spare) in
          let up = held.above in
          let low = s.low in
          let back : i + 1 - 1 ≡ i = omega arith in
          record {
            low = omega arith;
            first = λ (z : i + 1 ≡ 0). omega arith;
            last = λ _. rw (back, ← e) (omega arith);
            each = below_more _ i s.each (sym (row_exact i before s) ∙ rw e at (sym q ∙ not-false b f));
            narrow = below_more _ i s.narrow (rw e at narrowed);
            sums = totals_more energy i s.sums e g (omega (arith, held.region)) p;
          }
        where
          narrowed : Narrow r
          narrowed = record { ace = a; asoe = c }

      -- and there is room for it: the sums of at most 1,024 rows are small
      pub rows_room : (n : ℕ) → n ≤ 1024 → i < n → (head < 5) × SumRoom t head
      rows_room n few l =
          let in_reach : head < 5 = omega (arith, held.spare, held.region) in
          (in_reach, sums_room energy _ i (omega arith) (λ b j k. let z = (keeps_says j (s.each j k)).fields in narrow_row b (energy j) (s.narrow j k) z.race z.rasoe) s.sums head in_reach)

  -- the loop's end: there is no row left
  pub rows_all : (i n : ℕ) {before : ℕ} {t : Totals} → Rows i before t → i ≤ n → n ≤ i → AllSummed energy n t
  rows_all i n {before} {t} s l m =
      let e : i ≡ n = omega arith in
      let k : Rows n before t = rw e at s in
      record { each = k.each; sums = k.sums }
