-- A contract's payment row by row: the list that has what each region recovers, and that what the rows pay by it is what all accounts pay. Assumes nothing.
use Prim.Native.Nat.{ℕ, ◌+◌, ◌*◌, ◌^◌, ◌≤◌, ◌<◌}
use mathlib.Core.Path.{◌≡◌, refl, sym, ap, ap₂, subst, ◌∙◌}
use mathlib.Core.Bool.{Bool, true, false, cond}
use mathlib.Core.List.{List}
use native.Mathlib.Omega.{arith}
use native.Mathlib.Nat.{not-suc-le-zero}
use borrow.Author.Tests.{eq-eqb, ne_eqb, eqb-true, eqb-false}
use lib.Dec.{eqb}
use lib.ListN.{set, replicate, length-set, length-replicate}
use lib.Seq.{get_or-set_same, get_or-set_other}
use Rattle.sections.proofs.Cases.{cond_same}
use Rattle.numbers.specs.Round.{round_n}
use Rattle.numbers.proofs.Rounding.{round_share}
use Rattle.sections.specs.Total.{total, keyed, total_of}
use Rattle.sections.proofs.Total.{total_more, total_bound, total_zero, total_same, total_swap, keyed_hit, keyed_miss, keyed_plus, total_has, total_only}
use Rattle.market.specs.Kinds.{bit_set}
use Rattle.market.specs.declared.Basis.TheVariants.{Ace, Asoe}
use Rattle.rules.specs.Rules.{factor_of}
use Rattle.records.specs.declared.rows.Entry.{Entry}
use Rattle.records.specs.declared.rows.Contract.{Contract}
use Rattle.records.specs.declared.rows.EnergyRow.{EnergyRow}
use Rattle.totals.specs.Sums.{region_of, energy_of}
use Rattle.totals.specs.Inner.Energies.{Energies, EnergiesSound}
use Rattle.sharing.specs.Inner.Shares.{part_sum, Shareable}
use Rattle.sharing.specs.declared.shares.Part.{Part}
use Rattle.sharing.proofs.Rows.{part_rows}
use Rattle.recovery.specs.Recovers.{benefiting}
use Rattle.recovery.specs.Inner.Shapes.{consumed_part, sent_part, region_paid}
use Rattle.recovery.specs.Inner.Rests.{PaidBy, PaidIs, part_in, of_region, PartsAre, two_shares, pays_of, row_pays, Fair, Payable, AllPayable}
use Rattle.recovery.specs.declared.contracts.Recovered.{Recovered}
use Rattle.recovery.proofs.Energy.{one_region}
use Rattle.recovery.proofs.Sharing.{sorted, consumed_shareable, sent_shareable}

-- ---- the list, region by region

module _ (entry : ℕ → Entry) (k : Contract) where
  pub parts_none : {x : Recovered} → PartsAre entry k 0 (replicate 5 x)
  parts_none {x} = record { long = length-replicate {A = Recovered} 5 x; each = λ g l. absurd (not-suc-le-zero l) }

  -- x is what region m recovers
  pub parts_more : (m : ℕ) {parts : List Recovered} {x : Recovered} → PartsAre entry k m parts → m < 5 → x ≡ part_in entry k m → PartsAre entry k (m + 1) (set parts m x)
  parts_more m {parts} {x} s h e =
      record { long = length-set parts m x ∙ s.long; each = λ g b. by g b (eqb g m) refl }
    where
      by : (g : ℕ) → g < m + 1 → (t : Bool) → eqb g m ≡ t → of_region (set parts m x) g ≡ part_in entry k g
      by g b true t = rw (eqb-true g m t) (get_or-set_same parts m x _ (rw s.long h) ∙ e)
      by g b false t =
          let d : g ≡ m → ⊥ = eqb-false g m t in
          get_or-set_other parts m g x _ d ∙ s.each g (omega (arith, d))

  pub parts_all : (m : ℕ) {parts : List Recovered} → PartsAre entry k m parts → m ≤ 5 → 5 ≤ m → PartsAre entry k 5 parts
  parts_all m {parts} s u v = subst (λ (m : ℕ). PartsAre entry k m parts) (omega arith) s

-- ---- what is paid by it

module _ {parts : List Recovered} {r : EnergyRow} (h : Payable parts r) where
  module _ {p : Recovered} (e : p ≡ of_region parts r.region) where
    pub row_none : p.factor ≡ 0 → 0 ≡ row_pays parts r
    unfolding row_pays
    row_none z = rw (← e, eq-eqb p.factor 0 z)

    pub row_both : {x y : ℕ} → (p.factor ≡ 0 → ⊥) → x ≡ round_n (p.consumed * r.ace) p.ace → y ≡ round_n (p.sent * r.asoe) p.asoe → x + y ≡ row_pays parts r
    unfolding row_pays
    row_both d u v = rw (← e, ne_eqb p.factor 0 d, u, v)

  -- two shares, each of at most a half
  pub row_small : {x : ℕ} → x ≡ row_pays parts r → x ≤ 100_000_000_000
  unfolding row_pays
  row_small q = rw q (by (eqb p.factor 0) refl)
    where
      p : Recovered
      p = of_region parts r.region

      by : (t : Bool) → eqb p.factor 0 ≡ t → cond t 0 (two_shares p r) ≤ 100_000_000_000
      by true e = omega arith
      by false e =
          let x = h.ace (eqb-false _ 0 e) in
          let y = h.asoe (eqb-false _ 0 e) in
          omega (arith, round_share p.consumed r.ace p.ace x.within, round_share p.sent r.asoe p.asoe y.within)

module _ {parts : List Recovered} {energy : ℕ → EnergyRow} {n : ℕ} (h : AllPayable parts energy n) (i : ℕ) where
  -- a turn: r is row i, and x what it pays
  pub pay_more : {t x : ℕ} {r : EnergyRow} → t ≡ total (λ i. row_pays parts (energy i)) i → r ≡ energy i → x ≡ row_pays parts r → t + x ≡ total (λ i. row_pays parts (energy i)) (i + 1)
  pay_more d q e = total_more _ i d (e ∙ ap (row_pays parts) q)

  -- 1,024 rows
  pub pay_small : {t : ℕ} → i ≤ n → t ≡ total (λ i. row_pays parts (energy i)) i → t ≤ 102_400_000_000_000
  pay_small l e =
      rw e (omega (arith, total_bound (λ i. row_pays parts (energy i)) 100_000_000_000 i (λ k m. row_small (h.row k (omega arith)) refl)))

-- ---- a contract that sound energies can pay

module _ {E : Energies} (p : EnergiesSound E) (k : Contract) (o : PaidBy E.entry k) where
  low : (i : ℕ) → i < E.rows → (E.row i).region < 5
  low i l = omega (arith, (p.rules i l).region)

  -- what a row pays of region g's halves
  paid : ℕ → EnergyRow → ℕ
  paid g r = pays_of (part_in E.entry k g) r

  one : (g : ℕ) → g < 5 → (i : ℕ) → i < E.rows → bit_set (2 ^ g) (E.row i).region ≡ eqb (E.row i).region g
  one g m i l = one_region g (E.row i).region m (low i l)

  -- what all accounts pay in region g is what its rows pay
  region_rows_lem : (g : ℕ) → g < 5 → region_paid E k g ≡ total_of (region_of E.row) g (λ i. paid g (E.row i)) E.rows
  unfolding region_paid consumed_part sent_part paid keyed
  region_rows_lem g m = by (eqb (factor_of k.factors g) 0)
    where
      by : (t : Bool) → cond t 0 (part_sum (consumed_part E.entry k g) E.row E.rows + part_sum (sent_part E.entry k g) E.row E.rows) ≡ total_of (region_of E.row) g (λ i. cond t 0 (two_shares (part_in E.entry k g) (E.row i))) E.rows
      by true = total_zero _ E.rows (λ i l. cond_same (eqb (E.row i).region g) 0)
      by false =
          ap₂ ◌+◌ (part_rows _ E.row E.rows g (sorted p) (one g m)) (part_rows _ E.row E.rows g (sorted p) (one g m))
          ∙ sym (keyed_plus _ g _ _ E.rows)

  -- and over all regions it is what each row pays in its own
  all_rows : total (region_paid E k) 5 ≡ total (λ i. paid (E.row i).region (E.row i)) E.rows
  all_rows =
      total_same _ _ 5 region_rows_lem
      ∙ total_swap (λ g i. keyed (region_of E.row) g (λ i. paid g (E.row i)) i) E.rows 5
      ∙ total_same _ _ E.rows own
    where
      own : (i : ℕ) → i < E.rows → total (λ g. keyed (region_of E.row) g (λ i. paid g (E.row i)) i) 5 ≡ paid (E.row i).region (E.row i)
      own i l =
          total_only _ (E.row i).region 5 (low i l) (λ g m d. keyed_miss (region_of E.row) g (λ i. paid g (E.row i)) i (λ q. d (sym q)))
          ∙ sym (keyed_hit (region_of E.row) (E.row i).region (λ j. paid (E.row i).region (E.row j)) i refl)

  -- a row has no more than its region
  within : (f : ℕ → ℕ) (i : ℕ) {t : ℕ} → i < E.rows → t ≡ total_of (region_of E.row) (E.row i).region f E.rows → f i ≤ t
  within f i l e =
      rw (e, keyed_hit (region_of E.row) (E.row i).region f i refl) (total_has (keyed (region_of E.row) (E.row i).region f) E.rows i l)

  fair : {x : Part} → Shareable x E.row E.rows → {half own whole : ℕ} → half ≡ x.amount → whole ≡ x.whole → own ≤ x.whole → Fair half own whole
  fair h e q w = rw (e, q) (record { small = h.small; within = w; above = h.above; below = h.below })

  -- the list has what each region recovers
  module _ {parts : List Recovered} (s : PartsAre E.entry k 5 parts) where
    rows_pay : total (λ i. row_pays parts (E.row i)) E.rows ≡ total (region_paid E k) 5
    unfolding row_pays paid
    rows_pay =
        total_same _ _ E.rows (λ i m. ap (λ (p : Recovered). pays_of p (E.row i)) (s.each _ (low i m)))
        ∙ sym all_rows

    -- what the rows pay is what all accounts pay
    pub charges_are : {x : ℕ} → (x ≡ total (λ i. row_pays parts (E.row i)) E.rows) × (x ≤ 102_400_000_000_000) → (x ≡ total (region_paid E k) 5) × (x ≤ 102_400_000_000_000)
    charges_are w = (w.0 ∙ rows_pay, w.1)

    row_payable : (i : ℕ) → i < E.rows → Payable parts (E.row i)
    unfolding consumed_part sent_part
    row_payable i m =
        let h = low i m in
        let g = (E.row i).region in
        let e = s.each g h in
        let b : (of_region parts g).factor ≡ factor_of k.factors g = ap (λ (p : Recovered). p.factor) e in
        record {
          region = h;
          ace = λ d. fair (consumed_shareable p o g h (λ z. d (b ∙ z))) (ap (λ (p : Recovered). p.consumed) e) (ap (λ (p : Recovered). p.ace) e) (within (energy_of Ace E.row) i m ((p.sums g h).each Ace));
          asoe = λ d. fair (sent_shareable p o g h (λ z. d (b ∙ z))) (ap (λ (p : Recovered). p.sent) e) (ap (λ (p : Recovered). p.asoe) e) (within (energy_of Asoe E.row) i m ((p.sums g h).each Asoe));
        }

    pub all_payable : AllPayable parts E.row E.rows
    all_payable = record { few = p.few; row = row_payable }

-- ---- how many regions benefit, and what is paid in all

pub paid_is : (E : Energies) (k : Contract) {x z : ℕ} → x ≡ total (λ g. cond (eqb (factor_of k.factors g) 0) 0 1) 5 → x ≤ 5 → (z ≡ total (region_paid E k) 5) × (z ≤ 102_400_000_000_000) → PaidIs E k (record { regions = x; charge = z })
unfolding benefiting
paid_is E k u l z = record { regions = u; charge = z.0; few = l; small = z.1 }
