-- Energy rows account by account: an account's rows stand side by side, so that its share is made as they pass. Assumes nothing.
use Prim.Native.Nat.{ℕ, zero, suc, ◌+◌, ◌*◌, ◌≤◌, ◌<◌}
use mathlib.Core.Path.{◌≡◌, refl, ap, ◌∙◌, sym}
use mathlib.Core.List.{List, [], ◌∷◌}
use mathlib.Core.Bool.{Bool, true, false, cond}
use mathlib.Core.Logic.{⊎_elim}
use native.Mathlib.Omega.{arith}
use native.Mathlib.Nat.{eq-or-lt_of_le, not-suc-le-zero, le_of_suc-le-suc, le_refl, le_trans, le_of_eq, mul-le-mul, add_comm, one-mul, zero-mul}
use borrow.Author.Tests.{eq-eqb, eqb-true, eqb-false}
use mir.Val.{bool_byte}
use lib.IntN.{ℤ, pos, nat_abs, ◌+ℤ◌, +ℤ_comm}
use lib.Dec.{eqb}
use lib.ListN.{length}
use Rattle.numbers.specs.Round.{round_n, cut_n}
use Rattle.numbers.proofs.Rounding.{round_share, cut_half}
use Rattle.sections.specs.Total.{total, keyed}
use Rattle.sections.specs.Inner.Walk.{Stands, Past}
use Rattle.sections.proofs.Total.{total_bound, total_under, keyed_le}
use Rattle.sections.proofs.Search.{lt_or_ge}
use Rattle.sections.proofs.Walk.{Run, run_start, run_next, run_stop, run_done, sum_start, sum_more, sum_past}
use Rattle.market.specs.Kinds.{bit_set}
use Rattle.rules.specs.Inner.Facts.{EnergyRule}
use Rattle.records.specs.declared.rows.EnergyRow.{EnergyRow}
use Rattle.totals.specs.Sums.{row_by}
use Rattle.totals.proofs.Turns.{row_small}
use Rattle.accounts.specs.Rows.{sum_of, sum_z}
use Rattle.sharing.specs.Once.{has, join_new, named}
use Rattle.sharing.specs.Inner.Seen.{seen}
use Rattle.sharing.specs.Accounts.{energy_account}
use Rattle.sharing.specs.Inner.Shares.{energy_in, own_in_part, share_in, part_sum, cut_in, part_cut, Sorted, Shareable}
use Rattle.sharing.specs.Inner.Groups.{GroupIs, Made, Adds, MadeOver}
use Rattle.sharing.specs.declared.shares.Group.{Group}
use Rattle.sharing.specs.declared.shares.Part.{Part}
use Rattle.sharing.proofs.Sums.{sum_bound, signed_halves}
use Rattle.sharing.proofs.Once.{seen_none, has_named, length_named}
use Rattle.sharing.proofs.InOrder.{in_order}
use Rattle.sharing.proofs.Everyone.{nothing_shared, nothing_cut}

-- ---- energy

-- a row's energy of any kind
pub energy_small : (p : Part) (r : EnergyRow) → EnergyRule r → energy_in p r ≤ 40_000_000
unfolding energy_in
energy_small p r h = by (bit_set p.mask r.region)
  where
    by : (t : Bool) → cond t (row_by p.basis r) 0 ≤ 40_000_000
    by true = row_small p.basis r h
    by false = omega arith

-- by product: t says whether the row's region, by its number k, is in the part's mask
pub energy_product : (p : Part) (r : EnergyRow) {k x : ℕ} {t : Bool} → k ≡ r.region → t ≡ bit_set p.mask k → x ≡ row_by p.basis r → bool_byte t * x ≡ energy_in p r
unfolding energy_in
energy_product p r q e d = rw (e, q, d) (by (bit_set p.mask r.region))
  where
    by : (t : Bool) → bool_byte t * row_by p.basis r ≡ cond t (row_by p.basis r) 0
    by true = one-mul (row_by p.basis r)
    by false = zero-mul (row_by p.basis r)

module _ (p : Part) (energy : ℕ → EnergyRow) (n : ℕ) where
  abbrev counted : ℕ → ℕ
  counted i = energy_in p (energy i)

  -- an account owns no more than the whole
  pub own_small : Shareable p energy n → (a : ℕ) → own_in_part p energy n a ≤ p.whole
  unfolding own_in_part keyed
  own_small h a =
      le_trans
      (total_under _ _ n (λ k l. keyed_le (energy_account energy) a counted (counted k) k (le_refl (counted k))))
      (le_of_eq (sym h.whole))

  -- so that its share is no more than the amount
  pub share_small : Shareable p energy n → (a : ℕ) → share_in p energy n a ≤ p.amount
  unfolding share_in
  share_small h a = round_share p.amount (own_in_part p energy n a) p.whole (own_small h a)

  -- ---- the rows of one account

  -- a is the account of row from, and own what its rows among the first i own; rows from i on are no smaller account's
  pub record Gathered (from a i own : ℕ) : Type 0 where
    pub first : a ≡ (energy from).account
    pub run : Run (energy_account energy) n a i
    pub sum : own ≡ total (keyed (energy_account energy) a counted) i

  -- r is row from
  pub gather_start : (from : ℕ) {r : EnergyRow} → r ≡ energy from → Stands (energy_account energy) n (energy from).account from → Gathered from r.account from 0
  gather_start from e s =
      let q = ap (λ (r : EnergyRow). r.account) e in
      let t = rw (← q) at s in
      record { first = q; run = run_start _ n _ from t; sum = sum_start _ n _ counted from t }

  -- r is row i, and x what it adds
  pub gather_more : {from a i own x : ℕ} {r : EnergyRow} → Gathered from a i own → i < n → r ≡ energy i → r.account ≡ a → x ≡ energy_in p r → Gathered from a (i + 1) (own + x)
  gather_more {from} {a} {i} {own} {x} {r} g l e q d =
      let w : (energy i).account ≡ a = sym (ap (λ (r : EnergyRow). r.account) e) ∙ q in
      record { first = g.first; run = run_next _ n a i g.run l w; sum = sum_more _ n a counted i g.sum w (d ∙ ap (energy_in p) e) }

  -- 1,024 rows of at most 40,000,000
  pub gather_fits : {from a i own : ℕ} → Sorted energy n → Gathered from a i own → own ≤ 50_000_000_000
  gather_fits {from} {a} {i} {own} s g =
      let high = g.run.high in
      let few = s.few in
      rw g.sum
      (omega (arith, total_bound (keyed (energy_account energy) a counted) 40_000_000 i (λ k l. keyed_le (energy_account energy) a counted 40_000_000 k (energy_small p (energy k) (s.rules k (omega arith))))))

  -- no row of the account is left
  whole : {from a i own : ℕ} → Gathered from a i own → Past (energy_account energy) n a i → GroupIs p energy n from (record { own = own; end = i })
  unfolding own_in_part keyed
  whole {from} {a} {i} {own} g b =
      record { own = sum_past (energy_account energy) n a counted i g.sum b ∙ ap (own_in_part p energy n) g.first; behind = rw g.first at b }

  -- r is row i, of another account
  pub gather_stop : {from a i own : ℕ} {r : EnergyRow} → Sorted energy n → Gathered from a i own → i < n → r ≡ energy i → (r.account ≡ a → ⊥) → GroupIs p energy n from (record { own = own; end = i })
  gather_stop {from} {a} {i} {own} {r} s g l q d =
      whole g (run_stop _ n a i (in_order s) g.run l (λ z. d (ap (λ (r : EnergyRow). r.account) q ∙ z)))

  -- there is no row i
  pub gather_end : {from a i own : ℕ} → Gathered from a i own → i ≡ n → GroupIs p energy n from (record { own = own; end = i })
  gather_end {from} {a} {i} {own} g q = whole g (run_done _ n a i g.run q)

-- the rows from i on are one account's, which none before names: they add its name
names_run : (name : ℕ → ℕ) (i j : ℕ) → i < j → ((k : ℕ) → i ≤ k → k < j → name k ≡ name i) → seen name i (name i) ≡ false → named name j [] ≡ (name i ∷ named name i [])
unfolding named join_new has
names_run name i zero l h s = absurd (not-suc-le-zero l)
names_run name i (suc j) l h s =
    ⊎_elim
    (λ (e : i ≡ j). rw (← e, has_named name i [] (name i), s))
    (λ (k : i < j). rw (names_run name i j k (λ x a b. h x a (omega arith)) s, eq-eqb (name i) (name j) (sym (h j (omega arith) (le_refl (suc j))))))
    (eq-or-lt_of_le (le_of_suc-le-suc l))

-- ---- account after account

module _ (p : Part) (energy : ℕ → EnergyRow) (n : ℕ) where
  -- the rows before i are whole accounts
  pub record Accounts (i : ℕ) : Type 0 where
    pub within : i ≤ n
    pub stands : i < n → Stands (energy_account energy) n (energy i).account i

  none_yet : Sorted energy n → Accounts 0
  none_yet s =
      record {
        within = omega arith;
        stands = λ l. record { high = omega arith; under = λ k m. absurd (not-suc-le-zero m); over = λ k m j. s.order.first 0 k m j };
      }

  -- a group ends behind its first row
  pub group_moves : {i : ℕ} {g : Group} → GroupIs p energy n i g → i < n → i < g.end
  group_moves {i} {g} h l =
      ⊎_elim (λ (a : i < g.end). a) (λ (a : g.end ≤ i). absurd (omega (arith, h.behind.over i a l))) (lt_or_ge i g.end)

  -- one account more: that of row i
  module _ {i : ℕ} {g : Group} (s : Sorted energy n) (h : Accounts i) (l : i < n) (b : GroupIs p energy n i g) where
    one_more : Accounts g.end
    one_more =
        record {
          within = b.behind.high;
          stands = λ m. record {
            high = b.behind.high;
            under = λ k j. omega (arith, b.behind.under k j, b.behind.over g.end (le_refl g.end) m);
            over = λ k a j. s.order.first g.end k a j;
          };
        }

    name_more : named (energy_account energy) g.end [] ≡ energy_account energy i ∷ named (energy_account energy) i []
    name_more =
        let t = h.stands l in
        let name = energy_account energy in
        names_run name i g.end (group_moves b l) (λ k a j. omega (arith, b.behind.under k j, t.over k a (omega (arith, b.behind.high)))) (seen_none name i (name i) (λ k j z. omega (arith, t.under k j)))

  -- ---- what is made of them, a call for each

  module _ {T : Type 0} (post : T → ℕ → T → Type 0) (start : T) where
    -- x is made of the accounts whose rows come before row i
    pub record Making (i : ℕ) (x : T) : Type 0 where
      pub rows : Accounts i
      pub made : Made post (own_in_part p energy n) start (named (energy_account energy) i []) x

    pub making_start : Sorted energy n → Making 0 start
    unfolding named Made
    making_start s = record { rows = none_yet s; made = refl }

    -- the account of row i can be told
    pub making_calls : (pre : T → ℕ → Type 0) {i : ℕ} {x : T} {g : Group} → Sorted energy n → Adds p energy n pre post start → Making i x → i < n → GroupIs p energy n i g → pre x g.own
    making_calls pre {i} {x} {g} s a h l b =
        let few = s.few in
        rw b.own (a (named (energy_account energy) i []) (energy i).account x (omega (arith, length_named (energy_account energy) i [])) h.made)

    -- y is what was made with it
    pub making_more : {i : ℕ} {x y : T} {g : Group} → Sorted energy n → Making i x → i < n → GroupIs p energy n i g → post x g.own y → Making g.end y
    unfolding Made
    making_more {i} {x} {y} {g} s h l b q =
        record { rows = one_more s h.rows l b; made = rw (name_more s h.rows l b) (x, (h.made, rw b.own at q)) }

    pub making_end : {i : ℕ} {x : T} → (p.amount ≡ 0 → ⊥) → Making i x → i ≡ n → MadeOver p energy n post start x
    making_end {i} {x} d h e =
        record { nothing = λ z. absurd (d z); every = λ z. rw e at h.made }

    pub making_none : p.amount ≡ 0 → MadeOver p energy n post start start
    making_none e = record { nothing = λ z. refl; every = λ d. absurd (d e) }

  -- ---- their shares, summed

  -- at most 1,024 shares of at most the amount
  few_shares : Shareable p energy n → (l : List ℕ) → length l ≤ 1024 → sum_of (share_in p energy n) l ≤ 51_200_000_000_000
  few_shares h l few =
      omega (arith, h.small, le_trans (sum_bound (share_in p energy n) p.amount l (share_small p energy n h)) (mul-le-mul few (le_refl p.amount)))

  module _ (h : Shareable p energy n) {post : ℕ → ℕ → ℕ → Type 0} (adds : (x own y : ℕ) → own ≤ p.whole → post x own y → y ≡ x + round_n (p.amount * own) p.whole) where
    sum_made : (l : List ℕ) {x : ℕ} → Made post (own_in_part p energy n) 0 l x → x ≡ sum_of (share_in p energy n) l
    unfolding Made sum_of share_in
    sum_made [] e = e
    sum_made (a ∷ l) {x} (y, (m, q)) = adds y (own_in_part p energy n a) x (own_small p energy n h a) q ∙ rw (sum_made l m) (add_comm _ _)

    -- before the call of one account more
    pub sum_room : (l : List ℕ) (x : ℕ) → length l < 1024 → Made post (own_in_part p energy n) 0 l x → x ≤ 51_200_000_000_000
    sum_room l x few m = rw (sum_made l m) (few_shares h l (omega arith))

    pub sum_over : Sorted energy n → {x : ℕ} → MadeOver p energy n post 0 x → (x ≡ part_sum p energy n) × (x ≤ 51_200_000_000_000)
    unfolding part_sum
    sum_over s {x} m = by (eqb p.amount 0) refl
      where
        by : (t : Bool) → eqb p.amount 0 ≡ t → (x ≡ part_sum p energy n) × (x ≤ 51_200_000_000_000)
        by true e =
            let z = eqb-true p.amount 0 e in
            (m.nothing z ∙ sym (nothing_shared p energy n z), rw (m.nothing z) (omega arith))
        by false e =
            let few = s.few in
            let told = sum_made (named (energy_account energy) n []) (m.every (eqb-false p.amount 0 e)) in
            (told, rw told (few_shares h (named (energy_account energy) n []) (omega (arith, length_named (energy_account energy) n []))))

  -- ---- what was cut off them, summed

  -- each cuts off at most half of the whole
  few_cuts : Shareable p energy n → (l : List ℕ) → length l ≤ 1024 → nat_abs (sum_z (cut_in p energy n) l) ≤ 51_200_000_000
  unfolding cut_in
  few_cuts h l few =
      omega (arith, signed_halves (cut_in p energy n) 100_000_000 l (λ a. le_trans (cut_half (p.amount * own_in_part p energy n a) p.whole h.above) h.below), few)

  module _ (h : Shareable p energy n) {post : ℤ → ℕ → ℤ → Type 0} (adds : (x : ℤ) (own : ℕ) (y : ℤ) → own ≤ p.whole → post x own y → y ≡ x +ℤ cut_n (p.amount * own) p.whole) where
    cut_made : (l : List ℕ) {x : ℤ} → Made post (own_in_part p energy n) (pos 0) l x → x ≡ sum_z (cut_in p energy n) l
    unfolding Made sum_z cut_in
    cut_made [] e = e
    cut_made (a ∷ l) {x} (y, (m, q)) = adds y (own_in_part p energy n a) x (own_small p energy n h a) q ∙ rw (cut_made l m) (+ℤ_comm (sum_z (cut_in p energy n) l) (cut_n (p.amount * own_in_part p energy n a) p.whole))

    pub cut_room : (l : List ℕ) (x : ℤ) → length l < 1024 → Made post (own_in_part p energy n) (pos 0) l x → nat_abs x ≤ 51_200_000_000
    cut_room l x few m = rw (cut_made l m) (few_cuts h l (omega arith))

    pub cut_over : Sorted energy n → {x : ℤ} → MadeOver p energy n post (pos 0) x → (x ≡ part_cut p energy n) × (nat_abs x ≤ 51_200_000_000)
    unfolding part_cut
    cut_over s {x} m = by (eqb p.amount 0) refl
      where
        by : (t : Bool) → eqb p.amount 0 ≡ t → (x ≡ part_cut p energy n) × (nat_abs x ≤ 51_200_000_000)
        by true e =
            let z = eqb-true p.amount 0 e in
            (m.nothing z ∙ sym (nothing_cut p energy n z), rw (m.nothing z) (omega arith))
        by false e =
            let few = s.few in
            let told = cut_made (named (energy_account energy) n []) (m.every (eqb-false p.amount 0 e)) in
            (told, rw told (few_cuts h (named (energy_account energy) n []) (omega (arith, length_named (energy_account energy) n []))))
