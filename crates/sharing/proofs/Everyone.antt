-- All accounts of a book, and of two: who they are, each once, and that sums over them count each row once. Assumes nothing.
use Prim.Native.Nat.{ℕ, ◌+◌, ◌*◌, ◌≤◌}
use mathlib.Core.Path.{◌≡◌, refl, ◌∙◌, sym, ap, ap₂}
use mathlib.Core.List.{List, []}
use mathlib.Core.Bool.{Bool, true, false, cond, not, ◌&&◌, ◌||◌, or-true, or-false}
use native.Mathlib.Omega.{arith}
use native.Mathlib.Nat.{mul-zero, zero-mul}
use lib.Dec.{eqb}
use lib.IntN.{pos}
use lib.ListN.{length}
use Rattle.numbers.specs.Round.{round_n}
use Rattle.numbers.specs.Sign.{less}
use Rattle.numbers.proofs.Rounding.{share_nothing, round_zero, cut_none}
use Rattle.sections.specs.Total.{total}
use Rattle.sections.specs.Search.{some}
use Rattle.sections.proofs.Cases.{zero_one}
use Rattle.sections.proofs.Total.{total_zero}
use Rattle.records.specs.declared.rows.UnitRow.{UnitRow}
use Rattle.records.specs.declared.rows.EnergyRow.{EnergyRow}
use Rattle.book.specs.Book.{Book}
use Rattle.accounts.specs.Rows.{sum_of, sum_z, none}
use Rattle.accounts.specs.Account.{rows_of_account, locked_of, unknown, unnamed}
use Rattle.accounts.proofs.Lists.{some_rows}
use Rattle.sharing.specs.Once.{has, named, times}
use Rattle.sharing.specs.Inner.Seen.{seen}
use Rattle.sharing.specs.Accounts.{energy_account, unit_account, accounts_with, accounts_in}
use Rattle.sharing.specs.Inner.Shares.{energy_in, own_in_part, share_in, part_sum, cut_in, part_cut, Shareable}
use Rattle.sharing.specs.declared.shares.Part.{Part}
use Rattle.sharing.proofs.Sums.{sum_same, sum_none, sum_times, times_sum, sum_less, signed_none}
use Rattle.sharing.proofs.Once.{seen_each, unseen_each, has_named, once_named, once_none, length_named, sum_each, named_known, EachOnce, names_once, sum_once}

-- ---- the accounts

module _ (energy : ℕ → EnergyRow) (n : ℕ) (unit : ℕ → UnitRow) (m : ℕ) where
  -- an account is one that a unit row or an energy row names
  pub is_account : (a : ℕ) → has a (accounts_in energy n unit m) ≡ (some (λ u. eqb (unit u).account a) m || some (λ i. eqb (energy i).account a) n)
  unfolding accounts_in has seen
  is_account a =
      rw (has_named (unit_account unit) m (named (energy_account energy) n []) a, has_named (energy_account energy) n [] a, or-false)

  is_seen : (a : ℕ) → has a (accounts_in energy n unit m) ≡ (seen (unit_account unit) m a || seen (energy_account energy) n a)
  unfolding seen
  is_seen a = is_account a

  -- and stands among them once
  pub stands_once : (a : ℕ) → times a (accounts_in energy n unit m) ≡ cond (has a (accounts_in energy n unit m)) 1 0
  unfolding accounts_in
  stands_once = once_named (unit_account unit) m _ (once_named (energy_account energy) n [] once_none)

  -- there are at most as many as rows
  pub accounts_few : length (accounts_in energy n unit m) ≤ m + n
  unfolding accounts_in
  accounts_few =
      omega (arith, length_named (unit_account unit) m (named (energy_account energy) n []), length_named (energy_account energy) n [])

-- ---- of two books, the second of which is the one that test payments are settled by

module _ (energy : ℕ → EnergyRow) (n : ℕ) (unit : ℕ → UnitRow) (m : ℕ) (energy' : ℕ → EnergyRow) (n' : ℕ) (unit' : ℕ → UnitRow) (m' : ℕ) where
  abbrev both : List ℕ
  both = accounts_with energy' n' unit' m' (accounts_in energy n unit m)

  -- an account is one that a row of either names
  is_either : (a : ℕ) → has a both ≡ (seen (unit_account unit') m' a || (seen (energy_account energy') n' a || has a (accounts_in energy n unit m)))
  is_either a = rw (has_named (unit_account unit') m' (named (energy_account energy') n' (accounts_in energy n unit m)) a, has_named (energy_account energy') n' (accounts_in energy n unit m) a)

  -- and stands among them once
  pub either_once : (a : ℕ) → times a both ≡ cond (has a both) 1 0
  either_once = once_named (unit_account unit') m' _ (once_named (energy_account energy') n' _ (stands_once energy n unit m))

  -- each row's account does
  pub energies_once : EachOnce (energy_account energy) n both
  unfolding seen
  energies_once = record { once = λ a e. either_once a ∙ rw (is_either a, is_account energy n unit m a, e, or-true, or-true, or-true) }

  pub units_once : EachOnce (unit_account unit) m both
  unfolding seen
  units_once = record { once = λ a e. either_once a ∙ rw (is_either a, is_account energy n unit m a, e, or-true, or-true) }

  pub locked_energies_once : EachOnce (energy_account energy') n' both
  locked_energies_once = record { once = λ a e. either_once a ∙ rw (is_either a, e, or-true) }

-- a book beside itself names no other account
pub same_accounts : (energy : ℕ → EnergyRow) (n : ℕ) (unit : ℕ → UnitRow) (m : ℕ) → accounts_with energy n unit m (accounts_in energy n unit m) ≡ accounts_in energy n unit m
unfolding seen
same_accounts energy n unit m =
    ap (named (unit_account unit) m) (named_known (energy_account energy) n _ (λ k l. rw (is_account energy n unit m (energy k).account, seen_each (energy_account energy) n k l, or-true)))
    ∙ named_known (unit_account unit) m _ (λ k l. rw (is_account energy n unit m (unit k).account, seen_each (unit_account unit) m k l))

-- the accounts are those that 11 lets pass
pub let_pass : (B : Book) (a : ℕ) → has a (accounts_in B.energy B.header.energies B.unit B.header.units) ≡ not (unknown (rows_of_account B a))
unfolding rows_of_account
let_pass B a =
    is_account B.energy B.header.energies B.unit B.header.units a
    ∙ rw (some_rows B.unit (λ r. eqb r.account a) B.header.units, some_rows B.energy (λ r. eqb r.account a) B.header.energies) (by (none (rows_of_account B a).units) (none (rows_of_account B a).energies))
  where
    by : (s t : Bool) → (not s || not t) ≡ not (s && t)
    by true t = refl
    by false t = refl

-- nor of two books any other
pub either_passes : (B L : Book) (a : ℕ) → has a (accounts_with L.energy L.header.energies L.unit L.header.units (accounts_in B.energy B.header.energies B.unit B.header.units)) ≡ not (unnamed (rows_of_account B a) (locked_of L a))
unfolding locked_of
either_passes B L a =
    is_either B.energy B.header.energies B.unit B.header.units L.energy L.header.energies L.unit L.header.units a
    ∙ by (seen (unit_account L.unit) L.header.units a) (seen (energy_account L.energy) L.header.energies a) _ (unknown (rows_of_account B a)) (unknown (rows_of_account L a)) named_there (let_pass B a)
  where
    named_there : (seen (unit_account L.unit) L.header.units a || seen (energy_account L.energy) L.header.energies a) ≡ not (unknown (rows_of_account L a))
    named_there = sym (is_seen L.energy L.header.energies L.unit L.header.units a) ∙ let_pass L a

    by : (u e x y z : Bool) → (u || e) ≡ not z → x ≡ not y → (u || (e || x)) ≡ not (y && z)
    by true e x y true p q = absurd (zero_one cc)
    by true e x true false p q = refl
    by true e x false false p q = refl
    by false true x y true p q = absurd (zero_one cc)
    by false true x true false p q = refl
    by false true x false false p q = refl
    by false false x true true p q = q
    by false false x false true p q = q
    by false false x y false p q = absurd (zero_one cc)

-- ---- shares

-- a share of what is there or not is there or not
pub share_choice : (amount whole : ℕ) (t : Bool) (own : ℕ) → round_n (amount * cond t own 0) whole ≡ cond t (round_n (amount * own) whole) 0
share_choice amount whole true own = refl
share_choice amount whole false own = sym (share_nothing amount whole refl)

module _ (p : Part) (energy : ℕ → EnergyRow) (n : ℕ) where
  -- who is in no energy row has no energy
  own_none : (a : ℕ) → seen (energy_account energy) n a ≡ false → own_in_part p energy n a ≡ 0
  unfolding own_in_part
  own_none a e = sym (total_zero _ n (λ k l. rw (unseen_each (energy_account energy) n a e k l)))

  -- and a share of 0
  share_none : (a : ℕ) → seen (energy_account energy) n a ≡ false → share_in p energy n a ≡ 0
  unfolding share_in
  share_none a e = sym (share_nothing p.amount p.whole (own_none a e))

  -- of nothing all shares are 0, and nothing is cut off
  pub nothing_shared : p.amount ≡ 0 → part_sum p energy n ≡ 0
  unfolding part_sum share_in
  nothing_shared e = sum_same _ (λ a. 0) _ (λ a. rw (e, zero-mul) (round_zero p.whole)) ∙ sum_none _

  pub nothing_cut : p.amount ≡ 0 → part_cut p energy n ≡ pos 0
  unfolding part_cut cut_in
  nothing_cut e = signed_none _ _ (λ a. rw (e, zero-mul) (cut_none p.whole))

  -- what the shares of any accounts cut off: exact less rounded
  cuts_apart : (l : List ℕ) → sum_z (cut_in p energy n) l ≡ less (sum_of (λ a. p.amount * own_in_part p energy n a) l) (sum_of (λ a. share_in p energy n a * p.whole) l)
  unfolding cut_in share_in
  cuts_apart l = sum_less _ (λ a. p.amount * own_in_part p energy n a) _ l (λ a. refl)

  -- of any list in which each account of an energy row stands once
  module _ (all : List ℕ) (o : EachOnce (energy_account energy) n all) where
    -- the shares are those of the accounts that energy rows name
    pub part_everyone : part_sum p energy n ≡ sum_of (share_in p energy n) all
    unfolding part_sum
    part_everyone = sym (sum_once (share_in p energy n) (energy_account energy) n share_none all o)

    -- and their own energy makes the whole
    pub own_sum_lem : sum_of (own_in_part p energy n) all ≡ total (λ i. energy_in p (energy i)) n
    unfolding own_in_part
    own_sum_lem = sum_each (energy_account energy) (λ i. energy_in p (energy i)) all n (λ k l. o.once (energy k).account (seen_each (energy_account energy) n k l))

    -- what the shares cut off is what those of the accounts that energy rows name do
    pub cut_everyone : part_cut p energy n ≡ sum_z (cut_in p energy n) all
    unfolding part_cut
    cut_everyone =
        cuts_apart (named (energy_account energy) n [])
        ∙ sym
        (cuts_apart all
        ∙ ap₂ less
        (sum_once (λ a. p.amount * own_in_part p energy n a) (energy_account energy) n (λ a e. rw (own_none a e) (mul-zero p.amount)) all o)
        (sum_once (λ a. share_in p energy n a * p.whole) (energy_account energy) n (λ a e. rw (share_none a e) (zero-mul p.whole)) all o))

  -- where the rows make the whole, it is the amount less what all accounts share of it
  pub part_cut_is : Shareable p energy n → part_cut p energy n ≡ less (p.amount * p.whole) (part_sum p energy n * p.whole)
  unfolding part_cut part_sum
  part_cut_is h =
      let names = named (energy_account energy) n [] in
      cuts_apart names
      ∙ ap₂ less
      (sum_times p.amount (own_in_part p energy n) names ∙ ap (λ (t : ℕ). p.amount * t) (own_sum_lem names (names_once (energy_account energy) n) ∙ sym h.whole))
      (times_sum (share_in p energy n) p.whole names)

-- unit rows likewise, each counted once
pub each_once_unit : (unit : ℕ → UnitRow) (m : ℕ) (all : List ℕ) → EachOnce (unit_account unit) m all → (f : ℕ → ℕ) → sum_of (λ a. total (λ u. cond (eqb (unit u).account a) (f u) 0) m) all ≡ total f m
each_once_unit unit m all o f = sum_each (unit_account unit) f all m (λ k l. o.once (unit k).account (seen_each (unit_account unit) m k l))
