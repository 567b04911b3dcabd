-- The region sums turn by turn, the test of an entry, and the sum over a mask. Assumes nothing.
use Prim.Native.Nat.{ℕ, ◌+◌, ◌≤◌, ◌<◌}
use mathlib.Core.Path.{◌≡◌, refl, sym, ap, ◌∙◌}
use mathlib.Core.Bool.{Bool, true, false, cond}
use mathlib.Core.List.{List}
use native.Mathlib.Omega.{arith}
use native.Mathlib.Nat.{not-suc-le-zero, le_trans}
use lib.ListN.{length, get_or, replicate}
use lib.Seq.{ext_get_or}
use Rattle.sections.proofs.Total.{total_same}
use Rattle.sections.proofs.Groups.{split_nothing, split_more, split_bound}
use Rattle.market.specs.Kinds.{basis_of, bit_set}
use Rattle.market.specs.declared.Basis.{Basis}
use Rattle.market.specs.declared.Basis.TheVariants.{Ace, Asoe, Residual}
use Rattle.market.proofs.Bases.{each_basis}
use Rattle.rules.specs.Inner.Facts.{EntryRule, EnergyRule}
use Rattle.records.specs.declared.rows.Entry.{Entry}
use Rattle.records.specs.declared.rows.Constraint.{Constraint}
use Rattle.records.specs.declared.rows.EnergyRow.{EnergyRow}
use Rattle.totals.specs.Sums.{entry_by, row_by, entry_with, entry_is, entry_has_sums}
use Rattle.totals.specs.Divisors.{counted_in, over_regions}
use Rattle.totals.specs.Inner.Totals.{sums_by, Five, sum_at, entry_of}
use Rattle.totals.specs.Inner.Turns.{SumsOf, TotalsOf, SumRoom, with_more, Added}
use Rattle.totals.specs.declared.entries.Totals.{Totals}

-- no second totals have the same entry in each of the five regions
same_five : (xs ys : List ℕ) → length xs ≡ 5 → length ys ≡ 5 → ((g : ℕ) → g < 5 → get_or xs g 0 ≡ get_or ys g 0) → xs ≡ ys
same_five xs ys m n e = ext_get_or 0 xs ys (m ∙ sym n) (λ g l. e g (rw m at l))

-- the number of a kind in an entry that has one of each
pub entry_with_lem : (f : Basis → ℕ) (b : Basis) → entry_by b (entry_with f) ≡ f b
entry_with_lem f Ace = refl
entry_with_lem f Asoe = refl
entry_with_lem f Residual = refl

-- totals are their three lists
pub totals_are : (t x : Totals) → ((b : Basis) → sums_by b t ≡ sums_by b x) → t ≡ x
totals_are t x e = λ j. record { ace = e Ace j; asoe = e Asoe j; residual = e Residual j }

pub totals_once : (t x : Totals) → Five t → Five x → ((g : ℕ) → g < 5 → entry_of t g ≡ entry_of x g) → t ≡ x
totals_once t x m n e = totals_are t x same
  where
    same : (b : Basis) → sums_by b t ≡ sums_by b x
    same b = same_five (sums_by b t) (sums_by b x) (m.each b) (n.each b) (λ g l. sym (entry_with_lem (sum_at t g) b) ∙ ap (entry_by b) (e g l) ∙ entry_with_lem (sum_at x g) b)

-- two entries are the same where their energies are, of each kind
pub entries_are : (e x : Entry) → ((b : Basis) → entry_by b e ≡ entry_by b x) → e ≡ x
entries_are e x h = λ j. record { ace = h Ace j; asoe = h Asoe j; residual = h Residual j }

-- one row more in its region's sums
pub added : (t x : Totals) (g : ℕ) (r : EnergyRow) → x.ace ≡ with_more t.ace g r.ace → x.asoe ≡ with_more t.asoe g r.asoe → x.residual ≡ with_more t.residual g (r.race + r.rasoe) → Added t g r x
added t x g r a o e = record { each = each_basis (λ b. sums_by b x ≡ with_more (sums_by b t) g (row_by b r)) a o e }

-- a row that keeps its rules is small, of each kind
pub row_small : (b : Basis) (r : EnergyRow) → EnergyRule r → row_by b r ≤ 40_000_000
row_small Ace r h = omega (arith, h.ace)
row_small Asoe r h = omega (arith, h.asoe)
row_small Residual r h = omega arith

-- an entry that keeps its rule is small, of each kind
pub entry_small : (b : Basis) (e : Entry) → EntryRule e → entry_by b e ≤ 20_000_000
entry_small Ace e h = h.ace
entry_small Asoe e h = h.asoe
entry_small Residual e h = h.residual

-- and so is one whose energies are no larger
pub under_rule : {e x : Entry} → ((b : Basis) → entry_by b x ≤ entry_by b e) → EntryRule e → EntryRule x
under_rule h r = record { ace = le_trans (h Ace) r.ace; asoe = le_trans (h Asoe) r.asoe; residual = le_trans (h Residual) r.residual }

module _ (energy : ℕ → EnergyRow) (counts : Basis → ℕ → ℕ) where
  -- before the rows that count there is nothing to add
  pub sums_nothing : (i : ℕ) → ((b : Basis) (j : ℕ) → j < i → counts b j ≡ 0) → SumsOf energy counts i (record { ace = replicate 5 0; asoe = replicate 5 0; residual = replicate 5 0 })
  sums_nothing i z = record { each = each_basis _ (split_nothing _ _ 5 i (z Ace)) (split_nothing _ _ 5 i (z Asoe)) (split_nothing _ _ 5 i (z Residual)) }

  -- a turn: row i counts as r does, g is its region, and x has the sums with it
  pub sums_more : (i : ℕ) {t x : Totals} {g : ℕ} {r : EnergyRow} → SumsOf energy counts i t → g ≡ (energy i).region → g < 5 → ((b : Basis) → row_by b r ≡ counts b i) → Added t g r x → SumsOf energy counts (i + 1) x
  sums_more i h q l e p = record { each = λ b. rw (p.each b) (split_more _ _ 5 i (h.each b) q l (e b)) }

  -- the sums of at most 1,024 rows have room for one more
  pub sums_room : (i : ℕ) {t : Totals} → i ≤ 1024 → ((b : Basis) (j : ℕ) → j < i → counts b j ≤ 8_589_934_590) → SumsOf energy counts i t → (g : ℕ) → g < 5 → SumRoom t g
  sums_room i few s h g l = record { each = λ b. omega (arith, split_bound _ _ 5 8_589_934_590 i (s b) i (h.each b) (omega arith) g l) }

module _ (energy : ℕ → EnergyRow) where
  pub totals_none : TotalsOf energy 0 (record { ace = replicate 5 0; asoe = replicate 5 0; residual = replicate 5 0 })
  totals_none = sums_nothing energy _ 0 (λ b j l. absurd (not-suc-le-zero l))

  -- a turn: r is row i, g its region, and x the sums with it
  pub totals_more : (i : ℕ) {t x : Totals} {g : ℕ} {r : EnergyRow} → TotalsOf energy i t → r ≡ energy i → g ≡ r.region → g < 5 → Added t g r x → TotalsOf energy (i + 1) x
  totals_more i h e q l p = sums_more energy _ i h (q ∙ ap (λ (r : EnergyRow). r.region) e) l (λ b. ap (row_by b) e) p

  -- rows that keep their rules: there is room for row i
  pub totals_room : (n i : ℕ) {t : Totals} → n ≤ 1024 → ((i : ℕ) → i < n → EnergyRule (energy i)) → i < n → TotalsOf energy i t → ((energy i).region < 5) × SumRoom t (energy i).region
  totals_room n i few q l h =
      let b : (energy i).region < 5 = omega (arith, (q i l).region) in
      (b, sums_room energy _ i (omega arith) (λ b j m. omega (arith, row_small b (energy j) (q j (omega arith)))) h (energy i).region b)

  -- the test of an entry against the sums is the rule
  pub entry_is_at : (n : ℕ) (entry : ℕ → Entry) (g : ℕ) {e : Entry} {t : Totals} {b : Bool} → TotalsOf energy n t → g < 5 → e ≡ entry g → b ≡ entry_is e (sum_at t g) → b ≡ entry_has_sums energy n entry g
  unfolding entry_has_sums
  entry_is_at n entry g h l e q = q ∙ rw ((h.each Ace).each g l, (h.each Asoe).each g l, (h.each Residual).each g l, e)

pub share_small : (r : Constraint) (e : Entry) (g : ℕ) → EntryRule e → counted_in r e g ≤ 20_000_000
unfolding counted_in
share_small r e g h = by (bit_set r.mask g)
  where
    by : (t : Bool) → cond t (entry_by (basis_of r.service) e) 0 ≤ 20_000_000
    by true = entry_small (basis_of r.service) e h
    by false = omega arith

-- a total to divide by depends on the five entries alone
pub divisor_same : (f h : ℕ → Entry) (r : Constraint) → ((g : ℕ) → g < 5 → f g ≡ h g) → over_regions f r ≡ over_regions h r
divisor_same f h r e = total_same _ _ 5 (λ g l. ap (λ (x : Entry). counted_in r x g) (e g l))
