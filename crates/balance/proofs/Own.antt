-- An account's own energy by region, and over the regions of a part: what the part counts of the account's rows. Assumes nothing.
use Prim.Native.Nat.{ℕ, ◌<◌, ◌^◌}
use mathlib.Core.Path.{◌≡◌, refl, sym, ap, ◌∙◌}
use mathlib.Core.Bool.{cond}
use lib.Dec.{eqb}
use lib.ListN.{get_or}
use Rattle.sections.specs.Total.{keyed, total_of}
use Rattle.market.specs.declared.Basis.{Basis}
use Rattle.market.specs.declared.Basis.TheVariants.{Ace, Asoe, Residual}
use Rattle.records.specs.declared.rows.Entry.{Entry}
use Rattle.records.specs.declared.rows.Constraint.{Constraint}
use Rattle.totals.specs.Sums.{entry_by, row_by, region_of}
use Rattle.totals.specs.Divisors.{counted_in, over_regions}
use Rattle.totals.specs.Inner.Totals.{entry_of}
use Rattle.totals.specs.declared.entries.Totals.{Totals}
use Rattle.sections.proofs.Cases.{five}
use Rattle.sections.proofs.Total.{total_same}
use Rattle.totals.proofs.Turns.{entry_with_lem, entries_are}
use Rattle.book.specs.Book.{Book}
use Rattle.book.specs.Inner.Accepted.{Sound}
use Rattle.accounts.specs.Rows.{rows_of}
use Rattle.accounts.specs.Account.{rows_of_account, own_by, own_energy}
use Rattle.accounts.proofs.Lists.{total_rows}
use Rattle.sharing.specs.Inner.Shares.{own_in_part}
use Rattle.sharing.specs.declared.shares.Part.{Part}
use Rattle.recovery.specs.Inner.Shapes.{part_of}
use Rattle.recovery.proofs.Energy.{choices, Counted, constraint_energy, region_energy}

-- the energy of the account's rows in region g
unfoldable pub own_total_by : Book → ℕ → Basis → ℕ → ℕ
own_total_by B a b g = total_of (region_of B.energy) g (λ i. cond (eqb (B.energy i).account a) (row_by b (B.energy i)) 0) B.header.energies

-- of each kind, region by region
unfoldable pub own_of : Book → ℕ → Totals
own_of B a = record { ace = rows_of (own_total_by B a Ace) 5; asoe = rows_of (own_total_by B a Asoe) 5; residual = rows_of (own_total_by B a Residual) 5 }

-- the one of five numbers at a place
five_rows : (f : ℕ → ℕ) (g : ℕ) → g < 5 → get_or (rows_of f 5) g 0 ≡ f g
unfolding rows_of
five_rows f = five (λ g. get_or (rows_of f 5) g 0 ≡ f g) refl refl refl refl refl

module _ (B : Book) (a : ℕ) where
  -- it is that of the account's own rows
  own_rows_lem : (b : Basis) (g : ℕ) → own_total_by B a b g ≡ own_by (rows_of_account B a).energies g b
  unfolding own_total_by keyed rows_of_account
  own_rows_lem b g =
      total_rows B.energy (λ r. eqb r.account a) (λ r. cond (eqb r.region g) (row_by b r) 0) _
      (λ i. choices (eqb (B.energy i).region g) (eqb (B.energy i).account a) (row_by b (B.energy i)))
      B.header.energies

  own_sum_lem : (b : Basis) (g : ℕ) → g < 5 → entry_by b (entry_of (own_of B a) g) ≡ own_total_by B a b g
  unfolding own_of
  own_sum_lem Ace = five_rows (own_total_by B a Ace)
  own_sum_lem Asoe = five_rows (own_total_by B a Asoe)
  own_sum_lem Residual = five_rows (own_total_by B a Residual)

  pub own_entry : (g : ℕ) → g < 5 → entry_of (own_of B a) g ≡ own_energy (rows_of_account B a).energies g
  unfolding own_energy
  own_entry g l = entries_are _ _ (λ b. own_sum_lem b g l ∙ own_rows_lem b g ∙ sym (entry_with_lem (own_by (rows_of_account B a).energies g) b))

  own_counted : Sound B → Counted B.energy B.header.energies (λ i. eqb (B.energy i).account a) (entry_of (own_of B a))
  unfolding own_total_by
  own_counted p = record { low = λ i l. (p.fields.energies i l).region; sums = own_sum_lem }

-- the energy in region g by which the account of this number shares a part
abbrev pub own_in : Book → Part → ℕ → ℕ → ℕ
own_in B x g a = entry_by x.basis (own_energy (rows_of_account B a).energies g)

module _ {B : Book} (p : Sound B) (a : ℕ) where
  -- over a constraint's regions
  pub own_constraint : (r : Constraint) (amount : ℕ) → over_regions (entry_of (own_of B a)) r ≡ own_in_part (part_of B.entry r amount) B.energy B.header.energies a
  unfolding own_in_part
  own_constraint r amount = constraint_energy (own_counted B a p) B.entry r amount

  -- in one region
  pub own_region : (x : Part) (g : ℕ) → g < 5 → x.mask ≡ 2 ^ g → entry_by x.basis (entry_of (own_of B a) g) ≡ own_in_part x B.energy B.header.energies a
  unfolding own_in_part
  own_region x g l m = region_energy (own_counted B a p) x g l m

  -- the same of the account's own rows
  pub rows_constraint : (r : Constraint) (amount : ℕ) → over_regions (own_energy (rows_of_account B a).energies) r ≡ own_in_part (part_of B.entry r amount) B.energy B.header.energies a
  rows_constraint r amount = total_same _ _ 5 (λ g l. ap (λ (x : Entry). counted_in r x g) (sym (own_entry B a g l))) ∙ own_constraint r amount

  pub rows_region : (x : Part) (g : ℕ) → g < 5 → x.mask ≡ 2 ^ g → own_in B x g a ≡ own_in_part x B.energy B.header.energies a
  rows_region x g l m = ap (entry_by x.basis) (sym (own_entry B a g l)) ∙ own_region x g l m
