-- What the roundings of a stage cut off, from all accounts' own rows to what one pass over the book's rows meets: sums over all accounts count each
-- row once. Assumes nothing.
use Prim.Native.Nat.{ℕ, ◌-◌, ◌*◌, ◌≤◌, ◌<◌, ◌^◌}
use mathlib.Core.Path.{◌≡◌, refl, sym, ap, ap₂, ◌∙◌}
use mathlib.Core.Bool.{Bool, true, false, cond}
use native.Mathlib.Omega.{arith}
use lib.Dec.{eqb}
use lib.IntN.{ℤ, pos, ◌+ℤ◌, ◌-ℤ◌, ◌*ℤ◌}
use Rattle.numbers.specs.Round.{round_n, cut_n}
use Rattle.numbers.specs.Sign.{less}
use Rattle.numbers.proofs.Rounding.{exact, round_share}
use Rattle.numbers.proofs.Ring.{left_over}
use Rattle.ground.specs.Units.{million}
use Rattle.sections.specs.Total.{keyed}
use Rattle.market.specs.Kinds.{mode_with}
use Rattle.records.specs.declared.rows.Constraint.{Constraint}
use Rattle.records.specs.declared.rows.UnitRow.{UnitRow}
use Rattle.records.specs.declared.rows.Contract.{Contract}
use Rattle.locking.specs.Locking.{pick}
use Rattle.locking.specs.declared.Source.{Source}
use Rattle.locking.specs.declared.Source.TheVariants.{Current, Locked}
use Rattle.book.specs.Book.{Book}
use Rattle.book.specs.Inner.Accepted.{Sound, Promise}
use Rattle.amounts.specs.Pools.{pools_by_mode, pools_of, pool_cuts_by_mode}
use Rattle.amounts.specs.Shares.{cut_by_energy}
use Rattle.accounts.specs.Rows.{sum_of, sum_z}
use Rattle.accounts.specs.Account.{rows_of_account}
use Rattle.accounts.specs.Inner.Energies.{energies_of}
use Rattle.accounts.proofs.Lists.{total_rows}
use Rattle.sharing.specs.Inner.Shares.{cut_in, part_cut}
use Rattle.sharing.specs.declared.shares.Part.{Part}
use Rattle.sharing.proofs.Sums.{sum_less, signed_same, signed_minus}
use Rattle.sharing.proofs.Everyone.{cut_everyone}
use Rattle.recovery.specs.ByKind.{above_by, below_by, pool_by}
use Rattle.recovery.specs.Inner.Shapes.{cut_above, unit_cut_above, unit_cut_below, part_of, consumed_part, sent_part, shared_cut}
use Rattle.recovery.specs.declared.kinds.Kind.{Kind}
use Rattle.recovery.specs.declared.kinds.Kind.TheVariants.{Fpp, Used, Unused}
use Rattle.recovery.proofs.UnitTurns.{cut_is}
use Rattle.balance.specs.Balance.{accounts_of}
use Rattle.balance.proofs.Own.{own_in, rows_constraint, rows_region}
use Rattle.balance.proofs.PoolLines.{own_units}
use Rattle.balance.proofs.Balances.{unit_rows_once, once_in}
use Rattle.cutoffs.specs.Cutoffs.{own_over, total_over, shares_cut, pool_stage, unit_cut, unit_stage, ace_stage, asoe_stage}

-- ---- a factored constraint's pools: rounded, times the divisor, and what was cut off make the exact number

module _ (r : Constraint) (m : r.mode ≡ 1) where
  -- FPP
  pub fpp_exact : pos (pools_of r).fpp *ℤ pos 120 +ℤ (pool_stage r Fpp).cut ≡ pos (r.price * r.rcr)
  unfolding mode_with pools_by_mode pool_cuts_by_mode pool_stage
  fpp_exact = rw m (exact (pos (r.price * r.rcr)) 120)

  -- used
  pub used_exact : pos (pools_of r).used *ℤ pos million +ℤ (pool_stage r Used).cut ≡ pos (r.cost * r.usage)
  unfolding mode_with pools_by_mode pool_cuts_by_mode pool_stage
  used_exact = rw m (exact (pos (r.cost * r.usage)) million)

  -- unused has more what used has less
  pub unused_exact : r.usage ≤ million → pos (pools_of r).unused *ℤ pos million +ℤ (pool_stage r Unused).cut ≡ less (r.cost * million) (r.cost * r.usage)
  unfolding mode_with pools_by_mode pool_cuts_by_mode pool_stage
  unused_exact l =
      let used = round_n (r.cost * r.usage) million in
      rw m
      (left_over ((r.cost - used) * million) (r.cost * r.usage) (used * million) (r.cost * million) (r.cost * r.usage)
      (omega (arith, round_share r.cost r.usage million l)))

-- ---- an accepted book

-- a number with a sign, or none
choice_sides : (t : Bool) (z : ℤ) (x y : ℕ) → z ≡ less x y → cond t z (pos 0) ≡ less (cond t x 0) (cond t y 0)
choice_sides true z x y e = e
choice_sides false z x y e = refl

-- an account's own unit rows, as they stand in the book
own_units_lem : (B : Book) (a id : ℕ) (f : UnitRow → ℕ) → sum_of (λ q. cond (eqb q.constraint id) (f q) 0) (rows_of_account B a).units ≡ own_units B a id f
unfolding own_units keyed rows_of_account
own_units_lem B a id f =
    sym (total_rows B.unit (λ r. eqb r.account a) (λ q. cond (eqb q.constraint id) (f q) 0) _ (λ i. refl) B.header.units)

module _ {B L : Book} (p : Promise B L) where
  -- the shares of an amount, credit - charge
  pub shares_cut_lem : (r : Constraint) (credit charge : ℕ) → shares_cut B L r credit charge ≡ shared_cut (energies_of B) r credit -ℤ shared_cut (energies_of B) r charge
  unfolding shares_cut own_over cut_by_energy cut_in part_of
  shares_cut_lem r credit charge =
      let cut : ℕ → ℕ → ℤ = λ amount. cut_in (part_of B.entry r amount) B.energy B.header.energies in
      signed_same _ (λ a. cut credit a -ℤ cut charge a) (accounts_of B L)
      (λ a. ap₂ (λ (x y : ℕ). cut_n (credit * x) (total_over B r) -ℤ cut_n (charge * y) (total_over B r)) (rows_constraint p.sound a r credit) (rows_constraint p.sound a r charge))
      ∙ signed_minus (cut credit) (cut charge) (accounts_of B L)
      ∙ sym
      (ap₂ ◌-ℤ◌
      (cut_everyone (part_of B.entry r credit) B.energy B.header.energies (accounts_of B L) (once_in B L Current))
      (cut_everyone (part_of B.entry r charge) B.energy B.header.energies (accounts_of B L) (once_in B L Current)))

  -- the unit rows, each counted once
  pub units_cut : (r : Constraint) (kind : Kind)
      → (unit_stage B L r kind).cut ≡ less (unit_cut_above B.unit B.header.units r.id kind (pool_by kind (pools_of r))) (unit_cut_below B.unit B.header.units r.id kind (pool_by kind (pools_of r)))
  unfolding unit_stage unit_cut unit_cut_above unit_cut_below
  units_cut r kind =
      let pool = pool_by kind (pools_of r) in
      let up : UnitRow → ℕ = λ q. cut_above pool (above_by kind q) (below_by kind q) in
      let down : UnitRow → ℕ = λ q. cut_above pool (below_by kind q) (above_by kind q) in
      sum_less _ (λ a. own_units B a r.id up) (λ a. own_units B a r.id down) (accounts_of B L)
      (λ a. sum_less (unit_cut r kind) (λ q. cond (eqb q.constraint r.id) (up q) 0) (λ q. cond (eqb q.constraint r.id) (down q) 0) (rows_of_account B a).units (λ q. choice_sides (eqb q.constraint r.id) _ _ _ (cut_is pool (above_by kind q) (below_by kind q)))
      ∙ ap₂ less (own_units_lem B a r.id up) (own_units_lem B a r.id down))
      ∙ ap₂ less (unit_rows_once B L r.id up) (unit_rows_once B L r.id down)

  -- ---- a contract, by the book that settles it

  -- either book is sound
  pub sound_in : (s : Source) → Sound (pick s B L)
  sound_in Current = p.sound
  sound_in Locked = p.locked

  -- what the shares of a half in region g cut off
  pub half_cut : (s : Source) (x : Part) (g : ℕ) → g < 5 → x.mask ≡ 2 ^ g
      → sum_z (λ a. cut_n (x.amount * own_in (pick s B L) x g a) x.whole) (accounts_of B L) ≡ part_cut x (pick s B L).energy (pick s B L).header.energies
  unfolding cut_in
  half_cut s x g l m =
      signed_same _ (cut_in x (pick s B L).energy (pick s B L).header.energies) (accounts_of B L)
      (λ a. ap (λ (t : ℕ). cut_n (x.amount * t) x.whole) (rows_region (sound_in s) a x g l m))
      ∙ sym (cut_everyone x (pick s B L).energy (pick s B L).header.energies (accounts_of B L) (once_in B L s))

  module _ (s : Source) (k : Contract) (g : ℕ) (l : g < 5) where
    -- the lines by ACE, and by ASOE
    pub ace_cut : (ace_stage (pick s B L) (accounts_of B L) k g).cut ≡ part_cut (consumed_part (pick s B L).entry k g) (pick s B L).energy (pick s B L).header.energies
    unfolding ace_stage consumed_part
    ace_cut = half_cut s (consumed_part (pick s B L).entry k g) g l refl

    pub asoe_cut : (asoe_stage (pick s B L) (accounts_of B L) k g).cut ≡ part_cut (sent_part (pick s B L).entry k g) (pick s B L).energy (pick s B L).header.energies
    unfolding asoe_stage sent_part
    asoe_cut = half_cut s (sent_part (pick s B L).entry k g) g l refl
