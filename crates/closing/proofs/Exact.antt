-- Each stage on its own: rounded, times the divisor, and what was cut off make the exact number. Assumes nothing.
use Prim.Native.Nat.{ℕ, ◌+◌, ◌-◌, ◌*◌, ◌/◌, ◌<◌, ◌^◌}
use mathlib.Core.Path.{◌≡◌, refl, sym, ap, ◌∙◌}
use native.Mathlib.Omega.{arith}
use lib.IntN.{pos, ◌*ℤ◌, +ℤ_idr}
use Rattle.numbers.specs.Round.{round_n, cut_n}
use Rattle.numbers.specs.Sign.{less}
use Rattle.numbers.proofs.Ring.{less_times, left_over}
use Rattle.numbers.proofs.Rounding.{exact}
use Rattle.ground.specs.Units.{million}
use Rattle.rules.specs.Rules.{factor_of}
use Rattle.locking.specs.Locking.{settled_by, pick}
use Rattle.locking.specs.declared.Source.{Source}
use Rattle.book.specs.Book.{Book}
use Rattle.book.specs.Inner.Accepted.{Promise}
use Rattle.amounts.specs.Pools.{halves_of}
use Rattle.accounts.specs.Rows.{sum_of, sum_z}
use Rattle.accounts.proofs.Parts.{sound_of}
use Rattle.sharing.specs.Inner.Shares.{share_in, part_sum, Shareable}
use Rattle.sharing.specs.declared.shares.Part.{Part}
use Rattle.sharing.proofs.Sums.{sum_same}
use Rattle.sharing.proofs.Everyone.{part_cut_is}
use Rattle.recovery.specs.Inner.Shapes.{consumed_part, sent_part}
use Rattle.recovery.proofs.Sharing.{consumed_shareable, sent_shareable}
use Rattle.balance.specs.Balance.{accounts_of}
use Rattle.balance.proofs.Own.{own_in, rows_region}
use Rattle.balance.proofs.Balances.{shares_once}
use Rattle.cutoffs.specs.Cutoffs.{part_over, whole_stage, half_stage, ace_stage, asoe_stage}
use Rattle.cutoffs.proofs.Stages.{fpp_exact, used_exact, unused_exact, sound_in, half_cut}
use Rattle.closing.specs.Explained.{PoolsExact, paid_by_ace, paid_by_asoe, RegionExact}
use Rattle.closing.proofs.Leaving.{picked_paid}

module _ {B L : Book} (p : Promise B L) where
  -- a factored constraint's pools
  pub pools_exact : (j : ℕ) → j < B.header.constraints → (B.constraint j).mode ≡ 1 → PoolsExact (B.constraint j)
  pools_exact j l m =
      record {
        fpp = fpp_exact (B.constraint j) m;
        used = used_exact (B.constraint j) m;
        unused = unused_exact (B.constraint j) m (p.sound.fields.constraints j l).terms.usage;
      }

  -- what is not paid of a half that is shared in region g
  unpaid : (s : Source) (x : Part) (g : ℕ) → g < 5 → x.mask ≡ 2 ^ g → Shareable x (pick s B L).energy (pick s B L).header.energies
      → less x.amount (sum_of (λ a. round_n (x.amount * own_in (pick s B L) x g a) x.whole) (accounts_of B L)) *ℤ pos x.whole ≡ sum_z (λ a. cut_n (x.amount * own_in (pick s B L) x g a) x.whole) (accounts_of B L)
  unfolding share_in
  unpaid s x g l m h =
      ap (λ (t : ℕ). less x.amount t *ℤ pos x.whole)
      (sum_same _ (share_in x (pick s B L).energy (pick s B L).header.energies) (accounts_of B L) (λ a. ap (λ (t : ℕ). round_n (x.amount * t) x.whole) (rows_region (sound_in p s) a x g l m)) ∙ shares_once B L s x)
      ∙ less_times x.amount (part_sum x (pick s B L).energy (pick s B L).header.energies) x.whole
      ∙ sym (half_cut p s x g l m ∙ part_cut_is x (pick s B L).energy (pick s B L).header.energies h)

  module _ (i : ℕ) (l : i < B.header.contracts) (g : ℕ) (m : g < 5) (d : factor_of (B.contract i).factors g ≡ 0 → ⊥) where
    -- a contract in a region that it benefits
    pub region_exact : let k = B.contract i in RegionExact (pick (settled_by k) B L) (accounts_of B L) k g
    unfolding whole_stage half_stage part_over halves_of consumed_part sent_part paid_by_ace paid_by_asoe ace_stage asoe_stage
    region_exact =
        let k = B.contract i in
        let s = settled_by k in
        let part = round_n (k.payment * factor_of k.factors g) million in
        let half : (part + 1) / 2 ≡ round_n part 2 = omega arith in
        record {
          whole = exact (pos (k.payment * factor_of k.factors g)) million;
          consumed = rw half (exact (pos part) 2);
          sent = left_over ((part - (part + 1) / 2) * 2) part (round_n part 2 * 2) part 0 (omega arith) ∙ +ℤ_idr (pos part);
          ace = unpaid s (consumed_part (pick s B L).entry k g) g m refl (consumed_shareable (sound_of (sound_in p s)) (picked_paid p i l) g m d);
          asoe = unpaid s (sent_part (pick s B L).entry k g) g m refl (sent_shareable (sound_of (sound_in p s)) (picked_paid p i l) g m d);
        }
