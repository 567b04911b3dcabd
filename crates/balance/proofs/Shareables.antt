-- The parts by which an accepted book's pools are shared: each can be. Assumes nothing.
use Prim.Native.Nat.{ℕ, ◌<◌}
use Rattle.book.specs.Book.{Book}
use Rattle.book.specs.Table.{entries_by}
use Rattle.book.specs.Inner.Accepted.{Promise}
use Rattle.accounts.proofs.Parts.{sound_of}
use Rattle.amounts.specs.Inner.Bounds.{SmallResidual}
use Rattle.amounts.specs.Pools.{pools_of, residual_pools}
use Rattle.amounts.proofs.Sizes.{pools_small, residual_small}
use Rattle.sharing.specs.Inner.Shares.{Shareable}
use Rattle.recovery.specs.ByKind.{credit_by, charge_by}
use Rattle.recovery.specs.Inner.Shapes.{part_of}
use Rattle.recovery.specs.Inner.Rests.{PaidBy}
use Rattle.recovery.specs.declared.kinds.Kind.{Kind}
use Rattle.recovery.proofs.Sharing.{credit_low, charge_low, constraint_shareable}

module _ {B L : Book} (p : Promise B L) where
  -- its contracts, by the book that settles each
  pub paid_by : (i : ℕ) → i < B.header.contracts → PaidBy (entries_by B L (B.contract i)) (B.contract i)
  paid_by i l = record { payment = (p.sound.fields.contracts i l).payment; factor = (p.sound.fields.contracts i l).factor; funded = p.funded i l }

  module _ (j : ℕ) (l : j < B.header.constraints) where
    -- its cost
    pub cost_shareable : Shareable (part_of B.entry (B.constraint j) (B.constraint j).cost) B.energy B.header.energies
    cost_shareable = constraint_shareable (sound_of p.sound) (B.constraint j) _ (p.divisor j l) (p.sound.fields.constraints j l).cost

    residual_low : SmallResidual (residual_pools (B.constraint j) (pools_of (B.constraint j)))
    residual_low = let h = p.sound.fields.constraints j l in residual_small (B.constraint j) _ h (pools_small (B.constraint j) h)

    -- either side of its residual pool
    pub credit_shareable : (kind : Kind) → Shareable (part_of B.entry (B.constraint j) (credit_by kind (residual_pools (B.constraint j) (pools_of (B.constraint j))))) B.energy B.header.energies
    credit_shareable kind = constraint_shareable (sound_of p.sound) (B.constraint j) _ (p.divisor j l) (credit_low _ kind residual_low)

    pub charge_shareable : (kind : Kind) → Shareable (part_of B.entry (B.constraint j) (charge_by kind (residual_pools (B.constraint j) (pools_of (B.constraint j))))) B.energy B.header.energies
    charge_shareable kind = constraint_shareable (sound_of p.sound) (B.constraint j) _ (p.divisor j l) (charge_low _ kind residual_low)
