-- The accounts of sorted energy rows. Assumes nothing.
use Prim.Native.Nat.{ℕ}
use Rattle.sections.specs.Inner.Order.{Keeps}
use Rattle.records.specs.declared.rows.EnergyRow.{EnergyRow}
use Rattle.sharing.specs.Accounts.{energy_account}
use Rattle.sharing.specs.Inner.Shares.{Sorted}

-- they keep their order
pub in_order : {energy : ℕ → EnergyRow} {n : ℕ} → Sorted energy n → Keeps (energy_account energy) n
in_order s = record { keep = s.order.first }
