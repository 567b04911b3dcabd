-- What an account holds, as it is found by going over the energy rows. Only contracts of inner functions and the layer above speak of it.
use Rattle.std.specs.Prelude.{ℕ, Bool, ◌<◌, ◌≡◌, not, eqb}
use Rattle.records.specs.declared.rows.EnergyRow.{EnergyRow}
use Rattle.totals.specs.Inner.Totals.{entry_of}
use Rattle.totals.specs.declared.entries.Totals.{Totals}
use Rattle.accounts.specs.Rows.{rows_of, keep, none}
use Rattle.accounts.specs.Account.{own_energy}

-- the energy of the account's rows among the first n, region by region, and whether there is one
pub record HeldIs (energy : ℕ → EnergyRow) (n account : ℕ) (t : Totals) (found : Bool) : Type 0 where
  pub own : (g : ℕ) → g < 5 → entry_of t g ≡ own_energy (keep (λ r. eqb r.account account) (rows_of energy n)) g
  pub any : found ≡ not (none (keep (λ r. eqb r.account account) (rows_of energy n)))
