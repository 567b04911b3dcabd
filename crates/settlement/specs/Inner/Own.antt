-- An account's own energies in two books. Only contracts of inner functions speak of this.
use Rattle.std.specs.Prelude.{ℕ, ◌<◌, ◌≡◌}
use Rattle.totals.specs.Inner.Totals.{entry_of}
use Rattle.totals.specs.declared.entries.Totals.{Totals}
use Rattle.book.specs.Book.{Book}
use Rattle.accounts.specs.Account.{rows_of_account, own_energy}
use Rattle.accounts.specs.declared.energies.OwnEnergies.{OwnEnergies}

-- those of its rows in the book B
abbrev pub OwnIn : Book → ℕ → Totals → Type 0
OwnIn B account t = (g : ℕ) → g < 5 → entry_of t g ≡ own_energy (rows_of_account B account).energies g

-- and in the one that test payments are settled by, L
pub record OwnIs (B L : Book) (account : ℕ) (own : OwnEnergies) : Type 0 where
  pub current : OwnIn B account own.current
  pub locked : OwnIn L account own.locked
