-- What each row of the locked book adds to the number of accounts.
use Rattle.std.specs.Prelude.{ℕ, List, Bool, ◌||◌}
use Rattle.sharing.specs.Once.{has, named}
use Rattle.sharing.specs.Inner.Seen.{seen, newly}
use Rattle.sharing.specs.Accounts.{energy_account, unit_account}
use Rattle.joint.specs.Names.{energies_of, units_of, accounts_of}
use Rattle.joint.specs.declared.NamingRows.{NamingRows}

-- energy row i: 1 where neither the first book has its account nor an energy row before names it
unfoldable pub energy_adds : List ℕ → NamingRows → List ℕ → NamingRows → ℕ → ℕ
energy_adds book p locked q i =
    newly (has (energies_of locked q i).account (named (energy_account (energies_of locked q)) i (accounts_of book p)))

-- whether the first book has the account of unit row u
unfoldable pub unit_known : List ℕ → NamingRows → List ℕ → NamingRows → ℕ → Bool
unit_known book p locked q u = has (units_of locked q u).account (accounts_of book p)

-- unit row u, where it is known whether the first book has its account: 1 where that has it not, and no unit row before nor an energy row names it
unfoldable pub unit_adds : List ℕ → NamingRows → Bool → ℕ → ℕ
unit_adds locked q known u =
    newly (seen (unit_account (units_of locked q)) u (units_of locked q u).account || (seen (energy_account (energies_of locked q)) q.n (units_of locked q u).account || known))
