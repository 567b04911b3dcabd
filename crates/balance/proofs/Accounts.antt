-- The accounts over which a balance is taken are those that 11 lets pass, each once. 01, Balance: "all accounts (each that 11 lets pass)".
-- Assumes nothing.
use Prim.Native.Nat.{ℕ}
use mathlib.Core.Path.{◌≡◌, ap, ◌∙◌}
use mathlib.Core.Bool.{Bool, cond, not}
use Rattle.book.specs.Book.{Book}
use Rattle.accounts.specs.Account.{rows_of_account, locked_of, unnamed}
use Rattle.sharing.specs.Once.{has, times}
use Rattle.sharing.proofs.Everyone.{either_once, either_passes}
use Rattle.balance.specs.Balance.{accounts_of}

module _ (B L : Book) (a : ℕ) where
  pub accounts_are_those_that_11_lets_pass : has a (accounts_of B L) ≡ not (unnamed (rows_of_account B a) (locked_of L a))
  accounts_are_those_that_11_lets_pass = either_passes B L a

  -- one that passes stands there once, and one that does not stands there not at all
  pub each_account_stands_once : times a (accounts_of B L) ≡ cond (not (unnamed (rows_of_account B a) (locked_of L a))) 1 0
  each_account_stands_once =
      either_once B.energy B.header.energies B.unit B.header.units L.energy L.header.energies L.unit L.header.units a
      ∙ ap (λ (t : Bool). cond t 1 0) (either_passes B L a)
