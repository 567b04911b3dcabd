-- Each way in which an accepted book is settled, by the definition. Assumes nothing.
use Prim.Native.Nat.{ℕ, ◌+◌, ◌*◌}
use mathlib.Core.Path.{◌≡◌, refl}
use mathlib.Core.Bool.{Bool, true, false, cond}
use mathlib.Core.List.{List}
use lib.ListN.{length}
use Rattle.sections.proofs.Cases.{zero_one}
use Rattle.accounts.specs.Account.{Public, Rows, LockedPart, unnamed}
use Rattle.statement.specs.Lent.{Outcome, refuses, gives}
use Rattle.statement.proofs.Lines.{statement_length}
use Rattle.lines.specs.Limit.{any_over}
use Rattle.settlement.specs.Settle.{lines_of, statement_of, settled}

module _ (account : ℕ) (p : Public) (r : Rows) (t : LockedPart) where
  pub settled_unknown : unnamed r t ≡ true → settled account p r t ≡ refuses 11 0
  unfolding settled
  settled_unknown e = rw e

  module _ (k : unnamed r t ≡ false) where
    pub settled_over : any_over (lines_of p r t) ≡ true → settled account p r t ≡ refuses 12 0
    unfolding settled
    settled_over e = rw (k, e)

    pub settled_gives : any_over (lines_of p r t) ≡ false → settled account p r t ≡ gives (statement_of account p r t)
    unfolding settled
    settled_gives e = rw (k, e)

  -- "then answers 24 + 24 x lines"
  pub statement_long : length (statement_of account p r t) ≡ 24 + 24 * length (lines_of p r t)
  unfolding statement_of
  statement_long = statement_length _ (lines_of p r t)

-- ---- and back: where bytes are given, 11 and 12 are not, and they are the statement's

pub apart : (number place : ℕ) (xs : List ℕ) → refuses number place ≡ gives xs → ⊥
apart number place xs e = zero_one cc

check_gives : (t : Bool) (number : ℕ) (o : Outcome) (xs : List ℕ) → cond t (refuses number 0) o ≡ gives xs → (t ≡ false) × (o ≡ gives xs)
check_gives true number o xs e = absurd (apart number 0 xs e)
check_gives false number o xs e = (refl, e)

pub record Settled (account : ℕ) (p : Public) (r : Rows) (t : LockedPart) (xs : List ℕ) : Type 0 where
  pub known : unnamed r t ≡ false
  pub under : any_over (lines_of p r t) ≡ false
  pub bytes : xs ≡ statement_of account p r t

pub settled_back : (account : ℕ) (p : Public) (r : Rows) (t : LockedPart) (xs : List ℕ) → settled account p r t ≡ gives xs → Settled account p r t xs
unfolding settled
settled_back account p r t xs e =
    let k = check_gives (unnamed r t) 11 (cond (any_over (lines_of p r t)) (refuses 12 0) (gives (statement_of account p r t))) xs e in
    let u = check_gives (any_over (lines_of p r t)) 12 (gives (statement_of account p r t)) xs k.1 in
    let last : gives (statement_of account p r t) ≡ gives xs = u.1 in
    record { known = k.0; under = u.0; bytes = cc }
