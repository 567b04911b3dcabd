-- How many lines an account can have, and how long its statement is. Assumes nothing.
use Prim.Native.Nat.{ℕ, ◌+◌, ◌*◌, ◌≤◌}
use mathlib.Core.Path.{◌≡◌, ap}
use lib.ListN.{length, length-append}
use native.Mathlib.Omega.{arith}
use Rattle.accounts.specs.declared.energies.OwnEnergies.{OwnEnergies}
use Rattle.book.specs.Book.{Book}
use Rattle.book.specs.Inner.Accepted.{Sound}
use Rattle.accounts.specs.Rows.{joined}
use Rattle.lines.specs.Inner.Walks.{con_lines_at, contract_lines_at, totals_from, own_from, book_lines}
use Rattle.count.specs.Inner.Counts.{BookCounted}
use Rattle.count.proofs.LineCount.{few_lines, few_pays}

module _ (B : Book) (account : ℕ) (p : Sound B) where
  pub most_of : (L : Book) (own : OwnEnergies) → length (book_lines B L account own) ≤ 3 * B.header.units + 3 * B.header.constraints + 10 * B.header.contracts
  unfolding book_lines
  most_of L own =
      let c = joined (con_lines_at B.entry B.constraint B.unit B.header.units account own.current) B.header.constraints in
      let k = joined (contract_lines_at (totals_from B.entry L.entry) (own_from own) B.contract) B.header.contracts in
      omega (
        arith,
        length-append c k,
        few_lines B.entry B.constraint B.header.constraints B.unit B.header.units account own.current p.ordered.constraints,
        few_pays (totals_from B.entry L.entry) (own_from own) B.contract B.header.contracts,
      )

  pub few_of : (L : Book) (own : OwnEnergies) → length (book_lines B L account own) ≤ 2152
  few_of L own = omega (arith, most_of L own, p.few.constraints, p.few.units, p.few.contracts)

  -- counted lines make the length
  pub length_counted : {x : ℕ} → BookCounted B account x → (L : Book) (own : OwnEnergies) → 24 + x * 24 ≡ 24 + length (book_lines B L account own) * 24
  length_counted c L own = ap (λ (n : ℕ). 24 + n * 24) (c.lines L own)
