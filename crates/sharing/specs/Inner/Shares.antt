-- What a part of a pool that is shared by energy comes to over all accounts, and what that rests on.
use Rattle.std.specs.Prelude.{ℕ, ◌*◌, ◌≤◌, ◌<◌, ◌≡◌, [], cond, eqb, ℤ}
use Rattle.numbers.specs.Round.{round_n, cut_n}
use Rattle.ground.specs.Units.{money_limit, total_limit}
use Rattle.sections.specs.Total.{total}
use Rattle.sections.specs.Inner.Order.{PairsRise}
use Rattle.market.specs.Kinds.{bit_set}
use Rattle.rules.specs.Inner.Facts.{EnergyRule}
use Rattle.records.specs.declared.rows.EnergyRow.{EnergyRow}
use Rattle.totals.specs.Sums.{row_by}
use Rattle.accounts.specs.Rows.{sum_of, sum_z}
use Rattle.sharing.specs.Once.{named}
use Rattle.sharing.specs.declared.shares.Part.{Part}
use Rattle.sharing.specs.Accounts.{energy_account}

-- the energy of a row that a part counts: of its kind, in its regions
unfoldable pub energy_in : Part → EnergyRow → ℕ
energy_in p r = cond (bit_set p.mask r.region) (row_by p.basis r) 0

-- an account's own energy in a part, over the n energy rows
unfoldable pub own_in_part : Part → (ℕ → EnergyRow) → ℕ → ℕ → ℕ
own_in_part p energy n account = total (λ i. cond (eqb (energy i).account account) (energy_in p (energy i)) 0) n

-- an account's share: "round(pool x own / total)", by its size
unfoldable pub share_in : Part → (ℕ → EnergyRow) → ℕ → ℕ → ℕ
share_in p energy n account = round_n (p.amount * own_in_part p energy n account) p.whole

-- the shares of those accounts that energy rows name
unfoldable pub part_sum : Part → (ℕ → EnergyRow) → ℕ → ℕ
part_sum p energy n = sum_of (share_in p energy n) (named (energy_account energy) n [])

-- what an account's share cuts off, over the whole, and those of all these accounts
unfoldable pub cut_in : Part → (ℕ → EnergyRow) → ℕ → ℕ → ℤ
cut_in p energy n account = cut_n (p.amount * own_in_part p energy n account) p.whole

unfoldable pub part_cut : Part → (ℕ → EnergyRow) → ℕ → ℤ
part_cut p energy n = sum_z (cut_in p energy n) (named (energy_account energy) n [])

-- of the energy rows
pub record Sorted (energy : ℕ → EnergyRow) (n : ℕ) : Type 0 where
  pub few : n ≤ 1024
  pub rules : (i : ℕ) → i < n → EnergyRule (energy i)
  pub order : PairsRise (energy_account energy) (λ i. (energy i).region) n

-- of a part: its whole is what the rows make, and not 0
pub record Shareable (p : Part) (energy : ℕ → EnergyRow) (n : ℕ) : Type 0 where
  pub whole : p.whole ≡ total (λ i. energy_in p (energy i)) n
  pub above : 0 < p.whole
  pub below : p.whole ≤ total_limit
  pub small : p.amount ≤ money_limit
