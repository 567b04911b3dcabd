-- The energy rows of one account, added up, and what is made of all accounts' one after the other. Only contracts of inner functions speak of it.
use Rattle.std.specs.Prelude.{ℕ, ◌<◌, ◌≡◌, List, [], ◌∷◌, length}
use Rattle.sections.specs.Inner.Walk.{Past}
use Rattle.records.specs.declared.rows.EnergyRow.{EnergyRow}
use Rattle.sharing.specs.Accounts.{energy_account}
use Rattle.sharing.specs.Once.{named}
use Rattle.sharing.specs.Inner.Shares.{own_in_part}
use Rattle.sharing.specs.declared.shares.Group.{Group}
use Rattle.sharing.specs.declared.shares.Part.{Part}

-- all that the account of row i owns in a part, and the row behind its last
pub record GroupIs (p : Part) (energy : ℕ → EnergyRow) (n i : ℕ) (g : Group) : Type 0 where
  pub own : g.own ≡ own_in_part p energy n (energy i).account
  pub behind : Past (energy_account energy) n (energy i).account g.end

-- ---- what calls of a function make of a value, by what each says of its result: post

-- one call for each account of a list, with what it owns, the last account in front
unfoldable pub Made : {T : Type 0} → (T → ℕ → T → Type 0) → (ℕ → ℕ) → T → List ℕ → T → Type 0
Made post own start [] x = x ≡ start
Made {T} post own start (a ∷ l) x = (y : T) × (Made post own start l y × post y (own a) x)

-- the function may be called of any account after fewer than 1,024 calls
abbrev pub Adds : {T : Type 0} → Part → (ℕ → EnergyRow) → ℕ → (T → ℕ → Type 0) → (T → ℕ → T → Type 0) → T → Type 0
Adds {T} p energy n pre post start =
    (l : List ℕ) (a : ℕ) (x : T) → length l < 1024 → Made post (own_in_part p energy n) start l x → pre x (own_in_part p energy n a)

-- it is called once for each account that energy rows name, and for start where the part's amount is 0
pub record MadeOver {T : Type 0} (p : Part) (energy : ℕ → EnergyRow) (n : ℕ) (post : T → ℕ → T → Type 0) (start x : T) : Type 0 where
  pub nothing : p.amount ≡ 0 → x ≡ start
  pub every : (p.amount ≡ 0 → ⊥) → Made post (own_in_part p energy n) start (named (energy_account energy) n []) x
