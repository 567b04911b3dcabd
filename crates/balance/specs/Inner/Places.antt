-- Where the pool of a number stands, as a walk over the constraints finds it. Only contracts of inner functions speak of this.
use Rattle.std.specs.Prelude.{ℕ, ◌<◌, ◌≡◌, true, [], List, ◌∷◌, ◌++◌, Option, None, Some}
use Rattle.records.specs.declared.rows.Constraint.{Constraint}
use Rattle.records.specs.declared.rows.Contract.{Contract}
use Rattle.accounts.specs.Rows.{rows_of, concat_map}
use Rattle.balance.specs.Pools.{Pool, past, found, constraint_pool, constraint_pools, contract_pool, pool_at}
use Rattle.balance.specs.Inner.Shapes.{belongs}
use Rattle.recovery.specs.declared.kinds.Kind.{Kind}
use Rattle.balance.specs.declared.places.Place.{Place}
use Rattle.balance.specs.declared.places.Place.TheVariants as place

-- the pool at a place among the constraint's own is the one of this kind
pub record KindIs (r : Constraint) (at' : ℕ) (kind : Kind) : Type 0 where
  pub own : belongs r kind ≡ true
  pub pool : pool_at (constraint_pools r) at' ≡ found (constraint_pool r kind)

-- the pools of n constraints and c contracts
abbrev pub pools_over : (ℕ → Constraint) → ℕ → (ℕ → Contract) → ℕ → List Pool
pools_over con n contract c = concat_map constraint_pools (rows_of con n) ++ concat_map (λ k. contract_pool k ∷ []) (rows_of contract c)

-- whatever the contracts say, the pool of a number is the one at the place
unfoldable pub PlaceIs : (ℕ → Constraint) → ℕ → ℕ → ℕ → Option Place → Type 0
PlaceIs con n c number (Some (place.Constraint j kind)) =
    (j < n)
    × ((belongs (con j) kind ≡ true) × ((contract : ℕ → Contract) → pool_at (pools_over con n contract c) number ≡ found (constraint_pool (con j) kind)))
PlaceIs con n c number (Some (place.Contract i)) =
    (i < c) × ((contract : ℕ → Contract) → pool_at (pools_over con n contract c) number ≡ found (contract_pool (contract i)))
PlaceIs con n c number None = (contract : ℕ → Contract) → pool_at (pools_over con n contract c) number ≡ past
