-- One dispatch row and its forerunner: the row that was read, what its range says, and the order by one number. Assumes nothing.
use Prim.Native.Nat.{ℕ, ◌+◌, ◌*◌, ◌/◌, ◌≤◌}
use mathlib.Core.Path.{◌≡◌, ap, ◌∙◌}
use mathlib.Core.Bool.{Bool, true, ◌&&◌, ◌||◌}
use mathlib.Core.List.{List, [], ◌∷◌}
use native.Mathlib.Omega.{arith}
use borrow.Author.Tests.{leb-true, ltb-true}
use lib.Dec.{eqb, leb, ltb}
use Rattle.numbers.proofs.Products.{wide_product}
use Rattle.ground.specs.Bytes.{byte_at, u16_at, u32_at}
use Rattle.ground.specs.Units.{price_limit}
use Rattle.ground.proofs.Every.{every}
use Rattle.sections.proofs.Order.{key_pair}
use Rattle.dispatch.specs.Dispatch.{dispatch_row, row_in_range, enablement_limit, row_below, amount_of}
use Rattle.dispatch.specs.Inner.Keys.{id_service_region}
use Rattle.dispatch.specs.declared.DispatchRow.{DispatchRow}

pub row_is : (s : List ℕ) (i : ℕ) (r : DispatchRow) → r.id ≡ u32_at s (i * 16) → r.service ≡ byte_at s (i * 16 + 4) → r.region ≡ byte_at s (i * 16 + 5) → r.spare ≡ u16_at s (i * 16 + 6) → r.price ≡ u32_at s (i * 16 + 8) → r.enablement ≡ u32_at s (i * 16 + 12) → r ≡ dispatch_row s i
unfolding dispatch_row
row_is s i r a b c d e f = λ j. record { id = a j; service = b j; region = c j; spare = d j; price = e j; enablement = f j }

-- ---- a row by itself

-- what its range says, as far as its order asks for it
pub record Ranged (r : DispatchRow) : Type 0 where
  pub from : 1 ≤ r.service
  pub service : r.service ≤ 10
  pub region : r.region ≤ 4

pub ranged : (r : DispatchRow) → row_in_range r ≡ true → Ranged r
ranged r e =
    let h = every (leb 1 r.service ∷ leb r.service 10 ∷ leb r.region 4 ∷ eqb r.spare 0 ∷ leb r.price price_limit ∷ leb r.enablement enablement_limit ∷ []) e in
    record {
      from = leb-true 1 r.service h.0;
      service = leb-true r.service 10 h.1.0;
      region = leb-true r.region 4 h.1.1.0;
    }

-- its amount, whatever it holds
pub amount_small : (r : DispatchRow) → r.price ≤ 4_294_967_295 → r.enablement ≤ 4_294_967_295 → amount_of r ≤ 2_000_000_000_000_000_000
unfolding amount_of
amount_small r h g = omega (arith, wide_product r.price r.enablement h g)

-- ---- two rows

-- rows rise where their keys do
pub below_is : (a b : DispatchRow) → Ranged a → Ranged b → ltb (id_service_region a) (id_service_region b) ≡ row_below a b
below_is a b p q =
    key_pair 65_536 a.id (a.service * 256 + a.region) b.id (b.service * 256 + b.region) (omega (arith, p.service, p.region)) (omega (arith, q.service, q.region))
    ∙ ap (λ (t : Bool). ltb a.id b.id || (eqb a.id b.id && t)) (key_pair 256 a.service a.region b.service b.region (omega (arith, p.region)) (omega (arith, q.region)))

-- id and service by one number
abbrev pub id_service : DispatchRow → ℕ
id_service r = r.id * 256 + r.service

pub id_service_lem : (r : DispatchRow) → Ranged r → id_service_region r / 256 ≡ id_service r
id_service_lem r h = omega (arith, h.region)

-- it keeps its order where rows rise
pub service_keeps : (a b : DispatchRow) → Ranged a → Ranged b → row_below a b ≡ true → id_service a ≤ id_service b
service_keeps a b p q e = omega (arith, ltb-true (id_service_region a) (id_service_region b) (below_is a b p q ∙ e), p.region, q.region)

-- and tells id and service
pub same_service : (a b : DispatchRow) → Ranged a → Ranged b → id_service a ≡ id_service b → (a.id ≡ b.id) × (a.service ≡ b.service)
same_service a b p q e = (omega (arith, p.service, q.service), omega (arith, p.service, q.service))
