-- The records by their sizes and the records with their signs say the same of the same bytes, where each keeps its rule (check 5).
-- Assumes nothing.
use Prim.Native.Nat.{ℕ, ◌+◌, ◌*◌, ◌<◌, ◌^◌}
use mathlib.Core.Path.{◌≡◌, refl, ap, ap₂, ◌∙◌}
use mathlib.Core.Bool.{true}
use mathlib.Core.List.{List}
use native.Mathlib.Omega.{arith}
use lib.IntN.{ℤ, pos, neg_ℤ, nat_abs}
use mir.Syntax.{w32, w64}
use mir.Val.{to_z}
use mir.Facts.{to_z_pos}
use Rattle.sections.proofs.Cases.{five}
use Rattle.ground.specs.Bytes.{u32_at, u64_at, part_from, AreBytes}
use Rattle.numbers.specs.Sizes.{size_below, above_of, below_of}
use Rattle.numbers.specs.Inner.Sizes.{Sides}
use Rattle.ground.proofs.Back.{u32_small}
use Rattle.ground.proofs.Part.{part_bytes}
use Rattle.numbers.proofs.Signs.{size_signed}
use Rattle.numbers.proofs.Sizes.{sides_of, minus_is}
use Rattle.records.specs.Rows.{entry_row, constraint_row, unit_row, energy_row, contract_row}
use Rattle.rules.specs.Rules.{factor_of}
use Rattle.rules.specs.Inner.Facts.{EntryRule, ConstraintRule, UnitRule, EnergyRule, ContractRule}
use Rattle.records.specs.declared.rows.Entry.{Entry}
use Rattle.records.specs.declared.rows.Constraint.{Constraint}
use Rattle.records.specs.declared.rows.UnitRow.{UnitRow}
use Rattle.records.specs.declared.rows.EnergyRow.{EnergyRow}
use Rattle.records.specs.declared.rows.Contract.{Contract}
use Rattle.book.specs.Header.{header_of, units_from, energies_from, contracts_from}
use Rattle.book.specs.Book.{book_of}
use Rattle.book.specs.Inner.Facts.{Fields}
use Rattle.guide.specs.Signed.{Energies, entry_at, SignedConstraint, constraint_at, SignedUnit, unit_at, SignedEnergy, energy_at, te, SignedContract, contract_at, signed_book}

-- ---- what it means, field by field

pub record SizedEnergies (e : Entry) (z : Energies) : Type 0 where
  pub ace : z.ace ≡ neg_ℤ (pos e.ace)
  pub asoe : z.asoe ≡ pos e.asoe
  pub residual : z.residual ≡ pos e.residual

pub record SizedConstraint (r : Constraint) (z : SignedConstraint) : Type 0 where
  pub id : z.id ≡ r.id
  pub service : z.service ≡ r.service
  pub mask : z.mask ≡ r.mask
  pub mode : z.mode ≡ r.mode
  pub cost : z.cost ≡ pos r.cost
  pub price : z.price ≡ pos r.price
  pub rcr : z.rcr ≡ pos r.rcr
  pub usage : z.usage ≡ pos r.usage
  pub rcf : Sides z.rcf r.prcf r.nrcf
  pub drcf : z.drcf ≡ neg_ℤ (pos r.drcf)

pub record SizedUnit (q : UnitRow) (z : SignedUnit) : Type 0 where
  pub constraint : z.constraint ≡ q.constraint
  pub unit : z.unit ≡ q.unit
  pub account : z.account ≡ q.account
  pub cf : Sides z.cf q.pcf q.ncf
  pub dcf : z.dcf ≡ neg_ℤ (pos q.dcf)

pub record SizedEnergy (r : EnergyRow) (z : SignedEnergy) : Type 0 where
  pub account : z.account ≡ r.account
  pub region : z.region ≡ r.region
  pub ace : z.ace ≡ neg_ℤ (pos r.ace)
  pub asoe : z.asoe ≡ pos r.asoe
  pub residual : te z ≡ pos (r.race + r.rasoe)

pub record SizedContract (k : Contract) (z : SignedContract) : Type 0 where
  pub id : z.id ≡ k.id
  pub kind : z.kind ≡ k.kind
  pub payment : z.payment ≡ pos k.payment
  pub factor : (g : ℕ) → g < 5 → z.factor g ≡ factor_of k.factors g

-- ---- one number

module _ (s : List ℕ) (b : AreBytes s) (k : ℕ) where
  below_at : size_below (u32_at s k) < 2 ^ 31 → to_z w32 (u32_at s k) ≡ neg_ℤ (pos (size_below (u32_at s k)))
  below_at h = minus_is (u32_at s k) (u32_small s b k) h

  above_at : u32_at s k < 2 ^ 31 → to_z w32 (u32_at s k) ≡ pos (u32_at s k)
  above_at h = to_z_pos w32 h

  money_at : u64_at s k < 2 ^ 63 → to_z w64 (u64_at s k) ≡ pos (u64_at s k)
  money_at h = to_z_pos w64 h

  side_at : Sides (to_z w32 (u32_at s k)) (above_of (u32_at s k)) (below_of (u32_at s k))
  side_at = sides_of (u32_at s k) (u32_small s b k)

-- ---- one record

-- |residual ACE| + |residual ASOE|
te_is : (x y : ℤ) (a c : ℕ) → x ≡ neg_ℤ (pos a) → y ≡ pos c → pos (nat_abs x + nat_abs y) ≡ pos (a + c)
te_is x y a c e f = ap pos (ap₂ ◌+◌ (ap nat_abs e ∙ size_signed true a) (ap nat_abs f))

module _ (s : List ℕ) (b : AreBytes s) where
  entry_sized : (g : ℕ) → EntryRule (entry_row s g) → SizedEnergies (entry_row s g) (entry_at s g)
  unfolding entry_row entry_at
  entry_sized g r =
      record {
        ace = below_at s b (g * 12) (omega (arith, r.ace));
        asoe = above_at s b (g * 12 + 4) (omega (arith, r.asoe));
        residual = above_at s b (g * 12 + 8) (omega (arith, r.residual));
      }

  constraint_sized : (i : ℕ) → ConstraintRule (constraint_row s i) → SizedConstraint (constraint_row s i) (constraint_at s i)
  unfolding constraint_row constraint_at
  constraint_sized i r =
      record {
        id = refl;
        service = refl;
        mask = refl;
        mode = refl;
        cost = money_at s b (i * 40 + 8) (omega (arith, r.cost));
        price = refl;
        rcr = refl;
        usage = refl;
        rcf = side_at s b (i * 40 + 28);
        drcf = below_at s b (i * 40 + 32) (omega (arith, r.drcf));
      }

  unit_sized : (i : ℕ) → UnitRule (unit_row s i) → SizedUnit (unit_row s i) (unit_at s i)
  unfolding unit_row unit_at
  unit_sized i r =
      record {
        constraint = refl;
        unit = refl;
        account = refl;
        cf = side_at s b (i * 20 + 12);
        dcf = below_at s b (i * 20 + 16) (omega (arith, r.dcf));
      }

  energy_sized : (i : ℕ) → EnergyRule (energy_row s i) → SizedEnergy (energy_row s i) (energy_at s i)
  unfolding energy_row energy_at
  energy_sized i r =
      record {
        account = refl;
        region = refl;
        ace = below_at s b (i * 24 + 8) (omega (arith, r.ace));
        asoe = above_at s b (i * 24 + 12) (omega (arith, r.asoe));
        residual = te_is _ _ _ _ (below_at s b (i * 24 + 16) (omega (arith, r.race, r.ace))) (above_at s b (i * 24 + 20) (omega (arith, r.rasoe, r.asoe)));
      }

  contract_sized : (i : ℕ) → ContractRule (contract_row s i) → SizedContract (contract_row s i) (contract_at s i)
  unfolding contract_row contract_at
  contract_sized i r =
      record {
        id = refl;
        kind = refl;
        payment = money_at s b (i * 36 + 8) (omega (arith, r.payment));
        factor = five (λ g. u32_at s (i * 36 + (16 + g * 4)) ≡ factor_of (contract_row s i).factors g) refl refl refl refl refl;
      }

-- ---- a book whose records keep their rules

module _ (b : List ℕ) (a : AreBytes b) (f : Fields (book_of b)) where
  pub sized_entry : (g : ℕ) → g < 5 → SizedEnergies ((book_of b).entry g) ((signed_book b).entry g)
  sized_entry g l = entry_sized (part_from 24 b) (part_bytes 24 b a) g (f.entries g l)

  pub sized_constraint : (j : ℕ) → j < (header_of b).constraints → SizedConstraint ((book_of b).constraint j) ((signed_book b).constraint j)
  sized_constraint j l = constraint_sized (part_from 84 b) (part_bytes 84 b a) j (f.constraints j l)

  pub sized_unit : (u : ℕ) → u < (header_of b).units → SizedUnit ((book_of b).unit u) ((signed_book b).unit u)
  sized_unit u l = unit_sized (part_from (units_from (header_of b)) b) (part_bytes (units_from (header_of b)) b a) u (f.units u l)

  pub sized_energy : (i : ℕ) → i < (header_of b).energies → SizedEnergy ((book_of b).energy i) ((signed_book b).energy i)
  sized_energy i l = energy_sized (part_from (energies_from (header_of b)) b) (part_bytes (energies_from (header_of b)) b a) i (f.energies i l)

  pub sized_contract : (k : ℕ) → k < (header_of b).contracts → SizedContract ((book_of b).contract k) ((signed_book b).contract k)
  sized_contract k l = contract_sized (part_from (contracts_from (header_of b)) b) (part_bytes (contracts_from (header_of b)) b a) k (f.contracts k l)
