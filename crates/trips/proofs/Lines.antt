-- Every kind of line keeps the rules that a statement's reader asks of it, where its amount keeps the limit. Assumes nothing.
use Prim.Native.Nat.{ℕ, zero, suc, ◌*◌, ◌^◌, ◌≤◌, ◌<◌}
use mathlib.Core.Path.{◌≡◌, refl}
use mathlib.Core.Bool.{Bool, true, false, cond, ◌||◌}
use mathlib.Core.List.{[], ◌∷◌}
use native.Mathlib.Omega.{arith}
use borrow.Author.Tests.{le-leb, ltb-false}
use lib.Dec.{eqb, leb}
use lib.IntN.{ℤ, nat_abs}
use Rattle.sections.proofs.Cases.{five}
use Rattle.numbers.specs.Round.{round_n}
use Rattle.numbers.specs.Sign.{signed, negative}
use Rattle.ground.proofs.Every.{all}
use Rattle.market.specs.Kinds.{raises}
use Rattle.rules.specs.Inner.Facts.{ConstraintRule}
use Rattle.records.specs.declared.rows.Constraint.{Constraint}
use Rattle.records.specs.declared.rows.UnitRow.{UnitRow}
use Rattle.amounts.specs.Shares.{by_factor, by_energy}
use Rattle.amounts.specs.declared.pools.Pools.{Pools}
use Rattle.amounts.specs.declared.pools.Residual.{Residual}
use Rattle.amounts.specs.declared.pools.Halves.{Halves}
use Rattle.amounts.proofs.Signed.{factor_below, charge_shared}
use Rattle.statement.specs.declared.Line.{Line}
use Rattle.parsing.specs.Parsing.{regions_ok, unit_field_ok, amount_ok}
use Rattle.lines.specs.Lines.{shared_line, contingency_line, fpp_line, used_line, unused_line, fpp_rest, used_rest, unused_rest, ace_line, asoe_line}
use Rattle.trips.proofs.Due.{Due}

-- ---- regions

-- "regions 1 to 31"
mask_ok : (part m : ℕ) → leb part 8 ≡ true → 1 ≤ m → m ≤ 31 → regions_ok part m ≡ true
mask_ok part m e a b = rw (le-leb 1 m a, le-leb m 31 b, e)

or-true : (a : Bool) → (a || true) ≡ true
or-true true = refl
or-true false = refl

-- "(one bit for parts 9 and 10)"
bit_ok : (part g : ℕ) → g < 5 → regions_ok part (2 ^ g) ≡ true
bit_ok part g l = five (λ g. regions_ok part (2 ^ g) ≡ true) (or-true (leb part 8)) (or-true (leb part 8)) (or-true (leb part 8)) (or-true (leb part 8)) (or-true (leb part 8)) g l

-- ---- amounts

-- a charge is not positive
charge_signed : (n : ℕ) → (eqb (nat_abs (signed true n)) 0 || negative (signed true n)) ≡ true
charge_signed zero = refl
charge_signed (suc n) = or-true (eqb (suc n) 0)

energy_charged : (charge own total : ℕ) → (eqb (nat_abs (by_energy 0 charge own total)) 0 || negative (by_energy 0 charge own total)) ≡ true
energy_charged charge own total =
    let e : by_energy 0 charge own total ≡ signed true (round_n (charge * own) total) = charge_shared charge own total in
    rw e (charge_signed (round_n (charge * own) total))

factor_charged : (pool below : ℕ) → (eqb (nat_abs (by_factor pool 0 below)) 0 || negative (by_factor pool 0 below)) ≡ true
factor_charged pool below =
    let e : by_factor pool 0 below ≡ signed true (round_n (pool * below) 1_000_000) = factor_below pool below in
    rw e (charge_signed (round_n (pool * below) 1_000_000))

last_two : (a b c : Bool) → (b || c) ≡ true → (a || b || c) ≡ true
last_two true b c e = refl
last_two false b c e = e

-- "not positive outside parts 3 and 6"
charge_ok : (part : ℕ) (z : ℤ) → (eqb (nat_abs z) 0 || negative z) ≡ true → leb (nat_abs z) 50_000_000_000 ≡ true → amount_ok part z ≡ true
charge_ok part z c e = rw e (last_two (eqb part 3 || eqb part 6) (eqb (nat_abs z) 0) (negative z) c)

-- ---- lines

-- a line from its fields
due : (l : Line) → 1 ≤ l.id → l.id < 2 ^ 32 → leb 1 l.part ≡ true → leb l.part 10 ≡ true → regions_ok l.part l.regions ≡ true → l.unit < 2 ^ 32 → unit_field_ok l.part l.unit ≡ true → (leb (nat_abs l.amount) 50_000_000_000 ≡ true → amount_ok l.part l.amount ≡ true) → Due l
due l i f a b r u v m =
    record {
      written = λ e. record {
        ok =
            all (leb 1 l.id ∷ leb 1 l.part ∷ leb l.part 10 ∷ regions_ok l.part l.regions ∷ unit_field_ok l.part l.unit ∷ amount_ok l.part l.amount ∷ [])
            (le-leb 1 l.id i, (a, (b, (r, (v, (m (le-leb (nat_abs l.amount) 50_000_000_000 (ltb-false 50_000_000_000 (nat_abs l.amount) e)), tt))))));
        id = f;
        unit = u;
      };
    }

-- all charge, shared by energy
shared_due : (id part regions charge own total : ℕ) → 1 ≤ id → id < 2 ^ 32 → leb 1 part ≡ true → leb part 10 ≡ true → regions_ok part regions ≡ true → unit_field_ok part 0 ≡ true → Due (shared_line id part regions 0 charge own total)
shared_due id part regions charge own total i f a b r v =
    due (shared_line id part regions 0 charge own total) i f a b r (omega arith) v (charge_ok part (by_energy 0 charge own total) (energy_charged charge own total))

module _ (r : Constraint) (h : ConstraintRule r) (f : r.id < 2 ^ 32) where
  regions : (part : ℕ) → leb part 8 ≡ true → regions_ok part r.mask ≡ true
  regions part e = mask_ok part r.mask e h.mask_low h.mask_high

  -- "1 contingency by ACE, 2 by ASOE"
  pub contingency_due : (own total : ℕ) → Due (contingency_line r own total)
  contingency_due own total = by (raises r.service)
    where
      by : (t : Bool) → Due (shared_line r.id (cond t 2 1) r.mask 0 r.cost own total)
      by true = shared_due r.id 2 r.mask r.cost own total h.id f refl refl (regions 2 refl) refl
      by false = shared_due r.id 1 r.mask r.cost own total h.id f refl refl (regions 1 refl) refl

  -- "residual lines 6 FPP, 7 used, 8 unused"
  module _ (x : Residual) (te ate : ℕ) where
    pub fpp_rest_due : Due (fpp_rest r x te ate)
    fpp_rest_due = due (fpp_rest r x te ate) h.id f refl refl (regions 6 refl) (omega arith) refl (λ e. rw e)

    pub used_rest_due : Due (used_rest r x te ate)
    used_rest_due = shared_due r.id 7 r.mask x.used te ate h.id f refl refl (regions 7 refl) refl

    pub unused_rest_due : Due (unused_rest r x te ate)
    unused_rest_due = shared_due r.id 8 r.mask x.unused te ate h.id f refl refl (regions 8 refl) refl

  -- "unit lines 3 FPP, 4 used, 5 unused"
  module _ (p : Pools) (q : UnitRow) (u : 1 ≤ q.unit) (g : q.unit < 2 ^ 32) where
    pub fpp_due : Due (fpp_line r p q)
    fpp_due = due (fpp_line r p q) h.id f refl refl (regions 3 refl) g (le-leb 1 q.unit u) (λ e. rw e)

    pub used_due : Due (used_line r p q)
    used_due =
        due (used_line r p q) h.id f refl refl (regions 4 refl) g (le-leb 1 q.unit u) (charge_ok 4 (by_factor p.used 0 q.ncf) (factor_charged p.used q.ncf))

    pub unused_due : Due (unused_line r p q)
    unused_due =
        due (unused_line r p q) h.id f refl refl (regions 5 refl) g (le-leb 1 q.unit u) (charge_ok 5 (by_factor p.unused 0 q.dcf) (factor_charged p.unused q.dcf))

-- "9 contract by ACE, 10 by ASOE"
module _ (id : ℕ) (i : 1 ≤ id) (f : id < 2 ^ 32) (g : ℕ) (l : g < 5) (x : Halves) (own total : ℕ) where
  pub ace_due : Due (ace_line id g x own total)
  ace_due = shared_due id 9 (2 ^ g) x.consumed own total i f refl refl (bit_ok 9 g l) refl

  pub asoe_due : Due (asoe_line id g x own total)
  asoe_due = shared_due id 10 (2 ^ g) x.sent own total i f refl refl (bit_ok 10 g l) refl
