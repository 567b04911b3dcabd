-- No line of a book passes the limit: it is a rounded share of a pool, by a factor or an own energy that is no larger than the whole, and every pool is
-- within the limit. Assumes nothing.
use Prim.Native.Nat.{ℕ, ◌≤◌}
use mathlib.Core.Path.{◌≡◌, refl}
use mathlib.Core.Bool.{false}
use mathlib.Core.List.{List, [], ◌∷◌}
use native.Mathlib.Omega.{arith}
use native.Mathlib.Nat.{le_trans}
use borrow.Author.Tests.{le-ltb}
use lib.Dec.{eqb}
use lib.IntN.{nat_abs}
use Rattle.ground.specs.Inner.Each.{Each}
use Rattle.numbers.specs.Sign.{less}
use Rattle.ground.proofs.Each.{each_choice}
use Rattle.numbers.proofs.Rounding.{round_share}
use Rattle.numbers.proofs.Sizes.{less_size}
use Rattle.rules.specs.Inner.Facts.{UnitRule}
use Rattle.records.specs.declared.rows.Constraint.{Constraint}
use Rattle.records.specs.declared.rows.UnitRow.{UnitRow}
use Rattle.accounts.specs.declared.energies.OwnEnergies.{OwnEnergies}
use Rattle.amounts.specs.Pools.{pools_of}
use Rattle.amounts.specs.Shares.{by_factor, by_energy}
use Rattle.amounts.specs.Inner.Bounds.{SmallPools, SmallResidual, SmallHalves}
use Rattle.amounts.specs.declared.pools.Pools.{Pools}
use Rattle.amounts.specs.declared.pools.Residual.{Residual}
use Rattle.amounts.specs.declared.pools.Halves.{Halves}
use Rattle.amounts.proofs.Sizes.{pools_small, residual_small, halves_small}
use Rattle.book.specs.Book.{Book}
use Rattle.book.specs.Inner.Accepted.{Sound}
use Rattle.statement.specs.declared.Line.{Line}
use Rattle.lines.specs.Lines.{contingency_line, unit_lines, rest_lines, ace_line, asoe_line}
use Rattle.lines.specs.Inner.Shared.{Shared}
use Rattle.lines.specs.Inner.Walks.{book_lines, Walkable}
use Rattle.lines.specs.Limit.{WithinLimit, any_over}
use Rattle.lines.proofs.EachLine.{EachKind, each_line}

-- a pool within the limit
abbrev Small : ℕ → Type 0
Small pool = pool ≤ 50_000_000_000

pub none_over : (ls : List Line) → Each WithinLimit ls → any_over ls ≡ false
unfolding any_over
none_over [] h = refl
none_over (l ∷ ls) h = rw (le-ltb _ _ h.0.small) (none_over ls h.1)

-- ---- shares

less_within : (a b : ℕ) → a ≤ 50_000_000_000 → b ≤ 50_000_000_000 → nat_abs (less a b) ≤ 50_000_000_000
less_within a b h k = omega (arith, less_size a b 100_000_000_000 (omega arith) (omega arith))

factor_within : (pool above below : ℕ) → Small pool → above ≤ 1_000_000 → below ≤ 1_000_000 → nat_abs (by_factor pool above below) ≤ 50_000_000_000
unfolding by_factor
factor_within pool above below h p m = less_within _ _ (le_trans (round_share pool above 1_000_000 p) h) (le_trans (round_share pool below 1_000_000 m) h)

energy_within : (credit charge : ℕ) {own total : ℕ} → Small credit → Small charge → Shared own total → nat_abs (by_energy credit charge own total) ≤ 50_000_000_000
unfolding by_energy
energy_within credit charge {own} {total} h k s =
    less_within _ _ (le_trans (round_share credit own total s.part) h) (le_trans (round_share charge own total s.part) k)

-- ---- lines

contingency_within : (r : Constraint) {own total : ℕ} → Small r.cost → Shared own total → WithinLimit (contingency_line r own total)
contingency_within r h s = record { small = energy_within 0 r.cost (omega arith) h s }

unit_within : (r : Constraint) (p : Pools) (q : UnitRow) → SmallPools p → UnitRule q → Each WithinLimit (unit_lines r p q)
unfolding unit_lines
unit_within r p q h u =
    let unused : WithinLimit _ = record { small = factor_within p.unused 0 q.dcf h.unused (omega arith) u.dcf } in
    each_choice WithinLimit (eqb r.mode 1) _ _
    (record { small = factor_within p.fpp q.pcf q.ncf h.fpp u.pcf u.ncf }, (record { small = factor_within p.used 0 q.ncf h.used (omega arith) u.ncf }, (unused, tt)))
    (unused, tt)

rest_within : (r : Constraint) (x : Residual) {own total : ℕ} → SmallResidual x → Shared own total → Each WithinLimit (rest_lines r x own total)
unfolding rest_lines
rest_within r x h s =
    let unused : WithinLimit _ = record { small = energy_within 0 x.unused (omega arith) h.unused s } in
    each_choice WithinLimit (eqb r.mode 1) _ _
    (record { small = energy_within x.credit x.charge h.credit h.charge s }, (record { small = energy_within 0 x.used (omega arith) h.used s }, (unused, tt)))
    (unused, tt)

pub halves_within : (id g : ℕ) (x : Halves) {ace aces asoe asoes : ℕ} → SmallHalves x → Shared ace aces → Shared asoe asoes → Each WithinLimit (ace_line id g x ace aces ∷ asoe_line id g x asoe asoes ∷ [])
halves_within id g x h a s =
    (record { small = energy_within 0 x.consumed (omega arith) h.consumed a }, (record { small = energy_within 0 x.sent (omega arith) h.sent s }, tt))

-- ---- the whole book

module _ (B L : Book) (own : OwnEnergies) (p : Sound B) (w : Walkable B L own) where
  kinds_within : EachKind WithinLimit B L own
  kinds_within =
      record {
        contingency = λ j l. contingency_within (B.constraint j) (p.fields.constraints j l).cost (w.ready.shared j l);
        units = λ j l u m. unit_within (B.constraint j) (pools_of (B.constraint j)) (B.unit u) (pools_small (B.constraint j) (p.fields.constraints j l)) (p.fields.units u m);
        rest = λ j l. rest_within (B.constraint j) _ (residual_small (B.constraint j) (pools_of (B.constraint j)) (p.fields.constraints j l) (pools_small (B.constraint j) (p.fields.constraints j l))) (w.ready.shared j l);
        region = λ k l g m d. halves_within (B.contract k).id g _ (halves_small (B.contract k).payment _ (p.fields.contracts k l).payment ((p.fields.contracts k l).factor g m)) ((w.payable k l).ace g m d) ((w.payable k l).asoe g m d);
      }

  pub book_within : (account : ℕ) → Each WithinLimit (book_lines B L account own)
  book_within account = each_line WithinLimit B L own kinds_within account
