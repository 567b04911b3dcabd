-- What the functions of each kind of pool need to know: sections where they stand in the book, and what an accepted book gives. Assumes nothing.
use Prim.Native.Nat.{ℕ, ◌+◌, ◌*◌, ◌≤◌, ◌<◌}
use mathlib.Core.Path.{◌≡◌, refl, sym, ap, subst, ◌∙◌}
use mathlib.Core.Bool.{false}
use mathlib.Core.List.{List}
use native.Mathlib.Omega.{arith}
use lib.IntN.{ℤ, pos}
use lib.ListN.{length}
use Rattle.ground.specs.Bytes.{part_from}
use Rattle.ground.specs.Units.{money_limit}
use Rattle.numbers.specs.Sign.{less}
use Rattle.records.specs.Rows.{unit_row, energy_row}
use Rattle.rules.specs.Inner.Facts.{ConstraintRule}
use Rattle.records.specs.declared.rows.Constraint.{Constraint}
use Rattle.records.specs.declared.rows.Contract.{Contract}
use Rattle.totals.specs.Divisors.{over_regions}
use Rattle.totals.specs.Inner.Energies.{Energies}
use Rattle.book.specs.Book.{Book, book_in}
use Rattle.book.specs.Header.{header_of, units_from, energies_from}
use Rattle.book.specs.Inner.Facts.{Laid}
use Rattle.book.specs.Inner.Accepted.{Sound, StandsIn}
use Rattle.book.proofs.Second.{stands_same}
use Rattle.book.specs.declared.header.Header.{Header}
use Rattle.accounts.specs.Inner.Energies.{energies_of}
use Rattle.accounts.proofs.Parts.{sound_of}
use Rattle.locking.specs.Locking.{source_of, settled_by, pick, reads_locked}
use Rattle.locking.specs.declared.Source.{Source}
use Rattle.locking.specs.declared.Source.TheVariants.{Current, Locked}
use Rattle.book.specs.Table.{entries_by}
use Rattle.sharing.specs.Accounts.{accounts_in}
use Rattle.sharing.proofs.Everyone.{same_accounts}
use Rattle.joint.specs.Names.{accounts_of_both}
use Rattle.joint.specs.Inner.Laid.{NamesLaid}
use Rattle.joint.specs.declared.NamingRows.{NamingRows}
use Rattle.sharing.specs.Inner.Shares.{Sorted}
use Rattle.recovery.specs.Inner.Shapes.{recovery_of}
use Rattle.balance.specs.Inner.Shapes.{contingency_shape, regulation_shape, contract_shape}
use Rattle.recovery.specs.Inner.Units.{SumsAre}
use Rattle.balance.specs.Inner.Rests.{OfConstraint, Counted, NamesOf}
use Rattle.recovery.specs.Inner.Rests.{PartIs, PaidBy, PaidIs}
use Rattle.recovery.specs.declared.kinds.Kind.{Kind}
use Rattle.recovery.specs.declared.kinds.Recovery.{Recovery}
use Rattle.recovery.specs.declared.contracts.Paid.{Paid}
use Rattle.recovery.specs.declared.units.UnitSums.{UnitSums}
use Rattle.recovery.proofs.Sharing.{sorted}

-- ---- the accounts

module _ (b : List ℕ) (h : Header) (s : Sound (book_in b h)) where
  pub sorted_at : {energy : List ℕ} → energy ≡ part_from (energies_from h) b → Sorted (energy_row energy) h.energies
  sorted_at q = rw q (sorted (sound_of s))

  -- of one book
  pub counted_is : {energy units : List ℕ} → energy ≡ part_from (energies_from h) b → units ≡ part_from (units_from h) b → {c : ℕ} → (c ≡ length (accounts_in (energy_row energy) h.energies (unit_row units) h.units)) × (c ≤ 1624) → Counted (book_in b h) (book_in b h) c
  counted_is q w z =
      let B = book_in b h in
      record { all = rw (q, w) at z.0 ∙ sym (ap length (same_accounts B.energy h.energies B.unit h.units)); few = omega (arith, z.1) }

  -- where its rows stand
  pub names_laid : Laid b h → {p : NamingRows} → NamesOf h p → NamesLaid b p
  names_laid d {p} n =
      record {
        energies = omega (arith, n.energies, n.n, d.long);
        units = omega (arith, n.units, n.m, d.long);
        few = omega (arith, n.m, s.few.units);
        sorted = rw (n.energies, n.n) (sorted (sound_of s));
      }

-- of two books
pub counted_both : (b : List ℕ) (h : Header) (l : List ℕ) (k : Header) {p q : NamingRows} → NamesOf h p → NamesOf k q → {c : ℕ} → (c ≡ length (accounts_of_both b p l q)) × (c ≤ 3248) → Counted (book_in b h) (book_in l k) c
counted_both b h l k n m z =
    record { all = rw (n.energies, n.n, n.units, n.m, m.energies, m.n, m.units, m.m) at z.0; few = z.1 }

-- where the second stands for the first
pub counted_alone : (b : List ℕ) (h : Header) (s : List ℕ) (k : Header) → StandsIn b h s → h ≡ header_of b → k ≡ header_of s → reads_locked (book_in b h).contract h.contracts ≡ false → {c : ℕ} → Counted (book_in b h) (book_in b h) c → Counted (book_in b h) (book_in s k) c
counted_alone b h s k t i j r z = rw (j, stands_same b h s t i r) z

-- what is shared by the energies that are lent is shared by the book's
pub part_in : {E F : Energies} → E ≡ F → {r : Constraint} {amount x : ℕ} → PartIs E r amount x → PartIs F r amount x
part_in e {r} {amount} {x} s = subst (λ (E : Energies). PartIs E r amount x) e s

-- ---- a constraint

pub constraint_rule : {B : Book} → Sound B → (r : Constraint) → OfConstraint B r → ConstraintRule r
constraint_rule s r o = rw o.same (s.fields.constraints o.place o.within)

-- what sharing over its regions asks, by the book's energies as they are lent
pub shares_over : (B : Book) {E : Energies} → E ≡ energies_of B → (r : Constraint) → 0 < over_regions B.entry r → {whole amount : ℕ} → whole ≡ over_regions E.entry r → amount ≤ money_limit → (whole ≡ over_regions E.entry r) × ((0 < whole) × (amount ≤ money_limit))
shares_over B e r o w l = (w, (rw (w, ap (λ (E : Energies). over_regions E.entry r) e) o, l))

-- there is a total of constraint j, r
pub total_there : (B : Book) {E : Energies} → E ≡ energies_of B → (j : ℕ) {r : Constraint} → r ≡ B.constraint j → 0 < over_regions B.entry (B.constraint j) → 0 < over_regions E.entry r
total_there B e j i o = rw (i, ap (λ (E : Energies). over_regions E.entry (B.constraint j)) e) o

-- ---- the balance of each kind of pool

module _ (E : Energies) (count : ℕ) where
  pub contingency_is : (r : Constraint) {a s : ℤ} {x : ℕ} → a ≡ pos r.cost → PartIs E r r.cost x → s ≡ less 0 x → record { amount = a; lines = count; sum = s } ≡ contingency_shape E count r
  unfolding contingency_shape
  contingency_is r a x s = rw (a, s, x.sum)

  pub contract_is : (k : Contract) {x : Paid} → PaidIs E k x → {a s : ℤ} → a ≡ pos k.payment → s ≡ less 0 x.charge → record { amount = a; lines = x.regions * (2 * count); sum = s } ≡ contract_shape E count k
  unfolding contract_shape
  contract_is k p a s = rw (a, s, p.regions, p.charge)

pub regulation_is : (B : Book) (count : ℕ) (r : Constraint) (kind : Kind) (x : Recovery) → x ≡ recovery_of r kind → {u : UnitSums} → SumsAre B.unit B.header.units r.id kind x.pool B.header.units u → {y z : ℕ} → PartIs (energies_of B) r x.credit y → PartIs (energies_of B) r x.charge z → {a s : ℤ} → a ≡ pos x.amount → s ≡ less (u.credit + y) (u.charge + z) → record { amount = a; lines = u.rows + count; sum = s } ≡ regulation_shape B count r kind
unfolding regulation_shape recovery_of
regulation_is B count r kind x e u y z a s = rw (a, s, u.rows, u.credit, u.charge, y.sum, z.sum, e)

-- ---- a contract, by the energies of the book that settles it

module _ (B L : Book) (k : Contract) {s : Source} {E : Energies} (e : s ≡ source_of k.kind) (q : E ≡ energies_of (pick s B L)) where
  pub settling : E ≡ energies_of (pick (settled_by k) B L)
  settling = q ∙ ap (λ (x : Source). energies_of (pick x B L)) e

  pub settling_paid : PaidBy (entries_by B L k) k → PaidBy E.entry k
  settling_paid z = rw (ap (λ (E : Energies). E.entry) settling ∙ picked (settled_by k)) z
    where
      picked : (s : Source) → (pick s B L).entry ≡ pick s B.entry L.entry
      picked Current = refl
      picked Locked = refl
