-- What an accepted book gives to the walk over it, where the account's own energy is part of each region's. Assumes nothing.
use Prim.Native.Nat.{ℕ, ◌≤◌, ◌<◌}
use mathlib.Core.Path.{◌≡◌, ap, ◌∙◌}
use mathlib.Core.Bool.{Bool, true, false, cond}
use native.Mathlib.Omega.{arith}
use Rattle.sections.proofs.Total.{total_bound, total_under}
use Rattle.market.specs.Kinds.{basis_of, bit_set}
use Rattle.market.specs.declared.Basis.TheVariants.{Ace, Asoe}
use Rattle.records.specs.declared.rows.Entry.{Entry}
use Rattle.records.specs.declared.rows.Constraint.{Constraint}
use Rattle.totals.specs.Sums.{entry_by}
use Rattle.totals.specs.Divisors.{counted_in, over_regions}
use Rattle.totals.specs.Inner.Totals.{entry_of}
use Rattle.totals.specs.declared.entries.Totals.{Totals}
use Rattle.totals.proofs.Turns.{under_rule, share_small}
use Rattle.rules.specs.Inner.Facts.{EntryRule}
use Rattle.locking.specs.Locking.{settled_by, pick}
use Rattle.locking.specs.declared.Source.{Source}
use Rattle.locking.specs.declared.Source.TheVariants.{Current, Locked}
use Rattle.accounts.specs.declared.energies.OwnEnergies.{OwnEnergies}
use Rattle.book.specs.Book.{Book}
use Rattle.book.specs.Inner.Accepted.{AtMostEntry, Sound, Promise}
use Rattle.lines.specs.Inner.Shared.{Shared}
use Rattle.lines.specs.Inner.Walks.{Ready, SettledIn, Walkable}
use Rattle.walk.proofs.Order.{rises_once}
use Rattle.count.specs.Inner.Counts.{Countable}

-- ---- an account's energy in a region

-- what a constraint counts of it is no more than what it counts of the region's
within_share : (r : Constraint) (e x : Entry) (g : ℕ) → AtMostEntry e x → counted_in r x g ≤ counted_in r e g
unfolding counted_in
within_share r e x g w = by (bit_set r.mask g)
  where
    by : (a : Bool) → cond a (entry_by (basis_of r.service) x) 0 ≤ cond a (entry_by (basis_of r.service) e) 0
    by true = w.each (basis_of r.service)
    by false = omega arith

-- ---- a sound book

module _ (B : Book) (h : Sound B) where
  -- no unit row names a constraint of mode 0
  pub bare_of : (j : ℕ) → j < B.header.constraints → (B.constraint j).mode ≡ 0 → (u : ℕ) → u < B.header.units → (B.unit u).constraint ≡ (B.constraint j).id → ⊥
  bare_of j l z u b e =
      let o = h.owner u b in
      let same = rises_once (λ j. (B.constraint j).id) B.header.constraints h.ordered.constraints o.place j o.within l (o.same ∙ e) in
      o.live (ap (λ i. (B.constraint i).mode) same ∙ z)

  -- all that counting an account's lines rests on
  pub countable_of : Countable B.constraint B.header.constraints B.unit B.header.units
  countable_of =
      record {
        few = h.few.constraints;
        walked = record { few = h.few.units; rules = h.fields.units; keep = record { keep = h.ordered.units.first } };
        rise = h.ordered.constraints;
        names = h.named.names;
        bare = bare_of;
      }

-- ---- an accepted book, and the account's energies in it and in the one that test payments are settled by

abbrev pub Within : Book → Totals → Type 0
Within B own = (g : ℕ) → g < 5 → AtMostEntry (B.entry g) (entry_of own g)

module _ (B L : Book) (h : Promise B L) (own : OwnEnergies) (within : Within B own.current) (locked_within : Within L own.locked) where
  -- the account's energy over a constraint's regions is part of a total that is not 0
  shared_of : (j : ℕ) → j < B.header.constraints → Shared (over_regions (entry_of own.current) (B.constraint j)) (over_regions B.entry (B.constraint j))
  shared_of j l =
      record {
        part = total_under (λ g. counted_in (B.constraint j) (entry_of own.current g) g) (λ g. counted_in (B.constraint j) (B.entry g) g) 5 (λ g b. within_share (B.constraint j) (B.entry g) (entry_of own.current g) g (within g b));
        above = h.divisor j l;
        below = omega (arith, total_bound (λ g. counted_in (B.constraint j) (B.entry g) g) 20_000_000 5 (λ g b. share_small (B.constraint j) (B.entry g) g (h.sound.fields.entries g b)));
      }

  -- all that settling its constraints rests on
  ready_of : Ready B.entry B.constraint B.header.constraints B.unit B.header.units own.current
  ready_of =
      record {
        rules = h.sound.fields.constraints;
        walked = (countable_of B h.sound).walked;
        rise = (countable_of B h.sound).rise;
        names = (countable_of B h.sound).names;
        bare = bare_of B h.sound;
        entries = h.sound.fields.entries;
        energy = λ g b. under_rule (within g b).each (h.sound.fields.entries g b);
        shared = shared_of;
      }

  -- all that settling contract k rests on, in the book that settles it
  payable_of : (k : ℕ) → k < B.header.contracts → SettledIn B.entry L.entry own (B.contract k)
  payable_of k l =
      record {
        rule = h.sound.fields.contracts k l;
        ace = λ g b d. part ((picked_within s g b).each Ace) (h.funded k l g b d).ace (picked_rule s g b).ace;
        asoe = λ g b d. part ((picked_within s g b).each Asoe) (h.funded k l g b d).asoe (picked_rule s g b).asoe;
      }
    where
      s : Source
      s = settled_by (B.contract k)

      picked_within : (s : Source) (g : ℕ) → g < 5 → AtMostEntry (pick s B.entry L.entry g) (entry_of (pick s own.current own.locked) g)
      picked_within Current = within
      picked_within Locked = locked_within

      picked_rule : (s : Source) (g : ℕ) → g < 5 → EntryRule (pick s B.entry L.entry g)
      picked_rule Current = h.sound.fields.entries
      picked_rule Locked = h.locked.fields.entries

      part : {x y : ℕ} → x ≤ y → 0 < y → y ≤ 20_000_000 → Shared x y
      part a b c = record { part = a; above = b; below = omega arith }

  -- and so the walk
  pub walkable_of : Walkable B L own
  walkable_of = record { ready = ready_of; payable = payable_of }
