-- The tree of records by their names: how it grows, and what the way of a name comes to. Assumes nothing.
use Prim.Native.Nat.{ℕ, zero, suc, ◌+◌, ◌*◌, ◌-◌, ◌%◌, ◌≤◌, ◌<◌}
use mathlib.Core.Path.{◌≡◌, refl, ◌∙◌, sym, ap}
use mathlib.Core.List.{List}
use mathlib.Core.Bool.{Bool, true, false}
use mathlib.Core.Logic.{⊎_elim}
use native.Mathlib.Omega.{arith}
use native.Mathlib.Nat.{eq-or-lt_of_le, le_of_suc-le-suc}
use borrow.Author.Tests.{eqb-true, eqb-false, lt-ltb, le-ltb}
use lib.Dec.{eqb, ltb}
use lib.ListN.{get_or, set, replicate, length-set, length-replicate}
use lib.Seq.{get_or-set_same, get_or-set_other}
use Rattle.sections.proofs.Search.{lt_or_ge}
use Rattle.census.specs.Inner.Tree.{key_of, root_of, bits_at, child_of, slot_at, link_at, Another, Place, Found, Grown}
use Rattle.sharing.specs.Inner.Seen.{seen}
use Rattle.sharing.proofs.Once.{seen_each, seen_none}

-- ---- links set

-- a link that is set where none was leaves the ways that come to no empty link
module _ (links : List ℕ) (s x : ℕ) (empty : get_or links s 0 ≤ 0) where
  kept_link : (t : ℕ) → 0 < get_or links t 0 → get_or (set links s x) t 0 ≡ get_or links t 0
  kept_link t f =
      let other : t ≡ s → ⊥ = λ q. let e : get_or links t 0 ≡ get_or links s 0 = rw q in omega (arith, f, e, empty) in
      get_or-set_other links s t x 0 other

  kept_slot : (a d : ℕ) → ((e : ℕ) → e < d → 0 < link_at links a e) → slot_at (set links s x) a d ≡ slot_at links a d
  unfolding slot_at
  kept_slot a zero f = refl
  kept_slot a (suc d) f =
      rw (kept_slot a d (λ e l. f e (omega arith)), kept_link (slot_at links a d) (f d (omega arith)))

  kept_found : (name : ℕ → ℕ) (a : ℕ) → Found name links a → Found name (set links s x) a
  kept_found name a w =
      record {
        depth = w.depth;
        filled = λ e l. rw (same e l) (w.filled e l);
        own = rw (same w.depth (omega arith)) w.own;
      }
    where
      same : (e : ℕ) → e ≤ w.depth → link_at (set links s x) a e ≡ link_at links a e
      same e l = rw (kept_slot a e (λ i m. w.filled i (omega arith))) (kept_link (slot_at links a e) (w.filled e l))

module _ (name : ℕ → ℕ) where
  -- ---- what the place of a name says

  -- a record of its name stands there
  pub place_old : (u a s : ℕ) {links : List ℕ} → Grown name u links → Place name links a s → 0 < get_or links s 0 → seen name u a ≡ true
  place_old u a s {links} g p f =
      let l : get_or links s 0 - 1 < u = omega (arith, g.rows s) in
      rw (p.own f) at (seen_each name u (get_or links s 0 - 1) l)

  -- it is empty, and no record has the name: it would have been found before, or here
  pub place_new : (u a s : ℕ) {links : List ℕ} → Grown name u links → Place name links a s → get_or links s 0 ≤ 0 → seen name u a ≡ false
  place_new u a s {links} g p z = seen_none name u a none
    where
      none : (k : ℕ) → k < u → name k ≡ a → ⊥
      none k l q =
          let w : Found name links a = rw q at (g.found k l) in
          ⊎_elim
          (λ (m : w.depth < p.depth). (p.passed w.depth m).other w.own)
          (λ (m : p.depth ≤ w.depth). let f : 0 < get_or links s 0 = rw p.here (w.filled p.depth m) in omega arith)
          (lt_or_ge w.depth p.depth)

  pub place_told : (u a s : ℕ) {links : List ℕ} → Grown name u links → Place name links a s → ltb 0 (get_or links s 0) ≡ seen name u a
  place_told u a s {links} g p =
      ⊎_elim
      (λ (f : 0 < get_or links s 0). lt-ltb 0 (get_or links s 0) f ∙ sym (place_old u a s g p f))
      (λ (z : get_or links s 0 ≤ 0). le-ltb 0 (get_or links s 0) z ∙ sym (place_new u a s g p z))
      (lt_or_ge 0 (get_or links s 0))

  -- ---- how the tree grows

  -- no record, no link
  pub grown_none : Grown name 0 (replicate 1456 0)
  grown_none =
      record {
        slots = length-replicate {A = ℕ} 1456 0;
        rows = λ s. rw (empty 1456 s) (omega arith);
        rises = λ s f. absurd (omega (arith, f, empty 1456 s));
        found = λ j l. absurd (omega arith);
      }
    where
      empty : (n s : ℕ) → get_or {A = ℕ} (replicate n 0) s 0 ≡ 0
      empty zero s = refl
      empty (suc n) zero = refl
      empty (suc n) (suc s) = empty n s

  -- record u has a name that is known, and is left out
  pub grown_old : (u s : ℕ) {a : ℕ} {links : List ℕ} → Grown name u links → a ≡ name u → Place name links a s → 0 < get_or links s 0 → Grown name (u + 1) links
  grown_old u s {a} {links} g q p f =
      record {
        slots = g.slots;
        rows = λ t. omega (arith, g.rows t);
        rises = g.rises;
        found = λ j l. ⊎_elim (λ (e : j ≡ u). rw (e, ← q) known) (λ (m : j < u). g.found j m) (eq-or-lt_of_le (last j l));
      }
    where
      last : (j : ℕ) → j < u + 1 → j ≤ u
      last j l = omega arith

      known : Found name links a
      known =
          record {
            depth = p.depth;
            filled = λ e l. ⊎_elim (λ (h : e ≡ p.depth). rw (h, ← p.here) f) (λ (h : e < p.depth). (p.passed e h).filled) (eq-or-lt_of_le l);
            own = rw (← p.here) (p.own f);
          }

  -- record u has a new name, and is put at its place
  pub grown_more : (u s : ℕ) {a : ℕ} {links links' : List ℕ} → Grown name u links → a ≡ name u → Place name links a s → s < 256 + 2 * u → u < 600 → get_or links s 0 ≤ 0 → links' ≡ set links s (u + 1) → Grown name (u + 1) links'
  grown_more u s {a} {links} g q p near few z e =
      rw e
      (record {
        slots = length-set links s (u + 1) ∙ g.slots;
        rows = λ t. row t (eqb t s) refl;
        rises = λ t. rise t (eqb t s) refl;
        found = λ j l. ⊎_elim (λ (h : j ≡ u). rw (h, ← q) put) (λ (m : j < u). kept_found links s (u + 1) z name (name j) (g.found j m)) (eq-or-lt_of_le (last j l));
      })
    where
      last : (j : ℕ) → j < u + 1 → j ≤ u
      last j l = omega arith

      there : get_or (set links s (u + 1)) s 0 ≡ u + 1
      there = get_or-set_same links s (u + 1) 0 (rw g.slots (omega arith))

      row : (t : ℕ) (b : Bool) → eqb t s ≡ b → get_or (set links s (u + 1)) t 0 ≤ u + 1
      row t true h = rw (eqb-true t s h, there) (omega arith)
      row t false h = rw (get_or-set_other links s t (u + 1) 0 (eqb-false t s h)) (omega (arith, g.rows t))

      rise : (t : ℕ) (b : Bool) → eqb t s ≡ b → 0 < get_or (set links s (u + 1)) t 0 → t < 254 + 2 * get_or (set links s (u + 1)) t 0
      rise t true h f = rw (eqb-true t s h, there) (omega arith)
      rise t false h f =
          let o : get_or (set links s (u + 1)) t 0 ≡ get_or links t 0 = get_or-set_other links s t (u + 1) 0 (eqb-false t s h) in
          rw o (g.rises t (rw o at f))

      same : (d : ℕ) → d ≤ p.depth → slot_at (set links s (u + 1)) a d ≡ slot_at links a d
      same d l = kept_slot links s (u + 1) z a d (λ e m. (p.passed e (omega arith)).filled)

      end : link_at (set links s (u + 1)) a p.depth ≡ u + 1
      end = rw (same p.depth (omega arith), ← p.here) there

      less : u + 1 - 1 ≡ u
      less = omega arith

      put : Found name (set links s (u + 1)) a
      put =
          record {
            depth = p.depth;
            filled = λ d l. ⊎_elim (λ (h : d ≡ p.depth). rw (h, end) (omega arith)) (λ (h : d < p.depth). rw (same d l, kept_link links s (u + 1) z (slot_at links a d) (p.passed d h).filled) (p.passed d h).filled) (eq-or-lt_of_le l);
            own = rw end (ap name less ∙ sym q);
          }

  -- ---- the way of a name a, link by link: at slot s after d children, all before it to records of other names

  pub record Way (u : ℕ) (links : List ℕ) (a s bits link : ℕ) : Type 0 where
    pub depth : ℕ
    pub here : s ≡ slot_at links a depth
    pub left : bits ≡ bits_at a depth
    pub small : bits < 4_294_967_296
    pub told : link ≡ get_or links s 0
    pub near : s < 256 + 2 * u
    pub passed : (e : ℕ) → e < depth → Another name a (link_at links a e)

  pub way_start : (u a : ℕ) {links : List ℕ} {key s bits link : ℕ} → key ≡ key_of a → s ≡ root_of key → s < 256 → bits ≡ key * 256 % 4_294_967_296 → link ≡ get_or links s 0 → Way u links a s bits link
  unfolding slot_at bits_at
  way_start u a k r l b t =
      record { depth = 0; here = rw (r, k) refl; left = rw (b, k) refl; small = rw b (omega arith); told = t; near = omega arith; passed = λ e m. absurd (omega arith) }

  -- the record of the link has another name
  pub way_on : (u a : ℕ) {links : List ℕ} {s bits link j b s' bits' link' : ℕ} → Grown name u links → Way u links a s bits link → 0 < link → j ≡ link - 1 → b ≡ name j → (b ≡ a → ⊥) → s' ≡ child_of link bits → bits' ≡ bits * 2 % 4_294_967_296 → link' ≡ get_or links s' 0 → Way u links a s' bits' link'
  unfolding slot_at bits_at
  way_on u a {links} {s} {bits} {link} g w f jl e d c n t =
      record {
        depth = suc w.depth;
        here = c ∙ rw (← w.here, ← w.told, ← w.left) refl;
        left = n ∙ rw w.left refl;
        small = rw n (omega arith);
        told = t;
        near = rw c (omega (arith, w.small, rw (← w.told) at (g.rows s)));
        passed = λ i m. ⊎_elim (λ (h : i ≡ w.depth). rw (h, ← w.here, ← w.told) (record { filled = f; other = λ q. d (e ∙ rw jl q) })) (λ (h : i < w.depth). w.passed i h) (eq-or-lt_of_le (le_of_suc-le-suc m));
      }

  -- the link is to a record of the tree
  pub way_row : (u a : ℕ) {links : List ℕ} {s bits link : ℕ} → Grown name u links → Way u links a s bits link → link ≤ u
  way_row u a {links} {s} g w = rw w.told (g.rows s)

  -- the way goes up in the list
  pub way_up : (u a : ℕ) {links : List ℕ} {s bits link s' : ℕ} → Grown name u links → Way u links a s bits link → 0 < link → s' ≡ child_of link bits → s < s'
  way_up u a {links} {s} g w f c = rw c (omega (arith, rw (← w.told) at (g.rises s (rw (← w.told) f))))

  -- it has the name
  pub way_found : (u a : ℕ) {links : List ℕ} {s bits link j b : ℕ} → Way u links a s bits link → j ≡ link - 1 → b ≡ name j → b ≡ a → Place name links a s
  way_found u a w jl e d =
      record { depth = w.depth; here = w.here; passed = w.passed; own = λ f. rw (← w.told, ← jl, ← e) d }

  -- or there is none
  pub way_end : (u a : ℕ) {links : List ℕ} {s bits link : ℕ} → Way u links a s bits link → link ≤ 0 → Place name links a s
  way_end u a w z = record { depth = w.depth; here = w.here; passed = w.passed; own = λ f. absurd (omega (arith, w.told)) }
