-- A contract's lines in one region: none, or two. Assumes nothing.
use Prim.Native.Nat.{ℕ}
use mathlib.Core.Path.{◌≡◌}
use mathlib.Core.List.{List, [], ◌∷◌}
use borrow.Author.Tests.{eq-eqb, ne_eqb}
use lib.ListN.{length}
use Rattle.rules.specs.Rules.{factor_of}
use Rattle.records.specs.declared.rows.Entry.{Entry}
use Rattle.records.specs.declared.rows.Contract.{Contract}
use Rattle.amounts.specs.Pools.{halves_of}
use Rattle.amounts.specs.declared.pools.Halves.{Halves}
use Rattle.statement.specs.declared.Line.{Line}
use Rattle.lines.specs.Lines.{ace_line, asoe_line, region_lines}
use Rattle.emission.specs.Inner.Emitted.{Emitted, LineRoom}
use Rattle.emission.proofs.Emission.{emitted_none}

module _ (entry own : ℕ → Entry) (k : Contract) (g : ℕ) {l : List ℕ} {t : ℕ} where
  pub region_none : factor_of k.factors g ≡ 0 → Emitted l t (region_lines entry own k g) l t
  unfolding region_lines
  region_none e = rw (eq-eqb _ _ e) (emitted_none l t)

  module _ (d : factor_of k.factors g ≡ 0 → ⊥) where
    pub region_room : LineRoom l t (length (region_lines entry own k g)) → LineRoom l t 2
    unfolding region_lines
    region_room h = rw (ne_eqb _ _ d) at h

    pub region_out : {x : Halves} {e : Entry} {a s : Line} {b : List ℕ} {y : ℕ} → x ≡ halves_of k.payment (factor_of k.factors g) → e ≡ entry g → a ≡ ace_line k.id g x (own g).ace e.ace → s ≡ asoe_line k.id g x (own g).asoe e.asoe → Emitted l t (a ∷ s ∷ []) b y → Emitted l t (region_lines entry own k g) b y
    unfolding region_lines
    region_out p q r s h = rw (ne_eqb _ _ d) (rw (r, s, p, q) at h)
