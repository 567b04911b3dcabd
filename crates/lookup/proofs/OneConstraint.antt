-- The line of a number among all lines of a constraint: one of its unit rows', or one of the others. Assumes nothing.
use Prim.Native.Nat.{ℕ, ◌-◌, ◌≤◌, ◌<◌}
use mathlib.Core.Path.{◌≡◌, ap, ◌∙◌}
use mathlib.Core.List.{List, ◌++◌}
use mathlib.Core.Logic.{⊎_elim}
use borrow.Author.Tests.{eq-eqb, ne_eqb}
use lib.ListN.{length}
use native.Mathlib.Omega.{arith}
use Rattle.std.specs.Prelude.{Result, Ok, Err}
use Rattle.ground.specs.Nth.{found, past, nth}
use Rattle.ground.proofs.Nth.{nth_front, nth_behind, nth_past}
use Rattle.sections.proofs.Cases.{is_zero}
use Rattle.records.specs.declared.rows.Constraint.{Constraint}
use Rattle.records.specs.declared.rows.UnitRow.{UnitRow}
use Rattle.amounts.specs.Pools.{pools_of, residual_pools}
use Rattle.accounts.specs.Rows.{joined}
use Rattle.accounts.proofs.Joined.{joined_nothing}
use Rattle.statement.specs.declared.Line.{Line}
use Rattle.lines.specs.Lines.{contingency_line, rest_lines}
use Rattle.groups.specs.Inner.Each.{each_of}
use Rattle.lines.specs.Inner.Walks.{unit_lines_at, con_lines}
use Rattle.groups.proofs.Numbering.{rest_length, single}
use Rattle.lines.proofs.UnitRows.{other_row}
use Rattle.lookup.specs.ByNumber.{numbered_in}
use Rattle.lookup.specs.Inner.Sought.{other_lines, Bare, SoughtIn}
use Rattle.lookup.specs.declared.constraint.Passed.{Passed}
use Rattle.lookup.proofs.Answered.{past_told, line_there, past_there}

-- ---- the lines besides those of unit rows

module _ (r : Constraint) (o t : ℕ) where
  pub other_length : length (other_lines r o t) ≡ each_of r
  unfolding other_lines
  other_length =
      ⊎_elim
      (λ (z : r.mode ≡ 0). rw (eq-eqb _ _ z) (single r z))
      (λ (d : r.mode ≡ 0 → ⊥). rw (ne_eqb _ _ d) (rest_length r (residual_pools r (pools_of r)) o t))
      (is_zero r.mode)

  pub past_others : (i : ℕ) {k : ℕ} → k ≡ each_of r → k ≤ i → Err (i - k) ≡ numbered_in (other_lines r o t) i
  past_others i {k} e l =
      let m : i - length (other_lines r o t) ≡ i - k = omega (arith, other_length) in
      past_told (other_lines r o t) i (nth_past (other_lines r o t) i (omega (arith, other_length)) ∙ ap past m)

  module _ (i : ℕ) (l : i < length (other_lines r o t)) where
    pub other_plain : {x : Line} → r.mode ≡ 0 → x ≡ contingency_line r o t → nth (other_lines r o t) i ≡ found x
    unfolding other_lines nth
    other_plain z e =
        let n = eq-eqb r.mode 0 z in
        let first : i ≡ 0 = omega (arith, rw n at l) in
        rw (n, first, e)

    module _ (d : r.mode ≡ 0 → ⊥) where
      pub rest_in : i < length (rest_lines r (residual_pools r (pools_of r)) o t)
      unfolding other_lines
      rest_in = rw (ne_eqb _ _ d) at l

      pub other_rest : {x : Line} → nth (rest_lines r (residual_pools r (pools_of r)) o t) i ≡ found x → nth (other_lines r o t) i ≡ found x
      unfolding other_lines
      other_rest h = rw (ne_eqb _ _ d) h

-- ---- all lines of a constraint

module _ (unit : ℕ → UnitRow) (m account : ℕ) (r : Constraint) (o t number : ℕ) (b : Bare unit m r) where
  abbrev unit_part : List Line
  unit_part = joined (unit_lines_at unit account r (pools_of r)) m

  parts : con_lines unit m account r o t ≡ unit_part ++ other_lines r o t
  unfolding con_lines other_lines
  parts =
      ⊎_elim
      (λ (z : r.mode ≡ 0). rw (eq-eqb _ _ z, joined_nothing (unit_lines_at unit account r (pools_of r)) m (λ u l. other_row unit account r (pools_of r) u (b.none z u l))))
      (λ (d : r.mode ≡ 0 → ⊥). rw (ne_eqb _ _ d))
      (is_zero r.mode)

  module _ {x : Result Line Passed} (h : SoughtIn unit m r unit_part number x) where
    -- a line of a unit row
    pub from_units : {l : Line} → x ≡ Ok l → SoughtIn unit m r (con_lines unit m account r o t) number (Ok l)
    unfolding SoughtIn
    from_units e = rw parts (nth_front unit_part (other_lines r o t) number (rw e at h))

    module _ {p : Passed} (e : x ≡ Err p) where
      behind : nth (con_lines unit m account r o t) number ≡ nth (other_lines r o t) p.left
      unfolding SoughtIn
      behind = rw parts (nth_behind unit_part (other_lines r o t) number (rw e at h).1)

      module _ {y : Result Line ℕ} (g : y ≡ numbered_in (other_lines r o t) p.left) where
        -- one of the others
        pub from_others : {l : Line} → y ≡ Ok l → SoughtIn unit m r (con_lines unit m account r o t) number (Ok l)
        unfolding SoughtIn
        from_others f = behind ∙ line_there (other_lines r o t) p.left g f

        -- or none
        pub from_none : {rest : ℕ} → y ≡ Err rest → SoughtIn unit m r (con_lines unit m account r o t) number (Err (record { row = p.row; left = rest }))
        unfolding SoughtIn
        from_none f = ((rw e at h).0, behind ∙ past_there (other_lines r o t) p.left g f)
