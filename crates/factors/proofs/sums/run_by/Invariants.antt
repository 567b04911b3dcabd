-- `factors::sums::run_by` meets its contract. The invariant: the rows so far belong to the run, their sums are made and fit, and `last` is the unit of the row before. Assumes nothing.
use Prim.Native.Nat.{ℕ, ◌*◌, ◌≤◌, ◌<◌}
use mathlib.Core.Path.{◌≡◌}
use mathlib.Core.Bool.{Bool, true}
use Rattle.records.specs.Rows.{unit_row}
use Rattle.records.specs.declared.rows.UnitRow.{UnitRow}
use Rattle.factors.specs.Inner.Runs.{Factor, of_sums, TestsAs, unit_before, sum_from}
use Rattle.factors.proofs.sums.run_by.Given as goal

abbrev pub invariant-loop-u : goal.invariant-loop-u
invariant-loop-u g l =
    record {
      next : l.t.next ≡ l.u;
      last : l.last ≡ unit_before (unit_row l.units) l.from l.u;
      room : (c : Factor) → of_sums c l.t ≤ l.u * 4_294_967_295;
      sum : (c : Factor) → of_sums c l.t ≡ sum_from (unit_row l.units) l.from l.u c;
      each : (test : UnitRow → ℕ → Bool) → TestsAs (goal.F-post g l.belongs) test → (u : ℕ) → l.from ≤ u → u < l.u → test (unit_row l.units u) (unit_before (unit_row l.units) l.from u) ≡ true;
    }
