-- `sharing::shares::gather` meets its contract. The invariant, `Gathered`: the sum is what the rows so far of the account own. It ends at another account's row or behind the last, and either way no row of the account is left. Assumes nothing.
use mathlib.Core.Path.{◌≡◌}
use native.Mathlib.Omega.{arith}
use Rattle.sharing.proofs.Groups.{gather_start, gather_more, gather_fits, gather_stop, gather_end}
use Rattle.sharing.proofs.shares.gather.Goals as goal

pub loop-j-init : goal.loop-j-init
loop-j-init c = gather_start _ _ _ _ c.energy_row-account.ensures c.requires.stands

pub returns-then-r-account : goal.returns-then-r-account
returns-then-r-account c = gather_stop _ _ _ c.requires.sorted c.loop-j.invariant (omega arith) c.energy_row-r.ensures (λ z. omega arith)

pub loop-j-preserved : goal.loop-j-preserved
loop-j-preserved c = gather_more _ _ _ c.loop-j.invariant (omega arith) c.energy_row-r.ensures (omega arith) c.energy_in-own.ensures

pub overflow_add-own : goal.overflow_add-own
overflow_add-own c = omega (arith, gather_fits _ _ _ c.requires.sorted (loop-j-preserved c))

pub returns : goal.returns
returns c = let e : c.loop-j.j ≡ c.args.n = omega arith in
    rw e at (gather_end _ _ _ c.loop-j.invariant e)
