-- `statement::put_unit` meets its contract: the bytes of the one number are the unit's, and four of 0. Assumes nothing.
use mathlib.Core.Path.{ap, ◌∙◌}
use native.Mathlib.Omega.{arith}
use Rattle.ground.specs.Put.{put}
use Rattle.statement.proofs.Lines.{unit_bytes_lem}
use Rattle.statement.proofs.put_unit.Goals as goal

pub returns : goal.returns
returns c = let args = c.args in
    c.put_u64.ensures ∙ ap (put args.buf.now args.at) (unit_bytes_lem args.unit (omega arith))
