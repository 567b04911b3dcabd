-- `statement::put_names` meets its contract: the bytes of the one number are the names'. Assumes nothing.
use mathlib.Core.Path.{ap, ◌∙◌}
use native.Mathlib.Omega.{arith}
use Rattle.ground.specs.Put.{put}
use Rattle.statement.proofs.Lines.{names_bytes}
use Rattle.statement.proofs.put_names.Goals as goal

pub returns : goal.returns
returns c = let args = c.args in
    c.put_u64.ensures
    ∙ ap (put args.buf.now args.at) (names_bytes args.id args.part args.regions (omega arith) (omega arith) (omega arith))
