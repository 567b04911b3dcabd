-- `emission::emit_two` meets its contract. One line after the other. Assumes nothing.
use mathlib.Core.List.{[], ◌∷◌}
use native.Mathlib.Omega.{arith}
use Rattle.emission.proofs.Emission.{emitted_one, emitted_more, room_rest}
use Rattle.emission.proofs.emit_two.Goals as goal

pub put_line-requires : goal.put_line-requires
put_line-requires c = omega (arith, (room_rest (c.args.first ∷ []) 1 c.requires (emitted_one _ c.put_line-next.ensures)).fits)

pub returns : goal.returns
returns c = emitted_more (c.args.first ∷ []) (c.args.second ∷ []) (emitted_one _ c.put_line-next.ensures) (emitted_one _ c.put_line.ensures)
