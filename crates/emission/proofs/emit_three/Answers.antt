-- `emission::emit_three` meets its contract. One line, and then two. Assumes nothing.
use mathlib.Core.List.{[], ◌∷◌}
use Rattle.emission.proofs.Emission.{emitted_one, emitted_more, room_rest}
use Rattle.emission.proofs.emit_three.Goals as goal

pub emit_two-requires : goal.emit_two-requires
emit_two-requires c = room_rest (c.args.first ∷ []) 2 c.requires (emitted_one _ c.put_line-next.ensures)

pub returns : goal.returns
returns c = emitted_more (c.args.first ∷ []) (c.args.second ∷ c.args.third ∷ []) (emitted_one _ c.put_line-next.ensures) c.emit_two.ensures
