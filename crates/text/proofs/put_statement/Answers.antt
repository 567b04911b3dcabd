-- `text::put_statement` meets its contract: the header, and the lines behind it. Assumes nothing.
use Rattle.text.proofs.Ends.{header_lies, heading_room, lines_lie, lines_room, said_statement}
use Rattle.text.proofs.put_statement.Goals as goal

pub heading_at-h-requires : goal.heading_at-h-requires
heading_at-h-requires c = header_lies _ c.requires.s_value

pub put_heading-e-requires : goal.put_heading-e-requires
put_heading-e-requires c = heading_room _ c.requires.s_value (λ i. (c.type_inv.s i).fits) _ c.heading_at-h.ensures c.args.text.now c.requires.in_bounds

pub put_lines-requires : goal.put_lines-requires
put_lines-requires c = (
  lines_lie _ c.requires.s_value (λ i. (c.type_inv.s i).fits) _ c.heading_at-h.ensures c.args.text.now c.requires.in_bounds,
  lines_room _ c.requires.s_value (λ i. (c.type_inv.s i).fits) _ c.heading_at-h.ensures c.args.text.now c.requires.in_bounds c.put_heading-e.ensures,
)

pub returns : goal.returns
returns c = said_statement _ c.requires.s_value (λ i. (c.type_inv.s i).fits) _ c.heading_at-h.ensures c.args.text.now c.requires.in_bounds c.put_heading-e.ensures c.put_lines.ensures
