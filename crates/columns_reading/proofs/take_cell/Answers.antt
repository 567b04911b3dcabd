-- `columns_reading::take_cell` meets its contract. What is read as a number, or as a word, is the column's field. Assumes nothing.
use Rattle.columns_reading.proofs.Cells.{words_in, as_number_cell, as_word_cell}
use Rattle.columns_reading.proofs.take_cell.Goals as goal

pub returns-in-None : goal.returns-in-None
returns-in-None c = as_number_cell c.args.column c.of-f.ensures c.end_of-end.ensures c.args.text.now c.args.at c.in-None.is _ c.take_number.ensures

pub returns-in-Some : goal.returns-in-Some
returns-in-Some c = let w = words_in c.args.column c.requires c.of-f.ensures _ c.in-Some.is in
    as_word_cell c.args.column c.of-f.ensures c.end_of-end.ensures c.args.text.now c.args.at _ c.in-Some.is w.first _ c.take_word.ensures
