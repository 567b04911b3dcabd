-- `text::put_settled` meets its contract: just the statement's length is lent, and it is written there. Assumes nothing.
use mathlib.Core.Path.{sym}
use lib.Seq.{length-take-le}
use Rattle.text.proofs.Ends.{fits, lies, is_statement_lem, said_given}
use Rattle.text.proofs.put_settled.Goals as goal

pub slice_bounds-buffer-end : goal.slice_bounds-buffer-end
slice_bounds-buffer-end c = fits c.args.book.now c.args.account (λ i. (c.type_inv.book i).fits) c.ranges.account.fits c.requires.n_value c.room-buffer.result c.room-buffer.ensures

pub slice_bounds-statement-end-2 : goal.slice_bounds-statement-end-2
slice_bounds-statement-end-2 c = sym (length-take-le _ _ (fits c.args.book.now c.args.account (λ i. (c.type_inv.book i).fits) c.ranges.account.fits c.requires.n_value c.room-buffer.result c.room-buffer.ensures))

pub slice_bounds-buffer-end-2 : goal.slice_bounds-buffer-end-2
slice_bounds-buffer-end-2 c = lies c.args.book.now c.args.account (λ i. (c.type_inv.book i).fits) c.ranges.account.fits c.requires.n_value c.room-buffer.result c.room-buffer.ensures c.statement-written.ensures

pub slice_bounds-put_statement-end : goal.slice_bounds-put_statement-end
slice_bounds-put_statement-end c = sym (length-take-le _ _ (lies c.args.book.now c.args.account (λ i. (c.type_inv.book i).fits) c.ranges.account.fits c.requires.n_value c.room-buffer.result c.room-buffer.ensures c.statement-written.ensures))

pub put_statement-requires : goal.put_statement-requires
put_statement-requires c = record { s_value = is_statement_lem c.args.book.now c.args.account (λ i. (c.type_inv.book i).fits) c.ranges.account.fits c.requires.n_value c.room-buffer.result c.room-buffer.ensures c.statement-written.ensures; in_bounds = c.requires.in_bounds }

pub returns : goal.returns
returns c = said_given c.args.book.now c.args.account (λ i. (c.type_inv.book i).fits) c.ranges.account.fits c.requires.n_value c.room-buffer.result c.room-buffer.ensures c.statement-written.ensures c.put_statement.ensures
