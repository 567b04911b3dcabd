-- `asked::nmas` meets its contract. Demand 1, and the file written and read, of what the call promises. Assumes nothing.
use Rattle.demands.proofs.Demand1.{every_input_is_answered}
use Rattle.demands.proofs.File.{file_is_the_statements}
use Rattle.asked.proofs.nmas.Goals as goal

pub returns : goal.returns
returns c = let call = c.fervolatro_nmas.ensures in record { answered = every_input_is_answered.file _ _ _ _ _ _ _ call; written_and_read = file_is_the_statements.written _ _ (λ i. (c.shared_slice_known-1.given i).fits) _ c.ranges.account.fits _ _ _ _ call }
