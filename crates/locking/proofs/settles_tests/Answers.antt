-- `locking::settles_tests` meets its contract. The locked book is read where a test payment is found. Assumes nothing.
use Rattle.locking.proofs.Tests.{no_test, a_test}
use Rattle.locking.proofs.settles_tests.Goals as goal

pub returns-in-None : goal.returns-in-None
returns-in-None c = rw (no_test _ _ c.first_test.ensures c.in-None.is)

pub returns-in-Some : goal.returns-in-Some
returns-in-Some c = rw (a_test _ _ _ c.first_test.ensures c.in-Some.is)
