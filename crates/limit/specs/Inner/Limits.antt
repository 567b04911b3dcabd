-- 12, by the pools: a line is a share of one, and at most as large. Only contracts of inner functions speak of these; proofs/UnderLimit ties
-- them to the lines (lines/specs/Limit.antt).
use Rattle.std.specs.Prelude.{Bool, ◌||◌, ltb}
use Rattle.ground.specs.Units.{money_limit}
use Rattle.sections.specs.Search.{some}
use Rattle.records.specs.declared.rows.Constraint.{Constraint}
use Rattle.records.specs.declared.rows.Contract.{Contract}
use Rattle.amounts.specs.Pools.{pools_of}
use Rattle.book.specs.Book.{Book}

-- whether a constraint's cost, of which its used and its unused pool are parts, or its FPP pool passes the limit
unfoldable pub constraint_over : Constraint → Bool
constraint_over r = ltb money_limit r.cost || ltb money_limit (pools_of r).fpp

-- whether a contract's payment does
abbrev pub contract_over : Contract → Bool
contract_over k = ltb money_limit k.payment

unfoldable pub book_over : Book → Bool
book_over B = some (λ j. constraint_over (B.constraint j)) B.header.constraints || some (λ k. contract_over (B.contract k)) B.header.contracts
