-- The statement's lines that a row of the reconciliation file stands for.
use Rattle.std.specs.Prelude.{◌^◌, true, List, [], ◌∷◌}
use Rattle.numbers.specs.Sign.{signed}
use Rattle.statement.specs.declared.Line.{Line}
use Rattle.nmas.specs.declared.Row.{Row}

-- two lines of its contract and region, 9 by ACE and 10 by ASOE: "recovery amounts keep our lines' sign"
unfoldable pub row_lines : Row → List Line
row_lines r =
    record { id = r.contract; part = 9; regions = 2 ^ r.region; unit = 0; amount = signed true r.by_ace }
    ∷ record { id = r.contract; part = 10; regions = 2 ^ r.region; unit = 0; amount = signed true r.by_asoe }
    ∷ []
