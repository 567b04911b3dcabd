-- What a caller in C or Rust is answered for each case of a verdict, of a written statement, of one that is read, of a pool's balance, of
-- what one of its stages cut off, of a payment or a base cost, and of a reconciliation file that is read.
use Rattle.sections.specs.declared.Refusal.{Refusal}
use Rattle.sections.specs.Refusal.{Verdict}
use Rattle.std.specs.Prelude.{ℕ, pos, true, false, ◌≡◌, List, Result, Ok, Err}
use Rattle.statement.specs.Lent.{Outcome, answer_for, left_in}
use Rattle.statement.specs.declared.Heading.{Heading}
use Rattle.statement.specs.declared.Line.{Line}
use Rattle.balance.specs.declared.Balance.{Balance}
use Rattle.cutoffs.specs.declared.Cut.{Cut}
use Rattle.cutoffs.specs.declared.Stage.{Stage}
use Rattle.cutoffs.specs.declared.Stage.TheVariants as stage
use Rattle.numbers.specs.Sign.{signed}
use Rattle.nmas.specs.declared.Row.{Row}
use Rattle.nmas_reading.specs.Reading.{TextRead, rows_read, row_read}
use Rattle.answers.specs.declared.VerdictAnswer.{VerdictAnswer}
use Rattle.answers.specs.declared.WrittenAnswer.{WrittenAnswer}
use Rattle.answers.specs.declared.HeadingAnswer.{HeadingAnswer}
use Rattle.answers.specs.declared.EntryAnswer.{EntryAnswer}
use Rattle.answers.specs.declared.PoolAnswer.{PoolAnswer}
use Rattle.answers.specs.declared.CutAnswer.{CutAnswer}
use Rattle.answers.specs.declared.CostAnswer.{CostAnswer}
use Rattle.answers.specs.declared.NmasSizeAnswer.{NmasSizeAnswer}
use Rattle.answers.specs.declared.NmasEntryAnswer.{NmasEntryAnswer}

-- 01, Refusals: "A refusal answers its number and place"; acceptance is number 0 at place 0
unfoldable pub verdict_answer : Verdict → VerdictAnswer
verdict_answer (Ok _) = record { refusal = 0; place = 0 }
verdict_answer (Err e) = record { refusal = e.number; place = e.place }

-- "A refusal answers its number and place, any other number in the answer 0"
unfoldable pub written_answer : Result ℕ Refusal → WrittenAnswer
written_answer (Ok length) = record { refusal = 0; place = 0; length = length }
written_answer (Err e) = record { refusal = e.number; place = e.place; length = 0 }

-- what the call answers, and what the buffer holds then
pub record Called (o : Outcome) (l : List ℕ) (r : WrittenAnswer) (b : List ℕ) : Type 0 where
  pub answer : r ≡ written_answer (answer_for o l)
  pub left : b ≡ left_in o l

unfoldable pub heading_answer : Result Heading Refusal → HeadingAnswer
heading_answer (Ok h) =
    record { refusal = 0; place = 0; account = h.account; date = h.date; interval = h.interval; run = h.run; lines = h.lines }
heading_answer (Err e) =
    record { refusal = e.number; place = e.place; account = 0; date = 0; interval = 0; run = 0; lines = 0 }

unfoldable pub entry_answer : Result Line Refusal → EntryAnswer
entry_answer (Ok l) =
    record { refusal = 0; place = 0; id = l.id; part = l.part; regions = l.regions; unit = l.unit; amount = l.amount }
entry_answer (Err e) =
    record { refusal = e.number; place = e.place; id = 0; part = 0; regions = 0; unit = 0; amount = pos 0 }

unfoldable pub pool_answer : Result Balance Refusal → PoolAnswer
pool_answer (Ok b) = record { refusal = 0; place = 0; amount = b.amount; lines = b.lines; sum = b.sum }
pool_answer (Err e) = record { refusal = e.number; place = e.place; amount = pos 0; lines = 0; sum = pos 0 }

-- the numbers of the stages, in the order in which a pool has them
unfoldable pub stage_number : Stage → ℕ
stage_number stage.Line = 1
stage_number stage.Pool = 2
stage_number stage.Unit = 3
stage_number stage.Residual = 4
stage_number stage.Share = 5
stage_number stage.Whole = 6
stage_number stage.Half = 7
stage_number stage.Ace = 8
stage_number stage.Asoe = 9

unfoldable pub cut_answer : Result Cut Refusal → CutAnswer
cut_answer (Ok c) = record { refusal = 0; place = 0; stage = stage_number c.stage; region = c.region; divisor = c.divisor; cut = c.cut }
cut_answer (Err e) = record { refusal = e.number; place = e.place; stage = 0; region = 0; divisor = 0; cut = pos 0 }

unfoldable pub cost_answer : Result ℕ Refusal → CostAnswer
cost_answer (Ok amount) = record { refusal = 0; place = 0; amount = amount }
cost_answer (Err e) = record { refusal = e.number; place = e.place; amount = 0 }

unfoldable pub nmas_size_answer : Result ℕ Refusal → NmasSizeAnswer
nmas_size_answer (Ok n) = record { refusal = 0; place = 0; rows = n }
nmas_size_answer (Err e) = record { refusal = e.number; place = e.place; rows = 0 }

-- a row with its signs: "ACE keeps its minus", "recovery amounts keep our lines' sign"
unfoldable pub nmas_row_answer : Row → NmasEntryAnswer
nmas_row_answer r =
    record {
      refusal = 0;
      place = 0;
      date = r.date;
      run = r.run;
      interval = r.interval;
      account = r.account;
      contract = r.contract;
      payment_type = r.payment_type;
      region = r.region;
      factor = r.factor;
      payment = r.payment;
      recovery = signed true r.recovery;
      own_ace = signed true r.own_ace;
      region_ace = signed true r.region_ace;
      own_asoe = signed false r.own_asoe;
      region_asoe = signed false r.region_asoe;
      by_ace = signed true r.by_ace;
      by_asoe = signed true r.by_asoe;
    }

-- "any other number in the answer 0"
unfoldable pub no_row_answer : ℕ → ℕ → NmasEntryAnswer
no_row_answer number place =
    record {
      refusal = number;
      place = place;
      date = 0;
      run = 0;
      interval = 0;
      account = 0;
      contract = 0;
      payment_type = 0;
      region = 0;
      factor = 0;
      payment = 0;
      recovery = pos 0;
      own_ace = pos 0;
      region_ace = pos 0;
      own_asoe = pos 0;
      region_asoe = pos 0;
      by_ace = pos 0;
      by_asoe = pos 0;
    }

unfoldable pub nmas_entry_answer : Result Row Refusal → NmasEntryAnswer
nmas_entry_answer (Ok r) = nmas_row_answer r
nmas_entry_answer (Err e) = no_row_answer e.number e.place

-- what the two calls on a text answer, by its one reading
pub record SizeCalled (s : List ℕ) (r : NmasSizeAnswer) : Type 0 where
  pub reading : TextRead s
  pub answer : r ≡ nmas_size_answer (rows_read reading)

pub record EntryCalled (s : List ℕ) (index : ℕ) (r : NmasEntryAnswer) : Type 0 where
  pub reading : TextRead s
  pub answer : r ≡ nmas_entry_answer (row_read reading index)
