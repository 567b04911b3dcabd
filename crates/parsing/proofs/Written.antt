-- Written and read: a header and lines in range, written, are accepted, and reading gives back the header and the lines, in order.
-- Assumes nothing.
use Prim.Native.Nat.{ℕ, zero, suc, ◌+◌, ◌*◌, ◌/◌, ◌%◌, ◌^◌, ◌≤◌, ◌<◌}
use mathlib.Core.Path.{◌≡◌, refl, sym, ap, ◌∙◌}
use mathlib.Core.List.{List, [], ◌∷◌, ◌++◌, append_assoc}
use mathlib.Core.Bool.{true}
use native.Mathlib.Omega.{arith}
use native.Mathlib.Nat.{add-zero, le_refl}
use borrow.Author.Tests.{le-leb, leb-true, eq-eqb}
use lib.Dec.{eqb, leb}
use lib.IntN.{pos, nat_abs}
use lib.ListN.{length, take, drop, get_or, length-append}
use lib.Seq.{split_at, take-suc, take-length, length-take-le}
use mir.Syntax.{w64}
use mir.Val.{SFits}
use Rattle.ground.specs.Bytes.{byte_at, u16_at, u32_at, i64_at, part}
use Rattle.ground.specs.Inner.Each.{Each}
use Rattle.ground.specs.Inner.Every.{Every}
use Rattle.ground.specs.Le.{le16, le32, le64, int64}
use Rattle.ground.proofs.Each.{each_at}
use Rattle.ground.proofs.Every.{every, all}
use Rattle.ground.proofs.Part.{part_between, part_byte, part_u16, part_u32, part_i64}
use Rattle.ground.proofs.Back.{u16_stands, u32_stands, i64_stands}
use Rattle.numbers.proofs.Signs.{sized}
use Rattle.calendar.specs.Calendar.{days_in, is_interval, is_date, is_run, is_period}
use Rattle.sections.proofs.Search.{all_of_lem}
use Rattle.statement.specs.Statement.{rcs, heading_bytes, line_bytes, lines_bytes, statement_bytes}
use Rattle.statement.specs.declared.Heading.{Heading}
use Rattle.statement.specs.declared.Line.{Line}
use Rattle.statement.proofs.Lines.{heading_length, line_length, lines_length, lines_append, statement_length}
use Rattle.parsing.specs.Parsing.{heading_at, heading_ok, statement_marked, line_from, line_at, lines_in, regions_ok, unit_field_ok, amount_ok, line_ok, line_holds, headed, is_statement}
use Rattle.parsing.specs.Inner.Writable.{WritableHeading, WritableLine}
use Rattle.parsing.proofs.Read.{heading_is, line_is}

-- ---- what is in range fits

module _ (interval date run : ℕ) (p : is_period interval date run ≡ true) where
  period : Every (is_interval interval ∷ is_date date ∷ is_run run ∷ [])
  unfolding is_period
  period = every (is_interval interval ∷ is_date date ∷ is_run run ∷ []) p

  interval_fits : interval < 2 ^ 16
  interval_fits = omega (arith, leb-true interval 288 (every (leb 1 interval ∷ leb interval 288 ∷ []) period.0).1.0)

  date_fits : date < 2 ^ 32
  unfolding is_date
  date_fits =
      let y = date / 10_000 in
      let m = date / 100 % 100 in
      let d = date % 100 in
      let t = every (leb 2025 y ∷ leb y 2099 ∷ leb 1 m ∷ leb m 12 ∷ leb 1 d ∷ leb d (days_in y m) ∷ []) period.1.0 in
      omega (arith, leb-true y 2099 t.1.0)

  run_fits : run < 2 ^ 16
  run_fits = omega (arith, leb-true run 99 (every (leb 1 run ∷ leb run 99 ∷ []) period.1.1.0).1.0)

amount_fits : (l : Line) → line_ok l ≡ true → SFits w64 l.amount
amount_fits l e =
    let t = every (leb 1 l.id ∷ leb 1 l.part ∷ leb l.part 10 ∷ regions_ok l.part l.regions ∷ unit_field_ok l.part l.unit ∷ amount_ok l.part l.amount ∷ []) e in
    let a = every (leb (nat_abs l.amount) 50_000_000_000 ∷ _ ∷ []) t.1.1.1.1.1.0 in
    sized l.amount (omega (arith, leb-true (nat_abs l.amount) 50_000_000_000 a.0))

-- ---- a line's own bytes

module _ (y : Line) where
  own_id : y.id < 2 ^ 32 → u32_at (line_bytes y) 0 ≡ y.id
  unfolding line_bytes le16 le32 le64 int64
  own_id f = u32_stands [] ((y.part ∷ []) ++ (y.regions ∷ []) ++ le16 0 ++ le32 y.unit ++ le32 0 ++ int64 y.amount) y.id f

  own_unit_lem : y.unit < 2 ^ 32 → u32_at (line_bytes y) 8 ≡ y.unit
  unfolding line_bytes le16 le32 le64 int64
  own_unit_lem f = u32_stands (le32 y.id ++ (y.part ∷ []) ++ (y.regions ∷ []) ++ le16 0) (le32 0 ++ int64 y.amount) y.unit f

  own_amount : SFits w64 y.amount → i64_at (line_bytes y) 16 ≡ y.amount
  unfolding line_bytes le16 le32 le64 int64
  own_amount f =
      i64_stands (le32 y.id ++ (y.part ∷ []) ++ (y.regions ∷ []) ++ le16 0 ++ le32 y.unit ++ le32 0) [] y.amount f

  own_part : byte_at (line_bytes y) 4 ≡ y.part
  unfolding line_bytes le16 le32 le64 int64
  own_part = refl

  own_regions : byte_at (line_bytes y) 5 ≡ y.regions
  unfolding line_bytes le16 le32 le64 int64
  own_regions = refl

  own_spare16 : u16_at (line_bytes y) 6 ≡ 0
  unfolding line_bytes le16 le32 le64 int64
  own_spare16 = refl

  own_spare32 : u32_at (line_bytes y) 12 ≡ 0
  unfolding line_bytes le16 le32 le64 int64
  own_spare32 = refl

-- where there is no line
none : Line
none = record { id = 0; part = 0; regions = 0; unit = 0; amount = pos 0 }

module _ (h : Heading) (ls : List Line) where
  -- ---- the header

  module _ (w : WritableHeading h (length ls)) where
    tests : Every (is_period h.interval h.date h.run ∷ leb h.lines 2152 ∷ leb 1 h.account ∷ [])
    tests = every (is_period h.interval h.date h.run ∷ leb h.lines 2152 ∷ leb 1 h.account ∷ []) w.ok

    -- reading gives the header back
    pub heading_back : heading_at (statement_bytes h ls) ≡ h
    unfolding statement_bytes heading_bytes rcs le16 le32
    heading_back =
        let p = tests.0 in
        let e = lines_bytes ls in
        let front = rcs ++ (0 ∷ []) ++ le16 1 in
        let when = front ++ le16 h.interval ++ le32 h.date in
        sym (heading_is (statement_bytes h ls) h
        (sym (u32_stands (when ++ le16 h.run ++ le16 h.lines) (le32 0 ++ e) h.account w.account))
        (sym (u32_stands (front ++ le16 h.interval) (le16 h.run ++ le16 h.lines ++ le32 h.account ++ le32 0 ++ e) h.date (date_fits h.interval h.date h.run p)))
        (sym (u16_stands front (le32 h.date ++ le16 h.run ++ le16 h.lines ++ le32 h.account ++ le32 0 ++ e) h.interval (interval_fits h.interval h.date h.run p)))
        (sym (u16_stands when (le16 h.lines ++ le32 h.account ++ le32 0 ++ e) h.run (run_fits h.interval h.date h.run p)))
        (sym (u16_stands (when ++ le16 h.run) (le32 h.account ++ le32 0 ++ e) h.lines (omega (arith, leb-true h.lines 2152 tests.1.0)))))

  mark_back : statement_marked (statement_bytes h ls) ≡ true
  unfolding statement_bytes heading_bytes rcs le16 le32
  mark_back = refl

  -- ---- the lines

  -- line i stands at its place
  line_there : (i : ℕ) → i < length ls → part (statement_bytes h ls) (line_from i) 24 ≡ line_bytes (get_or ls i none)
  unfolding statement_bytes lines_bytes
  line_there i l =
      let y = get_or ls i none in
      let before = lines_bytes (take i ls) in
      let after = lines_bytes (drop (suc i) ls) in
      let split : lines_bytes ls ≡ before ++ (line_bytes y ++ after) = ap lines_bytes (split_at ls i none l) ∙ lines_append (take i ls) (y ∷ drop (suc i) ls) in
      let whole : heading_bytes h ++ lines_bytes ls ≡ heading_bytes h ++ before ++ line_bytes y ++ after = rw split (simp append_assoc) in
      let long : length (heading_bytes h ++ before) ≡ line_from i = rw (length-append, heading_length h, lines_length (take i ls), length-take-le i ls (omega arith)) (omega arith) in
      ap (λ (s : List ℕ). part s (line_from i) 24) whole ∙ part_between (heading_bytes h ++ before) (line_bytes y) after (line_from i) 24 long (line_length y)

  module _ (w : Each WritableLine ls) (i : ℕ) (l : i < length ls) where
    -- reading gives line i back
    line_back : line_at (statement_bytes h ls) i ≡ get_or ls i none
    line_back =
        let s = statement_bytes h ls in
        let y = get_or ls i none in
        let k = line_from i in
        let e = sym (line_there i l) in
        let v = each_at WritableLine ls w none i l in
        sym (line_is s i y
        (rw add-zero at (sym (own_id y v.id) ∙ ap (λ (t : List ℕ). u32_at t 0) e ∙ part_u32 s k 24 0 (omega arith)))
        (sym (own_part y) ∙ ap (λ (t : List ℕ). byte_at t 4) e ∙ part_byte s k 24 4 (omega arith))
        (sym (own_regions y) ∙ ap (λ (t : List ℕ). byte_at t 5) e ∙ part_byte s k 24 5 (omega arith))
        (sym (own_unit_lem y v.unit) ∙ ap (λ (t : List ℕ). u32_at t 8) e ∙ part_u32 s k 24 8 (omega arith))
        (sym (own_amount y (amount_fits y v.ok)) ∙ ap (λ (t : List ℕ). i64_at t 16) e ∙ part_i64 s k 24 16 (omega arith)))

    -- and it holds
    line_holds_lem : line_holds (statement_bytes h ls) i ≡ true
    unfolding line_holds
    line_holds_lem =
        let s = statement_bytes h ls in
        let y = get_or ls i none in
        let k = line_from i in
        let e = line_there i l in
        let a : u16_at s (k + 6) ≡ 0 = sym (part_u16 s k 24 6 (omega arith)) ∙ ap (λ (t : List ℕ). u16_at t 6) e ∙ own_spare16 y in
        let b : u32_at s (k + 12) ≡ 0 = sym (part_u32 s k 24 12 (omega arith)) ∙ ap (λ (t : List ℕ). u32_at t 12) e ∙ own_spare32 y in
        all (eqb (u16_at s (k + 6)) 0 ∷ eqb (u32_at s (k + 12)) 0 ∷ line_ok (line_at s i) ∷ [])
        (eq-eqb (u16_at s (k + 6)) 0 a, (eq-eqb (u32_at s (k + 12)) 0 b, (ap line_ok line_back ∙ (each_at WritableLine ls w none i l).ok, tt)))

  -- the first n lines
  lines_taken : Each WritableLine ls → (n : ℕ) → n ≤ length ls → lines_in (statement_bytes h ls) n ≡ take n ls
  unfolding lines_in
  lines_taken w zero l = refl
  lines_taken w (suc n) l = rw (lines_taken w n (omega arith), line_back w n l, take-suc ls n none l)

  -- reading gives all of them back, in order
  pub lines_back : Each WritableLine ls → lines_in (statement_bytes h ls) (length ls) ≡ ls
  lines_back w = lines_taken w (length ls) (le_refl (length ls)) ∙ take-length ls

  -- ---- the whole

  -- what is written is accepted
  pub written_accepted : WritableHeading h (length ls) → Each WritableLine ls → is_statement (statement_bytes h ls) ≡ true
  unfolding is_statement headed
  written_accepted w v =
      let s = statement_bytes h ls in
      let long = statement_length h ls in
      let count : (heading_at s).lines ≡ length ls = ap (λ (x : Heading). x.lines) (heading_back w) ∙ w.count in
      let ends : length s ≡ 24 + (heading_at s).lines * 24 = omega arith in
      let top = all (statement_marked s ∷ heading_ok (heading_at s) ∷ eqb (length s) (24 + (heading_at s).lines * 24) ∷ []) (mark_back, (ap heading_ok (heading_back w) ∙ w.ok, (eq-eqb (length s) (24 + (heading_at s).lines * 24) ends, tt))) in
      all (leb 24 (length s) ∷ headed s ∷ _ ∷ [])
      (le-leb 24 (length s) (omega arith), (top, (all_of_lem (line_holds s) (heading_at s).lines (λ i l. line_holds_lem v i (rw count at l)), tt)))
