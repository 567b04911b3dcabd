-- The lines of the listing's text. 01, Worked interval: "For account 7 it prints the header, then id, part, regions, unit, dollars to four
-- places, any minus first". Each line ends in a line feed.
use Rattle.std.specs.Prelude.{ℕ, List, [], ◌∷◌, ◌++◌, ℤ}
use Rattle.decimal.specs.Decimal.{decimal_of, signed_text}
use Rattle.words.specs.Words.{in_row, named_text}
use Rattle.statement.specs.declared.Heading.{Heading}
use Rattle.statement.specs.declared.Line.{Line}

-- ---- words, by their bytes

abbrev pub line_feed : List ℕ
line_feed = 10 ∷ []

-- " "
abbrev pub blank : List ℕ
blank = 32 ∷ []

-- "refused "
abbrev pub refused_word : List ℕ
refused_word = 114 ∷ 101 ∷ 102 ∷ 117 ∷ 115 ∷ 101 ∷ 100 ∷ 32 ∷ []

-- " at "
abbrev pub at_word : List ℕ
at_word = 32 ∷ 97 ∷ 116 ∷ 32 ∷ []

-- "account "
abbrev pub account_word : List ℕ
account_word = 97 ∷ 99 ∷ 99 ∷ 111 ∷ 117 ∷ 110 ∷ 116 ∷ 32 ∷ []

-- " date "
abbrev pub date_word : List ℕ
date_word = 32 ∷ 100 ∷ 97 ∷ 116 ∷ 101 ∷ 32 ∷ []

-- " interval "
abbrev pub interval_word : List ℕ
interval_word = 32 ∷ 105 ∷ 110 ∷ 116 ∷ 101 ∷ 114 ∷ 118 ∷ 97 ∷ 108 ∷ 32 ∷ []

-- " run "
abbrev pub run_word : List ℕ
run_word = 32 ∷ 114 ∷ 117 ∷ 110 ∷ 32 ∷ []

-- " lines "
abbrev pub lines_word : List ℕ
lines_word = 32 ∷ 108 ∷ 105 ∷ 110 ∷ 101 ∷ 115 ∷ 32 ∷ []

-- ---- lines of text

-- "dollars to four places, any minus first": an amount is in ten-thousandths of a dollar
abbrev pub dollars_of : ℤ → List ℕ
dollars_of z = signed_text z 4

-- "A refusal prints `refused N at PLACE`."
abbrev pub refusal_pieces : ℕ → ℕ → List (List ℕ)
refusal_pieces number place = named_text refused_word number ∷ named_text at_word place ∷ line_feed ∷ []

unfoldable pub refusal_text : ℕ → ℕ → List ℕ
refusal_text number place = in_row (refusal_pieces number place)

-- "it prints the header": "account 7 date 20250608 interval 1 run 1 lines 12"
abbrev pub heading_pieces : Heading → List (List ℕ)
heading_pieces h =
    named_text account_word h.account
    ∷ named_text date_word h.date
    ∷ named_text interval_word h.interval
    ∷ named_text run_word h.run
    ∷ named_text lines_word h.lines
    ∷ line_feed
    ∷ []

unfoldable pub heading_text : Heading → List ℕ
heading_text h = in_row (heading_pieces h)

-- "then id, part, regions, unit, dollars": "500 3 1 1 59.1300"
abbrev pub line_pieces : Line → List (List ℕ)
line_pieces l =
    decimal_of l.id
    ∷ named_text blank l.part
    ∷ named_text blank l.regions
    ∷ named_text blank l.unit
    ∷ blank
    ∷ dollars_of l.amount
    ∷ line_feed
    ∷ []

unfoldable pub line_text : Line → List ℕ
line_text l = in_row (line_pieces l)

-- lines, one after the other
unfoldable pub lines_text : List Line → List ℕ
lines_text [] = []
lines_text (l ∷ ls) = line_text l ++ lines_text ls

-- "it prints the header, then" each line
unfoldable pub statement_text : Heading → List Line → List ℕ
statement_text h ls = heading_text h ++ lines_text ls
