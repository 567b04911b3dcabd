-- The words of a column.
use Rattle.std.specs.Prelude.{ℕ, ◌<◌, List, Option, None, Some}
use Rattle.market.specs.Words.{region_name, payment_type_name, restart_name}
use Rattle.columns.specs.declared.Words.{Words}
use Rattle.columns.specs.declared.Words.TheVariants.{Service, PaymentType, Region}

-- x is the number of a word
abbrev pub Among : Option Words → ℕ → Type 0
Among None x = Unit
Among (Some Service) x = Unit
Among (Some PaymentType) x = x < 3
Among (Some Region) x = x < 5

-- that word; of no words, the one that there always is
abbrev pub word_in : Option Words → ℕ → List ℕ
word_in None x = restart_name
word_in (Some Service) x = restart_name
word_in (Some PaymentType) x = payment_type_name x
word_in (Some Region) x = region_name x
