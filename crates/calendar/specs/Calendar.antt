-- The trading interval that a book or a statement is of: its date, its number in the day and the run.
use Rattle.std.specs.Prelude.{ℕ, ◌/◌, ◌%◌, Bool, ◌&&◌, ◌||◌, not, cond, eqb, leb}

-- every fourth year, but of the full centuries only every fourth
abbrev pub leap_year : ℕ → Bool
leap_year year = eqb (year % 4) 0 && (not (eqb (year % 100) 0) || eqb (year % 400) 0)

-- April, June, September, November
abbrev pub thirty_days : ℕ → Bool
thirty_days month = eqb month 4 || eqb month 6 || eqb month 9 || eqb month 11

unfoldable pub days_in : ℕ → ℕ → ℕ
days_in year month = cond (eqb month 2) (cond (leap_year year) 29 28) (cond (thirty_days month) 30 31)

-- 01, The book: "date u32 as YYYYMMDD, a real date in 2025 to 2099"
abbrev pub real_date : ℕ → ℕ → ℕ → Bool
real_date year month day = leb 2025 year && leb year 2099 && leb 1 month && leb month 12 && leb 1 day && leb day (days_in year month)

unfoldable pub is_date : ℕ → Bool
is_date date = real_date (date / 10_000) (date / 100 % 100) (date % 100)

-- 01, The book: "interval u16, 1 to 288"
abbrev pub is_interval : ℕ → Bool
is_interval interval = leb 1 interval && leb interval 288

-- 01, The book: "run u16, 1 to 99"
abbrev pub is_run : ℕ → Bool
is_run run = leb 1 run && leb run 99

unfoldable pub is_period : ℕ → ℕ → ℕ → Bool
is_period interval date run = is_interval interval && is_date date && is_run run
