-- The numbers that 01 gives in more than one place, each written once. 01, The job: "Units: money in ten-thousandths of a dollar (\"units of
-- money\"), energy in kWh, factors and usage in millionths, price in cents per MWh, response (RCR) in thousandths of a MW."
use Rattle.std.specs.Prelude.{ℕ}

-- a factor or a usage of one: "factors and usage in millionths"
abbrev pub million : ℕ
million = 1_000_000

-- what no cost, no payment and no line passes: "cost i64, 0 to 50,000,000,000", "a line would pass 50,000,000,000 either way"
abbrev pub money_limit : ℕ
money_limit = 50_000_000_000

-- what no energy of a row or of a region passes: "-20,000,000 to 0", "0 to 20,000,000"
abbrev pub energy_limit : ℕ
energy_limit = 20_000_000

-- and hence no energy of the five regions together
abbrev pub total_limit : ℕ
total_limit = 100_000_000

-- "price u32, to 2,500,000; RCR u32, to 10,000,000"; "Price times RCR is at most 6,000,000,000,000."
abbrev pub price_limit : ℕ
price_limit = 2_500_000

abbrev pub rcr_limit : ℕ
rcr_limit = 10_000_000

abbrev pub fpp_limit : ℕ
fpp_limit = 6_000_000_000_000

-- "0 to 2,152 lines"
abbrev pub most_lines : ℕ
most_lines = 2152
