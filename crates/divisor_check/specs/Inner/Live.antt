-- The regions that have energy, one bit each. Only contracts of inner functions speak of these.
use Rattle.std.specs.Prelude.{ℕ, ◌^◌, ◌≡◌, Bool, not, cond, eqb}
use Rattle.std.specs.Int.Bits.{bit_and}
use Rattle.sections.specs.Total.{total}
use Rattle.market.specs.Kinds.{picked}
use Rattle.market.specs.declared.Basis.{Basis}
use Rattle.records.specs.declared.rows.Entry.{Entry}
use Rattle.totals.specs.Sums.{entry_by}
use Rattle.divisor_check.specs.declared.live.Live.{Live}

-- region g's bit where it has energy, else 0
unfoldable pub bit_with : ℕ → ℕ → ℕ
bit_with energy g = cond (eqb energy 0) 0 (2 ^ g)

-- the bits of those of the first n regions that have energy
abbrev pub regions_with : (ℕ → ℕ) → ℕ → ℕ
regions_with energy n = total (λ g. bit_with (energy g) g) n

-- those of one kind
abbrev pub bits_by : Basis → Live → ℕ
bits_by b x = picked b x.ace x.asoe x.residual

-- two masks have a region in common
abbrev pub have_common : ℕ → ℕ → Bool
have_common a b = not (eqb (bit_and a b) 0)

-- of each kind, those of the first n regions whose entry has energy
pub record LiveIs (entry : ℕ → Entry) (n : ℕ) (x : Live) : Type 0 where
  pub each : (b : Basis) → bits_by b x ≡ regions_with (λ g. entry_by b (entry g)) n
