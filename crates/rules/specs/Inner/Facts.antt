-- What checks 5 and 6 say of a record or a section, fact by fact, for whoever builds on them.
use Rattle.std.specs.Prelude.{ℕ, ◌*◌, ◌≤◌, ◌<◌, ◌≡◌}
use Rattle.ground.specs.Units.{million, money_limit, energy_limit, price_limit, rcr_limit, fpp_limit}
use Rattle.sections.specs.Total.{total}
use Rattle.rules.specs.Rules.{factor_of}
use Rattle.records.specs.declared.rows.Entry.{Entry}
use Rattle.records.specs.declared.rows.Constraint.{Constraint}
use Rattle.records.specs.declared.rows.UnitRow.{UnitRow}
use Rattle.records.specs.declared.rows.EnergyRow.{EnergyRow}
use Rattle.records.specs.declared.rows.Contract.{Contract}

pub record EntryRule (r : Entry) : Type 0 where
  pub ace : r.ace ≤ energy_limit
  pub asoe : r.asoe ≤ energy_limit
  pub residual : r.residual ≤ energy_limit

-- no price, response, usage and RCF
pub record Bare (r : Constraint) : Type 0 where
  pub price : r.price ≡ 0
  pub rcr : r.rcr ≡ 0
  pub usage : r.usage ≡ 0
  pub prcf : r.prcf ≡ 0
  pub nrcf : r.nrcf ≡ 0

-- the ranges that hold in every mode
pub record Terms (r : Constraint) : Type 0 where
  pub price : r.price ≤ price_limit
  pub rcr : r.rcr ≤ rcr_limit
  pub usage : r.usage ≤ million
  pub product : r.price * r.rcr ≤ fpp_limit

pub record ConstraintRule (r : Constraint) : Type 0 where
  pub id : 1 ≤ r.id
  pub service_low : 1 ≤ r.service
  pub service_high : r.service ≤ 10
  pub mask_low : 1 ≤ r.mask
  pub mask_high : r.mask ≤ 31
  pub mode : r.mode ≤ 2
  pub cost : r.cost ≤ money_limit
  pub prcf : r.prcf ≤ million
  pub nrcf : r.nrcf ≤ million
  pub drcf : r.drcf ≤ million
  pub terms : Terms r
  -- services 1 to 8 in mode 0, regulation in the others
  pub contingency : r.mode ≡ 0 → r.service ≤ 8
  pub regulation : (r.mode ≡ 0 → ⊥) → 9 ≤ r.service
  pub bare : (r.mode ≡ 1 → ⊥) → Bare r

pub record UnitRule (r : UnitRow) : Type 0 where
  pub constraint : 1 ≤ r.constraint
  pub unit : 1 ≤ r.unit
  pub account : 1 ≤ r.account
  pub pcf : r.pcf ≤ million
  pub ncf : r.ncf ≤ million
  pub dcf : r.dcf ≤ million

pub record EnergyRule (r : EnergyRow) : Type 0 where
  pub account : 1 ≤ r.account
  pub region : r.region ≤ 4
  pub ace : r.ace ≤ energy_limit
  pub asoe : r.asoe ≤ energy_limit
  pub race : r.race ≤ r.ace
  pub rasoe : r.rasoe ≤ r.asoe

pub record ContractRule (r : Contract) : Type 0 where
  pub id : 1 ≤ r.id
  pub kind_low : 1 ≤ r.kind
  pub kind_high : r.kind ≤ 2
  pub payment : r.payment ≤ money_limit
  pub factor : (g : ℕ) → g < 5 → factor_of r.factors g ≤ million
  pub whole : total (factor_of r.factors) 5 ≡ million
