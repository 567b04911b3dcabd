-- The rules of each record's fields, as tests, and the order of each section. 01, The book, has each range; check 5 asks for all of them.
use Rattle.std.specs.Prelude.{ℕ, ◌*◌, List, [], ◌∷◌, Bool, true, ◌&&◌, ◌||◌, not, eqb, leb, ltb, get_or}
use Rattle.ground.specs.Every.{all_of}
use Rattle.ground.specs.Units.{million, money_limit, energy_limit, price_limit, rcr_limit, fpp_limit}
use Rattle.sections.specs.Order.{pair_below}
use Rattle.sections.specs.Search.{all}
use Rattle.sections.specs.Total.{total}
use Rattle.market.specs.Kinds.{is_service, regulates, mode_with}
use Rattle.market.specs.declared.Mode.{Mode}
use Rattle.market.specs.declared.Mode.TheVariants.{Contingency, Factored, Default, Unknown}
use Rattle.records.specs.declared.rows.Entry.{Entry}
use Rattle.records.specs.declared.rows.Constraint.{Constraint}
use Rattle.records.specs.declared.rows.UnitRow.{UnitRow}
use Rattle.records.specs.declared.rows.EnergyRow.{EnergyRow}
use Rattle.records.specs.declared.rows.Contract.{Contract}

-- ---- region entries: "total ACE (-20,000,000 to 0), total ASOE (0 to 20,000,000), residual total (0 to 20,000,000)"

abbrev pub entry_tests : Entry → List Bool
entry_tests r = leb r.ace energy_limit ∷ leb r.asoe energy_limit ∷ leb r.residual energy_limit ∷ []

abbrev pub entry_ok : Entry → Bool
entry_ok r = all_of (entry_tests r)

-- ---- constraints

-- the mode, with the price, response and usage that only a factored constraint has
abbrev pub mode_of : Constraint → Mode
mode_of r = mode_with r.mode r.price r.rcr r.usage

-- "price, to 2,500,000; RCR, to 10,000,000; usage, to 1,000,000"; "Price times RCR is at most 6,000,000,000,000."
unfoldable pub terms_ok : Mode → Bool
terms_ok Contingency = true
terms_ok (Factored price response usage) = leb price price_limit && leb response rcr_limit && leb usage million && leb (price * response) fpp_limit
terms_ok Default = true
terms_ok Unknown = true

-- "price, RCR, usage, RCF all 0"
abbrev pub no_terms : Constraint → Bool
no_terms r = eqb r.price 0 && eqb r.rcr 0 && eqb r.usage 0 && eqb r.prcf 0 && eqb r.nrcf 0

-- "Mode 0 (contingency) goes with services 1 to 8 and has price, RCR, usage, RCF, DRCF all 0. Mode 1 (factored) and mode 2 (default)
-- go with 9 and 10. Mode 2 has price, RCR, usage, RCF all 0"
unfoldable pub mode_fits : Constraint → Bool
mode_fits r =
    (eqb r.mode 0 && not (regulates r.service) && no_terms r && eqb r.drcf 0)
    || (eqb r.mode 1 && regulates r.service)
    || (eqb r.mode 2 && regulates r.service && no_terms r)

-- "id from 1; service 1 to 10; regions 1 to 31; reserved byte; cost 0 to 50,000,000,000; RCF within 1,000,000 either way; DRCF -1,000,000
-- to 0; reserved u32", and what the mode asks
abbrev pub constraint_tests : Constraint → List Bool
constraint_tests r =
    leb 1 r.id
    ∷ is_service r.service
    ∷ leb 1 r.mask
    ∷ leb r.mask 31
    ∷ eqb r.spare 0
    ∷ leb r.cost money_limit
    ∷ leb r.prcf million
    ∷ leb r.nrcf million
    ∷ leb r.drcf million
    ∷ eqb r.tail 0
    ∷ terms_ok (mode_of r)
    ∷ mode_fits r
    ∷ []

abbrev pub constraint_ok : Constraint → Bool
constraint_ok r = all_of (constraint_tests r)

-- ---- unit rows: "constraint id, unit id, account (each from 1); CF within 1,000,000 either way; DCF -1,000,000 to 0"

abbrev pub unit_tests : UnitRow → List Bool
unit_tests r =
    leb 1 r.constraint
    ∷ leb 1 r.unit
    ∷ leb 1 r.account
    ∷ leb r.pcf million
    ∷ leb r.ncf million
    ∷ leb r.dcf million
    ∷ []

abbrev pub unit_ok : UnitRow → Bool
unit_ok r = all_of (unit_tests r)

-- ---- energy rows: "account from 1; region 0 to 4; three reserved bytes; ACE (-20,000,000 to 0); ASOE (0 to 20,000,000); residual ACE, from
-- ---- ACE up to 0; residual ASOE, from 0 up to ASOE"

abbrev pub energy_tests : EnergyRow → List Bool
energy_tests r =
    leb 1 r.account
    ∷ leb r.region 4
    ∷ eqb r.spare 0
    ∷ leb r.ace energy_limit
    ∷ leb r.asoe energy_limit
    ∷ leb r.race r.ace
    ∷ leb r.rasoe r.asoe
    ∷ []

abbrev pub energy_ok : EnergyRow → Bool
energy_ok r = all_of (energy_tests r)

-- ---- contracts

-- the benefit factor of region g
abbrev pub factor_of : List ℕ → ℕ → ℕ
factor_of factors g = get_or factors g 0

-- "five regional benefit factors, each at most 1,000,000, together exactly 1,000,000"
unfoldable pub shares_ok : List ℕ → Bool
shares_ok factors = all (λ g. leb (factor_of factors g) million) 5 && eqb (total (factor_of factors) 5) million

-- "id from 1; kind, 1 ordinary or 2 test; three reserved bytes; payment 0 to 50,000,000,000"
abbrev pub contract_tests : Contract → List Bool
contract_tests r =
    leb 1 r.id
    ∷ leb 1 r.kind
    ∷ leb r.kind 2
    ∷ eqb r.spare 0
    ∷ leb r.payment money_limit
    ∷ shares_ok r.factors
    ∷ []

abbrev pub contract_ok : Contract → Bool
contract_ok r = all_of (contract_tests r)

-- ---- order: "constraint ids, (constraint, unit) pairs, (account, region) pairs or contract ids"

abbrev pub constraint_below : Constraint → Constraint → Bool
constraint_below a b = ltb a.id b.id

abbrev pub unit_below : UnitRow → UnitRow → Bool
unit_below a b = pair_below a.constraint a.unit b.constraint b.unit

abbrev pub energy_below : EnergyRow → EnergyRow → Bool
energy_below a b = pair_below a.account a.region b.account b.region

abbrev pub contract_below : Contract → Contract → Bool
contract_below a b = ltb a.id b.id
