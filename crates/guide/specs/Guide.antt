-- The lines of an account as 01 (The amounts, The statement) and AEMO's Settlements Guide print them, over whole numbers with their signs:
-- amounts that an account must pay are negative, and so are ACE and the factors of those who pay. proofs/Guide.antt shows that the lines of
-- every accepted book's statement are these. Over each line is the sentence of 01 and the formula of document 000 (or 001 to 003) with its
-- section; what 000 multiplies out, 01 rounds stage by stage.
use Rattle.std.specs.Prelude.{ℕ, ◌^◌, ◌&&◌, cond, List, [], ◌∷◌, ◌++◌, eqb, ℤ, pos, neg_ℤ, ◌-ℤ◌, ◌*ℤ◌}
use Rattle.market.specs.Kinds.{raises, bit_set}
use Rattle.locking.specs.Locking.{source_of, pick}
use Rattle.accounts.specs.Rows.{joined}
use Rattle.statement.specs.declared.Line.{Line}
use Rattle.guide.specs.Numbers.{sum, round, min0, whole_factor}
use Rattle.guide.specs.Signed.{Energies, SignedConstraint, SignedUnit, SignedEnergy, te, SignedContract, SignedBook, signed_book}

-- ---- energies

-- a number of the account's energy rows in region g, summed: "Missing energy rows count as 0."
unfoldable pub own_sum : SignedBook → ℕ → ℕ → (SignedEnergy → ℤ) → ℤ
own_sum S account g x =
    sum (λ i. cond (eqb (S.energy i).account account && eqb (S.energy i).region g) (x (S.energy i)) (pos 0)) S.header.energies

-- the account's TCE, TSOE and TE in region g
unfoldable pub own_in : SignedBook → ℕ → ℕ → Energies
own_in S account g =
    record {
      ace = own_sum S account g (λ r. r.ace);
      asoe = own_sum S account g (λ r. r.asoe);
      residual = own_sum S account g te;
    }

-- "both summed over the constraint's regions": bit g is set for region g
unfoldable pub over : SignedConstraint → (ℕ → ℤ) → ℤ
over r x = sum (λ g. cond (bit_set r.mask g) (x g) (pos 0)) 5

-- ---- pools

-- "FPP pool = round(price x RCR / 120)." 000, 4: P_regulation / 12 × RCR; cents and thousandths of a MW make the 12 a 120
unfoldable pub fpp_pool : SignedConstraint → ℤ
fpp_pool r = round (r.price *ℤ r.rcr) (pos 120)

-- "used = round(cost x usage / 1,000,000)". 000, 2.4.3: TSFCAS × U
unfoldable pub used_pool : SignedConstraint → ℤ
used_pool r = round (r.cost *ℤ r.usage) whole_factor

-- "unused = cost - used. Mode 2: all unused." 000, 2.4.3: TSFCAS × (1 - U)
unfoldable pub unused_pool : SignedConstraint → ℤ
unused_pool r = cond (eqb r.mode 2) r.cost (r.cost -ℤ used_pool r)

-- "round(pool x factor / 1,000,000)", and "Residual pools are made the same way"
abbrev pub share_by_factor : ℤ → ℤ → ℤ
share_by_factor pool factor = round (pool *ℤ factor) whole_factor

-- ---- a constraint's lines; own and total are the account's and all accounts' energies, by region

-- "Regions is the constraint's mask"; "Unit is 0 except in parts 3 to 5."
abbrev pub line_of : SignedConstraint → ℕ → ℕ → ℤ → Line
line_of r part unit amount = record { id = r.id; part = part; regions = r.mask; unit = unit; amount = amount }

-- "Contingency: -round(cost x own / total), ASOE for raise, ACE for lower, both summed over the constraint's regions."
-- 000, 2.4.2: TA = [TRCR × (TSOE / RATSOE)] × -1. 000, 2.4.1: TA = [TLCR × (TCE / RATCE)] × -1. 001, 2.1.2: raise from those "with ASOE values
-- only", lower from those "with ACE values only"
unfoldable pub contingency_share : SignedConstraint → (ℕ → ℤ) → (ℕ → ℤ) → ℤ
contingency_share r own total = neg_ℤ (round (r.cost *ℤ over r own) (over r total))

unfoldable pub contingency_line : (ℕ → Energies) → (ℕ → Energies) → SignedConstraint → Line
contingency_line total own r =
    cond (raises r.service)
    (line_of r 2 0 (contingency_share r (λ g. (own g).asoe) (λ g. (total g).asoe)))
    (line_of r 1 0 (contingency_share r (λ g. (own g).ace) (λ g. (total g).ace)))

-- "Unit lines: round(pool x factor / 1,000,000); FPP by CF, used by min(0, CF), unused by DCF."
-- 000, 4: TA = CF × P_regulation / 12 × RCR. 000, 2.4.3: TA = TSFCAS × U × NCF, with 002's NCF = Min(0, CF); TA = TSFCAS × (1 - U) × DCF
abbrev pub fpp_line : SignedConstraint → SignedUnit → Line
fpp_line r q = line_of r 3 q.unit (share_by_factor (fpp_pool r) q.cf)

abbrev pub used_line : SignedConstraint → SignedUnit → Line
used_line r q = line_of r 4 q.unit (share_by_factor (used_pool r) (min0 q.cf))

abbrev pub unused_line : SignedConstraint → SignedUnit → Line
unused_line r q = line_of r 5 q.unit (share_by_factor (unused_pool r) q.dcf)

-- "own units in row order (3, 4, 5; mode 2 only 5)"
unfoldable pub unit_lines : SignedConstraint → SignedUnit → List Line
unit_lines r q = cond (eqb r.mode 1) (fpp_line r q ∷ used_line r q ∷ unused_line r q ∷ []) (unused_line r q ∷ [])

-- "An account's residual line is round(residual pool x TE / ATE).", the pools "from RCF, min(0, RCF), DRCF".
-- 000, 4: TA = RCF × P_regulation / 12 × RCR × TE / ATE. 000, 2.4.3: TA = TSFCAS × U × NRCF × TE / ATE, with NRCF = Min(0, RCF);
-- TA = TSFCAS × (1 - U) × DRCF × TE / ATE
module _ (total own : ℕ → Energies) (r : SignedConstraint) where
  unfoldable pub rest_line : ℕ → ℤ → ℤ → Line
  rest_line part pool factor = line_of r part 0 (round (share_by_factor pool factor *ℤ over r (λ g. (own g).residual)) (over r (λ g. (total g).residual)))

  -- "then 6, 7, 8 (mode 2 only 8)"
  unfoldable pub rest_lines : List Line
  rest_lines =
      cond (eqb r.mode 1)
      (rest_line 6 (fpp_pool r) r.rcf ∷ rest_line 7 (used_pool r) (min0 r.rcf) ∷ rest_line 8 (unused_pool r) r.drcf ∷ [])
      (rest_line 8 (unused_pool r) r.drcf ∷ [])

-- a unit's lines, where the row is the account's and names the constraint
abbrev pub own_unit : ℕ → SignedConstraint → SignedUnit → List Line
own_unit account r q = cond (eqb q.account account) (cond (eqb q.constraint r.id) (unit_lines r q) []) []

-- "for mode 0 one line, 1 or 2; else own units in row order .., then 6, 7, 8"
unfoldable pub constraint_lines : SignedBook → ℕ → SignedConstraint → List Line
constraint_lines S account r =
    cond (eqb r.mode 0) (contingency_line S.entry (own_in S account) r ∷ [])
    (joined (λ u. own_unit account r (S.unit u)) S.header.units ++ rest_lines S.entry (own_in S account) r)

-- ---- a contract's lines

-- "r = round(payment x factor / 1,000,000)." 000, 3.5: SRP × RBF
unfoldable pub region_part : SignedContract → ℕ → ℤ
region_part k g = share_by_factor k.payment (pos (k.factor g))

-- "The consumed half is r / 2, an odd r rounded up; the sent-out half is the rest." 000, 3.5: SRP × 0.5 × RBF
unfoldable pub consumed_half : ℤ → ℤ
consumed_half part = round part (pos 2)

unfoldable pub sent_half : ℤ → ℤ
sent_half part = part -ℤ consumed_half part

-- "The account's two lines are -round(half x own / region total), by ACE and ASOE."; regions is "for 9 and 10 the one region's bit".
-- 000, 3.5: TA = [SRP × 0.5 × RBF × (TCE / RATCE) + SRP × 0.5 × RBF × (TSOE / RATSOE)] × -1; 003, 2 has the two apart
unfoldable pub region_line : SignedContract → ℕ → ℕ → ℤ → ℤ → ℤ → Line
region_line k part g half own total = record { id = k.id; part = part; regions = 2 ^ g; unit = 0; amount = neg_ℤ (round (half *ℤ own) total) }

-- "each region with a benefit factor above 0", "9 then 10"
unfoldable pub region_lines : (ℕ → Energies) → (ℕ → Energies) → SignedContract → ℕ → List Line
region_lines total own k g =
    cond (eqb (k.factor g) 0) []
    (region_line k 9 g (consumed_half (region_part k g)) (own g).ace (total g).ace
    ∷ region_line k 10 g (sent_half (region_part k g)) (own g).asoe (total g).asoe
    ∷ [])

-- 02, Req 04: "Kind 2 contracts therefore take energies and region totals from a second book, the locked one; kind 1 from the current one."
unfoldable pub contract_lines : SignedBook → SignedBook → ℕ → SignedContract → List Line
contract_lines current locked account k =
    let from = source_of k.kind in
    joined (region_lines (pick from current.entry locked.entry) (pick from (own_in current account) (own_in locked account)) k) 5

-- ---- the statement's lines

-- "Constraints in book order: .. Then contracts, each benefiting region rising"; l are the bytes of the book that test payments are settled by
unfoldable pub guide_lines : List ℕ → List ℕ → ℕ → List Line
guide_lines b l account =
    let S = signed_book b in
    joined (λ j. constraint_lines S account (S.constraint j)) S.header.constraints
    ++ joined (λ k. contract_lines S (signed_book l) account (S.contract k)) S.header.contracts
