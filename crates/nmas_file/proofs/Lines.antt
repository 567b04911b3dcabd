-- The rows of the file are the contract lines of the statement, two by two and in the same order. Assumes nothing.
use Prim.Native.Nat.{ℕ, zero, suc, ◌*◌, ◌^◌}
use mathlib.Core.Path.{◌≡◌, refl, sym, ap, ap₂, ◌∙◌}
use mathlib.Core.Bool.{Bool, true, false, cond}
use mathlib.Core.List.{List, [], ◌∷◌, ◌++◌}
use native.Mathlib.Nat.{zero-mul}
use lib.Dec.{eqb}
use lib.IntN.{ℤ, pos, neg_ℤ, nat_abs, +ℤ_idl}
use Rattle.numbers.specs.Round.{round_n}
use Rattle.numbers.specs.Sign.{signed, less}
use Rattle.numbers.proofs.Rounding.{round_zero}
use Rattle.numbers.proofs.Signs.{size_signed}
use Rattle.rules.specs.Rules.{factor_of}
use Rattle.records.specs.declared.rows.Entry.{Entry}
use Rattle.records.specs.declared.rows.Contract.{Contract}
use Rattle.locking.specs.Locking.{settled_by, pick}
use Rattle.amounts.specs.Pools.{halves_of}
use Rattle.amounts.specs.Shares.{by_energy}
use Rattle.accounts.specs.Rows.{joined, concat_map}
use Rattle.accounts.specs.Account.{Public, Rows, LockedPart, own_energy}
use Rattle.accounts.proofs.Joined.{joined_same}
use Rattle.accounts.proofs.Lists.{concat_append}
use Rattle.statement.specs.declared.Line.{Line}
use Rattle.lines.specs.Lines.{shared_line, region_lines}
use Rattle.settlement.specs.Settle.{entry_in, constraint_lines, contract_lines, lines_by, lines_of}
use Rattle.nmas_file.specs.File.{head_of, row_with, region_rows, contract_rows, rows_by, file_rows}
use Rattle.nmas_file.specs.Lines.{row_lines}
use Rattle.nmas_file.specs.declared.Head.{Head}

-- ---- what is charged is 0 or below, and so it is its size with a minus

charge_is : (charge own total : ℕ) → by_energy 0 charge own total ≡ signed true (round_n (charge * own) total)
unfolding by_energy
charge_is charge own total =
    ap (λ (x : ℕ). less x (round_n (charge * own) total)) (ap (λ (x : ℕ). round_n x total) (zero-mul own) ∙ round_zero total)
    ∙ +ℤ_idl (neg_ℤ (pos (round_n (charge * own) total)))

minus_size : (z : ℤ) (n : ℕ) → z ≡ signed true n → z ≡ signed true (nat_abs z)
minus_size z n e = e ∙ ap (signed true) (sym (ap nat_abs e ∙ size_signed true n))

charge_size : (charge own total : ℕ) → by_energy 0 charge own total ≡ signed true (nat_abs (by_energy 0 charge own total))
charge_size charge own total = minus_size _ (round_n (charge * own) total) (charge_is charge own total)

shared_size : (id part regions charge own total : ℕ) → shared_line id part regions 0 charge own total ≡ record { id = id; part = part; regions = regions; unit = 0; amount = signed true (nat_abs (by_energy 0 charge own total)) }
shared_size id part regions charge own total =
    ap (λ (z : ℤ). record { id = id; part = part; regions = regions; unit = 0; amount = z }) (charge_size charge own total)

-- ---- lists of lists

module _ {A B : Type 0} (f : A → List B) where
  concat_joined : (g : ℕ → List A) (n : ℕ) → joined (λ i. concat_map f (g i)) n ≡ concat_map f (joined g n)
  unfolding joined concat_map
  concat_joined g zero = refl
  concat_joined g (suc n) = ap (λ (xs : List B). xs ++ concat_map f (g n)) (concat_joined g n) ∙ sym (concat_append f (joined g n) (g n))

  concat_twice : {C : Type 0} (g : C → List A) (h : C → List B) → ((x : C) → h x ≡ concat_map f (g x)) → (xs : List C) → concat_map h xs ≡ concat_map f (concat_map g xs)
  unfolding concat_map
  concat_twice g h e [] = refl
  concat_twice g h e (x ∷ xs) = ap₂ ◌++◌ (e x) (concat_twice g h e xs) ∙ sym (concat_append f (g x) (concat_map g xs))

-- ---- a contract in one region, and in all

region_lines_lem : (head : Head) (total own : ℕ → Entry) (k : Contract) (g : ℕ) → region_lines total own k g ≡ concat_map row_lines (region_rows head total own k g)
unfolding region_lines region_rows concat_map row_lines
region_lines_lem head total own k g = by (eqb (factor_of k.factors g) 0)
  where
    by : (t : Bool) → cond t [] (shared_line k.id 9 (2 ^ g) 0 (halves_of k.payment (factor_of k.factors g)).consumed (own g).ace (total g).ace ∷ shared_line k.id 10 (2 ^ g) 0 (halves_of k.payment (factor_of k.factors g)).sent (own g).asoe (total g).asoe ∷ []) ≡ concat_map row_lines (cond t [] (row_with head total own k g ∷ []))
    by true = refl
    by false =
        ap₂ (λ (x y : Line). x ∷ y ∷ [])
        (shared_size k.id 9 (2 ^ g) (halves_of k.payment (factor_of k.factors g)).consumed (own g).ace (total g).ace)
        (shared_size k.id 10 (2 ^ g) (halves_of k.payment (factor_of k.factors g)).sent (own g).asoe (total g).asoe)

contract_lines_lem : (head : Head) (total own : ℕ → Entry) (k : Contract) → contract_lines total own k ≡ concat_map row_lines (contract_rows head total own k)
unfolding contract_lines
contract_lines_lem head total own k =
    joined_same _ _ 5 (λ g l. region_lines_lem head total own k g) ∙ concat_joined row_lines (region_rows head total own k) 5

-- ---- an account's; each contract by the book that settles it

module _ (account : ℕ) (public : Public) (rows : Rows) (locked : LockedPart) (payment_type : ℕ) where
  pub file_lines_of_a_contract : (k : Contract) → lines_by public rows locked k ≡ concat_map row_lines (rows_by account public rows locked payment_type k)
  unfolding lines_by rows_by
  file_lines_of_a_contract k =
      contract_lines_lem (head_of account public payment_type)
      (pick (settled_by k) (entry_in public.entries) (entry_in locked.entries))
      (pick (settled_by k) (own_energy rows.energies) (own_energy locked.rows.energies)) k

  -- the statement's lines are those of its constraints, and then two for each row of the file
  pub file_lines_are_the_statements : lines_of public rows locked ≡ concat_map (constraint_lines (entry_in public.entries) (own_energy rows.energies) rows.units) public.constraints ++ concat_map row_lines (file_rows account public rows locked payment_type)
  unfolding lines_of file_rows
  file_lines_are_the_statements =
      ap (λ (xs : List Line). concat_map (constraint_lines (entry_in public.entries) (own_energy rows.energies) rows.units) public.constraints ++ xs)
      (concat_twice row_lines (rows_by account public rows locked payment_type) (lines_by public rows locked) file_lines_of_a_contract public.contracts)
