-- Whether a locked book is read, and what a rule of it says where a contract is a test payment. Assumes nothing.
use Prim.Native.Nat.{ℕ, zero, suc}
use mathlib.Core.Path.{◌≡◌, refl, sym, ap, ◌∙◌}
use mathlib.Core.Bool.{Bool, true, false, not, ◌||◌, or-true, or-false}
use Rattle.sections.specs.First.{and_then, first_bad}
use Rattle.sections.specs.Search.{some}
use Rattle.std.specs.Prelude.{Option, None, Some, is_some}
use Rattle.sections.proofs.Cases.{zero_one}
use Rattle.locking.specs.Locking.{is_test, reads_locked}
use Rattle.records.specs.declared.rows.Contract.{Contract}

-- a record more
bad_more : (r : Option ℕ) (t : Bool) (n : ℕ) → (is_some r || t) ≡ is_some (and_then r (not t) n)
unfolding and_then
bad_more (Some k) t n = refl
bad_more None true n = refl
bad_more None false n = refl

module _ (contract : ℕ → Contract) where
  -- it is where the search for a test payment finds one
  found_test : (n : ℕ) → reads_locked contract n ≡ is_some (first_bad (λ k. not (is_test (contract k))) n)
  unfolding reads_locked some first_bad
  found_test zero = refl
  found_test (suc n) = rw (found_test n) (bad_more (first_bad (λ k. not (is_test (contract k))) n) (is_test (contract n)) n)

  pub no_test : (n : ℕ) {r : Option ℕ} → r ≡ first_bad (λ k. not (is_test (contract k))) n → r ≡ None → reads_locked contract n ≡ false
  no_test n e g = found_test n ∙ ap is_some (sym e ∙ g)

  pub a_test : (n i : ℕ) {r : Option ℕ} → r ≡ first_bad (λ k. not (is_test (contract k))) n → r ≡ Some i → reads_locked contract n ≡ true
  a_test n i e g = found_test n ∙ ap is_some (sym e ∙ g)

-- a rule of the locked book that every test payment asks for: the first of them is refused where it fails
module _ (p : ℕ → Bool) where
  pub rule_holds : (n : ℕ) {holds : Bool} → holds ≡ true → first_bad (λ k. p k || holds) n ≡ None
  unfolding first_bad and_then
  rule_holds zero e = refl
  rule_holds (suc n) e = rw (rule_holds n e, e, or-true)

  pub rule_fails : (n : ℕ) {holds : Bool} → holds ≡ false → first_bad (λ k. p k || holds) n ≡ first_bad p n
  unfolding first_bad
  rule_fails zero e = refl
  rule_fails (suc n) e = rw (rule_fails n e, e, or-false)

  pub rule_free : (n : ℕ) (holds : Bool) → first_bad p n ≡ None → first_bad (λ k. p k || holds) n ≡ None
  rule_free n true g = rule_holds n refl
  rule_free n false g = rule_fails n refl ∙ g

module _ (contract : ℕ → Contract) (n : ℕ) where
  not_bad : (r : Option ℕ) → is_some r ≡ false → r ≡ None
  not_bad None e = refl
  not_bad (Some k) e = absurd (zero_one cc)

  -- where no locked book is read, none is asked for
  pub unread : (holds : Bool) → reads_locked contract n ≡ false → first_bad (λ k. not (is_test (contract k)) || holds) n ≡ None
  unread holds e = rule_free _ n holds (not_bad _ (sym (found_test contract n) ∙ e))

  -- and where one is, what is asked for holds
  pub read_holds : (holds : Bool) → reads_locked contract n ≡ true → first_bad (λ k. not (is_test (contract k)) || holds) n ≡ None → holds ≡ true
  read_holds true e g = refl
  read_holds false e g = absurd (zero_one (cc (no_test contract n refl (sym (rule_fails _ n refl) ∙ g))))
