-- What each step of a row of checks needs to know of the verdict, and what a verdict of acceptance says of each. Assumes nothing.
use Prim.Native.Nat.{ℕ, ◌<◌}
use mathlib.Core.Path.{◌≡◌, refl, sym, ◌∙◌}
use mathlib.Core.Bool.{Bool, true, false}
use mathlib.Core.List.{List, [], ◌∷◌, ◌++◌}
use Rattle.sections.specs.First.{first_bad}
use Rattle.sections.specs.Refusal.{refused, Verdict, unrefused, unless, at_record, earlier, first_of}
use Rattle.std.specs.Prelude.{Option, None, Some, Result, Ok, Err, is_err}
use Rattle.std.specs.Result.{IsErrAnd}
use Rattle.std.proofs.lemmas.Result.{err_from_is_err_and}
use Rattle.sections.specs.declared.Refusal.{Refusal}
use Rattle.sections.proofs.First.{first_bad_lem}
use Rattle.sections.proofs.Cases.{zero_one}

-- ---- one check

-- the record refused is one of the n; c is what the check's function answered
pub bad_within : (t : ℕ → Bool) (n : ℕ) {i : ℕ} {c : Option ℕ} → c ≡ Some i → c ≡ first_bad t n → i < n
bad_within t n {i} e g = (first_bad_lem t n i (sym g ∙ e)).within

-- ---- one check after the other; v is what the check answered, and p the verdict that it is to give

-- what `?` hands on of a refusal e is e
pub handed_on : {A : Type 0} {r : Result A Refusal} (e : Refusal) → IsErrAnd r (λ x. x ≡ e) → r ≡ Err e
handed_on {r = r} e h = let p = err_from_is_err_and r h in rw (p.1, p.2)

-- r is what is handed on where the check refuses
pub verdict_stop : (vs : List Verdict) {v p r : Verdict} {e : Refusal} → v ≡ Err e → r ≡ Err e → v ≡ p → r ≡ first_of (p ∷ vs)
unfolding first_of earlier
verdict_stop vs f h g = rw (← g, f) h

pub verdict_go : (vs : List Verdict) {v p r : Verdict} → v ≡ unrefused → v ≡ p → r ≡ first_of vs → r ≡ first_of (p ∷ vs)
unfolding first_of earlier
verdict_go vs e g h = rw (← g, e) h

-- ---- what acceptance says, and what a refusal

-- what answers does not refuse
pub not_refused : {A : Type 0} {x : A} {e : Refusal} → ◌≡◌ {A = Result A Refusal} (Ok x) (Err e) → ⊥
not_refused e = zero_one cc

-- one answer has one refusal
pub same_refusal : {A : Type 0} {a b : Refusal} → ◌≡◌ {A = Result A Refusal} (Err a) (Err b) → a ≡ b
same_refusal e = cc

pub unless_held : (number : ℕ) (t : Bool) → unless t number ≡ unrefused → t ≡ true
unfolding unless
unless_held number true e = refl
unless_held number false e = absurd (not_refused (sym e))

pub record_held : (number offset size : ℕ) (p : Option ℕ) → at_record number offset size p ≡ unrefused → p ≡ None
unfolding at_record
record_held number offset size None e = refl
record_held number offset size (Some i) e = absurd (not_refused (sym e))

-- two verdicts of which neither refuses
pub record Both (a b : Verdict) : Type 0 where
  pub here : a ≡ unrefused
  pub rest : b ≡ unrefused

pub earlier_held : (a b : Verdict) → earlier a b ≡ unrefused → Both a b
unfolding earlier
earlier_held (Ok _) b e = record { here = refl; rest = e }
earlier_held (Err e) b h = absurd (not_refused (sym h))

pub first_held : (v : Verdict) (vs : List Verdict) → first_of (v ∷ vs) ≡ unrefused → Both v (first_of vs)
unfolding first_of
first_held v vs e = earlier_held v (first_of vs) e

-- behind the last check nothing refuses
pub earlier_last : (v : Verdict) → earlier v unrefused ≡ v
unfolding earlier
earlier_last (Ok _) = refl
earlier_last (Err e) = refl

-- the last check of a row
pub verdict_last : {v p : Verdict} → v ≡ p → v ≡ first_of (p ∷ [])
unfolding first_of
verdict_last {p = p} e = e ∙ sym (earlier_last p)

-- the first refusal of a row, and then of what follows it, is that of all in a row
earlier_moved : (a b c : Verdict) → earlier (earlier a b) c ≡ earlier a (earlier b c)
unfolding earlier
earlier_moved (Ok _) b c = refl
earlier_moved (Err e) b c = refl

pub first_joined : (xs ys : List Verdict) → first_of (first_of xs ∷ ys) ≡ first_of (xs ++ ys)
unfolding first_of earlier
first_joined [] ys = refl
first_joined (x ∷ xs) ys = rw (earlier_moved x (first_of xs) (first_of ys), first_joined xs ys)

-- ---- one rule, v what `unless` answered of the test t

pub rule_held : (number : ℕ) (t : Bool) {v : Verdict} → v ≡ unless t number → v ≡ unrefused → t ≡ true
rule_held number t q e = unless_held number t (sym q ∙ e)

-- the rule does not hold, and r, what `?` hands on of it, is its number at 0
pub record Broken {A : Type 0} (number : ℕ) (t : Bool) (r : Result A Refusal) : Type 0 where
  pub fails : t ≡ false
  pub answer : r ≡ refused number 0

pub rule_broken : {A : Type 0} (number : ℕ) (t : Bool) {v : Verdict} {e : Refusal} {r : Result A Refusal} → v ≡ unless t number → v ≡ Err e → IsErrAnd r (λ x. x ≡ e) → Broken number t r
unfolding unless
rule_broken number true q f h = absurd (zero_one cc)
rule_broken number false {e = e} q f h = let p = handed_on e h in record { fails = refl; answer = cc }

-- ---- whether a verdict refuses; t is what `is_err` answered

pub none_refused_is : {v : Verdict} {t : Bool} → t ≡ is_err v → t ≡ false → v ≡ unrefused
none_refused_is {v = Ok _} e q = refl
none_refused_is {v = Err x} e q = absurd (zero_one cc)

pub one_refused_is : {v : Verdict} {t : Bool} → t ≡ is_err v → t ≡ true → v ≡ unrefused → ⊥
one_refused_is {v = Ok _} e q u = zero_one cc
one_refused_is {v = Err x} e q u = not_refused (sym u)
