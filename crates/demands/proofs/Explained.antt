-- Every balance is explained: what the two calls promise, of the pool that its number finds. Assumes nothing.
use Rattle.std.specs.Prelude.{Ok, Err}
use Prim.Native.Nat.{ℕ}
use mathlib.Core.Path.{◌≡◌, refl, sym, ap, ◌∙◌}
use mathlib.Core.Bool.{Bool, true, false}
use mathlib.Core.List.{List}
use native.Mathlib.Omega.{arith}
use Rattle.sections.proofs.Cases.{zero_one}
use Rattle.sections.specs.Refusal.{Verdict}
use Rattle.sharing.specs.Once.{has}
use Rattle.book.specs.Book.{book_of}
use Rattle.book.specs.Table.{locked_for, verdict}
use Rattle.accounts.specs.Account.{public_of}
use Rattle.balance.specs.Pools.{Found, past, found, pools_in, pool_at}
use Rattle.balance.specs.Balance.{balance_in, answer_to, balances_in, balance_if, balance_of}
use Rattle.cutoffs.specs.Cutoffs.{cut_for, cuts_in, cut_if, cut_of}
use Rattle.closing.proofs.Explained.{every_balance_is_explained}
use Rattle.answers.specs.Answers.{pool_answer, cut_answer}
use Rattle.answers.specs.declared.PoolAnswer.{PoolAnswer}
use Rattle.answers.specs.declared.CutAnswer.{CutAnswer}
use Rattle.demands.specs.Explained.{BalanceExplained, EveryBalanceIsExplained}
use Rattle.demands.proofs.Numbers.{verdict_numbers}

-- no call is refused by 0
never : {A : Type 0} → ◌≡◌ {A = Bool} false true → A
never e = absurd (zero_one cc)

module _ (b t : List ℕ) (number : ℕ) (r : PoolAnswer) (c : ℕ → CutAnswer) where
  -- where the balance call is not refused, by the verdict and what the number finds
  explained : (v : Verdict) → verdict b t ≡ v → (f : Found) → pool_at (pools_in (public_of (book_of b))) number ≡ f
      → r ≡ pool_answer (balance_if v (answer_to (book_of b) (book_of (locked_for b t)) f))
      → ((index : ℕ) → c index ≡ cut_answer (cut_if v (cut_for (book_of b) (book_of (locked_for b t)) f index))) → r.refusal ≡ 0 → BalanceExplained b t number r c
  unfolding balance_if answer_to pool_answer balance_in cut_if cut_for has
  explained (Ok _) v past e a d z = absurd (omega (arith, sym (ap (λ (w : PoolAnswer). w.refusal) a) ∙ z))
  explained (Ok _) v (found p) e a d z =
      let x = every_balance_is_explained b t v number p e in
      record { pool = p; there = e; named = d; exact = rw a x.exact; above = x.above }
  explained (Err x) v f e a d z = never (rw (sym (ap (λ (w : PoolAnswer). w.refusal) a) ∙ z) at (verdict_numbers b t x.number x.place v))

  -- where it is
  both_refuse : (v : Verdict) (f : Found) → r ≡ pool_answer (balance_if v (answer_to (book_of b) (book_of (locked_for b t)) f))
      → ((index : ℕ) → c index ≡ cut_answer (cut_if v (cut_for (book_of b) (book_of (locked_for b t)) f index))) → (r.refusal ≡ 0 → ⊥) → (index : ℕ)
      → ((c index).refusal ≡ r.refusal) × ((c index).place ≡ r.place)
  unfolding balance_if answer_to pool_answer cut_if cut_for cut_answer
  both_refuse (Ok _) past a d z index = rw (d index, a) (refl, refl)
  both_refuse (Ok _) (found p) a d z index = absurd (z (ap (λ (w : PoolAnswer). w.refusal) a))
  both_refuse (Err x) f a d z index = rw (d index, a) (refl, refl)

-- so every balance is explained, and what is no balance has no stages
pub balances_are_explained : EveryBalanceIsExplained
unfolding balance_of balances_in cut_of cuts_in
balances_are_explained =
    record {
      balance = λ b t number r c a d. explained b t number r c (verdict b t) refl (pool_at (pools_in (public_of (book_of b))) number) refl a d;
      refused = λ b t number r c a d. both_refuse b t number r c (verdict b t) (pool_at (pools_in (public_of (book_of b))) number) a d;
    }
