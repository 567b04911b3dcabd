-- Where a book has no contract of kind 2, nothing depends on what is lent as the locked book. Assumes nothing.
use Prim.Native.Nat.{ℕ}
use mathlib.Core.Path.{◌≡◌, sym, ◌∙◌}
use mathlib.Core.List.{List}
use lib.Dec.{eqb}
use lib.ListN.{length}
use mathlib.Core.Bool.{not}
use Rattle.locking.proofs.Tests.{unread}
use Rattle.book.specs.Header.{header_of}
use Rattle.book.specs.Book.{book_of}
use Rattle.book.specs.Table.{check17, check18, locks, locked_for, verdict}
use Rattle.settlement.specs.Settle.{outcome}
use Rattle.balance.specs.Balance.{balance_of}
use Rattle.cutoffs.specs.Cutoffs.{cut_of}
use Rattle.nmas_file.specs.File.{file_outcome}
use Rattle.answers.specs.Answers.{pool_answer, cut_answer}
use Rattle.answers.specs.declared.PoolAnswer.{PoolAnswer}
use Rattle.answers.specs.declared.CutAnswer.{CutAnswer}
use Rattle.demands.specs.Unread.{NoTestPayment, LockedOnlyWhereRead}

module _ (b t u : List ℕ) (n : NoTestPayment b) where
  same_book : locked_for b t ≡ locked_for b u
  unfolding locked_for
  same_book = rw n

  -- 17 and 18 refuse nothing, whatever is lent
  same_17 : check17 (book_of b) t ≡ check17 (book_of b) u
  unfolding check17
  same_17 = rw (unread (book_of b).contract (header_of b).contracts (not (eqb (length t) 0)) n, unread (book_of b).contract (header_of b).contracts (not (eqb (length u) 0)) n)

  same_18 : check18 (book_of b) t ≡ check18 (book_of b) u
  unfolding check18
  same_18 = rw (unread (book_of b).contract (header_of b).contracts (locks (header_of b) t) n, unread (book_of b).contract (header_of b).contracts (locks (header_of b) u) n)

  same_verdict : verdict b t ≡ verdict b u
  unfolding verdict
  same_verdict = rw (same_17, same_18, same_book)

  same_outcome : (account : ℕ) → outcome b t account ≡ outcome b u account
  unfolding outcome
  same_outcome account = rw (same_verdict, same_book)

  same_file : (account payment_type : ℕ) → file_outcome b t account payment_type ≡ file_outcome b u account payment_type
  unfolding file_outcome
  same_file account payment_type = rw (same_outcome account, same_book)

  same_balance : (number : ℕ) → balance_of b t number ≡ balance_of b u number
  unfolding balance_of
  same_balance number = rw (same_verdict, same_book)

  same_pool : (number : ℕ) (r s : PoolAnswer) → r ≡ pool_answer (balance_of b t number) → s ≡ pool_answer (balance_of b u number) → r ≡ s
  same_pool number r s p q = p ∙ rw (same_balance number) (sym q)

  same_cut : (number index : ℕ) → cut_of b t number index ≡ cut_of b u number index
  unfolding cut_of
  same_cut number index = rw (same_verdict, same_book)

  same_stage : (number index : ℕ) (r s : CutAnswer) → r ≡ cut_answer (cut_of b t number index) → s ≡ cut_answer (cut_of b u number index) → r ≡ s
  same_stage number index r s p q = p ∙ rw (same_cut number index) (sym q)

pub locked_only_where_read : LockedOnlyWhereRead
locked_only_where_read =
    record {
      check = λ b t u n r s p q. p ∙ rw (same_verdict b t u n) (sym q);
      length = λ b t u n account r s p q. p ∙ rw (same_outcome b t u n account) (sym q);
      statement = λ b t u n account l r s x y p q.
          let e = same_outcome b t u n account in
          record { answer = p.answer ∙ rw e (sym q.answer); bytes = p.left ∙ rw e (sym q.left) };
      balance = λ b t u n number r s p q. same_pool b t u n number r s p q;
      cutoff = λ b t u n number index r s p q. same_stage b t u n number index r s p q;
      file = λ b t u n account payment_type l r s x y p q.
          let e = same_file b t u n account payment_type in
          record { answer = p.answer ∙ rw e (sym q.answer); bytes = p.left ∙ rw e (sym q.left) };
    }
