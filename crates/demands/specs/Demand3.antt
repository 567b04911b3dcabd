-- Demand 3. "A charge depends on nothing of the neighbours'. Two accepted books that agree in date, interval, run, region totals,
-- constraints, contracts and in one account's own energy and unit rows give that account, into equal buffers, the same bytes and the same
-- refusals, whatever the other accounts hold."
use Rattle.std.specs.Prelude.{Result, Ok, ℕ, ◌≡◌, true, List, map}
use Rattle.sections.specs.declared.Refusal.{Refusal}
use Rattle.ground.specs.Inner.Each.{Each}
use Rattle.sections.specs.Refusal.{unrefused}
use Rattle.dispatch.specs.Dispatch.{payment, base_cost}
use Rattle.records.specs.declared.rows.Constraint.{Constraint}
use Rattle.locking.specs.Locking.{reads_locked}
use Rattle.book.specs.Header.{header_of}
use Rattle.book.specs.Book.{book_of}
use Rattle.book.specs.Table.{verdict}
use Rattle.accounts.specs.Account.{Public, public_of, rows_of_account, locked_of}
use Rattle.answers.specs.declared.WrittenAnswer.{WrittenAnswer}
use Rattle.demands.specs.Demand1.{LengthCall, StatementCall, FileCall}

-- what must agree of two locked books, t and u, beside a book b: 02, Req 04, "Demand 3 adds the locked region totals and the account's energy rows
-- and unit rows in the locked book to what must agree", and nothing else of it. Where b has no contract of kind 2 they need not agree in anything
pub record LockedAgree (b t u : List ℕ) (account : ℕ) : Type 0 where
  pub read : reads_locked (book_of b).contract (header_of b).contracts ≡ true → locked_of (book_of t) account ≡ locked_of (book_of u) account

-- two accepted books b and c agree, with t and u lent as their locked books: `public_of` is date, interval, run, region totals, constraints and
-- contracts, `rows_of_account` the account's own energy and unit rows
pub record Agree (b t c u : List ℕ) (account : ℕ) : Type 0 where
  pub first : verdict b t ≡ unrefused
  pub second : verdict c u ≡ unrefused
  pub public : public_of (book_of b) ≡ public_of (book_of c)
  pub own : rows_of_account (book_of b) account ≡ rows_of_account (book_of c) account
  pub locked : LockedAgree b t u account

-- two calls answer and leave the same
pub record Same (r s : WrittenAnswer) (x y : List ℕ) : Type 0 where
  pub answer : r ≡ s
  pub bytes : x ≡ y

-- the demand, of what the statement call, the length call and the call that writes the file promise: r and x are what a call on the first book answers and leaves in a buffer that held l, s
-- and y what a call on the second does
pub record NoNeighboursFigure : Type 0 where
  pub same : (b t c u : List ℕ) (account : ℕ) (l : List ℕ) (r s : WrittenAnswer) (x y : List ℕ) → Agree b t c u account
      → StatementCall b t account l r x → StatementCall c u account l s y → Same r s x y
  -- 02, Req 02: "Demand 3 covers the length": the same length, and the same refusals to tell it
  pub length : (b t c u : List ℕ) (account : ℕ) (r s : WrittenAnswer) → Agree b t c u account → LengthCall b t account r → LengthCall c u account s
      → r ≡ s
  -- 02, Req 05: the same file, and the same refusals to write it
  pub file : (b t c u : List ℕ) (account payment_type : ℕ) (l : List ℕ) (r s : WrittenAnswer) (x y : List ℕ) → Agree b t c u account
      → FileCall b t account payment_type l r x → FileCall c u account payment_type l s y → Same r s x y

-- ---- costs. 02, Req 01: "Demands 2 and 3 read costs as public whichever way they came." A constraint's cost is one of its fields, and so it is
-- ---- part of the public part already; a statement depends on it through that field and on nothing that it was made from

-- a constraint, and the public part of a book, but for costs
unfoldable pub costless : Constraint → Constraint
costless r =
    record {
      id = r.id;
      service = r.service;
      mask = r.mask;
      mode = r.mode;
      spare = r.spare;
      cost = 0;
      price = r.price;
      rcr = r.rcr;
      usage = r.usage;
      prcf = r.prcf;
      nrcf = r.nrcf;
      drcf = r.drcf;
      tail = r.tail;
    }

abbrev pub costless_public : Public → Public
costless_public p =
    record {
      date = p.date;
      interval = p.interval;
      run = p.run;
      entries = p.entries;
      constraints = map costless p.constraints;
      contracts = p.contracts;
    }

-- two accepted books agree but for their costs
pub record AgreeButForCosts (b t c u : List ℕ) (account : ℕ) : Type 0 where
  pub first : verdict b t ≡ unrefused
  pub second : verdict c u ≡ unrefused
  pub public : costless_public (public_of (book_of b)) ≡ costless_public (public_of (book_of c))
  pub own_rows : rows_of_account (book_of b) account ≡ rows_of_account (book_of c) account
  pub locked_parts : LockedAgree b t u account

-- the costs of a book's constraints, in order
abbrev pub costs_in : List ℕ → List ℕ
costs_in b = map (λ (r : Constraint). r.cost) (public_of (book_of b)).constraints

-- a cost is made from dispatch rows as the payment of the constraint's service, or as its own base cost
pub data Way : Type 0 where
  as_payment : Way
  as_base_cost : Way

unfoldable pub made_from : List ℕ → Way → Constraint → Result ℕ Refusal
made_from rows as_payment r = payment rows r.service
made_from rows as_base_cost r = base_cost rows r.id r.service

-- each cost of a book is made so; `way` says how, by the constraint's id
abbrev pub CostsMade : List ℕ → (ℕ → Way) → List ℕ → Type 0
CostsMade rows way b = Each (λ (r : Constraint). made_from rows (way r.id) r ≡ Ok r.cost) (public_of (book_of b)).constraints

pub record CostsArePublic : Type 0 where
  -- books that agree but for their costs, and have equal numbers in the fields of these, wherever these came from
  pub field : (b t c u : List ℕ) (account : ℕ) (l : List ℕ) (r s : WrittenAnswer) (x y : List ℕ) → AgreeButForCosts b t c u account
      → costs_in b ≡ costs_in c → StatementCall b t account l r x → StatementCall c u account l s y → Same r s x y
  -- books that agree but for their costs, and have these made from the same dispatch rows
  pub made : (rows : List ℕ) (way : ℕ → Way) (b t c u : List ℕ) (account : ℕ) (l : List ℕ) (r s : WrittenAnswer) (x y : List ℕ)
      → AgreeButForCosts b t c u account → CostsMade rows way b → CostsMade rows way c → StatementCall b t account l r x
      → StatementCall c u account l s y → Same r s x y
