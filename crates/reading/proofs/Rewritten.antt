-- Each way in which a statement's writing again ends. Assumes nothing.
use Prim.Native.Nat.{ℕ, ◌+◌, ◌*◌, ◌≤◌, ◌<◌}
use mathlib.Core.Path.{◌≡◌, refl, sym, ◌∙◌}
use mathlib.Core.List.{List}
use mathlib.Core.Bool.{Bool, true, false}
use native.Mathlib.Omega.{arith}
use lib.ListN.{length}
use Rattle.std.specs.Prelude.{Ok}
use Rattle.ground.specs.Put.{put}
use Rattle.sections.specs.Refusal.{refused}
use Rattle.ground.specs.Inner.Put.{Wrote}
use Rattle.ground.proofs.Put.{wrote_length}
use Rattle.statement.specs.Statement.{heading_bytes, lines_bytes, statement_bytes}
use Rattle.statement.specs.Lent.{Lent}
use Rattle.statement.specs.declared.Heading.{Heading}
use Rattle.statement.proofs.Lines.{statement_length, heading_end, wrote_statement}
use Rattle.parsing.specs.Parsing.{heading_at, lines_in, is_statement}
use Rattle.parsing.proofs.Whole.{headed_length, statement_headed}
use Rattle.reading.proofs.Ends.{not_written, no_room, all_written}
use Rattle.parsing.proofs.Laid.{lines_count}
use Rattle.reading.specs.Rewriting.{rewritten}

-- the bytes that are written
abbrev again : List ℕ → List ℕ
again s = statement_bytes (heading_at s) (lines_in s (heading_at s).lines)

module _ (s : List ℕ) {b : Bool} (e : b ≡ is_statement s) where
  -- 14
  pub end_14 : (l : List ℕ) → b ≡ false → Lent (rewritten s) l (refused 14 0) l
  unfolding rewritten
  end_14 l t = not_written s (again s) e l t

  module _ (t : b ≡ true) where
    -- its length is 24 + 24 x lines
    long : length s ≡ 24 + (heading_at s).lines * 24
    long = headed_length s (statement_headed s (sym e ∙ t))

    same_length : length (again s) ≡ length s
    same_length = omega (arith, statement_length (heading_at s) (lines_in s (heading_at s).lines), lines_count s (heading_at s).lines, long)

    -- 13
    pub end_13 : (l : List ℕ) → length l < length s → Lent (rewritten s) l (refused 13 0) l
    unfolding rewritten
    end_13 l h = no_room s (again s) e t l (omega (arith, same_length))

    module _ (h : Heading) (g : h ≡ heading_at s) where
      pub lines_lie : 24 + h.lines * 24 ≤ length s
      lines_lie = rw g (omega (arith, long))

      pub lines_fit : {l a : List ℕ} {m : ℕ} → length s ≤ length l → Wrote l 0 (heading_bytes h) a m → 24 + h.lines * 24 ≤ length a
      lines_fit room w = omega (arith, lines_lie, wrote_length w)

      pub end_written : {l a : List ℕ} {m : ℕ} {x : List ℕ} → length s ≤ length l → Wrote l 0 (heading_bytes h) a m → x ≡ put a 24 (lines_bytes (lines_in s h.lines)) → Lent (rewritten s) l (Ok (length s)) x
      unfolding rewritten
      end_written {l} {a} {m} {x} room w p =
          let at24 : m ≡ 24 = heading_end h w in
          let rest : Wrote a m (lines_bytes (lines_in s h.lines)) x (m + length (lines_bytes (lines_in s h.lines))) = record { bytes = rw at24 p; next = refl } in
          let whole = wrote_statement h (lines_in s h.lines) w rest in
          all_written s (again s) e t l (length s) (sym same_length) (omega (arith, same_length)) (rw g at whole.bytes)
