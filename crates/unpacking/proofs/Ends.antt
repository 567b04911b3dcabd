-- Each way in which the handing out of a statement's lines ends. Assumes nothing.
use Prim.Native.Nat.{ℕ, ◌+◌, ◌*◌, ◌≤◌, ◌<◌}
use mathlib.Core.Path.{◌≡◌, sym, ap, ◌∙◌}
use mathlib.Core.List.{List}
use mathlib.Core.Bool.{Bool, true, false}
use native.Mathlib.Omega.{arith}
use lib.ListN.{length}
use Rattle.std.specs.Prelude.{Ok}
use Rattle.ground.specs.Put.{put}
use Rattle.sections.specs.Refusal.{refused}
use Rattle.statement.specs.Lent.{Lent}
use Rattle.statement.specs.declared.Heading.{Heading}
use Rattle.parsing.specs.Parsing.{heading_at, lines_in, is_statement}
use Rattle.parsing.proofs.Whole.{headed_long, statement_headed}
use Rattle.reading.proofs.Ends.{not_written, no_room, all_written}
use Rattle.parsing.proofs.Laid.{laid_length}
use Rattle.unpacking.specs.Unpacking.{all_fields, unpacked}
use Rattle.unpacking.proofs.Fields.{fields_length, fields_pieces}

-- the bytes that are written
abbrev numbers : List ℕ → List ℕ
numbers s = all_fields (lines_in s (heading_at s).lines)

module _ (s : List ℕ) {b : Bool} (e : b ≡ is_statement s) where
  -- 14
  pub end_14 : (l : List ℕ) → b ≡ false → Lent (unpacked s) l (refused 14 0) l
  unfolding unpacked
  end_14 l t = not_written s (numbers s) e l t

  module _ (t : b ≡ true) (h : Heading) (g : h ≡ heading_at s) where
    pub lines_lie : 24 + h.lines * 24 ≤ length s
    lines_lie = rw g (headed_long s (statement_headed s (sym e ∙ t)))

    -- 40 bytes of each line
    long : length (numbers s) ≡ h.lines * 40
    long = laid_length fields_pieces s 40 fields_length (heading_at s).lines ∙ ap (λ (x : Heading). x.lines * 40) (sym g)

    -- 13
    pub end_13 : (l : List ℕ) → length l < h.lines * 40 → Lent (unpacked s) l (refused 13 0) l
    unfolding unpacked
    end_13 l r = no_room s (numbers s) e t l (omega (arith, long))

    pub end_written : (l : List ℕ) {x : List ℕ} → h.lines * 40 ≤ length l → x ≡ put l 0 (all_fields (lines_in s h.lines)) → Lent (unpacked s) l (Ok (h.lines * 40)) x
    unfolding unpacked
    end_written l {x} r p =
        all_written s (numbers s) e t l (h.lines * 40) (sym long) (omega (arith, long))
        (p ∙ ap (λ (y : Heading). put l 0 (all_fields (lines_in s y.lines))) g)
