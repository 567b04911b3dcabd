-- What holds of the current and of the locked book's holds of the one picked, and what a kind stands for. Assumes nothing.
use Prim.Native.Nat.{ℕ}
use mathlib.Core.Path.{◌≡◌, refl}
use mathlib.Core.Bool.{Bool, true, false, cond, not}
use lib.Dec.{eqb}
use Rattle.locking.specs.Locking.{source_of, pick}
use Rattle.locking.specs.declared.Source.{Source}
use Rattle.locking.specs.declared.Source.TheVariants.{Current, Locked}

-- ---- of either

pub of_either : {A : Type 0} (P : A → Type 0) (x y : A) → P x → P y → (s : Source) → P (pick s x y)
of_either P x y p q Current = p
of_either P x y p q Locked = q

pub picked_of : {A B : Type 0} (f : A → B) (x y : A) (s : Source) → pick s (f x) (f y) ≡ f (pick s x y)
picked_of f x y Current = refl
picked_of f x y Locked = refl

-- ---- by the kind

-- a test that only the current book passes is passed by the ordinary kinds
pub ordinary_told : (f : Source → Bool) (kind : ℕ) → f Current ≡ true → f Locked ≡ false → f (source_of kind) ≡ not (eqb kind 2)
unfolding source_of
ordinary_told f kind a b = by (eqb kind 2)
  where
    by : (t : Bool) → f (cond t Locked Current) ≡ not t
    by true = b
    by false = a
