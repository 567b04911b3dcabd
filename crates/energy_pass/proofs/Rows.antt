-- What the tests of one energy row and of one region entry are. Assumes nothing.
use Prim.Native.Nat.{ℕ, ◌+◌, ◌*◌, ◌≤◌, ◌<◌}
use mathlib.Core.Path.{◌≡◌, ap, ◌∙◌}
use mathlib.Core.Bool.{Bool, true}
use mathlib.Core.List.{List, [], ◌∷◌}
use native.Mathlib.Omega.{arith}
use borrow.Author.Tests.{ltb-true, leb-true, eqb-true, lt-ltb, le-leb, eq-eqb}
use lib.Dec.{eqb, leb, ltb}
use Rattle.ground.specs.Bytes.{byte_at, u32_of, u32_at}
use Rattle.ground.specs.Every.{all_of}
use Rattle.ground.proofs.Every.{every, all}
use Rattle.sections.proofs.Cases.{same_answer}
use Rattle.records.specs.Rows.{energy_row}
use Rattle.rules.specs.Rules.{energy_tests, energy_ok}
use Rattle.records.specs.declared.rows.Entry.{Entry}
use Rattle.records.specs.declared.rows.EnergyRow.{EnergyRow}
use Rattle.totals.specs.Sums.{entry_is}
use Rattle.totals.specs.Inner.Totals.{sum_at}
use Rattle.totals.specs.declared.entries.Totals.{Totals}
use Rattle.energy_pass.specs.Inner.Energies.{account_region, row_holds}

-- the four bytes from a row's region on are its region and its reserved bytes
pub head_is : (s : List ℕ) (i : ℕ) {h : ℕ} → h ≡ u32_at s (i * 24 + 4) → h ≡ (energy_row s i).region + 256 * (energy_row s i).spare
unfolding energy_row
head_is s i {h} e =
    let a : i * 24 + 4 + 1 ≡ i * 24 + 5 = omega arith in
    let b : i * 24 + 4 + 2 ≡ i * 24 + 5 + 1 = omega arith in
    let d : i * 24 + 4 + 3 ≡ i * 24 + 5 + 2 = omega arith in
    let q : h ≡ u32_of (byte_at s (i * 24 + 4)) (byte_at s (i * 24 + 5)) (byte_at s (i * 24 + 5 + 1)) (byte_at s (i * 24 + 5 + 2)) = rw (a, b, d) at e in
    omega arith

-- ---- a row by itself

pub record RowHolds (before : ℕ) (r : EnergyRow) : Type 0 where
  pub above : before < account_region r
  pub region : r.region ≤ 4
  pub spare : r.spare ≡ 0
  pub race : r.race ≤ r.ace
  pub rasoe : r.rasoe ≤ r.asoe

abbrev row_tests : ℕ → EnergyRow → List Bool
row_tests before r =
    ltb before (account_region r)
    ∷ leb r.region 4
    ∷ eqb r.spare 0
    ∷ leb r.race r.ace
    ∷ leb r.rasoe r.asoe
    ∷ []

pub row_says : (before : ℕ) (r : EnergyRow) → row_holds before r ≡ true → RowHolds before r
row_says before r e =
    let h = every (row_tests before r) e in
    record {
      above = ltb-true before (account_region r) h.0;
      region = leb-true r.region 4 h.1.0;
      spare = eqb-true r.spare 0 h.1.1.0;
      race = leb-true r.race r.ace h.1.1.1.0;
      rasoe = leb-true r.rasoe r.asoe h.1.1.1.1.0;
    }

pub row_said : (before : ℕ) (r : EnergyRow) → RowHolds before r → row_holds before r ≡ true
row_said before r h =
    all (row_tests before r)
    (lt-ltb before (account_region r) h.above, (le-leb r.region 4 h.region, (eq-eqb r.spare 0 h.spare, (le-leb r.race r.ace h.race, (le-leb r.rasoe r.asoe h.rasoe, tt)))))

-- the tests by the four bytes from the region on: no reserved byte is above 0 where they make at most 4
pub row_holds_lem : (before head key : ℕ) (r : EnergyRow) → head ≡ r.region + 256 * r.spare → key ≡ r.account * 4_294_967_296 + head → all_of (ltb before key ∷ leb head 4 ∷ leb r.race r.ace ∷ leb r.rasoe r.asoe ∷ []) ≡ row_holds before r
row_holds_lem before head key r e q = same_answer _ _ there back
  where
    there : all_of (ltb before key ∷ leb head 4 ∷ leb r.race r.ace ∷ leb r.rasoe r.asoe ∷ []) ≡ true → row_holds before r ≡ true
    there t =
        let h = every (ltb before key ∷ leb head 4 ∷ leb r.race r.ace ∷ leb r.rasoe r.asoe ∷ []) t in
        let up = ltb-true before key h.0 in
        let low = leb-true head 4 h.1.0 in
        row_said before r (record {
          above = omega arith;
          region = omega arith;
          spare = omega arith;
          race = leb-true r.race r.ace h.1.1.0;
          rasoe = leb-true r.rasoe r.asoe h.1.1.1.0;
        })

    back : row_holds before r ≡ true → all_of (ltb before key ∷ leb head 4 ∷ leb r.race r.ace ∷ leb r.rasoe r.asoe ∷ []) ≡ true
    back t =
        let h = row_says before r t in
        let up = h.above in
        let low = h.region in
        let none = h.spare in
        all (ltb before key ∷ leb head 4 ∷ leb r.race r.ace ∷ leb r.rasoe r.asoe ∷ [])
        (lt-ltb before key (omega arith), (le-leb head 4 (omega arith), (le-leb r.race r.ace h.race, (le-leb r.rasoe r.asoe h.rasoe, tt))))

-- such a row keeps check 5 exactly where its energies are within the limit
pub fields_of : (r : EnergyRow) → RowHolds 4_294_967_295 r → r.ace ≤ 20_000_000 → r.asoe ≤ 20_000_000 → energy_ok r ≡ true
fields_of r h a b =
    let up = h.above in
    let low = h.region in
    all (energy_tests r)
    (le-leb 1 r.account (omega arith), (le-leb r.region 4 low, (eq-eqb r.spare 0 h.spare, (le-leb r.ace 20_000_000 a, (le-leb r.asoe 20_000_000 b, (le-leb r.race r.ace h.race, (le-leb r.rasoe r.asoe h.rasoe, tt)))))))

pub from_fields : (r : EnergyRow) → energy_ok r ≡ true → RowHolds 4_294_967_295 r
from_fields r e =
    let h = every (energy_tests r) e in
    let account = leb-true 1 r.account h.0 in
    record {
      above = omega arith;
      region = leb-true r.region 4 h.1.0;
      spare = eqb-true r.spare 0 h.1.1.0;
      race = leb-true r.race r.ace h.1.1.1.1.1.0;
      rasoe = leb-true r.rasoe r.asoe h.1.1.1.1.1.1.0;
    }

-- ---- an entry

-- the test of the entry that was read
pub entry_holds : (t : Totals) (g : ℕ) {e d : Entry} {b : Bool} → d ≡ e → b ≡ entry_is d (sum_at t g) → b ≡ entry_is e (sum_at t g)
entry_holds t g q s = s ∙ ap (λ (e : Entry). entry_is e (sum_at t g)) q
