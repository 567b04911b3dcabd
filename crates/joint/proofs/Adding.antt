-- What the rows of the locked book add makes the accounts of both. Assumes nothing.
use Prim.Native.Nat.{ℕ, ◌+◌, ◌≤◌, ◌<◌}
use mathlib.Core.Path.{◌≡◌, refl}
use mathlib.Core.List.{List}
use mathlib.Core.Bool.{Bool, true, false, ◌||◌}
use native.Mathlib.Omega.{arith}
use lib.ListN.{length}
use Rattle.sections.specs.Total.{total}
use Rattle.sections.proofs.Total.{total_bound}
use Rattle.sharing.specs.Once.{has, named}
use Rattle.sharing.specs.Inner.Seen.{seen, newly}
use Rattle.sharing.specs.Accounts.{energy_account, unit_account}
use Rattle.sharing.proofs.Once.{has_named}
use Rattle.census.proofs.Counting.{count_all}
use Rattle.joint.specs.Names.{energies_of, units_of, accounts_of, accounts_of_both}
use Rattle.joint.specs.Inner.Marks.{marked}
use Rattle.joint.specs.Inner.Added.{energy_adds, unit_known, unit_adds}
use Rattle.joint.specs.declared.NamingRows.{NamingRows}

-- a row adds 1 at most
one : (b : Bool) → newly b ≤ 1
one true = omega arith
one false = omega arith

pub energies_few : (book : List ℕ) (p : NamingRows) (locked : List ℕ) (q : NamingRows) (n : ℕ) → total (energy_adds book p locked q) n ≤ n
unfolding energy_adds
energies_few book p locked q n = omega (arith, total_bound (energy_adds book p locked q) 1 n (λ i l. one (has (energies_of locked q i).account (named (energy_account (energies_of locked q)) i (accounts_of book p)))))

pub units_few : (locked : List ℕ) (q : NamingRows) (known : ℕ → Bool) (m : ℕ) → total (λ u. unit_adds locked q (known u) u) m ≤ m
unfolding unit_adds
units_few locked q known m = omega (arith, total_bound (λ u. unit_adds locked q (known u) u) 1 m (λ u l. one (seen (unit_account (units_of locked q)) u (units_of locked q u).account || (seen (energy_account (energies_of locked q)) q.n (units_of locked q u).account || known u))))

module _ (book : List ℕ) (p : NamingRows) (locked : List ℕ) (q : NamingRows) (marks : List ℕ) where
  pub both_counted : {first more x : ℕ} → first ≡ length (accounts_of book p) → more ≡ total (energy_adds book p locked q) q.n → ((u : ℕ) → u < q.m → marked marks u ≡ unit_known book p locked q u) → x ≡ total (λ u. unit_adds locked q (marked marks u) u) q.m → first + more + x ≡ length (accounts_of_both book p locked q)
  unfolding energy_adds unit_known unit_adds
  both_counted f g h k = rw (f, g, k, count_all (energy_account (energies_of locked q)) (accounts_of book p) (energy_adds book p locked q) q.n (λ i l. refl)) (count_all (unit_account (units_of locked q)) with_energies (λ u. unit_adds locked q (marked marks u) u) q.m each)
    where
      with_energies : List ℕ
      with_energies = named (energy_account (energies_of locked q)) q.n (accounts_of book p)

      each : (u : ℕ) → u < q.m → unit_adds locked q (marked marks u) u ≡ newly (has (units_of locked q u).account (named (unit_account (units_of locked q)) u with_energies))
      each u l =
          rw (h u l, has_named (unit_account (units_of locked q)) u with_energies (units_of locked q u).account, has_named (energy_account (energies_of locked q)) q.n (accounts_of book p) (units_of locked q u).account)
