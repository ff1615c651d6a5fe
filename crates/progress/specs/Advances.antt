-- A completion further along: bits written behind those before them, money entered.
use Rattle.std.specs.Prelude.{refl, List, ℕ, ◌+◌, ◌*◌, ◌≤◌, ℤ}
use Rattle.std.proofs.Common.{arith}
use Rattle.numbers.specs.Sum.{sumℤ}
use Rattle.numbers.specs.Base.{up_to}
use Rattle.grains.specs.declared.Ledger.{Ledger}
use Rattle.pen.specs.Pens.{Ready, Pushes}
use Rattle.pen.specs.Runs.{run, run_none, run-even, run-done, pushes-as}
use Rattle.pen.specs.declared.Pen.{Pen}
use Rattle.money.specs.Entries.{Entered, entered-as, entries_none, entries_next, entries-done}
use Rattle.progress.specs.declared.Progress.{Progress}

abbrev pub along : Ledger → Pen → Progress
along money pen = record { money = money; pen = pen }

-- from p to r: these bits behind those before them, z more in balance, at most `most` more in credit and in debit
pub record Advances (width : ℕ) (bits entry exit : List ℕ) (z : ℤ) (most : ℕ) (p r : Progress) : Type 0 where
  pub pushes : Pushes width bits entry exit p.pen r.pen
  pub entered : Entered p.money r.money z most

-- ---- parts of equal width: none, one more, all

module _ (f : ℕ → List ℕ) (g : ℕ → ℤ) (w b : ℕ) where
  pub advances-none : (buffer : List ℕ) (p : Progress) → Ready p.pen → Advances (0 * w) (run f 0) buffer buffer (sumℤ g (up_to 0)) (0 * b) p p
  advances-none buffer p h = record { pushes = pushes-as refl (omega arith) (run_none f buffer p.pen h); entered = entered-as (entries_none g p.money) refl (omega arith) }

  pub advances-next : (n : ℕ) {x y v : List ℕ} {p q r : Progress} → Advances (n * w) (run f n) x y (sumℤ g (up_to n)) (n * b) p q → Advances w (f n) y v (g n) b q r
      → Advances ((n + 1) * w) (run f (n + 1)) x v (sumℤ g (up_to (n + 1))) ((n + 1) * b) p r
  advances-next n h k = record { pushes = run-even f n h.pushes k.pushes; entered = entries_next g n b h.entered k.entered }

  pub advances-done : (n m : ℕ) {x y : List ℕ} {p r : Progress} → n ≤ m → m ≤ n → Advances (n * w) (run f n) x y (sumℤ g (up_to n)) (n * b) p r
      → Advances (m * w) (run f m) x y (sumℤ g (up_to m)) (m * b) p r
  advances-done n m l k h = record { pushes = run-done f n m w l k h.pushes; entered = entries-done g n m b l k h.entered }
