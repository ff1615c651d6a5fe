-- The promises of a batch of plans: each plan's numbers and completion are those of judging that plan alone, with the bytes that are left for it.
use Rattle.std.specs.Prelude.{◌≡◌, ℤ, take, drop}
use Rattle.std.proofs.Math.Path.{refl, sym, ap}
use Rattle.std.proofs.Common.{◌∙◌, drop_at, drop-drop, length-take-le}
use mathlib.Core.List.{List, [], ◌∷◌, ◌++◌, append_assoc}
use Prim.Native.Nat.{ℕ, zero, suc, ◌+◌, ◌*◌, ◌≤◌, ◌<◌}
use native.Mathlib.Omega.{arith}
use borrow.Author.Tests.{le-leb, lt-leb}
use Rattle.std.proofs.Math.ListN.{length}
use Rattle.std.proofs.Math.Seq.{take_at, drop-append-add}
use Rattle.layouts.specs.Layout.{passes}
use Rattle.model.specs.declared.Verdict.TheVariants.{Accepted}
use Rattle.model.specs.Editions.{Largest, most_devices, most_intervals}
use Rattle.model.specs.ByEdition.{Stated, stated_in}
use Rattle.model.specs.Judgement as J
use Rattle.model.specs.Judgement.{judgement}
use Rattle.theorems.proofs.Promise.{promised}
use Rattle.stacks.specs.declared.Stacking.TheVariants.{Judged}
use Rattle.stacks.specs.Stack.{row_numbers, row_of, turn, turn_bytes, turn_left, stacked, unwritten, tabled, with_plans, stacking}
use Rattle.stacks.proofs.Turns.{turn-leaves, turn-quiet}
use Rattle.stacks.specs.Promise.{PlansPromise, StackPromise, TurnPromise, bytes_ahead, left_for, plan_at}

-- ---- they are kept

-- behind the front of a list that begins with n of another
front-dropped : (n m : ℕ) (xs ys : List ℕ) → n ≤ length xs → drop (n + m) (take n xs ++ ys) ≡ drop m ys
front-dropped n m xs ys h = rw (sym (drop-drop m n (take n xs ++ ys)), drop_at (take n xs) ys n (length-take-le n xs h)) refl

module _ (y : Stated) where
  turn_inside : (buffer ps : List ℕ) → turn_bytes y buffer ps ≤ length (turn y buffer ps).result
  turn_inside buffer ps = let t = turn-leaves y buffer ps in omega (arith, t.fits, t.long)

  -- what is left of what is left
  left-left : (buffer ps : List ℕ) (m : ℕ) → drop m (turn_left y buffer ps) ≡ drop (turn_bytes y buffer ps + m) buffer
  left-left buffer ps m = ap (drop m) (turn-leaves y buffer ps).behind ∙ drop-drop m (turn_bytes y buffer ps) buffer

  row_at : (buffer : List ℕ) (plans : List (List ℕ)) (k : ℕ) (t : List ℕ) → k < length plans → take row_numbers (drop (row_numbers * k) ((stacked y buffer plans).rows ++ t))
      ≡ row_of (turn y (left_for y buffer plans k) (plan_at plans k)).verdict (turn_bytes y (left_for y buffer plans k) (plan_at plans k))
  unfolding stacked bytes_ahead
  row_at buffer [] k t h = absurd (omega arith)
  row_at buffer (ps ∷ more) zero t h = refl
  row_at buffer (ps ∷ more) (suc k) t h =
      let rest = turn_left y buffer ps in
      let e : row_numbers * suc k ≡ row_numbers + row_numbers * k = omega arith in
      let row = row_of (turn y buffer ps).verdict (turn_bytes y buffer ps) in
      rw (e, append_assoc row (stacked y rest more).rows t, drop-append-add row ((stacked y rest more).rows ++ t) (row_numbers * k))
      (row_at rest more k t (omega arith) ∙ ap (λ (x : List ℕ). row_of (turn y x (plan_at more k)).verdict (turn_bytes y x (plan_at more k))) (left-left buffer ps (bytes_ahead y rest more k)))

  completion-at : (buffer : List ℕ) (plans : List (List ℕ)) (k : ℕ) → k < length plans
      → take (turn_bytes y (left_for y buffer plans k) (plan_at plans k)) (drop (bytes_ahead y buffer plans k) (stacked y buffer plans).result)
      ≡ take (turn_bytes y (left_for y buffer plans k) (plan_at plans k)) (turn y (left_for y buffer plans k) (plan_at plans k)).result
  unfolding stacked bytes_ahead
  completion-at buffer [] k h = absurd (omega arith)
  completion-at buffer (ps ∷ more) zero h =
      take_at (take (turn_bytes y buffer ps) (turn y buffer ps).result) _ _ (length-take-le (turn_bytes y buffer ps) (turn y buffer ps).result (turn_inside buffer ps))
  completion-at buffer (ps ∷ more) (suc k) h =
      let rest = turn_left y buffer ps in
      rw (
        front-dropped (turn_bytes y buffer ps) (bytes_ahead y rest more k) (turn y buffer ps).result (stacked y rest more).result (turn_inside buffer ps),
        sym (left-left buffer ps (bytes_ahead y rest more k)),
      ) (completion-at rest more k (omega arith))

  behind-all : (buffer : List ℕ) (plans : List (List ℕ)) → drop (stacked y buffer plans).bytes (stacked y buffer plans).result ≡ drop (stacked y buffer plans).bytes buffer
  unfolding stacked
  behind-all buffer [] = refl
  behind-all buffer (ps ∷ more) =
      let rest = turn_left y buffer ps in
      front-dropped (turn_bytes y buffer ps) (stacked y rest more).bytes (turn y buffer ps).result (stacked y rest more).result (turn_inside buffer ps)
      ∙ behind-all rest more ∙ left-left buffer ps (stacked y rest more).bytes

  rows_long : (buffer : List ℕ) (plans : List (List ℕ)) → length (stacked y buffer plans).rows ≡ row_numbers * length plans
  unfolding stacked
  rows_long buffer [] = refl
  rows_long buffer (ps ∷ more) = omega (arith, rows_long (turn_left y buffer ps) more)

  quiet_all : (buffer : List ℕ) (plans : List (List ℕ)) → ((k : ℕ) → k < length plans → (z : ℤ) → (turn y buffer (plan_at plans k)).verdict ≡ Accepted z → ⊥)
      → ((stacked y buffer plans).bytes ≡ 0) × ((stacked y buffer plans).result ≡ buffer)
  unfolding stacked
  quiet_all buffer [] h = (refl, refl)
  quiet_all buffer (ps ∷ more) h =
      let q = turn-quiet y buffer ps (h 0 (omega arith)) in
      let r = quiet_all buffer more (λ k l. h (suc k) (omega arith)) in
      rw (q.0, q.1) (omega (arith, r.0), r.1)

none-stacked : (y : Stated) (before table : List ℕ) → tabled 0 (stacked y before []) table ≡ unwritten (Judged 0 0) before table
unfolding stacked
none-stacked y before table = refl

-- judging by a case that passed
module _ (l : Largest) (cs : List ℕ) (y : Stated) (e : stated_in l cs ≡ passes y) where
  judged-turn : (ps buffer : List ℕ) → turn y buffer ps ≡ judgement l cs ps buffer
  unfolding judgement
  judged-turn ps buffer = sym (ap (J.with_case ps buffer) e)

  module _ (most : l.devices ≤ most_devices) (long : l.intervals ≤ most_intervals) (plans : List (List ℕ)) (before table : List ℕ) where
    turn-promised : (k : ℕ) → k < length plans → TurnPromise l cs y plans before (tabled (length plans) (stacked y before plans) table) k
    turn-promised k h =
        let rest = left_for y before plans k in
        let same = judged-turn (plan_at plans k) rest in
        let n = turn_bytes y rest (plan_at plans k) in
        record {
          row = row_at y before plans k _ h ∙ ap (λ (j : J.Judged). row_of j.verdict n) same;
          completion = completion-at y before plans k h ∙ ap (λ (j : J.Judged). take n j.result) same;
          promise = promised l most long cs (plan_at plans k) rest;
        }

    plans-promised : PlansPromise l cs y plans before table (tabled (length plans) (stacked y before plans) table)
    plans-promised = record {
      answer = refl;
      each = turn-promised;
      table-behind = drop_at (stacked y before plans).rows _ _ (rows_long y before plans);
      result-behind = behind-all y before plans;
      none-accepted = λ h.
          let q = quiet_all y before plans (λ k i z a. h k i z (ap (λ (j : J.Judged). j.verdict) (sym (judged-turn (plan_at plans k) before)) ∙ a)) in
          (ap (Judged (length plans)) q.0, q.1);
      no-plan = empty;
    }
      where
        empty : plans ≡ [] → tabled (length plans) (stacked y before plans) table ≡ unwritten (Judged 0 0) before table
        empty n = ap (λ (ms : List (List ℕ)). tabled (length ms) (stacked y before ms) table) n ∙ none-stacked y before table

-- any bytes
module _ (l : Largest) (most : l.devices ≤ most_devices) (long : l.intervals ≤ most_intervals) where
  pub stack-promised : (cs batch before table : List ℕ) → StackPromise l cs batch before table (stacking l cs batch before table)
  unfolding stacking with_plans
  stack-promised cs batch before table = record {
    case-refused = λ f e. rw e refl;
    batch-refused = λ y f e m. rw (e, m) refl;
    table-short = λ y plans e m h. rw (e, m, lt-leb (row_numbers * length plans) (length table) h) refl;
    plans = λ y plans e m h. rw (e, m, le-leb (row_numbers * length plans) (length table) h) (plans-promised l cs y e most long plans before table);
  }
