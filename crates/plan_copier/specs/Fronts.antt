-- A plan's front written new, and what follows it.
use Rattle.std.specs.Prelude.{◌≡◌, List, ℕ, ◌*◌, ◌≤◌}
use Rattle.std.proofs.Common.{sym, ◌∙◌, arith}
use Rattle.bits.specs.Bits.{reach}
use Rattle.bits.specs.Pick.{pick}
use Rattle.layouts.specs.Since.{has}
use Rattle.pen.specs.Pens.{Ready}
use Rattle.writing.specs.Splice.{Splice, keep, add, ◌⨾◌, times}
use Rattle.writing.specs.PlanSplices.{setting_splice, rows_splice, plan_splice, front_of}
use Rattle.bit_copier.specs.declared.Copier.{Copier}
use Rattle.bit_copier.specs.Moves.{Set, Adding, Moves, start, set_after, add-moves, moves-then}

-- four numbers added, one behind the other
pub record Fronts (devices intervals : ℕ) (entry exit : List ℕ) (q r : Copier) : Type 0 where
  pub from : r.from ≡ q.from
  pub ready : Ready r.pen
  pub does : (t : Splice) (s out : List ℕ) (z : Copier) → Set s q → Moves t s exit out r z → Moves (add 4 2 ⨾ add 4 5 ⨾ add 7 devices ⨾ add 7 intervals ⨾ t) s entry out q z
  pub long : lib.ListN.length exit ≡ lib.ListN.length entry

pub front-of : (d i : ℕ) {a b c e f : List ℕ} {p q r t u : Copier} → Adding 4 2 a b p q → Adding 4 5 b c q r → Adding 7 d c e r t → Adding 7 i e f t u → Fronts d i a f p u
front-of d i w x y z = record {
  from = z.from ∙ y.from ∙ x.from ∙ w.from;
  ready = z.put.ready;
  does = λ t s out v h m.
      let j = add-moves 4 2 h w in
      let k = add-moves 4 5 (set_after j) x in
      let l = add-moves 7 d (set_after k) y in
      let n = add-moves 7 i (set_after l) z in
      moves-then j (moves-then k (moves-then l (moves-then n m)));
  long = z.put.long ∙ y.put.long ∙ x.put.long ∙ w.put.long;
}

pub set_front : {d i : ℕ} {a b s : List ℕ} {q r : Copier} → Fronts d i a b q r → Set s q → Set s r
set_front f h = record { ready = f.ready; inside = omega (arith, f.from, h.inside) }

-- from where the rows begin
pub plan-moves : (e d i at : ℕ) {s a b c : List ℕ} {r z : Copier} → at ≡ front_of e → Set s (start at) → Fronts d i a b (start at) r
    → Moves (times i (times d (setting_splice e) ⨾ pick (has 5 e) (keep 18) (add 18 0))) s b c r z → Moves (plan_splice e d i) s a c (start (front_of e)) z
unfolding plan_splice rows_splice
plan-moves e d i at {s} {a} {b} {c} {r} {z} k h f m = rw (sym k) (f.does _ s c z h m)
