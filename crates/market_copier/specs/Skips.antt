-- Bits of a message that are left out: the copier passes over them, and its pen stays as it is.
use Rattle.std.specs.Prelude.{◌≡◌, refl, List, ℕ, zero, suc, ◌+◌, ◌-◌, ◌*◌, ◌≤◌, ◌<◌}
use Rattle.std.proofs.Common.{sym, ◌∙◌, append-nil, arith}
use Rattle.bits.specs.Bits.{reach}
use Rattle.pen.specs.Runs.{pushes-none}
use Rattle.writing.specs.Splice.{skip, times, past, spliced, farther, along}
use Rattle.bit_copier.specs.declared.Copier.{Copier}
use Rattle.bit_copier.specs.Moves.{Set, Moves, Alike, moves-as}

pub record Skipped (width : ℕ) (s : List ℕ) (q r : Copier) : Type 0 where
  pub pen : r.pen ≡ q.pen
  pub inside : r.from ≤ 8 * reach s
  pub from : q.from + width ≤ 8 * reach s → r.from ≡ q.from + width

pub skipped-none : (w : ℕ) {s : List ℕ} {q : Copier} → Set s q → 8 * reach s - q.from < w → Skipped w s q q
skipped-none w {s} {q} h k = record { pen = refl; inside = h.inside; from = λ i. absurd (omega arith) }

pub skip-moves : (w : ℕ) {s buffer : List ℕ} {q r : Copier} → Set s q → Skipped w s q r → Moves (skip w) s buffer buffer q r
unfolding past spliced
skip-moves w {s} {buffer} {q} {r} h k = record {
  ready = rw k.pen h.ready;
  inside = k.inside;
  long = refl;
  does = λ x. record { from = k.from x.inside; moved = rw k.pen (omega arith); pushes = λ room. rw k.pen (pushes-none buffer q.pen h.ready) };
}

-- n parts of one width left out
pub times-skip : (n w : ℕ) (s : List ℕ) (at : ℕ) → Alike (skip (n * w)) (times n (skip w)) s at
unfolding past spliced farther along
times-skip zero w s at = let e : 0 * w ≡ 0 = omega arith in rw e (record { past = omega arith; bits = refl })
times-skip (suc n) w s at =
    let h = times-skip n w s at in
    let e : suc n * w ≡ n * w + w = omega arith in
    rw e (record { past = omega (arith, h.past); bits = h.bits ∙ sym (append-nil _) })

pub skip-times : (n w : ℕ) {s a b : List ℕ} {q r : Copier} → Moves (skip (n * w)) s a b q r → Moves (times n (skip w)) s a b q r
skip-times n w {s} {q = q} m = moves-as (times-skip n w s q.from) m

pub set-skip : (w : ℕ) {s : List ℕ} {q r : Copier} → Set s q → Skipped w s q r → Set s r
set-skip w h k = record { ready = rw k.pen h.ready; inside = k.inside }
