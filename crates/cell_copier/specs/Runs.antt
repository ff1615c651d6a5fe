-- How runs of bits stand for parts: since edition 3 what stands behind a cell's count of blocks is the same bits in the newest edition.
use Rattle.std.specs.Prelude.{◌≡◌, refl, List, ◌++◌, ℕ, zero, suc, ◌+◌, ◌*◌, ◌≤◌}
use Rattle.std.proofs.Common.{sym, ◌∙◌, ap, append_assoc, arith}
use Rattle.bits.specs.Bits.{field_at}
use Rattle.bits.specs.Pick.{pick}
use Rattle.layouts.specs.Layout.{bits_of}
use Rattle.layouts.specs.Since.{has, has-it}
use Rattle.writing.specs.Splice.{Splice, keep, add, by, ◌⨾◌, times, past, spliced, farther, along}
use Rattle.writing.specs.CaseSplices.{block_splice, cell_splice}
use Rattle.bit_copier.specs.declared.Copier.{Copier}
use Rattle.bit_copier.specs.Moves.{Peeked, Moves, Alike, moves-as, moves-then, moves-by-keep, keep-both, times-keep}

-- ---- splices that are alike

pub alike-sym : {t u : Splice} {s : List ℕ} {at : ℕ} → Alike t u s at → Alike u t s at
alike-sym e = record { past = sym e.past; bits = sym e.bits }

pub alike-trans : {t u v : Splice} {s : List ℕ} {at : ℕ} → Alike t u s at → Alike u v s at → Alike t v s at
alike-trans e f = record { past = e.past ∙ f.past; bits = e.bits ∙ f.bits }

pub alike_then : {t u v w : Splice} {s : List ℕ} {at : ℕ} → Alike t u s at → Alike v w s (past u s at) → Alike (t ⨾ v) (u ⨾ w) s at
unfolding past spliced
alike_then {t} {u} {v} {w} {s} {at} e f = record {
  past = ap (past v s) e.past ∙ f.past;
  bits = ap (λ (l : List ℕ). l ++ spliced v s (past t s at)) e.bits ∙ ap (λ (k : ℕ). spliced u s at ++ spliced v s k) e.past ∙ ap (λ (l : List ℕ). spliced u s at ++ l) f.bits;
}

pub times-alike : (n : ℕ) {t u : Splice} {s : List ℕ} (at : ℕ) → ((k : ℕ) → Alike t u s k) → Alike (times n t) (times n u) s at
unfolding past spliced farther along
times-alike zero at h = record { past = refl; bits = refl }
times-alike (suc n) {t} {u} {s} at h =
    let i = times-alike n {t = t} {u = u} {s = s} at h in
    let j = h (farther (past t s) n at) in
    record {
      past = j.past ∙ ap (past u s) i.past;
      bits = ap (λ (l : List ℕ). l ++ spliced t s (farther (past t s) n at)) i.bits ∙ ap (λ (l : List ℕ). along (spliced u s) (past u s) n at ++ l) (j.bits ∙ ap (spliced u s) i.past);
    }

-- bits kept in one run, and in two
pub split-keep : (a b : ℕ) (t : Splice) (s : List ℕ) (at : ℕ) → Alike (keep (a + b) ⨾ t) (keep a ⨾ keep b ⨾ t) s at
unfolding past spliced
split-keep a b t s at =
    let e : at + (a + b) ≡ at + a + b = omega arith in
    record {
      past = ap (past t s) e;
      bits = ap (λ (k : ℕ). bits_of (a + b) (field_at s at (a + b)) ++ spliced t s k) e ∙ ap (λ (l : List ℕ). l ++ spliced t s (at + a + b)) (sym (keep-both a b s at).bits)
          ∙ append_assoc (bits_of a (field_at s at a)) (bits_of b (field_at s (at + a) b)) (spliced t s (at + a + b));
    }

-- a field that decides what follows, and what comes behind that
pub by-rest : (w n : ℕ) (f : ℕ → Splice) (t : Splice) {s a b c : List ℕ} {p q r : Copier} → Peeked w s p n → Moves (keep w) s a b p q → Moves (f n ⨾ t) s b c q r → Moves (by w w f ⨾ t) s a c p r
unfolding past spliced
by-rest w n f t {s} {p = p} k x y = moves-as (record { past = refl; bits = sym (append_assoc (bits_of w (field_at s p.from w)) _ _) }) (moves-by-keep w n (λ m. f m ⨾ t) k x y)

-- ---- a cell

-- blocks, reserve prices and what is reactive
abbrev pub offer_splice : ℕ → ℕ → Splice
offer_splice e n = times n (block_splice e ⨾ keep 15) ⨾ keep 112 ⨾ pick (has 2 e) (keep 64) (add 36 0 ⨾ add 28 0)

block_run : (e : ℕ) → 3 ≤ e → (s : List ℕ) (at : ℕ) → Alike (keep 49) (block_splice e ⨾ keep 15) s at
unfolding block_splice
block_run e h s at = rw (has-it 3 e h) (alike-trans (alike-sym (keep-both 34 15 s at)) (alike_then (alike-sym (keep-both 17 17 s at)) (record { past = refl; bits = refl })))

tail-run : (e : ℕ) → 2 ≤ e → (s : List ℕ) (at : ℕ) → Alike (keep 176) (keep 112 ⨾ pick (has 2 e) (keep 64) (add 36 0 ⨾ add 28 0)) s at
tail-run e h s at = rw (has-it 2 e h) (alike-sym (keep-both 112 64 s at))

pub offer-run : (e n : ℕ) → 3 ≤ e → {s a b : List ℕ} {q r : Copier} → Moves (keep (n * 49 + 176)) s a b q r → Moves (offer_splice e n) s a b q r
offer-run e n h {s} {q = q} m = moves-as (alike-trans (alike-sym (keep-both (n * 49) 176 s q.from))
    (alike_then (alike-trans (times-keep n 49 s q.from) (times-alike n q.from (block_run e h s))) (tail-run e (omega arith) s _))) m

-- a cell from its head, its count of blocks and the rest
pub cell-moves : (e n : ℕ) {s a b c d : List ℕ} {p q r t : Copier} → Moves (keep 36) s a b p q → Peeked 3 s q n → Moves (keep 3) s b c q r → Moves (offer_splice e n) s c d r t
    → Moves (cell_splice e) s a d p t
unfolding cell_splice
cell-moves e n {s} {p = p} x k y z = moves-as (split-keep 2 34 _ s p.from) (moves-then x (by-rest 3 n (λ m. times m (block_splice e ⨾ keep 15)) _ k y z))
