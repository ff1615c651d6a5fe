-- What stands behind the front: gone over twice, first on a scratch table, which finds a cut and counts, then on the lent one.
use Rattle.std.proofs.Math.Path.{◌≡◌, refl}
use Rattle.std.proofs.Common.{sym, ◌∙◌, ap, ap₂, arith, le-leb}
use Rattle.std.specs.Prelude.{Bool, true, false, ℕ, ◌+◌, ◌≤◌, ◌<◌, length, drop}
use mathlib.Core.List.{List, ◌++◌}
use Rattle.std.proofs.lemmas.List.Edits.{sets-eq}
use Rattle.std.proofs.lemmas.Bool.{lt-leb}
use Rattle.layouts.specs.declared.Fault.{Fault}
use Rattle.layouts.specs.declared.Fault.TheVariants as F
use Rattle.layouts.specs.declared.Clash.{Clash}
use Rattle.layouts.specs.declared.Clash.TheVariants.{Clear, At}
use Rattle.layouts.specs.Layout.{Whole, passes, fails, settle, tail_fault}
use Rattle.message_ends.specs.Ended.{ending_of}
use Rattle.std.specs.Prelude.{Ok, Err}
use Rattle.completion_reading.specs.declared.Reading.{Reading}
use Rattle.completion_reading.specs.declared.Reading.TheVariants.{Figures, RefusedMessage, Short}
use Rattle.completion_reading.specs.Figures.{Readings, tabled}
use Rattle.completion_reading.specs.Flat.{Walked, cut_at, read_to, walked}
use Rattle.figure_reader.specs.declared.Walk.{Walk}
use Rattle.figure_reader.specs.Walks.{Runs, State, run-cut, run-read}
use Rattle.completion_body.specs.declared.Form.{Form}
use Rattle.completion_body.specs.Forms.{widths_of}

-- how a message ends whose fields behind the front gave this
abbrev pub settled : List ℕ → Clash → Walked → Whole (List ℕ)
settled s c (cut_at b) = fails (F.Cut b)
settled s c (read_to vs at) = settle vs (tail_fault s at) c

abbrev pub from : ℕ → Walk
from at = record { at = at; count = 0; cut = false }

abbrev left : Reading → List ℕ → Readings
left r table = record { answer = r; table = table }

-- the figures of a message whose fields are all there, into the lent table
abbrev pub Fills : List ℕ → ℕ → Form → ℕ → List ℕ → List ℕ → Reading → Type 0
Fills s at f count before after r = (vs : List ℕ) (to : ℕ) → walked s at (widths_of f) ≡ read_to vs to → length vs ≡ count → record { answer = r; table = after } ≡ tabled (passes vs) before

pub fills-short : (s : List ℕ) (at : ℕ) (f : Form) {count : ℕ} {table : List ℕ} → length table < count → Fills s at f count table table (Short count)
fills-short s at f {count} {table} h vs to e n = rw (lt-leb (length vs) (length table) (omega arith)) (ap (λ (k : ℕ). left (Short k) table) (sym n))

pub fills-whole : (s : List ℕ) (at : ℕ) (f : Form) {count : ℕ} {before after : List ℕ} {w : Walk} → count ≤ length before → Runs s (from at) before (widths_of f) w after
    → Fills s at f count before after (Figures count)
fills-whole s at f {count} {before} {after} h k vs to e n =
    let done = k.same ∙ run-read s at 0 before (widths_of f) vs to e in
    let table : after ≡ vs ++ drop (0 + length vs) before = ap (λ (x : State). x.table) done ∙ sets-eq vs before 0 (omega arith) in
    let z : 0 + length vs ≡ length vs = omega arith in
    rw (le-leb (length vs) (length before) (omega arith)) (ap₂ (λ (i : ℕ) (t : List ℕ). left (Figures i) t) (sym n) (table ∙ ap (λ (i : ℕ). vs ++ drop i before) z))

-- ---- the first time over

module _ (s : List ℕ) (at : ℕ) (f : Form) {scratch other : List ℕ} {w : Walk} (k : Runs s (from at) scratch (widths_of f) w other) where
  -- what it found
  data Found : Type 0 where
    cut : (b : ℕ) → walked s at (widths_of f) ≡ cut_at b → w.at ≡ b → w.cut ≡ true → Found
    read : (vs : List ℕ) → walked s at (widths_of f) ≡ read_to vs w.at → length vs ≡ w.count → w.cut ≡ false → Found

  found : Found
  found = go (walked s at (widths_of f)) refl
    where
      go : (r : Walked) → walked s at (widths_of f) ≡ r → Found
      go (cut_at b) e = let c = run-cut s at 0 scratch (widths_of f) e in
          cut b e (ap (λ (x : State). x.at) k.same ∙ c.0) (ap (λ (x : State). x.cut) k.same ∙ c.1)
      go (read_to vs to) e =
          let d = k.same ∙ run-read s at 0 scratch (widths_of f) vs to e in
          let z : 0 + length vs ≡ length vs = omega arith in
          read vs (e ∙ ap (read_to vs) (sym (ap (λ (x : State). x.at) d))) (sym z ∙ sym (ap (λ (x : State). x.count) d)) (ap (λ (x : State). x.cut) d)

  pub behind-cut : (c : Clash) {table : List ℕ} → w.cut ≡ true → record { answer = RefusedMessage (F.Cut w.at); table = table } ≡ tabled (settled s c (walked s at (widths_of f))) table
  behind-cut c {table} t = go found
    where
      go : Found → left (RefusedMessage (F.Cut w.at)) table ≡ tabled (settled s c (walked s at (widths_of f))) table
      go (cut b e a i) = rw (e, a) refl
      go (read vs e n i) = absurd (let z : ◌≡◌ {A = Bool} true false = sym t ∙ i in let y : ◌≡◌ {A = ℕ} 0 1 = cc in omega arith)

  pub behind-fails : (c : Clash) {table : List ℕ} {x : Fault} → w.cut ≡ false → ending_of (tail_fault s w.at) c ≡ Err x
      → record { answer = RefusedMessage x; table = table } ≡ tabled (settled s c (walked s at (widths_of f))) table
  unfolding settle
  behind-fails c {table} {x} t h = go found
    where
      ends : (vs : List ℕ) (a b : Clash) → ending_of a b ≡ Err x → left (RefusedMessage x) table ≡ tabled (settle vs a b) table
      ends vs (At i) b e = let g : F.Tail i ≡ x = cc in rw (sym g) refl
      ends vs Clear (At i) e = let g : F.Contradiction i ≡ x = cc in rw (sym g) refl
      ends vs Clear Clear e = absurd (let z : ◌≡◌ {A = ℕ} 0 1 = cc in omega arith)

      go : Found → left (RefusedMessage x) table ≡ tabled (settled s c (walked s at (widths_of f))) table
      go (cut b e a i) = absurd (let z : ◌≡◌ {A = Bool} true false = sym i ∙ t in let y : ◌≡◌ {A = ℕ} 0 1 = cc in omega arith)
      go (read vs e n i) = rw e (ends vs (tail_fault s w.at) c h)

  pub behind-passes : (c : Clash) (before : List ℕ) {after : List ℕ} {r : Reading} → w.cut ≡ false → ending_of (tail_fault s w.at) c ≡ Ok tt → Fills s at f w.count before after r
      → record { answer = r; table = after } ≡ tabled (settled s c (walked s at (widths_of f))) before
  unfolding settle
  behind-passes c before {after} {r} t h j = go found
    where
      ends : (vs : List ℕ) (a b : Clash) → ending_of a b ≡ Ok tt → settle vs a b ≡ passes vs
      ends vs (At i) b e = absurd (let z : ◌≡◌ {A = ℕ} 0 1 = cc in omega arith)
      ends vs Clear (At i) e = absurd (let z : ◌≡◌ {A = ℕ} 0 1 = cc in omega arith)
      ends vs Clear Clear e = refl

      go : Found → left r after ≡ tabled (settled s c (walked s at (widths_of f))) before
      go (cut b e a i) = absurd (let z : ◌≡◌ {A = Bool} true false = sym i ∙ t in let y : ◌≡◌ {A = ℕ} 0 1 = cc in omega arith)
      go (read vs e n i) = rw (e, ends vs (tail_fault s w.at) c h) (j vs w.at e n)
