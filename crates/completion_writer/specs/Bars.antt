-- What is written by the edition: nothing of what it lacks; a mismatch for each bar it has.
use Rattle.std.specs.Prelude.{◌≡◌, Bool, List, ℕ, ◌+◌, ◌≤◌, ◌<◌}
use Rattle.std.proofs.Math.Path.{refl}
use Rattle.numbers.specs.Sum.{gate}
use Rattle.layouts.specs.Layout.{Layout, bits_of, nat, ◌then◌, held, any}
use Rattle.layouts.specs.Since.{has, has-not, has-it, nothing, present, since}
use Rattle.model.specs.Messages.{Bars}
use Rattle.model.specs.ByEdition as B
use Rattle.pen.specs.declared.Pen.{Pen}
use Rattle.pen.specs.Pens.{Ready, Pushes, pushes-then}
use Rattle.pen.specs.Runs.{pushes-none, pushes-as}
use Rattle.completion_size.specs.Size.{mismatch_width, bars_width}

-- of what an edition lacks nothing is written, of what it has all
module _ {A : Type 0} (e k : ℕ) (neutral : A) (l : Layout A) (x : A) (w : ℕ) where
  pub since_none : e < k → {buffer : List ℕ} {p : Pen} → Ready p → Pushes (gate (has k e) w) ((since e k neutral l).write x) buffer buffer p p
  unfolding present nothing
  since_none h {buffer} {p} r = rw (has-not k e h) (pushes-none buffer p r)

  pub since-all : k ≤ e → {xs a b : List ℕ} {p r : Pen} → xs ≡ l.write x → Pushes w xs a b p r → Pushes (gate (has k e) w) ((since e k neutral l).write x) a b p r
  unfolding present
  since-all h f i = rw (has-it k e h) (pushes-as f refl i)

-- the width of what an edition has
pub since-wide : (e k w : ℕ) → k ≤ e → gate (has k e) w ≡ w
since-wide e k w h = rw (has-it k e h) refl

-- the bars' figures, from the code's
abbrev pub bars_of : ℕ → ℕ → Bars
bars_of first second = record { first = first; second = second }

-- bar 0's, and bar 1's where the edition has one
module _ (e first second : ℕ) {a b : List ℕ} {p m : Pen} (h : Pushes mismatch_width (bits_of 23 first) a b p m) where
  pub bars-one : e < 5 → Pushes (bars_width e) ((B.bars_choice e).write (bars_of first second)) a b p m
  unfolding B.bars_choice held ◌then◌ nat
  bars-one l = pushes-then h (since_none e 5 0 (any 23) second mismatch_width l h.ready)

  pub bars-two : 5 ≤ e → {c : List ℕ} {n : Pen} → Pushes mismatch_width (bits_of 23 second) b c m n → Pushes (bars_width e) ((B.bars_choice e).write (bars_of first second)) a c p n
  unfolding B.bars_choice held ◌then◌ nat
  bars-two l i = pushes-then h (since-all e 5 0 (any 23) second mismatch_width l refl i)
