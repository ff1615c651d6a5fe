-- The end of a message: "fields in message order (1 to 4), then 6, then 5 in message order".
use Rattle.std.specs.Prelude.{◌≡◌, refl, List, ℕ, Result, Ok, Err}
use Rattle.std.proofs.Common.{sym, ap, ◌∙◌, arith}
use Rattle.layouts.specs.declared.Fault.{Fault}
use Rattle.layouts.specs.declared.Fault.TheVariants.{Tail, Contradiction}
use Rattle.layouts.specs.declared.Clash.{Clash}
use Rattle.layouts.specs.declared.Clash.TheVariants.{Clear, At}
use Rattle.layouts.specs.declared.Place.{Place}
use Rattle.layouts.specs.Checked.{Checked}
use Rattle.layouts.specs.Numbers.{Tells, fails-tells}
use Rattle.layouts.specs.Layout.{Layout, Whole, passes, fails, settle, begin, read_whole, tail_fault}
use Rattle.fields.specs.Got.{got, told, Natural, Inside, whole-on, whole-off, went-good}

-- whether a message passes reading
abbrev pub Ending : Type 0
Ending = Result Unit Fault

-- how a message ends, by its tail and its first contradiction
abbrev pub ending_of : Clash → Clash → Ending
ending_of (At b) c = Err (Tail b)
ending_of Clear (At b) = Err (Contradiction b)
ending_of Clear Clear = Ok tt

-- a value that was read, or the fault that its message ended with
abbrev pub ended : {A : Type 0} → A → Ending → Whole A
ended a (Ok _) = passes a
ended a (Err f) = fails f

pub ended-settle : {A : Type 0} (a : A) (t c : Clash) → ended a (ending_of t c) ≡ settle a t c
unfolding settle
ended-settle a (At b) c = refl
ended-settle a Clear (At b) = refl
ended-settle a Clear Clear = refl

-- a whole message, from what the reader of its fields answered and how it ended
module _ {A : Type 0} {l : Layout A} (u : Natural l) (s : List ℕ) {w : Result Place Fault} (a : A) (e : told w a ≡ got l s begin) where
  pub whole-inside : {q : Place} → w ≡ Ok q → Inside s q
  whole-inside t = u.stays s begin (went-good a e t) (omega arith)

  pub whole-ended : {q : Place} {r : Ending} → w ≡ Ok q → r ≡ ending_of (tail_fault s q.at) q.clash → ended a r ≡ read_whole l s
  whole-ended {q} t h = ap (λ (x : Ending). ended a x) h ∙ ended-settle a (tail_fault s q.at) q.clash ∙ sym (whole-on u s a e t)

  pub whole-failed : {f : Fault} → w ≡ Err f → ended a (Err f) ≡ read_whole l s
  whole-failed t = sym (whole-off u s a e t)

-- what a message that fails is refused with, by its number
pub ended-tells : {A : Type 0} (l : Layout A) (P : A → Type 0) → Checked l P → (s : List ℕ) (a : A) {r : Ending} → ended a r ≡ read_whole l s → (f : Fault) → r ≡ Err f → Tells l s f
ended-tells l P u s a e f t = fails-tells l P u s f (sym e ∙ ap (λ (x : Ending). ended a x) t)
