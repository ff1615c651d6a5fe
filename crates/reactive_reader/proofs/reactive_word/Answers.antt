-- Which bits of the message the three of a word are.
use native.Mathlib.Omega.{arith}
use Rattle.std.specs.Prelude.{◌≡◌, Bool, true, false, IfSome}
use Rattle.std.specs.Bool.{then_some}
use Rattle.std.proofs.Math.Path.{refl}
use Rattle.bits.proofs.Laws.{reaches}
use Rattle.reactive_reader.proofs.Steps.{word-found}
use Rattle.reactive_reader.proofs.reactive_word.Goals as goal

-- what a value has where its test holds
where_some : {A : Type 0} (P : A → Type 0) (b : Bool) (x : A) → (b ≡ true → P x) → IfSome (then_some b x) P
where_some P true x h = h refl
where_some P false x h = tt

pub bits_at-word-requires : goal.bits_at-word-requires
bits_at-word-requires c = omega (arith, reaches c.args.s.now)

pub returns : goal.returns
returns c = rw c.then_some.ensures (where_some _ _ _ (λ e.
    word-found c.args.s.now c.args.at c.requires c.bits_at-word.ensures c.offset_in-q.ensures
    c.field_in-qru.ensures c.field_in-qrd.ensures (c.in_ranges.ensures e)))
