use mathlib.Core.Path.{◌≡◌, refl, ◌∙◌}
use mathlib.Core.List.{List}
use Prim.Native.Nat.{ℕ, ◌+◌, ◌*◌}
use native.Mathlib.Omega.{arith}
use lib.ListN.{length}
use Rattle.decoded_cases.specs.Decoded.{Work}
use Rattle.stacks.proofs.Going.{going-counted, going-room, going_more, going_done}
use Rattle.stack_judgement.proofs.judge_messages.Goals as goal

work-kept : {halves : List ℕ} {devices settings later : List (List ℕ)} {starts times powers forced : List ℕ} → Work halves devices settings starts powers
    → length later ≡ length settings → length times ≡ length starts → length forced ≡ length powers → Work halves devices later times forced
work-kept w a b c = record { settings-full = a ∙ w.settings-full; starts-full = b ∙ w.starts-full; powers-full = c ∙ w.powers-full }

-- the next place
place_after : (k : ℕ) → 6 * (k + 1) ≡ 6 * k + 6
place_after k = omega arith

pub loop-k-init : goal.loop-k-init
loop-k-init c = (c.requires.1, going-counted _ _ _ _ c.requires.2 refl c.requires.3)

pub overflow_mul-place : goal.overflow_mul-place
overflow_mul-place c = omega (arith, c.requires.3, c.loop-k-test.true)

pub next_turn-reached-requires : goal.next_turn-reached-requires
next_turn-reached-requires c =
    let here : _ = c.loop-k.invariant in
    (c.requires.0, here.0, here.1.inside, going-room here.1 (omega (arith, c.loop-k-test.true)))

pub loop-k-preserved : goal.loop-k-preserved
loop-k-preserved c =
    let kept : _ = c.next_turn-reached.auto in
    let here : _ = c.loop-k.invariant in (
      work-kept here.0 kept.settings kept.starts kept.powers,
      rw (place_after c.loop-k.k) (going_more here.1 (omega (arith, c.loop-k-test.true)) c.next_turn-reached.ensures),
    )

pub returns : goal.returns
returns c = going_done c.loop-k.invariant.1 (omega (arith, c.loop-k-test.false))
