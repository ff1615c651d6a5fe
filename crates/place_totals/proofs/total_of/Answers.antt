use mathlib.Core.Path.{◌≡◌, refl, sym, ◌∙◌, ap}
use Prim.Native.Nat.{ℕ}
use native.Mathlib.Omega.{arith}
use lib.ListN.{get_or}
use Rattle.numbers.specs.Base.{up_to}
use Rattle.numbers.specs.Sum.{sumℕ}
use Rattle.numbers.specs.Ranges.{sum-next}
use Rattle.place_totals.specs.Totals.{total_of, total-none}
use Rattle.place_totals.proofs.total_of.Goals as goal

pub loop-x-init : goal.loop-x-init
loop-x-init c = (sym (total-none c.args.figures), omega arith)

pub loop-x-preserved : goal.loop-x-preserved
loop-x-preserved c =
    let l = c.loop-x in
    (sum-next (λ k. get_or c.args.figures k 0) l.x-index l.invariant.0 refl, omega (arith, c.requires.each l.x-index))

pub returns : goal.returns
unfolding total_of
returns c =
    let l = c.loop-x in
    let e : l.x-index ≡ 64 = omega arith in
    l.invariant.0 ∙ ap (λ (n : ℕ). sumℕ (λ k. get_or c.args.figures k 0) (up_to n)) e
