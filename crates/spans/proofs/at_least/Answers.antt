-- By the law of each case.
use Rattle.std.proofs.Common.{◌≡◌, sym, ◌∙◌, ap, ℕ, suc, ◌+◌, ◌-◌, ◌*◌, ◌/◌, ◌%◌, ◌<◌, ◌≤◌, min, arith, le-div_iff_mul-le, div-lt_iff_lt-mul}
use Rattle.std.proofs.lemmas.Grind.{div_ceil_times}
use Rattle.spans.specs.Spans.{started, at-least-none, at-least-flat, at-least-some}
use borrow.Author.Rules.{rules}
use Rattle.spans.proofs.at_least.Goals as goal

-- a quotient rounded up
rounded : (a k : ℕ) → 0 < k → a / k + min 1 (a % k) ≡ (a + k - 1) / k
rounded a k h =
    let n : ℕ = a / k + min 1 (a % k) in
    let t : _ = div_ceil_times a k h in
    let low : n ≤ (a + k - 1) / k = (le-div_iff_mul-le {k = k} {x = n} {y = a + k - 1} h).1 (omega (arith, t.1)) in
    let high : (a + k - 1) / k < n + 1 = (div-lt_iff_lt-mul {k = k} {x = a + k - 1} {y = n + 1} h).1 (omega (arith, t.0)) in
    omega arith

pub returns-then-x-y : goal.returns-then-x-y
returns-then-x-y c = search (rules, at-least-none)

pub returns-then-slope-eq0 : goal.returns-then-slope-eq0
returns-then-slope-eq0 c = search (rules, at-least-flat)

pub returns-else-slope-eq0 : goal.returns-else-slope-eq0
returns-else-slope-eq0 c = let a : _ = c.args in
    at-least-some a.s a.slope a.x a.y (c.starting.ensures ∙ ap (started a.s) (c.div_ceil.ensures ∙ rounded (a.x - a.y) a.slope (omega arith))) (omega arith) c.if-slope-eq0.false
