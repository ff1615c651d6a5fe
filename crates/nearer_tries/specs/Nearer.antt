-- What a try answers, and the better of two.
use Rattle.std.specs.Prelude.{ℕ, ◌+◌, ◌-◌, leb}
use Rattle.bits.specs.Pick.{pick}
use Rattle.mending.specs.declared.Mending.{Mending}
use Rattle.mending.specs.declared.Mending.TheVariants.{Mended, Nothing}
use Rattle.std.specs.Prelude.{Option, Some, None}

-- a try by itself
abbrev pub answer_as : ℕ → ℕ → Option ℕ → Mending
answer_as t i (Some v) = Mended (t + 1) (i + 1) v
answer_as t i None = Nothing

-- the better of the tries of interval t − 1 and t, whose online powers were `before` and `now`
abbrev pub nearer_as : ℕ → ℕ → ℕ → ℕ → Option ℕ → Option ℕ → Mending
nearer_as t i before now None second = answer_as t i second
nearer_as t i before now (Some v) None = answer_as (t - 1) i (Some v)
nearer_as t i before now (Some v) (Some w) = pick (leb ((before - v) + (v - before)) ((now - w) + (w - now))) (answer_as (t - 1) i (Some v)) (answer_as t i (Some w))
