-- The loop's invariant: S of the intervals up to t is written, and `at` is the last.
use Rattle.std.proofs.Common.{◌≡◌, ◌≤◌, ◌*◌}
use Rattle.clock.specs.Times.{start_at, TimesTo}
use Rattle.clock.proofs.start_times.Given as goal

abbrev pub invariant-loop-t : goal.invariant-loop-t
invariant-loop-t l = (l.at ≡ start_at l.halves l.t) × (l.at ≤ 360 * l.t) × TimesTo l.halves l.t l.starts
