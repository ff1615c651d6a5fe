-- The invariants: the offers of the first sets stand in the array; and behind them the first b of the next set.
use mathlib.Core.Path.{◌≡◌}
use mathlib.Core.List.{◌++◌}
use Prim.Native.Nat.{◌+◌, ◌*◌, ◌≤◌, ◌<◌}
use lib.ListN.{length, take, get_or}
use Rattle.numbers.specs.Base.{gather}
use Rattle.own_offers.specs.Own.{first_offers, set_offers}
use Rattle.own_offers.proofs.own_offers.Given as goal

abbrev pub invariant-loop-b : goal.invariant-loop-b
invariant-loop-b l = (l.b-end ≤ 4) × (l.n ≡ l.initial.n + l.b) × (l.initial.n ≤ 4 * l.s-index) × (l.s-index < 64) × (length l.all ≡ 256) ×
    (take l.n l.all ≡ take l.initial.n l.initial.all ++ first_offers l.c (get_or l.sets l.s-index 0) l.b)

abbrev pub invariant-loop-s : goal.invariant-loop-s
invariant-loop-s l = (l.n ≤ 4 * l.s-index) × (length l.all ≡ 256) ×
    (take l.n l.all ≡ gather (set_offers (length l.halves) l.cells l.t) (take l.s-index l.sets))
