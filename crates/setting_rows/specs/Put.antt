-- A row of which some figures are put anew.
use Rattle.std.specs.Prelude.{List, ℕ, set}
use Rattle.row_places.specs.declared.Reactive.{Reactive}

-- the reactive figures at their places
abbrev pub with_reactive : List ℕ → Reactive → List ℕ
with_reactive r x = set (set (set r 10 x.q.0) 11 x.qru.0) 12 x.qrd.0
