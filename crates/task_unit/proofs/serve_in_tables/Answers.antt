-- The first parts of the owner's tables hold the case that was read.
use native.Mathlib.Omega.{arith}
use Rattle.model.specs.Editions.{Largest}
use Rattle.decoded_cases.specs.Cases.{decoded-first}
use Rattle.decoded_cases.specs.Owned.{taken, few-cells, work}
use Rattle.task_unit.specs.Steps.{read_as}
use Rattle.task_unit.proofs.serve_in_tables.Goals as goal

pub serve_in-requires : goal.serve_in-requires
serve_in-requires g c =
    let l : Largest = record { devices = g.row.MOST_DEVICES; intervals = g.row.MOST_INTERVALS } in
    let d = decoded-first l c.requires.few.0 c.requires.few.1 _ _ _ _ _ _ _ _ c.in-Ok.ensures in
    let k = few-cells d in (
      read_as l c.requires.few.0 c.requires.few.1 _ _ _ _ _ _ _ _ c.in-Ok.ensures,
      d.decoded,
      work d (taken _ g.row.MOST_CELLS _ (omega arith)) (taken _ g.row.MOST_TIMES _ (omega (arith, d.few-intervals))) (taken _ g.row.MOST_CELLS _ (omega arith)),
    )
