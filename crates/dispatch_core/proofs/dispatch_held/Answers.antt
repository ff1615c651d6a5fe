-- A case that is read alike is dispatched alike by either owner.
use native.Mathlib.Omega.{arith}
use mathlib.Core.Path.{ap}
use mathlib.Core.Logic.{⊎_elim}
use Rattle.model.specs.Editions.{batch, host}
use Rattle.case_sizes.specs.Sizes.{few}
use Rattle.dispatch_core.specs.Holds.{holds-alike}
use Rattle.dispatch_core.proofs.dispatch_held.Goals as goal

pub returns-in-Unstated : goal.returns-in-Unstated
returns-in-Unstated c =
    holds-alike batch host (omega arith) (omega arith) (c.size_of.ensures.alike (⊎_elim (ap few) (ap few) c.in-Unstated.is)) c.dispatch_in_tables.ensures
