-- The loop's invariant: all sets are fit exactly where those from place k on are.
use mathlib.Core.Path.{◌≡◌}
use lib.ListN.{drop}
use Rattle.named_sets.specs.Named.{named}
use Rattle.named_sets.proofs.all_named.Given as goal

abbrev pub invariant-loop-k : goal.invariant-loop-k
invariant-loop-k l = named l.devices l.sets ≡ named l.devices (drop l.k l.sets)
