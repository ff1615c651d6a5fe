-- The loop's invariant: the parts of the devices below i are filled, and the next part begins at a.
use Rattle.std.proofs.Common.{◌≡◌, ◌*◌, length}
use Rattle.powers.specs.Fleet.{ForcedTo}
use Rattle.powers.proofs.put_powers.Given as goal

abbrev pub invariant-loop-i : goal.invariant-loop-i
invariant-loop-i l = (l.a ≡ l.i * length l.halves) × ForcedTo l.halves l.devices l.cells l.settings l.i l.powers
