-- The loop's invariant: the bits that are left give what all give.
use Rattle.breaches.specs.Bits.{BitsLeft}
use Rattle.breaches.proofs.first_in.Given as goal

abbrev pub invariant-loop-rule : goal.invariant-loop-rule
invariant-loop-rule l = BitsLeft l.t l.i l.word l.rule l.rest
