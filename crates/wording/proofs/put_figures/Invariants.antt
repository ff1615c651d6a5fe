-- The loop's invariant: the numbers ahead of the loop's index are written.
use Rattle.std.proofs.Common.{◌≡◌, ◌*◌, length, take}
use Rattle.wording.specs.Text.{figures as figures_of}
use Rattle.wording.specs.Writes.{Puts}
use Rattle.wording.proofs.put_figures.Given as goal

abbrev pub invariant-loop-figure : goal.invariant-loop-figure
invariant-loop-figure l = record {
  same_length : length l.out ≡ length l.initial.out;
  written : Puts (21 * l.figure-index) (figures_of (take l.figure-index l.figures)) l.initial.out l.out l.at l.next;
}
