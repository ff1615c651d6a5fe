-- Start and end, then the edition's most starts.
use mathlib.Core.Path.{◌≡◌}
use mathlib.Core.List.{List}
use Prim.Native.Nat.{ℕ}
use Rattle.layouts.specs.declared.Place.{Place}
use Rattle.layouts.specs.Layout.{figure, held, ◌then◌}
use Rattle.model.specs.ByEdition.{start_window_by}
use Rattle.fields.specs.Got.{Got, got, nat-natural}
use Rattle.fields.proofs.Steps.{on, off, seen-exits}
use Rattle.item_reader.specs.Naturals.{ends-natural}
use Rattle.item_reader.proofs.read_start.Goals as goal

-- a width and a limit that were chosen
figure-of : (v h : ℕ) (s : List ℕ) (p : Place) {w m : ℕ} {g : Got ℕ} → w ≡ v → m ≡ h → g ≡ got (figure w 0 m) s p → g ≡ got (figure v 0 h) s p
figure-of v h s p i j e = rw (i, j) at e

pub returns-in_err-from : goal.returns-in_err-from
unfolding start_window_by held ◌then◌
returns-in_err-from c = seen-exits _ _ c.from_residual.ensures (search (off, ends-natural, c.in_err-from.ensures))

pub returns-in_err-most : goal.returns-in_err-most
unfolding start_window_by held ◌then◌
returns-in_err-most c =
    let k = figure-of _ _ _ _ c.starts_bits-width.ensures c.most_starts-high.ensures c.in_err-most.ensures in
    seen-exits _ _ c.from_residual-in_err-most.ensures (search (on, off, nat-natural, ends-natural, k, c.in_ok-from.ensures))

pub returns : goal.returns
unfolding start_window_by held ◌then◌
returns c =
    let k = figure-of _ _ _ _ c.starts_bits-width.ensures c.most_starts-high.ensures c.in_ok-most.ensures in
    search (on, nat-natural, ends-natural, k, c.in_ok-from.ensures)
