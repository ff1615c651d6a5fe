-- A device with its row's costs and counts is the row's device.
use Prim.Native.Nat.{ℕ}
use mathlib.Core.Path.{◌≡◌, refl, ◌∙◌}
use mathlib.Core.List.{List, []}
use lib.ListN.{get_or}
use Rattle.grains.specs.declared.Grains.{Grains}
use Rattle.grains.specs.Money.{grains}
use Rattle.row_places.specs.Figures.{at, states_from, starts_from, energies_from, limits_of, states_of, starts_of, energies_of, device_with, device_of}
use Rattle.device_rows.proofs.device_at.Goals as goal

module _ (r : List ℕ) {startcost stopcost : Grains} {nstates nstarts nenergies : ℕ} where
  whole : startcost ≡ grains (at r 12) → stopcost ≡ grains (at r 13) → nstates ≡ at r states_from → nstarts ≡ at r starts_from → nenergies ≡ at r energies_from
      → device_with r startcost stopcost (limits_of r) nstates (states_of r) nstarts (starts_of r) nenergies (energies_of r) ≡ device_of r
  whole a b d e f = rw (a, b, d, e, f) refl

pub returns : goal.returns
returns c =
    let start : _ = c in
    c.device_with.ensures
    ∙ whole (get_or start.args.devices.now start.args.i [])
    c.money_of-startcost.ensures
    c.money_of-stopcost.ensures
    c.counted-nstates.ensures
    c.counted-nstarts.ensures
    c.counted-nenergies.ensures
