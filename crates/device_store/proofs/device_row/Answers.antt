use Rattle.row_places.specs.Figures.{device-row-is}
use Rattle.device_store.proofs.device_row.Goals as goal

pub returns : goal.returns
returns c = let earlier : _ = c in
    let entry : _ = earlier in device-row-is entry.args.d
    c.narrow-startcost.ensures
    c.narrow-stopcost.ensures
    c.narrow-nstates.ensures
    c.narrow-nstarts.ensures c.narrow-nenergies.ensures
    c.state_figures-states.ensures c.start_figures-starts.ensures c.energy_figures-energies.ensures
