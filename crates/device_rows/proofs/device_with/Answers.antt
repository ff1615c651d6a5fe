-- The limits, the lists and the link are the row's; the other figures stand there by name.
use Rattle.row_places.specs.Figures.{device-made}
use Rattle.device_rows.proofs.device_with.Goals as goal

pub returns : goal.returns
returns c = device-made c.args.r
    c.limits_in.ensures
    c.states_in.ensures
    c.starts_in.ensures
    c.energies_in.ensures
    c.link_in.ensures
