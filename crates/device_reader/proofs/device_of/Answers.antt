-- Figures, lists, link and bar in their places.
use Rattle.device_reader.proofs.HeadSteps.{device-made}
use Rattle.device_reader.proofs.device_of.Goals as goal

pub returns : goal.returns
returns c =
    let a : _ = c.args in
    device-made a.sides a.figures a.states a.starts a.energies a.linked
    c.money_of.ensures c.money_of-2.ensures c.limits_of-limits.ensures c.states_of-state_items.ensures c.starts_of-start_items.ensures c.energies_of-energy_items.ensures
