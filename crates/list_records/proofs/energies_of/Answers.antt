-- Each energy comes from 32 bits.
use Rattle.list_records.proofs.Made.{energies-made}
use Rattle.list_records.proofs.energies_of.Goals as goal

pub returns : goal.returns
returns c = energies-made c.args.list.items c.energy_of.ensures c.energy_of-2.ensures c.energy_of-3.ensures c.energy_of-4.ensures
