-- By what is listed.
use Rattle.item_reader.proofs.read_item.Goals as goal

pub returns-in-States : goal.returns-in-States
returns-in-States c = rw c.in-States.is c.read_state.ensures

pub returns-in-Starts : goal.returns-in-Starts
returns-in-Starts c = rw c.in-Starts.is c.read_start.ensures

pub returns-in-Energies : goal.returns-in-Energies
returns-in-Energies c = rw c.in-Energies.is c.read_energy.ensures
