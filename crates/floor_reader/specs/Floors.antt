-- What the reader's record holds of a block.
use Rattle.model.specs.Case.{Block}
use Rattle.floor_reader.specs.declared.Bounds.{Bounds}

abbrev pub bounds_in : Bounds → Block
bounds_in r = record { cap = r.cap.0; floor = r.floor.0 }
