-- One group behind the other.
use Rattle.figure_reader.specs.Walks.{runs_then}
use Rattle.completion_body.proofs.read_interval.Goals as goal

pub returns : goal.returns
returns c = let x2 = c in let x1 = x2 in runs_then x1.read_devices-t.ensures x2.read_slack.ensures
