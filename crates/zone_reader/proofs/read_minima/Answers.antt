use native.Mathlib.Omega.{arith}
use Rattle.fields.proofs.Steps.{told-exits}
use Rattle.zone_reader.proofs.ZoneSteps.{minding-none, minding-more, minding-off, minding-done}
use Rattle.zone_reader.proofs.read_minima.Goals as goal

pub loop-k-init : goal.loop-k-init
loop-k-init c = minding-none _ _ _ _

pub returns-in_err-x : goal.returns-in_err-x
returns-in_err-x c = told-exits _ _ c.from_residual.ensures (minding-off c.loop-k.invariant (omega arith) c.in_err-x.ensures)

pub loop-k-preserved : goal.loop-k-preserved
loop-k-preserved c = minding-more c.loop-k.invariant (omega arith) _ c.in_ok-x.ensures c.put_minima.ensures

pub returns : goal.returns
returns c = minding-done c.loop-k.invariant (omega arith)
