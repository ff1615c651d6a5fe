-- What one word says where it answers, else what the fields say; either is put.
use native.Mathlib.Omega.{arith}
use Rattle.bits.proofs.Laws.{reaches}
use Rattle.reactive_reader.proofs.Steps.{found-good}
use Rattle.setting_store.proofs.store_reactive.Goals as goal

pub overflow_add-result : goal.overflow_add-result
overflow_add-result c = omega (arith, c.in-Some.ensures.there, reaches c.args.s.now)

pub returns-in-Some : goal.returns-in-Some
returns-in-Some c = record {
  figures = c.in-Some.reactive;
  stored = c.put_reactive.ensures;
  reads = found-good c.args.s.now c.args.p c.in-Some.ensures;
}
