-- The first parts of the tables hold the case that was read; the plans' answers stand behind the case's line.
use Rattle.std.proofs.Common.{◌-◌, ◌<◌, ◌^◌, length, IfSome, arith, take}
use Rattle.std.specs.Io.KnownBytes.{Appends}
use Rattle.decoded_cases.specs.Decoded.{stated_first}
use Rattle.decoded_cases.specs.Owned.{taken, few-cells, few-minima, work}
use Rattle.wording.specs.Text.{batch_text}
use Rattle.batch.specs.Told.{FailsIn}
use Rattle.batch.proofs.Streams.{most, only-case, case-failed, with-plans, plans-failed, err-at, on-ok, if-err}
use Rattle.batch.proofs.run.Goals as goal

pub returns-in_err-started-clause-failed : goal.returns-in_err-started-clause-failed
returns-in_err-started-clause-failed g c =
    let a = c.args in
    err-at
    (λ e. IfSome (g.R.Read.remaining a.input.now) (λ s. length s < 2 ^ 61 → FailsIn (g.W.Write.contents a.output.now) (g.W.Write.contents c.start.new.output) e (batch_text s)))
    c.from_residual.result c.in_err-started.field-0.0 c.from_residual.ensures.1 (case-failed _ _ _ c.in_err-started.field-0.0 c.in_err-started.ensures.failed)

pub returns-in_default-clause-told : goal.returns-in_default-clause-told
returns-in_default-clause-told g c =
    let s = c.in_ok-started.started in
    let t = c.in_ok-started.ensures in
    only-case (take (most - s.rest) c.start.new.frame) s.rest t.size _ _ t.told _ _ t.read (rw c.in_default.is at t.after)

pub slice_bounds-run_plans-end-6 : goal.slice_bounds-run_plans-end-6
slice_bounds-run_plans-end-6 g c =
    let d = rw c.in-Some.is at c.in_ok-started.ensures.decoded in taken _ 768 _ (omega (arith, few-cells d))

pub run_plans-requires-clause-decoded : goal.run_plans-requires-clause-decoded
run_plans-requires-clause-decoded g c =
    let d = rw c.in-Some.is at c.in_ok-started.ensures.decoded in
    let k = few-cells d in
    (d.decoded, work d (taken _ 768 _ (omega arith)) (taken _ 49 _ (omega (arith, d.few-intervals))) (taken _ 768 _ (omega arith)), omega (arith, d.long.devices-long, d.few-devices), omega (arith, d.long.halves_long, d.few-intervals))

pub returns-clause-told : goal.returns-clause-told
returns-clause-told g c =
    let s = c.in_ok-started.started in
    let t = c.in_ok-started.ensures in
    let h = c.in-Some.head in
    let n = c.start.new in
    on-ok c.run_plans.result c.run_plans.ensures.told
    (with-plans (take (most - s.rest) n.frame) s.rest t.size _ _ t.told (stated_first h.front h.counts n.halves n.zones n.minima n.devices n.cells) _ _ _ t.read (rw c.in-Some.is at t.after))

pub returns-clause-failed : goal.returns-clause-failed
returns-clause-failed g c =
    let s = c.in_ok-started.started in
    let t = c.in_ok-started.ensures in
    let h = c.in-Some.head in
    let n = c.start.new in
    if-err c.run_plans.result c.run_plans.ensures.failed
    (λ e. plans-failed (take (most - s.rest) n.frame) s.rest t.size _ _ t.told (stated_first h.front h.counts n.halves n.zones n.minima n.devices n.cells) _ _ _ e t.read (rw c.in-Some.is at t.after))
