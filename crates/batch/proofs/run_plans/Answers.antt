-- With each plan fewer bytes are left, and its answer stands behind those told before.
use Rattle.std.proofs.Common.{◌≡◌, ◌-◌, length, List, ℕ, IfSome, arith, rules, sym, ◌∙◌, take}
use Rattle.std.proofs.lemmas.Bool.{not-true, not-false}
use Rattle.decoded_cases.specs.Decoded.{Work, stated_rows}
use Rattle.batch.specs.Told.{plans_told, FailsIn}
use Rattle.batch.proofs.Streams.{begins, ended, failed, stepped, finished, err-at}
use Rattle.batch.proofs.run_plans.Goals as goal

work-kept : {halves : List ℕ} {devices settings later : List (List ℕ)} {starts times powers forced : List ℕ} → Work halves devices settings starts powers
    → length later ≡ length settings → length times ≡ length starts → length forced ≡ length powers → Work halves devices later times forced
work-kept w a b c = record { settings-full = a ∙ w.settings-full; starts-full = b ∙ w.starts-full; powers-full = c ∙ w.powers-full }

pub loop-rest-init : goal.loop-rest-init
loop-rest-init g c = record {
  counted = omega arith;
  frame_long = c.requires.frame_len.0;
  result_long = search rules;
  work = c.requires.decoded.1;
  told =
      let a = c.args in
      let x = stated_rows a.front a.halves.now a.zones.now a.minima.now a.devices.now a.cells.now in
      begins x (λ s. plans_told x 1 (take a.left s)) _ _ a.left;
}

pub returns-in_err-turn-clause-failed : goal.returns-in_err-turn-clause-failed
returns-in_err-turn-clause-failed g c =
    let a = c.args in
    let l = c.loop-rest in
    let x = stated_rows a.front a.halves.now a.zones.now a.minima.now a.devices.now a.cells.now in
    err-at (λ e. IfSome (g.R.Read.remaining a.input.now) (λ s. FailsIn (g.W.Write.contents a.output.now) (g.W.Write.contents c.next.new.output) e (plans_told x 1 (take a.left s))))
    c.from_residual.result c.in_err-turn.field-0.0 c.from_residual.ensures.1
    (failed x (λ s. plans_told x 1 (take a.left s)) _ l.index l.rest _ _ _ _ c.in_err-turn.field-0.0 l.invariant.told c.in_err-turn.ensures.failed)

pub returns-then-not-turn-clause-told : goal.returns-then-not-turn-clause-told
returns-then-not-turn-clause-told g c =
    let a = c.args in
    let l = c.loop-rest in
    let t = c.in_ok-turn in
    let x = stated_rows a.front a.halves.now a.zones.now a.minima.now a.devices.now a.cells.now in
    finished x (λ s. plans_told x 1 (take a.left s)) _ l.index l.rest _ (take (l.rest - t.turn.rest) c.next.new.frame) _ t.turn.rest t.ensures.size t.ensures.told _ _ _ l.invariant.told
    t.ensures.read (sym t.ensures.answer.0 ∙ not-true t.turn.more c.if-not-turn.true)

pub loop-rest-preserved : goal.loop-rest-preserved
loop-rest-preserved g c =
    let a = c.args in
    let l = c.loop-rest in
    let t = c.in_ok-turn in
    record {
      counted = omega (arith, t.ensures.rest.1 (not-false t.turn.more c.if-not-turn.false));
      frame_long = search rules;
      result_long = search rules;
      work = work-kept l.invariant.work c.next.auto.settings c.next.auto.starts c.next.auto.powers;
      told =
          let x = stated_rows a.front a.halves.now a.zones.now a.minima.now a.devices.now a.cells.now in
          stepped x (λ s. plans_told x 1 (take a.left s)) _ l.index l.rest _ (take (l.rest - t.turn.rest) c.next.new.frame) _ t.turn.rest t.ensures.size t.ensures.told _ _ _ l.invariant.told
          t.ensures.read (sym t.ensures.answer.0 ∙ not-false t.turn.more c.if-not-turn.false);
    }

pub returns-clause-told : goal.returns-clause-told
returns-clause-told g c =
    let a = c.args in
    let l = c.loop-rest in
    let x = stated_rows a.front a.halves.now a.zones.now a.minima.now a.devices.now a.cells.now in
    ended x (λ s. plans_told x 1 (take a.left s)) _ l.index l.rest _ _ _ l.invariant.told (omega arith)
