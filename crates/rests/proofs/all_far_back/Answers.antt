use Prim.Native.Nat.{◌-◌}
use native.Mathlib.Omega.{arith}
use Rattle.rests.specs.Apart.{far-rest, far_none, far-broken, far-next}
use Rattle.rests.proofs.all_far_back.Goals as goal

pub returns-then-r-back : goal.returns-then-r-back
returns-then-r-back c = let a : _ = c.args in let l : _ = c.loop-e in
    far-rest a.r a.settings.now a.starts.now a.t l.e c.loop-e-test.true l.auto.e
    c.requires.2 c.if-r-back.true l.invariant

pub returns-then-changes-eq1 : goal.returns-then-changes-eq1
returns-then-changes-eq1 c = let a : _ = c.args in let l : _ = c.loop-e in
    far-broken a.r a.settings.now a.starts.now a.t l.e c.loop-e-test.true
    c.if-r-back.false c.changes.ensures c.if-changes-eq1.true l.invariant

pub loop-e-preserved : goal.loop-e-preserved
loop-e-preserved c = let a : _ = c.args in let l : _ = c.loop-e in
    far-next a.r a.settings.now a.starts.now a.t l.e c.loop-e-test.true
    c.changes.ensures c.if-changes-eq1.false l.invariant

pub returns : goal.returns
returns c = let a : _ = c.args in
    far_none a.r a.settings.now a.starts.now a.t c.loop-e.e (omega (arith, c.loop-e-test.false)) c.loop-e.invariant
