use Prim.Native.Nat.{◌<◌}
use native.Mathlib.Omega.{arith}
use lib.ListN.{take, length-take}
use lib.Seq.{get_or-take}
use Rattle.offers.specs.Merit.{no-offer}
use Rattle.dispatch_arrays.specs.Arrays.{floors-none, floors-more}
use Rattle.dispatch_arrays.proofs.floors_of.Goals as goal

pub loop-o-init : goal.loop-o-init
loop-o-init c = floors-none

pub loop-o-preserved : goal.loop-o-preserved
loop-o-preserved c =
    let a = c.args in
    let l = c.loop-o in
    let h : l.o-index < a.n = omega (arith, length-take a.n a.all) in
    floors-more (take a.n a.all) l.o-index l.floors (omega arith) (rw (get_or-take a.n a.all l.o-index no-offer h) (c.requires.sane l.o-index h)) l.invariant
