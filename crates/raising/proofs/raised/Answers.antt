use mathlib.Core.Path.{◌≡◌, sym, ◌∙◌, ap, subst}
use mathlib.Core.List.{List}
use Prim.Native.Nat.{ℕ, ◌+◌, ◌<◌}
use native.Mathlib.Omega.{arith}
use lib.ListN.{length, take, get_or, length-take}
use lib.Seq.{slice, get_or-take}
use Rattle.offers.specs.declared.Offer.{Offer}
use Rattle.offers.specs.Merit.{no-offer}
use Rattle.raising.specs.declared.Rise.{Rise}
use Rattle.raising.specs.Raising.{Sane, Ranged, run, Good}
use Rattle.raising.proofs.Raising.{fits-here, stops-here, good-next, run-stop, run_on, run_end}
use Rattle.raising.proofs.raised.Goals as goal

-- each of the first n offers is of a set that there is
module _ {all : List Offer} {n : ℕ} {lo hi : List ℕ} {start : Rise} {target : ℕ} (p : Ranged all n lo hi start target) (k : ℕ) (h : k < length (take n all)) where
  below : k < n
  below = omega (arith, length-take n all)

  pub few : k < 256
  few = omega (arith, below, p.room)

  pub sane : Sane (get_or (take n all) k no-offer)
  sane = rw (get_or-take n all k no-offer below) (p.sane k below)

pub raised_by-next-requires : goal.raised_by-next-requires
raised_by-next-requires c =
    let a = c.args in
    let l = c.loop-o in
    let k = l.o-index in
    let h = c.loop-o-test.true in
    fits-here k l.r a.target _ a.lo a.hi l.invariant.1 (omega (arith, few c.requires k h)) (sane c.requires k h) (c.requires.most _)

pub stopped_at-requires : goal.stopped_at-requires
stopped_at-requires c =
    let a = c.args in
    let l = c.loop-o in
    let k = l.o-index in
    let h = c.loop-o-test.true in
    stops-here k l.r a.target _ a.lo a.hi l.invariant.1 (omega (arith, few c.requires k h)) (sane c.requires k h) (c.requires.most _)

pub returns-then-target-next : goal.returns-then-target-next
returns-then-target-next c =
    let a = c.args in
    let l = c.loop-o in
    let os = take a.n a.all in
    c.stopped_at.ensures
    ∙ sym (l.invariant.0 ∙ run-stop l.r os (length os) a.lo a.hi a.target l.o-index (omega arith) (omega arith) (omega (arith, c.if-target-next.true, ap (λ (s : Rise). s.total) c.raised_by-next.ensures)))

pub loop-o-preserved : goal.loop-o-preserved
loop-o-preserved c =
    let a = c.args in
    let l = c.loop-o in
    let k = l.o-index in
    let h = c.loop-o-test.true in
    let os = take a.n a.all in
    let step = c.raised_by-next.ensures in
    let past = ap (λ (s : Rise). s.total) step in (
      l.invariant.0 ∙ run_on l.r os (length os) a.lo a.hi a.target k (omega arith) (omega arith) (omega (arith, c.if-target-next.false))
          ∙ ap (λ (s : Rise). run s (slice (k + 1) (length os) os) a.lo a.hi a.target) (sym step),
      subst (λ (s : Rise). Good (k + 1) s a.target) (sym step)
          (good-next k l.r a.target _ a.lo a.hi l.invariant.1 (omega (arith, few c.requires k h)) (sane c.requires k h) (c.requires.most _) (omega (arith, c.if-target-next.false))),
    )

pub returns : goal.returns
returns c =
    let a = c.args in
    let l = c.loop-o in
    let os = take a.n a.all in
    let ended : l.o-index ≡ length os = omega arith in
    sym (l.invariant.0 ∙ ap (λ (m : ℕ). run l.r (slice m (length os) os) a.lo a.hi a.target) ended ∙ run_end l.r os (length os) a.lo a.hi a.target)
