use Rattle.std.proofs.Common.{ℕ, refl, sym, ap, ◌∙◌}
use Rattle.kilovars.specs.declared.Kvar.{Kvar}
use Rattle.row_places.specs.Figures.{in_zone}
use Rattle.reactive_mismatches.specs.Settled.{place}
use Rattle.reactive_shortfalls.specs.Held.{held_by, added, not-added, held_start, held_next}
use Rattle.reactive_shortfalls.proofs.reactive_held.Goals as goal
use Rattle.reactive_shortfalls.proofs.reactive_held.Goals.{then-in_zone, else-in_zone}

pub loop-i-init : goal.loop-i-init
loop-i-init c = held_start _ _ _ _ _

pub loop-i-preserved : goal.loop-i-preserved
loop-i-preserved c =
    let a = c.args in
    let h = c.loop-i in
    let s = held_by h.qru h.qrd in
    let member = sym (c.in_zone.ensures ∙ ap (λ (b : ℕ). in_zone b a.z) c.zonebits_at.ensures) in
    held_next _ _ _ _ _ h.i h.invariant refl
    (elim c.if-in_zone.branch [
      | then-in_zone w ↦ added s a.devices.now a.settings.now h.i _ a.z (member ∙ w.if-in_zone.true)
          (place c.requires.0 h.i _ c.loop-i-test.true refl).small w.reactive_at-x.ensures
          (ap (λ (x : Kvar). x.0) w.qru-is ∙ w.plus-qru.ensures) (ap (λ (x : Kvar). x.0) w.qrd-is ∙ w.plus-qrd.ensures)
      | else-in_zone w ↦ not-added s a.devices.now a.settings.now h.i _ a.z (member ∙ w.if-in_zone.false) w.qru-is w.qrd-is
    ])
