-- What a zone needs, what is apart on a bar, and our choices, of a case and plan whose devices were renumbered.
use Rattle.std.specs.Prelude.{◌≡◌, Bool, ◌&&◌, ℕ, ◌+◌, ◌-◌, ◌*◌, ◌<◌, ℤ, neg_ℤ, ◌+ℤ◌, ◌-ℤ◌}
use Rattle.std.proofs.Common.{◌∙◌}
use Rattle.std.proofs.Math.Path.{ap}
use Rattle.std.proofs.Math.Bool.{true, false, not}
use Rattle.std.proofs.Math.Dec.{eqb}
use Rattle.std.proofs.Math.ListN.{get_or}
use Rattle.std.proofs.Math.IntN.{pos, nat_abs}
use Rattle.bits.specs.Pick.{pick}
use Rattle.numbers.specs.Laws.{max_zero}
use Rattle.numbers.specs.Base.{up_to}
use Rattle.numbers.specs.Sum.{sumℕ, sumℤ, gate}
use Rattle.model.specs.Case.{System, Plan, Case, no_zone, no_minima, no_flow}
use Rattle.model.specs.Forced.{devices, setting}
use Rattle.model.specs.Completion as C
use Rattle.model.specs.Ours.{ours}
use Rattle.renumbering.specs.Permute.{Renumbering}
use Rattle.renumbering.specs.Renumbered.{Moved, CarriedChoices}
use Rattle.renumbering.specs.Alike.{su-same, sd-same}
use Rattle.renumbering.proofs.Choices.{overrun-same, state-same, block_same}
use Rattle.renumbering.proofs.Seen.{alike, over-devices, over-devicesℕ, member-moved, power-moved}
use Rattle.renumbering.proofs.Largest.{unit-same}
use Rattle.renumbering.proofs.Totals.{total-same}

module _ (c : Case) (p : Plan) (r : Renumbering (devices c.system)) (c' : Case) (p' : Plan) (m : Moved c p r c' p') where
  abbrev q : System
  q = c.system

  abbrev q' : System
  q' = c'.system

  -- ---- zones
  load_same : (t z : ℕ) → C.load q' p' t z ≡ C.load q p t z
  unfolding C.load
  load_same t z = over-devicesℕ c p r c' p' m _ _ (λ i h k. gate (member-moved c p r c' p' m z i h k && eqb (m.device i h k).side 1) (power-moved c p r c' p' m t i h k))

  required-same : (t z : ℕ) (k : C.Shortfall) → C.required q' p' t z k ≡ C.required q p t z k
  unfolding C.required
  required-same t z C.rgu = λ k. (get_or (m.zones k) z no_zone).shares.rgu * load_same t z k
  required-same t z C.rgd = λ k. (get_or (m.zones k) z no_zone).shares.rgd * load_same t z k
  required-same t z C.scr = λ k. let s = (get_or (m.zones k) z no_zone).shares in s.rgu * load_same t z k + s.scr * unit-same c p r c' p' m t z k
  required-same t z C.nsc = λ k. let s = (get_or (m.zones k) z no_zone).shares in s.rgu * load_same t z k + s.scr * unit-same c p r c' p' m t z k + s.nsc * unit-same c p r c' p' m t z k
  required-same t z C.rru = λ k. 1000 * (get_or (get_or (m.zones k) z no_zone).minima t no_minima).rru
  required-same t z C.rrd = λ k. 1000 * (get_or (get_or (m.zones k) z no_zone).minima t no_minima).rrd

  held_same : (t z : ℕ) (k : C.Shortfall) → C.held q' p' t z k ≡ C.held q p t z k
  unfolding C.held
  held_same t z C.rgu = over-devicesℕ c p r c' p' m _ _ (λ i h k. gate (member-moved c p r c' p' m z i h k) (m.setting t i h k).reserves.rgu)
  held_same t z C.rgd = over-devicesℕ c p r c' p' m _ _ (λ i h k. gate (member-moved c p r c' p' m z i h k) (m.setting t i h k).reserves.rgd)
  held_same t z C.scr = over-devicesℕ c p r c' p' m _ _ (λ i h k. let s = (m.setting t i h k).reserves in gate (member-moved c p r c' p' m z i h k) (s.rgu + s.scr))
  held_same t z C.nsc = over-devicesℕ c p r c' p' m _ _ (λ i h k. let s = (m.setting t i h k).reserves in gate (member-moved c p r c' p' m z i h k) (s.rgu + s.scr + s.nsc))
  held_same t z C.rru = over-devicesℕ c p r c' p' m _ _ (λ i h k. let s = (m.setting t i h k).reserves in gate (member-moved c p r c' p' m z i h k) (s.rru_on + s.rru_off))
  held_same t z C.rrd = over-devicesℕ c p r c' p' m _ _ (λ i h k. let s = (m.setting t i h k).reserves in gate (member-moved c p r c' p' m z i h k) (s.rrd_on + s.rrd_off))

  pub shortfall-same : (t z : ℕ) (k : C.Shortfall) → C.shortfall_need q' p' t z k ≡ C.shortfall_need q p t z k
  unfolding C.shortfall_need
  shortfall-same t z s = λ k. pos (required-same t z s k) -ℤ pos (1000 * held_same t z s k)

  reactive-required-same : (t z : ℕ) (k : C.ReactiveShortfall) → C.reactive_required q' p' t z k ≡ C.reactive_required q p t z k
  unfolding C.reactive_required
  reactive-required-same t z C.qru = λ k. 1000 * (get_or (get_or (m.zones k) z no_zone).minima t no_minima).reactive.qru
  reactive-required-same t z C.qrd = λ k. 1000 * (get_or (get_or (m.zones k) z no_zone).minima t no_minima).reactive.qrd

  reactive-held-same : (t z : ℕ) (k : C.ReactiveShortfall) → C.reactive_held q' p' t z k ≡ C.reactive_held q p t z k
  unfolding C.reactive_held
  reactive-held-same t z C.qru = over-devicesℕ c p r c' p' m _ _ (λ i h k. gate (member-moved c p r c' p' m z i h k) (m.setting t i h k).reactive.qru)
  reactive-held-same t z C.qrd = over-devicesℕ c p r c' p' m _ _ (λ i h k. gate (member-moved c p r c' p' m z i h k) (m.setting t i h k).reactive.qrd)

  pub reactive-need-same : (t z : ℕ) (k : C.ReactiveShortfall) → C.reactive_need q' p' t z k ≡ C.reactive_need q p t z k
  unfolding C.reactive_need
  reactive-need-same t z s = λ k. pos (reactive-required-same t z s k) -ℤ pos (1000 * reactive-held-same t z s k)

  -- ---- bars
  pub mismatch-same : (t b : ℕ) → C.mismatch_need q' p' t b ≡ C.mismatch_need q p t b
  unfolding C.mismatch_need
  mismatch-same t b = λ k. let f = get_or (m.flows k) t no_flow in
      nat_abs ((pos (total-same c p r c' p' m true t b k) -ℤ pos (total-same c p r c' p' m false t b k)) +ℤ pick (eqb b 0) f (neg_ℤ f))

  reactive-total-same : (s : Bool) (t b : ℕ) → C.reactive_total q' p' s t b ≡ C.reactive_total q p s t b
  unfolding C.reactive_total
  reactive-total-same true t b = over-devices c p r c' p' m _ _ (λ i h k. pick (eqb (m.device i h k).bar b && eqb (m.device i h k).side 1) (m.setting t i h k).reactive.q (pos 0))
  reactive-total-same false t b = over-devices c p r c' p' m _ _ (λ i h k. pick (eqb (m.device i h k).bar b && not (eqb (m.device i h k).side 1)) (m.setting t i h k).reactive.q (pos 0))

  pub reactive-mismatch-same : (t b : ℕ) → C.reactive_mismatch_need q' p' t b ≡ C.reactive_mismatch_need q p t b
  unfolding C.reactive_mismatch_need
  reactive-mismatch-same t b = λ k. nat_abs (reactive-total-same true t b k -ℤ reactive-total-same false t b k)

  -- ---- our completion
  pub ours-carried : CarriedChoices r (ours c p) (ours c' p')
  unfolding ours
  ours-carried = record {
    started = λ t i h. su-same q p i q' p' (r.to i) (alike c p r c' p' m i h) t;
    stopped = λ t i h. sd-same q p i q' p' (r.to i) (alike c p r c' p' m i h) t;
    state = λ t i h. state-same c p i c' p' (r.to i) (alike c p r c' p' m i h) (m.device_prices i h) t;
    block = λ t i b h. block_same c p i c' p' (r.to i) (alike c p r c' p' m i h) (m.device_prices i h) t b;
    overrun = λ i w h. ap max_zero (overrun-same q p i q' p' (r.to i) (alike c p r c' p' m i h) w);
    shortfall = λ t z k. ap max_zero (shortfall-same t z k);
    reactive_shortfall = λ t z k. ap max_zero (reactive-need-same t z k);
    mismatch = mismatch-same;
    reactive_mismatch = reactive-mismatch-same;
  }
