-- The bounds out of the parts are the model's, and the span within them is that of the interval and device.
use Rattle.std.specs.Prelude.{◌≡◌, Bool, true, false, ℕ, suc, ◌+◌, ◌-◌, ◌*◌, ◌≤◌, ◌<◌, T, eqb, ltb, get_or, length, take, drop, pos, ◌*ℤ◌}
use Rattle.std.proofs.Math.Path.{refl, sym, ap, ap₂}
use Rattle.std.proofs.Common.{◌∙◌, add-one, mul-zero, mul-add, ltb→lt}
use mathlib.Core.List.{List, [], ◌∷◌, ◌++◌}
use native.Mathlib.Omega.{arith}
use Rattle.bits.specs.Pick.{pick}
use Rattle.numbers.specs.Sum.{sumℕ}
use Rattle.numbers.specs.Parts.{part, part_cut}
use Rattle.spans.specs.declared.Span.{Span}
use Rattle.spans.specs.Spans.{Bound, whole, within, span_of, within-append}
use Rattle.model.specs.Case as M
use Rattle.model.specs.Case.{System, Plan}
use Rattle.model.specs.Forced as F
use Rattle.model.specs.Rules as R
use Rattle.mending.specs.Mending.{most_online}
use Rattle.mending_theorems.specs.Bounds.{line_above, line_below, ramp_bounds, next_bounds, limit_bounds, two_line_bounds, equality_bounds, power_bounds, bounds}
use Rattle.mending_theorems.specs.Answer.{span_at}
use Rattle.row_places.specs.declared.Cell.{Cell}
use Rattle.row_places.specs.declared.Device.{Device}
use Rattle.row_places.specs.declared.Front.{Front}
use Rattle.row_places.specs.declared.Setting.{Setting}
use Rattle.row_places.specs.Figures.{device_of, online_at, reactive_at}
use Rattle.records.specs.Views.{system_in, plan_in, setting_in, link_in, reactive_in, most_power, Ready}
use Rattle.records.specs.Viewed as W
use Rattle.records.specs.Ranged as G
use Rattle.cell_bounds.specs.declared.Bounds.{Bounds}
use Rattle.cell_bounds.specs.declared.Moment.{Moment}
use Rattle.cell_bounds.specs.Tests.{bounds_of}
use Rattle.device_rules.specs.Tie.{OfDevice, OfCell, OfSetting, OfMoment, of-device, of-cell, of-setting, of-moment, fits-here}
use Rattle.brackets.specs.Tied.{bracket-here}
use Rattle.brackets.specs.Counts.{bracket_at}
use Rattle.ramped_powers.specs.Changes.{ramping_of}
use Rattle.reactive_rules.specs.declared.ReactiveBounds.{ReactiveBounds}
use Rattle.reactive_rules.specs.Rules.{reactive_bounds_of}
use Rattle.reactive_rules.specs.Tie.{reactive-fits-here}
use Rattle.power_spans.specs.Bounds.{ramp_bounds_of, next_bounds_of, reserve_bounds_of, block_bounds_of}
use Rattle.line_spans.specs.Lines.{line_bounds_of}
use Rattle.cell_spans.specs.Parts.{real_bounds_at, next_bounds_at, line_bounds_at, parts_span, SpanFits}

sumℕ-times : (n : ℕ) (f : ℕ → ℕ) (ks : List ℕ) → n * sumℕ f ks ≡ sumℕ (λ k. n * f k) ks
sumℕ-times n f [] = mul-zero n
sumℕ-times n f (k ∷ ks) = mul-add n (f k) (sumℕ f ks) ∙ ap (λ (m : ℕ). n * f k + m) (sumℕ-times n f ks)

module _ (q : System) (p : Plan) (t i : ℕ) where
  forced-is : {power online : ℕ} → power ≡ F.power q p t i → online ≡ (F.setting q p t i).online → power - online ≡ F.psu q p t i + F.psd q p t i
  unfolding F.power
  forced-is e f = omega arith

  floors-bind : F.u q p t i * sumℕ (F.floor q t i) R.blocks ≡ sumℕ (F.least q p t i) R.blocks
  unfolding F.least
  floors-bind = sumℕ-times (F.u q p t i) (F.floor q t i) R.blocks

  ramps-are : {d : Bounds} {s : Setting} {w : Moment} → OfDevice q p t i d → OfSetting q p t i s → OfMoment q p t i w → ramp_bounds_of d s w ≡ ramp_bounds q p t i
  unfolding ramp_bounds_of ramp_bounds R.may_rise R.may_fall
  ramps-are a e f = rw (
    forced-is f.power e.online,
    a.up,
    a.down,
    a.starting,
    a.stopping,
    e.on,
    f.started,
    f.minutes,
    f.previous,
  ) refl

  limits-are : {d : Bounds} {c : Cell} {s : Setting} {w : Moment} → OfDevice q p t i d → OfCell q p t i c → OfSetting q p t i s → OfMoment q p t i w
      → reserve_bounds_of d s w c ++ block_bounds_of d s w c ≡ limit_bounds q p t i
  unfolding reserve_bounds_of block_bounds_of
  limits-are a b e f = rw (
    forced-is f.power e.online,
    a.side,
    b.pmin,
    b.pmax,
    b.room,
    b.floors,
    e.on,
    floors-bind,
    e.rgu,
    e.rgd,
    e.scr,
    e.rruon,
    e.rrdon,
  ) refl

  -- of the next interval
  next-are : {d : Bounds} {s : Setting} {w : Moment} (a : ℕ) → OfDevice q p (suc t) i d → OfSetting q p (suc t) i s → OfMoment q p (suc t) i w → a ≡ F.psu q p t i + F.psd q p t i
      → next_bounds_of d s w a ≡ next_bounds q p t i
  unfolding next_bounds_of next_bounds R.may_rise R.may_fall
  next-are a b e f g = rw (g, b.up, b.down, b.starting, b.stopping, e.on, f.started, f.minutes, f.power) refl

module _ {front : Front} {halves : List ℕ} {zones minima devices cells settings : List (List ℕ)} {starts powers : List ℕ}
    (ready : Ready front halves zones minima devices cells settings starts powers) (i : ℕ) (l : i < length devices) (t : ℕ) (h : t < length halves) where
  abbrev q : System
  q = system_in halves zones minima devices cells

  abbrev p : Plan
  p = plan_in (length devices) (length halves) settings

  abbrev d : Device
  d = device_of (get_or devices i [])

  abbrev own_cells : List (List ℕ)
  own_cells = part (length halves) i cells

  abbrev own_settings : List (List ℕ)
  own_settings = part (length halves) i settings

  abbrev own_powers : List ℕ
  own_powers = part (length halves) i powers

  abbrev a : ℕ
  a = get_or own_powers t 0 - online_at own_settings t

  setting-is : F.setting q p t i ≡ setting_in (get_or own_settings t [])
  setting-is = W.setting-is (length devices) (length halves) settings q t i h l

  beside-is : a ≡ F.psu q p t i + F.psd q p t i
  beside-is = forced-is q p t i (G.power-at ready i l t h) (sym (ap (λ (x : M.Setting). x.online) setting-is))

  pub beside-small : a ≤ most_power
  beside-small = omega (arith, G.power_small ready i l t h)

  real-are : real_bounds_at (bounds_of d) d.power0.0 halves own_cells own_settings starts own_powers t ≡ ramp_bounds q p t i ++ limit_bounds q p t i
  unfolding real_bounds_at
  real-are = ap₂ (λ (x y : List Bound). x ++ y)
      (ramps-are q p t i (of-device ready i l t h) (of-setting ready i l t h) (of-moment ready i l t h))
      (limits-are q p t i (of-device ready i l t h) (of-cell ready i l t h) (of-setting ready i l t h) (of-moment ready i l t h))

  abbrev line_bounds : List Bound
  line_bounds = pick (eqb (F.device q i).link.kind R.two_lines) (two_line_bounds q p t i) [] ++ pick (eqb (F.device q i).link.kind R.equality) (equality_bounds q p t i) []

  -- the bounds of a link over any figures
  abbrev over : Bool → ℕ → ℕ → M.Link → M.Reactive → List Bound
  over consuming n b link x =
      pick (eqb link.kind R.two_lines) (line_above link.upper n b (pos 1000 *ℤ R.highest consuming x) ∷ line_below link.lower n b (pos 1000 *ℤ R.lowest consuming x) ∷ []) []
      ++ pick (eqb link.kind R.equality) (line_above link.upper n b (pos 1000 *ℤ x.q) ∷ line_below link.upper n b (pos 1000 *ℤ x.q) ∷ []) []

  lines_are : line_bounds_at (reactive_bounds_of d) own_cells own_settings starts own_powers t ≡ line_bounds
  unfolding line_bounds_at line_bounds_of
  lines_are =
      ap (λ (b : Bool). over b (bracket_at (ramping_of d) own_cells own_settings starts t) a (link_in d.link) (reactive_in (reactive_at own_settings t)))
      (sym (W.consuming-is halves zones minima devices cells i l))
      ∙ ap₂ (λ (n b : ℕ). over (F.consuming q i) n b (link_in d.link) (reactive_in (reactive_at own_settings t))) (bracket-here ready i l t h) beside-is
      ∙ ap₂ (λ (k : M.Link) (x : M.Reactive). over (F.consuming q i) (F.bracket q p t i) (F.psu q p t i + F.psd q p t i) k x)
      (sym (W.link-is halves zones minima devices cells i l)) (sym (ap (λ (x : M.Setting). x.reactive) setting-is))

  -- ---- the span of the interval and device

  abbrev real : List Bound
  real = real_bounds_at (bounds_of d) d.power0.0 halves own_cells own_settings starts own_powers t

  abbrev lines : List Bound
  lines = line_bounds_at (reactive_bounds_of d) own_cells own_settings starts own_powers t

  abbrev asked : List Bound
  asked = pick (ltb (suc t) (length halves)) (next_bounds q p t i) []

  span-parts : within (within (within (whole most_online) real) lines) asked ≡ span_at most_online q p t i
  unfolding span_at span_of bounds power_bounds
  span-parts = ap₂ (λ (x y : List Bound). within (within (within (whole most_online) x) y) asked) real-are lines_are
      ∙ ap (λ (x : Span). within (within x line_bounds) asked) (within-append (ramp_bounds q p t i) (limit_bounds q p t i) (whole most_online))
      ∙ ap (λ (x : Span). within x asked) (sym (within-append (limit_bounds q p t i) line_bounds _))
      ∙ sym (within-append (ramp_bounds q p t i) _ (whole most_online) ∙ within-append (limit_bounds q p t i ++ line_bounds) (pick (ltb (suc t) (F.intervals q)) (next_bounds q p t i) []) _
      ∙ rw (W.intervals-are halves zones minima devices cells) refl)

  next-is : suc t < length halves → next_bounds_at (bounds_of d) d.power0.0 halves own_cells own_settings starts own_powers (suc t) a ≡ next_bounds q p t i
  unfolding next_bounds_at
  next-is k = next-are q p t i a (of-device ready i l (suc t) k) (of-setting ready i l (suc t) k) (of-moment ready i l (suc t) k) beside-is

  -- as the parts give it
  pick-as : {x y : List Bound} (b : Bool) → (T b → x ≡ y) → pick b x [] ≡ pick b y []
  pick-as true f = f tt
  pick-as false f = refl

  pub span-here : parts_span (bounds_of d) (reactive_bounds_of d) d.power0.0 halves own_cells own_settings starts own_powers t ≡ span_at most_online q p t i
  unfolding parts_span
  span-here = ap (within (within (within (whole most_online) real) lines))
      (rw (add-one t) (pick-as (ltb (suc t) (length halves)) (λ b. next-is (ltb→lt (suc t) (length halves) b)))) ∙ span-parts

  pub fits-parts : SpanFits (bounds_of d) (reactive_bounds_of d) d.power0.0 halves own_cells own_settings starts own_powers t
  fits-parts = record { here = fits-here ready i l t h; reactive = reactive-fits-here ready i l t h; next = λ k. fits-here ready i l (t + 1) k }

-- the same, cut out by the code
module _ {front : Front} {halves : List ℕ} {zones minima devices cells settings : List (List ℕ)} {starts powers : List ℕ}
    (ready : Ready front halves zones minima devices cells settings starts powers) (i a : ℕ) (l : i < length devices) (e : a ≡ i * length halves)
    {x : Device} {b : Bounds} {r : ReactiveBounds} (at : x ≡ device_of (get_or devices i [])) (is : b ≡ bounds_of x) (known : r ≡ reactive_bounds_of x) (t : ℕ) (h : t < length halves) where
  abbrev m : ℕ
  m = length halves

  abbrev cut : {A : Type 0} → List A → List A
  cut y = take (a + m - a) (drop a y)

  pub fits_cut : SpanFits b r x.power0.0 halves (cut cells) (cut settings) starts (cut powers) t
  fits_cut = rw (known, is, at, part_cut m i a cells e, part_cut m i a settings e, part_cut m i a powers e) (fits-parts ready i l t h)

  pub span-cut : {s : Span} → s ≡ parts_span b r x.power0.0 halves (cut cells) (cut settings) starts (cut powers) t
      → s ≡ span_at most_online (system_in halves zones minima devices cells) (plan_in (length devices) (length halves) settings) t i
  span-cut f = f ∙ rw (known, is, at, part_cut m i a cells e, part_cut m i a settings e, part_cut m i a powers e) (span-here ready i l t h)
