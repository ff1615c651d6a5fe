-- A case's whole message.
use mathlib.Core.Path.{◌≡◌, refl, ap, sym, ◌∙◌}
use mathlib.Core.List.{List, []}
use Prim.Native.Nat.{ℕ, ◌*◌, ◌≤◌, ◌<◌}
use native.Mathlib.Omega.{arith}
use native.Mathlib.Nat.{mul-le-mul}
use lib.ListN.{length}
use lib.Seq.{get_or-take, length-take-le}
use Rattle.layouts.specs.declared.Fault.{Fault}
use Rattle.layouts.specs.declared.Place.{Place}
use Rattle.layouts.specs.Layout.{◌then◌, held, begin, tail_fault}
use Rattle.layouts.specs.Numbers.{fails-tells}
use Rattle.layouts.specs.Layout.{read_whole, fails}
use Rattle.records.specs.Views.{most_devices, most_intervals}
use Rattle.layouts.specs.Sure.{Any, sure-checked}
use Rattle.model.specs.Editions.{Largest}
use Rattle.model.specs.Messages.{apart}
use Rattle.model.specs.ByEdition.{Stated, content, content_by, case_layout, stated_in}
use Rattle.model.specs.AsBefore.{stated}
use Rattle.ranges.specs.Ranges.{StatedRange, stated-sure, stated-range}
use Rattle.row_places.specs.declared.Counts.{Counts}
use Rattle.std.specs.Prelude.{Result, Ok, Err}
use Rattle.fields.specs.Got.{Got, good, bad, got, Natural, Inside, nat-natural, then-natural, held-natural}
use Rattle.fields.proofs.Steps.{on, off, Exits, not-met, value, seen-exits}
use Rattle.front_reader.specs.declared.Opening.{Opening}
use Rattle.case_reader.specs.declared.CaseHead.{CaseHead}
use Rattle.field_rows.specs.Each.{list-natural}
use Rattle.message_ends.specs.Ended.{Ending, ended, ending_of, whole-inside, whole-ended}
use Rattle.zone_reader.proofs.ZoneSteps.{zone-natural}
use Rattle.device_reader.specs.Devices.{device-natural}
use Rattle.front_reader.specs.Fronts.{largest, Within, front, front_in, FrontDone}
use Rattle.case_reader.specs.Whole.{CaseRoom, case_of, body_got, BodyRoom, BodyDone, FieldsDone, CaseDone, CasePassed, CaseRefused}
use Rattle.front_reader.proofs.FrontSteps.{counts-natural, limit-natural, front-natural}

layout_is : (l : Largest) (s : List ℕ) → got (case_layout l) s begin ≡ (front l).read s begin bad (λ h p. body_got h s p)
unfolding case_layout content_by held ◌then◌ apart body_got
layout_is l s = refl

case-natural : (l : Largest) → Natural (case_layout l)
unfolding case_layout content_by apart
case-natural l = held-natural _ _ (then-natural (nat-natural _) (λ k. then-natural (nat-natural _) (λ e. held-natural _ _
    (then-natural (counts-natural e l) (λ n. then-natural (nat-natural _) (λ a. then-natural (nat-natural _) (λ b. then-natural (limit-natural e) (λ x.
    then-natural (list-natural n.intervals (nat-natural _)) (λ halves.
    then-natural (held-natural _ _ (list-natural n.zones (zone-natural e n.intervals))) (λ z.
    held-natural _ _ (list-natural n.devices (device-natural e n.intervals n.zones _))))))))))))

-- tables with room for the largest counts have room for fewer
pub room_within : {n m : ℕ} {c : Counts} {halves : List ℕ} {zones minima devices cells : List (List ℕ)} → CaseRoom n m halves zones minima devices cells → Within (largest n m) c
    → BodyRoom c halves zones minima devices cells
room_within {n} {m} {c} r w = record {
  some-devices = w.some;
  few-zones = w.zones;
  room = omega (arith, w.intervals, r.room-halves);
  zones-fit = record {
    few = omega (arith, w.intervals, r.few-intervals);
    room = omega (arith, w.zones, r.room-zones);
    parts = omega (arith, mul-le-mul w.zones w.intervals, r.room-minima);
  };
  devices-fit = record {
    few = omega (arith, w.intervals, r.few-intervals);
    room = omega (arith, w.devices, r.room-devices);
    parts = omega (arith, mul-le-mul w.devices w.intervals, r.room-cells);
  };
}

-- and so have tables of the same lengths
pub tables-kept : {n m : ℕ} {h h' : List ℕ} {z z' x x' d d' c c' : List (List ℕ)} → CaseRoom n m h z x d c
    → length h' ≡ length h → length z' ≡ length z → length x' ≡ length x → length d' ≡ length d → length c' ≡ length c → CaseRoom n m h' z' x' d' c'
tables-kept r a b e f g = record {
  few-devices = r.few-devices;
  few-intervals = r.few-intervals;
  room-halves = omega (arith, r.room-halves);
  room-zones = omega (arith, r.room-zones);
  room-minima = omega (arith, r.room-minima);
  room-devices = omega (arith, r.room-devices);
  room-cells = omega (arith, r.room-cells);
}

-- ---- every field

module _ (n m : ℕ) (s : List ℕ) (halves : List ℕ) (zones minima devices cells : List (List ℕ)) where
  pub fields-none : (r : Got CaseHead) {f : Fault} → Exits r f → bad f ≡ got (case_layout (largest n m)) s begin → FieldsDone n m s r halves zones minima devices cells
  fields-none r x g = record { is = seen-exits _ r x g; within = λ h q k. not-met r _ x k; manned = λ h q k. not-met r _ x k }

module _ (n m : ℕ) (s : List ℕ) where
  pub fields-off : {f : Fault} → bad f ≡ got (front (largest n m)) s begin → bad f ≡ got (case_layout (largest n m)) s begin
  fields-off h = off (front-natural (largest n m)) s begin bad _ h refl ∙ sym (layout_is (largest n m) s)

  module _ (o : Opening) {p : Place} (e : FrontDone (largest n m) s (good o p)) where
    pub fields-late : {f : Fault} → bad f ≡ body_got (front_in o) s p → bad f ≡ got (case_layout (largest n m)) s begin
    fields-late h = on (front-natural (largest n m)) s begin bad _ e.is h ∙ sym (layout_is (largest n m) s)

    pub fields-done : {q : Place} {halves : List ℕ} {zones minima devices cells : List (List ℕ)} → BodyDone s p o (Ok q) halves zones minima devices cells
        → FieldsDone n m s (good (record { front = o.front; counts = o.counts }) q) halves zones minima devices cells
    fields-done {q} b = record {
      is = on (front-natural (largest n m)) s begin bad _ e.is b.is ∙ sym (layout_is (largest n m) s);
      within = λ h r k. rw (← value k) (e.within o p refl);
      manned = λ h r k. rw (← value k) (b.manned q refl);
    }

-- ---- the whole message

module _ (n m : ℕ) (s : List ℕ) (halves : List ℕ) (zones minima devices cells : List (List ℕ)) where
  pub case-refused : (r : Result CaseHead Fault) {f : Fault} → Exits r f → CaseRefused n m s f → CaseDone n m s halves zones minima devices cells r
  case-refused (Ok h) x g = absurd x.1
  case-refused (Err e) x g = rw x.1 g

module _ (n m : ℕ) (few-devices : n ≤ most_devices) (few-intervals : m ≤ most_intervals) (s : List ℕ) where
  abbrev l : Largest
  l = largest n m

  told-number : (x : Fault) → fails x ≡ stated_in l s → CaseRefused n m s x
  unfolding stated_in
  told-number x e = record { is = e; refused = fails-tells (case_layout l) Any (sure-checked (case_layout l) (StatedRange l) (stated-sure l few-devices few-intervals)) s x (sym e) }

  pub case-off : {x : Fault} → bad x ≡ got (case_layout l) s begin → CaseRefused n m s x
  unfolding stated_in read_whole
  case-off {x} h = told-number x (off (case-natural l) s begin fails _ h refl)

module _ (n m : ℕ) (s : List ℕ) (h : CaseHead) (halves : List ℕ) (zones minima devices cells : List (List ℕ)) {q : Place}
    (d : FieldsDone n m s (good h q) halves zones minima devices cells) where
  abbrev c : Counts
  c = h.counts

  abbrev said : Stated
  said = stated h.front.edition (case_of h.front h.counts halves zones minima devices cells)

  pub case-inside : Inside s q
  case-inside = whole-inside (case-natural (largest n m)) s {w = Ok q} said d.is refl

  module _ (room : CaseRoom n m halves zones minima devices cells) where
    whole : {r : Ending} → r ≡ ending_of (tail_fault s q.at) q.clash → ended said r ≡ stated_in (largest n m) s
    unfolding stated_in
    whole e = whole-ended (case-natural (largest n m)) s {w = Ok q} said d.is refl e

    pub case-fails : {x : Fault} → Err x ≡ ending_of (tail_fault s q.at) q.clash → CaseRefused n m s x
    case-fails {x} e = told-number n m room.few-devices room.few-intervals s x (whole e)

    pub case-ends : Ok tt ≡ ending_of (tail_fault s q.at) q.clash → CasePassed n m s halves zones minima devices cells h.front h.counts
    case-ends e =
        let w = d.within h q refl in
        let b = room_within room w in
        let u = d.manned h q refl in
        let long-halves = length-take-le c.intervals halves b.room in
        let long-zones = length-take-le c.zones zones b.zones-fit.room in
        let long-minima = length-take-le (c.zones * c.intervals) minima b.zones-fit.parts in
        let long-devices = length-take-le c.devices devices b.devices-fit.room in
        let long-cells = length-take-le (c.devices * c.intervals) cells b.devices-fit.parts in
        let ranged : StatedRange (largest n m) said = stated-range (largest n m) room.few-devices room.few-intervals s said (sym (whole e)) in
        record {
          is = whole e;
          decoded = record {
            few-devices = omega (arith, long-devices, w.devices, room.few-devices);
            few-intervals = omega (arith, long-halves, b.zones-fit.few);
            few-zones = omega (arith, long-zones, b.few-zones);
            cells-full = rw (long-cells, long-devices, long-halves) refl;
            minima-full = rw (long-minima, long-zones, long-halves) refl;
            range = ranged.case.range;
            padded = λ k i. let j : k < c.devices * c.intervals = omega (arith, long-cells) in rw (get_or-take (c.devices * c.intervals) cells k [] j) (u.padded k j);
            counted = λ i k. let j : i < c.devices = omega (arith, long-devices) in rw (get_or-take c.devices devices i [] j) (u.counted i j);
          };
          counted = w;
          range = ranged;
          long = record { halves_long = long-halves; zones-long = long-zones; minima-long = long-minima; devices-long = long-devices; cells-long = long-cells };
        }
