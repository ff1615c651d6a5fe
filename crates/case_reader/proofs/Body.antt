-- The steps of a case behind its front, and the case that the first rows of its tables hold.
use mathlib.Core.Path.{◌≡◌, refl, ap, sym, ◌∙◌}
use mathlib.Core.List.{List, []}
use Prim.Native.Nat.{ℕ, zero, suc, ◌*◌, ◌≤◌, ◌<◌}
use native.Mathlib.Omega.{arith}
use lib.ListN.{length, get_or, set, take, length-set}
use lib.Seq.{get_or-take, length-take-le, get_or-set_same, get_or-set_other}
use Rattle.model.specs.Messages.{last_end}
use Rattle.model.specs.ByEdition as B
use Rattle.model.specs.ByEdition.{Stated}
use Rattle.model.specs.AsBefore.{stated}
use Rattle.layouts.specs.declared.Fault.{Fault}
use Rattle.layouts.specs.declared.Place.{Place}
use Rattle.layouts.specs.Layout.{Layout, list, figure}
use Rattle.layouts.specs.Checked.{Checked, Outcome, stops, goes, nat-checked, list-checked}
use Rattle.numbers.specs.Sum.{all_map}
use Rattle.numbers.specs.Every.{all_get_d}
use Rattle.model.specs.Case as C
use Rattle.model.specs.Case.{Case}
use Rattle.numbers.specs.Rows.{rows}
use Rattle.kilowatts.specs.declared.Kw.{Kw}
use Rattle.row_places.specs.declared.Counts.{Counts}
use Rattle.row_places.specs.declared.Device.{Device}
use Rattle.row_places.specs.declared.Front.{Front}
use Rattle.numbers.specs.Parts.{part, part-taken}
use Rattle.row_places.specs.Figures.{device_of, zone_of, limit_of, limit_at, with_limit}
use Rattle.records.specs.Views.{most_intervals, zone_in, kinds_in, device_in, device_prices_in, system_in, prices_in}
use Rattle.std.specs.Prelude.{Result, Ok, Err}
use Rattle.field_rows.specs.Each.{list-natural}
use Rattle.fields.specs.Got.{Got, good, bad, got, Natural, nat-natural}
use Rattle.fields.proofs.Steps.{on, off, Exits, not-met, value, told-exits}
use Rattle.front_reader.specs.declared.Opening.{Opening}
use Rattle.numbers.specs.Rows.{rows_same, rows-map}
use Rattle.zone_reader.proofs.ZoneSteps.{zone-natural}
use Rattle.device_reader.specs.Devices.{device-natural}
use Rattle.front_reader.specs.Fronts.{front_in, Halves}
use Rattle.zone_table.specs.Tables.{Fits, zones_in, devices_in, Stored, Manned, DevicesDone}
use Rattle.case_reader.specs.Whole.{case_of, made_of, body_got, BodyRoom, BodyDone}

-- what is read is within its ranges
got-checked : {A : Type 0} (l : Layout A) (P : A → Type 0) → Checked l P → (s : List ℕ) (p : Place) {a : A} {q : Place} → got l s p ≡ good a q → P a
got-checked {A} l P u s p {a} {q} e = go (u.outcome s p)
  where
    go : Outcome P (λ X bad next. l.read {X = X} s p bad next) → P a
    go (stops f t) = absurd (let k = sym (t (Got A) bad good) ∙ e in let z : ◌≡◌ {A = ℕ} 0 1 = cc in omega arith)
    go (goes b r h t) = let i : b ≡ a = value (sym (t (Got A) bad good) ∙ e) in rw (← i) h

pub halves-short : (m : ℕ) (halves : List ℕ) (s : List ℕ) (p : Place) {q : Place} → m ≤ most_intervals → m ≤ length halves
    → good (take m halves) q ≡ got (list m (figure 8 1 180)) s p → Halves m halves
halves-short m halves s p few room e =
    let h = got-checked (list m (figure 8 1 180)) _ (list-checked m (figure 8 1 180) _ (nat-checked _)) s p (sym e) in
    record { few = few; room = room; half = λ t l. rw (get_or-take m halves t 0 l) at (all_get_d 180 (take m halves) (all_map (λ k ok. ok.1) (take m halves) h.1) t) }

-- ---- the case in the first rows

-- the n first rows with their parts, as the whole tables have them
first_rows : {A : Type 0} (view : List ℕ → List (List ℕ) → A) (n : ℕ) {h m : ℕ} (heads table : List (List ℕ)) → h ≡ m → Fits n m heads table
    → rows (λ k. view (get_or (take n heads) k []) (part h k (take (n * m) table))) (length (take n heads)) ≡ rows (λ k. view (get_or heads k []) (part m k table)) n
first_rows view n {h} {m} heads table e fits =
    rw (e, length-take-le n heads fits.room)
    (rows_same {f = λ k. view (get_or heads k []) (part m k table)} n (λ k l. rw (get_or-take n heads k [] l, part-taken m k n table l fits.parts) refl))

module _ (f : Front) (c : Counts) (x : Kw) (halves : List ℕ) (zones minima devices cells : List (List ℕ)) (room : BodyRoom c halves zones minima devices cells) where
  abbrev m : ℕ
  m = c.intervals

  long : length (take m halves) ≡ m
  long = length-take-le m halves room.room

  -- a case of these parts
  abbrev case : ℕ → List C.Zone → List C.Device → List C.Kinds → List C.DevicePrices → Case
  case l zs ds ps xs = record {
    system = record { halves = take m halves; link_limit = l; zones = zs; devices = ds };
    prices = record { mismatch = f.mismatch; overrun = f.overrun; zones = ps; devices = xs };
  }

  -- a table whose first row holds the limit
  pub case-made : limit_at devices ≡ x.0
      → case_of f c halves zones minima devices cells ≡ (made_of (front_in (record { front = f; counts = c; limit = x })) (take m halves) (zones_in c.zones m zones minima) (devices_in c.devices m devices cells)).case
  unfolding system_in prices_in
  case-made k = same
      (ap limit_of (get_or-take c.devices devices 0 [] room.some-devices) ∙ k)
      (first_rows zone_in c.zones zones minima long room.zones-fit ∙ sym (rows-map (λ x. x.0) _ c.zones))
      (first_rows (λ r own. device_in (device_of r) own) c.devices devices cells long room.devices-fit ∙ sym (rows-map (λ x. x.0) _ c.devices))
      (first_rows (λ r own. kinds_in (zone_of r)) c.zones zones minima long room.zones-fit ∙ sym (rows-map (λ x. x.1) _ c.zones))
      (first_rows (λ r own. device_prices_in (device_of r) own) c.devices devices cells long room.devices-fit ∙ sym (rows-map (λ x. x.1) _ c.devices))
    where
      same : {l l' : ℕ} {zs zs' : List C.Zone} {ds ds' : List C.Device} {ps ps' : List C.Kinds} {xs xs' : List C.DevicePrices} → l ≡ l' → zs ≡ zs' → ds ≡ ds' → ps ≡ ps' → xs ≡ xs'
          → case l zs ds ps xs ≡ case l' zs' ds' ps' xs'
      same u a b d e = cc

-- ---- the limit in the first device's row

module _ (x n m : ℕ) (before after cells : List (List ℕ)) (some : 1 ≤ n) (fits : n ≤ length before) (stored : (i : ℕ) → i < n → Stored (get_or before i []))
    (put : after ≡ set before 0 (with_limit (get_or before 0 []) x)) where
  first-row : get_or after 0 [] ≡ with_limit (get_or before 0 []) x
  first-row = rw put (get_or-set_same before 0 (with_limit (get_or before 0 []) x) [] (omega arith))

  limit-put : limit_at after ≡ x
  limit-put = ap limit_of first-row ∙ rw (stored 0 some).is refl

  other_row : (i : ℕ) → get_or after (suc i) [] ≡ get_or before (suc i) []
  other_row i = rw put (get_or-set_other before 0 (suc i) (with_limit (get_or before 0 []) x) [] (λ e. omega (arith, e)))

  -- the devices stay
  device-same : (i : ℕ) → i < n → device_of (get_or after i []) ≡ device_of (get_or before i [])
  device-same zero h = ap device_of first-row ∙ rw (stored 0 h).is refl
  device-same (suc i) h = ap device_of (other_row i)

  devices-same : devices_in n m after cells ≡ devices_in n m before cells
  devices-same = rows_same n (λ i h. ap (λ (d : Device). (device_in d (part m i cells), device_prices_in d (part m i cells))) (device-same i h))

  manned-same : Manned n m before cells → Manned n m after cells
  manned-same u = record { counted = λ i h. rw (device-same i h) (u.counted i h); padded = u.padded }

-- ---- by how far reading came

-- tables of the same lengths have the same room
pub room-kept : {c : Counts} {h h' : List ℕ} {z z' m m' d d' x x' : List (List ℕ)} → BodyRoom c h z m d x
    → length h' ≡ length h → length z' ≡ length z → length m' ≡ length m → length d' ≡ length d → length x' ≡ length x → BodyRoom c h' z' m' d' x'
room-kept r a b e f g = record {
  some-devices = r.some-devices;
  few-zones = r.few-zones;
  room = omega (arith, r.room);
  zones-fit = record { few = r.zones-fit.few; room = omega (arith, r.zones-fit.room); parts = omega (arith, r.zones-fit.parts) };
  devices-fit = record { few = r.devices-fit.few; room = omega (arith, r.devices-fit.room); parts = omega (arith, r.devices-fit.parts) };
}

module _ (s : List ℕ) (p : Place) (o : Opening) where
  abbrev durations : Layout (List ℕ)
  durations = list o.counts.intervals (figure 8 1 180)

  abbrev zoned : Layout (List (C.Zone × C.Kinds))
  zoned = list o.counts.zones (B.zone o.front.edition o.counts.intervals)

  abbrev manned : ℕ → Layout (List (C.Device × C.DevicePrices))
  manned last = list o.counts.devices (B.device o.front.edition o.counts.intervals o.counts.zones last)

  durations-natural : Natural durations
  durations-natural = list-natural o.counts.intervals (nat-natural _)

  zoned-natural : Natural zoned
  zoned-natural = list-natural o.counts.zones (zone-natural o.front.edition o.counts.intervals)

  manned-natural : (last : ℕ) → Natural (manned last)
  manned-natural last = list-natural o.counts.devices (device-natural o.front.edition o.counts.intervals o.counts.zones last)

  body_is : body_got (front_in o) s p ≡ durations.read s p bad (λ hs p. zoned.read s p bad (λ zs p. (manned (last_end hs)).read s p bad (λ ds p. good (made_of (front_in o) hs zs ds) p)))
  unfolding body_got
  body_is = refl

  module _ (halves : List ℕ) (zones minima devices cells : List (List ℕ)) where
    pub body-none : (r : Result Place Fault) {f : Fault} → Exits r f → bad f ≡ body_got (front_in o) s p → BodyDone s p o r halves zones minima devices cells
    body-none r x g = record { is = told-exits _ r x g; manned = λ q k. not-met r _ x k }

  pub body-no-halves : {f : Fault} → bad f ≡ got durations s p → bad f ≡ body_got (front_in o) s p
  body-no-halves h = off durations-natural s p bad _ h refl ∙ sym body_is

  module _ {hs : List ℕ} {p₁ : Place} (h₁ : good hs p₁ ≡ got durations s p) where
    pub body-no-zones : {f : Fault} → bad f ≡ got zoned s p₁ → bad f ≡ body_got (front_in o) s p
    body-no-zones h = on durations-natural s p bad _ h₁ (off zoned-natural s p₁ bad _ h refl) ∙ sym body_is

    module _ {zs : List (C.Zone × C.Kinds)} {p₂ : Place} (h₂ : good zs p₂ ≡ got zoned s p₁) {last : ℕ} (l : last ≡ last_end hs) where
      two : body_got (front_in o) s p ≡ (manned last).read s p₂ bad (λ ds p. good (made_of (front_in o) hs zs ds) p)
      two = body_is ∙ sym (on durations-natural s p bad _ h₁ (on zoned-natural s p₁ bad _ h₂ refl)) ∙ ap (λ (k : ℕ). (manned k).read s p₂ bad (λ ds p. good (made_of (front_in o) hs zs ds) p)) (sym l)

      pub body-no-devices : {f : Fault} → bad f ≡ got (manned last) s p₂ → bad f ≡ body_got (front_in o) s p
      body-no-devices h = off (manned-natural last) s p₂ bad _ h refl ∙ sym two

  -- the limit is put into the table that the devices were read into
  module _ (halves : List ℕ) (zones minima devices cells : List (List ℕ)) {p₁ p₂ q : Place} (h₁ : good (take o.counts.intervals halves) p₁ ≡ got durations s p)
      (h₂ : good (zones_in o.counts.zones o.counts.intervals zones minima) p₂ ≡ got zoned s p₁) {last : ℕ} (l : last ≡ last_end (take o.counts.intervals halves)) where
    pub body-done : {before : List (List ℕ)} → BodyRoom o.counts halves zones minima before cells
        → DevicesDone o.front.edition s p₂ o.counts.devices o.counts.intervals o.counts.zones last (Ok q) before cells
        → devices ≡ set before 0 (with_limit (get_or before 0 []) o.limit.0) → BodyDone s p o (Ok q) halves zones minima devices cells
    body-done {before} room g put =
        let x = o.limit.0 in
        let some = room.some-devices in
        let fit = room.devices-fit.room in
        let stored = g.stored q refl in
        let after : BodyRoom o.counts halves zones minima devices cells = room-kept room refl refl refl (rw put (length-set before 0 (with_limit (get_or before 0 []) x))) refl in
        record {
          is = ap (λ (k : Case). good (stated o.front.edition k) q) (case-made o.front o.counts o.limit halves zones minima devices cells after (limit-put x o.counts.devices o.counts.intervals before devices cells some fit stored put))
              ∙ ap (λ (ds : List (C.Device × C.DevicePrices)). good (made_of (front_in o) (take o.counts.intervals halves) (zones_in o.counts.zones o.counts.intervals zones minima) ds) q) (devices-same x o.counts.devices o.counts.intervals before devices cells some fit stored put)
              ∙ on (manned-natural last) s p₂ bad _ g.is refl ∙ sym (two h₁ h₂ l);
          manned = λ _ _. manned-same x o.counts.devices o.counts.intervals before devices cells some fit stored put (g.manned q refl);
        }
