-- The whole completion: its message and the surplus.
use Rattle.std.specs.Prelude.{◌≡◌, refl, List, ◌++◌, ℕ, ◌*◌, ◌^◌, ◌≤◌, length, drop, ℤ}
use Rattle.std.proofs.Common.{sym, ap, ◌∙◌, arith}
use Rattle.layouts.specs.Layout.{bytes, int}
use Rattle.model.specs.Case.{System}
use Rattle.model.specs.ByEdition.{completion_front}
use Rattle.model.specs.Completion.{Completion}
use Rattle.model.specs.Judgement.{written, counts_of, energy_windows, our_surplus}
use Rattle.model.specs.Ours.{ours}
use Rattle.theorems.specs.Back.{Countable}
use Rattle.model.specs.Judgement.{completion_in}
use Rattle.pen.specs.declared.Pen.{Pen}
use Rattle.pen.specs.Pens.{Pushes, Finishes}
use Rattle.pen.specs.Runs.{fresh, Room, run, pushes-as}
use Rattle.row_places.specs.declared.Front.{Front}
use Rattle.records.specs.Views.{system_in, case_in, plan_in, CaseRows}
use Rattle.records.specs.Viewed as Viewed
use Rattle.field_groups.specs.Fields.{counts_in}
use Rattle.completion_size.specs.Size.{front_width, surplus_width, overrun_width, interval_width, needed, written-needed}
use Rattle.completion_writer.specs.Whole as W
use Rattle.completion_writer.specs.Whole.{interval_bits, overrun_bits, windows_to}
use Rattle.completions.specs.Windows.{windows_up_to, windows-up-to, windows-whole}

-- our completion's message with a surplus
abbrev pub message_of : Front → (halves : List ℕ) (zones minima devices cells settings : List (List ℕ)) → ℤ → List ℕ
message_of front halves zones minima devices cells settings z =
    let q = system_in halves zones minima devices cells in
    bytes ((completion_in front.edition q).write (written q (ours (case_in front halves zones minima devices cells) (plan_in (length devices) (length halves) settings)) z))

-- the bytes that the completions of a case's plans take
abbrev pub needed_for : ℕ → (halves : List ℕ) (zones devices : List (List ℕ)) → ℕ
needed_for e halves zones devices = needed e (length devices) (length halves) (length zones) (windows_up_to devices (length devices))

-- they are as many whatever the plan
pub message-long : {front : Front} {halves : List ℕ} {zones minima devices cells : List (List ℕ)} → CaseRows front halves zones minima devices cells
    → (settings : List (List ℕ)) (z : ℤ) → length (message_of front halves zones minima devices cells settings z) ≡ needed_for front.edition halves zones devices
message-long {front} {halves} {zones} {minima} {devices} {cells} known settings z =
    written-needed front.edition (system_in halves zones minima devices cells) (ours (case_in front halves zones minima devices cells) (plan_in (length devices) (length halves) settings)) z
    ∙ rw (Viewed.devices-are halves zones minima devices cells, Viewed.intervals-are halves zones minima devices cells, Viewed.zones-are halves zones minima devices cells, windows-whole known) refl

-- "exactly the completion's bytes, the rest of the buffer unchanged"
pub record Completes (front : Front) (halves : List ℕ) (zones minima devices cells settings : List (List ℕ)) (entry exit : List ℕ) (z : ℤ) : Type 0 where
  pub surplus : z ≡ our_surplus (case_in front halves zones minima devices cells) (plan_in (length devices) (length halves) settings)
  pub wrote : exit ≡ message_of front halves zones minima devices cells settings z ++ drop (length (message_of front halves zones minima devices cells settings z)) entry
  pub size : length (message_of front halves zones minima devices cells settings z) ≡ needed_for front.edition halves zones devices

module _ {front : Front} {halves : List ℕ} {zones minima devices cells : List (List ℕ)} (known : CaseRows front halves zones minima devices cells) where
  abbrev q : System
  q = system_in halves zones minima devices cells

  abbrev e : ℕ
  e = front.edition

  abbrev n : ℕ
  n = length devices

  abbrev m : ℕ
  m = length halves

  abbrev o : ℕ
  o = length zones

  abbrev w : ℕ
  w = windows_up_to devices n

  pub countable : Countable e (counts_of q) → Countable e (counts_in n m o)
  countable k = record {
    edition = k.edition;
    devices = rw (Viewed.devices-are halves zones minima devices cells) at k.devices;
    intervals = rw (Viewed.intervals-are halves zones minima devices cells) at k.intervals;
    zones = rw (Viewed.zones-are halves zones minima devices cells) at k.zones;
  }

  -- where the bytes needed fit a buffer, each part fits behind those before it
  module _ (a : List ℕ) (r : needed_for e halves zones devices ≤ length a) where
    pub front-room : Room a fresh (front_width e)
    front-room = W.front-room e n o m w a r

    module _ {xs b : List ℕ} {l : Pen} (f : Pushes (front_width e) xs a b fresh l) where
      pub intervals-room : Room b l (m * interval_width e n o)
      intervals-room = W.intervals-room e n o m w a r f

      module _ {ys d : List ℕ} {k : Pen} (g : Pushes (m * interval_width e n o) ys b d l k) where
        pub overruns-room : Room d k (energy_windows q * overrun_width)
        overruns-room = omega (arith, W.windows-room e n o m w a r f g, windows-whole known)

        pub surplus-room : {zs h : List ℕ} {v : Pen} → Pushes (windows_to q n * overrun_width) zs d h k v → Room h v surplus_width
        surplus-room z = W.surplus-room e n o m w a r f g (pushes-as refl (ap (λ (j : ℕ). j * overrun_width) (sym (windows-up-to known n (omega arith)))) z)

  module _ (settings : List (List ℕ)) where
    abbrev x : Completion ℕ
    x = ours (case_in front halves zones minima devices cells) (plan_in n m settings)

    -- the front, the intervals, the overruns and the surplus, one behind the other
    pub whole-done : (z : ℤ) {i j k v : ℕ} {a b d f g h : List ℕ} {r s t y : Pen}
        → z ≡ our_surplus (case_in front halves zones minima devices cells) (plan_in n m settings)
        → Pushes i ((completion_front e (counts_in n m o)).write (counts_in n m o)) a b fresh r
        → Pushes j (run (interval_bits e q x) m) b d r s
        → Pushes k (run (overrun_bits q x) n) d f s t
        → Pushes v ((int 64 (2 ^ 63)).write z) f g t y
        → Finishes g h y
        → Completes front halves zones minima devices cells settings a h z
    whole-done z is front-part interval-part overrun-part last end =
        let nd = Viewed.devices-are halves zones minima devices cells in
        let ni = Viewed.intervals-are halves zones minima devices cells in
        let nz = Viewed.zones-are halves zones minima devices cells in
        let counts : counts_in n m o ≡ counts_of q = rw (nd, ni, nz) refl in
        record {
          surplus = is;
          wrote = W.completion-pushes e q x z
              (pushes-as (ap (λ c. (completion_front e c).write c) counts) refl front-part)
              (pushes-as (ap (run (interval_bits e q x)) (sym ni)) refl interval-part)
              (pushes-as (ap (run (overrun_bits q x)) (sym nd)) refl overrun-part)
              last end;
          size = message-long known settings z;
        }
