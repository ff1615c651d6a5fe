-- A completion's message as runs of writes: what loops over intervals, devices, zones and windows write.
use Rattle.std.specs.Prelude.{◌≡◌, ℕ, zero, suc, ◌+◌, ◌*◌, ◌^◌, ◌≤◌, ◌<◌, ℤ, length, drop}
use Rattle.std.proofs.Math.Path.{refl}
use Rattle.std.proofs.Common.{sym, ◌∙◌, ap, arith}
use mathlib.Core.List.{List, ◌++◌, map}
use Rattle.numbers.specs.Sum.{sumℕ}
use Rattle.numbers.specs.Base.{range, up_to, gather}
use Rattle.numbers.specs.Gather.{gather-map, gather-gather}
use Rattle.numbers.specs.Ranges.{sum-last, sum_more, sum-rises, gather-last}
use Rattle.layouts.specs.Layout.{bytes, int, ◌then◌, list, held, any}
use Rattle.layouts.specs.Since.{since}
use Rattle.kilowatts.specs.declared.Kw.{Kw}
use Rattle.energy.specs.declared.Watts.{Watts}
use Rattle.kilowatts.specs.Power.{kw}
use Rattle.energy.specs.Energy.{watts}
use Rattle.model.specs.Case.{System, Six, Kinds, ReactiveReserves, no_reactive_reserves}
use Rattle.model.specs.Forced.{intervals, devices, zones, device}
use Rattle.model.specs.Rules.{blocks}
use Rattle.model.specs.Completion.{Completion, shortfalls, rgu, rgd, scr, nsc, rru, rrd, qru, qrd}
use Rattle.model.specs.Messages.{six, DeviceChoice, Bars, no_bars, IntervalChoice}
use Rattle.model.specs.ByEdition as B
use Rattle.model.specs.ByEdition.{completion_front, device_choice}
use Rattle.model.specs.Judgement.{written, counts_of, energy_windows}
use Rattle.model.specs.Judgement.{completion_in}
use Rattle.pen.specs.declared.Pen.{Pen}
use Rattle.pen.specs.Pens.{Ready, Pushes, Finishes, pushes-then}
use Rattle.pen.specs.Runs.{run, fresh, Room, pushes-as, pushes-whole, run_none, run_more, room_at}
use Rattle.field_groups.specs.Fields.{choice_in, six_of}
use Rattle.completion_writer.specs.Bars.{bars_of}
use Rattle.completion_size.specs.Size.{front_width, device_width, six_width, two_width, zone_width, bars_width, reactive_bars_width, overrun_width, surplus_width, interval_width, needed}

-- ---- lists written one element behind the other

gather-up_to : (g : ℕ → List ℕ) (n : ℕ) → gather g (up_to n) ≡ run g n
unfolding run range gather
gather-up_to g zero = refl
gather-up_to g (suc n) = gather-last g n ∙ ap (λ (l : List ℕ). l ++ g n) (gather-up_to g n)

pub gather-run : {A : Type 0} (g : A → List ℕ) (f : ℕ → A) (n : ℕ) → gather g (map f (up_to n)) ≡ run (λ k. g (f k)) n
gather-run g f n = gather-map g f (up_to n) ∙ gather-up_to (λ k. g (f k)) n

run-same : (f g : ℕ → List ℕ) → ((k : ℕ) → f k ≡ g k) → (n : ℕ) → run f n ≡ run g n
unfolding run
run-same f g h zero = refl
run-same f g h (suc n) = rw (run-same f g h n, h n) refl

-- ---- a completion's parts

abbrev pub device_at : Completion ℕ → ℕ → ℕ → DeviceChoice
device_at x t i = record { started = x.started t i; stopped = x.stopped t i; state = x.state t i; blocks = map (x.block t i) blocks }

abbrev pub six_at : Completion ℕ → ℕ → ℕ → Six
six_at x t z = record { rgu = x.shortfall t z rgu; rgd = x.shortfall t z rgd; scr = x.shortfall t z scr; nsc = x.shortfall t z nsc; rru = x.shortfall t z rru; rrd = x.shortfall t z rrd }

abbrev pub two_at : Completion ℕ → ℕ → ℕ → ReactiveReserves
two_at x t z = record { qru = x.reactive_shortfall t z qru; qrd = x.reactive_shortfall t z qrd }

abbrev pub kinds_at : Completion ℕ → ℕ → ℕ → Kinds
kinds_at x t z = record { six = six_at x t z; reactive = two_at x t z }

abbrev pub device_bits : Completion ℕ → ℕ → ℕ → List ℕ
device_bits x t i = device_choice.write (device_at x t i)

abbrev pub zone_bits : ℕ → Completion ℕ → ℕ → ℕ → List ℕ
zone_bits e x t z = (B.zone_choice e).write (kinds_at x t z)

-- the mismatches, and since edition 2 the reactive ones
abbrev pub bars_at : Completion ℕ → ℕ → Bars
bars_at x t = bars_of (x.mismatch t 0) (x.mismatch t 1)

abbrev pub reactive_bars_at : Completion ℕ → ℕ → Bars
reactive_bars_at x t = bars_of (x.reactive_mismatch t 0) (x.reactive_mismatch t 1)

abbrev pub bars_bits : ℕ → Completion ℕ → ℕ → List ℕ
bars_bits e x t = (B.bars_choice e).write (bars_at x t)

abbrev pub reactive_bars_bits : ℕ → Completion ℕ → ℕ → List ℕ
reactive_bars_bits e x t = (since e 2 no_bars (B.bars_choice e)).write (reactive_bars_at x t)

unfoldable pub interval_bits : ℕ → System → Completion ℕ → ℕ → List ℕ
interval_bits e q x t = run (device_bits x t) (devices q) ++ (run (zone_bits e x t) (zones q) ++ (bars_bits e x t ++ reactive_bars_bits e x t))

abbrev pub windows_of : System → ℕ → ℕ
windows_of q i = length (device q i).energy_windows

unfoldable pub overrun_bits : System → Completion ℕ → ℕ → List ℕ
overrun_bits q x i = run (λ k. (any 32).write (x.overrun i k)) (windows_of q i)

unfoldable pub completion_bits : ℕ → System → Completion ℕ → ℤ → List ℕ
completion_bits e q x s =
    (completion_front e (counts_of q)).write (counts_of q) ++ (run (interval_bits e q x) (intervals q) ++ (run (overrun_bits q x) (devices q) ++ (int 64 (2 ^ 63)).write s))

-- a device's part from the code's choices, and a zone's from the code's shortfalls
pub choice-at : (x : Completion ℕ) (t i : ℕ) {a b s : ℕ} {l : List Kw} → a ≡ x.started t i → b ≡ x.stopped t i → s ≡ x.state t i → l ≡ map (λ k. kw (x.block t i k)) blocks
    → choice_in a b s l ≡ device_at x t i
unfolding range
choice-at x t i ha hb hs hl = rw (ha, hb, hs, hl) refl

pub six-at : (x : Completion ℕ) (t z : ℕ) {l : List Watts} → l ≡ map (λ k. watts (x.shortfall t z k)) shortfalls → six_of l ≡ six_at x t z
six-at x t z h = rw h refl

-- ---- the message is these runs

module _ (e : ℕ) (q : System) (x : Completion ℕ) where
  abbrev interval_at : ℕ → IntervalChoice
  interval_at t = record {
    devices = map (device_at x t) (up_to (devices q));
    zones = map (kinds_at x t) (up_to (zones q));
    mismatch = bars_at x t;
    reactive_mismatch = reactive_bars_at x t;
  }

  pub interval-is : (t : ℕ) → (B.interval_choice e (devices q) (zones q)).write (interval_at t) ≡ interval_bits e q x t
  unfolding B.interval_choice held ◌then◌ list interval_bits
  interval-is t = rw (gather-run device_choice.write (device_at x t) (devices q), gather-run (B.zone_choice e).write (kinds_at x t) (zones q)) refl

  overruns-are : gather (any 32).write (gather (λ i. map (x.overrun i) (up_to (windows_of q i))) (up_to (devices q))) ≡ run (overrun_bits q x) (devices q)
  unfolding overrun_bits
  overruns-are =
      gather-gather (any 32).write (λ i. map (x.overrun i) (up_to (windows_of q i))) (up_to (devices q))
      ∙ (gather-up_to _ (devices q) ∙ run-same _ (overrun_bits q x) (λ i. gather-run (any 32).write (x.overrun i) (windows_of q i)) (devices q))

  pub completion-is : (s : ℤ) → (completion_in e q).write (written q x s) ≡ completion_bits e q x s
  unfolding B.completion_by written held ◌then◌ list completion_bits
  completion-is s =
      rw (
        gather-run (B.interval_choice e (devices q) (zones q)).write interval_at (intervals q) ∙ run-same _ (interval_bits e q x) interval-is (intervals q),
        overruns-are,
      )
      refl

  -- a zone's six shortfalls and the reactive ones
  pub zone-pushes : (t z : ℕ) {a b c : List ℕ} {p m n : Pen}
      → Pushes six_width ((six (any 33)).write (six_at x t z)) a b p m
      → Pushes (two_width e) ((since e 2 no_reactive_reserves B.reactive_choice).write (two_at x t z)) b c m n
      → Pushes (zone_width e) (zone_bits e x t z) a c p n
  unfolding B.zone_choice held ◌then◌
  zone-pushes t z i j = pushes-then i j

  -- an interval's devices, zones and mismatches
  pub interval-pushes : (t : ℕ) {a b c d f : List ℕ} {p l m n o : Pen}
      → Pushes (devices q * device_width) (run (device_bits x t) (devices q)) a b p l
      → Pushes (zones q * zone_width e) (run (zone_bits e x t) (zones q)) b c l m
      → Pushes (bars_width e) (bars_bits e x t) c d m n
      → Pushes (reactive_bars_width e) (reactive_bars_bits e x t) d f n o
      → Pushes (interval_width e (devices q) (zones q)) (interval_bits e q x t) a f p o
  unfolding interval_bits
  interval-pushes t i j k r = pushes-then i (pushes-then j (pushes-then k r))

  -- the whole: "exactly the completion's bytes, the rest of the buffer unchanged"
  pub completion-pushes : (s : ℤ) {u v w y : ℕ} {a b c d f g : List ℕ} {l m n o : Pen}
      → Pushes u ((completion_front e (counts_of q)).write (counts_of q)) a b fresh l
      → Pushes v (run (interval_bits e q x) (intervals q)) b c l m
      → Pushes w (run (overrun_bits q x) (devices q)) c d m n
      → Pushes y ((int 64 (2 ^ 63)).write s) d f n o
      → Finishes f g o
      → g ≡ bytes ((completion_in e q).write (written q x s)) ++ drop (length (bytes ((completion_in e q).write (written q x s)))) a
  unfolding completion_bits
  completion-pushes s h i j k z = pushes-whole (pushes-as (sym (completion-is s)) refl (pushes-then h (pushes-then i (pushes-then j k)))) z

-- ---- energy windows

-- those of the devices before the i-th
unfoldable pub windows_to : System → ℕ → ℕ
windows_to q i = sumℕ (windows_of q) (up_to i)

pub windows-none : (q : System) → windows_to q 0 ≡ 0
unfolding windows_to range
windows-none q = refl

pub windows-more : (q : System) (i : ℕ) → windows_to q (i + 1) ≡ windows_to q i + windows_of q i
unfolding windows_to
windows-more q i = sum_more (windows_of q) i

pub windows-all : (q : System) → windows_to q (devices q) ≡ energy_windows q
unfolding windows_to energy_windows
windows-all q = refl

pub windows-within : (q : System) (i : ℕ) → i < devices q → windows_to q i + windows_of q i ≤ energy_windows q
unfolding windows_to energy_windows
windows-within q i h = omega (arith, sum-last (windows_of q) i, sum-rises (windows_of q) (suc i) (devices q) h)

-- ---- the overruns of devices: none, and one device's more

module _ (q : System) (x : Completion ℕ) where
  pub overruns-none : (buffer : List ℕ) (p : Pen) → Ready p → Pushes (windows_to q 0 * overrun_width) (run (overrun_bits q x) 0) buffer buffer p p
  overruns-none buffer p h = pushes-as refl (omega (arith, windows-none q)) (run_none (overrun_bits q x) buffer p h)

  pub overruns-more : (i : ℕ) {a b c : List ℕ} {p m n : Pen}
      → Pushes (windows_to q i * overrun_width) (run (overrun_bits q x) i) a b p m
      → Pushes (windows_of q i * overrun_width) (overrun_bits q x i) b c m n
      → Pushes (windows_to q (i + 1) * overrun_width) (run (overrun_bits q x) (i + 1)) a c p n
  overruns-more i h r = pushes-as refl (omega (arith, windows-more q i)) (run_more (overrun_bits q x) i h r)

  -- where all fit, one device's fit behind those of the devices before it
  pub overruns-room : (i : ℕ) {xs a b : List ℕ} {p m : Pen} → i < devices q → Pushes (windows_to q i * overrun_width) xs a b p m
      → Room a p (energy_windows q * overrun_width) → Room b m (windows_of q i * overrun_width)
  overruns-room i h r o = omega (arith, r.moved, r.long, windows-within q i h)

-- ---- where the bytes needed fit a buffer, each part fits behind those before it

-- the six of the zone behind k others, and its reactive shortfalls behind them
pub six-room : (e k n : ℕ) {bits a b : List ℕ} {p q : Pen} → k < n → Pushes (k * zone_width e) bits a b p q → Room a p (n * zone_width e) → Room b q six_width
six-room e k n h i r = omega (arith, room_at k n (zone_width e) h i r)

pub two-room : (e : ℕ) {xs a b : List ℕ} {p m : Pen} → Pushes six_width xs a b p m → Room a p (zone_width e) → Room b m (two_width e)
two-room e h r = omega (arith, h.moved, h.long)

module _ (e d z : ℕ) where
  pub zones-room : {xs a b : List ℕ} {p m : Pen} → Pushes (d * device_width) xs a b p m → Room a p (interval_width e d z) → Room b m (z * zone_width e)
  zones-room h r = omega (arith, h.moved, h.long)

  module _ {xs ys a b c : List ℕ} {p m n : Pen} (h : Pushes (d * device_width) xs a b p m) (i : Pushes (z * zone_width e) ys b c m n) (r : Room a p (interval_width e d z)) where
    pub bars-room : Room c n (bars_width e)
    bars-room = omega (arith, h.moved, h.long, i.moved, i.long)

    pub reactive-bars-room : {zs f : List ℕ} {o : Pen} → Pushes (bars_width e) zs c f n o → Room f o (reactive_bars_width e)
    reactive-bars-room k = omega (arith, h.moved, h.long, i.moved, i.long, k.moved, k.long)

  module _ (i w : ℕ) (a : List ℕ) (r : needed e d i z w ≤ length a) where
    pub front-room : Room a fresh (front_width e)
    front-room = omega arith

    module _ {xs b : List ℕ} {l : Pen} (f : Pushes (front_width e) xs a b fresh l) where
      pub intervals-room : Room b l (i * interval_width e d z)
      intervals-room = omega (arith, f.moved, f.long)

      module _ {ys c : List ℕ} {m : Pen} (g : Pushes (i * interval_width e d z) ys b c l m) where
        pub windows-room : Room c m (w * overrun_width)
        windows-room = omega (arith, f.moved, f.long, g.moved, g.long)

        pub surplus-room : {zs k : List ℕ} {n : Pen} → Pushes (w * overrun_width) zs c k m n → Room k n surplus_width
        surplus-room h = omega (arith, f.moved, f.long, g.moved, g.long, h.moved, h.long)
