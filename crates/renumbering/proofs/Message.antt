-- The completion's message of a renumbered pair is the pair's own, rearranged: each device's choices and overruns at its new number, all else as it was.
use Rattle.std.specs.Prelude.{◌≡◌, take, drop, ℤ}
use Rattle.std.proofs.Math.Path.{refl, sym, ap}
use Rattle.std.proofs.Common.{◌∙◌, take_all, drop_at}
use mathlib.Core.List.{List, [], ◌∷◌, ◌++◌, map, map-append}
use Prim.Native.Nat.{ℕ, zero, suc, ◌+◌, ◌*◌, ◌/◌, ◌^◌, ◌≤◌, ◌<◌}
use native.Mathlib.Omega.{arith}
use Rattle.std.proofs.Math.Decide.{dec_le}
use Rattle.std.proofs.Math.ListN.{length, get_or, length-append}
use Rattle.numbers.specs.Base.{range, up_to, gather}
use Rattle.numbers.specs.Sum.{All, all, sumℕ}
use Rattle.numbers.specs.Every.{all-up_to, map-of-all}
use Rattle.numbers.specs.Ranges.{up_to-last, gather-last, sum-last, sum-rises, sum_same}
use Rattle.numbers.specs.Gather.{gather_cong, gather-map, gather-wide, gather-counted, length-gather, maps-long}
use Rattle.numbers.specs.Parts.{front-part}
use Rattle.numbers.specs.Rows.{rows, rows_at, rows_same}
use Rattle.layouts.specs.Layout.{Layout, bytes, bits_of, held, ◌then◌, ◌▸◌, list, nat, int, any}
use Rattle.layouts.specs.Trip.{length-bits, length-bytes}
use Rattle.model.specs.Case.{System, Plan, Case}
use Rattle.model.specs.Forced.{intervals, devices, zones, device}
use Rattle.model.specs.Rules.{blocks}
use Rattle.model.specs.Completion.{Completion, rgu, rgd, scr, nsc, rru, rrd, qru, qrd}
use Rattle.model.specs.Messages.{DeviceChoice, IntervalChoice, Written}
use Rattle.model.specs.ByEdition.{completion_layout, device_choice, interval_choice, completion_front_by, completion_by}
use Rattle.model.specs.Editions.{widths_of}
use Rattle.model.specs.Ours.{ours}
use Rattle.model.specs.Judgement.{written, energy_windows, counts_of, completion_in, our_surplus, completion_bytes}
use Rattle.renumbering.specs.Permute.{Renumbering}
use Rattle.renumbering.proofs.Permute.{renumbered-sumℕ, seen_back}
use Rattle.renumbering.specs.Renumbered.{rearranged, Moved, CarriedChoices}
use Rattle.renumbering.proofs.Needs.{ours-carried}
use Rattle.renumbering.proofs.Surplus.{our-surplus-same, windows-same}
use Rattle.renumbering.specs.Message.{no_choice, overruns_of, rearranged_interval, rearranged_written, windows_of}

-- ---- lists by number
map_rows : {A : Type 0} (f : ℕ → A) (n : ℕ) → map f (up_to n) ≡ rows f n
unfolding rows range
map_rows f zero = refl
map_rows {A} f (suc n) = ap (map f) (up_to-last n) ∙ map-append f (up_to n) (n ∷ []) ∙ ap (λ (l : List A). l ++ (f n ∷ [])) (map_rows f n)

maps-moved : {A : Type 0} {n : ℕ} (r : Renumbering n) (d : A) (f g : ℕ → A) → ((i : ℕ) → i < n → g (r.to i) ≡ f i) → map g (up_to n) ≡ rearranged r d (map f (up_to n))
unfolding rearranged
maps-moved {n = n} r d f g h =
    map_rows g n
    ∙ rows_same n (λ j l. sym (seen_back r f g h j l) ∙ sym (rows_at f d n (r.back j) (r.back_below j l)))
    ∙ sym (λ k. rows (λ j. get_or (map_rows f n k) (r.back j) d) n)

maps-same : {A : Type 0} (f g : ℕ → A) (n : ℕ) → ((t : ℕ) → t < n → g t ≡ f t) → map g (up_to n) ≡ map f (up_to n)
maps-same f g n h = map_rows g n ∙ rows_same n h ∙ sym (map_rows f n)

maps-twice : {A B C : Type 0} (g : B → C) (f : A → B) (l : List A) → map g (map f l) ≡ map (λ a. g (f a)) l
maps-twice g f [] = refl
maps-twice {C = C} g f (x ∷ l) = ap (λ (r : List C). g (f x) ∷ r) (maps-twice g f l)

-- a device's part of what stands one behind the other
part_of : {A : Type 0} (f : ℕ → List A) (w : ℕ → ℕ) → ((i : ℕ) → length (f i) ≡ w i) → (n i : ℕ) → i < n → take (w i) (drop (sumℕ w (up_to i)) (gather f (up_to n))) ≡ f i
part_of f w e zero i h = absurd (omega arith)
part_of {A} f w e (suc n) i h = ap (λ (l : List A). take (w i) (drop (sumℕ w (up_to i)) l)) (gather-last f n) ∙ go (dec_le n i) (λ l. part_of f w e n i l)
  where
    long : (k : ℕ) → length (gather f (up_to k)) ≡ sumℕ w (up_to k)
    long k = length-gather f (up_to k) ∙ sum_same _ w k (λ i l. e i)

    go : Dec (n ≤ i) → (i < n → take (w i) (drop (sumℕ w (up_to i)) (gather f (up_to n))) ≡ f i) → take (w i) (drop (sumℕ w (up_to i)) (gather f (up_to n) ++ f n)) ≡ f i
    go (yes l) ih = let s : i ≡ n = omega arith in rw s (ap (take (w n)) (drop_at (gather f (up_to n)) (f n) (sumℕ w (up_to n)) (long n)) ∙ take_all (w n) (f n) (omega (arith, e n)))
    go (no l) ih = front-part (gather f (up_to n)) (f n) (sumℕ w (up_to i)) (w i) (omega (arith, long n, sum-last w i, sum-rises w (suc i) n (omega arith))) ∙ ih (omega arith)

-- ---- the message
module _ (c : Case) (p : Plan) (r : Renumbering (devices c.system)) (c' : Case) (p' : Plan) (m : Moved c p r c' p') where
  abbrev q : System
  q = c.system

  abbrev q' : System
  q' = c'.system

  module _ (x x' : Completion ℕ) (a : CarriedChoices r x x') (z : ℤ) where
    choice_of : Completion ℕ → ℕ → ℕ → DeviceChoice
    choice_of x t i = record { started = x.started t i; stopped = x.stopped t i; state = x.state t i; blocks = map (x.block t i) blocks }

    choice-moved : (t i : ℕ) → i < devices q → choice_of x' t (r.to i) ≡ choice_of x t i
    unfolding choice_of
    choice-moved t i h = λ k. record { started = a.started t i h k; stopped = a.stopped t i h k; state = a.state t i h k; blocks = map (λ b. a.block t i b h k) blocks }

    devices-moved : (t : ℕ) → map (choice_of x' t) (up_to (devices q')) ≡ rearranged r no_choice (map (choice_of x t) (up_to (devices q)))
    devices-moved t = ap (λ (n : ℕ). map (choice_of x' t) (up_to n)) m.count ∙ maps-moved r no_choice (choice_of x t) (choice_of x' t) (choice-moved t)

    intervals-moved : (written q' x' z).intervals ≡ map (rearranged_interval r) (written q x z).intervals
    unfolding written choice_of
    intervals-moved =
        (λ k. map (λ t. record {
          devices = devices-moved t k;
          zones = map (λ n. record {
            six = record {
              rgu = a.shortfall t n rgu k;
              rgd = a.shortfall t n rgd k;
              scr = a.shortfall t n scr k;
              nsc = a.shortfall t n nsc k;
              rru = a.shortfall t n rru k;
              rrd = a.shortfall t n rrd k;
            };
            reactive = record { qru = a.reactive_shortfall t n qru k; qrd = a.reactive_shortfall t n qrd k };
          }) (up_to (length (m.zones k)));
          mismatch = record { first = a.mismatch t 0 k; second = a.mismatch t 1 k };
          reactive_mismatch = record { first = a.reactive_mismatch t 0 k; second = a.reactive_mismatch t 1 k };
        }) (up_to (length (m.halves k))))
        ∙ sym (maps-twice (rearranged_interval r) _ (up_to (intervals q)))

    overruns-of : Completion ℕ → System → ℕ → List ℕ
    overruns-of x q i = map (x.overrun i) (up_to (windows_of q i))

    overruns-moved : (written q' x' z).overruns ≡ gather (λ j. overruns_of (windows_of q) (r.back j) (written q x z).overruns) (up_to (devices q))
    unfolding written overruns-of
    overruns-moved =
        ap (λ (n : ℕ). gather (overruns-of x' q') (up_to n)) m.count
        ∙ gather_cong (overruns-of x' q') (λ j. overruns_of (windows_of q) (r.back j) (gather (overruns-of x q) (up_to (devices q)))) (up_to (devices q))
        (all-up_to _ (devices q) (λ j l.
        sym (seen_back r (overruns-of x q) (overruns-of x' q') (λ i h k. map (λ w. a.overrun i w h k) (up_to (length (m.device i h k).energy_windows))) j l)
        ∙ sym (part_of (overruns-of x q) (windows_of q) (λ i. maps-long (x.overrun i) (windows_of q i)) (devices q) (r.back j) (r.back_below j l))))

    pub written-moved : written q' x' z ≡ rearranged_written r (windows_of q) (written q x z)
    unfolding rearranged_written written
    written-moved = λ k. record { intervals = intervals-moved k; overruns = overruns-moved k; surplus = z }

  -- the fields that an accepted plan's message gets: those of the old pair, rearranged
  pub ours-moved : (z : ℤ) → written q' (ours c' p') z ≡ rearranged_written r (windows_of q) (written q (ours c p) z)
  ours-moved z = written-moved (ours c p) (ours c' p') (ours-carried c p r c' p' m) z

  layout-same : (e : ℕ) → completion_in e q' ≡ completion_in e q
  layout-same e = λ k. completion_layout e (record { devices = m.count k; intervals = length (m.halves k); zones = length (m.zones k) }) (windows-same c p r c' p' m k)

  pub bytes-moved : (e : ℕ) → completion_bytes (record { edition = e; case = c' }) p'
      ≡ bytes ((completion_in e q).write (rearranged_written r (windows_of q) (written q (ours c p) (our_surplus c p))))
  unfolding completion_bytes
  bytes-moved e =
      (λ k. bytes ((layout-same e k).write (written q' (ours c' p') (our-surplus-same c p r c' p' m k))))
      ∙ ap (λ (w : Written). bytes ((completion_in e q).write w)) (ours-moved (our_surplus c p))

-- ---- as long
maps-shifted : {A : Type 0} (f : ℕ → A) (k n : ℕ) → map f (range (suc k) n) ≡ map (λ i. f (suc i)) (range k n)
unfolding range
maps-shifted f k zero = refl
maps-shifted {A} f k (suc n) = ap (λ (l : List A). f (suc k) ∷ l) (maps-shifted f (suc k) n)

-- a list, element by element
pub listed-all : {A : Type 0} (d : A) (l : List A) (n : ℕ) → length l ≡ n → map (λ i. get_or l i d) (up_to n) ≡ l
unfolding range
listed-all d [] zero h = refl
listed-all d [] (suc n) h = absurd (omega arith)
listed-all d (x ∷ l) zero h = absurd (omega arith)
listed-all {A} d (x ∷ l) (suc n) h = ap (λ (r : List A). x ∷ r) (maps-shifted (λ i. get_or (x ∷ l) i d) 0 n ∙ listed-all d l n (omega arith))

module _ {A : Type 0} {n : ℕ} (r : Renumbering n) (d : A) (f : A → List ℕ) where
  maps-total : (g : ℕ → A) → length (gather f (map g (up_to n))) ≡ sumℕ (λ i. length (f (g i))) (up_to n)
  maps-total g = ap length (gather-map f g (up_to n)) ∙ length-gather (λ i. f (g i)) (up_to n)

  -- what is written of n things takes as much in any order
  rearranged-total : (l : List A) → length l ≡ n → length (gather f (rearranged r d l)) ≡ length (gather f l)
  unfolding rearranged
  rearranged-total l h =
      ap (λ (l : List A). length (gather f l)) (sym (map_rows (λ j. get_or l (r.back j) d) n))
      ∙ maps-total (λ j. get_or l (r.back j) d)
      ∙ renumbered-sumℕ r (λ i. length (f (get_or l i d))) (λ j. length (f (get_or l (r.back j) d))) (λ i k. ap (λ (j : ℕ). length (f (get_or l j d))) (r.there i k))
      ∙ sym (maps-total (λ i. get_or l i d))
      ∙ ap (λ (l : List A). length (gather f l)) (listed-all d l n h)

-- two values that a layout writes in as many bits
abbrev Long : {A : Type 0} → Layout A → A → A → Type 0
Long l a b = length (l.write a) ≡ length (l.write b)

pair-long : {A B : Type 0} (l : Layout A) (m : Layout B) (a a' : A) (b b' : B) → Long l a a' → Long m b b' → Long (l ▸ m) (a, b) (a', b')
unfolding ◌then◌
pair-long l m a a' b b' h k = omega (arith, length-append (l.write a) (m.write b), length-append (l.write a') (m.write b'))

wide-long : (w : ℕ) (xs ys : List ℕ) → length ys ≡ length xs → length (gather (bits_of w) ys) ≡ length (gather (bits_of w) xs)
wide-long w xs ys h = wide ys ∙ ap (λ (n : ℕ). n * w) h ∙ sym (wide xs)
  where
    wide : (l : List ℕ) → length (gather (bits_of w) l) ≡ length l * w
    wide l = gather-wide (bits_of w) w l (all (λ v. length-bits w v) l)

module _ (c : Case) (p : Plan) (r : Renumbering (devices c.system)) (c' : Case) (p' : Plan) (m : Moved c p r c' p') where
  abbrev n : ℕ
  n = devices c.system

  abbrev interval : ℕ → Layout IntervalChoice
  interval e = interval_choice e n (zones c.system)

  -- an interval's part, of as many devices
  interval-long : (e : ℕ) (v : IntervalChoice) → length v.devices ≡ n → Long (interval e) (rearranged_interval r v) v
  unfolding interval_choice held list
  interval-long e v h = pair-long (list n device_choice) _ (rearranged r no_choice v.devices) v.devices _ _ (rearranged-total r no_choice device_choice.write v.devices h) refl

  intervals-long : (e : ℕ) (vs : List IntervalChoice) → All (λ v. length v.devices ≡ n) vs
      → length (gather (interval e).write (map (rearranged_interval r) vs)) ≡ length (gather (interval e).write vs)
  unfolding gather
  intervals-long e [] h = refl
  intervals-long e (v ∷ vs) h =
      let f = (interval e).write in
      omega (
        arith,
        interval-long e v h.0,
        intervals-long e vs h.1,
        length-append (f (rearranged_interval r v)) (gather f (map (rearranged_interval r) vs)),
        length-append (f v) (gather f vs),
      )

  written-full : (x : Completion ℕ) (z : ℤ) → All (λ v. length v.devices ≡ n) (written c.system x z).intervals
  unfolding written
  written-full x z = map-of-all (λ (v : IntervalChoice). length v.devices ≡ n) _ (up_to (intervals c.system)) (all (λ t. maps-long _ n) (up_to (intervals c.system)))

  overruns-many : (x : Completion ℕ) (q : System) (z : ℤ) → length (written q x z).overruns ≡ energy_windows q
  unfolding written energy_windows
  overruns-many x q z = gather-counted (λ i. x.overrun i) (windows_of q) (up_to (devices q))

  -- so is the whole message
  pub message-long : (e : ℕ) (x x' : Completion ℕ) → CarriedChoices r x x' → (z : ℤ)
      → Long (completion_in e c.system) (rearranged_written r (windows_of c.system) (written c.system x z)) (written c.system x z)
  unfolding completion_by held list rearranged_written nat
  message-long e x x' a z =
      let w = written c.system x z in
      let last : Layout (List ℕ × ℤ) = list (energy_windows c.system) (any 32) ▸ int 64 (2 ^ 63) in
      let l : Layout (List IntervalChoice) = list (intervals c.system) (interval e) in
      pair-long (completion_front_by (widths_of e) e (counts_of c.system)) (l ▸ last) _ _ _ _ refl
      (pair-long l last (map (rearranged_interval r) w.intervals) w.intervals _ _ (intervals-long e w.intervals (written-full x z))
      (pair-long (list (energy_windows c.system) (any 32)) (int 64 (2 ^ 63)) _ w.overruns w.surplus w.surplus
      (wide-long 32 w.overruns _ (ap length (sym (overruns-moved c p r c' p' m x x' a z)) ∙ overruns-many x' c'.system z ∙ windows-same c p r c' p' m ∙ sym (overruns-many x c.system z)))
      refl))

  pub as_long : (e : ℕ) → length (completion_bytes (record { edition = e; case = c' }) p') ≡ length (completion_bytes (record { edition = e; case = c }) p)
  unfolding completion_bytes
  as_long e =
      ap length (bytes-moved c p r c' p' m e)
      ∙ length-bytes _
      ∙ ap (λ (k : ℕ). (k + 7) / 8) (message-long e (ours c p) (ours c' p') (ours-carried c p r c' p' m) (our_surplus c p))
      ∙ sym (length-bytes ((completion_in e c.system).write (written c.system (ours c p) (our_surplus c p))))
