-- The choices that a completion's message holds, field by field, and that those of the message written are ours: so the completion written, taken from its bytes,
-- meets every rule and has the surplus reported.
use Rattle.std.specs.Prelude.{◌≡◌, eqb, get_or, ◌*ℤ◌}
use Rattle.std.proofs.Math.Path.{refl, ap}
use Rattle.std.proofs.Common.{sym, ◌∙◌, arith, get_or-append-add}
use mathlib.Core.List.{List, map}
use Prim.Native.Nat.{ℕ, zero, suc, ◌+◌, ◌<◌}
use Rattle.std.proofs.Math.ListN.{length, get_or-append}
use Rattle.std.proofs.Math.IntN.{ℤ, pos}
use Rattle.bits.specs.Pick.{pick}
use Rattle.numbers.specs.Base.{range, up_to, gather}
use Rattle.numbers.specs.Sum.{sumℤ, sumℕ, sumℕ-cong, sum-cong, all}
use Rattle.numbers.specs.Every.{all-up_to}
use Rattle.numbers.specs.Gather.{maps-long}
use Rattle.layouts.specs.Layout.{passes, read_whole}
use Rattle.model.specs.Case.{System, Plan, Case, Kinds, no_kinds}
use Rattle.model.specs.Forced.{intervals, devices, zones, device, consuming, duration}
use Rattle.model.specs.Rules.{blocks}
use Rattle.model.specs.Messages.{DeviceChoice, IntervalChoice}
use Rattle.model.specs.ByEdition.{Stated}
use Rattle.model.specs.Completion as C
use Rattle.model.specs.Completion.{Completion, Meets, surplus_of, block_price, by_side}
use Rattle.model.specs.Ours.{ours, whole}
use Rattle.model.specs.Judgement.{written, completion_in}
use Rattle.theorems.specs.Chosen.{Agree, Holds, chosen, q, second, sixth, windows_ahead}

four-cong : (f g : ℕ → ℤ) → ((k : ℕ) → k < 4 → f k ≡ g k) → sumℤ f blocks ≡ sumℤ g blocks
four-cong f g h = sum-cong f g blocks (all-up_to (λ k. f k ≡ g k) 4 h)

-- both meet every rule, or neither
pub meets-alike : (q : System) (p : Plan) (x y : Completion ℤ) → Agree q x y → Meets q p x → Meets q p y
meets-alike q p x y a m = record {
  rules = m.rules;
  started = λ t i l k. a.started t i l k ∙ m.started t i l k;
  stopped = λ t i l k. a.stopped t i l k ∙ m.stopped t i l k;
  within = λ t i k l j n. rw (a.block t i k l j n) (m.within t i k l j n);
  filled = λ t i l k. four-cong (y.block t i) (x.block t i) (λ n j. a.block t i n l k j) ∙ m.filled t i l k;
  state = λ t i l k. rw (a.state t i l k) (m.state t i l k);
  shortfall = λ t z k l j. rw (a.shortfall t z k l j) (m.shortfall t z k l j);
  reactive_shortfall = λ t z k l j. rw (a.reactive_shortfall t z k l j) (m.reactive_shortfall t z k l j);
  mismatch = λ t b l j. rw (a.mismatch t b l j) (m.mismatch t b l j);
  reactive_mismatch = λ t b l j. rw (a.reactive_mismatch t b l j) (m.reactive_mismatch t b l j);
  overrun = λ i n l j. rw (a.overrun i n l j) (m.overrun i n l j);
}

-- and their surplus is the same
grid-cong : (n m : ℕ) (f g : ℕ → ℕ → ℤ) → ((t i : ℕ) → t < n → i < m → f t i ≡ g t i) → sumℤ (λ t. sumℤ (f t) (up_to m)) (up_to n) ≡ sumℤ (λ t. sumℤ (g t) (up_to m)) (up_to n)
grid-cong n m f g h = sum-cong _ _ (up_to n) (all-up_to (λ t. sumℤ (f t) (up_to m) ≡ sumℤ (g t) (up_to m)) n (λ t l. sum-cong (f t) (g t) (up_to m) (all-up_to (λ i. f t i ≡ g t i) m (λ i k. h t i l k))))

module _ (c : Case) (p : Plan) (x y : Completion ℤ) (a : Agree c.system x y) where
  worth-alike : (t i : ℕ) → t < intervals (q c p x y a) → i < devices (q c p x y a) → C.block_worth c p y t i ≡ C.block_worth c p x t i
  unfolding C.block_worth
  worth-alike t i l k = ap (λ (z : ℤ). pos (duration (q c p x y a) t) *ℤ by_side (consuming (q c p x y a) i) z)
      (four-cong _ (λ n. block_price c t i n *ℤ x.block t i n) (λ n j. ap (λ (z : ℤ). block_price c t i n *ℤ z) (a.block t i n l k j)))

  changes-alike : (t i : ℕ) → t < intervals (q c p x y a) → i < devices (q c p x y a) → C.change_cost c p y t i ≡ C.change_cost c p x t i
  unfolding C.change_cost
  changes-alike t i l k = rw (a.started t i l k, a.stopped t i l k, a.state t i l k) refl

  on_alike : (t i : ℕ) → t < intervals (q c p x y a) → i < devices (q c p x y a) → C.on_cost c p y t i ≡ C.on_cost c p x t i
  unfolding C.on_cost
  on_alike t i l k = refl

  reserves-alike : (t i : ℕ) → t < intervals (q c p x y a) → i < devices (q c p x y a) → C.reserves_cost c p y t i ≡ C.reserves_cost c p x t i
  unfolding C.reserves_cost
  reserves-alike t i l k = refl

  reactive-reserves-alike : (t i : ℕ) → t < intervals (q c p x y a) → i < devices (q c p x y a) → C.reactive_reserves_cost c p y t i ≡ C.reactive_reserves_cost c p x t i
  unfolding C.reactive_reserves_cost
  reactive-reserves-alike t i l k = refl

  shortfalls-alike : (t z : ℕ) → t < intervals (q c p x y a) → z < zones (q c p x y a) → C.shortfall_cost c p y t z ≡ C.shortfall_cost c p x t z
  unfolding C.shortfall_cost
  shortfalls-alike t z l k = ap (λ (s : ℤ). pos (duration (q c p x y a) t) *ℤ s) (sum-cong (λ n. price n *ℤ y.shortfall t z n) (λ n. price n *ℤ x.shortfall t z n) C.shortfalls
      (all {P = λ n. price n *ℤ y.shortfall t z n ≡ price n *ℤ x.shortfall t z n} (λ n. ap (λ (s : ℤ). price n *ℤ s) (a.shortfall t z n l k)) C.shortfalls))
    where
      price : C.Shortfall → ℤ
      price n = pos (C.shortfall_price (get_or c.prices.zones z no_kinds).six n)

  reactive-shortfalls-alike : (t z : ℕ) → t < intervals (q c p x y a) → z < zones (q c p x y a) → C.reactive_shortfall_cost c p y t z ≡ C.reactive_shortfall_cost c p x t z
  unfolding C.reactive_shortfall_cost
  reactive-shortfalls-alike t z l k = ap (λ (s : ℤ). pos (duration (q c p x y a) t) *ℤ s) (sum-cong (λ n. price n *ℤ y.reactive_shortfall t z n) (λ n. price n *ℤ x.reactive_shortfall t z n) C.reactive_shortfalls
      (all {P = λ n. price n *ℤ y.reactive_shortfall t z n ≡ price n *ℤ x.reactive_shortfall t z n} (λ n. ap (λ (s : ℤ). price n *ℤ s) (a.reactive_shortfall t z n l k)) C.reactive_shortfalls))
    where
      price : C.ReactiveShortfall → ℤ
      price n = pos (C.reactive_price (get_or c.prices.zones z no_kinds).reactive n)

  mismatches-alike : (t : ℕ) → t < intervals (q c p x y a) → sumℤ (C.mismatch_cost c p y t) C.bars ≡ sumℤ (C.mismatch_cost c p x t) C.bars
  unfolding C.mismatch_cost
  mismatches-alike t l = rw (a.mismatch t 0 l (omega arith), a.mismatch t 1 l (omega arith)) refl

  reactive-mismatches-alike : (t : ℕ) → t < intervals (q c p x y a) → sumℤ (C.reactive_mismatch_cost c p y t) C.bars ≡ sumℤ (C.reactive_mismatch_cost c p x t) C.bars
  unfolding C.reactive_mismatch_cost
  reactive-mismatches-alike t l = rw (a.reactive_mismatch t 0 l (omega arith), a.reactive_mismatch t 1 l (omega arith)) refl

  overruns-alike : (i : ℕ) → i < devices (q c p x y a) → C.overruns c p y i ≡ C.overruns c p x i
  unfolding C.overruns
  overruns-alike i l = let few = length (device (q c p x y a) i).energy_windows in
      sum-cong (y.overrun i) (x.overrun i) (up_to few) (all-up_to (λ n. y.overrun i n ≡ x.overrun i n) few (λ n k. a.overrun i n l k))

  pub surplus-alike : surplus_of c p y ≡ surplus_of c p x
  unfolding surplus_of C.real_surplus C.reactive_costs
  surplus-alike = rw (
    grid-cong (intervals (q c p x y a)) (devices (q c p x y a)) _ _ worth-alike,
    grid-cong (intervals (q c p x y a)) (devices (q c p x y a)) _ _ on_alike,
    grid-cong (intervals (q c p x y a)) (devices (q c p x y a)) _ _ changes-alike,
    grid-cong (intervals (q c p x y a)) (devices (q c p x y a)) _ _ reserves-alike,
    grid-cong (intervals (q c p x y a)) (devices (q c p x y a)) _ _ reactive-reserves-alike,
    grid-cong (intervals (q c p x y a)) (zones (q c p x y a)) _ _ shortfalls-alike,
    grid-cong (intervals (q c p x y a)) (zones (q c p x y a)) _ _ reactive-shortfalls-alike,
    sum-cong _ _ (up_to (intervals (q c p x y a))) (all-up_to (λ t. sumℤ (C.mismatch_cost c p y t) C.bars ≡ sumℤ (C.mismatch_cost c p x t) C.bars) _ mismatches-alike),
    sum-cong _ _ (up_to (intervals (q c p x y a))) (all-up_to (λ t. sumℤ (C.reactive_mismatch_cost c p y t) C.bars ≡ sumℤ (C.reactive_mismatch_cost c p x t) C.bars) _ reactive-mismatches-alike),
    sum-cong (C.overruns c p y) (C.overruns c p x) (up_to (devices (q c p x y a))) (all-up_to (λ i. C.overruns c p y i ≡ C.overruns c p x i) _ overruns-alike),
  ) refl

-- ---- the choices of the message written are those of the completion
maps-at : {A : Type 0} (f : ℕ → A) (z : A) (k n j : ℕ) → j < n → get_or (map f (range k n)) j z ≡ f (k + j)
unfolding range
maps-at f z k zero j h = absurd (omega arith)
maps-at f z k (suc n) zero h = ap f (omega arith)
maps-at f z k (suc n) (suc j) h = maps-at f z (suc k) n j (omega arith) ∙ ap f (omega arith)

at : {A : Type 0} (f : ℕ → A) (z : A) (n j : ℕ) → j < n → get_or (map f (up_to n)) j z ≡ f j
at f z n j h = maps-at f z 0 n j h ∙ ap f (omega arith)

-- one list behind the other: what stands w places into that of k + i
gather-at : (f : ℕ → List ℕ) (k m i w : ℕ) → i < m → w < length (f (k + i)) → get_or (gather f (range k m)) (sumℕ (λ j. length (f j)) (range k i) + w) 0 ≡ get_or (f (k + i)) w 0
unfolding gather range
gather-at f k zero i w h l = absurd (omega arith)
gather-at f k (suc m) zero w h l =
    let e : k + 0 ≡ k = omega arith in
    let j : 0 + w ≡ w = omega arith in
    rw (e, j) (get_or-append (f k) (gather f (range (suc k) m)) 0 w (rw e at l))
gather-at f k (suc m) (suc i) w h l =
    let e : k + suc i ≡ suc k + i = omega arith in
    let n : length (f k) + sumℕ (λ j. length (f j)) (range (suc k) i) + w ≡ length (f k) + (sumℕ (λ j. length (f j)) (range (suc k) i) + w) = omega arith in
    rw (e, n) (get_or-append-add (f k) (gather f (range (suc k) m)) (sumℕ (λ j. length (f j)) (range (suc k) i) + w) 0 ∙ gather-at f (suc k) m i w (omega arith) (rw e at l))

module _ (q : System) (x : Completion ℕ) (z : ℤ) where
  abbrev windows : ℕ → List ℕ
  windows i = map (x.overrun i) (up_to (length (device q i).energy_windows))

  overrun-at : (i n : ℕ) → i < devices q → n < length (device q i).energy_windows → get_or (gather windows (up_to (devices q))) (windows_ahead q i + n) 0 ≡ x.overrun i n
  overrun-at i n l k =
      let long : (j : ℕ) → length (windows j) ≡ length (device q j).energy_windows = λ j. maps-long (x.overrun j) (length (device q j).energy_windows) in
      let e : windows_ahead q i ≡ sumℕ (λ j. length (windows j)) (up_to i) =
      sumℕ-cong _ (λ j. length (windows j)) (up_to i) (all {P = λ j. length (device q j).energy_windows ≡ length (windows j)} (λ j. sym (long j)) (up_to i)) in
      let o : 0 + i ≡ i = omega arith in
      rw e (gather-at windows 0 (devices q) i n l (rw o (omega (arith, long i))) ∙ ap (λ (j : ℕ). get_or (windows j) n 0) o ∙ at (x.overrun i) 0 (length (device q i).energy_windows) n k)

  pub chosen-agrees : Agree q (whole x) (chosen q (written q x z))
  unfolding chosen written whole
  chosen-agrees = record {
    started = λ t i l k. rw (at interval _ (intervals q) t l) (rw (at (choice t) _ (devices q) i k) refl);
    stopped = λ t i l k. rw (at interval _ (intervals q) t l) (rw (at (choice t) _ (devices q) i k) refl);
    state = λ t i l k. rw (at interval _ (intervals q) t l) (rw (at (choice t) _ (devices q) i k) refl);
    block = λ t i k l j n. rw (at interval _ (intervals q) t l) (rw (at (choice t) _ (devices q) i j) (ap pos (at (x.block t i) 0 4 k n)));
    shortfall = λ t z k l j. rw (at interval _ (intervals q) t l) (rw (at (kinds t) no_kinds (zones q) z j) (six-is t z k));
    reactive_shortfall = λ t z k l j. rw (at interval _ (intervals q) t l) (rw (at (kinds t) no_kinds (zones q) z j) (two_is t z k));
    mismatch = λ t b l j. rw (at interval _ (intervals q) t l) (bar-is (x.mismatch t) b j);
    reactive_mismatch = λ t b l j. rw (at interval _ (intervals q) t l) (bar-is (x.reactive_mismatch t) b j);
    overrun = λ i n l k. ap pos (overrun-at i n l k);
  }
    where
      choice : ℕ → ℕ → DeviceChoice
      choice t i = record { started = x.started t i; stopped = x.stopped t i; state = x.state t i; blocks = map (x.block t i) blocks }

      kinds : ℕ → ℕ → Kinds
      kinds t n = record {
        six = record {
          rgu = x.shortfall t n C.rgu;
          rgd = x.shortfall t n C.rgd;
          scr = x.shortfall t n C.scr;
          nsc = x.shortfall t n C.nsc;
          rru = x.shortfall t n C.rru;
          rrd = x.shortfall t n C.rrd;
        };
        reactive = record { qru = x.reactive_shortfall t n C.qru; qrd = x.reactive_shortfall t n C.qrd };
      }

      interval : ℕ → IntervalChoice
      interval t = record {
        devices = map (choice t) (up_to (devices q));
        zones = map (kinds t) (up_to (zones q));
        mismatch = record { first = x.mismatch t 0; second = x.mismatch t 1 };
        reactive_mismatch = record { first = x.reactive_mismatch t 0; second = x.reactive_mismatch t 1 };
      }

      six-is : (t z : ℕ) (k : C.Shortfall) → pos (sixth (kinds t z).six k) ≡ pos (x.shortfall t z k)
      six-is t z C.rgu = refl
      six-is t z C.rgd = refl
      six-is t z C.scr = refl
      six-is t z C.nsc = refl
      six-is t z C.rru = refl
      six-is t z C.rrd = refl

      two_is : (t z : ℕ) (k : C.ReactiveShortfall) → pos (second (kinds t z).reactive k) ≡ pos (x.reactive_shortfall t z k)
      two_is t z C.qru = refl
      two_is t z C.qrd = refl

      bar-is : (f : ℕ → ℕ) (b : ℕ) → b < 2 → pos (pick (eqb b 0) (f 0) (f 1)) ≡ pos (f b)
      bar-is f zero h = refl
      bar-is f (suc zero) h = refl
      bar-is f (suc (suc b)) h = absurd (omega arith)

-- those that our completion is read back from
pub holds-ours : (x : Stated) (p : Plan) (z : ℤ) (s : List ℕ) → read_whole (completion_in x.edition x.case.system) s ≡ passes (written x.case.system (ours x.case p) z)
    → Meets x.case.system p (whole (ours x.case p)) → surplus_of x.case p (whole (ours x.case p)) ≡ z → Holds x p z s
unfolding written
holds-ours x p z s e m v =
    let q = x.case.system in
    let our = ours x.case p in
    let g = chosen-agrees q our z in
    record {
      message = written q our z;
      reads = e;
      meets = meets-alike q p (whole our) (chosen q (written q our z)) g m;
      surplus = surplus-alike x.case p (whole our) (chosen q (written q our z)) g ∙ v;
      last = refl;
    }
