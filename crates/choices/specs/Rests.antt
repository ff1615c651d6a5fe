-- Downtime over a device's settings, back from the interval before a start.
use Rattle.std.specs.Prelude.{◌≡◌, Bool, true, false, List, eqb}
use Rattle.std.proofs.Math.Path.{refl, sym, ap, ap₂}
use Rattle.std.proofs.Common.{◌∙◌}
use Rattle.std.proofs.Math.Option.{Option, none, some}
use Prim.Native.Nat.{ℕ, zero, suc, ◌+◌, ◌-◌, ◌≤◌, ◌<◌}
use native.Mathlib.Omega.{arith}
use borrow.Author.Tests.{eq-eqb, ne_eqb}
use Rattle.std.proofs.Math.ListN.{get_or, length}
use Rattle.numbers.specs.Sum.{gate}
use Rattle.bits.specs.Pick.{pick}
use Rattle.model.specs.Case.{System, Plan}
use Rattle.model.specs.Case as M
use Rattle.model.specs.Forced.{device, start_of, end_of, u, last_on, downtime}
use Rattle.row_places.specs.declared.Cell.{Cell}
use Rattle.row_places.specs.declared.Device.{Device}
use Rattle.row_places.specs.Figures.{on_at}
use Rattle.records.specs.Views.{last_minute, device_in}
use Rattle.choices.specs.Cells as Cells
use Rattle.choices.specs.Cells.{CellOf, system_of, plan_of}

-- minutes off before the day
abbrev pub initial : Device → ℕ
initial d = gate (eqb d.on0 0) d.minutes0

-- the longest rest before a day, in minutes
abbrev pub most_rest : ℕ
most_rest = 60000

-- the downtime at a start in t where no interval from k to t is on
unfoldable pub off_since : Device → List (List ℕ) → List ℕ → ℕ → ℕ → ℕ
off_since d settings starts t zero = get_or starts t 0 + initial d
off_since d settings starts t (suc k) = pick (eqb (on_at settings k) 1) (get_or starts t 0 - get_or starts (suc k) 0) (off_since d settings starts t k)

-- what a look back over the settings reads is there and small
pub record Looks (d : Device) (settings : List (List ℕ)) (starts : List ℕ) (t : ℕ) : Type 0 where
  pub inside : t < length settings
  pub timed : length settings < length starts
  pub early : get_or starts t 0 ≤ last_minute
  pub rested : d.minutes0 ≤ most_rest

-- the loop's way back: nothing on from k to t
module _ (d : Device) (settings : List (List ℕ)) (starts : List ℕ) (t : ℕ) where
  pub record Off (k : ℕ) : Type 0 where
    pub rest : off_since d settings starts t t ≡ off_since d settings starts t k

  pub off_next : (k : ℕ) → 0 < k → (on_at settings (k - 1) ≡ 1 → ⊥) → Off k → Off (k - 1)
  unfolding off_since
  off_next zero l n h = absurd (omega arith)
  off_next (suc k) l n h = let e : suc k - 1 ≡ k = omega arith in record { rest = h.rest ∙ rw (e, ne_eqb (on_at settings k) 1 (rw e at n)) refl }

  -- the answer where an interval was on, and where none was
  pub off-found : (k : ℕ) {r : ℕ} → 0 < k → on_at settings (k - 1) ≡ 1 → Off k → r ≡ get_or starts t 0 - get_or starts k 0 → r ≡ off_since d settings starts t t
  unfolding off_since
  off-found zero l n h g = absurd (omega arith)
  off-found (suc k) l n h g = let z : suc k - 1 ≡ k = omega arith in sym (h.rest ∙ rw (eq-eqb (on_at settings k) 1 (rw z at n), g) refl)

  pub off-none : (k : ℕ) {x : ℕ} → k ≤ 0 → Off k → x ≡ initial d → get_or starts t 0 + x ≡ off_since d settings starts t t
  unfolding off_since
  off-none zero l h f = sym (h.rest ∙ rw f refl)
  off-none (suc k) l h f = absurd (omega arith)

-- the downtime of a start in t from the last on interval before k
since : System → ℕ → ℕ → Option ℕ → ℕ
since q t i (some e) = start_of q t - end_of q e
since q t i none = start_of q t + gate (eqb (device q i).on0 0) (device q i).minutes0

downtime-since : (q : System) (p : Plan) (t i : ℕ) (o : Option ℕ) → last_on q p t i ≡ o → downtime q p t i ≡ since q t i o
unfolding downtime since
downtime-since q p t i none h = rw h refl
downtime-since q p t i (some e) h = rw h refl

module _ {d : Device} {cell : Cell} {settings : List (List ℕ)} {starts : List ℕ} {p t : ℕ} (w : CellOf d cell settings starts p t) where
  abbrev q : System
  q = system_of w

  abbrev plan : Plan
  plan = plan_of w

  kept : (q : System) (i : ℕ) → (device q i).on0 ≡ d.on0 → (device q i).minutes0 ≡ d.minutes0 → initial d ≡ gate (eqb (device q i).on0 0) (device q i).minutes0
  kept q i e f = rw (e, f) refl

  off-is : (k : ℕ) → k ≤ t → off_since d settings starts t k ≡ since q t w.i (last_on q plan k w.i)
  unfolding off_since last_on since device_in
  off-is zero h =
      let l : t ≤ length w.halves = omega (arith, w.interval) in
      ap₂ (λ (a b : ℕ). a + b) (Cells.start-at w t l) (kept q w.i (ap (λ (x : M.Device). x.on0) (Cells.device-of w)) (ap (λ (x : M.Device). x.minutes0) (Cells.device-of w)))
  off-is (suc k) h =
      let l : k < length w.halves = omega (arith, w.interval) in
      ap (λ (n : ℕ). pick (eqb n 1) (get_or starts t 0 - get_or starts (suc k) 0) (off_since d settings starts t k)) (Cells.on-is w k l)
      ∙ go (off-is k (omega arith)) (eqb (u q plan k w.i) 1)
    where
      ended : get_or starts t 0 - get_or starts (suc k) 0 ≡ start_of q t - end_of q k
      ended =
          let m : t ≤ length w.halves = omega (arith, w.interval) in
          let n : suc k ≤ length w.halves = omega (arith, w.interval) in
          ap₂ (λ (a b : ℕ). a - b) (Cells.start-at w t m) (Cells.start-at w (suc k) n ∙ Cells.start-next w k)

      go : off_since d settings starts t k ≡ since q t w.i (last_on q plan k w.i) → (b : Bool)
          → pick b (get_or starts t 0 - get_or starts (suc k) 0) (off_since d settings starts t k) ≡ since q t w.i (pick b (some k) (last_on q plan k w.i))
      go r true = ended
      go r false = r

  pub downtime-is : off_since d settings starts t t ≡ downtime q plan t w.i
  downtime-is = off-is t (omega arith) ∙ sym (downtime-since q plan t w.i (last_on q plan t w.i) refl)

  pub looks : Looks d settings starts t
  looks = record {
    inside = omega (arith, w.interval, Cells.settings-long w);
    timed = omega (arith, Cells.settings-long w, w.ready.forced-rows.starts-full);
    early = w.ready.forced-rows.early t (omega (arith, w.interval));
    rested = (Cells.sized w).minutes0;
  }
