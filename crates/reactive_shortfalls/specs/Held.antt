-- What a zone's members hold of the two reactive reserves in one interval, and what it is short of.
use Rattle.std.specs.Prelude.{◌≡◌, Bool, true, false, List, [], get_or, length}
use Rattle.std.proofs.Math.Path.{refl, ap₂}
use Rattle.std.proofs.Common.{sym, ap, ◌∙◌, add-one}
use Prim.Native.Nat.{ℕ, zero, suc, ◌+◌, ◌-◌, ◌*◌, ◌≤◌, ◌<◌}
use native.Mathlib.Omega.{arith}
use Rattle.numbers.specs.Laws.{max_zero, above-is}
use Rattle.numbers.specs.Sum.{sumℕ, gate}
use Rattle.bits.specs.Pick.{pick}
use Rattle.numbers.specs.Base.{range, up_to}
use Rattle.model.specs.Case as M
use Rattle.model.specs.Case.{System, Plan, no_minima}
use Rattle.model.specs.Forced.{devices as count, zone, member, setting}
use Rattle.model.specs.Completion as C
use Rattle.kilovars.specs.declared.Kvar.{Kvar}
use Rattle.kilovars.specs.declared.Var.{Var}
use Rattle.kilovars.specs.Reactive.{kvar, var}
use Rattle.row_places.specs.declared.Front.{Front}
use Rattle.row_places.specs.declared.Reactive.{Reactive}
use Rattle.row_places.specs.declared.Minima.{Minima}
use Rattle.row_places.specs.Figures.{zonebits_at, in_zone, reactive_at, minima_of}
use Rattle.numbers.specs.Parts.{part, part_at}
use Rattle.numbers.specs.Ranges.{sum-next, sum-skip}
use Rattle.records.specs.Views.{setting_in, minima_in, system_in, plan_in, Ready}
use Rattle.records.specs.Viewed as W
use Rattle.reactive_shortfalls.specs.declared.ReactiveHeld.{ReactiveHeld}
use Rattle.reactive_shortfalls.specs.declared.ReactiveShortfalls.{ReactiveShortfalls}
use Rattle.reactive_mismatches.specs.Settled.{Small}

-- what n devices hold: at most 100,000 each
pub record HeldOf (n : ℕ) (s : ReactiveHeld) : Type 0 where
  pub qru : s.qru.0 ≤ n * 100000
  pub qrd : s.qrd.0 ≤ n * 100000

abbrev pub held_by : Kvar → Kvar → ReactiveHeld
held_by qru qrd = record { qru = qru; qrd = qrd }

abbrev pub none_held : ReactiveHeld
none_held = held_by (kvar 0) (kvar 0)

-- one device more, where it is a member; its setting stands at place k
abbrev pub with_device : ReactiveHeld → List (List ℕ) → List (List ℕ) → (i k z : ℕ) → ReactiveHeld
with_device s devices settings i k z = pick (in_zone (zonebits_at devices i) z)
    (held_by (kvar (s.qru.0 + (reactive_at settings k).qru.0)) (kvar (s.qrd.0 + (reactive_at settings k).qrd.0)))
    s

pub record DeviceAdded (s : ReactiveHeld) (devices settings : List (List ℕ)) (i k z : ℕ) (r : ReactiveHeld) : Type 0 where
  pub is : r ≡ with_device s devices settings i k z
  pub small : (n : ℕ) → HeldOf n s → HeldOf (n + 1) r

pub held-mono : (m n : ℕ) (s : ReactiveHeld) → m ≤ n → HeldOf m s → HeldOf n s
held-mono m n s l h = record { qru = omega (arith, h.qru); qrd = omega (arith, h.qrd) }

module _ (s : ReactiveHeld) (devices settings : List (List ℕ)) (i k z : ℕ) where
  pub not-added : {a b : Kvar} → in_zone (zonebits_at devices i) z ≡ false → a ≡ s.qru → b ≡ s.qrd → DeviceAdded s devices settings i k z (held_by a b)
  not-added e f g = record { is = rw (e, f, g) refl; small = λ n h. rw (f, g) (held-mono n (n + 1) s (omega arith) h) }

  pub added : {x : Reactive} {a b : Kvar} → in_zone (zonebits_at devices i) z ≡ true → Small settings k → x ≡ reactive_at settings k
      → a.0 ≡ s.qru.0 + x.qru.0 → b.0 ≡ s.qrd.0 + x.qrd.0 → DeviceAdded s devices settings i k z (held_by a b)
  added {x} {a} {b} e l f g h = record {
    is = rw e (ap₂ (λ (v w : ℕ). held_by (kvar v) (kvar w)) (g ∙ rw f refl) (h ∙ rw f refl));
    small = λ n j.
        let u : x.qru.0 ≤ 100000 = rw f l.qru in
        let v : x.qrd.0 ≤ 100000 = rw f l.qrd in
        record { qru = omega (arith, j.qru); qrd = omega (arith, j.qrd) };
  }

-- the first n devices
unfoldable pub held_to : List (List ℕ) → List (List ℕ) → (m t z n : ℕ) → ReactiveHeld
held_to devices settings m t z zero = none_held
held_to devices settings m t z (suc i) = with_device (held_to devices settings m t z i) devices settings i (i * m + t) z

-- what the loop over the devices has
pub record HeldSo (devices settings : List (List ℕ)) (m t z i : ℕ) (s : ReactiveHeld) : Type 0 where
  pub is : s ≡ held_to devices settings m t z i
  pub small : HeldOf i s

module _ (devices settings : List (List ℕ)) (m t z : ℕ) where
  pub held_start : HeldSo devices settings m t z 0 none_held
  unfolding held_to
  held_start = record { is = refl; small = record { qru = omega arith; qrd = omega arith } }

  pub held_next : (i : ℕ) {s r : ReactiveHeld} {k : ℕ} → HeldSo devices settings m t z i s → k ≡ i * m + t → DeviceAdded s devices settings i k z r
      → HeldSo devices settings m t z (i + 1) r
  unfolding held_to
  held_next i h e a = record { is = a.is ∙ rw (add-one i, h.is, e) refl; small = a.small i h.small }

-- ---- the two needs

abbrev pub short_by : Var → Var → ReactiveShortfalls
short_by qru qrd = record { qru = qru; qrd = qrd }

-- in var, what is required above what is held
abbrev pub short_of : Minima → ReactiveHeld → ReactiveShortfalls
short_of least s = short_by (var (1000 * least.qru.0 - 1000 * s.qru.0)) (var (1000 * least.qrd.0 - 1000 * s.qrd.0))

pub none-short : (least : Minima) (s : ReactiveHeld) → (least.qru.0 ≡ 0) × (least.qrd.0 ≡ 0) → short_by (var 0) (var 0) ≡ short_of least s
none-short least s h =
    let a : 0 ≡ 1000 * least.qru.0 - 1000 * s.qru.0 = omega (arith, h.0) in
    let b : 0 ≡ 1000 * least.qrd.0 - 1000 * s.qrd.0 = omega (arith, h.1) in
    ap₂ (λ (v w : ℕ). short_by (var v) (var w)) a b

-- ---- a decoded case and plan

module _ {front : Front} {halves : List ℕ} {zones minima devices cells settings : List (List ℕ)} {starts powers : List ℕ}
    (ready : Ready front halves zones minima devices cells settings starts powers) (t : ℕ) (h : t < length halves) (z : ℕ) where
  abbrev q : System
  q = system_in halves zones minima devices cells

  abbrev p : Plan
  p = plan_in (length devices) (length halves) settings

  abbrev m : ℕ
  m = length halves

  abbrev over : (ℕ → ℕ) → ℕ → ℕ
  over f i = sumℕ (λ k. gate (member q z k) (f k)) (up_to i)

  -- what the members among the first i devices hold
  record Summed (i : ℕ) (s : ReactiveHeld) : Type 0 where
    pub qru-is : s.qru.0 ≡ over (λ k. (setting q p t k).reactive.qru) i
    pub qrd-is : s.qrd.0 ≡ over (λ k. (setting q p t k).reactive.qrd) i

  summed-next : (i : ℕ) (s : ReactiveHeld) → i < length devices → Summed i s → Summed (suc i) (with_device s devices settings i (i * m + t) z)
  summed-next i s l r = rw (← W.member_is halves zones minima devices cells i l z, ← add-one i) (go (member q z i) refl)
    where
      x : Reactive
      x = reactive_at settings (i * length halves + t)

      amount : (f : M.Reactive → ℕ) → f (setting q p t i).reactive ≡ f (setting_in (get_or settings (i * length halves + t) [])).reactive
      amount f =
          ap (λ (s : M.Setting). f s.reactive) (W.setting-is (length devices) m settings q t i h l)
          ∙ ap (λ (r : List ℕ). f (setting_in r).reactive) (part_at [] m i settings t h)

      go : (b : Bool) → member q z i ≡ b → Summed (i + 1) (pick b (held_by (kvar (s.qru.0 + x.qru.0)) (kvar (s.qrd.0 + x.qrd.0))) s)
      go true j = record {
        qru-is = sum-next _ i r.qru-is (rw j (sym (amount (λ y. y.qru))));
        qrd-is = sum-next _ i r.qrd-is (rw j (sym (amount (λ y. y.qrd))));
      }
      go false j = record { qru-is = sum-skip _ i r.qru-is (rw j refl); qrd-is = sum-skip _ i r.qrd-is (rw j refl) }

  summed-to : (i : ℕ) → i ≤ length devices → Summed i (held_to devices settings m t z i)
  unfolding held_to range
  summed-to zero l = record { qru-is = refl; qrd-is = refl }
  summed-to (suc i) l = summed-next i (held_to devices settings m t z i) (omega arith) (summed-to i (omega arith))

  module _ (l : z < length zones) where
    abbrev s : ReactiveHeld
    s = held_to devices settings m t z (length devices)

    abbrev least : Minima
    least = minima_of (get_or (part m z minima) t [])

    all : Summed (count q) s
    all = rw (W.devices-are halves zones minima devices cells) (summed-to (length devices) (omega arith))

    minimum : (f : M.ReactiveReserves → ℕ) → f (minima_in (get_or (part m z minima) t [])).reactive ≡ f (get_or (zone q z).minima t no_minima).reactive
    minimum f = sym (ap (λ (x : M.Minima). f x.reactive) (W.minima-are halves zones minima devices cells z l t))

    -- a need from what is required and what is held
    need : (a b : ℕ) (k : C.ReactiveShortfall) → 1000 * a ≡ C.reactive_required q p t z k → b ≡ C.reactive_held q p t z k → 1000 * a - 1000 * b ≡ max_zero (C.reactive_need q p t z k)
    unfolding C.reactive_need
    need a b k e f = rw (e, f) (sym (above-is (C.reactive_required q p t z k) (1000 * C.reactive_held q p t z k)))

    -- the two at their needs
    abbrev short : C.ReactiveShortfall → Var
    short k = var (max_zero (C.reactive_need q p t z k))

    pub reactive-shortfalls-are : short_of least s ≡ short_by (short C.qru) (short C.qrd)
    unfolding C.reactive_required C.reactive_held
    reactive-shortfalls-are = ap₂ (λ (v w : ℕ). short_by (var v) (var w))
        (need least.qru.0 s.qru.0 C.qru (ap (λ (n : ℕ). 1000 * n) (minimum (λ x. x.qru))) all.qru-is)
        (need least.qrd.0 s.qrd.0 C.qrd (ap (λ (n : ℕ). 1000 * n) (minimum (λ x. x.qrd))) all.qrd-is)
