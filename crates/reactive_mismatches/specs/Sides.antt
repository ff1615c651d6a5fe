-- How far the q of the two sides of each bar are apart in one interval.
use Rattle.std.specs.Prelude.{◌≡◌, Bool, true, false, not, ◌&&◌, List, [], eqb, ℤ, pos, ◌+ℤ◌, ◌-ℤ◌}
use Rattle.std.proofs.Math.Path.{refl, sym, ap}
use Rattle.std.proofs.Common.{ap₂, ◌∙◌, add-one, eq-eqb, ne_eqb}
use Prim.Native.Nat.{ℕ, zero, suc, ◌+◌, ◌-◌, ◌*◌, ◌≤◌, ◌<◌}
use native.Mathlib.Omega.{arith}
use Rattle.std.proofs.Math.ListN.{length}
use Rattle.std.proofs.Math.IntN.{nat_abs}
use Rattle.numbers.specs.Z.{whole, n+, n-}
use Rattle.numbers.specs.Sum.{sumℤ}
use Rattle.numbers.specs.Bounds.{apart-is}
use Rattle.bits.specs.Pick.{pick}
use Rattle.numbers.specs.Base.{range, up_to}
use Rattle.model.specs.Case as M
use Rattle.model.specs.Case.{System, Plan}
use Rattle.model.specs.Forced.{devices as count, consuming, on_bar, setting}
use Rattle.model.specs.Completion as C
use Rattle.ranges.specs.Kept.{less}
use Rattle.kilovars.specs.declared.Kvar.{Kvar}
use Rattle.kilovars.specs.Reactive.{kvar_offset, kvar}
use Rattle.row_places.specs.declared.Front.{Front}
use Rattle.row_places.specs.Figures.{side_at, bar_at, reactive_at}
use Rattle.numbers.specs.Parts.{part_at}
use Rattle.numbers.specs.Ranges.{sumℤ-more}
use Rattle.records.specs.Views.{setting_in, system_in, plan_in, Ready}
use Rattle.records.specs.Viewed as W
use Rattle.mismatches.specs.Sides.{first-bar, second-bar}
use Rattle.reactive_mismatches.specs.declared.ReactiveSides.{ReactiveSides}
use Rattle.reactive_mismatches.specs.declared.ReactiveBarSides.{ReactiveBarSides}
use Rattle.reactive_mismatches.specs.declared.ReactiveMismatches.{ReactiveMismatches}

abbrev pub sides_of : Kvar → Kvar → ReactiveSides
sides_of consuming producing = record { consuming = consuming; producing = producing }

-- a device's q as it is kept on its side, what it is kept from on the other
abbrev pub with_side : ReactiveSides → ℕ → ℕ → ReactiveSides
with_side s side q = pick (eqb side 1)
    (sides_of (kvar (s.consuming.0 + q)) (kvar (s.producing.0 + kvar_offset)))
    (sides_of (kvar (s.consuming.0 + kvar_offset)) (kvar (s.producing.0 + q)))

-- the code's two answers
module _ (s : ReactiveSides) (side q : ℕ) where
  abbrev on : Bool → ReactiveSides
  on b = pick b
      (sides_of (kvar (s.consuming.0 + q)) (kvar (s.producing.0 + kvar_offset)))
      (sides_of (kvar (s.consuming.0 + kvar_offset)) (kvar (s.producing.0 + q)))

-- ---- the bars

abbrev pub bar_sides_of : ReactiveSides → ReactiveSides → ReactiveBarSides
bar_sides_of first second = record { first = first; second = second }

-- all sums together
abbrev pub all_of : ReactiveBarSides → ℕ
all_of s = (s.first.consuming.0 + s.first.producing.0) + (s.second.consuming.0 + s.second.producing.0)

-- a device's q on its bar
abbrev pub with_bar : ReactiveBarSides → (bar side q : ℕ) → ReactiveBarSides
with_bar s bar side q = pick (eqb bar 0) (bar_sides_of (with_side s.first side q) s.second) (bar_sides_of s.first (with_side s.second side q))

-- the code's two answers
module _ (s : ReactiveBarSides) (bar side q : ℕ) where
  abbrev at : Bool → ReactiveBarSides
  at b = pick b (bar_sides_of (with_side s.first side q) s.second) (bar_sides_of s.first (with_side s.second side q))

  pub bar-first : {x : ReactiveSides} → bar ≡ 0 → x ≡ with_side s.first side q → bar_sides_of x s.second ≡ with_bar s bar side q
  bar-first h e = ap (λ (y : ReactiveSides). bar_sides_of y s.second) e ∙ sym (ap at (eq-eqb bar 0 h))

  pub bar-second : {x : ReactiveSides} → (bar ≡ 0 → ⊥) → x ≡ with_side s.second side q → bar_sides_of s.first x ≡ with_bar s bar side q
  bar-second h e = ap (λ (y : ReactiveSides). bar_sides_of s.first y) e ∙ sym (ap at (ne_eqb bar 0 h))

  bar-all : all_of (with_bar s bar side q) ≡ all_of s + (q + kvar_offset)
  bar-all = go (eqb bar 0) (eqb side 1)
    where
      go : (b c : Bool)
          → all_of (pick b (bar_sides_of (on s.first side q c) s.second) (bar_sides_of s.first (on s.second side q c))) ≡ all_of s + (q + kvar_offset)
      go true true = omega arith
      go true false = omega arith
      go false true = omega arith
      go false false = omega arith

abbrev pub no_sides : ReactiveSides
no_sides = sides_of (kvar 0) (kvar 0)

abbrev pub no_bar_sides : ReactiveBarSides
no_bar_sides = bar_sides_of no_sides no_sides

-- the first n devices in interval t
unfoldable pub bars_to : List (List ℕ) → List (List ℕ) → ℕ → ℕ → ℕ → ReactiveBarSides
bars_to devices settings m t zero = no_bar_sides
bars_to devices settings m t (suc i) = with_bar (bars_to devices settings m t i) (bar_at devices i) (side_at devices i) (reactive_at settings (i * m + t)).q.0

-- how far the two are apart
abbrev pub apart_of : ReactiveSides → ℕ
apart_of s = (s.consuming.0 - s.producing.0) + (s.producing.0 - s.consuming.0)

abbrev pub mismatches_by : Kvar → Kvar → ReactiveMismatches
mismatches_by first second = record { first = first; second = second }

-- each bar's
abbrev pub mismatches_of : ReactiveBarSides → ReactiveMismatches
mismatches_of s = mismatches_by (kvar (apart_of s.first)) (kvar (apart_of s.second))

-- what the loop over the devices has
pub record BarsSo (devices settings : List (List ℕ)) (m t i : ℕ) (s : ReactiveBarSides) : Type 0 where
  pub is : s ≡ bars_to devices settings m t i
  pub small : all_of s ≤ i * 300000

module _ (devices settings : List (List ℕ)) (m t : ℕ) where
  pub bars-start : BarsSo devices settings m t 0 no_bar_sides
  unfolding bars_to
  bars-start = record { is = refl; small = omega arith }

  pub bars-next : (i : ℕ) {s r : ReactiveBarSides} {k b x y : ℕ} → BarsSo devices settings m t i s → k ≡ i * m + t → b ≡ bar_at devices i → x ≡ side_at devices i
      → y ≡ (reactive_at settings k).q.0 → y ≤ 200000 → r ≡ with_bar s b x y → BarsSo devices settings m t (i + 1) r
  unfolding bars_to
  bars-next i {s} {r} {k} {b} {x} {y} h j a e f l g = record { is = g ∙ rw (add-one i, h.is, a, e, f, j) refl; small = rw g (omega (arith, bar-all s b x y, h.small)) }

  -- the code's two mismatches
  pub mismatches-made : {n : ℕ} {s : ReactiveBarSides} {x y : Kvar} → BarsSo devices settings m t n s
      → x.0 ≡ apart_of s.first → y.0 ≡ apart_of s.second → mismatches_by x y ≡ mismatches_of (bars_to devices settings m t n)
  mismatches-made h d e = ap₂ (λ (v w : ℕ). mismatches_by (kvar v) (kvar w)) d e ∙ ap mismatches_of h.is

-- ---- no q at all

pub record NoneTo (settings : List (List ℕ)) (m t n : ℕ) : Type 0 where
  pub none : (i : ℕ) → i < n → (reactive_at settings (i * m + t)).q.0 ≡ kvar_offset

module _ (settings : List (List ℕ)) (m t : ℕ) where
  -- a bar's two sums are equal
  abbrev Same : ReactiveSides → Type 0
  Same s = s.consuming.0 ≡ s.producing.0

  none-same : (devices : List (List ℕ)) (n : ℕ) → NoneTo settings m t n → Same (bars_to devices settings m t n).first × Same (bars_to devices settings m t n).second
  unfolding bars_to
  none-same devices zero h = (refl, refl)
  none-same devices (suc n) h =
      let s = bars_to devices settings m t n in
      let r = none-same devices n (record { none = λ i l. h.none i (omega arith) }) in
      go s (eqb (bar_at devices n) 0) r.0 r.1 (more s.first r.0) (more s.second r.1)
    where
      x : ℕ
      x = (reactive_at settings (n * m + t)).q.0

      both : (s : ReactiveSides) (c : Bool) (y : ℕ) → y ≡ kvar_offset → Same s → Same (on s (side_at devices n) y c)
      both s true y e r = omega arith
      both s false y e r = omega arith

      more : (s : ReactiveSides) → Same s → Same (with_side s (side_at devices n) x)
      more s r = both s (eqb (side_at devices n) 1) x (h.none n (omega arith)) r

      go : (s : ReactiveBarSides) (b : Bool) → Same s.first → Same s.second → Same (with_side s.first (side_at devices n) x) → Same (with_side s.second (side_at devices n) x)
          → Same (at s (bar_at devices n) (side_at devices n) x b).first × Same (at s (bar_at devices n) (side_at devices n) x b).second
      go s true u v w y = (w, v)
      go s false u v w y = (u, y)

  pub none_apart : (devices : List (List ℕ)) (n : ℕ) → NoneTo settings m t n → mismatches_by (kvar 0) (kvar 0) ≡ mismatches_of (bars_to devices settings m t n)
  none_apart devices n h = let r = none-same devices n h in ap₂ (λ (v w : ℕ). mismatches_by (kvar v) (kvar w)) (omega (arith, r.0)) (omega (arith, r.1))

-- ---- a decoded case and plan

module _ {front : Front} {halves : List ℕ} {zones minima devices cells settings : List (List ℕ)} {starts powers : List ℕ}
    (ready : Ready front halves zones minima devices cells settings starts powers) (t : ℕ) (h : t < length halves) where
  abbrev q : System
  q = system_in halves zones minima devices cells

  abbrev p : Plan
  p = plan_in (length devices) (length halves) settings

  abbrev m : ℕ
  m = length halves

  -- the q of the first i devices of a side on bar b
  abbrev drawn : ℕ → ℕ → ℤ
  drawn b i = sumℤ (λ k. pick (on_bar q b k && consuming q k) (setting q p t k).reactive.q (pos 0)) (up_to i)

  abbrev made : ℕ → ℕ → ℤ
  made b i = sumℤ (λ k. pick (on_bar q b k && not (consuming q k)) (setting q p t k).reactive.q (pos 0)) (up_to i)

  -- the two sums are as far apart as those
  record Sided (b i : ℕ) (s : ReactiveSides) : Type 0 where
    pub apart-are : pos s.consuming.0 -ℤ pos s.producing.0 ≡ drawn b i -ℤ made b i

  -- one device more: on bar b or not
  sided-next : (b i : ℕ) (s : ReactiveSides) → i < length devices → Sided b i s
      → Sided b (suc i) (pick (on_bar q b i) (with_side s (side_at devices i) (reactive_at settings (i * m + t)).q.0) s)
  sided-next b i s l r = rw (← W.consuming-is halves zones minima devices cells i l, ← add-one i) (go (on_bar q b i) (consuming q i) refl refl)
    where
      x : ℕ
      x = (reactive_at settings (i * length halves + t)).q.0

      is : (setting q p t i).reactive.q ≡ less kvar_offset x
      is =
          ap (λ (s : M.Setting). s.reactive.q) (W.setting-is (length devices) m settings q t i h l)
          ∙ ap (λ (r : List ℕ). (setting_in r).reactive.q) (part_at [] m i settings t h)

      step : (u v c d : ℤ) → drawn b (i + 1) ≡ drawn b i +ℤ c → made b (i + 1) ≡ made b i +ℤ d → u -ℤ v ≡ c -ℤ d
          → (pos s.consuming.0 +ℤ u) -ℤ (pos s.producing.0 +ℤ v) ≡ drawn b (i + 1) -ℤ made b (i + 1)
      step u v c d e f g = rw (e, f) (omega (
        whole,
        r.apart-are,
        n- (pos s.consuming.0) (pos s.producing.0),
        n- (drawn b i) (made b i),
        n+ (pos s.consuming.0) u,
        n+ (pos s.producing.0) v,
        n- (pos s.consuming.0 +ℤ u) (pos s.producing.0 +ℤ v),
        n+ (drawn b i) c,
        n+ (made b i) d,
        n- (drawn b i +ℤ c) (made b i +ℤ d),
        n- u v,
        n- c d,
      ))

      more : drawn b (i + 1) ≡ drawn b i +ℤ pick (on_bar q b i && consuming q i) (setting q p t i).reactive.q (pos 0)
      more = sumℤ-more _ i

      more-made : made b (i + 1) ≡ made b i +ℤ pick (on_bar q b i && not (consuming q i)) (setting q p t i).reactive.q (pos 0)
      more-made = sumℤ-more _ i

      go : (c d : Bool) → on_bar q b i ≡ c → consuming q i ≡ d → Sided b (i + 1) (pick c (on s (side_at devices i) x d) s)
      go true true k j = record {
        apart-are = step (pos x) (pos kvar_offset) (less kvar_offset x) (pos 0) (more ∙ rw (k, j, is) refl) (more-made ∙ rw (k, j) refl)
            (omega (whole, n- (pos x) (pos kvar_offset), n- (less kvar_offset x) (pos 0)));
      }
      go true false k j = record {
        apart-are = step (pos kvar_offset) (pos x) (pos 0) (less kvar_offset x) (more ∙ rw (k, j) refl) (more-made ∙ rw (k, j, is) refl)
            (omega (whole, n- (pos x) (pos kvar_offset), n- (pos kvar_offset) (pos x), n- (pos 0) (less kvar_offset x)));
      }
      go false d k j = record {
        apart-are = r.apart-are ∙ rw (more, more-made, k) (omega (
          whole,
          n- (drawn b i) (made b i),
          n+ (drawn b i) (pos 0),
          n+ (made b i) (pos 0),
          n- (drawn b i +ℤ pos 0) (made b i +ℤ pos 0),
        ));
      }

  record Barred (i : ℕ) (s : ReactiveBarSides) : Type 0 where
    pub first : Sided 0 i s.first
    pub second : Sided 1 i s.second

  barred-next : (i : ℕ) (s : ReactiveBarSides) → i < length devices → Barred i s
      → Barred (suc i) (with_bar s (bar_at devices i) (side_at devices i) (reactive_at settings (i * m + t)).q.0)
  barred-next i s l r = go (eqb (bar_at devices i) 0) (first-bar ready.case_rows i l) (second-bar ready.case_rows i l)
      (sided-next 0 i s.first l r.first) (sided-next 1 i s.second l r.second)
    where
      more : ReactiveSides → ReactiveSides
      more v = with_side v (side_at devices i) (reactive_at settings (i * length halves + t)).q.0

      go : (b : Bool) → b ≡ on_bar q 0 i → not b ≡ on_bar q 1 i
          → Sided 0 (suc i) (pick (on_bar q 0 i) (more s.first) s.first) → Sided 1 (suc i) (pick (on_bar q 1 i) (more s.second) s.second)
          → Barred (suc i) (pick b (bar_sides_of (more s.first) s.second) (bar_sides_of s.first (more s.second)))
      go true e f u v = record { first = rw (← e) at u; second = rw (← f) at v }
      go false e f u v = record { first = rw (← e) at u; second = rw (← f) at v }

  barred-to : (i : ℕ) → i ≤ length devices → Barred i (bars_to devices settings m t i)
  unfolding bars_to range
  barred-to zero l = record { first = record { apart-are = refl }; second = record { apart-are = refl } }
  barred-to (suc i) l = barred-next i (bars_to devices settings m t i) (omega arith) (barred-to i (omega arith))

  -- "|consuming − producing q|" of a bar
  sided-all : (b : ℕ) (s : ReactiveSides) → Sided b (length devices) s → apart_of s ≡ C.reactive_mismatch_need q p t b
  unfolding C.reactive_mismatch_need C.reactive_total
  sided-all b s r =
      let n : length devices ≡ count q = sym (W.devices-are halves zones minima devices cells) in
      sym (apart-is s.consuming.0 s.producing.0)
      ∙ ap nat_abs (r.apart-are ∙ ap (λ (j : ℕ). drawn b j -ℤ made b j) n)

  pub reactive-mismatches-are : mismatches_of (bars_to devices settings m t (length devices)) ≡ mismatches_by (kvar (C.reactive_mismatch_need q p t 0)) (kvar (C.reactive_mismatch_need q p t 1))
  reactive-mismatches-are =
      let s : ReactiveBarSides = bars_to devices settings m t (length devices) in
      let r : Barred (length devices) s = barred-to (length devices) (omega arith) in
      ap₂ (λ (a b : ℕ). mismatches_by (kvar a) (kvar b)) (sided-all 0 s.first r.first) (sided-all 1 s.second r.second)
