-- The bounds of a set, from its rows' figures.
use Rattle.std.specs.Prelude.{◌≡◌, refl, List, [], length, get_or}
use Rattle.std.proofs.Math.Path.{sym}
use Rattle.std.proofs.Common.{◌∙◌, ap, subst, arith, mul-le-mul}
use Prim.Native.Nat.{ℕ, ◌+◌, ◌-◌, ◌*◌, ◌≤◌, ◌<◌, min, max}
use Rattle.numbers.specs.Base.{range}
use Rattle.numbers.specs.Parts.{part, part_at, place_inside}
use Rattle.numbers.specs.Sum.{sumℕ}
use Rattle.model.specs.Case as M
use Rattle.model.specs.Case.{System}
use Rattle.model.specs.Forced as F
use Rattle.model.specs.Rules.{blocks}
use Rattle.kilowatts.specs.declared.Kw.{Kw}
use Rattle.row_places.specs.declared.Cell.{Cell}
use Rattle.row_places.specs.declared.Front.{Front}
use Rattle.row_places.specs.Figures.{cell_of, device_of}
use Rattle.records.specs.Views.{CaseRows, system_in, device_in}
use Rattle.records.specs.Viewed as W
use Rattle.records.specs.Ranged as R
use Rattle.cell_bounds.specs.Tests.{of_block, sum_of}
use Rattle.dispatching.specs.Dispatch.{lowest, highest, rise, fall}

-- from the ramps over the interval, the cell and the earlier power
abbrev pub low_of : ℕ → Cell → ℕ → ℕ
low_of fall c earlier = max c.pmin.0 (max (sum_of c.floors) (earlier - fall))

abbrev pub high_of : ℕ → Cell → ℕ → ℕ
high_of rise c earlier = min c.pmax.0 (min (sum_of c.caps) (earlier + rise))

-- block powers that no sum takes past a word
abbrev pub FourSmall : List Kw → Type 0
FourSmall l = (of_block l 0 ≤ 100000) × (of_block l 1 ≤ 100000) × (of_block l 2 ≤ 100000) × (of_block l 3 ≤ 100000)

pub record Small (c : Cell) : Type 0 where
  pub pmax : c.pmax.0 ≤ 100000
  pub caps : FourSmall c.caps
  pub floors : FourSmall c.floors

-- the rows' figures
abbrev pub row_at : List ℕ → List (List ℕ) → ℕ → ℕ → Cell
row_at halves cells t i = cell_of (get_or cells (i * length halves + t) [])

abbrev pub up_at : List (List ℕ) → ℕ → ℕ
up_at devices i = get_or (device_of (get_or devices i [])).ramps 0 0

abbrev pub down_at : List (List ℕ) → ℕ → ℕ
down_at devices i = get_or (device_of (get_or devices i [])).ramps 1 0

by-four : (f : ℕ → ℕ) {a b c d : ℕ} → a ≡ f 0 → b ≡ f 1 → c ≡ f 2 → d ≡ f 3 → a + b + c + d ≡ sumℕ f blocks
unfolding range
by-four f {a} {b} {c} {d} p q r s = (λ j. p j + q j + r j + s j) ∙ sums (f 0) (f 1) (f 2) (f 3)
  where
    sums : (a b c d : ℕ) → a + b + c + d ≡ a + (b + (c + (d + 0)))
    sums a b c d = omega arith

module _ {front : Front} {halves : List ℕ} {zones minima devices cells : List (List ℕ)} (known : CaseRows front halves zones minima devices cells) (i : ℕ) (l : i < length devices) (t : ℕ)
    (h : t < length halves) where
  abbrev q : System
  q = system_in halves zones minima devices cells

  abbrev c : Cell
  c = row_at halves cells t i

  -- the cell of device i in interval t
  abbrev there : Cell
  there = cell_of (get_or (part (length halves) i cells) t [])

  same : there ≡ c
  same = ap cell_of (part_at [] (length halves) i cells t h)

  pub in_cells : i * length halves + t < length cells
  in_cells = omega (arith, place_inside (length halves) i (length devices) t l h, known.cells-full)

  pub place-small : (i * length halves ≤ 6144) × (i * length halves + t < 6240)
  place-small = let a : i ≤ 64 = omega (arith, known.few-devices) in let b : length halves ≤ 96 = known.few-intervals in let e : i * length halves ≤ 64 * 96 = mul-le-mul a b in
      (omega arith, omega (arith, known.few-intervals))

  pub small : Small c
  small = subst Small same (record {
    pmax = (R.cell-range known i l t h).pmax;
    caps = (cap 0 (omega arith), cap 1 (omega arith), cap 2 (omega arith), cap 3 (omega arith));
    floors = (floor 0 (omega arith), floor 1 (omega arith), floor 2 (omega arith), floor 3 (omega arith));
  })
    where
      cap : (j : ℕ) → j < 4 → of_block there.caps j ≤ 100000
      cap j b = R.cap-small known i l t h j b

      floor : (j : ℕ) → j < 4 → of_block there.floors j ≤ 100000
      floor j b = omega (arith, R.cap-small known i l t h j b, R.floor-below known i l t h j b)

  pub half-small : get_or halves t 0 ≤ 180
  half-small = R.half-small known t

  pub ramps-small : (up_at devices i ≤ 100000) × (down_at devices i ≤ 100000)
  ramps-small = ((R.device-sized known i l).up, (R.device-sized known i l).down)

  pub rise-small : 2 * get_or halves t 0 * up_at devices i ≤ 36000000
  rise-small = let a : 2 * get_or halves t 0 ≤ 360 = omega (arith, half-small) in let b : up_at devices i ≤ 100000 = ramps-small.0 in mul-le-mul a b

  pub fall-small : 2 * get_or halves t 0 * down_at devices i ≤ 36000000
  fall-small = let a : 2 * get_or halves t 0 ≤ 360 = omega (arith, half-small) in let b : down_at devices i ≤ 100000 = ramps-small.1 in mul-le-mul a b

  caps-are : sum_of c.caps ≡ sumℕ (F.cap q t i) blocks
  caps-are = ap (λ (x : Cell). sum_of x.caps) (sym same) ∙ by-four (F.cap q t i) (cap 0 (omega arith)) (cap 1 (omega arith)) (cap 2 (omega arith)) (cap 3 (omega arith))
    where
      cap : (j : ℕ) → j < 4 → of_block there.caps j ≡ F.cap q t i j
      cap j b = R.cap-at known i l t h j b

  floors-are : sum_of c.floors ≡ sumℕ (F.floor q t i) blocks
  floors-are = ap (λ (x : Cell). sum_of x.floors) (sym same) ∙ by-four (F.floor q t i) (floor 0 (omega arith)) (floor 1 (omega arith)) (floor 2 (omega arith)) (floor 3 (omega arith))
    where
      floor : (j : ℕ) → j < 4 → of_block there.floors j ≡ F.floor q t i j
      floor j b = R.floor-at known i l t h j b

  pmin-is : c.pmin.0 ≡ (F.cell q t i).pmin
  pmin-is = ap (λ (x : Cell). x.pmin.0) (sym same) ∙ sym (ap (λ (x : M.Cell). x.pmin) (R.cell-here known i l t h))

  pmax-is : c.pmax.0 ≡ (F.cell q t i).pmax
  pmax-is = ap (λ (x : Cell). x.pmax.0) (sym same) ∙ sym (ap (λ (x : M.Cell). x.pmax) (R.cell-here known i l t h))

  minutes-are : 2 * get_or halves t 0 ≡ F.duration q t
  minutes-are = sym (W.duration-is halves zones minima devices cells t)

  down_is : down_at devices i ≡ (F.device q i).ramps.down
  unfolding device_in
  down_is = sym (W.device-figure halves zones minima devices cells i l (λ x. x.ramps.down))

  up_is : up_at devices i ≡ (F.device q i).ramps.up
  unfolding device_in
  up_is = sym (W.device-figure halves zones minima devices cells i l (λ x. x.ramps.up))

  pub lowest-is : (earlier : ℕ) → low_of (2 * get_or halves t 0 * down_at devices i) c earlier ≡ lowest q t i earlier
  unfolding lowest fall
  lowest-is earlier = λ j. max (pmin-is j) (max (floors-are j) (earlier - minutes-are j * down_is j))

  pub highest-is : (earlier : ℕ) → high_of (2 * get_or halves t 0 * up_at devices i) c earlier ≡ highest q t i earlier
  unfolding highest rise
  highest-is earlier = λ j. min (pmax-is j) (min (caps-are j) (earlier + minutes-are j * up_is j))
