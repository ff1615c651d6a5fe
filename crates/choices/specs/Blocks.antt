-- Block powers: above the floors while on, as without floors while off.
use Rattle.std.specs.Prelude.{◌≡◌, refl, List, map, ℕ, ◌+◌, ◌*◌, ◌≤◌, ◌<◌, eqb, ℤ}
use Rattle.std.proofs.Common.{sym, ◌∙◌, inr, arith, one-mul}
use Rattle.std.proofs.Math.Decide.{dec_le}
use Rattle.kilowatts.specs.declared.Kw.{Kw}
use Rattle.kilowatts.specs.Power.{kw}
use Rattle.numbers.specs.Base.{range}
use Rattle.numbers.specs.Every.{all-up_to}
use Rattle.numbers.specs.Sum.{sumℕ, sumℕ-cong}
use Rattle.model.specs.Forced.{least}
use Rattle.model.proofs.Named.{rule19-holds}
use Rattle.model.specs.Rules.{blocks, EveryRule}
use Rattle.model.specs.Ours.{filling_above}
use Rattle.block_fill.specs.Filled.{Filled, price_of, cap_of, four_same}
use Rattle.block_fill.specs.Above.{sum_of, FloorsFit, FilledAbove, above-none, above_same}
use Rattle.row_places.specs.declared.Cell.{Cell}
use Rattle.row_places.specs.declared.Device.{Device}
use Rattle.row_places.specs.Figures.{on_at}
use Rattle.choices.specs.Cells as Cells
use Rattle.choices.specs.Cells.{CellOf, system_of, plan_of}

-- for prices kept from 0 with any offset
pub record FilledWhile (on side p : ℕ) (floors caps : List Kw) (prices : List ℕ) (r : List Kw) : Type 0 where
  pub powers : (offset : ℕ) → r ≡ map (λ k. kw (filling_above (eqb side 1) (price_of offset prices) (λ j. on * cap_of floors j) (cap_of caps) p k)) blocks

module _ (side p : ℕ) (floors caps : List Kw) (prices : List ℕ) {on : ℕ} {r : List Kw} where
  pub while-on : on ≡ 1 → FilledAbove side p floors caps prices r → FilledWhile on side p floors caps prices r
  while-on e h = record {
    powers = λ o. h.powers o ∙ four_same _ _ (λ k l. above_same p (cap_of floors) (λ j. on * cap_of floors j) (cap_of caps) (cap_of caps) (price_of o prices) (price_of o prices)
        (λ j i. rw e (omega arith)) (λ j i. refl) (λ j i. inr refl) (eqb side 1) k l);
  }

  pub while-off : on ≡ 0 → Filled side p caps prices r → FilledWhile on side p floors caps prices r
  while-off e h = record {
    powers = λ o. h.powers o ∙ four_same _ _ (above-none p (λ j. on * cap_of floors j) (cap_of caps) (price_of o prices) (λ j i. rw e (omega arith)) (eqb side 1));
  }

-- what filling asks, of a device's cell
pub floors-fit : {d : Device} {cell : Cell} {settings : List (List ℕ)} {starts : List ℕ} {p t : ℕ} (w : CellOf d cell settings starts p t)
    → on_at settings t * sum_of cell.floors ≤ p → {on : ℕ} → on ≡ on_at settings t → on ≡ 1 → FloorsFit p cell.floors cell.caps
floors-fit {cell = cell} {settings} {p = p} {t} w h e f = record {
  below = Cells.floor-below w;
  least = rw (sym e ∙ f, one-mul (sum_of cell.floors)) at h;
}

-- rule 19 sees to it, where the plan breaks no rule
module _ {d : Device} {cell : Cell} {settings : List (List ℕ)} {starts : List ℕ} {p t : ℕ} (w : CellOf d cell settings starts p t) where
  four-times : (n a b c e : ℕ) → n ≤ 1 → n * (a + b + c + e) ≡ n * a + (n * b + (n * c + (n * e + 0)))
  four-times n a b c e h = go (dec_le n 0)
    where
      go : Dec (n ≤ 0) → n * (a + b + c + e) ≡ n * a + (n * b + (n * c + (n * e + 0)))
      go (yes x) = let z : n ≡ 0 = omega arith in rw z (omega arith)
      go (no x) = let z : n ≡ 1 = omega arith in rw z (omega arith)

  sum-binds : on_at settings t * sum_of cell.floors ≡ sumℕ (λ k. on_at settings t * cap_of cell.floors k) blocks
  unfolding range
  sum-binds = four-times (on_at settings t) (cap_of cell.floors 0) (cap_of cell.floors 1) (cap_of cell.floors 2) (cap_of cell.floors 3) (Cells.on-small w)

  pub floors-met : EveryRule (system_of w) (plan_of w) → on_at settings t * sum_of cell.floors ≤ p
  floors-met rules = omega (
    arith,
    sum-binds,
    sumℕ-cong (λ k. on_at settings t * cap_of cell.floors k) (least (system_of w) (plan_of w) t w.i) blocks
        (all-up_to (λ k. on_at settings t * cap_of cell.floors k ≡ least (system_of w) (plan_of w) t w.i k) 4 (Cells.least_at w)),
    (rule19-holds (system_of w) (plan_of w) rules t w.i (Cells.in-intervals w) (Cells.in-devices w)).floors,
    Cells.power-of w,
  )
