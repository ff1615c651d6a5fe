use mathlib.Core.Path.{◌≡◌, refl, sym, ◌∙◌, ap, subst}
use mathlib.Core.List.{List, ◌++◌}
use Prim.Native.Nat.{ℕ, ◌-◌, ◌≤◌, ◌<◌}
use native.Mathlib.Omega.{arith}
use lib.ListN.{length, get_or, take, length-set}
use lib.Seq.{take_all}
use Rattle.numbers.specs.Base.{gather}
use Rattle.numbers.specs.Sum.{All}
use Rattle.numbers.specs.Every.{all-at}
use Rattle.row_places.specs.declared.Cell.{Cell}
use Rattle.offers.specs.declared.Offer.{Offer}
use Rattle.set_bounds.specs.Bounds.{in_cells, place-small}
use Rattle.own_offers.specs.Own.{first_offers, cell_for, set_offers, no-first, put_next, set_next, few-blocks, offers-are}
use Rattle.own_offers.proofs.own_offers.Goals as goal

named : (n : ℕ) (sets : List ℕ) → All (λ s. (1 ≤ s) × (s ≤ n)) sets → (k : ℕ) → k < length sets → (1 ≤ get_or sets k 0) × (get_or sets k 0 ≤ n)
named n sets a k h = all-at (λ s. (1 ≤ s) × (s ≤ n)) 0 sets a k h

-- all blocks of a cell are all offers of its set
whole : (m : ℕ) (cells : List (List ℕ)) (t s b : ℕ) (c : Cell) → b ≡ c.blocks → c ≡ cell_for m cells t s → first_offers c s b ≡ set_offers m cells t s
unfolding set_offers
whole m cells t s b c e f = ap (first_offers c s) e ∙ ap (λ (x : Cell). first_offers x s x.blocks) f

pub overflow_sub-s : goal.overflow_sub-s
overflow_sub-s c = let b = named (length c.args.devices.now) c.args.sets.now c.requires.2 c.loop-s.s-index c.loop-s-test.true in omega arith

pub overflow_mul-s : goal.overflow_mul-s
overflow_mul-s c = let b = named (length c.args.devices.now) c.args.sets.now c.requires.2 c.loop-s.s-index c.loop-s-test.true in
    omega (arith, (place-small c.requires.0 (get_or c.args.sets.now c.loop-s.s-index 0 - 1) (omega arith) c.args.t c.requires.1).0)

pub overflow_add-s : goal.overflow_add-s
overflow_add-s c = let b = named (length c.args.devices.now) c.args.sets.now c.requires.2 c.loop-s.s-index c.loop-s-test.true in
    omega (arith, (place-small c.requires.0 (get_or c.args.sets.now c.loop-s.s-index 0 - 1) (omega arith) c.args.t c.requires.1).1)

pub cell_at-c-requires : goal.cell_at-c-requires
cell_at-c-requires c = let b = named (length c.args.devices.now) c.args.sets.now c.requires.2 c.loop-s.s-index c.loop-s-test.true in
    in_cells c.requires.0 (get_or c.args.sets.now c.loop-s.s-index 0 - 1) (omega arith) c.args.t c.requires.1

pub loop-s-init : goal.loop-s-init
unfolding gather
loop-s-init c = (omega arith, c.no_offers-all.type_inv.1.0.1, refl)

pub loop-b-init : goal.loop-b-init
loop-b-init c =
    let b = named (length c.args.devices.now) c.args.sets.now c.requires.2 c.loop-s.s-index c.loop-s-test.true in
    let r : ℕ = get_or c.args.sets.now c.loop-s.s-index 0 in (
      subst (λ (y : Cell). y.blocks ≤ 4) (sym c.cell_at-c.ensures) (few-blocks c.requires.0 c.args.t c.requires.1 r b.0 b.1),
      omega arith,
      omega arith,
      omega arith,
      c.loop-s.invariant.1,
      no-first c.cell_at-c.result r (take c.loop-s.n c.loop-s.all),
    )

pub loop-b-preserved : goal.loop-b-preserved
loop-b-preserved c =
    let y = c.loop-b in (
      omega arith,
      omega arith,
      omega arith,
      omega arith,
      length-set y.all y.n c.offer_of.result ∙ y.invariant.4,
      put_next c.cell_at-c.result (get_or c.args.sets.now c.loop-s.s-index 0) y.b y.n y.all (take c.loop-s.n c.loop-s.all) c.offer_of.result (omega arith)
          c.offer_of.ensures y.invariant.5,
    )

pub loop-s-preserved : goal.loop-s-preserved
loop-s-preserved c =
    let y = c.loop-b in (
      omega arith,
      y.invariant.4,
      set_next (set_offers (length c.args.halves.now) c.args.cells.now c.args.t) c.args.sets.now c.loop-s.s-index (take y.n y.all) (take c.loop-s.n c.loop-s.all)
          c.loop-s-test.true c.loop-s.invariant.2
          (y.invariant.5 ∙ ap (λ (o : List Offer). take c.loop-s.n c.loop-s.all ++ o) (whole (length c.args.halves.now) c.args.cells.now c.args.t
          (get_or c.args.sets.now c.loop-s.s-index 0) y.b c.cell_at-c.result (omega arith) c.cell_at-c.ensures)),
    )

pub returns : goal.returns
returns c = (
  omega arith,
  c.loop-s.invariant.2 ∙ ap (gather (set_offers (length c.args.halves.now) c.args.cells.now c.args.t)) (take_all c.loop-s.s-index c.args.sets.now (omega arith))
      ∙ offers-are c.requires.0 c.args.t c.requires.1 c.args.sets.now c.requires.2,
)
