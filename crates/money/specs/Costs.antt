-- On, start, stop, state and reserve costs.
use Rattle.std.specs.Prelude.{◌≡◌, refl, ◌⊎◌, ℕ, zero, suc, ◌+◌, ◌-◌, ◌*◌, ◌≤◌, get_or, ℤ, pos, neg_ℤ, ◌+ℤ◌}
use Rattle.std.proofs.Common.{sym, ap, ◌∙◌, inl, inr, arith, mul-zero, mul-le-mul}
use Rattle.numbers.specs.Laws as L
use Rattle.grains.specs.declared.Grains.{Grains}
use Rattle.grains.specs.declared.Ledger.{Ledger}
use Rattle.grains.specs.Money.{Ledgered}
use Rattle.row_places.specs.declared.Device.{Device}
use Rattle.row_places.specs.declared.Reserves.{Reserves}
use Rattle.row_places.specs.declared.ReservePrices.{ReservePrices}
use Rattle.records.specs.Views.{cost_offset}
use Rattle.row_places.specs.Figures.{no_state}
use Rattle.choices.specs.States.{cost_of}
use Rattle.money.specs.Bounds.{power_most, minutes_most, price_most, rate_most, cost_most, on_most, state_most, change_most}
use Rattle.money.specs.Entries.{Entered, entered-none, entered-then, entered-as, earned, spent}
use Rattle.money.specs.Worth.{Amounts}

pub record CostsBelow (d : Device) : Type 0 where
  pub on : d.oncost ≤ rate_most
  pub start : d.startcost.0 ≤ cost_most
  pub stop : d.stopcost.0 ≤ cost_most

-- none, or a state's cost kept from 0
abbrev pub StateBelow : Device → ℕ → Type 0
StateBelow d state = (state ≡ 0) ⊎ ((get_or d.states (state - 1) no_state).cost ≤ cost_offset + cost_most)

pub cost-known : (d : Device) (state : ℕ) → StateBelow d state → (state ≡ 0 → ⊥) → (get_or d.states (state - 1) no_state).cost ≤ cost_offset + cost_most
cost-known d state (inl z) n = absurd (n z)
cost-known d state (inr h) n = h

-- amounts, and their prices
pub record AmountsBelow (r : Reserves) : Type 0 where
  pub rgu : r.rgu.0 ≤ power_most
  pub rgd : r.rgd.0 ≤ power_most
  pub scr : r.scr.0 ≤ power_most
  pub nsc : r.nsc.0 ≤ power_most
  pub rruon : r.rruon.0 ≤ power_most
  pub rruoff : r.rruoff.0 ≤ power_most
  pub rrdon : r.rrdon.0 ≤ power_most
  pub rrdoff : r.rrdoff.0 ≤ power_most

pub record PricesBelow (r : ReservePrices) : Type 0 where
  pub rgu : r.rgu ≤ price_most
  pub rgd : r.rgd ≤ price_most
  pub scr : r.scr ≤ price_most
  pub nsc : r.nsc ≤ price_most
  pub rruon : r.rruon ≤ price_most
  pub rruoff : r.rruoff ≤ price_most
  pub rrdon : r.rrdon ≤ price_most
  pub rrdoff : r.rrdoff ≤ price_most

-- rules 7 to 14, "against its limit times u .. times (1 − u)": what a device holds none of while it is on, and while it is off
pub record OfState (on : ℕ) (a : Reserves) : Type 0 where
  pub while-on : on ≡ 1 → a.nsc.0 + a.rruoff.0 + a.rrdoff.0 ≡ 0
  pub while-off : (on ≡ 1 → ⊥) → a.rgu.0 + a.rgd.0 + a.scr.0 + a.rruon.0 + a.rrdon.0 ≡ 0

-- each price times its amount: of those that a device may hold while it is on, while it is off, and of all
abbrev pub on_cost : ReservePrices → Reserves → ℕ
on_cost b a = b.rgu * a.rgu.0 + b.rgd * a.rgd.0 + b.scr * a.scr.0 + b.rruon * a.rruon.0 + b.rrdon * a.rrdon.0

abbrev pub off_cost : ReservePrices → Reserves → ℕ
off_cost b a = b.nsc * a.nsc.0 + b.rruoff * a.rruoff.0 + b.rrdoff * a.rrdoff.0

abbrev pub eight_cost : ReservePrices → Reserves → ℕ
eight_cost b a =
    b.rgu * a.rgu.0 + b.rgd * a.rgd.0 + b.scr * a.scr.0 + b.nsc * a.nsc.0
    + b.rruon * a.rruon.0 + b.rruoff * a.rruoff.0 + b.rrdon * a.rrdon.0 + b.rrdoff * a.rrdoff.0

-- a cost as often as it is due
pub due-once : (cost times : ℕ) → times ≡ 1 → cost ≡ cost * times
due-once cost times e = rw e (omega arith)

pub due-never : (cost times : ℕ) → times ≤ 1 → (times ≡ 1 → ⊥) → 0 ≡ cost * times
due-never cost zero h n = omega arith
due-never cost (suc zero) h n = absurd (n refl)
due-never cost (suc (suc k)) h n = absurd (omega arith)

-- a device's cost g, as often as it is due
pub due-of : (g : Grains) (times : ℕ) {cost : Grains} {r : ℕ} → cost ≡ g → g.0 ≤ cost_most → (r ≡ cost.0 * times) × (r ≤ cost.0) → (r ≡ g.0 * times) × (r ≤ cost_most)
due-of g times e h d = (d.0 ∙ ap (λ (x : Grains). x.0 * times) e, omega (arith, d.1, ap (λ (x : Grains). x.0) e))

pub on-cost : (rate on minutes : ℕ) {a g : ℕ} → rate ≤ rate_most → minutes ≤ minutes_most → a ≡ rate * minutes → g ≡ a * on → g ≤ a → (g ≡ minutes * (rate * on)) × (g ≤ on_most)
on-cost rate on minutes {a} {g} h i e f l =
    let k : a ≤ on_most = omega (arith, mul-le-mul h i) in
    (rw (f, e) (omega arith), omega arith)

pub no-state : (l : Ledger) (d : Device) (state : ℕ) → state ≡ 0 → Entered l l (neg_ℤ (cost_of d state)) state_most
unfolding cost_of
no-state l d state e = rw e (entered-as (entered-none l) refl (omega arith))

pub state-cost : (d : Device) (state : ℕ) {l m r : Ledger} {x : ℕ} → (state ≡ 0 → ⊥) → x ≡ (get_or d.states (state - 1) no_state).cost → x ≤ cost_offset + cost_most
    → Ledgered m (l.credit.0 + cost_offset) l.debit.0 → Ledgered r m.credit.0 (m.debit.0 + x) → Entered l r (neg_ℤ (cost_of d state)) state_most
unfolding cost_of
state-cost d zero n e s h k = absurd (n refl)
state-cost d (suc j) {l} {m} {r} {x} n e s h k =
    let z : suc j - 1 ≡ j = omega arith in
    let f : x ≡ (get_or d.states j no_state).cost = e ∙ ap (λ (i : ℕ). (get_or d.states i no_state).cost) z in
    entered-as (entered-then (earned h) (spent k)) (rw f (sym (L.neg-sub (pos (get_or d.states j no_state).cost) (pos cost_offset)))) (omega arith)

-- start, stop and state costs, paid
abbrev pub changes_of : Device → (started stopped state : ℕ) → ℤ
changes_of d started stopped state = neg_ℤ (pos (d.startcost.0 * started) +ℤ pos (d.stopcost.0 * stopped) +ℤ cost_of d state)

pub change-cost : (d : Device) (started stopped state : ℕ) {l a b r : Ledger} {x y : ℕ} → x ≡ d.startcost.0 * started → y ≡ d.stopcost.0 * stopped → x ≤ cost_most → y ≤ cost_most
    → Ledgered a l.credit.0 (l.debit.0 + x) → Ledgered b a.credit.0 (a.debit.0 + y) → Entered b r (neg_ℤ (cost_of d state)) state_most
    → Entered l r (changes_of d started stopped state) change_most
change-cost d started stopped state {x = x} {y = y} e f s u h k j =
    entered-as (entered-then (entered-then (spent h) (spent k)) j) (rw (e, f) (both (pos (d.startcost.0 * started)) (pos (d.stopcost.0 * stopped)) (cost_of d state))) (omega arith)
  where
    both : (x y z : ℤ) → neg_ℤ x +ℤ neg_ℤ y +ℤ neg_ℤ z ≡ neg_ℤ (x +ℤ y +ℤ z)
    both x y z = sym (L.neg-add (x +ℤ y) z ∙ ap (λ (w : ℤ). w +ℤ neg_ℤ z) (L.neg-add x y))

-- a price times an amount that is none
times_none : (price amount : ℕ) → amount ≡ 0 → price * amount ≡ 0
times_none price amount z = rw z (mul-zero price)

-- the rest costs nothing
pub on-eight : (on : ℕ) (b : ReservePrices) (a : Reserves) → OfState on a → on ≡ 1 → on_cost b a ≡ eight_cost b a
on-eight on b a h e =
    let z = h.while-on e in
    omega (
      arith,
      times_none b.nsc a.nsc.0 (omega (arith, z)),
      times_none b.rruoff a.rruoff.0 (omega (arith, z)),
      times_none b.rrdoff a.rrdoff.0 (omega (arith, z)),
    )

pub off-eight : (on : ℕ) (b : ReservePrices) (a : Reserves) → OfState on a → (on ≡ 1 → ⊥) → off_cost b a ≡ eight_cost b a
off-eight on b a h n =
    let z = h.while-off n in
    omega (
      arith,
      times_none b.rgu a.rgu.0 (omega (arith, z)),
      times_none b.rgd a.rgd.0 (omega (arith, z)),
      times_none b.scr a.scr.0 (omega (arith, z)),
      times_none b.rruon a.rruon.0 (omega (arith, z)),
      times_none b.rrdon a.rrdon.0 (omega (arith, z)),
    )
