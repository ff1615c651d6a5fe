-- Item 3's theorem over the figures: ours meets every rule where one can be met, and no completion that meets every rule has a greater surplus.
use Rattle.std.specs.Prelude.{◌≡◌, Bool, List, [], ◌∷◌, leb, eqb, get_or, ℤ, neg_ℤ, ◌+ℤ◌, ◌-ℤ◌, ◌*ℤ◌, ◌≤ℤ◌}
use Rattle.std.proofs.Math.Path.{refl, ap}
use Rattle.std.proofs.Common.{◌∙◌, ap₂, arith, le→leb}
use Rattle.std.proofs.Math.Logic.{inl, inr}
use Rattle.std.proofs.Math.Bool.{true, false}
use Prim.Native.Nat.{ℕ, zero, suc, ◌+◌, ◌-◌, ◌*◌, ◌≤◌, ◌<◌}
use Rattle.std.proofs.Math.Dec.{T, leb→le, eqb→eq}
use Rattle.std.proofs.Math.ListN.{length}
use Rattle.std.proofs.Math.IntN.{pos}
use Rattle.numbers.specs.Laws as L
use Rattle.numbers.specs.Z.{whole as whole_numbers, n+, n-, n~}
use Rattle.numbers.specs.Sum.{sumℤ, All, all, sum_mono, sum-add, sum-sub, sum-cong, sumℕ, sumℕ-add, sumℕ-pos}
use Rattle.numbers.specs.Threshold.{Within}
use Rattle.numbers.specs.Blocks.{Asc}
use Rattle.numbers.proofs.Blocks.{asc-range, cheapest-least, dearest-most, cheapest-total, dearest-total, cheapest-cap, dearest-cap}
use Rattle.numbers.specs.State.{best, Beats, best-beats, best-is}
use Rattle.bits.specs.Pick.{pick}
use Rattle.numbers.specs.Base.{range, up_to}
use Rattle.model.specs.Case.{System, Plan, Case, no_kinds}
use Rattle.model.specs.Forced.{intervals, devices, zones, device, cap, least, consuming, duration, su, sd, power}
use Rattle.model.specs.Rules.{blocks}
use Rattle.model.specs.Completion as C
use Rattle.model.specs.Completion.{Completion, Between, Shortfall, shortfalls, Meets, StateAllowed, MayUse, by_side, state_cost, shortfall_price, block_price}
use Rattle.model.specs.Completion.{bars, real_surplus, surplus_of, shortfall_need, mismatch_need, overrun_need}
use Rattle.model.specs.Completion.{ReactiveShortfall, reactive_shortfalls, reactive_need, reactive_mismatch_need, reactive_price, reactive_costs}
use Rattle.model.specs.Breaches.{breaches}
use Rattle.model.specs.Ours.{filling, filling_above, lasts, best_state, ours, whole}
use Rattle.model.proofs.Tests.{same}
use Rattle.model.proofs.Named.{none-every, rule19-holds}
use Rattle.numbers.specs.Every.{all-range, range_all, all-up_to}
use Rattle.numbers.specs.Ranges.{grid_mono}

-- ---- block powers

pub filling-total : (b : Bool) (price : ℕ → ℤ) (cap : ℕ → ℕ) (p : ℕ) → p ≤ sumℕ cap blocks → sumℕ (filling b price cap p) blocks ≡ p
unfolding filling
filling-total false price cap p h = cheapest-total price cap p blocks (asc-range 0 4) h
filling-total true price cap p h = dearest-total price cap p blocks (asc-range 0 4) h

pub above_floor : (b : Bool) (price : ℕ → ℤ) (low most : ℕ → ℕ) (p k : ℕ) → low k ≤ filling_above b price low most p k
unfolding filling_above
above_floor b price low most p k = omega arith

-- a difference of naturals
pos-less : (a b : ℕ) → b ≤ a → pos a -ℤ pos b ≡ pos (a - b)
pos-less a b h = omega (whole_numbers, n- (pos a) (pos b))

module _ (price : ℕ → ℤ) (most : ℕ → ℕ) (p : ℕ) where
  pub filling-cap : (b : Bool) (k : ℕ) → filling b price most p k ≤ most k
  unfolding filling
  filling-cap false k = cheapest-cap price most p blocks k
  filling-cap true k = dearest-cap price most p blocks k

  filling-best : (b : Bool) → p ≤ sumℕ most blocks → (x : ℕ → ℤ) → All (λ k. Within (most k) (x k)) blocks → sumℤ x blocks ≡ pos p
      → by_side b (sumℤ (λ k. price k *ℤ x k) blocks) ≤ℤ by_side b (sumℤ (λ k. price k *ℤ pos (filling b price most p k)) blocks)
  unfolding filling
  filling-best false h x w e = L.neg-mono (cheapest-least price most p blocks (asc-range 0 4) h x w e)
  filling-best true h x w e = dearest-most price most p blocks (asc-range 0 4) h x w e

-- ---- above the floors

-- from `low`, which is not above `most`, with a power between their sums
module _ (price : ℕ → ℤ) (low most : ℕ → ℕ) (p : ℕ) (below : (k : ℕ) → k < 4 → low k ≤ most k) where
  abbrev room : ℕ → ℕ
  room k = most k - low k

  abbrev left : ℕ
  left = p - sumℕ low blocks

  pub above-cap : (b : Bool) (k : ℕ) → k < 4 → filling_above b price low most p k ≤ most k
  unfolding filling_above
  above-cap b k h = omega (arith, below k h, filling-cap price room left b k)

  module _ (least : sumℕ low blocks ≤ p) (fits : p ≤ sumℕ most blocks) where
    left-fits : left ≤ sumℕ room blocks
    unfolding range
    left-fits = omega (arith, below 0 (omega arith), below 1 (omega arith), below 2 (omega arith), below 3 (omega arith))

    pub above-total : (b : Bool) → sumℕ (filling_above b price low most p) blocks ≡ p
    unfolding filling_above
    above-total b = sumℕ-add low (filling b price room left) blocks ∙ omega (arith, filling-total b price room left left-fits)

    -- a rival, less the floors
    module _ (x : ℕ → ℤ) (w : (k : ℕ) → k < 4 → Between (low k) (most k) (x k)) (e : sumℤ x blocks ≡ pos p) where
      abbrev y : ℕ → ℤ
      y k = x k -ℤ pos (low k)

      within : (k : ℕ) → k < 4 → Within (room k) (y k)
      within k h = record {
        low = L.sub-nonneg (w k h).low;
        high = L.≤_trans (L.sub-mono (w k h).high (L.≤-refl (pos (low k)))) (L.≤-of-≡ (pos-less (most k) (low k) (below k h)));
      }

      left_is : sumℤ y blocks ≡ pos left
      left_is = sum-sub x (λ k. pos (low k)) blocks ∙ ap₂ (λ (a b : ℤ). a -ℤ b) e (sumℕ-pos low blocks) ∙ pos-less p (sumℕ low blocks) least

      -- what the floors are worth
      abbrev floors : ℤ
      floors = sumℤ (λ k. price k *ℤ pos (low k)) blocks

      rival-is : sumℤ (λ k. price k *ℤ y k) blocks ≡ sumℤ (λ k. price k *ℤ x k) blocks -ℤ floors
      rival-is = sum-cong _ (λ k. price k *ℤ x k -ℤ price k *ℤ pos (low k)) blocks (all (λ k. L.mul-sub (price k) (x k) (pos (low k))) blocks)
          ∙ sum-sub (λ k. price k *ℤ x k) (λ k. price k *ℤ pos (low k)) blocks

      ours-is : (b : Bool) → sumℤ (λ k. price k *ℤ pos (filling_above b price low most p k)) blocks ≡ floors +ℤ sumℤ (λ k. price k *ℤ pos (filling b price room left k)) blocks
      unfolding filling_above
      ours-is b = sum-cong _ (λ k. price k *ℤ pos (low k) +ℤ price k *ℤ pos (filling b price room left k)) blocks
          (all (λ k. L.mul-add (price k) (pos (low k)) (pos (filling b price room left k))) blocks)
          ∙ sum-add (λ k. price k *ℤ pos (low k)) (λ k. price k *ℤ pos (filling b price room left k)) blocks

      pub above-best : (b : Bool) → by_side b (sumℤ (λ k. price k *ℤ x k) blocks) ≤ℤ by_side b (sumℤ (λ k. price k *ℤ pos (filling_above b price low most p k)) blocks)
      above-best b = rw (ours-is b) (go b floors _ _ (rw rival-is at (filling-best price room left b left-fits y (all-up_to (λ k. Within (room k) (y k)) 4 within) left_is)))
        where
          go : (b : Bool) (v r o : ℤ) → by_side b (r -ℤ v) ≤ℤ by_side b o → by_side b r ≤ℤ by_side b (v +ℤ o)
          go true v r o h = omega (whole_numbers, n- r v, n+ v o)
          go false v r o h = omega (whole_numbers, n- r v, n+ v o, n~ (r -ℤ v), n~ o, n~ r, n~ (v +ℤ o))

-- ---- startup states

asc-from-0 : (n : ℕ) → Asc (0 ∷ range 1 n)
unfolding range
asc-from-0 n = asc-range 0 (suc n)

module _ (c : Case) (p : Plan) (t i : ℕ) where
  abbrev cost : ℕ → ℤ
  cost n = state_cost c i (pos n)

  abbrev states : List ℕ
  states = range 1 (length (device c.system i).longest)

  our-state-allowed : StateAllowed c.system p t i (pos (best_state c p t i))
  unfolding best_state lasts
  our-state-allowed = go (eqb (su c.system p t i) 1) (λ h. eqb→eq _ _ h)
    where
      each : su c.system p t i ≡ 1 → (k : ℕ) → 1 ≤ k → k < 1 + length (device c.system i).longest → T (lasts c.system p t i k) → StateAllowed c.system p t i (pos k)
      each s zero a b h = inl refl
      each s (suc k) a b h = inr (k, refl, record { starts = s; known = omega arith; long_enough = leb→le _ _ h })

      go : (b : Bool) → (T b → su c.system p t i ≡ 1) → StateAllowed c.system p t i (pos (pick b (best cost (lasts c.system p t i) 0 states) 0))
      go true s = best-is cost (lasts c.system p t i) (λ n. StateAllowed c.system p t i (pos n)) 0 states
          (inl refl) (all-range (λ k. T (lasts c.system p t i k) → StateAllowed c.system p t i (pos k)) 1 _ (each (s tt)))
      go false s = inl refl

  state-least : (z : ℤ) → StateAllowed c.system p t i z → state_cost c i (pos (best_state c p t i)) ≤ℤ state_cost c i z
  unfolding best_state lasts
  state-least z a = go (eqb (su c.system p t i) 1) (λ s. same s) a
    where
      beats : Beats cost (best cost (lasts c.system p t i) 0 states) 0 × All (λ j. T (lasts c.system p t i j) → Beats cost (best cost (lasts c.system p t i) 0 states) j) states
      beats = best-beats cost (lasts c.system p t i) 0 states (asc-from-0 _)

      each : (k : ℕ) → MayUse c.system p t i k → cost (best cost (lasts c.system p t i) 0 states) ≤ℤ cost (suc k)
      each k m = (range_all (λ j. T (lasts c.system p t i j) → Beats cost (best cost (lasts c.system p t i) 0 states) j) 1 _ beats.1 (suc k)
          (omega arith) (omega (arith, m.known)) (le→leb _ _ m.long_enough)).less

      go : (b : Bool) → (su c.system p t i ≡ 1 → T b) → StateAllowed c.system p t i z → state_cost c i (pos (pick b (best cost (lasts c.system p t i) 0 states) 0)) ≤ℤ state_cost c i z
      go true s (inl e) = rw e beats.0.less
      go true s (inr k) = rw k.1 (each k.0 k.2)
      go false s (inl e) = rw e (L.≤-refl (cost 0))
      go false s (inr k) = absurd (s k.2.starts)

-- ---- the theorem

module _ (c : Case) (p : Plan) where
  abbrev q : System
  q = c.system

  abbrev our : Completion ℤ
  our = whole (ours c p)

  -- no floor that binds is above its cap
  abbrev pub Floored : Type 0
  Floored = (t i : ℕ) → t < intervals q → i < devices q → (k : ℕ) → k < 4 → least q p t i k ≤ cap q t i k

  -- where no rule is broken, ours meets every rule
  pub ours-meets : Floored → breaches q p ≡ [] → Meets q p our
  unfolding whole ours
  ours-meets floored e = let r = none-every q p e in record {
    rules = r;
    started = λ t i l m. refl;
    stopped = λ t i l m. refl;
    within = λ t i k l m n. record {
      low = L.pos-mono (above_floor (consuming q i) (block_price c t i) (least q p t i) (cap q t i) (power q p t i) k);
      high = L.pos-mono (above-cap (block_price c t i) (least q p t i) (cap q t i) (power q p t i) (floored t i l m) (consuming q i) k n);
    };
    filled = λ t i l m. sumℕ-pos _ blocks
        ∙ ap pos (above-total (block_price c t i) (least q p t i) (cap q t i) (power q p t i) (floored t i l m) (rule19-holds q p r t i l m).floors (rule19-holds q p r t i l m).caps (consuming q i));
    state = λ t i l m. our-state-allowed c p t i;
    shortfall = λ t z k l m. record { enough = L.short-meets (shortfall_need q p t z k); not_negative = L.pos-nonneg (L.max_zero (shortfall_need q p t z k)) };
    reactive_shortfall = λ t z k l m. record { enough = L.short-meets (reactive_need q p t z k); not_negative = L.pos-nonneg (L.max_zero (reactive_need q p t z k)) };
    mismatch = λ t b l k. record { enough = L.≤-refl (pos (mismatch_need q p t b)); not_negative = L.pos-nonneg (mismatch_need q p t b) };
    reactive_mismatch = λ t b l k. record { enough = L.≤-refl (pos (reactive_mismatch_need q p t b)); not_negative = L.pos-nonneg (reactive_mismatch_need q p t b) };
    overrun = λ i w l m. record { enough = L.short-meets (overrun_need q p i w); not_negative = L.pos-nonneg (L.max_zero (overrun_need q p i w)) };
  }

  module _ (x : Completion ℤ) (m : Meets q p x) where
    blocks-best : (t i : ℕ) → t < intervals q → i < devices q → C.block_worth c p x t i ≤ℤ C.block_worth c p our t i
    unfolding C.block_worth whole ours
    blocks-best t i l k =
        let w : (n : ℕ) → n < 4 → Between (least q p t i n) (cap q t i n) (x.block t i n) = λ n j. m.within t i n l k j in
        let r = rule19-holds q p m.rules t i l k in
        L.mul_mono (pos (duration q t)) _ _ (L.pos-nonneg (duration q t))
        (above-best (block_price c t i) (least q p t i) (cap q t i) (power q p t i) (λ n j. L.pos-mono⁻ (L.≤_trans (w n j).low (w n j).high)) r.floors r.caps
        (x.block t i) w (m.filled t i l k) (consuming q i))

    changes-least : (t i : ℕ) → t < intervals q → i < devices q → C.change_cost c p our t i ≤ℤ C.change_cost c p x t i
    unfolding C.change_cost whole ours
    changes-least t i l k = rw (m.started t i l k, m.stopped t i l k)
        (L.add-mono-l (pos (C.device_prices c i).start_cost *ℤ pos (su q p t i) +ℤ pos (C.device_prices c i).stop_cost *ℤ pos (sd q p t i)) (state-least c p t i (x.state t i) (m.state t i l k)))

    on_same : (t i : ℕ) → t < intervals q → i < devices q → C.on_cost c p our t i ≤ℤ C.on_cost c p x t i
    unfolding C.on_cost
    on_same t i l k = L.≤-refl _

    reserves-same : (t i : ℕ) → t < intervals q → i < devices q → C.reserves_cost c p our t i ≤ℤ C.reserves_cost c p x t i
    unfolding C.reserves_cost
    reserves-same t i l k = L.≤-refl _

    shortfalls-least : (t z : ℕ) → t < intervals q → z < zones q → C.shortfall_cost c p our t z ≤ℤ C.shortfall_cost c p x t z
    unfolding C.shortfall_cost whole ours
    shortfalls-least t z l k = L.mul_mono (pos (duration q t)) _ _ (L.pos-nonneg (duration q t))
        (sum_mono (λ s. pos (price s) *ℤ our.shortfall t z s) (λ s. pos (price s) *ℤ x.shortfall t z s) shortfalls (all (λ s. L.mul_mono (pos (price s)) _ _ (L.pos-nonneg (price s))
        (L.short-least (shortfall_need q p t z s) (x.shortfall t z s) (m.shortfall t z s l k).enough (m.shortfall t z s l k).not_negative)) shortfalls))
      where
        price : Shortfall → ℕ
        price s = shortfall_price (get_or c.prices.zones z no_kinds).six s

    mismatch-least : (t b : ℕ) → t < intervals q → b < 2 → C.mismatch_cost c p our t b ≤ℤ C.mismatch_cost c p x t b
    unfolding C.mismatch_cost whole ours
    mismatch-least t b l k = L.mul_mono (pos (duration q t)) _ _ (L.pos-nonneg (duration q t))
        (L.mul_mono (pos c.prices.mismatch) _ _ (L.pos-nonneg c.prices.mismatch) (m.mismatch t b l k).enough)

    -- on both bars
    mismatches-least : (t : ℕ) → t < intervals q → sumℤ (C.mismatch_cost c p our t) bars ≤ℤ sumℤ (C.mismatch_cost c p x t) bars
    mismatches-least t l = sum_mono (C.mismatch_cost c p our t) (C.mismatch_cost c p x t) bars (mismatch-least t 0 l (omega arith), (mismatch-least t 1 l (omega arith), tt))

    overruns-least : (i : ℕ) → i < devices q → C.overruns c p our i ≤ℤ C.overruns c p x i
    unfolding C.overruns whole ours
    overruns-least i l = sum_mono _ _ (up_to (length (device q i).energy_windows))
        (all-up_to _ _ (λ w k. L.short-least (overrun_need q p i w) (x.overrun i w) (m.overrun i w l k).enough (m.overrun i w l k).not_negative))

    reactive-reserves-same : (t i : ℕ) → t < intervals q → i < devices q → C.reactive_reserves_cost c p our t i ≤ℤ C.reactive_reserves_cost c p x t i
    unfolding C.reactive_reserves_cost
    reactive-reserves-same t i l k = L.≤-refl _

    reactive-shortfalls-least : (t z : ℕ) → t < intervals q → z < zones q → C.reactive_shortfall_cost c p our t z ≤ℤ C.reactive_shortfall_cost c p x t z
    unfolding C.reactive_shortfall_cost whole ours
    reactive-shortfalls-least t z l k = L.mul_mono (pos (duration q t)) _ _ (L.pos-nonneg (duration q t))
        (sum_mono (λ s. pos (price s) *ℤ our.reactive_shortfall t z s) (λ s. pos (price s) *ℤ x.reactive_shortfall t z s) reactive_shortfalls
        (all (λ s. L.mul_mono (pos (price s)) _ _ (L.pos-nonneg (price s))
        (L.short-least (reactive_need q p t z s) (x.reactive_shortfall t z s) (m.reactive_shortfall t z s l k).enough (m.reactive_shortfall t z s l k).not_negative)) reactive_shortfalls))
      where
        price : ReactiveShortfall → ℕ
        price s = reactive_price (get_or c.prices.zones z no_kinds).reactive s

    reactive-mismatch-least : (t b : ℕ) → t < intervals q → b < 2 → C.reactive_mismatch_cost c p our t b ≤ℤ C.reactive_mismatch_cost c p x t b
    unfolding C.reactive_mismatch_cost whole ours
    reactive-mismatch-least t b l k =
        L.mul_mono (pos (duration q t)) _ _ (L.pos-nonneg (duration q t)) (L.mul_mono (pos c.prices.mismatch) _ _ (L.pos-nonneg c.prices.mismatch) (m.reactive_mismatch t b l k).enough)

    reactive-mismatches-least : (t : ℕ) → t < intervals q → sumℤ (C.reactive_mismatch_cost c p our t) bars ≤ℤ sumℤ (C.reactive_mismatch_cost c p x t) bars
    reactive-mismatches-least t l = sum_mono (C.reactive_mismatch_cost c p our t) (C.reactive_mismatch_cost c p x t) bars
        (reactive-mismatch-least t 0 l (omega arith), (reactive-mismatch-least t 1 l (omega arith), tt))

    reactive-least : reactive_costs c p our ≤ℤ reactive_costs c p x
    unfolding reactive_costs
    reactive-least =
        L.add-mono (L.add-mono
        (grid_mono (intervals q) (devices q) _ _ reactive-reserves-same)
        (grid_mono (intervals q) (zones q) _ _ reactive-shortfalls-least))
        (sum_mono _ _ (up_to (intervals q)) (all-up_to _ _ reactive-mismatches-least))

    real-best : real_surplus c p x ≤ℤ real_surplus c p our
    unfolding real_surplus
    real-best =
        L.sub-mono (L.sub-mono (L.sub-mono (L.sub-mono (L.sub-mono (L.sub-mono
        (grid_mono (intervals q) (devices q) _ _ blocks-best)
        (grid_mono (intervals q) (devices q) _ _ on_same))
        (grid_mono (intervals q) (devices q) _ _ changes-least))
        (grid_mono (intervals q) (devices q) _ _ reserves-same))
        (grid_mono (intervals q) (zones q) _ _ shortfalls-least))
        (sum_mono _ _ (up_to (intervals q)) (all-up_to _ _ mismatches-least)))
        (L.mul_mono (pos c.prices.overrun) _ _ (L.pos-nonneg c.prices.overrun) (sum_mono _ _ (up_to (devices q)) (all-up_to _ _ overruns-least)))

    -- no completion that meets every rule has a greater surplus
    pub ours-best : surplus_of c p x ≤ℤ surplus_of c p our
    unfolding surplus_of
    ours-best = L.sub-mono real-best reactive-least
