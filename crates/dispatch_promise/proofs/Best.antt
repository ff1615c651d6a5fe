-- The dispatch of `Dispatch` is the optimum of `optimum` over the case's own offers: such powers exist exactly where the test says so, and then ours are such, cost
-- least, and have the most in the first offers.
use Rattle.std.specs.Prelude.{◌≡◌, refl, Bool, true, false, ◌&&◌, T, eqb, length, get_or, ℤ, ◌-ℤ◌, ◌*ℤ◌, ◌≤ℤ◌}
use Rattle.std.proofs.Common.{sym, ◌∙◌, ap}
use Rattle.std.proofs.Math.Path.{subst}
use mathlib.Core.List.Permᴰ
use mathlib.Core.List.{List, [], ◌∷◌, ◌++◌, append-nil}
use Prim.Native.Nat.{ℕ, suc, ◌+◌, ◌-◌, ◌*◌, ◌≤◌, ◌<◌}
use native.Mathlib.Omega.{arith}
use Rattle.std.proofs.Math.Decide.{dec_lt}
use Rattle.std.proofs.Math.Dec.{leb, le→leb, leb→le}
use Rattle.std.proofs.Math.ListN.{get_or-eq_default}
use Rattle.std.proofs.Math.IntN.{pos}
use Rattle.numbers.specs.Z.{whole, n-}
use Rattle.numbers.specs.Laws as L
use Rattle.numbers.specs.Laws.{max_zero}
use Rattle.numbers.specs.Base.{up_to, every}
use Rattle.numbers.specs.Sum.{sumℕ, sumℕ-cong, sumℕ-mono, sum-cong, sumℕ-pos, gate, All, all, all_map, all-zip}
use Rattle.numbers.specs.Every.{all-at, all-each, all-or, all-up_to, up_to-all, every_in, every-out}
use Rattle.numbers.specs.Tests.{and_in, and_l, and_r}
use Rattle.model.specs.Case.{System, Case, no_block, no_cell, no_device}
use Rattle.model.specs.Forced.{intervals, devices, device, cell, cap, floor}
use Rattle.model.specs.Rules.{blocks}
use Rattle.model.specs.Editions.{most_devices}
use Rattle.ranges.specs.Ranges.{DeviceRange, CellRange, BlockRange}
use Rattle.offers.specs.declared.Offer.{Offer}
use Rattle.offers.specs.Order.{merit-order, merit-perm, offer-order}
use Rattle.optimum.specs.Levels.{of, Named}
use Rattle.optimum.specs.Dominates.{Feasible}
use Rattle.optimum.proofs.Dominates.{all_split}
use Rattle.optimum.specs.Blocks.{Formula}
use Rattle.optimum.proofs.Blocks.{filled}
use Rattle.optimum.proofs.Order.{sum-perm, formula}
use Rattle.optimum.specs.Cheapest.{cost}
use Rattle.optimum.proofs.Theorem as T
use Rattle.optimum.specs.Theorem.{Bounded}
use Rattle.raising.specs.Raising.{place, Sane}
use Rattle.raising.proofs.Link.{named, rising, ascending}
use Rattle.dispatching.specs.Dispatch.{rise, fall, lowest, highest, offer_of, among, places, lowest_of, highest_of, can_meet, power_of}
use Rattle.dispatch_promise.specs.Named.{Counted, Found, absent, present}
use Rattle.dispatch_promise.proofs.Named.{sum-named, found, not-later, of-absent, of-present}
use Rattle.dispatch_promise.proofs.Rearranged.{perm-all, perm-apart}
use Rattle.dispatch_promise.specs.Own.{count}
use Rattle.dispatch_promise.proofs.Own.{sum-wide, own-all, of-own, sum-own, caps-wide, floors-wide, apart-own}
use Rattle.dispatch_promise.specs.Such.{Allowed, Such, carries, cost_of}
use Rattle.dispatch_promise.specs.Best.{Asked, filling, floor_of, js, ours, own, power, rival}

abbrev cap_of : Offer → ℕ
cap_of o = o.cap

abbrev price_of : Offer → ℤ
price_of o = o.price

module _ (c : Case) (t : ℕ) (sets earlier : List ℕ) (h : Asked c t sets earlier) where
  abbrev q : System
  q = c.system

  abbrev lo : ℕ → ℕ
  lo = lowest_of c t sets earlier

  abbrev hi : ℕ → ℕ
  hi = highest_of c t sets earlier

  abbrev at : ℕ → ℕ
  at j = get_or sets j 0 - 1

  pub counted : Counted sets
  counted = all_map (λ s k. (k.0, omega (arith, k.1, h.range.devices))) sets h.known

  known_at : (j : ℕ) → j < length sets → (1 ≤ get_or sets j 0) × (get_or sets j 0 ≤ devices q)
  known_at j l = all-at (λ s. (1 ≤ s) × (s ≤ devices q)) 0 sets h.known j l

  at_in : (j : ℕ) → j < length sets → at j < devices q
  at_in j l = let k = known_at j l in omega (arith, k.0, k.1)

  -- ---- ranges
  device-in : (i : ℕ) → i < devices q → DeviceRange (intervals q) (device q i)
  device-in i l = all-at (DeviceRange (intervals q)) no_device q.devices h.range.each_device i l

  pub cell-in : (i : ℕ) → i < devices q → CellRange (cell q t i)
  cell-in i l = all-at CellRange no_cell (device q i).cells (device-in i l).cells t (omega (arith, (device-in i l).each, h.there))

  block-in : (i k : ℕ) → i < devices q → BlockRange (get_or (cell q t i).blocks k no_block)
  block-in i k l = all-or BlockRange no_block (record { cap = omega arith; floor = omega arith }) (cell q t i).blocks (cell-in i l).each k

  floor-below : (i k : ℕ) → i < devices q → floor q t i k ≤ cap q t i k
  floor-below i k l = (block-in i k l).floor

  -- what holds of every block of the case's devices holds of the offers in merit order
  each : (P : Offer → Type 0) → ((i : ℕ) → i < devices q → (k : ℕ) → k < count c t i → P (offer_of c t i k)) → All P (js c t sets earlier h)
  each P g = perm-all P (Permᴰ.symm (merit-perm (own c t sets earlier h))) (own-all c t P sets (all_map (λ s k. g (s - 1) (omega (arith, k.0, k.1))) sets h.known))

  -- and of every block of the named ones
  each-named : (P : Offer → Type 0) → ((j : ℕ) → j < length sets → (k : ℕ) → k < count c t (at j) → P (offer_of c t (at j) k)) → All P (js c t sets earlier h)
  each-named P g = perm-all P (Permᴰ.symm (merit-perm (own c t sets earlier h))) (own-all c t P sets (all-each (λ s. (k : ℕ) → k < count c t (s - 1) → P (offer_of c t (s - 1) k)) 0 sets g))

  -- ---- the optimum's terms
  fits : All (λ o. o.floor ≤ o.cap) (js c t sets earlier h)
  fits = each (λ o. o.floor ≤ o.cap) (λ i l k m. floor-below i k l)

  in-places : All (λ o. Named places (place o)) (js c t sets earlier h)
  in-places = each (λ o. Named places (place o)) (λ i l k m. named (suc i - 1) (omega (arith, h.range.devices)))

  of-js : (f : Offer → ℕ) (i : ℕ) → of place f i (js c t sets earlier h) ≡ gate (among (suc i) sets) (sumℕ (λ k. f (offer_of c t i k)) (up_to (count c t i)))
  unfolding of
  of-js f i = sum-perm (λ o. gate (eqb (place o) i) (f o)) (merit-perm (own c t sets earlier h)) ∙ of-own c t f sets h.single counted i

  -- of a set that is named, and of one that is not
  of-here : (f : Offer → ℕ) (i : ℕ) → among (suc i) sets ≡ true → of place f i (js c t sets earlier h) ≡ sumℕ (λ k. f (offer_of c t i k)) (up_to (count c t i))
  of-here f i e = of-js f i ∙ ap (λ (b : Bool). gate b (sumℕ (λ k. f (offer_of c t i k)) (up_to (count c t i)))) e

  of_none : (f : Offer → ℕ) (i : ℕ) → among (suc i) sets ≡ false → of place f i (js c t sets earlier h) ≡ 0
  of_none f i e = of-js f i ∙ ap (λ (b : Bool). gate b (sumℕ (λ k. f (offer_of c t i k)) (up_to (count c t i)))) e

  floors-here : (i : ℕ) → i < devices q → among (suc i) sets ≡ true → of place floor_of i (js c t sets earlier h) ≡ sumℕ (floor q t i) blocks
  floors-here i l e = of-here floor_of i e ∙ floors-wide c t i (cell-in i l).blocks

  caps-here : (i : ℕ) → i < devices q → among (suc i) sets ≡ true → of place cap_of i (js c t sets earlier h) ≡ sumℕ (cap q t i) blocks
  caps-here i l e = of-here cap_of i e ∙ caps-wide c t i (cell-in i l).blocks

  lo_at : (i j : ℕ) → j < length sets → get_or sets j 0 ≡ suc i → lo i ≡ lowest q t i (get_or earlier j 0)
  lo_at i j l e = of-present (lowest q t) sets earlier i j h.single counted h.many l e

  hi_at : (i j : ℕ) → j < length sets → get_or sets j 0 ≡ suc i → hi i ≡ highest q t i (get_or earlier j 0)
  hi_at i j l e = of-present (highest q t) sets earlier i j h.single counted h.many l e

  lo-none : (i : ℕ) → among (suc i) sets ≡ false → lo i ≡ 0
  lo-none i e = of-absent (lowest q t) sets earlier i counted e

  hi-none : (i : ℕ) → among (suc i) sets ≡ false → hi i ≡ 0
  hi-none i e = of-absent (highest q t) sets earlier i counted e

  low-floors : (i e : ℕ) → sumℕ (floor q t i) blocks ≤ lowest q t i e
  unfolding lowest
  low-floors i e = omega arith

  high-caps : (i e : ℕ) → highest q t i e ≤ sumℕ (cap q t i) blocks
  unfolding highest
  high-caps i e = omega arith

  -- a power is allowed, and carried by blocks within floors and caps, exactly where it is within the bounds
  fall-by : (a b d : ℕ) → (pos a -ℤ pos b) ≤ℤ pos d → a ≤ b + d
  fall-by a b d g = omega (whole, n- (pos a) (pos b))

  pub low_of : (i e n : ℕ) → Allowed q t i e (pos n) → sumℕ (floor q t i) blocks ≤ n → lowest q t i e ≤ n
  unfolding lowest
  low_of i e n a f = omega (arith, L.pos-mono⁻ a.pmin, fall-by e n (fall q t i) a.falls)

  pub high-of : (i e n : ℕ) → Allowed q t i e (pos n) → n ≤ sumℕ (cap q t i) blocks → n ≤ highest q t i e
  unfolding highest
  high-of i e n a f = omega (arith, L.pos-mono⁻ a.pmax, fall-by n e (rise q t i) a.rises)

  by-fall : (a b d : ℕ) → a ≤ b + d → (pos a -ℤ pos b) ≤ℤ pos d
  by-fall a b d g = omega (whole, n- (pos a) (pos b))

  pub allowed_of : (i e n : ℕ) → lowest q t i e ≤ n → n ≤ highest q t i e → Allowed q t i e (pos n)
  unfolding lowest highest
  allowed_of i e n a b = record { pmin = L.pos-mono (omega arith); pmax = L.pos-mono (omega arith); rises = by-fall n e (rise q t i) (omega arith); falls = by-fall e n (fall q t i) (omega arith) }

  bounded_at : (i : ℕ) → lo i ≤ hi i → Bounded place cap_of floor_of lo hi (js c t sets earlier h) i
  bounded_at i o = go (found sets i)
    where
      go : Found sets i → Bounded place cap_of floor_of lo hi (js c t sets earlier h) i
      go (absent e) = record { floors = omega (arith, of_none floor_of i e); ordered = o; caps = omega (arith, hi-none i e) }
      go (present j l at here) = let i-in : i < devices q = omega (arith, (known_at j l).1) in record {
        floors = omega (arith, floors-here i i-in here, lo_at i j l at, low-floors i (get_or earlier j 0));
        ordered = o;
        caps = omega (arith, caps-here i i-in here, hi_at i j l at, high-caps i (get_or earlier j 0));
      }

  -- ---- for the code: the offers are sane, and the bounds small
  pub sane : All Sane (js c t sets earlier h)
  sane = each Sane (λ i l k m. record { from_one = omega arith; to_last = omega (arith, h.range.devices); floors = floor-below i k l; caps = (block-in i k l).cap })

  high-roof : (i e : ℕ) → highest q t i e ≤ (cell q t i).pmax
  unfolding highest
  high-roof i e = omega arith

  pub high_small : (i : ℕ) → hi i ≤ 100000
  high_small i = go (found sets i)
    where
      go : Found sets i → hi i ≤ 100000
      go (absent e) = omega (arith, hi-none i e)
      go (present j l e here) = omega (arith, hi_at i j l e, high-roof i (get_or earlier j 0), (cell-in i (omega (arith, (known_at j l).1))).pmax)

  -- no set has its least power above its most
  abbrev tested : Bool
  tested = every (λ i. leb (lo i) (hi i)) places

  module _ (target : ℕ) where
    -- ---- a rival is feasible
    module _ (p : ℕ → ℤ) (y : ℕ → ℕ → ℤ) (such : Such c t sets earlier target p y) where
      -- by device and block
      block : ℕ → ℕ → ℕ
      block i k = max_zero (y i k)

      rival-is : (i k : ℕ) → (rival c t sets earlier h target p y such) (offer_of c t i k) ≡ block i k
      unfolding rival block
      rival-is i k = let e : suc i - 1 ≡ i = omega arith in let f : suc k - 1 ≡ k = omega arith in λ x. max_zero (y (e x) (f x))

      whole-block : (j k : ℕ) → j < length sets → k < 4 → pos (block (at j) k) ≡ y (at j) k
      unfolding block
      whole-block j k l m = go (y (at j) k) (L.≤_trans (L.pos-nonneg (floor q t (at j) k)) (such.floors j l k m))
        where
          go : (z : ℤ) → pos 0 ≤ℤ z → pos (max_zero z) ≡ z
          go z g = L.≤-antisym (L.short-least z z (L.≤-refl z) g) (L.short-meets z)

      above_floor : (j k : ℕ) → j < length sets → k < 4 → floor q t (at j) k ≤ block (at j) k
      above_floor j k l m = L.pos-mono⁻ (subst (λ (z : ℤ). pos (floor q t (at j) k) ≤ℤ z) (sym (whole-block j k l m)) (such.floors j l k m))

      below-cap : (j k : ℕ) → j < length sets → k < 4 → block (at j) k ≤ cap q t (at j) k
      below-cap j k l m = L.pos-mono⁻ (subst (λ (z : ℤ). z ≤ℤ pos (cap q t (at j) k)) (sym (whole-block j k l m)) (such.caps j l k m))

      few-blocks : (j : ℕ) → j < length sets → count c t (at j) ≤ 4
      few-blocks j l = (cell-in (at j) (at_in j l)).blocks

      no-block : (j k : ℕ) → j < length sets → count c t (at j) ≤ k → k < 4 → block (at j) k ≡ 0
      no-block j k l g m = omega (arith, below-cap j k l m, ap (λ b. b.cap) (get_or-eq_default (cell q t (at j)).blocks no_block g))

      set_sum : (j : ℕ) → j < length sets → sumℕ (λ k. (rival c t sets earlier h target p y such) (offer_of c t (at j) k)) (up_to (count c t (at j))) ≡ sumℕ (block (at j)) blocks
      set_sum j l =
          let e : count c t (at j) + (4 - count c t (at j)) ≡ 4 = omega (arith, few-blocks j l) in
          sumℕ-cong (λ k. (rival c t sets earlier h target p y such) (offer_of c t (at j) k)) (block (at j)) (up_to (count c t (at j))) (all (rival-is (at j)) (up_to (count c t (at j))))
          ∙ sum-wide (block (at j)) (count c t (at j)) (4 - count c t (at j)) (λ k g m. no-block j k l g (omega (arith, e))) ∙ ap (λ (m : ℕ). sumℕ (block (at j)) (up_to m)) e

      set-power : (j : ℕ) → j < length sets → pos (sumℕ (block (at j)) blocks) ≡ p (at j)
      set-power j l =
          sym (sumℕ-pos (block (at j)) blocks) ∙ sum-cong (λ k. pos (block (at j) k)) (y (at j)) blocks (all-up_to (λ k. pos (block (at j) k) ≡ y (at j) k) 4 (λ k m. whole-block j k l m))
          ∙ such.carried j l

      allowed_at : (j : ℕ) → j < length sets → Allowed q t (at j) (get_or earlier j 0) (pos (sumℕ (block (at j)) blocks))
      allowed_at j l = subst (λ (z : ℤ). Allowed q t (at j) (get_or earlier j 0) z) (sym (set-power j l)) (such.allowed j l)

      least_at : (j : ℕ) → j < length sets → lowest q t (at j) (get_or earlier j 0) ≤ sumℕ (block (at j)) blocks
      least_at j l = low_of (at j) (get_or earlier j 0) (sumℕ (block (at j)) blocks) (allowed_at j l)
          (sumℕ-mono (floor q t (at j)) (block (at j)) blocks (all-up_to (λ k. floor q t (at j) k ≤ block (at j) k) 4 (λ k m. above_floor j k l m)))

      most-at : (j : ℕ) → j < length sets → sumℕ (block (at j)) blocks ≤ highest q t (at j) (get_or earlier j 0)
      most-at j l = high-of (at j) (get_or earlier j 0) (sumℕ (block (at j)) blocks) (allowed_at j l)
          (sumℕ-mono (block (at j)) (cap q t (at j)) blocks (all-up_to (λ k. block (at j) k ≤ cap q t (at j) k) 4 (λ k m. below-cap j k l m)))

      -- within the bounds of each place
      bounds : (i : ℕ) → (lo i ≤ of place (rival c t sets earlier h target p y such) i (js c t sets earlier h)) × (of place (rival c t sets earlier h target p y such) i (js c t sets earlier h) ≤ hi i)
      bounds i = go (found sets i)
        where
          here-is : (j : ℕ) → j < length sets → get_or sets j 0 ≡ suc i → among (suc i) sets ≡ true → of place (rival c t sets earlier h target p y such) i (js c t sets earlier h) ≡ sumℕ (block (at j)) blocks
          here-is j l e here =
              let same : i ≡ at j = omega arith in
              subst (λ (m : ℕ). among (suc m) sets ≡ true → of place (rival c t sets earlier h target p y such) m (js c t sets earlier h) ≡ sumℕ (block (at j)) blocks) (sym same) (λ g. of-here (rival c t sets earlier h target p y such) (at j) g ∙ set_sum j l) here

          go : Found sets i → (lo i ≤ of place (rival c t sets earlier h target p y such) i (js c t sets earlier h)) × (of place (rival c t sets earlier h target p y such) i (js c t sets earlier h) ≤ hi i)
          go (absent e) = (omega (arith, lo-none i e), omega (arith, of_none (rival c t sets earlier h target p y such) i e))
          go (present j l e here) =
              let same : i ≡ at j = omega arith in (
                omega (arith, here-is j l e here, lo_at i j l e, subst (λ (m : ℕ). lowest q t m (get_or earlier j 0) ≤ sumℕ (block (at j)) blocks) (sym same) (least_at j l)),
                omega (arith, here-is j l e here, hi_at i j l e, subst (λ (m : ℕ). sumℕ (block (at j)) blocks ≤ highest q t m (get_or earlier j 0)) (sym same) (most-at j l)),
              )

      -- and it meets the target
      total : sumℕ (rival c t sets earlier h target p y such) (js c t sets earlier h) ≡ target
      total = sum-perm (rival c t sets earlier h target p y such) (merit-perm (own c t sets earlier h)) ∙ sum-own c t (rival c t sets earlier h target p y such) sets ∙ L-pos (sym (sumℕ-pos (λ s. sumℕ (λ k. (rival c t sets earlier h target p y such) (offer_of c t (s - 1) k)) (up_to (count c t (s - 1)))) sets)
          ∙ sum-cong (λ s. pos (sumℕ (λ k. (rival c t sets earlier h target p y such) (offer_of c t (s - 1) k)) (up_to (count c t (s - 1))))) (λ s. p (s - 1)) sets
          (all-each (λ s. pos (sumℕ (λ k. (rival c t sets earlier h target p y such) (offer_of c t (s - 1) k)) (up_to (count c t (s - 1)))) ≡ p (s - 1)) 0 sets (λ j l. ap pos (set_sum j l) ∙ set-power j l)) ∙ such.meets)
        where
          L-pos : {m n : ℕ} → pos m ≡ pos n → m ≡ n
          L-pos e = omega (whole, e)

      pub feasible : Feasible place cap_of floor_of lo hi places (js c t sets earlier h) target (rival c t sets earlier h target p y such)
      feasible = record {
        above = each-named (λ o. o.floor ≤ (rival c t sets earlier h target p y such) o) (λ j l k m. omega (arith, rival-is (at j) k, above_floor j k l (omega (arith, few-blocks j l))));
        below = each-named (λ o. (rival c t sets earlier h target p y such) o ≤ o.cap) (λ j l k m. omega (arith, rival-is (at j) k, below-cap j k l (omega (arith, few-blocks j l))));
        least = all (λ i. (bounds i).0) places;
        most = all (λ i. (bounds i).1) places;
        total = total;
      }

      -- so the test holds
      pub can-meet : T (can_meet c t sets earlier target)
      unfolding can_meet
      can-meet =
          let n = T.needed place cap_of floor_of lo hi places (js c t sets earlier h) target (rival c t sets earlier h target p y such) in-places feasible in
          and_in (tested && leb (sumℕ lo places) target) (leb target (sumℕ hi places)) (and_in tested (leb (sumℕ lo places) target)
          (every_in (λ i. leb (lo i) (hi i)) places (all_map (λ i l. le→leb (lo i) (hi i) l) places n.2)) (le→leb (sumℕ lo places) target n.0)) (le→leb target (sumℕ hi places) n.1)

      -- the rival's block power of an offer of ours
      rival-whole : All (λ o. pos ((rival c t sets earlier h target p y such) o) ≡ carries y o) (js c t sets earlier h)
      unfolding rival block
      rival-whole = each-named (λ o. pos ((rival c t sets earlier h target p y such) o) ≡ carries y o) (λ j l k m. let e : suc (at j) - 1 ≡ at j = omega arith in let f : suc k - 1 ≡ k = omega arith in
          subst (λ (a : ℕ). pos (max_zero (y a (suc k - 1))) ≡ y a (suc k - 1)) (sym e) (subst (λ (b : ℕ). pos (max_zero (y (at j) b)) ≡ y (at j) b) (sym f)
          (whole-block j k l (omega (arith, few-blocks j l)))))

      pub rival-cost : cost price_of (rival c t sets earlier h target p y such) (js c t sets earlier h) ≡ cost_of y (js c t sets earlier h)
      rival-cost = sum-cong (λ o. price_of o *ℤ pos ((rival c t sets earlier h target p y such) o)) (λ o. o.price *ℤ carries y o) (js c t sets earlier h) (all_map (λ o e. ap (λ (z : ℤ). price_of o *ℤ z) e) (js c t sets earlier h) rival-whole)

    -- ---- ours
    module _ (meets : T (can_meet c t sets earlier target)) where
      ordered : All (λ i. lo i ≤ hi i) places
      unfolding can_meet
      ordered = all_map (λ i u. leb→le (lo i) (hi i) u) places
          (every-out (λ i. leb (lo i) (hi i)) places (and_l tested (leb (sumℕ lo places) target) (and_l (tested && leb (sumℕ lo places) target) (leb target (sumℕ hi places)) meets)))

      pub enough : (sumℕ lo places ≤ target) × (target ≤ sumℕ hi places)
      unfolding can_meet
      enough = (
        leb→le (sumℕ lo places) target (and_r tested (leb (sumℕ lo places) target) (and_l (tested && leb (sumℕ lo places) target) (leb target (sumℕ hi places)) meets)),
        leb→le target (sumℕ hi places) (and_r (tested && leb (sumℕ lo places) target) (leb target (sumℕ hi places)) meets),
      )

      -- at every place, of a set or not
      pub ordered-all : (i : ℕ) → lo i ≤ hi i
      ordered-all i = go (dec_lt i most_devices) (found sets i)
        where
          go : Dec (i < most_devices) → Found sets i → lo i ≤ hi i
          go (yes l) f = up_to-all (λ i. lo i ≤ hi i) most_devices ordered i l
          go (no l) (absent e) = omega (arith, lo-none i e)
          go (no l) (present j m e here) = absurd (omega (arith, (known_at j m).1, h.range.devices))

      pub floors-low : (i : ℕ) → of place floor_of i (js c t sets earlier h) ≤ lo i
      floors-low i = (bounded_at i (ordered-all i)).floors

      bounded : All (Bounded place cap_of floor_of lo hi (js c t sets earlier h)) places
      bounded = all_map bounded_at places ordered

      fill : Formula place cap_of floor_of (js c t sets earlier h) (power c t sets earlier h target meets) (filling c t sets earlier h target meets)
      unfolding filling
      fill = formula offer-order place cap_of floor_of (js c t sets earlier h) (power c t sets earlier h target meets) (filling c t sets earlier h target meets) (ascending (js c t sets earlier h) (merit-order (own c t sets earlier h)) (perm-apart (Permᴰ.symm (merit-perm (own c t sets earlier h))) (apart-own c t sets h.single counted))) (λ j. refl)

      within : All (λ i. (lo i ≤ (power c t sets earlier h target meets) i) × ((power c t sets earlier h target meets) i ≤ hi i)) places
      unfolding power_of
      within = T.within place cap_of floor_of lo hi places (js c t sets earlier h) target fits in-places bounded enough.0 enough.1

      adds-up : sumℕ (power c t sets earlier h target meets) places ≡ target
      unfolding power_of
      adds-up = T.adds-up place cap_of floor_of lo hi places (js c t sets earlier h) target fits in-places bounded enough.0 enough.1

      within-at : (i : ℕ) → i < most_devices → (lo i ≤ (power c t sets earlier h target meets) i) × ((power c t sets earlier h target meets) i ≤ hi i)
      within-at i l = up_to-all (λ i. (lo i ≤ (power c t sets earlier h target meets) i) × ((power c t sets earlier h target meets) i ≤ hi i)) most_devices within i l

      bounded-in : (i : ℕ) → i < most_devices → Bounded place cap_of floor_of lo hi (js c t sets earlier h) i
      bounded-in i l = up_to-all (Bounded place cap_of floor_of lo hi (js c t sets earlier h)) most_devices bounded i l

      set-total : (i : ℕ) → i < most_devices → of place (filling c t sets earlier h target meets) i (js c t sets earlier h) ≡ (power c t sets earlier h target meets) i
      unfolding of
      set-total i l =
          let low : All (λ i. of place floor_of i (js c t sets earlier h) ≤ (power c t sets earlier h target meets) i) places = all-zip (λ i b w. omega (arith, b.floors, w.0)) places bounded within in
          let f = up_to-all _ most_devices (filled place cap_of floor_of (js c t sets earlier h) (power c t sets earlier h target meets) (filling c t sets earlier h target meets) lo hi places target fill fits low (js c t sets earlier h) [] (append-nil (js c t sets earlier h))) i l in
          omega (arith, f, (bounded-in i l).caps, (within-at i l).1)

      filling-low : (o : Offer) → o.floor ≤ (filling c t sets earlier h target meets) o
      unfolding filling
      filling-low o = omega arith

      filling-high : (o : Offer) → o.floor ≤ o.cap → (filling c t sets earlier h target meets) o ≤ o.cap
      unfolding filling
      filling-high o l = omega arith

      place_at : (j : ℕ) → j < length sets → get_or sets j 0 ≡ suc (at j)
      place_at j l = omega (arith, (known_at j l).0)

      in-most : (j : ℕ) → j < length sets → at j < most_devices
      in-most j l = omega (arith, at_in j l, h.range.devices)

      among-at : (j : ℕ) → j < length sets → among (suc (at j)) sets ≡ true
      among-at j l = go (found sets (at j))
        where
          go : Found sets (at j) → among (suc (at j)) sets ≡ true
          go (absent e) = absurd (not-later sets j l (suc (at j)) e (place_at j l))
          go (present i m e here) = here

      our-blocks : (j : ℕ) → j < length sets → sumℕ (λ k. (filling c t sets earlier h target meets) (offer_of c t (at j) k)) blocks ≡ (power c t sets earlier h target meets) (at j)
      our-blocks j l =
          let n = count c t (at j) in
          let few : n ≤ 4 = (cell-in (at j) (at_in j l)).blocks in
          let e : n + (4 - n) ≡ 4 = omega arith in
          sym (sum-wide (λ k. (filling c t sets earlier h target meets) (offer_of c t (at j) k)) n (4 - n)
          (λ k g m. omega (arith, filling-high (offer_of c t (at j) k) (floor-below (at j) k (at_in j l)), ap (λ b. b.cap) (get_or-eq_default (cell q t (at j)).blocks no_block g)))
          ∙ ap (λ (m : ℕ). sumℕ (λ k. (filling c t sets earlier h target meets) (offer_of c t (at j) k)) (up_to m)) e) ∙ sym (of-here (filling c t sets earlier h target meets) (at j) (among-at j l)) ∙ set-total (at j) (in-most j l)

      unnamed : (i : ℕ) → i < most_devices → among (suc i) sets ≡ false → (power c t sets earlier h target meets) i ≡ 0
      unnamed i l e = omega (arith, (within-at i l).1, hi-none i e)

      -- ours are such powers
      pub ours-such : Such c t sets earlier target (λ i. pos ((power c t sets earlier h target meets) i)) (ours c t sets earlier h target meets)
      ours-such = record {
        allowed = λ j l. allowed_of (at j) (get_or earlier j 0) ((power c t sets earlier h target meets) (at j)) (omega (arith, (within-at (at j) (in-most j l)).0, lo_at (at j) j l (place_at j l)))
            (omega (arith, (within-at (at j) (in-most j l)).1, hi_at (at j) j l (place_at j l)));
        floors = λ j l k m. L.pos-mono (filling-low (offer_of c t (at j) k));
        caps = λ j l k m. L.pos-mono (filling-high (offer_of c t (at j) k) (floor-below (at j) k (at_in j l)));
        carried = λ j l. sumℕ-pos (λ k. (filling c t sets earlier h target meets) (offer_of c t (at j) k)) blocks ∙ ap pos (our-blocks j l);
        meets = sumℕ-pos (λ s. (power c t sets earlier h target meets) (s - 1)) sets ∙ ap pos (sym (sum-named (power c t sets earlier h target meets) sets h.single counted unnamed) ∙ adds-up);
      }

      -- the block of an offer of ours is that offer
      itself : All (λ o. offer_of c t (o.set - 1) (o.block - 1) ≡ o) (js c t sets earlier h)
      itself = each (λ o. offer_of c t (o.set - 1) (o.block - 1) ≡ o) (λ i l k m. let e : suc i - 1 ≡ i = omega arith in let f : suc k - 1 ≡ k = omega arith in λ x. offer_of c t (e x) (f x))

      our-whole : All (λ o. carries (ours c t sets earlier h target meets) o ≡ pos ((filling c t sets earlier h target meets) o)) (js c t sets earlier h)
      our-whole = all_map (λ o e. ap (λ (x : Offer). pos ((filling c t sets earlier h target meets) x)) e) (js c t sets earlier h) itself

      our-cost : cost price_of (filling c t sets earlier h target meets) (js c t sets earlier h) ≡ cost_of (ours c t sets earlier h target meets) (js c t sets earlier h)
      our-cost = sum-cong (λ o. price_of o *ℤ pos ((filling c t sets earlier h target meets) o)) (λ o. o.price *ℤ carries (ours c t sets earlier h target meets) o) (js c t sets earlier h) (all_map (λ o e. ap (λ (z : ℤ). price_of o *ℤ z) (sym e)) (js c t sets earlier h) our-whole)

      -- "no other such powers cost less in blocks"
      pub cheapest : (p : ℕ → ℤ) (y : ℕ → ℕ → ℤ) → Such c t sets earlier target p y → cost_of (ours c t sets earlier h target meets) (js c t sets earlier h) ≤ℤ cost_of y (js c t sets earlier h)
      unfolding power_of
      cheapest p y s =
          let r = rising (js c t sets earlier h) (merit-order (own c t sets earlier h)) in
          subst (λ (z : ℤ). z ≤ℤ cost_of y (js c t sets earlier h)) our-cost (subst (λ (z : ℤ). cost price_of (filling c t sets earlier h target meets) (js c t sets earlier h) ≤ℤ z) (rival-cost p y s)
          (T.cheapest place cap_of floor_of lo hi places (js c t sets earlier h) target fits in-places bounded enough.0 enough.1 (filling c t sets earlier h target meets) fill price_of r.0 r.1 (rival c t sets earlier h target p y s) (feasible p y s)))

      -- "the first offer in merit order gets the most, then the next": more than any other such powers give it that agree on the offers ahead of it, whatever they cost
      pub first-most : (p : ℕ → ℤ) (y : ℕ → ℕ → ℤ) → Such c t sets earlier target p y → (ks : List Offer) (o : Offer) (ls : List Offer) → ks ++ o ∷ ls ≡ (js c t sets earlier h)
          → All (λ k. carries y k ≡ carries (ours c t sets earlier h target meets) k) ks → carries y o ≤ℤ carries (ours c t sets earlier h target meets) o
      unfolding power_of
      first-most p y s ks o ls e same =
          let split = all_split (λ o. carries (ours c t sets earlier h target meets) o ≡ pos ((filling c t sets earlier h target meets) o)) ks (o ∷ ls) (subst (λ (l : List Offer). All (λ o. carries (ours c t sets earlier h target meets) o ≡ pos ((filling c t sets earlier h target meets) o)) l) (sym e) our-whole) in
          let other = all_split (λ o. pos (rival c t sets earlier h target p y s o) ≡ carries y o) ks (o ∷ ls) (subst (λ (l : List Offer). All (λ o. pos (rival c t sets earlier h target p y s o) ≡ carries y o) l) (sym e) (rival-whole p y s)) in
          let agree : All (λ k. rival c t sets earlier h target p y s k ≡ (filling c t sets earlier h target meets) k) ks = all-zip (λ k a b. let z : pos (rival c t sets earlier h target p y s k) ≡ pos ((filling c t sets earlier h target meets) k) = b ∙ a in omega (whole, z)) ks
          (all-zip (λ k a b. a ∙ b) ks same split.0) other.0 in
          let most = T.first-most place cap_of floor_of lo hi places (js c t sets earlier h) target fits in-places bounded enough.0 enough.1 (filling c t sets earlier h target meets) fill (rival c t sets earlier h target p y s) (feasible p y s) ks o ls e agree in
          subst (λ (z : ℤ). z ≤ℤ carries (ours c t sets earlier h target meets) o) other.1.0 (subst (λ (z : ℤ). pos (rival c t sets earlier h target p y s o) ≤ℤ z) (sym split.1.0) (L.pos-mono most))
