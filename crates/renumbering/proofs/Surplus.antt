-- The surplus of a completion whose choices went with their devices is the same, so ours is.
use Rattle.std.specs.Prelude.{◌≡◌, ℕ, ◌*◌, ◌<◌, eqb, ℤ, ◌+ℤ◌, ◌-ℤ◌, ◌*ℤ◌}
use Rattle.std.proofs.Common.{◌∙◌}
use Rattle.std.proofs.Math.Path.{ap}
use Rattle.std.proofs.Math.ListN.{length, get_or}
use Rattle.std.proofs.Math.IntN.{pos}
use Rattle.numbers.specs.Base.{up_to}
use Rattle.numbers.specs.Sum.{sumℤ}
use Rattle.model.specs.Case.{System, Plan, Case, no_kinds, no_cell_prices}
use Rattle.model.specs.Forced.{intervals, devices, zones, device, duration}
use Rattle.model.specs.Completion as C
use Rattle.model.specs.Completion.{Completion, bars, shortfalls, reactive_shortfalls, shortfall_price, reactive_price, reserve_cost, reactive_reserve_cost, by_side}
use Rattle.model.specs.Rules.{blocks}
use Rattle.model.specs.Ours.{ours, whole}
use Rattle.model.specs.Judgement.{our_surplus, energy_windows}
use Rattle.renumbering.specs.Permute.{Renumbering}
use Rattle.renumbering.specs.Renumbered.{Moved, CarriedChoices}
use Rattle.renumbering.specs.Alike.{u_same}
use Rattle.renumbering.proofs.Choices.{state-cost-same}
use Rattle.renumbering.proofs.Seen.{alike, over-devices, over-devicesℕ}
use Rattle.renumbering.proofs.Needs.{ours-carried}

module _ (c : Case) (p : Plan) (r : Renumbering (devices c.system)) (c' : Case) (p' : Plan) (m : Moved c p r c' p') where
  abbrev q : System
  q = c.system

  abbrev q' : System
  q' = c'.system

  duration-moved : (t : ℕ) → duration q' t ≡ duration q t
  unfolding duration
  duration-moved t = λ k. 2 * get_or (m.halves k) t 0

  -- a figure of every device summed over the day, and a figure of every interval
  over-day : (f g : ℕ → ℕ → ℤ) → ((t i : ℕ) → i < devices q → g t (r.to i) ≡ f t i)
      → sumℤ (λ t. sumℤ (g t) (up_to (devices q'))) (up_to (intervals q')) ≡ sumℤ (λ t. sumℤ (f t) (up_to (devices q))) (up_to (intervals q))
  over-day f g h = λ k. sumℤ (λ t. over-devices c p r c' p' m (f t) (g t) (h t) k) (up_to (length (m.halves k)))

  module _ (x x' : Completion ℤ) (a : CarriedChoices r x x') where
    worth-same : (t i : ℕ) → i < devices q → C.block_worth c' p' x' t (r.to i) ≡ C.block_worth c p x t i
    unfolding C.block_worth
    worth-same t i h = λ k. pos (duration-moved t k) *ℤ by_side (eqb (m.device i h k).side 1)
        (sumℤ (λ n. get_or (get_or (m.device_prices i h k).cells t no_cell_prices).blocks n (pos 0) *ℤ a.block t i n h k) blocks)

    on_same : (t i : ℕ) → i < devices q → C.on_cost c' p' x' t (r.to i) ≡ C.on_cost c p x t i
    unfolding C.on_cost
    on_same t i h = λ k. pos (duration-moved t k) *ℤ pos ((m.device_prices i h k).on_cost * u_same q p i q' p' (r.to i) (alike c p r c' p' m i h) t k)

    change-same : (t i : ℕ) → i < devices q → C.change_cost c' p' x' t (r.to i) ≡ C.change_cost c p x t i
    unfolding C.change_cost
    change-same t i h = λ k. pos (m.device_prices i h k).start_cost *ℤ a.started t i h k +ℤ pos (m.device_prices i h k).stop_cost *ℤ a.stopped t i h k +ℤ state k
      where
        state : C.state_cost c' (r.to i) (x'.state t (r.to i)) ≡ C.state_cost c i (x.state t i)
        state = state-cost-same c p i c' p' (r.to i) (alike c p r c' p' m i h) (m.device_prices i h) (x'.state t (r.to i)) ∙ ap (C.state_cost c i) (a.state t i h)

    reserves-same : (t i : ℕ) → i < devices q → C.reserves_cost c' p' x' t (r.to i) ≡ C.reserves_cost c p x t i
    unfolding C.reserves_cost
    reserves-same t i h = λ k. pos (duration-moved t k) *ℤ pos (reserve_cost (get_or (m.device_prices i h k).cells t no_cell_prices).reserves (m.setting t i h k).reserves)

    reactive-reserves-same : (t i : ℕ) → i < devices q → C.reactive_reserves_cost c' p' x' t (r.to i) ≡ C.reactive_reserves_cost c p x t i
    unfolding C.reactive_reserves_cost
    reactive-reserves-same t i h = λ k. pos (duration-moved t k) *ℤ pos (reactive_reserve_cost (get_or (m.device_prices i h k).cells t no_cell_prices).reactive (m.setting t i h k).reactive)

    shortfalls-same : (t z : ℕ) → C.shortfall_cost c' p' x' t z ≡ C.shortfall_cost c p x t z
    unfolding C.shortfall_cost
    shortfalls-same t z = λ k. pos (duration-moved t k) *ℤ sumℤ (λ s. pos (shortfall_price (get_or (m.zone_prices k) z no_kinds).six s) *ℤ a.shortfall t z s k) shortfalls

    reactive-shortfalls-same : (t z : ℕ) → C.reactive_shortfall_cost c' p' x' t z ≡ C.reactive_shortfall_cost c p x t z
    unfolding C.reactive_shortfall_cost
    reactive-shortfalls-same t z = λ k. pos (duration-moved t k) *ℤ sumℤ (λ s. pos (reactive_price (get_or (m.zone_prices k) z no_kinds).reactive s) *ℤ a.reactive_shortfall t z s k) reactive_shortfalls

    apart-same : (t b : ℕ) → C.mismatch_cost c' p' x' t b ≡ C.mismatch_cost c p x t b
    unfolding C.mismatch_cost
    apart-same t b = λ k. pos (duration-moved t k) *ℤ (pos (m.mismatch k) *ℤ a.mismatch t b k)

    reactive-apart-same : (t b : ℕ) → C.reactive_mismatch_cost c' p' x' t b ≡ C.reactive_mismatch_cost c p x t b
    unfolding C.reactive_mismatch_cost
    reactive-apart-same t b = λ k. pos (duration-moved t k) *ℤ (pos (m.mismatch k) *ℤ a.reactive_mismatch t b k)

    overruns-same : (i : ℕ) → i < devices q → C.overruns c' p' x' (r.to i) ≡ C.overruns c p x i
    unfolding C.overruns
    overruns-same i h = λ k. sumℤ (λ w. a.overrun i w h k) (up_to (length (m.device i h k).energy_windows))

    real_same : C.real_surplus c' p' x' ≡ C.real_surplus c p x
    unfolding C.real_surplus
    real_same = λ k.
        over-day (C.block_worth c p x) (C.block_worth c' p' x') worth-same k
        -ℤ over-day (C.on_cost c p x) (C.on_cost c' p' x') on_same k
        -ℤ over-day (C.change_cost c p x) (C.change_cost c' p' x') change-same k
        -ℤ over-day (C.reserves_cost c p x) (C.reserves_cost c' p' x') reserves-same k
        -ℤ sumℤ (λ t. sumℤ (λ z. shortfalls-same t z k) (up_to (length (m.zones k)))) (up_to (length (m.halves k)))
        -ℤ sumℤ (λ t. sumℤ (λ b. apart-same t b k) bars) (up_to (length (m.halves k)))
        -ℤ pos (m.overrun k) *ℤ over-devices c p r c' p' m (C.overruns c p x) (C.overruns c' p' x') overruns-same k

    reactive-same : C.reactive_costs c' p' x' ≡ C.reactive_costs c p x
    unfolding C.reactive_costs
    reactive-same = λ k.
        over-day (C.reactive_reserves_cost c p x) (C.reactive_reserves_cost c' p' x') reactive-reserves-same k
        +ℤ sumℤ (λ t. sumℤ (λ z. reactive-shortfalls-same t z k) (up_to (length (m.zones k)))) (up_to (length (m.halves k)))
        +ℤ sumℤ (λ t. sumℤ (λ b. reactive-apart-same t b k) bars) (up_to (length (m.halves k)))

    pub surplus-same : C.surplus_of c' p' x' ≡ C.surplus_of c p x
    unfolding C.surplus_of
    surplus-same = λ k. real_same k -ℤ reactive-same k

  -- as whole numbers
  whole-carried : (x x' : Completion ℕ) → CarriedChoices r x x' → CarriedChoices r (whole x) (whole x')
  unfolding whole
  whole-carried x x' a = record {
    started = λ t i h. ap pos (a.started t i h);
    stopped = λ t i h. ap pos (a.stopped t i h);
    state = λ t i h. ap pos (a.state t i h);
    block = λ t i b h. ap pos (a.block t i b h);
    overrun = λ i w h. ap pos (a.overrun i w h);
    shortfall = λ t z s. ap pos (a.shortfall t z s);
    reactive_shortfall = λ t z s. ap pos (a.reactive_shortfall t z s);
    mismatch = λ t b. ap pos (a.mismatch t b);
    reactive_mismatch = λ t b. ap pos (a.reactive_mismatch t b);
  }

  pub our-surplus-same : our_surplus c' p' ≡ our_surplus c p
  unfolding our_surplus
  our-surplus-same = surplus-same (whole (ours c p)) (whole (ours c' p')) (whole-carried (ours c p) (ours c' p') (ours-carried c p r c' p' m))

  -- as many energy windows, so a completion's message is as long
  pub windows-same : energy_windows q' ≡ energy_windows q
  unfolding energy_windows
  windows-same = over-devicesℕ c p r c' p' m (λ i. length (device q i).energy_windows) (λ i. length (device q' i).energy_windows) (λ i h k. length (m.device i h k).energy_windows)
