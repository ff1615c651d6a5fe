-- Our choices for a device, and its overruns, are those of a device that is alike and has the same prices.
use Rattle.std.specs.Prelude.{◌≡◌, eqb, length, ℤ, negsuc, ◌-ℤ◌}
use Rattle.std.proofs.Math.Path.{refl}
use Prim.Native.Nat.{ℕ, zero, suc, ◌-◌, ◌*◌, min, max}
use Rattle.std.proofs.Math.Dec.{leb}
use Rattle.std.proofs.Math.ListN.{get_or}
use Rattle.std.proofs.Math.IntN.{pos}
use Rattle.bits.specs.Pick.{pick}
use Rattle.numbers.specs.Base.{range, up_to}
use Rattle.numbers.specs.Sum.{sumℕ}
use Rattle.numbers.specs.State.{best}
use Rattle.model.specs.Case.{System, Plan, Case, no_block, no_cell_prices, no_energy_window}
use Rattle.model.specs.Forced.{device, cap, least, consuming, power}
use Rattle.model.specs.Completion.{device_prices, block_price, state_cost, minutes_in, energy_in, overrun_need}
use Rattle.model.specs.Ours.{filling_above, lasts, best_state}
use Rattle.renumbering.specs.Alike.{Alike, start-same, end_same, cell_same, su-same, power-same}
use Rattle.renumbering.proofs.Alike.{least-same, downtime-same}

module _ (q : System) (p : Plan) (i : ℕ) (q' : System) (p' : Plan) (j : ℕ) (a : Alike q p i q' p' j) where
  minutes-same : (from until t : ℕ) → minutes_in q' p' from until t ≡ minutes_in q p from until t
  unfolding minutes_in
  minutes-same from until t = λ k. min (end_same q p i q' p' j a t k) until - max (start-same q p i q' p' j a t k) from

  energy-same : (w : ℕ) → energy_in q' p' j w ≡ energy_in q p i w
  unfolding energy_in
  energy-same w = λ k. let v = get_or (a.device k).energy_windows w no_energy_window in
      sumℕ (λ t. minutes-same v.from v.until t k * power-same q p i q' p' j a t k) (up_to (length (a.halves k)))

  pub overrun-same : (w : ℕ) → overrun_need q' p' j w ≡ overrun_need q p i w
  unfolding overrun_need
  overrun-same w = λ k. let v = get_or (a.device k).energy_windows w no_energy_window in
      pick (eqb v.kind 0) (pos (energy-same w k) -ℤ pos v.energy) (pos v.energy -ℤ pos (energy-same w k))

  lasts-same : (t n : ℕ) → lasts q' p' t j n ≡ lasts q p t i n
  unfolding lasts
  lasts-same t zero = refl
  lasts-same t (suc n) = λ k. leb (downtime-same q p i q' p' j a t k) (get_or (a.device k).longest n 0)

module _ (c : Case) (p : Plan) (i : ℕ) (c' : Case) (p' : Plan) (j : ℕ) (a : Alike c.system p i c'.system p' j) (e : device_prices c' j ≡ device_prices c i) where
  pub state-cost-same : (z : ℤ) → state_cost c' j z ≡ state_cost c i z
  unfolding state_cost
  state-cost-same (pos zero) = refl
  state-cost-same (pos (suc n)) = λ k. get_or (e k).state_costs n (pos 0)
  state-cost-same (negsuc n) = refl

  pub state-same : (t : ℕ) → best_state c' p' t j ≡ best_state c p t i
  unfolding best_state
  state-same t = λ k. pick (eqb (su-same c.system p i c'.system p' j a t k) 1)
      (best (λ n. state-cost-same (pos n) k) (λ n. lasts-same c.system p i c'.system p' j a t n k) 0 (range 1 (length (a.device k).longest))) 0

  pub block_same : (t b : ℕ) →
      filling_above (consuming c'.system j) (block_price c' t j) (least c'.system p' t j) (cap c'.system t j) (power c'.system p' t j) b
      ≡ filling_above (consuming c.system i) (block_price c t i) (least c.system p t i) (cap c.system t i) (power c.system p t i) b
  block_same t b = λ k. filling_above (eqb (a.device k).side 1) (λ n. get_or (get_or (e k).cells t no_cell_prices).blocks n (pos 0)) (least-same c.system p i c'.system p' j a t k)
      (λ n. (get_or (cell_same c.system p i c'.system p' j a t k).blocks n no_block).cap) (power-same c.system p i c'.system p' j a t k) b
