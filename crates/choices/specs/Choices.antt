-- Our choices for one device in one interval, from its records and its settings.
use Rattle.std.specs.Prelude.{◌≡◌, Bool, leb, eqb, length, ℤ, pos}
use Rattle.std.proofs.Math.Path.{refl, ap, ap₂}
use Rattle.std.proofs.Common.{sym, subst, ◌∙◌, arith}
use mathlib.Core.List.{List, map}
use Prim.Native.Nat.{ℕ, zero, suc, ◌*◌, ◌≤◌}
use Rattle.numbers.specs.State.{best, best-same}
use Rattle.bits.specs.Pick.{pick}
use Rattle.numbers.specs.Base.{range}
use Rattle.model.specs.Forced.{device, consuming, cap, least, su, power, downtime}
use Rattle.model.specs.Rules.{blocks}
use Rattle.model.specs.Completion.{state_cost, block_price}
use Rattle.model.specs.Ours.{filling_above, lasts, best_state, ours}
use Rattle.numbers.specs.Every.{all-range}
use Rattle.kilowatts.specs.declared.Kw.{Kw}
use Rattle.kilowatts.specs.Power.{kw}
use Rattle.row_places.specs.declared.Cell.{Cell}
use Rattle.row_places.specs.declared.Device.{Device}
use Rattle.row_places.specs.Figures.{on_at, started_at, stopped_at}
use Rattle.records.specs.Views.{price_offset}
use Rattle.records.specs.Viewed as Viewed
use Rattle.block_fill.specs.Filled.{price_of, cap_of, Alike, four_same}
use Rattle.block_fill.specs.Above.{above_same}
use Rattle.choices.specs.declared.Choice.{Choice}
use Rattle.choices.specs.Cells as Cells
use Rattle.choices.specs.Cells.{CellOf, system_of, plan_of, case_of}
use Rattle.choices.specs.States.{cost_of, lasts_of, state_of}
use Rattle.choices.specs.Rests.{off_since, downtime-is}
use Rattle.choices.specs.Blocks.{FilledWhile}

-- ---- the startup state

module _ {d : Device} {cell : Cell} {settings : List (List ℕ)} {starts : List ℕ} {p t : ℕ} (w : CellOf d cell settings starts p t) where
  pub states-are : length (device (system_of w) w.i).longest ≡ d.nstates
  states-are =
      let e = ap (λ (x : Device). x.nstates) w.device-is in
      Viewed.states-are w.halves w.zones w.minima w.devices w.cells w.i w.known (w.ready.case_rows.counted w.i w.known).few-states ∙ sym e

  pub cost-is : (n : ℕ) → n ≤ d.nstates → cost_of d n ≡ state_cost (case_of w) w.i (pos n)
  unfolding cost_of state_cost
  cost-is zero h = refl
  cost-is (suc k) h =
      let e : d.nstates ≡ _ = ap (λ (x : Device). x.nstates) w.device-is in
      let few = (w.ready.case_rows.counted w.i w.known).few-states in
      rw w.device-is (sym (Viewed.state-cost-is w.front w.halves w.zones w.minima w.devices w.cells w.i w.known k few (omega arith)))

  lasts-is : (n : ℕ) → n ≤ d.nstates → lasts_of d (downtime (system_of w) (plan_of w) t w.i) n ≡ lasts (system_of w) (plan_of w) t w.i n
  unfolding lasts_of lasts
  lasts-is zero h = refl
  lasts-is (suc k) h =
      let e : d.nstates ≡ _ = ap (λ (x : Device). x.nstates) w.device-is in
      ap (leb (downtime (system_of w) (plan_of w) t w.i))
      (rw w.device-is (sym (Viewed.longest-is w.halves w.zones w.minima w.devices w.cells w.i w.known k (omega arith))))

  abbrev costs : ℕ → ℤ
  costs n = state_cost (case_of w) w.i (pos n)

  abbrev rest : ℕ
  rest = downtime (system_of w) (plan_of w) t w.i

  abbrev best_of : ℕ → ℕ
  best_of n = best costs (lasts (system_of w) (plan_of w) t w.i) 0 (range 1 n)

  state-is : state_of d rest ≡ best_of (length (device (system_of w) w.i).longest)
  unfolding state_of
  state-is =
      best-same (cost_of d) costs (lasts_of d rest) (lasts (system_of w) (plan_of w) t w.i) 0 (range 1 d.nstates) (cost-is 0 (omega arith))
      (all-range (λ k. (cost_of d k ≡ costs k) × (lasts_of d rest k ≡ lasts (system_of w) (plan_of w) t w.i k)) 1 d.nstates (λ j a b. (cost-is j (omega arith), lasts-is j (omega arith))))
      ∙ ap best_of (sym states-are)

  -- the state chosen at a start, and none elsewhere
  pub chosen_is : {s r : ℕ} → s ≡ su (system_of w) (plan_of w) t w.i → r ≡ pick (eqb s 1) (state_of d (off_since d settings starts t t)) 0 → r ≡ best_state (case_of w) (plan_of w) t w.i
  unfolding best_state
  chosen_is {s} {r} e h = h ∙ ap₂ (λ (n x : ℕ). pick (eqb n 1) x 0) e (ap (state_of d) (downtime-is w) ∙ state-is)

-- ---- block powers

module _ {d : Device} {cell : Cell} {settings : List (List ℕ)} {starts : List ℕ} {p t : ℕ} (w : CellOf d cell settings starts p t) where
  abbrev f : ℕ → ℤ
  f = price_of price_offset cell.prices

  prices-are : Alike (cap (system_of w) t w.i) f (block_price (case_of w) t w.i)
  prices-are = Cells.price-at w

  pub blocks-are : {r : List Kw} → FilledWhile (on_at settings t) d.side p cell.floors cell.caps cell.prices r → r ≡ map (λ k. kw ((ours (case_of w) (plan_of w)).block t w.i k)) blocks
  unfolding ours
  blocks-are {r} h =
      h.powers price_offset
      ∙ ap₂ (λ (b : Bool) (n : ℕ). map (λ k. kw (filling_above b f (λ j. on_at settings t * cap_of cell.floors j) (cap_of cell.caps) n k)) blocks) (Cells.side-is w) (Cells.power-of w)
      ∙ four_same _ _ (above_same n (λ j. on_at settings t * cap_of cell.floors j) (least (system_of w) (plan_of w) t w.i) (cap_of cell.caps) (cap (system_of w) t w.i)
      f (block_price (case_of w) t w.i) (Cells.least_at w) (Cells.cap-at w) prices-are (consuming (system_of w) w.i))
    where
      n : ℕ
      n = power (system_of w) (plan_of w) t w.i

-- ---- the code's answer

module _ (d : Device) (cell : Cell) (settings : List (List ℕ)) (starts : List ℕ) (p t : ℕ) where
  -- the choices of our completion
  pub record ChoiceOf (x : Choice) : Type 0 where
    pub started : (w : CellOf d cell settings starts p t) → x.started ≡ (ours (case_of w) (plan_of w)).started t w.i
    pub stopped : (w : CellOf d cell settings starts p t) → x.stopped ≡ (ours (case_of w) (plan_of w)).stopped t w.i
    pub state : (w : CellOf d cell settings starts p t) → x.state ≡ (ours (case_of w) (plan_of w)).state t w.i
    pub blocks : (w : CellOf d cell settings starts p t) → x.blocks ≡ map (λ k. kw ((ours (case_of w) (plan_of w)).block t w.i k)) blocks

  pub choice-of : {on0 side on s e x : ℕ} {b : List Kw} → on0 ≡ d.on0 → side ≡ d.side → s ≡ started_at on0 settings t → e ≡ stopped_at on0 settings t
      → x ≡ pick (eqb s 1) (state_of d (off_since d settings starts t t)) 0 → on ≡ on_at settings t → FilledWhile on side p cell.floors cell.caps cell.prices b
      → ChoiceOf (record { started = s; stopped = e; state = x; blocks = b })
  unfolding ours
  choice-of {side = side} {s = s} {b = b} f g h j k m l = record {
    started = begun;
    stopped = λ w. j ∙ ap (λ (n : ℕ). stopped_at n settings t) f ∙ Cells.stop_is w;
    state = λ w. chosen_is w (begun w) k;
    blocks = λ w. blocks-are w (subst (λ (n : ℕ). FilledWhile (on_at settings t) n p cell.floors cell.caps cell.prices b) g
        (subst (λ (n : ℕ). FilledWhile n side p cell.floors cell.caps cell.prices b) m l));
  }
    where
      begun : (w : CellOf d cell settings starts p t) → s ≡ su (system_of w) (plan_of w) t w.i
      begun w = h ∙ ap (λ (n : ℕ). started_at n settings t) f ∙ Cells.start_is w
