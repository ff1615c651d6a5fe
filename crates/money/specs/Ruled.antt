-- A device in an interval with our choices for it, where the plan breaks no rule, and the sizes of its figures.
use Rattle.std.specs.Prelude.{◌≡◌, ◌⊎◌, Bool, List, [], map, ltb, eqb, get_or, length, ℤ, pos, nat_abs}
use Rattle.std.proofs.Math.Path.{refl, subst}
use Rattle.std.proofs.Common.{sym, ap, ◌∙◌, mul-zero}
use Rattle.std.proofs.Math.Logic.{inl, inr}
use Rattle.std.proofs.Math.Bool.{true, false}
use Prim.Native.Nat.{ℕ, zero, suc, ◌+◌, ◌-◌, ◌*◌, ◌≤◌, ◌<◌}
use native.Mathlib.Omega.{arith}
use Rattle.std.proofs.Math.Dec.{T}
use Rattle.numbers.specs.State.{best, best-is}
use Rattle.bits.specs.Pick.{pick}
use Rattle.kilowatts.specs.declared.Kw.{Kw}
use Rattle.kilowatts.specs.Power.{kw}
use Rattle.numbers.specs.Base.{range}
use Rattle.model.specs.Case as M
use Rattle.model.specs.Case.{System, Plan, Case}
use Rattle.model.specs.Forced.{devices, device, consuming, cap, least, u, u_before, su, sd, power, duration, setting as setting_at}
use Rattle.model.specs.Rules.{blocks, ups, downs, cell_numbers, CellRule, EveryRule}
use Rattle.model.proofs.Named.{rule-of}
use Rattle.model.specs.Completion.{cell_prices, block_price, state_cost}
use Rattle.model.specs.Ours.{ours, best_state, lasts}
use Rattle.theorems.specs.Best.{above-cap}
use Rattle.numbers.specs.Every.{all-range}
use Rattle.ranges.specs.Ranges.{CellPriceRange, SettingRange}
use Rattle.ranges.specs.Kept.{kept_small}
use Rattle.numbers.specs.Every.{all-or, bit_le, has}
use Rattle.theorems.specs.Sizes.{floored}
use Rattle.theorems.proofs.Sizes.{power-bound}
use Rattle.row_places.specs.declared.Cell.{Cell}
use Rattle.row_places.specs.declared.Device.{Device}
use Rattle.row_places.specs.declared.Setting.{Setting}
use Rattle.row_places.specs.Figures.{setting_of}
use Rattle.numbers.specs.Parts.{part}
use Rattle.records.specs.Views.{most_states, less, price_offset, number_of, eight_in, cell_prices_in, setting_in}
use Rattle.records.specs.Viewed as Viewed
use Rattle.records.specs.Ranged as Ranged
use Rattle.choices.specs.declared.Choice.{Choice}
use Rattle.choices.specs.Cells as Cells
use Rattle.choices.specs.Cells.{CellOf, system_of, plan_of, case_of}
use Rattle.choices.specs.Choices.{ChoiceOf, states-are}
use Rattle.money.specs.Bounds.{power_most, minutes_most, price_most}
use Rattle.money.specs.Worth.{Priced, FourPriced}
use Rattle.money.specs.Costs.{CostsBelow, StateBelow, AmountsBelow, PricesBelow, OfState}
use Rattle.money.specs.Unbroken.{plan-range, system-range}

pub record Ruled (d : Device) (cell : Cell) (setting : Setting) (p minutes : ℕ) (x : Choice) : Type 0 where
  pub settings : List (List ℕ)
  pub starts : List ℕ
  pub t : ℕ
  pub place : CellOf d cell settings starts p t
  pub rules : EveryRule (system_of place) (plan_of place)
  pub setting-is : setting ≡ setting_of (get_or settings t [])
  pub minutes-are : minutes ≡ 2 * get_or place.halves t 0
  pub choice : ChoiceOf d cell settings starts p t x

-- number k of four
pub four-get : (f : ℕ → ℕ) (k : ℕ) → k < 4 → number_of (map (λ j. kw (f j)) blocks) k ≡ f k
unfolding range
four-get f zero h = refl
four-get f (suc zero) h = refl
four-get f (suc (suc zero)) h = refl
four-get f (suc (suc (suc zero))) h = refl
four-get f (suc (suc (suc (suc k)))) h = absurd (omega arith)

-- what is at most a limit times 1 − u is none while u is 1, and what is at most a limit times u while it is 0
none-on : {a b u : ℕ} (most more : ℕ) → u ≡ 1 → a ≤ most * (1 - u) → b ≤ more * (1 - u) → a + b ≡ 0
none-on {a} {b} {u} most more e h k =
    let y : most * (1 - u) ≡ 0 = rw e (mul-zero most) in
    let z : more * (1 - u) ≡ 0 = rw e (mul-zero more) in
    omega (arith, y, z, h, k)

none-off : {a b u : ℕ} (most more : ℕ) → u ≡ 0 → a ≤ most * u → b ≤ more * u → a + b ≡ 0
none-off {a} {b} {u} most more e h k =
    let y : most * u ≡ 0 = rw e (mul-zero most) in
    let z : more * u ≡ 0 = rw e (mul-zero more) in
    omega (arith, y, z, h, k)

off-is : (n : ℕ) → n ≤ 1 → (n ≡ 1 → ⊥) → n ≡ 0
off-is zero h k = refl
off-is (suc zero) h k = absurd (k refl)
off-is (suc (suc n)) h k = absurd (omega (arith, h))

module _ {d : Device} {cell : Cell} {setting : Setting} {p minutes : ℕ} {x : Choice} (w : Ruled d cell setting p minutes x) where
  abbrev pub i : ℕ
  i = w.place.i

  abbrev pub q : System
  q = system_of w.place

  abbrev pub plan : Plan
  plan = plan_of w.place

  abbrev pub case : Case
  case = case_of w.place

  abbrev row : List ℕ
  row = get_or (part (length w.place.halves) i w.place.cells) w.t []

  pub duration-is : minutes ≡ duration q w.t
  duration-is = w.minutes-are ∙ sym (Viewed.duration-is w.place.halves w.place.zones w.place.minima w.place.devices w.place.cells w.t)

  pub minutes-small : minutes ≤ minutes_most
  minutes-small = omega (arith, w.minutes-are, Ranged.half-small w.place.ready.case_rows w.t)

  pub power_small : p ≤ power_most
  power_small = omega (
    arith,
    Cells.power-of w.place,
    power-bound q plan (system-range w.place.ready) (plan-range w.place.ready) w.rules w.t i (Cells.in-intervals w.place) (Cells.in-devices w.place),
  )

  -- ---- its setting

  setting-range : SettingRange (setting_in (get_or w.settings w.t []))
  setting-range = rw w.place.settings-are (Ranged.setting-range w.place.ready.plan-rows i w.t w.place.known w.place.interval)

  pub on-small : setting.on ≤ 1
  on-small = rw w.setting-is setting-range.on

  pub amounts-small : AmountsBelow setting.reserves
  amounts-small =
      let g = setting-range.reserves in
      rw w.setting-is (record { rgu = g.rgu; rgd = g.rgd; scr = g.scr; nsc = g.nsc; rruon = g.rru_on; rruoff = g.rru_off; rrdon = g.rrd_on; rrdoff = g.rrd_off })

  -- its reserves as the definitions have them, and whether it is on
  pub amounts-are : eight_in setting.reserves ≡ (setting_at q plan w.t i).reserves
  amounts-are = ap (λ (y : Setting). eight_in y.reserves) w.setting-is ∙ sym (ap (λ (y : M.Setting). y.reserves) (Cells.setting-at w.place w.t w.place.interval))

  on-are : setting.on ≡ u q plan w.t i
  on-are = ap (λ (y : Setting). y.on) w.setting-is ∙ Cells.on-is w.place w.t w.place.interval

  held : (n : ℕ) → T (has n cell_numbers) → CellRule q plan w.t i n
  held n h = rule-of q plan w.rules w.t i n (Cells.in-intervals w.place) (Cells.in-devices w.place) h

  pub of-state : OfState setting.on setting.reserves
  unfolding CellRule range
  of-state =
      let on = on-are in
      let most = (device q i).limits in
      let n = u q plan w.t i in
      let up = subst (λ (r : M.Reserves). ups r ≤ most.rru_on * n) (sym amounts-are) (held 10 tt) in
      let down = subst (λ (r : M.Reserves). downs r ≤ most.rrd_on * n) (sym amounts-are) (held 11 tt) in
      let off = subst (λ (r : M.Reserves). r.nsc + r.rru_off ≤ most.rru_off * (1 - n)) (sym amounts-are) (held 13 tt) in
      let below = subst (λ (r : M.Reserves). r.rrd_off ≤ most.rrd_off * (1 - n)) (sym amounts-are) (held 14 tt) in
      record {
        while-on = λ e. none-on most.rru_off most.rrd_off (sym on ∙ e) off below;
        while-off = λ k. let z = none-off most.rru_on most.rrd_on (sym on ∙ off-is setting.on on-small k) up down in omega (arith, z);
      }

  -- ---- its costs

  pub costs-small : CostsBelow d
  costs-small = let s = Cells.sized w.place in record { on = s.oncost; start = s.startcost; stop = s.stopcost }

  price-range : CellPriceRange (cell_prices_in row)
  price-range = Ranged.cell-price-range w.place.ready.case_rows i w.place.known w.t w.place.interval

  pub reserve-prices-small : PricesBelow cell.reserves
  reserve-prices-small =
      let g = price-range.reserves in
      rw w.place.cell-is (record { rgu = g.rgu; rgd = g.rgd; scr = g.scr; nsc = g.nsc; rruon = g.rru_on; rruoff = g.rru_off; rrdon = g.rrd_on; rrdoff = g.rrd_off })

  -- ---- block powers and their prices

  abbrev pub our_block : ℕ → ℕ
  our_block = (ours case plan).block w.t i

  pub floors-below : (k : ℕ) → k < 4 → least q plan w.t i k ≤ cap q w.t i k
  floors-below = floored q plan (system-range w.place.ready) (plan-range w.place.ready) w.t i (Cells.in-intervals w.place) (Cells.in-devices w.place)

  block-cap : (k : ℕ) → k < 4 → our_block k ≤ cap q w.t i k
  unfolding ours
  block-cap k h = above-cap (block_price case w.t i) (least q plan w.t i) (cap q w.t i) (power q plan w.t i) floors-below (consuming q i) k h

  cap-small : (k : ℕ) → k < 4 → cap q w.t i k ≤ power_most
  cap-small k h =
      let known = w.place.ready.case_rows in
      omega (arith, Ranged.cap-at known i w.place.known w.t w.place.interval k h, Ranged.cap-small known i w.place.known w.t w.place.interval k h)

  -- an empty block, or its price
  pub block-priced : (k : ℕ) → k < 4 → (our_block k ≡ 0) ⊎ (less price_offset (get_or cell.prices k 0) ≡ block_price case w.t i k)
  block-priced k h = go (Cells.price-at w.place k h)
    where
      go : (cap q w.t i k ≡ 0) ⊎ (less price_offset (get_or cell.prices k 0) ≡ block_price case w.t i k)
          → (our_block k ≡ 0) ⊎ (less price_offset (get_or cell.prices k 0) ≡ block_price case w.t i k)
      go (inl z) = inl (omega (arith, block-cap k h))
      go (inr e) = inr e

  block-price-small : (k : ℕ) → nat_abs (block_price case w.t i k) ≤ price_most
  block-price-small k =
      let known = w.place.ready.case_rows in
      let e = Viewed.cell-prices-are w.place.front w.place.halves w.place.zones w.place.minima w.place.devices w.place.cells i w.place.known w.t in
      all-or (λ z. nat_abs z ≤ price_most) (pos 0) (omega arith) (cell_prices case w.t i).blocks (subst CellPriceRange (sym e) price-range).blocks k

  pub block_at : (k : ℕ) → k < 4 → number_of x.blocks k ≡ our_block k
  block_at k h = ap (λ (l : List Kw). number_of l k) (w.choice.blocks w.place) ∙ four-get our_block k h

  pub four-priced : FourPriced x.blocks cell.prices
  four-priced = record {
    small = λ k h. omega (arith, block_at k h, block-cap k h, cap-small k h);
    priced = λ k h. go k h (block-priced k h);
  }
    where
      go : (k : ℕ) → k < 4 → (our_block k ≡ 0) ⊎ (less price_offset (get_or cell.prices k 0) ≡ block_price case w.t i k) → Priced (number_of x.blocks k) (get_or cell.prices k 0)
      go k h (inl z) = inl (block_at k h ∙ z)
      go k h (inr f) = inr (kept_small price_offset (get_or cell.prices k 0) (subst (λ (z : ℤ). nat_abs z ≤ price_most) (sym f) (block-price-small k)))

  -- ---- its changes

  pub started-small : x.started ≤ 1
  unfolding ours su
  started-small = omega (arith, w.choice.started w.place, bit_le (ltb (u_before q plan w.t i) (u q plan w.t i)))

  pub stopped-small : x.stopped ≤ 1
  unfolding ours sd
  stopped-small = omega (arith, w.choice.stopped w.place, bit_le (ltb (u q plan w.t i) (u_before q plan w.t i)))

  pub state-known : best_state case plan w.t i ≤ d.nstates
  unfolding best_state
  state-known = go (eqb (su q plan w.t i) 1)
    where
      go : (b : Bool) → pick b (best (λ n. state_cost case i (pos n)) (lasts q plan w.t i) 0 (range 1 (length (device q i).longest))) 0 ≤ d.nstates
      go true = best-is (λ n. state_cost case i (pos n)) (lasts q plan w.t i) (λ m. m ≤ d.nstates) 0 (range 1 (length (device q i).longest)) (omega arith)
          (all-range (λ k. T (lasts q plan w.t i k) → k ≤ d.nstates) 1 _ (λ k a b h. omega (arith, states-are w.place)))
      go false = omega arith

  pub state-small : (x.state ≤ most_states) × StateBelow d x.state
  unfolding ours
  state-small =
      let e = w.choice.state w.place in
      let s = Cells.sized w.place in
      (omega (arith, e, state-known, s.few-states), go x.state (omega (arith, e, state-known)))
    where
      go : (state : ℕ) → state ≤ d.nstates → StateBelow d state
      go zero h = inl refl
      go (suc k) h = inr (let z : suc k - 1 ≡ k = omega arith in rw z ((Cells.sized w.place).cost k (omega arith)))
