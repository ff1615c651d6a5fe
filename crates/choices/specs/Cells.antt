-- A device in an interval of a decoded case and plan, by its records and its part of the settings.
use Rattle.std.specs.Prelude.{◌≡◌, ◌⊎◌, List, [], ℕ, suc, ◌*◌, ◌≤◌, ◌<◌, length, get_or}
use Rattle.std.proofs.Math.Path.{sym, ap₂}
use Rattle.std.proofs.Common.{ap, subst, ◌∙◌, arith}
use Rattle.std.proofs.Math.Dec.{eqb}
use Rattle.model.specs.Case as M
use Rattle.model.specs.Case.{System, Plan, Case}
use Rattle.model.specs.Forced as F
use Rattle.model.specs.Completion as C
use Rattle.row_places.specs.declared.Front.{Front}
use Rattle.row_places.specs.declared.Cell.{Cell}
use Rattle.row_places.specs.declared.Device.{Device}
use Rattle.row_places.specs.Figures.{cell_of, device_of, on_at, started_at, stopped_at}
use Rattle.numbers.specs.Parts.{part, part-long}
use Rattle.numbers.specs.Ranges.{sum-last}
use Rattle.records.specs.Views.{less, price_offset, number_of, setting_in, device_in, device_prices_in, system_in, case_in, plan_in, Ready, Padded}
use Rattle.records.specs.Viewed as Viewed
use Rattle.records.specs.Ranged as Ranged
use Rattle.records.specs.Ranged.{DeviceSized}
use Rattle.block_fill.specs.Filled.{Offered}

-- device i in interval t
pub record CellOf (d : Device) (cell : Cell) (settings : List (List ℕ)) (starts : List ℕ) (p t : ℕ) : Type 0 where
  pub front : Front
  pub halves : List ℕ
  pub zones : List (List ℕ)
  pub minima : List (List ℕ)
  pub devices : List (List ℕ)
  pub cells : List (List ℕ)
  pub table : List (List ℕ)
  pub powers : List ℕ
  pub i : ℕ
  pub ready : Ready front halves zones minima devices cells table starts powers
  pub interval : t < length halves
  pub known : i < length devices
  pub device-is : d ≡ device_of (get_or devices i [])
  pub cell-is : cell ≡ cell_of (get_or (part (length halves) i cells) t [])
  pub settings-are : settings ≡ part (length halves) i table
  pub power-is : p ≡ get_or (part (length halves) i powers) t 0

module _ {d : Device} {cell : Cell} {settings : List (List ℕ)} {starts : List ℕ} {p t : ℕ} (w : CellOf d cell settings starts p t) where
  abbrev pub system_of : System
  system_of = system_in w.halves w.zones w.minima w.devices w.cells

  abbrev pub case_of : Case
  case_of = case_in w.front w.halves w.zones w.minima w.devices w.cells

  abbrev pub plan_of : Plan
  plan_of = plan_in (length w.devices) (length w.halves) w.table

  -- its part of the cells
  abbrev pub own : List (List ℕ)
  own = part (length w.halves) w.i w.cells

  pub in-intervals : t < F.intervals system_of
  in-intervals = omega (arith, w.interval, Viewed.intervals-are w.halves w.zones w.minima w.devices w.cells)

  pub in-devices : w.i < F.devices system_of
  in-devices = omega (arith, w.known, Viewed.devices-are w.halves w.zones w.minima w.devices w.cells)

  pub settings-long : length settings ≡ length w.halves
  settings-long = ap length w.settings-are ∙ part-long (length w.halves) w.i (length w.devices) w.table w.known w.ready.plan-rows.full

  -- ---- the device

  pub device-of : F.device system_of w.i ≡ device_in d own
  device-of = Viewed.device-is w.halves w.zones w.minima w.devices w.cells w.i w.known ∙ ap (λ (x : Device). device_in x own) (sym w.device-is)

  pub prices-of : C.device_prices case_of w.i ≡ device_prices_in d own
  prices-of = Viewed.device-prices-are w.front w.halves w.zones w.minima w.devices w.cells w.i w.known ∙ ap (λ (x : Device). device_prices_in x own) (sym w.device-is)

  pub sized : DeviceSized d
  sized = subst DeviceSized (sym w.device-is) (Ranged.device-sized w.ready.case_rows w.i w.known)

  pub side-is : eqb d.side 1 ≡ F.consuming system_of w.i
  unfolding device_in
  side-is = sym (ap (λ (x : M.Device). eqb x.side 1) device-of)

  -- ---- its settings

  pub setting-at : (k : ℕ) → k < length w.halves → F.setting system_of plan_of k w.i ≡ setting_in (get_or settings k [])
  setting-at k h =
      Viewed.setting-is (length w.devices) (length w.halves) w.table system_of k w.i h w.known
      ∙ ap (λ (l : List (List ℕ)). setting_in (get_or l k [])) (sym w.settings-are)

  pub on-is : (k : ℕ) → k < length w.halves → on_at settings k ≡ F.u system_of plan_of k w.i
  unfolding F.u
  on-is k h = sym (ap (λ (x : M.Setting). x.on) (setting-at k h))

  pub start_is : started_at d.on0 settings t ≡ F.su system_of plan_of t w.i
  start_is = rw (w.device-is, w.settings-are) (sym (Viewed.started-is w.halves w.zones w.minima w.devices w.cells w.table t w.i w.interval w.known))

  pub stop_is : stopped_at d.on0 settings t ≡ F.sd system_of plan_of t w.i
  stop_is = rw (w.device-is, w.settings-are) (sym (Viewed.stopped-is w.halves w.zones w.minima w.devices w.cells w.table t w.i w.interval w.known))

  -- ---- its forced figures

  pub start-at : (k : ℕ) → k ≤ length w.halves → get_or starts k 0 ≡ F.start_of system_of k
  start-at k h = w.ready.forced-rows.start k h

  -- the end of an interval is the start of the next
  pub start-next : (k : ℕ) → F.start_of system_of (suc k) ≡ F.end_of system_of k
  unfolding F.end_of F.start_of
  start-next k = sum-last (F.duration system_of) k

  pub power-of : p ≡ F.power system_of plan_of t w.i
  power-of = w.power-is ∙ Ranged.power-at w.ready w.i w.known t w.interval

  -- ---- its cell

  pub cap-at : (k : ℕ) → k < 4 → number_of cell.caps k ≡ F.cap system_of t w.i k
  cap-at k h = ap (λ (x : Cell). number_of x.caps k) w.cell-is ∙ Ranged.cap-at w.ready.case_rows w.i w.known t w.interval k h

  pub floor-at : (k : ℕ) → k < 4 → number_of cell.floors k ≡ F.floor system_of t w.i k
  floor-at k h = ap (λ (x : Cell). number_of x.floors k) w.cell-is ∙ Ranged.floor-at w.ready.case_rows w.i w.known t w.interval k h

  pub floor-below : (k : ℕ) → k < 4 → number_of cell.floors k ≤ number_of cell.caps k
  floor-below k h = rw w.cell-is (Ranged.floor-below w.ready.case_rows w.i w.known t w.interval k h)

  -- its offer
  pub offered : Offered cell.blocks cell.caps
  offered = rw w.cell-is (record { few = padded.few; absent = padded.absent })
    where
      padded : Padded (get_or own t [])
      padded = Ranged.padded-at w.ready.case_rows w.i w.known t w.interval

  pub on-small : on_at settings t ≤ 1
  on-small = rw w.settings-are (Ranged.setting-range w.ready.plan-rows w.i t w.known w.interval).on

  -- the floors that bind
  pub least_at : (k : ℕ) → k < 4 → on_at settings t * number_of cell.floors k ≡ F.least system_of plan_of t w.i k
  unfolding F.least
  least_at k h = ap₂ (λ (a b : ℕ). a * b) (on-is t w.interval) (floor-at k h)

  pub price-at : (k : ℕ) → k < 4 → (F.cap system_of t w.i k ≡ 0) ⊎ (less price_offset (get_or cell.prices k 0) ≡ C.block_price case_of t w.i k)
  price-at k h = rw w.cell-is (Ranged.price-at w.ready.case_rows w.i w.known t w.interval k h)
