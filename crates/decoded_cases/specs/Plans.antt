-- A plan's bytes read into tables to work in, and its forced figures computed there.
use Rattle.std.specs.Prelude.{Ok, ◌≡◌, List, ℕ, length}
use Rattle.std.proofs.Math.Path.{refl}
use Rattle.std.proofs.Common.{sym, ◌∙◌, arith}
use Rattle.layouts.specs.Layout.{read_whole}
use Rattle.model.specs.Case.{Plan}
use Rattle.model.specs.ByEdition.{Stated, planned_in, plan_layout}
use Rattle.model.specs.Judgement.{read_plan}
use Rattle.message_ends.specs.Ended.{Ending, ended}
use Rattle.row_places.specs.declared.Front.{Front}
use Rattle.records.specs.Views.{plan_in, Ready}
use Rattle.records.specs.Viewed.{devices-are, intervals-are}
use Rattle.plan_header.specs.Plans.{PlanRoom, PlanDone}
use Rattle.powers.specs.Fleet.{Forced}
use Rattle.decoded_cases.specs.Decoded.{Decoded, Work, Planned, stated_rows}

-- tables to work in have a row for each device and interval, and a case has a device
pub plan-room : {front : Front} {halves : List ℕ} {zones minima devices cells settings : List (List ℕ)} {starts powers : List ℕ} → Decoded front halves zones minima devices cells
    → Work halves devices settings starts powers → PlanRoom (length devices) (length halves) settings
plan-room {halves = halves} {zones = zones} {minima = minima} {devices = devices} {cells = cells} d w = record {
  some = omega (arith, d.rows.range.system.some_device, devices-are halves zones minima devices cells);
  few-devices = d.rows.few-devices;
  few-intervals = d.rows.few-intervals;
  full = w.settings-full;
}

-- what was read
module _ {front : Front} {halves : List ℕ} {zones minima devices cells : List (List ℕ)} (d : Decoded front halves zones minima devices cells)
    (ps : List ℕ) (settings : List (List ℕ)) (e : Ending) (h : PlanDone front.edition (length devices) (length halves) ps settings e) where
  abbrev x : Stated
  x = stated_rows front halves zones minima devices cells

  abbrev p : Plan
  p = plan_in (length devices) (length halves) settings

  pub plan-read : ended p e ≡ read_plan x ps
  unfolding planned_in
  plan-read = h.reads ∙ layout-same (sym (devices-are halves zones minima devices cells)) (sym (intervals-are halves zones minima devices cells))
    where
      layout-same : {i j m n : ℕ} → i ≡ m → j ≡ n → read_whole (plan_layout front.edition i j) ps ≡ read_whole (plan_layout front.edition m n) ps
      layout-same a b = rw (a, b) refl

  pub planned-of : {before : List (List ℕ)} {starts powers : List ℕ} → Work halves devices before starts powers → e ≡ Ok tt → Planned front halves zones minima devices cells settings starts powers
  planned-of w t = record { decoded = d; plan-rows = h.rows t; starts-full = w.starts-full; powers-full = w.powers-full }

-- the forced figures computed
module _ (front : Front) (halves : List ℕ) (zones minima devices cells settings : List (List ℕ)) {starts powers : List ℕ} where
  pub ready_of : Planned front halves zones minima devices cells settings starts powers → {times forced : List ℕ} → Forced halves devices cells settings times forced
      → Ready front halves zones minima devices cells settings times forced
  ready_of d f = record { case_rows = d.decoded.rows; plan-rows = d.plan-rows; forced-rows = f.rows zones minima }
