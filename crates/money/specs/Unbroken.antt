-- A decoded case and a plan that breaks no rule.
use Rattle.std.specs.Prelude.{◌≡◌, List, ℕ, ◌+◌, ◌*◌, ◌≤◌, ◌<◌, length}
use Rattle.std.proofs.Math.Path.{sym}
use Rattle.std.proofs.Common.{◌∙◌, arith, mul-le-mul}
use Rattle.std.proofs.Math.IntN.{nat_abs}
use Rattle.model.specs.Forced as F
use Rattle.model.specs.Rules.{EveryRule}
use Rattle.ranges.specs.Ranges.{SystemRange, PlanRange, SettingRange}
use Rattle.numbers.specs.Bounds.{apart-is}
use Rattle.numbers.specs.Rows.{rows_long, all-rows}
use Rattle.kilovars.specs.Reactive.{kvar_offset}
use Rattle.row_places.specs.declared.Front.{Front}
use Rattle.row_places.specs.Figures.{flow_at}
use Rattle.numbers.specs.Parts.{part-inside}
use Rattle.records.specs.Views.{most_devices, most_intervals, system_in, plan_in, Ready}
use Rattle.records.specs.Viewed as Viewed
use Rattle.records.specs.Ranged as Ranged

pub record Unbroken (front : Front) (halves : List ℕ) (zones minima devices cells settings : List (List ℕ)) (starts powers : List ℕ) : Type 0 where
  pub ready : Ready front halves zones minima devices cells settings starts powers
  pub rules : EveryRule (system_in halves zones minima devices cells) (plan_in (length devices) (length halves) settings)

-- a device's part of the tables, from a on
pub record Part (m a : ℕ) (settings : List (List ℕ)) (powers : List ℕ) : Type 0 where
  pub in-settings : a + m ≤ length settings
  pub in-powers : a + m ≤ length powers
  pub small : a + m ≤ most_devices * most_intervals

module _ {front : Front} {halves : List ℕ} {zones minima devices cells settings : List (List ℕ)} {starts powers : List ℕ}
    (r : Ready front halves zones minima devices cells settings starts powers) where
  pub plan-range : PlanRange (system_in halves zones minima devices cells) (plan_in (length devices) (length halves) settings)
  unfolding plan_in
  plan-range = record {
    intervals = rows_long _ (length halves) ∙ sym (Viewed.intervals-are halves zones minima devices cells);
    each = all-rows _ _ (length halves) (λ t h. (
      rows_long _ (length devices) ∙ sym (Viewed.devices-are halves zones minima devices cells),
      all-rows SettingRange _ (length devices) (λ i l. Ranged.setting-range r.plan-rows i t l h),
    ));
    flows = all-rows (λ z. nat_abs z ≤ kvar_offset) _ (length halves) (λ t h. omega (arith, apart-is (flow_at settings t) kvar_offset, r.plan-rows.flows t h));
  }

  pub system-range : SystemRange (system_in halves zones minima devices cells)
  system-range = r.case_rows.range.system

  pub few-devices : F.devices (system_in halves zones minima devices cells) ≤ most_devices
  few-devices = omega (arith, Viewed.devices-are halves zones minima devices cells, r.case_rows.few-devices)

  pub few-intervals : F.intervals (system_in halves zones minima devices cells) ≤ most_intervals
  few-intervals = omega (arith, Viewed.intervals-are halves zones minima devices cells, r.case_rows.few-intervals)

  pub part_of : (i a : ℕ) → i < length devices → a ≡ i * length halves → Part (length halves) a settings powers
  part_of i a l begins =
      let n = part-inside (length halves) i (length devices) l in
      record {
        in-settings = omega (arith, n, r.plan-rows.full);
        in-powers = omega (arith, n, r.forced-rows.powers-full);
        small = omega (arith, n, mul-le-mul r.case_rows.few-devices r.case_rows.few-intervals);
      }
