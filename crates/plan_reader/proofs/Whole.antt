-- A plan: its settings behind the header, its end, and its ranges.
use mathlib.Core.Path.{◌≡◌, refl, sym, ap, ap₂, ◌∙◌}
use mathlib.Core.List.{List, [], map}
use Prim.Native.Nat.{ℕ, zero, suc, ◌*◌, ◌/◌, ◌%◌, ◌≤◌, ◌<◌}
use native.Mathlib.Omega.{arith}
use native.Mathlib.Nat.{mul-zero, mod-lt, div-add-mod', div-lt_iff_lt-mul}
use lib.ListN.{length, get_or}
use lib.IntN.{ℤ, nat_abs}
use Rattle.numbers.specs.Every.{all-at, all-or}
use Rattle.std.specs.Prelude.{Result, Ok, Err}
use Rattle.layouts.specs.declared.Fault.{Fault}
use Rattle.layouts.specs.declared.Place.{Place}
use Rattle.layouts.specs.Layout.{held, ◌then◌, Layout, list, begin, read_whole}
use Rattle.layouts.specs.Sure.{Any, sure-checked, whole-sure}
use Rattle.model.specs.Case as M
use Rattle.model.specs.Case.{no_setting, no_flow}
use Rattle.model.specs.Messages.{apart}
use Rattle.kilovars.specs.Reactive.{kvar_offset}
use Rattle.row_places.specs.Figures.{flow_at}
use Rattle.ranges.specs.Kept.{kept_small}
use Rattle.model.specs.ByEdition.{planned, plan_layout, plan_by}
use Rattle.ranges.specs.Ranges.{SettingRange, Settings, settings-in}
use Rattle.numbers.specs.Rows.{rows}
use Rattle.numbers.specs.Rows.{rows_at, rows-map}
use Rattle.numbers.specs.Parts.{part_at}
use Rattle.records.specs.Views.{less, setting_in, plan_in, PlanRows}
use Rattle.message_ends.specs.Ended.{Ending, ended, ended-tells, whole-failed}
use Rattle.field_rows.specs.Each.{list-natural}
use Rattle.numbers.specs.Rows.{rows_same}
use Rattle.fields.specs.Got.{good, bad, got, told, Natural, nat-natural, then-natural, held-natural, goes_on, goes-off, mapped}
use Rattle.fields.proofs.Steps.{Exits}
use Rattle.plan_reader.specs.Rows.{row_at, settings_at, interval_at}
use Rattle.plan_header.specs.Plans.{header, PlanDone}
use Rattle.plan_reader.proofs.Turns.{interval-natural}

planned-natural : (e n m : ℕ) → Natural (list m (planned e n))
planned-natural e n m = list-natural m (interval-natural e n)

header-natural : (e n m : ℕ) → Natural (header e n m)
unfolding header
header-natural e n m = held-natural _ _ (then-natural (nat-natural _) (λ _. then-natural (nat-natural _) (λ _. then-natural (nat-natural _) (λ _. nat-natural _))))

pub plan-natural : (e n m : ℕ) → Natural (plan_layout e n m)
unfolding plan_by apart
plan-natural e n m = held-natural _ _
    (then-natural (nat-natural _) (λ _. then-natural (nat-natural _) (λ _. then-natural (nat-natural _) (λ _. then-natural (nat-natural _) (λ _. held-natural _ _ (planned-natural e n m))))))

-- a plan from its intervals
made_of : List (List M.Setting × ℤ) → M.Plan
made_of v = record { settings = map (λ x. x.0) v; flows = map (λ x. x.1) v }

plan-parts : (e n m : ℕ) (s : List ℕ)
    → got (plan_layout e n m) s begin ≡ (header e n m).read s begin bad (λ _ q. (list m (planned e n)).read s q bad (λ v z. good (made_of v) z))
unfolding plan_by header apart held ◌then◌ made_of
plan-parts e n m s = refl

-- the rows of a plan, interval by interval
settings-are : (n m : ℕ) (settings : List (List ℕ)) → (plan_in n m settings).settings ≡ rows (settings_at n m settings) m
unfolding plan_in
settings-are n m settings = rows_same m (λ t h. rows_same n (λ i _. ap setting_in (part_at [] m i settings t h)))

plan-in : (n m : ℕ) (settings : List (List ℕ)) → plan_in n m settings ≡ made_of (rows (interval_at n m settings) m)
unfolding plan_in made_of
plan-in n m settings = ap₂ (λ (x : List (List M.Setting)) (y : List ℤ). record { settings = x; flows = y })
    (settings-are n m settings ∙ sym (rows-map (λ x. x.0) (interval_at n m settings) m))
    (sym (rows-map (λ x. x.1) (interval_at n m settings) m))

module _ (e n m : ℕ) (s : List ℕ) where
  pub plan-on : {v : ℕ} {q : Place} (w : Result Place Fault) (settings : List (List ℕ)) → good v q ≡ got (header e n m) s begin
      → told w (rows (interval_at n m settings) m) ≡ got (list m (planned e n)) s q → told w (plan_in n m settings) ≡ got (plan_layout e n m) s begin
  plan-on {q = q} w settings h g = rw plan-in (mapped (planned-natural e n m) made_of s q w (rows (interval_at n m settings) m)
      (plan-parts e n m s ∙ goes_on (header-natural e n m) s begin bad _ (sym h)) g)

  pub plan-off : {f : Fault} → bad f ≡ got (header e n m) s begin → bad f ≡ got (plan_layout e n m) s begin
  plan-off h = sym (plan-parts e n m s ∙ goes-off (header-natural e n m) s begin bad _ (sym h))

-- the exit of a `?` fails a message with the fault that was met
pub failed-exits : {A : Type 0} {l : Layout A} → Natural l → (s : List ℕ) (a : A) (r : Ending) {f : Fault} → Exits r f → bad f ≡ got l s begin → ended a r ≡ read_whole l s
failed-exits u s a (Ok _) h e = absurd h.1
failed-exits u s a (Err z) {f} h e = ap (λ (y : Fault). ended a (Err y)) h.1 ∙ whole-failed u s {w = Err f} a e refl

-- ---- ranges

-- where there is a row there is an interval
some : (n m k : ℕ) → k < n * m → 0 < m
some n zero k h = absurd (omega (arith, mul-zero n))
some n (suc m) k h = omega arith

module _ (n m : ℕ) (settings : List (List ℕ)) (ok : Settings n m (plan_in n m settings)) where
  at_row : (i t : ℕ) → i < n → t < m → SettingRange (setting_in (row_at m settings t i))
  at_row i t h l =
      let all = rw (settings-are n m settings) at ok in
      let row = rw (rows_at (settings_at n m settings) [] m t l) at (all-at _ [] (rows (settings_at n m settings) m) all.1 t (omega (arith, all.0))) in
      rw (rows_at (λ i. setting_in (row_at m settings t i)) no_setting n i h) at (all-at SettingRange no_setting (settings_at n m settings t) row.1 i (omega (arith, row.0)))

  flow-at : (t : ℕ) → t < m → flow_at settings t ≤ 2 * kvar_offset
  unfolding plan_in
  flow-at t l = omega (
    arith,
    kept_small kvar_offset (flow_at settings t) (rw (rows_at (λ t. less kvar_offset (flow_at settings t)) no_flow m t l)
        at (all-or (λ z. nat_abs z ≤ kvar_offset) no_flow (omega arith) (rows (λ t. less kvar_offset (flow_at settings t)) m) ok.2 t)),
  )

  -- row k is of device k / m and interval k % m
  pub plan-rows : length settings ≡ n * m → PlanRows n m settings
  plan-rows l = record { full = l; range = λ k h. go k (omega (arith, l)); flows = flow-at }
    where
      go : (k : ℕ) → k < n * m → SettingRange (setting_in (get_or settings k []))
      go k h = let z = some n m k h in rw (div-add-mod' k m) at (at_row (k / m) (k % m) ((div-lt_iff_lt-mul z).1 h) (mod-lt k z))

pub plan-done : (e n m : ℕ) (s : List ℕ) {r : Ending} (settings : List (List ℕ)) → length settings ≡ n * m
    → ended (plan_in n m settings) r ≡ read_whole (plan_layout e n m) s → PlanDone e n m s settings r
plan-done e n m s settings l h = record {
  reads = h;
  refused = ended-tells (plan_layout e n m) Any (sure-checked (plan_layout e n m) (Settings n m) (settings-in e n m)) s (plan_in n m settings) h;
  rows = λ o. plan-rows n m settings
      (whole-sure (plan_layout e n m) (Settings n m) (settings-in e n m) s (plan_in n m settings) (sym (ap (λ (x : Ending). ended (plan_in n m settings) x) (sym o) ∙ h))) l;
}
