-- The worked day: plan (b) is mended by 150 kW of device 1 in interval 2, a power of a device that is off by 0 kW, and nothing mends case (g).
use Rattle.std.specs.Prelude.{◌≡◌, refl, [], ◌∷◌, ℕ, zero, suc, ◌<◌, length, get_or}
use Rattle.std.proofs.Common.{◌∙◌, arith}
use Rattle.std.proofs.Math.Option.{none, some}
use Rattle.model.specs.Case.{System, Plan, Setting, no_reserves, no_reactive, no_flow}
use Rattle.model.specs.Breaches.{breaches}
use Rattle.model.specs.Rules.{cell_breach}
use Rattle.model.specs.Day.{day_case, reactive_plan, none_added}
use Rattle.model.specs.Open.{open-rules}
use Rattle.spans.specs.Spans as S
use Rattle.mending.specs.Mending as M
use Rattle.mending.specs.Mending.{most_online, mended}
use Rattle.mending_theorems.specs.Bounds as B
use Rattle.mending_theorems.specs.Answer as A
use Rattle.mending_theorems.specs.Answer.{Shaped, mended_from}
use Rattle.mending_theorems.proofs.Answer.{mended-is}

-- minutes already off and minimum down of device 1, as the marked cases have them
pub case : ℕ → ℕ → System
case off down = (day_case (record { off = off; down = down; zoned = []; starts = []; energies = []; mismatch = 1000; added = none_added })).system

pub plan : ℕ → ℕ → Plan
plan a b = reactive_plan no_reactive no_reactive no_reactive a b 0

rows : (a b t : ℕ) → t < 2 → length (get_or (plan a b).settings t []) ≡ 2
unfolding plan reactive_plan
rows a b zero l = refl
rows a b (suc zero) l = refl
rows a b (suc (suc t)) l = absurd (omega arith)

shape : (o d a b : ℕ) → Shaped (case o d) (plan a b)
unfolding case plan day_case reactive_plan
shape o d a b = record { intervals = refl; devices = λ t l. rows a b t l }

b-first : breaches (case 600 60) (plan 151 151) ≡ cell_breach 1 0 5 ∷ []
unfolding open-rules case plan day_case reactive_plan none_added
b-first = refl

g-first : breaches (case 10 71) (plan 150 150) ≡ cell_breach 1 0 2 ∷ []
unfolding open-rules case plan day_case reactive_plan none_added
g-first = refl

b-from : mended_from most_online (case 600 60) (plan 151 151) (cell_breach 1 0 5) ≡ some (record { interval = 1; device = 0; power = 150 })
unfolding open-rules case plan day_case reactive_plan none_added M.most_online M.replaced M.mends M.change M.those M.nearest B.ramp_bounds B.next_bounds B.power_bounds B.bounds S.narrow
    S.within S.span_of S.clamped
    A.span_at A.attempt A.attempts A.tries_at A.mended_from
b-from = refl

g-from : mended_from most_online (case 10 71) (plan 150 150) (cell_breach 1 0 2) ≡ none
unfolding open-rules case plan day_case reactive_plan none_added M.most_online M.replaced M.mends M.change M.those M.nearest B.ramp_bounds B.next_bounds B.power_bounds B.bounds S.narrow
    S.within S.span_of S.clamped
    A.span_at A.attempt A.attempts A.tries_at A.mended_from
g-from = refl

pub plan-b : mended (case 600 60) (plan 151 151) ≡ some (record { interval = 1; device = 0; power = 150 })
plan-b = mended-is most_online (case 600 60) (plan 151 151) (shape 600 60 151 151) (cell_breach 1 0 5) [] b-first ∙ b-from

pub case-g : mended (case 10 71) (plan 150 150) ≡ none
case-g = mended-is most_online (case 10 71) (plan 150 150) (shape 10 71 150 150) (cell_breach 1 0 2) [] g-first ∙ g-from

-- device 1 is off in interval 1, with 7 kW
abbrev setting_of : ℕ → ℕ → Setting
setting_of on online = record { on = on; online = online; reserves = no_reserves; reactive = no_reactive }

pub off_plan : Plan
off_plan = record { settings = (setting_of 0 7 ∷ setting_of 1 30 ∷ []) ∷ (setting_of 1 150 ∷ setting_of 1 150 ∷ []) ∷ []; flows = no_flow ∷ no_flow ∷ [] }

off-rows : (t : ℕ) → t < 2 → length (get_or off_plan.settings t []) ≡ 2
unfolding off_plan
off-rows zero l = refl
off-rows (suc zero) l = refl
off-rows (suc (suc t)) l = absurd (omega arith)

off-shape : Shaped (case 600 60) off_plan
unfolding case off_plan day_case
off-shape = record { intervals = refl; devices = λ t l. off-rows t l }

off-first : breaches (case 600 60) off_plan ≡ cell_breach 0 0 16 ∷ []
unfolding open-rules case off_plan day_case none_added
off-first = refl

off-from : mended_from most_online (case 600 60) off_plan (cell_breach 0 0 16) ≡ some (record { interval = 0; device = 0; power = 0 })
unfolding open-rules case off_plan day_case none_added M.most_online M.replaced M.mends M.change M.those M.nearest B.ramp_bounds B.next_bounds B.power_bounds B.bounds S.narrow
    S.within S.span_of S.clamped A.span_at A.attempt A.attempts A.tries_at A.mended_from
off-from = refl

pub off-by-0 : mended (case 600 60) off_plan ≡ some (record { interval = 0; device = 0; power = 0 })
off-by-0 = mended-is most_online (case 600 60) off_plan off-shape (cell_breach 0 0 16) [] off-first ∙ off-from
