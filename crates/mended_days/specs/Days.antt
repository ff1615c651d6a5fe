-- Small days of one device, each with the answer found by hand: of two changes of one size the earlier interval's; a power that the next interval's ramp forbids; a power that a line's
-- slope asks for, rounded up; the largest power of all.
use Rattle.std.specs.Prelude.{◌≡◌, refl, List, [], ◌∷◌, map, ℕ, zero, suc, ◌<◌, length, get_or, replicate, ℤ, pos, negsuc}
use Rattle.std.proofs.Common.{◌∙◌, arith}
use Rattle.std.proofs.Math.Option.{Option, none, some}
use Rattle.model.specs.declared.Breach.{Breach}
use Rattle.model.specs.Case.{System, Plan, Device, Link, no_reserves, no_flow, no_link}
use Rattle.model.specs.Breaches.{breaches}
use Rattle.model.specs.Rules.{cell_breach}
use Rattle.model.specs.Open.{open-rules}
use Rattle.spans.specs.Spans as S
use Rattle.mending.specs.Mending as M
use Rattle.mending.specs.Mending.{Change, most_online, mended}
use Rattle.mending_theorems.specs.Bounds as B
use Rattle.mending_theorems.specs.Answer as A
use Rattle.mending_theorems.specs.Answer.{Shaped, mended_from}
use Rattle.mending_theorems.proofs.Answer.{mended-is}

-- on all day, at first with so many kW; it may rise and fall by 1 kW a minute, and carry up to `most`
abbrev device : Link → ℕ → ℕ → ℕ → Device
device link power most intervals = record {
  side = 0;
  zone_bits = 0;
  on0 = 1;
  power0 = power;
  minutes0 = 600;
  min_up = 0;
  min_down = 0;
  ramps = record { up = 1; down = 1; starting = 1; stopping = 1 };
  limits = no_reserves;
  longest = [];
  start_windows = [];
  energy_windows = [];
  link = link;
  bar = 0;
  cells = replicate intervals (record { status = 0; pmin = 0; pmax = most; blocks = record { cap = most; floor = 0 } ∷ []; reactive = record { qmin = pos 0; qmax = pos 100 } });
}

-- intervals of an hour
pub system : Link → ℕ → ℕ → ℕ → System
system link power most intervals = record { halves = replicate intervals 30; link_limit = 0; zones = []; devices = device link power most intervals ∷ [] }

-- these powers, with a reactive power
pub plan : ℤ → List ℕ → Plan
plan q powers = record { settings = map (λ v. record { on = 1; online = v; reserves = no_reserves; reactive = record { q = q; qru = 0; qrd = 0 } } ∷ []) powers; flows = map (λ (v : ℕ). no_flow) powers }

rows : (q : ℤ) (powers : List ℕ) (t : ℕ) → t < length (plan q powers).settings → length (get_or (plan q powers).settings t []) ≡ 1
unfolding plan
rows q [] t l = absurd (omega arith)
rows q (v ∷ powers) zero l = refl
rows q (v ∷ powers) (suc t) l = rows q powers t (omega arith)

-- by hand, from the first breach
answer : (s : System) (q : ℤ) (powers : List ℕ) → Shaped s (plan q powers) → (b : Breach) {o : Option Change} → breaches s (plan q powers) ≡ b ∷ []
    → mended_from most_online s (plan q powers) b ≡ o → mended s (plan q powers) ≡ o
answer s q powers h b e f = mended-is most_online s (plan q powers) h b [] e ∙ f

-- ---- 100 kW, then 170: 10 more than an hour's rise. 110 first or 160 then are one size

tie-shape : Shaped (system no_link 100 300 2) (plan (pos 0) (100 ∷ 170 ∷ []))
unfolding system plan
tie-shape = record { intervals = refl; devices = rows (pos 0) (100 ∷ 170 ∷ []) }

tie-first : breaches (system no_link 100 300 2) (plan (pos 0) (100 ∷ 170 ∷ [])) ≡ cell_breach 1 0 5 ∷ []
unfolding open-rules system plan
tie-first = refl

tie-from : mended_from most_online (system no_link 100 300 2) (plan (pos 0) (100 ∷ 170 ∷ [])) (cell_breach 1 0 5) ≡ some (record { interval = 0; device = 0; power = 110 })
unfolding open-rules system plan M.most_online M.replaced M.mends M.change M.those M.nearest B.ramp_bounds B.next_bounds B.power_bounds B.bounds S.narrow S.within S.span_of S.clamped
    A.span_at A.attempt A.attempts A.tries_at A.mended_from
tie-from = refl

pub earlier-of-two : mended (system no_link 100 300 2) (plan (pos 0) (100 ∷ 170 ∷ [])) ≡ some (record { interval = 0; device = 0; power = 110 })
earlier-of-two = answer (system no_link 100 300 2) (pos 0) (100 ∷ 170 ∷ []) tie-shape (cell_breach 1 0 5) tie-first tie-from

-- ---- 40 kW, then 100, 170 and 230: no other power in interval 1 is left, and 160 in interval 2 would break the rise of interval 3

held-shape : Shaped (system no_link 40 300 3) (plan (pos 0) (100 ∷ 170 ∷ 230 ∷ []))
unfolding system plan
held-shape = record { intervals = refl; devices = rows (pos 0) (100 ∷ 170 ∷ 230 ∷ []) }

held_first : breaches (system no_link 40 300 3) (plan (pos 0) (100 ∷ 170 ∷ 230 ∷ [])) ≡ cell_breach 1 0 5 ∷ []
unfolding open-rules system plan
held_first = refl

held-from : mended_from most_online (system no_link 40 300 3) (plan (pos 0) (100 ∷ 170 ∷ 230 ∷ [])) (cell_breach 1 0 5) ≡ none
unfolding open-rules system plan M.most_online M.replaced M.mends M.change M.those M.nearest B.ramp_bounds B.next_bounds B.power_bounds B.bounds S.narrow S.within S.span_of S.clamped
    A.span_at A.attempt A.attempts A.tries_at A.mended_from
held-from = refl

pub next-forbids : mended (system no_link 40 300 3) (plan (pos 0) (100 ∷ 170 ∷ 230 ∷ [])) ≡ none
next-forbids = answer (system no_link 40 300 3) (pos 0) (100 ∷ 170 ∷ 230 ∷ []) held-shape (cell_breach 1 0 5) held_first held-from

-- ---- q 49 below a line of 333 var a kW: 140 kW are too few, 147 give 48,951 var, 148 are enough

-- between a line of this slope through 0 and one of −100 kvar
abbrev lines : ℤ → Link
lines slope = record { kind = 1; upper = record { offset = pos 0; slope = slope }; lower = record { offset = negsuc 99; slope = pos 0 } }

line-shape : Shaped (system (lines (pos 333)) 140 300 1) (plan (pos 49) (140 ∷ []))
unfolding system plan
line-shape = record { intervals = refl; devices = rows (pos 49) (140 ∷ []) }

line_first : breaches (system (lines (pos 333)) 140 300 1) (plan (pos 49) (140 ∷ [])) ≡ cell_breach 0 0 23 ∷ []
unfolding open-rules system plan
line_first = refl

line-from : mended_from most_online (system (lines (pos 333)) 140 300 1) (plan (pos 49) (140 ∷ [])) (cell_breach 0 0 23) ≡ some (record { interval = 0; device = 0; power = 148 })
unfolding open-rules system plan M.most_online M.replaced M.mends M.change M.those M.nearest B.ramp_bounds B.next_bounds B.power_bounds B.bounds S.narrow S.within S.span_of S.clamped
    A.span_at A.attempt A.attempts A.tries_at A.mended_from
line-from = refl

pub line-rounded-up : mended (system (lines (pos 333)) 140 300 1) (plan (pos 49) (140 ∷ [])) ≡ some (record { interval = 0; device = 0; power = 148 })
line-rounded-up = answer (system (lines (pos 333)) 140 300 1) (pos 49) (140 ∷ []) line-shape (cell_breach 0 0 23) line_first line-from

-- ---- q 100 below a line of 1 var a kW: 100,000 kW and no fewer

most-shape : Shaped (system (lines (pos 1)) 99999 100000 1) (plan (pos 100) (99999 ∷ []))
unfolding system plan
most-shape = record { intervals = refl; devices = rows (pos 100) (99999 ∷ []) }

most-first : breaches (system (lines (pos 1)) 99999 100000 1) (plan (pos 100) (99999 ∷ [])) ≡ cell_breach 0 0 23 ∷ []
unfolding open-rules system plan
most-first = refl

most-from : mended_from most_online (system (lines (pos 1)) 99999 100000 1) (plan (pos 100) (99999 ∷ [])) (cell_breach 0 0 23) ≡ some (record { interval = 0; device = 0; power = 100000 })
unfolding open-rules system plan M.most_online M.replaced M.mends M.change M.those M.nearest B.ramp_bounds B.next_bounds B.power_bounds B.bounds S.narrow S.within S.span_of S.clamped
    A.span_at A.attempt A.attempts A.tries_at A.mended_from
most-from = refl

pub largest-of-all : mended (system (lines (pos 1)) 99999 100000 1) (plan (pos 100) (99999 ∷ [])) ≡ some (record { interval = 0; device = 0; power = 100000 })
largest-of-all = answer (system (lines (pos 1)) 99999 100000 1) (pos 100) (99999 ∷ []) most-shape (cell_breach 0 0 23) most-first most-from
