-- The two-set day with reactive power, and small days of one set, worked by hand: tabulated facts, on figures.
use Rattle.std.specs.Prelude.{Bool, List, [], ◌∷◌, ℕ, T, replicate, ℤ, pos, negsuc}
use Rattle.numbers.specs.Base.{every}
use Rattle.model.specs.Open.{open-rules, open-messages}
use Rattle.model.specs.Case.{Case, Plan, Setting, Link, Line, Reactive, ReactiveLimits, no_link, no_line, no_reactive, no_flow, no_reactive_limits, no_reactive_reserves, no_reserves, unit_prices}
use Rattle.model.specs.Judgement.{verdict}
use Rattle.model.specs.Shown.{shown, eqℤ, eq_list}
use Rattle.model.specs.Day.{Added, none_added, block, day_case, reactive_plan}

-- a case, a plan, and what is expected: 0 and the surplus, or 1, rule and place
pub record Row : Type 0 where
  pub case : Case
  pub plan : Plan
  pub tells : List ℤ

-- ---- the figures of the rows

limits : ℤ → ℤ → ReactiveLimits
limits low high = record { qmin = low; qmax = high }

planned : ℤ → ℕ → ℕ → Reactive
planned q qru qrd = record { q = q; qru = qru; qrd = qrd }

line : ℤ → ℤ → Line
line offset slope = record { offset = offset; slope = slope }

-- a link of two lines, upper before lower, and one by equality
between : Line → Line → Link
between upper lower = record { kind = 1; upper = upper; lower = lower }

equal : Line → Link
equal l = record { kind = 2; upper = l; lower = no_line }

accepted : ℤ → List ℤ
accepted z = pos 0 ∷ z ∷ []

broken : ℕ → ℕ → ℕ → List ℤ
broken rule t i = pos 1 ∷ pos rule ∷ pos t ∷ pos i ∷ pos 0 ∷ []

-- ---- the two-set day

-- the day at a mismatch price, in a zone of both or in none
reactive_day : ℕ → List ℕ → Added → Case
reactive_day mismatch zoned added = day_case (record { off = 600; down = 60; zoned = zoned; starts = []; energies = []; mismatch = mismatch; added = added })

-- qmax 1 of a device in interval 1
one : List ReactiveLimits
one = limits (pos 0) (pos 1) ∷ no_reactive_limits ∷ []

-- no limits but 0 and 0
none : List ReactiveLimits
none = replicate 2 no_reactive_limits

-- device 2, interval 1: qmax 1, and qru at a price; device 1's limits
unlinked : List ReactiveLimits → ℕ → Added
unlinked first price = record { floors = replicate 2 0; link = no_link; limits1 = first; limits2 = one; qru_price = price; prices = unit_prices; minima = replicate 2 no_reactive_reserves }

-- device 1's link and limits
linked : Link → List ReactiveLimits → Added
linked link first = record { floors = replicate 2 0; link = link; limits1 = first; limits2 = none; qru_price = 0; prices = unit_prices; minima = replicate 2 no_reactive_reserves }

-- "a zone with minima qru 2 in interval 1, qrd 1 in interval 2, prices 3 and 5"
zoned : Added
zoned = record {
  floors = replicate 2 0;
  link = no_link;
  limits1 = none;
  limits2 = one;
  qru_price = 7;
  prices = record { qru = 3; qrd = 5 };
  minima = record { qru = 2; qrd = 0 } ∷ record { qru = 0; qrd = 1 } ∷ [];
}

-- "mismatch price 1; device 1 with two lines, upper 0 and 333, lower −100 and 0; interval 2: qmin 0, qmax 100"
lined : Case
lined = reactive_day 1 [] (linked (between (line (pos 0) (pos 333)) (line (negsuc 99) (pos 0))) (no_reactive_limits ∷ limits (pos 0) (pos 100) ∷ []))

-- "mismatch price 1; device 1 with equality 1 and" a slope; "qmin −100, qmax 100"
sloped : ℤ → Case
sloped slope = reactive_day 1 [] (linked (equal (line (pos 1) slope)) (replicate 2 (limits (negsuc 99) (pos 100))))

-- the day's plan with reactive figures of both devices in interval 1, and of device 1 in interval 2
day_plan : Reactive → Reactive → Reactive → Plan
day_plan x y z = reactive_plan x y z 150 150 0

unfoldable pub day_rows : List Row
unfolding day_case reactive_plan none_added limits planned line between equal accepted broken reactive_day one none unlinked linked zoned lined sloped day_plan
day_rows =
    -- neutral figures
    record { case = reactive_day 1000 [] none_added; plan = day_plan no_reactive no_reactive no_reactive; tells = accepted (pos 167860) } ∷
    -- device 2, interval 1: q 1; and device 1, which is off with psu 30; device 2 with qrd 1, or with qru 1 at price 7, and that in a zone
    record { case = reactive_day 1000 [] (unlinked none 0); plan = day_plan no_reactive (planned (pos 1) 0 0) no_reactive; tells = accepted (pos 107860) } ∷
    record { case = reactive_day 1000 [] (unlinked one 0); plan = day_plan (planned (pos 1) 0 0) (planned (pos 1) 0 0) no_reactive; tells = accepted (pos 167860) } ∷
    record { case = reactive_day 1000 [] (unlinked none 0); plan = day_plan no_reactive (planned (pos 1) 0 1) no_reactive; tells = broken 21 1 2 } ∷
    record { case = reactive_day 1000 [] (unlinked none 7); plan = day_plan no_reactive (planned (pos 1) 1 0) no_reactive; tells = accepted (pos 107440) } ∷
    record { case = reactive_day 1000 (0 ∷ []) zoned; plan = day_plan no_reactive (planned (pos 1) 1 0) no_reactive; tells = accepted (negsuc 372559) } ∷
    -- device 1, interval 2: q 49, q 50, q 49 and qru 1
    record { case = lined; plan = day_plan no_reactive no_reactive (planned (pos 49) 0 0); tells = accepted (pos 164920) } ∷
    record { case = lined; plan = day_plan no_reactive no_reactive (planned (pos 50) 0 0); tells = broken 23 2 1 } ∷
    record { case = lined; plan = day_plan no_reactive no_reactive (planned (pos 49) 1 0); tells = broken 23 2 1 } ∷
    -- device 1: q 7, then 31
    record { case = sloped (pos 200); plan = day_plan (planned (pos 7) 0 0) no_reactive (planned (pos 31) 0 0); tells = accepted (pos 165580) } ∷
    record { case = sloped (pos 201); plan = day_plan (planned (pos 7) 0 0) no_reactive (planned (pos 31) 0 0); tells = broken 25 1 1 } ∷ []

-- ---- small days of one set

-- one set that was on at `power0`: intervals of 10 minutes, pmin the same, pmax 100, starting and stopping ramps 2, a block of 100 at 7; mismatch price 1; with a link and reactive limits
single : ℕ → ℕ → Link → ReactiveLimits → ℕ → Case
single side power0 link reactive intervals = record {
  system = record {
    halves = replicate intervals 5;
    link_limit = 0;
    zones = [];
    devices = record {
      side = side;
      zone_bits = 0;
      on0 = 1;
      power0 = power0;
      minutes0 = 600;
      min_up = 0;
      min_down = 0;
      ramps = record { up = 100; down = 100; starting = 2; stopping = 2 };
      limits = no_reserves;
      longest = [];
      start_windows = [];
      energy_windows = [];
      link = link;
      bar = 0;
      cells = replicate intervals (record { status = 0; pmin = power0; pmax = 100; blocks = block 100 ∷ []; reactive = reactive });
    } ∷ [];
  };
  prices = record {
    mismatch = 1;
    overrun = 1;
    zones = [];
    devices = record {
      on_cost = 0;
      start_cost = 0;
      stop_cost = 0;
      state_costs = [];
      cells = replicate intervals (record { blocks = pos 7 ∷ []; reserves = no_reserves; reactive = no_reactive_reserves });
    } ∷ [];
  };
}

setting : ℕ → ℕ → Reactive → List Setting
setting on online x = record { on = on; online = online; reserves = no_reserves; reactive = x } ∷ []

-- 7 kW, for one interval: between qmin −5 and qmax 10; between two lines, at 4.331 and −4.4 kvar; on a line, at 8 kvar
limited : ℕ → Case
limited side = single side 7 no_link (limits (negsuc 4) (pos 10)) 1

lines : ℕ → Case
lines side = single side 7 (between (line (pos 2) (pos 333)) (line (negsuc 2) (negsuc 199))) (limits (negsuc 99) (pos 100)) 1

on_line : Case
on_line = single 0 7 (equal (line (pos 1) (pos 1000))) (limits (negsuc 9) (pos 10)) 1

at_seven : Reactive → Plan
at_seven x = record { settings = setting 1 7 x ∷ []; flows = replicate 1 no_flow }

-- 30 kW; an interval off, where 10 kW fall and 10 kW rise; 30 kW again: in it p is 20 kW and n is 2
crossing : Link → ReactiveLimits → Case
crossing link reactive = single 0 30 link reactive 3

tied : Case
tied = crossing (equal (line (pos 2) (pos 100))) (limits (pos 0) (pos 9))

crossed : Reactive → Reactive → Reactive → Plan
crossed x y z = record { settings = setting 1 30 x ∷ setting 0 0 y ∷ setting 1 30 z ∷ []; flows = replicate 3 no_flow }

unfoldable pub small_rows : List Row
unfolding limits planned line between equal accepted broken single setting limited lines on_line at_seven crossing tied crossed
small_rows =
    -- a producing set holds qru against qmax and qrd against qmin, a consuming one the other way round
    record { case = limited 0; plan = at_seven (planned (pos 7) 3 12); tells = accepted (negsuc 629) } ∷
    record { case = limited 0; plan = at_seven (planned (pos 7) 4 12); tells = broken 21 1 1 } ∷
    record { case = limited 0; plan = at_seven (planned (pos 7) 3 13); tells = broken 22 1 1 } ∷
    record { case = limited 1; plan = at_seven (planned (pos 7) 12 3); tells = accepted (pos 350) } ∷
    record { case = limited 1; plan = at_seven (planned (pos 7) 12 4); tells = broken 21 1 1 } ∷
    record { case = limited 1; plan = at_seven (planned (pos 7) 13 3); tells = broken 22 1 1 } ∷
    -- between the lines, above the upper one, below the lower one; of a consuming set
    record { case = lines 0; plan = at_seven (planned (pos 1) 3 5); tells = accepted (negsuc 569) } ∷
    record { case = lines 0; plan = at_seven (planned (pos 1) 4 5); tells = broken 23 1 1 } ∷
    record { case = lines 0; plan = at_seven (planned (pos 1) 3 6); tells = broken 24 1 1 } ∷
    record { case = lines 1; plan = at_seven (planned (pos 1) 5 3); tells = accepted (pos 410) } ∷
    record { case = lines 1; plan = at_seven (planned (pos 1) 5 4); tells = broken 23 1 1 } ∷
    record { case = lines 1; plan = at_seven (planned (pos 1) 6 3); tells = broken 24 1 1 } ∷
    -- on the line; with either reserve
    record { case = on_line; plan = at_seven (planned (pos 8) 0 0); tells = accepted (negsuc 639) } ∷
    record { case = on_line; plan = at_seven (planned (pos 8) 1 0); tells = broken 26 1 1 } ∷
    record { case = on_line; plan = at_seven (planned (pos 8) 0 1); tells = broken 26 1 1 } ∷
    -- two trajectories at once: limits and offsets count twice
    record { case = crossing no_link (limits (negsuc 2) (pos 3)); plan = crossed no_reactive (planned (pos 6) 0 0) no_reactive; tells = accepted (negsuc 6459) } ∷
    record { case = crossing no_link (limits (negsuc 2) (pos 3)); plan = crossed no_reactive (planned (pos 7) 0 0) no_reactive; tells = broken 21 2 1 } ∷
    record { case = crossing no_link (limits (negsuc 2) (pos 3)); plan = crossed no_reactive (planned (negsuc 6) 0 0) no_reactive; tells = broken 22 2 1 } ∷
    record { case = tied; plan = crossed (planned (pos 5) 0 0) (planned (pos 6) 0 0) (planned (pos 5) 0 0); tells = accepted (negsuc 6559) } ∷
    record { case = tied; plan = crossed (planned (pos 5) 0 0) (planned (pos 4) 0 0) (planned (pos 5) 0 0); tells = broken 25 2 1 } ∷ []

-- ---- on figures

-- the edition that has reactive power
abbrev pub edition : ℕ
edition = 2

on_figures : Row → Bool
on_figures r = eq_list eqℤ (shown (verdict (record { edition = edition; case = r.case }) r.plan 200)) r.tells

day-on-figures : T (every on_figures day_rows)
unfolding open-rules open-messages on_figures day_rows
day-on-figures = tt

small-on-figures : T (every on_figures small_rows)
unfolding open-rules open-messages on_figures small_rows
small-on-figures = tt
