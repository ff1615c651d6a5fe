-- The two-set day with floors of device 1's two blocks, worked by hand: tabulated facts on figures.
-- Device 1 is off in interval 1 with p 30 and on in interval 2 with p 150; its blocks carry 100 each, at 3 and 5.
use Rattle.std.specs.Prelude.{Bool, List, [], ◌∷◌, ℕ, T, replicate, ℤ, pos}
use Rattle.numbers.specs.Base.{every}
use Rattle.model.specs.Case.{Case, Plan, no_link, no_reactive, no_reactive_limits, no_reactive_reserves, unit_prices}
use Rattle.model.specs.Judgement.{verdict}
use Rattle.model.specs.Open.{open-rules, open-messages}
use Rattle.model.specs.Shown.{shown, eqℤ, eq_list}
use Rattle.model.specs.Day.{day_case, reactive_plan}
use Rattle.model.specs.ReactiveDay.{Row}

-- the edition that floors came with
abbrev pub edition : ℕ
edition = 3

floored : List ℕ → Case
floored floors = day_case (record {
  off = 600;
  down = 60;
  zoned = [];
  starts = [];
  energies = [];
  mismatch = 1000;
  added = record {
    floors = floors;
    link = no_link;
    limits1 = replicate 2 no_reactive_limits;
    limits2 = replicate 2 no_reactive_limits;
    qru_price = 0;
    prices = unit_prices;
    minima = replicate 2 no_reactive_reserves;
  };
})

plan : Plan
plan = reactive_plan no_reactive no_reactive no_reactive 150 150 0

unfoldable pub floor_rows : List Row
unfolding day_case reactive_plan floored plan
floor_rows =
    record { case = floored (0 ∷ 0 ∷ []); plan = plan; tells = pos 0 ∷ pos 167860 ∷ [] } ∷
    -- 70 at 3 and 80 at 5 instead of 100 and 50: 60·60 less; the floors do not bind in interval 1
    record { case = floored (0 ∷ 80 ∷ []); plan = plan; tells = pos 0 ∷ pos 164260 ∷ [] } ∷
    -- p at the sum of the floors, and one below it
    record { case = floored (70 ∷ 80 ∷ []); plan = plan; tells = pos 0 ∷ pos 164260 ∷ [] } ∷
    record { case = floored (71 ∷ 80 ∷ []); plan = plan; tells = pos 1 ∷ pos 19 ∷ pos 2 ∷ pos 1 ∷ pos 0 ∷ [] } ∷
    -- a floor that is its cap: 50 at 3 and 100 at 5
    record { case = floored (0 ∷ 100 ∷ []); plan = plan; tells = pos 0 ∷ pos 161860 ∷ [] } ∷
    -- a floor of the cheaper block changes nothing
    record { case = floored (100 ∷ 0 ∷ []); plan = plan; tells = pos 0 ∷ pos 167860 ∷ [] } ∷ []

on_figures : Row → Bool
on_figures r = eq_list eqℤ (shown (verdict (record { edition = edition; case = r.case }) r.plan 200)) r.tells

floors-on-figures : T (every on_figures floor_rows)
unfolding open-rules open-messages on_figures floor_rows
floors-on-figures = tt
