-- Dispatches worked by hand, on figures: the two-set day, and a station of two producing sets and a load. Tabulated facts.
use Rattle.std.specs.Prelude.{Bool, ◌&&◌, List, [], ◌∷◌, map, ℕ, T, eqb, ℤ, pos, negsuc}
use Rattle.numbers.specs.Base.{range, every, gather}
use Rattle.model.specs.Open.{open-rules}
use Rattle.model.specs.Shown.{eq_list}
use Rattle.model.specs.Case.{Case, Block, Device, DevicePrices, no_reserves, no_reactive_limits, no_reactive_reserves, no_link}
use Rattle.model.specs.Day.{day_case, none_added}
use Rattle.offers.specs.declared.Offer.{Offer}
use Rattle.offers.specs.Merit.{insert, merit_onto, merit}
use Rattle.offers.specs.Same.{same_offer, same_offers}
use Rattle.optimum.specs.Levels.{of}
use Rattle.optimum.specs.Answer.{answer}
use Rattle.dispatching.specs.Dispatch.{rise, fall, lowest, highest, offers_of_set, offers_of, among, once, producing}
use Rattle.dispatching.specs.Dispatch.{sets_fit, offers_fit, of_named, can_meet, power_of, powers_of, Outcome, dispatch_in, number, returned}

-- what is asked of a case, and what is told: number and value, the powers, the list
pub record Row : Type 0 where
  pub case : Case
  pub interval : ℕ
  pub sets : List ℕ
  pub earlier : List ℕ
  pub offers : List Offer
  pub target : ℕ
  pub told : List ℕ
  pub powers : List ℕ
  pub list : List Offer

unfoldable pub agrees : Row → Bool
agrees r =
    let o = dispatch_in r.case r.interval r.sets r.earlier r.offers r.target in
    eq_list eqb (number o.answer ∷ returned o.answer ∷ []) r.told && eq_list eqb o.powers r.powers && same_offers o.offers r.list

-- all that a dispatch computes with
unfoldable pub open-dispatch : ℕ
unfolding rise fall lowest highest offers_of_set offers_of same_offer same_offers among once producing sets_fit offers_fit of_named can_meet power_of powers_of dispatch_in insert merit_onto merit of answer agrees
open-dispatch = 0

-- set, block, cap, floor and price
abbrev pub offer : ℕ → ℕ → ℕ → ℕ → ℤ → Offer
offer s b c f p = record { set = s; block = b; cap = c; floor = f; price = p }

-- ---- the two-set day: set 1 produces, from 150 to 200 kW, 600 kW up or down in an interval

the_day : Case
the_day = day_case (record { off = 600; down = 60; zoned = []; starts = []; energies = []; mismatch = 1000; added = none_added })

cheap : Offer
cheap = offer 1 1 100 0 (pos 3)

dear : Offer
dear = offer 1 2 100 0 (pos 5)

-- interval, sets, earlier powers, offers and target; then number and value, powers, and the list as it is found
on_day : ℕ → List ℕ → List ℕ → List Offer → ℕ → List ℕ → List ℕ → List Offer → Row
on_day t s e o g n p l = record { case = the_day; interval = t; sets = s; earlier = e; offers = o; target = g; told = n; powers = p; list = l }

abbrev turned : List Offer
turned = dear ∷ cheap ∷ []

abbrev in_order : List Offer
in_order = cheap ∷ dear ∷ []

day_rows : List Row
day_rows =
    on_day 2 (1 ∷ []) (150 ∷ []) turned 160 (0 ∷ 0 ∷ []) (160 ∷ []) in_order ∷
    on_day 2 (1 ∷ []) (150 ∷ []) turned 149 (9 ∷ 149 ∷ []) (150 ∷ []) turned ∷
    on_day 2 (1 ∷ []) (150 ∷ []) in_order 201 (9 ∷ 201 ∷ []) (150 ∷ []) in_order ∷
    on_day 2 (1 ∷ []) (801 ∷ []) turned 200 (9 ∷ 200 ∷ []) (801 ∷ []) turned ∷
    on_day 2 (1 ∷ []) (800 ∷ []) turned 200 (0 ∷ 0 ∷ []) (200 ∷ []) in_order ∷
    on_day 0 (1 ∷ []) (150 ∷ []) turned 160 (8 ∷ 0 ∷ []) (150 ∷ []) turned ∷
    on_day 3 (1 ∷ []) (150 ∷ []) turned 160 (8 ∷ 0 ∷ []) (150 ∷ []) turned ∷
    on_day 2 (2 ∷ []) (150 ∷ []) turned 160 (8 ∷ 0 ∷ []) (150 ∷ []) turned ∷
    on_day 2 (3 ∷ []) (150 ∷ []) turned 160 (8 ∷ 0 ∷ []) (150 ∷ []) turned ∷
    on_day 2 (1 ∷ 1 ∷ []) (150 ∷ 150 ∷ []) (cheap ∷ dear ∷ cheap ∷ dear ∷ []) 320 (8 ∷ 0 ∷ []) (150 ∷ 150 ∷ []) (cheap ∷ dear ∷ cheap ∷ dear ∷ []) ∷
    on_day 2 (1 ∷ []) (150 ∷ 150 ∷ []) turned 160 (8 ∷ 0 ∷ []) (150 ∷ 150 ∷ []) turned ∷
    on_day 2 (1 ∷ []) (150 ∷ []) (dear ∷ []) 160 (8 ∷ 0 ∷ []) (150 ∷ []) (dear ∷ []) ∷
    on_day 2 (1 ∷ []) (150 ∷ []) (dear ∷ cheap ∷ cheap ∷ []) 149 (8 ∷ 0 ∷ []) (150 ∷ []) (dear ∷ cheap ∷ cheap ∷ []) ∷
    on_day 2 (1 ∷ []) (150 ∷ []) (dear ∷ offer 1 1 100 0 (pos 4) ∷ []) 160 (8 ∷ 0 ∷ []) (150 ∷ []) (dear ∷ offer 1 1 100 0 (pos 4) ∷ []) ∷
    on_day 2 [] [] [] 0 (0 ∷ 0 ∷ []) [] [] ∷
    on_day 2 [] [] [] 1 (9 ∷ 1 ∷ []) [] [] ∷ []

day-dispatched : T (every agrees day_rows)
unfolding open-rules open-dispatch day_case none_added the_day cheap dear on_day day_rows
day-dispatched = tt

-- ---- a station: one interval of 60 minutes

-- a set's side, pmin, pmax, ramps up and down, and its blocks with their prices
pub record SetOf : Type 0 where
  pub side : ℕ
  pub pmin : ℕ
  pub pmax : ℕ
  pub up : ℕ
  pub down : ℕ
  pub blocks : List Block
  pub prices : List ℤ

abbrev pub block : ℕ → ℕ → Block
block c f = record { cap = c; floor = f }

device_of : SetOf → Device
device_of x = record {
  side = x.side;
  zone_bits = 0;
  on0 = 1;
  power0 = 0;
  minutes0 = 0;
  min_up = 0;
  min_down = 0;
  ramps = record { up = x.up; down = x.down; starting = 0; stopping = 0 };
  limits = no_reserves;
  longest = [];
  start_windows = [];
  energy_windows = [];
  link = no_link;
  bar = 0;
  cells = record { status = 0; pmin = x.pmin; pmax = x.pmax; blocks = x.blocks; reactive = no_reactive_limits } ∷ [];
}

prices_of : SetOf → DevicePrices
prices_of x = record { on_cost = 0; start_cost = 0; stop_cost = 0; state_costs = []; cells = record { blocks = x.prices; reserves = no_reserves; reactive = no_reactive_reserves } ∷ [] }

-- the duration's half, and the sets
unfoldable pub station : ℕ → List SetOf → Case
unfolding device_of prices_of
station half xs = record {
  system = record { halves = half ∷ []; link_limit = 0; zones = []; devices = map device_of xs };
  prices = record { mismatch = 0; overrun = 0; zones = []; devices = map prices_of xs };
}

-- set 1 from 20 to 90 kW, set 2 a load, set 3 from 30 to 80; ramps of 60 kW up and down
three : Case
three = station 30 (
    record { side = 0; pmin = 20; pmax = 90; up = 1; down = 1; blocks = block 50 0 ∷ block 50 5 ∷ []; prices = pos 1 ∷ pos 3 ∷ [] } ∷
    record { side = 1; pmin = 0; pmax = 90; up = 1; down = 1; blocks = []; prices = [] } ∷
    record { side = 0; pmin = 30; pmax = 80; up = 1; down = 1; blocks = block 60 10 ∷ block 40 0 ∷ []; prices = pos 2 ∷ pos 2 ∷ [] } ∷ [])

abbrev first : Offer
first = offer 1 1 50 0 (pos 1)

abbrev second : Offer
second = offer 3 1 60 10 (pos 2)

abbrev third : Offer
third = offer 3 2 40 0 (pos 2)

abbrev fourth : Offer
fourth = offer 1 2 50 5 (pos 3)

-- sets 3 and 1, in this order
on_three : List ℕ → ℕ → List ℕ → List ℕ → Row
on_three e g n p = record {
  case = three;
  interval = 1;
  sets = 3 ∷ 1 ∷ [];
  earlier = e;
  offers = fourth ∷ third ∷ second ∷ first ∷ [];
  target = g;
  told = n;
  powers = p;
  list = first ∷ second ∷ third ∷ fourth ∷ [];
}

three_rows : List Row
three_rows =
    on_three (60 ∷ 60 ∷ []) 50 (0 ∷ 0 ∷ []) (30 ∷ 20 ∷ []) ∷
    on_three (60 ∷ 60 ∷ []) 70 (0 ∷ 0 ∷ []) (30 ∷ 40 ∷ []) ∷
    on_three (60 ∷ 60 ∷ []) 100 (0 ∷ 0 ∷ []) (45 ∷ 55 ∷ []) ∷
    on_three (60 ∷ 60 ∷ []) 130 (0 ∷ 0 ∷ []) (75 ∷ 55 ∷ []) ∷
    on_three (60 ∷ 60 ∷ []) 135 (0 ∷ 0 ∷ []) (80 ∷ 55 ∷ []) ∷
    on_three (60 ∷ 60 ∷ []) 170 (0 ∷ 0 ∷ []) (80 ∷ 90 ∷ []) ∷
    on_three (60 ∷ 140 ∷ []) 130 (0 ∷ 0 ∷ []) (50 ∷ 80 ∷ []) ∷
    on_three (10 ∷ 60 ∷ []) 130 (0 ∷ 0 ∷ []) (70 ∷ 60 ∷ []) ∷ []

three-dispatched : T (every agrees three_rows)
unfolding open-rules open-dispatch station three on_three three_rows
three-dispatched = tt
