-- Small days that a definition breaks which takes one figure for another: the limit of another reserve, another reserve, the turn of rule 27, the other bar, a field of
-- another width or at another place. Tabulated facts, with the answers of an independent reading of the papers: on figures, and whole messages of editions 4 and 5.
-- All of the days as messages are in `vectors`.
use Rattle.std.specs.Prelude.{Bool, ◌&&◌, List, [], ◌∷◌, ◌++◌, map, ◌≡◌, refl, ℕ, ◌-◌, T, eqb, ℤ, pos, negsuc, replicate, length}
use Rattle.numbers.specs.Base.{every}
use Rattle.layouts.specs.declared.Fault.TheVariants.{WrongKind}
use Rattle.layouts.specs.Layout.{passes, fails}
use Rattle.model.specs.Open.{open-rules, open-messages}
use Rattle.model.specs.Case.{Case, Cell, Device, DevicePrices, Link, Plan, Reserves, Setting, no_flow, no_link, no_reactive, no_reactive_reserves, no_reserves}
use Rattle.model.specs.Editions.{batch}
use Rattle.model.specs.ByEdition.{stated_in, planned_in}
use Rattle.model.specs.Judgement.{judged}
use Rattle.model.specs.Shown.{shown, eqℤ, eq_list}
use Rattle.model.specs.Vector.{digits, room}

-- what is expected: 0 and the surplus, or 1, rule and place; and the completion's bytes (none unless accepted), as their number and one number
pub record Answer : Type 0 where
  pub tells : List ℤ
  pub completion : ℕ × ℕ

pub record Row : Type 0 where
  pub case : Case
  pub plan : Plan
  pub answer : Answer

accepted : ℤ → ℕ × ℕ → Answer
accepted z bytes = record { tells = pos 0 ∷ z ∷ []; completion = bytes }

broken : ℕ → ℕ → ℕ → Answer
broken rule t i = record { tells = pos 1 ∷ pos rule ∷ pos t ∷ pos i ∷ pos 0 ∷ []; completion = (0, 0) }

-- the result buffer afterwards: an acceptance replaces just the completion's bytes
unfoldable pub buffer : Answer → List ℕ
unfolding digits room
buffer a = digits a.completion.0 a.completion.1 [] ++ replicate (length room - a.completion.0) 9

agrees : ℕ → Row → Bool
agrees e r =
    let j = judged (record { edition = e; case = r.case }) r.plan room in
    eq_list eqℤ (shown j.verdict) r.answer.tells && eq_list eqb j.result (buffer r.answer)

-- "The eight, in order"
eight : ℕ → ℕ → ℕ → ℕ → ℕ → ℕ → ℕ → ℕ → Reserves
eight a b c d e f g h = record { rgu = a; rgd = b; scr = c; nsc = d; rru_on = e; rru_off = f; rrd_on = g; rrd_off = h }

-- no two alike, and all alike
limits : Reserves
limits = eight 3 5 7 9 11 13 17 19

alike : Reserves
alike = eight 20 20 20 20 20 20 20 20

-- ---- sets that hold reserves in intervals of 10 minutes

-- what the days differ in: ramps are 100 but for the stopping one, pmin is 0, qmin 0; one block of 100 at 7
pub record Set : Type 0 where
  pub side : ℕ
  pub on0 : ℕ
  pub power0 : ℕ
  pub stopping : ℕ
  pub limits : Reserves
  pub pmax : ℕ
  pub qmax : ℕ
  pub bar : ℕ

-- of a side, that stays on or off
steady : ℕ → ℕ → Reserves → ℕ → ℕ → Set
steady side on most qmax bar = record { side = side; on0 = on; power0 = 0; stopping = 100; limits = most; pmax = 100; qmax = qmax; bar = bar }

device_of : ℕ → Set → Device
device_of intervals s = record {
  side = s.side;
  zone_bits = 0;
  on0 = s.on0;
  power0 = s.power0;
  minutes0 = 0;
  min_up = 0;
  min_down = 0;
  ramps = record { up = 100; down = 100; starting = 100; stopping = s.stopping };
  limits = s.limits;
  longest = [];
  start_windows = [];
  energy_windows = [];
  link = no_link;
  bar = s.bar;
  cells = replicate intervals (record { status = 0; pmin = 0; pmax = s.pmax; blocks = record { cap = 100; floor = 0 } ∷ []; reactive = record { qmin = pos 0; qmax = pos s.qmax } });
}

prices_of : ℕ → DevicePrices
prices_of intervals = record {
  on_cost = 0;
  start_cost = 0;
  stop_cost = 0;
  state_costs = [];
  cells = replicate intervals (record { blocks = pos 7 ∷ []; reserves = no_reserves; reactive = no_reactive_reserves });
}

day_of : ℕ → ℕ → List Set → Case
day_of intervals limit sets = record {
  system = record { halves = replicate intervals 5; link_limit = limit; zones = []; devices = map (device_of intervals) sets };
  prices = record { mismatch = 1; overrun = 3; zones = []; devices = replicate (length sets) (prices_of intervals) };
}

-- ---- rules 7 to 15 and 18

holding : ℕ → ℕ → Reserves → Plan
holding on online r = record { settings = (record { on = on; online = online; reserves = r; reactive = no_reactive } ∷ []) ∷ []; flows = no_flow ∷ [] }

-- a producing set that stays on at 50 kW, and a set that stays off
while_on : Reserves → Answer → Row
while_on r a = record { case = day_of 1 0 (steady 0 1 limits 0 0 ∷ []); plan = holding 1 50 r; answer = a }

while_off : ℕ → Reserves → Reserves → Answer → Row
while_off side most r a = record { case = day_of 1 0 (steady side 0 most 0 0 ∷ []); plan = holding 0 0 r; answer = a }

-- a set with pmax 25 that stops at 30 kW, of which 10 are left
stopped : ℕ → Reserves → Answer → Row
stopped side r a =
    let s : Set = record { side = side; on0 = 1; power0 = 30; stopping = 2; limits = alike; pmax = 25; qmax = 0; bar = 0 } in
    record { case = day_of 1 0 (s ∷ []); plan = holding 0 0 r; answer = a }

unfoldable pub limit_rows : List Row
unfolding accepted broken eight limits alike steady device_of prices_of day_of holding while_on while_off stopped
limit_rows =
    -- on: rgu 3, rgd 5, rgu+scr 7, rgu+scr+rru_on 11, rgd+rrd_on 17, and one above each
    while_on (eight 3 5 4 0 4 0 12 0) (accepted (negsuc 3999) (23, 4696307517377122735537709632417174626251090067831374208)) ∷
    while_on (eight 4 5 3 0 4 0 12 0) (broken 7 1 1) ∷
    while_on (eight 3 6 4 0 4 0 11 0) (broken 8 1 1) ∷
    while_on (eight 3 5 5 0 3 0 12 0) (broken 9 1 1) ∷
    while_on (eight 3 5 4 0 5 0 12 0) (broken 10 1 1) ∷
    while_on (eight 3 5 4 0 4 0 13 0) (broken 11 1 1) ∷
    -- off: nsc 9, nsc+rru_off 13, and one above each; rrd_off 19, and one above it
    while_off 0 limits (eight 0 0 0 9 0 4 0 0) (accepted (pos 0) (23, 4696307517307432906792301435099871743513272901376671744)) ∷
    while_off 0 limits (eight 0 0 0 10 0 3 0 0) (broken 12 1 1) ∷
    while_off 0 limits (eight 0 0 0 9 0 5 0 0) (broken 13 1 1) ∷
    while_off 1 limits (eight 0 0 0 0 0 0 0 19) (accepted (pos 0) (23, 4696307517307432906792301435099871743513272901376671744)) ∷
    while_off 1 limits (eight 0 0 0 0 0 0 0 20) (broken 14 1 1) ∷
    -- what a side may not hold, each alone: nsc, rru_off; rrd_off
    while_off 1 alike (eight 0 0 0 1 0 0 0 0) (broken 15 1 1) ∷
    while_off 1 alike (eight 0 0 0 0 0 1 0 0) (broken 15 1 1) ∷
    while_off 0 alike (eight 0 0 0 0 0 0 0 1) (broken 15 1 1) ∷
    -- psd with rrd_off consuming, with nsc+rru_off producing, at pmax and one above it
    stopped 1 (eight 0 0 0 0 0 0 0 15) (accepted (pos 600) (23, 4696308978823008203444301278248165021586460731632519520)) ∷
    stopped 1 (eight 0 0 0 0 0 0 0 16) (broken 18 1 1) ∷
    stopped 0 (eight 0 0 0 8 0 7 0 0) (accepted (negsuc 799) (23, 4696308978823008203444301278248165095373437026470720384)) ∷
    stopped 0 (eight 0 0 0 9 0 7 0 0) (broken 18 1 1) ∷
    stopped 0 (eight 0 0 0 8 0 8 0 0) (broken 18 1 1) ∷ []

limits-agree : T (every (agrees 1) limit_rows)
unfolding open-rules open-messages digits room buffer agrees limit_rows
limits-agree = tt

-- ---- two bars: a producing set on bar 0 and a consuming one, at 20 and 30 kW, 5 and 3 kvar, with a link of 6 kW

pair : ℕ → ℕ → Case
pair bar intervals = day_of intervals 6 (steady 0 1 alike 5 0 ∷ steady 1 1 alike 5 bar ∷ [])

-- the reserves of both in an interval
both : Reserves → Reserves → List Setting
both r s =
    record { on = 1; online = 20; reserves = r; reactive = record { q = pos 5; qru = 0; qrd = 0 } } ∷
    record { on = 1; online = 30; reserves = s; reactive = record { q = pos 3; qru = 0; qrd = 0 } } ∷ []

flowing : ℤ → Plan
flowing f = record { settings = both no_reserves no_reserves ∷ []; flows = f ∷ [] }

rgu : Reserves
rgu = eight 21 0 0 0 0 0 0 0

rgd : Reserves
rgd = eight 0 21 0 0 0 0 0 0

unfoldable pub pair_rows : List Row
unfolding accepted broken eight alike steady device_of prices_of day_of pair both flowing rgu rgd
pair_rows =
    -- mismatches of 14 and 24 kW, 5 and 3 kvar; of 26 and 36 kW; on one bar of 16 and 6 kW, 2 kvar and none
    record { case = pair 1 1; plan = flowing (pos 6); answer = accepted (pos 240) (41, 113240818071624690749772122984506010343493434902352626562779516276736210910007279914432084731494880) } ∷
    record { case = pair 1 1; plan = flowing (negsuc 5); answer = accepted (pos 0) (41, 113240818071624690749772122984506010343493434902352626563040853165685272801156117384122660693213184) } ∷
    record { case = pair 0 1; plan = flowing (pos 6); answer = accepted (pos 460) (41, 113240818071624690749772122984506010343493434902352626562823072372971418378062003062909235667927960) } ∷
    -- "Rule 27 .. stands after an interval's devices": device 1 in interval 1 with it; device 2 in interval 1 with it, device 1 in interval 2
    record { case = pair 1 1; plan = record { settings = both rgu no_reserves ∷ []; flows = pos 7 ∷ [] }; answer = broken 7 1 1 } ∷
    record { case = pair 1 2; plan = record { settings = both no_reserves rgd ∷ both rgu no_reserves ∷ []; flows = negsuc 6 ∷ pos 6 ∷ [] }; answer = broken 8 1 2 } ∷ []

pairs-agree : T (every (agrees 5) pair_rows)
unfolding open-rules open-messages digits room buffer agrees pair_rows
pairs-agree = tt

-- ---- whole messages: a day with one of everything that a message has

whole_link : Link
whole_link = record { kind = 1; upper = record { offset = pos 30; slope = pos 500 }; lower = record { offset = negsuc 39; slope = negsuc 599 } }

whole_cell : Cell
whole_cell = record {
  status = 0;
  pmin = 18;
  pmax = 90;
  blocks = record { cap = 50; floor = 2 } ∷ record { cap = 40; floor = 1 } ∷ [];
  reactive = record { qmin = negsuc 24; qmax = pos 26 };
}

whole_device : ℕ → Device
whole_device bar = record {
  side = 0;
  zone_bits = 8;
  on0 = 0;
  power0 = 1;
  minutes0 = 100;
  min_up = 11;
  min_down = 12;
  ramps = record { up = 101; down = 102; starting = 103; stopping = 104 };
  limits = limits;
  longest = 200 ∷ [];
  start_windows = record { from = 0; until = 10; most = 96 } ∷ [];
  energy_windows = record { kind = 0; from = 1; until = 9; energy = 17 } ∷ [];
  link = whole_link;
  bar = bar;
  cells = whole_cell ∷ [];
}

whole_prices : DevicePrices
whole_prices = record {
  on_cost = 13;
  start_cost = 14;
  stop_cost = 15;
  state_costs = negsuc 15 ∷ [];
  cells = record { blocks = pos 7 ∷ negsuc 7 ∷ []; reserves = eight 1 2 3 4 5 6 7 8; reactive = record { qru = 9; qrd = 10 } } ∷ [];
}

whole_case : ℕ → ℕ → Case
whole_case bar limit = record {
  system = record {
    halves = 5 ∷ [];
    link_limit = limit;
    zones = record { shares = record { rgu = 100; rgd = 200; scr = 300; nsc = 400 }; minima = record { rru = 5; rrd = 6; reactive = record { qru = 7; qrd = 8 } } ∷ [] } ∷ [];
    devices = whole_device bar ∷ [];
  };
  prices = record {
    mismatch = 2;
    overrun = 3;
    zones = record { six = record { rgu = 1; rgd = 2; scr = 3; nsc = 4; rru = 5; rrd = 6 }; reactive = record { qru = 7; qrd = 8 } } ∷ [];
    devices = whole_prices ∷ [];
  };
}

whole_plan : ℤ → Plan
whole_plan flow = record {
  settings = (record { on = 1; online = 60; reserves = eight 1 2 3 0 4 0 5 0; reactive = record { q = negsuc 6; qru = 1; qrd = 2 } } ∷ []) ∷ [];
  flows = flow ∷ [];
}

-- in edition 4, and in edition 5 on bar 1 with 5 kW against the link's way
unfoldable pub row4 : Row
unfolding accepted eight limits whole_link whole_cell whole_device whole_prices whole_case whole_plan
row4 = record { case = whole_case 0 0; plan = whole_plan no_flow; answer = accepted (negsuc 2952036) (63, 10640132688010600907321149256143451303035423913984518452743346862921236843285729208216837061650495098354458432723668037763750916410773260211583594984603) }

unfoldable pub row5 : Row
unfolding accepted eight limits whole_link whole_cell whole_device whole_prices whole_case whole_plan
row5 = record { case = whole_case 1 6; plan = whole_plan (negsuc 4); answer = accepted (negsuc 2952036) (69, 3052517197126226427364635202456995021646477325662825145777762309282637859602915924867480111700657990053252059116176866014310607927823000293930855615996667707819545196) }

-- their messages
unfoldable pub case4 : List ℕ
case4 = digits 143 18675669236646167252322377573446945436616104431927452626789528009461254889121739931436870069472609339071842220281356339586893540544410638386334355545490200672594031704661129521416173485842358768886415074623813227397268084839452218074866020332585503383708950429429281917707047559583339782046389846775955100149862524160148833577202472144553443368 []

unfoldable pub case5 : List ℕ
case5 = digits 145 1285100986585690251978091475361983687289915394358845173669220456388783263580048289794249166671619094585938543637904716423637838968512315340814070043860045727536071883620718294218819986907491606847565939195377766815364414527741875141278327819084484690890878947802556045033048248620719836451707157014457781780315282544178488099678052511541428287062026 []

unfoldable pub plan4 : List ℕ
plan4 = digits 29 970771173234222280804888868712466971789259674775693156869115171831840 []

unfoldable pub plan5 : List ℕ
plan5 = digits 31 65387306673856375724412494400683153979008405942975445686695938102465134572 []

-- the fields of a case and a plan, in order, with their widths; "7-bit most starts (0..96)"
case4-read : stated_in batch case4 ≡ passes (record { edition = 4; case = row4.case })
unfolding open-rules open-messages digits case4 row4
case4-read = refl

case5-read : stated_in batch case5 ≡ passes (record { edition = 5; case = row5.case })
unfolding open-rules open-messages digits case5 row5
case5-read = refl

plan4-read : planned_in 4 row4.case.system plan4 ≡ passes row4.plan
unfolding open-rules open-messages digits plan4 row4
plan4-read = refl

plan5-read : planned_in 5 row5.case.system plan5 ≡ passes row5.plan
unfolding open-rules open-messages digits plan5 row5
plan5-read = refl

-- and those of a completion
whole4-agrees : T (agrees 4 row4)
unfolding open-rules open-messages digits room buffer agrees row4
whole4-agrees = tt

whole5-agrees : T (agrees 5 row5)
unfolding open-rules open-messages digits room buffer agrees row5
whole5-agrees = tt

-- 5 is the newest edition: the message of edition 5 with a 6 in its place
case6 : List ℕ
case6 = digits 145 1346273314078537321450123869081189414099051208102285972719415853959702961376140248116036030609777066378254388144778225470182297976867351491464403660750256353222136356592198916271929770104507561247177992007519594737452532305816708839867375951240784713735778789772430808904673051224235488449820202723027709017777828777347322642942730629950845334208522 []

case6-refused : stated_in batch case6 ≡ fails (WrongKind 4)
unfolding open-rules open-messages digits case6
case6-refused = refl
