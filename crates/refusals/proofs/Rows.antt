-- Fields of small messages of an independent reading, by name, first bit and width; and what is refused of such messages, with its field: tabulated facts.
use Rattle.std.specs.Prelude.{◌≡◌, refl, List, [], ◌∷◌, ◌++◌, map, ℕ, ◌+◌, ◌-◌, ◌*◌, ◌^◌, eqb, take}
use Rattle.bits.specs.Pick.{pick}
use Rattle.layouts.specs.declared.Fault.TheVariants as F
use Rattle.layouts.specs.Faults.{number_of, returned_by}
use Rattle.layouts.specs.Layout.{Whole, passes, fails, begin, read_whole}
use Rattle.model.specs.Editions.{host}
use Rattle.model.specs.ByEdition.{Stated, plan_layout, stated_in}
use Rattle.model.specs.Vector.{digits}
use Rattle.model.specs.Open.{open-messages}
use Rattle.refusals.specs.Names as N
use Rattle.refusals.specs.Names.{Name}
use Rattle.refusals.specs.Visited.{Part}
use Rattle.refusals.proofs.Traced.{nat-traced, int-traced, nothing-traced, present-traced, held-traced, then-traced, pair-traced, list-traced, counted-traced, such-traced}
use Rattle.refusals.proofs.Messages as T

-- name, first bit and width of each
placed : ℕ → List Part → List (Name × ℕ × ℕ)
placed at [] = []
placed at (f ∷ fs) = (f.name, at, f.width) ∷ placed (at + f.width) fs

-- all that the fields of a message compute with
open-fields : ℕ
unfolding open-messages nat-traced int-traced nothing-traced present-traced held-traced then-traced pair-traced list-traced counted-traced such-traced
    T.apart-traced T.eight-traced T.shares-traced T.prices-traced T.reactive-prices-traced T.reactive-minima-traced T.minima-traced T.zone-traced T.reactive-limits-traced
    T.reserve-prices-traced T.block-traced T.limits-traced T.cell-traced T.ramps-traced T.zone-bits-traced T.head-traced T.costs-traced T.ends-traced T.start-traced T.energy-traced
    T.line-traced T.link-traced T.device-traced T.counts-traced T.content-traced T.case-traced T.reactive-traced T.setting-traced T.planned-traced T.plan-traced
open-fields = 0

-- ---- the fields of a message

-- edition 5: one device with a startup state, both windows, a link of two lines and two blocks, one interval, one zone
case_number : ℕ
case_number = 1285100986557201189886127198310747443053788344118860476992010235725390979390205595744681120392883896902763575046231029446907784474071521433005230261729842157131567370517478885399390363252384309086077918441076399421174725138105385093713671564915018993480510025537138355476939112079827407872584678310976454105297963079757068594236325942578886398181376

case-fields : placed 0 ((T.case-traced host).fields (digits 145 case_number []) begin) ≡
    (N.kind, 0, 4) ∷ (N.edition, 4, 4) ∷ (N.device_count, 8, 7) ∷ (N.interval_count, 15, 7) ∷ (N.zone_count, 22, 3) ∷ (N.mismatch_price, 25, 14) ∷
    (N.overrun_price, 39, 14) ∷ (N.link_limit, 53, 17) ∷ (N.half 0, 70, 8) ∷ (N.of_zone 0 N.rgu_share, 78, 10) ∷ (N.of_zone 0 N.rgd_share, 88, 10) ∷
    (N.of_zone 0 N.scr_share, 98, 10) ∷ (N.of_zone 0 N.nsc_share, 108, 10) ∷ (N.of_zone 0 N.rgu_price, 118, 7) ∷ (N.of_zone 0 N.rgd_price, 125, 7) ∷
    (N.of_zone 0 N.scr_price, 132, 7) ∷ (N.of_zone 0 N.nsc_price, 139, 7) ∷ (N.of_zone 0 N.rru_price, 146, 7) ∷ (N.of_zone 0 N.rrd_price, 153, 7) ∷
    (N.of_zone 0 (N.reactive_price N.up), 160, 7) ∷ (N.of_zone 0 (N.reactive_price N.down), 167, 7) ∷ (N.of_zone 0 (N.minimum 0 N.up), 174, 23) ∷
    (N.of_zone 0 (N.minimum 0 N.down), 197, 23) ∷ (N.of_zone 0 (N.reactive_minimum 0 N.up), 220, 23) ∷ (N.of_zone 0 (N.reactive_minimum 0 N.down), 243, 23) ∷
    (N.of_device 0 N.side, 266, 1) ∷ (N.of_device 0 N.zone_bits, 267, 4) ∷ (N.of_device 0 N.on0, 271, 1) ∷ (N.of_device 0 N.power0, 272, 17) ∷
    (N.of_device 0 N.minutes0, 289, 16) ∷ (N.of_device 0 N.min_up, 305, 16) ∷ (N.of_device 0 N.min_down, 321, 16) ∷ (N.of_device 0 N.ramp_up, 337, 17) ∷
    (N.of_device 0 N.ramp_down, 354, 17) ∷ (N.of_device 0 N.ramp_starting, 371, 17) ∷ (N.of_device 0 N.ramp_stopping, 388, 17) ∷
    (N.of_device 0 N.on_cost, 405, 17) ∷ (N.of_device 0 N.start_cost, 422, 30) ∷ (N.of_device 0 N.stop_cost, 452, 30) ∷
    (N.of_device 0 (N.limit N.rgu), 482, 17) ∷ (N.of_device 0 (N.limit N.rgd), 499, 17) ∷ (N.of_device 0 (N.limit N.scr), 516, 17) ∷
    (N.of_device 0 (N.limit N.nsc), 533, 17) ∷ (N.of_device 0 (N.limit N.rru_on), 550, 17) ∷ (N.of_device 0 (N.limit N.rru_off), 567, 17) ∷
    (N.of_device 0 (N.limit N.rrd_on), 584, 17) ∷ (N.of_device 0 (N.limit N.rrd_off), 601, 17) ∷ (N.of_device 0 N.state_count, 618, 3) ∷
    (N.of_device 0 (N.longest 0), 621, 16) ∷ (N.of_device 0 (N.state_cost 0), 637, 31) ∷ (N.of_device 0 N.start_window_count, 668, 3) ∷
    (N.of_device 0 (N.start_window 0 N.window_start), 671, 16) ∷ (N.of_device 0 (N.start_window 0 N.window_end), 687, 16) ∷
    (N.of_device 0 (N.start_window 0 N.most_starts), 703, 7) ∷ (N.of_device 0 N.energy_window_count, 710, 3) ∷
    (N.of_device 0 (N.energy_window 0 N.window_kind), 713, 1) ∷ (N.of_device 0 (N.energy_window 0 N.window_start), 714, 16) ∷
    (N.of_device 0 (N.energy_window 0 N.window_end), 730, 16) ∷ (N.of_device 0 (N.energy_window 0 N.energy), 746, 32) ∷ (N.of_device 0 N.link_kind, 778, 2) ∷
    (N.of_device 0 (N.upper_line N.offset), 780, 18) ∷ (N.of_device 0 (N.upper_line N.slope), 798, 15) ∷ (N.of_device 0 (N.lower_line N.offset), 813, 18) ∷
    (N.of_device 0 (N.lower_line N.slope), 831, 15) ∷ (N.of_device 0 N.bar, 846, 1) ∷ (N.of_cell 0 0 N.status, 847, 2) ∷ (N.of_cell 0 0 N.pmin, 849, 17) ∷
    (N.of_cell 0 0 N.pmax, 866, 17) ∷ (N.of_cell 0 0 N.block_count, 883, 3) ∷ (N.of_cell 0 0 (N.cap 0), 886, 17) ∷ (N.of_cell 0 0 (N.floor 0), 903, 17) ∷
    (N.of_cell 0 0 (N.block_price 0), 920, 15) ∷ (N.of_cell 0 0 (N.cap 1), 935, 17) ∷ (N.of_cell 0 0 (N.floor 1), 952, 17) ∷
    (N.of_cell 0 0 (N.block_price 1), 969, 15) ∷ (N.of_cell 0 0 (N.reserve_price N.rgu), 984, 14) ∷ (N.of_cell 0 0 (N.reserve_price N.rgd), 998, 14) ∷
    (N.of_cell 0 0 (N.reserve_price N.scr), 1012, 14) ∷ (N.of_cell 0 0 (N.reserve_price N.nsc), 1026, 14) ∷
    (N.of_cell 0 0 (N.reserve_price N.rru_on), 1040, 14) ∷ (N.of_cell 0 0 (N.reserve_price N.rru_off), 1054, 14) ∷
    (N.of_cell 0 0 (N.reserve_price N.rrd_on), 1068, 14) ∷ (N.of_cell 0 0 (N.reserve_price N.rrd_off), 1082, 14) ∷ (N.of_cell 0 0 N.qmin, 1096, 18) ∷
    (N.of_cell 0 0 N.qmax, 1114, 18) ∷ (N.of_cell 0 0 (N.reactive_reserve_price N.up), 1132, 14) ∷ (N.of_cell 0 0 (N.reactive_reserve_price N.down), 1146, 14) ∷ []
unfolding open-fields digits case_number placed
case-fields = refl

-- edition 1: two devices, two intervals, one zone; no state, window or block
older_case_bytes : List ℕ
older_case_bytes = digits 196 690021002269705184942458194230170845445972912580116903349140847861137135868759861991794802934446822873483850052674697944308397893589858541974689078944106704751066355242122636512343430185664503275419735918865669001175695886880765225061532681716379524111345918184459016875188672319082323098238192047405247598356810895123025628200418892384531028874506074456503149422794430538799058458541822701377760749082431886677502749111364351346255153984298843895615654371102956430819328 []

older-case-fields : placed 0 ((T.case-traced host).fields older_case_bytes begin) ≡
    (N.kind, 0, 4) ∷ (N.edition, 4, 4) ∷ (N.device_count, 8, 5) ∷ (N.interval_count, 13, 6) ∷ (N.zone_count, 19, 3) ∷ (N.mismatch_price, 22, 14) ∷
    (N.overrun_price, 36, 14) ∷ (N.half 0, 50, 8) ∷ (N.half 1, 58, 8) ∷ (N.of_zone 0 N.rgu_share, 66, 10) ∷ (N.of_zone 0 N.rgd_share, 76, 10) ∷
    (N.of_zone 0 N.scr_share, 86, 10) ∷ (N.of_zone 0 N.nsc_share, 96, 10) ∷ (N.of_zone 0 N.rgu_price, 106, 7) ∷ (N.of_zone 0 N.rgd_price, 113, 7) ∷
    (N.of_zone 0 N.scr_price, 120, 7) ∷ (N.of_zone 0 N.nsc_price, 127, 7) ∷ (N.of_zone 0 N.rru_price, 134, 7) ∷ (N.of_zone 0 N.rrd_price, 141, 7) ∷
    (N.of_zone 0 (N.minimum 0 N.up), 148, 23) ∷ (N.of_zone 0 (N.minimum 0 N.down), 171, 23) ∷ (N.of_zone 0 (N.minimum 1 N.up), 194, 23) ∷
    (N.of_zone 0 (N.minimum 1 N.down), 217, 23) ∷ (N.of_device 0 N.side, 240, 1) ∷ (N.of_device 0 N.zone_bits, 241, 4) ∷ (N.of_device 0 N.on0, 245, 1) ∷
    (N.of_device 0 N.power0, 246, 17) ∷ (N.of_device 0 N.minutes0, 263, 16) ∷ (N.of_device 0 N.min_up, 279, 16) ∷ (N.of_device 0 N.min_down, 295, 16) ∷
    (N.of_device 0 N.ramp_up, 311, 17) ∷ (N.of_device 0 N.ramp_down, 328, 17) ∷ (N.of_device 0 N.ramp_starting, 345, 17) ∷
    (N.of_device 0 N.ramp_stopping, 362, 17) ∷ (N.of_device 0 N.on_cost, 379, 17) ∷ (N.of_device 0 N.start_cost, 396, 30) ∷ (N.of_device 0 N.stop_cost, 426, 30) ∷
    (N.of_device 0 (N.limit N.rgu), 456, 17) ∷ (N.of_device 0 (N.limit N.rgd), 473, 17) ∷ (N.of_device 0 (N.limit N.scr), 490, 17) ∷
    (N.of_device 0 (N.limit N.nsc), 507, 17) ∷ (N.of_device 0 (N.limit N.rru_on), 524, 17) ∷ (N.of_device 0 (N.limit N.rru_off), 541, 17) ∷
    (N.of_device 0 (N.limit N.rrd_on), 558, 17) ∷ (N.of_device 0 (N.limit N.rrd_off), 575, 17) ∷ (N.of_device 0 N.state_count, 592, 3) ∷
    (N.of_device 0 N.start_window_count, 595, 3) ∷ (N.of_device 0 N.energy_window_count, 598, 3) ∷ (N.of_cell 0 0 N.status, 601, 2) ∷
    (N.of_cell 0 0 N.pmin, 603, 17) ∷ (N.of_cell 0 0 N.pmax, 620, 17) ∷ (N.of_cell 0 0 N.block_count, 637, 3) ∷
    (N.of_cell 0 0 (N.reserve_price N.rgu), 640, 14) ∷ (N.of_cell 0 0 (N.reserve_price N.rgd), 654, 14) ∷ (N.of_cell 0 0 (N.reserve_price N.scr), 668, 14) ∷
    (N.of_cell 0 0 (N.reserve_price N.nsc), 682, 14) ∷ (N.of_cell 0 0 (N.reserve_price N.rru_on), 696, 14) ∷
    (N.of_cell 0 0 (N.reserve_price N.rru_off), 710, 14) ∷ (N.of_cell 0 0 (N.reserve_price N.rrd_on), 724, 14) ∷
    (N.of_cell 0 0 (N.reserve_price N.rrd_off), 738, 14) ∷ (N.of_cell 0 1 N.status, 752, 2) ∷ (N.of_cell 0 1 N.pmin, 754, 17) ∷
    (N.of_cell 0 1 N.pmax, 771, 17) ∷ (N.of_cell 0 1 N.block_count, 788, 3) ∷ (N.of_cell 0 1 (N.reserve_price N.rgu), 791, 14) ∷
    (N.of_cell 0 1 (N.reserve_price N.rgd), 805, 14) ∷ (N.of_cell 0 1 (N.reserve_price N.scr), 819, 14) ∷ (N.of_cell 0 1 (N.reserve_price N.nsc), 833, 14) ∷
    (N.of_cell 0 1 (N.reserve_price N.rru_on), 847, 14) ∷ (N.of_cell 0 1 (N.reserve_price N.rru_off), 861, 14) ∷
    (N.of_cell 0 1 (N.reserve_price N.rrd_on), 875, 14) ∷ (N.of_cell 0 1 (N.reserve_price N.rrd_off), 889, 14) ∷ (N.of_device 1 N.side, 903, 1) ∷
    (N.of_device 1 N.zone_bits, 904, 4) ∷ (N.of_device 1 N.on0, 908, 1) ∷ (N.of_device 1 N.power0, 909, 17) ∷ (N.of_device 1 N.minutes0, 926, 16) ∷
    (N.of_device 1 N.min_up, 942, 16) ∷ (N.of_device 1 N.min_down, 958, 16) ∷ (N.of_device 1 N.ramp_up, 974, 17) ∷ (N.of_device 1 N.ramp_down, 991, 17) ∷
    (N.of_device 1 N.ramp_starting, 1008, 17) ∷ (N.of_device 1 N.ramp_stopping, 1025, 17) ∷ (N.of_device 1 N.on_cost, 1042, 17) ∷
    (N.of_device 1 N.start_cost, 1059, 30) ∷ (N.of_device 1 N.stop_cost, 1089, 30) ∷ (N.of_device 1 (N.limit N.rgu), 1119, 17) ∷
    (N.of_device 1 (N.limit N.rgd), 1136, 17) ∷ (N.of_device 1 (N.limit N.scr), 1153, 17) ∷ (N.of_device 1 (N.limit N.nsc), 1170, 17) ∷
    (N.of_device 1 (N.limit N.rru_on), 1187, 17) ∷ (N.of_device 1 (N.limit N.rru_off), 1204, 17) ∷ (N.of_device 1 (N.limit N.rrd_on), 1221, 17) ∷
    (N.of_device 1 (N.limit N.rrd_off), 1238, 17) ∷ (N.of_device 1 N.state_count, 1255, 3) ∷ (N.of_device 1 N.start_window_count, 1258, 3) ∷
    (N.of_device 1 N.energy_window_count, 1261, 3) ∷ (N.of_cell 1 0 N.status, 1264, 2) ∷ (N.of_cell 1 0 N.pmin, 1266, 17) ∷ (N.of_cell 1 0 N.pmax, 1283, 17) ∷
    (N.of_cell 1 0 N.block_count, 1300, 3) ∷ (N.of_cell 1 0 (N.reserve_price N.rgu), 1303, 14) ∷ (N.of_cell 1 0 (N.reserve_price N.rgd), 1317, 14) ∷
    (N.of_cell 1 0 (N.reserve_price N.scr), 1331, 14) ∷ (N.of_cell 1 0 (N.reserve_price N.nsc), 1345, 14) ∷
    (N.of_cell 1 0 (N.reserve_price N.rru_on), 1359, 14) ∷ (N.of_cell 1 0 (N.reserve_price N.rru_off), 1373, 14) ∷
    (N.of_cell 1 0 (N.reserve_price N.rrd_on), 1387, 14) ∷ (N.of_cell 1 0 (N.reserve_price N.rrd_off), 1401, 14) ∷ (N.of_cell 1 1 N.status, 1415, 2) ∷
    (N.of_cell 1 1 N.pmin, 1417, 17) ∷ (N.of_cell 1 1 N.pmax, 1434, 17) ∷ (N.of_cell 1 1 N.block_count, 1451, 3) ∷
    (N.of_cell 1 1 (N.reserve_price N.rgu), 1454, 14) ∷ (N.of_cell 1 1 (N.reserve_price N.rgd), 1468, 14) ∷ (N.of_cell 1 1 (N.reserve_price N.scr), 1482, 14) ∷
    (N.of_cell 1 1 (N.reserve_price N.nsc), 1496, 14) ∷ (N.of_cell 1 1 (N.reserve_price N.rru_on), 1510, 14) ∷
    (N.of_cell 1 1 (N.reserve_price N.rru_off), 1524, 14) ∷ (N.of_cell 1 1 (N.reserve_price N.rrd_on), 1538, 14) ∷
    (N.of_cell 1 1 (N.reserve_price N.rrd_off), 1552, 14) ∷ []
unfolding open-fields digits older_case_bytes placed
older-case-fields = refl

-- edition 5: one device, two intervals
plan_bytes : List ℕ
plan_bytes = digits 59 1762839753647798763207583596108787573403672781425708232139832817563161858704405880135024117230727891259926503302800887183454013129163813158912 []

plan-fields : placed 0 ((T.plan-traced 5 1 2).fields plan_bytes begin) ≡
    (N.kind, 0, 4) ∷ (N.edition, 4, 4) ∷ (N.device_count, 8, 7) ∷ (N.interval_count, 15, 7) ∷ (N.of_setting 0 0 N.on, 22, 1) ∷
    (N.of_setting 0 0 N.online, 23, 17) ∷ (N.of_setting 0 0 (N.reserve N.rgu), 40, 17) ∷ (N.of_setting 0 0 (N.reserve N.rgd), 57, 17) ∷
    (N.of_setting 0 0 (N.reserve N.scr), 74, 17) ∷ (N.of_setting 0 0 (N.reserve N.nsc), 91, 17) ∷ (N.of_setting 0 0 (N.reserve N.rru_on), 108, 17) ∷
    (N.of_setting 0 0 (N.reserve N.rru_off), 125, 17) ∷ (N.of_setting 0 0 (N.reserve N.rrd_on), 142, 17) ∷ (N.of_setting 0 0 (N.reserve N.rrd_off), 159, 17) ∷
    (N.of_setting 0 0 N.q, 176, 18) ∷ (N.of_setting 0 0 (N.reactive_reserve N.up), 194, 17) ∷ (N.of_setting 0 0 (N.reactive_reserve N.down), 211, 17) ∷
    (N.flow 0, 228, 18) ∷ (N.of_setting 1 0 N.on, 246, 1) ∷ (N.of_setting 1 0 N.online, 247, 17) ∷ (N.of_setting 1 0 (N.reserve N.rgu), 264, 17) ∷
    (N.of_setting 1 0 (N.reserve N.rgd), 281, 17) ∷ (N.of_setting 1 0 (N.reserve N.scr), 298, 17) ∷ (N.of_setting 1 0 (N.reserve N.nsc), 315, 17) ∷
    (N.of_setting 1 0 (N.reserve N.rru_on), 332, 17) ∷ (N.of_setting 1 0 (N.reserve N.rru_off), 349, 17) ∷ (N.of_setting 1 0 (N.reserve N.rrd_on), 366, 17) ∷
    (N.of_setting 1 0 (N.reserve N.rrd_off), 383, 17) ∷ (N.of_setting 1 0 N.q, 400, 18) ∷ (N.of_setting 1 0 (N.reactive_reserve N.up), 418, 17) ∷
    (N.of_setting 1 0 (N.reactive_reserve N.down), 435, 17) ∷ (N.flow 1, 452, 18) ∷ []
unfolding open-fields digits plan_bytes placed
plan-fields = refl

-- edition 1: two devices, two intervals
older_plan_bytes : List ℕ
older_plan_bytes = digits 80 589258392299021390981804455010203412578239584235818838385084995569289243073212395763132820330704664162847490979130500214836072829252655808665620248038616202437010893592130624446700559718678528 []

older-plan-fields : placed 0 ((T.plan-traced 1 2 2).fields older_plan_bytes begin) ≡
    (N.kind, 0, 4) ∷ (N.edition, 4, 4) ∷ (N.device_count, 8, 5) ∷ (N.interval_count, 13, 6) ∷ (N.of_setting 0 0 N.on, 19, 1) ∷
    (N.of_setting 0 0 N.online, 20, 17) ∷ (N.of_setting 0 0 (N.reserve N.rgu), 37, 17) ∷ (N.of_setting 0 0 (N.reserve N.rgd), 54, 17) ∷
    (N.of_setting 0 0 (N.reserve N.scr), 71, 17) ∷ (N.of_setting 0 0 (N.reserve N.nsc), 88, 17) ∷ (N.of_setting 0 0 (N.reserve N.rru_on), 105, 17) ∷
    (N.of_setting 0 0 (N.reserve N.rru_off), 122, 17) ∷ (N.of_setting 0 0 (N.reserve N.rrd_on), 139, 17) ∷ (N.of_setting 0 0 (N.reserve N.rrd_off), 156, 17) ∷
    (N.of_setting 0 1 N.on, 173, 1) ∷ (N.of_setting 0 1 N.online, 174, 17) ∷ (N.of_setting 0 1 (N.reserve N.rgu), 191, 17) ∷
    (N.of_setting 0 1 (N.reserve N.rgd), 208, 17) ∷ (N.of_setting 0 1 (N.reserve N.scr), 225, 17) ∷ (N.of_setting 0 1 (N.reserve N.nsc), 242, 17) ∷
    (N.of_setting 0 1 (N.reserve N.rru_on), 259, 17) ∷ (N.of_setting 0 1 (N.reserve N.rru_off), 276, 17) ∷ (N.of_setting 0 1 (N.reserve N.rrd_on), 293, 17) ∷
    (N.of_setting 0 1 (N.reserve N.rrd_off), 310, 17) ∷ (N.of_setting 1 0 N.on, 327, 1) ∷ (N.of_setting 1 0 N.online, 328, 17) ∷
    (N.of_setting 1 0 (N.reserve N.rgu), 345, 17) ∷ (N.of_setting 1 0 (N.reserve N.rgd), 362, 17) ∷ (N.of_setting 1 0 (N.reserve N.scr), 379, 17) ∷
    (N.of_setting 1 0 (N.reserve N.nsc), 396, 17) ∷ (N.of_setting 1 0 (N.reserve N.rru_on), 413, 17) ∷ (N.of_setting 1 0 (N.reserve N.rru_off), 430, 17) ∷
    (N.of_setting 1 0 (N.reserve N.rrd_on), 447, 17) ∷ (N.of_setting 1 0 (N.reserve N.rrd_off), 464, 17) ∷ (N.of_setting 1 1 N.on, 481, 1) ∷
    (N.of_setting 1 1 N.online, 482, 17) ∷ (N.of_setting 1 1 (N.reserve N.rgu), 499, 17) ∷ (N.of_setting 1 1 (N.reserve N.rgd), 516, 17) ∷
    (N.of_setting 1 1 (N.reserve N.scr), 533, 17) ∷ (N.of_setting 1 1 (N.reserve N.nsc), 550, 17) ∷ (N.of_setting 1 1 (N.reserve N.rru_on), 567, 17) ∷
    (N.of_setting 1 1 (N.reserve N.rru_off), 584, 17) ∷ (N.of_setting 1 1 (N.reserve N.rrd_on), 601, 17) ∷ (N.of_setting 1 1 (N.reserve N.rrd_off), 618, 17) ∷ []
unfolding open-fields digits older_plan_bytes placed
older-plan-fields = refl

-- ---- broken off and run on

-- "a plan of its first byte only": refused 1 8, at the count of devices
first_byte : read_whole (plan_layout 5 1 2) (take 1 plan_bytes) ≡ fails (F.Cut 8)
unfolding open-fields digits plan_bytes
first_byte = refl

-- 30 of its bytes: the interval's flow, at bit 228, would end behind bit 240
flow-cut : read_whole (plan_layout 5 1 2) (take 30 plan_bytes) ≡ fails (F.Cut 228)
unfolding open-fields digits plan_bytes
flow-cut = refl

-- a byte of 0 behind its 59
one_more : read_whole (plan_layout 5 1 2) (plan_bytes ++ (0 ∷ [])) ≡ fails (F.Tail 472)
unfolding open-fields digits plan_bytes
one_more = refl

-- ---- numbers 2 to 5 by their fields

-- the case with some figures raised: a field's first bit, its width and what is added; the number and the bit of its refusal, and the field that begins there
record Row : Type 0 where
  raised : List (ℕ × ℕ × ℕ)
  number : ℕ
  bit : ℕ
  field : Name

altered : List (ℕ × ℕ × ℕ) → ℕ
altered [] = case_number
altered (x ∷ xs) = altered xs + x.2 * 2 ^ (8 * 145 - x.0 - x.1)

names_at : ℕ → ℕ → List Part → List Name
names_at b at [] = []
names_at b at (f ∷ fs) = let r = names_at b (at + f.width) fs in pick (eqb at b) (f.name ∷ r) r

told : Whole Stated → List Part → List (ℕ × ℕ × List Name)
told (passes x) t = []
told (fails f) t = (number_of f, returned_by f, names_at (returned_by f) 0 t) ∷ []

refused_as : Row → List (ℕ × ℕ × List Name)
refused_as r = let s = digits 145 (altered r.raised) [] in told (stated_in host s) ((T.case-traced host).fields s begin)

rows : List Row
rows =
    -- "kind or edition wrong"
    record { raised = (0, 4, 1) ∷ []; number = 2; bit = 0; field = N.kind } ∷
    record { raised = (4, 4, 1) ∷ []; number = 2; bit = 4; field = N.edition } ∷
    -- "count .. out of range": 65 devices, 97 intervals, 5 zones, 4 states, 5 windows, 5 blocks
    record { raised = (8, 7, 64) ∷ []; number = 3; bit = 8; field = N.device_count } ∷
    record { raised = (15, 7, 96) ∷ []; number = 3; bit = 15; field = N.interval_count } ∷
    record { raised = (22, 3, 4) ∷ []; number = 3; bit = 22; field = N.zone_count } ∷
    record { raised = (618, 3, 3) ∷ []; number = 3; bit = 618; field = N.of_device 0 N.state_count } ∷
    record { raised = (668, 3, 4) ∷ []; number = 3; bit = 668; field = N.of_device 0 N.start_window_count } ∷
    record { raised = (710, 3, 4) ∷ []; number = 3; bit = 710; field = N.of_device 0 N.energy_window_count } ∷
    record { raised = (883, 3, 3) ∷ []; number = 3; bit = 883; field = N.of_cell 0 0 N.block_count } ∷
    -- "other field out of range": a price of 10,001, most starts 97, a slope of 10,001, a power of 100,001, a link kind of 3
    record { raised = (25, 14, 10000) ∷ []; number = 4; bit = 25; field = N.mismatch_price } ∷
    record { raised = (703, 7, 97) ∷ []; number = 4; bit = 703; field = N.of_device 0 (N.start_window 0 N.most_starts) } ∷
    record { raised = (831, 15, 10001) ∷ []; number = 4; bit = 831; field = N.of_device 0 (N.lower_line N.slope) } ∷
    record { raised = (866, 17, 100001) ∷ []; number = 4; bit = 866; field = N.of_cell 0 0 N.pmax } ∷
    record { raised = (778, 2, 2) ∷ []; number = 4; bit = 778; field = N.of_device 0 N.link_kind } ∷
    -- "pmin above pmax; window start after end; window end after the last E; zone bit above the zone count (that field)"; qmin above qmax; a floor above its cap
    record { raised = (849, 17, 1) ∷ []; number = 5; bit = 866; field = N.of_cell 0 0 N.pmax } ∷
    record { raised = (671, 16, 1) ∷ []; number = 5; bit = 687; field = N.of_device 0 (N.start_window 0 N.window_end) } ∷
    record { raised = (730, 16, 3) ∷ []; number = 5; bit = 730; field = N.of_device 0 (N.energy_window 0 N.window_end) } ∷
    record { raised = (267, 4, 1) ∷ []; number = 5; bit = 267; field = N.of_device 0 N.zone_bits } ∷
    record { raised = (1096, 18, 1) ∷ []; number = 5; bit = 1114; field = N.of_cell 0 0 N.qmax } ∷
    record { raised = (952, 17, 1) ∷ []; number = 5; bit = 952; field = N.of_cell 0 0 (N.floor 1) } ∷
    -- the first of two; fields before contradictions
    record { raised = (849, 17, 1) ∷ (952, 17, 1) ∷ []; number = 5; bit = 866; field = N.of_cell 0 0 N.pmax } ∷
    record { raised = (267, 4, 1) ∷ (847, 2, 3) ∷ []; number = 4; bit = 847; field = N.of_cell 0 0 N.status } ∷ []

fields-refused : map refused_as rows ≡ map (λ (r : Row). (r.number, r.bit, r.field ∷ []) ∷ []) rows
unfolding open-fields digits case_number altered names_at told refused_as rows
fields-refused = refl
