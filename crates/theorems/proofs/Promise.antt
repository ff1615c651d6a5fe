-- The three promises, on messages: what judging the bytes of a case and a plan gives back, for any bytes and any result buffer.
use Rattle.std.specs.Prelude.{◌≡◌, Bool, true, false, List, ◌++◌, ℕ, zero, suc, ◌+◌, ◌-◌, ◌*◌, ◌^◌, ◌≤◌, ◌<◌, get_or, drop, ℤ, pos, negsuc}
use Rattle.std.proofs.Math.Path.{refl, ap, subst}
use Rattle.std.proofs.Common.{sym, ◌∙◌, mul-le-mul, length-append}
use native.Mathlib.Omega.{arith}
use Rattle.std.proofs.Math.ListN.{length, take}
use Rattle.std.proofs.Math.Seq.{take_at, drop_at}
use Rattle.std.proofs.Math.IntN.{nat_abs}
use Rattle.numbers.specs.Sum.{All, all_map}
use Rattle.numbers.specs.Gather.{gather-size}
use Rattle.numbers.specs.Ranges.{sum-few}
use Rattle.layouts.specs.declared.Fault.{Fault}
use Rattle.model.specs.declared.Verdict.{Verdict}
use Rattle.model.specs.declared.Verdict.TheVariants.{Accepted}
use Rattle.model.specs.Case.{Case, Plan, no_kinds, no_reactive_reserves, no_device_prices, no_cell_prices}
use Rattle.model.specs.Forced.{intervals, devices, zones, device}
use Rattle.model.specs.Completion as C
use Rattle.model.specs.Ours.{ours}
use Rattle.model.specs.Rules.{EveryRule}
use Rattle.bits.specs.Twos.{to_twos}
use Rattle.layouts.specs.Numbers.{Tells, fails-tells}
use Rattle.layouts.specs.Layout.{Layout, Field, nat, int, ◌then◌, ◌▸◌, list, held, read_whole, Whole, passes, fails, bytes, any}
use Rattle.model.specs.Messages as M
use Rattle.model.specs.Messages.{Counts, no_bars, Written}
use Rattle.model.specs.Editions.{newest, Largest, device_bits, interval_bits, most_devices, most_intervals, most_zones, most_windows}
use Rattle.model.specs.Widths.{bounded}
use Rattle.model.specs.ByEdition as B
use Rattle.model.specs.ByEdition.{Stated, stated_in, planned_in}
use Rattle.model.specs.Judgement.{Judged, judged, verdict, buffer_after, with_plan, with_case, read_plan, judgement, written, counts_of, completion_in, energy_windows, our_surplus, completion_bytes}
use Rattle.layouts.specs.Trip.{Fits, length-bits}
use Rattle.theorems.specs.Back.{FitsDevice, FitsInterval, FitsSix, FitsKinds, FitsWritten, Countable}
use Rattle.theorems.proofs.Back.{completed-back}
use Rattle.layouts.specs.Since.{has, present, nothing}
use Rattle.layouts.specs.Sure.{Any, sure-checked}
use Rattle.ranges.specs.Plain.{stated-plain, planned-plain}
use Rattle.ranges.specs.Barless.{stated-barless, planned-barless}
use Rattle.theorems.specs.Barless.{Lacks}
use Rattle.ranges.specs.Ranges.{PricesRange, KindsRange, DevicePriceRange, CellPriceRange, CaseRange, Taken, PlanRange, stated-sure, stated-range, planned-sure}
use Rattle.theorems.specs.Sizes.{PriceRange, most_price, most_shortfall_price, most_change, most_blocks, surplus_limit, floored}
use Rattle.theorems.proofs.Sizes.{fits, surplus-size, device-at}
use Rattle.numbers.specs.Every.{all-or}
use Rattle.refusals.proofs.Refusals.{case-refusal, plan-refusal}
use Rattle.theorems.specs.Theorem.{apart}
use Rattle.theorems.specs.OfEdition.{RightOf, right_of}
use Rattle.theorems.proofs.Chosen.{holds-ours}
use Rattle.theorems.specs.Promise.{PlanPromise, Promise, Sized, Sound, Wrote, c, plan-in, plan_of, right, untouched}

-- ---- prices by index
module _ (c : Case) (r : PricesRange c.prices) where
  pub kinds-at : (z : ℕ) → KindsRange (get_or c.prices.zones z no_kinds)
  kinds-at z = all-or KindsRange no_kinds (record { six = omega arith; reactive = omega arith }) c.prices.zones r.zones z

  pub prices-at : (i : ℕ) → DevicePriceRange (C.device_prices c i)
  prices-at i = all-or DevicePriceRange no_device_prices (record { on = omega arith; start = omega arith; stop = omega arith; states = tt; cells = tt }) c.prices.devices r.devices i

  pub cell-prices-at : (t i : ℕ) → CellPriceRange (C.cell_prices c t i)
  cell-prices-at t i = all-or CellPriceRange no_cell_prices (record { blocks = tt; reserves = omega arith; reactive = omega arith }) (C.device_prices c i).cells (prices-at i).cells t

  pub state-at : (i : ℕ) (z : ℤ) → nat_abs (C.state_cost c i z) ≤ most_change
  unfolding C.state_cost
  state-at i (pos zero) = omega arith
  state-at i (pos (suc k)) = all-or (λ z. nat_abs z ≤ most_change) (pos 0) (omega arith) (C.device_prices c i).state_costs (prices-at i).states k
  state-at i (negsuc k) = omega arith

  pub shortfall-at : (z : ℕ) (k : C.Shortfall) → C.shortfall_price (get_or c.prices.zones z no_kinds).six k ≤ most_shortfall_price
  shortfall-at z C.rgu = (kinds-at z).six.rgu
  shortfall-at z C.rgd = (kinds-at z).six.rgd
  shortfall-at z C.scr = (kinds-at z).six.scr
  shortfall-at z C.nsc = (kinds-at z).six.nsc
  shortfall-at z C.rru = (kinds-at z).six.rru
  shortfall-at z C.rrd = (kinds-at z).six.rrd

  pub price-range : PriceRange c
  price-range = record {
    mismatch = r.mismatch;
    overrun = r.overrun;
    shortfall = shortfall-at;
    reactive_shortfall = λ z. (kinds-at z).reactive;
    on = λ i. (prices-at i).on;
    start = λ i. (prices-at i).start;
    stop = λ i. (prices-at i).stop;
    state = state-at;
    block = λ t i k. all-or (λ z. nat_abs z ≤ most_price) (pos 0) (omega arith) (C.cell_prices c t i).blocks (cell-prices-at t i).blocks k;
    reserve = λ t i. (cell-prices-at t i).reserves;
    reactive_reserve = λ t i. (cell-prices-at t i).reactive;
  }

pub fits-64 : (z : ℤ) → nat_abs z < surplus_limit → Fits 64 z
fits-64 (pos v) h = omega arith
fits-64 (negsuc v) h = omega arith

nat-sized : (f : Field) (P : ℕ → Type 0) → Sized (nat f) P f.width
unfolding nat
nat-sized f P = record { size = λ a ok. omega (arith, length-bits f.width a) }

pair-sized : {A B : Type 0} (l : Layout A) (m : Layout B) (P : A → Type 0) (Q : B → Type 0) (j k : ℕ) → Sized l P j → Sized m Q k → Sized (l ▸ m) (λ x. P x.0 × Q x.1) (j + k)
unfolding ◌then◌
pair-sized l m P Q j k u v = record { size = λ x ok. omega (arith, length-append (l.write x.0) (m.write x.1), u.size x.0 ok.0, v.size x.1 ok.1) }

-- at most m of them
list-sized : {A : Type 0} (k m : ℕ) (l : Layout A) (P : A → Type 0) (n : ℕ) → Sized l P n → Sized (list k l) (λ xs. (length xs ≤ m) × All P xs) (m * n)
unfolding list
list-sized k m l P n u = record { size = λ xs ok. omega (arith, gather-size l.write n xs (all_map (λ a k. u.size a k) xs ok.1), mul-le-mul ok.0 (same n)) }
  where
    same : (n : ℕ) → n ≤ n
    same n = omega arith

held-sized : {A B : Type 0} (to : A → B) (from : B → A) (l : Layout A) (P : A → Type 0) (Q : B → Type 0) (n : ℕ) → Sized l P n → ((b : B) → Q b → P (from b)) → Sized (held to from l) Q n
unfolding held
held-sized to from l P Q n u h = record { size = λ b ok. u.size (from b) (h b ok) }

-- the widths of a completion's parts, in bits
abbrev shortfalls_width : ℕ
shortfalls_width = 33 + (33 + (33 + (33 + (33 + 33))))

-- of real power, then of reactive power where there is any
abbrev zone_width : ℕ
zone_width = shortfalls_width + (33 + 33)

abbrev blocks_width : ℕ
blocks_width = most_blocks * 17

abbrev device_width : ℕ
device_width = 1 + (1 + (3 + blocks_width))

-- a mismatch for each bar
abbrev bars_width : ℕ
bars_width = 23 + 23

abbrev interval_width : ℕ
interval_width = most_devices * device_width + (most_zones * zone_width + (bars_width + bars_width))

abbrev front_width : ℕ → ℕ
front_width e = 4 + (4 + (device_bits e + (interval_bits e + 3)))

-- overruns and surplus
abbrev end_width : ℕ
end_width = most_devices * most_windows * 32 + 64

abbrev completion_width : ℕ → ℕ
completion_width e = front_width e + (most_intervals * interval_width + end_width)

six-sized : Sized (M.six (any 33)) FitsSix shortfalls_width
unfolding M.six
six-sized = let u = nat-sized _ Any in held-sized _ _ _ _ _ _
    (pair-sized _ _ _ _ _ _ u (pair-sized _ _ _ _ _ _ u (pair-sized _ _ _ _ _ _ u (pair-sized _ _ _ _ _ _ u (pair-sized _ _ _ _ _ _ u u))))) (λ b ok. (tt, (tt, (tt, (tt, (tt, tt))))))

-- what an edition has or lacks
present-sized : {A : Type 0} (b : Bool) (neutral : A) (l : Layout A) (n : ℕ) → Sized l Any n → Sized (present b neutral l) Any n
unfolding present nothing
present-sized true neutral l n u = u
present-sized false neutral l n u = record { size = λ a ok. omega arith }

two_sized : Sized B.reactive_choice Any (33 + 33)
unfolding B.reactive_choice
two_sized = let u = nat-sized _ Any in held-sized _ _ _ _ _ _ (pair-sized _ _ _ _ _ _ u u) (λ b ok. (tt, tt))

zone-sized : (e : ℕ) → Sized (B.zone_choice e) (FitsKinds e) zone_width
unfolding B.zone_choice
zone-sized e = held-sized _ _ _ _ _ _ (pair-sized _ _ _ _ _ _ six-sized (present-sized (has 2 e) no_reactive_reserves B.reactive_choice (33 + 33) two_sized)) (λ b ok. (ok.six, tt))

bars-sized : (e : ℕ) → Sized (B.bars_choice e) Any bars_width
unfolding B.bars_choice
bars-sized e = held-sized _ _ _ _ _ _ (pair-sized _ _ _ _ _ _ (nat-sized _ Any) (present-sized (has 5 e) 0 (any 23) 23 (nat-sized _ Any))) (λ b ok. (tt, tt))

device-sized : Sized M.device_choice FitsDevice device_width
unfolding M.device_choice
device-sized = held-sized _ _ _ _ _ _
    (pair-sized _ _ _ _ _ _ (nat-sized _ Any) (pair-sized _ _ _ _ _ _ (nat-sized _ Any) (pair-sized _ _ _ _ _ _ (nat-sized _ Any)
    (list-sized 4 most_blocks _ (λ b. b ≤ 2 ^ 17 - 1) _ (nat-sized _ _)))))
    (λ b ok. (tt, (tt, (tt, (omega (arith, ok.four), ok.blocks)))))

-- at most so many devices, intervals, zones and energy windows
module _ (e : ℕ) (n : Counts) (d : n.devices ≤ most_devices) (i : n.intervals ≤ most_intervals) (z : n.zones ≤ most_zones) where
  interval-sized : Sized (B.interval_choice e n.devices n.zones) (FitsInterval e n) interval_width
  unfolding B.interval_choice
  interval-sized = held-sized _ _ _ _ _ _
      (pair-sized _ _ _ _ _ _ (list-sized _ most_devices _ FitsDevice device_width device-sized) (pair-sized _ _ _ _ _ _ (list-sized _ most_zones _ (FitsKinds e) zone_width (zone-sized e))
      (pair-sized _ _ _ _ _ _ (bars-sized e) (present-sized (has 2 e) no_bars (B.bars_choice e) bars_width (bars-sized e)))))
      (λ b ok. ((omega (arith, ok.each), ok.devices), ((omega (arith, ok.every), ok.zones), (tt, tt))))

  front-sized : Sized (B.completion_front e n) Any (front_width e)
  unfolding B.completion_front_by
  front-sized = held-sized _ _ _ _ _ _
      (pair-sized _ _ _ _ _ _ (nat-sized _ Any) (pair-sized _ _ _ _ _ _ (nat-sized _ Any) (pair-sized _ _ _ _ _ _ (nat-sized _ Any) (pair-sized _ _ _ _ _ _ (nat-sized _ Any) (nat-sized _ Any)))))
      (λ b ok. (tt, (tt, (tt, (tt, tt)))))

  int-sized : (w most : ℕ) → Sized (int w most) Any w
  unfolding int
  int-sized w most = record { size = λ z ok. omega (arith, length-bits w (to_twos w z)) }

  pub completion-sized : (windows : ℕ) → windows ≤ most_devices * most_windows → Sized (B.completion_layout e n windows) (FitsWritten e n windows) (completion_width e)
  unfolding B.completion_by
  completion-sized windows w = held-sized _ _ _ _ _ _
      (pair-sized _ _ _ _ _ _ front-sized (pair-sized _ _ _ _ _ _ (list-sized _ most_intervals _ (FitsInterval e n) interval_width interval-sized)
      (pair-sized _ _ _ _ _ _ (list-sized _ (most_devices * most_windows) _ (λ x. x ≤ 2 ^ 32 - 1) _ (nat-sized _ _)) (int-sized 64 _))))
      (λ b k. (tt, ((omega (arith, k.length), k.each), ((omega (arith, k.count), k.overruns), tt))))

-- ---- our completion of every edition
module _ (c : Case) (p : Plan) (g : CaseRange c) (rp : PlanRange c.system p) (ok : EveryRule c.system p) where
  abbrev our : Written
  our = written c.system (ours c p) (our_surplus c p)

  pub small-surplus : nat_abs (our_surplus c p) < surplus_limit
  small-surplus = surplus-size c p g.system rp ok (price-range c g.prices)

  -- an edition that lacks reactive power knows none
  pub our-fits : (e : ℕ) → Lacks e c.system p → FitsWritten e (counts_of c.system) (energy_windows c.system) our
  our-fits e plain = let small = small-surplus in fits c p g.system rp ok e plain (fits-64 (our_surplus c p) small) (omega arith)

  pub our-size : (e : ℕ) → Lacks e c.system p → length ((completion_in e c.system).write our) ≤ completion_width e
  unfolding energy_windows
  our-size e plain = (completion-sized e (counts_of c.system) g.system.devices g.system.intervals g.system.zones (energy_windows c.system)
      (sum-few (λ i. length (device c.system i).energy_windows) most_windows (devices c.system) most_devices g.system.devices
      (λ i m. (device-at c.system p g.system rp ok i m).energies))
      ).size our (our-fits e plain)

  -- "exactly the completion's bytes": they read back as our completion with the surplus reported, in every edition whose fields hold the case's counts
  pub our-back : (e : ℕ) → Lacks e c.system p → Countable e (counts_of c.system) → read_whole (completion_in e c.system) (bytes ((completion_in e c.system).write our)) ≡ passes our
  our-back e plain k = completed-back e (counts_of c.system) (energy_windows c.system) k our (our-fits e plain)
      (let n = our-size e plain in omega (arith, (bounded e).device_bits, (bounded e).interval_bits))

-- the counts of a case that a reader takes fit their fields
taken-countable : (e : ℕ) (l : Largest) (c : Case) → e ≤ newest → Taken e l c → Countable e (counts_of c.system)
taken-countable e l c h g = record {
  edition = omega arith;
  devices = omega (arith, g.devices, (bounded e).devices);
  intervals = omega (arith, g.intervals, (bounded e).intervals);
  zones = omega (arith, g.range.system.zones);
}

-- what any reader takes is, if it takes no more than the most
pub stated-sound : (l : Largest) → l.devices ≤ most_devices → l.intervals ≤ most_intervals → (s : List ℕ) (x : Stated) → stated_in l s ≡ passes x → Sound x
stated-sound l most long s x e =
    let g = stated-range l most long s x e in
    record {
      range = g.case.range;
      countable = taken-countable x.edition l x.case g.edition.1 g.case;
      plain = stated-plain l most long s x e;
      barless = stated-barless l most long s x e;
    }

module _ (x : Stated) (ps : List ℕ) (p : Plan) (g : Sound x) (rp : read_plan x ps ≡ passes p) (room : ℕ) where
  lacking : Lacks x.edition (c x ps p g rp room).system p
  lacking = record {
    plain = λ h. (g.plain h, planned-plain x.edition h (c x ps p g rp room).system ps p rp);
    barless = λ h. (g.barless h, planned-barless x.edition h (c x ps p g rp room).system ps p rp);
  }

  right_by : RightOf x p (verdict x p room)
  right_by = right_of x p (floored (c x ps p g rp room).system p g.range.system (plan-in x ps p g rp room)) lacking room

  -- the bytes of an acceptance read back as our completion
  our-bytes : (z : ℤ) → verdict x p room ≡ Accepted z → read_whole (completion_in x.edition (c x ps p g rp room).system) (completion_bytes x p) ≡ passes (written (c x ps p g rp room).system (ours (c x ps p g rp room) p) (our_surplus (c x ps p g rp room) p))
  unfolding completion_bytes
  our-bytes z e = our-back (c x ps p g rp room) p g.range (plan-in x ps p g rp room) ((right x ps p g rp room).meets z e).rules x.edition
      lacking g.countable

  wrote_by : (z : ℤ) (before after : List ℕ) → verdict x p room ≡ Accepted z → after ≡ completion_bytes x p ++ drop (length (completion_bytes x p)) before → Wrote x p z before after
  unfolding our_surplus
  wrote_by z before after e h =
      let v = (right x ps p g rp room) in
      let t : take (length (completion_bytes x p)) after ≡ completion_bytes x p = ap (take (length (completion_bytes x p))) h ∙ take_at (completion_bytes x p) _ _ refl in
      let r : read_whole (completion_in x.edition (c x ps p g rp room).system) (take (length (completion_bytes x p)) after) ≡ passes (written (c x ps p g rp room).system (ours (c x ps p g rp room) p) z) =
      ap (read_whole (completion_in x.edition (c x ps p g rp room).system)) t ∙ our-bytes z e ∙ ap (λ (y : ℤ). passes (written (c x ps p g rp room).system (ours (c x ps p g rp room) p) y)) (v.surplus z e) in
      record {
        reads = r;
        bytes = t;
        holds = holds-ours x p z _ r (v.meets z e) (v.surplus z e);
        rest = ap (drop (length (completion_bytes x p))) h ∙ drop_at (completion_bytes x p) _ _ refl;
        size = rw (sym (v.surplus z e)) (small-surplus (c x ps p g rp room) p g.range (plan-in x ps p g rp room) (v.meets z e).rules);
      }

-- what judging a plan that passes reading leaves
judged-wrote : (x : Stated) (p : Plan) (z : ℤ) (before : List ℕ) → (judged x p before).verdict ≡ Accepted z → (judged x p before).result
    ≡ completion_bytes x p ++ drop (length (completion_bytes x p)) before
unfolding judged
judged-wrote x p z before e = ap (λ (v : Verdict). buffer_after v (completion_bytes x p) before) e

judged-verdict : (x : Stated) (p : Plan) (before : List ℕ) → (judged x p before).verdict ≡ verdict x p (length before)
unfolding judged
judged-verdict x p before = refl

-- only acceptance writes
judged-else : (x : Stated) (p : Plan) (before : List ℕ) → ((z : ℤ) → (judged x p before).verdict ≡ Accepted z → ⊥) → (judged x p before).result ≡ before
unfolding judged
judged-else x p before h = untouched (verdict x p (length before)) (completion_bytes x p) before h

plan-else : (x : Stated) (before : List ℕ) (r : Whole Plan) → ((z : ℤ) → (with_plan x before r).verdict ≡ Accepted z → ⊥) → (with_plan x before r).result ≡ before
plan-else x before (passes p) h = judged-else x p before h
plan-else x before (fails f) h = refl

-- what a plan's refusal tells
plan-tells : (x : Stated) (ps : List ℕ) (f : Fault) → read_plan x ps ≡ fails f → Tells (plan_of x) ps f
unfolding planned_in
plan-tells x ps f e = fails-tells (plan_of x) Any (sure-checked _ _ (planned-sure x.edition x.case.system)) ps f e

-- a plan's bytes against a case within its ranges
pub plan-promised : (x : Stated) → Sound x → (ps before : List ℕ) → PlanPromise x ps before (with_plan x before (read_plan x ps))
plan-promised x g ps before = record {
  plan-refused = λ f e. record { verdict = rw e refl; number = plan-tells x ps f e; untouched = rw e refl };
  plan-field = λ f e. plan-refusal x ps f e;
  judges = λ p e. rw e (judged-verdict x p before);
  right = λ p e. rw (e, judged-verdict x p before) (right x ps p g e (length before));
  right_of = λ p e. rw (e, judged-verdict x p before) (right_by x ps p g e (length before));
  wrote = λ p z e a.
      let j : with_plan x before (read_plan x ps) ≡ judged x p before = rw e refl in
      let v : (judged x p before).verdict ≡ Accepted z = ap (λ (j : Judged). j.verdict) (sym j) ∙ a in
      wrote_by x ps p g e (length before) z before _ (sym (judged-verdict x p before) ∙ v) (ap (λ (j : Judged). j.result) j ∙ judged-wrote x p z before v);
  broken-untouched = λ b e. plan-else x before (read_plan x ps) (λ z h. apart (cc));
  refused-untouched = λ s f e. plan-else x before (read_plan x ps) (λ z h. apart (cc));
}

-- any reader that takes no more than the most
module _ (l : Largest) (most : l.devices ≤ most_devices) (long : l.intervals ≤ most_intervals) where
  pub case-tells : (cs : List ℕ) (f : Fault) → stated_in l cs ≡ fails f → Tells (B.case_layout l) cs f
  unfolding stated_in
  case-tells cs f e = fails-tells (B.case_layout l) Any (sure-checked _ _ (stated-sure l most long)) cs f e

  pub promised : (cs ps before : List ℕ) → Promise l cs ps before (judgement l cs ps before)
  unfolding judgement
  promised cs ps before = record {
    case-refused = λ f e. record { verdict = rw e refl; number = case-tells cs f e; untouched = rw e refl };
    case-field = λ f e. case-refusal l cs f e;
    case-passed = λ x e. subst (PlanPromise x ps before) (sym (ap (with_case ps before) e)) (plan-promised x (stated-sound l most long cs x e) ps before);
  }
