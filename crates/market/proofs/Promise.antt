-- What asking for the market's copy gives back, on messages: refusals and the first broken rule as a judgement's, 7 exactly where the buffer is short, and
-- bytes that a market reader reads back as the copy.
use Rattle.std.specs.Prelude.{◌≡◌, refl, ◌↔◌, Bool, true, false, List, [], ◌∷◌, ℕ, ◌≤◌, ◌<◌, leb, take}
use Rattle.std.proofs.Common.{sym, ◌∙◌, leb-true, leb-false}
use Rattle.std.proofs.Math.Path.{ap}
use native.Mathlib.Omega.{arith}
use Rattle.std.proofs.Math.ListN.{length}
use Rattle.numbers.specs.Ranges.{sum-few}
use Rattle.bits.specs.Pick.{pick}
use Rattle.layouts.specs.declared.Fault.{Fault}
use Rattle.layouts.specs.declared.Fault.TheVariants.{TooShort}
use Rattle.layouts.specs.Layout.{passes, fails, read_whole}
use Rattle.model.specs.declared.Breach.{Breach}
use Rattle.model.specs.declared.Subject.{Subject}
use Rattle.model.specs.declared.Subject.TheVariants as S
use Rattle.model.specs.declared.Verdict.TheVariants as Y
use Rattle.model.specs.Case.{System, Plan, Case}
use Rattle.model.specs.Forced.{devices, device}
use Rattle.model.specs.Breaches.{breaches}
use Rattle.model.proofs.Named.{none-every}
use Rattle.model.specs.Rules.{EveryRule}
use Rattle.model.specs.Editions.{Largest, most_devices, most_intervals, most_windows}
use Rattle.model.specs.ByEdition.{Stated, stated_in}
use Rattle.model.specs.Ours.{ours}
use Rattle.model.specs.Judgement.{counts_of, energy_windows, written, our_surplus, read_plan, accepts, verdict, completion_in, completion_bytes}
use Rattle.model.specs.Judgement as J
use Rattle.ranges.specs.Ranges.{PlanRange, planned-range}
use Rattle.ranges.specs.Plain.{planned-plain}
use Rattle.ranges.specs.Barless.{planned-barless}
use Rattle.theorems.proofs.Sizes.{device-at}
use Rattle.theorems.specs.Promise.{Sound}
use Rattle.theorems.proofs.Promise.{stated-sound, our-fits, our-size, our-back}
use Rattle.theorems.specs.Barless.{Lacks}
use Rattle.layouts.specs.Trip.{length-bytes}
use Rattle.model.specs.Widths.{bounded}
use Rattle.market.specs.declared.Copying.{Copying}
use Rattle.market.specs.declared.Copying.TheVariants.{Copied, Broken, Refused}
use Rattle.market.specs.Copy.{copy_of, copy_in, copy_bytes, unless_broken, copying, copy_after, Copies, copied_plan, market_copy}
use Rattle.market.specs.Blind.{blind}
use Rattle.market.proofs.Blind.{copy-shown, copied-first, blind-elsewhere}
use Rattle.writing.specs.Again.{Fit}
use Rattle.market.specs.Back.{FitsCopy, Few}
use Rattle.market.proofs.Back.{shown-fits, copy-fits, copy-back}
use Rattle.market.specs.Promise.{MarketPromise, PairCopied}

-- ---- the answer

-- it is broken with the same place as the judgement, whatever the buffers
pub broken-alike : (x : Stated) (p : Plan) (room space : ℕ) (b : Breach) → (verdict x p room ≡ Y.Broken b) ↔ (copying x.edition x.case.system p space ≡ Broken b)
unfolding verdict accepts copying
broken-alike x p room space b = go (breaches x.case.system p) (leb (length (completion_bytes x p)) room) (leb (length (copy_bytes x.edition x.case.system p)) space)
  where
    go : (bs : List Breach) (c d : Bool)
        → (J.unless_broken bs (pick c (Y.Accepted (our_surplus x.case p)) (Y.Refused S.Result (TooShort (length (completion_bytes x p))))) ≡ Y.Broken b)
        ↔ (unless_broken bs (pick d (Copied (length (copy_bytes x.edition x.case.system p))) (Refused S.Result (TooShort (length (copy_bytes x.edition x.case.system p))))) ≡ Broken b)
    go [] true true = (λ e. absurd (let z : ◌≡◌ {A = ℕ} 0 1 = cc in omega arith), λ e. absurd (let z : ◌≡◌ {A = ℕ} 0 1 = cc in omega arith))
    go [] true false = (λ e. absurd (let z : ◌≡◌ {A = ℕ} 0 1 = cc in omega arith), λ e. absurd (let z : ◌≡◌ {A = ℕ} 0 1 = cc in omega arith))
    go [] false true = (λ e. absurd (let z : ◌≡◌ {A = ℕ} 0 1 = cc in omega arith), λ e. absurd (let z : ◌≡◌ {A = ℕ} 0 1 = cc in omega arith))
    go [] false false = (λ e. absurd (let z : ◌≡◌ {A = ℕ} 0 1 = cc in omega arith), λ e. absurd (let z : ◌≡◌ {A = ℕ} 0 1 = cc in omega arith))
    go (a ∷ bs) c d = (λ e. let g : a ≡ b = cc in ap Broken g, λ e. let g : a ≡ b = cc in ap Y.Broken g)

-- a copy is written only of a plan that breaks no rule, and only where it fits
pub copied-only : (e : ℕ) (q : System) (p : Plan) (room n : ℕ) → copying e q p room ≡ Copied n → (breaches q p ≡ []) × (n ≤ room)
unfolding copying
copied-only e q p room n k = go (breaches q p) (leb (length (copy_bytes e q p)) room) refl refl k
  where
    go : (bs : List Breach) (c : Bool) → breaches q p ≡ bs → leb (length (copy_bytes e q p)) room ≡ c
        → unless_broken bs (pick c (Copied (length (copy_bytes e q p))) (Refused S.Result (TooShort (length (copy_bytes e q p))))) ≡ Copied n → (breaches q p ≡ []) × (n ≤ room)
    go [] true h i k = (h, let m : length (copy_bytes e q p) ≡ n = cc in omega (arith, leb-true (length (copy_bytes e q p)) room i))
    go [] false h i k = absurd (let z : ◌≡◌ {A = ℕ} 0 1 = cc in omega arith)
    go (a ∷ bs) c h i k = absurd (let z : ◌≡◌ {A = ℕ} 0 1 = cc in omega arith)

-- 7 with the bytes needed, exactly where they do not fit
pub short-only : (e : ℕ) (q : System) (p : Plan) (room : ℕ) (s : Subject) (f : Fault) → copying e q p room ≡ Refused s f
    → (s ≡ S.Result) × (f ≡ TooShort (length (copy_bytes e q p))) × (room < length (copy_bytes e q p))
unfolding copying
short-only e q p room s f k = go (breaches q p) (leb (length (copy_bytes e q p)) room) refl k
  where
    go : (bs : List Breach) (c : Bool) → leb (length (copy_bytes e q p)) room ≡ c
        → unless_broken bs (pick c (Copied (length (copy_bytes e q p))) (Refused S.Result (TooShort (length (copy_bytes e q p))))) ≡ Refused s f
        → (s ≡ S.Result) × (f ≡ TooShort (length (copy_bytes e q p))) × (room < length (copy_bytes e q p))
    go [] true i k = absurd (let z : ◌≡◌ {A = ℕ} 0 1 = cc in omega arith)
    go [] false i k = (cc, cc, leb-false _ _ i)
    go (a ∷ bs) c i k = absurd (let z : ◌≡◌ {A = ℕ} 0 1 = cc in omega arith)

-- ---- its bytes
module _ (x : Stated) (g : Sound x) (ps : List ℕ) (p : Plan) (rp : read_plan x ps ≡ passes p) where
  abbrev q : System
  q = x.case.system

  plan-in : PlanRange q p
  plan-in = planned-range x.edition q ps p rp

  few : EveryRule q p → Few (counts_of q) (energy_windows q)
  unfolding energy_windows
  few ok = record {
    devices = g.range.system.devices;
    intervals = g.range.system.intervals;
    zones = g.range.system.zones;
    overruns = sum-few (λ i. length (device q i).energy_windows) most_windows (devices q) most_devices g.range.system.devices (λ i m. (device-at q p g.range.system plan-in ok i m).energies);
  }

  figures-fit : EveryRule q p → FitsCopy x.edition (counts_of q) (energy_windows q) (copy_of q p)
  figures-fit ok = rw (sym (copy-shown x.case p (our_surplus x.case p))) (shown-fits x.edition (counts_of q) (energy_windows q) _
      (our-fits x.case p g.range plan-in ok x.edition (record {
        plain = λ h. (g.plain h, planned-plain x.edition h q ps p rp);
        barless = λ h. (g.barless h, planned-barless x.edition h q ps p rp);
      })))

  -- they fit the copy's fields, in so many bits at most
  pub copy-fit : EveryRule q p → Fit (copy_in x.edition q) 130713 (copy_of q p)
  copy-fit ok = copy-fits x.edition (counts_of q) (energy_windows q) g.countable (few ok) (copy_of q p) (figures-fit ok)

  lacks : Lacks x.edition q p
  lacks = record {
    plain = λ h. (g.plain h, planned-plain x.edition h q ps p rp);
    barless = λ h. (g.barless h, planned-barless x.edition h q ps p rp);
  }

  -- no completion takes more bytes
  pub completion-bound : EveryRule q p → length (completion_bytes x p) ≤ 70876
  unfolding completion_bytes
  completion-bound ok = omega (
    arith,
    length-bytes ((completion_in x.edition q).write (written q (ours x.case p) (our_surplus x.case p))),
    our-size x.case p g.range plan-in ok x.edition lacks,
    (bounded x.edition).device_bits,
    (bounded x.edition).interval_bits,
  )

  -- the desk reads the completion back
  pub desk-read : EveryRule q p → read_whole (completion_in x.edition q) (completion_bytes x p) ≡ passes (written q (ours x.case p) (our_surplus x.case p))
  unfolding completion_bytes
  desk-read ok = our-back x.case p g.range plan-in ok x.edition lacks g.countable

  -- what is written reads back by the market's reader
  pub copy_read : EveryRule q p → read_whole (copy_in x.edition q) (copy_bytes x.edition q p) ≡ passes (copy_of q p)
  unfolding copy_bytes
  copy_read ok = copy-back x.edition (counts_of q) (energy_windows q) g.countable (few ok) (copy_of q p) (figures-fit ok)

  pub written_read : (before : List ℕ) (n : ℕ) → (copied_plan x.edition q p before).answer ≡ Copied n
      → read_whole (copy_in x.edition q) (take n (copied_plan x.edition q p before).result) ≡ passes (copy_of q p)
  unfolding copied_plan
  written_read before n k = ap (read_whole (copy_in x.edition q)) (copied-first x.edition q p before n k).0 ∙ copy_read (none-every q p (copied-only x.edition q p (length before) n k).0)

module _ (l : Largest) (most : l.devices ≤ most_devices) (long : l.intervals ≤ most_intervals) (cs ps before : List ℕ) where
  abbrev copied : Copies
  copied = market_copy l cs ps before

  off-case : (f : Fault) → stated_in l cs ≡ fails f → (copied.answer ≡ Refused S.Case f) × (copied.result ≡ before)
  unfolding market_copy
  off-case f h = rw h (refl, refl)

  off-plan : (x : Stated) (f : Fault) → stated_in l cs ≡ passes x → read_plan x ps ≡ fails f → (copied.answer ≡ Refused S.Plan f) × (copied.result ≡ before)
  unfolding market_copy
  off-plan x f h k = rw (h, k) (refl, refl)

  pair_of : (x : Stated) (p : Plan) → Sound x → read_plan x ps ≡ passes p → PairCopied x p before (copied_plan x.edition x.case.system p before)
  unfolding copied_plan
  pair_of x p g k = record {
    broken = λ b room. broken-alike x p room (length before) b;
    untouched = λ b e. ap (λ (r : Copying). copy_after r (copy_bytes x.edition x.case.system p) before) e;
    shows = λ n e. written_read x g ps p k before n e ∙ ap passes (sym (copy-shown x.case p (our_surplus x.case p)));
    rest = λ n e. (copied-first x.edition x.case.system p before n e).1;
    short = λ s f e. let i = short-only x.edition x.case.system p (length before) s f e in (
      i.0,
      i.1,
      i.2,
      ap (λ (r : Copying). copy_after r (copy_bytes x.edition
          x.case.system p) before) e,
    );
  }

  pairs : (x : Stated) (p : Plan) → stated_in l cs ≡ passes x → read_plan x ps ≡ passes p → PairCopied x p before copied
  unfolding market_copy
  pairs x p h k = rw (h, k) (pair_of x p (stated-sound l most long cs x h) k)

  pub market-promised : MarketPromise l cs ps before copied
  market-promised = record {
    case-refused = off-case;
    plan-refused = off-plan;
    copies = pairs;
    blind = λ ds rs x y h k s e. blind l cs ds ps rs before x y h k s e;
    elsewhere = λ ds rs other x y p h k s i j n. blind-elsewhere l cs ds ps rs before other x y p h k s i j n;
  }
