-- No message of a case that passes reading has more figures than are told.
use Rattle.std.specs.Prelude.{◌≡◌, refl, Bool, true, false, List, ◌++◌, ℕ, ◌*◌, ◌≤◌, leb, length, drop}
use Rattle.std.proofs.Common.{◌∙◌, arith}
use Rattle.bits.specs.Pick.{pick}
use Rattle.layouts.specs.Layout.{Whole, passes, fails}
use Rattle.numbers.specs.Base.{up_to}
use Rattle.numbers.specs.Every.{all-at, length-range, sum_bound, all-up_to}
use Rattle.model.specs.Case.{System, no_device}
use Rattle.model.specs.Forced.{devices, device}
use Rattle.model.specs.Editions.{Largest, most_devices, most_intervals, most_windows}
use Rattle.model.specs.ByEdition.{Stated, stated_in}
use Rattle.model.specs.Judgement.{counts_of, energy_windows}
use Rattle.ranges.specs.Ranges.{SystemRange, DeviceRange}
use Rattle.theorems.proofs.Promise.{stated-sound}
use Rattle.completion_reading.specs.declared.Reading.TheVariants.{Figures, Short}
use Rattle.completion_reading.specs.Readers.{desk_in, market_in}
use Rattle.completion_reading.specs.Figures.{figures_in, Few, Readings, tabled, lent_case, readings}
use Rattle.completion_reading.specs.Flat.{body-few}
use Rattle.completion_reader.specs.Whole.{figures_by, figures-long}

-- the figures by a case's own counts
pub by-counts : (desk : Bool) (e : ℕ) (q : System) (s : List ℕ) → figures_by desk e (counts_of q) (energy_windows q) s ≡ figures_in desk e q s
unfolding desk_in market_in
by-counts true e q s = refl
by-counts false e q s = refl

-- 7 is of figures that were read
short-of : (w : Whole (List ℕ)) (before : List ℕ) (k : ℕ) → (tabled w before).answer ≡ Short k → (vs : List ℕ) × ((w ≡ passes vs) × (length vs ≡ k))
short-of (fails f) before k e = absurd (let z : ◌≡◌ {A = ℕ} 0 1 = cc in omega arith)
short-of (passes vs) before k e = (vs, (refl, go (leb (length vs) (length before)) e))
  where
    go : (b : Bool) → (pick {A = Readings} b (record { answer = Figures (length vs); table = vs ++ drop (length vs) before })
        (record { answer = Short (length vs); table = before })).answer ≡ Short k → length vs ≡ k
    go true e = absurd (let z : ◌≡◌ {A = ℕ} 0 1 = cc in omega arith)
    go false e = cc

windows-few : (q : System) → SystemRange q → energy_windows q ≤ most_devices * most_windows
unfolding energy_windows
windows-few q r =
    let s = sum_bound (λ i. length (device q i).energy_windows) most_windows (up_to (devices q))
    (all-up_to _ (devices q) (λ i l. (all-at (DeviceRange (length q.halves)) no_device q.devices r.each_device i l).energies)) in
    omega (arith, s, length-range 0 (devices q), r.devices)

pub few-read : (desk : Bool) (e : ℕ) (q : System) → SystemRange q → (s before : List ℕ) → Few (tabled (figures_in desk e q s) before).answer
few-read desk e q r s before k w =
    let v = short-of (figures_in desk e q s) before k w in
    let long = figures-long desk e (counts_of q) (energy_windows q) s v.0 (by-counts desk e q s ∙ v.1.0) in
    let few = body-few desk e (counts_of q) (energy_windows q) r.devices r.intervals r.zones (windows-few q r) in
    omega (arith, long, few, v.1.1)

pub few-readings : (l : Largest) → l.devices ≤ most_devices → l.intervals ≤ most_intervals → (desk : Bool) (cs s before : List ℕ) → Few (readings l desk cs s before).answer
unfolding readings
few-readings l most long desk cs s before = go (stated_in l cs) refl
  where
    go : (w : Whole Stated) → stated_in l cs ≡ w → Few (lent_case desk s before w).answer
    go (fails f) e = λ k h. absurd (let z : ◌≡◌ {A = ℕ} 0 1 = cc in omega arith)
    go (passes x) e = few-read desk x.edition x.case.system (stated-sound l most long cs x e).range.system s before
