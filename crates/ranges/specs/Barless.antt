-- What is read of an edition before 5 has one busbar: every set on bar 0, a limit of 0, and no flow.
use Rattle.std.specs.Prelude.{◌≡◌, refl, Bool, true, false, List, ℕ, ◌≤◌, length, ℤ}
use Rattle.std.proofs.Common.{sym, ◌∙◌, arith}
use Rattle.std.proofs.Math.IntN.{nat_abs}
use Rattle.numbers.specs.Sum.{All}
use Rattle.layouts.specs.Layout.{nat, list, figure, count_of, passes}
use Rattle.layouts.specs.Since.{has}
use Rattle.layouts.specs.Sure.{Sure, Any, nat-sure, int-sure, list-sure, held-sure, then-sure, whole-sure, weaken-sure}
use Rattle.model.specs.Case.{Device, System, Plan, no_link, no_flow}
use Rattle.model.specs.Editions.{Largest, most_devices, most_intervals, most_states, most_windows}
use Rattle.model.specs.ByEdition as B
use Rattle.model.specs.ByEdition.{Stated, stated_in, planned_in}
use Rattle.ranges.specs.Ranges.{CellRange, CellPriceRange, ZoneRange, KindsRange, SettingRange, pair-sure, counted-sure, apart-sure, figure-sure, eight-sure, head-sure, costs-sure}
use Rattle.ranges.specs.Ranges.{start-sure, energy-sure, link-sure, no-line, since-sure, cell-sure, some-sure, zone-sure, counts-sure, content-sure, setting-sure}
use Rattle.ranges.specs.Plain.{absent}

abbrev pub DeviceBarless : Device → Type 0
DeviceBarless d = d.bar ≡ 0

pub record SystemBarless (q : System) : Type 0 where
  pub devices : All DeviceBarless q.devices
  pub link_limit : q.link_limit ≡ 0

pub record PlanBarless (p : Plan) : Type 0 where
  pub flows : All (λ z. z ≡ no_flow) p.flows

module _ (e : ℕ) (h : has 5 e ≡ false) where
  device-barless : (intervals zones last : ℕ) → Sure (B.device e intervals zones last) (λ v. DeviceBarless v.0 × Any v.1)
  unfolding B.device_by
  device-barless n zones last = held-sure _ _ _ _ _
      (pair-sure _ _ _ _ (head-sure zones)
      (pair-sure _ _ _ _ costs-sure
      (pair-sure _ _ _ _ (eight-sure _ _ (figure-sure 17 0 100000))
      (pair-sure _ _ _ _ (apart-sure _ most_states (λ x. x ≤ 60000) (λ z. nat_abs z ≤ 1000000000)
      (counted-sure (count_of 3 0 most_states) _ _ (pair-sure _ _ _ _ (figure-sure 16 0 60000) (int-sure 31 1000000000))))
      (pair-sure _ _ _ _ (counted-sure (count_of 3 0 most_windows) _ _ (start-sure e last))
      (pair-sure _ _ _ _ (counted-sure (count_of 3 0 most_windows) _ _ (energy-sure last))
      (pair-sure _ _ _ _ (since-sure e 2 no_link B.link _ link-sure (record { kind = omega arith; upper = no-line; lower = no-line }))
      (pair-sure _ _ _ _ (absent 5 e h 0 B.bar)
      (some-sure n (B.cell e) CellRange CellPriceRange (cell-sure e))))))))))
      (λ v ok. (ok.1.1.1.1.1.1.1.0, tt))

  content-barless : (l : Largest) → Sure (B.content e l) (λ c. SystemBarless c.system)
  unfolding B.content_by
  content-barless l = held-sure _ _ _ _ _
      (then-sure (B.counts e l) _ _ _ (counts-sure e l) (λ n.
      pair-sure _ _ _ _ (figure-sure 14 1 10000) (pair-sure _ _ _ _ (figure-sure 14 1 10000) (pair-sure _ _ _ _ (absent 5 e h 0 B.link_limit)
      (then-sure (list n.intervals (figure 8 1 180)) _ _ _ (list-sure _ _ _ (figure-sure 8 1 180)) (λ halves.
      pair-sure _ _ _ _ (some-sure n.zones _ ZoneRange KindsRange (zone-sure e n.intervals))
      (some-sure n.devices _ DeviceBarless Any (device-barless n.intervals n.zones _))))))))
      (λ v ok. record { devices = ok.1.1.1.1.1.1.1; link_limit = ok.1.1.1.0 })

  planned-sure : (devices intervals : ℕ) → Sure (B.plan_layout e devices intervals) PlanBarless
  unfolding B.plan_by
  planned-sure devices intervals = held-sure _ _ _ _ _
      (pair-sure _ _ _ _ (nat-sure _) (pair-sure _ _ _ _ (nat-sure _) (pair-sure _ _ _ _ (nat-sure _) (pair-sure _ _ _ _ (nat-sure _)
      (some-sure intervals (B.planned e devices) _ _ (pair-sure _ _ _ _ (list-sure _ (B.setting e) SettingRange (setting-sure e)) (absent 5 e h no_flow B.flow)))))))
      (λ v ok. record { flows = ok.1.1.1.1.2 })

  -- a plan of such an edition
  pub planned-barless : (q : System) (s : List ℕ) (p : Plan) → planned_in e q s ≡ passes p → PlanBarless p
  unfolding planned_in
  planned-barless q s p g = whole-sure _ PlanBarless (planned-sure (length q.devices) (length q.halves)) s p g

-- a case of such an edition, by any reader that takes no more than the most
module _ (l : Largest) (most : l.devices ≤ most_devices) (long : l.intervals ≤ most_intervals) where
  abbrev Older : Stated → Type 0
  Older x = has 5 x.edition ≡ false → SystemBarless x.case.system

  by-edition : (e : ℕ) → Sure (B.content e l) (λ c. has 5 e ≡ false → SystemBarless c.system)
  by-edition e = go (has 5 e) refl
    where
      go : (b : Bool) → has 5 e ≡ b → Sure (B.content e l) (λ c. has 5 e ≡ false → SystemBarless c.system)
      go false h = weaken-sure (B.content e l) _ _ (content-barless e h l) (λ c ok _. ok)
      go true h = weaken-sure (B.content e l) _ _ (content-sure l most long e) (λ c ok g. absurd (let t : true ≡ false = sym h ∙ g in let z : ◌≡◌ {A = ℕ} 0 1 = cc in omega arith))

  stated-sure : Sure (B.case_layout l) Older
  unfolding B.case_layout
  stated-sure = held-sure _ _ _ _ _ (pair-sure _ _ _ _ (nat-sure _) (then-sure (nat B.edition_field) _ _ _ (nat-sure B.edition_field) (λ e. by-edition e))) (λ v ok. ok.1.1)

  pub stated-barless : (s : List ℕ) (x : Stated) → stated_in l s ≡ passes x → has 5 x.edition ≡ false → SystemBarless x.case.system
  unfolding stated_in
  stated-barless s x h = whole-sure (B.case_layout l) Older stated-sure s x h
