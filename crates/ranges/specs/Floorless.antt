-- A case of an edition before 3 has blocks without floors.
use Rattle.std.specs.Prelude.{◌≡◌, refl, Bool, true, false, List, ℕ, ◌≤◌}
use Rattle.std.proofs.Common.{sym, ◌∙◌, arith}
use Rattle.std.proofs.Math.IntN.{nat_abs}
use Rattle.numbers.specs.Sum.{All}
use Rattle.layouts.specs.Layout.{nat, list, ◌then◌, figure, count_of, passes}
use Rattle.layouts.specs.Since.{has}
use Rattle.layouts.specs.Sure.{Sure, Any, nat-sure, int-sure, list-sure, held-sure, then-sure, whole-sure, weaken-sure}
use Rattle.model.specs.Case.{Block, Cell, Device, System, Case, no_link}
use Rattle.model.specs.Editions.{Largest, most_devices, most_intervals, most_states, most_windows}
use Rattle.model.specs.Messages as M
use Rattle.model.specs.ByEdition as B
use Rattle.model.specs.ByEdition.{Stated, stated_in}
use Rattle.ranges.specs.Ranges.{ZoneRange, KindsRange, pair-sure, counted-sure, since-sure, tested-sure, apart-sure, figure-sure, eight-sure, reactive-cell-sure, head-sure}
use Rattle.ranges.specs.Ranges.{costs-sure, start-sure, energy-sure, no-line, link-sure, some-sure, bar-sure, limit-sure, zone-sure, counts-sure, content-sure}
use Rattle.ranges.specs.Plain.{absent}

abbrev pub BlockFloorless : Block → Type 0
BlockFloorless b = b.floor ≡ 0

abbrev pub CellFloorless : Cell → Type 0
CellFloorless c = All BlockFloorless c.blocks

abbrev pub DeviceFloorless : Device → Type 0
DeviceFloorless d = All CellFloorless d.cells

pub record SystemFloorless (q : System) : Type 0 where
  pub devices : All DeviceFloorless q.devices

module _ (e : ℕ) (h : has 3 e ≡ false) where
  block-floorless : Sure (B.block e) BlockFloorless
  unfolding B.block
  block-floorless = held-sure _ _ _ _ _ (then-sure M.kw_field _ _ (λ cap floor. floor ≡ 0) (figure-sure 17 0 100000) (λ cap. absent 3 e h 0 _)) (λ v ok. ok.1)

  cell-floorless : Sure (B.cell e) (λ v. CellFloorless v.0 × Any v.1)
  unfolding B.cell B.cell_with
  cell-floorless = held-sure _ _ _ _ _
      (pair-sure _ _ _ _ (figure-sure 2 0 2)
      (pair-sure _ _ _ _ (then-sure M.kw_field _ _ (λ low high. high ≤ 100000) (figure-sure 17 0 100000) (λ low. tested-sure _ _ _ (figure-sure 17 0 100000)))
      (pair-sure _ _ _ _ (apart-sure _ 4 BlockFloorless (λ x. nat_abs x ≤ 10000) (counted-sure (count_of 3 0 4) _ _ (pair-sure _ _ _ _ block-floorless (int-sure 15 10000))))
      (pair-sure _ _ _ _ (eight-sure _ _ (figure-sure 14 0 10000))
      (since-sure e 2 B.no_reactive_cell B.reactive_cell Any (weaken-sure B.reactive_cell _ Any reactive-cell-sure (λ v ok. tt)) tt)))))
      (λ v ok. (ok.1.1.0.1, tt))

  device-floorless : (intervals zones last : ℕ) → Sure (B.device e intervals zones last) (λ v. DeviceFloorless v.0 × Any v.1)
  unfolding B.device_by
  device-floorless n zones last = held-sure _ _ _ _ _
      (pair-sure _ _ _ _ (head-sure zones)
      (pair-sure _ _ _ _ costs-sure
      (pair-sure _ _ _ _ (eight-sure _ _ (figure-sure 17 0 100000))
      (pair-sure _ _ _ _ (apart-sure _ most_states (λ x. x ≤ 60000) (λ z. nat_abs z ≤ 1000000000)
      (counted-sure (count_of 3 0 most_states) _ _ (pair-sure _ _ _ _ (figure-sure 16 0 60000) (int-sure 31 1000000000))))
      (pair-sure _ _ _ _ (counted-sure (count_of 3 0 most_windows) _ _ (start-sure e last))
      (pair-sure _ _ _ _ (counted-sure (count_of 3 0 most_windows) _ _ (energy-sure last))
      (pair-sure _ _ _ _ (since-sure e 2 no_link B.link Any (weaken-sure B.link _ Any link-sure (λ v ok. tt)) tt)
      (pair-sure _ _ _ _ (bar-sure e)
      (some-sure n (B.cell e) CellFloorless Any cell-floorless)))))))))
      (λ v ok. (ok.1.1.1.1.1.1.1.1.1, tt))

  content-floorless : (l : Largest) → Sure (B.content e l) (λ c. SystemFloorless c.system)
  unfolding B.content_by
  content-floorless l = held-sure _ _ _ _ _
      (then-sure (B.counts e l) _ _ _ (counts-sure e l) (λ n.
      pair-sure _ _ _ _ (figure-sure 14 1 10000) (pair-sure _ _ _ _ (figure-sure 14 1 10000) (pair-sure _ _ _ _ (limit-sure e)
      (then-sure (list n.intervals (figure 8 1 180)) _ _ _ (list-sure _ _ _ (figure-sure 8 1 180)) (λ halves.
      pair-sure _ _ _ _ (some-sure n.zones _ ZoneRange KindsRange (zone-sure e n.intervals))
      (some-sure n.devices _ DeviceFloorless Any (device-floorless n.intervals n.zones _))))))))
      (λ v ok. record { devices = ok.1.1.1.1.1.1.1 })

-- by any reader that takes no more than the most
module _ (l : Largest) (most : l.devices ≤ most_devices) (long : l.intervals ≤ most_intervals) where
  abbrev Older : Stated → Type 0
  Older x = has 3 x.edition ≡ false → SystemFloorless x.case.system

  by-edition : (e : ℕ) → Sure (B.content e l) (λ c. has 3 e ≡ false → SystemFloorless c.system)
  by-edition e = go (has 3 e) refl
    where
      go : (b : Bool) → has 3 e ≡ b → Sure (B.content e l) (λ c. has 3 e ≡ false → SystemFloorless c.system)
      go false h = weaken-sure (B.content e l) _ _ (content-floorless e h l) (λ c ok _. ok)
      go true h = weaken-sure (B.content e l) _ _ (content-sure l most long e) (λ c ok g. absurd (let t : true ≡ false = sym h ∙ g in let z : ◌≡◌ {A = ℕ} 0 1 = cc in omega arith))

  stated-sure : Sure (B.case_layout l) Older
  unfolding B.case_layout
  stated-sure = held-sure _ _ _ _ _ (pair-sure _ _ _ _ (nat-sure _) (then-sure (nat B.edition_field) _ _ _ (nat-sure B.edition_field) (λ e. by-edition e))) (λ v ok. ok.1.1)

  pub stated-floorless : (s : List ℕ) (x : Stated) → stated_in l s ≡ passes x → has 3 x.edition ≡ false → SystemFloorless x.case.system
  unfolding stated_in
  stated-floorless s x h = whole-sure (B.case_layout l) Older stated-sure s x h
