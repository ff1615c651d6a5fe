-- What an edition lacks is neutral in what is read of it: a case and a plan of an edition before 2 know no reactive power.
use Rattle.std.specs.Prelude.{◌≡◌, refl, Bool, true, false, List, ℕ, ◌≤◌, length}
use Rattle.std.proofs.Common.{sym, ◌∙◌, ap, arith}
use Rattle.std.proofs.Math.IntN.{nat_abs}
use Rattle.numbers.specs.Sum.{All, all_map}
use Rattle.layouts.specs.Layout.{Layout, nat, list, ◌then◌, figure, any, count_of, passes}
use Rattle.layouts.specs.Since.{has, nothing, present, since}
use Rattle.layouts.specs.Sure.{Sure, Any, goes, nat-sure, int-sure, list-sure, such-sure, held-sure, then-sure, whole-sure, weaken-sure}
use Rattle.model.specs.Case.{Cell, Device, Minima, Zone, System, Case, Plan, Setting, no_reactive, no_reactive_limits, no_reactive_reserves, no_link}
use Rattle.model.specs.Editions.{Largest, most_devices, most_intervals, most_states, most_windows}
use Rattle.model.specs.Messages as M
use Rattle.model.specs.ByEdition as B
use Rattle.model.specs.ByEdition.{Stated, stated_in, planned_in}
use Rattle.ranges.specs.Ranges.{BlockRange, block-sure, pair-sure, counted-sure, apart-sure, tested-sure, figure-sure, eight-sure, head-sure, costs-sure, start-sure, energy-sure}
use Rattle.ranges.specs.Ranges.{some-sure, bar-sure, limit-sure, flow-sure, shares-sure, six-sure, counts-sure, content-sure}

-- ---- what knows no reactive power

pub record DevicePlain (d : Device) : Type 0 where
  pub link : d.link ≡ no_link
  pub cells : All (λ c. c.reactive ≡ no_reactive_limits) d.cells

pub record ZonePlain (z : Zone) : Type 0 where
  pub minima : All (λ m. m.reactive ≡ no_reactive_reserves) z.minima

pub record SystemPlain (q : System) : Type 0 where
  pub devices : All DevicePlain q.devices
  pub zones : All ZonePlain q.zones

pub record PlanPlain (p : Plan) : Type 0 where
  pub settings : All (λ row. All (λ s. s.reactive ≡ no_reactive) row) p.settings

-- ---- what is read in an edition that lacks it

pub absent : {A : Type 0} (k e : ℕ) → has k e ≡ false → (neutral : A) (l : Layout A) → Sure (since e k neutral l) (λ x. x ≡ neutral)
unfolding present nothing
absent k e h neutral l = rw h (record { ends = λ s p. goes neutral p (λ c. (refl, c)) (λ X bad next. refl) })

module _ (e : ℕ) (h : has 2 e ≡ false) where
  cell-plain : Sure (B.cell e) (λ v. (v.0.reactive ≡ no_reactive_limits) × Any v.1)
  unfolding B.cell B.cell_with
  cell-plain = held-sure _ _ _ _ _
      (pair-sure _ _ _ _ (figure-sure 2 0 2)
      (pair-sure _ _ _ _ (then-sure M.kw_field _ _ (λ low high. high ≤ 100000) (figure-sure 17 0 100000) (λ low. tested-sure _ _ _ (figure-sure 17 0 100000)))
      (pair-sure _ _ _ _ (apart-sure _ 4 BlockRange (λ x. nat_abs x ≤ 10000) (counted-sure (count_of 3 0 4) _ _ (pair-sure _ _ _ _ (block-sure e) (int-sure 15 10000))))
      (pair-sure _ _ _ _ (eight-sure _ _ (figure-sure 14 0 10000))
      (absent 2 e h B.no_reactive_cell B.reactive_cell)))))
      (λ v ok. (ap (λ r. r.0) ok.1.1.1.1, tt))

  device-plain : (intervals zones last : ℕ) → Sure (B.device e intervals zones last) (λ v. DevicePlain v.0 × Any v.1)
  unfolding B.device_by
  device-plain n zones last = held-sure _ _ _ _ _
      (pair-sure _ _ _ _ (head-sure zones)
      (pair-sure _ _ _ _ costs-sure
      (pair-sure _ _ _ _ (eight-sure _ _ (figure-sure 17 0 100000))
      (pair-sure _ _ _ _ (apart-sure _ most_states (λ x. x ≤ 60000) (λ z. nat_abs z ≤ 1000000000)
      (counted-sure (count_of 3 0 most_states) _ _ (pair-sure _ _ _ _ (figure-sure 16 0 60000) (int-sure 31 1000000000))))
      (pair-sure _ _ _ _ (counted-sure (count_of 3 0 most_windows) _ _ (start-sure e last))
      (pair-sure _ _ _ _ (counted-sure (count_of 3 0 most_windows) _ _ (energy-sure last))
      (pair-sure _ _ _ _ (absent 2 e h no_link B.link)
      (pair-sure _ _ _ _ (bar-sure e)
      (some-sure n (B.cell e) (λ c. c.reactive ≡ no_reactive_limits) Any cell-plain)))))))))
      (λ v ok. (record { link = ok.1.1.1.1.1.1.0; cells = ok.1.1.1.1.1.1.1.1.1 }, tt))

  minima-plain : Sure (B.minima e) (λ m. m.reactive ≡ no_reactive_reserves)
  unfolding M.minima B.minima
  minima-plain = let u = figure-sure 23 0 6400000 in held-sure _ _ _ _ _
      (pair-sure _ _ _ _ (held-sure _ _ _ _ Any (pair-sure _ _ _ _ u u) (λ v ok. tt)) (absent 2 e h no_reactive_reserves B.reactive_minima)) (λ v ok. ok.1)

  zone-plain : (intervals : ℕ) → Sure (B.zone e intervals) (λ v. ZonePlain v.0 × Any v.1)
  unfolding B.zone
  zone-plain n = held-sure _ _ _ _ _
      (pair-sure _ _ _ _ shares-sure (pair-sure _ _ _ _ six-sure (pair-sure _ _ _ _ (absent 2 e h _ B.zone_reactive_prices) (list-sure n (B.minima e) _ minima-plain))))
      (λ v ok. (record { minima = ok.1.1.1.1 }, tt))

  content-plain : (l : Largest) → Sure (B.content e l) (λ c. SystemPlain c.system)
  unfolding B.content_by
  content-plain l = held-sure _ _ _ _ _
      (then-sure (B.counts e l) _ _ _ (counts-sure e l) (λ n.
      pair-sure _ _ _ _ (figure-sure 14 1 10000) (pair-sure _ _ _ _ (figure-sure 14 1 10000) (pair-sure _ _ _ _ (limit-sure e)
      (then-sure (list n.intervals (figure 8 1 180)) _ _ _ (list-sure _ _ _ (figure-sure 8 1 180)) (λ halves.
      pair-sure _ _ _ _ (some-sure n.zones _ ZonePlain Any (zone-plain n.intervals))
      (some-sure n.devices _ DevicePlain Any (device-plain n.intervals n.zones _))))))))
      (λ v ok. let b = ok.1.1.1.1 in record { devices = b.1.1.1; zones = b.1.0.1 })

  setting-plain : Sure (B.setting e) (λ s. s.reactive ≡ no_reactive)
  unfolding M.active B.setting
  setting-plain = held-sure _ _ _ _ _
      (pair-sure _ _ _ _ (pair-sure _ _ _ _ (figure-sure 1 0 1) (pair-sure _ _ _ _ (figure-sure 17 0 100000) (eight-sure _ _ (figure-sure 17 0 100000))))
      (absent 2 e h no_reactive B.reactive))
      (λ v ok. ok.1)

  planned-sure : (devices intervals : ℕ) → Sure (B.plan_layout e devices intervals) PlanPlain
  unfolding B.plan_by
  planned-sure devices intervals = held-sure _ _ _ _ _
      (pair-sure _ _ _ _ (nat-sure _) (pair-sure _ _ _ _ (nat-sure _) (pair-sure _ _ _ _ (nat-sure _) (pair-sure _ _ _ _ (nat-sure _)
      (some-sure intervals (B.planned e devices) _ _ (pair-sure _ _ _ _ (list-sure _ (B.setting e) _ setting-plain) (flow-sure e)))))))
      (λ v ok. record { settings = all_map (λ row r. r.1) v.1.1.1.1.0 ok.1.1.1.1.1 })

  -- a plan of such an edition
  pub planned-plain : (q : System) (s : List ℕ) (p : Plan) → planned_in e q s ≡ passes p → PlanPlain p
  unfolding planned_in
  planned-plain q s p g = whole-sure _ PlanPlain (planned-sure (length q.devices) (length q.halves)) s p g

-- a case of such an edition, by any reader that takes no more than the most
module _ (l : Largest) (most : l.devices ≤ most_devices) (long : l.intervals ≤ most_intervals) where
  abbrev Older : Stated → Type 0
  Older x = has 2 x.edition ≡ false → SystemPlain x.case.system

  by-edition : (e : ℕ) → Sure (B.content e l) (λ c. has 2 e ≡ false → SystemPlain c.system)
  by-edition e = go (has 2 e) refl
    where
      go : (b : Bool) → has 2 e ≡ b → Sure (B.content e l) (λ c. has 2 e ≡ false → SystemPlain c.system)
      go false h = weaken-sure (B.content e l) _ _ (content-plain e h l) (λ c ok _. ok)
      go true h = weaken-sure (B.content e l) _ _ (content-sure l most long e) (λ c ok g. absurd (let t : true ≡ false = sym h ∙ g in let z : ◌≡◌ {A = ℕ} 0 1 = cc in omega arith))

  stated-sure : Sure (B.case_layout l) Older
  unfolding B.case_layout
  stated-sure = held-sure _ _ _ _ _
      (pair-sure _ _ _ _ (nat-sure _) (then-sure (nat B.edition_field) _ _ _ (nat-sure B.edition_field) (λ e. by-edition e)))
      (λ v ok. ok.1.1)

  pub stated-plain : (s : List ℕ) (x : Stated) → stated_in l s ≡ passes x → has 2 x.edition ≡ false → SystemPlain x.case.system
  unfolding stated_in
  stated-plain s x h = whole-sure (B.case_layout l) Older stated-sure s x h
