-- What stands ahead of a case's durations: edition, counts, prices of mismatch and overrun, the limit of the link.
use Rattle.std.specs.Prelude.{◌≡◌, List, ℕ, ◌≤◌, ◌<◌, length, get_or}
use Rattle.layouts.specs.declared.Place.{Place}
use Rattle.layouts.specs.Layout.{Layout, nat, ◌then◌, ◌▸◌, held, figure, fixed, begin}
use Rattle.layouts.specs.Since.{since}
use Rattle.model.specs.Editions.{Largest, most_zones}
use Rattle.model.specs.Messages as M
use Rattle.model.specs.ByEdition.{case_kind, edition_field, counts, link_limit}
use Rattle.row_places.specs.declared.Counts.{Counts}
use Rattle.records.specs.Views.{most_intervals}
use Rattle.fields.specs.Got.{Got, good, got, seen}
use Rattle.front_reader.specs.declared.Figures.{Figures}
use Rattle.front_reader.specs.declared.Opening.{Opening}

-- the largest counts that the caller takes
abbrev pub largest : ℕ → ℕ → Largest
largest devices intervals = record { devices = devices; intervals = intervals }

-- kind and edition
abbrev pub edition : Layout ℕ
edition = held (λ v. v.1) (λ e. (case_kind, e)) (fixed case_kind ▸ nat edition_field)

abbrev pub counts_in : Counts → M.Counts
counts_in c = record { devices = c.devices; intervals = c.intervals; zones = c.zones }

pub record Within (l : Largest) (c : Counts) : Type 0 where
  pub some : 1 ≤ c.devices
  pub devices : c.devices ≤ l.devices
  pub intervals : c.intervals ≤ l.intervals
  pub zones : c.zones ≤ most_zones

pub record CountsDone (e : ℕ) (l : Largest) (s : List ℕ) (p : Place) (r : Got Counts) : Type 0 where
  pub is : seen counts_in r ≡ got (counts e l) s p
  pub within : (c : Counts) (q : Place) → r ≡ good c q → Within l c

-- "mismatch price, overrun price 14 each (1..10,000 per kW·min)"
abbrev pub prices : Layout (ℕ × ℕ)
prices = figure 14 1 10000 ▸ figure 14 1 10000

abbrev pub pair_of : List ℕ → ℕ × ℕ
pair_of v = (get_or v 0 0, get_or v 1 0)

-- "a link limit (17 bits, after the overrun price)", since edition 5
abbrev pub limit : ℕ → Layout ℕ
limit e = since e 5 0 link_limit

abbrev pub figures : ℕ → Layout (ℕ × (ℕ × ℕ))
figures e = figure 14 1 10000 ▸ figure 14 1 10000 ▸ limit e

abbrev pub figures_in : Figures → ℕ × (ℕ × ℕ)
figures_in f = (f.mismatch, (f.overrun, f.limit.0))

-- all that stands ahead of the durations
abbrev pub Ahead : Type 0
Ahead = ℕ × (M.Counts × (ℕ × (ℕ × ℕ)))

abbrev pub front : Largest → Layout Ahead
front l = edition then (λ e. counts e l ▸ figures e)

abbrev pub front_in : Opening → Ahead
front_in o = (o.front.edition, (counts_in o.counts, (o.front.mismatch, (o.front.overrun, o.limit.0))))

pub record FrontDone (l : Largest) (s : List ℕ) (r : Got Opening) : Type 0 where
  pub is : seen front_in r ≡ got (front l) s begin
  pub within : (o : Opening) (q : Place) → r ≡ good o q → Within l o.counts

-- m durations' halves: "d/2, 8 (1..180)"
pub record Halves (m : ℕ) (halves : List ℕ) : Type 0 where
  pub few : m ≤ most_intervals
  pub room : m ≤ length halves
  pub half : (t : ℕ) → t < m → get_or halves t 0 ≤ 180
