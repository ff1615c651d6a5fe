-- The counts of a case that was read are those that inspecting it finds.
use Rattle.std.specs.Prelude.{◌≡◌, refl, List, ℕ, ◌≤◌}
use Rattle.std.proofs.Common.{sym, ap, ◌∙◌}
use Rattle.model.specs.declared.Inspected.TheVariants as I
use Rattle.model.specs.Editions.{Largest, most_devices, most_intervals}
use Rattle.model.specs.ByEdition.{stated_in}
use Rattle.row_places.specs.declared.Front.{Front}
use Rattle.row_places.specs.declared.Counts.{Counts}
use Rattle.records.specs.Viewed.{devices-are, intervals-are, zones-are}
use Rattle.case_reader.specs.Whole.{CasePassed}
use Rattle.decoded_cases.specs.Cases.{passed}
use Rattle.case_inspection.specs.Inspection.{inspected_of}

module _ (l : Largest) (most : l.devices ≤ most_devices) (long : l.intervals ≤ most_intervals)
    (cs halves : List ℕ) (zones minima devices cells : List (List ℕ)) (front : Front) (n : Counts)
    (h : CasePassed l.devices l.intervals cs halves zones minima devices cells front n) where
  pub inspect-passes : I.Counts n.devices n.intervals n.zones ≡ inspected_of (stated_in l cs)
  inspect-passes =
      let a = devices-are _ _ _ _ _ ∙ h.long.devices-long in
      let b = intervals-are _ _ _ _ _ ∙ h.long.halves_long in
      let c = zones-are _ _ _ _ _ ∙ h.long.zones-long in
      counts_same a b c ∙ ap inspected_of (sym (passed l most long cs halves zones minima devices cells front n h))
    where
      counts_same : {a b c a' b' c' : ℕ} → a ≡ a' → b ≡ b' → c ≡ c' → I.Counts a' b' c' ≡ I.Counts a b c
      counts_same x y z = rw (x, y, z) refl
