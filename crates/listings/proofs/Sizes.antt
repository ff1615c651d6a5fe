-- How long the list of breaches can be, and that each of its figures fits a byte.
use Rattle.std.specs.Prelude.{◌≡◌, refl, Bool, true, false, List, [], ◌∷◌, ℕ, suc, ◌+◌, ◌*◌, ◌≤◌, ◌<◌}
use Rattle.std.proofs.Common.{sym, ap, ◌∙◌}
use native.Mathlib.Omega.{arith}
use Rattle.std.proofs.Math.ListN.{length, length-append, length-map}
use Rattle.numbers.specs.Sum.{All, all_map}
use Rattle.numbers.specs.Base.{range, up_to, gather}
use Rattle.numbers.specs.Every.{all-at, all_in, all_append, all-up_to, all-range, all-gather, length-range}
use Rattle.numbers.specs.Gather.{gather-size}
use Rattle.model.specs.declared.Breach.{Breach}
use Rattle.model.specs.Case.{System, Plan, no_device}
use Rattle.model.specs.Forced.{intervals, devices, device}
use Rattle.model.specs.Editions.{batch, most_devices, most_intervals, most_windows}
use Rattle.model.specs.Rules.{real_numbers, reactive_numbers, cell_numbers, cell_breach, link_breach, window_breach, Placed, in_cell, in-link, in_window}
use Rattle.model.specs.Breaches.{cell_tests, unless, failing, cell_breaches, link_test, link_breaches, window_test, one_window, window_breaches, interval_breaches, all_intervals, all_windows, breaches}
use Rattle.model.proofs.Tests.{numbers-are}
use Rattle.model.proofs.Named.{listed-fails}
use Rattle.model.specs.Lists.{breach_bytes, list_bytes}
use Rattle.ranges.specs.Ranges.{SystemRange, DeviceRange}
use Rattle.listings.specs.Sizes.{most_breaches}

-- in bytes, for the counts that the batch program takes, and for the most that any reader does
pub longest-batch : 4 * most_breaches batch.devices batch.intervals ≡ 77248
unfolding range
longest-batch = refl

pub longest-host : 4 * most_breaches most_devices most_intervals ≡ 615808
unfolding range
longest-host = refl

failing-few : (ns : List (ℕ × Bool)) → length (failing ns) ≤ length ns
unfolding failing
failing-few [] = omega arith
failing-few (x ∷ ns) = go x.1 (failing-few ns)
  where
    go : (b : Bool) → length (failing ns) ≤ length ns → length (unless b x.0 (failing ns)) ≤ suc (length ns)
    go true h = omega arith
    go false h = omega arith

module _ (q : System) (p : Plan) where
  tests-many : (t i : ℕ) → length (cell_tests q p t i) ≡ length cell_numbers
  tests-many t i = sym (length-map (cell_tests q p t i) (λ n. n.0)) ∙ ap length (numbers-are q p t i)

  cell-few : (t i : ℕ) → length (cell_breaches q p t i) ≤ length cell_numbers
  unfolding cell_breaches
  cell-few t i = omega (arith, length-map (failing (cell_tests q p t i)) (cell_breach t i), failing-few (cell_tests q p t i), tests-many t i)

  link-few : (t : ℕ) → length (link_breaches q p t) ≤ 1
  unfolding link_breaches
  link-few t = omega (arith, length-map (failing ((27, link_test q p t) ∷ [])) (link_breach t), failing-few ((27, link_test q p t) ∷ []))

  window-few : (i w : ℕ) → length (one_window q p i w) ≤ 1
  unfolding one_window
  window-few i w = omega (arith, length-map (failing ((20, window_test q p i w) ∷ [])) (window_breach i w), failing-few ((20, window_test q p i w) ∷ []))

  -- a list over the places below n
  over : (n b : ℕ) (f : ℕ → List Breach) → ((k : ℕ) → k < n → length (f k) ≤ b) → length (gather f (up_to n)) ≤ n * b
  over n b f h = omega (arith, gather-size f b (up_to n) (all-up_to _ n h), ap (λ (m : ℕ). m * b) (length-range 0 n))

  interval-few : (t : ℕ) → length (interval_breaches q p t) ≤ devices q * length cell_numbers + 1
  interval-few t = omega (
    arith,
    length-append (gather (cell_breaches q p t) (up_to (devices q))) (link_breaches q p t),
    over (devices q) (length cell_numbers) (cell_breaches q p t) (λ i k. cell-few t i),
    link-few t,
  )

  module _ (r : SystemRange q) where
    device-few : (i : ℕ) → i < devices q → length (window_breaches q p i) ≤ most_windows
    unfolding window_breaches
    device-few i l = omega (
      arith,
      over (length (device q i).start_windows) 1 (one_window q p i) (λ w k. window-few i w),
      (all-at (DeviceRange (intervals q)) no_device q.devices r.each_device i l).starts,
    )

    pub breaches-few : length (breaches q p) ≤ most_breaches (devices q) (intervals q)
    unfolding breaches
    breaches-few = omega (
      arith,
      length-append (all_intervals q p) (all_windows q p),
      over (intervals q) (devices q * length cell_numbers + 1) (interval_breaches q p) (λ t l. interval-few t),
      over (devices q) most_windows (window_breaches q p) device-few,
    )

    -- each of the four figures of a breach
    placed-small : (b : Breach) → Placed q b → All (λ n. n < 256) (breach_bytes b)
    placed-small b (in_cell t i n l k m e) =
        let s : n < 256 = all_in (λ n. n < 256) cell_numbers (all_append (λ n. n < 256) real_numbers reactive_numbers
        (all-range (λ n. n < 256) 1 _ (λ j a h. omega arith)) (all-range (λ n. n < 256) 21 _ (λ j a h. omega arith))) m in
        rw e (s, (omega (arith, r.intervals), (omega (arith, r.devices), (omega arith, tt))))
    placed-small b (in-link t l e) = rw e (omega arith, (omega (arith, r.intervals), (omega arith, (omega arith, tt))))
    placed-small b (in_window i w l k e) =
        let s : length (device q i).start_windows ≤ most_windows = (all-at (DeviceRange (intervals q)) no_device q.devices r.each_device i l).starts in
        rw e (omega arith, (omega arith, (omega (arith, r.devices), (omega arith, tt))))

    pub bytes_small : All (λ n. n < 256) (list_bytes (breaches q p))
    unfolding list_bytes
    bytes_small = all-gather (λ n. n < 256) breach_bytes (breaches q p) (all_map (λ b f. placed-small b f.place) (breaches q p) (listed-fails q p))
