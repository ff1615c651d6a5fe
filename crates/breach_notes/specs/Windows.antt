-- Rule 20 of a device's windows: what one test notes.
use Rattle.std.specs.Prelude.{◌≡◌, Bool, not, ℕ, ◌+◌, ◌≤◌, ◌<◌, leb, length, get_or}
use Rattle.std.proofs.Math.Path.{refl}
use Rattle.std.proofs.Math.Bool.{true, false}
use mathlib.Core.List.{List, [], map}
use Rattle.numbers.specs.Base.{up_to, gather}
use Rattle.model.specs.declared.Breach.{Breach}
use Rattle.model.specs.Rules.{window_breach}
use Rattle.model.specs.Breaches.{failing, unless}
use Rattle.row_places.specs.Figures.{no_start}
use Rattle.row_places.specs.declared.Device.{Device}
use Rattle.start_windows.specs.Windows.{starts_at}
use Rattle.failing_rules.specs.Parts.{window_here}
use Rattle.breach_entries.specs.Noted.{note_if, Notes, GatherLeft, gather-room, gather-more}

module _ (d : Device) (settings : List (List ℕ)) (starts : List ℕ) (i : ℕ) (w : ℕ)
    {b : Bool} (e : b ≡ leb (starts_at (get_or d.starts w no_start) d.on0 settings starts) (get_or d.starts w no_start).most) where
  pub window-noted : {x : Breach} → x ≡ window_breach i w 20 → note_if (not b) x ≡ window_here d settings starts i w
  unfolding window_here failing
  window-noted is = rw (is, ← e) (go b)
    where
      go : (b : Bool) → note_if (not b) (window_breach i w 20) ≡ map (window_breach i w) (unless b 20 [])
      go true = refl
      go false = refl

-- the loop over lists of which the next is the part that is noted
module _ (f : ℕ → List Breach) {n k₀ : ℕ} {before : List ℕ} {i k : ℕ} {list : List ℕ} (g : GatherLeft f n k₀ before i k list) (h : i < n) {part : List Breach} (e : part ≡ f i) where
  pub window-room : {most : ℕ} → k₀ + length (gather f (up_to n)) ≤ most → k + length part ≤ most
  window-room l = rw e (gather-room f n g h l)

  pub window_more : {after : List ℕ} {r : ℕ} → Notes k part list after r → GatherLeft f n k₀ before (i + 1) r after
  window_more m = gather-more f n g h (rw e at m)
