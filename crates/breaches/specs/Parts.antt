-- The first of a cell's breaches, of a device's windows and of a link, from the word of failing rules and from their tests.
use Rattle.std.specs.Prelude.{◌≡◌, Bool, true, false, not, List, ℕ, leb, get_or}
use Rattle.std.proofs.Math.Path.{refl}
use Rattle.std.proofs.Common.{sym, ◌∙◌}
use borrow.Author.Tests.{not-true, not-false}
use Rattle.model.specs.Case.{System, Plan}
use Rattle.model.specs.Rules.{link_breach, window_breach}
use Rattle.model.specs.Breaches.{failing, cell_tests, cell_breaches}
use Rattle.row_places.specs.Figures.{no_start}
use Rattle.row_places.specs.declared.Device.{Device}
use Rattle.cell_bounds.specs.Word.{numbers_in}
use Rattle.start_windows.specs.Windows.{starts_at}
use Rattle.failing_rules.specs.Parts.{window_here}
use Rattle.link_rules.specs.Link.{link_kept, link_here}
use Rattle.breaches.specs.First.{first}
use Rattle.breaches.specs.Bits.{first_of}
use Rattle.model.specs.declared.Breach.{Breach}
use Rattle.std.specs.Prelude.{Option, Some, None}

-- the word's first rule is the first of the cell's breaches
pub word_first : (q : System) (p : Plan) (t i word : ℕ) {x : Option Breach} → numbers_in word ≡ failing (cell_tests q p t i) → x ≡ first_of t i (numbers_in word) → x ≡ first (cell_breaches q p t i)
unfolding first_of cell_breaches
word_first q p t i word e f = f ∙ rw e refl

-- the test of one window, as the code makes it
module _ (d : Device) (settings : List (List ℕ)) (starts : List ℕ) (i : ℕ) (w : ℕ)
    {b : Bool} (e : b ≡ leb (starts_at (get_or d.starts w no_start) d.on0 settings starts) (get_or d.starts w no_start).most) where
  pub window-held : not b ≡ false → None ≡ first (window_here d settings starts i w)
  unfolding window_here failing first
  window-held h = rw (sym e ∙ not-false b h) refl

  pub window-broken : {y : Option Breach} → not b ≡ true → y ≡ Some (window_breach i w 20) → y ≡ first (window_here d settings starts i w)
  unfolding window_here failing first
  window-broken h f = f ∙ rw (sym e ∙ not-true b h) refl

-- and of the link in an interval
module _ (devices settings : List (List ℕ)) (t : ℕ) {b : Bool} (e : b ≡ link_kept devices settings t) where
  pub link-held : not b ≡ false → None ≡ first (link_here devices settings t)
  unfolding link_here failing first
  link-held h = rw (sym e ∙ not-false b h) refl

  pub link-broken : {y : Option Breach} → not b ≡ true → y ≡ Some (link_breach t 27) → y ≡ first (link_here devices settings t)
  unfolding link_here failing first
  link-broken h f = f ∙ rw (sym e ∙ not-true b h) refl
