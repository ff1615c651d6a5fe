-- The breaches of an interval's cells, of the interval, of all intervals and of the day's windows.
use Rattle.std.specs.Prelude.{◌≡◌, List, ◌++◌, ℕ}
use Rattle.std.proofs.Math.Path.{refl}
use Rattle.numbers.specs.Base.{up_to, gather}
use Rattle.model.specs.Case.{System, Plan}
use Rattle.model.specs.Forced.{intervals, devices}
use Rattle.model.specs.Breaches.{cell_breaches, link_breaches, window_breaches, breaches}
use Rattle.model.specs.declared.Breach.{Breach}

module _ (q : System) (p : Plan) where
  unfoldable pub interval_cells : ℕ → List Breach
  interval_cells t = gather (cell_breaches q p t) (up_to (devices q))

  unfoldable pub interval_breaches : ℕ → List Breach
  interval_breaches t = interval_cells t ++ link_breaches q p t

  unfoldable pub day_breaches : List Breach
  day_breaches = gather interval_breaches (up_to (intervals q))

  unfoldable pub day_windows : List Breach
  day_windows = gather (window_breaches q p) (up_to (devices q))

  -- "after an interval's devices": the cells', then the link's
  pub interval-is : (t : ℕ) → interval_breaches t ≡ interval_cells t ++ link_breaches q p t
  unfolding interval_breaches
  interval-is t = refl

  -- the intervals' breaches, then the windows'
  pub day-is : breaches q p ≡ day_breaches ++ day_windows
  unfolding breaches interval_cells interval_breaches day_breaches day_windows
  day-is = refl
