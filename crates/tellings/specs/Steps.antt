-- A refusal told.
use Rattle.std.specs.Prelude.{◌≡◌, refl, ℕ}
use Rattle.layouts.specs.Faults.{number_of, returned_by}
use Rattle.layouts.specs.declared.Fault.{Fault}
use Rattle.tellings.specs.Told.{told_fault}

pub told-of : (f : Fault) {w n m : ℕ} → n ≡ number_of f → m ≡ returned_by f → record { word = w; first = n; second = m; third = 0; fourth = 0 } ≡ told_fault w f
told-of f h k = rw (h, k) refl
