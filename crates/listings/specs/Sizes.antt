-- How long the list of breaches can be, and that each of its figures fits a byte.
use Rattle.std.specs.Prelude.{ℕ, ◌+◌, ◌*◌}
use Rattle.std.proofs.Math.ListN.{length}
use Rattle.model.specs.Editions.{most_windows}
use Rattle.model.specs.Rules.{cell_numbers}

-- as many breaches as n devices and m intervals can have: each rule of each interval and device, rule 27 of each interval and rule 20 of each window
abbrev pub most_breaches : ℕ → ℕ → ℕ
most_breaches n m = m * (n * length cell_numbers + 1) + n * most_windows
