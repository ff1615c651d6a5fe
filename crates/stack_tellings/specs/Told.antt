-- What hosts in other languages are told of a batch of plans.
use Rattle.std.specs.Prelude.{ℕ, ◌*◌, ◌-◌, ◌^◌, min}
use Rattle.layouts.specs.declared.Fault.TheVariants.{TooShort}
use Rattle.tellings.specs.declared.Told.{Told}
use Rattle.tellings.specs.Told.{told_fault}
use Rattle.stacks.specs.declared.Stacking.{Stacking}
use Rattle.stacks.specs.declared.Stacking.TheVariants.{Judged, RefusedCase, RefusedBatch, Short}

-- eight bytes for each number of a table; no more are told than 64 bits say, and no machine holds a batch whose table takes more
abbrev pub table_bytes : ℕ → ℕ
table_bytes n = min (8 * n) (2 ^ 64 - 1)

-- 0 judged: how many plans, and the bytes of their completions; 2 refused case, 3 refused batch: number, bit; 4 a table too short: 7 and the bytes needed
abbrev pub told_stack : Stacking → Told
told_stack (Judged count bytes) = record { word = 0; first = count; second = bytes; third = 0; fourth = 0 }
told_stack (RefusedCase f) = told_fault 2 f
told_stack (RefusedBatch f) = told_fault 3 f
told_stack (Short n) = told_fault 4 (TooShort (table_bytes n))
