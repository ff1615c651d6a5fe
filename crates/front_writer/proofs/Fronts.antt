-- The bits of the front's group are the layout's.
use mathlib.Core.Path.{◌≡◌}
use mathlib.Core.List.{◌++◌, append_assoc}
use Prim.Native.Nat.{ℕ}
use Rattle.layouts.specs.Layout.{bits_of, nat, ◌then◌, held}
use Rattle.model.specs.Editions.{device_bits, interval_bits}
use Rattle.model.specs.ByEdition.{completion_front, completion_front_by}
use Rattle.field_groups.specs.Fields.{counts_in}

pub front-is : (e d i z : ℕ)
    → bits_of 4 3 ++ bits_of 4 e ++ bits_of (device_bits e) d ++ bits_of (interval_bits e) i ++ bits_of 3 z ≡ (completion_front e (counts_in d i z)).write (counts_in d i z)
unfolding completion_front_by held ◌then◌ nat
front-is e d i z = simp append_assoc
