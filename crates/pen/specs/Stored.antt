-- A number in the bytes of a buffer.
use Rattle.std.specs.Prelude.{List, ℕ, zero, suc, ◌+◌, ◌/◌, ◌%◌, set}

-- the n bytes from a place on, the last of them the lowest of the number
unfoldable pub stored : List ℕ → ℕ → ℕ → ℕ → List ℕ
stored l first zero v = l
stored l first (suc n) v = stored (set l (first + n) (v % 256)) first n (v / 256)
