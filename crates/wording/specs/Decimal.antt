-- Numbers in decimal, in ASCII.
use Rattle.std.specs.Prelude.{ℕ, zero, suc, ◌+◌, ◌/◌, ◌%◌, List, [], ◌∷◌, ◌++◌, ltb, ℤ, pos, negsuc}
use Rattle.bits.specs.Pick.{pick}

-- `0` to `9`
abbrev pub digit : ℕ → ℕ
digit d = 48 + d

-- A number below ten is its digit; any other is its tenths in decimal and its last digit behind them. k bounds how deep that goes.
unfoldable pub decimal_within : ℕ → ℕ → List ℕ
decimal_within zero n = []
decimal_within (suc k) n = pick (ltb n 10) (digit n ∷ []) (decimal_within k (n / 10) ++ (digit (n % 10) ∷ []))

-- a number has at most one digit more than it counts
unfoldable pub decimal : ℕ → List ℕ
decimal n = decimal_within (suc n) n

-- "`-` for negative ones"
abbrev pub signed : ℤ → List ℕ
signed (pos n) = decimal n
signed (negsuc n) = 45 ∷ decimal (suc n)
