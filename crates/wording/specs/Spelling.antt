-- Laws of decimal: the digits that code spells are the definition's, and they say the number.
use Rattle.std.specs.Prelude.{List, [], ◌∷◌, ℕ, ◌+◌, ◌-◌, ◌*◌}

-- ---- what the digits say

-- the number that digits stand for, behind digits that stand for n
unfoldable pub said : ℕ → List ℕ → ℕ
said n [] = n
said n (d ∷ ds) = said (n * 10 + (d - 48)) ds
