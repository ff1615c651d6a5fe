-- The energy windows of a list.
use mathlib.Core.List.{List, [], ◌∷◌}
use Prim.Native.Nat.{ℕ, zero, suc, ◌^◌, ◌<◌}
use native.Mathlib.Omega.{arith}
use lib.ListN.{get_or}
use Rattle.row_places.specs.declared.EnergyWindow.{EnergyWindow}
use Rattle.row_places.specs.Figures.{no_energy}
use Rattle.item_reader.specs.declared.Item.{Item}
use Rattle.item_reader.specs.Items.{no_item, EnergyMade, EnergiesMade}

pub energies-made : (l : List Item) {a b c d : EnergyWindow}
    → EnergyMade (get_or l 0 no_item) a → EnergyMade (get_or l 1 no_item) b → EnergyMade (get_or l 2 no_item) c → EnergyMade (get_or l 3 no_item) d → EnergiesMade l (a ∷ b ∷ c ∷ d ∷ [])
energies-made l {a} {b} {c} {d} h i j k = record {
  is = cc (h.is, i.is, j.is, k.is);
  small = record { energy = small };
}
  where
    small : (n : ℕ) → n < 4 → (get_or (a ∷ b ∷ c ∷ d ∷ []) n no_energy).energy.0 < 2 ^ 32
    small zero t = h.small
    small (suc zero) t = i.small
    small (suc (suc zero)) t = j.small
    small (suc (suc (suc zero))) t = k.small
    small (suc (suc (suc (suc n)))) t = absurd (omega arith)
