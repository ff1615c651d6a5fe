-- The steps of the limits' chain.
use mathlib.Core.Path.{◌≡◌, refl, ap, sym, ◌∙◌}
use mathlib.Core.List.{List}
use Prim.Native.Nat.{ℕ, ◌+◌, ◌*◌, ◌/◌, ◌%◌, ◌^◌, ◌≤◌}
use native.Mathlib.Omega.{arith}
use borrow.Author.Tests.{le-leb}
use lib.Dec.{leb}
use Rattle.bits.specs.Bits.{field_at, reach}
use Rattle.layouts.specs.declared.Place.{Place}
use Rattle.layouts.specs.Layout.{advanced}
use Rattle.fields.specs.Got.{good, got, Natural, nat-natural, then-natural, such-natural}
use Rattle.fields.proofs.Steps.{noted-none}
use Rattle.fields.proofs.Chains.{then-on, such-on}
use Rattle.word_fields.proofs.Words.{word-figure}
use Rattle.cell_groups.specs.Groups.{limits, limits_bits, LimitsFit}

pub limits-natural : Natural limits
limits-natural = then-natural (nat-natural _) (λ a. then-natural (nat-natural _) (λ low. such-natural _ (nat-natural _)))

-- the three of one word
pub limits-found : (s : List ℕ) (p : Place) {word status pmin pmax : ℕ} → p.at + limits_bits ≤ 8 * reach s → word ≡ field_at s p.at limits_bits
    → status ≡ word / 2 ^ 34 % 2 ^ 2 → pmin ≡ word / 2 ^ 17 % 2 ^ 17 → pmax ≡ word / 2 ^ 0 % 2 ^ 17 → LimitsFit status pmin pmax
    → good (status, (pmin, pmax)) (advanced p (p.at + limits_bits)) ≡ got limits s p
limits-found s p {word} {status} {pmin} {pmax} there e a b c f =
    let p₁ = advanced p (p.at + 2) in
    let p₂ = advanced p (p.at + 2 + 17) in
    let p₃ = advanced p (p.at + 2 + 17 + 17) in
    let end : p.at + limits_bits ≡ p.at + 2 + 17 + 17 = omega arith in
    let high = such-on (nat-natural _) (λ high. leb pmin high) s p₂ (sym (word-figure s p 19 17 0 p₂ (omega arith) there e 100000 c f.pmax-fits))
    (noted-none p₂.at p₃ (le-leb pmin pmax f.pmin-fits)) in
    let low = then-on (nat-natural _) _ s p₁ (such-natural _ (nat-natural _)) (sym (word-figure s p 2 17 17 p₁ refl there e 100000 b (omega (arith, f.pmin-fits, f.pmax-fits)))) high in
    ap (λ (n : ℕ). good (status, (pmin, pmax)) (advanced p n)) end
    ∙ then-on (nat-natural _) _ s p (then-natural (nat-natural _) (λ low. such-natural _ (nat-natural _))) (sym (word-figure s p 0 2 34 p (omega arith) there e 2 a f.status-fits)) low
