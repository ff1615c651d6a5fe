use Rattle.std.proofs.Common.{◌≡◌, refl, ◌||◌, List, [], ◌∷◌, ℕ, arith}
use Rattle.std.proofs.lemmas.Grind.{common_steps}
use Rattle.std.proofs.lemmas.Bool.Decides.{nat_tests}
use Rattle.std.proofs.Math.Dec.{eqb}
use Rattle.std.specs.List.{list_any}
use Rattle.dispatching.specs.Dispatch.{among}
use Rattle.named_sets.specs.Named.{named_end, named-not, named-twice, named-on}
use Rattle.named_sets.proofs.all_named.Goals as goal

eqb-turned : (s r : ℕ) → eqb s r ≡ eqb r s
eqb-turned s r = grind (arith, nat_tests)

among-any : (s : ℕ) (rs : List ℕ) → among s rs ≡ list_any (λ r. eqb r s) rs
unfolding among
among-any s [] = refl
among-any s (r ∷ rs) = λ i. eqb-turned s r i || among-any s rs i

pub returns-then-not-produces : goal.returns-then-not-produces
returns-then-not-produces c = grind (arith, common_steps, among-any, named-not, named-twice)

pub loop-k-preserved : goal.loop-k-preserved
loop-k-preserved c = grind (arith, common_steps, among-any, named-on)

pub returns : goal.returns
returns c = grind (arith, common_steps, named_end)
