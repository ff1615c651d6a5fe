use Rattle.std.proofs.Common.{List, ℕ, refl, append-nil}
use Rattle.writing.specs.Splice.{none, keep, by, past, spliced}
use Rattle.bit_copier.specs.declared.Copier.{Copier}
use Rattle.bit_copier.specs.Moves.{Moves, moves-as}
use Rattle.bit_copier.proofs.keep_field.Goals as goal

-- a field in its own width
as_is : (w : ℕ) {s a b : List ℕ} {q r : Copier} → Moves (by w w (λ x. none)) s a b q r → Moves (keep w) s a b q r
unfolding past spliced
as_is w m = moves-as (record { past = refl; bits = append-nil _ }) m

pub returns : goal.returns
returns c = as_is c.args.width c.widen_field.ensures
