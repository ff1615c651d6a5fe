-- Any reader goes on from a link as from any other part.
use mathlib.Core.Bool.{Bool}
use Prim.Native.Nat.{ℕ}
use Rattle.layouts.specs.Since.{has, since, present}
use Rattle.model.specs.Case.{no_line, no_link}
use Rattle.model.specs.ByEdition.{line, link, first_line, second_line}
use Rattle.fields.specs.Got.{Natural, nat-natural, int-natural, then-natural, held-natural}
use Rattle.fields.specs.Since.{present-natural}

line-natural : Natural line
unfolding line
line-natural = held-natural _ _ (then-natural (int-natural _ _) (λ _. int-natural _ _))

-- a line that is there, or not
pub there-natural : (there : Bool) → Natural (present there no_line line)
there-natural there = present-natural there no_line line-natural

pub whole-natural : Natural link
unfolding link
whole-natural = held-natural _ _ (then-natural (nat-natural _) (λ kind. then-natural (there-natural (first_line kind)) (λ _. there-natural (second_line kind))))

pub link-natural : (e : ℕ) → Natural (since e 2 no_link link)
link-natural e = present-natural (has 2 e) no_link whole-natural
