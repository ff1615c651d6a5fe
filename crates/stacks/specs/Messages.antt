-- The messages of a batch, "each behind a 24-bit byte length".
use mathlib.Core.List.{List, [], ◌∷◌}
use Prim.Native.Nat.{ℕ, zero, suc}
use Rattle.std.proofs.Math.ListN.{length}
use Rattle.layouts.specs.declared.Framed.TheVariants as B
use Rattle.layouts.specs.Framing.{framed_at, part}
use Rattle.layouts.specs.Layout.{Whole, passes, fails}
use Rattle.stacks.specs.declared.Counted.{Counted}
use Rattle.stacks.specs.declared.Counted.TheVariants.{Messages, Refused}

-- a message ahead of others
abbrev pub ahead : List ℕ → Whole (List (List ℕ)) → Whole (List (List ℕ))
ahead m (passes ms) = passes (m ∷ ms)
ahead m (fails f) = fails f

-- from a byte on, up to the end, or the splitter's first refusal; n bounds how many
unfoldable pub messages_in : ℕ → List ℕ → ℕ → ℕ → Whole (List (List ℕ))
messages_in limit s zero at = passes []
messages_in limit s (suc n) at = elim (framed_at limit s at) [
  | B.End ↦ passes []
  | B.Message from until ↦ ahead (part s from until) (messages_in limit s n until)
  | B.Refused f ↦ fails f
]

-- a batch has fewer than bytes
unfoldable pub messages_from : ℕ → List ℕ → ℕ → Whole (List (List ℕ))
messages_from limit s at = messages_in limit s (length s) at

abbrev pub messages_of : ℕ → List ℕ → Whole (List (List ℕ))
messages_of limit s = messages_from limit s 0

-- how many there are
abbrev pub counted : Whole (List (List ℕ)) → Counted
counted (passes ms) = Messages (length ms)
counted (fails f) = Refused f

-- those of a batch that the splitter does not refuse
abbrev pub plans_in : Whole (List (List ℕ)) → List (List ℕ)
plans_in (passes ms) = ms
plans_in (fails f) = []
