-- What a plan written anew is: its content's bytes in the newest edition, or the buffer as it was and the bytes needed.
use Rattle.std.specs.Prelude.{◌≡◌, ℕ, ◌*◌, ◌≤◌}
use Rattle.std.proofs.Math.Path.{refl, ap}
use Rattle.std.proofs.Common.{◌∙◌, arith, le-leb}
use mathlib.Core.List.{List, ◌++◌}
use Rattle.std.proofs.Math.Decide.{dec_le}
use Rattle.std.proofs.lemmas.Bool.{lt-leb}
use Rattle.std.proofs.Math.ListN.{length, drop}
use Rattle.bits.specs.Bits.{reach}
use Rattle.layouts.specs.Layout.{passes, bytes, read_whole}
use Rattle.model.specs.Case.{Plan}
use Rattle.model.specs.Editions.{newest, most_devices, most_intervals}
use Rattle.model.specs.ByEdition.{plan_layout}
use Rattle.writing.specs.Anew.{rows_bytes, writing, put}
use Rattle.writing.proofs.Same.{rows_fit}
use Rattle.writing.specs.Splice.{spliced}
use Rattle.writing.proofs.Splice.{past_up}
use Rattle.writing.specs.PlanSplices.{plan_splice, front_of}
use Rattle.writing.proofs.PlanSplices.{plan-spliced}
use Rattle.bit_copier.specs.Moves.{Renews, most}

-- a plan that passes reading has a front
pub some-front : (e d n : ℕ) (s : List ℕ) (p : Plan) → read_whole (plan_layout e d n) s ≡ passes p → front_of e ≤ 8 * reach s
some-front e d n s p g = omega (arith, (plan-spliced e d n s p g).1, past_up (plan_splice e d n) s (front_of e))

module _ (e d n : ℕ) (old : e ≤ newest) (few : d ≤ most_devices) (short : n ≤ most_intervals) (s : List ℕ) (p : Plan) (g : read_whole (plan_layout e d n) s ≡ passes p) where
  spliced-is : bytes (spliced (plan_splice e d n) s (front_of e)) ≡ rows_bytes d n p
  unfolding rows_bytes
  spliced-is = ap bytes (plan-spliced e d n s p g).0

  few_bits : length (spliced (plan_splice e d n) s (front_of e)) ≤ most
  few_bits = omega (arith, ap length (plan-spliced e d n s p g).0, (rows_fit e d n old few short s p g).size)

  -- the code's answer and buffer are those of the definition
  pub plan-written : {entry exit : List ℕ} {k : ℕ} → Renews (plan_splice e d n) (front_of e) s entry exit k
      → (k ≡ length (rows_bytes d n p)) × (exit ≡ (put (rows_bytes d n p) entry).result) × (writing k (length entry) ≡ (put (rows_bytes d n p) entry).answer)
  unfolding put writing
  plan-written {entry} {exit} {k} r =
      let i = (plan-spliced e d n s p g).1 in
      let m : k ≡ length (rows_bytes d n p) = r.counts i few_bits ∙ ap length spliced-is in (
        m,
        elim (dec_le k (length entry)) [
          | yes j ↦ rw (le-leb (length (rows_bytes d n p)) (length entry) (omega arith)) (r.writes i few_bits j ∙ ap (λ (b : List ℕ). b ++ drop (length b) entry) spliced-is)
          | no j ↦ rw (lt-leb (length (rows_bytes d n p)) (length entry) (omega arith)) (r.stays (omega arith))
        ],
        rw m refl,
      )
