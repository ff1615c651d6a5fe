-- What a case written anew is: its content's bytes in the newest edition, or the buffer as it was and the bytes needed.
use Rattle.std.specs.Prelude.{◌≡◌, ℕ, ◌≤◌}
use Rattle.std.proofs.Math.Path.{refl, ap}
use Rattle.std.proofs.Common.{◌∙◌, arith, le-leb}
use mathlib.Core.List.{List, ◌++◌}
use Rattle.std.proofs.Math.Decide.{dec_le}
use Rattle.std.proofs.lemmas.Bool.{lt-leb}
use Rattle.std.proofs.Math.ListN.{length, drop}
use Rattle.bits.specs.Bits.{reach}
use Rattle.layouts.specs.Layout.{passes, bytes}
use Rattle.model.specs.Editions.{Largest, host}
use Rattle.model.specs.ByEdition.{Stated, stated_in}
use Rattle.writing.specs.Anew.{anew, case_bytes, writing, put}
use Rattle.writing.proofs.Same.{kept, newest-fits, alike}
use Rattle.writing.specs.Splice.{spliced}
use Rattle.writing.proofs.Splice.{past_up}
use Rattle.writing.specs.CaseSplices.{case_splice}
use Rattle.writing.proofs.CaseSplices.{case-spliced}
use Rattle.bit_copier.specs.Moves.{Renews, most}

module _ (l : Largest) (s : List ℕ) (x : Stated) (h : stated_in l s ≡ passes x) where
  spliced-is : bytes (spliced (case_splice x.edition) s 8) ≡ case_bytes x.case
  unfolding case_bytes
  spliced-is = ap bytes ((case-spliced l s x h).1 ∙ alike l host (anew x.case))

  few_bits : length (spliced (case_splice x.edition) s 8) ≤ most
  few_bits = omega (arith, ap length (case-spliced l s x h).1, (newest-fits l x (kept l s x h)).size)

  -- a case that passes reading has a first byte
  pub some_byte : 1 ≤ reach s
  some_byte = omega (arith, (case-spliced l s x h).2, past_up (case_splice x.edition) s 8)

  -- the code's answer and buffer are those of the definition
  pub case-written : {entry exit : List ℕ} {n : ℕ} → Renews (case_splice x.edition) 8 s entry exit n
      → (n ≡ length (case_bytes x.case)) × (exit ≡ (put (case_bytes x.case) entry).result) × (writing n (length entry) ≡ (put (case_bytes x.case) entry).answer)
  unfolding put writing
  case-written {entry} {exit} {n} r =
      let i = (case-spliced l s x h).2 in
      let e : n ≡ length (case_bytes x.case) = r.counts i few_bits ∙ ap length spliced-is in (
        e,
        elim (dec_le n (length entry)) [
          | yes k ↦ rw (le-leb (length (case_bytes x.case)) (length entry) (omega arith)) (r.writes i few_bits k ∙ ap (λ (b : List ℕ). b ++ drop (length b) entry) spliced-is)
          | no k ↦ rw (lt-leb (length (case_bytes x.case)) (length entry) (omega arith)) (r.stays (omega arith))
        ],
        rw e refl,
      )
