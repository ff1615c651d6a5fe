-- What is copied of an accepted plan's completion: the market's copy, or the buffer as it was and the bytes needed.
use Rattle.std.specs.Prelude.{◌≡◌, ℕ, ◌*◌, ◌≤◌}
use Rattle.std.proofs.Common.{◌∙◌, arith}
use Rattle.std.proofs.Math.Path.{ap}
use mathlib.Core.List.{List, [], ◌++◌}
use Rattle.std.proofs.Math.Decide.{dec_le}
use borrow.Author.Tests.{le-leb, lt-leb}
use Rattle.std.proofs.Math.ListN.{length, drop}
use Rattle.bits.specs.Bits.{reach}
use Rattle.layouts.specs.Layout.{passes, bytes}
use Rattle.model.specs.Case.{System, Plan}
use Rattle.model.specs.Breaches.{breaches}
use Rattle.model.proofs.Named.{none-every}
use Rattle.model.specs.ByEdition.{Stated}
use Rattle.model.specs.Ours.{ours}
use Rattle.model.specs.Judgement.{counts_of, energy_windows, written, our_surplus, read_plan, completion_bytes}
use Rattle.theorems.specs.Promise.{Sound}
use Rattle.writing.specs.Splice.{past, spliced}
use Rattle.bit_copier.specs.Moves.{Renews, most}
use Rattle.market.specs.Copy.{copy_of, copy_in, copy_bytes, copied_plan, copying}
use Rattle.market.proofs.Blind.{copy-shown}
use Rattle.market.proofs.Promise.{copy-fit, desk-read}
use Rattle.market.specs.CopySplice.{copy_splice}
use Rattle.market.proofs.CopySplice.{copy-spliced}

-- a plan that breaks no rule
module _ (x : Stated) (g : Sound x) (ps : List ℕ) (p : Plan) (rp : read_plan x ps ≡ passes p) (ok : breaches x.case.system p ≡ []) where
  abbrev q : System
  q = x.case.system

  abbrev e : ℕ
  e = x.edition

  here : (spliced (copy_splice e (counts_of q) (energy_windows q)) (completion_bytes x p) 0 ≡ (copy_in e q).write (copy_of q p))
      × (past (copy_splice e (counts_of q) (energy_windows q)) (completion_bytes x p) 0 ≤ 8 * reach (completion_bytes x p))
  here =
      let k = copy-spliced e q (completion_bytes x p) (written q (ours x.case p) (our_surplus x.case p)) (desk-read x g ps p rp (none-every q p ok)) in
      (k.0 ∙ ap (copy_in e q).write (copy-shown x.case p (our_surplus x.case p)), k.1)

  spliced-is : bytes (spliced (copy_splice e (counts_of q) (energy_windows q)) (completion_bytes x p) 0) ≡ copy_bytes e q p
  unfolding copy_bytes
  spliced-is = ap bytes here.0

  few_bits : length (spliced (copy_splice e (counts_of q) (energy_windows q)) (completion_bytes x p) 0) ≤ most
  few_bits = omega (arith, ap length here.0, (copy-fit x g ps p rp (none-every q p ok)).size)

  -- the code's buffer, and the bytes needed, are the definition's
  pub copy_written : {entry exit : List ℕ} {n : ℕ} → Renews (copy_splice e (counts_of q) (energy_windows q)) 0 (completion_bytes x p) entry exit n
      → (n ≡ length (copy_bytes e q p)) × (exit ≡ (copied_plan e q p entry).result)
  unfolding copied_plan copying
  copy_written {entry} {exit} {n} r =
      let i = here.1 in
      let h : n ≡ length (copy_bytes e q p) = r.counts i few_bits ∙ ap length spliced-is in (
        h,
        elim (dec_le n (length entry)) [
          | yes k ↦ rw (ok, le-leb (length (copy_bytes e q p)) (length entry) (omega arith)) (r.writes i few_bits k ∙ ap (λ (b : List ℕ). b ++ drop (length b) entry) spliced-is)
          | no k ↦ rw (ok, lt-leb (length (copy_bytes e q p)) (length entry) (omega arith)) (r.stays (omega arith))
        ],
      )
