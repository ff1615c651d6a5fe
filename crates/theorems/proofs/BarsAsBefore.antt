-- Editions 1 to 4 as before there was edition 5: "Item 2's one busbar then stands for editions 1 to 4". A case of such an edition, with any plan and any buffer, gets
-- the verdict and the bytes that it got with one mismatch of each kind and without rule 27.
use Rattle.std.specs.Prelude.{◌≡◌, Bool, List, ℕ, ◌≤◌, ℤ}
use Rattle.std.proofs.Math.Path.{refl, ap}
use Rattle.std.proofs.Common.{ap₂, ◌∙◌}
use Rattle.std.proofs.Math.Bool.{true, false}
use Rattle.numbers.specs.Sum.{all}
use Rattle.numbers.specs.Gather.{gather_cong}
use Rattle.layouts.specs.Since.{has, present, nothing}
use Rattle.layouts.specs.Layout.{Whole, passes, fails, nat, ◌then◌, held, list, bits_of, bytes, any}
use Rattle.model.specs.Case.{Plan}
use Rattle.model.specs.Editions.{Largest, Widths, widths_of, most_devices, most_intervals}
use Rattle.model.specs.Messages.{Counts, Bars, no_bars, IntervalChoice, Written}
use Rattle.model.specs.ByEdition as B
use Rattle.model.specs.ByEdition.{Stated, stated_in}
use Rattle.model.specs.Completion as C
use Rattle.model.specs.Completion.{Completion}
use Rattle.model.specs.Ours.{ours, whole}
use Rattle.model.specs.Judgement as J
use Rattle.model.specs.Judgement.{written, counts_of, energy_windows}
use Rattle.model.specs.OneBar as O
use Rattle.ranges.specs.Barless.{SystemBarless, PlanBarless, stated-barless, planned-barless}
use Rattle.theorems.proofs.Barless.{breaches-on-one, ours-on-one, surplus-on-one}

-- ---- completions without bar 1's figures
module _ (e : ℕ) (h : has 5 e ≡ false) where
  one_written : (r : Bars) → (B.bars_choice e).write r ≡ (any 23).write r.first
  unfolding B.bars_choice held ◌then◌ nat bits_of present nothing
  one_written r = rw h refl

  reactive-written : (b : Bool) (r : Bars) → (present b no_bars (B.bars_choice e)).write r ≡ (present b 0 (any 23)).write r.first
  unfolding present nothing
  reactive-written true r = one_written r
  reactive-written false r = refl

  interval-written : (d z : ℕ) (r : IntervalChoice) → (B.interval_choice e d z).write r ≡ (O.interval_choice e d z).write r
  unfolding B.interval_choice O.interval_choice held ◌then◌
  interval-written d z r = rw (one_written r.mismatch, reactive-written (has 2 e) r.reactive_mismatch) refl

pub bars-written : (w : Widths) (e : ℕ) → has 5 e ≡ false → (n : Counts) (windows : ℕ) (r : Written) → (B.completion_by w e n windows).write r ≡ (O.completion_by w e n windows).write r
unfolding B.completion_by O.completion_by held ◌then◌ list
bars-written w e h n windows r = rw (gather_cong (B.interval_choice e n.devices n.zones).write (O.interval_choice e n.devices n.zones).write r.intervals
    (all (interval-written e h n.devices n.zones) r.intervals)) refl

-- ---- a plan for a case of one busbar
module _ (x : Stated) (p : Plan) (lacks : has 5 x.edition ≡ false) (hs : SystemBarless x.case.system) (hp : PlanBarless p) where
  surplus-same : J.our_surplus x.case p ≡ O.our_surplus x.case p
  unfolding J.our_surplus O.our_surplus
  surplus-same = ap (λ (y : Completion ℕ). C.surplus_of x.case p (whole y)) (ours-on-one x.case p hs hp) ∙ surplus-on-one x.case p hs hp

  bytes_same : J.completion_bytes x p ≡ O.completion_bytes x p
  unfolding J.completion_bytes O.completion_bytes
  bytes_same =
      let q = x.case.system in
      ap bytes (ap₂ (λ (y : Completion ℕ) (z : ℤ). (B.completion_layout x.edition (counts_of q) (energy_windows q)).write (written q y z)) (ours-on-one x.case p hs hp) surplus-same
      ∙ bars-written (widths_of x.edition) x.edition lacks (counts_of q) (energy_windows q) (written q (O.ours x.case p) (O.our_surplus x.case p)))

  pub judged-on-one : (buffer : List ℕ) → J.judged x p buffer ≡ O.judged x p buffer
  unfolding J.judged J.verdict O.judged
  judged-on-one buffer = rw (bytes_same, breaches-on-one x.case.system p hs hp, surplus-same) refl

-- a case of editions 1 to 4 that passes reading, with any plan and any buffer: the same verdict, and the same bytes in the buffer
pub bars-judged : (l : Largest) → l.devices ≤ most_devices → l.intervals ≤ most_intervals → (cs : List ℕ) (x : Stated) → stated_in l cs ≡ passes x → has 5 x.edition ≡ false
    → (ps buffer : List ℕ) → J.with_plan x buffer (J.read_plan x ps) ≡ O.with_plan x buffer (J.read_plan x ps)
bars-judged l most long cs x e lacks ps buffer = go (J.read_plan x ps) refl
  where
    go : (r : Whole Plan) → J.read_plan x ps ≡ r → J.with_plan x buffer r ≡ O.with_plan x buffer r
    go (passes p) h = judged-on-one x p lacks (stated-barless l most long cs x e lacks) (planned-barless x.edition lacks x.case.system ps p h) buffer
    go (fails f) h = refl
