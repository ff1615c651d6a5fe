-- The frames' answers, one behind the other, are the batch's text.
use Rattle.std.specs.Prelude.{◌≡◌, List, [], ◌∷◌, ◌++◌, length, drop}
use Rattle.std.proofs.Math.Path.{refl, sym}
use Rattle.std.proofs.Common.{ap, ◌∙◌, append-nil, arith, drop-drop}
use Prim.Native.Nat.{ℕ, zero, suc, ◌+◌, ◌^◌, ◌<◌}
use Rattle.layouts.specs.Framing.{framed_at, part}
use Rattle.layouts.specs.Faults.{number_of}
use Rattle.layouts.specs.declared.Framed.{Framed}
use Rattle.layouts.specs.declared.Framed.TheVariants as B
use Rattle.model.specs.Batch.{Line, answer, framing, plan_verdict, plan_lines, after_case, batch_lines}
use Rattle.model.specs.Editions.{batch}
use Rattle.model.specs.ByEdition.{Stated, stated_in}
use Rattle.model.specs.Judgement.{read_plan}
use Rattle.layouts.specs.Layout.{Whole, passes, fails}
use Rattle.wording.specs.Text.{text, texts, batch_text}
use Rattle.frames.specs.Frames.{limit, frame_of, framed}
use Rattle.answers.specs.Answers.{read_line, read_after, case_lines, case_after, plan_answers}
use Rattle.answers.specs.Stream.{plans_text, behind_case, stream_text}
use Rattle.frames.specs.Splits.{Both, ends, holds, refuses}
use Rattle.frames.proofs.Splits.{both}

one_line : (l : Line) (ls : List Line) → texts (l ∷ []) ++ texts ls ≡ texts (l ∷ ls)
unfolding texts
one_line l ls = ap (λ (t : List ℕ). t ++ texts ls) (append-nil (text l))

one-text : (l : Line) → texts (l ∷ []) ++ [] ≡ texts (l ∷ [])
unfolding texts
one-text l = append-nil (text l ++ [])

-- the definition of the batch's lines, by what the splitter finds
abbrev lines_at : Stated → List ℕ → ℕ → ℕ → Framed → List Line
lines_at c s n index x = elim x [
  | B.End ↦ []
  | B.Message from until ↦ answer index (plan_verdict c (read_plan c (part s from until))) ∷ plan_lines c s n (suc index) until
  | B.Refused f ↦ framing (number_of f) ∷ []
]

lines-at : (c : Stated) (s : List ℕ) (n index at : ℕ) {x : Framed} → framed_at limit s at ≡ x → plan_lines c s (suc n) index at ≡ lines_at c s n index x
unfolding plan_lines
lines-at c s n index at e = ap (lines_at c s n index) e

abbrev first_lines : List ℕ → Framed → List Line
first_lines s x = elim x [
  | B.End ↦ []
  | B.Message from until ↦ after_case s until (stated_in batch (part s from until))
  | B.Refused f ↦ framing (number_of f) ∷ []
]

first-lines : (s : List ℕ) {x : Framed} → framed_at limit s 0 ≡ x → batch_text s ≡ texts (first_lines s x)
unfolding batch_text batch_lines
first-lines s e = ap (λ (x : Framed). texts (first_lines s x)) e

module _ (s : List ℕ) (small : length s < 2 ^ 61) where
  behind-frame : (at until : ℕ) (frame : List ℕ) → until ≡ at + length frame → drop (length frame) (drop at s) ≡ drop until s
  behind-frame at until frame e = drop-drop (length frame) at s ∙ ap (λ (k : ℕ). drop k s) (sym e)

  -- one frame, where the frames behind it are answered so
  plan-same : (c : Stated) (n index at : ℕ) → ((until : ℕ) → plans_text c n (suc index) (drop until s) ≡ texts (plan_lines c s n (suc index) until))
      → Both s at (frame_of (drop at s)) → plans_text c (suc n) index (drop at s) ≡ texts (plan_lines c s (suc n) index at)
  unfolding plans_text texts
  plan-same c n index at more (ends e f) = rw (lines-at c s n index at e, f) refl
  plan-same c n index at more (refuses {g = f'} e g k) = rw (lines-at c s n index at e, g, k) (one-text (framing (number_of f')))
  plan-same c n index at more (holds {from} {until} e g p u) =
      rw (lines-at c s n index at e, g, sym p, behind-frame at until (frame_of (drop at s)) u, more until)
      (one_line (answer index (plan_verdict c (read_plan c (part s from until)))) (plan_lines c s n (suc index) until))

  plans-same : (c : Stated) (n index at : ℕ) → plans_text c n index (drop at s) ≡ texts (plan_lines c s n index at)
  unfolding plans_text plan_lines texts
  plans-same c zero index at = refl
  plans-same c (suc n) index at = plan-same c n index at (plans-same c n (suc index)) (both s at small)

  -- the case, and the plans behind it
  case_same : (w : Whole Stated) (until : ℕ) → until ≡ 0 + length (frame_of s)
      → texts (read_line w ∷ []) ++ behind_case (read_after w) (length s) (drop (length (frame_of s)) s) ≡ texts (after_case s until w)
  case_same (passes c) until u = rw (behind-frame 0 until (frame_of s) u, plans-same c (length s) 1 until) (one_line _ (plan_lines c s (length s) 1 until))
  case_same (fails f) until u = one-text _

  first-same : Both s 0 (frame_of s) → stream_text s ≡ batch_text s
  unfolding stream_text texts
  first-same (ends e f) = rw (first-lines s e, f) refl
  first-same (refuses {g = f'} e g k) = rw (first-lines s e, g, k) (one-text (framing (number_of f')))
  first-same (holds {from} {until} e g p u) = rw (first-lines s e, g, sym p) (case_same (stated_in batch (part s from until)) until u)

  -- Whatever the batch holds, reading it frame by frame and answering each frame writes the batch's text. No machine holds a batch of 2^61 bytes.
  pub streamed : stream_text s ≡ batch_text s
  streamed = first-same (both s 0 small)
