-- A frame is read in two parts: the bytes that hold its length, and those behind them.
use Rattle.std.proofs.Common.{◌≡◌, None, Some, IfSome, ℕ, ◌+◌, ◌-◌, ◌≤◌, ◌<◌, min, ltb, List, ◌++◌, length, take, drop, arith, ap, ◌∙◌, sym, subst, length-take, length-take-le, length-append, take_all, lt-ltb, le-ltb}
use Rattle.std.proofs.Math.Decide.{dec_le, dec_lt}
use Rattle.std.proofs.Math.Seq.{take-add, take-append-add}
use Rattle.std.proofs.lemmas.List.{take-take, take_min}
use Rattle.std.specs.declared.option.Option.{Option}
use Rattle.std.specs.Io.KnownBytes.{Consumes}
use Rattle.std.proofs.KnownBytes.{Consumes-trans}
use lib.Seq.{take-append-le}
use borrow.Rule.Slice.PartMut.{put_mid}
use Rattle.bits.specs.Bits.{field_at}
use Rattle.frames.specs.Frames.{limit, frame_bytes, frame_of}
use Rattle.runner.specs.Reading.{ReadsFrame}
use Rattle.runner.proofs.Bytes.{front}

-- a frame has the bytes that it was told by
frame-least : (head : List ℕ) → length head ≤ 3 → length head ≤ frame_bytes head
unfolding frame_bytes
frame-least head h = elim (dec_lt (length head) 3) [
  | yes f ↦ rw (lt-ltb (length head) 3 f) (omega arith)
  | no f ↦ rw (le-ltb (length head) 3 (omega arith)) (elim (dec_lt limit (field_at head 0 24)) [
    | yes e ↦ rw (lt-ltb limit (field_at head 0 24) e) (omega arith)
    | no e ↦ rw (le-ltb limit (field_at head 0 24) (omega arith)) (omega arith)
  ])
]

take-both : (m n : ℕ) (s : List ℕ) → take m (take n s) ≡ take (min m n) s
take-both m n s = elim (dec_le m n) [
  | yes h ↦ let e : min m n ≡ m = omega arith in take-take m n s h ∙ ap (λ (k : ℕ). take k s) (sym e)
  | no h ↦ let e : min m n ≡ n = omega arith in take_all m (take n s) (omega (arith, length-take n s)) ∙ ap (λ (k : ℕ). take k s) (sym e)
]

module _ (left here h : ℕ) (s head : List ℕ) (few : h ≡ min 3 left) (first : head ≡ take h s) (long : length head ≡ here) where
  frame_is : frame_of (take left s) ≡ take (min (frame_bytes head) left) s
  frame_is =
      let e : take 3 (take left s) ≡ head = take-both 3 left s ∙ ap (λ (k : ℕ). take k s) (sym few) ∙ sym first in
      ap (λ (l : List ℕ). take (frame_bytes l) (take left s)) e ∙ take-both (frame_bytes head) left s

  pub frame-short : (end : ℕ) → end ≡ min (frame_bytes head) left → end ≤ here → head ≡ frame_of (take left s)
  frame-short end e l =
      let size : here ≡ min h (length s) = sym long ∙ ap length first ∙ length-take h s in
      let same : here ≡ min (frame_bytes head) left = omega (arith, frame-least head (omega arith)) in
      first ∙ sym (take_min h s) ∙ ap (λ (k : ℕ). take k s) (sym size ∙ same) ∙ sym frame_is

  pub frame-long : (end : ℕ) (rest more : List ℕ) → end ≡ min (frame_bytes head) left → here < end → s ≡ head ++ rest → more ≡ take (end - here) rest → head ++ more ≡ frame_of (take left s)
  frame-long end rest more e l t m =
      let k : length head + (end - here) ≡ end = omega arith in
      ap (λ (x : List ℕ). head ++ x) m ∙ sym (take-append-add head rest (end - here)) ∙ ap (λ (x : List ℕ). take (length head + (end - here)) x) (sym t)
      ∙ ap (λ (n : ℕ). take n s) (k ∙ e) ∙ sym frame_is

-- ---- the two parts of a frame in a buffer

module _ (left here end k : ℕ) (part tail : List ℕ) (few : length part ≡ min 3 left) (within : here ≤ length part)
    (told : k ≡ frame_bytes (take here (part ++ tail))) (least : end ≡ min k left) where
  head_is : take here (part ++ tail) ≡ take here part
  head_is = take-append-le here part tail within

  long : length (take here part) ≡ here
  long = length-take-le here part within

  ends : end ≡ min (frame_bytes (take here part)) left
  ends = least ∙ ap (λ (n : ℕ). min n left) (told ∙ ap frame_bytes head_is)

  pub head-frame : (a b : Option (List ℕ)) → Consumes a b (take here part) → IfSome a (λ s. take here part ≡ take (length part) s) → end ≤ here
      → ReadsFrame a b left (take here (part ++ tail))
  head-frame None b p q l = record { bytes = tt; next = tt }
  head-frame (Some s) b p q l = record {
    bytes = subst (Consumes (Some s) b) (sym head_is) p;
    next = head_is ∙ frame-short left here (length part) s (take here part) few q long end ends l;
  }

  -- the second part stands behind the first
  module _ (more : ℕ) (behind : List ℕ) (room : length behind ≡ end - here) (fits : more ≤ length behind) (far : here < end) where
    whole : take (here + more) (put_mid here (end - here) (part ++ tail) behind) ≡ take here part ++ take more behind
    whole =
        front here (part ++ tail) behind (omega (arith, length-append part tail)) (end - here) more fits ∙ ap (λ (l : List ℕ). l ++ take more behind) head_is

    pub whole-frame : (a b c : Option (List ℕ)) → Consumes a b (take here part) → IfSome a (λ s. take here part ≡ take (length part) s)
        → Consumes b c (take more behind) → IfSome b (λ s. take more behind ≡ take (length behind) s)
        → ReadsFrame a c left (take (here + more) (put_mid here (end - here) (part ++ tail) behind))
    whole-frame None b c p q r t = record { bytes = tt; next = tt }
    whole-frame (Some s) None c p q r t = absurd p
    whole-frame (Some s) (Some u) c p q r t = record {
      bytes = subst (Consumes (Some s) c) (sym whole) (Consumes-trans (Some s) (Some u) c _ _ p r);
      next = whole ∙ frame-long left here (length part) s (take here part) few q long end u (take more behind) ends far p (t ∙ ap (λ (n : ℕ). take n u) room);
    }
