-- What the splitter finds in a frame is what it finds at the frame's place in the whole batch.
use Rattle.std.specs.Prelude.{◌≡◌, List, ℕ, zero, suc, ◌+◌, ◌-◌, ◌*◌, ◌/◌, ◌%◌, ◌^◌, ◌≤◌, ◌<◌, drop}
use Rattle.std.proofs.Math.Path.{refl}
use Rattle.std.proofs.Common.{sym, ap, ◌∙◌, arith, length-take, length-drop, take-add, drop_at, drop-drop, get_or-take, get_or-drop}
use Rattle.std.proofs.Math.Decide.{dec_le, dec_lt}
use borrow.Author.Tests.{lt-ltb, le-ltb}
use Rattle.std.proofs.Math.ListN.{length, take}
use Rattle.std.proofs.Math.Seq.{take_all, length-take-le}
use Rattle.bits.specs.Bits.{bit_at, field_at, reach}
use Rattle.layouts.specs.Framing.{part}
use Rattle.layouts.proofs.Frames.{no_byte, cut-in-length, above-limit, cut-in-message, message}
use Rattle.frames.specs.Frames.{limit, frame_bytes, frame_of}
use Rattle.frames.specs.Splits.{Both, ends, holds, refuses}

-- ---- fields of a part of a list
bit-drop : (s : List ℕ) (at i : ℕ) → bit_at (drop at s) i ≡ bit_at s (8 * at + i)
unfolding bit_at
bit-drop s at i =
    let d : (8 * at + i) / 8 ≡ at + i / 8 = omega arith in
    let m : (8 * at + i) % 8 ≡ i % 8 = omega arith in
    rw (d, m, get_or-drop at s (i / 8) 0) refl

field-drop : (s : List ℕ) (at w : ℕ) → field_at (drop at s) 0 w ≡ field_at s (8 * at) w
unfolding field_at
field-drop s at zero = refl
field-drop s at (suc w) = let e : 0 + w ≡ w = omega arith in rw e (omega (arith, field-drop s at w, bit-drop s at w))

bit-take : (s : List ℕ) (k i : ℕ) → i < 8 * k → bit_at (take k s) i ≡ bit_at s i
unfolding bit_at
bit-take s k i h = let l : i / 8 < k = omega arith in rw (get_or-take k s (i / 8) 0 l) refl

field-take : (s : List ℕ) (k w : ℕ) → w ≤ 8 * k → field_at (take k s) 0 w ≡ field_at s 0 w
unfolding field_at
field-take s k zero h = refl
field-take s k (suc w) h = let e : 0 + w ≡ w = omega arith in rw e (omega (arith, field-take s k w (omega arith), bit-take s k w (omega arith)))

-- the splitter reaches all of a list that a machine can hold
reach-all : (s : List ℕ) → length s < 2 ^ 61 → reach s ≡ length s
unfolding reach
reach-all s h = omega arith

module _ (s : List ℕ) (at : ℕ) (small : length s < 2 ^ 61) where
  abbrev rest : List ℕ
  rest = drop at s

  abbrev n : ℕ
  n = field_at s (8 * at) 24

  rest-long : length rest ≡ length s - at
  rest-long = length-drop at s

  -- a part that holds the length says it
  says : (k : ℕ) → 3 ≤ k → field_at (take k rest) 0 24 ≡ n
  says k h = field-take rest k 24 (omega arith) ∙ field-drop s at 24

  -- the frame by its cases
  frame-cut : length rest < 3 → frame_of rest ≡ rest
  unfolding frame_bytes
  frame-cut h =
      let e : take 3 rest ≡ rest = take_all 3 rest (omega arith) in
      rw (e, lt-ltb (length rest) 3 h) (take_all (length rest) rest (omega arith))

  frame-head : 3 ≤ length rest → limit < n → frame_of rest ≡ take 3 rest
  unfolding frame_bytes
  frame-head h g =
      let e : length (take 3 rest) ≡ 3 = length-take-le 3 rest h in
      rw (e, says 3 (omega arith), lt-ltb limit n g) refl

  frame-all : 3 ≤ length rest → n ≤ limit → frame_of rest ≡ take (3 + n) rest
  unfolding frame_bytes
  frame-all h g =
      let e : length (take 3 rest) ≡ 3 = length-take-le 3 rest h in
      rw (e, says 3 (omega arith), le-ltb limit n g) refl

  -- a frame of k bytes is as long as they are there
  part-long : (k : ℕ) → k ≤ length rest → length (take k rest) ≡ k
  part-long k h = length-take-le k rest h

  -- the message's bytes
  same-part : 3 + n ≤ length rest → part s (at + 3) (at + 3 + n) ≡ part (take (3 + n) rest) 3 (3 + n)
  same-part h =
      let a : at + 3 + n - (at + 3) ≡ n = omega arith in
      let b : 3 + n - 3 ≡ n = omega arith in
      let e : drop 3 (take (3 + n) rest) ≡ take n (drop 3 rest) = ap (drop 3) (take-add 3 n rest) ∙ drop_at (take 3 rest) (take n (drop 3 rest)) 3 (part-long 3 (omega arith)) in
      let f : take n (take n (drop (at + 3) s)) ≡ take n (drop (at + 3) s) = take_all n (take n (drop (at + 3) s)) (omega (arith, length-take n (drop (at + 3) s))) in
      rw (a, b, e, drop-drop 3 at s, f) refl

  -- no byte is left
  at-end : length s ≤ at → Both s at (frame_of rest)
  at-end h =
      let z : length rest ≡ 0 = omega (arith, rest-long) in
      let e = frame-cut (omega arith) in
      rw e (ends (sym (no_byte limit s at (omega (arith, reach-all s small)))) (sym (no_byte limit rest 0 (omega (arith, reach-all rest (omega arith))))))

  -- the length is cut short
  length-short : at < length s → length s < at + 3 → Both s at (frame_of rest)
  length-short h g =
      let l = rest-long in
      let e = frame-cut (omega arith) in
      let r = reach-all rest (omega arith) in
      rw e (refuses (sym (cut-in-length limit s at (omega (arith, reach-all s small)) (omega (arith, reach-all s small))))
      (sym (cut-in-length limit rest 0 (omega (arith, r)) (omega (arith, r)))) refl)

  module _ (h : at + 3 ≤ length s) where
    here : 3 ≤ length rest
    here = omega (arith, rest-long)

    -- it is above the limit
    above : limit < n → Both s at (frame_of rest)
    above g =
        let l = part-long 3 here in
        let e = frame-head here g in
        rw e (refuses (sym (above-limit limit s at refl (omega (arith, reach-all s small)) g))
        (sym (above-limit limit (take 3 rest) 0 (sym (says 3 (omega arith))) (omega (arith, l, reach-all (take 3 rest) (omega (arith, l)))) g)) refl)

    -- the message is cut short
    message-short : n ≤ limit → length s < at + 3 + n → Both s at (frame_of rest)
    message-short g k =
        let l = rest-long in
        let f : take (3 + n) rest ≡ rest = take_all (3 + n) rest (omega arith) in
        let e : frame_of rest ≡ rest = frame-all here g ∙ f in
        let d : n ≡ field_at rest 0 24 = sym (field-drop s at 24) in
        let r = reach-all rest (omega arith) in
        rw e (refuses (sym (cut-in-message limit s at refl (omega (arith, reach-all s small)) g (omega (arith, reach-all s small))))
        (sym (cut-in-message limit rest 0 d (omega (arith, r)) g (omega (arith, r)))) refl)

    -- it is whole
    message-whole : n ≤ limit → at + 3 + n ≤ length s → Both s at (frame_of rest)
    message-whole g k =
        let l : length (take (3 + n) rest) ≡ 3 + n = part-long (3 + n) (omega (arith, rest-long)) in
        let e = frame-all here g in
        let r = reach-all (take (3 + n) rest) (omega arith) in
        rw e (holds (sym (message limit s at refl (omega (arith, reach-all s small)) g (omega (arith, reach-all s small))))
        (sym (message limit (take (3 + n) rest) 0 (sym (says (3 + n) (omega arith))) (omega (arith, r, l)) g (omega (arith, r, l))))
        (same-part (omega (arith, rest-long))) (omega (arith, l)))

  pub both : Both s at (frame_of rest)
  both = elim (dec_le (length s) at) [
    | yes h ↦ at-end h
    | no h ↦ elim (dec_lt (length s) (at + 3)) [
      | yes g ↦ length-short (omega arith) g
      | no g ↦
          let j : at + 3 ≤ length s = omega arith in
          elim (dec_lt limit n) [
            | yes k ↦ above j k
            | no k ↦ elim (dec_lt (length s) (at + 3 + n)) [
              | yes i ↦ message-short j (omega arith) i
              | no i ↦ message-whole j (omega arith) (omega arith)
            ]
          ]
    ]
  ]
