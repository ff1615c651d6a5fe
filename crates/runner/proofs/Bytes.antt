-- What one more read or write adds to the bytes that a loop has moved.
use Rattle.std.proofs.Common.{◌≡◌, None, Some, IfSome, inr, Result, Ok, Err, inr, OnOk, OnErr, IfErr, IfSome, ℕ, ◌+◌, ◌-◌, ◌≤◌, List, ◌++◌, length, take, drop, slice_range, length-drop, arith, ap, ◌∙◌, sym, subst, le_refl, drop_at, length-take-le, take_all, take_at}
use Rattle.std.specs.declared.option.Option.{Option}
use Rattle.std.specs.declared.io.Error.{Error}
use Rattle.std.proofs.lemmas.Slice.{take-put_mid_below}
use Rattle.std.specs.Io.KnownBytes.{Keeps, Appends, Consumes}
use Rattle.std.proofs.KnownBytes.{Appends-trans, Consumes-trans, Consumes-kept}
use borrow.Rule.Slice.PartMut.{put_mid, post_of}
use lib.Seq.{take-add, take-append-le, take-length}
use Rattle.wording.specs.Writes.{Writes}
use Rattle.frames.specs.Frames.{frame_of}
use Rattle.runner.specs.Failures.{WritesFront, Fails}

module _ (at : ℕ) (buffer part : List ℕ) (within : at ≤ length buffer) where
  pub front : (k n : ℕ) → n ≤ length part → take (at + n) (put_mid at k buffer part) ≡ take at buffer ++ take n part
  front k n h =
      let behind = post_of at k buffer in
      take-add at n (put_mid at k buffer part)
      ∙ ap (λ (l : List ℕ). l ++ take n (drop at (put_mid at k buffer part))) (take-put_mid_below at k buffer part at (le_refl at) within)
      ∙ ap (λ (l : List ℕ). take at buffer ++ take n l) (drop_at (take at buffer) (part ++ behind) at (length-take-le at buffer within))
      ∙ ap (λ (l : List ℕ). take at buffer ++ l) (take-append-le n part behind h)

  -- n bytes more were read, behind those that the buffer holds
  pub read-more : (a b c : Option (List ℕ)) (k n : ℕ) → n ≤ length part → Consumes a b (take at buffer) → Consumes b c (take n part) → Consumes a c (take (at + n) (put_mid at k buffer part))
  read-more a b c k n h p q = subst (Consumes _ _) (sym (front k n h)) (Consumes-trans _ _ _ _ _ p q)

  -- none was read
  pub read-none : (a b c : Option (List ℕ)) (k : ℕ) → Consumes a b (take at buffer) → Keeps b c → Consumes a c (take at (put_mid at k buffer part))
  read-none a b c k p q = subst (Consumes _ _) (sym (take-put_mid_below at k buffer part at (le_refl at) within)) (Consumes-kept _ _ _ _ p q)

pub Appends-kept : (a b c : Option (List ℕ)) (bs : List ℕ) → Appends a b bs → Keeps b c → Appends a c bs
Appends-kept None b c bs p q = tt
Appends-kept (Some x) None c bs p q = absurd p
Appends-kept (Some x) (Some y) None bs p q = absurd q
Appends-kept (Some x) (Some y) (Some z) bs p q = q ∙ p

-- n bytes more of a text were written
pub write-more : (a b c : Option (List ℕ)) (at n : ℕ) (text : List ℕ) → Appends a b (take at text) → Appends b c (take n (slice_range text at (length text))) → Appends a c (take (at + n) text)
write-more a b c at n text p q =
    let whole : slice_range text at (length text) ≡ drop at text = take_all (length text - at) (drop at text) (omega (arith, length-drop at text)) in
    subst (Appends _ _) (ap (λ (l : List ℕ). take at text ++ take n l) whole ∙ sym (take-add at n text)) (Appends-trans _ _ _ _ _ p q)

-- ---- lines

-- a line that stands at the front of a buffer
pub written : {t a b : List ℕ} {n : ℕ} → Writes t a b n → take n b ≡ t
written {t} {a} {b} {n} w = ap (take n) w.bytes ∙ take_at t (drop n a) n (sym w.count)

-- written whole or in part
pub front-of : {E : Type 0} (a b : Option (List ℕ)) (text : List ℕ) (r : Result (Unit {0}) E) → OnOk r (Appends a b text) → OnErr r (WritesFront a b text) → WritesFront a b text
front-of a b text (Ok x) p q = (length text, subst (Appends a b) (sym (take-length text)) p)
front-of a b text (Err e) p q = q

append-behind : (a b c : Option (List ℕ)) (bs : List ℕ) → Keeps a b → Appends b c bs → Appends a c bs
append-behind None b c bs p q = tt
append-behind (Some x) None c bs p q = absurd p
append-behind (Some x) (Some y) None bs p q = absurd q
append-behind (Some x) (Some y) (Some z) bs p q = q ∙ ap (λ (l : List ℕ). l ++ bs) p

-- a turn that failed while it told the answer to a frame that was read
pub fails-late : (input a b c : Option (List ℕ)) (left : ℕ) (e : Error) (frame line : List ℕ) (text : List ℕ → List ℕ)
    → IfSome input (λ s. frame ≡ frame_of (take left s)) → Keeps a b → WritesFront b c line → line ≡ text frame → Fails input left a c e text
fails-late None a b c left e frame line text n k w l = inr tt
fails-late (Some s) a b c left e frame line text n k w l = inr (w.0, append-behind a b c _ k (subst (λ (t : List ℕ). Appends b c (take w.0 t)) (l ∙ ap text n) w.1))

-- ---- answers that could not be told

kept-front : (a b c : Option (List ℕ)) (text : List ℕ) → Keeps a b → WritesFront b c text → WritesFront a c text
kept-front None b c text k w = (0, tt)
kept-front (Some x) None c text k w = absurd k
kept-front (Some x) (Some y) None text k w = absurd w.1
kept-front (Some x) (Some y) (Some z) text k w = (w.0, w.1 ∙ ap (λ (l : List ℕ). l ++ take w.0 text) k)

to-frame : (input old new : Option (List ℕ)) (left : ℕ) (frame : List ℕ) (text : List ℕ → List ℕ) → IfSome input (λ s. frame ≡ frame_of (take left s)) → WritesFront old new (text frame)
    → IfSome input (λ s. WritesFront old new (text (frame_of (take left s))))
to-frame None old new left frame text i w = tt
to-frame (Some s) old new left frame text i w = subst (λ (f : List ℕ). WritesFront old new (text f)) i w

pub answer-fails : {A : Type 0} (input old mid new : Option (List ℕ)) (left : ℕ) (frame : List ℕ) (text : List ℕ → List ℕ) (r : Result A Error) → Keeps old mid
    → IfSome input (λ s. frame ≡ frame_of (take left s)) → WritesFront mid new (text frame) → IfErr r (λ e. Fails input left old new e text)
answer-fails input old mid new left frame text (Ok x) k i w = tt
answer-fails input old mid new left frame text (Err e) k i w = inr (to-frame input old new left frame text i (kept-front old mid new (text frame) k w))
