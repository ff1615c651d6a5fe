-- The answers told so far, and those to the bytes that are left.
use Rattle.std.proofs.Common.{◌≡◌, refl, None, Some, IfSome, Result, Ok, Err, OnOk, IfErr, IsErrAnd, Bool, true, false, inl, inr, ℕ, zero, suc, ◌+◌, ◌-◌, ◌^◌, ◌≤◌, ◌<◌, min, List, [], ◌∷◌, ◌++◌, length, take, drop, arith, ap, ◌∙◌, sym, subst, append_assoc, append-nil, add-one, length-take, length-drop, length-append, take_all, take_at, drop_at}
use Rattle.std.specs.declared.option.Option.{Option}
use Rattle.std.specs.declared.io.Error.{Error}
use Rattle.std.specs.Io.KnownBytes.{Appends, Consumes}
use Rattle.std.proofs.KnownBytes.{Appends-nil, Appends-trans}
use Rattle.std.proofs.Math.Seq.{take-append-add}
use Rattle.std.proofs.lemmas.List.{take_min, take-append-le}
use Rattle.bits.specs.Bits.{reach}
use Rattle.bits.specs.Pick.{pick}
use Rattle.layouts.specs.declared.Framed.TheVariants as B
use Rattle.layouts.proofs.Frames.{no_byte}
use Rattle.model.specs.ByEdition.{Stated}
use Rattle.frames.specs.Frames.{limit, frame_of, framed}
use Rattle.wording.specs.Text.{texts, batch_text, failure_text}
use Rattle.answers.specs.Answers.{After, over, plans, case_lines, case_after, plan_answers, more_of}
use Rattle.answers.specs.Steps.{more_bytes}
use Rattle.answers.specs.Stream.{plans_text, behind_case, stream_text}
use Rattle.answers.specs.Whole.{streamed}
use Rattle.runner.specs.Failures.{error_number, WritesFront, Fails}
use Rattle.runner.specs.Reading.{ReadsFrame}
use Rattle.batch.specs.Told.{plans_told, FailsIn}

abbrev case_told : List ℕ → List ℕ
case_told f = texts (case_lines f (framed f))

abbrev answered : Stated → ℕ → List ℕ → List ℕ
answered x index f = texts (plan_answers x index f (framed f))

-- ---- how many frames are looked for

ends : framed [] ≡ B.End
unfolding reach
ends = sym (no_byte limit [] 0 (omega arith))

no-frame : frame_of [] ≡ []
no-frame = take_all _ [] (omega arith)

none-left : (x : Stated) (n index : ℕ) → plans_text x n index [] ≡ []
unfolding plans_text texts
none-left x zero index = refl
none-left x (suc n) index = rw (no-frame, ends) refl

-- however many frames are looked for, if they are as many as the bytes
same-text : (x : Stated) (n k index : ℕ) (rest : List ℕ) → length rest ≤ n → length rest ≤ k → plans_text x n index rest ≡ plans_text x k index rest
unfolding plans_text
same-text x zero k index rest p q = let e : rest ≡ [] = sym (take_all 0 rest p) in rw e (sym (none-left x k index))
same-text x (suc n) zero index rest p q = let e : rest ≡ [] = sym (take_all 0 rest q) in rw e (none-left x (suc n) index)
same-text x (suc n) (suc k) index rest p q =
    ap (λ (l : List ℕ). answered x index (frame_of rest) ++ l)
    (go (drop (length (frame_of rest)) rest) refl (λ l r. same-text x n k (suc index) (drop (length (frame_of rest)) rest) l r) (more_of (framed (frame_of rest))) refl)
  where
    go : (behind : List ℕ) → behind ≡ drop (length (frame_of rest)) rest
        → (length behind ≤ n → length behind ≤ k → plans_text x n (suc index) behind ≡ plans_text x k (suc index) behind)
        → (b : Bool) → more_of (framed (frame_of rest)) ≡ b → pick b (plans_text x n (suc index) behind) [] ≡ pick b (plans_text x k (suc index) behind) []
    go behind t same false e = refl
    go behind t same true e =
        let some = more_bytes (frame_of rest) e in
        let long : length behind ≡ length rest - length (frame_of rest) = ap length t ∙ length-drop (length (frame_of rest)) rest in
        same (omega arith) (omega arith)

-- one frame, and those behind it
one-turn : (x : Stated) (index : ℕ) (rest : List ℕ) → plans_told x index rest
    ≡ answered x index (frame_of rest) ++ pick (more_of (framed (frame_of rest))) (plans_told x (suc index) (drop (length (frame_of rest)) rest)) []
unfolding plans_text
one-turn x index rest =
    let behind = drop (length (frame_of rest)) rest in
    same-text x (length rest) (suc (length rest)) index rest (omega arith) (omega arith)
    ∙ ap (λ (l : List ℕ). answered x index (frame_of rest) ++ pick (more_of (framed (frame_of rest))) l [])
    (same-text x (length rest) (length behind) (suc index) behind (omega (arith, length-drop (length (frame_of rest)) rest)) (omega arith))

-- what is left behind a frame
behind-frame : (f u s : List ℕ) (left rest : ℕ) → s ≡ f ++ u → length f + rest ≡ left → drop (length f) (take left s) ≡ take rest u
behind-frame f u s left rest e n =
    ap (λ (k : ℕ). drop (length f) (take k s)) (sym n) ∙ ap (λ (l : List ℕ). drop (length f) (take (length f + rest) l)) e
    ∙ ap (drop (length f)) (take-append-add f u rest) ∙ drop_at f (take rest u) (length f) refl

-- the answers to what is left, by the frame that was read
turn-is : (x : Stated) (index : ℕ) (f rest : List ℕ) → f ≡ frame_of rest
    → plans_told x index rest ≡ answered x index f ++ pick (more_of (framed f)) (plans_told x (suc index) (drop (length f) rest)) []
turn-is x index f rest e =
    one-turn x index rest
    ∙ ap (λ (g : List ℕ). answered x index g ++ pick (more_of (framed g)) (plans_told x (suc index) (drop (length g) rest)) []) (sym e)

-- a front of two texts, one behind the other
front-within : (t u : List ℕ) (k : ℕ) → take (length t + k) (t ++ u) ≡ t ++ take k u
front-within t u k = take-append-add t u k

-- a front of a text's front
front-least : (t u : List ℕ) (k : ℕ) → take (min k (length t)) (t ++ u) ≡ take k t
front-least t u k = take-append-le (min k (length t)) t u (omega arith) ∙ take_min k t

-- ---- between two plans

-- the answers told so far, with those to what is left of the input, are the whole text; an input of which it was known what it holds is one still
abbrev pub Stands : Stated → ℕ → List ℕ → Option (List ℕ) → Option (List ℕ) → ℕ → Option (List ℕ) → Type 0
Stands x index whole old new rest None = ⊥
Stands x index whole old new rest (Some s) = (t : List ℕ) × Appends old new t × (t ++ plans_told x index (take rest s) ≡ whole)

module _ (x : Stated) (whole : List ℕ → List ℕ) (old : Option (List ℕ)) where
  pub begins : (a : Option (List ℕ)) (left : ℕ) → IfSome a (λ s. Stands x 1 (plans_told x 1 (take left s)) old old left a)
  begins None left = tt
  begins (Some s) left = ([], Appends-nil old, refl)

  module _ (index rest : ℕ) (new : Option (List ℕ)) where
    pub ended : (a b : Option (List ℕ)) → IfSome a (λ s. Stands x index (whole s) old new rest b) → rest ≤ 0 → IfSome a (λ s. Appends old new (whole s))
    ended None b h z = tt
    ended (Some s) None h z = absurd h
    ended (Some s) (Some u) h z =
        let r : rest ≡ 0 = omega arith in
        let e : plans_told x index (take rest u) ≡ [] = ap (λ (n : ℕ). plans_told x index (take n u)) r ∙ none-left x 0 index in
        subst (Appends old new) (sym (append-nil h.0) ∙ ap (λ (l : List ℕ). h.0 ++ l) (sym e) ∙ h.2) h.1

    pub failed : (a b later : Option (List ℕ)) (e : Error) → IfSome a (λ s. Stands x index (whole s) old new rest b)
        → Fails b rest new later e (λ f. answered x index f) → IfSome a (λ s. FailsIn old later e (whole s))
    failed None b later e h f = tt
    failed (Some s) None later e h f = absurd h
    failed (Some s) (Some u) later e h (inl f) =
        let line = failure_text (error_number e) in
        let front : take (length h.0) (whole s) ≡ h.0 = ap (take (length h.0)) (sym h.2) ∙ take_at h.0 (plans_told x index (take rest u)) (length h.0) refl in
        (length h.0, f.0, subst (Appends old later) (ap (λ (l : List ℕ). l ++ take f.0 line) (sym front)) (Appends-trans old new later h.0 (take f.0 line) h.1 f.1))
    failed (Some s) (Some u) later e h (inr f) =
        let frame = frame_of (take rest u) in
        let text = answered x index frame in
        let k = min f.0 (length text) in
        let behind = pick (more_of (framed frame)) (plans_told x (suc index) (drop (length frame) (take rest u))) [] in
        let front : take (length h.0 + k) (whole s) ≡ h.0 ++ take f.0 text =
        ap (take (length h.0 + k)) (sym h.2 ∙ ap (λ (l : List ℕ). h.0 ++ l) (one-turn x index (take rest u)))
        ∙ front-within h.0 (text ++ behind) k ∙ ap (λ (l : List ℕ). h.0 ++ l) (front-least text behind f.0) in
        (length h.0 + k, 0, subst (Appends old later) (sym front ∙ sym (append-nil (take (length h.0 + k) (whole s)))) (Appends-trans old new later h.0 (take f.0 text) h.1 f.1))

    module _ (f : List ℕ) (later : Option (List ℕ)) (rest' : ℕ) (size : length f + rest' ≡ rest) (told : Appends new later (answered x index f)) where
      pub stepped : (a b c : Option (List ℕ)) → IfSome a (λ s. Stands x index (whole s) old new rest b) → ReadsFrame b c rest f → more_of (framed f) ≡ true
          → IfSome a (λ s. Stands x (index + 1) (whole s) old later rest' c)
      stepped None b c h r m = tt
      stepped (Some s) None c h r m = absurd h
      stepped (Some s) (Some u) None h r m = absurd r.bytes
      stepped (Some s) (Some u) (Some v) h r m =
          let text = answered x index f in
          let turn : plans_told x index (take rest u) ≡ text ++ plans_told x (index + 1) (take rest' v) =
          turn-is x index f (take rest u) r.next
          ∙ ap (λ (b : Bool). text ++ pick b (plans_told x (suc index) (drop (length f) (take rest u))) []) m
          ∙ ap (λ (l : List ℕ). text ++ plans_told x (suc index) l) (behind-frame f v u rest rest' r.bytes size)
          ∙ ap (λ (k : ℕ). text ++ plans_told x k (take rest' v)) (sym (add-one index)) in (
            h.0 ++ text,
            Appends-trans old new later h.0 text h.1 told,
            append_assoc h.0 text (plans_told x (index + 1) (take rest' v)) ∙ ap (λ (l : List ℕ). h.0 ++ l) (sym turn) ∙ h.2,
          )

      pub finished : (a b c : Option (List ℕ)) → IfSome a (λ s. Stands x index (whole s) old new rest b) → ReadsFrame b c rest f → more_of (framed f) ≡ false
          → IfSome a (λ s. Appends old later (whole s))
      finished None b c h r m = tt
      finished (Some s) None c h r m = absurd h
      finished (Some s) (Some u) c h r m =
          let text = answered x index f in
          let turn : plans_told x index (take rest u) ≡ text =
          turn-is x index f (take rest u) r.next
          ∙ ap (λ (b : Bool). text ++ pick b (plans_told x (suc index) (drop (length f) (take rest u))) []) m ∙ append-nil text in
          subst (Appends old later) (ap (λ (l : List ℕ). h.0 ++ l) (sym turn) ∙ h.2) (Appends-trans old new later h.0 text h.1 told)

-- ---- the case ahead of the plans

-- the most bytes of a batch
abbrev pub most : ℕ
most = 2 ^ 61 - 1

begun : (s f : List ℕ) → length s < 2 ^ 61 → f ≡ frame_of (take most s) → batch_text s ≡ case_told f ++ behind_case (case_after f (framed f)) (length s) (drop (length f) s)
unfolding stream_text
begun s f small e =
    let whole : take most s ≡ s = take_all most s (omega arith) in
    sym (streamed s small)
    ∙ ap (λ (g : List ℕ). case_told g ++ behind_case (case_after g (framed g)) (length s) (drop (length g) s)) (sym (ap frame_of whole) ∙ sym e)

pub case-failed : (a old new : Option (List ℕ)) (e : Error) → Fails a most old new e (λ f. case_told f) → IfSome a (λ s. length s < 2 ^ 61 → FailsIn old new e (batch_text s))
case-failed None old new e f = tt
case-failed (Some s) old new e (inl f) = λ small. (0, f.0, f.1)
case-failed (Some s) old new e (inr f) = λ small.
    let frame = frame_of (take most s) in
    let text = case_told frame in
    let behind = behind_case (case_after frame (framed frame)) (length s) (drop (length frame) s) in
    let k = min f.0 (length text) in
    let front : take k (batch_text s) ≡ take f.0 text = ap (take k) (begun s frame small refl) ∙ front-least text behind f.0 in
    (k, 0, subst (Appends old new) (sym front ∙ sym (append-nil (take k (batch_text s)))) f.1)

module _ (f : List ℕ) (rest : ℕ) (size : length f + rest ≡ most) (old new : Option (List ℕ)) (told : Appends old new (case_told f)) where
  pub only-case : (a b : Option (List ℕ)) → ReadsFrame a b most f → over ≡ case_after f (framed f) → IfSome a (λ s. length s < 2 ^ 61 → Appends old new (batch_text s))
  only-case None b r m = tt
  only-case (Some s) b r m = λ small.
      subst (Appends old new)
      (sym (begun s f small r.next ∙ ap (λ (a : After). case_told f ++ behind_case a (length s) (drop (length f) s)) (sym m) ∙ append-nil (case_told f))) told

  text-is : (x : Stated) (s u : List ℕ) → length s < 2 ^ 61 → f ≡ frame_of (take most s) → s ≡ f ++ u → plans x ≡ case_after f (framed f) → batch_text s ≡ case_told f ++ plans_told x 1 (take rest u)
  text-is x s u small e t m =
      let whole : take most s ≡ s = take_all most s (omega arith) in
      let behind : drop (length f) s ≡ take rest u = sym (ap (drop (length f)) whole) ∙ behind-frame f u s most rest t size in
      let short : length (take rest u) ≤ length s = omega (arith, ap length behind, length-drop (length f) s) in
      begun s f small e ∙ ap (λ (a : After). case_told f ++ behind_case a (length s) (drop (length f) s)) (sym m)
      ∙ ap (λ (l : List ℕ). case_told f ++ plans_text x (length s) 1 l) behind
      ∙ ap (λ (l : List ℕ). case_told f ++ l) (same-text x (length s) (length (take rest u)) 1 (take rest u) short (omega arith))

  pub with-plans : (x : Stated) (a b later : Option (List ℕ)) → ReadsFrame a b most f → plans x ≡ case_after f (framed f) → IfSome b (λ u. Appends new later (plans_told x 1 (take rest u)))
      → IfSome a (λ s. length s < 2 ^ 61 → Appends old later (batch_text s))
  with-plans x None b later r m p = tt
  with-plans x (Some s) None later r m p = absurd r.bytes
  with-plans x (Some s) (Some u) later r m p = λ small.
      subst (Appends old later) (sym (text-is x s u small r.next r.bytes m)) (Appends-trans old new later (case_told f) (plans_told x 1 (take rest u)) told p)

  pub plans-failed : (x : Stated) (a b later : Option (List ℕ)) (e : Error) → ReadsFrame a b most f → plans x ≡ case_after f (framed f) → IfSome b (λ u. FailsIn new later e (plans_told x 1 (take rest u)))
      → IfSome a (λ s. length s < 2 ^ 61 → FailsIn old later e (batch_text s))
  plans-failed x None b later e r m p = tt
  plans-failed x (Some s) None later e r m p = absurd r.bytes
  plans-failed x (Some s) (Some u) later e r m p = λ small.
      let text = case_told f in
      let behind = plans_told x 1 (take rest u) in
      let line = take p.1 (failure_text (error_number e)) in
      let front : take (length text + p.0) (batch_text s) ≡ text ++ take p.0 behind =
      ap (take (length text + p.0)) (text-is x s u small r.next r.bytes m) ∙ front-within text behind p.0 in (
        length text + p.0,
        p.1,
        subst (Appends old later) (sym (append_assoc text (take p.0 behind) line) ∙ ap (λ (l : List ℕ). l ++ line) (sym front))
            (Appends-trans old new later text (take p.0 behind ++ line) told p.2),
      )

-- ---- by how a call ended

pub err-at : {A : Type 0} (P : Error → Type 0) (r : Result A Error) (d : Error) → IsErrAnd r (λ e. e ≡ d) → P d → IfErr r P
err-at P (Ok x) d h p = tt
err-at P (Err e) d h p = subst P (sym h) p

pub on-ok : {A E P Q : Type 0} (r : Result A E) → OnOk r P → (P → Q) → OnOk r Q
on-ok (Ok x) p f = f p
on-ok (Err e) p f = tt

pub if-err : {A E : Type 0} {P Q : E → Type 0} (r : Result A E) → IfErr r P → ((e : E) → P e → Q e) → IfErr r Q
if-err (Ok x) p f = tt
if-err (Err e) p f = f e p
