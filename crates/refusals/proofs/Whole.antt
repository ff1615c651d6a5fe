-- A whole message: broken off it is refused by 1 at the first field that is not whole, run on by 6 at the first surplus byte; and which field a refusal is of.
use Rattle.std.proofs.Math.Path.{◌≡◌, refl, ap}
use Rattle.std.proofs.Common.{sym, ◌∙◌, subst, length-append, take-append-drop, lt-ltb, ltb-false}
use Rattle.std.specs.Prelude.{Bool, true, false, List, ◌++◌, ℕ, zero, suc, ◌+◌, ◌-◌, ◌*◌, ◌≤◌, ◌<◌, ltb, take, drop}
use native.Mathlib.Omega.{arith}
use Rattle.std.proofs.Math.ListN.{length}
use Rattle.std.proofs.Math.Seq.{length-take-le}
use Rattle.bits.specs.Bits.{bit_at, reach}
use Rattle.bits.specs.Pick.{pick}
use Rattle.layouts.specs.declared.Fault.{Fault}
use Rattle.layouts.specs.declared.Fault.TheVariants as F
use Rattle.layouts.specs.declared.Clash.{Clash}
use Rattle.layouts.specs.declared.Clash.TheVariants.{Clear, At}
use Rattle.layouts.specs.declared.Place.{Place}
use Rattle.layouts.specs.Faults.{number_of, returned_by}
use Rattle.layouts.specs.Layout.{Layout, Whole, passes, fails, settle, begin, read_whole, first_one, tail_fault, bytes_for, or_else}
use Rattle.refusals.specs.Visited.{Part, end_of, AllGood, first_beyond, first_clash, NotWhole, Contradiction, RefusedAt, FieldTold}
use Rattle.refusals.specs.Visited.{unless}
use Rattle.refusals.proofs.Visited.{field_told, good-ends, within_end, beyond-first, clash-first, refused-not-good}
use Rattle.refusals.proofs.Traced.{Traced, Walk, stops, goes, Passed, bit-same, reach-length}

-- ---- behind the last field

first-same : (s r : List ℕ) (at n : ℕ) → ((k : ℕ) → k < at + n → bit_at r k ≡ bit_at s k) → first_one r at n ≡ first_one s at n
unfolding first_one
first-same s r at zero h = refl
first-same s r at (suc n) h = rw (h at (omega arith), first-same s r (suc at) n (λ k l. h k (omega arith))) refl

-- where no bit is wrong: no byte is left, and none of the fill bits is 1
record Full (s : List ℕ) (at : ℕ) : Type 0 where
  fill : first_one s at (8 * bytes_for at - at) ≡ Clear
  last : length s ≤ bytes_for at

full : (s : List ℕ) (at : ℕ) → tail_fault s at ≡ Clear → Full s at
unfolding tail_fault
full s at e = go (first_one s at (8 * bytes_for at - at)) refl e
  where
    surplus : (b : Bool) → ltb (bytes_for at) (length s) ≡ b → pick b (At (8 * bytes_for at)) Clear ≡ Clear → length s ≤ bytes_for at
    surplus true t e = absurd (let z : ◌≡◌ {A = ℕ} 0 1 = cc in omega arith)
    surplus false t e = ltb-false (bytes_for at) (length s) t

    go : (c : Clash) → first_one s at (8 * bytes_for at - at) ≡ c → or_else c (pick (ltb (bytes_for at) (length s)) (At (8 * bytes_for at)) Clear) ≡ Clear → Full s at
    go Clear t e = record { fill = t; last = surplus (ltb (bytes_for at) (length s)) refl e }
    go (At b) t e = absurd (let z : ◌≡◌ {A = ℕ} 0 1 = cc in omega arith)

-- a message that ends with its last field, and bytes behind it
tail-behind : (s e : List ℕ) (at : ℕ) → 0 < length e → at ≤ 8 * length s → Full s at → tail_fault (s ++ e) at ≡ At (8 * length s)
unfolding tail_fault
tail-behind s e at some room f =
    let l = f.last in
    let n = length-append s e in
    let b : bytes_for at ≡ length s = omega arith in
    let c : first_one (s ++ e) at (8 * bytes_for at - at) ≡ Clear = first-same s (s ++ e) at (8 * bytes_for at - at) (λ k h. bit-same s e k (omega arith)) ∙ f.fill in
    rw (c, lt-ltb (bytes_for at) (length (s ++ e)) (omega arith), b) refl

-- ---- a message that passes reading

module _ {A : Type 0} (l : Layout A) (u : Traced l) where
  -- the fields of a message: all of one that passes, else up to the one refused
  abbrev fields_of : List ℕ → List Part
  fields_of s = u.fields s begin

  -- how a reading that goes on is settled
  abbrev onward : List ℕ → A → Place → Whole A
  onward s a p = settle a (tail_fault s p.at) p.clash

  -- what is known of one that passes: the place behind its last field, that nothing is wrong behind it, and that nothing contradicts
  record Passes (s : List ℕ) (a : A) : Type 1 where
    behind : Place
    passed : Passed s begin (fields_of s) behind
    none : tail_fault s behind.at ≡ Clear
    tail : Full s behind.at
    clear : behind.clash ≡ Clear
    run : (X : Type 0) (bad : Fault → X) (next : A → Place → X) → l.read s begin bad next ≡ next a behind

  whole-passes : (s : List ℕ) (a : A) → read_whole l s ≡ passes a → Passes s a
  unfolding read_whole settle
  whole-passes s a h = go (u.walk s begin)
    where
      settled : (x : A) (q : Place) → Passed s begin (fields_of s) q → ((X : Type 0) (bad : Fault → X) (next : A → Place → X) → l.read s begin bad next ≡ next x q)
          → (f c : Clash) → tail_fault s q.at ≡ f → q.clash ≡ c → settle x f c ≡ passes a → Passes s a
      settled x q g r (At b) c d k e = absurd (let z : ◌≡◌ {A = ℕ} 0 1 = cc in omega arith)
      settled x q g r Clear (At b) d k e = absurd (let z : ◌≡◌ {A = ℕ} 0 1 = cc in omega arith)
      settled x q g r Clear Clear d k e =
          let t : x ≡ a = cc in
          record { behind = q; passed = g; none = d; tail = full s q.at d; clear = k; run = λ X bad next. r X bad next ∙ ap (λ (y : A). next y q) t }

      go : Walk s begin (fields_of s) (λ X bad next. l.read {X = X} s begin bad next) → Passes s a
      go (stops f y e) = absurd (let t = sym (e (Whole A) fails (onward s)) ∙ h in let z : ◌≡◌ {A = ℕ} 0 1 = cc in omega arith)
      go (goes x q g e) = settled x q g e (tail_fault s q.at) q.clash refl refl (sym (e (Whole A) fails (onward s)) ∙ h)

  -- its last field ends within what can be read
  room : (s : List ℕ) (a : A) (h : Passes s a) → h.behind.at ≤ 8 * reach s
  room s a h = rw h.passed.ends (good-ends s 0 (fields_of s) (omega arith) h.passed.good)

  -- ---- broken off

  -- a beginning of k bytes is refused by 1, at the first bit of the first field that does not end within them
  pub record BrokenOff (s : List ℕ) (k : ℕ) : Type 0 where
    pub bit : ℕ
    pub found : first_beyond (8 * k) 0 (u.fields s begin) ≡ At bit
    pub first : NotWhole (8 * k) 0 (u.fields s begin) bit
    pub refused : read_whole l (take k s) ≡ fails (F.Cut bit)

  cut_at : (c e : List ℕ) (b : ℕ) → first_beyond (8 * reach c) 0 (fields_of (c ++ e)) ≡ At b → read_whole l c ≡ fails (F.Cut b)
  unfolding read_whole
  cut_at c e b h = u.broken c e begin fails _ ∙ ap (λ (x : Clash). unless x fails (l.read (c ++ e) begin fails (onward c))) h

  -- all that there is can be read
  all_read : (s : List ℕ) (a : A) → Passes s a → (k : ℕ) → k < length s → reach (take k s) ≡ k
  unfolding reach
  all_read s a h k short = let t = room s a h in let m = h.tail.last in let n = length-take-le k s (omega arith) in omega arith

  pub broken-off : (s : List ℕ) (a : A) → read_whole l s ≡ passes a → (k : ℕ) → k < length s → BrokenOff s k
  broken-off s a h k short = go (whole-passes s a h) (first_beyond (8 * k) 0 (fields_of s)) refl
    where
      go : Passes s a → (c : Clash) → first_beyond (8 * k) 0 (fields_of s) ≡ c → BrokenOff s k
      go w Clear e = absurd (let t = within_end (8 * k) 0 (fields_of s) (omega arith) e in let m = w.tail.last in let z = w.passed.ends in omega arith)
      go w (At b) e = record {
        bit = b;
        found = e;
        first = beyond-first (8 * k) 0 (fields_of s) b (omega arith) e;
        refused = cut_at (take k s) (drop k s) b
            (ap (λ (n : ℕ). first_beyond (8 * n) 0 (fields_of (take k s ++ drop k s))) (all_read s a w k short)
            ∙ ap (λ (z : List ℕ). first_beyond (8 * k) 0 (fields_of z)) (take-append-drop k s)
            ∙ e);
      }

  -- ---- run on

  -- any bytes behind it are refused by 6, at the first bit of the first of them
  pub run_on : (s : List ℕ) (a : A) → read_whole l s ≡ passes a → (e : List ℕ) → 0 < length e → read_whole l (s ++ e) ≡ fails (F.Tail (8 * length s))
  unfolding read_whole settle
  run_on s a h e some = go (whole-passes s a h) (first_beyond (8 * reach s) 0 (fields_of (s ++ e))) refl
    where
      tail : (w : Passes s a) → tail_fault (s ++ e) w.behind.at ≡ At (8 * length s)
      tail w = tail-behind s e w.behind.at some (let t = room s a w in let r = reach-length s in omega arith) w.tail

      go : Passes s a → (c : Clash) → first_beyond (8 * reach s) 0 (fields_of (s ++ e)) ≡ c → l.read (s ++ e) begin fails (onward (s ++ e)) ≡ fails (F.Tail (8 * length s))
      go w (At b) d = absurd (
          let x : ◌≡◌ {A = ℕ} 1 0 =
          sym (w.run ℕ (λ f. 0) (λ a p. 1))
          ∙ u.broken {X = ℕ} s e begin (λ f. 0) (λ a p. 1)
          ∙ ap (λ (c : Clash). unless {X = ℕ} c (λ f. 0) (l.read (s ++ e) begin (λ f. 0) (λ a p. 1))) d in
          omega arith
          )
      go w Clear d =
          sym (u.broken s e begin fails (onward (s ++ e)) ∙ ap (λ (c : Clash). unless c fails (l.read (s ++ e) begin fails (onward (s ++ e)))) d)
          ∙ w.run (Whole A) fails (onward (s ++ e))
          ∙ ap (λ (c : Clash). settle a c w.behind.clash) (tail w)

  -- ---- the field of a refusal

  -- what a refusal tells of the fields visited
  pub data Refusal (s : List ℕ) (x : Fault) : Type 0 where
    -- 1 to 4: the last is cut or out of its range, those before it are whole and in theirs
    by_field : FieldTold s (u.fields s begin) x → Refusal s x
    -- 6 "first wrong bit: fill bit not 0, or first bit of a surplus byte", behind the last, where every field is whole and in its range
    by-tail : AllGood s 0 (u.fields s begin) → tail_fault s (end_of 0 (u.fields s begin)) ≡ At (returned_by x) → number_of x ≡ 6 → Refusal s x
    -- 5 "first bit of the later field": the first bit of the first of them that contradicts an earlier one, where every field is in its range and nothing is wrong behind the last
    by-clash : AllGood s 0 (u.fields s begin) → tail_fault s (end_of 0 (u.fields s begin)) ≡ Clear → Contradiction 0 (u.fields s begin) (returned_by x) → number_of x ≡ 5 → Refusal s x

  pub refusal : (s : List ℕ) (x : Fault) → read_whole l s ≡ fails x → Refusal s x
  unfolding read_whole settle
  refusal s x h = go (u.walk s begin)
    where
      same : {g : Fault} → ◌≡◌ {A = Whole A} (fails g) (fails x) → g ≡ x
      same e = cc

      settled : (a : A) (q : Place) → Passed s begin (fields_of s) q → (f c : Clash) → tail_fault s q.at ≡ f → q.clash ≡ c → settle a f c ≡ fails x → Refusal s x
      settled a q g (At b) c d k e =
          let z : F.Tail b ≡ x = same e in
          by-tail g.good (ap (tail_fault s) (sym g.ends) ∙ d ∙ ap (λ (y : Fault). At (returned_by y)) z) (sym (ap number_of z))
      settled a q g Clear (At b) d k e =
          let z : F.Contradiction b ≡ x = same e in
          let c : Contradiction 0 (fields_of s) b = clash-first 0 (fields_of s) b (sym g.clash ∙ k) in
          by-clash g.good (ap (tail_fault s) (sym g.ends) ∙ d) (subst (λ (n : ℕ). Contradiction 0 (fields_of s) n) (ap returned_by z) c) (sym (ap number_of z))
      settled a q g Clear Clear d k e = absurd (let z : ◌≡◌ {A = ℕ} 0 1 = cc in omega arith)

      go : Walk s begin (fields_of s) (λ X bad next. l.read {X = X} s begin bad next) → Refusal s x
      go (stops f r e) =
          let t : f ≡ x = same (sym (e (Whole A) fails (onward s)) ∙ h) in
          by_field (field_told s (fields_of s) x (subst (λ (y : Fault). RefusedAt s 0 (fields_of s) y) t r))
      go (goes a q g e) = settled a q g (tail_fault s q.at) q.clash refl refl (sym (e (Whole A) fails (onward s)) ∙ h)

  -- and where one of the fields visited is cut or out of its range, the message is refused for it
  pub record Wrong (s : List ℕ) : Type 0 where
    pub fault : Fault
    pub refused : read_whole l s ≡ fails fault
    pub told : FieldTold s (u.fields s begin) fault

  pub field-wrong : (s : List ℕ) → ¬ AllGood s 0 (u.fields s begin) → Wrong s
  unfolding read_whole
  field-wrong s h = go (u.walk s begin)
    where
      go : Walk s begin (fields_of s) (λ X bad next. l.read {X = X} s begin bad next) → Wrong s
      go (stops x r e) = record { fault = x; refused = e (Whole A) fails _; told = field_told s (fields_of s) x r }
      go (goes a q g e) = absurd (h g.good)

  -- 1 to 4 are of a field
  pub field_of : (s : List ℕ) (x : Fault) → read_whole l s ≡ fails x → number_of x < 5 → FieldTold s (u.fields s begin) x
  field_of s x h n = go (refusal s x h)
    where
      go : Refusal s x → FieldTold s (u.fields s begin) x
      go (by_field t) = t
      go (by-tail g t e) = absurd (omega arith)
      go (by-clash g t c e) = absurd (omega arith)

  -- ---- what passes reading

  -- "none of numbers 1 to 6 is found in it": every field is whole and in its range, no bit behind the last is wrong, and none contradicts an earlier one
  pub record Faultless (s : List ℕ) : Type 0 where
    pub good : AllGood s 0 (u.fields s begin)
    pub tail : tail_fault s (end_of 0 (u.fields s begin)) ≡ Clear
    pub clash : first_clash 0 (u.fields s begin) ≡ Clear

  -- such a message passes, and no other
  pub passes-faultless : (s : List ℕ) (a : A) → read_whole l s ≡ passes a → Faultless s
  passes-faultless s a h =
      let w = whole-passes s a h in
      record { good = w.passed.good; tail = ap (tail_fault s) (sym w.passed.ends) ∙ w.none; clash = sym w.passed.clash ∙ w.clear }

  pub faultless-passes : (s : List ℕ) → Faultless s → (a : A) × (read_whole l s ≡ passes a)
  unfolding read_whole settle
  faultless-passes s h = go (u.walk s begin)
    where
      go : Walk s begin (fields_of s) (λ X bad next. l.read {X = X} s begin bad next) → (a : A) × (l.read s begin fails (onward s) ≡ passes a)
      go (stops x r e) = absurd (refused-not-good s 0 (fields_of s) x r h.good)
      go (goes a q g e) =
          let t : tail_fault s q.at ≡ Clear = ap (tail_fault s) g.ends ∙ h.tail in
          let c : q.clash ≡ Clear = g.clash ∙ h.clash in
          (a, e (Whole A) fails (onward s) ∙ rw (t, c) refl)
