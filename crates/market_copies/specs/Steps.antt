-- The steps of the market's copy against a decoded case: refused or broken as the plan is judged; accepted, the copy of the completion that was written.
use Rattle.std.proofs.Math.Path.{◌≡◌, refl, sym, ap}
use Rattle.std.proofs.Common.{◌∙◌, length-take}
use Rattle.std.specs.Prelude.{Bool, true, false, ℕ, ◌+◌, ◌*◌, ◌^◌, ◌≤◌, ◌<◌, leb, length, ℤ}
use mathlib.Core.List.{List, [], ◌∷◌, ◌++◌}
use native.Mathlib.Omega.{arith}
use borrow.Author.Tests.{le-leb, lt-leb}
use Rattle.std.proofs.Math.ListN.{take, drop}
use Rattle.std.proofs.Math.Seq.{take_at}
use Rattle.bits.specs.Pick.{pick}
use Rattle.layouts.specs.declared.Fault.{Fault}
use Rattle.layouts.specs.declared.Fault.TheVariants.{TooShort}
use Rattle.layouts.specs.Layout.{Whole, passes, fails}
use Rattle.model.specs.declared.Breach.{Breach}
use Rattle.model.specs.declared.Subject.{Subject}
use Rattle.model.specs.declared.Subject.TheVariants as S
use Rattle.model.specs.declared.Verdict.{Verdict}
use Rattle.model.specs.declared.Verdict.TheVariants as Y
use Rattle.model.specs.Case.{Plan, System}
use Rattle.model.specs.Breaches.{breaches}
use Rattle.model.proofs.Named.{none-every}
use Rattle.model.specs.ByEdition.{Stated}
use Rattle.model.specs.Ours.{ours}
use Rattle.model.specs.Judgement as J
use Rattle.model.specs.Judgement.{counts_of, energy_windows, read_plan, verdict, accepts, judged, buffer_after, our_surplus, completion_bytes}
use Rattle.theorems.specs.Promise.{Sound}
use Rattle.row_places.specs.declared.Front.{Front}
use Rattle.records.specs.Views.{system_in, case_in, CaseRows}
use Rattle.records.specs.Viewed as Viewed
use Rattle.completion_size.specs.Size.{written-needed}
use Rattle.completions.specs.Windows.{Few, CountedTo, windows_up_to, windows-whole}
use Rattle.completions.specs.Whole.{needed_for}
use Rattle.decoded_cases.specs.Decoded.{Decoded, stated_rows, sound-rows}
use Rattle.plan_judgement.specs.JudgesPlan.{JudgesPlan}
use Rattle.bit_copier.specs.Moves.{Renews}
use Rattle.market.specs.declared.Copying.{Copying}
use Rattle.market.specs.declared.Copying.TheVariants.{Copied, Broken, Refused}
use Rattle.market.specs.Copy.{copy_bytes, copying, copy_after, Copies, copied_plan, with_plan}
use Rattle.market.specs.CopySplice.{copy_splice}
use Rattle.market.proofs.Promise.{broken-alike, completion-bound}
use Rattle.market_copier.specs.Counts.{counts_in}
use Rattle.market_copier.specs.Whole.{copy_written}

-- "then 7": so many bytes against the buffer's
unfoldable pub fitting : ℕ → ℕ → Copying
fitting needed room = pick (leb needed room) (Copied needed) (Refused S.Result (TooShort needed))

pub answer-short : {needed room : ℕ} → room < needed → Refused S.Result (TooShort needed) ≡ fitting needed room
unfolding fitting
answer-short {needed} {room} h = rw (lt-leb needed room h) refl

pub answer-copied : {needed room : ℕ} → needed ≤ room → Copied needed ≡ fitting needed room
unfolding fitting
answer-copied {needed} {room} h = rw (le-leb needed room h) refl

-- no completion takes more
abbrev pub most_bytes : ℕ
most_bytes = 70876

-- ---- the copy of a completion that stands at the front of a buffer

pub record Shows (edition : ℕ) (halves : List ℕ) (zones devices : List (List ℕ)) (whole entry exit : List ℕ) (r : Copying) : Type 0 where
  pub needed : ℕ
  pub renews : Renews (copy_splice edition (counts_in (length devices) (length halves) (length zones)) (windows_up_to devices (length devices))) 0
      (take (needed_for edition halves zones devices) whole) entry exit needed
  pub answer : r ≡ fitting needed (length entry)

-- as many as the front of a buffer holds
pub first-long : {A : Type 0} (k : ℕ) (xs : List A) → k ≤ length xs → k ≡ length (take k xs)
first-long k xs h = sym (length-take k xs ∙ omega arith)

-- from the counts and bytes that the code finds
pub shows-of : (edition : ℕ) (halves : List ℕ) (zones devices : List (List ℕ)) (whole : List ℕ) {entry exit : List ℕ} {end windows needed : ℕ} {r : Copying}
    → end ≡ needed_for edition halves zones devices → CountedTo devices (length devices) windows
    → Renews (copy_splice edition (counts_in (length devices) (length halves) (length zones)) windows) 0 (take end whole) entry exit needed
    → r ≡ fitting needed (length entry) → Shows edition halves zones devices whole entry exit r
shows-of edition halves zones devices whole {needed = needed} e k w a = record { needed = needed; renews = rw (e, k.is) at w; answer = a }

-- ---- a plan's bytes

-- what asking for the copy gives back: the definition's answer, and the buffer as the definition leaves it
pub record CopiesPlan (front : Front) (halves : List ℕ) (zones minima devices cells : List (List ℕ)) (ps before after : List ℕ) (r : Copying) : Type 0 where
  pub answer : r ≡ (with_plan front.edition (system_in halves zones minima devices cells) before (read_plan (stated_rows front halves zones minima devices cells) ps)).answer
  pub result : after ≡ (with_plan front.edition (system_in halves zones minima devices cells) before (read_plan (stated_rows front halves zones minima devices cells) ps)).result

-- the verdict with room for any completion
module _ (x : Stated) (g : Sound x) (ps whole : List ℕ) (room : most_bytes ≤ length whole) where
  abbrev e : ℕ
  e = x.edition

  abbrev q : System
  q = x.case.system

  -- refused: in reading
  refused-go : (before : List ℕ) (w : Whole Plan) (s : Subject) (f : Fault) → read_plan x ps ≡ w → Y.Refused s f ≡ (J.with_plan x whole w).verdict
      → (Refused s f ≡ (with_plan e q before w).answer) × (before ≡ (with_plan e q before w).result)
  unfolding judged verdict accepts
  refused-go before (fails h) s f k v = let a : s ≡ S.Plan = cc in let b : f ≡ h = cc in (rw (a, b) refl, refl)
  refused-go before (passes p) s f k v = absurd (go (breaches q p) refl v)
    where
      go : (bs : List Breach) → breaches q p ≡ bs
          → Y.Refused s f ≡ J.unless_broken bs (pick (leb (length (completion_bytes x p)) (length whole)) (Y.Accepted (our_surplus x.case p)) (Y.Refused S.Result (TooShort
          (length (completion_bytes x p)))))
          → ⊥
      go [] n u =
          let t = le-leb (length (completion_bytes x p)) (length whole) (omega (arith, room, completion-bound x g ps p k (none-every q p n))) in
          let m : Y.Refused s f ≡ Y.Accepted (our_surplus x.case p) = rw t at u in
          let z : ◌≡◌ {A = ℕ} 0 1 = cc in omega arith
      go (b ∷ bs) n u = let z : ◌≡◌ {A = ℕ} 0 1 = cc in omega arith

  -- broken: with the same place
  broken-go : (before : List ℕ) (w : Whole Plan) (b : Breach) → Y.Broken b ≡ (J.with_plan x whole w).verdict
      → (Broken b ≡ (with_plan e q before w).answer) × (before ≡ (with_plan e q before w).result)
  unfolding judged copied_plan
  broken-go before (fails h) b v = absurd (let z : ◌≡◌ {A = ℕ} 0 1 = cc in omega arith)
  broken-go before (passes p) b v =
      let k : copying e q p (length before) ≡ Broken b = (broken-alike x p (length whole) (length before) b).0 (sym v) in
      (sym k, sym (ap (λ (r : Copying). copy_after r (copy_bytes e q p) before) k))

  -- accepted: the plan, which breaks no rule, with its completion at the front of the buffer
  pub record Stands (after : List ℕ) : Type 0 where
    pub plan : Plan
    pub reads : read_plan x ps ≡ passes plan
    pub unbroken : breaches q plan ≡ []
    pub front : take (length (completion_bytes x plan)) after ≡ completion_bytes x plan

  stands-go : (after : List ℕ) (w : Whole Plan) (z : ℤ) → read_plan x ps ≡ w → Y.Accepted z ≡ (J.with_plan x whole w).verdict → after ≡ (J.with_plan x whole w).result → Stands after
  unfolding judged verdict accepts
  stands-go after (fails h) z k v r = absurd (let z : ◌≡◌ {A = ℕ} 0 1 = cc in omega arith)
  stands-go after (passes p) z k v r = go (breaches q p) refl v (r ∙ ap (λ (y : Verdict). buffer_after y (completion_bytes x p) whole) (sym v))
    where
      go : (bs : List Breach) → breaches q p ≡ bs
          → Y.Accepted z ≡ J.unless_broken bs (pick (leb (length (completion_bytes x p)) (length whole)) (Y.Accepted (our_surplus x.case p)) (Y.Refused S.Result (TooShort (length
          (completion_bytes x p)))))
          → after ≡ completion_bytes x p ++ drop (length (completion_bytes x p)) whole → Stands after
      go [] n u r = record {
        plan = p;
        reads = k;
        unbroken = n;
        front = ap (take (length (completion_bytes x p))) r ∙ take_at (completion_bytes x p) _ _ refl;
      }
      go (b ∷ bs) n u r = absurd (let z : ◌≡◌ {A = ℕ} 0 1 = cc in omega arith)

module _ {front : Front} {halves : List ℕ} {zones minima devices cells : List (List ℕ)} (d : Decoded front halves zones minima devices cells)
    (ps whole : List ℕ) (room : most_bytes ≤ length whole) {after : List ℕ} {v : Verdict} (h : JudgesPlan front halves zones minima devices cells ps whole after v) where
  abbrev x : Stated
  x = stated_rows front halves zones minima devices cells

  abbrev c : System
  c = system_in halves zones minima devices cells

  pub copy-refused : (before : List ℕ) {s : Subject} {f : Fault} → v ≡ Y.Refused s f → CopiesPlan front halves zones minima devices cells ps before before (Refused s f)
  copy-refused before {s} {f} t =
      let k = refused-go x (sound-rows d) ps whole room before (read_plan x ps) s f refl (sym t ∙ h.verdict) in
      record { answer = k.0; result = k.1 }

  pub copy-broken : (before : List ℕ) {b : Breach} → v ≡ Y.Broken b → CopiesPlan front halves zones minima devices cells ps before before (Broken b)
  copy-broken before {b} t =
      let k = broken-go x (sound-rows d) ps whole room before (read_plan x ps) b (sym t ∙ h.verdict) in
      record { answer = k.0; result = k.1 }

  stands : {z : ℤ} → v ≡ Y.Accepted z → Stands x (sound-rows d) ps whole room after
  stands {z} t = stands-go x (sound-rows d) ps whole room after (read_plan x ps) z refl (sym t ∙ h.verdict) h.result

  pub few-rows : Few halves zones devices
  few-rows = let r = d.rows in record { few-devices = r.few-devices; few-intervals = r.few-intervals; few-zones = r.few-zones; counted = r.counted }

  -- the bytes that the completion takes
  bytes-long : (p : Plan) → length (completion_bytes x p) ≡ needed_for front.edition halves zones devices
  unfolding completion_bytes
  bytes-long p = written-needed front.edition c (ours x.case p) (our_surplus x.case p)
      ∙ rw (
        Viewed.devices-are halves zones minima devices cells,
        Viewed.intervals-are halves zones minima devices cells,
        Viewed.zones-are halves zones minima devices cells,
        windows-whole d.rows,
      ) refl

  pub whole_room : {z : ℤ} → v ≡ Y.Accepted z → needed_for front.edition halves zones devices ≤ length after
  whole_room t =
      let s = stands t in
      omega (arith, ap length s.front, length-take (length (completion_bytes x s.plan)) after, bytes-long s.plan)

  -- the splice, by the case's counts
  renews-same : {a b m o p q w y : ℕ} {s t entry exit : List ℕ} {n : ℕ} → a ≡ b → m ≡ o → p ≡ q → w ≡ y → s ≡ t
      → Renews (copy_splice front.edition (counts_in a m p) w) 0 s entry exit n → Renews (copy_splice front.edition (counts_in b o q) y) 0 t entry exit n
  renews-same i j k l m r = rw (i, j, k, l, m) at r

  pub copy-accepted : {before exit : List ℕ} {z : ℤ} {r : Copying} → v ≡ Y.Accepted z → Shows front.edition halves zones devices after before exit r
      → CopiesPlan front halves zones minima devices cells ps before exit r
  unfolding copied_plan copying fitting
  copy-accepted {before} {exit} {z} {r} t w =
      let s = stands t in
      let p = s.plan in
      let same = renews-same (sym (Viewed.devices-are halves zones minima devices cells)) (sym (Viewed.intervals-are halves zones minima devices cells))
      (sym (Viewed.zones-are halves zones minima devices cells)) (windows-whole d.rows) (ap (λ (n : ℕ). take n after) (sym (bytes-long p)) ∙ s.front) w.renews in
      let k = copy_written x (sound-rows d) ps p s.reads s.unbroken same in
      record {
        answer = rw (s.reads, s.unbroken, sym k.0) w.answer;
        result = rw s.reads k.1;
      }
