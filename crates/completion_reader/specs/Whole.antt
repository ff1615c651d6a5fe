-- A whole message: its front by the case's figures, and behind it the widths alone.
use Rattle.std.proofs.Math.Path.{◌≡◌, refl, ap}
use Rattle.std.proofs.Common.{sym, ◌∙◌, arith}
use Rattle.std.specs.Prelude.{Ok, Err, Bool, ℕ, ◌*◌, ◌≤◌, length}
use Rattle.std.proofs.Math.Bool.{true, false}
use mathlib.Core.List.{List, [], ◌∷◌, ◌++◌}
use Rattle.numbers.specs.Base.{gather}
use Rattle.bits.specs.Bits.{reach}
use Rattle.bits.specs.Twos.{to_twos}
use Rattle.layouts.specs.declared.Fault.{Fault}
use Rattle.layouts.specs.declared.Clash.{Clash}
use Rattle.layouts.specs.declared.Clash.TheVariants.{Clear, At}
use Rattle.layouts.specs.declared.Place.{Place}
use Rattle.layouts.specs.Layout.{Layout, Whole, passes, fails, begin, settle, tail_fault, read_whole, nat, held, ◌then◌, ◌▸◌, count_of, fixed}
use Rattle.model.specs.Editions.{device_bits, interval_bits}
use Rattle.model.specs.Messages.{Counts}
use Rattle.model.specs.ByEdition.{completion_by, completion_front_by, completion_layout}
use Rattle.fields.specs.Got.{Got, good, bad, got, on_got, Natural, nat-natural, then-natural, held-natural, goes_on, goes-off, never}
use Rattle.market.specs.Copy.{copy_by, copy_front_by, copy_layout}
use Rattle.completion_reading.specs.declared.Reading.{Reading}
use Rattle.completion_reading.specs.declared.Reading.TheVariants.{RefusedMessage}
use Rattle.completion_reading.specs.Figures.{completion_figures, copy_figures, as_figures, tabled, interval_figures, interval_copy_figures}
use Rattle.completion_reading.specs.Flat.{Walked, cut_at, read_to, walked, walked-long, body_widths, Gave, stops, goes, Flat, singles, desk_rest, market_rest, desk-flat, market-flat}
use Rattle.completion_body.specs.declared.Form.{Form}
use Rattle.completion_body.specs.Forms.{counts_in, widths_of}
use Rattle.completion_reader.specs.Fronts.{kind_by, counts, header}
use Rattle.completion_reader.specs.Behind.{settled}

-- the figures of a message by its form: `figures_in` of the case
abbrev pub figures_by : Bool → ℕ → Counts → ℕ → List ℕ → Whole (List ℕ)
figures_by true e n windows s = as_figures (completion_figures e) (read_whole (completion_layout e n windows) s)
figures_by false e n windows s = as_figures (copy_figures e) (read_whole (copy_layout e n windows) s)

-- ---- a front, and what is read by its widths

module _ {A B C : Type 0} (to : A × B → C) (from : C → A × B) (front : Layout A) (rest : Layout B) (f : B → List ℕ) (g : C → List ℕ) (same : (x : A × B) → g (to x) ≡ f x.1)
    (ws : List ℕ) (u : Flat rest f ws) (v : Natural front) (s : List ℕ) where
  pub front-off : {x : Fault} → got front s begin ≡ bad x → as_figures g (read_whole (held to from (front ▸ rest)) s) ≡ fails x
  unfolding read_whole held ◌then◌
  front-off e = ap (as_figures g) (goes-off v s begin fails _ e)

  figures-settle : (c : C) (t k : Clash) → as_figures g (settle c t k) ≡ settle (g c) t k
  unfolding settle
  figures-settle c (At b) k = refl
  figures-settle c Clear (At b) = refl
  figures-settle c Clear Clear = refl

  pub front-on : {a : A} {p : Place} → got front s begin ≡ good a p → as_figures g (read_whole (held to from (front ▸ rest)) s) ≡ settled s p.clash (walked s p.at ws)
  unfolding read_whole held ◌then◌
  front-on {a} {p} e = ap (as_figures g) (goes_on v s begin fails _ e) ∙ go (u.flat s p)
    where
      go : Gave f p (λ X bad next. rest.read {X = X} s p bad next) (walked s p.at ws)
          → as_figures g (rest.read s p fails (λ b q. settle (to (a, b)) (tail_fault s q.at) q.clash)) ≡ settled s p.clash (walked s p.at ws)
      go (stops b h k) = rw h (ap (as_figures g) (k (Whole C) fails _))
      go (goes b at h k) =
          rw h (ap (as_figures g) (k (Whole C) fails _) ∙ figures-settle (to (a, b)) (tail_fault s at) p.clash ∙ ap (λ (xs : List ℕ). settle xs (tail_fault s at) p.clash) (same (a, b)))

-- ---- the front by the case's figures

abbrev base : ℕ → Form → Layout (ℕ × (ℕ × (ℕ × (ℕ × ℕ))))
base kind f = fixed kind ▸ fixed f.edition ▸ nat (count_of (device_bits f.edition) f.devices f.devices) ▸ nat (count_of (interval_bits f.edition) f.intervals f.intervals)
    ▸ nat (count_of 3 f.zones f.zones)

base-natural : (kind : ℕ) (f : Form) → Natural (base kind f)
base-natural kind f = then-natural (nat-natural _) (λ a. then-natural (nat-natural _) (λ b. then-natural (nat-natural _) (λ c. then-natural (nat-natural _) (λ d. nat-natural _))))

module _ (kind : ℕ) (f : Form) (s : List ℕ) where
  header_is : got (header kind f) s begin ≡ on_got (got (base kind f) s begin) bad (λ v q. good v.1.1.1.1 q)
  unfolding header counts held ◌then◌
  header_is = (base-natural kind f).goes s begin bad (λ v q. good v.1.1.1.1 q)

  -- what the header gives, any other view of the same fields gives
  module _ {A : Type 0} (to : ℕ × (ℕ × (ℕ × (ℕ × ℕ))) → A) (from : A → ℕ × (ℕ × (ℕ × (ℕ × ℕ)))) where
    viewed : got (held to from (base kind f)) s begin ≡ on_got (got (base kind f) s begin) bad (λ v q. good (to v) q)
    unfolding held
    viewed = (base-natural kind f).goes s begin bad (λ v q. good (to v) q)

    view-off : {x : Fault} → got (header kind f) s begin ≡ bad x → got (held to from (base kind f)) s begin ≡ bad x
    view-off {x} e = go (got (base kind f) s begin) refl (sym header_is ∙ e)
      where
        go : (r : Got (ℕ × (ℕ × (ℕ × (ℕ × ℕ))))) → got (base kind f) s begin ≡ r → on_got r bad (λ v q. good v.1.1.1.1 q) ≡ bad x → got (held to from (base kind f)) s begin ≡ bad x
        go (Err y) h e = let k : y ≡ x = cc in viewed ∙ ap (λ (r : Got (ℕ × (ℕ × (ℕ × (ℕ × ℕ))))). on_got r bad (λ v q. good (to v) q)) h ∙ ap bad k
        go (Ok (v, q)) h e = never (sym e)

    view-on : {z : ℕ} {p : Place} → got (header kind f) s begin ≡ good z p → (a : A) × (got (held to from (base kind f)) s begin ≡ good a p)
    view-on {z} {p} e = go (got (base kind f) s begin) refl (sym header_is ∙ e)
      where
        go : (r : Got (ℕ × (ℕ × (ℕ × (ℕ × ℕ))))) → got (base kind f) s begin ≡ r → on_got r bad (λ v q. good v.1.1.1.1 q) ≡ good z p
            → (a : A) × (got (held to from (base kind f)) s begin ≡ good a p)
        go (Err y) h e = never e
        go (Ok (v, q)) h e = let pair : ◌≡◌ {A = ℕ × Place} (v.1.1.1.1, q) (z, p) = cc in let k : q ≡ p = ap (λ (x : ℕ × Place). x.1) pair in (to v, viewed ∙ ap (λ (r : Got (ℕ × (ℕ × (ℕ × (ℕ × ℕ))))). on_got r bad (λ v q. good (to v) q)) h ∙ ap (good (to v)) k)

  pub header-inside : {z : ℕ} {p : Place} → got (header kind f) s begin ≡ good z p → p.at ≤ 8 * reach s
  unfolding header counts
  header-inside e = (held-natural _ _
      (then-natural (nat-natural _) (λ a. then-natural (nat-natural _) (λ b. held-natural _ _ (then-natural (nat-natural _) (λ c. then-natural (nat-natural _) (λ d. nat-natural _))))))).stays
      s begin e (omega arith)

-- ---- the message, by its form

module _ (e : ℕ) (devices intervals zones windows : ℕ) (s : List ℕ) where
  abbrev formed : Bool → Form
  formed desk = record { desk = desk; edition = e; devices = devices; intervals = intervals; zones = zones; windows = windows }

  abbrev many : Counts
  many = record { devices = devices; intervals = intervals; zones = zones }

  message-off : (desk : Bool) {x : Fault} → got (header (kind_by desk) (formed desk)) s begin ≡ bad x → figures_by desk e many windows s ≡ fails x
  unfolding completion_by completion_front_by copy_by copy_front_by completion_figures copy_figures
  message-off true h = front-off _ _ _ (desk_rest e many windows) _ (completion_figures e)
      (λ v. ap (λ (xs : List ℕ). gather (interval_figures e) v.1.0 ++ (xs ++ to_twos 64 v.1.1.1 ∷ [])) (sym (singles v.1.1.0)))
      _ (desk-flat e many windows) (held-natural _ _ (base-natural _ (formed true))) s (view-off (kind_by true) (formed true) s _ _ h)
  message-off false h = front-off _ _ _ (market_rest e many windows) _ (copy_figures e)
      (λ v. ap (λ (xs : List ℕ). gather (interval_copy_figures e) v.1.0 ++ xs) (sym (singles v.1.1)))
      _ (market-flat e many windows) (held-natural _ _ (base-natural _ (formed false))) s (view-off (kind_by false) (formed false) s _ _ h)

  message-on : (desk : Bool) {z : ℕ} {p : Place} → got (header (kind_by desk) (formed desk)) s begin ≡ good z p
      → figures_by desk e many windows s ≡ settled s p.clash (walked s p.at (widths_of (formed desk)))
  unfolding completion_by completion_front_by copy_by copy_front_by completion_figures copy_figures
  message-on true h = front-on _ _ _ (desk_rest e many windows) _ (completion_figures e)
      (λ v. ap (λ (xs : List ℕ). gather (interval_figures e) v.1.0 ++ (xs ++ to_twos 64 v.1.1.1 ∷ [])) (sym (singles v.1.1.0)))
      _ (desk-flat e many windows) (held-natural _ _ (base-natural _ (formed true))) s (view-on (kind_by true) (formed true) s _ _ h).1
  message-on false h = front-on _ _ _ (market_rest e many windows) _ (copy_figures e)
      (λ v. ap (λ (xs : List ℕ). gather (interval_copy_figures e) v.1.0 ++ xs) (sym (singles v.1.1)))
      _ (market-flat e many windows) (held-natural _ _ (base-natural _ (formed false))) s (view-on (kind_by false) (formed false) s _ _ h).1

-- what the code answers, by what it read of the front
module _ (f : Form) (s : List ℕ) {kind : ℕ} (k : kind ≡ kind_by f.desk) where
  pub message-bad : {x : Fault} {table : List ℕ} → got (header kind f) s begin ≡ bad x
      → record { answer = RefusedMessage x; table = table } ≡ tabled (figures_by f.desk f.edition (counts_in f) f.windows s) table
  message-bad {x} {table} e =
      let h : got (header (kind_by f.desk) f) s begin ≡ bad x = rw (sym k) e in
      ap (λ (w : Whole (List ℕ)). tabled w table) (sym (message-off f.edition f.devices f.intervals f.zones f.windows s f.desk h))

  pub message-good : {z : ℕ} {p : Place} {r : Reading} (before : List ℕ) {after : List ℕ} → got (header kind f) s begin ≡ good z p
      → record { answer = r; table = after } ≡ tabled (settled s p.clash (walked s p.at (widths_of f))) before
      → record { answer = r; table = after } ≡ tabled (figures_by f.desk f.edition (counts_in f) f.windows s) before
  message-good {z} {p} before e done =
      let h : got (header (kind_by f.desk) f) s begin ≡ good z p = rw (sym k) e in
      done ∙ ap (λ (w : Whole (List ℕ)). tabled w before) (sym (message-on f.edition f.devices f.intervals f.zones f.windows s f.desk h))

-- ---- how many figures there are

module _ (desk : Bool) (e : ℕ) (n : Counts) (windows : ℕ) (s : List ℕ) where
  abbrev form : Form
  form = record { desk = desk; edition = e; devices = n.devices; intervals = n.intervals; zones = n.zones; windows = windows }

  settled-long : (c : Clash) (at : ℕ) (ws vs : List ℕ) → settled s c (walked s at ws) ≡ passes vs → length vs ≡ length ws
  unfolding settle
  settled-long c at ws vs = go (walked s at ws) refl
    where
      ends : (t k : Clash) (xs : List ℕ) → settle xs t k ≡ passes vs → xs ≡ vs
      ends (At b) k xs e = absurd (let z : ◌≡◌ {A = ℕ} 0 1 = cc in omega arith)
      ends Clear (At b) xs e = absurd (let z : ◌≡◌ {A = ℕ} 0 1 = cc in omega arith)
      ends Clear Clear xs e = cc

      go : (r : Walked) → walked s at ws ≡ r → settled s c r ≡ passes vs → length vs ≡ length ws
      go (cut_at b) h e = absurd (let z : ◌≡◌ {A = ℕ} 0 1 = cc in omega arith)
      go (read_to xs to) h e = ap length (sym (ends (tail_fault s to) c xs e)) ∙ walked-long s at ws xs to h

  -- as many as the form has widths
  pub figures-long : (vs : List ℕ) → figures_by desk e n windows s ≡ passes vs → length vs ≡ length (body_widths desk e n windows)
  figures-long vs h = go (got (header (kind_by desk) form) s begin) refl
    where
      go : (r : Got ℕ) → got (header (kind_by desk) form) s begin ≡ r → length vs ≡ length (body_widths desk e n windows)
      go (Err x) k = absurd (let t = message-off e n.devices n.intervals n.zones windows s desk k in let z : ◌≡◌ {A = ℕ} 0 1 = cc in omega arith)
      go (Ok (z, p)) k = settled-long p.clash p.at _ vs (sym (message-on e n.devices n.intervals n.zones windows s desk k) ∙ h)
