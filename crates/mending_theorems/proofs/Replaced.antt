-- What a replaced online power leaves as it was.
use Rattle.std.specs.Prelude.{◌≡◌, get_or}
use Rattle.std.proofs.Math.Path.{refl, ap}
use Rattle.std.proofs.Common.{◌∙◌}
use mathlib.Core.List.{List, []}
use Prim.Native.Nat.{ℕ, zero, suc, ◌+◌}
use Rattle.std.proofs.Math.Decide.{ℕ_discrete}
use Rattle.std.proofs.Math.ListN.{set}
use Rattle.std.proofs.Math.Seq.{get_or-set_same, get_or-set_other, set-set, set-get_or}
use Rattle.numbers.specs.Sum.{sumℕ-cong, all}
use Rattle.numbers.specs.Base.{up_to}
use Rattle.model.specs.Case.{System, Plan, Setting, no_setting}
use Rattle.model.specs.Forced.{intervals, device, setting, flow, u, least, u_before, su, sd, leaves, start_term, stop_term, psu, psd, power, previous, bracket}
use Rattle.model.specs.Rules.{may_rise, may_fall, starts_in}
use Rattle.mending.specs.Mending.{Change, replaced, with_online}
use Rattle.mending_theorems.specs.Replaced.{Has, SameOn}

-- ---- what they share
module _ (q : System) (a b : Plan) (s : SameOn q a b) where
  before_same : (t i : ℕ) → u_before q a t i ≡ u_before q b t i
  unfolding u_before
  before_same zero i = refl
  before_same (suc t) i = s.on t i

  pub su-same : (t i : ℕ) → su q a t i ≡ su q b t i
  unfolding su
  su-same t i = rw (before_same t i, s.on t i) refl

  pub sd-same : (t i : ℕ) → sd q a t i ≡ sd q b t i
  unfolding sd
  sd-same t i = rw (before_same t i, s.on t i) refl

  leaves-same : (t i : ℕ) → leaves q a t i ≡ leaves q b t i
  unfolding leaves
  leaves-same zero i = refl
  leaves-same (suc t) i = refl

  start-same : (t i l : ℕ) → start_term q a t i l ≡ start_term q b t i l
  start-same t i l = simp su-same

  stop-same : (t i e : ℕ) → stop_term q a t i e ≡ stop_term q b t i e
  stop-same t i e = simp (sd-same, leaves-same)

  pub psu-same : (t i : ℕ) → psu q a t i ≡ psu q b t i
  unfolding psu
  psu-same t i = sumℕ-cong _ _ (up_to (intervals q)) (all (start-same t i) (up_to (intervals q)))

  pub psd-same : (t i : ℕ) → psd q a t i ≡ psd q b t i
  unfolding psd
  psd-same t i = sumℕ-cong _ _ (up_to (suc t)) (all (stop-same t i) (up_to (suc t)))

  pub bracket-same : (t i : ℕ) → bracket q a t i ≡ bracket q b t i
  unfolding bracket
  bracket-same t i = simp (su-same, sd-same, leaves-same, s.on t i)

  pub least-same : (t i k : ℕ) → least q a t i k ≡ least q b t i k
  unfolding least
  least-same t i k = simp (s.on t i)

  pub rise-same : (t i : ℕ) → may_rise q a t i ≡ may_rise q b t i
  unfolding may_rise
  rise-same t i = simp (su-same, s.on t i)

  pub fall-same : (t i : ℕ) → may_fall q a t i ≡ may_fall q b t i
  unfolding may_fall
  fall-same t i = simp (s.on t i)

  pub starts-same : (i w : ℕ) → starts_in q a i w ≡ starts_in q b i w
  unfolding starts_in
  starts-same i w = simp su-same

module _ (q : System) (p : Plan) (c : Change) (here : Has p c) where
  abbrev p' : Plan
  p' = replaced p c

  abbrev t₀ : ℕ
  t₀ = c.interval

  abbrev i₀ : ℕ
  i₀ = c.device

  abbrev old : List Setting
  old = get_or p.settings t₀ []

  row_new : get_or p'.settings t₀ [] ≡ set old i₀ (with_online (get_or old i₀ no_setting) c.power)
  unfolding replaced
  row_new = get_or-set_same p.settings t₀ _ [] here.row

  -- the setting itself
  pub own : setting q p' t₀ i₀ ≡ with_online (setting q p t₀ i₀) c.power
  own = ap (λ (l : List Setting). get_or l i₀ no_setting) row_new ∙ get_or-set_same old i₀ _ no_setting here.place

  row_other : (t : ℕ) → (t ≡ t₀ → ⊥) → get_or p'.settings t [] ≡ get_or p.settings t []
  unfolding replaced
  row_other t e = get_or-set_other p.settings t₀ t _ [] e

  -- every other setting
  pub others : (t i : ℕ) → ((t ≡ t₀) × (i ≡ i₀) → ⊥) → setting q p' t i ≡ setting q p t i
  others t i h = go (ℕ_discrete t t₀) (ℕ_discrete i i₀)
    where
      go : Dec (t ≡ t₀) → Dec (i ≡ i₀) → setting q p' t i ≡ setting q p t i
      go (yes e) (yes f) = absurd (h (e, f))
      go (yes e) (no f) = rw e (ap (λ (l : List Setting). get_or l i no_setting) row_new ∙ get_or-set_other old i₀ i _ no_setting f)
      go (no e) g = ap (λ (l : List Setting). get_or l i no_setting) (row_other t e)

  -- what is alike in every setting
  figure-same : {A : Type 0} (f : Setting → A) → ((s : Setting) (v : ℕ) → f (with_online s v) ≡ f s) → (t i : ℕ) → f (setting q p' t i) ≡ f (setting q p t i)
  figure-same {A} f h t i = go (ℕ_discrete t t₀) (ℕ_discrete i i₀)
    where
      go : Dec (t ≡ t₀) → Dec (i ≡ i₀) → f (setting q p' t i) ≡ f (setting q p t i)
      go (yes e) (yes g) = rw (e, g) (ap f own ∙ h (setting q p t₀ i₀) c.power)
      go (yes e) (no g) = ap f (others t i (λ k. g k.1))
      go (no e) g = ap f (others t i (λ k. e k.0))

  pub same-on : SameOn q p' p
  unfolding u
  same-on = record { on = figure-same (λ s. s.on) (λ s v. refl) }

  pub reserves-same : (t i : ℕ) → (setting q p' t i).reserves ≡ (setting q p t i).reserves
  reserves-same = figure-same (λ s. s.reserves) (λ s v. refl)

  pub reactive-same : (t i : ℕ) → (setting q p' t i).reactive ≡ (setting q p t i).reactive
  reactive-same = figure-same (λ s. s.reactive) (λ s v. refl)

  pub flow-same : (t : ℕ) → flow q p' t ≡ flow q p t
  unfolding replaced
  flow-same t = refl

  -- ---- powers
  pub power-other : (t i : ℕ) → ((t ≡ t₀) × (i ≡ i₀) → ⊥) → power q p' t i ≡ power q p t i
  unfolding power
  power-other t i h = rw (others t i h, psu-same q p' p same-on t i, psd-same q p' p same-on t i) refl

  pub power-own : power q p' t₀ i₀ ≡ c.power + psu q p t₀ i₀ + psd q p t₀ i₀
  unfolding power
  power-own = rw (own, psu-same q p' p same-on t₀ i₀, psd-same q p' p same-on t₀ i₀) refl

  pub previous-other : (t i : ℕ) → ((t ≡ suc t₀) × (i ≡ i₀) → ⊥) → previous q p' t i ≡ previous q p t i
  unfolding previous
  previous-other zero i h = refl
  previous-other (suc t) i h = power-other t i (λ k. h (ap suc k.0, k.1))

  pub previous-next : previous q p' (suc t₀) i₀ ≡ c.power + psu q p t₀ i₀ + psd q p t₀ i₀
  unfolding previous
  previous-next = power-own

  -- the old power put back
  pub replaced-back : (v : ℕ) → v ≡ (setting q p t₀ i₀).online → replaced p' (record { interval = t₀; device = i₀; power = v }) ≡ p
  unfolding replaced
  replaced-back v e =
      ap (λ (s : List (List Setting)). record { settings = s; flows = p.flows })
      (ap (λ (r : List Setting). set p'.settings t₀ (set r i₀ (with_online (get_or r i₀ no_setting) v))) row_new
      ∙ ap (λ (s : Setting). set p'.settings t₀ (set (set old i₀ (with_online (get_or old i₀ no_setting) c.power)) i₀ (with_online s v))) (get_or-set_same old i₀ _ no_setting here.place)
      ∙ set-set p.settings t₀ _ _
      ∙ ap (set p.settings t₀) (set-set old i₀ _ _ ∙ ap (λ (n : ℕ). set old i₀ (with_online (get_or old i₀ no_setting) n)) e ∙ set-get_or old i₀ no_setting)
      ∙ set-get_or p.settings t₀ [])
