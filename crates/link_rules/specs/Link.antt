-- Rule 27 from the rows, and that it is the model's.
use Rattle.std.proofs.Math.Path.{◌≡◌, refl}
use Rattle.std.proofs.Common.{ap₂, arith, leb→le, le→leb}
use Rattle.std.specs.Prelude.{Bool, ◌&&◌, ℕ, ◌+◌, ◌*◌, ◌≤◌, ◌<◌, leb, length, pos, neg_ℤ, ◌≤ℤ◌}
use Rattle.std.proofs.Math.Bool.{true, false}
use mathlib.Core.List.{List, [], ◌∷◌, map}
use Rattle.std.proofs.Math.Decide.{dec_le}
use Rattle.std.specs.Int.Signed.{le_z, le_z_yes}
use Rattle.numbers.specs.Tests.{same_test}
use Rattle.numbers.specs.Parts.{place_inside}
use Rattle.numbers.specs.Z.{whole, n-, n~}
use Rattle.model.specs.declared.Breach.{Breach}
use Rattle.model.specs.Case.{System, Plan}
use Rattle.model.specs.Rules.{link_breach}
use Rattle.model.specs.Breaches.{failing, unless, link_test, link_breaches}
use Rattle.kilovars.specs.Reactive.{kvar_offset}
use Rattle.row_places.specs.Figures.{flow_at, limit_at}
use Rattle.row_places.specs.declared.Front.{Front}
use Rattle.records.specs.Views.{less, system_in, plan_in, Ready}
use Rattle.records.specs.Viewed.{devices-are, limit_is, flow-is}

-- a flow kept from −100,000, and a limit
abbrev pub within : ℕ → ℕ → Bool
within flow limit = leb flow (kvar_offset + limit) && leb kvar_offset (flow + limit)

within-is : (f l : ℕ) → within f l ≡ (le_z (less kvar_offset f) (pos l) && le_z (neg_ℤ (pos l)) (less kvar_offset f))
within-is f l = ap₂ (λ (x y : Bool). x && y) forth back
  where
    forth : leb f (kvar_offset + l) ≡ le_z (less kvar_offset f) (pos l)
    forth = same_test (leb f (kvar_offset + l)) (le_z (less kvar_offset f) (pos l))
        (λ h. let a : f ≤ kvar_offset + l = leb→le f (kvar_offset + l) h in let b : less kvar_offset f ≤ℤ pos l = omega (whole, n- (pos f) (pos kvar_offset)) in b.le)
        (λ h. le→leb f (kvar_offset + l) (let a : less kvar_offset f ≤ℤ pos l = le_z_yes h in omega (whole, n- (pos f) (pos kvar_offset))))

    back : leb kvar_offset (f + l) ≡ le_z (neg_ℤ (pos l)) (less kvar_offset f)
    back = same_test (leb kvar_offset (f + l)) (le_z (neg_ℤ (pos l)) (less kvar_offset f))
        (λ h. let a : kvar_offset ≤ f + l = leb→le kvar_offset (f + l) h in let b : neg_ℤ (pos l) ≤ℤ less kvar_offset f = omega (whole, n~ (pos l), n- (pos f) (pos kvar_offset)) in b.le)
        (λ h. le→leb kvar_offset (f + l) (let a : neg_ℤ (pos l) ≤ℤ less kvar_offset f = le_z_yes h in omega (whole, n~ (pos l), n- (pos f) (pos kvar_offset))))

-- ---- in interval t, from the rows

unfoldable pub link_kept : (devices settings : List (List ℕ)) → ℕ → Bool
link_kept devices settings t = within (flow_at settings t) (limit_at devices)

unfoldable pub link_here : (devices settings : List (List ℕ)) → ℕ → List Breach
link_here devices settings t = map (link_breach t) (failing ((27, link_kept devices settings t) ∷ []))

-- what the test reads is there and within its range
pub record LinkRow (devices settings : List (List ℕ)) (t : ℕ) : Type 0 where
  pub some-device : 0 < length devices
  pub inside : t < length settings
  pub flow : flow_at settings t ≤ 2 * kvar_offset
  pub limit : limit_at devices ≤ kvar_offset

pub record LinkRows (m : ℕ) (devices settings : List (List ℕ)) : Type 0 where
  pub at : (t : ℕ) → t < m → LinkRow devices settings t

-- ---- the loop over the intervals: the rule holds below t

pub record KeptTo (devices settings : List (List ℕ)) (t : ℕ) : Type 0 where
  pub at : (s : ℕ) → s < t → link_kept devices settings s ≡ true

pub kept-none : (devices settings : List (List ℕ)) → KeptTo devices settings 0
kept-none devices settings = record { at = λ s h. absurd (omega arith) }

pub kept_next : (devices settings : List (List ℕ)) {t : ℕ} → KeptTo devices settings t → link_kept devices settings t ≡ true → KeptTo devices settings (t + 1)
kept_next devices settings {t} k e = record { at = λ s h. go s h (dec_le t s) }
  where
    go : (s : ℕ) → s < t + 1 → Dec (t ≤ s) → link_kept devices settings s ≡ true
    go s h (yes x) = let z : s ≡ t = omega arith in rw z e
    go s h (no x) = k.at s (omega arith)

-- ---- of a case and a plan

module _ {front : Front} {halves : List ℕ} {zones minima devices cells settings : List (List ℕ)} {starts powers : List ℕ}
    (ready : Ready front halves zones minima devices cells settings starts powers) where
  abbrev q : System
  q = system_in halves zones minima devices cells

  abbrev p : Plan
  p = plan_in (length devices) (length halves) settings

  some-device : 0 < length devices
  some-device = omega (arith, ready.case_rows.range.system.some_device, devices-are halves zones minima devices cells)

  pub link-rows : LinkRows (length halves) devices settings
  link-rows = record {
    at = λ t h. record {
      some-device = some-device;
      inside = omega (arith, h, place_inside (length halves) 0 (length devices) t some-device h, ready.plan-rows.full);
      flow = ready.plan-rows.flows t h;
      limit = omega (arith, ready.case_rows.range.system.link_limit, limit_is halves zones minima devices cells);
    };
  }

  module _ (t : ℕ) (h : t < length halves) where
    pub test-is : link_kept devices settings t ≡ link_test q p t
    unfolding link_kept
    test-is = rw (flow-is (length devices) (length halves) settings q t h, limit_is halves zones minima devices cells) (within-is (flow_at settings t) (limit_at devices))

    -- the breach of the rule, where it fails
    pub link-is : link_here devices settings t ≡ link_breaches q p t
    unfolding link_here link_breaches
    link-is = rw test-is refl

    pub link-back : link_breaches q p t ≡ [] → link_kept devices settings t ≡ true
    unfolding link_breaches failing
    link-back e = go (link_test q p t) test-is e
      where
        go : (b : Bool) → link_kept devices settings t ≡ b → map (link_breach t) (unless b 27 []) ≡ [] → link_kept devices settings t ≡ true
        go true s h = s
        go false s h = absurd (let z : ◌≡◌ {A = ℕ} 0 1 = cc in omega (arith, z))

    pub link-none : link_kept devices settings t ≡ true → link_breaches q p t ≡ []
    unfolding link_breaches failing
    link-none e = rw (← test-is, e) refl
