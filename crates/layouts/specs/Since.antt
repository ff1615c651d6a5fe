-- What came with an edition of a message: "a field that an edition lacks takes no bits and has its neutral value".
use Rattle.std.specs.Prelude.{◌≡◌, refl, Bool, true, false, [], ℕ, zero, suc, ◌≤◌, ◌<◌, leb}
use Rattle.std.proofs.Common.{sym, ap, arith, leb-true, le-leb}
use Rattle.std.proofs.lemmas.Bool.{lt-leb}
use Rattle.layouts.specs.Layout.{Layout, advanced}
use Rattle.layouts.specs.Trip.{Lawful}
use Rattle.layouts.specs.Checked.{Checked, goes}

-- whether edition e has what came with edition k; what was ever there came with 0
abbrev pub has : ℕ → ℕ → Bool
has zero e = true
has (suc k) e = leb (suc k) e

-- no bits: reading goes on at the same place with the neutral value, and writing writes nothing
unfoldable pub nothing : {A : Type 0} → A → Layout A
nothing neutral = record { read = λ s p bad next. next neutral p; write = λ _. [] }

unfoldable pub present : {A : Type 0} → Bool → A → Layout A → Layout A
present true neutral l = l
present false neutral l = nothing neutral

-- there from edition k on
abbrev pub since : {A : Type 0} → ℕ → ℕ → A → Layout A → Layout A
since e k neutral l = present (has k e) neutral l

-- ---- which editions have it

pub has-not : (k e : ℕ) → e < k → has k e ≡ false
has-not zero e h = absurd (omega arith)
has-not (suc k) e h = lt-leb (suc k) e h

pub has-it : (k e : ℕ) → k ≤ e → has k e ≡ true
has-it zero e h = refl
has-it (suc k) e h = le-leb (suc k) e h

pub has_more : (k e n : ℕ) → e ≤ n → has k e ≡ true → has k n ≡ true
has_more zero e n h t = refl
has_more (suc k) e n h t = le-leb (suc k) n (let l = leb-true (suc k) e t in omega arith)

-- ---- what holds of it

-- in its range where it is there, else neutral
abbrev pub Where : {A : Type 0} → Bool → A → (A → Type 0) → A → Type 0
Where true neutral P x = P x
Where false neutral P x = x ≡ neutral

-- what is neutral stays so in a later edition, or is in its range there
pub where-more : {A : Type 0} (b c : Bool) (neutral : A) (P : A → Type 0) → (b ≡ true → c ≡ true) → P neutral → (x : A) → Where b neutral P x → Where c neutral P x
where-more true true neutral P m n x h = h
where-more true false neutral P m n x h = absurd (let t = m refl in let z : ◌≡◌ {A = ℕ} 0 1 = cc in omega arith)
where-more false true neutral P m n x h = rw h n
where-more false false neutral P m n x h = h

-- what is written reads back
pub nothing-law : {A : Type 0} (neutral : A) → Lawful (nothing neutral) (λ x. x ≡ neutral)
unfolding nothing
nothing-law neutral = record {
  back = λ x ok s p bad next h. rw (sym ok) (ap (λ (n : ℕ). next x (advanced p n)) (omega arith));
  bits = λ x ok. tt;
}

pub present-law : {A : Type 0} (b : Bool) (neutral : A) (l : Layout A) (P : A → Type 0) → Lawful l P → Lawful (present b neutral l) (Where b neutral P)
unfolding present
present-law true neutral l P u = u
present-law false neutral l P u = nothing-law neutral

-- what is read is in its range, or neutral
pub present-checked : {A : Type 0} (b : Bool) (neutral : A) (l : Layout A) (P : A → Type 0) → Checked l P → Checked (present b neutral l) (Where b neutral P)
unfolding present nothing
present-checked true neutral l P u = u
present-checked false neutral l P u = record { outcome = λ s p. goes neutral p refl (λ X bad next. refl) }
