-- What the splitter answers to hosts.
use Rattle.std.specs.Prelude.{◌≡◌, refl, List, ◌++◌, ℕ, ◌≤◌, ◌<◌, length, drop}
use Rattle.std.proofs.Common.{ap, ◌∙◌, arith}
use Rattle.layouts.specs.declared.Framed.{Framed}
use Rattle.layouts.specs.Split.{Splits}
use Rattle.tellings.specs.declared.Told.{Told}
use Rattle.tellings.specs.Told.{told_frame, figures_of}

-- "The host splitter's length limit is 1,048,576"
abbrev pub host_limit : ℕ
host_limit = 1048576

-- four numbers stored at the front of a lent slice; nothing is done, and 5 is answered, where it has fewer places
pub record HostSplits (s : List ℕ) (at : ℕ) (figures told : List ℕ) (r : ℕ) : Type 0 where
  pub short : length figures < 4 → (r ≡ 5) × (told ≡ figures)
  pub splits : 4 ≤ length figures → (x : Framed) × Splits host_limit s at x × (r ≡ (told_frame x).word) × (told ≡ figures_of (told_frame x) ++ drop 4 figures)

-- ---- from what the code answers

module _ (s : List ℕ) (at : ℕ) (figures : List ℕ) where
  pub splits-short : length figures < 4 → HostSplits s at figures figures 5
  splits-short h = record { short = λ _. (refl, refl); splits = λ k. absurd (omega (arith, h, k)) }

  pub splits-told : {told : List ℕ} {t : Told} (x : Framed) → 4 ≤ length figures → Splits host_limit s at x → t ≡ told_frame x
      → told ≡ figures_of t ++ drop 4 figures → HostSplits s at figures told t.word
  splits-told x h j e f = record {
    short = λ k. absurd (omega (arith, h, k));
    splits = λ _. (x, j, ap (λ (y : Told). y.word) e, f ∙ ap (λ (y : Told). figures_of y ++ drop 4 figures) e);
  }
