-- The steps of what stands ahead of a case's durations, and the sum of their halves.
use mathlib.Core.Path.{◌≡◌, refl, ap, sym, ◌∙◌}
use mathlib.Core.List.{List, [], ◌∷◌}
use Prim.Native.Nat.{ℕ, ◌+◌, ◌<◌}
use native.Mathlib.Numerals.{add-one}
use native.Mathlib.Omega.{arith}
use lib.ListN.{length, get_or, take}
use lib.Seq.{take-suc, take_all}
use Rattle.numbers.specs.Sum.{sumℕ, sumℕ-append}
use Rattle.layouts.specs.declared.Fault.{Fault}
use Rattle.layouts.specs.declared.Place.{Place}
use Rattle.layouts.specs.Layout.{nat, list, repeated, ◌then◌, held, begin, figure, fixed, count_of}
use Rattle.layouts.specs.Since.{has}
use Rattle.model.specs.Editions.{Largest, device_bits, interval_bits, devices_in, intervals_in}
use Rattle.model.specs.ByEdition.{case_kind, edition_field, device_count, interval_count, zone_count, counts, counts_by}
use Rattle.row_places.specs.declared.Counts.{Counts}
use Rattle.std.specs.Prelude.{Ok, Err}
use Rattle.fields.specs.Got.{Got, good, bad, got, Natural, nat-natural, then-natural, held-natural, nat-within, mapped}
use Rattle.field_rows.specs.Each.{list-natural}
use Rattle.fields.specs.Since.{count-of, present-natural}
use Rattle.fields.proofs.Steps.{on, off, Exits, not-met, value, seen-exits}
use Rattle.front_reader.specs.Fronts.{edition, CountsDone, prices, pair_of, limit, figures, figures_in, front, FrontDone}
use Rattle.front_reader.specs.declared.Figures.{Figures}
use Rattle.front_reader.specs.declared.Opening.{Opening}

-- ---- any reader goes on from them

edition-natural : Natural edition
edition-natural = held-natural _ _ (then-natural (nat-natural _) (λ a. nat-natural _))

pub counts-natural : (e : ℕ) (l : Largest) → Natural (counts e l)
unfolding counts_by
counts-natural e l = held-natural _ _ (then-natural (nat-natural _) (λ a. then-natural (nat-natural _) (λ b. nat-natural _)))

pub prices-natural : Natural prices
prices-natural = then-natural (nat-natural _) (λ a. nat-natural _)

pub limit-natural : (e : ℕ) → Natural (limit e)
limit-natural e = present-natural (has 5 e) 0 (nat-natural _)

pub figures-natural : (e : ℕ) → Natural (figures e)
figures-natural e = then-natural (nat-natural _) (λ a. then-natural (nat-natural _) (λ b. limit-natural e))

pub front-natural : (l : Largest) → Natural (front l)
front-natural l = then-natural edition-natural (λ e. then-natural (counts-natural e l) (λ n. figures-natural e))

-- ---- the counts

module _ (e : ℕ) (l : Largest) (s : List ℕ) (p : Place) where
  -- a count whose width and limit were chosen by the edition
  pub devices-of : {width most : ℕ} {g : Got ℕ} → width ≡ device_bits e → most ≡ devices_in e l → g ≡ got (nat (count_of width 1 most)) s p → g ≡ got (nat (device_count e l)) s p
  devices-of i j h = count-of (device_bits e) 1 (devices_in e l) s p i refl j h

  pub intervals-of : {width most : ℕ} {g : Got ℕ} → width ≡ interval_bits e → most ≡ intervals_in e l → g ≡ got (nat (count_of width 1 most)) s p → g ≡ got (nat (interval_count e l)) s p
  intervals-of i j h = count-of (interval_bits e) 1 (intervals_in e l) s p i refl j h

  counts-is : got (counts e l) s p ≡ (nat (device_count e l)).read s p bad (λ n p. (nat (interval_count e l)).read s p bad (λ m p. (nat zone_count).read s p bad (λ z p.
      good (record { devices = n; intervals = m; zones = z }) p)))
  unfolding counts_by held ◌then◌
  counts-is = refl

  pub no-counts : (r : Got Counts) {f : Fault} → Exits r f → bad f ≡ got (counts e l) s p → CountsDone e l s p r
  no-counts r x g = record { is = seen-exits _ r x g; within = λ c q k. not-met r _ x k }

  pub no-devices : {f : Fault} → bad f ≡ got (nat (device_count e l)) s p → bad f ≡ got (counts e l) s p
  no-devices h = off (nat-natural _) s p bad _ h refl ∙ sym counts-is

  module _ {n : ℕ} {p₁ : Place} (h₁ : good n p₁ ≡ got (nat (device_count e l)) s p) where
    pub no-intervals : {f : Fault} → bad f ≡ got (nat (interval_count e l)) s p₁ → bad f ≡ got (counts e l) s p
    no-intervals h = on (nat-natural _) s p bad _ h₁ (off (nat-natural _) s p₁ bad _ h refl) ∙ sym counts-is

    module _ {m : ℕ} {p₂ : Place} (h₂ : good m p₂ ≡ got (nat (interval_count e l)) s p₁) where
      pub no-zones : {f : Fault} → bad f ≡ got (nat zone_count) s p₂ → bad f ≡ got (counts e l) s p
      no-zones h = on (nat-natural _) s p bad _ h₁ (on (nat-natural _) s p₁ bad _ h₂ (off (nat-natural _) s p₂ bad _ h refl)) ∙ sym counts-is

      pub counts-done : {z : ℕ} {p₃ : Place} → good z p₃ ≡ got (nat zone_count) s p₂ → CountsDone e l s p (good (record { devices = n; intervals = m; zones = z }) p₃)
      counts-done {z} h₃ = record {
        is = on (nat-natural _) s p bad _ h₁ (on (nat-natural _) s p₁ bad _ h₂ (on (nat-natural _) s p₂ bad _ h₃ refl)) ∙ sym counts-is;
        within = λ c q k. rw (← value k) (record {
          some = (nat-within (device_count e l) s p (sym h₁)).0;
          devices = omega (arith, nat-within (device_count e l) s p (sym h₁));
          intervals = omega (arith, nat-within (interval_count e l) s p₁ (sym h₂));
          zones = (nat-within zone_count s p₂ (sym h₃)).1;
        });
      }

-- ---- the prices

pub prices-good : (s : List ℕ) (p : Place) {q : Place} (v : List ℕ) → length v ≡ 2 → good (take 2 v) q ≡ got (list 2 (figure 14 1 10000)) s p → good (pair_of v) q ≡ got prices s p
unfolding ◌then◌ list repeated
prices-good s p {q} v l e = mapped (list-natural 2 (nat-natural _)) pair_of s p (Ok q) v refl (rw (take_all 2 v (omega arith)) at e)

pub prices-bad : (s : List ℕ) (p : Place) {f : Fault} → bad f ≡ got (list 2 (figure 14 1 10000)) s p → bad f ≡ got prices s p
unfolding ◌then◌ list repeated
prices-bad s p {f} e = mapped (list-natural 2 (nat-natural _)) pair_of s p (Err f) [] refl e

-- ---- the prices, then the limit

module _ (e : ℕ) (s : List ℕ) (p : Place) where
  figures-is : got (figures e) s p ≡ prices.read s p bad (λ x p. (limit e).read s p bad (λ y p. good (x.0, (x.1, y)) p))
  unfolding ◌then◌
  figures-is = refl

  pub figures-off : {f : Fault} → bad f ≡ got prices s p → bad f ≡ got (figures e) s p
  figures-off h = off prices-natural s p bad _ h refl ∙ sym figures-is

  module _ {x : ℕ × ℕ} {q : Place} (h : good x q ≡ got prices s p) where
    pub figures-late : {f : Fault} → bad f ≡ got (limit e) s q → bad f ≡ got (figures e) s p
    figures-late g = on prices-natural s p bad _ h (off (limit-natural e) s q bad _ g refl) ∙ sym figures-is

    pub figures-on : {y : ℕ} {z : Place} → good y z ≡ got (limit e) s q → good (x.0, (x.1, y)) z ≡ got (figures e) s p
    figures-on g = on prices-natural s p bad _ h (on (limit-natural e) s q bad _ g refl) ∙ sym figures-is

-- ---- all of it

module _ (l : Largest) (s : List ℕ) where
  front-is : got (front l) s begin ≡ edition.read s begin bad (λ e p. (counts e l).read s p bad (λ n p. (figures e).read s p bad (λ x p. good (e, (n, x)) p)))
  unfolding ◌then◌
  front-is = refl

  pub no-front : (r : Got Opening) {f : Fault} → Exits r f → bad f ≡ got (front l) s begin → FrontDone l s r
  no-front r x g = record { is = seen-exits _ r x g; within = λ o q k. not-met r _ x k }

  pub front-off : {f : Fault} → bad f ≡ got edition s begin → bad f ≡ got (front l) s begin
  front-off h = off edition-natural s begin bad _ h refl ∙ sym front-is

  module _ {e : ℕ} {p₁ : Place} (h₁ : good e p₁ ≡ got edition s begin) where
    pub front-no-counts : {f : Fault} → bad f ≡ got (counts e l) s p₁ → bad f ≡ got (front l) s begin
    front-no-counts h = on edition-natural s begin bad _ h₁ (off (counts-natural e l) s p₁ bad _ h refl) ∙ sym front-is

    module _ (c : Counts) {p₂ : Place} (h₂ : CountsDone e l s p₁ (good c p₂)) where
      pub front-no-figures : {f : Fault} → bad f ≡ got (figures e) s p₂ → bad f ≡ got (front l) s begin
      front-no-figures h = on edition-natural s begin bad _ h₁ (on (counts-natural e l) s p₁ bad _ h₂.is (off (figures-natural e) s p₂ bad _ h refl)) ∙ sym front-is

      pub front-done : (x : Figures) {p₃ : Place} → good (figures_in x) p₃ ≡ got (figures e) s p₂
          → FrontDone l s (good (record { front = record { edition = e; mismatch = x.mismatch; overrun = x.overrun }; counts = c; limit = x.limit }) p₃)
      front-done x h = record {
        is = on edition-natural s begin bad _ h₁ (on (counts-natural e l) s p₁ bad _ h₂.is (on (figures-natural e) s p₂ bad _ h refl)) ∙ sym front-is;
        within = λ o q k. rw (← value k) (h₂.within c p₂ refl);
      }

-- ---- the last E

pub sum-next : (t : List ℕ) (i sum : ℕ) → i < length t → sum ≡ sumℕ (λ h. h) (take i t) → sum + get_or t i 0 ≡ sumℕ (λ h. h) (take (i + 1) t)
sum-next t i sum h e = rw (add-one, take-suc t i 0 h) (omega (arith, e, sumℕ-append (λ h. h) (take i t) (get_or t i 0 ∷ [])))
