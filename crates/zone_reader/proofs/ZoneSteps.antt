-- The steps of a zone's chain: shares, prices, prices of reactive reserves, minima.
use mathlib.Core.Path.{◌≡◌, refl, ap, sym, ◌∙◌}
use mathlib.Core.List.{List, [], map}
use Prim.Native.Nat.{ℕ, ◌+◌, ◌≤◌, ◌<◌}
use native.Mathlib.Omega.{arith}
use lib.ListN.{length, get_or, take, set, length-set}
use lib.Seq.{take_all}
use Rattle.layouts.specs.declared.Fault.{Fault}
use Rattle.layouts.specs.declared.Place.{Place}
use Rattle.layouts.specs.Layout.{Layout, list, repeated, ◌then◌, held, figure}
use Rattle.layouts.specs.Since.{since}
use Rattle.model.specs.Case as C
use Rattle.model.specs.Messages as M
use Rattle.model.specs.ByEdition as B
use Rattle.row_places.specs.declared.Zone.{Zone}
use Rattle.row_places.specs.declared.Minima.{Minima}
use Rattle.row_places.specs.Figures.{zone_row, minima_row}
use Rattle.records.specs.Views.{minima_in, zone_in, six_in}
use Rattle.std.specs.Prelude.{Ok, Err}
use Rattle.fields.specs.Got.{good, bad, got, Natural, nat-natural, then-natural, held-natural, mapped}
use Rattle.fields.proofs.Steps.{on, off}
use Rattle.field_rows.specs.Each.{list-natural}
use Rattle.field_rows.specs.Going.{Storing, storing-none, storing-more, storing-off, storing-done}
use Rattle.reactive_zones.proofs.Steps as R
use Rattle.zone_reader.specs.Zones.{zone_from, terms, terms_in, ahead, ahead_in, pair_in, interval_in, zone_pair}

-- ---- any reader goes on from a zone

pub pair-natural : Natural M.minima
unfolding M.minima
pair-natural = held-natural _ _ (then-natural (nat-natural _) (λ a. nat-natural _))

minima-natural : (e : ℕ) → Natural (B.minima e)
unfolding B.minima
minima-natural e = held-natural _ _ (then-natural pair-natural (λ a. R.minima-natural e))

shares-natural : Natural M.shares
unfolding M.shares
shares-natural = held-natural _ _ (then-natural (nat-natural _) (λ a. then-natural (nat-natural _) (λ b. then-natural (nat-natural _) (λ c. nat-natural _))))

six-natural : Natural (M.six (figure 7 1 100))
unfolding M.six
six-natural = held-natural _ _
    (then-natural (nat-natural _) (λ a. then-natural (nat-natural _) (λ b. then-natural (nat-natural _) (λ c. then-natural (nat-natural _) (λ d. then-natural (nat-natural _) (λ e. nat-natural _))))))

pub terms-natural : Natural terms
terms-natural = then-natural shares-natural (λ a. six-natural)

ahead-natural : (e : ℕ) → Natural (ahead e)
ahead-natural e = then-natural terms-natural (λ a. R.prices-natural e)

pub zone-natural : (e m : ℕ) → Natural (B.zone e m)
unfolding B.zone
zone-natural e m = held-natural _ _ (then-natural shares-natural (λ a. then-natural six-natural (λ b. then-natural (R.prices-natural e) (λ c. list-natural m (minima-natural e)))))

-- ---- an interval's minima

pub pair-good : (s : List ℕ) (p : Place) {q : Place} (v : List ℕ) → length v ≡ 2 → good (take 2 v) q ≡ got (list 2 (figure 23 0 6400000)) s p → good (pair_in v) q ≡ got M.minima s p
unfolding M.minima held ◌then◌ list repeated
pair-good s p {q} v l e = mapped (list-natural 2 (nat-natural _)) pair_in s p (Ok q) v refl (rw (take_all 2 v (omega arith)) at e)

pub pair-bad : (s : List ℕ) (p : Place) {f : Fault} → bad f ≡ got (list 2 (figure 23 0 6400000)) s p → bad f ≡ got M.minima s p
unfolding M.minima held ◌then◌ list repeated
pair-bad s p {f} e = mapped (list-natural 2 (nat-natural _)) pair_in s p (Err f) [] refl e

-- k of n intervals' minima have been read, and stand in the first rows
pub record Minding (e : ℕ) (s : List ℕ) (n : ℕ) (start : Place) (k : ℕ) (minima : List (List ℕ)) (p : Place) : Type 0 where
  pub long : length minima ≡ n
  pub storing : Storing (B.minima e) minima_in s n start k minima p

pub minding-none : (e : ℕ) (s : List ℕ) (start : Place) (minima : List (List ℕ)) → Minding e s (length minima) start 0 minima start
minding-none e s start minima = record { long = refl; storing = storing-none (omega arith) }

module _ {e : ℕ} {s : List ℕ} {n : ℕ} {start : Place} {k : ℕ} {minima : List (List ℕ)} {p : Place} (t : Minding e s n start k minima p) where
  pub minding-more : k < length minima → (x : Minima) {next : List (List ℕ)} {q : Place} → good (interval_in x) q ≡ got (B.minima e) s p → next ≡ set minima k (minima_row x) → Minding e s n start (k + 1) next q
  minding-more h x g j = rw j (record {
    long = length-set minima k (minima_row x) ∙ t.long;
    storing = storing-more t.storing (minima-natural e) (omega (arith, t.long)) g;
  })

  pub minding-off : k < length minima → {f : Fault} → bad f ≡ got (B.minima e) s p → bad f ≡ got (list (length minima) (B.minima e)) s start
  minding-off h g = rw t.long (storing-off t.storing (minima-natural e) (omega (arith, t.long)) g)

  pub minding-done : length minima ≤ k → good (map minima_in minima) p ≡ got (list (length minima) (B.minima e)) s start
  minding-done h = rw t.long (sym (sym (storing-done t.storing (omega (arith, t.long))) ∙ rw (take_all n minima (omega (arith, t.long))) refl))

-- ---- shares and prices

abbrev shares_from : List ℕ → C.Shares
shares_from v = record { rgu = get_or v 0 0; rgd = get_or v 1 0; scr = get_or v 2 0; nsc = get_or v 3 0 }

four-natural : Natural (list 4 (figure 10 0 1000))
four-natural = list-natural 4 (nat-natural _)

prices-natural : Natural (list 6 (figure 7 1 100))
prices-natural = list-natural 6 (nat-natural _)

module _ (s : List ℕ) (p : Place) where
  terms-is : got terms s p ≡ (list 4 (figure 10 0 1000)).read s p bad (λ a p. (list 6 (figure 7 1 100)).read s p bad (λ b p. good (shares_from a, six_in b) p))
  unfolding M.shares M.six held ◌then◌ list repeated
  terms-is = refl

  pub terms-off : {f : Fault} → bad f ≡ got (list 4 (figure 10 0 1000)) s p → bad f ≡ got terms s p
  terms-off e = off four-natural s p bad _ e refl ∙ sym terms-is

  module _ (a : List ℕ) {q : Place} (l : length a ≡ 4) (e : good (take 4 a) q ≡ got (list 4 (figure 10 0 1000)) s p) where
    first : good a q ≡ got (list 4 (figure 10 0 1000)) s p
    first = rw (take_all 4 a (omega arith)) at e

    pub terms-late : {f : Fault} → bad f ≡ got (list 6 (figure 7 1 100)) s q → bad f ≡ got terms s p
    terms-late h = on four-natural s p bad _ first (off prices-natural s q bad _ h refl) ∙ sym terms-is

    pub terms-on : (b : List ℕ) {z : Zone} {r : Place} → length b ≡ 6 → good (take 6 b) r ≡ got (list 6 (figure 7 1 100)) s q → z ≡ zone_from a b → good (terms_in z) r ≡ got terms s p
    terms-on b {r = r} m h k = ap (λ (z : Zone). good (terms_in z) r) k ∙ on four-natural s p bad _ first (on prices-natural s q bad _ (rw (take_all 6 b (omega arith)) at h) refl) ∙ sym terms-is

-- ---- a zone

-- the model's zone and prices, of what stands ahead of its intervals and its minima
abbrev zone_of_parts : (C.Shares × C.Six) × C.ReactiveReserves → List C.Minima → C.Zone × C.Kinds
zone_of_parts t l = (record { shares = t.0.0; minima = l }, record { six = t.0.1; reactive = t.1 })

module _ (e : ℕ) (s : List ℕ) (p : Place) where
  zone-is : (m : ℕ) → got (B.zone e m) s p ≡ (ahead e).read s p bad (λ t p. (list m (B.minima e)).read s p bad (λ l p. good (zone_of_parts t l) p))
  unfolding B.zone held ◌then◌
  zone-is m = refl

  pub zone-off : (minima : List (List ℕ)) {f : Fault} → bad f ≡ got (ahead e) s p → bad f ≡ got (B.zone e (length minima)) s p
  zone-off minima h = off (ahead-natural e) s p bad _ h refl ∙ sym (zone-is (length minima))

  module _ (z : Zone) {q : Place} (t : good (ahead_in z) q ≡ got (ahead e) s p) where
    pub zone-late : (minima : List (List ℕ)) {f : Fault} → bad f ≡ got (list (length minima) (B.minima e)) s q → bad f ≡ got (B.zone e (length minima)) s p
    zone-late minima h = on (ahead-natural e) s p bad _ t (off (list-natural (length minima) (minima-natural e)) s q bad _ h refl) ∙ sym (zone-is (length minima))

    pub zone-on : (minima : List (List ℕ)) {r : Place} → good (map minima_in minima) r ≡ got (list (length minima) (B.minima e)) s q → good (zone_pair (zone_row z) minima) r ≡ got (B.zone e (length minima)) s p
    unfolding zone_in
    zone-on minima h = on (ahead-natural e) s p bad _ t (on (list-natural (length minima) (minima-natural e)) s q bad _ h refl) ∙ sym (zone-is (length minima))
