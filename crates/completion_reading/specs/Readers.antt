-- "A desk reader refuses kind 4 and a market reader refuses kind 3. Each is lent the case": reading is by the layout that the case gives,
-- so only the front can be wrong, and no figure is out of range.
use Rattle.std.proofs.Math.Path.{◌≡◌, refl, ap}
use Rattle.std.proofs.Common.{◌∙◌, inl, inr}
use Rattle.std.specs.Prelude.{◌⊎◌, List, ℕ, ◌+◌, ◌<◌}
use native.Mathlib.Omega.{arith}
use Rattle.std.proofs.Math.Decide.{dec_le}
use borrow.Author.Tests.{le-leb, lt-leb}
use Rattle.bits.specs.Bits.{read_field}
use Rattle.bits.specs.declared.Cursor.{Cursor}
use Rattle.bits.specs.declared.Field.{Field as Raw}
use Rattle.bits.specs.declared.Field.TheVariants.{Value, Cut}
use Rattle.layouts.specs.declared.Fault.{Fault}
use Rattle.layouts.specs.declared.Fault.TheVariants as F
use Rattle.layouts.specs.Layout.{Whole, passes, fails, begin, bytes, read_whole, nat, any, ◌then◌, ◌▸◌, held, fixed, count_of}
use Rattle.layouts.specs.Since.{has}
use Rattle.model.specs.Case.{System, no_reactive_reserves}
use Rattle.model.specs.Editions.{Widths, widths_of}
use Rattle.model.specs.Messages as M
use Rattle.model.specs.Messages.{Counts, no_bars, Written}
use Rattle.model.specs.ByEdition as B
use Rattle.model.specs.Judgement.{counts_of, energy_windows, completion_in}
use Rattle.market.specs.Copy.{market_kind, Copy, change, interval_copy, copy_front_by, copy_by, copy_layout, copy_in}
use Rattle.completion_reading.specs.Calm.{Calmly, Calm, CalmAt, any-calm, int-calm, held-calm, pair-calm, list-calm, present-calm}
use Rattle.completion_reading.specs.Calm.{field-calm, held_at, pair-at, then-calm, held-calmly, whole-calm}

-- ---- reading, lent the case

-- a completion's and a copy's bytes, in the case's edition and for its counts
unfoldable pub desk_in : ℕ → System → List ℕ → Whole Written
desk_in e q s = read_whole (completion_in e q) s

unfoldable pub market_in : ℕ → System → List ℕ → Whole Copy
market_in e q s = read_whole (copy_in e q) s

-- ---- what can be refused

-- 1 where it is cut; 2 at bit 0 or bit 4; 3 at a count; 6 behind the last field. There is no 4 and no 5
pub data Refusal (w : Widths) : Fault → Type 0 where
  cut : (b : ℕ) → Refusal w (F.Cut b)
  at-kind : Refusal w (F.WrongKind 0)
  at-edition : Refusal w (F.WrongKind 4)
  at-devices : Refusal w (F.WrongCount 8)
  at-intervals : Refusal w (F.WrongCount (8 + w.device_bits))
  at-zones : Refusal w (F.WrongCount (8 + w.device_bits + w.interval_bits))
  tail : (b : ℕ) → Refusal w (F.Tail b)

module _ (e : ℕ) (n : Counts) where
  abbrev w : Widths
  w = widths_of e

  abbrev Wrong : Fault → Type 0
  Wrong = Refusal (widths_of e)

  -- the front of either, by its kind
  fields-calm : (k : ℕ) → CalmAt (fixed k ▸ fixed e ▸ nat (count_of w.device_bits n.devices n.devices)
      ▸ nat (count_of w.interval_bits n.intervals n.intervals) ▸ nat (count_of 3 n.zones n.zones))
      0 (4 + (4 + (w.device_bits + (w.interval_bits + 3)))) Wrong
  fields-calm k = pair-at (field-calm _ 0 Wrong (cut 0) at-kind) (pair-at (field-calm _ 4 Wrong (cut 4) at-edition)
      (pair-at (field-calm _ 8 Wrong (cut 8) at-devices) (pair-at (field-calm _ (8 + w.device_bits) Wrong (cut _) at-intervals)
      (field-calm _ (8 + w.device_bits + w.interval_bits) Wrong (cut _) at-zones))))

six-calm : Calm (M.six (any 33))
unfolding M.six
six-calm = let u = any-calm 33 in held-calm _ _ (pair-calm u (pair-calm u (pair-calm u (pair-calm u (pair-calm u u)))))

two-calm : Calm B.reactive_choice
unfolding B.reactive_choice
two-calm = held-calm _ _ (pair-calm (any-calm 33) (any-calm 33))

zone-calm : (e : ℕ) → Calm (B.zone_choice e)
unfolding B.zone_choice
zone-calm e = held-calm _ _ (pair-calm six-calm (present-calm (has 2 e) no_reactive_reserves two-calm))

bars-calm : (e : ℕ) → Calm (B.bars_choice e)
unfolding B.bars_choice
bars-calm e = held-calm _ _ (pair-calm (any-calm 23) (present-calm (has 5 e) 0 (any-calm 23)))

device-calm : Calm M.device_choice
unfolding M.device_choice
device-calm = held-calm _ _ (pair-calm (any-calm 1) (pair-calm (any-calm 1) (pair-calm (any-calm 3) (list-calm 4 (any-calm 17)))))

change-calm : Calm change
unfolding change
change-calm = held-calm _ _ (pair-calm (any-calm 1) (any-calm 1))

interval-calm : (e devices zones : ℕ) → Calm (B.interval_choice e devices zones)
unfolding B.interval_choice
interval-calm e devices zones = held-calm _ _
    (pair-calm (list-calm devices device-calm) (pair-calm (list-calm zones (zone-calm e)) (pair-calm (bars-calm e) (present-calm (has 2 e) no_bars (bars-calm e)))))

copy-calm : (e devices zones : ℕ) → Calm (interval_copy e devices zones)
unfolding interval_copy
copy-calm e devices zones = held-calm _ _
    (pair-calm (list-calm devices change-calm) (pair-calm (list-calm zones (zone-calm e)) (pair-calm (bars-calm e) (present-calm (has 2 e) no_bars (bars-calm e)))))

module _ (e : ℕ) (n : Counts) (windows : ℕ) (s : List ℕ) where
  completion-calm : Calmly (Refusal (widths_of e)) (λ q. q.clash ≡ begin.clash) (λ X bad next. (B.completion_layout e n windows).read {X = X} s begin bad next)
  unfolding B.completion_by B.completion_front_by
  completion-calm = held-calmly _ _ _ s begin
      (then-calm (held_at _ _ (fields-calm e n B.completion_kind))
      (pair-calm (list-calm n.intervals (interval-calm e n.devices n.zones)) (pair-calm (list-calm windows (any-calm 32)) (int-calm 63))) cut s begin refl)

  copies-calm : Calmly (Refusal (widths_of e)) (λ q. q.clash ≡ begin.clash) (λ X bad next. (copy_layout e n windows).read {X = X} s begin bad next)
  unfolding copy_by copy_front_by
  copies-calm = held-calmly _ _ _ s begin
      (then-calm (held_at _ _ (fields-calm e n market_kind)) (pair-calm (list-calm n.intervals (copy-calm e n.devices n.zones)) (list-calm windows (any-calm 32))) cut s begin refl)

-- "refuses as for a plan, here with 2 at bit 0, and with 3 a zone count unlike the case's; every value of a later field's width is in range"
pub desk-refuses : (e : ℕ) (q : System) (s : List ℕ) (f : Fault) → desk_in e q s ≡ fails f → Refusal (widths_of e) f
unfolding desk_in
desk-refuses e q s f h = whole-calm (completion_in e q) (Refusal (widths_of e)) s (completion-calm e (counts_of q) (energy_windows q) s) tail f h

pub market-refuses : (e : ℕ) (q : System) (s : List ℕ) (f : Fault) → market_in e q s ≡ fails f → Refusal (widths_of e) f
unfolding market_in
market-refuses e q s f h = whole-calm (copy_in e q) (Refusal (widths_of e)) s (copies-calm e (counts_of q) (energy_windows q) s) tail f h

-- ---- the other kind

-- a message of another kind is refused at bit 0
module _ (e : ℕ) (q : System) (s : List ℕ) (v : ℕ) (c : Cursor) (h : read_field s 0 4 ≡ Value v c) where
  pub desk-kind : (v < B.completion_kind) ⊎ (B.completion_kind < v) → desk_in e q s ≡ fails (F.WrongKind 0)
  unfolding desk_in read_whole B.completion_by B.completion_front_by held ◌then◌ nat
  desk-kind (inl k) = rw (h, lt-leb B.completion_kind v k) refl
  desk-kind (inr k) = rw (h, le-leb B.completion_kind v (omega arith), lt-leb v B.completion_kind k) refl

  pub market-kind : (v < market_kind) ⊎ (market_kind < v) → market_in e q s ≡ fails (F.WrongKind 0)
  unfolding market_in read_whole copy_by copy_front_by held ◌then◌ nat
  market-kind (inl k) = rw (h, lt-leb market_kind v k) refl
  market-kind (inr k) = rw (h, le-leb market_kind v (omega arith), lt-leb v market_kind k) refl

-- what one reader takes, the other refuses
module _ (e : ℕ) (q : System) (s : List ℕ) where
  first-of-copy : (r : Copy) → market_in e q s ≡ passes r → (c : Cursor) × (read_field s 0 4 ≡ Value market_kind c)
  unfolding market_in read_whole copy_by copy_front_by held ◌then◌ nat
  first-of-copy r h = go (read_field s 0 4) refl
    where
      go : (x : Raw) → read_field s 0 4 ≡ x → (c : Cursor) × (read_field s 0 4 ≡ Value market_kind c)
      go (Cut b) k = absurd (let t : market_in e q s ≡ fails (F.Cut 0) = rw k refl in let z : ◌≡◌ {A = ℕ} 0 1 = cc in omega arith)
      go (Value v c) k = elim (dec_le v market_kind) [
        | yes i ↦ elim (dec_le market_kind v) [
          | yes j ↦ let d : v ≡ market_kind = omega arith in (c, k ∙ ap (λ (n : ℕ). Value n c) d)
          | no j ↦ absurd (let t = market-kind e q s v c k (inl (omega arith)) in let z : ◌≡◌ {A = ℕ} 0 1 = cc in omega arith)
        ]
        | no i ↦ absurd (let t = market-kind e q s v c k (inr (omega arith)) in let z : ◌≡◌ {A = ℕ} 0 1 = cc in omega arith)
      ]

  first-of-completion : (r : Written) → desk_in e q s ≡ passes r → (c : Cursor) × (read_field s 0 4 ≡ Value B.completion_kind c)
  unfolding desk_in read_whole B.completion_by B.completion_front_by held ◌then◌ nat
  first-of-completion r h = go (read_field s 0 4) refl
    where
      go : (x : Raw) → read_field s 0 4 ≡ x → (c : Cursor) × (read_field s 0 4 ≡ Value B.completion_kind c)
      go (Cut b) k = absurd (let t : desk_in e q s ≡ fails (F.Cut 0) = rw k refl in let z : ◌≡◌ {A = ℕ} 0 1 = cc in omega arith)
      go (Value v c) k = elim (dec_le v B.completion_kind) [
        | yes i ↦ elim (dec_le B.completion_kind v) [
          | yes j ↦ let d : v ≡ B.completion_kind = omega arith in (c, k ∙ ap (λ (n : ℕ). Value n c) d)
          | no j ↦ absurd (let t = desk-kind e q s v c k (inl (omega arith)) in let z : ◌≡◌ {A = ℕ} 0 1 = cc in omega arith)
        ]
        | no i ↦ absurd (let t = desk-kind e q s v c k (inr (omega arith)) in let z : ◌≡◌ {A = ℕ} 0 1 = cc in omega arith)
      ]

  pub desk-refuses-copy : (r : Copy) → market_in e q s ≡ passes r → desk_in e q s ≡ fails (F.WrongKind 0)
  desk-refuses-copy r h = let k = first-of-copy r h in desk-kind e q s market_kind k.0 k.1 (inr (omega arith))

  pub market-refuses-completion : (r : Written) → desk_in e q s ≡ passes r → market_in e q s ≡ fails (F.WrongKind 0)
  market-refuses-completion r h = let k = first-of-completion r h in market-kind e q s B.completion_kind k.0 k.1 (inl (omega arith))
