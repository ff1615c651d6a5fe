-- The reactive figures field by field: q, then its reserves up and down.
use mathlib.Core.Path.{◌≡◌, refl, sym, ap, ◌∙◌}
use mathlib.Core.List.{List}
use Prim.Native.Nat.{ℕ, ◌+◌, ◌*◌, ◌/◌, ◌%◌, ◌^◌, ◌≤◌}
use native.Mathlib.Omega.{arith}
use Rattle.bits.specs.Bits.{field_at, reach}
use Rattle.layouts.specs.declared.Place.{Place}
use Rattle.layouts.specs.Layout.{◌▸◌, advanced}
use Rattle.layouts.specs.Since.{has, since}
use Rattle.model.specs.Case.{no_reactive}
use Rattle.model.specs.ByEdition.{signed_kvar, kvar, reactive}
use Rattle.kilovars.specs.Reactive.{kvar_offset}
use Rattle.row_places.specs.declared.Reactive.{Reactive}
use Rattle.records.specs.Views.{reactive_in}
use Rattle.word_fields.proofs.Words.{field_of, figure-good, offset-good}
use Rattle.reactive_reader.specs.Words.{q_bits, reserve_bits, most_reserve, reactive_bits, InRanges, Found}
use Rattle.fields.specs.Got.{good, got, Natural, nat-natural, int-natural, then-natural, held-natural}
use Rattle.fields.specs.Since.{present-natural}
use Rattle.fields.proofs.Chains.{then-on, held_on}

reserves-natural : Natural (kvar ▸ kvar)
reserves-natural = then-natural (nat-natural _) (λ _. nat-natural _)

three-natural : Natural (signed_kvar ▸ kvar ▸ kvar)
three-natural = then-natural (int-natural _ _) (λ _. reserves-natural)

pub reactive-natural : (e : ℕ) → Natural (since e 2 no_reactive reactive)
unfolding reactive
reactive-natural e = present-natural (has 2 e) no_reactive (held-natural _ _ three-natural)

-- ---- found whole

-- the three of a word
pub word-found : (s : List ℕ) (at : ℕ) {word : ℕ} {x : Reactive} → at + reactive_bits ≤ 8 * reach s → word ≡ field_at s at reactive_bits
    → x.q.0 ≡ (word / 2 ^ (2 * reserve_bits) % 2 ^ q_bits + kvar_offset) % 2 ^ q_bits → x.qru.0 ≡ word / 2 ^ reserve_bits % 2 ^ reserve_bits → x.qrd.0 ≡ word / 2 ^ 0 % 2 ^ reserve_bits
    → InRanges x → Found s at x
word-found s at h e q u d r = record {
  there = h;
  q = q ∙ ap (λ (n : ℕ). (n + kvar_offset) % 2 ^ q_bits) (field_of s at 0 q_bits (2 * reserve_bits) e refl ∙ ap (λ (k : ℕ). field_at s k q_bits) (omega arith));
  qru = field_of s at q_bits reserve_bits reserve_bits e u;
  qrd = field_of s at (q_bits + reserve_bits) reserve_bits 0 e d ∙ ap (λ (k : ℕ). field_at s k reserve_bits) (omega arith);
  range = r;
}

pub found-good : (s : List ℕ) (p : Place) {x : Reactive} → Found s p.at x → good (reactive_in x) (advanced p (p.at + reactive_bits)) ≡ got reactive s p
unfolding reactive
found-good s p {x} f =
    let z = advanced p (p.at + q_bits) in
    let b = advanced p (p.at + q_bits + reserve_bits) in
    let past = advanced p (p.at + q_bits + reserve_bits + reserve_bits) in
    let end : p.at + reactive_bits ≡ p.at + q_bits + reserve_bits + reserve_bits = omega arith in
    ap (λ (k : ℕ). good (reactive_in x) (advanced p k)) end
    ∙ held_on three-natural _ _ s p
    (then-on (int-natural _ _) _ s p reserves-natural (sym (offset-good q_bits 131072 kvar_offset refl (omega arith) s p f.q f.range.q (omega (arith, f.there))))
    (then-on (nat-natural _) _ s z (nat-natural _)
    (ap (λ (n : ℕ). good n b) f.qru ∙ sym (figure-good reserve_bits most_reserve s z (omega (arith, f.qru, f.range.qru)) (omega (arith, f.there))))
    (ap (λ (n : ℕ). good n past) f.qrd ∙ sym (figure-good reserve_bits most_reserve s b (omega (arith, f.qrd, f.range.qrd)) (omega (arith, f.there))))))
