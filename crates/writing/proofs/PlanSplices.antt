-- A plan's message written anew by a splice, from any edition into the newest.
use Rattle.std.specs.Prelude.{◌≡◌, List, ◌++◌, ℕ, ◌+◌, ◌*◌, ◌≤◌, length, drop, ℤ}
use Rattle.std.proofs.Math.Path.{refl}
use Rattle.std.proofs.Common.{sym, ◌∙◌, ap, arith, drop_at}
use Rattle.bits.specs.Bits.{reach, field_at}
use Rattle.bits.specs.Twos.{to_twos}
use Rattle.layouts.specs.declared.Fault.{Fault}
use Rattle.layouts.specs.Layout.{Layout, passes, read_whole, begin, bits_of, nat, int, list, ◌then◌, ◌▸◌, held, count_of, fixed}
use Rattle.layouts.specs.Trip.{length-bits}
use Rattle.layouts.specs.Sure.{Any}
use Rattle.layouts.specs.Own.{nat-own}
use Rattle.model.specs.Case.{Plan, Setting, no_reactive, no_flow}
use Rattle.model.specs.Editions.{newest, device_bits, interval_bits}
use Rattle.model.specs.Messages as M
use Rattle.model.specs.ByEdition as B
use Rattle.writing.specs.Again as A
use Rattle.writing.proofs.Again as AP
use Rattle.writing.proofs.Cases.{figure-again, eight-again, kw_field-again}
use Rattle.writing.proofs.Plans.{reactive-again, front-is}
use Rattle.writing.specs.Splice.{keep, add, ◌⨾◌, past, spliced, Anew, Wide}
use Rattle.writing.proofs.Splice.{keep-anew, more-anew, pair-anew, held-anew, list-anew}
use Rattle.writing.specs.Splice.{Adds}
use Rattle.writing.proofs.Splice.{add-adds, whole_run, nat-wide, int-wide, held-wide, pair-wide}
use Rattle.writing.proofs.CaseSplices.{kept, figure-wide, kw_field-wide, eight-wide, since-anew, some-anew, forget}
use Rattle.writing.specs.PlanSplices.{front_of, plan_splice, rows_splice, setting_splice}

-- ---- what they give
active-wide : Wide M.active 154
unfolding M.active
active-wide = pair-wide (figure-wide 1 0 1) (pair-wide kw_field-wide (eight-wide _ 17 kw_field-wide))

reactive-wide : Wide B.reactive 52
unfolding B.reactive
reactive-wide = held-wide _ _ (pair-wide (int-wide 18 100000) (pair-wide kw_field-wide kw_field-wide))

active-again : A.Again M.active M.active Any 154
unfolding M.active
active-again = AP.more-reads _ _ _ _ _ (AP.pair-again (figure-again 1 0 1 (omega arith)) (AP.pair-again kw_field-again (eight-again _ 17 kw_field-again))) (λ a ok. tt) (λ a ok r. r)

reactive-adds : Adds (add 52 0) ((B.reactive).write no_reactive)
unfolding B.reactive held ◌then◌ nat int to_twos bits_of
reactive-adds = add-adds 52 0

flow-adds : Adds (add 18 0) ((B.flow).write no_flow)
unfolding int to_twos
flow-adds = add-adds 18 0

module _ (e : ℕ) where
  setting-anew : Anew (B.setting e) (B.setting newest) (setting_splice e) Any
  unfolding B.setting setting_splice
  setting-anew = held-anew _ _ Any (pair-anew (kept active-again active-wide) (since-anew e 2 no_reactive refl tt reactive-adds (kept reactive-again reactive-wide))) (λ v ok. (tt, refl))

  rows-anew : (devices intervals : ℕ) → Anew (M.apart (list intervals (B.planned e devices))) (M.apart (list intervals (B.planned newest devices))) (rows_splice e devices intervals) Any
  unfolding rows_splice
  rows-anew devices intervals = forget (some-anew intervals (pair-anew (list-anew devices setting-anew)
      (since-anew e 5 no_flow refl tt flow-adds (kept (AP.int-again 18 100000 (omega arith)) (int-wide 18 100000)))))

  -- the plan's layout, with rows of the newest edition
  module _ (devices intervals : ℕ) where
    abbrev Tuple : Type 0
    Tuple = ℕ × (ℕ × (ℕ × (ℕ × (List (List Setting) × List ℤ))))

    unfoldable mixed : Layout Plan
    mixed = held
        (λ (v : Tuple). record { settings = v.1.1.1.1.0; flows = v.1.1.1.1.1 })
        (λ p. (B.plan_kind, (e, (devices, (intervals, (p.settings, p.flows))))))
        (fixed B.plan_kind ▸ fixed e ▸ nat (count_of (device_bits e) devices devices) ▸ nat (count_of (interval_bits e) intervals intervals) ▸ M.apart (list intervals (B.planned newest devices)))

    only : (w v : ℕ) (wrong : ℕ → Fault) → Anew (nat (record { width = w; low = v; high = v; wrong = wrong })) (nat (record { width = w; low = v; high = v; wrong = wrong })) (keep w) (λ x. x ≡ v)
    only w v wrong = more-anew (keep-anew (nat-own _) (nat-wide _)) (λ x ok. omega arith)

    whole-anew : Anew (B.plan_layout e devices intervals) mixed (keep 4 ⨾ keep 4 ⨾ keep (device_bits e) ⨾ keep (interval_bits e) ⨾ rows_splice e devices intervals) Any
    unfolding B.plan_by mixed
    whole-anew = held-anew _ _ Any (pair-anew (only 4 B.plan_kind _) (pair-anew (only 4 e _) (pair-anew (only _ devices _) (pair-anew (only _ intervals _) (rows-anew devices intervals)))))
        (λ v ok. (tt, front-is v ok.0 ok.1.0 ok.1.1.0 ok.1.1.1.0))

-- the same behind as much
tail-same : (xs ys us vs : List ℕ) → length xs ≡ length ys → xs ++ us ≡ ys ++ vs → us ≡ vs
tail-same xs ys us vs h e = sym (drop_at xs us (length ys) h) ∙ ap (drop (length ys)) e ∙ drop_at ys vs (length ys) refl

bits-same : (w a b : ℕ) → length (bits_of w a) ≡ length (bits_of w b)
bits-same w a b = length-bits w a ∙ sym (length-bits w b)

behind-four : (t u v w a b c d a' b' c' d' : ℕ) (us vs : List ℕ)
    → bits_of t a ++ (bits_of u b ++ (bits_of v c ++ (bits_of w d ++ us))) ≡ bits_of t a' ++ (bits_of u b' ++ (bits_of v c' ++ (bits_of w d' ++ vs))) → us ≡ vs
behind-four t u v w a b c d a' b' c' d' us vs h =
    tail-same (bits_of w d) (bits_of w d') us vs (bits-same w d d') (tail-same (bits_of v c) (bits_of v c') _ _ (bits-same v c c')
    (tail-same (bits_of u b) (bits_of u b') _ _ (bits-same u b b') (tail-same (bits_of t a) (bits_of t a') _ _ (bits-same t a a') h)))

-- the splice of a plan that passes reading gives the message of the newest edition
pub plan-spliced : (e d n : ℕ) (s : List ℕ) (p : Plan) → read_whole (B.plan_layout e d n) s ≡ passes p
    → (spliced (plan_splice e d n) s (front_of e) ≡ (B.plan_layout newest d n).write p) × (past (plan_splice e d n) s (front_of e) ≤ 8 * reach s)
unfolding plan_splice spliced past B.plan_by mixed held ◌then◌ nat
plan-spliced e d n s p h =
    let k = whole_run (B.plan_layout e d n) _ s ((whole-anew e d n).anew s begin (omega arith)) p h in
    let rows : spliced (rows_splice e d n) s (front_of e) ≡ (M.apart (list n (B.planned newest d))).write (p.settings, p.flows) =
    behind-four 4 4 (device_bits e) (interval_bits e) (field_at s 0 4) (field_at s (0 + 4) 4) (field_at s (0 + 4 + 4) (device_bits e)) (field_at s (0 + 4 + 4 + device_bits e) (interval_bits e))
    B.plan_kind e d n _ _ k.1.is in (
      ap (λ (x : List ℕ). bits_of 4 B.plan_kind ++ (bits_of 4 newest ++ (bits_of (device_bits newest) d ++ (bits_of (interval_bits newest) n ++ x)))) rows,
      omega (arith, k.1.ends, k.1.inside),
    )
