-- What a plan holds in one edition can be written in any later one, and reads back there.
use Rattle.std.specs.Prelude.{◌≡◌, refl, ℕ, ◌-◌, ◌^◌, ◌≤◌, pos}
use Rattle.std.proofs.Common.{sym, arith}
use Rattle.layouts.specs.Layout.{nat, list, ◌then◌, held, count_of}
use Rattle.layouts.specs.Sure.{Any}
use Rattle.model.specs.Case.{Plan, no_reactive, no_flow}
use Rattle.model.specs.Editions.{widths_of, most_devices, most_intervals}
use Rattle.model.specs.Widths.{bounded}
use Rattle.model.specs.Messages as M
use Rattle.model.specs.ByEdition as B
use Rattle.writing.specs.Again.{Fit, Again, Reads}
use Rattle.writing.proofs.Again.{fit_then, fit-held, fit-nat, fit_int, fit-more, held_reads, pair_reads, only-reads, only-fits}
use Rattle.writing.proofs.Again.{int-again, pair-again, held-again, list-again}
use Rattle.writing.proofs.Cases.{any-again, figure-again, eight-again, kw_field-again, since-again, some-again}
use Rattle.writing.specs.Plans.{Held, Rows, open_plan, opened}

pub reactive-again : Again B.reactive B.reactive Any 52
unfolding B.reactive
reactive-again = held-again _ _ Any (pair-again (int-again 18 100000 (omega arith)) (pair-again kw_field-again kw_field-again)) (λ v ok. (tt, refl))

no-reactive-fits : Fit B.reactive 52 no_reactive
unfolding B.reactive
no-reactive-fits =
    let z = fit-nat (record { width = 17; low = 0; high = 100000; wrong = _ }) 0 (omega arith) (omega arith) (omega arith) in
    fit-held _ _ refl (fit_then _ (fit_int 18 100000 (pos 0) (omega arith) (omega arith)) (fit_then _ z z))

module _ (e n : ℕ) (h : e ≤ n) where
  pub setting-again : Again (B.setting e) (B.setting n) Any 206
  unfolding M.active B.setting
  setting-again = held-again _ _ Any
      (pair-again (pair-again (figure-again 1 0 1 (omega arith)) (pair-again kw_field-again (eight-again _ 17 kw_field-again))) (since-again e n h 2 no_reactive no-reactive-fits reactive-again))
      (λ v ok. (tt, refl))

  -- an interval's part, and all of them
  pub planned-again : (devices : ℕ) → devices ≤ most_devices → Again (B.planned e devices) (B.planned n devices) Any 13202
  planned-again devices few = any-again (pair-again (list-again devices most_devices few setting-again)
      (since-again e n h 5 no_flow (fit_int 18 100000 (pos 0) (omega arith) (omega arith)) (any-again (int-again 18 100000 (omega arith)))))

  module _ (devices intervals : ℕ) (few : devices ≤ most_devices) (short : intervals ≤ most_intervals) where
    rows-again : Again (M.apart (list intervals (B.planned e devices))) (M.apart (list intervals (B.planned n devices))) Any 1267392
    rows-again = any-again (some-again intervals most_intervals short (planned-again devices few))

pub front-is : {A : Type 0} (v : ℕ × (ℕ × (ℕ × (ℕ × A)))) {a b c d : ℕ} → v.0 ≡ a → v.1.0 ≡ b → v.1.1.0 ≡ c → v.1.1.1.0 ≡ d
    → ◌≡◌ {A = ℕ × (ℕ × (ℕ × (ℕ × A)))} (a, (b, (c, (d, v.1.1.1.1)))) v
front-is v a b c d = rw (sym a, sym b, sym c, sym d) refl

module _ (e n : ℕ) (h : e ≤ n) (devices intervals : ℕ) (few : devices ≤ most_devices) (short : intervals ≤ most_intervals) where
  -- a plan's whole message of edition e, whose rows are written in edition n
  pub plan-rows : Reads (B.plan_layout e devices intervals) Any (Rows n devices intervals)
  unfolding B.plan_by
  plan-rows = held_reads _ _ _ _ Any _ _
      (pair_reads _ _ _ _ _ _ (only-reads 4 B.plan_kind _) (pair_reads _ _ _ _ _ _ (only-reads 4 e _) (pair_reads _ _ _ _ _ _ (only-reads _ devices _) (pair_reads _ _ _ _ _ _ (only-reads _ intervals _)
      (rows-again e n h devices intervals few short)))))
      (λ v ok. tt)
      (λ v ok. rw (front-is v ok.0 ok.1.0 ok.1.1.0 ok.1.1.1.0) refl)
      (λ v ok r. r.1.1.1.1)

-- and what is written behind its front
pub plan-fits : (n devices intervals : ℕ) → Held n devices intervals → (p : Plan) → Rows n devices intervals p → Fit (B.plan_layout n devices intervals) 1267414 p
unfolding B.plan_by
plan-fits n devices intervals k p r = fit-more (omega (arith, (bounded n).device_bits, (bounded n).interval_bits))
    (fit-held _ _ {a = (B.plan_kind, (n, (devices, (intervals, (p.settings, p.flows)))))} refl
    (fit_then _ (only-fits 4 B.plan_kind _ (omega arith)) (fit_then _ (only-fits 4 n _ k.edition) (fit_then _ (only-fits _ devices _ k.devices) (fit_then _
    (only-fits _ intervals _ k.intervals) r)))))

pub open-writes : (n devices intervals : ℕ) (p : Plan) → (open_plan n).write (opened n devices intervals p) ≡ (B.plan_layout n devices intervals).write p
unfolding open_plan B.plan_by held ◌then◌ nat
open-writes n devices intervals p = refl

pub open-fits : (n devices intervals : ℕ) → Held n devices intervals → (p : Plan) → Rows n devices intervals p → Fit (open_plan n) 1267414 (opened n devices intervals p)
unfolding open_plan
open-fits n devices intervals k p r = fit-more (omega (arith, (bounded n).device_bits, (bounded n).interval_bits))
    (fit_then _ (only-fits 4 B.plan_kind _ (omega arith)) (fit_then _ (only-fits 4 n _ k.edition)
    (fit_then (λ devices. nat (count_of (widths_of n).interval_bits 0 (2 ^ (widths_of n).interval_bits - 1)) then (λ intervals. M.apart (list intervals (B.planned n devices))))
    (fit-nat (count_of (widths_of n).device_bits 0 (2 ^ (widths_of n).device_bits - 1)) devices (omega (arith, k.devices)) (omega arith) (omega (arith, k.devices)))
    (fit_then (λ intervals. M.apart (list intervals (B.planned n devices)))
    (fit-nat (count_of (widths_of n).interval_bits 0 (2 ^ (widths_of n).interval_bits - 1)) intervals (omega (arith, k.intervals)) (omega arith) (omega (arith, k.intervals))) r))))
