-- Edition 1 as before: a message of edition 1 is read and written by the layouts of every edition as `Messages` says, which is all that an edition 1 message means.
use Rattle.std.specs.Prelude.{◌≡◌, refl, false, ℤ}
use Rattle.std.proofs.Math.Path.{sym, ap}
use Rattle.std.proofs.Common.{◌∙◌, ap₂}
use mathlib.Core.List.{List, [], ◌∷◌, ◌++◌, append_assoc, append-nil, map, map-map, map-id}
use Prim.Native.Nat.{ℕ, ◌≤◌, min}
use native.Mathlib.Omega.{arith}
use Rattle.layouts.specs.declared.Fault.{Fault}
use Rattle.layouts.specs.declared.Place.{Place}
use Rattle.layouts.specs.Layout.{begin, advanced, nat, list, ◌then◌, held, fixed, read_whole, bits_of}
use Rattle.layouts.specs.Since.{has, nothing, present}
use Rattle.layouts.specs.As.{As, as_same, as-pair, as-each, as-list, as-into, as-held, ahead, only, holding, leads}
use Rattle.model.specs.Case.{System, Setting, no_flow}
use Rattle.model.specs.Editions.{Largest, device_limit, interval_limit, batch}
use Rattle.model.specs.Messages as M
use Rattle.model.specs.Messages.{edition1, pairs, apart, Counts, Written}
use Rattle.model.specs.Judgement.{counts_of}
use Rattle.model.specs.Before.{read_plan}
use Rattle.model.specs.ByEdition.{Stated, counts, counts_by, start_window, start_window_by, device, device_by, content, content_by, case_layout, edition_of, edition_field}
use Rattle.model.specs.ByEdition.{completion_front_by, completion_layout, completion_by}
use Rattle.model.specs.ByEdition.{plan_kind, setting, block, cell_with, cell, minima, zone, planned, plan_layout, plan_by, planned_in, zone_choice, bars_choice, interval_choice}
use Rattle.model.specs.AsBefore.{first, in_form, stated}

-- ---- plan

-- an edition 1 setting has no reactive power, and writes none
setting-as : As (setting 1) (λ x. x) M.setting
unfolding setting M.setting held ◌then◌ present nothing
setting-as = record { reads = λ {X} s p bad next. refl; writes = λ x. simp append-nil }

-- nor has it a flow
unflowed : List (List Setting) → List (List Setting) × List ℤ
unflowed rows = (rows, map (λ (row : List Setting). no_flow) rows)

pairs-are : (rows : List (List Setting)) → pairs rows (map (λ (row : List Setting). no_flow) rows) ≡ map (λ (row : List Setting). (row, no_flow)) rows
unfolding pairs
pairs-are [] = refl
pairs-are (row ∷ rows) = ap (λ (xs : List (List Setting × ℤ)). (row, no_flow) ∷ xs) (pairs-are rows)

interval-as : (devices : ℕ) → As (planned 1 devices) (λ row. (row, no_flow)) (list devices M.setting)
unfolding ◌then◌ present nothing
interval-as devices = record {
  reads = λ s p bad next. (as-each setting-as devices).reads s p bad _;
  writes = λ row. append-nil ((list devices (setting 1)).write row) ∙ (as-each setting-as devices).writes row;
}

rows_as : (devices intervals : ℕ) → As (apart (list intervals (planned 1 devices))) unflowed (list intervals (list devices M.setting))
unfolding apart unflowed
rows_as devices intervals = as-into (as-list (interval-as devices) intervals) _ _ unflowed
    (λ rows. ap₂ (λ (a : List (List Setting)) (b : List ℤ). (a, b)) (map-map _ _ rows ∙ map-id rows) (map-map _ _ rows)) pairs-are

pub plan-as : (devices intervals : ℕ) → As (plan_layout 1 devices intervals) in_form (M.plan_layout edition1 devices intervals)
unfolding plan_by M.plan_layout unflowed
plan-as devices intervals = as-held
    (as-pair (as_same (fixed plan_kind)) (as-pair (as_same (fixed 1)) (as-pair (as_same (nat _)) (as-pair (as_same (nat _)) (rows_as devices intervals)))))
    _ _ _ _ _ (λ a. refl) (λ c. refl)

pub planned-as-before : (q : System) (s : List ℕ) → planned_in 1 q s ≡ read_plan q s
unfolding planned_in read_plan read_whole M.plan_layout held
planned-as-before q s = (plan-as _ _).reads s begin _ _

-- ---- completion
pub completion-as : (n : Counts) (windows : ℕ) (w : Written) → (completion_layout 1 n windows).write w ≡ (M.completion_layout edition1 n windows).write w
unfolding completion_by M.completion_layout completion_front_by M.counts interval_choice bars_choice M.interval_choice zone_choice M.zone_choice M.six held ◌then◌ nat bits_of present nothing
completion-as n windows w = refl

regroup : (a b c d : List ℕ) → a ++ (b ++ (c ++ d)) ≡ (a ++ (b ++ c)) ++ d
regroup a b c d = simp append_assoc

-- floors came with edition 3
pub block-as : (e : ℕ) → has 3 e ≡ false → block e ≡ M.block
unfolding block M.block held ◌then◌ nat bits_of present nothing
block-as e h = rw h refl

pub cell-without : (e : ℕ) → has 3 e ≡ false → cell e ≡ cell_with e M.block
unfolding cell
cell-without e h = ap (cell_with e) (block-as e h)

-- reactive power came with edition 2
cell_as : M.cell ≡ cell 1
unfolding cell cell_with M.cell block M.block M.eight held ◌then◌ nat bits_of present nothing
cell_as = refl

minima-as : M.minima ≡ minima 1
unfolding minima M.minima held ◌then◌ nat bits_of present nothing
minima-as = refl

-- a reader that takes all that edition 1 allows takes no more
module _ (l : Largest) (h : device_limit 1 ≤ l.devices) (k : interval_limit 1 ≤ l.intervals) where
  content-as : As (content 1 l) (λ c. c) (content 1 batch)
  unfolding content_by counts_by
  content-as =
      let d : min l.devices (device_limit 1) ≡ device_limit 1 = omega arith in
      let i : min l.intervals (interval_limit 1) ≡ interval_limit 1 = omega arith in
      rw (d, i) (as_same (content 1 batch))

  pub first-as : As (first l) (λ c. c) (M.case_layout edition1)
  unfolding first content_by counts_by device_by start_window_by zone M.case_layout M.counts M.device M.start_window M.zone held ◌then◌ nat present nothing
  first-as = rw (cell_as, minima-as) (record {
    reads = λ s p bad next. ahead (fixed 1) s p bad (λ _ q. ahead (fixed 1) s q bad (λ _ r. content-as.reads s r bad next));
    writes = λ c.
        ap (λ (bs : List ℕ). (fixed 1).write 1 ++ ((fixed 1).write 1 ++ bs)) (content-as.writes c)
        ∙ regroup ((fixed 1).write 1) ((fixed 1).write 1) ((counts 1 batch).write (counts_of c.system)) _;
  })

  -- whatever is the newest, every message whose edition is 1 is read so
  pub edition1-reads : {X : Type 0} (s : List ℕ) → edition_of s ≡ 1 → (bad : Fault → X) (next : Stated → Place → X)
      → (case_layout l).read s begin bad next ≡ (M.case_layout edition1).read s begin bad (λ c q. next (stated 1 c) q)
  unfolding case_layout first held ◌then◌
  edition1-reads s e bad next =
      leads (only edition_field 1) s begin bad _
      ∙ ahead (fixed 1) s begin bad (λ _ _. holding edition_field s (advanced begin 4) bad _ 1 (omega arith) (omega arith) e)
      ∙ sym (leads (only edition_field 1) s begin bad _)
      ∙ first-as.reads s begin bad (λ c z. next (stated 1 c) z)
