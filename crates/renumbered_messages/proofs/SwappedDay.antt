-- The two-set day with its sets swapped, worked by hand: tabulated facts on figures, and on the messages of the rearranged pair.
use Rattle.std.specs.Prelude.{◌≡◌, refl, Bool, ◌&&◌, List, ℕ, zero, suc, ◌<◌, T, eqb, replicate, ℤ}
use Rattle.std.proofs.Common.{arith}
use Rattle.numbers.specs.Base.{every}
use Rattle.numbers.specs.Rows.{rows}
use Rattle.layouts.specs.Layout as L
use Rattle.model.specs.Case.{Case, Plan}
use Rattle.model.specs.Editions as Reader
use Rattle.model.specs.ByEdition.{Stated, case_layout, plan_layout}
use Rattle.model.specs.Judgement.{verdict, judgement}
use Rattle.model.specs.Breaches.{breaches}
use Rattle.model.specs.Lists.{list_bytes}
use Rattle.model.specs.Open.{open-rules, open-messages}
use Rattle.model.specs.Shown.{shown, eqℤ, eq_list}
use Rattle.model.specs.Day.{day_case, reactive_plan, none_added}
use Rattle.model.specs.ReactiveDay.{Row as BarRow}
use Rattle.model.specs.BarDay as B
use Rattle.model.specs.BarDay.{bar_rows}
use Rattle.renumbering.specs.Permute.{Renumbering}
use Rattle.renumbering.specs.Renumbered.{rearranged, rearranged_case, rearranged_plan}
use Rattle.renumbered_messages.specs.SwappedDay.{Row, day, plan, table}

-- set 1 becomes set 2 and set 2 becomes set 1
flip : ℕ → ℕ
flip zero = 1
flip (suc zero) = 0
flip (suc (suc n)) = suc (suc n)

flip-below : (i : ℕ) → i < 2 → flip i < 2
unfolding flip
flip-below zero h = omega arith
flip-below (suc zero) h = omega arith
flip-below (suc (suc n)) h = omega arith

flip-again : (i : ℕ) → i < 2 → flip (flip i) ≡ i
unfolding flip
flip-again zero h = refl
flip-again (suc zero) h = refl
flip-again (suc (suc n)) h = refl

swap : Renumbering 2
swap = record { to = flip; back = flip; to_below = flip-below; back_below = flip-below; there = flip-again; again = flip-again }

stated : Case → Stated
stated c = record { edition = 1; case = c }

judges : Case → Plan → List ℤ → List ℕ → Bool
judges c p tells lists = eq_list eqℤ (shown (verdict (stated c) p 200)) tells && eq_list eqb (list_bytes (breaches c.system p)) lists

agrees : Row → Bool
agrees r = judges r.case r.plan r.tells r.lists && judges (rearranged_case swap r.case) (rearranged_plan swap r.plan) r.swapped_tells r.swapped_lists

-- on the bytes of the rearranged pair
on_messages : Row → Bool
on_messages r =
    let case = L.bytes ((case_layout Reader.batch).write (stated (rearranged_case swap r.case))) in
    let plan = L.bytes ((plan_layout 1 2 2).write (rearranged_plan swap r.plan)) in
    eq_list eqℤ (shown (judgement Reader.batch case plan (replicate 200 0)).verdict) r.swapped_tells

swapped-on-figures : T (every agrees table)
unfolding open-rules open-messages list_bytes rearranged rearranged_case rearranged_plan rows flip swap day plan table stated judges agrees day_case reactive_plan none_added
swapped-on-figures = tt

swapped-on-messages : T (every on_messages table)
unfolding open-rules open-messages list_bytes rearranged rearranged_case rearranged_plan rows flip swap day plan table stated on_messages day_case reactive_plan none_added
swapped-on-messages = tt

-- on two busbars: the bars go along, the flows stay, and so does device 0 of rule 27, so every row of that day tells the same
on_bars : BarRow → Bool
on_bars r = eq_list eqℤ (shown (verdict (record { edition = B.edition; case = rearranged_case swap r.case }) (rearranged_plan swap r.plan) 200)) r.tells

swapped-on-bars : T (every on_bars bar_rows)
unfolding open-rules open-messages rearranged rearranged_case rearranged_plan rows flip swap on_bars bar_rows
swapped-on-bars = tt
