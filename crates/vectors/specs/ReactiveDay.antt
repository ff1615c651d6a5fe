-- The two-set day and small days with reactive power, worked by hand, on the bytes of edition 2's messages: tabulated facts. On figures they are those of `model`.
use Rattle.std.specs.Prelude.{Bool, List, ℕ, T, replicate}
use Rattle.numbers.specs.Base.{every}
use Rattle.layouts.specs.Layout.{bytes}
use Rattle.model.specs.Case.{Case, Plan}
use Rattle.model.specs.Forced.{devices, intervals}
use Rattle.model.specs.Editions.{batch}
use Rattle.model.specs.ByEdition.{case_layout, plan_layout}
use Rattle.model.specs.Judgement.{judgement}
use Rattle.model.specs.Open.{open-rules, open-messages}
use Rattle.model.specs.Shown.{shown, eqℤ, eq_list}
use Rattle.model.specs.ReactiveDay.{Row, edition, day_rows, small_rows}

case_bytes : Case → List ℕ
case_bytes c = bytes ((case_layout batch).write (record { edition = edition; case = c }))

plan_bytes : Case → Plan → List ℕ
plan_bytes c p = bytes ((plan_layout edition (devices c.system) (intervals c.system)).write p)

on_messages : Row → Bool
on_messages r = eq_list eqℤ (shown (judgement batch (case_bytes r.case) (plan_bytes r.case r.plan) (replicate 200 0)).verdict) r.tells

day-on-messages : T (every on_messages day_rows)
unfolding open-rules open-messages case_bytes plan_bytes on_messages day_rows
day-on-messages = tt

small-on-messages : T (every on_messages small_rows)
unfolding open-rules open-messages case_bytes plan_bytes on_messages small_rows
small-on-messages = tt
