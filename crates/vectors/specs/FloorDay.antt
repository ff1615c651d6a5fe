-- The two-set day with floors, worked by hand, on the bytes of edition 3's messages: tabulated facts. On figures they are those of `model`.
use Rattle.std.specs.Prelude.{Bool, List, ℕ, T, replicate}
use Rattle.numbers.specs.Base.{every}
use Rattle.layouts.specs.Layout.{bytes}
use Rattle.model.specs.Forced.{devices, intervals}
use Rattle.model.specs.Editions.{batch}
use Rattle.model.specs.ByEdition.{case_layout, plan_layout}
use Rattle.model.specs.Judgement.{judgement}
use Rattle.model.specs.Open.{open-rules, open-messages}
use Rattle.model.specs.Shown.{shown, eqℤ, eq_list}
use Rattle.model.specs.ReactiveDay.{Row}
use Rattle.model.specs.FloorDay.{edition, floor_rows}

on_messages : Row → Bool
on_messages r =
    let c = r.case in
    let case = bytes ((case_layout batch).write (record { edition = edition; case = c })) in
    let plan = bytes ((plan_layout edition (devices c.system) (intervals c.system)).write r.plan) in
    eq_list eqℤ (shown (judgement batch case plan (replicate 200 0)).verdict) r.tells

floors-on-messages : T (every on_messages floor_rows)
unfolding open-rules open-messages on_messages floor_rows
floors-on-messages = tt
