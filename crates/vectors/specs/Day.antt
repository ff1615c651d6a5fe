-- "A two-set day" and its marked cases (a) to (m) on the bytes of edition 1's messages: tabulated facts. On figures they are those of `model`.
use Rattle.std.specs.Prelude.{Bool, List, T, ℤ, replicate}
use Rattle.numbers.specs.Base.{every}
use Rattle.layouts.specs.Layout.{bytes}
use Rattle.model.specs.Case.{Case, Plan}
use Rattle.model.specs.Editions.{batch}
use Rattle.model.specs.ByEdition.{case_layout, plan_layout}
use Rattle.model.specs.Judgement.{judgement}
use Rattle.model.specs.Open.{open-rules, open-messages}
use Rattle.model.specs.Shown.{shown, eqℤ, eq_list}
use Rattle.model.specs.Day.{edition, table}

on_messages : Case × Plan × List ℤ → Bool
on_messages r =
    let case = bytes ((case_layout batch).write (record { edition = edition; case = r.0 })) in
    let plan = bytes ((plan_layout edition 2 2).write r.1) in
    eq_list eqℤ (shown (judgement batch case plan (replicate 200 0)).verdict) r.2

day-on-messages : T (every on_messages table)
unfolding open-rules open-messages on_messages edition table
day-on-messages = tt
