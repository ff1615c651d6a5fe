-- What a day's pass over its rows asks of `cell_money`, and what it learns, at its own case and plan.
use Rattle.std.specs.Prelude.{◌≡◌, ℕ, ◌+◌, ◌*◌, ◌<◌, length}
use Rattle.std.proofs.Common.{sym, ◌∙◌}
use Rattle.std.proofs.Math.Path.{ap}
use mathlib.Core.List.{List, []}
use Rattle.std.proofs.Math.ListN.{get_or}
use Rattle.grains.specs.declared.Ledger.{Ledger}
use Rattle.model.specs.Case.{Plan, Case}
use Rattle.row_places.specs.declared.Front.{Front}
use Rattle.row_places.specs.declared.Cell.{Cell}
use Rattle.row_places.specs.declared.Device.{Device}
use Rattle.row_places.specs.declared.Setting.{Setting}
use Rattle.row_places.specs.Figures.{cell_of, setting_of, device_of}
use Rattle.numbers.specs.Parts.{part}
use Rattle.records.specs.Views.{case_in, plan_in}
use Rattle.choices.specs.declared.Choice.{Choice}
use Rattle.choices.specs.Here.{at_place, cell-here}
use Rattle.choices.specs.Choices.{ChoiceOf}
use Rattle.money.specs.Bounds.{cell_most}
use Rattle.money.specs.Entries.{Entered}
use Rattle.money.specs.Unbroken.{Unbroken}
use Rattle.money.specs.Ruled.{Ruled}
use Rattle.money.specs.Terms.{cell_balance, CellEntered}

module _ {front : Front} {halves : List ℕ} {zones minima devices cells settings : List (List ℕ)} {starts powers : List ℕ}
    (u : Unbroken front halves zones minima devices cells settings starts powers) where
  abbrev c : Case
  c = case_in front halves zones minima devices cells

  abbrev p : Plan
  p = plan_in (length devices) (length halves) settings

  -- a device in an interval: what `cell_money` asks, and what it enters
  module _ (t i a : ℕ) (h : t < length halves) (l : i < length devices) (begins : a ≡ i * length halves)
      {d : Device} {cell : Cell} {own : List (List ℕ)} {s : Setting} {n minutes : ℕ} {x : Choice}
      (ed : d ≡ device_of (get_or devices i [])) (ec : cell ≡ cell_of (get_or cells (a + t) [])) (eo : own ≡ part (length halves) i settings) (ep : n ≡ get_or powers (a + t) 0)
      (es : s ≡ setting_of (get_or settings (a + t) [])) (em : minutes ≡ 2 * get_or halves t 0) (chosen : ChoiceOf d cell own starts n t x) where
    pub ruled-here : Ruled d cell s n minutes x
    unfolding cell-here
    ruled-here = record {
      settings = own;
      starts = starts;
      t = t;
      place = cell-here u.ready t i a h l begins ed ec eo ep;
      rules = u.rules;
      setting-is = es ∙ ap setting_of (at_place u.ready t i a h l begins [] settings ∙ ap (λ (y : List (List ℕ)). get_or y t []) (sym eo));
      minutes-are = em;
      choice = chosen;
    }

    pub cell-learnt : {y z : Ledger} → CellEntered d cell s n minutes x y z → Entered y z (cell_balance c p t i) cell_most
    unfolding ruled-here cell-here
    cell-learnt e = e.is ruled-here
