-- What a day's pass over its rows asks of `choose`, and what it learns, at its own case and plan.
use Rattle.std.specs.Prelude.{◌≡◌, List, [], map, ℕ, ◌+◌, ◌*◌, ◌≤◌, ◌<◌, length, get_or}
use Rattle.std.proofs.Common.{sym, ap, ◌∙◌}
use Rattle.kilowatts.specs.Power.{kw}
use Rattle.model.specs.Case.{Plan, Case}
use Rattle.model.specs.Rules.{blocks, EveryRule}
use Rattle.model.specs.Ours.{ours}
use Rattle.row_places.specs.declared.Front.{Front}
use Rattle.row_places.specs.declared.Cell.{Cell}
use Rattle.row_places.specs.declared.Device.{Device}
use Rattle.row_places.specs.Figures.{cell_of, device_of, on_at}
use Rattle.numbers.specs.Parts.{part, part_at}
use Rattle.records.specs.Views.{system_in, case_in, plan_in, Ready}
use Rattle.choices.specs.declared.Choice.{Choice}
use Rattle.choices.specs.Cells.{CellOf}
use Rattle.choices.specs.Choices.{ChoiceOf}
use Rattle.choices.specs.Blocks.{floors-met}
use Rattle.block_fill.specs.Above.{sum_of}

-- our completion's choices for device i in interval t
pub record OurChoice (c : Case) (p : Plan) (t i : ℕ) (x : Choice) : Type 0 where
  pub started : x.started ≡ (ours c p).started t i
  pub stopped : x.stopped ≡ (ours c p).stopped t i
  pub state : x.state ≡ (ours c p).state t i
  pub blocks-are : x.blocks ≡ map (λ k. kw ((ours c p).block t i k)) blocks

-- device i in interval t; its part of the tables begins at a
module _ {front : Front} {halves : List ℕ} {zones minima devices cells settings : List (List ℕ)} {starts powers : List ℕ}
    (r : Ready front halves zones minima devices cells settings starts powers)
    (t i a : ℕ) (h : t < length halves) (l : i < length devices) (begins : a ≡ i * length halves) where
  pub at_place : {A : Type 0} (z : A) (table : List A) → get_or table (a + t) z ≡ get_or (part (length halves) i table) t z
  at_place z table = ap (λ (n : ℕ). get_or table (n + t) z) begins ∙ sym (part_at z (length halves) i table t h)

  module _ {d : Device} {cell : Cell} {own : List (List ℕ)} {p : ℕ}
      (ed : d ≡ device_of (get_or devices i [])) (ec : cell ≡ cell_of (get_or cells (a + t) [])) (eo : own ≡ part (length halves) i settings) (ep : p ≡ get_or powers (a + t) 0) where
    unfoldable pub cell-here : CellOf d cell own starts p t
    cell-here = record {
      front = front;
      halves = halves;
      zones = zones;
      minima = minima;
      devices = devices;
      cells = cells;
      table = settings;
      powers = powers;
      i = i;
      ready = r;
      interval = h;
      known = l;
      device-is = ed;
      cell-is = ec ∙ ap cell_of (at_place [] cells);
      settings-are = eo;
      power-is = ep ∙ at_place 0 powers;
    }

    -- where the plan breaks no rule, the power is at or above the floors that bind
    pub floors-here : EveryRule (system_in halves zones minima devices cells) (plan_in (length devices) (length halves) settings) → on_at own t * sum_of cell.floors ≤ p
    unfolding cell-here
    floors-here rules = floors-met cell-here rules

    pub choice-learnt : {x : Choice} → ChoiceOf d cell own starts p t x → OurChoice (case_in front halves zones minima devices cells) (plan_in (length devices) (length halves) settings) t i x
    unfolding cell-here
    choice-learnt e = record { started = e.started cell-here; stopped = e.stopped cell-here; state = e.state cell-here; blocks-are = e.blocks cell-here }
