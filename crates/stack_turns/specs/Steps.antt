-- One plan's turn, against a decoded case.
use Rattle.std.specs.Prelude.{◌≡◌, List, ◌++◌, ℕ, length, drop}
use Rattle.std.proofs.Math.Path.{refl}
use Rattle.std.proofs.Common.{ap, ap₂, ◌∙◌}
use Rattle.model.specs.declared.Verdict.{Verdict}
use Rattle.model.specs.Case.{Plan}
use Rattle.model.specs.ByEdition.{Stated}
use Rattle.model.specs.Ours.{ours}
use Rattle.model.specs.Judgement.{completion_bytes, our_surplus}
use Rattle.row_places.specs.declared.Front.{Front}
use Rattle.records.specs.Views.{system_in}
use Rattle.records.specs.Viewed as Viewed
use Rattle.completion_size.specs.Size.{written-needed}
use Rattle.completions.specs.Windows.{Few, windows-whole}
use Rattle.completions.specs.Whole.{needed_for}
use Rattle.decoded_cases.specs.Decoded.{Decoded, stated_rows}
use Rattle.plan_judgement.specs.JudgesPlan.{JudgesPlan}
use Rattle.tellings.specs.declared.Told.{Told}
use Rattle.tellings.specs.Told.{told_of}
use Rattle.stacks.specs.Stack.{row_numbers, row_told}
use Rattle.stacks.specs.Turns.{TakesTurn, written_by}
use Rattle.stacks.proofs.Turns.{turn-bytes}

module _ {front : Front} {halves : List ℕ} {zones minima devices cells : List (List ℕ)} (d : Decoded front halves zones minima devices cells) where
  abbrev y : Stated
  y = stated_rows front halves zones minima devices cells

  pub few-rows : Few halves zones devices
  few-rows = let r = d.rows in record { few-devices = r.few-devices; few-intervals = r.few-intervals; few-zones = r.few-zones; counted = r.counted }

  -- the completions of a case's plans take as many bytes
  bytes-long : (p : Plan) → length (completion_bytes y p) ≡ needed_for front.edition halves zones devices
  unfolding completion_bytes
  bytes-long p = written-needed front.edition (system_in halves zones minima devices cells) (ours y.case p) (our_surplus y.case p)
      ∙ rw (
        Viewed.devices-are halves zones minima devices cells,
        Viewed.intervals-are halves zones minima devices cells,
        Viewed.zones-are halves zones minima devices cells,
        windows-whole d.rows,
      ) refl

  pub turn-taken : (ps : List ℕ) {before after table told : List ℕ} {v : Verdict} {t : Told} {n : ℕ} → JudgesPlan front halves zones minima devices cells ps before after v
      → n ≡ written_by (needed_for front.edition halves zones devices) v → t ≡ told_of v → told ≡ row_told t n ++ drop row_numbers table → TakesTurn y ps before after table told n
  turn-taken ps {before} {table = table} j e f g =
      let bytes = e ∙ turn-bytes y before ps bytes-long j.verdict in
      record {
        bytes = bytes;
        result = j.result;
        numbers = g ∙ ap₂ (λ (x : Told) (k : ℕ). row_told x k ++ drop row_numbers table) (f ∙ ap told_of j.verdict) bytes;
      }
