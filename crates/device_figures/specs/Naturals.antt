-- Any reader goes on from these parts.
use Rattle.std.specs.Prelude.{ℕ}
use Rattle.layouts.specs.Since.{has, since}
use Rattle.model.specs.Messages.{zone_bits}
use Rattle.model.specs.ByEdition as B
use Rattle.fields.specs.Got.{Natural, nat-natural, then-natural, such-natural}
use Rattle.fields.specs.Since.{present-natural}
use Rattle.field_rows.specs.Each.{row-natural}
use Rattle.field_rows.proofs.Steps.{eight-natural}
use Rattle.link_reader.proofs.Links.{link-natural}
use Rattle.device_figures.specs.Parts.{sides, initial_row, ramp_row, cost_row, figures, linked}

pub sides-natural : (zones : ℕ) → Natural (sides zones)
unfolding zone_bits
sides-natural zones = then-natural (nat-natural _) (λ a. such-natural _ (nat-natural _))

pub figures-natural : Natural figures
figures-natural = then-natural (row-natural initial_row 5) (λ a. then-natural (row-natural ramp_row 4) (λ b. then-natural (row-natural cost_row 3) (λ c. eight-natural (nat-natural _))))

pub bar-natural : (e : ℕ) → Natural (since e 5 0 B.bar)
bar-natural e = present-natural (has 5 e) 0 (nat-natural _)

pub linked-natural : (e : ℕ) → Natural (linked e)
linked-natural e = then-natural (link-natural e) (λ a. bar-natural e)
