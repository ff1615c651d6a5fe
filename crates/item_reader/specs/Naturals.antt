-- Any reader goes on from what is listed as from any other part.
use Rattle.std.specs.Prelude.{ℕ}
use Rattle.model.specs.Messages.{window_ends, energy_window}
use Rattle.model.specs.ByEdition.{start_window, start_window_by}
use Rattle.fields.specs.Got.{Natural, nat-natural, int-natural, then-natural, such-natural, held-natural}
use Rattle.item_reader.specs.declared.Listed.{Listed}
use Rattle.item_reader.specs.declared.Listed.TheVariants.{States, Starts, Energies}
use Rattle.item_reader.specs.Items.{item}

pub ends-natural : (last : ℕ) → Natural (window_ends last)
unfolding window_ends
ends-natural last = then-natural (nat-natural _) (λ a. such-natural _ (nat-natural _))

start-natural : (e last : ℕ) → Natural (start_window e last)
unfolding start_window_by
start-natural e last = held-natural _ _ (then-natural (ends-natural last) (λ a. nat-natural _))

energy-natural : (last : ℕ) → Natural (energy_window last)
unfolding energy_window
energy-natural last = held-natural _ _ (then-natural (nat-natural _) (λ k. then-natural (ends-natural last) (λ a. nat-natural _)))

pub item-natural : (k : Listed) (e last : ℕ) → Natural (item k e last)
item-natural States e last = then-natural (nat-natural _) (λ a. int-natural _ _)
item-natural Starts e last = start-natural e last
item-natural Energies e last = energy-natural last
