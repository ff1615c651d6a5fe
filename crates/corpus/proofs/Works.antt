-- Room for a plan and its figures stays, while tables keep their lengths.
use Rattle.std.proofs.Common.{◌≡◌, List, ℕ, length, ◌∙◌}
use Rattle.decoded_cases.specs.Decoded.{Work}

pub work-kept : {halves : List ℕ} {devices settings later : List (List ℕ)} {starts times powers forced : List ℕ} → Work halves devices settings starts powers
    → length later ≡ length settings → length times ≡ length starts → length forced ≡ length powers → Work halves devices later times forced
work-kept w a b c = record { settings-full = a ∙ w.settings-full; starts-full = b ∙ w.starts-full; powers-full = c ∙ w.powers-full }
