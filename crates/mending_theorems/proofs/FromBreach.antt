-- The answer for a plan that passed reading, as the code finds it: by at most two tries from the first breach.
use Rattle.std.specs.Prelude.{◌≡◌, refl, List, [], ◌∷◌}
use Rattle.std.proofs.Common.{ap}
use Rattle.model.specs.declared.Breach.{Breach}
use Rattle.model.specs.Case.{Plan}
use Rattle.model.specs.Breaches.{breaches}
use Rattle.model.specs.ByEdition.{Stated}
use Rattle.model.specs.Judgement.{our_surplus}
use Rattle.ranges.specs.Ranges.{PlanRange}
use Rattle.mending.specs.declared.Mending.TheVariants.{Accepted}
use Rattle.mending.specs.Mending.{most_online}
use Rattle.mending.specs.Mendings.{told, mending_of}
use Rattle.mending_theorems.specs.Answer.{Shaped, mended_from}
use Rattle.mending_theorems.proofs.Answer.{shaped, mended-is}

pub from-shape : (x : Stated) (p : Plan) → Shaped x.case.system p → (b : Breach) (bs : List Breach) → breaches x.case.system p ≡ b ∷ bs
    → mending_of x p ≡ told (mended_from most_online x.case.system p b)
unfolding mending_of
from-shape x p r b bs e = rw e (ap told (mended-is most_online x.case.system p r b bs e))

pub from-breach : (x : Stated) (p : Plan) → PlanRange x.case.system p → (b : Breach) (bs : List Breach) → breaches x.case.system p ≡ b ∷ bs
    → mending_of x p ≡ told (mended_from most_online x.case.system p b)
from-breach x p r b bs e = from-shape x p (shaped x.case.system p r) b bs e

pub from-none : (x : Stated) (p : Plan) → breaches x.case.system p ≡ [] → mending_of x p ≡ Accepted (our_surplus x.case p)
unfolding mending_of
from-none x p e = rw e refl
