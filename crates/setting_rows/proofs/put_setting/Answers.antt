use mathlib.Core.Path.{refl}
use Rattle.setting_rows.proofs.put_setting.Goals as goal

pub returns : goal.returns
returns c = rw c.setting_row.ensures refl
