-- The completion at the front of the buffer is copied, then measured against the lent one.
use native.Mathlib.Omega.{arith}
use Rattle.completions.specs.Windows.{few-windows}
use Rattle.market_copies.specs.Steps.{first-long, shows-of}
use Rattle.market_copies.proofs.copy_written.Goals as goal

pub count_windows-windows-requires : goal.count_windows-windows-requires
count_windows-windows-requires c = let entry : _ = c in few-windows entry.requires.0

pub slice_bounds-copy_for_market-end : goal.slice_bounds-copy_for_market-end
slice_bounds-copy_for_market-end c =
    let sized : _ = c in
    let entry : _ = sized in
    first-long _ _ (omega (arith, sized.completion_bytes-end.ensures, entry.requires.1))

pub returns : goal.returns
returns c =
    let copying : _ = c in
    let counted : _ = copying in
    shows-of _ _ _ _ _ counted.completion_bytes-end.ensures counted.count_windows-windows.ensures copying.copy_for_market-needed.ensures c.answer.ensures
