-- Entry k stands from 4·k on.
use Rattle.std.proofs.Common.{◌≡◌, refl, List, ◌++◌, ℕ, ◌+◌, ◌*◌, ◌≤◌, length, take, drop, arith, le-leb}
use Rattle.model.specs.declared.Breach.{Breach}
use Rattle.model.specs.Lists.{breach_bytes}
use Rattle.breach_entries.specs.Noted.{entered, entered-not}
use Rattle.breach_entries.proofs.enter.Goals as goal

entered-there : (k : ℕ) (b : Breach) (list : List ℕ) {n : ℕ} {part : List ℕ} → 4 * k + 4 ≤ length list → n ≡ 4 → part ≡ breach_bytes b
    → take (4 * k) list ++ (part ++ drop n (drop (4 * k) list)) ≡ entered k b list
unfolding entered
entered-there k b list h e f = rw (e, f, le-leb (4 * k + 4) (length list) h) refl

pub returns-then-at-list : goal.returns-then-at-list
returns-then-at-list c = entered-there c.args.k c.args.b c.args.list.now (omega arith) (omega arith) c.copy_from_slice.ensures.after

pub returns-else-at-list : goal.returns-else-at-list
returns-else-at-list c = entered-not _ _ _ (omega arith)
