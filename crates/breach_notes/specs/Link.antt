-- Rule 27 of an interval: what its test notes, behind what the interval's devices do.
use Rattle.std.specs.Prelude.{◌≡◌, refl, Bool, true, false, not, List, [], map, ℕ, ◌+◌, ◌≤◌, length}
use Rattle.std.proofs.Common.{sym, ap, arith, length-append}
use Rattle.model.specs.Case.{System, Plan}
use Rattle.model.specs.declared.Breach.{Breach}
use Rattle.model.specs.Rules.{link_breach}
use Rattle.model.specs.Breaches.{failing, unless, link_breaches}
use Rattle.failing_rules.specs.Day.{interval_cells, interval_breaches, interval-is}
use Rattle.link_rules.specs.Link.{link_kept, link_here}
use Rattle.breach_entries.specs.Noted.{note_if, Notes, notes-as, notes-append}

pub link-noted : (devices settings : List (List ℕ)) (t : ℕ) {b : Bool} → b ≡ link_kept devices settings t → {x : Breach} → x ≡ link_breach t 27
    → note_if (not b) x ≡ link_here devices settings t
unfolding link_here failing
link-noted devices settings t {b} e is = rw (is, ← e) (go b)
  where
    go : (b : Bool) → note_if (not b) (link_breach t 27) ≡ map (link_breach t) (unless b 27 [])
    go true = refl
    go false = refl

module _ (q : System) (p : Plan) (t k : ℕ) {most : ℕ} (room : k + length (interval_breaches q p t) ≤ most) where
  both : length (interval_breaches q p t) ≡ length (interval_cells q p t) + length (link_breaches q p t)
  both = rw (interval-is q p t) (length-append (interval_cells q p t) (link_breaches q p t))

  pub interval-room : k + length (interval_cells q p t) ≤ most
  interval-room = omega (arith, room, both)

  module _ {before between : List ℕ} {n : ℕ} (a : Notes k (interval_cells q p t) before between n) {part : List Breach} (e : part ≡ link_breaches q p t) where
    pub link-room : n + length part ≤ most
    link-room = omega (arith, room, both, a.count, ap length e)

    pub interval-noted : {after : List ℕ} {r : ℕ} → Notes n part between after r → Notes k (interval_breaches q p t) before after r
    interval-noted b = notes-as (sym (interval-is q p t)) (notes-append a (notes-as e b))
