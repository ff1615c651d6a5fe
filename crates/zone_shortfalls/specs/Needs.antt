-- A zone's six needs, from its shares, its sums and its minima.
use Rattle.std.specs.Prelude.{◌≡◌, Bool, true, false, not, ◌&&◌, List, [], ◌∷◌, map, get_or, length}
use Rattle.std.proofs.Math.Path.{refl}
use Rattle.std.proofs.Common.{sym, ap, ap₂, ◌∙◌, arith, add-one}
use Prim.Native.Nat.{ℕ, zero, suc, ◌+◌, ◌-◌, ◌*◌, ◌≤◌, ◌<◌, max}
use Rattle.numbers.specs.Laws.{max_zero, above-is}
use Rattle.numbers.specs.Sum.{sumℕ, sumℕ-cong, sumℕ-add, gate, gate-add, all as each}
use Rattle.bits.specs.Pick.{pick}
use Rattle.numbers.specs.Base.{range, up_to, largest}
use Rattle.model.specs.Case as M
use Rattle.model.specs.Case.{System, Plan, no_minima}
use Rattle.model.specs.Forced.{devices as count, zone, consuming, member, setting, power}
use Rattle.model.specs.Completion as C
use Rattle.energy.specs.declared.Watts.{Watts}
use Rattle.kilowatts.specs.Power.{kw}
use Rattle.energy.specs.Energy.{watts}
use Rattle.row_places.specs.declared.Front.{Front}
use Rattle.row_places.specs.declared.Reserves.{Reserves}
use Rattle.row_places.specs.declared.Zone.{Zone}
use Rattle.row_places.specs.declared.Minima.{Minima}
use Rattle.row_places.specs.Figures.{setting_of, zone_of, minima_of}
use Rattle.numbers.specs.Parts.{part, part_at}
use Rattle.numbers.specs.Ranges.{sum-next, sum-skip, largest-next, largest-skip}
use Rattle.records.specs.Views.{eight_in, minima_in, system_in, plan_in, Ready}
use Rattle.records.specs.Viewed as W
use Rattle.records.specs.Ranged.{shares-small}
use Rattle.zone_totals.specs.declared.ZoneSums.{ZoneSums}
use Rattle.zone_totals.specs.Sums.{sums_by, with_device, sums_to}

pub record Thousandths (z : Zone) : Type 0 where
  pub rgu : z.rgu ≤ 1000
  pub rgd : z.rgd ≤ 1000
  pub scr : z.scr ≤ 1000
  pub nsc : z.nsc ≤ 1000

-- what is required against the load and the largest unit: rgu, rgd, scr, nsc
abbrev pub required_of : Zone → (load unit : ℕ) → List Watts
required_of z load unit =
    watts (z.rgu * load)
    ∷ watts (z.rgd * load)
    ∷ watts (z.rgu * load + z.scr * unit)
    ∷ watts (z.rgu * load + z.scr * unit + z.nsc * unit)
    ∷ []

-- the six needs from what is required, the sums and the minima
abbrev pub needs_of : List Watts → ZoneSums → Minima → List Watts
needs_of required s least =
    watts ((get_or required 0 (watts 0)).0 - 1000 * s.rgu.0)
    ∷ watts ((get_or required 1 (watts 0)).0 - 1000 * s.rgd.0)
    ∷ watts ((get_or required 2 (watts 0)).0 - 1000 * (s.rgu.0 + s.scr.0))
    ∷ watts ((get_or required 3 (watts 0)).0 - 1000 * (s.rgu.0 + s.scr.0 + s.nsc.0))
    ∷ watts (1000 * least.rru.0 - 1000 * s.rru.0)
    ∷ watts (1000 * least.rrd.0 - 1000 * s.rrd.0)
    ∷ []

abbrev pub zone_needs : Zone → Minima → ZoneSums → List Watts
zone_needs z least s = needs_of (required_of z s.load.0 s.unit.0) s least

pub six-made : {a b c d e f : Watts} {u v w x y z : ℕ} → a.0 ≡ u → b.0 ≡ v → c.0 ≡ w → d.0 ≡ x → e.0 ≡ y → f.0 ≡ z
    → ◌≡◌ {A = List Watts} (a ∷ b ∷ c ∷ d ∷ e ∷ f ∷ []) (watts u ∷ watts v ∷ watts w ∷ watts x ∷ watts y ∷ watts z ∷ [])
six-made p q r s t o = rw (← p, ← q, ← r, ← s, ← t, ← o) refl

-- ---- a decoded case and plan

module _ {front : Front} {halves : List ℕ} {zones minima devices cells settings : List (List ℕ)} {starts powers : List ℕ}
    (ready : Ready front halves zones minima devices cells settings starts powers) (t : ℕ) (h : t < length halves) (z : ℕ) where
  abbrev q : System
  q = system_in halves zones minima devices cells

  abbrev p : Plan
  p = plan_in (length devices) (length halves) settings

  abbrev m : ℕ
  m = length halves

  abbrev amount : ℕ → M.Reserves
  amount i = (setting q p t i).reserves

  abbrev over : (ℕ → ℕ) → ℕ → ℕ
  over f i = sumℕ (λ k. gate (member q z k) (f k)) (up_to i)

  -- the sums of the first i devices
  record Summed (i : ℕ) (s : ZoneSums) : Type 0 where
    pub load_is : s.load.0 ≡ sumℕ (λ k. gate (member q z k && consuming q k) (power q p t k)) (up_to i)
    pub unit-is : s.unit.0 ≡ largest (λ k. gate (member q z k && not (consuming q k)) (power q p t k)) (up_to i)
    pub rgu-is : s.rgu.0 ≡ over (λ k. (amount k).rgu) i
    pub rgd-is : s.rgd.0 ≡ over (λ k. (amount k).rgd) i
    pub scr-is : s.scr.0 ≡ over (λ k. (amount k).scr) i
    pub nsc-is : s.nsc.0 ≡ over (λ k. (amount k).nsc) i
    pub rru-is : s.rru.0 ≡ over (λ k. (amount k).rru_on + (amount k).rru_off) i
    pub rrd-is : s.rrd.0 ≡ over (λ k. (amount k).rrd_on + (amount k).rrd_off) i

  summed-next : (i : ℕ) (s : ZoneSums) → i < length devices → Summed i s → Summed (suc i) (with_device s devices settings powers i (i * m + t) z)
  summed-next i s l r = rw (← W.member_is halves zones minima devices cells i l z, ← W.consuming-is halves zones minima devices cells i l, ← add-one i) (go (member q z i) refl)
    where
      x : ℕ
      x = get_or powers (i * length halves + t) 0

      is : x ≡ power q p t i
      is = ready.forced-rows.power-is t i h l

      a : Reserves
      a = (setting_of (get_or settings (i * length halves + t) [])).reserves

      held : (f : M.Reserves → ℕ) → member q z i ≡ true → f (eight_in a) ≡ gate (member q z i) (f (amount i))
      held f j = rw j (sym (
          ap (λ (s : M.Setting). f s.reserves) (W.setting-is (length devices) m settings q t i h l)
          ∙ ap (λ (r : List ℕ). f (eight_in (setting_of r).reserves)) (part_at [] m i settings t h)
          ))

      go : (b : Bool) → member q z i ≡ b → Summed (i + 1) (pick b (sums_by
          (kw (s.load.0 + gate (consuming q i) x))
          (kw (max s.unit.0 (gate (not (consuming q i)) x)))
          (kw (s.rgu.0 + a.rgu.0))
          (kw (s.rgd.0 + a.rgd.0))
          (kw (s.scr.0 + a.scr.0))
          (kw (s.nsc.0 + a.nsc.0))
          (kw (s.rru.0 + (a.rruon.0 + a.rruoff.0)))
          (kw (s.rrd.0 + (a.rrdon.0 + a.rrdoff.0)))) s)
      go true j = record {
        load_is = sum-next _ i r.load_is (rw (j, is) refl);
        unit-is = largest-next _ i r.unit-is (rw (j, is) refl);
        rgu-is = sum-next _ i r.rgu-is (held (λ x. x.rgu) j);
        rgd-is = sum-next _ i r.rgd-is (held (λ x. x.rgd) j);
        scr-is = sum-next _ i r.scr-is (held (λ x. x.scr) j);
        nsc-is = sum-next _ i r.nsc-is (held (λ x. x.nsc) j);
        rru-is = sum-next _ i r.rru-is (held (λ x. x.rru_on + x.rru_off) j);
        rrd-is = sum-next _ i r.rrd-is (held (λ x. x.rrd_on + x.rrd_off) j);
      }
      go false j = record {
        load_is = sum-skip _ i r.load_is (rw j refl);
        unit-is = largest-skip _ i r.unit-is (rw j refl);
        rgu-is = sum-skip _ i r.rgu-is (rw j refl);
        rgd-is = sum-skip _ i r.rgd-is (rw j refl);
        scr-is = sum-skip _ i r.scr-is (rw j refl);
        nsc-is = sum-skip _ i r.nsc-is (rw j refl);
        rru-is = sum-skip _ i r.rru-is (rw j refl);
        rrd-is = sum-skip _ i r.rrd-is (rw j refl);
      }

  summed-to : (i : ℕ) → i ≤ length devices → Summed i (sums_to devices settings powers m t z i)
  unfolding sums_to range largest
  summed-to zero l = record { load_is = refl; unit-is = refl; rgu-is = refl; rgd-is = refl; scr-is = refl; nsc-is = refl; rru-is = refl; rrd-is = refl }
  summed-to (suc i) l = summed-next i (sums_to devices settings powers m t z i) (omega arith) (summed-to i (omega arith))

  -- a sum of two kinds
  over-both : (f g : ℕ → ℕ) (ks : List ℕ) → sumℕ (λ k. gate (member q z k) (f k)) ks + sumℕ (λ k. gate (member q z k) (g k)) ks ≡ sumℕ (λ k. gate (member q z k) (f k + g k)) ks
  over-both f g ks = sym (sumℕ-cong _ _ ks (each (λ k. gate-add (member q z k) (f k) (g k)) ks) ∙ sumℕ-add _ _ ks)

  module _ (l : z < length zones) where
    abbrev s : ZoneSums
    s = sums_to devices settings powers m t z (length devices)

    abbrev here : Zone
    here = zone_of (get_or zones z [])

    abbrev least : Minima
    least = minima_of (get_or (part m z minima) t [])

    all : Summed (count q) s
    all = rw (W.devices-are halves zones minima devices cells) (summed-to (length devices) (omega arith))

    load-all : s.load.0 ≡ C.load q p t z
    unfolding C.load
    load-all = all.load_is

    unit-all : s.unit.0 ≡ C.largest_unit q p t z
    unfolding C.largest_unit
    unit-all = all.unit-is

    -- a need from what is required and what is held
    need : {a b : ℕ} (k : C.Shortfall) → a ≡ C.required q p t z k → b ≡ C.held q p t z k → a - 1000 * b ≡ max_zero (C.shortfall_need q p t z k)
    unfolding C.shortfall_need
    need k e f = rw (e, f) (sym (above-is (C.required q p t z k) (1000 * C.held q p t z k)))

    share : (f : M.Shares → ℕ) → f (zone q z).shares ≡ f (record { rgu = here.rgu; rgd = here.rgd; scr = here.scr; nsc = here.nsc })
    share f = ap f (W.shares-are halves zones minima devices cells z l)

    part_of : {a b c d : ℕ} → a ≡ b → c ≡ d → b * c ≡ a * d
    part_of e f = rw (e, f) refl

    up : here.rgu * s.load.0 ≡ (zone q z).shares.rgu * C.load q p t z
    up = part_of (share (λ x. x.rgu)) load-all

    spinning : here.scr * s.unit.0 ≡ (zone q z).shares.scr * C.largest_unit q p t z
    spinning = part_of (share (λ x. x.scr)) unit-all

    standing : here.nsc * s.unit.0 ≡ (zone q z).shares.nsc * C.largest_unit q p t z
    standing = part_of (share (λ x. x.nsc)) unit-all

    minimum : (f : M.Minima → ℕ) → f (get_or (zone q z).minima t no_minima) ≡ f (minima_in (get_or (part m z minima) t []))
    minimum f = ap f (W.minima-are halves zones minima devices cells z l t)

    pub thousandths : Thousandths here
    thousandths = let r = shares-small ready.case_rows z l in record { rgu = r.rgu; rgd = r.rgd; scr = r.scr; nsc = r.nsc }

    abbrev short : C.Shortfall → Watts
    short k = watts (max_zero (C.shortfall_need q p t z k))

    pub shortfalls-are : zone_needs here least s ≡ map short C.shortfalls
    unfolding C.required C.held
    shortfalls-are =
        let both = over-both (λ k. (amount k).rgu) (λ k. (amount k).scr) (up_to (count q)) in
        let three = over-both (λ k. (amount k).rgu + (amount k).scr) (λ k. (amount k).nsc) (up_to (count q)) in
        six-made
        (need C.rgu up all.rgu-is)
        (need C.rgd (part_of (share (λ x. x.rgd)) load-all) all.rgd-is)
        (need C.scr (ap₂ (λ (a b : ℕ). a + b) up spinning) (ap₂ (λ (a b : ℕ). a + b) all.rgu-is all.scr-is ∙ both))
        (need C.nsc (ap₂ (λ (a b : ℕ). a + b) (ap₂ (λ (a b : ℕ). a + b) up spinning) standing)
        (ap₂ (λ (a b : ℕ). a + b) (ap₂ (λ (a b : ℕ). a + b) all.rgu-is all.scr-is ∙ both) all.nsc-is ∙ three))
        (need C.rru (ap (λ (n : ℕ). 1000 * n) (sym (minimum (λ x. x.rru)))) all.rru-is)
        (need C.rrd (ap (λ (n : ℕ). 1000 * n) (sym (minimum (λ x. x.rrd)))) all.rrd-is)
