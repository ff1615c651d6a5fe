-- A zone's sums over its members in one interval.
use Rattle.std.specs.Prelude.{◌≡◌, refl, not, List, [], ℕ, zero, suc, ◌+◌, ◌*◌, ◌≤◌, ◌<◌, max, eqb, get_or, length}
use Rattle.std.proofs.Common.{◌∙◌, add-one}
use native.Mathlib.Omega.{arith}
use Rattle.numbers.specs.Sum.{gate}
use Rattle.bits.specs.Pick.{pick}
use Rattle.ranges.specs.Ranges.{Eight}
use Rattle.kilowatts.specs.declared.Kw.{Kw}
use Rattle.kilowatts.specs.Power.{kw}
use Rattle.row_places.specs.declared.Front.{Front}
use Rattle.row_places.specs.declared.Reserves.{Reserves}
use Rattle.row_places.specs.Figures.{side_at, zonebits_at, in_zone, setting_of}
use Rattle.records.specs.Views.{most_power, eight_in, Ready}
use Rattle.zone_totals.specs.declared.ZoneSums.{ZoneSums}
use Rattle.mismatches.specs.Sides.{Powered, powered}

-- the sums of n devices: powers of at most most_power, reserves of at most 100,000
pub record SumsOf (n : ℕ) (s : ZoneSums) : Type 0 where
  pub load : s.load.0 ≤ n * most_power
  pub unit : s.unit.0 ≤ most_power
  pub rgu : s.rgu.0 ≤ n * 100000
  pub rgd : s.rgd.0 ≤ n * 100000
  pub scr : s.scr.0 ≤ n * 100000
  pub nsc : s.nsc.0 ≤ n * 100000
  pub rru : s.rru.0 ≤ n * 200000
  pub rrd : s.rrd.0 ≤ n * 200000

abbrev pub sums_by : (load unit rgu rgd scr nsc rru rrd : Kw) → ZoneSums
sums_by load unit rgu rgd scr nsc rru rrd = record { load = load; unit = unit; rgu = rgu; rgd = rgd; scr = scr; nsc = nsc; rru = rru; rrd = rrd }

abbrev pub no_sums : ZoneSums
no_sums = sums_by (kw 0) (kw 0) (kw 0) (kw 0) (kw 0) (kw 0) (kw 0) (kw 0)

-- one member more
abbrev pub with_member : ZoneSums → (side p : ℕ) → Reserves → ZoneSums
with_member s side p r = sums_by
    (kw (s.load.0 + gate (eqb side 1) p))
    (kw (max s.unit.0 (gate (not (eqb side 1)) p)))
    (kw (s.rgu.0 + r.rgu.0))
    (kw (s.rgd.0 + r.rgd.0))
    (kw (s.scr.0 + r.scr.0))
    (kw (s.nsc.0 + r.nsc.0))
    (kw (s.rru.0 + (r.rruon.0 + r.rruoff.0)))
    (kw (s.rrd.0 + (r.rrdon.0 + r.rrdoff.0)))

-- a device's setting and power stand at place k
pub record Stood (settings : List (List ℕ)) (powers : List ℕ) (k : ℕ) : Type 0 where
  pub in-settings : k < length settings
  pub in-powers : k < length powers
  pub power_small : get_or powers k 0 ≤ most_power
  pub held_small : Eight (λ x. x ≤ 100000) (eight_in (setting_of (get_or settings k [])).reserves)

-- one device more; its setting and its power stand at place k
abbrev pub with_device : ZoneSums → List (List ℕ) → List (List ℕ) → List ℕ → (i k z : ℕ) → ZoneSums
with_device s devices settings powers i k z = pick (in_zone (zonebits_at devices i) z) (with_member s (side_at devices i) (get_or powers k 0) (setting_of (get_or settings k [])).reserves) s

pub record DeviceAdded (s : ZoneSums) (devices settings : List (List ℕ)) (powers : List ℕ) (i k z : ℕ) (r : ZoneSums) : Type 0 where
  pub is : r ≡ with_device s devices settings powers i k z
  pub small : (n : ℕ) → SumsOf n s → SumsOf (n + 1) r

-- interval t of m, and the settings and powers of n devices in m intervals
pub record Zoned (n m t : ℕ) (settings : List (List ℕ)) (powers : List ℕ) : Type 0 where
  pub power : Powered n m t powers
  pub settled : length settings ≡ length powers
  pub held : (k : ℕ) → k < length settings → Eight (λ x. x ≤ 100000) (eight_in (setting_of (get_or settings k [])).reserves)

pub zoned : {front : Front} {halves : List ℕ} {zones minima devices cells settings : List (List ℕ)} {starts powers : List ℕ}
    → Ready front halves zones minima devices cells settings starts powers → (t : ℕ) → t < length halves → Zoned (length devices) (length halves) t settings powers
zoned r t h = record {
  power = powered r t h;
  settled = r.plan-rows.full ∙ omega (arith, r.forced-rows.powers-full);
  held = λ k l. (r.plan-rows.range k l).reserves;
}

-- the first n devices
unfoldable pub sums_to : List (List ℕ) → List (List ℕ) → List ℕ → (m t z n : ℕ) → ZoneSums
sums_to devices settings powers m t z zero = no_sums
sums_to devices settings powers m t z (suc i) = with_device (sums_to devices settings powers m t z i) devices settings powers i (i * m + t) z

-- what the loop over the devices has
pub record SumsSo (devices settings : List (List ℕ)) (powers : List ℕ) (m t z i : ℕ) (s : ZoneSums) : Type 0 where
  pub is : s ≡ sums_to devices settings powers m t z i
  pub small : SumsOf i s

module _ (devices settings : List (List ℕ)) (powers : List ℕ) (m t z : ℕ) where
  pub sums-start : SumsSo devices settings powers m t z 0 no_sums
  unfolding sums_to
  sums-start = record {
    is = refl;
    small = record { load = omega arith; unit = omega arith; rgu = omega arith; rgd = omega arith; scr = omega arith; nsc = omega arith; rru = omega arith; rrd = omega arith };
  }

  pub sums_next : (i : ℕ) {s r : ZoneSums} {k : ℕ} → SumsSo devices settings powers m t z i s → k ≡ i * m + t → DeviceAdded s devices settings powers i k z r
      → SumsSo devices settings powers m t z (i + 1) r
  unfolding sums_to
  sums_next i h e a = record { is = a.is ∙ rw (add-one i, h.is, e) refl; small = a.small i h.small }
