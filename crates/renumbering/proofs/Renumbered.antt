-- "the devices of a case and of its plan are rearranged alike": every list of devices in the new order, all else as it was.
use Rattle.std.specs.Prelude.{◌≡◌, refl, List, [], ◌∷◌, map, ℕ, zero, suc, ◌<◌, length}
use Rattle.std.proofs.Common.{sym, ◌∙◌, arith}
use Rattle.std.proofs.Math.Path.{ap}
use Rattle.std.proofs.Math.ListN.{get_or}
use Rattle.numbers.specs.Rows.{rows, rows_long, rows_at}
use Rattle.model.specs.Case.{Case, Plan, Setting, no_device, no_device_prices, no_setting}
use Rattle.model.specs.Forced.{devices, zones, device, setting}
use Rattle.model.specs.Completion.{device_prices}
use Rattle.renumbering.specs.Permute.{Renumbering}
use Rattle.renumbering.specs.Renumbered.{Moved, rearranged, rearranged_case, rearranged_plan, undoing}

module _ {A : Type 0} {n : ℕ} (r : Renumbering n) (d : A) where
  pub rearranged-long : (l : List A) → length (rearranged r d l) ≡ n
  unfolding rearranged
  rearranged-long l = rows_long (λ j. get_or l (r.back j) d) n

  pub rearranged-at : (l : List A) (i : ℕ) → i < n → get_or (rearranged r d l) (r.to i) d ≡ get_or l i d
  unfolding rearranged
  rearranged-at l i h = rows_at (λ j. get_or l (r.back j) d) d n (r.to i) (r.to_below i h) ∙ ap (λ (k : ℕ). get_or l k d) (r.there i h)

setting-moved : {n : ℕ} (r : Renumbering n) (rows : List (List Setting)) (t i : ℕ) → i < n
    → get_or (get_or (map (rearranged r no_setting) rows) t []) (r.to i) no_setting ≡ get_or (get_or rows t []) i no_setting
setting-moved r [] t i h = refl
setting-moved r (row ∷ rows) zero i h = rearranged-at r no_setting row i h
setting-moved r (row ∷ rows) (suc t) i h = setting-moved r rows t i h

pub rearranged-moved : (c : Case) (p : Plan) (r : Renumbering (devices c.system)) → Moved c p r (rearranged_case r c) (rearranged_plan r p)
unfolding rearranged_case rearranged_plan
rearranged-moved c p r = record {
  halves = refl;
  link_limit = refl;
  zones = refl;
  count = rearranged-long r no_device c.system.devices;
  device = rearranged-at r no_device c.system.devices;
  mismatch = refl;
  overrun = refl;
  zone_prices = refl;
  device_prices = rearranged-at r no_device_prices c.prices.devices;
  setting = setting-moved r p.settings;
  flows = refl;
}

-- ---- the other way round
module _ (c : Case) (p : Plan) (r : Renumbering (devices c.system)) (c' : Case) (p' : Plan) (m : Moved c p r c' p') where
  pub moved_back : Moved c' p' (undoing c p r c' p' m) c p
  moved_back = record {
    halves = sym m.halves;
    link_limit = sym m.link_limit;
    zones = sym m.zones;
    count = sym m.count;
    device = λ j h. let l : j < devices c.system = omega (arith, m.count) in sym (m.device (r.back j) (r.back_below j l)) ∙ ap (device c'.system) (r.again j l);
    mismatch = sym m.mismatch;
    overrun = sym m.overrun;
    zone_prices = sym m.zone_prices;
    device_prices = λ j h. let l : j < devices c.system = omega (arith, m.count) in sym (m.device_prices (r.back j) (r.back_below j l)) ∙ ap (device_prices c') (r.again j l);
    setting = λ t j h. let l : j < devices c.system = omega (arith, m.count) in sym (m.setting t (r.back j) (r.back_below j l)) ∙ ap (setting c'.system p' t) (r.again j l);
    flows = sym m.flows;
  }
