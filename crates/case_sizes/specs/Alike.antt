-- A case that states no more than a small case's counts is read alike by a reader that takes no more and by one that does.
use Rattle.std.specs.Prelude.{◌≡◌, Bool, true, false, List, ℕ, ◌+◌, ◌*◌, ◌≤◌, ◌<◌, min, leb}
use Rattle.std.proofs.Math.Path.{refl}
use Rattle.std.proofs.Common.{sym, ap, subst, ◌∙◌, arith, leb-true, leb-false, le-leb}
use Rattle.std.proofs.lemmas.Bool.{lt-leb}
use Rattle.bits.specs.Bits.{read_field, field_at, reach}
use Rattle.bits.specs.Pick.{pick}
use Rattle.bits.specs.declared.Cursor.{Cursor}
use Rattle.bits.specs.declared.Field.{Field as Raw}
use Rattle.bits.specs.declared.Field.TheVariants.{Value, Cut}
use Rattle.layouts.specs.declared.Fault.{Fault}
use Rattle.layouts.specs.declared.Place.{Place}
use Rattle.layouts.specs.Layout.{Field, nat, held, ◌then◌, raw, advanced, begin, Whole, fails, read_whole}
use Rattle.model.specs.Editions.{newest, batch, host, device_bits, interval_bits, device_limit, interval_limit, devices_in, intervals_in}
use Rattle.model.specs.ByEdition.{Stated, case_layout, content_by, counts_by, stated_in}
use Rattle.case_sizes.specs.declared.Size.{Size}
use Rattle.case_sizes.specs.declared.Size.TheVariants.{Unstated, Small, ManyDevices, ManyIntervals}
use Rattle.case_sizes.specs.Sizes.{by_intervals, by_devices, by_size, by_edition, size_of, few, Sized}

-- a value that is at most `most`, against a limit up to which a reader of `most`, and one of `more`, takes it
leb-alike : (v most more limit : ℕ) → v ≤ most → most ≤ more → leb v (min most limit) ≡ leb v (min more limit)
leb-alike v most more limit h m = go (leb v limit) refl
  where
    go : (b : Bool) → leb v limit ≡ b → leb v (min most limit) ≡ leb v (min more limit)
    go true e = let k : v ≤ limit = leb-true v limit e in le-leb v (min most limit) (omega arith) ∙ sym (le-leb v (min more limit) (omega arith))
    go false e = let k : limit < v = leb-false v limit e in lt-leb v (min most limit) (omega arith) ∙ sym (lt-leb v (min more limit) (omega arith))

-- a field that is read against two greatest values, of which both or neither allow the value it has
module _ {A : Type 0} (width low high higher : ℕ) (wrong : ℕ → Fault) (s : List ℕ) (p : Place) (next next' : ℕ → Place → Whole A)
    (bounds : (v : ℕ) (d : Cursor) → read_field s p.at width ≡ Value v d → leb v high ≡ leb v higher)
    (on : (v : ℕ) (d : Cursor) → read_field s p.at width ≡ Value v d → leb low v ≡ true → leb v high ≡ true → next v (advanced p d.at) ≡ next' v (advanced p d.at)) where
  abbrev field_to : ℕ → Field
  field_to most = record { width = width; low = low; high = most; wrong = wrong }

  abbrev tested : ℕ → (ℕ → Place → Whole A) → ℕ → Place → Whole A
  tested most n v after = pick (leb low v) (pick (leb v most) (n v after) (fails (wrong p.at))) (fails (wrong p.at))

  value-alike : (v : ℕ) (d : Cursor) → read_field s p.at width ≡ Value v d → tested high next v (advanced p d.at) ≡ tested higher next' v (advanced p d.at)
  value-alike v d e = go (leb low v) (leb v high) refl refl
    where
      go : (a b : Bool) → leb low v ≡ a → leb v high ≡ b → tested high next v (advanced p d.at) ≡ tested higher next' v (advanced p d.at)
      go true true f g = let h : leb v higher ≡ true = sym (bounds v d e) ∙ g in rw (f, g, h) (on v d e f g)
      go true false f g = let h : leb v higher ≡ false = sym (bounds v d e) ∙ g in rw (f, g, h) refl
      go false b f g = rw f refl

  pub nat-alike : (nat (field_to high)).read s p fails next ≡ (nat (field_to higher)).read s p fails next'
  unfolding nat
  nat-alike = go (read_field s p.at width) refl
    where
      go : (r : Raw) → read_field s p.at width ≡ r → raw r p fails (tested high next) ≡ raw r p fails (tested higher next')
      go (Value v d) e = value-alike v d e
      go (Cut at) e = refl

-- a field's end
value-at : (s : List ℕ) (at w v : ℕ) (d : Cursor) → read_field s at w ≡ Value v d → d.at ≡ at + w
unfolding read_field
value-at s at w v d = go (leb (at + w) (8 * reach s))
  where
    go : (b : Bool) → pick b (Value (field_at s at w) (record { at = at + w })) (Cut at) ≡ Value v d → d.at ≡ at + w
    go true e = let h : record { at = at + w } ≡ d = cc in ap (λ (x : Cursor). x.at) (sym h)
    go false e = absurd (let n : ◌≡◌ {A = ℕ} 0 1 = cc in omega (arith, n))

-- what is small is so at each count that is read
devices-few : (s : List ℕ) (e n : ℕ) (d : Cursor) → few (by_devices s e (Value n d)) ≡ true → (n ≤ batch.devices) × (few (by_intervals (read_field s d.at (interval_bits e))) ≡ true)
devices-few s e n d h = go (leb n batch.devices) refl h
  where
    go : (b : Bool) → leb n batch.devices ≡ b → few (pick b (by_intervals (read_field s d.at (interval_bits e))) ManyDevices) ≡ true
        → (n ≤ batch.devices) × (few (by_intervals (read_field s d.at (interval_bits e))) ≡ true)
    go true f k = (leb-true n batch.devices f, k)
    go false f k = absurd (let z : ◌≡◌ {A = ℕ} 0 1 = cc in omega (arith, z))

intervals-few : (m : ℕ) (d : Cursor) → few (by_intervals (Value m d)) ≡ true → m ≤ batch.intervals
intervals-few m d h = go (leb m batch.intervals) refl h
  where
    go : (b : Bool) → leb m batch.intervals ≡ b → few (pick b Small ManyIntervals) ≡ true → m ≤ batch.intervals
    go true f k = leb-true m batch.intervals f
    go false f k = absurd (let z : ◌≡◌ {A = ℕ} 0 1 = cc in omega (arith, z))

edition-few : (s : List ℕ) (e : ℕ) (d : Cursor) → leb e newest ≡ true → few (by_edition s (Value e d)) ≡ true → few (by_size s e d.at) ≡ true
edition-few s e d h k = rw h at k

pub stated_alike : (s : List ℕ) → few (size_of s) ≡ true → stated_in batch s ≡ stated_in host s
unfolding stated_in read_whole case_layout content_by counts_by held ◌then◌
stated_alike s small =
    nat-alike 4 1 1 1 _ s begin _ _ (λ v d r. refl) (λ k d r low high.
    let there : d.at ≡ 4 = value-at s 0 4 k d r in
    nat-alike 4 1 newest newest _ s (advanced begin d.at) _ _ (λ v d r. refl) (λ e d r low high.
    let by : few (by_size s e d.at) ≡ true = edition-few s e d high (subst (λ (x : Raw). few (by_edition s x) ≡ true) (subst (λ (n : ℕ). read_field s n 4 ≡ Value e d) there r) small) in
    nat-alike (device_bits e) 1 (devices_in e batch) (devices_in e host) _ s (advanced begin d.at) _ _
    (λ n d r. leb-alike n batch.devices host.devices (device_limit e) (devices-few s e n d (subst (λ (x : Raw). few (by_devices s e x) ≡ true) r by)).0 (omega arith)) (λ n d r low high.
    let behind : few (by_intervals (read_field s d.at (interval_bits e))) ≡ true = (devices-few s e n d (subst (λ (x : Raw). few (by_devices s e x) ≡ true) r by)).1 in
    nat-alike (interval_bits e) 1 (intervals_in e batch) (intervals_in e host) _ s (advanced begin d.at) _ _
    (λ m d r. leb-alike m batch.intervals host.intervals (interval_limit e) (intervals-few m d (subst (λ (x : Raw). few (by_intervals x) ≡ true) r behind)) (omega arith))
    (λ m d r low high. refl))))

-- a message's size, with what it says of its reading
pub sized : (s : List ℕ) {r : Size} → r ≡ size_of s → Sized s r
sized s e = record { is = e; alike = λ h. stated_alike s (sym (ap few e) ∙ h) }
