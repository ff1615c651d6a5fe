-- The offers of the named sets, from the rows.
use Rattle.std.specs.Prelude.{◌≡◌, refl, ℕ, zero, suc, ◌+◌, ◌-◌, ◌*◌, ◌≤◌, ◌<◌, ℤ, pos, length, get_or, set, take}
use Rattle.std.proofs.Common.{sym, ◌∙◌, subst, arith, mul-le-mul, add-one, length-take, length-append, take-suc, take-suc-set, take-take, length-take-le}
use Rattle.std.proofs.Math.Path.{ap}
use mathlib.Core.List.{List, [], ◌∷◌, ◌++◌, map, map-append, append_assoc}
use Rattle.std.proofs.lemmas.List.{length-map, take-append-le}
use Rattle.std.proofs.Math.ListN.{get_or-eq_default}
use Rattle.numbers.specs.Base.{range, up_to, gather}
use Rattle.numbers.specs.Ranges.{up_to-last}
use Rattle.numbers.specs.Gather.{gather_append, gather_cong, maps-long}
use Rattle.numbers.specs.Parts.{part, part_at, place_inside}
use Rattle.numbers.specs.Sum.{All, all_map}
use Rattle.numbers.specs.Every.{all-at}
use Rattle.model.specs.Case as M
use Rattle.model.specs.Case.{Case}
use Rattle.model.specs.Forced as F
use Rattle.model.specs.Completion.{block_price}
use Rattle.kilowatts.specs.declared.Kw.{Kw}
use Rattle.row_places.specs.declared.Cell.{Cell}
use Rattle.row_places.specs.declared.Front.{Front}
use Rattle.row_places.specs.Figures.{cell_of}
use Rattle.records.specs.Views.{CaseRows, case_in, less, price_offset, number_of, cell_in, four_blocks}
use Rattle.records.specs.Viewed as W
use Rattle.records.specs.Ranged as R
use Rattle.offers.specs.declared.Offer.{Offer}
use Rattle.offers.specs.Merit.{no-offer}
use Rattle.dispatching.specs.Dispatch.{offer_of, offers_of_set, offers_of}

-- block b of a cell as an offer of set s
abbrev pub block_offer : Cell → ℕ → ℕ → Offer
block_offer c s b = record { set = s; block = b + 1; cap = number_of c.caps b; floor = number_of c.floors b; price = less price_offset (get_or c.prices b 0) }

unfoldable pub first_offers : Cell → ℕ → ℕ → List Offer
first_offers c s n = map (block_offer c s) (up_to n)

-- a set's cell
abbrev pub cell_for : ℕ → List (List ℕ) → ℕ → ℕ → Cell
cell_for m cells t s = cell_of (get_or cells ((s - 1) * m + t) [])

unfoldable pub set_offers : ℕ → List (List ℕ) → ℕ → ℕ → List Offer
set_offers m cells t s = first_offers (cell_for m cells t s) s (cell_for m cells t s).blocks

-- ---- offer by offer

append-none : (x : List Offer) → x ++ [] ≡ x
append-none [] = refl
append-none (y ∷ x) = ap (λ (z : List Offer). y ∷ z) (append-none x)

pub no-first : (c : Cell) (s : ℕ) (before : List Offer) → before ≡ before ++ first_offers c s 0
unfolding first_offers range
no-first c s before = sym (append-none before)

first_next : (c : Cell) (s b : ℕ) → first_offers c s (b + 1) ≡ first_offers c s b ++ block_offer c s b ∷ []
unfolding first_offers
first_next c s b = ap (λ (n : ℕ). map (block_offer c s) (up_to n)) (add-one b) ∙ ap (map (block_offer c s)) (up_to-last b) ∙ map-append (block_offer c s) (up_to b) (b ∷ [])

-- one offer more stands in the array
pub put_next : (c : Cell) (s b n : ℕ) (all before : List Offer) (o : Offer) → n < length all → o ≡ block_offer c s b → take n all ≡ before ++ first_offers c s b
    → take (n + 1) (set all n o) ≡ before ++ first_offers c s (b + 1)
put_next c s b n all before o h e f =
    ap (λ (m : ℕ). take m (set all n o)) (add-one n) ∙ take-suc-set all n o h ∙ (λ j. f j ++ e j ∷ []) ∙ append_assoc before (first_offers c s b) (block_offer c s b ∷ [])
    ∙ ap (λ (l : List Offer). before ++ l) (sym (first_next c s b))

-- one set more is done
pub set_next : (f : ℕ → List Offer) (sets : List ℕ) (k : ℕ) (l before : List Offer) → k < length sets → before ≡ gather f (take k sets) → l ≡ before ++ f (get_or sets k 0)
    → l ≡ gather f (take (k + 1) sets)
unfolding gather
set_next f sets k l before h e g =
    g ∙ ap (λ (x : List Offer). x ++ f (get_or sets k 0)) e ∙ ap (λ (x : List Offer). gather f (take k sets) ++ x) (sym (append-none (f (get_or sets k 0))))
    ∙ sym (gather_append f (take k sets) (get_or sets k 0 ∷ [])) ∙ ap (gather f) (sym (take-suc sets k 0 h) ∙ ap (λ (m : ℕ). take m sets) (sym (add-one k)))

-- ---- the rows' offers are the case's

map_same : (f g : ℕ → Offer) (n : ℕ) → ((b : ℕ) → b < n → f b ≡ g b) → map f (up_to n) ≡ map g (up_to n)
unfolding range
map_same f g zero h = refl
map_same f g (suc n) h =
    ap (map f) (up_to-last n) ∙ map-append f (up_to n) (n ∷ []) ∙ (λ j. map_same f g n (λ b l. h b (omega arith)) j ++ h n (omega arith) j ∷ [])
    ∙ sym (map-append g (up_to n) (n ∷ [])) ∙ ap (map g) (sym (up_to-last n))

module _ {front : Front} {halves : List ℕ} {zones minima devices cells : List (List ℕ)} (known : CaseRows front halves zones minima devices cells) (t : ℕ) (h : t < length halves) where
  abbrev k : Case
  k = case_in front halves zones minima devices cells

  module _ (s : ℕ) (from : 1 ≤ s) (to : s ≤ length devices) where
    abbrev i : ℕ
    i = s - 1

    pub in-devices : i < length devices
    in-devices = omega arith

    abbrev row : List ℕ
    row = get_or (part (length halves) i cells) t []

    same : row ≡ get_or cells (i * length halves + t) []
    same = part_at [] (length halves) i cells t h

    few : (cell_of row).blocks ≤ 4
    few = (R.padded-at known i in-devices t h).few

    pub few-blocks : (cell_for (length halves) cells t s).blocks ≤ 4
    few-blocks = subst (λ (r : List ℕ). (cell_of r).blocks ≤ 4) same few

    price-is : (b : ℕ) → b < (cell_of row).blocks → less price_offset (get_or (cell_of row).prices b 0) ≡ block_price k t i b
    price-is b y = sym (
        ap (λ (c : M.CellPrices). get_or c.blocks b (pos 0)) (W.cell-prices-are front halves zones minima devices cells i in-devices t)
        ∙ W.get_d_any (map (less price_offset) (take (cell_of row).blocks (cell_of row).prices)) b (pos 0) (less price_offset 0)
        (omega (arith, W.firsts-long (less price_offset) 0 (cell_of row).blocks (cell_of row).prices few))
        ∙ W.first-at (less price_offset) 0 (cell_of row).blocks (cell_of row).prices b y
        )

    offer-is : (b : ℕ) → b < (cell_of row).blocks → block_offer (cell_of row) s b ≡ offer_of k t i b
    offer-is b y = together up (add-one b) (R.cap-at known i in-devices t h b (omega (arith, few))) (R.floor-at known i in-devices t h b (omega (arith, few))) (price-is b y)
      where
        up : s ≡ suc (s - 1)
        up = omega arith

        together : {s' n' c' f' : ℕ} {p' : ℤ} → s ≡ s' → b + 1 ≡ n' → number_of (cell_of row).caps b ≡ c' → number_of (cell_of row).floors b ≡ f' → less price_offset (get_or (cell_of row).prices b 0) ≡ p'
            → ◌≡◌ {A = Offer} (block_offer (cell_of row) s b) (record { set = s'; block = n'; cap = c'; floor = f'; price = p' })
        together e n c f p = λ j. record { set = e j; block = n j; cap = c j; floor = f j; price = p j }

    count-is : (cell_of row).blocks ≡ length (F.cell k.system t i).blocks
    count-is = sym (ap (λ (c : M.Cell). length c.blocks) (R.cell-here known i in-devices t h) ∙ length-take-le (cell_of row).blocks (four_blocks (cell_of row)) few)

    pub set_is : set_offers (length halves) cells t s ≡ offers_of_set k t (s - 1)
    unfolding set_offers first_offers offers_of_set
    set_is =
        ap (λ (r : List ℕ). map (block_offer (cell_of r) s) (up_to (cell_of r).blocks)) (sym same)
        ∙ map_same (block_offer (cell_of row) s) (offer_of k t i) (cell_of row).blocks offer-is ∙ ap (λ (n : ℕ). map (offer_of k t i) (up_to n)) count-is

  pub offers-are : (sets : List ℕ) → All (λ s. (1 ≤ s) × (s ≤ length devices)) sets → gather (set_offers (length halves) cells t) sets ≡ offers_of k t sets
  unfolding offers_of
  offers-are sets a = gather_cong (set_offers (length halves) cells t) (λ s. offers_of_set k t (s - 1)) sets (all_map (λ s b. set_is s b.0 b.1) sets a)
