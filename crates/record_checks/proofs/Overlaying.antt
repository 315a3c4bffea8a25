-- What a memory has once the first shares of a record are taken.
use Rattle.std.proofs.Common.{◌≡◌, ℕ, zero, suc, ◌+◌, Bool, true, false, cond, List, [], ◌∷◌, ◌++◌, take, drop, Option, Some, None, refl, ap, ◌∙◌, eq-eqb, add-one}
use Rattle.std.specs.Prelude.{◌&&◌, ◌||◌, ◌==◌, bytes_eq, is_some}
use Rattle.std.specs.List.{list_any}
use Rattle.std.specs.FinMap.{FinMap, get, insert}
use Rattle.std.proofs.lemmas.Grind.{fold-append}
use Rattle.cloud_memory.specs.CdBase.ids.Fp.{Fp}
use Rattle.cloud_memory.specs.CdBase.ids.UserId.{UserId}
use Rattle.cloud_memory.specs.RecordBody.body.KeptItem.{KeptItem}
use Rattle.cloud_memory.specs.RecordBody.body.PutItem.{PutItem}
use Rattle.cloud_memory.specs.CdBase.place.Place.{Place}
use Rattle.cloud_memory.specs.ShareIndex.Order.{owner_cmp, owner_of}
use Rattle.cloud_memory.specs.CdBase.Order.{fp_cmp}
use Rattle.cloud_memory.specs.Memory.{Memory}
use Rattle.cloud_memory.specs.Steps.{with_item, with_items, with_kept, with_kepts, places_with}
use Rattle.cloud_memory.proofs.Keys.{owner_in, place_in}

-- the first items and the next one
pub cut : {A : Type 0} (xs : List A) (n : ℕ) (x : A) (rest : List A) → drop n xs ≡ x ∷ rest → (take (n + 1) xs ≡ take n xs ++ x ∷ []) × (drop (n + 1) xs ≡ rest)
cut xs n x rest e = rw add-one (go xs n e)
  where
    go : {A : Type 0} {x : A} {rest : List A} (xs : List A) (n : ℕ) → drop n xs ≡ x ∷ rest → (take (suc n) xs ≡ take n xs ++ x ∷ []) × (drop (suc n) xs ≡ rest)
    go [] zero e = absurd cc
    go [] (suc n) e = absurd cc
    go {A} {x} {rest} (y ∷ ys) zero e = let here : y ≡ x = cc in let more : ys ≡ rest = cc in (ap (λ z. z ∷ []) here, more)
    go (y ∷ ys) (suc n) e = let more = go ys n e in (ap (λ l. y ∷ l) more.0, more.1)

some_or : {A : Type 0} (b : Bool) (x : A) (o : Option A) → is_some (cond b (Some x) o) ≡ (b || is_some o)
some_or true x o = refl
some_or false x o = refl

turned : (a b c : Bool) → ((b || a) || c) ≡ (a || (b || c))
turned true true c = refl
turned true false c = refl
turned false true c = refl
turned false false c = refl

-- ---- of a Put

module _ (user : UserId) (fp : Fp) where
  abbrev names : PutItem → Bool
  names item = bytes_eq item.fp.0 fp.0

  one_owned : (owners : FinMap owner_cmp ℕ) (item : PutItem)
      → is_some (get (insert owners (owner_of user.0 item.fp.0) 0) (owner_of user.0 fp.0)) ≡ (names item || is_some (get owners (owner_of user.0 fp.0)))
  one_owned owners item =
      ap is_some (owner_in owners user.0 item.fp.0 0 user.0 fp.0) ∙ some_or ((user.0 == user.0) && names item) 0 (get owners (owner_of user.0 fp.0))
      ∙ ap (λ (b : Bool). (b && names item) || is_some (get owners (owner_of user.0 fp.0))) (eq-eqb user.0 user.0 refl)

  -- the user owns the fingerprint if it did, or if one of the shares has it
  pub owned_in : (m : Memory) (items : List PutItem)
      → is_some (get (with_items user m items).owners (owner_of user.0 fp.0)) ≡ (is_some (get m.owners (owner_of user.0 fp.0)) || list_any names items)
  owned_in m [] = or_none (is_some (get m.owners (owner_of user.0 fp.0)))
    where
      or_none : (b : Bool) → b ≡ (b || false)
      or_none true = refl
      or_none false = refl
  owned_in m (item ∷ items) =
      owned_in (with_item user m item) items ∙ ap (λ (b : Bool). b || list_any names items) (one_owned m.owners item)
      ∙ turned (is_some (get m.owners (owner_of user.0 fp.0))) (names item) (list_any names items)

  one_laid : (places : FinMap fp_cmp Place) (item : PutItem) (o : Option Place) → names item ≡ false → get (places_with places item.fp o) fp.0 ≡ get places fp.0
  one_laid places item None other = refl
  one_laid places item (Some p) other = place_in places item.fp.0 p fp.0 ∙ ap (λ (b : Bool). cond b (Some p) (get places fp.0)) other

  -- a fingerprint that none of the shares has keeps its place, or has none
  pub laid_in : (m : Memory) (items : List PutItem) → list_any names items ≡ false → get (with_items user m items).places fp.0 ≡ get m.places fp.0
  laid_in m [] none = refl
  laid_in m (item ∷ items) none =
      let p = neither (names item) (list_any names items) none in
      laid_in (with_item user m item) items p.1 ∙ one_laid m.places item item.place p.0
    where
      neither : (a b : Bool) → (a || b) ≡ false → (a ≡ false) × (b ≡ false)
      neither true b e = absurd cc
      neither false b e = (refl, e)

-- the next share is taken
pub items_more : (user : UserId) (m : Memory) (items : List PutItem) (n : ℕ) (item : PutItem) (rest : List PutItem) → drop n items ≡ item ∷ rest
    → with_items user m (take (n + 1) items) ≡ with_item user (with_items user m (take n items)) item
items_more user m items n item rest e = ap (with_items user m) (cut items n item rest e).0 ∙ fold-append (with_item user) m (take n items) (item ∷ [])

-- ---- of a Kept

pub kepts_more : (m : Memory) (items : List KeptItem) (n : ℕ) (item : KeptItem) (rest : List KeptItem) → drop n items ≡ item ∷ rest
    → with_kepts m (take (n + 1) items) ≡ with_kept (with_kepts m (take n items)) item
kepts_more m items n item rest e = ap (with_kepts m) (cut items n item rest e).0 ∙ fold-append with_kept m (take n items) (item ∷ [])

pub kept_in : (fp : Fp) (m : Memory) (items : List KeptItem)
    → is_some (get (with_kepts m items).places fp.0) ≡ (is_some (get m.places fp.0) || list_any (λ (item : KeptItem). bytes_eq item.fp.0 fp.0) items)
kept_in fp m [] = or_none (is_some (get m.places fp.0))
  where
    or_none : (b : Bool) → b ≡ (b || false)
    or_none true = refl
    or_none false = refl
kept_in fp m (item ∷ items) =
    kept_in fp (with_kept m item) items
    ∙ ap (λ (b : Bool). b || list_any (λ (item : KeptItem). bytes_eq item.fp.0 fp.0) items)
    (ap is_some (place_in m.places item.fp.0 item.place fp.0) ∙ some_or (bytes_eq item.fp.0 fp.0) item.place (get m.places fp.0))
    ∙ turned (is_some (get m.places fp.0)) (bytes_eq item.fp.0 fp.0) (list_any (λ (item : KeptItem). bytes_eq item.fp.0 fp.0) items)
