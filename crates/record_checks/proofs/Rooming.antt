-- Room for the shares of a Put.
use Rattle.std.proofs.Common.{◌≡◌, ◌+◌, ◌<◌, ◌^◌, Bool, true, false, cond, List, [], ◌∷◌, length, Option, Some, None, refl, sym, ap, ◌∙◌, subst, arith}
use Rattle.std.specs.Prelude.{◌↔◌, nat_lt, count_by, is_some, IsSome, IfSome, if◌then◌else◌}
use Rattle.std.specs.FinMap.{FinMap, get, insert, len, len-insert}
use Rattle.std.proofs.lemmas.List.Sums.{sum_by-cons}
use Rattle.cloud_memory.specs.CdBase.ids.Fp.{Fp}
use Rattle.cloud_memory.specs.CdBase.ids.UserId.{UserId}
use Rattle.cloud_memory.specs.PoolMap.accounts.Accounts.{Accounts}
use Rattle.cloud_memory.specs.PoolMap.accounts.Accounts.TheVariants.{PerUser}
use Rattle.cloud_memory.specs.PoolMap.Accounts.{limit_for, use_for, keys_of}
use Rattle.cloud_memory.specs.JournalStart.rooms.UserRooms.{UserRooms}
use Rattle.cloud_memory.specs.RecordBody.body.PutItem.{PutItem}
use Rattle.cloud_memory.specs.ShareIndex.key.Owner.{Owner}
use Rattle.cloud_memory.specs.CdBase.place.Place.{Place}
use Rattle.cloud_memory.specs.ShareIndex.Order.{owner_of}
use Rattle.cloud_memory.specs.CdBase.Order.{fp_cmp}
use Rattle.cloud_memory.proofs.ShareIndexLaws.Placing.{fp_total}
use Rattle.cloud_memory.proofs.Adding.{keys_more}
use Rattle.cloud_memory.specs.UserDedup.Spending.{SpentByUser, nothing, limits_of}
use Rattle.cloud_memory.specs.CloudAreas.Placing.{end_of}
use Rattle.cloud_memory.specs.declared.cloud.CloudMemory.{CloudMemory}
use Rattle.cloud_memory.specs.Memory.{Memory}
use Rattle.cloud_memory.specs.Records.{HasPlaceRoom, HasItemRoom}
use Rattle.cloud_memory.specs.Rooms.{memory_of, HasRooms}
use Rattle.cloud_memory.specs.Steps.{with_item, with_items, places_with}
use Rattle.record_checks.specs.declared.ground.Ground.{Ground}
use Rattle.record_checks.specs.Checks.{IsRightItem, AreRight}
use Rattle.record_checks.specs.Steps.{has_place, HasRoomForItems}
use Rattle.record_checks.proofs.Faults.{none_there}

pub one_placed : (places : FinMap fp_cmp Place) (fp : Fp) (p : Place) → get places fp.0 ≡ None → len (insert places fp.0 p) ≡ len places + 1
one_placed places fp p none = len-insert fp_total places fp.0 p ∙ ap (λ (o : Option Place). cond (is_some o) (len places) (len places + 1)) none

-- one item more
pub counted : (item : PutItem) (items : List PutItem) → count_by has_place (item ∷ items) ≡ cond (is_some item.place) 1 0 + count_by has_place items
counted item items = sum_by-cons (λ (x : PutItem). cond (has_place x) 1 0) item items

-- a share that passes its checks has one place more where its record gives it one
pub places_more : (places : FinMap fp_cmp Place) (fp : Fp) (o : Option Place) → IsSome o ↔ (get places fp.0 ≡ None) → len (places_with places fp o) ≡ len places + cond (is_some o) 1 0
places_more places fp None flagged = omega arith
places_more places fp (Some p) flagged = one_placed places fp p (flagged.0 refl)

-- the user's limit, by the index
pub limit_is : (rooms : UserRooms) (user : UserId) → (limits_of rooms user).owners ≡ limit_for (PerUser rooms.users rooms.owners) user.0
limit_is rooms user = by_test (nat_lt user.0 rooms.users)
  where
    allowed : SpentByUser
    allowed = record { owners = rooms.owners; shares = rooms.shares; recipes = rooms.recipes }

    by_test : (b : Bool) → (if◌then◌else◌ {A = SpentByUser} b allowed nothing).owners ≡ (if b then rooms.owners else 0)
    by_test true = refl
    by_test false = refl

module _ (g : Ground) (inside : Bool) (user : UserId) where
  pub own_after : (m : Memory) (items : List PutItem) → AreRight g inside user m items
      → keys_of (λ (k : Owner). k.user) (with_items user m items).owners user.0 ≡ keys_of (λ (k : Owner). k.user) m.owners user.0 + length items
  own_after m [] right = omega arith
  own_after m (item ∷ items) right =
      let rest = own_after (with_item user m item) items right.1 in
      let one = keys_more m.owners user item.fp.0 (none_there (get m.owners (owner_of user.0 item.fp.0)) right.0.new) in
      omega (arith, rest, one)

  pub placed_after : (m : Memory) (items : List PutItem) → AreRight g inside user m items → len (with_items user m items).places ≡ len m.places + count_by has_place items
  placed_after m [] right = omega arith
  placed_after m (item ∷ items) right =
      let rest = placed_after (with_item user m item) items right.1 in
      let one = places_more m.places item.fp item.place right.0.flagged in
      let count = counted item items in
      omega (arith, rest, one, count)

  pub item_room : (cloud : CloudMemory) (item : PutItem) (items : List PutItem) → HasRoomForItems g.rooms cloud user (item ∷ items) → IsRightItem g inside (memory_of cloud) user item
      → IfSome item.place (λ (p : Place). end_of p < 2 ^ 64) → HasItemRoom cloud user item
  item_room cloud item items room right small = record {
    new = none_there (get cloud.shares.owners (owner_of user.0 item.fp.0)) right.new;
    owners =
        subst (λ (a : Accounts). use_for (λ (k : Owner). k.user) a cloud.shares.owners user.0 < limit_for a user.0) (sym room.rooms_are.owners)
        (let more = room.owners in let limit = limit_is g.rooms user in omega (arith, more, limit));
    place = by_place item.place refl small;
  }
    where
      by_place : (o : Option Place) → o ≡ item.place → IfSome o (λ (p : Place). end_of p < 2 ^ 64) → IfSome o (HasPlaceRoom cloud item.fp)
      by_place None is few = tt
      by_place (Some p) is few = record {
        new = right.flagged.0 (ap is_some (sym is));
        fps =
            let more = room.fps in
            let here : count_by has_place (item ∷ items) ≡ 1 + count_by has_place items = counted item items ∙ ap (λ (b : Bool). cond b 1 0 + count_by has_place items) (ap is_some (sym is)) in
            let fps = room.rooms_are.fps in
            omega (arith, more, here, fps);
        end = few;
      }

  pub room_after : (cloud next : CloudMemory) (item : PutItem) (items : List PutItem) → HasRoomForItems g.rooms cloud user (item ∷ items) → IsRightItem g inside (memory_of cloud) user item
      → memory_of next ≡ with_item user (memory_of cloud) item → HasRooms g.rooms next → HasRoomForItems g.rooms next user items
  room_after cloud next item items room right taken rooms = record {
    rooms_are = rooms;
    owners =
        let more = room.owners in
        let one = ap (λ (m : Memory). keys_of (λ (k : Owner). k.user) m.owners user.0) taken ∙ keys_more cloud.shares.owners user item.fp.0 (none_there (get cloud.shares.owners (owner_of user.0 item.fp.0)) right.new) in
        omega (arith, more, one);
    fps =
        let more = room.fps in
        let one = ap (λ (m : Memory). len m.places) taken ∙ places_more cloud.shares.places item.fp item.place right.flagged in
        let count = counted item items in
        omega (arith, more, one, count);
  }
