-- Room in the tables for what a record has.
use Rattle.std.proofs.Common.{◌≡◌, ℕ, ◌+◌, ◌<◌, ◌≤◌, ◌^◌, Bool, true, false, cond, List, ◌∷◌, length, Option, Some, None, refl, sym, ap, ◌∙◌, subst, arith, ltb-false}
use Rattle.std.specs.Prelude.{nat_lt, count_by, is_some, IfSome}
use Rattle.std.specs.Option.{option_or}
use Rattle.std.specs.FinMap.{FinMap, get, insert, len, len-insert}
use Rattle.message_fields.specs.CdBase.ids.Fp.{Fp}
use Rattle.message_fields.specs.CdBase.ids.UserId.{UserId}
use Rattle.message_fields.specs.CdBase.place.Place.{Place}
use Rattle.message_fields.specs.CdBase.rooms.Room.{Room}
use Rattle.message_fields.specs.CdBase.rooms.Room.TheVariants.{Fps, Owners, Files}
use Rattle.record_checks.specs.FileIndex.key.FileKey.{FileKey}
use Rattle.record_checks.specs.FileIndex.Files.{used_by as files_used}
use Rattle.record_checks.specs.PoolMap.accounts.Accounts.{Accounts}
use Rattle.record_checks.specs.PoolMap.Accounts.{limit_for, use_for}
use Rattle.record_checks.specs.RecordBody.body.KeptItem.{KeptItem}
use Rattle.record_checks.specs.RecordBody.Spelling.{Put, Commit, Kept}
use Rattle.record_checks.specs.RecordBody.body.CommitBody.{CommitBody}
use Rattle.record_checks.specs.RecordBody.body.PutItem.{PutItem}
use Rattle.record_checks.specs.ShareIndex.key.Owner.{Owner}
use Rattle.record_checks.specs.ShareIndex.Order.{owner_cmp, owner_of}
use Rattle.record_checks.proofs.ShareIndex.Owning.{owner_total}
use Rattle.record_checks.specs.CloudMemory.CloudAreas.Placing.{end_of}
use Rattle.record_checks.specs.CloudMemory.cloud.CloudMemory.{CloudMemory}
use Rattle.record_checks.specs.CloudMemory.Greatest.{HasGreatest, KeepsGreatest}
use Rattle.record_checks.specs.CloudMemory.Memory.{Memory}
use Rattle.record_checks.specs.CloudMemory.Records.{HasPlaceRoom, HasItemRoom}
use Rattle.record_checks.specs.CloudMemory.Rooms.{memory_of}
use Rattle.record_checks.specs.CloudMemory.Steps.{with_item, with_kept}
use Rattle.record_checks.specs.declared.ground.Ground.{Ground}
use Rattle.record_checks.specs.Checks.{IsRightItem, IsRightKept}
use Rattle.record_checks.specs.Steps.{has_place}
use Rattle.record_checks.proofs.Faults.{none_there}
use Rattle.record_checks.proofs.Rooming.{one_placed, counted, places_more}
use Rattle.first_records.specs.Limits.{limit_of, HasFirstRooms, if_past, crowded}
use Rattle.first_records.specs.Steps.{HasItemsRoom, HasKeptsRoom}

-- limits that are kept are the same
pub rooms_kept : (old new : CloudMemory) → KeepsGreatest old new → HasFirstRooms old → HasFirstRooms new
rooms_kept old new keeps has =
    let still = keeps (limit_of Fps) (limit_of Owners) (limit_of Files) (length old.spent) has in
    subst (λ (n : ℕ). HasGreatest (limit_of Fps) (limit_of Owners) (limit_of Files) n new) (sym still.users) still

-- a memory that was made with these limits has them
pub first_rooms : (cloud : CloudMemory) (rows : ℕ) → HasGreatest (limit_of Fps) (limit_of Owners) (limit_of Files) rows cloud → HasFirstRooms cloud
first_rooms cloud rows has = subst (λ (n : ℕ). HasGreatest (limit_of Fps) (limit_of Owners) (limit_of Files) n cloud) (sym has.users) has

-- what passes no limit is within it
pub not_past : (room : Room) (used : ℕ) → if_past room used ≡ None → used ≤ limit_of room
not_past room used e = by_test (nat_lt (limit_of room) used) refl e
  where
    by_test : (b : Bool) → nat_lt (limit_of room) used ≡ b → cond {A = Option Room} b (Some room) None ≡ None → used ≤ limit_of room
    by_test true is e = absurd (let no : ◌≡◌ {A = Option Room} (Some room) None = e in cc)
    by_test false is e = ltb-false (limit_of room) used is

neither : (a b : Option Room) → option_or a b ≡ None → (a ≡ None) × (b ≡ None)
neither None b e = (refl, e)
neither (Some x) b e = absurd (let no : ◌≡◌ {A = Option Room} (Some x) None = e in cc)

-- ---- one share more

one_owner : (owners : FinMap owner_cmp ℕ) (user : UserId) (fp : Fp) → get owners (owner_of user.0 fp.0) ≡ None → len (insert owners (owner_of user.0 fp.0) 0) ≡ len owners + 1
one_owner owners user fp none = len-insert owner_total owners (owner_of user.0 fp.0) 0 ∙ ap (λ (o : Option ℕ). cond (is_some o) (len owners) (len owners + 1)) none

-- ---- the shares of a Put

pub items_room : (cloud : CloudMemory) (user : UserId) (items : List PutItem) → HasFirstRooms cloud → crowded (memory_of cloud) (Put user items) ≡ None → HasItemsRoom cloud items
items_room cloud user items rooms none =
    let both = neither (if_past Fps (len cloud.shares.places + count_by has_place items)) (if_past Owners (len cloud.shares.owners + length items)) none in
    record { rooms = rooms; owners = not_past Owners (len cloud.shares.owners + length items) both.1; fps = not_past Fps (len cloud.shares.places + count_by has_place items) both.0 }

module _ (g : Ground) (inside : Bool) (user : UserId) where
  pub item_room : (cloud : CloudMemory) (item : PutItem) (items : List PutItem) → HasItemsRoom cloud (item ∷ items) → IsRightItem g inside (memory_of cloud) user item
      → IfSome item.place (λ (p : Place). end_of p < 2 ^ 64) → HasItemRoom cloud user item
  item_room cloud item items room right small = record {
    new = none_there (get cloud.shares.owners (owner_of user.0 item.fp.0)) right.new;
    owners =
        subst (λ (a : Accounts). use_for (λ (k : Owner). k.user) a cloud.shares.owners user.0 < limit_for a user.0) (sym room.rooms.owners)
        (let more = room.owners in omega (arith, more));
    place = by_place item.place refl small;
  }
    where
      by_place : (o : Option Place) → o ≡ item.place → IfSome o (λ (p : Place). end_of p < 2 ^ 64) → IfSome o (HasPlaceRoom cloud item.fp)
      by_place None is few = tt
      by_place (Some p) is few = record {
        new = right.flagged.0 (ap is_some (sym is));
        fps =
            let more = room.fps in
            let here : count_by has_place (item ∷ items) ≡ 1 + count_by has_place items = counted item items ∙ ap (λ (b : Bool). cond b 1 0 + count_by has_place items) (ap is_some (sym is)) in
            let fps = room.rooms.fps in
            omega (arith, more, here, fps);
        end = few;
      }

  pub item_room_after : (cloud next : CloudMemory) (item : PutItem) (items : List PutItem) → HasItemsRoom cloud (item ∷ items) → IsRightItem g inside (memory_of cloud) user item
      → memory_of next ≡ with_item user (memory_of cloud) item → KeepsGreatest cloud next → HasItemsRoom next items
  item_room_after cloud next item items room right taken keeps = record {
    rooms = rooms_kept cloud next keeps room.rooms;
    owners =
        let more = room.owners in
        let one = ap (λ (m : Memory). len m.owners) taken ∙ one_owner cloud.shares.owners user item.fp (none_there (get cloud.shares.owners (owner_of user.0 item.fp.0)) right.new) in
        omega (arith, more, one);
    fps =
        let more = room.fps in
        let one = ap (λ (m : Memory). len m.places) taken ∙ places_more cloud.shares.places item.fp item.place right.flagged in
        let count = counted item items in
        omega (arith, more, one, count);
  }

-- ---- the shares of a Kept

pub kepts_room : (cloud : CloudMemory) (items : List KeptItem) → HasFirstRooms cloud → crowded (memory_of cloud) (Kept items) ≡ None → HasKeptsRoom cloud items
kepts_room cloud items rooms none = record { rooms = rooms; fps = not_past Fps (len cloud.shares.places + length items) none }

module _ (g : Ground) (inside : Bool) where
  pub kept_room : (cloud : CloudMemory) (item : KeptItem) (items : List KeptItem) → HasKeptsRoom cloud (item ∷ items) → IsRightKept g inside (memory_of cloud) item
      → end_of item.place < 2 ^ 64 → HasPlaceRoom cloud item.fp item.place
  kept_room cloud item items room right small = record {
    new = right.new;
    fps = let more = room.fps in let fps = room.rooms.fps in omega (arith, more, fps);
    end = small;
  }

  pub kept_room_after : (cloud next : CloudMemory) (item : KeptItem) (items : List KeptItem) → HasKeptsRoom cloud (item ∷ items) → IsRightKept g inside (memory_of cloud) item
      → memory_of next ≡ with_kept (memory_of cloud) item → KeepsGreatest cloud next → HasKeptsRoom next items
  kept_room_after cloud next item items room right taken keeps = record {
    rooms = rooms_kept cloud next keeps room.rooms;
    fps =
        let more = room.fps in
        let one = ap (λ (m : Memory). len m.places) taken ∙ one_placed cloud.shares.places item.fp item.place right.new in
        omega (arith, more, one);
  }

-- ---- an entry

-- where there is room for an entry more, the index isn't full
pub has_entry_room : (cloud : CloudMemory) (c : CommitBody) → HasFirstRooms cloud → crowded (memory_of cloud) (Commit c) ≡ None
    → files_used cloud.files c.user.0 ≡ limit_for cloud.files.accounts c.user.0 → ⊥
has_entry_room cloud c rooms none full =
    let used : len cloud.files.files ≡ limit_of Files =
    subst (λ (a : Accounts). use_for (λ (k : FileKey). k.user) a cloud.files.files c.user.0 ≡ limit_for a c.user.0) rooms.files full in
    let room = not_past Files (len cloud.files.files + 1) none in
    omega (arith, used, room)
