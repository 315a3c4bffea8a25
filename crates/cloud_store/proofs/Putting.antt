-- The record of a Put: each of its fields is in its range, and what it places is laid behind the end.
use Rattle.std.proofs.Common.{◌+◌, ◌*◌, ◌^◌, ◌<◌, ◌≤◌, Bool, true, false, cond, List, [], ◌∷◌, length, Option, Some, None, arith}
use Rattle.std.specs.Prelude.{All, is_some}
use Rattle.std.specs.FinMap.{get}
use Rattle.std.proofs.lemmas.List.Elements.{All-nil, All-cons, All-head, All-tail}
use Rattle.std.proofs.lemmas.List.Sums.{count_by-le-length}
use Rattle.recipe.specs.CdBase.ids.UserId.{UserId}
use Rattle.checkpoints.specs.ContainerLog.Places.{container_len, place_of}
use Rattle.checkpoints.specs.RecordBody.body.PutItem.{PutItem}
use Rattle.checkpoints.specs.RecordBody.FirstSpelling.{FitsItem, FitsPlaced}
use Rattle.checkpoints.proofs.RecordBody.FirstSpelled.{has_place, length-put}
use Rattle.checkpoints.specs.RecordBody.Spelling.{Put, FitsBody, body_bytes}
use Rattle.recipe.specs.CdBase.place.Place.{Place}
use Rattle.checkpoints.specs.CloudAreas.Laid.{AreSmall, IsLaidBehind}
use Rattle.checkpoints.specs.CloudAreas.Placing.{places_given, places_of}
use Rattle.checkpoints.specs.CloudMemory.rooms.New.{New}
use Rattle.checkpoints.specs.CloudMemory.Memory.{Memory}
use Rattle.checkpoints.specs.CloudMemory.Steps.{part_in, parts_of, with_item, end_with}
use Rattle.checkpoints.specs.Laying.{longest_record}
use Rattle.checkpoints.proofs.MemoryProofs.Adding.{parts_count}
use Rattle.checkpoints.proofs.MemoryProofs.Recording.{parts_laid}
use Rattle.checkpoints.proofs.MemoryProofs.EndsLaw.{place_near}
use Rattle.cloud_store.specs.Adding.{IsShareNew, HasFp}

-- the end behind a share
part_near : (m : Memory) (n : New) → end_with m.shares_end (part_in m n).place ≤ m.shares_end + 2 * n.len
part_near m n = by_test (is_some (get m.places n.fp.0))
  where
    by_test : (b : Bool) → end_with m.shares_end (cond b None (Some (record { at = place_of m.shares_end n.len; len = n.len }))) ≤ m.shares_end + 2 * n.len
    by_test true = omega arith
    by_test false = let near = place_near m.shares_end n.len in omega (arith, near)

part_fits : (m : Memory) (n : New) → IsShareNew n → m.shares_end + 16416 < 2 ^ 64 → FitsPlaced (part_in m n).place
part_fits m n len end = by_test (is_some (get m.places n.fp.0))
  where
    by_test : (b : Bool) → FitsPlaced (cond b None (Some (record { at = place_of m.shares_end n.len; len = n.len })))
    by_test true = tt
    by_test false = let near = place_near m.shares_end n.len in (omega (arith, near, len.1, end), len)

all_fit : (user : UserId) (m : Memory) (news : List New) → All HasFp news → All IsShareNew news → m.shares_end + 16416 * length news < 2 ^ 64 → All FitsItem (parts_of user m news)
all_fit user m [] fps lens end = All-nil FitsItem
all_fit user m (n ∷ news) fps lens end =
    let item = part_in m n in
    let next = with_item user m item in
    let len = All-head IsShareNew n news lens in
    let near = part_near m n in
    All-cons FitsItem item (parts_of user next news) (All-head HasFp n news fps, part_fits m n len (omega (arith, end)))
    (all_fit user next news (All-tail HasFp n news fps) (All-tail IsShareNew n news lens) (omega (arith, end, near, len.1)))

pub put_fits : (user : UserId) (m : Memory) (news : List New) → user.0 < 2 ^ 32 → 1 ≤ length news → length news ≤ 256 → All HasFp news → All IsShareNew news → m.shares_end ≤ 68719476736
    → FitsBody (Put user (parts_of user m news))
put_fits user m news in_range some few fps lens end =
    let count = parts_count m user news in
    (in_range, ((omega (arith, some, count), omega (arith, few, count)), all_fit user m news fps lens (omega (arith, few, end))))

-- the record of a Put is no longer than the longest
pub put_short : (user : UserId) (m : Memory) (news : List New) → length news ≤ 256 → All HasFp news → All IsShareNew news → m.shares_end ≤ 68719476736
    → length (body_bytes (Put user (parts_of user m news))) + 5 ≤ longest_record
put_short user m news few fps lens end =
    let items = parts_of user m news in
    omega (
      arith,
      few,
      parts_count m user news,
      length-put user items (all_fit user m news fps lens (omega (arith, few, end))),
      count_by-le-length has_place items,
    )

small_first : (item : PutItem) (items : List PutItem) (o : Option Place) → FitsPlaced o → AreSmall (places_of (places_given items))
    → AreSmall (places_of (places_given (record { fp = item.fp; place = o } ∷ items)))
small_first item items None fits rest = rest
small_first item items (Some p) fits rest = All-cons (λ (q : Place). q.len ≤ container_len) p (places_of (places_given items)) (omega (arith, fits.1.1)) rest

given_small : (items : List PutItem) → All FitsItem items → AreSmall (places_of (places_given items))
given_small [] fit = All-nil (λ (p : Place). p.len ≤ container_len)
given_small (item ∷ items) fit =
    small_first item items item.place (All-head FitsItem item items fit).1 (given_small items (All-tail FitsItem item items fit))

pub put_laid : (user : UserId) (m : Memory) (news : List New) → FitsBody (Put user (parts_of user m news)) → IsLaidBehind m.shares_end m.recipes_end (Put user (parts_of user m news))
put_laid user m news fits = record {
  shares_laid = parts_laid user m news;
  shares_small = given_small (parts_of user m news) fits.1.1;
  recipes_laid = tt;
  recipes_small = All-nil (λ (p : Place). p.len ≤ container_len);
}
