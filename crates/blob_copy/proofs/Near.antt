-- Copies of what a memory keeps end far in front of what 64 bits reach.
use Rattle.std.proofs.Common.{◌≡◌, ℕ, suc, ◌+◌, ◌*◌, ◌^◌, ◌<◌, ◌≤◌, List, [], ◌∷◌, length, Option, Some, None, arith, suc-mul}
use Rattle.std.specs.List.{Contains, sum_by}
use Rattle.std.proofs.lemmas.List.Sums.{sum_by-cons}
use Rattle.compact_lists.specs.CdBase.ids.Fp.{Fp}
use Rattle.compact_lists.specs.CdBase.place.Place.{Place}
use Rattle.record_laws.specs.ContainerLog.Places.{container_len, end_of_laid}
use Rattle.record_laws.specs.FileIndex.key.Entry.{Entry}
use Rattle.record_laws.specs.FileIndex.key.FileKey.{FileKey}
use Rattle.compact_lists.proofs.UserDedup.Owned.{contains_here, contains_later}
use Rattle.fresh_checkpoints.specs.CloudAreas.Placing.{region_start}
use Rattle.fresh_checkpoints.specs.CloudMemory.cloud.CloudMemory.{CloudMemory}
use Rattle.fresh_checkpoints.specs.CloudMemory.Fitting.{FitsRecords}
use Rattle.fresh_checkpoints.specs.CloudMemory.Rooms.{memory_of}
use Rattle.fresh_checkpoints.specs.Checkpoints.Known.{AreListed}
use Rattle.fresh_checkpoints.specs.Checkpoints.Picking.{onto, picked}
use Rattle.fresh_checkpoints.specs.CompactMemories.Kept.{live_at, live_places, live_entries}
use Rattle.fresh_checkpoints.specs.CompactMemories.Moved.{lens_of, entry_lens}
use Rattle.fresh_checkpoints.proofs.CompactMemories.Copies.{bound}
use Rattle.blob_copy.proofs.Switched.{shares_small, entries_small, entries_bound}

one_more : {X : Type 0} (o : Option X) (xs : List X) (n : ℕ) → length xs ≤ n → length (onto o xs) ≤ suc n
one_more None xs n le = omega (arith, le)
one_more (Some x) xs n le = omega (arith, le)

few : {S X : Type 0} (f : S → Option X) (slots : List S) → length (picked f slots) ≤ length slots
few f [] = omega arith
few f (s ∷ slots) = one_more (f s) (picked f slots) (length slots) (few f slots)

-- no more than the most for each
sum_most : {X : Type 0} (w : X → ℕ) (most : ℕ) (xs : List X) → ((x : X) → Contains xs x → w x ≤ most) → sum_by w xs ≤ length xs * most
sum_most w most [] each = omega arith
sum_most w most (x ∷ xs) each =
    let first = each x (contains_here x xs) in
    let rest = sum_most w most xs (λ y c. each y (contains_later x xs y c)) in
    let sum = sum_by-cons w x xs in
    let times : suc (length xs) * most ≡ most + length xs * most = omega (arith, suc-mul (length xs) most) in
    omega (arith, first, rest, sum, times)

far : (start end sum count : ℕ) → end ≤ start + 2 * sum → sum ≤ count * 4194304 → count ≤ 524288 → start ≤ 34359738368 → end < 2 ^ 64
far start end sum count e s c r = omega (arith, e, s, c, r)

module _ (region : ℕ) (small : region ≤ 1) (old : CloudMemory) (l : AreListed old) (fit : FitsRecords (memory_of old)) where
  start_near : region_start region ≤ 34359738368
  start_near = omega (arith, small)

  pub shares_near : length old.shares.place_slots ≤ 524288 → end_of_laid (region_start region) (lens_of (live_places old)) < 2 ^ 64
  shares_near slots =
      let many = few (live_at old.shares.owners) old.shares.place_slots in
      far (region_start region) (end_of_laid (region_start region) (lens_of (live_places old))) (sum_by (λ (x : Fp × Place). x.1.len) (live_places old)) (length (live_places old))
      (bound region (live_places old)) (sum_most (λ (x : Fp × Place). x.1.len) container_len (live_places old) (shares_small old l fit)) (omega (arith, many, slots)) start_near

  pub recipes_near : length old.files.slots ≤ 16384 → end_of_laid (region_start region) (entry_lens (live_entries old)) < 2 ^ 64
  recipes_near slots =
      let many = few (λ (e : Option (FileKey × Entry)). e) old.files.slots in
      far (region_start region) (end_of_laid (region_start region) (entry_lens (live_entries old))) (sum_by (λ (x : FileKey × Entry). x.1.len) (live_entries old)) (length (live_entries old))
      (entries_bound (region_start region) (live_entries old)) (sum_most (λ (x : FileKey × Entry). x.1.len) container_len (live_entries old) (entries_small old l fit)) (omega (arith, many, slots)) start_near
