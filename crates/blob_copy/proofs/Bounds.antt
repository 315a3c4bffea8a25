-- How far copies of what is alive reach, and whether more is left.
use Rattle.std.proofs.Common.{◌≡◌, ⊎_elim, ℕ, suc, ◌+◌, ◌*◌, ◌<◌, ◌≤◌, List, [], ◌∷◌, ◌++◌, length, map, take, drop, Option, Some, None, refl, sym, ap, ◌∙◌, arith, length-append}
use Rattle.std.specs.Prelude.{All, slice_index_or, if◌then◌else◌}
use Rattle.std.specs.List.{Contains}
use Rattle.std.specs.FinMap.{get}
use Rattle.std.proofs.lemmas.Bool.{lt-ltb}
use Rattle.std.proofs.lemmas.List.{take-append-drop}
use Rattle.std.proofs.lemmas.List.Elements.{All-head, All-tail}
use Rattle.compact_lists.specs.CdBase.ids.Fp.{Fp}
use Rattle.compact_lists.specs.CdBase.place.Place.{Place}
use Rattle.compact_lists.proofs.UserDedup.Sound.{contained}
use Rattle.record_laws.specs.ContainerLog.Places.{end_after, end_of_laid}
use Rattle.record_laws.proofs.ContainerLog.Least.{place_cases}
use Rattle.record_laws.specs.FileIndex.key.Entry.{Entry}
use Rattle.record_laws.specs.FileIndex.key.FileKey.{FileKey}
use Rattle.record_laws.specs.PoolMap.Slots.{IsListed}
use Rattle.record_laws.specs.ShareIndex.Shares.{owners_of}
use Rattle.fresh_checkpoints.specs.CloudAreas.Placing.{region_start}
use Rattle.fresh_checkpoints.proofs.CloudAreas.Lists.{from_map}
use Rattle.fresh_checkpoints.specs.CloudMemory.Live as slots
use Rattle.fresh_checkpoints.specs.CloudMemory.Live.{IsEachLive}
use Rattle.fresh_checkpoints.specs.Checkpoints.Picking.{onto, picked}
use Rattle.fresh_checkpoints.proofs.Checkpoints.Picks.{picked-append, Passed, finds}
use Rattle.fresh_checkpoints.proofs.Checkpoints.Sought.{from_picked}
use Rattle.fresh_checkpoints.specs.CompactMemories.Kept.{live_at, live_places, live_entries}
use Rattle.fresh_checkpoints.specs.CompactMemories.Moved.{lens_of, entry_lens}
use Rattle.fresh_checkpoints.proofs.CompactMemories.Live.{live_gives}
use Rattle.cloud_store.specs.declared.store.CloudStore.{CloudStore}
use Rattle.cloud_store.specs.Store.{IsOpen, IsSettled}
use Rattle.cloud_store.proofs.CloudAreas.Laid.{moves}
use Rattle.blob_copy.specs.Copies.{Blob, share_blob, entry_blob}
use Rattle.blob_copy.specs.Runs.{blob_lens, all_end}
use Rattle.blob_copy.proofs.Gathered.{laid_append, lens_blobs}

-- ---- more is left

module _ {E X : Type 0} (f : Option E → Option X) (xs : List (Option E)) where
  pub parts : (n : ℕ) → picked f xs ≡ picked f (take n xs) ++ picked f (drop n xs)
  parts n = ap (picked f) (sym (take-append-drop n xs)) ∙ picked-append f (take n xs) (drop n xs)

  pub some_more : (from slot : ℕ) (x : X) → Passed f xs from slot → slot < length xs → f (slice_index_or xs slot None) ≡ Some x → length (picked f (take from xs)) < length (picked f xs)
  some_more from slot x p below is =
      let found = ap length (finds f xs from slot None p below x is).before in
      let one = length-append (picked f (take from xs)) (x ∷ []) in
      let whole = ap length (parts (slot + 1)) in
      let both = length-append (picked f (take (slot + 1) xs)) (picked f (drop (slot + 1) xs)) in
      omega (arith, found, one, whole, both)

  picked_few : (ys : List (Option E)) → length (picked f ys) ≤ length ys
  picked_few [] = omega arith
  picked_few (y ∷ ys) = by_first (f y) (picked_few ys)
    where
      by_first : (r : Option X) → length (picked f ys) ≤ length ys → length (onto r (picked f ys)) ≤ suc (length ys)
      by_first None le = omega (arith, le)
      by_first (Some x) le = omega (arith, le)

  pub few_picked : length (picked f xs) ≤ length xs
  few_picked = picked_few xs

  -- all that is alive ends where what is left does, behind what isn't
  pub all_end_is : (blob : X → Blob) (from start end : ℕ) → end ≡ end_of_laid start (blob_lens (map blob (picked f (take from xs)))) → all_end f blob xs from end ≡ end_of_laid start (blob_lens (map blob (picked f xs)))
  all_end_is blob from start end is =
      ap (λ (n : ℕ). end_of_laid n (blob_lens (map blob (picked f (drop from xs))))) is
      ∙ sym (laid_append start (blob_lens (map blob (picked f (take from xs)))) (blob_lens (map blob (picked f (drop from xs)))))
      ∙ ap (end_of_laid start) (sym (lens_blobs f blob xs (picked f (take from xs)) (picked f (drop from xs))))
      ∙ ap (λ (ys : List X). end_of_laid start (blob_lens (map blob ys))) (sym (parts from))

pub share_lens : (xs : List (Fp × Place)) → blob_lens (map share_blob xs) ≡ lens_of xs
share_lens [] = refl
share_lens (x ∷ xs) = ap (λ (l : List ℕ). x.1.len ∷ l) (share_lens xs)

pub recipe_lens : (xs : List (FileKey × Entry)) → blob_lens (map entry_blob xs) ≡ entry_lens xs
recipe_lens [] = refl
recipe_lens (x ∷ xs) = ap (λ (l : List ℕ). x.1.len ∷ l) (recipe_lens xs)

-- ---- how far they reach

abbrev AreUpTo : ℕ → List Blob → Type 0
AreUpTo most bs = All (λ (b : Blob). b.len ≤ most) bs

shares_reach : (end : ℕ) (bs : List Blob) → AreUpTo 8208 bs → end_of_laid end (blob_lens bs) ≤ end + 16416 * length bs
shares_reach end [] small = omega arith
shares_reach end (b ∷ bs) small =
    let here = moves end b.len in let few : b.len ≤ 8208 = All-head (λ (b : Blob). b.len ≤ 8208) b bs small in
    let rest = shares_reach (end_after end b.len) bs (All-tail (λ (b : Blob). b.len ≤ 8208) b bs small) in
    omega (arith, here, few, rest)

-- a recipe more in a container that has room for it
one_more : (q r end len : ℕ) → end ≤ q * 4194304 + r → len ≤ 1180190 → r + 1180190 ≤ 4194304 → end_after end len ≤ q * 4194304 + r + 1180190
one_more q r end len le few room = ⊎_elim (λ a. omega (arith, a.0, a.1, le, few)) (λ a. omega (arith, a.0, a.1, le, few, room)) (place_cases end len)

-- three recipes lie in each container but the last
recipes_reach : (q end : ℕ) (bs : List Blob) → AreUpTo 1180190 bs → end ≤ q * 4194304 → 3 * end_of_laid end (blob_lens bs) ≤ (3 * q + length bs + 2) * 4194304
recipes_reach q end [] small le = omega (arith, le)
recipes_reach q end (a ∷ []) small le =
    let P : Blob → Type 0 = λ b. b.len ≤ 1180190 in
    let one = one_more q 0 end a.len (omega (arith, le)) (All-head P a [] small) (omega arith) in
    omega (arith, one)
recipes_reach q end (a ∷ b ∷ []) small le =
    let P : Blob → Type 0 = λ b. b.len ≤ 1180190 in
    let one = one_more q 0 end a.len (omega (arith, le)) (All-head P a (b ∷ []) small) (omega arith) in
    let two = one_more q 1180190 (end_after end a.len) b.len (omega (arith, one)) (All-head P b [] (All-tail P a (b ∷ []) small)) (omega arith) in
    omega (arith, two)
recipes_reach q end (a ∷ b ∷ d ∷ bs) small le =
    let P : Blob → Type 0 = λ b. b.len ≤ 1180190 in
    let after_one = All-tail P a (b ∷ d ∷ bs) small in
    let after_two = All-tail P b (d ∷ bs) after_one in
    let one = one_more q 0 end a.len (omega (arith, le)) (All-head P a (b ∷ d ∷ bs) small) (omega arith) in
    let two = one_more q 1180190 (end_after end a.len) b.len (omega (arith, one)) (All-head P b (d ∷ bs) after_one) (omega arith) in
    let three = one_more q 2360380 (end_after (end_after end a.len) b.len) d.len (omega (arith, two)) (All-head P d bs after_two) (omega arith) in
    let rest = recipes_reach (q + 1) (end_after (end_after (end_after end a.len) b.len) d.len) bs (All-tail P d bs after_two) (omega (arith, three)) in
    omega (arith, rest)

-- ---- what is alive of a memory

module _ (store : CloudStore) (settled : IsSettled store) (open_now : IsOpen store) where
  pub live_share_at : IsEachLive store.memory.shares → (x : Fp × Place) → Contains (live_places store.memory) x → get store.memory.shares.places x.0.0 ≡ Some x.1
  live_share_at each x c =
      let owners = store.memory.shares.owners in
      let s = from_picked (live_at owners) refl store.memory.shares.place_slots x c in
      let g = live_gives owners s.entry x s.picks in
      let some : 0 < owners_of owners s.entry.0 = (let none = g.0 in omega (arith, none)) in
      let is : slots.live_at store.memory.shares s.slot ≡ Some s.entry =
      ap (slots.owned_only owners) s.here ∙ ap (λ b. if b then Some s.entry else None) (lt-ltb 0 (owners_of owners s.entry.0) some) in
      let got = (each.listed s.slot s.entry.0 s.entry.1 is).0 in
      ap (get store.memory.shares.places) (sym (ap (λ (y : Fp × Place). y.0.0) g.1)) ∙ got ∙ ap Some (ap (λ (y : Fp × Place). y.1) g.1)

  pub live_entry_at : IsListed store.memory.files.files store.memory.files.slots → (x : FileKey × Entry) → Contains (live_entries store.memory) x → get store.memory.files.files x.0 ≡ Some x.1
  live_entry_at listed x c =
      let s = from_picked (λ (e : Option (FileKey × Entry)). e) refl store.memory.files.slots x c in
      listed.listed s.slot x.0 x.1 (s.here ∙ s.picks)

  few_shares : length store.memory.shares.place_slots ≤ 524288
  few_shares = let same = settled.rooms.slots in let most = settled.header.rooms.owners in omega (arith, same, most)

  few_entries : length store.memory.files.slots ≤ 16384
  few_entries = let same = settled.rooms.entries in let most = settled.header.rooms.files in omega (arith, same, most)

  pub shares_bound : IsEachLive store.memory.shares → (region : ℕ) → end_of_laid (region_start region) (blob_lens (map share_blob (live_places store.memory))) ≤ region_start region + 34359738368
  shares_bound each region =
      let small : AreUpTo 8208 (map share_blob (live_places store.memory)) = contained (λ (b : Blob). b.len ≤ 8208) (map share_blob (live_places store.memory)) (λ b c.
      let m = from_map share_blob (live_places store.memory) b c in
      let bounds = (settled.fit open_now).shares m.0.0.0 m.0.1 (live_share_at each m.0 m.1) in
      let few : m.0.1.len ≤ 8208 = bounds.1 in
      let same = ap (λ (d : Blob). d.len) m.2 in omega (arith, few, same)) in
      let reach = shares_reach (region_start region) (map share_blob (live_places store.memory)) small in
      let count : length (map share_blob (live_places store.memory)) ≡ length (live_places store.memory) = length-blobs share_blob (live_places store.memory) in
      let few = few_picked (live_at store.memory.shares.owners) store.memory.shares.place_slots in
      omega (arith, reach, count, few, few_shares)
    where
      length-blobs : {X : Type 0} (blob : X → Blob) (xs : List X) → length (map blob xs) ≡ length xs
      length-blobs blob [] = refl
      length-blobs blob (x ∷ xs) = ap suc (length-blobs blob xs)

  pub recipes_bound : IsListed store.memory.files.files store.memory.files.slots → (region : ℕ) → end_of_laid (region_start region) (blob_lens (map entry_blob (live_entries store.memory))) ≤ region_start region + 34359738368
  recipes_bound listed region =
      let small : AreUpTo 1180190 (map entry_blob (live_entries store.memory)) = contained (λ (b : Blob). b.len ≤ 1180190) (map entry_blob (live_entries store.memory)) (λ b c.
      let m = from_map entry_blob (live_entries store.memory) b c in
      let few : m.0.1.len ≤ 1180190 = (settled.fit open_now).short m.0.0 m.0.1 (live_entry_at listed m.0 m.1) in
      let same = ap (λ (d : Blob). d.len) m.2 in omega (arith, few, same)) in
      let reach = recipes_reach (region * 8192) (region_start region) (map entry_blob (live_entries store.memory)) small (omega arith) in
      let count : length (map entry_blob (live_entries store.memory)) ≡ length (live_entries store.memory) = length-blobs entry_blob (live_entries store.memory) in
      let few = few_picked (λ (e : Option (FileKey × Entry)). e) store.memory.files.slots in
      omega (arith, reach, count, few, few_entries)
    where
      length-blobs : {X : Type 0} (blob : X → Blob) (xs : List X) → length (map blob xs) ≡ length xs
      length-blobs blob [] = refl
      length-blobs blob (x ∷ xs) = ap suc (length-blobs blob xs)
