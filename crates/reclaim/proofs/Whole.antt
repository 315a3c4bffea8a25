-- Copies of blobs that read right, one behind another.
use Rattle.std.proofs.Common.{◌≡◌, ℕ, ◌+◌, ◌≤◌, List, [], ◌∷◌, ◌++◌, length, map, take, drop, refl, sym, ap, ◌∙◌, subst, arith, inl}
use Rattle.std.specs.Prelude.{All}
use Rattle.std.proofs.lemmas.List.{map-append}
use Rattle.std.proofs.lemmas.List.Elements.{All-nil, All-cons, All-head, All-tail, All-same, All-append, All-contains}
use Rattle.share_server.specs.CdBase.ids.Fp.{Fp}
use Rattle.share_server.specs.CdBase.place.Place.{Place}
use Rattle.share_server.specs.CdEdges.area.Area.TheVariants.{Shares, Recipes}
use Rattle.share_server.specs.CdEdges.Disk.{Cloud, Image, reads}
use Rattle.compact_memories.specs.ContainerLog.Laying.{Placed, IsAt}
use Rattle.compact_memories.specs.ContainerLog.Places.{place_of, end_after, end_of_laid}
use Rattle.compact_memories.specs.FileIndex.key.Entry.{Entry}
use Rattle.compact_memories.specs.FileIndex.key.FileKey.{FileKey}
use Rattle.compact_memories.specs.FileIndex.Files.{key_of}
use Rattle.compact_memories.specs.UserDedup.Strings.{fingerprint}
use Rattle.compact_memories.proofs.CloudAreas.Lists.{in_map}
use Rattle.compact_memories.specs.CloudMemory.cloud.CloudMemory.{CloudMemory}
use Rattle.compact_memories.specs.CloudMemory.Rooms.{memory_of}
use Rattle.compact_memories.proofs.Relaying.{laid_grows}
use Rattle.share_server.specs.BlobCopy.CompactMemories.Kept.{live_in, live_places, entries_in, live_entries}
use Rattle.share_server.specs.BlobCopy.CompactMemories.Moved.{IsMoved, other_region, new_places, lens_of, new_entries, entry_lens}
use Rattle.share_server.specs.BlobCopy.Copies.{Blob, share_blob, entry_blob, found_in, IsRight, HasCopied, KeepsBeside, copies_at}
use Rattle.share_server.specs.BlobCopy.Copying.{AreAllCopied, copies_start, shares_so_far, entries_so_far}
use Rattle.share_server.specs.CloudStore.store.CloudStore.{CloudStore}
use Rattle.share_server.specs.declared.copies.Copies.{Copies}
use Rattle.share_server.specs.Copies.{at_copies, AreCopiesLaid}
use Rattle.reclaim.specs.Inner.{laid_blob, laid_blobs, AreCopiesRight}
use Rattle.blob_audit.specs.AuditBase.Whole.{IsStored, tables_of}
use Rattle.blob_audit.specs.Reading.{AreStored}

-- ---- blobs at new places

abbrev pub lens_in : List Blob → List ℕ
lens_in bs = map (λ (b : Blob). b.len) bs

-- what reads right reads right wherever its bytes lie
right_at : (old new : List ℕ) (b : Blob) (place : ℕ) → IsRight old b → IsAt new (record { place = place; blob = found_in old b }) → IsRight new (record { named = b.named; at = place; len = b.len })
right_at old new b place right lies =
    let same : take b.len (drop place new) ≡ found_in old b = ap (λ (n : ℕ). take n (drop place new)) (sym right.long) ∙ lies in
    record { long = ap length same ∙ right.long; hashed = ap fingerprint same ∙ right.hashed }

pub laid_append : (end : ℕ) (xs ys : List Blob) → laid_blobs end (xs ++ ys) ≡ laid_blobs end xs ++ laid_blobs (end_of_laid end (lens_in xs)) ys
laid_append end [] ys = refl
laid_append end (x ∷ xs) ys = ap (λ (l : List Blob). laid_blob end x ∷ l) (laid_append (end_after end x.len) xs ys)

-- copies of what reads right
pub copied_right : (old new : List ℕ) (end : ℕ) (bs : List Blob) → All (IsRight old) bs → All (IsAt new) (copies_at old end bs) → All (IsRight new) (laid_blobs end bs)
copied_right old new end [] right lie = All-nil (IsRight new)
copied_right old new end (b ∷ bs) right lie =
    let first : Placed = record { place = place_of end b.len; blob = found_in old b } in
    let rest = copies_at old (end_after end b.len) bs in
    All-cons (IsRight new) (laid_blob end b) (laid_blobs (end_after end b.len) bs)
    (right_at old new b (place_of end b.len) (All-head (IsRight old) b bs right) (All-head (IsAt new) first rest lie))
    (copied_right old new (end_after end b.len) bs (All-tail (IsRight old) b bs right) (All-tail (IsAt new) first rest lie))

ends_within : (place len long bound : ℕ) → long ≡ len → place + len ≤ bound → place + long ≤ bound
ends_within place len long bound is le = omega (arith, is, le)

pub further : (a b c : ℕ) → a ≤ b → b ≤ c → a ≤ c
further a b c one two = omega (arith, one, two)

-- what lies in front of the bound stays right where that stays
pub still_right : (old new : List ℕ) (end bound : ℕ) (bs : List Blob) → ((b : Placed) → b.place + length b.blob ≤ bound → IsAt old b → IsAt new b) → end_of_laid end (lens_in bs) ≤ bound
    → All (IsRight old) (laid_blobs end bs) → All (IsRight new) (laid_blobs end bs)
still_right old new end bound [] stays le right = All-nil (IsRight new)
still_right old new end bound (b ∷ bs) stays le right =
    let next = end_after end b.len in
    let rest = laid_blobs next bs in
    let here = All-head (IsRight old) (laid_blob end b) rest right in
    let within : end_after end b.len ≤ bound = further next (end_of_laid next (lens_in bs)) bound (laid_grows next (lens_in bs)) le in
    All-cons (IsRight new) (laid_blob end b) rest
    (right_at old new (laid_blob end b) (place_of end b.len) here
    (stays (record { place = place_of end b.len; blob = found_in old (laid_blob end b) })
    (ends_within (place_of end b.len) b.len (length (found_in old (laid_blob end b))) bound here.long within)
    (ap (λ (n : ℕ). take n (drop (place_of end b.len) old)) here.long)))
    (still_right old new next bound bs stays le (All-tail (IsRight old) (laid_blob end b) rest right))

-- ---- of shares and of entries

share_lens : (xs : List (Fp × Place)) → lens_in (map share_blob xs) ≡ lens_of xs
share_lens [] = refl
share_lens (x ∷ xs) = ap (λ (l : List ℕ). x.1.len ∷ l) (share_lens xs)

recipe_lens : (xs : List (FileKey × Entry)) → lens_in (map entry_blob xs) ≡ entry_lens xs
recipe_lens [] = refl
recipe_lens (x ∷ xs) = ap (λ (l : List ℕ). x.1.len ∷ l) (recipe_lens xs)

shares_laid : (end : ℕ) (xs : List (Fp × Place)) → map share_blob (new_places end xs) ≡ laid_blobs end (map share_blob xs)
shares_laid end [] = refl
shares_laid end (x ∷ xs) = ap (λ (l : List Blob). laid_blob end (share_blob x) ∷ l) (shares_laid (end_after end x.1.len) xs)

recipes_laid : (end : ℕ) (xs : List (FileKey × Entry)) → map entry_blob (new_entries end xs) ≡ laid_blobs end (map entry_blob xs)
recipes_laid end [] = refl
recipes_laid end (x ∷ xs) = ap (λ (l : List Blob). laid_blob end (entry_blob x) ∷ l) (recipes_laid (end_after end x.1.len) xs)

-- ---- one area

-- the copies so far, and what a step copies behind them
grown_right : {X : Type 0} (blob : X → Blob) (old new : List ℕ) (start end : ℕ) (first more all : List X) → all ≡ first ++ more → end ≡ end_of_laid start (lens_in (map blob first))
    → ((b : Placed) → (b.place + length b.blob ≤ end) → IsAt old b → IsAt new b)
    → All (IsRight old) (map blob more) → All (IsAt new) (copies_at old end (map blob more))
    → All (IsRight old) (laid_blobs start (map blob first)) → All (IsRight new) (laid_blobs start (map blob all))
grown_right {X = X} blob old new start end first more all is end_is stays right lie before =
    let behind : All (IsRight new) (laid_blobs (end_of_laid start (lens_in (map blob first))) (map blob more)) =
    subst (λ (n : ℕ). All (IsRight new) (laid_blobs n (map blob more))) end_is (copied_right old new end (map blob more) right lie) in
    let within : end_of_laid start (lens_in (map blob first)) ≤ end = subst (λ (n : ℕ). n ≤ end) end_is (omega arith) in
    All-same (IsRight new) (laid_blobs start (map blob all)) (laid_blobs start (map blob first) ++ laid_blobs (end_of_laid start (lens_in (map blob first))) (map blob more))
    (ap (λ (xs : List X). laid_blobs start (map blob xs)) is ∙ ap (laid_blobs start) (map-append blob first more) ∙ laid_append start (map blob first) (map blob more))
    (All-append (IsRight new) (laid_blobs start (map blob first)) (laid_blobs (end_of_laid start (lens_in (map blob first))) (map blob more))
    (still_right old new start end (map blob first) stays within before) behind)

-- ---- both areas

-- nothing is copied
pub none_right : (store : CloudStore) (copies : Copies) (areas : Image) → copies.copying.place_slot ≡ 0 → copies.copying.file_slot ≡ 0 → AreCopiesRight store copies areas
none_right store copies areas places files = record {
  shares = subst (λ (n : ℕ). All (IsRight (areas Shares)) (laid_blobs (copies_start store) (map share_blob (live_in store.memory.shares.owners (take n store.memory.shares.place_slots))))) (sym places)
      (All-nil (IsRight (areas Shares)));
  entries = subst (λ (n : ℕ). All (IsRight (areas Recipes)) (laid_blobs (copies_start store) (map entry_blob (entries_in (take n store.memory.files.slots))))) (sym files)
      (All-nil (IsRight (areas Recipes)));
}

-- a step more
pub more_right : (store : CloudStore) (from to : Copies) (old new : Cloud) → AreCopiesLaid store from → HasCopied (at_copies store from) from.copying to.copying (reads old.now) (reads new.now)
    → KeepsBeside (at_copies store from) old new → AreCopiesRight store from (reads old.now) → AreCopiesRight store to (reads new.now)
more_right store from to old new laid has beside right = record {
  shares = grown_right share_blob (old.now Shares).read (new.now Shares).read (copies_start store) from.shares_end (shares_so_far store from.copying) has.shares (shares_so_far store to.copying)
      has.shares_more (laid.shares_end ∙ ap (end_of_laid (copies_start store)) (sym (share_lens (shares_so_far store from.copying))))
      (λ b front at. beside.shares b (inl front) at) has.shares_right has.shares_lie right.shares;
  entries = grown_right entry_blob (old.now Recipes).read (new.now Recipes).read (copies_start store) from.recipes_end (entries_so_far store from.copying) has.entries (entries_so_far store to.copying)
      has.entries_more (laid.recipes_end ∙ ap (end_of_laid (copies_start store)) (sym (recipe_lens (entries_so_far store from.copying))))
      (λ b front at. beside.recipes b (inl front) at) has.entries_right has.entries_lie right.entries;
}

stored : (area : List ℕ) (b : Blob) → IsRight area b → IsStored area b.at b.len b.named
stored area b right = record { full = right.long; hash = right.hashed }

-- all is copied, and the memory is moved
pub all_whole : (store : CloudStore) (copies : Copies) (areas : Image) (memory : CloudMemory) → AreAllCopied store copies.copying → AreCopiesRight store copies areas
    → IsMoved (other_region store.region) store.memory (memory_of memory) → AreStored areas (tables_of memory)
all_whole store copies areas memory all right moved = record {
  shares = λ fp place owned got.
      let live = live_places store.memory in
      stored (areas Shares) (share_blob (fp, place)) (
      All-contains (IsRight (areas Shares)) (map share_blob (new_places (copies_start store) live)) (share_blob (fp, place))
      (All-same (IsRight (areas Shares)) (map share_blob (new_places (copies_start store) live)) (laid_blobs (copies_start store) (map share_blob live)) (shares_laid (copies_start store) live)
      (subst (λ (xs : List (Fp × Place)). All (IsRight (areas Shares)) (laid_blobs (copies_start store) (map share_blob xs))) all.places right.shares))
      (in_map share_blob (new_places (copies_start store) live) (fp, place) ((moved.places fp place).0 got)));
  files = λ user tag version e got.
      let live = live_entries store.memory in
      let key : FileKey = key_of user.0 tag.0 version.0 in
      stored (areas Recipes) (entry_blob (key, e)) (
      All-contains (IsRight (areas Recipes)) (map entry_blob (new_entries (copies_start store) live)) (entry_blob (key, e))
      (All-same (IsRight (areas Recipes)) (map entry_blob (new_entries (copies_start store) live)) (laid_blobs (copies_start store) (map entry_blob live)) (recipes_laid (copies_start store) live)
      (subst (λ (xs : List (FileKey × Entry)). All (IsRight (areas Recipes)) (laid_blobs (copies_start store) (map entry_blob xs))) all.entries right.entries))
      (in_map entry_blob (new_entries (copies_start store) live) (key, e) ((moved.files key e).0 got)));
}
