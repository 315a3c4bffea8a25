-- A memory that is moved remembers the compact list too.
use Rattle.std.proofs.Common.{◌≡◌, ℕ, List, [], ◌∷◌, Option, Some, None, refl, sym, ap, ◌∙◌, subst, inl, inr}
use Rattle.std.specs.Prelude.{option_map}
use Rattle.std.specs.FinMap.{get}
use Rattle.std.specs.List.{Contains}
use Rattle.compact_lists.specs.CdBase.ids.Fp.{Fp}
use Rattle.checkpoints.specs.ContainerLog.Places.{place_of, end_after}
use Rattle.checkpoints.specs.FileIndex.key.Entry.{Entry}
use Rattle.checkpoints.specs.FileIndex.key.FileKey.{FileKey}
use Rattle.compact_lists.specs.CdBase.place.Place.{Place}
use Rattle.compact_lists.proofs.UserDedup.Owned.{contains_here, contains_later, contains_nothing, contains_cases}
use Rattle.checkpoints.specs.CloudAreas.Placing.{region_start}
use Rattle.checkpoints.specs.CloudMemory.cloud.CloudMemory.{CloudMemory}
use Rattle.checkpoints.specs.CloudMemory.Memory.{Memory, summary}
use Rattle.checkpoints.specs.Known.{AreListed}
use Rattle.checkpoints.proofs.Sought.{from_picked, in_picked}
use Rattle.compact_memories.specs.Kept.{live_places, live_entries}
use Rattle.compact_memories.specs.Moved.{new_places, new_entries, IsMoved}
use Rattle.compact_memories.proofs.Compacted.{IsLike}

-- ---- a place and its copy

places_from : (end : ℕ) (xs : List (Fp × Place)) (fp : Fp) (place : Place) → Contains (new_places end xs) (fp, place) → (p : Place) × Contains xs (fp, p) × (place.len ≡ p.len)
places_from end [] fp place c = absurd (contains_nothing (fp, place) c)
places_from end (x ∷ xs) fp place c =
    elim (contains_cases _ (new_places (end_after end x.1.len) xs) (fp, place) c) [
      | inl same ↦
          let first : x.0 ≡ fp = ap (λ (y : Fp × Place). y.0) same in
          let len : x.1.len ≡ place.len = ap (λ (y : Fp × Place). y.1.len) same in
          (x.1, subst (λ (f : Fp). Contains (x ∷ xs) (f, x.1)) first (contains_here x xs), sym len)
      | inr later ↦ let r = places_from (end_after end x.1.len) xs fp place later in (r.0, contains_later x xs (fp, r.0) r.1, r.2)
    ]

places_to : (end : ℕ) (xs : List (Fp × Place)) (fp : Fp) (p : Place) → Contains xs (fp, p) → (place : Place) × Contains (new_places end xs) (fp, place)
places_to end [] fp p c = absurd (contains_nothing (fp, p) c)
places_to end (x ∷ xs) fp p c =
    elim (contains_cases x xs (fp, p) c) [
      | inl same ↦
          let first : x.0 ≡ fp = ap (λ (y : Fp × Place). y.0) same in
          let here : Place = record { at = place_of end x.1.len; len = x.1.len } in
          (here, subst (λ (f : Fp). Contains (new_places end (x ∷ xs)) (f, here)) first (contains_here (x.0, here) (new_places (end_after end x.1.len) xs)))
      | inr later ↦ let r = places_to (end_after end x.1.len) xs fp p later in (r.0, contains_later _ (new_places (end_after end x.1.len) xs) (fp, r.0) r.1)
    ]

-- ---- an entry and its copy

entries_from : (end : ℕ) (xs : List (FileKey × Entry)) (key : FileKey) (e : Entry) → Contains (new_entries end xs) (key, e) → (d : Entry) × Contains xs (key, d) × (summary e ≡ summary d)
entries_from end [] key e c = absurd (contains_nothing (key, e) c)
entries_from end (x ∷ xs) key e c =
    elim (contains_cases _ (new_entries (end_after end x.1.len) xs) (key, e) c) [
      | inl same ↦
          let first : x.0 ≡ key = ap (λ (y : FileKey × Entry). y.0) same in
          let sums : summary x.1 ≡ summary e = ap (λ (y : FileKey × Entry). summary y.1) same in
          (x.1, subst (λ (k : FileKey). Contains (x ∷ xs) (k, x.1)) first (contains_here x xs), sym sums)
      | inr later ↦ let r = entries_from (end_after end x.1.len) xs key e later in (r.0, contains_later x xs (key, r.0) r.1, r.2)
    ]

entries_to : (end : ℕ) (xs : List (FileKey × Entry)) (key : FileKey) (d : Entry) → Contains xs (key, d) → (e : Entry) × Contains (new_entries end xs) (key, e)
entries_to end [] key d c = absurd (contains_nothing (key, d) c)
entries_to end (x ∷ xs) key d c =
    elim (contains_cases x xs (key, d) c) [
      | inl same ↦
          let first : x.0 ≡ key = ap (λ (y : FileKey × Entry). y.0) same in
          let here : Entry = record { at = place_of end x.1.len; len = x.1.len; fp = x.1.fp } in
          (here, subst (λ (k : FileKey). Contains (new_entries end (x ∷ xs)) (k, here)) first (contains_here (x.0, here) (new_entries (end_after end x.1.len) xs)))
      | inr later ↦ let r = entries_to (end_after end x.1.len) xs key d later in (r.0, contains_later _ (new_entries (end_after end x.1.len) xs) (key, r.0) r.1)
    ]

module _ (old : CloudMemory) (l : AreListed old) where
  itself : Option (FileKey × Entry) → Option (FileKey × Entry)
  itself e = e

  entry_from : (key : FileKey) (d : Entry) → Contains (live_entries old) (key, d) → get old.files.files key ≡ Some d
  entry_from key d c =
      let s = from_picked (λ (e : Option (FileKey × Entry)). e) refl old.files.slots (key, d) c in
      let same : s.entry ≡ (key, d) = let two : Some s.entry ≡ Some (key, d) = s.picks in cc in
      l.entries.listed s.slot key d (s.here ∙ ap Some same)

  entry_to : (key : FileKey) (d : Entry) → get old.files.files key ≡ Some d → Contains (live_entries old) (key, d)
  entry_to key d at =
      let s = l.entries.stands key d at in
      in_picked (λ (e : Option (FileKey × Entry)). e) refl old.files.slots s.0 (key, d) (key, d) s.2 refl

  module _ (region : ℕ) (new : Memory) (is : IsMoved region old new) where
    same_files : (key : FileKey) → option_map summary (get new.files key) ≡ option_map summary (get old.files.files key)
    same_files key = by_old (get old.files.files key) refl (get new.files key) refl
      where
        by_old : (o : Option Entry) → get old.files.files key ≡ o → (n : Option Entry) → get new.files key ≡ n → option_map summary n ≡ option_map summary o
        by_old None at None here = refl
        by_old None at (Some e) here =
            let f = entries_from (region_start region) (live_entries old) key e ((is.files key e).0 here) in
            let no : None ≡ Some f.0 = sym at ∙ entry_from key f.0 f.1 in cc
        by_old (Some d) at None here =
            let t = entries_to (region_start region) (live_entries old) key d (entry_to key d at) in
            let no : None ≡ Some t.0 = sym here ∙ (is.files key t.0).1 t.1 in cc
        by_old (Some d) at (Some e) here =
            let f = entries_from (region_start region) (live_entries old) key e ((is.files key e).0 here) in
            let same : Some f.0 ≡ Some d = sym (entry_from key f.0 f.1) ∙ at in
            let one : f.0 ≡ d = cc in
            ap Some (f.2 ∙ ap summary one)

    pub moved_like : IsLike old new
    moved_like = record {
      from = λ fp place at. places_from (region_start region) (live_places old) fp place ((is.places fp place).0 at);
      to = λ fp p live.
          let t = places_to (region_start region) (live_places old) fp p live in
          (t.0, (is.places fp t.0).1 t.1);
      owners = is.owners;
      files = same_files;
    }
