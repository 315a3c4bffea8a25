-- What is alive of a store that knows a list reads right, and copies of it.
use Rattle.std.proofs.Common.{◌≡◌, ◌⊎◌, ℕ, ◌+◌, ◌<◌, ◌≤◌, Bool, IsTrue, List, [], ◌∷◌, ◌++◌, length, map, take, drop, Option, Some, None, refl, sym, ap, ◌∙◌, subst, arith, inl, inr}
use Rattle.std.specs.Prelude.{All, is_some, option_map, unwrap_or}
use Rattle.std.specs.List.{Contains}
use Rattle.std.specs.FinMap.{get}
use Rattle.std.proofs.lemmas.List.Elements.{All-nil, All-cons}
use Rattle.compact_lists.specs.CdBase.ids.Fp.{Fp}
use Rattle.compact_lists.specs.CdBase.place.Place.{Place}
use Rattle.fresh_checkpoints.specs.CdEdges.area.Area.TheVariants.{Shares, Recipes}
use Rattle.fresh_checkpoints.specs.CdEdges.Disk.{Cloud}
use Rattle.record_laws.specs.ContainerLog.Laying.{Placed, placed}
use Rattle.record_laws.specs.ContainerLog.Places.{place_of, end_after, end_of_laid}
use Rattle.record_laws.specs.FileIndex.key.Entry.{Entry}
use Rattle.record_laws.specs.FileIndex.key.FileKey.{FileKey}
use Rattle.compact_lists.specs.UserDedup.command.Command.{Command}
use Rattle.compact_lists.specs.UserDedup.file_list.FileEntry.{FileEntry}
use Rattle.compact_lists.specs.UserDedup.Cloud.{user_view, strings_in, held_bytes}
use Rattle.compact_lists.specs.UserDedup.Pages.{entry_at}
use Rattle.compact_lists.specs.UserDedup.Strings.{fingerprint}
use Rattle.compact_lists.proofs.UserDedup.Owned.{contains_here, contains_later, contains_nothing, contains_cases}
use Rattle.compact_lists.proofs.UserDedup.Views.{sent_is_held}
use Rattle.fresh_checkpoints.specs.CloudAreas.Chains.{laid_shares}
use Rattle.fresh_checkpoints.specs.CloudAreas.Standing.{Chain}
use Rattle.fresh_checkpoints.proofs.CloudAreas.Lists.{from_map}
use Rattle.fresh_checkpoints.specs.CloudMemory.Memory.{summary, summary_of}
use Rattle.fresh_checkpoints.specs.CompactMemories.Moved.{new_places, lens_of, new_entries, entry_lens}
use Rattle.fresh_checkpoints.proofs.CompactMemories.Relaying.{laid_grows}
use Rattle.cloud_store.specs.declared.store.CloudStore.{CloudStore}
use Rattle.blob_copy.specs.Answers.{IsRotten}
use Rattle.blob_copy.specs.Copies.{Blob, share_blob, entry_blob, found_in, IsRight, copies_at}
use Rattle.blob_copy.specs.Copying.{IsCopying}
use Rattle.blob_copy.specs.Runs.{AreBlobsRead}
use Rattle.blob_copy.specs.declared.copying.Copying.{Copying}

-- ---- what was read

pub are_right : (told : Bool) (area : List ℕ) (bs : List Blob) (ss : List (List ℕ)) → AreBlobsRead told area bs ss → IsTrue told → All (IsRight area) bs
are_right told area [] [] read t = All-nil (IsRight area)
are_right told area [] (s ∷ ss) read t = absurd read
are_right told area (b ∷ bs) [] read t = absurd read
are_right told area (b ∷ bs) (s ∷ ss) read t =
    let found = read.0.found t in
    All-cons (IsRight area) b bs (record { long = ap length (sym found) ∙ read.0.long; hashed = ap fingerprint (sym found) ∙ read.0.hashed }) (are_right told area bs ss read.1 t)

pub are_copies : (told : Bool) (area : List ℕ) (end : ℕ) (bs : List Blob) (ss : List (List ℕ)) → AreBlobsRead told area bs ss → IsTrue told → placed end ss ≡ copies_at area end bs
are_copies told area end [] [] read t = refl
are_copies told area end [] (s ∷ ss) read t = absurd read
are_copies told area end (b ∷ bs) [] read t = absurd read
are_copies told area end (b ∷ bs) (s ∷ ss) read t =
    let long = read.0.long in let found = read.0.found t in
    let first : Placed → List Placed → List Placed = λ p l. p ∷ l in
    let head : record { place = place_of end (length s); blob = s } ≡ record { place = place_of end b.len; blob = found_in area b } = λ i. record { place = place_of end (long i); blob = found i } in
    let rest : placed (end_after end (length s)) ss ≡ copies_at area (end_after end b.len) bs = are_copies told area (end_after end (length s)) bs ss read.1 t ∙ ap (λ (n : ℕ). copies_at area (end_after end n) bs) long in
    λ i. first (head i) (rest i)

-- ---- shares

module _ (list : List Command) (c : Chain) (store : CloudStore) (copying : Copying) (cloud : Cloud) (is : IsCopying list c store copying cloud) where
  abbrev Area : List ℕ
  Area = (cloud.now Shares).read

  pub share_long : (x : Fp × Place) → get store.memory.shares.places x.0.0 ≡ Some x.1 → x.1.len ≡ length (held_bytes list x.0)
  share_long x got = is.knows.remembers.lens x.0 x.1 got

  pub share_found : (x : Fp × Place) → get store.memory.shares.places x.0.0 ≡ Some x.1 → found_in (cloud.now Shares).read (share_blob x) ≡ held_bytes list x.0
  share_found x got = ap (λ (n : ℕ). take n (drop x.1.at (cloud.now Shares).read)) (share_long x got) ∙ is.knows.stand.strings x.0 x.1 got

  share_named : (x : Fp × Place) → get store.memory.shares.places x.0.0 ≡ Some x.1 → fingerprint (held_bytes list x.0) ≡ x.0
  share_named x got =
      let sent = from_map fingerprint (strings_in list) x.0 ((is.knows.remembers.placed x.0).0 (ap is_some got)) in
      let held = sent_is_held list x.0 sent in
      ap fingerprint (ap (λ (o : Option (List ℕ)). unwrap_or o []) held.1) ∙ held.2

  pub share_sound : (x : Fp × Place) → get store.memory.shares.places x.0.0 ≡ Some x.1 → (named found : Fp) → x.0 ≡ named → IsRotten (found_in (cloud.now Shares).read (share_blob x)) x.1.len named found → ⊥
  share_sound x got named found is_named rotten = by_wrong rotten.wrong
    where
      by_wrong : (length (found_in (cloud.now Shares).read (share_blob x)) < x.1.len) ⊎ (found ≡ named → ⊥) → ⊥
      by_wrong (inl short) = let long = ap length (share_found x got) in let same = share_long x got in omega (arith, short, long, same)
      by_wrong (inr other) = other (sym rotten.hashed ∙ ap fingerprint (share_found x got) ∙ share_named x got ∙ is_named)

  -- copies of shares are those of the strings that are held
  pub share_copies : (end : ℕ) (xs : List (Fp × Place)) → ((x : Fp × Place) → Contains xs x → get store.memory.shares.places x.0.0 ≡ Some x.1)
      → copies_at (cloud.now Shares).read end (map share_blob xs) ≡ laid_shares list (new_places end xs)
  share_copies end [] each = refl
  share_copies end (x ∷ xs) each =
      let found = share_found x (each x (contains_here x xs)) in
      let rest = share_copies (end_after end x.1.len) xs (λ y among. each y (contains_later x xs y among)) in
      let first : Placed → List Placed → List Placed = λ p l. p ∷ l in
      λ i. first (record { place = place_of end x.1.len; blob = found i }) (rest i)

  -- they end in front of the end behind them
  pub shares_below : (end : ℕ) (xs : List (Fp × Place)) → ((x : Fp × Place) → Contains xs x → get store.memory.shares.places x.0.0 ≡ Some x.1)
      → All (λ (b : Placed). b.place + length b.blob ≤ end_of_laid end (lens_of xs)) (laid_shares list (new_places end xs))
  shares_below end [] each = All-nil (λ (b : Placed). b.place + length b.blob ≤ end)
  shares_below end (x ∷ xs) each =
      let long = share_long x (each x (contains_here x xs)) in
      let grows = laid_grows (end_after end x.1.len) (lens_of xs) in
      All-cons (λ (b : Placed). b.place + length b.blob ≤ end_of_laid (end_after end x.1.len) (lens_of xs)) (record { place = place_of end x.1.len; blob = held_bytes list x.0 }) (laid_shares list (new_places (end_after end x.1.len) xs))
      (omega (arith, long, grows))
      (shares_below (end_after end x.1.len) xs (λ y among. each y (contains_later x xs y among)))

  -- ---- recipes

  abbrev file_of : FileKey → Option FileEntry
  file_of key = entry_at (user_view store.header.shape list (record { 0 = key.user })).files (record { 0 = key.tag }, record { 0 = key.version })

  pub file_tied : (key : FileKey) (e : Entry) → get store.memory.files.files key ≡ Some e → option_map summary_of (file_of key) ≡ Some (summary e)
  file_tied key e got = sym (is.knows.remembers.files (record { 0 = key.user }) (record { 0 = key.tag }) (record { 0 = key.version })) ∙ ap (option_map summary) got

  pub file_summed : (key : FileKey) (e : Entry) (file : FileEntry) → get store.memory.files.files key ≡ Some e → file_of key ≡ Some file → summary_of file ≡ summary e
  file_summed key e file got at = let two : Some (summary_of file) ≡ Some (summary e) = ap (option_map summary_of) (sym at) ∙ file_tied key e got in cc

  pub recipe_long : (key : FileKey) (e : Entry) (file : FileEntry) → get store.memory.files.files key ≡ Some e → file_of key ≡ Some file → length file.recipe ≡ e.len
  recipe_long key e file got at = ap (λ (p : ℕ × Fp). p.0) (file_summed key e file got at)

  pub recipe_found : (key : FileKey) (e : Entry) (file : FileEntry) → get store.memory.files.files key ≡ Some e → file_of key ≡ Some file → found_in (cloud.now Recipes).read (entry_blob (key, e)) ≡ file.recipe
  recipe_found key e file got at =
      ap (λ (n : ℕ). take n (drop e.at (cloud.now Recipes).read)) (sym (recipe_long key e file got at))
      ∙ is.knows.stand.entries (record { 0 = key.user }) (record { 0 = key.tag }, record { 0 = key.version }) e file got at

  pub recipe_sound : (x : FileKey × Entry) → get store.memory.files.files x.0 ≡ Some x.1 → (named found : Fp) → x.1.fp ≡ named → IsRotten (found_in (cloud.now Recipes).read (entry_blob x)) x.1.len named found → ⊥
  recipe_sound x got named found is_named rotten = by_file (file_of x.0) refl
    where
      by_file : (o : Option FileEntry) → file_of x.0 ≡ o → ⊥
      by_file None at = let no : ◌≡◌ {A = Option (ℕ × Fp)} None (Some (summary x.1)) = sym (ap (option_map summary_of) at) ∙ file_tied x.0 x.1 got in cc
      by_file (Some file) at = by_wrong rotten.wrong
        where
          by_wrong : (length (found_in (cloud.now Recipes).read (entry_blob x)) < x.1.len) ⊎ (found ≡ named → ⊥) → ⊥
          by_wrong (inl short) = let long = ap length (recipe_found x.0 x.1 file got at) in let same = recipe_long x.0 x.1 file got at in omega (arith, short, long, same)
          by_wrong (inr other) = other (sym rotten.hashed ∙ ap fingerprint (recipe_found x.0 x.1 file got at) ∙ ap (λ (p : ℕ × Fp). p.1) (file_summed x.0 x.1 file got at) ∙ is_named)

-- ---- new places

pub new_append : (end : ℕ) (xs ys : List (Fp × Place)) → new_places end (xs ++ ys) ≡ new_places end xs ++ new_places (end_of_laid end (lens_of xs)) ys
new_append end [] ys = refl
new_append end (x ∷ xs) ys = ap (λ (l : List (Fp × Place)). (x.0, record { at = place_of end x.1.len; len = x.1.len }) ∷ l) (new_append (end_after end x.1.len) xs ys)

pub entries_append : (end : ℕ) (xs ys : List (FileKey × Entry)) → new_entries end (xs ++ ys) ≡ new_entries end xs ++ new_entries (end_of_laid end (entry_lens xs)) ys
entries_append end [] ys = refl
entries_append end (x ∷ xs) ys = ap (λ (l : List (FileKey × Entry)). (x.0, record { at = place_of end x.1.len; len = x.1.len; fp = x.1.fp }) ∷ l) (entries_append (end_after end x.1.len) xs ys)

-- an entry with a new place is one of those, with another place, and ends in front of the end behind them
pub record WasMoved (area : List ℕ) (copies : List Placed) (xs : List (FileKey × Entry)) (end : ℕ) (key : FileKey) (e : Entry) : Type 0 where
  pub before : Entry
  pub among : Contains xs (key, before)
  pub len_is : before.len ≡ e.len
  pub below : e.at + e.len ≤ end
  pub copied : Contains copies (record { place = e.at; blob = found_in area (entry_blob (key, before)) })

pub was_moved : (area : List ℕ) (end : ℕ) (xs : List (FileKey × Entry)) (key : FileKey) (e : Entry) → Contains (new_entries end xs) (key, e) → WasMoved area (copies_at area end (map entry_blob xs)) xs (end_of_laid end (entry_lens xs)) key e
was_moved area end [] key e among = absurd (contains_nothing (key, e) among)
was_moved area end (x ∷ xs) key e among =
    elim (contains_cases (x.0, moved) (new_entries (end_after end x.1.len) xs) (key, e) among) [
      | inl same ↦
          let key_is : x.0 ≡ key = ap (λ (y : FileKey × Entry). y.0) same in
          let e_is : moved ≡ e = ap (λ (y : FileKey × Entry). y.1) same in
          let at : place_of end x.1.len ≡ e.at = ap (λ (d : Entry). d.at) e_is in
          let len : x.1.len ≡ e.len = ap (λ (d : Entry). d.len) e_is in
          let grows = laid_grows (end_after end x.1.len) (entry_lens xs) in
          record {
            before = x.1;
            among = subst (λ (k : FileKey). Contains (x ∷ xs) (k, x.1)) key_is (contains_here x xs);
            len_is = len;
            below = omega (arith, at, len, grows);
            copied = subst (λ (n : ℕ). Contains (first ∷ rest) (record { place = n; blob = found_in area (entry_blob x) })) at (contains_here first rest);
          }
      | inr later ↦
          let w = was_moved area (end_after end x.1.len) xs key e later in
          record {
            before = w.before;
            among = contains_later x xs (key, w.before) w.among;
            len_is = w.len_is;
            below = w.below;
            copied = contains_later first rest (record { place = e.at; blob = found_in area (entry_blob (key, w.before)) }) w.copied;
          }
    ]
  where
    moved : Entry
    moved = record { at = place_of end x.1.len; len = x.1.len; fp = x.1.fp }

    first : Placed
    first = record { place = place_of end x.1.len; blob = found_in area (entry_blob x) }

    rest : List Placed
    rest = copies_at area (end_after end x.1.len) (map entry_blob xs)
