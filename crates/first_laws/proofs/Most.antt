-- No memory of a list within the greatest rooms has more places, owners and entries than these.
use Rattle.std.proofs.Common.{◌≡◌, inl, inr, ℕ, ◌+◌, ◌≤◌, Bool, true, cond, List, [], ◌∷◌, ◌++◌, length, map, Option, Some, None, refl, sym, ap, ◌∙◌, subst, arith, length-append}
use Rattle.std.specs.Prelude.{fold, is_some, IsSome, sum_by}
use Rattle.std.specs.List.{Contains, flat_map}
use Rattle.std.specs.FinMap.{FinMap, get, len, len-insert}
use Rattle.std.proofs.lemmas.Grind.{flat_map-append}
use Rattle.std.proofs.lemmas.List.{length-map}
use Rattle.std.proofs.lemmas.List.Elements.{Contains-append_left}
use Rattle.std.proofs.lemmas.List.Sums.{sum_by-cons}
use Rattle.journal_halves.specs.CdBase.ids.Fp.{Fp}
use Rattle.journal_halves.specs.CdBase.ids.Tag.{Tag}
use Rattle.journal_halves.specs.CdBase.ids.UserId.{UserId}
use Rattle.journal_halves.specs.CdBase.ids.Version.{Version}
use Rattle.journal_halves.specs.CdBase.place.Place.{Place}
use Rattle.journal_halves.specs.CdBase.shape.Shape.{Shape}
use Rattle.journal_halves.specs.CdBase.Order.{fp_cmp, fp_exact}
use Rattle.compact_memories.specs.FileIndex.key.Entry.{Entry}
use Rattle.compact_memories.specs.FileIndex.key.FileKey.{FileKey}
use Rattle.compact_memories.specs.FileIndex.Files.{key_of}
use Rattle.compact_memories.specs.FileIndex.Order.{key_cmp, key_exact}
use Rattle.compact_memories.proofs.FileIndexLaws.Order.{key_total}
use Rattle.first_records.specs.RecordBody.body.PutItem.{PutItem}
use Rattle.compact_memories.specs.ShareIndex.key.Owner.{Owner}
use Rattle.compact_memories.specs.ShareIndex.Order.{owner_cmp, owner_of, owner_exact}
use Rattle.compact_memories.proofs.ShareIndexLaws.Owning.{owner_total}
use Rattle.compact_memories.proofs.ShareIndexLaws.Placing.{fp_total}
use Rattle.compact_memories.specs.UserDedup.command.Command.{Command}
use Rattle.compact_memories.specs.UserDedup.file_list.FileEntry.{FileEntry}
use Rattle.compact_memories.specs.UserDedup.view.View.{View}
use Rattle.compact_memories.specs.UserDedup.Cloud.{fingerprint, has_fingerprint, commands_of, user_view, no_view, view_after, strings_of, strings_in}
use Rattle.compact_memories.specs.UserDedup.Compact.{users_in, user_at}
use Rattle.compact_memories.specs.UserDedup.Pages.{entry_at}
use Rattle.compact_memories.proofs.UserDedup.Filtered.{in_flat}
use Rattle.compact_memories.proofs.UserDedup.Owned.{fp_same, contains_nothing}
use Rattle.compact_memories.proofs.UserDedup.Sound.{found_entry}
use Rattle.compact_memories.proofs.UserDedup.Views.{found_from, found_passes, is_held}
use Rattle.compact_memories.specs.CloudAreas.FormatOne.{laid_strings, IsWithinGreatest}
use Rattle.compact_memories.proofs.CloudAreas.Lists.{in_map, from_map}
use Rattle.compact_memories.specs.CloudMemory.Memory.{Memory}
use Rattle.compact_memories.specs.CloudMemory.Steps.{with_item, with_items}
use Rattle.compact_memories.proofs.CloudMemoryLaws.KeyCounts.{few_keys, all_keys}
use Rattle.record_laws.specs.RecordChecks.ground.Ground.{Ground}
use Rattle.record_laws.specs.RecordChecks.Checks.{AreRight}
use Rattle.first_laws.proofs.Known.{user_or_none}
use Rattle.first_laws.proofs.Strings.{find_new}

-- ---- lists of several users

joined_len : {X Y : Type 0} (f : X → List Y) (xs : List X) → length (flat_map f xs) ≡ sum_by (λ (x : X). length (f x)) xs
joined_len f [] = refl
joined_len f (x ∷ xs) = omega (arith, length-append (f x) (flat_map f xs), joined_len f xs, sum_by-cons (λ y. length (f y)) x xs)

same_sums : {X : Type 0} (u w : X → ℕ) (xs : List X) → ((x : X) → u x ≡ w x) → sum_by u xs ≡ sum_by w xs
same_sums u w [] same = refl
same_sums u w (x ∷ xs) same = omega (arith, sum_by-cons u x xs, sum_by-cons w x xs, same x, same_sums u w xs same)

no_commands_view : (shape : Shape) (list : List Command) (user : UserId) → commands_of user list ≡ [] → user_view shape list user ≡ no_view
no_commands_view shape list user none = ap (λ (cs : List Command). fold (view_after shape) no_view cs) none

module _ (shape : Shape) (whole : List Command) (within : IsWithinGreatest shape whole) (list rest : List Command) (is : whole ≡ list ++ rest) where
  -- ---- owners

  abbrev own_of : ℕ → List Fp
  own_of n = (user_view shape list (user_at n)).own

  abbrev owner_at : ℕ → Fp → Owner
  owner_at n fp = owner_of n fp.0

  abbrev owners_at : ℕ → List Owner
  owners_at n = map (owner_at n) (own_of n)

  owner_known : (user : UserId) (fp : Fp) → Contains (user_view shape list user).own fp → Contains (users_in list) user.0
  owner_known user fp c = elim (user_or_none list user) [
    | inl here ↦ here
    | inr none ↦ absurd (contains_nothing fp (subst (λ (v : View). Contains v.own fp) (no_commands_view shape list user none) c))
  ]

  pub most_owners : (owners : FinMap owner_cmp ℕ) → ((q : UserId) (fp : Fp) → IsSome (get owners (owner_of q.0 fp.0)) → Contains (user_view shape list q).own fp)
      → len owners ≤ 524288
  most_owners owners among =
      let few = few_keys owner_total owner_exact (λ (k : Owner). true) owners (flat_map owners_at (users_in list)) (λ k t some.
      let user : UserId = user_at k.user in
      let fp : Fp = record { 0 = k.fp } in
      let own = among user fp some in
      in_flat owners_at (users_in list) k.user k (owner_known user fp own) (in_map (owner_at k.user) (own_of k.user) fp own)) in
      let all = all_keys owners in
      let long = joined_len owners_at (users_in list) in
      let same = same_sums (λ (n : ℕ). length (owners_at n)) (λ (n : ℕ). length (own_of n)) (users_in list) (λ n. length-map (own_of n) (owner_at n)) in
      let most = within.owners list rest is in
      omega (arith, few, all, long, same, most)

  -- ---- entries

  abbrev files_at : ℕ → List FileEntry
  files_at n = (user_view shape list (user_at n)).files

  abbrev key_at : ℕ → FileEntry → FileKey
  key_at n e = key_of n e.tag.0 e.version.0

  abbrev keys_at : ℕ → List FileKey
  keys_at n = map (key_at n) (files_at n)

  file_known : (user : UserId) (e : FileEntry) → Contains (user_view shape list user).files e → Contains (users_in list) user.0
  file_known user e c = elim (user_or_none list user) [
    | inl here ↦ here
    | inr none ↦ absurd (contains_nothing e (subst (λ (v : View). Contains v.files e) (no_commands_view shape list user none) c))
  ]

  pub most_files : (files : FinMap key_cmp Entry)
      → ((q : UserId) (t : Tag) (v : Version) → IsSome (get files (key_of q.0 t.0 v.0)) → (e : FileEntry) × (entry_at (user_view shape list q).files (t, v) ≡ Some e))
      → len files ≤ 16384
  most_files files among =
      let few = few_keys key_total key_exact (λ (k : FileKey). true) files (flat_map keys_at (users_in list)) (λ k t some.
      let user : UserId = user_at k.user in
      let tag : Tag = record { 0 = k.tag } in
      let version : Version = record { 0 = k.version } in
      let e = among user tag version some in
      let f = found_entry (files_at k.user) (tag, version) e.0 e.1 in
      let same : key_at k.user e.0 ≡ k = λ i. record { user = k.user; tag = (f.0 i).0.0; version = (f.0 i).1.0 } in
      in_flat keys_at (users_in list) k.user k (file_known user e.0 f.1) (subst (Contains (keys_at k.user)) same (in_map (key_at k.user) (files_at k.user) e.0 f.1))) in
      let all = all_keys files in
      let long = joined_len keys_at (users_in list) in
      let same = same_sums (λ (n : ℕ). length (keys_at n)) (λ (n : ℕ). length (files_at n)) (users_in list) (λ n. length-map (files_at n) (key_at n)) in
      let most = within.files list rest is in
      omega (arith, few, all, long, same, most)

  -- ---- places

  -- each fingerprint that was sent is that of a string that is laid
  sent_laid : (fp : Fp) → Contains (map fingerprint (strings_in list)) fp → Contains (map fingerprint (laid_strings whole)) fp
  sent_laid fp c =
      let s = from_map fingerprint (strings_in list) fp c in
      let all : Contains (strings_in whole) s.0 =
      subst (λ (l : List (List ℕ)). Contains l s.0) (sym (ap strings_in is ∙ flat_map-append strings_of list rest)) (Contains-append_left (strings_in list) (strings_in rest) s.0 s.1) in
      let found = found_from (has_fingerprint fp) (strings_in whole) s.0 all (is_held fp s.0 s.2) in
      let passes = found_passes (has_fingerprint fp) (laid_strings whole) found.0 (find_new fp [] (strings_in whole) refl ∙ found.1) in
      subst (Contains (map fingerprint (laid_strings whole))) ((fp_same (fingerprint found.0) fp).0 passes.0)
      (in_map fingerprint (laid_strings whole) found.0 passes.1)

  pub most_places : (places : FinMap fp_cmp Place) → ((fp : Fp) → IsSome (get places fp.0) → Contains (map fingerprint (strings_in list)) fp) → len places ≤ 262144
  most_places places among =
      let fps = map fingerprint (laid_strings whole) in
      let few = few_keys fp_total fp_exact (λ (k : List ℕ). true) places (map (λ (fp : Fp). fp.0) fps) (λ k t some.
      in_map (λ (fp : Fp). fp.0) fps (record { 0 = k }) (sent_laid (record { 0 = k }) (among (record { 0 = k }) some))) in
      let all = all_keys places in
      let one = length-map fps (λ (fp : Fp). fp.0) in
      let two = length-map (laid_strings whole) fingerprint in
      let most = within.fps in
      omega (arith, few, all, one, two, most)

-- ---- owners behind a Put

not_some : (o : Option ℕ) → (IsSome o → ⊥) → o ≡ None
not_some None none = refl
not_some (Some n) none = absurd (none refl)

pub owners_after : (g : Ground) (inside : Bool) (user : UserId) (m : Memory) (items : List PutItem) → AreRight g inside user m items
    → len (with_items user m items).owners ≡ len m.owners + length items
owners_after g inside user m [] right = omega arith
owners_after g inside user m (item ∷ items) right =
    let free : get m.owners (owner_of user.0 item.fp.0) ≡ None = not_some (get m.owners (owner_of user.0 item.fp.0)) right.0.new in
    let one : len (with_item user m item).owners ≡ len m.owners + 1 =
    len-insert owner_total m.owners (owner_of user.0 item.fp.0) 0 ∙ ap (λ (o : Option ℕ). cond (is_some o) (len m.owners) (len m.owners + 1)) free in
    let rest = owners_after g inside user (with_item user m item) items right.1 in
    omega (arith, one, rest)
