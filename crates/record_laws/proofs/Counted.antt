-- No memory of a list within its rooms has more than these.
use Rattle.std.proofs.Common.{◌≡◌, ℕ, ◌+◌, ◌*◌, ◌≤◌, Bool, true, cond, List, length, map, Some, None, refl, sym, ap, ◌∙◌, subst, arith, eqb-true, eq-eqb}
use Rattle.std.specs.Prelude.{◌==◌, IsSome}
use Rattle.std.specs.List.{Contains}
use Rattle.std.specs.FinMap.{FinMap, get, insert, len}
use Rattle.std.proofs.lemmas.List.{length-map}
use Rattle.cd_edges.specs.CdBase.ids.Fp.{Fp}
use Rattle.cd_edges.specs.CdBase.ids.Tag.{Tag}
use Rattle.cd_edges.specs.CdBase.ids.UserId.{UserId}
use Rattle.cd_edges.specs.CdBase.ids.Version.{Version}
use Rattle.cd_edges.specs.CdBase.shape.Shape.{Shape}
use Rattle.record_checks.specs.FileIndex.key.Entry.{Entry}
use Rattle.record_checks.specs.FileIndex.key.FileKey.{FileKey}
use Rattle.record_checks.specs.FileIndex.Files.{key_of}
use Rattle.record_checks.specs.FileIndex.Order.{key_cmp, key_exact}
use Rattle.record_checks.proofs.FileIndex.Order.{key_total}
use Rattle.record_checks.specs.PoolMap.Accounts.{keys_of}
use Rattle.record_checks.specs.JournalStart.rooms.UserRooms.{UserRooms}
use Rattle.record_checks.specs.PoolMap.MapSums.{sum_by-insert_new}
use Rattle.record_checks.specs.ShareIndex.key.Owner.{Owner}
use Rattle.cd_edges.specs.CdBase.place.Place.{Place}
use Rattle.record_checks.specs.ShareIndex.Order.{owner_cmp, owner_of, owner_exact}
use Rattle.cd_edges.specs.CdBase.Order.{fp_cmp, fp_exact}
use Rattle.record_checks.proofs.ShareIndex.Owning.{owner_total}
use Rattle.record_checks.proofs.ShareIndex.Placing.{fp_total}
use Rattle.record_checks.specs.UserDedup.file_list.FileEntry.{FileEntry}
use Rattle.record_checks.specs.UserDedup.Cloud.{fingerprint, no_view}
use Rattle.record_checks.specs.UserDedup.Pages.{entry_at}
use Rattle.record_checks.specs.UserDedup.Pages as pages
use Rattle.record_checks.proofs.UserDedup.Sound.{found_entry}
use Rattle.record_checks.specs.UserDedup.command.Command.{Command}
use Rattle.record_checks.specs.UserDedup.Cloud.{commands_of, strings_in, user_view}
use Rattle.record_checks.specs.UserDedup.Spending.{limits_of, files_limit, IsWithin}
use Rattle.record_checks.proofs.UserDedup.Spending.{each_within}
use Rattle.record_checks.proofs.CloudAreas.Lists.{in_map}
use Rattle.record_checks.proofs.MemoryProofs.FullRooms.{own_few, strings_within}
use Rattle.record_checks.proofs.MemoryProofs.KeyCounts.{few_keys, all_keys}

-- the key of a user's entry, by tag and version
abbrev key_by : UserId → Tag × Version → FileKey
key_by user k = key_of user.0 k.0.0 k.1.0

module _ (shape : Shape) (rooms : UserRooms) (list : List Command) (within : IsWithin shape rooms list) where
  -- of a user's keys, where all are the user's own
  pub owned_within : (owners : FinMap owner_cmp ℕ) (user : UserId) → ((fp : Fp) → IsSome (get owners (owner_of user.0 fp.0)) → Contains (user_view shape list user).own fp)
      → keys_of (λ (k : Owner). k.user) owners user.0 ≤ (limits_of rooms user).owners
  owned_within owners user among =
      let own = (user_view shape list user).own in
      let of : Fp → Owner = λ fp. owner_of user.0 fp.0 in
      let few = few_keys owner_total owner_exact (λ (k : Owner). k.user == user.0) owners (map of own) (λ k t some.
      let fp : Fp = record { 0 = k.fp } in
      let same : owner_of user.0 k.fp ≡ k = λ i. record { user = sym (eqb-true k.user user.0 t) i; fp = k.fp } in
      subst (Contains (map of own)) same (in_map of own fp (among fp (subst (λ (q : Owner). IsSome (get owners q)) (sym same) some)))) in
      let long = length-map own of in
      let most = own_few shape no_view (commands_of user list) in
      let none : length no_view.own ≡ 0 = refl in
      let fits = (each_within shape rooms list user within).owners in
      omega (arith, few, long, most, none, fits)

  -- of places, where all are held
  pub placed_within : (places : FinMap fp_cmp Place) → ((fp : Fp) → IsSome (get places fp.0) → Contains (map fingerprint (strings_in list)) fp) → len places ≤ rooms.users * rooms.owners
  placed_within places among =
      let fps = map fingerprint (strings_in list) in
      let few = few_keys fp_total fp_exact (λ (k : List ℕ). true) places (map (λ (fp : Fp). fp.0) fps) (λ k t some.
      in_map (λ (fp : Fp). fp.0) fps (record { 0 = k }) (among (record { 0 = k }) some)) in
      let all = all_keys places in
      let one = length-map fps (λ (fp : Fp). fp.0) in
      let two = length-map (strings_in list) fingerprint in
      let most = strings_within rooms list (λ q. (each_within shape rooms list q within).owners) in
      omega (arith, few, all, one, two, most)

  -- of a user's entries, where all are in the view
  pub files_within : (files : FinMap key_cmp Entry) (user : UserId)
      → ((t : Tag) (v : Version) → IsSome (get files (key_of user.0 t.0 v.0)) → (e : FileEntry) × (entry_at (user_view shape list user).files (t, v) ≡ Some e))
      → keys_of (λ (k : FileKey). k.user) files user.0 ≤ files_limit rooms user
  files_within files user among =
      let entries = (user_view shape list user).files in
      let keys = map pages.key_of entries in
      let few = few_keys key_total key_exact (λ (k : FileKey). k.user == user.0) files (map (key_by user) keys) (λ k t some.
      let tag : Tag = record { 0 = k.tag } in
      let version : Version = record { 0 = k.version } in
      let same : key_by user (tag, version) ≡ k = λ i. record { user = sym (eqb-true k.user user.0 t) i; tag = k.tag; version = k.version } in
      let e = among tag version (subst (λ (q : FileKey). IsSome (get files q)) (sym same) some) in
      let f = found_entry entries (tag, version) e.0 e.1 in
      subst (Contains (map (key_by user) keys)) same
      (in_map (key_by user) keys (tag, version) (subst (Contains keys) f.0 (in_map pages.key_of entries e.0 f.1)))) in
      let one = length-map keys (key_by user) in
      let two = length-map entries pages.key_of in
      let fits = (each_within shape rooms list user within).files in
      omega (arith, few, one, two, fits)

-- a user's new key is one more
pub more_files : (files : FinMap key_cmp Entry) (user : UserId) (t : Tag) (v : Version) (e : Entry) → get files (key_of user.0 t.0 v.0) ≡ None
    → keys_of (λ (k : FileKey). k.user) (insert files (key_of user.0 t.0 v.0) e) user.0 ≡ 1 + keys_of (λ (k : FileKey). k.user) files user.0
more_files files user t v e none =
    sum_by-insert_new key_total (λ (x : FileKey × Entry). cond (x.0.user == user.0) 1 0) files (key_of user.0 t.0 v.0) e none
    ∙ ap (λ (b : Bool). cond b 1 0 + keys_of (λ (k : FileKey). k.user) files user.0) (eq-eqb user.0 user.0 refl)
