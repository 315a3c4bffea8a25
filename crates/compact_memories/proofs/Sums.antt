-- What is alive is no more than the compact list has spent.
use Rattle.std.proofs.Common.{◌≡◌, ℕ, ◌≤◌, Bool, true, false, cond, List, [], ◌∷◌, ◌++◌, length, map, Option, Some, None, refl, sym, ap, ◌∙◌, subst, arith, inl, inr}
use Rattle.std.specs.Prelude.{◌==◌, fold, option_map, unwrap_or}
use Rattle.std.specs.FinMap.{FinMap, get}
use Rattle.std.specs.List.{Contains, sum_by, flat_map}
use Rattle.std.proofs.lemmas.List.Elements.{Contains-append_right}
use Rattle.std.proofs.lemmas.List.Sums.{sum_by-cons, sum_by-append}
use Rattle.compact_lists.specs.CdBase.ids.Fp.{Fp}
use Rattle.compact_lists.specs.CdBase.ids.Tag.{Tag}
use Rattle.compact_lists.specs.CdBase.ids.Version.{Version}
use Rattle.compact_lists.specs.CdBase.shape.Shape.{Shape}
use Rattle.checkpoints.specs.FileIndex.key.Entry.{Entry}
use Rattle.checkpoints.specs.FileIndex.key.FileKey.{FileKey}
use Rattle.compact_lists.specs.CdBase.place.Place.{Place}
use Rattle.checkpoints.specs.ShareIndex.Order.{owner_cmp}
use Rattle.checkpoints.specs.ShareIndex.Shares.{owners_of}
use Rattle.checkpoints.specs.SpentTable.Spent.{Spent as Row}
use Rattle.compact_lists.specs.UserDedup.file_list.FileEntry.{FileEntry}
use Rattle.compact_lists.specs.UserDedup.Strings.{fingerprint}
use Rattle.compact_lists.specs.UserDedup.Cloud.{no_view, view_after, user_view, strings_in, held_bytes, recipes_of}
use Rattle.compact_lists.specs.UserDedup.Pages.{entry_at, sorted_keys, key_of as file_key}
use Rattle.compact_lists.proofs.UserDedup.Owned.{contains_here, contains_later, contains_nothing}
use Rattle.compact_lists.proofs.UserDedup.EntryLists.{found_entry}
use Rattle.compact_lists.specs.UserDedup.command.Command.{Command}
use Rattle.compact_lists.specs.UserDedup.command.Command.TheVariants as commands
use Rattle.compact_lists.specs.UserDedup.Compact.{compact, users_in, user_at, puts_for, commit_at, commits_for}
use Rattle.compact_lists.specs.UserDedup.Spending.{held_len, spent_by_all}
use Rattle.compact_lists.proofs.UserDedup.Compacting.{same_held}
use Rattle.compact_lists.proofs.UserDedup.Filtered.{in_flat}
use Rattle.compact_lists.proofs.UserDedup.Sorting.{keys_have}
use Rattle.checkpoints.proofs.CloudAreas.Counting.{split_at, beside}
use Rattle.checkpoints.specs.CloudMemory.cloud.CloudMemory.{CloudMemory}
use Rattle.checkpoints.specs.CloudMemory.Memory.{Remembers, summary, summary_of}
use Rattle.checkpoints.specs.CloudMemory.Rooms.{memory_of}
use Rattle.checkpoints.specs.Known.{AreListed}
use Rattle.checkpoints.proofs.Sought.{from_picked, apart_picked, map_picked}
use Rattle.checkpoints.proofs.CloudAreas.Apart.{Apart}
use Rattle.checkpoints.proofs.CloudAreas.Lists.{in_map, from_map}
use Rattle.compact_lists.proofs.RoomLaws.{strings_kept}
use Rattle.compact_lists.proofs.Sums.{sum_flat}
use Rattle.compact_memories.specs.Kept.{live_at, live_places, live_entries}
use Rattle.compact_memories.proofs.Live.{live_from}
use Rattle.compact_memories.proofs.Numbers.{no_commands, member}
use Rattle.compact_memories.specs.Tables.{with_table}

-- ---- where each of some things has another of its key that is no less, and their keys are apart

less : {X Y K : Type 0} (kx : X → K) (ky : Y → K) (f : X → ℕ) (g : Y → ℕ) (xs : List X) (ys : List Y) → Apart (map kx xs)
    → ((x : X) → Contains xs x → (y : Y) × Contains ys y × (ky y ≡ kx x) × (f x ≤ g y)) → sum_by f xs ≤ sum_by g ys
less kx ky f g [] ys apart among = omega arith
less kx ky f g (x ∷ xs) ys apart among =
    let w = among x (contains_here x xs) in
    let s = split_at ys w.0 w.1 in
    let rest = less kx ky f g xs (s.before ++ s.after) apart.1 (λ z c.
    let v = among z (contains_later x xs z c) in (
      v.0,
      beside s.before s.after w.0 v.0
          (λ same. apart.0 (subst (Contains (map kx xs)) (sym v.2 ∙ ap ky (sym same) ∙ w.2) (in_map kx xs z c)))
          (subst (λ l. Contains l v.0) s.is v.1),
      v.2,
      v.3,
    )) in
    let all = ap (sum_by g) s.is ∙ sum_by-append g s.before (w.0 ∷ s.after) in
    let one = sum_by-cons g w.0 s.after in
    let both = sum_by-append g s.before s.after in
    let first = sum_by-cons f x xs in
    let le = w.3 in
    omega (arith, rest, all, one, both, first, le)

-- ---- keys

pub fp_live : (owners : FinMap owner_cmp ℕ) (e : List ℕ × Place) (fp : Fp) → option_map (λ (x : Fp × Place). x.0) (live_at owners (Some e)) ≡ Some fp → e.0 ≡ fp.0
fp_live owners e fp is = by_test (owners_of owners e.0 == 0) is
  where
    by_test : (b : Bool) → option_map (λ (x : Fp × Place). x.0) (cond b None (Some (record { 0 = e.0 }, e.1))) ≡ Some fp → e.0 ≡ fp.0
    by_test true e_none = absurd (let f : ◌≡◌ {A = Option Fp} None (Some fp) = e_none in cc)
    by_test false same = let f : ◌≡◌ {A = Option Fp} (Some (record { 0 = e.0 })) (Some fp) = same in let g : ◌≡◌ {A = Fp} (record { 0 = e.0 }) fp = cc in ap (λ (x : Fp). x.0) g

unfoldable pub first_of : Option (ℕ × Fp) → ℕ
first_of None = 0
first_of (Some p) = p.0

entry_there : (o : Option FileEntry) (e : Entry) → Some (summary e) ≡ option_map summary_of o → (entry : FileEntry) × (o ≡ Some entry) × (e.len ≡ length entry.recipe)
unfolding first_of
entry_there None e is = absurd (let no : Some (summary e) ≡ None = is in cc)
entry_there (Some entry) e is = (entry, refl, ap first_of is)

module _ (shape : Shape) (list : List Command) (old : CloudMemory) (r : Remembers shape list (memory_of old)) (l : AreListed old) where
  abbrev kept : List Command
  kept = compact shape list

  -- ---- shares

  places_once : Apart (map (λ (x : Fp × Place). x.0) (live_places old))
  places_once =
      subst (Apart {X = Fp}) (sym (map_picked (live_at old.shares.owners) refl (λ (x : Fp × Place). x.0) old.shares.place_slots))
      (apart_picked (λ o. option_map (λ (x : Fp × Place). x.0) (live_at old.shares.owners o)) refl old.shares.place_slots (λ i j a b fp ia jb fa fb.
      let same : b.0 ≡ a.0 = fp_live old.shares.owners b fp fb ∙ sym (fp_live old.shares.owners a fp fa) in
      l.places.once i j a.0 a.1 b.1 ia (jb ∙ ap (λ (k : List ℕ). Some (k, b.1)) same)))

  string_of : (x : Fp × Place) → Contains (live_places old) x → (s : List ℕ) × Contains (strings_in kept) s × (fingerprint s ≡ x.0) × (x.1.len ≤ held_len kept s)
  string_of x c =
      let f = live_from shape list old r l x.0 x.1 c in
      let s = from_map fingerprint (strings_in kept) x.0 ((strings_kept shape list x.0).1 f.0) in
      let held : length (held_bytes kept (fingerprint s.0)) ≡ x.1.len =
      ap (λ (fp : Fp). length (held_bytes kept fp)) s.2
      ∙ ap (λ (o : Option (List ℕ)). length (unwrap_or o [])) (same_held shape list f.0.0 x.0 f.0.1)
      ∙ sym (r.lens x.0 x.1 f.1) in
      (s.0, s.1, s.2, omega (arith, held))

  shares_less : sum_by (λ (x : Fp × Place). x.1.len) (live_places old) ≤ (spent_by_all kept).shares
  shares_less = less (λ (x : Fp × Place). x.0) fingerprint (λ (x : Fp × Place). x.1.len) (held_len kept) (live_places old) (strings_in kept) places_once string_of

  -- ---- recipes

  abbrev key_at : FileKey × Entry → Option FileKey
  key_at x = Some x.0

  key_of_command : Command → Option FileKey
  key_of_command (commands.Put user shares) = None
  key_of_command (commands.Commit user tag version recipe) = Some (record { user = user.0; tag = tag.0; version = version.0 })
  key_of_command (commands.Delete user tag version) = None

  keys_once : Apart (map key_at (live_entries old))
  keys_once =
      subst (Apart {X = Option FileKey}) (sym (map_picked (λ (o : Option (FileKey × Entry)). o) refl key_at old.files.slots))
      (apart_picked (λ (o : Option (FileKey × Entry)). option_map key_at o) refl old.files.slots (λ i j a b k ia jb fa fb.
      let both : ◌≡◌ {A = Option (Option FileKey)} (Some (Some b.0)) (Some (Some a.0)) = fb ∙ sym fa in
      let same : b.0 ≡ a.0 = cc in
      l.entries.once i j a.0 a.1 b.1 ia (jb ∙ ap (λ (k : FileKey). Some (k, b.1)) same)))

  abbrev weight : Command → ℕ
  weight c = sum_by (λ (recipe : List ℕ). length recipe) (recipes_of c)

  entry_from : (key : FileKey) (d : Entry) → Contains (live_entries old) (key, d) → get old.files.files key ≡ Some d
  entry_from key d c =
      let s = from_picked (λ (e : Option (FileKey × Entry)). e) refl old.files.slots (key, d) c in
      let same : s.entry ≡ (key, d) = let two : Some s.entry ≡ Some (key, d) = s.picks in cc in
      l.entries.listed s.slot key d (s.here ∙ ap Some same)

  in_kept : (c : Command) → Contains (flat_map (commits_for shape list) (users_in list)) c → Contains kept c
  unfolding compact
  in_kept c here = Contains-append_right (flat_map (puts_for shape list) (users_in list)) (flat_map (commits_for shape list) (users_in list)) c here

  commit_of : (x : FileKey × Entry) → Contains (live_entries old) x → (c : Command) × Contains kept c × (key_of_command c ≡ key_at x) × (x.1.len ≤ weight c)
  unfolding key_of_command
  commit_of x here =
      let n = x.0.user in
      let files = (user_view shape list (user_at n)).files in
      let key : Tag × Version = (record { 0 = x.0.tag }, record { 0 = x.0.version }) in
      let at = entry_from x.0 x.1 here in
      let e = entry_there (entry_at files key) x.1 (ap (option_map summary) (sym at) ∙ r.files (user_at n) key.0 key.1) in
      let f = found_entry files key e.0 e.1 in
      let c : Command = commands.Commit (user_at n) e.0.tag e.0.version e.0.recipe in
      let known : Contains (users_in list) n = elim (member n (users_in list)) [
        | inl among ↦ among
        | inr lacks ↦ absurd (contains_nothing e.0 (subst (λ (cs : List Command). Contains (fold (view_after shape) no_view cs).files e.0) (no_commands list n lacks) f.1))
      ] in
      let listed = subst (Contains (map file_key files)) f.0 (in_map file_key files e.0 f.1) in
      let commit = subst (λ (o : Option FileEntry). Contains (commit_at (user_at n) o) c) (sym e.1) (contains_here c []) in
      let in_user = in_flat (λ (k : Tag × Version). commit_at (user_at n) (entry_at files k)) (sorted_keys (map file_key files)) key c (keys_have (map file_key files) key listed) commit in
      let is_key : key_of_command c ≡ key_at x = ap (λ (k : Tag × Version). Some (record { user = n; tag = k.0.0; version = k.1.0 })) f.0 in
      let one = sum_by-cons (λ (recipe : List ℕ). length recipe) e.0.recipe [] in
      (c, in_kept c (in_flat (commits_for shape list) (users_in list) n c known in_user), is_key, omega (arith, one, e.2))

  recipes_less : sum_by (λ (x : FileKey × Entry). x.1.len) (live_entries old) ≤ (spent_by_all kept).recipes
  recipes_less =
      let few = less key_at key_of_command (λ (x : FileKey × Entry). x.1.len) weight (live_entries old) kept keys_once commit_of in
      let flat = sum_flat (λ (recipe : List ℕ). length recipe) recipes_of kept in
      omega (arith, few, flat)

-- ---- with another table of what was spent

abbrev other : List Row → CloudMemory → CloudMemory
other table old = record { shares = old.shares; files = old.files; spent = table; shares_end = old.shares_end; recipes_end = old.recipes_end }

pub shares_few : (shape : Shape) (list : List Command) (table : List Row) (old : CloudMemory) → Remembers shape list (with_table table (memory_of old)) → AreListed old
    → sum_by (λ (x : Fp × Place). x.1.len) (live_places old) ≤ (spent_by_all (compact shape list)).shares
shares_few shape list table old r l = shares_less shape list (other table old) r (record { places = l.places; owners = l.owners; entries = l.entries })

pub recipes_few : (shape : Shape) (list : List Command) (table : List Row) (old : CloudMemory) → Remembers shape list (with_table table (memory_of old)) → AreListed old
    → sum_by (λ (x : FileKey × Entry). x.1.len) (live_entries old) ≤ (spent_by_all (compact shape list)).recipes
recipes_few shape list table old r l = recipes_less shape list (other table old) r (record { places = l.places; owners = l.owners; entries = l.entries })
