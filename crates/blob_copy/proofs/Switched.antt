-- The memory of a store whose copies are all there, once it is moved to them.
use Rattle.std.proofs.Common.{◌≡◌, ℕ, ◌+◌, ◌*◌, ◌-◌, ◌^◌, ◌<◌, ◌≤◌, List, [], ◌∷◌, length, Option, Some, refl, sym, ap, ◌∙◌, subst, arith, inl, inr}
use Rattle.std.specs.Prelude.{All, unwrap_or}
use Rattle.std.specs.FinMap.{get}
use Rattle.std.specs.List.{Contains, sum_by}
use Rattle.std.proofs.lemmas.List.Elements.{All-contains}
use Rattle.std.proofs.lemmas.List.Sums.{sum_by-cons}
use Rattle.compact_lists.specs.CdBase.ids.Fp.{Fp}
use Rattle.compact_lists.specs.CdBase.ids.Tag.{Tag}
use Rattle.compact_lists.specs.CdBase.ids.UserId.{UserId}
use Rattle.compact_lists.specs.CdBase.ids.Version.{Version}
use Rattle.compact_lists.specs.CdBase.place.Place.{Place}
use Rattle.fresh_checkpoints.specs.CdEdges.area.Area.TheVariants.{Shares, Recipes}
use Rattle.fresh_checkpoints.specs.CdEdges.Disk.{Cloud}
use Rattle.record_laws.specs.ContainerLog.Laying.{Placed, IsAt}
use Rattle.record_laws.specs.ContainerLog.Places.{container_len, end_after, end_of_laid}
use Rattle.record_laws.proofs.ContainerLog.Least.{place_behind}
use Rattle.record_laws.specs.FileIndex.key.Entry.{Entry}
use Rattle.record_laws.specs.FileIndex.key.FileKey.{FileKey}
use Rattle.record_laws.specs.FileIndex.Files.{key_of}
use Rattle.compact_lists.specs.UserDedup.command.Command.{Command}
use Rattle.compact_lists.specs.UserDedup.file_list.FileEntry.{FileEntry}
use Rattle.compact_lists.specs.UserDedup.Cloud.{counted, user_view, held_bytes}
use Rattle.compact_lists.specs.UserDedup.Compact.{compact}
use Rattle.compact_lists.specs.UserDedup.Pages.{entry_at}
use Rattle.compact_lists.specs.UserDedup.Spending.{spent_by_all, IsWithin}
use Rattle.compact_lists.proofs.UserDedup.Owned.{contains_nothing, contains_cases}
use Rattle.compact_lists.proofs.UserDedup.CompactSound.{compact_sound}
use Rattle.compact_lists.proofs.UserDedup.Compacting.{same_entries, same_held}
use Rattle.fresh_checkpoints.specs.CloudAreas.Chains.{laid_shares, least_shares, least_recipes}
use Rattle.fresh_checkpoints.specs.CloudAreas.Placing.{region_start, end_of, greatest_end, places_of, shares_in, recipes_in}
use Rattle.fresh_checkpoints.specs.CloudAreas.Standing.{Chain}
use Rattle.fresh_checkpoints.proofs.CloudAreas.Ends.{end_bound}
use Rattle.fresh_checkpoints.proofs.CloudAreas.Summing.{place_of_commit}
use Rattle.fresh_checkpoints.specs.CloudMemory.cloud.CloudMemory.{CloudMemory}
use Rattle.fresh_checkpoints.specs.CloudMemory.Fitting.{FitsRecords}
use Rattle.fresh_checkpoints.specs.CloudMemory.Memory.{Memory, Remembers, Stand, HasEnds}
use Rattle.fresh_checkpoints.specs.CloudMemory.Rooms.{memory_of}
use Rattle.fresh_checkpoints.specs.Checkpoints.Known.{AreListed}
use Rattle.fresh_checkpoints.specs.Checkpoints.Records.{records_of}
use Rattle.fresh_checkpoints.proofs.Checkpoints.Given.{shares_given, commit_given, recipe_given}
use Rattle.fresh_checkpoints.proofs.Checkpoints.Sought.{from_picked}
use Rattle.compact_lists.proofs.RoomLaws as rooms
use Rattle.fresh_checkpoints.specs.CompactMemories.Kept.{live_at, live_places, live_entries}
use Rattle.fresh_checkpoints.specs.CompactMemories.Moved.{other_region, new_places, lens_of, new_entries, entry_lens, IsMoved, entry_place, PlacesLie}
use Rattle.fresh_checkpoints.proofs.CompactMemories.Copies.{bound, ends}
use Rattle.fresh_checkpoints.proofs.CompactMemories.Keeping as keeping
use Rattle.fresh_checkpoints.proofs.CompactMemories.Live.{live_gives, live_from}
use Rattle.fresh_checkpoints.proofs.CompactMemories.Lying.{places_lie}
use Rattle.fresh_checkpoints.proofs.CompactMemories.Moving.{moved_like}
use Rattle.fresh_checkpoints.proofs.CompactMemories.Sums.{shares_few, recipes_few}
use Rattle.fresh_checkpoints.proofs.CloudAreas.Lists.{in_map, from_map}
use Rattle.fresh_checkpoints.specs.Fresh.{IsNextMemory}
use Rattle.cloud_store.specs.declared.store.CloudStore.{CloudStore}
use Rattle.cloud_store.proofs.CloudAreas.Laid.{moves}
use Rattle.blob_copy.specs.declared.copying.Copying.{Copying}
use Rattle.blob_copy.specs.Copying.{copies_start, AreAllCopied, EntriesLie, IsCopying}

-- ---- entries, one behind another

abbrev Item : Type 0
Item = FileKey × Entry

abbrev len_of : Item → ℕ
len_of x = x.1.len

pub entries_bound : (end : ℕ) (ys : List Item) → end_of_laid end (entry_lens ys) ≤ end + 2 * sum_by len_of ys
entries_bound end [] = omega arith
entries_bound end (y ∷ ys) = omega (arith, moves end y.1.len, entries_bound (end_after end y.1.len) ys, sum_by-cons len_of y ys)

entries_behind : (end : ℕ) (ys : List Item) → end ≤ end_of_laid end (entry_lens ys)
entries_behind end [] = omega arith
entries_behind end (y ∷ ys) = omega (arith, place_behind end y.1.len, entries_behind (end_after end y.1.len) ys)

entries_end : (end : ℕ) (ys : List Item) (y : Item) → Contains (new_entries end ys) y → end_of (entry_place y.1) ≤ end_of_laid end (entry_lens ys)
entries_end end [] y c = absurd (contains_nothing y c)
entries_end end (x ∷ ys) y c =
    elim (contains_cases _ (new_entries (end_after end x.1.len) ys) y c) [
      | inl same ↦
          subst (λ (z : Item). end_of (entry_place z.1) ≤ end_of_laid (end_after end x.1.len) (entry_lens ys)) same (entries_behind (end_after end x.1.len) ys)
      | inr later ↦ entries_end (end_after end x.1.len) ys y later
    ]

places_behind : (end : ℕ) (xs : List (Fp × Place)) → end ≤ end_of_laid end (lens_of xs)
places_behind end [] = omega arith
places_behind end (x ∷ xs) = omega (arith, place_behind end x.1.len, places_behind (end_after end x.1.len) xs)

-- ---- bounds that are raised

lie_more : (region a b more most : ℕ) (m : Memory) → a ≤ more → b ≤ most → PlacesLie region a b m → PlacesLie region more most m
lie_more region a b more most m one two lie = record {
  shares = λ fp p at. let s = lie.shares fp p at in let e = s.1 in (s.0, omega (arith, e, one));
  shares_apart = lie.shares_apart;
  recipes = λ key e at. let s = lie.recipes key e at in let f = s.1 in (s.0, omega (arith, f, two));
  recipes_apart = lie.recipes_apart;
}

-- ---- what is alive fits a container

module _ (old : CloudMemory) (l : AreListed old) (fit : FitsRecords (memory_of old)) where
  pub shares_small : (x : Fp × Place) → Contains (live_places old) x → x.1.len ≤ container_len
  shares_small x c =
      let s = from_picked (live_at old.shares.owners) refl old.shares.place_slots x c in
      let g = live_gives old.shares.owners s.entry x s.picks in
      let most = (fit.shares s.entry.0 s.entry.1 (l.places.listed s.slot s.entry.0 s.entry.1 s.here)).1 in
      let same : s.entry.1.len ≡ x.1.len = ap (λ (y : Fp × Place). y.1.len) g.1 in
      omega (arith, most, same)

  pub entries_small : (x : Item) → Contains (live_entries old) x → x.1.len ≤ container_len
  entries_small x c =
      let s = from_picked (λ (e : Option Item). e) refl old.files.slots x c in
      let two : Some s.entry ≡ Some x = s.picks in
      let same : s.entry ≡ x = cc in
      let len : s.entry.1.len ≡ x.1.len = ap len_of same in
      let most = fit.short s.entry.0 s.entry.1 (l.entries.listed s.slot s.entry.0 s.entry.1 s.here) in
      omega (arith, most, len)

-- ---- where a moved memory ends

module _ (region : ℕ) (old new : CloudMemory) (moved : IsMoved region old (memory_of new)) (k : AreListed new) where
  share_end : (p : Place) → Contains (places_of (shares_in (records_of new))) p → end_of p ≤ new.shares_end
  share_end p c =
      let x = from_map (λ (y : Fp × Place). y.1) (shares_in (records_of new)) p c in
      let at = shares_given new k x.0 x.1 in
      let among = (moved.places x.0.0 x.0.1).0 at in
      let near = All-contains (λ (y : Fp × Place). end_of y.1 ≤ end_of_laid (region_start region) (lens_of (live_places old))) (new_places (region_start region) (live_places old)) x.0 (ends region (live_places old)) among in
      subst (λ (q : Place). end_of q ≤ new.shares_end) x.2 (subst (λ (n : ℕ). end_of x.0.1 ≤ n) (sym moved.shares_end) near)

  pub shares_end_behind : greatest_end (region_start region) (places_of (shares_in (records_of new))) ≤ new.shares_end
  shares_end_behind =
      end_bound (region_start region) new.shares_end (places_of (shares_in (records_of new)))
      (subst (λ (n : ℕ). region_start region ≤ n) (sym moved.shares_end) (places_behind (region_start region) (live_places old))) share_end

  recipe_end : (p : Place) → Contains (recipes_in (records_of new)) p → end_of p ≤ new.recipes_end
  recipe_end p c =
      let g = recipe_given new k p c in
      let n = commit_given new k g.0 g.1 in
      let near = entries_end (region_start region) (live_entries old) (n.key, n.entry) ((moved.files n.key n.entry).0 n.at) in
      let close : end_of (entry_place n.entry) ≤ new.recipes_end = subst (λ (e : ℕ). end_of (entry_place n.entry) ≤ e) (sym moved.recipes_end) near in
      let same : entry_place n.entry ≡ place_of_commit g.0 = ap place_of_commit n.is in
      elim (contains_cases (place_of_commit g.0) [] p g.2) [
        | inl is ↦ subst (λ (q : Place). end_of q ≤ new.recipes_end) (same ∙ is) close
        | inr none ↦ absurd (contains_nothing p none)
      ]

  pub recipes_end_behind : greatest_end (region_start region) (recipes_in (records_of new)) ≤ new.recipes_end
  recipes_end_behind =
      end_bound (region_start region) new.recipes_end (recipes_in (records_of new))
      (subst (λ (n : ℕ). region_start region ≤ n) (sym moved.recipes_end) (entries_behind (region_start region) (live_entries old))) recipe_end

-- ---- the memory of the compact list

module _ (list : List Command) (c : Chain) (store : CloudStore) (copying : Copying) (cloud : Cloud) (is : IsCopying list c store copying cloud)
    (all : AreAllCopied store copying) (fit : FitsRecords (memory_of store.memory)) (l : AreListed store.memory)
    (new : CloudMemory) (moved : IsMoved (other_region store.region) store.memory (memory_of new)) (k : AreListed new) where
  abbrev kept : List Command
  kept = compact store.header.shape list

  abbrev other : ℕ
  other = other_region store.region

  pub remembers_kept : Remembers store.header.shape kept (memory_of new)
  remembers_kept =
      keeping.moved store.header.shape store.header.cloud.0 other list store.memory.spent store.memory (memory_of new) is.knows.read.sound is.knows.remembers l moved
      (λ user past. keeping.past store.header.shape list (memory_of store.memory) user is.knows.remembers past)

  pub within_kept : IsWithin store.header.shape store.header.rooms kept
  within_kept = rooms.stays store.header.shape store.header.cloud.0 store.header.rooms list is.knows.read.sound is.knows.within

  -- ---- what it places stands in the areas

  shares_lie : All (IsAt (cloud.now Shares).read) (laid_shares list (new_places (copies_start store) (live_places store.memory)))
  shares_lie = subst (λ (xs : List (Fp × Place)). All (IsAt (cloud.now Shares).read) (laid_shares list (new_places (copies_start store) xs))) all.places is.shares_lie

  string_lies : (fp : Fp) (place : Place) → get new.shares.places fp.0 ≡ Some place → IsAt (cloud.now Shares).read (record { place = place.at; blob = held_bytes kept fp })
  string_lies fp place at =
      let laid : Fp × Place → Placed = λ x. record { place = x.1.at; blob = held_bytes list x.0 } in
      let copies = new_places (copies_start store) (live_places store.memory) in
      let among = in_map laid copies (fp, place) ((moved.places fp place).0 at) in
      let lies = All-contains (IsAt (cloud.now Shares).read) (laid_shares list copies) (laid (fp, place)) shares_lie among in
      let f = (moved_like store.memory l other (memory_of new) moved).from fp place at in
      let alive = (live_from store.header.shape list store.memory is.knows.remembers l fp f.0 f.1).0 in
      subst (λ (o : Option (List ℕ)). IsAt (cloud.now Shares).read (record { place = place.at; blob = unwrap_or o [] })) (sym (same_held store.header.shape list alive.0 fp alive.1)) lies

  entry_lies : (user : UserId) (key : Tag × Version) (e : Entry) (entry : FileEntry) → get new.files.files (key_of user.0 key.0.0 key.1.0) ≡ Some e
      → entry_at (user_view store.header.shape kept user).files key ≡ Some entry → IsAt (cloud.now Recipes).read (record { place = e.at; blob = entry.recipe })
  entry_lies user key e entry got at =
      let lies = subst (λ (xs : List Item). EntriesLie store.header list (cloud.now Recipes).read (new_entries (copies_start store) xs)) all.entries is.recipes_lie in
      lies (key_of user.0 key.0.0 key.1.0) e entry ((moved.files (key_of user.0 key.0.0 key.1.0) e).0 got) (sym (same_entries store.header.shape list user key) ∙ at)

  pub stand_kept : Stand store.header.shape (cloud.now Shares).read (cloud.now Recipes).read kept (memory_of new)
  stand_kept = record { strings = string_lies; entries = entry_lies }

  -- ---- and lies in the other region, not far

  few_shares : sum_by (λ (x : Fp × Place). x.1.len) (live_places store.memory) ≤ (spent_by_all kept).shares
  few_shares = shares_few store.header.shape list store.memory.spent store.memory is.knows.remembers l

  few_recipes : sum_by len_of (live_entries store.memory) ≤ (spent_by_all kept).recipes
  few_recipes = recipes_few store.header.shape list store.memory.spent store.memory is.knows.remembers l

  pub lie_kept : PlacesLie other (least_shares + 2 * (spent_by_all kept).shares) (least_recipes + 2 * (spent_by_all kept).recipes) (memory_of new)
  lie_kept =
      lie_more other (2 * sum_by (λ (x : Fp × Place). x.1.len) (live_places store.memory)) (2 * sum_by len_of (live_entries store.memory))
      (least_shares + 2 * (spent_by_all kept).shares) (least_recipes + 2 * (spent_by_all kept).recipes) (memory_of new)
      (omega (arith, few_shares)) (omega (arith, few_recipes))
      (places_lie other store.memory (memory_of new) moved (shares_small store.memory l fit) (entries_small store.memory l fit))

  pub ends_kept : HasEnds other kept (records_of new) (memory_of new)
  ends_kept = record {
    shares = shares_end_behind other store.memory new moved k;
    shares_bound = omega (arith, moved.shares_end, bound other (live_places store.memory), few_shares);
    recipes = recipes_end_behind other store.memory new moved k;
    recipes_bound = omega (arith, moved.recipes_end, entries_bound (region_start other) (live_entries store.memory), few_recipes);
  }

  -- ---- so a checkpoint of it says the compact list

  number_kept : (commands : ℕ) → commands ≡ length kept → commands < 2 ^ 64 → counted kept ≡ commands
  number_kept commands number small = omega (arith, number, small)

  pub next_kept : (commands : ℕ) → commands ≡ length kept → commands < 2 ^ 64 → store.header.format ≡ 2 → IsNextMemory store.header kept commands other new cloud
  next_kept commands number small format = record {
    sound = compact_sound store.header.shape store.header.cloud.0 list is.knows.read.sound;
    within = within_kept;
    fresh = record {
      format = format;
      remembers = remembers_kept;
      are_listed = k;
      stand = stand_kept;
      lie = lie_kept;
      number = number_kept commands number small;
    };
  }
