-- A step that copied recipes.
use Rattle.std.proofs.Common.{◌≡◌, ◌≢◌, ℕ, ◌≤◌, IsTrue, true, List, [], ◌++◌, length, map, Option, Some, refl, sym, ap, ◌∙◌, subst, arith, inl, inr, append-nil, length-append}
use Rattle.std.specs.Prelude.{All, Ok, Err}
use Rattle.std.specs.List.{Contains}
use Rattle.std.specs.FinMap.{get}
use Rattle.std.proofs.lemmas.List.{map-append}
use Rattle.std.proofs.lemmas.List.Elements.{All-nil, All-contains, Contains-append_left, Contains-append_right, Contains-append_cases}
use Rattle.compact_lists.specs.CdBase.ids.Tag.{Tag}
use Rattle.compact_lists.specs.CdBase.ids.UserId.{UserId}
use Rattle.compact_lists.specs.CdBase.ids.Version.{Version}
use Rattle.compact_lists.specs.CdBase.place.Place.{Place}
use Rattle.fresh_checkpoints.specs.CdEdges.area.Area.{Area}
use Rattle.fresh_checkpoints.specs.CdEdges.area.Area.TheVariants.{Journal, Shares, Recipes}
use Rattle.fresh_checkpoints.specs.CdEdges.Disk.{Cloud, Store, reads}
use Rattle.fresh_checkpoints.specs.CdEdges.Shelf.{stable, Stays}
use Rattle.fresh_checkpoints.proofs.CdEdges.Moments.{told_on}
use Rattle.record_laws.specs.ContainerLog.Laying.{Placed, IsAt, laid}
use Rattle.record_laws.specs.ContainerLog.Places.{end_of_laid}
use Rattle.record_laws.specs.ContainerLog.States as logs
use Rattle.record_laws.specs.FileIndex.key.Entry.{Entry}
use Rattle.record_laws.specs.FileIndex.key.FileKey.{FileKey}
use Rattle.record_laws.specs.FileIndex.Files.{key_of}
use Rattle.cloud_store.specs.CommitJournal.States as journals
use Rattle.record_laws.specs.PoolMap.Slots.{IsListed}
use Rattle.compact_lists.specs.UserDedup.command.Command.{Command}
use Rattle.compact_lists.specs.UserDedup.file_list.FileEntry.{FileEntry}
use Rattle.compact_lists.specs.UserDedup.Cloud.{user_view, held_bytes}
use Rattle.compact_lists.specs.UserDedup.Pages.{entry_at}
use Rattle.compact_lists.proofs.UserDedup.Filtered.{in_flat}
use Rattle.compact_lists.proofs.UserDedup.Owned.{contains_here}
use Rattle.fresh_checkpoints.specs.CloudAreas.Chains.{laid_shares}
use Rattle.fresh_checkpoints.specs.CloudAreas.Placing.{shares_in, recipes_in, recipes_placed}
use Rattle.fresh_checkpoints.specs.CloudAreas.Standing.{Chain}
use Rattle.fresh_checkpoints.proofs.CloudAreas.Lists.{from_map}
use Rattle.fresh_checkpoints.specs.CloudDisk.Disk.{Disk, IsRead, SameRooms}
use Rattle.fresh_checkpoints.specs.CloudDisk.Held.{LieIn}
use Rattle.fresh_checkpoints.proofs.CloudDiskLaws.Ends.{recipes_said, place_at}
use Rattle.fresh_checkpoints.specs.CompactMemories.Kept.{live_entries}
use Rattle.fresh_checkpoints.specs.CompactMemories.Moved.{new_places, new_entries, entry_lens, other_region}
use Rattle.cloud_store.specs.declared.store.CloudStore.{CloudStore}
use Rattle.cloud_store.specs.Store.{IsOpen, IsSettled}
use Rattle.blob_copy.specs.Answers.{MatchCopy}
use Rattle.blob_copy.specs.Apart.{IsApart}
use Rattle.blob_copy.specs.Copies.{HasCopied, KeepsBeside, entry_blob, found_in, copies_end, copies_at, IsRight}
use Rattle.blob_copy.specs.Copying.{IsCopyLaid, IsCopying, Knows, EntriesLie, copies_start, shares_so_far, entries_so_far}
use Rattle.blob_copy.specs.Runs.{CopiesTo, MayTear, HasRotten, all_end, blob_lens, behind_error}
use Rattle.blob_copy.specs.Steps.{IsStep}
use Rattle.blob_copy.specs.declared.copying.CopyErr.{CopyErr}
use Rattle.blob_copy.specs.declared.copying.CopyErr.TheVariants as why
use Rattle.blob_copy.specs.declared.copying.Copying.{Copying}
use Rattle.blob_copy.proofs.Bounds.{parts, recipe_lens, all_end_is, live_entry_at, recipes_bound}
use Rattle.blob_copy.proofs.Copied.{all_stay, reaches_within, right, copies_lie, stays_beside, reads_on}
use Rattle.blob_copy.proofs.Gathered.{laid_append}
use Rattle.blob_copy.proofs.Rightly.{recipe_long, recipe_found, recipe_sound, entries_append, was_moved}
use Rattle.blob_copy.proofs.Stopped.{on_disk, settled_by, chain_recipes_apart, recipes_list, recipes_images, fault, rotten_stops}

module _ (store : CloudStore) (settled : IsSettled store) (open_now : IsOpen store) (each : IsListed store.memory.files.files store.memory.files.slots) (from : Copying) (laid_now : IsCopyLaid store from) where
  abbrev All_end : ℕ
  All_end = all_end (λ (e : Option (FileKey × Entry)). e) entry_blob store.memory.files.slots from.file_slot store.disk.recipes.end

  -- all that is left has room in the region
  pub recipes_fit : all_end (λ (e : Option (FileKey × Entry)). e) entry_blob store.memory.files.slots from.file_slot store.disk.recipes.end ≤ copies_end store
  recipes_fit =
      let is = all_end_is (λ (e : Option (FileKey × Entry)). e) store.memory.files.slots entry_blob from.file_slot (copies_start store) store.disk.recipes.end
      (laid_now.recipes_end ∙ ap (end_of_laid (copies_start store)) (sym (recipe_lens (entries_so_far store from)))) in
      let bound = recipes_bound store settled open_now each (other_region store.region) in
      omega (arith, is, bound)

  pub recipes_within : all_end (λ (e : Option (FileKey × Entry)). e) entry_blob store.memory.files.slots from.file_slot store.disk.recipes.end ≤ store.disk.recipes.limit
  recipes_within = let fit = recipes_fit in let limit = settled.recipes_limit in let small = settled.region in omega (arith, fit, limit, small)

  module _ (old new : Cloud) (disk : Disk) (disk_is : disk ≡ record store.disk { recipes = disk.recipes }) (tear : IsTrue old.told → MayTear store.disk.recipes All_end old new) where
    same_rooms : disk.recipes.area ≡ store.disk.recipes.area → disk.recipes.limit ≡ store.disk.recipes.limit → SameRooms store.disk disk
    same_rooms area limit = record {
      start = ap (λ (d : Disk). d.journal.start) disk_is;
      limit = ap (λ (d : Disk). d.journal.limit) disk_is;
      shares_area = ap (λ (d : Disk). d.shares.area) disk_is;
      shares_limit = ap (λ (d : Disk). d.shares.limit) disk_is;
      recipes_area = area;
      recipes_limit = limit;
    }

    -- an error
    pub recipes_stop : (after : Disk) (e : CopyErr) → after ≡ behind_error e disk → (to : ℕ → Type 0)
        → MatchCopy {T = ℕ} (Err e) to (disk.recipes ≡ record store.disk.recipes { kept = disk.recipes.kept })
        (λ named found. (disk.recipes ≡ store.disk.recipes) × Stays old new × (IsTrue old.told → HasRotten entry_blob (live_entries store.memory) (logs.in_area store.disk.recipes old) named found))
        → IsStep store (on_disk store after) from from old new (Err e)
    recipes_stop after why.Fault is to m =
        let base = same_rooms (ap (λ (l : logs.State). l.area) m) (ap (λ (l : logs.State). l.limit) m) in
        fault store settled open_now from laid_now old new (recipes_list store settled open_now from laid_now old new All_end recipes_fit tear) (recipes_images store settled open_now from laid_now old new All_end recipes_fit tear) after
        (record {
          start = ap (λ (d : Disk). d.journal.start) is ∙ base.start;
          limit = ap (λ (d : Disk). d.journal.limit) is ∙ base.limit;
          shares_area = ap (λ (d : Disk). d.shares.area) is ∙ base.shares_area;
          shares_limit = ap (λ (d : Disk). d.shares.limit) is ∙ base.shares_limit;
          recipes_area = ap (λ (d : Disk). d.recipes.area) is ∙ base.recipes_area;
          recipes_limit = ap (λ (d : Disk). d.recipes.limit) is ∙ base.recipes_limit;
        }) (ap (λ (d : Disk). d.journal.stage) is)
    recipes_stop after (why.Rotten named found) is to m =
        let area = settled.disk.recipes in
        rotten_stops store settled open_now from laid_now old new (recipes_list store settled open_now from laid_now old new All_end recipes_fit tear) (recipes_images store settled open_now from laid_now old new All_end recipes_fit tear) after
        (is ∙ disk_is ∙ ap (λ (l : logs.State). let d : Disk = record store.disk { recipes = l } in d) m.0) m.1 named found
        (λ told. inr (subst (λ (a : Area). HasRotten entry_blob (live_entries store.memory) (old.now a).read named found) area (m.2 told)))
        (λ list c copying.
        let r = subst (λ (a : Area). HasRotten entry_blob (live_entries store.memory) (old.now a).read named found) area (m.2 copying.knows.read.told) in
        recipe_sound list c store from old copying r.0 (live_entry_at store settled open_now each r.0 r.1) named found r.2 r.3)
    recipes_stop after why.Long is to m = absurd m

    -- some were copied
    module _ (told_is : new.told ≡ old.told) (to : ℕ) (k : CopiesTo (λ (e : Option (FileKey × Entry)). e) entry_blob store.memory.files.slots from.file_slot to store.disk.recipes disk.recipes old new) where
      abbrev next : Copying
      next = record { place_slot = from.place_slot; file_slot = to }

      area_is : disk.recipes.area ≡ store.disk.recipes.area
      area_is = ap (λ (l : logs.State). l.area) k.same

      laid_next : IsCopyLaid (on_disk store disk) next
      laid_next = record {
        shares_end = ap (λ (d : Disk). d.shares.end) disk_is ∙ laid_now.shares_end;
        recipes_end =
            k.end_is
            ∙ ap (λ (n : ℕ). end_of_laid n (blob_lens (map entry_blob k.more))) laid_now.recipes_end
            ∙ ap (end_of_laid (end_of_laid (copies_start store) (entry_lens (entries_so_far store from)))) (recipe_lens k.more)
            ∙ sym (laid_append (copies_start store) (entry_lens (entries_so_far store from)) (entry_lens k.more))
            ∙ ap (end_of_laid (copies_start store)) (sym (map-append (λ (x : FileKey × Entry). x.1.len) (entries_so_far store from) k.more))
            ∙ ap (λ (xs : List (FileKey × Entry)). end_of_laid (copies_start store) (entry_lens xs)) (sym k.reaches);
        shares_none = subst (λ (l : logs.State). logs.HasStaged l []) (sym (ap (λ (d : Disk). d.shares) disk_is)) laid_now.shares_none;
        recipes_none = k.none;
      }

      module _ (told : IsTrue old.told) where
        others : (other : Area) → other ≢ Recipes → new.now other ≡ old.now other
        others other ne = k.others told other (λ e. ne (e ∙ settled.disk.recipes))

        stays : (b : Placed) → IsApart store.disk.recipes.end (laid store.disk.recipes.end k.strings) b → IsAt (old.now Recipes).read b → IsAt (new.now Recipes).read b
        stays b apart at =
            subst (λ (a : Area). IsAt (new.now a).read b) settled.disk.recipes
            (k.apart told b apart (subst (λ (a : Area). IsAt (old.now a).read b) (sym settled.disk.recipes) at))

        lie : All (IsAt (new.now Recipes).read) (copies_at (old.now Recipes).read store.disk.recipes.end (map entry_blob k.more))
        lie = subst (λ (a : Area). All (IsAt (new.now a).read) (copies_at (old.now a).read store.disk.recipes.end (map entry_blob k.more))) settled.disk.recipes
            (copies_lie (λ (e : Option (FileKey × Entry)). e) entry_blob store.memory.files.slots from.file_slot to store.disk.recipes disk.recipes old new k told)

        beside : KeepsBeside store old new
        beside = record {
          journal = others Journal (λ e. cc);
          shares = λ b side at. subst (λ (s : Store). IsAt s.read b) (sym (others Shares (λ e. cc))) at;
          recipes = λ b side at.
              subst (λ (a : Area). IsAt (new.now a).read b) settled.disk.recipes
              (stays_beside (λ (e : Option (FileKey × Entry)). e) entry_blob store.memory.files.slots from.file_slot to store.disk.recipes disk.recipes old new k told (copies_end store) recipes_fit b side
              (subst (λ (a : Area). IsAt (old.now a).read b) (sym settled.disk.recipes) at));
        }

        has_copied : HasCopied store from next (reads old.now) (reads new.now)
        has_copied = record {
          shares = [];
          entries = k.more;
          shares_more = sym (append-nil (shares_so_far store from));
          entries_more = k.reaches;
          shares_right = All-nil (IsRight (old.now Shares).read);
          entries_right = subst (λ (a : Area). All (IsRight (old.now a).read) (map entry_blob k.more)) settled.disk.recipes
              (right (λ (e : Option (FileKey × Entry)). e) entry_blob store.memory.files.slots from.file_slot to store.disk.recipes disk.recipes old new k told);
          shares_lie = All-nil (IsAt (new.now Shares).read);
          entries_lie = lie;
        }

      module _ (list : List Command) (c : Chain) (is : IsCopying list c store from old) where
        told : IsTrue old.told
        told = is.knows.read.told

        -- what is alive is an entry
        alive : (xs rest : List (FileKey × Entry)) → live_entries store.memory ≡ xs ++ rest → (x : FileKey × Entry) → Contains xs x → get store.memory.files.files x.0 ≡ Some x.1
        alive xs rest whole x among = live_entry_at store settled open_now each x (subst (λ (ys : List (FileKey × Entry)). Contains ys x) (sym whole) (Contains-append_left xs rest x among))

        so_far : (x : FileKey × Entry) → Contains (entries_so_far store from) x → get store.memory.files.files x.0 ≡ Some x.1
        so_far = alive (entries_so_far store from) _ (parts (λ (e : Option (FileKey × Entry)). e) store.memory.files.slots from.file_slot)

        more : (x : FileKey × Entry) → Contains k.more x → get store.memory.files.files x.0 ≡ Some x.1
        more x among = alive (entries_so_far store next) _ (parts (λ (e : Option (FileKey × Entry)). e) store.memory.files.slots to) x
            (subst (λ (ys : List (FileKey × Entry)). Contains ys x) (sym k.reaches) (Contains-append_right (entries_so_far store from) k.more x among))

        chain_apart : All (IsApart store.disk.recipes.end (laid store.disk.recipes.end k.strings)) c.recipes
        chain_apart = chain_recipes_apart store settled open_now from laid_now old new list c is (laid store.disk.recipes.end k.strings)
            (let within = reaches_within (λ (e : Option (FileKey × Entry)). e) entry_blob store.memory.files.slots from.file_slot to store.disk.recipes disk.recipes old new k in let fit = recipes_fit in omega (arith, within, fit))

        chain_lie : LieIn c.recipes (new.now Recipes).read
        chain_lie = all_stay (IsApart store.disk.recipes.end (laid store.disk.recipes.end k.strings)) (old.now Recipes).read (new.now Recipes).read c.recipes (stays told) chain_apart is.knows.read.holds.recipes

        on_disk_still : (area : Area) → new.now area ≡ stable (new.now area).read
        on_disk_still Recipes = subst (λ (a : Area). new.now a ≡ stable (new.now a).read) settled.disk.recipes (k.on_disk told (is.knows.read.on_disk store.disk.recipes.area))
        on_disk_still Journal = let same = others told Journal (λ e. cc) in same ∙ is.knows.read.on_disk Journal ∙ ap (λ (s : Store). stable s.read) (sym same)
        on_disk_still Shares = let same = others told Shares (λ e. cc) in same ∙ is.knows.read.on_disk Shares ∙ ap (λ (s : Store). stable s.read) (sym same)

        -- where an entry's recipe lies is where the chain places one
        entry_apart : (user : UserId) (key : Tag × Version) (e : Entry) (entry : FileEntry) → get store.memory.files.files (key_of user.0 key.0.0 key.1.0) ≡ Some e
            → entry_at (user_view store.header.shape list user).files key ≡ Some entry → IsApart store.disk.recipes.end (laid store.disk.recipes.end k.strings) (record { place = e.at; blob = entry.recipe })
        entry_apart user key e entry got at =
            let p : Place = record { at = e.at; len = e.len } in
            let placed = in_flat recipes_placed c.records _ p (is.knows.placed.recipes user key.0 key.1 e got) (contains_here p []) in
            let said : recipes_in c.records ≡ map place_at c.recipes = recipes_said _ _ _ _ _ c.records list c.recipes is.knows.read.holds.says in
            let b = from_map place_at c.recipes p (subst (λ (ps : List Place). Contains ps p) said placed) in
            let place_is : b.0.place ≡ e.at = ap (λ (q : Place). q.at) b.2 in
            let len_is : length b.0.blob ≡ e.len = ap (λ (q : Place). q.len) b.2 in
            let long = recipe_long list c store from old is (key_of user.0 key.0.0 key.1.0) e entry got at in
            by_side b.0 place_is len_is long (All-contains (IsApart store.disk.recipes.end (laid store.disk.recipes.end k.strings)) c.recipes b.0 chain_apart b.1)
          where
            by_side : (b : Placed) → b.place ≡ e.at → length b.blob ≡ e.len → length entry.recipe ≡ e.len → IsApart store.disk.recipes.end (laid store.disk.recipes.end k.strings) b
                → IsApart store.disk.recipes.end (laid store.disk.recipes.end k.strings) (record { place = e.at; blob = entry.recipe })
            by_side b place_is len_is long (inl front) = inl (omega (arith, place_is, len_is, long, front))
            by_side b place_is len_is long (inr behind) = inr (omega (arith, place_is, behind))

        knows : Knows list c (on_disk store disk) new
        knows = record {
          read = subst (λ (j : journals.JournalState). IsRead store.header list c j new) (sym (ap (λ (d : Disk). d.journal) disk_is))
              (reads_on store.header list c store.disk.journal old new is.knows.read (told_on old new told_is told) (others told Journal (λ e. cc)) on_disk_still
              (subst (λ (s : Store). LieIn (laid_shares list (shares_in c.records)) s.read) (sym (others told Shares (λ e. cc))) is.knows.read.holds.shares) chain_lie);
          remembers = is.knows.remembers;
          placed = is.knows.placed;
          stand = record {
            strings = λ fp place got. subst (λ (s : Store). IsAt s.read (record { place = place.at; blob = held_bytes list fp })) (sym (others told Shares (λ e. cc))) (is.knows.stand.strings fp place got);
            entries = λ user key e entry got at.
                stays told (record { place = e.at; blob = entry.recipe }) (entry_apart user key e entry got at) (is.knows.stand.entries user key e entry got at);
          };
          within = is.knows.within;
          ends = is.knows.ends;
          number = is.knows.number;
          region_is = is.knows.region_is;
        }

        new_lie : EntriesLie store.header list (new.now Recipes).read (new_entries (copies_start store) (entries_so_far store next))
        new_lie key e entry among at =
            elim (Contains-append_cases first second (key, e) (subst (λ (ys : List (FileKey × Entry)). Contains ys (key, e)) split among)) [
              | inl before ↦ was_before before
              | inr behind ↦ was_copied behind
            ]
          where
            first : List (FileKey × Entry)
            first = new_entries (copies_start store) (entries_so_far store from)

            second : List (FileKey × Entry)
            second = new_entries store.disk.recipes.end k.more

            split : new_entries (copies_start store) (entries_so_far store next) ≡ first ++ second
            split =
                ap (new_entries (copies_start store)) k.reaches
                ∙ entries_append (copies_start store) (entries_so_far store from) k.more
                ∙ ap (λ (n : ℕ). new_entries (copies_start store) (entries_so_far store from) ++ new_entries n k.more) (sym laid_now.recipes_end)

            was_before : Contains first (key, e) → IsAt (new.now Recipes).read (record { place = e.at; blob = entry.recipe })
            was_before before =
                let w = was_moved (old.now Recipes).read (copies_start store) (entries_so_far store from) key e before in
                let long = recipe_long list c store from old is key w.before entry (so_far (key, w.before) w.among) at in
                let len = w.len_is in let below = w.below in let ends = laid_now.recipes_end in
                stays told (record { place = e.at; blob = entry.recipe }) (inl (omega (arith, long, len, below, ends))) (is.recipes_lie key e entry before at)

            was_copied : Contains second (key, e) → IsAt (new.now Recipes).read (record { place = e.at; blob = entry.recipe })
            was_copied behind =
                let w = was_moved (old.now Recipes).read store.disk.recipes.end k.more key e behind in
                let found = recipe_found list c store from old is key w.before entry (more (key, w.before) w.among) at in
                subst (λ (bytes : List ℕ). IsAt (new.now Recipes).read (record { place = e.at; blob = bytes })) found
                (All-contains (IsAt (new.now Recipes).read) (copies_at (old.now Recipes).read store.disk.recipes.end (map entry_blob k.more)) (record { place = e.at; blob = found_in (old.now Recipes).read (entry_blob (key, w.before)) }) (lie told) w.copied)

        copying_on : IsCopying list c (on_disk store disk) next new
        copying_on = record {
          knows = knows;
          laid = laid_next;
          shares_area = ap (λ (d : Disk). d.shares.area) disk_is ∙ settled.disk.shares;
          recipes_area = area_is ∙ settled.disk.recipes;
          shares_agree = subst (λ (l : logs.State). logs.Agrees l (new.now Shares).read) (sym (ap (λ (d : Disk). d.shares) disk_is))
              (subst (λ (s : Store). logs.Agrees store.disk.shares s.read) (sym (others told Shares (λ e. cc))) is.shares_agree);
          recipes_agree = subst (λ (a : Area). logs.Agrees disk.recipes (new.now a).read) (area_is ∙ settled.disk.recipes)
              (k.agrees told (subst (λ (a : Area). logs.Agrees store.disk.recipes (old.now a).read) (sym settled.disk.recipes) is.recipes_agree));
          shares_lie = subst (λ (s : Store). All (IsAt s.read) (laid_shares list (new_places (copies_start store) (shares_so_far store from)))) (sym (others told Shares (λ e. cc))) is.shares_lie;
          recipes_lie = new_lie;
        }

      pub recipes_step : IsStep store (on_disk store disk) from (record from { file_slot = to }) old new (Ok true)
      recipes_step = record {
        any_moment = recipes_list store settled open_now from laid_now old new All_end recipes_fit tear;
        copying = copying_on;
        never_wrong = λ list c is. tt;
        copied = has_copied;
        beside = beside;
        images = recipes_images store settled open_now from laid_now old new All_end recipes_fit tear;
        fits = tt;
        kept = tt;
        stays = tt;
        further =
            let longer = ap length k.reaches in let both = length-append (entries_so_far store from) k.more in let some = k.some in
            omega (arith, longer, both, some);
        slots = (omega arith, k.further);
        laid = laid_next;
        rotten = λ told. tt;
        same = refl;
        settled = settled_by store settled open_now disk (same_rooms area_is (ap (λ (l : logs.State). l.limit) k.same));
        stage = ap (λ (d : Disk). d.journal.stage) disk_is ∙ open_now;
      }
