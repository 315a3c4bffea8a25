-- A step that copied shares.
use Rattle.std.proofs.Common.{◌≡◌, ◌≢◌, ℕ, ◌+◌, ◌≤◌, IsTrue, true, List, [], ◌++◌, length, map, Some, refl, sym, ap, ◌∙◌, subst, arith, inl, append-nil, length-append}
use Rattle.std.specs.Prelude.{All, Ok, Err}
use Rattle.std.specs.List.{Contains}
use Rattle.std.specs.FinMap.{get}
use Rattle.std.proofs.lemmas.List.{map-append}
use Rattle.std.proofs.lemmas.List.Elements.{All-nil, All-append, All-contains, Contains-append_left, Contains-append_right}
use Rattle.compact_lists.specs.CdBase.ids.Fp.{Fp}
use Rattle.compact_lists.specs.CdBase.place.Place.{Place}
use Rattle.fresh_checkpoints.specs.CdEdges.area.Area.{Area}
use Rattle.fresh_checkpoints.specs.CdEdges.area.Area.TheVariants.{Journal, Shares, Recipes}
use Rattle.fresh_checkpoints.specs.CdEdges.Disk.{Cloud, Store, reads}
use Rattle.fresh_checkpoints.specs.CdEdges.Shelf.{stable, Stays}
use Rattle.fresh_checkpoints.proofs.CdEdges.Moments.{told_on}
use Rattle.record_laws.specs.ContainerLog.Laying.{Placed, IsAt, laid}
use Rattle.record_laws.specs.ContainerLog.Places.{end_of_laid}
use Rattle.record_laws.specs.ContainerLog.States as logs
use Rattle.cloud_store.specs.CommitJournal.States as journals
use Rattle.compact_lists.specs.UserDedup.Cloud.{held_bytes}
use Rattle.compact_lists.specs.UserDedup.command.Command.{Command}
use Rattle.fresh_checkpoints.specs.CloudAreas.Chains.{laid_shares}
use Rattle.fresh_checkpoints.specs.CloudAreas.Placing.{shares_in}
use Rattle.fresh_checkpoints.specs.CloudAreas.Standing.{Chain}
use Rattle.fresh_checkpoints.proofs.CloudAreas.Lists.{in_map}
use Rattle.fresh_checkpoints.specs.CloudDisk.Disk.{Disk, IsRead, SameRooms}
use Rattle.fresh_checkpoints.specs.CloudDisk.Held.{LieIn}
use Rattle.fresh_checkpoints.specs.CloudMemory.Live.{IsEachLive}
use Rattle.fresh_checkpoints.specs.CompactMemories.Kept.{live_at, live_places}
use Rattle.fresh_checkpoints.specs.CompactMemories.Moved.{new_places, lens_of, new_entries, other_region}
use Rattle.cloud_store.specs.declared.store.CloudStore.{CloudStore}
use Rattle.cloud_store.specs.Store.{IsOpen, IsSettled}
use Rattle.blob_copy.specs.Answers.{MatchCopy}
use Rattle.blob_copy.specs.Apart.{IsApart}
use Rattle.blob_copy.specs.Copies.{HasCopied, KeepsBeside, share_blob, copies_end, copies_at, IsRight}
use Rattle.blob_copy.specs.Copying.{IsCopyLaid, IsCopying, Knows, EntriesLie, copies_start, shares_so_far, entries_so_far}
use Rattle.blob_copy.specs.Runs.{CopiesTo, MayTear, HasRotten, all_end, blob_lens, behind_error}
use Rattle.blob_copy.specs.Steps.{IsStep}
use Rattle.blob_copy.specs.declared.copying.CopyErr.{CopyErr}
use Rattle.blob_copy.specs.declared.copying.CopyErr.TheVariants as why
use Rattle.blob_copy.specs.declared.copying.Copying.{Copying}
use Rattle.blob_copy.proofs.Bounds.{parts, share_lens, all_end_is, live_share_at, shares_bound}
use Rattle.blob_copy.proofs.Copied.{all_stay, reaches_within, right, copies_lie, stays_beside, reads_on}
use Rattle.blob_copy.proofs.Gathered.{laid_append}
use Rattle.blob_copy.proofs.Rightly.{share_copies, shares_below, share_sound, new_append}
use Rattle.blob_copy.proofs.Stopped.{on_disk, settled_by, chain_shares_apart, shares_list, shares_images, fault, rotten_stops}

module _ (store : CloudStore) (settled : IsSettled store) (open_now : IsOpen store) (each : IsEachLive store.memory.shares) (from : Copying) (laid_now : IsCopyLaid store from) where
  abbrev All_end : ℕ
  All_end = all_end (live_at store.memory.shares.owners) share_blob store.memory.shares.place_slots from.place_slot store.disk.shares.end

  -- all that is left has room in the region
  pub shares_fit : all_end (live_at store.memory.shares.owners) share_blob store.memory.shares.place_slots from.place_slot store.disk.shares.end ≤ copies_end store
  shares_fit =
      let is = all_end_is (live_at store.memory.shares.owners) store.memory.shares.place_slots share_blob from.place_slot (copies_start store) store.disk.shares.end
      (laid_now.shares_end ∙ ap (end_of_laid (copies_start store)) (sym (share_lens (shares_so_far store from)))) in
      let bound = shares_bound store settled open_now each (other_region store.region) in
      omega (arith, is, bound)

  pub shares_within : all_end (live_at store.memory.shares.owners) share_blob store.memory.shares.place_slots from.place_slot store.disk.shares.end ≤ store.disk.shares.limit
  shares_within = let fit = shares_fit in let limit = settled.shares_limit in let small = settled.region in omega (arith, fit, limit, small)

  module _ (old new : Cloud) (disk : Disk) (disk_is : disk ≡ record store.disk { shares = disk.shares }) (tear : IsTrue old.told → MayTear store.disk.shares All_end old new) where
    same_rooms : disk.shares.area ≡ store.disk.shares.area → disk.shares.limit ≡ store.disk.shares.limit → SameRooms store.disk disk
    same_rooms area limit = record {
      start = ap (λ (d : Disk). d.journal.start) disk_is;
      limit = ap (λ (d : Disk). d.journal.limit) disk_is;
      shares_area = area;
      shares_limit = limit;
      recipes_area = ap (λ (d : Disk). d.recipes.area) disk_is;
      recipes_limit = ap (λ (d : Disk). d.recipes.limit) disk_is;
    }

    -- an error
    pub shares_stop : (after : Disk) (e : CopyErr) → after ≡ behind_error e disk → (to : ℕ → Type 0)
        → MatchCopy {T = ℕ} (Err e) to (disk.shares ≡ record store.disk.shares { kept = disk.shares.kept })
        (λ named found. (disk.shares ≡ store.disk.shares) × Stays old new × (IsTrue old.told → HasRotten share_blob (live_places store.memory) (logs.in_area store.disk.shares old) named found))
        → IsStep store (on_disk store after) from from old new (Err e)
    shares_stop after why.Fault is to m =
        let base = same_rooms (ap (λ (l : logs.State). l.area) m) (ap (λ (l : logs.State). l.limit) m) in
        fault store settled open_now from laid_now old new (shares_list store settled open_now from laid_now old new All_end shares_fit tear) (shares_images store settled open_now from laid_now old new All_end shares_fit tear) after
        (record {
          start = ap (λ (d : Disk). d.journal.start) is ∙ base.start;
          limit = ap (λ (d : Disk). d.journal.limit) is ∙ base.limit;
          shares_area = ap (λ (d : Disk). d.shares.area) is ∙ base.shares_area;
          shares_limit = ap (λ (d : Disk). d.shares.limit) is ∙ base.shares_limit;
          recipes_area = ap (λ (d : Disk). d.recipes.area) is ∙ base.recipes_area;
          recipes_limit = ap (λ (d : Disk). d.recipes.limit) is ∙ base.recipes_limit;
        }) (ap (λ (d : Disk). d.journal.stage) is)
    shares_stop after (why.Rotten named found) is to m =
        let area = settled.disk.shares in
        rotten_stops store settled open_now from laid_now old new (shares_list store settled open_now from laid_now old new All_end shares_fit tear) (shares_images store settled open_now from laid_now old new All_end shares_fit tear) after
        (is ∙ disk_is ∙ ap (λ (l : logs.State). let d : Disk = record store.disk { shares = l } in d) m.0) m.1 named found
        (λ told. inl (subst (λ (a : Area). HasRotten share_blob (live_places store.memory) (old.now a).read named found) area (m.2 told)))
        (λ list c copying.
        let r = subst (λ (a : Area). HasRotten share_blob (live_places store.memory) (old.now a).read named found) area (m.2 copying.knows.read.told) in
        share_sound list c store from old copying r.0 (live_share_at store settled open_now each r.0 r.1) named found r.2 r.3)
    shares_stop after why.Long is to m = absurd m

    -- some were copied
    module _ (told_is : new.told ≡ old.told) (to : ℕ) (k : CopiesTo (live_at store.memory.shares.owners) share_blob store.memory.shares.place_slots from.place_slot to store.disk.shares disk.shares old new) where
      abbrev next : Copying
      next = record { place_slot = to; file_slot = from.file_slot }

      area_is : disk.shares.area ≡ store.disk.shares.area
      area_is = ap (λ (l : logs.State). l.area) k.same

      laid_next : IsCopyLaid (on_disk store disk) next
      laid_next = record {
        shares_end =
            k.end_is
            ∙ ap (λ (n : ℕ). end_of_laid n (blob_lens (map share_blob k.more))) laid_now.shares_end
            ∙ ap (end_of_laid (end_of_laid (copies_start store) (lens_of (shares_so_far store from)))) (share_lens k.more)
            ∙ sym (laid_append (copies_start store) (lens_of (shares_so_far store from)) (lens_of k.more))
            ∙ ap (end_of_laid (copies_start store)) (sym (map-append (λ (x : Fp × Place). x.1.len) (shares_so_far store from) k.more))
            ∙ ap (λ (xs : List (Fp × Place)). end_of_laid (copies_start store) (lens_of xs)) (sym k.reaches);
        recipes_end = ap (λ (d : Disk). d.recipes.end) disk_is ∙ laid_now.recipes_end;
        shares_none = k.none;
        recipes_none = subst (λ (l : logs.State). logs.HasStaged l []) (sym (ap (λ (d : Disk). d.recipes) disk_is)) laid_now.recipes_none;
      }

      module _ (told : IsTrue old.told) where
        others : (other : Area) → other ≢ Shares → new.now other ≡ old.now other
        others other ne = k.others told other (λ e. ne (e ∙ settled.disk.shares))

        stays : (b : Placed) → IsApart store.disk.shares.end (laid store.disk.shares.end k.strings) b → IsAt (old.now Shares).read b → IsAt (new.now Shares).read b
        stays b apart at =
            subst (λ (a : Area). IsAt (new.now a).read b) settled.disk.shares
            (k.apart told b apart (subst (λ (a : Area). IsAt (old.now a).read b) (sym settled.disk.shares) at))

        lie : All (IsAt (new.now Shares).read) (copies_at (old.now Shares).read store.disk.shares.end (map share_blob k.more))
        lie = subst (λ (a : Area). All (IsAt (new.now a).read) (copies_at (old.now a).read store.disk.shares.end (map share_blob k.more))) settled.disk.shares
            (copies_lie (live_at store.memory.shares.owners) share_blob store.memory.shares.place_slots from.place_slot to store.disk.shares disk.shares old new k told)

        beside : KeepsBeside store old new
        beside = record {
          journal = others Journal (λ e. cc);
          shares = λ b side at.
              subst (λ (a : Area). IsAt (new.now a).read b) settled.disk.shares
              (stays_beside (live_at store.memory.shares.owners) share_blob store.memory.shares.place_slots from.place_slot to store.disk.shares disk.shares old new k told (copies_end store) shares_fit b side
              (subst (λ (a : Area). IsAt (old.now a).read b) (sym settled.disk.shares) at));
          recipes = λ b side at. subst (λ (s : Store). IsAt s.read b) (sym (others Recipes (λ e. cc))) at;
        }

        has_copied : HasCopied store from next (reads old.now) (reads new.now)
        has_copied = record {
          shares = k.more;
          entries = [];
          shares_more = k.reaches;
          entries_more = sym (append-nil (entries_so_far store from));
          shares_right = subst (λ (a : Area). All (IsRight (old.now a).read) (map share_blob k.more)) settled.disk.shares
              (right (live_at store.memory.shares.owners) share_blob store.memory.shares.place_slots from.place_slot to store.disk.shares disk.shares old new k told);
          entries_right = All-nil (IsRight (old.now Recipes).read);
          shares_lie = lie;
          entries_lie = All-nil (IsAt (new.now Recipes).read);
        }

      module _ (list : List Command) (c : Chain) (is : IsCopying list c store from old) where
        told : IsTrue old.told
        told = is.knows.read.told

        -- what is alive has its place
        alive : (xs rest : List (Fp × Place)) → live_places store.memory ≡ xs ++ rest → (x : Fp × Place) → Contains xs x → get store.memory.shares.places x.0.0 ≡ Some x.1
        alive xs rest whole x among = live_share_at store settled open_now each x (subst (λ (ys : List (Fp × Place)). Contains ys x) (sym whole) (Contains-append_left xs rest x among))

        so_far : (x : Fp × Place) → Contains (shares_so_far store from) x → get store.memory.shares.places x.0.0 ≡ Some x.1
        so_far = alive (shares_so_far store from) _ (parts (live_at store.memory.shares.owners) store.memory.shares.place_slots from.place_slot)

        more : (x : Fp × Place) → Contains k.more x → get store.memory.shares.places x.0.0 ≡ Some x.1
        more x among = alive (shares_so_far store next) _ (parts (live_at store.memory.shares.owners) store.memory.shares.place_slots to) x
            (subst (λ (ys : List (Fp × Place)). Contains ys x) (sym k.reaches) (Contains-append_right (shares_so_far store from) k.more x among))

        chain_lie : LieIn (laid_shares list (shares_in c.records)) (new.now Shares).read
        chain_lie = all_stay (IsApart store.disk.shares.end (laid store.disk.shares.end k.strings)) (old.now Shares).read (new.now Shares).read (laid_shares list (shares_in c.records)) (stays told)
            (chain_shares_apart store settled open_now from laid_now old new list c is (laid store.disk.shares.end k.strings)
            (let within = reaches_within (live_at store.memory.shares.owners) share_blob store.memory.shares.place_slots from.place_slot to store.disk.shares disk.shares old new k in let fit = shares_fit in omega (arith, within, fit)))
            is.knows.read.holds.shares

        on_disk_still : (area : Area) → new.now area ≡ stable (new.now area).read
        on_disk_still Shares = subst (λ (a : Area). new.now a ≡ stable (new.now a).read) settled.disk.shares (k.on_disk told (is.knows.read.on_disk store.disk.shares.area))
        on_disk_still Journal = let same = others told Journal (λ e. cc) in same ∙ is.knows.read.on_disk Journal ∙ ap (λ (s : Store). stable s.read) (sym same)
        on_disk_still Recipes = let same = others told Recipes (λ e. cc) in same ∙ is.knows.read.on_disk Recipes ∙ ap (λ (s : Store). stable s.read) (sym same)

        knows : Knows list c (on_disk store disk) new
        knows = record {
          read = subst (λ (j : journals.JournalState). IsRead store.header list c j new) (sym (ap (λ (d : Disk). d.journal) disk_is))
              (reads_on store.header list c store.disk.journal old new is.knows.read (told_on old new told_is told) (others told Journal (λ e. cc)) on_disk_still chain_lie
              (subst (λ (s : Store). LieIn c.recipes s.read) (sym (others told Recipes (λ e. cc))) is.knows.read.holds.recipes));
          remembers = is.knows.remembers;
          placed = is.knows.placed;
          stand = record {
            strings = λ fp place got.
                All-contains (IsAt (new.now Shares).read) (laid_shares list (shares_in c.records)) (record { place = place.at; blob = held_bytes list fp }) chain_lie
                (in_map (λ (x : Fp × Place). let b : Placed = record { place = x.1.at; blob = held_bytes list x.0 } in b) (shares_in c.records) (fp, place) ((is.knows.placed.shares fp place).0 got));
            entries = λ user key e entry got at.
                subst (λ (s : Store). IsAt s.read (record { place = e.at; blob = entry.recipe })) (sym (others told Recipes (λ e. cc))) (is.knows.stand.entries user key e entry got at);
          };
          within = is.knows.within;
          ends = is.knows.ends;
          number = is.knows.number;
          region_is = is.knows.region_is;
        }

        new_lie : All (IsAt (new.now Shares).read) (laid_shares list (new_places (copies_start store) (shares_so_far store next)))
        new_lie = subst (λ (ps : List Placed). All (IsAt (new.now Shares).read) ps) (sym split) (All-append (IsAt (new.now Shares).read) first second first_lie second_lie)
          where
            first : List Placed
            first = laid_shares list (new_places (copies_start store) (shares_so_far store from))

            second : List Placed
            second = laid_shares list (new_places store.disk.shares.end k.more)

            split : laid_shares list (new_places (copies_start store) (shares_so_far store next)) ≡ first ++ second
            split =
                ap (λ (xs : List (Fp × Place)). laid_shares list (new_places (copies_start store) xs)) k.reaches
                ∙ ap (laid_shares list) (new_append (copies_start store) (shares_so_far store from) k.more)
                ∙ map-append (λ (x : Fp × Place). let b : Placed = record { place = x.1.at; blob = held_bytes list x.0 } in b) (new_places (copies_start store) (shares_so_far store from)) (new_places (end_of_laid (copies_start store) (lens_of (shares_so_far store from))) k.more)
                ∙ ap (λ (n : ℕ). first ++ laid_shares list (new_places n k.more)) (sym laid_now.shares_end)

            first_lie : All (IsAt (new.now Shares).read) first
            first_lie = all_stay (λ (b : Placed). b.place + length b.blob ≤ store.disk.shares.end) (old.now Shares).read (new.now Shares).read first (λ b front at. stays told b (inl front) at)
                (subst (λ (n : ℕ). All (λ (b : Placed). b.place + length b.blob ≤ n) first) (sym laid_now.shares_end) (shares_below list c store from old is (copies_start store) (shares_so_far store from) so_far))
                is.shares_lie

            second_lie : All (IsAt (new.now Shares).read) second
            second_lie = subst (λ (ps : List Placed). All (IsAt (new.now Shares).read) ps) (share_copies list c store from old is store.disk.shares.end k.more more) (lie told)

        copying_on : IsCopying list c (on_disk store disk) next new
        copying_on = record {
          knows = knows;
          laid = laid_next;
          shares_area = area_is ∙ settled.disk.shares;
          recipes_area = ap (λ (d : Disk). d.recipes.area) disk_is ∙ settled.disk.recipes;
          shares_agree = subst (λ (a : Area). logs.Agrees disk.shares (new.now a).read) (area_is ∙ settled.disk.shares)
              (k.agrees told (subst (λ (a : Area). logs.Agrees store.disk.shares (old.now a).read) (sym settled.disk.shares) is.shares_agree));
          recipes_agree = subst (λ (l : logs.State). logs.Agrees l (new.now Recipes).read) (sym (ap (λ (d : Disk). d.recipes) disk_is))
              (subst (λ (s : Store). logs.Agrees store.disk.recipes s.read) (sym (others told Recipes (λ e. cc))) is.recipes_agree);
          shares_lie = new_lie;
          recipes_lie = subst (λ (s : Store). EntriesLie store.header list s.read (new_entries (copies_start store) (entries_so_far store from))) (sym (others told Recipes (λ e. cc))) is.recipes_lie;
        }

      pub shares_step : IsStep store (on_disk store disk) from (record from { place_slot = to }) old new (Ok true)
      shares_step = record {
        any_moment = shares_list store settled open_now from laid_now old new All_end shares_fit tear;
        copying = copying_on;
        never_wrong = λ list c is. tt;
        copied = has_copied;
        beside = beside;
        images = shares_images store settled open_now from laid_now old new All_end shares_fit tear;
        fits = tt;
        kept = tt;
        stays = tt;
        further =
            let longer = ap length k.reaches in let both = length-append (shares_so_far store from) k.more in let some = k.some in
            omega (arith, longer, both, some);
        slots = (k.further, omega arith);
        laid = laid_next;
        rotten = λ told. tt;
        same = refl;
        settled = settled_by store settled open_now disk (same_rooms area_is (ap (λ (l : logs.State). l.limit) k.same));
        stage = ap (λ (d : Disk). d.journal.stage) disk_is ∙ open_now;
      }
