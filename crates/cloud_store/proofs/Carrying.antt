-- A store that serves a list serves it behind a checkpoint, and with a command more.
use Rattle.std.proofs.Common.{◌≡◌, ◌≢◌, ℕ, false, ◌+◌, ◌≤◌, List, [], ◌∷◌, ◌++◌, length, Option, Some, None, refl, sym, ap, ◌∙◌, subst, arith}
use Rattle.std.specs.Prelude.{All, option_map}
use Rattle.std.specs.List.{Contains}
use Rattle.std.specs.FinMap.{get}
use Rattle.recipe.specs.CdBase.ids.Fp.{Fp}
use Rattle.recipe.specs.CdBase.ids.Tag.{Tag}
use Rattle.recipe.specs.CdBase.ids.UserId.{UserId}
use Rattle.recipe.specs.CdBase.ids.Version.{Version}
use Rattle.checkpoints.specs.CdEdges.area.Area.{Area}
use Rattle.checkpoints.specs.CdEdges.area.Area.TheVariants.{Journal, Shares, Recipes}
use Rattle.checkpoints.specs.CdEdges.Disk.{Store, Cloud, reads}
use Rattle.checkpoints.specs.ContainerLog.Laying.{Placed, IsAt}
use Rattle.checkpoints.specs.FileIndex.key.Entry.{Entry}
use Rattle.checkpoints.specs.FileIndex.Files.{key_of}
use Rattle.checkpoints.specs.JournalStart.start.Header.{Header}
use Rattle.checkpoints.specs.RecordBody.body.CommitBody.{CommitBody}
use Rattle.checkpoints.specs.RecordBody.Spelling.{Body, Commit}
use Rattle.recipe.specs.CdBase.place.Place.{Place}
use Rattle.checkpoints.specs.UserDedup.file_list.FileEntry.{FileEntry}
use Rattle.checkpoints.specs.UserDedup.Pages.{entry_at}
use Rattle.checkpoints.proofs.UserDedup.Owned.{contains_here}
use Rattle.checkpoints.specs.UserDedup.command.Command.{Command}
use Rattle.checkpoints.specs.UserDedup.Cloud.{counted, user_view, held_bytes}
use Rattle.checkpoints.specs.UserDedup.Spending.{IsWithin}
use Rattle.checkpoints.proofs.UserDedup.Filtered.{in_flat}
use Rattle.checkpoints.proofs.UserDedup.Spending.{front_within}
use Rattle.checkpoints.specs.CloudAreas.Adding.{with_record}
use Rattle.checkpoints.specs.CloudAreas.Chains.{IsRecord}
use Rattle.checkpoints.specs.CloudAreas.Placing.{region_start, recipes_in, recipes_placed, shares_end, recipes_end}
use Rattle.checkpoints.specs.CloudAreas.Standing.{Chain}
use Rattle.checkpoints.proofs.CloudAreas.Ends.{end_each}
use Rattle.checkpoints.proofs.CloudAreas.Entries.{share_lies}
use Rattle.checkpoints.specs.CloudDisk.Disk.{Disk, IsOn, KeepsFronts}
use Rattle.checkpoints.specs.CloudMemory.cloud.CloudMemory.{CloudMemory}
use Rattle.checkpoints.specs.CloudMemory.Memory.{Memory, Remembers, IsPlacedBy, HasEnds, Stand, summary, summary_of, commit_of}
use Rattle.checkpoints.specs.CloudMemory.Rooms.{memory_of}
use Rattle.cloud_opening.specs.RecordLaws.Leaving.{record_left, MayHold, RecipesLie}
use Rattle.cloud_opening.proofs.RecordLaws.Known.{few_files, known_user}
use Rattle.cloud_opening.proofs.RecordLaws.Next.{next_left}
use Rattle.checkpoints.specs.Known.{HasCheckpoint, checkpoint_in}
use Rattle.cloud_store.specs.Store.{ServesBy}

-- ---- behind a checkpoint

module _ (header : Header) (list : List Command) (c : Chain) (commands region : ℕ) (memory : CloudMemory) (old new : Disk) (c0 c1 : Cloud)
    (s : ServesBy header list c commands region memory old c0) where
  pub serves_summed : HasCheckpoint header list c commands region memory new c1 → ((other : Area) → other ≢ Journal → c1.now other ≡ c0.now other)
      → new.shares ≡ old.shares → new.recipes ≡ old.recipes
      → ServesBy header list (checkpoint_in header list c commands region memory) commands region memory new c1
  serves_summed has others shares recipes =
      let shares_are = ap (λ d. d.end) shares ∙ s.shares_end in
      let recipes_are = ap (λ d. d.end) recipes ∙ s.recipes_end in
      record {
        known = record {
          on = has.on;
          remembers = s.known.remembers;
          placed = has.placed;
          stand = stand_still;
          within = s.known.within;
          number = s.known.number;
          region_is = refl;
        };
        ends = record {
          shares = omega (arith, has.on.shares.behind, shares_are);
          shares_bound = s.ends.shares_bound;
          recipes = omega (arith, has.on.recipes.behind, recipes_are);
          recipes_bound = s.ends.recipes_bound;
        };
        shares_end = shares_are;
        recipes_end = recipes_are;
      }
    where
      stand_still : Stand header.shape (reads c1.now Shares) (reads c1.now Recipes) list (memory_of memory)
      stand_still =
          subst (λ (a : Store). Stand header.shape a.read (reads c1.now Recipes) list (memory_of memory)) (sym (others Shares (λ e. cc)))
          (subst (λ (a : Store). Stand header.shape (reads c0.now Shares) a.read list (memory_of memory)) (sym (others Recipes (λ e. cc))) s.known.stand)

-- ---- with a command more

-- the recipe of a Commit is among the places of the records
commit_placed : (records : List Body) (b : CommitBody) → Contains records (Commit b) → Contains (recipes_in records) (record { at = b.at; len = b.len })
commit_placed records b here = in_flat recipes_placed records (Commit b) (record { at = b.at; len = b.len }) here (contains_here (record { at = b.at; len = b.len }) [])

-- the memory with the ends of what the records place
abbrev pub ended_by : ℕ → List Body → Memory → Memory
ended_by region records m =
    record { places = m.places; owners = m.owners; files = m.files; spent = m.spent; shares_end = shares_end region records; recipes_end = recipes_end region records }

module _ (header : Header) (list : List Command) (c : Chain) (commands region : ℕ) (memory : CloudMemory) (disk : Disk) (c0 : Cloud)
    (s : ServesBy header list c commands region memory disk c0) where
  -- an entry's recipe ends in front of the log's end
  recipe_in_front : (user : UserId) (key : Tag × Version) (e : Entry) (entry : FileEntry) → get (memory_of memory).files (key_of user.0 key.0.0 key.1.0) ≡ Some e
      → entry_at (user_view header.shape list user).files key ≡ Some entry → e.at + length entry.recipe ≤ disk.recipes.end
  recipe_in_front user key e entry has is =
      let named = s.known.placed.recipes user key.0 key.1 e has in
      let before = end_each (region_start region) (recipes_in c.records) (record { at = e.at; len = e.len }) (commit_placed c.records (commit_of user key.0 key.1 e) named) in
      let same : Some (summary e) ≡ Some (summary_of entry) = sym (ap (option_map summary) has) ∙ s.known.remembers.files user key.0 key.1 ∙ ap (option_map summary_of) is in
      let len : e.len ≡ length entry.recipe = len_same same in
      omega (arith, before, len, s.ends.recipes, s.recipes_end)
    where
      len_or : Option (ℕ × Fp) → ℕ
      len_or None = 0
      len_or (Some x) = x.0

      len_same : Some (summary e) ≡ Some (summary_of entry) → e.len ≡ length entry.recipe
      len_same same = ap len_or same

  -- where the areas keep what lies in front of the ends, and a record more places a recipe where it lies, the recipes lie where the memory
  -- says that the record leaves
  pub lie_after : (command : Command) (body : Body) (laid : List Placed) (c1 : Cloud) → KeepsFronts disk c0 c1 → MayHold header (list ++ command ∷ [])
      → length memory.spent ≡ header.rooms.users → IsRecord region c.records list command body laid → All (IsAt (reads c1.now Recipes)) laid
      → RecipesLie header.shape (reads c1.now Recipes) (list ++ command ∷ [])
      (record_left header.shape (reads c1.now Recipes) false (ended_by region c.records (memory_of memory)) body)
  lie_after command body laid c1 fronts may users is lies =
      (next_left header.shape (reads c1.now Recipes) header.rooms.users region list c.records (ended_by region c.records (memory_of memory)) (record {
        remembers = record {
          placed = s.known.remembers.placed;
          lens = s.known.remembers.lens;
          owners = s.known.remembers.owners;
          files = s.known.remembers.files;
          spent = s.known.remembers.spent;
        };
        placed = record { shares = s.known.placed.shares; recipes = s.known.placed.recipes };
        shares = refl;
        recipes = refl;
        users_are = users;
        lie = λ user tag version e entry has is.
            fronts.recipes _ (recipe_in_front user (tag, version) e entry has is) (s.known.stand.entries user (tag, version) e entry has is);
      }) header.cloud.0 command body laid is may.sound (known_user header.shape header.rooms header.cloud.0 list command may.sound may.within)
      (few_files header.shape header.rooms list (front_within header.shape header.rooms list (command ∷ []) may.within) may.rooms) lies).lie

  pub serves_more : (command : Command) (body : Body) (laid : List Placed) (new : CloudMemory) (more : ℕ) (now : Disk) (c1 : Cloud)
      → IsOn header (list ++ command ∷ []) (with_record c body laid) now c1
      → Remembers header.shape (list ++ command ∷ []) (memory_of new) → IsPlacedBy (c.records ++ body ∷ []) (memory_of new)
      → HasEnds region (list ++ command ∷ []) (c.records ++ body ∷ []) (memory_of new)
      → IsWithin header.shape header.rooms (list ++ command ∷ []) → counted (list ++ command ∷ []) ≡ more
      → now.shares.end ≡ new.shares_end → now.recipes.end ≡ new.recipes_end
      → RecipesLie header.shape (reads c1.now Recipes) (list ++ command ∷ []) (memory_of new)
      → ServesBy header (list ++ command ∷ []) (with_record c body laid) more region new now c1
  serves_more command body laid new more now c1 on remembers placed ends within number shares recipes lie = record {
    known = record {
      on = on;
      remembers = remembers;
      placed = placed;
      stand = record { strings = strings_stand; entries = λ user key e entry has is. lie user key.0 key.1 e entry has is };
      within = within;
      number = number;
      region_is = s.known.region_is;
    };
    ends = ends;
    shares_end = shares;
    recipes_end = recipes;
  }
    where
      longer : Chain
      longer = with_record c body laid

      next : List Command
      next = list ++ command ∷ []

      strings_stand : (fp : Fp) (place : Place) → get (memory_of new).places fp.0 ≡ Some place
          → IsAt (reads c1.now Shares) (record { place = place.at; blob = held_bytes next fp })
      strings_stand fp place has = (share_lies header (reads c1.now) next longer on.read.holds fp place ((placed.shares fp place).0 has)).lies
