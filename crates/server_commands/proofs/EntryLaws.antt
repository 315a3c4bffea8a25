-- An entry's recipe, read by an open store.
use Rattle.std.proofs.Common.{◌≡◌, ◌⊎◌, ℕ, ◌<◌, ◌≤◌, List, [], length, Some, Ok, Err, IsTrue, refl, sym, ap, ◌∙◌, subst}
use Rattle.std.specs.Prelude.{OnOk}
use Rattle.std.specs.FinMap.{get}
use Rattle.server_reads.specs.CdBase.Limits.{recipe_limit}
use Rattle.server_reads.specs.CdBase.ids.Tag.{Tag}
use Rattle.server_reads.specs.CdBase.ids.UserId.{UserId}
use Rattle.server_reads.specs.CdBase.ids.Version.{Version}
use Rattle.server_reads.specs.CdEdges.area.Area.{Area}
use Rattle.server_reads.specs.CdEdges.area.Area.TheVariants.{Shares, Recipes}
use Rattle.server_reads.specs.CdEdges.Disk.{Areas, Cloud, reads}
use Rattle.server_reads.specs.CdEdges.Shelf.{Stays}
use Rattle.server_reads.specs.ContainerLog.Caches.{Kept}
use Rattle.server_reads.specs.ContainerLog.Laying.{Placed, IsAt}
use Rattle.server_reads.specs.ContainerLog.States as logs
use Rattle.server_reads.specs.FileIndex.key.Entry.{Entry}
use Rattle.server_reads.specs.FileIndex.key.FileKey.{FileKey}
use Rattle.server_reads.specs.FileIndex.Files.{key_of}
use Rattle.server_reads.specs.UserDedup.command.Command.{Command}
use Rattle.server_reads.specs.UserDedup.Cloud.{fingerprint, user_view}
use Rattle.cloud_store.specs.CloudAreas.Standing.{Chain}
use Rattle.cloud_store.specs.CloudDisk.Disk.{Disk, IsReadThrough}
use Rattle.server_reads.specs.CloudMemory.Memory.{Memory}
use Rattle.server_reads.specs.CloudMemory.Rooms.{memory_of}
use Rattle.cloud_store.specs.declared.store.CloudStore.{CloudStore}
use Rattle.cloud_store.specs.Store.{Serves}
use Rattle.cloud_store.proofs.Keeping.{reads_serve, reads_settled}
use Rattle.server_reads.specs.declared.blobs.BlobStop.TheVariants as stops
use Rattle.server_reads.specs.Found.{IsOther, IsFoundRecipe, ReadsLog}
use Rattle.server_reads.specs.Reading.{IfRotten}
use Rattle.server_reads.proofs.Held.{entry_stands}
use Rattle.server_reads.proofs.Calling.{Answer}
use Rattle.server_commands.specs.Executing.{IsStoreReady}
use Rattle.server_commands.specs.Steps.{HasOnlyReadRecipes, ReadsFile}

-- ---- what is found

pub names_entry : (r : Answer) (cloud : Cloud) (area : Area) (m : Memory) (key : FileKey) (entry : Entry) → area ≡ Recipes → get m.files key ≡ Some entry
    → IfRotten r (λ named found. named ≡ entry.fp)
    → (IsTrue cloud.told → 1 ≤ entry.len → entry.len ≤ recipe_limit → IfRotten r (λ named found. IsOther (cloud.now area).read entry.at entry.len named found))
    → ((entry.len < 1) ⊎ (recipe_limit < entry.len) → IfRotten r (λ named found. found ≡ fingerprint [])) → IfRotten r (IsFoundRecipe cloud m key)
names_entry (Ok v) cloud area m key entry is kept named lies unfit = tt
names_entry (Err stops.Failed) cloud area m key entry is kept named lies unfit = tt
names_entry (Err (stops.Rotten n f)) cloud area m key entry is kept named lies unfit = record {
  entry = entry;
  kept = kept;
  named_is = named;
  lies = λ told some few. subst (λ (a : Area). IsOther (cloud.now a).read entry.at entry.len n f) is (lies told some few);
  unfit = unfit;
}

-- ---- the list's file

module _ (s : CloudStore) (list : List Command) (c : Chain) (cloud : Cloud) (user : UserId) (tag : Tag) (version : Version) (entry : Entry) (bytes : List ℕ) (r : Answer) where
  pub reads_file : Serves list c s cloud → get (memory_of s.memory).files (key_of user.0 tag.0 version.0) ≡ Some entry → s.disk.recipes.area ≡ Recipes
      → (IsTrue cloud.told → logs.Agrees s.disk.recipes (cloud.now s.disk.recipes.area).read → (b : Placed) → b.place ≡ entry.at → length b.blob ≡ entry.len → fingerprint b.blob ≡ entry.fp
      → IsAt (cloud.now s.disk.recipes.area).read b → OnOk r (bytes ≡ b.blob))
      → (IsTrue cloud.told → 1 ≤ entry.len → entry.len ≤ recipe_limit → (b : Placed) → b.place ≡ entry.at → length b.blob ≡ entry.len → fingerprint b.blob ≡ entry.fp
      → IsAt (cloud.now s.disk.recipes.area).read b → IfRotten r (λ named found. ⊥))
      → ReadsFile (user_view s.header.shape list user).files (tag, version) bytes r
  reads_file serves at area blob whole =
      let known = serves.known in
      let e = entry_stands (reads cloud.now Recipes) s.header.shape s.header.cloud.0 list (memory_of s.memory) user tag version entry (reads cloud.now Shares) known.on.read.sound known.remembers known.stand at in
      let b : Placed = record { place = entry.at; blob = e.file.recipe } in
      let lies : IsAt (cloud.now s.disk.recipes.area).read b = subst (λ (a : Area). IsAt (cloud.now a).read b) (sym area) e.lies in
      record {
        file = e.file;
        here = e.here;
        given = blob known.on.read.told known.on.recipes.agrees b refl e.long e.named lies;
        never = whole known.on.read.told e.some e.few b refl e.long e.named lies;
      }

-- ---- the store

-- the store whose log of the recipes keeps these containers
abbrev pub keeping : CloudStore → List Kept → CloudStore
keeping s kept = record s { disk = record s.disk { recipes = record s.disk.recipes { kept = kept } } }

kept_serves : (s : CloudStore) (kept : List Kept) (before after : Cloud) → Stays before after → after.told ≡ before.told
    → (IsTrue before.told → logs.Agrees s.disk.recipes (before.now s.disk.recipes.area).read → logs.Agrees (keeping s kept).disk.recipes (after.now s.disk.recipes.area).read)
    → (list : List Command) (c : Chain) → Serves list c s before → Serves list c (keeping s kept) after
kept_serves s kept before after stays told agrees list c serves =
    let on = serves.known.on in
    let through : IsReadThrough s.disk (keeping s kept).disk before after = record {
      stays = stays;
      told = told;
      journal = refl;
      shares = record { same = refl; agrees = subst (λ (a : Areas). logs.Agrees s.disk.shares (a s.disk.shares.area).read) (sym stays.now) on.shares.agrees };
      recipes = record { same = refl; agrees = agrees on.read.told on.recipes.agrees };
    } in
    reads_serve list c s (keeping s kept) before after serves refl through

pub only_reads : (s : CloudStore) (disk : Disk) (before after : Cloud) → disk ≡ record s.disk { recipes = disk.recipes } → ReadsLog s.disk.recipes disk.recipes before after
    → Stays before after → after.told ≡ before.told → HasOnlyReadRecipes s (record s { disk = disk }) before after
only_reads s disk before after same log stays told =
    let is : record s { disk = disk } ≡ keeping s disk.recipes.kept =
    ap (λ (d : Disk). record s { disk = d }) (same ∙ ap (λ (l : logs.State). record s.disk { recipes = l }) log.rest) in
    let area : disk.recipes.area ≡ s.disk.recipes.area = ap (λ (l : logs.State). l.area) log.rest in
    let agrees : IsTrue before.told → logs.Agrees s.disk.recipes (before.now s.disk.recipes.area).read → logs.Agrees (keeping s disk.recipes.kept).disk.recipes (after.now s.disk.recipes.area).read =
    (λ t a. subst (λ (x : Area). logs.Agrees disk.recipes (after.now x).read) area (log.agrees t a)) in
    record {
      same = is;
      serves = λ list c serves. subst (λ (x : CloudStore). Serves list c x after) (sym is) (kept_serves s disk.recipes.kept before after stays told agrees list c serves);
    }

pub kept_ready : (s : CloudStore) (kept : List Kept) → IsStoreReady s → IsStoreReady (keeping s kept)
kept_ready s kept ready = record {
  settled = reads_settled s (keeping s kept) ready.settled refl refl refl refl;
  at_end = ready.at_end;
  none = record { shares = ready.none.shares; recipes = record { fit = ready.none.recipes.fit; bytes = ready.none.recipes.bytes } };
  meet = record { shares = ready.meet.shares; recipes = ready.meet.recipes };
}
