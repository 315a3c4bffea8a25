-- What a store serves stays while its logs are read or nothing is staged, and while its cloud's areas stay.
use Rattle.std.proofs.Common.{◌≡◌, ℕ, ◌+◌, ◌<◌, ◌≤◌, List, Result, Ok, Err, IsTrue, refl, sym, ap, ◌∙◌, subst, arith}
use Rattle.std.specs.Prelude.{MatchResult, IsOk}
use Rattle.checkpoints.specs.CdEdges.area.Area.{Area}
use Rattle.checkpoints.specs.CdEdges.area.Area.TheVariants.{Journal, Shares, Recipes}
use Rattle.checkpoints.specs.CdEdges.Disk.{Areas, Cloud, reads}
use Rattle.checkpoints.specs.CdEdges.Shelf.{stable}
use Rattle.checkpoints.specs.ContainerLog.Places.{container_len}
use Rattle.checkpoints.specs.ContainerLog.States as logs
use Rattle.checkpoints.specs.CommitJournal.States as journals
use Rattle.checkpoints.specs.JournalStart.start.Header.{Header}
use Rattle.checkpoints.specs.JournalHalves.Halves.{half_limit}
use Rattle.checkpoints.specs.UserDedup.command.Command.{Command}
use Rattle.checkpoints.specs.CloudAreas.Placing.{greatest_end, region_start, shares_in, recipes_in, places_of}
use Rattle.checkpoints.specs.CloudAreas.Standing.{Chain, where_of, IsChain, Holds}
use Rattle.checkpoints.specs.CloudDisk.Disk.{Disk, IsOn, IsReadThrough, without_staged, regions_end}
use Rattle.checkpoints.proofs.DiskProofs.Standing.{on_read}
use Rattle.checkpoints.specs.CloudMemory.Memory.{Stand}
use Rattle.checkpoints.specs.CloudMemory.Rooms.{memory_of}
use Rattle.cloud_opening.proofs.Spends.{ends_far}
use Rattle.cloud_store.specs.declared.store.CloudStore.{CloudStore}
use Rattle.cloud_store.specs.Store.{IsOpen, IsSettled, EndsMeet, Serves, ServesBy}
use Rattle.cloud_store.specs.Adding.{unstaged}

-- ---- logs

-- over another disk that stands for the list and ends there too
pub serves_on : (list : List Command) (c : Chain) (s : CloudStore) (disk : Disk) (before after : Cloud) → Serves list c s before → IsOn s.header list c disk after
    → after.now ≡ before.now → disk.shares.end ≡ s.disk.shares.end → disk.recipes.end ≡ s.disk.recipes.end
    → ServesBy s.header list c s.commands s.region s.memory disk after
serves_on list c s disk before after serves on now shares recipes = record {
  known = record {
    on = on;
    remembers = serves.known.remembers;
    placed = serves.known.placed;
    stand = subst (λ (a : Areas). Stand s.header.shape (reads a Shares) (reads a Recipes) list (memory_of s.memory)) (sym now) serves.known.stand;
    within = serves.known.within;
    number = serves.known.number;
    region_is = serves.known.region_is;
  };
  ends = serves.ends;
  shares_end = shares ∙ serves.shares_end;
  recipes_end = recipes ∙ serves.recipes_end;
}

pub reads_serve : (list : List Command) (c : Chain) (old new : CloudStore) (before after : Cloud) → Serves list c old before → new ≡ record old { disk = new.disk }
    → IsReadThrough old.disk new.disk before after → Serves list c new after
reads_serve list c old new before after serves same read =
    let on = on_read old.header list c old.disk new.disk before after serves.known.on read in
    subst (λ (x : CloudStore). Serves list c x after) (sym same)
    (serves_on list c old new.disk before after serves on read.stays.now (ap (λ (l : logs.State). l.end) read.shares.same) (ap (λ (l : logs.State). l.end) read.recipes.same))

-- the disk has other containers kept, or nothing staged
pub settled_on : (s : CloudStore) (disk : Disk) → IsSettled s → disk.journal ≡ s.disk.journal → disk.shares.area ≡ s.disk.shares.area → disk.shares.limit ≡ s.disk.shares.limit
    → disk.recipes.area ≡ s.disk.recipes.area → disk.recipes.limit ≡ s.disk.recipes.limit → IsSettled (record s { disk = disk })
settled_on s disk settled journal shares shares_limit recipes recipes_limit =
    let opened : IsOpen (record s { disk = disk }) → IsOpen s = (λ at_end. ap (λ (j : journals.JournalState). j.stage) (sym journal) ∙ at_end) in record {
      header = settled.header;
      format = settled.format;
      rooms = settled.rooms;
      fit = λ at_end. settled.fit (opened at_end);
      roomy = λ at_end. settled.roomy (opened at_end);
      disk = record { limit = ap (λ (j : journals.JournalState). j.limit) journal ∙ settled.disk.limit; shares = shares ∙ settled.disk.shares; recipes = recipes ∙ settled.disk.recipes };
      shares_limit = shares_limit ∙ settled.shares_limit;
      recipes_limit = recipes_limit ∙ settled.recipes_limit;
      region = settled.region;
    }

pub reads_settled : (old new : CloudStore) → IsSettled old → new ≡ record old { disk = new.disk } → new.disk.journal ≡ old.disk.journal
    → new.disk.shares ≡ record old.disk.shares { kept = new.disk.shares.kept } → new.disk.recipes ≡ record old.disk.recipes { kept = new.disk.recipes.kept } → IsSettled new
reads_settled old new settled same journal shares recipes =
    subst IsSettled (sym same)
    (settled_on old new.disk settled journal (ap (λ (l : logs.State). l.area) shares) (ap (λ (l : logs.State). l.limit) shares) (ap (λ (l : logs.State). l.area) recipes) (ap (λ (l : logs.State). l.limit) recipes))

pub reads_meet : (old new : CloudStore) → EndsMeet old → new ≡ record old { disk = new.disk }
    → new.disk.shares ≡ record old.disk.shares { kept = new.disk.shares.kept } → new.disk.recipes ≡ record old.disk.recipes { kept = new.disk.recipes.kept } → EndsMeet new
reads_meet old new meet same shares recipes =
    subst EndsMeet (sym same)
    (record { shares = ap (λ (l : logs.State). l.end) shares ∙ meet.shares; recipes = ap (λ (l : logs.State). l.end) recipes ∙ meet.recipes })

-- ---- areas

-- a disk stands for what it stood for over a cloud that tells the same of its areas
on_areas : (header : Header) (list : List Command) (c : Chain) (disk : Disk) (old new : Cloud) → new.told ≡ old.told → new.now ≡ old.now → IsOn header list c disk old → IsOn header list c disk new
on_areas header list c disk old new told now on = record {
  read = record {
    told = told ∙ on.read.told;
    sound = on.read.sound;
    on_disk = subst (λ (a : Areas). (area : Area) → a area ≡ stable (a area).read) (sym now) on.read.on_disk;
    limit = on.read.limit;
    ended = subst (λ (a : Areas). journals.IsJournalEnded disk.journal (a Journal) (where_of c)) (sym now) on.read.ended;
    is_chain = subst (λ (a : Areas). IsChain header (half_limit header.rooms) (a Journal).read c) (sym now) on.read.is_chain;
    holds = subst (λ (a : Areas). Holds header (reads a) list c) (sym now) on.read.holds;
  };
  shares = record { area_is = on.shares.area_is; behind = on.shares.behind; agrees = subst (λ (a : Areas). logs.Agrees disk.shares (a disk.shares.area).read) (sym now) on.shares.agrees };
  recipes = record { area_is = on.recipes.area_is; behind = on.recipes.behind; agrees = subst (λ (a : Areas). logs.Agrees disk.recipes (a disk.recipes.area).read) (sym now) on.recipes.agrees };
}

pub areas_serve : (list : List Command) (c : Chain) (s : CloudStore) (old new : Cloud) → new.told ≡ old.told → new.now ≡ old.now → Serves list c s old → Serves list c s new
areas_serve list c s old new told now serves =
    serves_on list c s s.disk old new serves (on_areas s.header list c s.disk old new told now serves.known.on) now refl refl

-- ---- staging

never_full_of : {E : Type 0} (r : Result ℕ E) (P : ℕ → Type 0) (Q : E → Type 0) → MatchResult r P Q → ((e : E) → Q e → ⊥) → IsOk r
never_full_of (Ok v) P Q is never = refl
never_full_of (Err e) P Q is never = absurd (never e is)

-- a log whose end the memory knows has room for what may be staged
pub has_room : {E : Type 0} (s : CloudStore) (log : logs.State) (len end : ℕ) (r : Result ℕ E) (P : ℕ → Type 0) (R : E → Type 0) → log.limit ≡ regions_end → log.end ≡ end → end ≤ 60129542144
    → logs.need_of log len ≤ container_len → MatchResult r P (λ e. (log.limit < log.end + logs.need_of log len) × R e) → IsOk r
has_room s log len end r P R limit meet far need is =
    never_full_of r P (λ e. (log.limit < log.end + logs.need_of log len) × R e) is (λ e past. (let more = past.0 in omega (arith, more, limit, meet, far, need)))

pub far_ends : (s : CloudStore) → IsSettled s → IsOpen s → (s.memory.shares_end ≤ 60129542144) × (s.memory.recipes_end ≤ 37580963840)
far_ends s settled at_end = ends_far s.header.rooms s.region (memory_of s.memory) settled.header.rooms settled.rooms.users settled.region (settled.roomy at_end)
