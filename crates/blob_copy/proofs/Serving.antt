-- A store that was switched to its copies serves the compact list, and has room.
use Rattle.std.proofs.Common.{◌≡◌, ◌≢◌, ℕ, ◌≤◌, List, [], length, Result, Ok, Err, refl, sym, ap, ◌∙◌, subst, arith, append-nil}
use Rattle.std.specs.Prelude.{OnOk}
use Rattle.compact_lists.specs.CdBase.ids.UserId.{UserId}
use Rattle.compact_lists.specs.CdBase.place.Place.{Place}
use Rattle.fresh_checkpoints.specs.CdEdges.area.Area.{Area}
use Rattle.fresh_checkpoints.specs.CdEdges.area.Area.TheVariants.{Journal, Shares, Recipes}
use Rattle.fresh_checkpoints.specs.CdEdges.Disk.{Cloud, Store, Image, reads}
use Rattle.fresh_checkpoints.proofs.CdEdges.Moments.{started}
use Rattle.record_laws.specs.ContainerLog.Places.{end_of_laid}
use Rattle.record_laws.specs.ContainerLog.States as logs
use Rattle.cloud_store.specs.CommitJournal.States as journals
use Rattle.fresh_checkpoints.specs.JournalHalves.Halves.{half_limit}
use Rattle.compact_lists.specs.JournalStart.start.Header.{Header}
use Rattle.compact_lists.specs.UserDedup.command.Command.{Command}
use Rattle.compact_lists.specs.UserDedup.Compact.{compact}
use Rattle.compact_lists.specs.UserDedup.Spending.{SpentByUser, UsesWithin, limits_of}
use Rattle.fresh_checkpoints.specs.CloudAreas.Chains.{laid_shares}
use Rattle.fresh_checkpoints.specs.CloudAreas.Placing.{region_start, greatest_end, places_of, shares_in, recipes_in}
use Rattle.fresh_checkpoints.specs.CloudAreas.Standing.{Chain, IsChain, StandsFor}
use Rattle.fresh_checkpoints.specs.CloudDisk.Disk.{Disk, IsRead, IsLogBehind}
use Rattle.fresh_checkpoints.specs.CloudDisk.Held.{LieIn}
use Rattle.fresh_checkpoints.proofs.CloudDiskLaws.Both.{as_read}
use Rattle.fresh_checkpoints.proofs.CloudDiskLaws.Holding.{agrees_as}
use Rattle.fresh_checkpoints.proofs.CloudDiskLaws.Standing.{stands, holds_in}
use Rattle.fresh_checkpoints.specs.CloudMemory.cloud.CloudMemory.{CloudMemory}
use Rattle.fresh_checkpoints.specs.CloudMemory.Fitting.{FitsRecords}
use Rattle.fresh_checkpoints.specs.CloudMemory.Memory.{Remembers, Stand}
use Rattle.fresh_checkpoints.specs.CloudMemory.Rooms.{memory_of}
use Rattle.fresh_checkpoints.specs.Checkpoints.Known.{AreListed, checkpoint_in}
use Rattle.fresh_checkpoints.specs.Checkpoints.Records.{records_of}
use Rattle.fresh_checkpoints.specs.Checkpoints.Settling.{KeepsList}
use Rattle.fresh_checkpoints.specs.CompactMemories.Moved.{other_region, lens_of, entry_lens, IsMoved}
use Rattle.fresh_checkpoints.specs.Fresh.{IsNextMemory}
use Rattle.fresh_checkpoints.proofs.Fresh.{placed}
use Rattle.record_laws.proofs.Sums.{shares_in_rows, recipes_in_rows}
use Rattle.cloud_store.specs.CloudOpening.Roomy.{IsRoomy}
use Rattle.cloud_store.specs.declared.store.CloudStore.{CloudStore}
use Rattle.cloud_store.specs.Store.{ServesBy, ServesSome}
use Rattle.blob_copy.specs.declared.copying.Copying.{Copying}
use Rattle.blob_copy.specs.Copying.{copies_start, IsCopyLaid, AreAllCopied, IsCopying}
use Rattle.blob_copy.proofs.Switched as switched

-- while nothing is done each image stands for the list
pub as_it_was : (header : Header) (list : List Command) (c : Chain) (journal : journals.JournalState) (cloud : Cloud) → IsRead header list c journal cloud → KeepsList header list cloud cloud
as_it_was header list c journal cloud r =
    started cloud (λ (image : Image). StandsFor image header list) (λ image left.
    stands image header list c r.sound
    (subst (λ (bytes : List ℕ). IsChain header (half_limit header.rooms) bytes c) (sym (as_read (cloud.now Journal) (image Journal) (r.on_disk Journal) (left Journal))) r.is_chain)
    (holds_in header (reads cloud.now) image list c r.holds
    (subst (LieIn (laid_shares list (shares_in c.records))) (sym (as_read (cloud.now Shares) (image Shares) (r.on_disk Shares) (left Shares))) r.holds.shares)
    (subst (LieIn c.recipes) (sym (as_read (cloud.now Recipes) (image Recipes) (r.on_disk Recipes) (left Recipes))) r.holds.recipes)))

-- both logs end where the moved memory says
module _ (store : CloudStore) (copying : Copying) (laid : IsCopyLaid store copying) (all : AreAllCopied store copying)
    (new : CloudMemory) (moved : IsMoved (other_region store.region) store.memory (memory_of new)) where
  pub shares_meet : store.disk.shares.end ≡ new.shares_end
  shares_meet = laid.shares_end ∙ ap (λ xs. end_of_laid (copies_start store) (lens_of xs)) all.places ∙ sym moved.shares_end

  pub recipes_meet : store.disk.recipes.end ≡ new.recipes_end
  recipes_meet = laid.recipes_end ∙ ap (λ xs. end_of_laid (copies_start store) (entry_lens xs)) all.entries ∙ sym moved.recipes_end

module _ (list : List Command) (c : Chain) (store : CloudStore) (copying : Copying) (cloud : Cloud) (is : IsCopying list c store copying cloud)
    (all : AreAllCopied store copying) (fit : FitsRecords (memory_of store.memory)) (l : AreListed store.memory)
    (new : CloudMemory) (moved : IsMoved (other_region store.region) store.memory (memory_of new)) (k : AreListed new) where
  abbrev kept : List Command
  kept = compact store.header.shape list

  abbrev other : ℕ
  other = other_region store.region

  remembers : Remembers store.header.shape kept (memory_of new)
  remembers = switched.remembers_kept list c store copying cloud is all fit l new moved k

  -- ---- rooms

  uses : (user : UserId) → UsesWithin store.header.shape store.header.rooms kept user
  uses user = switched.within_kept list c store copying cloud is all fit l new moved k kept [] (sym (append-nil kept)) user

  pub roomy_kept : length new.spent ≡ store.header.rooms.users → IsRoomy store.header.rooms other (memory_of new)
  roomy_kept users =
      let within = switched.within_kept list c store copying cloud is all fit l new moved k in
      let ends = switched.ends_kept list c store copying cloud is all fit l new moved k in
      record {
        spent = record {
          owners = λ user. subst (λ (s : SpentByUser). s.owners ≤ (limits_of store.header.rooms user).owners) (sym (remembers.spent user)) (uses user).owners;
          shares = λ user. subst (λ (s : SpentByUser). s.shares ≤ (limits_of store.header.rooms user).shares) (sym (remembers.spent user)) (uses user).shares;
          recipes = λ user. subst (λ (s : SpentByUser). s.recipes ≤ (limits_of store.header.rooms user).recipes) (sym (remembers.spent user)) (uses user).recipes;
        };
        ends = record {
          shares = (
              let end = ends.shares_bound in let rows = shares_in_rows store.header.shape store.header.rooms kept within (memory_of new) remembers users in
              omega (arith, end, rows)
              );
          recipes = (
              let end = ends.recipes_bound in let rows = recipes_in_rows store.header.shape store.header.rooms kept within (memory_of new) remembers users in
              omega (arith, end, rows)
              );
        };
      }

  -- ---- behind the checkpoint

  module _ (commands : ℕ) (n : IsNextMemory store.header kept commands other new cloud) (disk : Disk) (c1 : Cloud)
      (others : (area : Area) → area ≢ Journal → c1.now area ≡ cloud.now area) (shares : disk.shares ≡ store.disk.shares) (recipes : disk.recipes ≡ store.disk.recipes) where
    abbrev next : Chain
    next = checkpoint_in store.header kept c commands other new

    behind : (area : Area) (places : List Place) (old log : logs.State) → log ≡ old → old.area ≡ area → greatest_end (region_start other) places ≤ old.end
        → logs.Agrees old (cloud.now area).read → c1.now area ≡ cloud.now area → IsLogBehind area other places log c1.now
    behind area places old log same is far agrees still = record {
      area_is = ap (λ (s : logs.State). s.area) same ∙ is;
      behind = subst (λ (s : logs.State). greatest_end (region_start other) places ≤ s.end) (sym same) far;
      agrees = agrees_as old log cloud.now c1.now (ap (λ (s : logs.State). s.area) same) (ap (λ (s : logs.State). s.kept) same) (subst (λ (x : Area). c1.now x ≡ cloud.now x) (sym is) still)
          (subst (λ (x : Area). logs.Agrees old (cloud.now x).read) (sym is) agrees);
    }

    pub served : IsRead store.header kept next disk.journal c1 → ServesBy store.header kept next commands other new disk c1
    served read =
        let ends = switched.ends_kept list c store copying cloud is all fit l new moved k in
        let shares_far = subst (λ (e : ℕ). greatest_end (region_start other) (places_of (shares_in (records_of new))) ≤ e) (sym (shares_meet store copying is.laid all new moved)) ends.shares in
        let recipes_far = subst (λ (e : ℕ). greatest_end (region_start other) (recipes_in (records_of new)) ≤ e) (sym (recipes_meet store copying is.laid all new moved)) ends.recipes in
        record {
          known = record {
            on = record {
              read = read;
              shares = behind Shares (places_of (shares_in (records_of new))) store.disk.shares disk.shares shares is.shares_area shares_far is.shares_agree (others Shares (λ e. cc));
              recipes = behind Recipes (recipes_in (records_of new)) store.disk.recipes disk.recipes recipes is.recipes_area recipes_far is.recipes_agree (others Recipes (λ e. cc));
            };
            remembers = remembers;
            placed = placed store.header (reads cloud.now) kept commands other new n.fresh;
            stand =
                subst (λ (s : Store). Stand store.header.shape s.read (c1.now Recipes).read kept (memory_of new)) (sym (others Shares (λ e. cc)))
                (subst (λ (s : Store). Stand store.header.shape (cloud.now Shares).read s.read kept (memory_of new)) (sym (others Recipes (λ e. cc))) n.fresh.stand);
            within = n.within;
            number = n.fresh.number;
            region_is = refl;
          };
          ends = ends;
          shares_end = ap (λ (s : logs.State). s.end) shares ∙ shares_meet store copying is.laid all new moved;
          recipes_end = ap (λ (s : logs.State). s.end) recipes ∙ recipes_meet store copying is.laid all new moved;
        }

  pub served_on : {T E : Type 0} (commands : ℕ) → IsNextMemory store.header kept commands other new cloud → (r : Result T E) (after : CloudStore) (c1 : Cloud)
      → OnOk r (IsRead store.header kept (checkpoint_in store.header kept c commands other new) after.disk.journal c1)
      → OnOk r ((after.commands ≡ commands) × (after.region ≡ other)) → OnOk r ((area : Area) → area ≢ Journal → c1.now area ≡ cloud.now area)
      → after.header ≡ store.header → after.memory ≡ new → after.disk.shares ≡ store.disk.shares → after.disk.recipes ≡ store.disk.recipes
      → OnOk r (ServesSome kept after c1)
  served_on commands n (Err e) after c1 read behind others header memory shares recipes = tt
  served_on commands n (Ok v) after c1 read behind others header memory shares recipes =
      let next : Chain = checkpoint_in store.header kept c commands other new in
      record {
        c = next;
        serves =
            subst (λ (h : Header). ServesBy h kept next after.commands after.region after.memory after.disk c1) (sym header)
            (subst (λ (k : ℕ). ServesBy store.header kept next k after.region after.memory after.disk c1) (sym behind.0)
            (subst (λ (k : ℕ). ServesBy store.header kept next commands k after.memory after.disk c1) (sym behind.1)
            (subst (λ (m : CloudMemory). ServesBy store.header kept next commands other m after.disk c1) (sym memory)
            (served commands n after.disk c1 others shares recipes read))));
      }
