-- A copy that begins, and one that is forgotten.
use Rattle.std.proofs.Common.{◌≡◌, ◌≤◌, ℕ, List, [], Some, sym, ap, ◌∙◌, subst}
use Rattle.std.proofs.lemmas.List.Elements.{All-nil}
use Rattle.fresh_checkpoints.specs.CdEdges.area.Area.TheVariants.{Shares, Recipes}
use Rattle.fresh_checkpoints.specs.CdEdges.Disk.{Cloud}
use Rattle.record_laws.specs.ContainerLog.Caches.{Kept, container_of}
use Rattle.record_laws.specs.ContainerLog.Laying.{IsAt}
use Rattle.record_laws.specs.ContainerLog.States as logs
use Rattle.cloud_store.specs.CommitJournal.States as journals
use Rattle.compact_lists.specs.UserDedup.command.Command.{Command}
use Rattle.compact_lists.proofs.UserDedup.Owned.{contains_nothing}
use Rattle.fresh_checkpoints.specs.CloudAreas.Placing.{region_start, greatest_end, shares_in, recipes_in, places_of}
use Rattle.fresh_checkpoints.specs.CloudAreas.Standing.{Chain, region_in}
use Rattle.fresh_checkpoints.specs.CloudDisk.Disk.{Disk, IsRead, AreEnds, IsOn, ended_at}
use Rattle.cloud_store.specs.declared.store.CloudStore.{CloudStore}
use Rattle.cloud_store.specs.Store.{Serves}
use Rattle.blob_copy.specs.declared.copying.Copying.{Copying}
use Rattle.blob_copy.specs.Copying.{copies_start, IsCopyLaid, IsCopying}

abbrev pub none_copied : Copying
none_copied = record { place_slot = 0; file_slot = 0 }

abbrev pub with_disk : CloudStore → Disk → CloudStore
with_disk store disk = record store { disk = disk }

module _ (store : CloudStore) (n : ℕ) (start : n ≡ copies_start store) (disk : Disk)
    (shares : disk.shares ≡ ended_at n store.disk.shares) (recipes : disk.recipes ≡ ended_at n store.disk.recipes)
    (shares_none : logs.HasStaged disk.shares []) (recipes_none : logs.HasStaged disk.recipes []) where
  pub begun_laid : IsCopyLaid (with_disk store disk) none_copied
  begun_laid = record {
    shares_end = ap (λ (l : logs.State). l.end) shares ∙ start;
    recipes_end = ap (λ (l : logs.State). l.end) recipes ∙ start;
    shares_none = shares_none;
    recipes_none = recipes_none;
  }

  pub begun_copying : (list : List Command) (c : Chain) (cloud : Cloud) → disk.journal ≡ store.disk.journal → Serves list c store cloud
      → IsCopying list c (with_disk store disk) none_copied cloud
  begun_copying list c cloud journal s = record {
    knows = record {
      read = subst (λ (j : journals.JournalState). IsRead store.header list c j cloud) (sym journal) s.known.on.read;
      remembers = s.known.remembers;
      placed = s.known.placed;
      stand = s.known.stand;
      within = s.known.within;
      ends = s.ends;
      number = s.known.number;
      region_is = s.known.region_is;
    };
    laid = begun_laid;
    shares_area = ap (λ (l : logs.State). l.area) shares ∙ s.known.on.shares.area_is;
    recipes_area = ap (λ (l : logs.State). l.area) recipes ∙ s.known.on.recipes.area_is;
    shares_agree = subst (λ (l : logs.State). logs.Agrees l (cloud.now Shares).read) (sym shares) (All-nil (λ (k : Kept). k.1 ≡ container_of (cloud.now Shares).read k.0));
    recipes_agree = subst (λ (l : logs.State). logs.Agrees l (cloud.now Recipes).read) (sym recipes) (All-nil (λ (k : Kept). k.1 ≡ container_of (cloud.now Recipes).read k.0));
    shares_lie = All-nil (IsAt (cloud.now Shares).read);
    recipes_lie = λ key e entry among is. absurd (contains_nothing (key, e) among);
  }

-- the memory's ends lie behind all that the chain places
pub are_ends : (list : List Command) (c : Chain) (store : CloudStore) (copying : Copying) (cloud : Cloud) → IsCopying list c store copying cloud
    → AreEnds store.header list c store.disk store.memory.shares_end store.memory.recipes_end cloud
are_ends list c store copying cloud is = record {
  read = is.knows.read;
  shares_area = is.shares_area;
  recipes_area = is.recipes_area;
  shares = subst (λ (r : ℕ). greatest_end (region_start r) (places_of (shares_in c.records)) ≤ store.memory.shares_end) (sym is.knows.region_is) is.knows.ends.shares;
  recipes = subst (λ (r : ℕ). greatest_end (region_start r) (recipes_in c.records) ≤ store.memory.recipes_end) (sym is.knows.region_is) is.knows.ends.recipes;
}

module _ (list : List Command) (c : Chain) (store : CloudStore) (copying : Copying) (cloud : Cloud) (is : IsCopying list c store copying cloud)
    (s r : ℕ) (s_is : s ≡ store.memory.shares_end) (r_is : r ≡ store.memory.recipes_end) (disk : Disk)
    (shares : disk.shares ≡ ended_at s store.disk.shares) (recipes : disk.recipes ≡ ended_at r store.disk.recipes)
    (on : AreEnds store.header list c store.disk s r cloud → IsOn store.header list c disk cloud) where
  pub forgotten : Serves list c (with_disk store disk) cloud
  forgotten = record {
    known = record {
      on = on (subst (λ (n : ℕ). AreEnds store.header list c store.disk n r cloud) (sym s_is) (subst (λ (n : ℕ). AreEnds store.header list c store.disk store.memory.shares_end n cloud) (sym r_is) (are_ends list c store copying cloud is)));
      remembers = is.knows.remembers;
      placed = is.knows.placed;
      stand = is.knows.stand;
      within = is.knows.within;
      number = is.knows.number;
      region_is = is.knows.region_is;
    };
    ends = is.knows.ends;
    shares_end = ap (λ (l : logs.State). l.end) shares ∙ s_is;
    recipes_end = ap (λ (l : logs.State). l.end) recipes ∙ r_is;
  }
