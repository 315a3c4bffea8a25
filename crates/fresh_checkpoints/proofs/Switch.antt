-- One chain in another's place.
use Rattle.std.proofs.Common.{◌≡◌, ◌≢◌, ◌⊎◌, inl, inr, ℕ, ◌≤◌, List, IsTrue, sym, subst}
use Rattle.std.specs.Prelude.{length, All}
use Rattle.cloud_disk.specs.CdEdges.area.Area.{Area}
use Rattle.cloud_disk.specs.CdEdges.area.Area.TheVariants.{Journal, Shares, Recipes}
use Rattle.cloud_disk.specs.CdEdges.Disk.{Store, Image, Cloud, LeavesOnly, IsAtArea, reads}
use Rattle.cloud_disk.specs.CdEdges.Shelf.{stable}
use Rattle.cloud_disk.proofs.CdEdges.Moments.{weaker}
use Rattle.cloud_disk.specs.JournalHalves.Records.{IsJournal}
use Rattle.cloud_disk.specs.ContainerLog.Laying.{IsAt}
use Rattle.cloud_disk.specs.JournalStart.start.Header.{Header}
use Rattle.cloud_disk.specs.JournalHalves.Halves.{half_limit, half_of}
use Rattle.cloud_disk.specs.JournalHalves.Journals.{all_bodies, HasChain, IsEither}
use Rattle.cloud_disk.specs.CommitJournal.States as journals
use Rattle.cloud_disk.specs.UserDedup.command.Command.{Command}
use Rattle.cloud_disk.specs.UserDedup.Dedup.{IsSound}
use Rattle.cloud_disk.specs.CloudAreas.Chains.{laid_shares}
use Rattle.cloud_disk.specs.CloudAreas.FormatOne.{Lays, HasListOne, StandsForOne}
use Rattle.cloud_disk.specs.CloudAreas.Placing.{shares_in}
use Rattle.cloud_disk.specs.CloudAreas.Standing.{Chain, where_of, Holds, StandsFor}
use Rattle.cloud_disk.specs.Held.{LieIn}
use Rattle.cloud_disk.specs.Disk.{IsRead}
use Rattle.cloud_disk.proofs.Standing.{stands, holds_in}
use Rattle.cloud_disk.proofs.Both.{as_read}
use Rattle.fresh_checkpoints.specs.Switching.{IsNextChain, MaySwitch, StandsForOneOf, HasEitherChain, MayMigrate, IsMigrating}

-- ---- an image of areas that are on the disk, but for the journal

module _ (c next : Chain) (c0 : Cloud) (disk : (area : Area) → c0.now area ≡ stable (c0.now area).read) (image : Image)
    (at : IsAtArea c0.now Journal (IsEither (where_of c) (where_of next)) image) where
  shares_are : (c0.now Shares).read ≡ image Shares
  shares_are = sym (as_read (c0.now Shares) (image Shares) (disk Shares) (at.others Shares (λ e. cc)))

  recipes_are : (c0.now Recipes).read ≡ image Recipes
  recipes_are = sym (as_read (c0.now Recipes) (image Recipes) (disk Recipes) (at.others Recipes (λ e. cc)))

  still_holds : (header : Header) (list : List Command) (d : Chain) → Holds header (reads c0.now) list d → Holds header image list d
  still_holds header list d h =
      holds_in header (reads c0.now) image list d h (subst (LieIn (laid_shares list (shares_in d.records))) shares_are h.shares) (subst (LieIn d.recipes) recipes_are h.recipes)

  still_lays : (header : Header) (list : List Command) (d : Chain) → Lays header (reads c0.now) list d → Lays header image list d
  still_lays header list d l = record {
    says = l.says;
    places = l.places;
    shares = subst (λ (bytes : List ℕ). All (IsAt bytes) (laid_shares list (shares_in d.records))) shares_are l.shares;
    before = l.before;
    after = l.after;
    list_is = l.list_is;
    first = l.first;
    recipes_laid = l.recipes_laid;
    apart = l.apart;
    behind = l.behind;
    recipes = subst (λ (bytes : List ℕ). All (IsAt bytes) d.recipes) recipes_are l.recipes;
    end_is = l.end_is;
    area = subst (λ (bytes : List ℕ). Rattle.cloud_disk.specs.CloudAreas.FormatOne.laid_end l.before ≤ length bytes) recipes_are l.area;
  }

  next_stands : (header : Header) (list : List Command) → IsNextChain header list next c0 → HasChain (image Journal) (where_of next) → StandsFor image header list
  next_stands header list n there =
      stands image header list next n.sound (record { there = there; header_is = n.header_is; within = n.within; fit = n.fit }) (still_holds header list next n.holds)

-- ---- the journal is read to the end of the next chain

next_read : (header : Header) (list : List Command) (next : Chain) (after : journals.JournalState) (c0 c1 : Cloud)
    → IsNextChain header list next c0 → ((area : Area) → c0.now area ≡ stable (c0.now area).read) → IsTrue c1.told
    → journals.IsJournalEnded after (c1.now Journal) (where_of next) → after.limit ≡ half_limit header.rooms
    → ((area : Area) → area ≢ Journal → c1.now area ≡ c0.now area) → IsRead header list next after c1
next_read header list next after c0 c1 n disk told ended limit others = record {
  told = told;
  sound = n.sound;
  on_disk = disk_is;
  limit = limit;
  ended = ended;
  is_chain = record {
    there = record { current = ended.is_current; chain_is = subst (λ (h : ℕ). IsJournal (all_bodies (where_of next)) (half_of h (c1.now Journal).read)) ended.half ended.read.chain_is };
    header_is = n.header_is;
    within = n.within;
    fit = n.fit;
  };
  holds = holds_in header (reads c0.now) (reads c1.now) list next n.holds
      (subst (λ (s : Store). LieIn (laid_shares list (shares_in next.records)) s.read) (sym (others Shares (λ e. cc))) n.holds.shares)
      (subst (λ (s : Store). LieIn next.recipes s.read) (sym (others Recipes (λ e. cc))) n.holds.recipes);
}
  where
    disk_is : (area : Area) → c1.now area ≡ stable (c1.now area).read
    disk_is Journal = ended.read.synced
    disk_is Shares = subst (λ (s : Store). s ≡ stable s.read) (sym (others Shares (λ e. cc))) (disk Shares)
    disk_is Recipes = subst (λ (s : Store). s ≡ stable s.read) (sym (others Recipes (λ e. cc))) (disk Recipes)

-- ---- within format 2

pub switches : (one two : Header) (list other : List Command) (c next : Chain) (journal : journals.JournalState) (old new : Cloud) → MaySwitch one two list other c next journal old
    → HasEitherChain c next old new → LeavesOnly old new (StandsForOneOf one list two other)
switches one two list other c next journal old new may run =
    weaker old new (IsAtArea old.now Journal (IsEither (where_of c) (where_of next))) (StandsForOneOf one list two other) run
    (λ image at. by_chain image at at.area)
  where
    by_chain : (image : Image) → IsAtArea old.now Journal (IsEither (where_of c) (where_of next)) image
        → HasChain (image Journal) (where_of c) ⊎ HasChain (image Journal) (where_of next) → StandsForOneOf one list two other image
    by_chain image at (inl there) =
        let is = may.read.is_chain in
        inl (stands image one list c may.read.sound (record { there = there; header_is = is.header_is; within = is.within; fit = is.fit })
        (still_holds c next old may.read.on_disk image at one list c may.read.holds))
    by_chain image at (inr there) = inr (next_stands c next old may.read.on_disk image at two other may.next_chain there)

pub switched : (one two : Header) (list other : List Command) (c next : Chain) (journal after : journals.JournalState) (old new : Cloud) → MaySwitch one two list other c next journal old
    → IsTrue new.told → journals.IsJournalEnded after (new.now Journal) (where_of next) → after.limit ≡ half_limit two.rooms
    → ((area : Area) → area ≢ Journal → new.now area ≡ old.now area) → IsRead two other next after new
switched one two list other c next journal after old new may told ended limit others =
    next_read two other next after old new may.next_chain may.read.on_disk told ended limit others

-- ---- from format 1

one_stands : (image : Image) (header : Header) (list : List Command) → IsSound header.shape header.cloud.0 list → HasListOne image header list → StandsForOne image header list
unfolding StandsForOne
one_stands image header list sound has = (sound, inl has)

pub migrates : (one two : Header) (list other : List Command) (c next : Chain) (journal : journals.JournalState) (old new : Cloud) → MayMigrate one two list other c next journal old
    → HasEitherChain c next old new → LeavesOnly old new (IsMigrating one list two other)
migrates one two list other c next journal old new may run =
    weaker old new (IsAtArea old.now Journal (IsEither (where_of c) (where_of next))) (IsMigrating one list two other) run
    (λ image at. by_chain image at at.area)
  where
    by_chain : (image : Image) → IsAtArea old.now Journal (IsEither (where_of c) (where_of next)) image
        → HasChain (image Journal) (where_of c) ⊎ HasChain (image Journal) (where_of next) → IsMigrating one list two other image
    by_chain image at (inl there) =
        let is = may.read.is_chain in
        inl (one_stands image one list may.read.sound (record {
          chain_of = c;
          is_chain = record { there = there; header_is = is.header_is; within = is.within; fit = is.fit };
          lays = still_lays c next old may.read.on_disk image at one list c may.read.lays;
        }))
    by_chain image at (inr there) = inr (next_stands c next old may.read.on_disk image at two other may.next_chain there)

pub migrated : (one two : Header) (list other : List Command) (c next : Chain) (journal after : journals.JournalState) (old new : Cloud) → MayMigrate one two list other c next journal old
    → IsTrue new.told → journals.IsJournalEnded after (new.now Journal) (where_of next) → after.limit ≡ half_limit two.rooms
    → ((area : Area) → area ≢ Journal → new.now area ≡ old.now area) → IsRead two other next after new
migrated one two list other c next journal after old new may told ended limit others =
    next_read two other next after old new may.next_chain may.read.on_disk told ended limit others
