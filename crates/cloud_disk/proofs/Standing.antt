-- What a disk that stands for a list knows of its cloud, and calls that leave what it stands for.
use Rattle.std.proofs.Common.{◌≡◌, inl, ℕ, ◌+◌, ◌≤◌, List, [], ◌∷◌, ◌++◌, length, drop, map, Result, Ok, Err, refl, sym, ap, ◌∙◌, subst, arith, length-take, length-drop}
use Rattle.std.specs.Prelude.{IfOk, OnOk, OnErr}
use Rattle.commit_journal.specs.CdEdges.area.Area.{Area}
use Rattle.commit_journal.specs.CdEdges.area.Area.TheVariants.{Journal, Shares, Recipes}
use Rattle.commit_journal.specs.CdEdges.Disk.{Areas, Image, IsImage, Cloud, reads}
use Rattle.commit_journal.specs.CdEdges.Shelf.{stable, Stays, ReadsFrom}
use Rattle.commit_journal.proofs.CdEdges.Moments.{told_on}
use Rattle.cloud_areas.specs.ContainerLog.Places.{place_of, end_of_laid}
use Rattle.cloud_areas.specs.ContainerLog.Laying.{Placed, lengths, placed, IsAt}
use Rattle.cloud_areas.specs.ContainerLog.States as logs
use Rattle.cloud_areas.proofs.ContainerLog.Laid.{placed_more}
use Rattle.commit_journal.specs.CdBase.place.Place.{Place}
use Rattle.commit_journal.specs.JournalStart.start.Header.{Header}
use Rattle.commit_journal.specs.JournalHalves.Halves.{half_limit}
use Rattle.commit_journal.specs.JournalHalves.Journals.{used_by}
use Rattle.commit_journal.specs.States as journals
use Rattle.cloud_areas.specs.UserDedup.command.Command.{Command}
use Rattle.cloud_areas.specs.UserDedup.Dedup.{IsSound}
use Rattle.cloud_areas.specs.Placing.{region_start, greatest_end, shares_in, recipes_in, places_of}
use Rattle.cloud_areas.specs.Chains.{laid_shares}
use Rattle.cloud_areas.specs.Standing.{Chain, where_of, region_in, IsChain, Holds, StandsFor}
use Rattle.cloud_disk.specs.Held.{LogsHold, LieIn}
use Rattle.cloud_disk.specs.Disk.{Disk, IsRead, IsLogBehind, IsOn, AreEnds, Stages, IsReadLog, IsReadThrough, ended_at}
use Rattle.cloud_disk.proofs.Holding.{agrees_as}
use Rattle.cloud_disk.proofs.Both.{as_read}
use Rattle.cloud_disk.proofs.Ends.{shares_below, recipes_below, recipes_said, place_at}

-- areas whose journal has a chain that holds a sound list stand for it
pub stands : (image : Image) (header : Header) (list : List Command) (c : Chain) → IsSound header.shape header.cloud.0 list → IsChain header (half_limit header.rooms) (image Journal) c
    → Holds header image list c → StandsFor image header list
unfolding StandsFor
stands image header list c sound there holds = (sound, inl (record { chain_of = c; is_chain = there; holds = holds }))

-- what a chain places lies in another image too
pub holds_in : (header : Header) (old image : Image) (list : List Command) (c : Chain) → Holds header old list c → LieIn (laid_shares list (shares_in c.records)) (image Shares) → LieIn c.recipes (image Recipes)
    → Holds header image list c
holds_in header old image list c h shares recipes = record { says = h.says; long = h.long; shares = shares; recipes = recipes; rooms = h.rooms }

-- all of it on the disk, a cloud has one image
pub one_image : (now : Areas) (image : Image) → ((area : Area) → now area ≡ stable (now area).read) → IsImage now image → image ≡ reads now
one_image now image disk left = λ i. λ (area : Area). as_read (now area) (image area) (disk area) (left area) i

module _ (header : Header) (list : List Command) (c : Chain) where
  pub stands_read : (j : journals.JournalState) (cloud : Cloud) → IsRead header list c j cloud → StandsFor (reads cloud.now) header list
  stands_read j cloud is = stands (reads cloud.now) header list c is.sound is.is_chain is.holds

  pub stands_on : (disk : Disk) (cloud : Cloud) → IsOn header list c disk cloud → StandsFor (reads cloud.now) header list
  stands_on disk cloud on = stands_read disk.journal cloud on.read

  pub images_on : (disk : Disk) (cloud : Cloud) → IsOn header list c disk cloud → (image : Image) → IsImage cloud.now image → StandsFor image header list
  images_on disk cloud on image left = subst (λ (im : Image). StandsFor im header list) (sym (one_image cloud.now image on.read.on_disk left)) (stands_on disk cloud on)

  pub used_on : (disk : Disk) (cloud : Cloud) → IsOn header list c disk cloud → disk.journal.current.gate + 1 ≡ used_by (where_of c)
  used_on disk cloud on = ap (λ (n : ℕ). n + 1) on.read.ended.read.gate

  pub start_on : (disk : Disk) (cloud : Cloud) → IsOn header list c disk cloud → disk.journal.start ≡ c.start
  start_on disk cloud on = on.read.ended.start

  -- what the chain places lies in both areas, before the ends of the logs
  pub logs_hold : (disk : Disk) (cloud : Cloud) → IsOn header list c disk cloud → LogsHold (laid_shares list (shares_in c.records)) c.recipes disk.shares disk.recipes cloud.now
  logs_hold disk cloud on =
      let h = on.read.holds in
      let said : recipes_in c.records ≡ map place_at c.recipes = recipes_said _ _ _ _ _ c.records list c.recipes h.says in
      record {
        journal = on.read.on_disk Journal;
        shares_held = record {
          area_is = on.shares.area_is;
          agrees = on.shares.agrees;
          on_disk = on.read.on_disk Shares;
          below = shares_below list (region_start (region_in c)) disk.shares.end (shares_in c.records) h.long on.shares.behind;
          laid = h.shares;
        };
        recipes_held = record {
          area_is = on.recipes.area_is;
          agrees = on.recipes.agrees;
          on_disk = on.read.on_disk Recipes;
          below = recipes_below (region_start (region_in c)) disk.recipes.end c.recipes (subst (λ (ps : List Place). greatest_end (region_start (region_in c)) ps ≤ disk.recipes.end) said on.recipes.behind);
          laid = h.recipes;
        };
      }

  -- ---- what is staged changes alone

  pub on_alike : (old new : Disk) (cloud : Cloud) → new.journal ≡ old.journal
      → new.shares.area ≡ old.shares.area → new.shares.end ≡ old.shares.end → new.recipes.area ≡ old.recipes.area → new.recipes.end ≡ old.recipes.end
      → new.shares.kept ≡ old.shares.kept → new.recipes.kept ≡ old.recipes.kept → IsOn header list c old cloud → IsOn header list c new cloud
  on_alike old new cloud journal shares_area shares_end recipes_area recipes_end shares_kept recipes_kept on = record {
    read = subst (λ (j : journals.JournalState). IsRead header list c j cloud) (sym journal) on.read;
    shares = behind_alike Shares (region_in c) (places_of (shares_in c.records)) old.shares new.shares cloud shares_area shares_end shares_kept on.shares;
    recipes = behind_alike Recipes (region_in c) (recipes_in c.records) old.recipes new.recipes cloud recipes_area recipes_end recipes_kept on.recipes;
  }
    where
      behind_alike : (area : Area) (region : ℕ) (places : List Place) (old new : logs.State) (cloud : Cloud) → new.area ≡ old.area → new.end ≡ old.end → new.kept ≡ old.kept
          → IsLogBehind area region places old cloud.now → IsLogBehind area region places new cloud.now
      behind_alike area region places old new cloud same end kept is = record {
        area_is = same ∙ is.area_is;
        behind = subst (λ (n : ℕ). greatest_end (region_start region) places ≤ n) (sym end) is.behind;
        agrees = agrees_as old new cloud.now cloud.now same kept refl is.agrees;
      }

  -- ---- the ends are set

  pub on_ended : (old new : Disk) (shares_end recipes_end : ℕ) (cloud : Cloud) → new.journal ≡ old.journal
      → new.shares ≡ ended_at shares_end old.shares → new.recipes ≡ ended_at recipes_end old.recipes
      → ((bytes : List ℕ) → logs.Agrees new.shares bytes) → ((bytes : List ℕ) → logs.Agrees new.recipes bytes)
      → AreEnds header list c old shares_end recipes_end cloud → IsOn header list c new cloud
  on_ended old new shares_end recipes_end cloud journal shares recipes shares_agree recipes_agree is = record {
    read = subst (λ (j : journals.JournalState). IsRead header list c j cloud) (sym journal) is.read;
    shares = record {
      area_is = ap (λ (s : logs.State). s.area) shares ∙ is.shares_area;
      behind = subst (λ (s : logs.State). greatest_end (region_start (region_in c)) (places_of (shares_in c.records)) ≤ s.end) (sym shares) is.shares;
      agrees = shares_agree (cloud.now new.shares.area).read;
    };
    recipes = record {
      area_is = ap (λ (s : logs.State). s.area) recipes ∙ is.recipes_area;
      behind = subst (λ (s : logs.State). greatest_end (region_start (region_in c)) (recipes_in c.records) ≤ s.end) (sym recipes) is.recipes;
      agrees = recipes_agree (cloud.now new.recipes.area).read;
    };
  }

  -- ---- reads

  pub read_still : (j : journals.JournalState) (old new : Cloud) → Stays old new → new.told ≡ old.told → IsRead header list c j old → IsRead header list c j new
  read_still j old new stays same is = record {
    told = told_on old new same is.told;
    sound = is.sound;
    on_disk = subst (λ (a : Areas). (area : Area) → a area ≡ stable (a area).read) (sym stays.now) is.on_disk;
    limit = is.limit;
    ended = subst (λ (a : Areas). journals.IsJournalEnded j (a Journal) (where_of c)) (sym stays.now) is.ended;
    is_chain = subst (λ (a : Areas). IsChain header (half_limit header.rooms) (a Journal).read c) (sym stays.now) is.is_chain;
    holds = subst (λ (a : Areas). Holds header (reads a) list c) (sym stays.now) is.holds;
  }

  pub on_read : (old new : Disk) (before after : Cloud) → IsOn header list c old before → IsReadThrough old new before after → IsOn header list c new after
  on_read old new before after on r = record {
    read = subst (λ (j : journals.JournalState). IsRead header list c j after) (sym r.journal) (read_still old.journal before after r.stays r.told on.read);
    shares = behind_read Shares (region_in c) (places_of (shares_in c.records)) old.shares new.shares r.shares on.shares;
    recipes = behind_read Recipes (region_in c) (recipes_in c.records) old.recipes new.recipes r.recipes on.recipes;
  }
    where
      behind_read : (area : Area) (region : ℕ) (places : List Place) (old new : logs.State) → IsReadLog old new after.now
          → IsLogBehind area region places old before.now → IsLogBehind area region places new after.now
      behind_read area region places old new read is = record {
        area_is = ap (λ (s : logs.State). s.area) read.same ∙ is.area_is;
        behind = subst (λ (n : ℕ). greatest_end (region_start region) places ≤ n) (sym (ap (λ (s : logs.State). s.end) read.same)) is.behind;
        agrees = read.agrees;
      }

  pub on_still : (disk : Disk) (old new : Cloud) → Stays old new → new.told ≡ old.told → IsOn header list c disk old → IsOn header list c disk new
  on_still disk old new stays same on = record {
    read = read_still disk.journal old new stays same on.read;
    shares = behind_still Shares (region_in c) (places_of (shares_in c.records)) disk.shares on.shares;
    recipes = behind_still Recipes (region_in c) (recipes_in c.records) disk.recipes on.recipes;
  }
    where
      behind_still : (area : Area) (region : ℕ) (places : List Place) (log : logs.State) → IsLogBehind area region places log old.now → IsLogBehind area region places log new.now
      behind_still area region places log is = record {
        area_is = is.area_is;
        behind = is.behind;
        agrees = agrees_as log log old.now new.now refl refl (ap (λ (a : Areas). a log.area) stays.now) is.agrees;
      }

-- ---- staging

pub stage_area : {T E : Type 0} (r : Result T E) (old new : logs.State) (blob : List ℕ) → OnOk r (new ≡ logs.with_blob old blob) → OnErr r (new ≡ old) → new.area ≡ old.area
stage_area (Ok v) old new blob ok err = ap (λ (s : logs.State). s.area) ok
stage_area (Err e) old new blob ok err = ap (λ (s : logs.State). s.area) err

pub stage_end : {T E : Type 0} (r : Result T E) (old new : logs.State) (blob : List ℕ) → OnOk r (new ≡ logs.with_blob old blob) → OnErr r (new ≡ old) → new.end ≡ old.end
stage_end (Ok v) old new blob ok err = ap (λ (s : logs.State). s.end) ok
stage_end (Err e) old new blob ok err = ap (λ (s : logs.State). s.end) err

pub stage_kept : {T E : Type 0} (r : Result T E) (old new : logs.State) (blob : List ℕ) → OnOk r (new ≡ logs.with_blob old blob) → OnErr r (new ≡ old) → new.kept ≡ old.kept
stage_kept (Ok v) old new blob ok err = ap (λ (s : logs.State). s.kept) ok
stage_kept (Err e) old new blob ok err = ap (λ (s : logs.State). s.kept) err

-- one blob more is staged, for its place
pub stages_more : {E : Type 0} (r : Result ℕ E) (old new : logs.State) (blob : List ℕ) (blobs : List Placed) (s : Stages old blobs) → OnOk r (new ≡ logs.with_blob old blob)
    → IfOk r (λ (place : ℕ). place ≡ place_of (end_of_laid old.end (lengths s.strings)) (length blob)) → OnOk r (logs.HasStaged new (s.strings ++ blob ∷ []))
    → IfOk r (λ (place : ℕ). Stages new (blobs ++ record { place = place; blob = blob } ∷ []))
stages_more (Err e) old new blob blobs s ok at has = tt
stages_more (Ok place) old new blob blobs s ok at has = record {
  strings = s.strings ++ blob ∷ [];
  staged = has;
  places = (λ i. s.places i ++ record { place = at i; blob = blob } ∷ [])
      ∙ sym (placed_more old.end s.strings blob)
      ∙ ap (λ (n : ℕ). placed n (s.strings ++ blob ∷ [])) (sym (ap (λ (l : logs.State). l.end) ok));
}

pub none_staged : (log : logs.State) → logs.HasStaged log [] → Stages log []
none_staged log has = record { strings = []; staged = has; places = refl }

-- ---- a read

pub read_whole : {E : Type 0} (r : Result ℕ E) (held : List ℕ) (b : Placed) (place : ℕ) (out : List ℕ) → IsAt held b → b.place ≡ place
    → IfOk r (λ (count : ℕ). ReadsFrom held place count out) → OnOk r (out ≡ b.blob) → IfOk r (λ (count : ℕ). (count ≡ length b.blob) × (out ≡ b.blob))
read_whole (Err e) held b place out at is from same = tt
read_whole (Ok count) held b place out at is from same =
    (omega (arith, is, from.lesser, ap length same, ap length at, length-take (length b.blob) (drop b.place held), length-drop b.place held), same)
