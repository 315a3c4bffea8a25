-- A checkpoint in a chain's place: the cloud stands for the list.
use Rattle.std.proofs.Common.{◌≡◌, ◌≢◌, ◌⊎◌, inl, inr, ℕ, ◌≤◌, List, Result, Ok, Err, IsTrue, refl, sym, ap, ◌∙◌, subst}
use Rattle.std.specs.Prelude.{OnOk}
use Rattle.cloud_disk.specs.CdEdges.area.Area.{Area}
use Rattle.cloud_disk.specs.CdEdges.area.Area.TheVariants.{Journal, Shares, Recipes}
use Rattle.cloud_disk.specs.CdEdges.Disk.{Store, Image, Cloud, LeavesOnly, IsAtArea, reads}
use Rattle.cloud_disk.specs.CdEdges.Shelf.{stable}
use Rattle.cloud_disk.proofs.CdEdges.Moments.{weaker, started}
use Rattle.cloud_disk.specs.JournalHalves.Records.{IsJournal}
use Rattle.cloud_memory.specs.ContainerLog.Laying.{Placed}
use Rattle.cloud_memory.specs.ContainerLog.States as logs
use Rattle.cloud_memory.specs.CdBase.place.Place.{Place}
use Rattle.cloud_disk.specs.JournalStart.start.Header.{Header}
use Rattle.cloud_disk.specs.JournalHalves.Halves.{half_limit, half_of}
use Rattle.cloud_disk.specs.JournalHalves.Journals.{Where, all_bodies, HasChain, IsEither}
use Rattle.cloud_disk.specs.CommitJournal.States as journals
use Rattle.cloud_memory.specs.RecordBody.Spelling.{Body}
use Rattle.cloud_memory.specs.UserDedup.command.Command.{Command}
use Rattle.cloud_disk.specs.CloudAreas.Placing.{region_start, greatest_end, shares_in, recipes_in, places_of}
use Rattle.cloud_disk.specs.CloudAreas.Chains.{laid_shares}
use Rattle.cloud_disk.specs.CloudAreas.Standing.{Chain, where_of, region_in, IsChain, Holds, StandsFor}
use Rattle.cloud_disk.specs.Held.{LieIn}
use Rattle.cloud_disk.specs.Disk.{Disk, IsLogBehind, IsOn}
use Rattle.cloud_disk.proofs.Standing.{stands, holds_in}
use Rattle.cloud_disk.proofs.Adding.{chain_there}
use Rattle.cloud_disk.proofs.Both.{as_read}
use Rattle.cloud_disk.proofs.Holding.{agrees_as}
use Rattle.checkpoints.specs.Settling.{checkpoint_of, IsSummed, KeepsList}

-- where nothing was done the chain that was read is there
pub ended_still : (journal : journals.JournalState) (c0 : Cloud) (w next : Where) → journals.IsJournalEnded journal (c0.now Journal) w
    → LeavesOnly c0 c0 (IsAtArea c0.now Journal (IsEither w next))
ended_still journal c0 w next ended =
    started c0 _ (λ image left. record {
      area = inl (subst (λ (j : List ℕ). HasChain j w) (sym (as_read (c0.now Journal) (image Journal) ended.read.synced (left Journal))) (chain_there journal (c0.now Journal) w ended));
      others = λ other away. left other;
    })

module _ (header : Header) (list : List Command) (c : Chain) (commands count region : ℕ) (bodies : List Body) (recipes : List Placed) (disk : Disk) (c0 : Cloud)
    (p : IsSummed header list c (checkpoint_of c header commands count region bodies recipes) disk c0) where
  abbrev next : Chain
  next = checkpoint_of c header commands count region bodies recipes

  -- both chains' blobs lie in each image
  image_stands : (d : Chain) → Holds header (reads c0.now) list d → (image : Image) → IsAtArea c0.now Journal (IsEither (where_of c) (where_of next)) image
      → IsChain header (half_limit header.rooms) (image Journal) d → StandsFor image header list
  image_stands d holds image at there =
      stands image header list d p.on.read.sound there
      (holds_in header (reads c0.now) image list d holds
      (subst (LieIn (laid_shares list (shares_in d.records))) (sym (as_read (c0.now Shares) (image Shares) (p.on.read.on_disk Shares) (at.others Shares (λ e. cc)))) holds.shares)
      (subst (LieIn d.recipes) (sym (as_read (c0.now Recipes) (image Recipes) (p.on.read.on_disk Recipes) (at.others Recipes (λ e. cc)))) holds.recipes))

  pub image_of : (image : Image) → IsAtArea c0.now Journal (IsEither (where_of c) (where_of next)) image → StandsFor image header list
  image_of image at = by_chain at.area
    where
      by_chain : HasChain (image Journal) (where_of c) ⊎ HasChain (image Journal) (where_of next) → StandsFor image header list
      by_chain (inl old) = let is = p.on.read.is_chain in image_stands c p.on.read.holds image at (record { there = old; header_is = is.header_is; within = is.within; fit = is.fit })
      by_chain (inr new) = image_stands next p.holds image at (record { there = new; header_is = refl; within = p.within; fit = p.fit })

  pub keeps_list : (c1 : Cloud) → LeavesOnly c0 c1 (IsAtArea c0.now Journal (IsEither (where_of c) (where_of next))) → KeepsList header list c0 c1
  keeps_list c1 run = weaker c0 c1 (IsAtArea c0.now Journal (IsEither (where_of c) (where_of next))) (λ (image : Image). StandsFor image header list) run image_of

  pub settled_on : {T E : Type 0} (r : Result T E) (new : Disk) (c1 : Cloud) → IsTrue c1.told → OnOk r (journals.IsJournalEnded new.journal (c1.now Journal) (where_of next))
      → OnOk r ((other : Area) → other ≢ Journal → c1.now other ≡ c0.now other) → new.journal.limit ≡ disk.journal.limit → new.shares ≡ disk.shares → new.recipes ≡ disk.recipes
      → OnOk r (IsOn header list next new c1)
  settled_on (Err e) new c1 told ended others limit shares recipes = tt
  settled_on (Ok v) new c1 told ended others limit shares recipes = record {
    read = record {
      told = told;
      sound = p.on.read.sound;
      on_disk = disk_is;
      limit = limit ∙ p.on.read.limit;
      ended = ended;
      is_chain = record {
        there = record { current = ended.is_current; chain_is = subst (λ (h : ℕ). IsJournal (all_bodies (where_of next)) (half_of h (c1.now Journal).read)) ended.half ended.read.chain_is };
        header_is = refl;
        within = p.within;
        fit = p.fit;
      };
      holds = holds_in header (reads c0.now) (reads c1.now) list next p.holds
          (subst (λ (s : Store). LieIn (laid_shares list (shares_in next.records)) s.read) (sym (others Shares (λ e. cc))) p.holds.shares)
          (subst (λ (s : Store). LieIn next.recipes s.read) (sym (others Recipes (λ e. cc))) p.holds.recipes);
    };
    shares = behind_still Shares (places_of (shares_in next.records)) disk.shares new.shares shares p.on.shares.area_is p.shares p.on.shares.agrees (others Shares (λ e. cc));
    recipes = behind_still Recipes (recipes_in next.records) disk.recipes new.recipes recipes p.on.recipes.area_is p.recipes p.on.recipes.agrees (others Recipes (λ e. cc));
  }
    where
      disk_is : (area : Area) → c1.now area ≡ stable (c1.now area).read
      disk_is Journal = ended.read.synced
      disk_is Shares = subst (λ (s : Store). s ≡ stable s.read) (sym (others Shares (λ e. cc))) (p.on.read.on_disk Shares)
      disk_is Recipes = subst (λ (s : Store). s ≡ stable s.read) (sym (others Recipes (λ e. cc))) (p.on.read.on_disk Recipes)

      behind_still : (area : Area) (places : List Place) (old new : logs.State) → new ≡ old → old.area ≡ area → greatest_end (region_start (region_in next)) places ≤ old.end
          → logs.Agrees old (c0.now old.area).read → c1.now area ≡ c0.now area → IsLogBehind area (region_in next) places new c1.now
      behind_still area places old new same is behind agrees still = record {
        area_is = ap (λ (s : logs.State). s.area) same ∙ is;
        behind = subst (λ (s : logs.State). greatest_end (region_start (region_in next)) places ≤ s.end) (sym same) behind;
        agrees = agrees_as old new c0.now c1.now (ap (λ (s : logs.State). s.area) same) (ap (λ (s : logs.State). s.kept) same) (subst (λ (x : Area). c1.now x ≡ c0.now x) (sym is) still) agrees;
      }
