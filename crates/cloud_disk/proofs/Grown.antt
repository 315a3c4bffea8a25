-- What an add leaves of areas whose records may say anything: the chain or one record more, and what lies below the ends of both logs.
use Rattle.std.proofs.Common.{◌≡◌, ◌≢◌, inl, ℕ, List, Result, Ok, Err, subst, sym, ◌∙◌}
use Rattle.std.specs.Prelude.{OnOk}
use Rattle.commit_journal.specs.CdEdges.area.Area.{Area}
use Rattle.commit_journal.specs.CdEdges.area.Area.TheVariants.{Journal, Shares, Recipes}
use Rattle.commit_journal.specs.CdEdges.Disk.{Store, Areas, Image, Cloud, IsImage, IsAtArea, MayLeave, LeavesOnly}
use Rattle.commit_journal.proofs.CdEdges.Moments.{weaker, joined, at_end}
use Rattle.cloud_areas.specs.ContainerLog.Kept.{KeepsBelow}
use Rattle.cloud_areas.specs.ContainerLog.States.{State}
use Rattle.commit_journal.specs.JournalHalves.Journals.{Where, with_body, HasChain, IsEither}
use Rattle.commit_journal.specs.States as journals
use Rattle.cloud_disk.specs.Held.{HasFronts, IsFlushed, AreFlushed}
use Rattle.cloud_disk.specs.Disk.{Disk, IsGrown, IsGrownBy}
use Rattle.cloud_disk.proofs.Adding.{chain_there}
use Rattle.cloud_disk.proofs.Both.{as_read}

pub below : (end : ℕ) (store : Store) (image : List ℕ) → MayLeave store image → KeepsBelow end store image
below end store image may = record { no_shorter = may.no_shorter; kept = λ place low within outside. may.kept place within outside }

-- an image by its areas
abbrev by_areas : List ℕ → List ℕ → List ℕ → Image
by_areas journal shares recipes Journal = journal
by_areas journal shares recipes Shares = shares
by_areas journal shares recipes Recipes = recipes

is_by_areas : (now : Areas) (journal shares recipes : List ℕ) → MayLeave (now Journal) journal → MayLeave (now Shares) shares → MayLeave (now Recipes) recipes
    → IsImage now (by_areas journal shares recipes)
is_by_areas now journal shares recipes in_journal in_shares in_recipes Journal = in_journal
is_by_areas now journal shares recipes in_journal in_shares in_recipes Shares = in_shares
is_by_areas now journal shares recipes in_journal in_shares in_recipes Recipes = in_recipes

-- while the shares are written
pub fronts_first : (shares recipes : State) (c0 c1 : Cloud) → shares.area ≡ Shares
    → LeavesOnly c0 c1 (IsAtArea c0.now shares.area (KeepsBelow shares.end (c0.now shares.area))) → LeavesOnly c0 c1 (HasFronts shares recipes c0)
fronts_first shares recipes c0 c1 is run =
    weaker c0 c1 _ _ (subst (λ (a : Area). LeavesOnly c0 c1 (IsAtArea c0.now a (KeepsBelow shares.end (c0.now a)))) is run)
    (λ image at. (at.others Journal (λ e. cc), at.area, below recipes.end (c0.now Recipes) (image Recipes) (at.others Recipes (λ e. cc))))

-- and then the recipes
pub fronts_second : (shares recipes : State) (c0 c1 c2 : Cloud) → MayLeave (c1.now Recipes) (c1.now Recipes).read → recipes.area ≡ Recipes
    → LeavesOnly c0 c1 (HasFronts shares recipes c0) → c1.now Recipes ≡ c0.now Recipes
    → LeavesOnly c1 c2 (IsAtArea c1.now recipes.area (KeepsBelow recipes.end (c1.now recipes.area)))
    → LeavesOnly c0 c2 (HasFronts shares recipes c0)
fronts_second shares recipes c0 c1 c2 there is first same run =
    joined c0 c1 c2 _ first
    (weaker c1 c2 _ _ (subst (λ (a : Area). LeavesOnly c1 c2 (IsAtArea c1.now a (KeepsBelow recipes.end (c1.now a)))) is run)
    (λ image at.
    let last = (c1.now Recipes).read in
    let im = by_areas (image Journal) (image Shares) last in
    let h = at_end c0 c1 (HasFronts shares recipes c0) first im (is_by_areas c1.now (image Journal) (image Shares) last (at.others Journal (λ e. cc)) (at.others Shares (λ e. cc)) there) in
    (h.0, h.1, subst (λ (s : Store). KeepsBelow recipes.end s (image Recipes)) same at.area)))

-- the journal stays behind both
pub journal_still : {T E : Type 0} (r : Result T E) (area : Area) (c0 c1 c2 : Cloud) → area ≡ Recipes → c1.now Journal ≡ c0.now Journal
    → OnOk r ((other : Area) → other ≢ area → c2.now other ≡ c1.now other) → OnOk r (c2.now Journal ≡ c0.now Journal)
journal_still (Err e) area c0 c1 c2 is first others = tt
journal_still (Ok v) area c0 c1 c2 is first others =
    let away : (other : Area) → other ≢ Recipes → c2.now other ≡ c1.now other = subst (λ (a : Area). (other : Area) → other ≢ a → c2.now other ≡ c1.now other) is others in
    away Journal (λ e. cc) ∙ first

-- both areas, one behind the other
pub both_flushed : {T E : Type 0} (r : Result T E) (shares recipes : State) (c0 c1 c2 : Cloud) → shares.area ≡ Shares → recipes.area ≡ Recipes
    → IsFlushed shares (c0.now shares.area) (c1.now shares.area) → ((other : Area) → other ≢ shares.area → c1.now other ≡ c0.now other)
    → OnOk r (IsFlushed recipes (c1.now recipes.area) (c2.now recipes.area)) → OnOk r ((other : Area) → other ≢ recipes.area → c2.now other ≡ c1.now other)
    → OnOk r (AreFlushed shares recipes c0 c2)
both_flushed (Err e) shares recipes c0 c1 c2 is_shares is_recipes first away second further = tt
both_flushed (Ok v) shares recipes c0 c1 c2 is_shares is_recipes first away second further =
    let one = subst (λ (a : Area). IsFlushed shares (c0.now a) (c1.now a)) is_shares first in
    let two = subst (λ (a : Area). IsFlushed recipes (c1.now a) (c2.now a)) is_recipes second in
    let from_first : (other : Area) → other ≢ Shares → c1.now other ≡ c0.now other = subst (λ (a : Area). (other : Area) → other ≢ a → c1.now other ≡ c0.now other) is_shares away in
    let from_second : (other : Area) → other ≢ Recipes → c2.now other ≡ c1.now other = subst (λ (a : Area). (other : Area) → other ≢ a → c2.now other ≡ c1.now other) is_recipes further in
    record {
      in_shares = subst (λ (s : Store). IsFlushed shares (c0.now Shares) s) (sym (from_second Shares (λ e. cc))) one;
      in_recipes = subst (λ (s : Store). IsFlushed recipes s (c2.now Recipes)) (from_first Recipes (λ e. cc)) two;
    }

-- both areas and the record
pub grown_by : {T E : Type 0} (r : Result T E) (disk new : Disk) (body : List ℕ) (c0 c1 c2 : Cloud) → AreFlushed disk.shares disk.recipes c0 c1 → c1.now Journal ≡ c0.now Journal
    → ((w : Where) → journals.IsJournalEnded disk.journal (c1.now Journal) w → OnOk r (journals.IsJournalEnded new.journal (c2.now Journal) (with_body w body)))
    → OnOk r ((other : Area) → other ≢ Journal → c2.now other ≡ c1.now other)
    → OnOk r (IsGrownBy disk new body c0 c2)
grown_by (Err e) disk new body c0 c1 c2 both same added others = tt
grown_by (Ok v) disk new body c0 c1 c2 both same added others = record {
  chain = λ w ended. added w (subst (λ (s : Store). journals.IsJournalEnded disk.journal s w) (sym same) ended);
  shares = subst (λ (s : Store). IsFlushed disk.shares (c0.now Shares) s) (sym (others Shares (λ e. cc))) both.in_shares;
  recipes = subst (λ (s : Store). IsFlushed disk.recipes (c0.now Recipes) s) (sym (others Recipes (λ e. cc))) both.in_recipes;
}

module _ (disk : Disk) (body : List ℕ) (c0 : Cloud) (w : Where) (ended : journals.IsJournalEnded disk.journal (c0.now Journal) w) where
  still : (image : Image) → HasFronts disk.shares disk.recipes c0 image → IsGrown disk c0 w (with_body w body) image
  still image h =
      let same = as_read (c0.now Journal) (image Journal) ended.read.synced h.0 in
      (inl (subst (λ (j : List ℕ). HasChain j w) (sym same) (chain_there disk.journal (c0.now Journal) w ended)), h.1, h.2)

  -- while both logs are written
  pub grown_flushed : (c1 : Cloud) → LeavesOnly c0 c1 (HasFronts disk.shares disk.recipes c0) → LeavesOnly c0 c1 (IsGrown disk c0 w (with_body w body))
  grown_flushed c1 run = weaker c0 c1 _ _ run still

  -- and then the record
  pub grown_added : (c1 c2 : Cloud) → LeavesOnly c0 c1 (HasFronts disk.shares disk.recipes c0) → MayLeave (c1.now Journal) (c1.now Journal).read
      → LeavesOnly c1 c2 (IsAtArea c1.now Journal (IsEither w (with_body w body))) → LeavesOnly c0 c2 (IsGrown disk c0 w (with_body w body))
  grown_added c1 c2 first there run =
      joined c0 c1 c2 _ (grown_flushed c1 first)
      (weaker c1 c2 _ _ run (λ image at.
      let last = (c1.now Journal).read in
      let im = by_areas last (image Shares) (image Recipes) in
      let h = at_end c0 c1 (HasFronts disk.shares disk.recipes c0) first im (is_by_areas c1.now last (image Shares) (image Recipes) there (at.others Shares (λ e. cc)) (at.others Recipes (λ e. cc))) in
      (at.area, h.1, h.2)))
