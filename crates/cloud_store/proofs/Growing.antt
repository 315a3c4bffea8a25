-- What a command leaves of areas whose records may say anything.
use Rattle.std.proofs.Common.{◌≡◌, ◌≢◌, ◌⊎◌, inl, inr, ℕ, ◌+◌, List, IsTrue, Ok, refl, sym, subst}
use Rattle.checkpoints.specs.CdEdges.area.Area.{Area}
use Rattle.checkpoints.specs.CdEdges.area.Area.TheVariants.{Journal, Shares, Recipes}
use Rattle.checkpoints.specs.CdEdges.Disk.{Store, Cloud, Image, IsAtArea, LeavesOnly}
use Rattle.checkpoints.proofs.CdEdges.Moments.{weaker, joined}
use Rattle.checkpoints.specs.ContainerLog.Kept.{KeepsBelow}
use Rattle.checkpoints.specs.ContainerLog.States as logs
use Rattle.checkpoints.specs.JournalHalves.Journals.{Where, with_body, IsEither}
use Rattle.checkpoints.specs.CommitJournal.States.{IsJournalEnded}
use Rattle.checkpoints.specs.CloudDisk.Disk as disks
use Rattle.checkpoints.proofs.DiskProofs.Grown.{below}
use Rattle.checkpoints.proofs.InPlace.{ended_still}
use Rattle.cloud_store.specs.declared.store.CloudStore.{CloudStore}
use Rattle.checkpoints.specs.CloudDisk.Held.{IsFlushed}
use Rattle.cloud_store.specs.Adding.{summed, IsOneOf, IsLeftOf, KeepsOrSums, HasRoomMade, KeepsOrGrows, HasGrown}

-- nothing was done
pub sums_still : (s : CloudStore) (c0 : Cloud) → KeepsOrSums s c0 c0
sums_still s c0 told w ended = ended_still s.disk.journal c0 w (summed s w) ended

pub made_still : (s : CloudStore) (c0 : Cloud) → HasRoomMade {T = Unit {0}} {E = Unit {0}} s s c0 c0 (Ok tt)
made_still s c0 told w ended = (inl ended, λ other away. refl)

-- while room was made
sums_left : (s : CloudStore) (body : List ℕ) (c0 : Cloud) (w : Where) (image : Image) → IsAtArea c0.now Journal (IsEither w (summed s w)) image → IsLeftOf s c0 w body image
sums_left s body c0 w image at =
    (inl at.area, below s.disk.shares.end (c0.now Shares) (image Shares) (at.others Shares (λ e. cc)), below s.disk.recipes.end (c0.now Recipes) (image Recipes) (at.others Recipes (λ e. cc)))

pub grows_sums : (s : CloudStore) (body : List ℕ) (c0 c1 : Cloud) → KeepsOrSums s c0 c1 → KeepsOrGrows s body c0 c1
grows_sums s body c0 c1 sums told w ended = weaker c0 c1 _ _ (sums told w ended) (sums_left s body c0 w)

pub grows_still : (s : CloudStore) (body : List ℕ) (c0 : Cloud) → KeepsOrGrows s body c0 c0
grows_still s body c0 = grows_sums s body c0 c0 (sums_still s c0)

-- with the record, behind either chain
from_first : (s : CloudStore) (w : Where) (body journal : List ℕ) → IsEither w (with_body w body) journal → IsOneOf s w body journal
from_first s w body journal (inl old) = inl (inl old)
from_first s w body journal (inr new) = inr (inl new)

from_second : (s : CloudStore) (w : Where) (body journal : List ℕ) → IsEither (summed s w) (with_body (summed s w) body) journal → IsOneOf s w body journal
from_second s w body journal (inl old) = inl (inr old)
from_second s w body journal (inr new) = inr (inr new)

module _ (s mid : CloudStore) (body : List ℕ) (c0 c1 c2 : Cloud) (shares : mid.disk.shares ≡ s.disk.shares) (recipes : mid.disk.recipes ≡ s.disk.recipes)
    (is_shares : s.disk.shares.area ≡ Shares) (is_recipes : s.disk.recipes.area ≡ Recipes) (told1 : IsTrue c0.told → IsTrue c1.told)
    (sums : KeepsOrSums s c0 c1) (grows : disks.KeepsDiskOrGrows mid.disk body c1 c2) where
  fronts : ((other : Area) → other ≢ Journal → c1.now other ≡ c0.now other) → (w : Where) (image : Image) → IsOneOf s w body (image Journal)
      → KeepsBelow mid.disk.shares.end (c1.now Shares) (image Shares) → KeepsBelow mid.disk.recipes.end (c1.now Recipes) (image Recipes) → IsLeftOf s c0 w body image
  fronts others w image one in_shares in_recipes = (
    one,
    subst (λ (l : logs.State). KeepsBelow l.end (c0.now Shares) (image Shares)) shares (subst (λ (a : Store). KeepsBelow mid.disk.shares.end a (image Shares)) (others Shares (λ e. cc)) in_shares),
    subst (λ (l : logs.State). KeepsBelow l.end (c0.now Recipes) (image Recipes)) recipes (subst (λ (a : Store). KeepsBelow mid.disk.recipes.end a (image Recipes)) (others Recipes (λ e. cc)) in_recipes),
  )

  shares_are : mid.disk.shares.area ≡ Shares
  shares_are = subst (λ (l : logs.State). l.area ≡ Shares) (sym shares) is_shares

  recipes_are : mid.disk.recipes.area ≡ Recipes
  recipes_are = subst (λ (l : logs.State). l.area ≡ Recipes) (sym recipes) is_recipes

  after : IsTrue c0.told → (w : Where) → IsJournalEnded mid.disk.journal (c1.now Journal) w ⊎ IsJournalEnded mid.disk.journal (c1.now Journal) (summed s w)
      → ((other : Area) → other ≢ Journal → c1.now other ≡ c0.now other) → LeavesOnly c1 c2 (IsLeftOf s c0 w body)
  after told w (inl ended) others =
      weaker c1 c2 _ _ (grows (told1 told) shares_are recipes_are w ended) (λ image g. fronts others w image (from_first s w body (image Journal) g.0) g.1 g.2)
  after told w (inr ended) others =
      weaker c1 c2 _ _ (grows (told1 told) shares_are recipes_are (summed s w) ended) (λ image g. fronts others w image (from_second s w body (image Journal) g.0) g.1 g.2)

  pub grows_both : HasRoomMade {T = Unit {0}} {E = Unit {0}} s mid c0 c1 (Ok tt) → KeepsOrGrows s body c0 c2
  grows_both made told w ended =
      let m = made told w ended in
      joined c0 c1 c2 _ (grows_sums s body c0 c1 sums told w ended) (after told w m.0 m.1)

-- ---- after Ok

-- what an add leaves of the disk
abbrev pub DiskHasGrown : disks.Disk → disks.Disk → List ℕ → Cloud → Cloud → Type 0
DiskHasGrown old new body before after = IsTrue before.told → old.shares.area ≡ Shares → old.recipes.area ≡ Recipes → disks.IsGrownBy old new body before after

module _ (s mid new : CloudStore) (body : List ℕ) (c0 c1 c2 : Cloud) (shares : mid.disk.shares ≡ s.disk.shares) (recipes : mid.disk.recipes ≡ s.disk.recipes)
    (is_shares : s.disk.shares.area ≡ Shares) (is_recipes : s.disk.recipes.area ≡ Recipes) (told1 : IsTrue c0.told → IsTrue c1.told) where
  from_chain : (w : Where) → disks.IsGrownBy mid.disk new.disk body c1 c2 → IsJournalEnded mid.disk.journal (c1.now Journal) w ⊎ IsJournalEnded mid.disk.journal (c1.now Journal) (summed s w)
      → IsJournalEnded new.disk.journal (c2.now Journal) (with_body w body) ⊎ IsJournalEnded new.disk.journal (c2.now Journal) (with_body (summed s w) body)
  from_chain w by (inl ended) = inl (by.chain w ended)
  from_chain w by (inr ended) = inr (by.chain (summed s w) ended)

  pub grown_both : HasRoomMade {T = Unit {0}} {E = Unit {0}} s mid c0 c1 (Ok tt) → DiskHasGrown mid.disk new.disk body c1 c2 → HasGrown s new body c0 c2
  grown_both made grown told w ended =
      let m = made told w ended in
      let by = grown (told1 told) (subst (λ (l : logs.State). l.area ≡ Shares) (sym shares) is_shares) (subst (λ (l : logs.State). l.area ≡ Recipes) (sym recipes) is_recipes) in
      record {
        chain = from_chain w by m.0;
        shares = subst (λ (l : logs.State). IsFlushed l (c0.now Shares) (c2.now Shares)) shares (subst (λ (a : Store). IsFlushed mid.disk.shares a (c2.now Shares)) (m.1 Shares (λ e. cc)) by.shares);
        recipes = subst (λ (l : logs.State). IsFlushed l (c0.now Recipes) (c2.now Recipes)) recipes (subst (λ (a : Store). IsFlushed mid.disk.recipes a (c2.now Recipes)) (m.1 Recipes (λ e. cc)) by.recipes);
      }
