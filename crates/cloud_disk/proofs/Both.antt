-- Both logs, flushed one after the other.
use Rattle.std.proofs.Common.{◌≡◌, ◌≢◌, ℕ, ◌+◌, List, Result, Ok, Err, refl, sym, ap, ◌∙◌, subst, arith}
use Rattle.std.specs.Prelude.{OnOk, OnErr}
use Rattle.commit_journal.specs.CdEdges.area.Area.{Area}
use Rattle.commit_journal.specs.CdEdges.area.Area.TheVariants.{Journal, Shares, Recipes}
use Rattle.commit_journal.specs.CdEdges.Disk.{Store, Areas, Image, Cloud, LeavesOnly, IsAtArea, MayLeave}
use Rattle.commit_journal.specs.CdEdges.Shelf.{stable, IsCall, HasFailed, KeepsCounts}
use Rattle.commit_journal.proofs.CdEdges.Calls.{failed_after}
use Rattle.commit_journal.proofs.CdEdges.Moments.{weaker, joined}
use Rattle.commit_journal.proofs.CdEdges.Torn.{only}
use Rattle.cloud_areas.specs.ContainerLog.Laying.{Placed, placed}
use Rattle.cloud_areas.specs.ContainerLog.States.{State}
use Rattle.cloud_disk.specs.Held.{LogHolds, LogsHold, IsHeld, HaveBoth, LieIn, with_staged}
use Rattle.cloud_disk.proofs.Blobs.{front_lies}
use Rattle.cloud_disk.proofs.Holding.{agrees_as}

-- an area on the disk has one image
pub as_read : (store : Store) (image : List ℕ) → store ≡ stable store.read → MayLeave store image → image ≡ store.read
as_read store image disk left = only store.read image (subst (λ (s : Store). MayLeave s image) disk left)

-- an area that didn't change
pub held_still : (area : Area) (blobs : List Placed) (log : State) (old new : Areas) → new area ≡ old area → LogHolds area blobs log old → LogHolds area blobs log new
held_still area blobs log old new same h = record {
  area_is = h.area_is;
  agrees = agrees_as log log old new refl refl (subst (λ (a : Area). new a ≡ old a) (sym h.area_is) same) h.agrees;
  on_disk = subst (λ (s : Store). s ≡ stable s.read) (sym same) h.on_disk;
  below = h.below;
  laid = subst (λ (s : Store). LieIn blobs s.read) (sym same) h.laid;
}

-- ---- a call behind one that was Ok

pub moments_on : {T E : Type 0} (r : Result T E) (start mid now a b : ℕ) → mid ≡ start + a → OnOk r (now ≡ mid + b) → OnOk r (now ≡ start + a + b)
moments_on (Err e) start mid now a b first second = tt
moments_on (Ok v) start mid now a b first second = omega (arith, first, second)

pub moments_after : {T E : Type 0} (r : Result T E) (start mid now a b more : ℕ) → mid ≡ start + a + b → OnOk r (now ≡ mid + more) → OnOk r (now ≡ start + a + b + more)
moments_after (Err e) start mid now a b more first second = tt
moments_after (Ok v) start mid now a b more first second = omega (arith, first, second)

pub failed_later : {T E : Type 0} (r : Result T E) (a b c : ℕ → Cloud) (number before mid now : ℕ) → IsCall a b number before mid
    → OnErr r (HasFailed (b number) (c number) mid now) → OnErr r (HasFailed (a number) (c number) before now)
failed_later (Ok v) a b c number before mid now first second = tt
failed_later (Err e) a b c number before mid now first second = failed_after a b c number before mid now first second

pub counts_kept : {T E : Type 0} (r : Result T E) (a b c : Cloud) (before mid now : ℕ) → KeepsCounts a b before mid
    → OnOk r (KeepsCounts b c mid now) → OnOk r (KeepsCounts a c before now)
counts_kept (Err e) a b c before mid now first second = tt
counts_kept (Ok v) a b c before mid now first second = record { cloud = second.cloud ∙ first.cloud; total = second.total ∙ first.total }

module _ (in_shares in_recipes : List Placed) (shares recipes : State) where
  -- an image while Shares is written, and one while Recipes is
  pub image_of_shares : (now : Areas) (image : Image) → LogsHold in_shares in_recipes shares recipes now
      → IsAtArea now Shares (LieIn in_shares) image → IsHeld (now Journal).read in_shares in_recipes image
  image_of_shares now image h at = record {
    journal_is = as_read (now Journal) (image Journal) h.journal (at.others Journal (λ e. cc));
    shares_lie = at.area;
    recipes_lie = subst (LieIn in_recipes) (sym (as_read (now Recipes) (image Recipes) h.recipes_held.on_disk (at.others Recipes (λ e. cc)))) h.recipes_held.laid;
  }

  pub image_of_recipes : (now : Areas) (image : Image) → LogsHold in_shares in_recipes shares recipes now
      → IsAtArea now Recipes (LieIn in_recipes) image → IsHeld (now Journal).read in_shares in_recipes image
  image_of_recipes now image h at = record {
    journal_is = as_read (now Journal) (image Journal) h.journal (at.others Journal (λ e. cc));
    shares_lie = subst (LieIn in_shares) (sym (as_read (now Shares) (image Shares) h.shares_held.on_disk (at.others Shares (λ e. cc)))) h.shares_held.laid;
    recipes_lie = at.area;
  }

  -- after Shares is flushed, and after Recipes is
  pub shares_flushed : (more : List (List ℕ)) (new : State) (before now : Areas) → LogsHold in_shares in_recipes shares recipes before
      → LogHolds Shares (with_staged in_shares shares more) new now → ((other : Area) → other ≢ Shares → now other ≡ before other)
      → LogsHold (with_staged in_shares shares more) in_recipes new recipes now
  shares_flushed more new before now h held others = record {
    journal = subst (λ (s : Store). s ≡ stable s.read) (sym (others Journal (λ e. cc))) h.journal;
    shares_held = held;
    recipes_held = held_still Recipes in_recipes recipes before now (others Recipes (λ e. cc)) h.recipes_held;
  }

  pub recipes_flushed : (more : List (List ℕ)) (new : State) (before now : Areas) → LogsHold in_shares in_recipes shares recipes before
      → LogHolds Recipes (with_staged in_recipes recipes more) new now → ((other : Area) → other ≢ Recipes → now other ≡ before other)
      → LogsHold in_shares (with_staged in_recipes recipes more) shares new now
  recipes_flushed more new before now h held others = record {
    journal = subst (λ (s : Store). s ≡ stable s.read) (sym (others Journal (λ e. cc))) h.journal;
    shares_held = held_still Shares in_shares shares before now (others Shares (λ e. cc)) h.shares_held;
    recipes_held = held;
  }

  -- the images of the first flush
  pub first_images : (c0 c1 : Cloud) → LogsHold in_shares in_recipes shares recipes c0.now → shares.area ≡ Shares
      → LeavesOnly c0 c1 (IsAtArea c0.now shares.area (LieIn in_shares))
      → LeavesOnly c0 c1 (IsHeld (c0.now Journal).read in_shares in_recipes)
  first_images c0 c1 h is run =
      weaker c0 c1 _ _ (subst (λ (a : Area). LeavesOnly c0 c1 (IsAtArea c0.now a (LieIn in_shares))) is run) (λ image at. image_of_shares c0.now image h at)

  -- of both
  pub both_images : (more : List (List ℕ)) (new : State) (c0 c1 c2 : Cloud) → LeavesOnly c0 c1 (IsHeld (c0.now Journal).read in_shares in_recipes)
      → LogsHold (with_staged in_shares shares more) in_recipes new recipes c1.now → c1.now Journal ≡ c0.now Journal → recipes.area ≡ Recipes
      → LeavesOnly c1 c2 (IsAtArea c1.now recipes.area (LieIn in_recipes))
      → LeavesOnly c0 c2 (IsHeld (c0.now Journal).read in_shares in_recipes)
  both_images more new c0 c1 c2 first h same is run =
      joined c0 c1 c2 _ first
      (weaker c1 c2 _ _ (subst (λ (a : Area). LeavesOnly c1 c2 (IsAtArea c1.now a (LieIn in_recipes))) is run) (λ image at.
      let held = all_images image at in record {
        journal_is = held.journal_is ∙ ap (λ (s : Store). s.read) same;
        shares_lie = front_lies (image Shares) in_shares (placed shares.end more) held.shares_lie;
        recipes_lie = held.recipes_lie;
      }))
    where
      all_images : (image : Image) → IsAtArea c1.now Recipes (LieIn in_recipes) image → IsHeld (c1.now Journal).read (with_staged in_shares shares more) in_recipes image
      all_images image at = record {
        journal_is = as_read (c1.now Journal) (image Journal) h.journal (at.others Journal (λ e. cc));
        shares_lie = subst (LieIn (with_staged in_shares shares more)) (sym (as_read (c1.now Shares) (image Shares) h.shares_held.on_disk (at.others Shares (λ e. cc)))) h.shares_held.laid;
        recipes_lie = at.area;
      }

-- after both
pub both_held : {T E : Type 0} (r : Result T E) (in_shares in_recipes : List Placed) (more : List (List ℕ)) (shares recipes new : State) (c0 c1 c2 : Cloud)
    → LogsHold in_shares in_recipes shares recipes c1.now → c1.now Journal ≡ c0.now Journal
    → OnOk r (LogHolds recipes.area (with_staged in_recipes recipes more) new c2.now) → OnOk r ((other : Area) → other ≢ recipes.area → c2.now other ≡ c1.now other)
    → OnOk r (HaveBoth in_shares (with_staged in_recipes recipes more) shares new c0 c2)
both_held (Err e) in_shares in_recipes more shares recipes new c0 c1 c2 h same held others = tt
both_held (Ok v) in_shares in_recipes more shares recipes new c0 c1 c2 h same held others =
    let is : recipes.area ≡ Recipes = h.recipes_held.area_is in
    let away : (other : Area) → other ≢ Recipes → c2.now other ≡ c1.now other = subst (λ (a : Area). (other : Area) → other ≢ a → c2.now other ≡ c1.now other) is others in record {
      held = recipes_flushed in_shares in_recipes shares recipes more new c1.now c2.now h (subst (λ (a : Area). LogHolds a (with_staged in_recipes recipes more) new c2.now) is held) away;
      journal_is = away Journal (λ e. cc) ∙ same;
    }
