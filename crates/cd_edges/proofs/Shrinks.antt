-- A sync takes images away and adds none, whichever area it was.
use Rattle.std.proofs.Common.{◌≡◌, ◌≢◌, ◌⊎◌, inl, inr, Result, refl, subst}
use Rattle.cd_edges.specs.declared.area.Area.{Area}
use Rattle.cd_edges.specs.declared.area.Area.TheVariants.{Journal, Shares, Recipes}
use Rattle.cd_edges.specs.Disk.{Image, MayLeave, IsImage, Cloud, LeavesOnly}
use Rattle.cd_edges.specs.Shelf.{Syncs}
use Rattle.cd_edges.proofs.Moments.{started}
use Rattle.cd_edges.proofs.Torn.{After, after_sync, goes_on}

pub area_cases : (area other : Area) → (area ≡ other) ⊎ (other ≢ area)
area_cases Journal Journal = inl refl
area_cases Journal Shares = inr (λ e. cc)
area_cases Journal Recipes = inr (λ e. cc)
area_cases Shares Journal = inr (λ e. cc)
area_cases Shares Shares = inl refl
area_cases Shares Recipes = inr (λ e. cc)
area_cases Recipes Journal = inr (λ e. cc)
area_cases Recipes Shares = inr (λ e. cc)
area_cases Recipes Recipes = inl refl

shrinks : (old new : Cloud) (changed : Area) → After old new changed (old.now changed) → (image : Image) → IsImage new.now image → IsImage old.now image
shrinks old new changed after image now other = elim (area_cases changed other) [
  | inl same ↦ subst (λ (a : Area). MayLeave (old.now a) (image a)) same (after.area (image changed) (now changed))
  | inr ne ↦ after.others other ne (image other) (now other)
]

-- each image since the start is one of the start
pub begun : (start : Cloud) → LeavesOnly start start (IsImage start.now)
begun start = started start (IsImage start.now) (λ image now. now)

pub sync_goes_on : {T E : Type 0} (r : Result T E) (start old new : Cloud) (changed : Area) → LeavesOnly start old (IsImage start.now) → ((image : Image) → IsImage old.now image → IsImage start.now image) → MayLeave (old.now changed) (old.now changed).read → Syncs old new changed r → LeavesOnly start new (IsImage start.now)
sync_goes_on r start old new changed run before reads s =
    let after = after_sync r old new changed reads s in
    goes_on start old new (IsImage start.now) changed (old.now changed) run after (λ image now. before image (shrinks old new changed after image now))

pub sync_shrinks : {T E : Type 0} (r : Result T E) (start old new : Cloud) (changed : Area) → ((image : Image) → IsImage old.now image → IsImage start.now image) → MayLeave (old.now changed) (old.now changed).read → Syncs old new changed r → (image : Image) → IsImage new.now image → IsImage start.now image
sync_shrinks r start old new changed before reads s image now = before image (shrinks old new changed (after_sync r old new changed reads s) image now)
