-- What lies in front of the ends of both logs stays there.
use Rattle.std.proofs.Common.{◌≡◌, ◌≢◌, ℕ, ◌+◌, ◌≤◌, List, [], ◌∷◌, length, Result, Ok, Err, sym, subst}
use Rattle.std.specs.Prelude.{OnOk}
use Rattle.std.proofs.lemmas.List.Elements.{All-nil, All-cons, All-head}
use Rattle.commit_journal.specs.CdEdges.area.Area.{Area}
use Rattle.commit_journal.specs.CdEdges.area.Area.TheVariants.{Journal, Shares, Recipes}
use Rattle.commit_journal.specs.CdEdges.Disk.{Store, Cloud}
use Rattle.cloud_areas.specs.ContainerLog.Laying.{Placed, placed, IsAt}
use Rattle.cloud_areas.specs.ContainerLog.States.{State}
use Rattle.cloud_disk.specs.Held.{LogHolds, LogsHold, HaveBoth, IsBelow, with_staged}
use Rattle.cloud_disk.specs.Disk.{Disk, KeepsFronts}

-- an area of which one blob is asked, or none
one_held : (area : Area) (blobs : List Placed) (log : State) (c : Cloud) (b : Placed) → LogHolds area blobs log c.now → b.place + length b.blob ≤ log.end → IsAt (c.now area).read b
    → LogHolds area (b ∷ []) log c.now
one_held area blobs log c b h below at = record {
  area_is = h.area_is;
  agrees = h.agrees;
  on_disk = h.on_disk;
  below = All-cons (IsBelow log.end) b [] below (All-nil (IsBelow log.end));
  laid = All-cons (IsAt (c.now area).read) b [] at (All-nil (IsAt (c.now area).read));
}

none_held : (area : Area) (blobs : List Placed) (log : State) (c : Cloud) → LogHolds area blobs log c.now → LogHolds area [] log c.now
none_held area blobs log c h = record {
  area_is = h.area_is;
  agrees = h.agrees;
  on_disk = h.on_disk;
  below = All-nil (IsBelow log.end);
  laid = All-nil (IsAt (c.now area).read);
}

module _ (in_shares in_recipes : List Placed) (disk : Disk) (new_shares new_recipes : State) (c0 c1 : Cloud) (strings more : List (List ℕ))
    (h : LogsHold in_shares in_recipes disk.shares disk.recipes c0.now)
    (both : (ins inr : List Placed) → LogsHold ins inr disk.shares disk.recipes c0.now
    → HaveBoth (with_staged ins disk.shares strings) (with_staged inr disk.recipes more) new_shares new_recipes c0 c1) where
  share_kept : (b : Placed) → b.place + length b.blob ≤ disk.shares.end → IsAt (c0.now Shares).read b → IsAt (c1.now Shares).read b
  share_kept b below at =
      let held : LogsHold (b ∷ []) [] disk.shares disk.recipes c0.now = record {
        journal = h.journal;
        shares_held = one_held Shares in_shares disk.shares c0 b h.shares_held below at;
        recipes_held = none_held Recipes in_recipes disk.recipes c0 h.recipes_held;
      } in
      All-head (IsAt (c1.now Shares).read) b (placed disk.shares.end strings) (both (b ∷ []) [] held).held.shares_held.laid

  recipe_kept : (b : Placed) → b.place + length b.blob ≤ disk.recipes.end → IsAt (c0.now Recipes).read b → IsAt (c1.now Recipes).read b
  recipe_kept b below at =
      let held : LogsHold [] (b ∷ []) disk.shares disk.recipes c0.now = record {
        journal = h.journal;
        shares_held = none_held Shares in_shares disk.shares c0 h.shares_held;
        recipes_held = one_held Recipes in_recipes disk.recipes c0 b h.recipes_held below at;
      } in
      All-head (IsAt (c1.now Recipes).read) b (placed disk.recipes.end more) (both [] (b ∷ []) held).held.recipes_held.laid

  -- after both are flushed, and then only the journal is written
  pub fronts_kept : {T E : Type 0} (r : Result T E) (c2 : Cloud) → OnOk r ((other : Area) → other ≢ Journal → c2.now other ≡ c1.now other) → OnOk r (KeepsFronts disk c0 c2)
  fronts_kept (Err e) c2 others = tt
  fronts_kept (Ok v) c2 others = record {
    shares = λ b below at. subst (λ (s : Store). IsAt s.read b) (sym (others Shares (λ e. cc))) (share_kept b below at);
    recipes = λ b below at. subst (λ (s : Store). IsAt s.read b) (sym (others Recipes (λ e. cc))) (recipe_kept b below at);
  }
