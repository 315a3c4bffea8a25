-- What a chain places lies apart from copies in the other region.
use Rattle.std.proofs.Common.{◌≡◌, ◌⊎◌, ℕ, ◌+◌, ◌≤◌, List, [], ◌∷◌, length, map, subst, arith, inl, inr}
use Rattle.std.specs.Prelude.{All}
use Rattle.std.proofs.lemmas.List.Elements.{All-nil, All-cons, All-head, All-tail}
use Rattle.compact_lists.specs.CdBase.ids.Fp.{Fp}
use Rattle.compact_lists.specs.CdBase.place.Place.{Place}
use Rattle.fresh_checkpoints.specs.CdEdges.Disk.{Cloud}
use Rattle.record_laws.specs.ContainerLog.Laying.{Placed}
use Rattle.cloud_store.specs.CommitJournal.States as journals
use Rattle.compact_lists.specs.JournalStart.start.Header.{Header}
use Rattle.compact_lists.specs.UserDedup.Cloud.{held_bytes}
use Rattle.compact_lists.specs.UserDedup.command.Command.{Command}
use Rattle.fresh_checkpoints.specs.CloudAreas.Chains.{LiesIn, laid_shares}
use Rattle.fresh_checkpoints.specs.CloudAreas.Placing.{region_start, greatest_end, shares_in, recipes_in, places_of}
use Rattle.fresh_checkpoints.specs.CloudAreas.Standing.{Chain, region_in}
use Rattle.fresh_checkpoints.specs.CloudDisk.Disk.{IsRead}
use Rattle.fresh_checkpoints.proofs.CloudDiskLaws.Ends.{shares_below, recipes_below, recipes_said, place_at}
use Rattle.blob_copy.specs.Apart.{IsApart}
use Rattle.blob_copy.proofs.Beside.{below_apart, behind_apart}

shares_begin : (list : List Command) (region : ℕ) (xs : List (Fp × Place)) → All (LiesIn region) (places_of xs) → All (λ (b : Placed). region_start region ≤ b.place) (laid_shares list xs)
shares_begin list region [] all = All-nil (λ (b : Placed). region_start region ≤ b.place)
shares_begin list region (x ∷ xs) all =
    All-cons (λ (b : Placed). region_start region ≤ b.place) (record { place = x.1.at; blob = held_bytes list x.0 }) (laid_shares list xs)
    (All-head (LiesIn region) x.1 (places_of xs) all).0 (shares_begin list region xs (All-tail (LiesIn region) x.1 (places_of xs) all))

recipes_begin : (region : ℕ) (bs : List Placed) → All (LiesIn region) (map place_at bs) → All (λ (b : Placed). region_start region ≤ b.place) bs
recipes_begin region [] all = All-nil (λ (b : Placed). region_start region ≤ b.place)
recipes_begin region (b ∷ bs) all =
    All-cons (λ (d : Placed). region_start region ≤ d.place) b bs
    (All-head (LiesIn region) (place_at b) (map place_at bs) all).0 (recipes_begin region bs (All-tail (LiesIn region) (place_at b) (map place_at bs) all))

module _ (header : Header) (list : List Command) (c : Chain) (journal : journals.JournalState) (cloud : Cloud) (r : IsRead header list c journal cloud) (end : ℕ) (bytes : List ℕ) where
  pub shares_apart : (greatest_end (region_start (region_in c)) (places_of (shares_in c.records)) ≤ end) ⊎ (end + length bytes ≤ region_start (region_in c))
      → All (IsApart end bytes) (laid_shares list (shares_in c.records))
  shares_apart (inl front) =
      below_apart end end bytes (laid_shares list (shares_in c.records)) (shares_below list (region_start (region_in c)) end (shares_in c.records) r.holds.long front) (omega arith)
  shares_apart (inr back) =
      behind_apart (region_start (region_in c)) end bytes (laid_shares list (shares_in c.records))
      (shares_begin list (region_in c) (shares_in c.records) r.holds.rooms.shares.each) back

  said : recipes_in c.records ≡ map place_at c.recipes
  said = recipes_said _ _ _ _ _ c.records list c.recipes r.holds.says

  pub recipes_apart : (greatest_end (region_start (region_in c)) (recipes_in c.records) ≤ end) ⊎ (end + length bytes ≤ region_start (region_in c)) → All (IsApart end bytes) c.recipes
  recipes_apart (inl front) =
      below_apart end end bytes c.recipes
      (recipes_below (region_start (region_in c)) end c.recipes (subst (λ (ps : List Place). greatest_end (region_start (region_in c)) ps ≤ end) said front)) (omega arith)
  recipes_apart (inr back) =
      behind_apart (region_start (region_in c)) end bytes c.recipes
      (recipes_begin (region_in c) c.recipes (subst (λ (ps : List Place). All (LiesIn (region_in c)) ps) said r.holds.rooms.recipes.each)) back
