-- One command more: what its step in the memory gives, and the store that serves the list with it.
use Rattle.std.proofs.Common.{◌≡◌, inl, ℕ, ◌+◌, ◌-◌, ◌^◌, false, List, [], ◌∷◌, ◌++◌, length, map, Some, None, refl, sym, ap, ◌∙◌, subst, arith, length-append}
use Rattle.std.specs.Prelude.{min}
use Rattle.std.specs.FinMap.{FinMap, get}
use Rattle.std.proofs.lemmas.List.Elements.{All-head, All-tail}
use Rattle.recipe.specs.CdBase.ids.Fp.{Fp}
use Rattle.recipe.specs.CdBase.ids.Tag.{Tag}
use Rattle.recipe.specs.CdBase.ids.UserId.{UserId}
use Rattle.recipe.specs.CdBase.ids.Version.{Version}
use Rattle.checkpoints.specs.CdEdges.area.Area.TheVariants.{Recipes}
use Rattle.checkpoints.specs.CdEdges.Disk.{Cloud, reads}
use Rattle.checkpoints.proofs.CdEdges.Moments.{weaker, joined}
use Rattle.checkpoints.specs.ContainerLog.Laying.{Placed, placed, IsAt}
use Rattle.checkpoints.specs.ContainerLog.States as logs
use Rattle.checkpoints.proofs.ContainerLog.Staged.{staged_end_of}
use Rattle.checkpoints.specs.FileIndex.key.Entry.{Entry}
use Rattle.checkpoints.specs.FileIndex.Files.{key_of}
use Rattle.checkpoints.specs.FileIndex.Order.{key_cmp}
use Rattle.checkpoints.specs.JournalStart.start.Header.{Header}
use Rattle.checkpoints.specs.JournalStart.Ranges.{AreRooms}
use Rattle.checkpoints.specs.RecordBody.Spelling.{Body, FitsBody, IsBody}
use Rattle.recipe.specs.CdBase.place.Place.{Place}
use Rattle.checkpoints.specs.UserDedup.command.Command.{Command}
use Rattle.checkpoints.specs.UserDedup.Dedup.{IsSound}
use Rattle.checkpoints.specs.UserDedup.Cloud.{counted, held_bytes}
use Rattle.checkpoints.specs.UserDedup.Spending.{full_for, IsWithin}
use Rattle.checkpoints.proofs.UserDedup.Within.{next_within}
use Rattle.checkpoints.specs.CloudAreas.Adding.{with_record}
use Rattle.checkpoints.specs.CloudAreas.Chains.{IsRecord, AreLong, BothHaveRoom, laid_shares}
use Rattle.checkpoints.specs.CloudAreas.Laid.{IsLaidBehind, HaveEnds, end_behind, place_by}
use Rattle.checkpoints.specs.CloudAreas.Placing.{shares_in, shares_placed, recipes_placed, places_of}
use Rattle.checkpoints.specs.CloudAreas.Standing.{Chain, StandsFor}
use Rattle.checkpoints.proofs.CloudAreas.Placed.{shares_more}
use Rattle.checkpoints.specs.CloudDisk.Disk.{Disk, IsOn, IsPrepared, KeepsFronts, KeepsOrAdds, StandsForEither, EndsBehind, Stages, shares_laid}
use Rattle.checkpoints.proofs.DiskProofs.Blobs.{all_right}
use Rattle.checkpoints.proofs.CloudAreas.Laid.{blobs_end}
use Rattle.checkpoints.specs.CloudMemory.cloud.CloudMemory.{CloudMemory}
use Rattle.checkpoints.specs.CloudMemory.Memory.{Memory, Remembers, IsPlacedBy, HasEnds}
use Rattle.checkpoints.specs.CloudMemory.Rooms.{memory_of}
use Rattle.checkpoints.specs.Settling.{KeepsList}
use Rattle.cloud_opening.specs.RecordLaws.Leaving.{record_left, MayHold, RecipesLie}
use Rattle.cloud_store.specs.Store.{ServesBy}
use Rattle.cloud_store.proofs.Carrying.{ended_by, lie_after, serves_more}
use Rattle.cloud_store.proofs.Preparing.{prepared}

-- What the memory's step gives: the list is sound with the command, and no room is full for it; the record is the command's, fits, and lays
-- behind the memory's ends; and the new memory is that of the list with the command, placed by the records with this one.
pub record IsNext (header : Header) (list : List Command) (c : Chain) (region : ℕ) (memory new : CloudMemory) (command : Command) (body : Body) (laid : List Placed) : Type 0 where
  pub sound : IsSound header.shape header.cloud.0 (list ++ command ∷ [])
  pub room : full_for header.shape header.rooms list command ≡ None
  pub is_record : IsRecord region c.records list command body laid
  pub fits : FitsBody body
  pub behind : IsLaidBehind memory.shares_end memory.recipes_end body
  pub laid_are : recipes_placed body ≡ map place_by laid
  pub remembers : Remembers header.shape (list ++ command ∷ []) (memory_of new)
  pub placed : IsPlacedBy (c.records ++ body ∷ []) (memory_of new)
  pub ends : HasEnds region (list ++ command ∷ []) (c.records ++ body ∷ []) (memory_of new)
  pub shares_end : new.shares_end ≡ end_behind memory.shares_end (places_of (shares_placed body))
  pub recipes_end : new.recipes_end ≡ end_behind memory.recipes_end (recipes_placed body)
  pub files : (area : List ℕ) (m : Memory) → m.files ≡ (memory_of memory).files → (memory_of new).files ≡ (record_left header.shape area false m body).files

-- ---- the ends of the logs

-- behind blobs that are staged for their places
staged_behind : (log : logs.State) (blobs : List Placed) → Stages log blobs → logs.staged_end log ≡ end_behind log.end (map place_by blobs)
staged_behind log blobs s =
    staged_end_of log s.strings s.staged ∙ sym (blobs_end log.end s.strings) ∙ ap (λ (bs : List Placed). end_behind log.end (map place_by bs)) (sym s.places)

-- the places of shares are those of their strings, where they have their lengths
places_long : (list : List Command) (xs : List (Fp × Place)) → AreLong list xs → map place_by (laid_shares list xs) ≡ places_of xs
places_long list [] long = refl
places_long list (x ∷ xs) long =
    let here : length (held_bytes list x.0) ≡ x.1.len = sym (All-head (λ (y : Fp × Place). y.1.len ≡ length (held_bytes list y.0)) x xs long) in
    λ i. record { at = x.1.at; len = here i } ∷ places_long list xs (All-tail (λ (y : Fp × Place). y.1.len ≡ length (held_bytes list y.0)) x xs long) i

count_next : (list : List Command) (command : Command) → counted (list ++ command ∷ []) ≡ min (counted list + 1) (2 ^ 64 - 1)
count_next list command = let long = length-append list (command ∷ []) in omega (arith, long)

module _ (header : Header) (list : List Command) (c : Chain) (commands region : ℕ) (memory new : CloudMemory) (disk now : Disk) (c0 c1 : Cloud) (s : ServesBy header list c commands region memory disk c0)
    (command : Command) (body : Body) (laid : List Placed) (next : IsNext header list c region memory new command body laid) where
  abbrev longer : List Command
  longer = list ++ command ∷ []

  within : IsWithin header.shape header.rooms longer
  within = next_within header.shape header.rooms list command s.known.within next.room

  pub prepared_next : ((region : ℕ) (records : List Body) (list : List Command) (command : Command) (body : Body) (laid : List Placed) (shares recipes : ℕ)
      → IsRecord region records list command body laid → BothHaveRoom region list records → HaveEnds region list records shares recipes
      → IsLaidBehind shares recipes body → BothHaveRoom region (list ++ command ∷ []) (records ++ body ∷ []))
      → (bytes : List ℕ) → IsBody bytes body → Stages disk.shares (shares_laid list command body) → Stages disk.recipes laid
      → IsPrepared header list c command body laid disk bytes c0
  prepared_next room bytes is_body shares recipes =
      prepared header list c commands region memory disk c0 s room command body laid next.is_record next.behind bytes next.sound is_body shares recipes

  pub served_next : AreRooms header.rooms → header.format ≡ 2 → length memory.spent ≡ header.rooms.users → (bytes : List ℕ) (more : ℕ) → more ≡ min (commands + 1) (2 ^ 64 - 1)
      → Stages disk.shares (shares_laid list command body) → Stages disk.recipes laid → IsOn header longer (with_record c body laid) now c1 → KeepsFronts disk c0 c1
      → EndsBehind disk now bytes → ServesBy header longer (with_record c body laid) more region new now c1
  served_next are format users bytes more number shares recipes on fronts behind =
      serves_more header list c commands region memory disk c0 s command body laid new more now c1 on next.remembers next.placed next.ends within
      (count_next list command ∙ ap (λ (n : ℕ). min (n + 1) (2 ^ 64 - 1)) s.known.number ∙ sym number) shares_are recipes_are
      (λ user tag version e entry has is. lies user tag version e entry (files_are user tag version e has) is)
    where
      may : MayHold header longer
      may = record { format = λ one. let no : 1 ≡ 2 = sym one ∙ format in omega (arith, no); rooms = are; sound = next.sound; within = within }

      long : AreLong longer (shares_placed body)
      long =
          all_right (λ (x : Fp × Place). x.1.len ≡ length (held_bytes longer x.0)) (shares_in c.records) (shares_placed body)
          (subst (AreLong longer) (shares_more c.records body) on.read.holds.long)

      shares_are : now.shares.end ≡ new.shares_end
      shares_are =
          behind.shares ∙ staged_behind disk.shares (shares_laid list command body) shares
          ∙ (λ i. end_behind (s.shares_end i) (places_long longer (shares_placed body) long i)) ∙ sym next.shares_end

      recipes_are : now.recipes.end ≡ new.recipes_end
      recipes_are =
          behind.recipes ∙ staged_behind disk.recipes laid recipes
          ∙ (λ i. end_behind (s.recipes_end i) (sym next.laid_are i)) ∙ sym next.recipes_end

      lies : RecipesLie header.shape (reads c1.now Recipes) longer (record_left header.shape (reads c1.now Recipes) false (ended_by region c.records (memory_of memory)) body)
      lies =
          lie_after header list c commands region memory disk c0 s command body laid c1 fronts may users next.is_record
          (all_right (IsAt (reads c1.now Recipes)) c.recipes laid on.read.holds.recipes)

      files_are : (user : UserId) (tag : Tag) (version : Version) (e : Entry) → get (memory_of new).files (key_of user.0 tag.0 version.0) ≡ Some e
          → get (record_left header.shape (reads c1.now Recipes) false (ended_by region c.records (memory_of memory)) body).files (key_of user.0 tag.0 version.0) ≡ Some e
      files_are user tag version e has =
          subst (λ (f : FinMap key_cmp Entry). get f (key_of user.0 tag.0 version.0) ≡ Some e) (next.files (reads c1.now Recipes) (ended_by region c.records (memory_of memory)) refl) has

-- ---- images

-- while room is made the cloud stands for the list, and then for it or the list with the command
pub images_both : (header : Header) (list : List Command) (command : Command) (c0 c1 c2 : Cloud) → KeepsList header list c0 c1 → KeepsOrAdds header list command c1 c2
    → KeepsOrAdds header list command c0 c2
images_both header list command c0 c1 c2 first second =
    joined c0 c1 c2 (StandsForEither header list command) (weaker c0 c1 (λ image. StandsFor image header list) (StandsForEither header list command) first (λ image stands. inl stands)) second

pub images_kept : (header : Header) (list : List Command) (command : Command) (c0 c1 : Cloud) → KeepsList header list c0 c1 → KeepsOrAdds header list command c0 c1
images_kept header list command c0 c1 first = weaker c0 c1 (λ image. StandsFor image header list) (StandsForEither header list command) first (λ image stands. inl stands)
