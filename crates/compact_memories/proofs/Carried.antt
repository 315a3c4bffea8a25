-- The memory that is made by moving what is alive and dropping what isn't.
use Rattle.std.proofs.Common.{◌≡◌, ℕ, ◌<◌, ◌≤◌, List, length, map, Some, sym, ap, ◌∙◌, subst, arith}
use Rattle.std.specs.Prelude.{◌↔◌}
use Rattle.std.specs.FinMap.{get}
use Rattle.std.specs.List.{Contains}
use Rattle.compact_lists.specs.CdBase.ids.Fp.{Fp}
use Rattle.compact_lists.specs.CdBase.ids.UserId.{UserId}
use Rattle.compact_lists.specs.CdBase.place.Place.{Place}
use Rattle.checkpoints.specs.ContainerLog.Places.{end_of_laid}
use Rattle.checkpoints.specs.FileIndex.key.Entry.{Entry}
use Rattle.checkpoints.specs.FileIndex.key.FileKey.{FileKey}
use Rattle.checkpoints.specs.FileIndex.Files.{Files}
use Rattle.checkpoints.specs.PoolMap.Slots.{IsListed}
use Rattle.checkpoints.specs.ShareIndex.Shares.{Shares}
use Rattle.checkpoints.specs.SpentTable.Spent.{Spent}
use Rattle.checkpoints.specs.CloudAreas.Placing.{region_start}
use Rattle.checkpoints.specs.CloudMemory.cloud.CloudMemory.{CloudMemory}
use Rattle.checkpoints.specs.CloudMemory.Memory.{Memory, as_spent}
use Rattle.checkpoints.specs.CloudMemory.Moving.{with_ends}
use Rattle.checkpoints.specs.CloudMemory.Rooms.{memory_of}
use Rattle.compact_memories.specs.Kept.{live_in, live_places, entries_in, live_entries, kept_in}
use Rattle.compact_memories.specs.Moved.{new_places, new_entries, lens_of, entry_lens, IsMoved}
use Rattle.compact_memories.specs.Passes.{row_of, DroppedSoFar, SetSoFar}
use Rattle.compact_memories.specs.Relaid.{ArePlacesMoved, AreEntriesMoved}
use Rattle.compact_memories.proofs.Carrying.{entries_listed}
use Rattle.compact_memories.proofs.Emptying.{left_alive}

-- entries aren't touched by moves of places
pub same_entries : (start : ℕ) (old placed : CloudMemory) → ArePlacesMoved start old placed → live_entries placed ≡ live_entries old
same_entries start old placed p = ap (λ (f : Files). entries_in f.slots) p.files

module _ (region start : ℕ) (start_is : start ≡ region_start region) (old placed lying dropped : CloudMemory) (filled new : Memory) (rows : List Spent) (few : length old.spent ≤ 256)
    (kept : (user : UserId) → user.0 < 256 → as_spent (row_of rows user.0) ≡ kept_in (memory_of old) user)
    (p : ArePlacesMoved start old placed) (e : AreEntriesMoved start placed lying) (files_listed : IsListed lying.files.files lying.files.slots)
    (d : DroppedSoFar lying dropped (length lying.shares.place_slots)) (listed : IsListed dropped.shares.places dropped.shares.place_slots)
    (s : SetSoFar rows (memory_of dropped) filled 256) (shares_end recipes_end : ℕ) (shares_end_is : shares_end ≡ end_of_laid start (lens_of (live_places old)))
    (recipes_end_is : recipes_end ≡ end_of_laid start (entry_lens (live_entries placed))) (new_is : new ≡ with_ends shares_end recipes_end filled) where
  the_places : live_places lying ≡ new_places (region_start region) (live_places old)
  the_places = ap (λ (x : Shares). live_in x.owners x.place_slots) e.shares ∙ p.places ∙ ap (λ (n : ℕ). new_places n (live_places old)) start_is

  the_entries : live_entries lying ≡ new_entries (region_start region) (live_entries old)
  the_entries = e.entries ∙ ap (new_entries start) (same_entries start old placed p) ∙ ap (λ (n : ℕ). new_entries n (live_entries old)) start_is

  places_same : new.places ≡ dropped.shares.places
  places_same = ap (λ (m : Memory). m.places) new_is ∙ ap (λ (m : Memory). m.places) s.rest

  files_same : new.files ≡ lying.files.files
  files_same = ap (λ (m : Memory). m.files) new_is ∙ ap (λ (m : Memory). m.files) s.rest ∙ ap (λ (m : Memory). m.files) d.rest

  users_same : length dropped.spent ≡ length old.spent
  users_same = ap (λ (m : Memory). length m.spent) d.rest ∙ ap (λ (m : Memory). length m.spent) e.rest ∙ ap (λ (m : Memory). length m.spent) p.rest

  pub are_moved : IsMoved region old new
  are_moved = record {
    places = λ fp place.
        subst (λ m. get m fp.0 ≡ Some place ↔ Contains (new_places (region_start region) (live_places old)) (fp, place)) (sym places_same)
        (subst (λ (xs : List (Fp × Place)). get dropped.shares.places fp.0 ≡ Some place ↔ Contains xs (fp, place)) the_places (left_alive lying dropped d listed fp place));
    files = λ key x.
        subst (λ m. get m key ≡ Some x ↔ Contains (new_entries (region_start region) (live_entries old)) (key, x)) (sym files_same)
        (subst (λ (xs : List (FileKey × Entry)). get lying.files.files key ≡ Some x ↔ Contains xs (key, x)) the_entries (entries_listed lying.files files_listed key x));
    owners =
        ap (λ (m : Memory). m.owners) new_is ∙ ap (λ (m : Memory). m.owners) s.rest ∙ ap (λ (m : Memory). m.owners) d.rest ∙ ap (λ (m : Memory). m.owners) e.rest
        ∙ ap (λ (m : Memory). m.owners) p.rest;
    users = ap (λ (m : Memory). length m.spent) new_is ∙ s.users ∙ users_same;
    spent = λ user inside.
        let same = users_same in
        ap (λ (m : Memory). as_spent (row_of m.spent user.0)) new_is
        ∙ ap as_spent (s.are_set user.0 (omega (arith, few, inside)) (omega (arith, inside, same)))
        ∙ kept user (omega (arith, few, inside));
    shares_end = ap (λ (m : Memory). m.shares_end) new_is ∙ shares_end_is ∙ ap (λ (n : ℕ). end_of_laid n (lens_of (live_places old))) start_is;
    recipes_end =
        ap (λ (m : Memory). m.recipes_end) new_is ∙ recipes_end_is
        ∙ ap (λ (xs : List (FileKey × Entry)). end_of_laid start (entry_lens xs)) (same_entries start old placed p)
        ∙ ap (λ (n : ℕ). end_of_laid n (entry_lens (live_entries old))) start_is;
  }
