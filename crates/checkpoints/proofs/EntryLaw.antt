-- A memory of a list lists the entries, once, with where their recipes lie.
use Rattle.std.proofs.Common.{◌≡◌, ℕ, List, [], ◌∷◌, map, Option, Some, None, refl, sym, ap, ◌∙◌, subst}
use Rattle.std.specs.Prelude.{◌↔◌, is_some, IsSome, option_map}
use Rattle.std.specs.FinMap.{get}
use Rattle.std.specs.List.{Contains}
use Rattle.cloud_memory.specs.CdBase.ids.Fp.{Fp}
use Rattle.cloud_memory.specs.CdBase.ids.Tag.{Tag}
use Rattle.cloud_memory.specs.CdBase.ids.UserId.{UserId}
use Rattle.cloud_memory.specs.CdBase.ids.Version.{Version}
use Rattle.cloud_memory.specs.CdBase.shape.Shape.{Shape}
use Rattle.cloud_memory.specs.FileIndex.key.Entry.{Entry}
use Rattle.cloud_memory.specs.FileIndex.key.FileKey.{FileKey}
use Rattle.cloud_memory.specs.RecordBody.body.CommitBody.{CommitBody}
use Rattle.cloud_memory.proofs.ShareIndexLaws.Owning.{value-of}
use Rattle.cloud_memory.specs.UserDedup.file_list.FileEntry.{FileEntry}
use Rattle.cloud_memory.specs.UserDedup.Pages.{entry_at}
use Rattle.cloud_memory.proofs.UserDedup.Owned.{contains_here, contains_later}
use Rattle.cloud_memory.specs.UserDedup.command.Command.{Command}
use Rattle.cloud_memory.specs.UserDedup.Cloud.{user_view}
use Rattle.cloud_disk.specs.CloudAreas.Checkpoints.{Lists, key_of, HasEntry, IsEntry, AreEntries}
use Rattle.cloud_disk.proofs.CloudAreas.Apart.{Apart, are_apart}
use Rattle.cloud_disk.proofs.CloudAreas.Lists.{in_map, from_map}
use Rattle.cloud_memory.specs.declared.cloud.CloudMemory.{CloudMemory}
use Rattle.cloud_memory.specs.Memory.{Remembers, summary, summary_of}
use Rattle.cloud_memory.specs.Rooms.{memory_of}
use Rattle.checkpoints.specs.Picking.{picked}
use Rattle.checkpoints.specs.Records.{commit_in, commit_at, commits_from}
use Rattle.checkpoints.specs.Known.{AreListed, recipe_or, recipe_of, recipes_of}
use Rattle.checkpoints.proofs.Sought.{from_picked, in_picked, apart_picked, map_picked}

abbrev commit_or : CommitBody → Option CommitBody → CommitBody
commit_or other None = other
commit_or other (Some c) = c

abbrev file_key : UserId × Tag × Version → FileKey
file_key key = record { user = key.0.0; tag = key.1.0; version = key.2.0 }

abbrev key_or : FileKey → Option (UserId × Tag × Version) → FileKey
key_or other None = other
key_or other (Some key) = file_key key

some_of : {A B : Type 0} (g : A → B) (o : Option A) → is_some (option_map g o) ≡ is_some o
some_of g None = refl
some_of g (Some x) = refl

abbrev pair_or : ℕ × Fp → Option (ℕ × Fp) → ℕ × Fp
pair_or other None = other
pair_or other (Some p) = p

module _ (shape : Shape) (list : List Command) (memory : CloudMemory) (r : Remembers shape list (memory_of memory)) (l : AreListed memory) where
  abbrev commits : List CommitBody
  commits = picked commit_at memory.files.slots

  -- the entry of a key, by the list
  abbrev entry_of : UserId × Tag × Version → Option FileEntry
  entry_of key = entry_at (user_view shape list key.0).files (key.1, key.2)

  same_entry : (key : UserId × Tag × Version) → option_map summary (get memory.files.files (file_key key)) ≡ option_map summary_of (entry_of key)
  same_entry key = r.files key.0 key.1 key.2

  has_entry : (key : UserId × Tag × Version) (e : Entry) → get memory.files.files (file_key key) ≡ Some e → IsSome (entry_of key)
  has_entry key e at = sym (some_of summary_of (entry_of key)) ∙ ap is_some (sym (same_entry key)) ∙ ap (λ o. is_some (option_map summary o)) at

  has_slot : (key : UserId × Tag × Version) → IsSome (entry_of key) → (e : Entry) × (get memory.files.files (file_key key) ≡ Some e)
  has_slot key some = value-of (get memory.files.files (file_key key)) (sym (some_of summary (get memory.files.files (file_key key))) ∙ ap is_some (same_entry key) ∙ some_of summary_of (entry_of key) ∙ some)

  entries_each : (key : UserId × Tag × Version) → Contains (map key_of commits) key ↔ HasEntry shape list key
  entries_each key = (there, back)
    where
      there : Contains (map key_of commits) key → HasEntry shape list key
      there c =
          let commit = from_map key_of commits key c in
          let s = from_picked commit_at refl memory.files.slots commit.0 commit.1 in
          let same : commit_in s.entry.0 s.entry.1 ≡ commit.0 = ap (commit_or commit.0) s.picks in
          subst (HasEntry shape list) (ap key_of same ∙ commit.2)
          (has_entry (key_of (commit_in s.entry.0 s.entry.1)) s.entry.1 (l.entries.listed s.slot s.entry.0 s.entry.1 s.here))

      back : HasEntry shape list key → Contains (map key_of commits) key
      back some =
          let e = has_slot key some in
          let s = l.entries.stands (file_key key) e.0 e.1 in
          in_map key_of commits (commit_in (file_key key) e.0)
          (in_picked commit_at refl memory.files.slots s.0 (file_key key, e.0) (commit_in (file_key key) e.0) s.2 refl)

  entries_once : Apart (map key_of commits)
  entries_once =
      subst (Apart {X = UserId × Tag × Version}) (sym (map_picked commit_at refl key_of memory.files.slots))
      (apart_picked (λ o. option_map key_of (commit_at o)) refl memory.files.slots (λ i j a b x ia jb fa fb.
      let same : b.0 ≡ a.0 = ap (key_or b.0) fb ∙ sym (ap (key_or a.0) fa) in
      l.entries.once i j a.0 a.1 b.1 ia (jb ∙ ap (λ (k : FileKey). Some (k, b.1)) same)))

  pub entries_law : Lists (map key_of (commits_from memory.files 0)) (HasEntry shape list)
  entries_law = record { each = entries_each; once = are_apart (map key_of commits) entries_once }

  -- ---- recipes

  pub is_entry : (e : FileKey × Entry) → get memory.files.files e.0 ≡ Some e.1 → IsEntry shape list (commit_in e.0 e.1) (recipe_of shape list (commit_in e.0 e.1))
  is_entry e at =
      let key = key_of (commit_in e.0 e.1) in
      let entry = value-of (entry_of key) (has_entry key e.1 at) in
      let sums : summary e.1 ≡ summary_of entry.0 =
      ap (λ o. pair_or (summary e.1) (option_map summary o)) (sym at)
      ∙ ap (pair_or (summary e.1)) (same_entry key)
      ∙ ap (λ o. pair_or (summary e.1) (option_map summary_of o)) entry.1 in
      record {
        entry = entry.0;
        here = entry.1;
        bytes = ap recipe_or entry.1;
        place = refl;
        len = ap (λ (p : ℕ × Fp). p.0) sums;
        fp = ap (λ (p : ℕ × Fp). p.1) sums;
      }

  all_entries : (cs : List CommitBody) → ((c : CommitBody) → Contains cs c → IsEntry shape list c (recipe_of shape list c)) → AreEntries shape list cs (map (recipe_of shape list) cs)
  all_entries [] h = tt
  all_entries (c ∷ cs) h = (h c (contains_here c cs), all_entries cs (λ d in_cs. h d (contains_later c cs d in_cs)))

  pub laid_law : AreEntries shape list (commits_from memory.files 0) (recipes_of shape list memory)
  laid_law = all_entries commits (λ c in_commits.
      let s = from_picked commit_at refl memory.files.slots c in_commits in
      subst (λ (d : CommitBody). IsEntry shape list d (recipe_of shape list d)) (ap (commit_or c) s.picks)
      (is_entry s.entry (l.entries.listed s.slot s.entry.0 s.entry.1 s.here)))
