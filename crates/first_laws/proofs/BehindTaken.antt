-- A record behind the checkpoint of a chain of format 1 is taken.
use Rattle.std.proofs.Common.{◌≡◌, inr, ℕ, ◌≤◌, false, List, [], ◌∷◌, ◌++◌, length, map, refl, sym, ap, ◌∙◌, subst, arith}
use Rattle.std.specs.Prelude.{slice_get, All}
use Rattle.std.specs.List.{Contains}
use Rattle.std.specs.FinMap.{get}
use Rattle.std.proofs.lemmas.List.Elements.{All-head, Contains-append_right}
use Rattle.journal_halves.specs.CdBase.ids.Fp.{Fp}
use Rattle.journal_halves.specs.CdBase.ids.Tag.{Tag}
use Rattle.journal_halves.specs.CdBase.ids.UserId.{UserId}
use Rattle.journal_halves.specs.CdBase.ids.Version.{Version}
use Rattle.journal_halves.specs.CdBase.place.Place.{Place}
use Rattle.journal_halves.specs.CdBase.shape.Shape.{Shape}
use Rattle.record_laws.specs.ContainerLog.Laying.{Placed, IsAt}
use Rattle.compact_memories.specs.FileIndex.Files.{key_of}
use Rattle.journal_halves.specs.JournalStart.rooms.UserRooms.{UserRooms}
use Rattle.first_records.specs.RecordBody.body.CommitBody.{CommitBody}
use Rattle.first_records.specs.RecordBody.body.PutItem.{PutItem}
use Rattle.first_records.specs.RecordBody.body.DeleteBody.{DeleteBody}
use Rattle.first_records.specs.RecordBody.Spelling as bodies
use Rattle.first_records.specs.RecordBody.Spelling.{Body}
use Rattle.compact_memories.specs.ShareIndex.Order.{owner_of}
use Rattle.compact_memories.specs.UserDedup.command.Command.{Command}
use Rattle.compact_memories.specs.UserDedup.command.Command.TheVariants as commands
use Rattle.compact_memories.specs.UserDedup.file_list.FileEntry.{FileEntry}
use Rattle.compact_memories.specs.UserDedup.view.View.{View}
use Rattle.compact_memories.specs.UserDedup.Cloud.{fingerprint, user_view, strings_in}
use Rattle.compact_memories.specs.UserDedup.Dedup.{IsSound}
use Rattle.compact_memories.specs.UserDedup.Requests.{fps_of as names_of}
use Rattle.compact_memories.proofs.UserDedup.New.{are_new}
use Rattle.compact_memories.proofs.UserDedup.Owned.{contains_here}
use Rattle.compact_memories.proofs.UserDedup.Sound.{found_entry}
use Rattle.compact_memories.proofs.UserDedup.Views.{own_adds}
use Rattle.compact_memories.specs.CloudAreas.Chains.{commit_of, AreItems, IsRecord, LiesIn}
use Rattle.compact_memories.specs.CloudAreas.FormatOne.{IsWithinGreatest}
use Rattle.compact_memories.specs.CloudAreas.Placing.{places_given, places_of, AreBehind, shares_end, recipes_end}
use Rattle.compact_memories.proofs.CloudAreas.Apart.{Apart, apart_from}
use Rattle.compact_memories.proofs.CloudAreas.Lists.{from_map}
use Rattle.compact_memories.specs.CloudMemory.Memory.{Memory}
use Rattle.compact_memories.specs.CloudMemory.Sharing.{AreOwned}
use Rattle.compact_memories.specs.CloudMemory.Steps.{with_items, with_entry}
use Rattle.compact_memories.proofs.CloudMemoryLaws.Lists.{are_placed}
use Rattle.record_laws.specs.RecordChecks.ground.Ground.{Ground}
use Rattle.record_laws.specs.RecordChecks.Checks.{ByCommit, ByDelete, RecipeLies, IsNamed, IsWhole}
use Rattle.record_laws.specs.Leaving.{bytes_at, entry_bytes}
use Rattle.record_laws.proofs.Asked.{lawful}
use Rattle.record_laws.proofs.Behind.{AreFree, right_items, own_known, file_known}
use Rattle.record_laws.proofs.Next.{not_own, owns_all, lacks_version, entry_known}
use Rattle.record_laws.proofs.Sized.{IsSized, entry_sized, inside_area, HaveRoomFor}
use Rattle.first_records.specs.Judging.{PutLeaves, CommitLeaves, DeleteLeaves}
use Rattle.first_laws.specs.Leaving.{first_left, filled, IsLeftOne}
use Rattle.first_laws.proofs.Crowding.{put_fits, commit_fits}
use Rattle.first_laws.proofs.Most.{most_places, most_owners, most_files}
use Rattle.first_laws.proofs.Passing.{IsTaken, put_own, commit_own, delete_own}

-- ---- a record

module _ (shape : Shape) (cloud end : ℕ) (rooms : UserRooms) (shares_len : ℕ) (area : List ℕ) (whole list rest : List Command) (within : IsWithinGreatest shape whole) (before : List Body) (m : Memory)
    (one : IsLeftOne shape area end list before m) where
  abbrev g : Ground
  g = record { shape = shape; rooms = rooms; region = 0; shares_len = shares_len; recipes_len = length area }

  abbrev with_one : Command → List Command
  with_one command = list ++ command ∷ []

  -- the memory as a later format has it
  abbrev later : Memory
  later = filled one.table before m

  abbrev users : ℕ
  users = length one.table

  abbrev IsTakenHere : Body → Type 0
  IsTakenHere body = IsTaken g false area m body

  abbrev HaveRoom : Body → Type 0
  HaveRoom body = HaveRoomFor 0 shares_len body

  -- what the record leaves
  abbrev LeftNext : Command → Body → Type 0
  LeftNext command body = IsLeftOne shape area end (with_one command) (before ++ body ∷ []) (first_left shape area m body)

  put_taken : (user : UserId) (strings : List (List ℕ)) (items : List PutItem) → whole ≡ with_one (commands.Put user strings) ++ rest → IsSound shape cloud (with_one (commands.Put user strings))
      → AreItems (map fingerprint (strings_in list)) strings items → AreBehind (shares_end 0 before) (places_of (places_given items)) → HaveRoom (bodies.Put user items)
      → LeftNext (commands.Put user strings) (bodies.Put user items) → IsTakenHere (bodies.Put user items)
  put_taken user strings items front sound each behind room new =
      let l = lawful shape cloud list (commands.Put user strings) sound in
      let apart : Apart (map fingerprint strings) =
      apart_from (map fingerprint strings) (λ i j fp at_i at_j.
      let of = are_new (user_view shape list user).own l.1.0 in
      of.apart i j fp (ap (λ (s : List (List ℕ)). slice_get (map fingerprint s) i) (sym l.1.1) ∙ at_i) (ap (λ (s : List (List ℕ)). slice_get (map fingerprint s) j) (sym l.1.1) ∙ at_j)) in
      let free : AreFree user m (map fingerprint strings) = λ fp c.
      let s = from_map fingerprint strings fp c in
      let of = are_new (user_view shape list user).own l.1.0 in
      ap (λ (f : Fp). get m.owners (owner_of user.0 f.0)) (sym s.2)
      ∙ not_own shape area users 0 list before later one.left user (fingerprint s.0) (of.among s.0 (subst (λ (x : List (List ℕ)). Contains x s.0) l.1.1 s.1)).1 in
      let right = right_items g user (strings_in list) strings items m each (are_placed (strings_in list) m.places one.left.remembers.placed one.left.remembers.lens) free apart
      (subst (λ (n : ℕ). AreBehind n (places_of (places_given items))) (sym one.left.shares) behind) room.shares in
      let grown = with_one (commands.Put user strings) in
      let remembers = new.left.remembers in
      let next = filled new.table (before ++ bodies.Put user items ∷ []) (with_items user m items) in
      record {
        own = put_own user items false;
        few =
            put_fits g false user items m right
            (most_places shape whole within grown rest front (with_items user m items).places (λ fp some. (remembers.placed fp).0 some))
            (most_owners shape whole within grown rest front (with_items user m items).owners (λ q fp some. own_known shape rooms grown next remembers q fp some));
        leaves = PutLeaves user items right;
        reads = λ none. refl;
      }

  commit_taken : (user : UserId) (tag : Tag) (version : Version) (recipe : List ℕ) (at : ℕ) → whole ≡ with_one (commands.Commit user tag version recipe) ++ rest
      → IsSound shape cloud (with_one (commands.Commit user tag version recipe)) → recipes_end 0 before ≤ at → end ≤ at → IsAt area (record { place = at; blob = recipe })
      → HaveRoom (bodies.Commit (commit_of user tag version recipe at)) → LeftNext (commands.Commit user tag version recipe) (bodies.Commit (commit_of user tag version recipe at))
      → IsTakenHere (bodies.Commit (commit_of user tag version recipe at))
  commit_taken user tag version recipe at front sound behind start lies room new =
      let command = commands.Commit user tag version recipe in
      let l = lawful shape cloud list command sound in
      let c = commit_of user tag version recipe at in
      let fresh : FileEntry = record { tag = tag; version = version; recipe = recipe } in
      let view = own_adds shape list command user refl in
      let here : Contains (user_view shape (with_one command) user).files fresh =
      subst (λ (v : View). Contains v.files fresh) (sym view) (Contains-append_right (user_view shape list user).files (fresh ∷ []) fresh (contains_here fresh [])) in
      let size : IsSized shape recipe = entry_sized shape cloud (with_one command) user fresh sound here in
      let p : Place = record { at = at; len = length recipe } in
      let where_is : LiesIn 0 p = room.recipes p (contains_here p []) in
      let ends = one.recipes in
      let recipe_lies : RecipeLies g false m c =
      (size.few, record { behind = inr (omega (arith, ends, behind, start)); region = where_is.0; in_one = where_is.1; within = inside_area area (record { place = at; blob = recipe }) lies size.some }) in
      let read : bytes_at area at (length recipe) ≡ recipe = lies in
      let owned = owns_all shape area users 0 list before later one.left user (names_of shape recipe) l.1.0 in
      let is_whole : IsWhole g m c (bytes_at area at (length recipe)) =
      subst (λ (bytes : List ℕ). IsNamed shape (fingerprint recipe) bytes × AreOwned m.owners user (names_of shape bytes)) (sym read)
      (record { hashes = refl; recipe = size.read; is_recipe = size.is_recipe }, owned) in
      let lacks = lacks_version shape area users 0 list before later one.left user tag version l.1.1 in
      let names = names_of shape (bytes_at area at (length recipe)) in
      let next = filled new.table (before ++ bodies.Commit c ∷ []) (with_entry names c m) in
      record {
        own = commit_own c false;
        few =
            commit_fits names c m lacks
            (most_files shape whole within (with_one command) rest front (with_entry names c m).files (λ q t v some. file_known shape rooms (with_one command) next new.left.remembers q t v some));
        leaves = CommitLeaves c recipe_lies lacks is_whole;
        reads = λ none. absurd (none p (ByCommit c recipe_lies lacks));
      }

  delete_taken : (user : UserId) (tag : Tag) (version : Version) → IsSound shape cloud (with_one (commands.Delete user tag version))
      → IsTakenHere (bodies.Delete (record { user = user; tag = tag; version = version }))
  delete_taken user tag version sound =
      let l = lawful shape cloud list (commands.Delete user tag version) sound in
      let k = entry_known shape area users 0 list before later one.left user tag version l.1.0 l.1.1 in
      let d : DeleteBody = record { user = user; tag = tag; version = version } in
      let f = found_entry (user_view shape list user).files (tag, version) l.1.0 l.1.1 in
      let size = entry_sized shape cloud list user l.1.0 l.0 f.1 in
      let read : entry_bytes area (get m.files (key_of user.0 tag.0 version.0)) ≡ l.1.0.recipe = ap (entry_bytes area) k.got ∙ k.read in
      let named : IsNamed shape k.e.fp (entry_bytes area (get m.files (key_of user.0 tag.0 version.0))) =
      subst (IsNamed shape k.e.fp) (sym read) (record { hashes = sym k.fp; recipe = size.read; is_recipe = size.is_recipe }) in
      let few : k.e.len ≤ 1180190 = (let long = k.len in let most = size.few in omega (arith, long, most)) in
      record {
        own = delete_own d false;
        few = refl;
        leaves = DeleteLeaves d k.e k.got named;
        reads = λ none. absurd (none (record { at = k.e.at; len = k.e.len }) (ByDelete d k.e k.got few));
      }

  pub behind_taken : (command : Command) (body : Body) (laid : List Placed) → IsRecord 0 before list command body laid → whole ≡ with_one command ++ rest → IsSound shape cloud (with_one command)
      → All (IsAt area) laid → ((c : CommitBody) → body ≡ bodies.Commit c → end ≤ c.at) → HaveRoom body → LeftNext command body → IsTakenHere body
  behind_taken (commands.Put user strings) body laid is front sound lie start room new =
      subst IsTakenHere (sym is.0.body_is)
      (put_taken user strings is.0.items front sound is.0.each is.0.behind (subst HaveRoom is.0.body_is room) (subst (LeftNext (commands.Put user strings)) is.0.body_is new))
  behind_taken (commands.Commit user tag version recipe) body laid is front sound lie start room new =
      let c = commit_of user tag version recipe is.at in
      let lies : IsAt area (record { place = is.at; blob = recipe }) =
      All-head (IsAt area) (record { place = is.at; blob = recipe }) [] (subst (All (IsAt area)) is.laid_is lie) in
      subst IsTakenHere (sym is.body_is)
      (commit_taken user tag version recipe is.at front sound is.behind (start c is.body_is) lies (subst HaveRoom is.body_is room)
      (subst (LeftNext (commands.Commit user tag version recipe)) is.body_is new))
  behind_taken (commands.Delete user tag version) body laid is front sound lie start room new = subst IsTakenHere (sym is.0) (delete_taken user tag version sound)
