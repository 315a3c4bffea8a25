-- A record behind the checkpoint is taken.
use Rattle.std.proofs.Common.{◌≡◌, inr, ℕ, ◌+◌, ◌≤◌, ◌<◌, max, Bool, true, false, cond, List, [], ◌∷◌, ◌++◌, length, map, Option, Some, None, refl, sym, ap, ◌∙◌, subst, arith}
use Rattle.std.specs.Prelude.{◌&&◌, ◌==◌, ◌↔◌, bytes_eq, is_some, IsSome, IfSome, option_map, slice_get, All, Ok}
use Rattle.std.specs.List.{Contains}
use Rattle.std.specs.FinMap.{get}
use Rattle.std.proofs.lemmas.Bool.{false_from_ne_true}
use Rattle.std.proofs.lemmas.List.{map-append}
use Rattle.std.proofs.lemmas.List.Elements.{All-head, Contains-append_right}
use Rattle.cd_edges.specs.CdBase.ids.Fp.{Fp}
use Rattle.cd_edges.specs.CdBase.ids.Tag.{Tag}
use Rattle.cd_edges.specs.CdBase.ids.UserId.{UserId}
use Rattle.cd_edges.specs.CdBase.ids.Version.{Version}
use Rattle.cd_edges.specs.CdBase.shape.Shape.{Shape}
use Rattle.record_checks.specs.ContainerLog.Laying.{Placed, IsAt}
use Rattle.record_checks.specs.FileIndex.key.Entry.{Entry}
use Rattle.record_checks.specs.FileIndex.Files.{key_of}
use Rattle.record_checks.specs.JournalStart.rooms.UserRooms.{UserRooms}
use Rattle.record_checks.specs.JournalStart.Ranges.{AreRooms}
use Rattle.record_checks.specs.RecordBody.body.PutItem.{PutItem}
use Rattle.record_checks.specs.RecordBody.body.DeleteBody.{DeleteBody}
use Rattle.record_checks.specs.RecordBody.Spelling as bodies
use Rattle.record_checks.specs.RecordBody.Spelling.{Body}
use Rattle.cd_edges.specs.CdBase.place.Place.{Place}
use Rattle.record_checks.specs.ShareIndex.Order.{owner_of}
use Rattle.record_checks.specs.SpentTable.Spent.{Spent as Row}
use Rattle.record_checks.specs.SpentTable.Spending.{spent_by, both}
use Rattle.record_checks.specs.UserDedup.file_list.FileEntry.{FileEntry}
use Rattle.record_checks.specs.UserDedup.view.View.{View}
use Rattle.record_checks.specs.UserDedup.Cloud.{fingerprint}
use Rattle.record_checks.specs.UserDedup.Owning.{is_among}
use Rattle.record_checks.specs.UserDedup.Pages.{entry_at}
use Rattle.record_checks.specs.UserDedup.Requests.{fps_of as names_of}
use Rattle.record_checks.proofs.UserDedup.New.{are_new}
use Rattle.record_checks.proofs.UserDedup.Owned.{fp_same, contains_here, contains_later, among_contains}
use Rattle.record_checks.proofs.UserDedup.Sound.{found_entry}
use Rattle.record_checks.specs.UserDedup.command.Command.{Command}
use Rattle.record_checks.specs.UserDedup.command.Command.TheVariants as commands
use Rattle.record_checks.specs.UserDedup.Dedup.{IsSound}
use Rattle.record_checks.specs.UserDedup.Cloud.{user_view, strings_in}
use Rattle.record_checks.specs.UserDedup.Spending.{SpentByUser, spent_of, IsWithin}
use Rattle.record_checks.proofs.UserDedup.Spending.{front_within, each_within}
use Rattle.record_checks.proofs.UserDedup.Views.{own_adds}
use Rattle.record_checks.specs.CloudAreas.Chains.{commit_of, PlacedNew, AreItems, IsRecord, LiesIn}
use Rattle.record_checks.specs.CloudAreas.Placing.{places_given, places_of, end_of, region_start, AreBehind, shares_end, recipes_end}
use Rattle.record_checks.proofs.CloudAreas.Apart.{Apart, apart_from}
use Rattle.record_checks.proofs.CloudAreas.Lists.{from_map}
use Rattle.record_checks.specs.CloudMemory.Memory.{Memory, Remembers, as_spent, summary, summary_of, uses_of}
use Rattle.record_checks.specs.CloudMemory.Sharing.{AreOwned}
use Rattle.record_checks.specs.CloudMemory.Steps.{with_item, with_items, with_put, with_entry, with_commit, spent_on, places_with, end_with}
use Rattle.record_checks.proofs.MemoryProofs.Keys.{owner_in}
use Rattle.record_checks.proofs.MemoryProofs.Lists.{are_placed, row_here, string_len}
use Rattle.record_checks.proofs.MemoryProofs.Puts.{ArePlaced, len_at, spent_stays}
use Rattle.record_checks.specs.declared.ground.Ground.{Ground}
use Rattle.record_checks.specs.Checks.{NamesRecipePlace, ByCommit, ByDelete, Lies, ShareLies, IsFlagged, AreRight, RecipeLies, IsNamed, IsWhole, PutFits, CommitFits}
use Rattle.record_checks.specs.Judging.{JudgesBody, PutTaken, CommitTaken, Deleted}
use Rattle.record_laws.specs.Leaving.{bytes_at, entry_bytes, recipe_for, record_left, IsLeft}
use Rattle.record_laws.proofs.Asked.{lawful}
use Rattle.record_laws.proofs.Known.{few_files, known_user}
use Rattle.record_laws.proofs.Next.{was_found, free_place, one_placed, not_own, news_new, owns_all, lacks_version, entry_known, next_left}
use Rattle.record_laws.proofs.Counted.{owned_within, placed_within, files_within, more_files}
use Rattle.record_laws.proofs.Sized.{IsSized, entry_sized, inside_area, HasRoomIn, HaveRoomFor}

-- nothing is read for a record for which its checks ask for nothing
abbrev pub ReadsNone : Ground → List ℕ → Bool → Memory → Body → Type 0
ReadsNone g area inside m body = ((place : Place) → NamesRecipePlace g inside m body place → ⊥) → recipe_for area m body ≡ []

-- ---- what a memory of a list within its rooms has

module _ (shape : Shape) (rooms : UserRooms) (list : List Command) (m : Memory) (r : Remembers shape list m) where
  pub own_known : (user : UserId) (fp : Fp) → IsSome (get m.owners (owner_of user.0 fp.0)) → Contains (user_view shape list user).own fp
  own_known user fp some = by_test (is_among (user_view shape list user).own fp) refl (ap is_some (sym (r.owners user fp)) ∙ some)
    where
      by_test : (b : Bool) → is_among (user_view shape list user).own fp ≡ b → is_some (cond b (Some (uses_of shape (user_view shape list user).files fp)) None) ≡ true
          → Contains (user_view shape list user).own fp
      by_test true is e = among_contains (user_view shape list user).own fp is
      by_test false is e = absurd (let no : false ≡ true = e in cc)

  pub file_known : (user : UserId) (t : Tag) (v : Version) → IsSome (get m.files (key_of user.0 t.0 v.0)) → (e : FileEntry) × (entry_at (user_view shape list user).files (t, v) ≡ Some e)
  file_known user t v some = by_both (get m.files (key_of user.0 t.0 v.0)) refl (entry_at (user_view shape list user).files (t, v)) refl
    where
      by_both : (o : Option Entry) → get m.files (key_of user.0 t.0 v.0) ≡ o → (w : Option FileEntry) → entry_at (user_view shape list user).files (t, v) ≡ w
          → (e : FileEntry) × (entry_at (user_view shape list user).files (t, v) ≡ Some e)
      by_both None is w at = absurd (let no : false ≡ true = sym (ap is_some is) ∙ some in cc)
      by_both (Some e) is None at = absurd (let no : Some (summary e) ≡ None = sym (ap (option_map summary) is) ∙ r.files user t v ∙ ap (option_map summary_of) at in cc)
      by_both (Some e) is (Some x) at = (x, at)

-- ---- the shares of a Put

-- the user owns none of these
abbrev pub AreFree : UserId → Memory → List Fp → Type 0
AreFree user m fps = (fp : Fp) → Contains fps fp → get m.owners (owner_of user.0 fp.0) ≡ None

free_rest : (user : UserId) (m : Memory) (item : PutItem) (fps : List Fp) → (Contains fps item.fp → ⊥) → AreFree user m fps → AreFree user (with_item user m item) fps
free_rest user m item fps other free fp c =
    owner_in m.owners user.0 item.fp.0 0 user.0 fp.0
    ∙ ap (λ (b : Bool). cond b (Some 0) (get m.owners (owner_of user.0 fp.0))) (off (user.0 == user.0) (bytes_eq item.fp.0 fp.0) apart)
    ∙ free fp c
  where
    apart : bytes_eq item.fp.0 fp.0 ≡ false
    apart = false_from_ne_true (bytes_eq item.fp.0 fp.0) (λ t. other (subst (Contains fps) (sym ((fp_same item.fp fp).0 t)) c))

    off : (a b : Bool) → b ≡ false → (a && b) ≡ false
    off true b e = e
    off false b e = refl

module _ (g : Ground) (user : UserId) where
  abbrev pub HasRoomEach : List Place → Type 0
  HasRoomEach places = (p : Place) → Contains places p → HasRoomIn g.region g.shares_len p

  share_lies : (end : ℕ) (p : Place) → end ≤ p.at → HasRoomIn g.region g.shares_len p → Lies false (region_start g.region) end g.shares_len p
  share_lies end p le room = record { behind = inr le; region = room.starts; in_one = room.in_one; within = room.within }

  -- a share is placed exactly where it has no place
  flagged : (before : List (List ℕ)) (s : List ℕ) (m : Memory) (o : Option Place) → ArePlaced before m.places
      → PlacedNew (is_among (map fingerprint before) (fingerprint s)) s o → IsSome o ↔ (get m.places (fingerprint s).0 ≡ None)
  flagged before s m o placed new = by_flag (is_among (map fingerprint before) (fingerprint s)) refl o new
    where
      by_flag : (b : Bool) → is_among (map fingerprint before) (fingerprint s) ≡ b → (o : Option Place) → PlacedNew b s o → IsSome o ↔ (get m.places (fingerprint s).0 ≡ None)
      by_flag true on None new = (
        λ some. absurd (let no : false ≡ true = some in cc),
        λ none.
            let w = was_found before (fingerprint s) on in
            absurd (let no : None ≡ Some (length w.0) = sym (ap len_at none) ∙ placed (fingerprint s) ∙ ap string_len w.1 in cc),
      )
      by_flag true on (Some p) new = absurd new
      by_flag false off None new = absurd new
      by_flag false off (Some p) new = (λ some. free_place before m.places (fingerprint s) placed off, λ none. refl)

  pub right_items : (before strings : List (List ℕ)) (items : List PutItem) (m : Memory) → AreItems (map fingerprint before) strings items → ArePlaced before m.places
      → AreFree user m (map fingerprint strings) → Apart (map fingerprint strings) → AreBehind m.shares_end (places_of (places_given items))
      → HasRoomEach (places_of (places_given items)) → AreRight g false user m items
  right_items before [] [] m are placed free apart behind room = tt
  right_items before [] (item ∷ items) m are placed free apart behind room = absurd are
  right_items before (s ∷ ss) [] m are placed free apart behind room = absurd are
  right_items before (s ∷ ss) (item ∷ items) m are placed free apart behind room =
      by_place item.place refl (λ behind_rest room_rest.
      right_items (before ++ s ∷ []) ss items (with_item user m item)
      (subst (λ (l : List Fp). AreItems l ss items) (sym (map-append fingerprint before (s ∷ []))) are.2)
      (subst (λ (x : Fp). ArePlaced (before ++ s ∷ []) (places_with m.places x item.place)) (sym are.0) (one_placed before s m.places item.place placed are.1))
      (free_rest user m item (map fingerprint ss) other (λ fp c. free fp (contains_later (fingerprint s) (map fingerprint ss) fp c)))
      apart.1 behind_rest room_rest)
    where
      not_own : IsSome (get m.owners (owner_of user.0 item.fp.0)) → ⊥
      not_own some =
          let none : get m.owners (owner_of user.0 item.fp.0) ≡ None =
          ap (λ (f : Fp). get m.owners (owner_of user.0 f.0)) are.0 ∙ free (fingerprint s) (contains_here (fingerprint s) (map fingerprint ss)) in
          let no : false ≡ true = sym (ap is_some none) ∙ some in cc

      is_flagged : IsFlagged m item
      is_flagged =
          subst (λ (f : Fp). IsSome item.place ↔ (get m.places f.0 ≡ None)) (sym are.0) (flagged before s m item.place placed are.1)

      other : Contains (map fingerprint ss) item.fp → ⊥
      other c = apart.0 (subst (Contains (map fingerprint ss)) are.0 c)

      by_place : (o : Option Place) → item.place ≡ o
          → (AreBehind (with_item user m item).shares_end (places_of (places_given items)) → HasRoomEach (places_of (places_given items)) → AreRight g false user (with_item user m item) items)
          → AreRight g false user m (item ∷ items)
      by_place None is go_on =
          let behind_rest : AreBehind m.shares_end (places_of (places_given items)) =
          subst (λ (x : Option Place). AreBehind m.shares_end (places_of (places_given (record { fp = item.fp; place = x } ∷ items)))) is behind in
          let room_rest : HasRoomEach (places_of (places_given items)) =
          subst (λ (x : Option Place). HasRoomEach (places_of (places_given (record { fp = item.fp; place = x } ∷ items)))) is room in (
            record { new = not_own; flagged = is_flagged; lies = subst (λ (x : Option Place). IfSome x (ShareLies g false m)) (sym is) tt },
            go_on (subst (λ (x : Option Place). AreBehind (end_with m.shares_end x) (places_of (places_given items))) (sym is) behind_rest) room_rest,
          )
      by_place (Some p) is go_on =
          let behind_here : (m.shares_end ≤ p.at) × AreBehind (end_of p) (places_of (places_given items)) =
          subst (λ (x : Option Place). AreBehind m.shares_end (places_of (places_given (record { fp = item.fp; place = x } ∷ items)))) is behind in
          let room_all : HasRoomEach (p ∷ places_of (places_given items)) =
          subst (λ (x : Option Place). HasRoomEach (places_of (places_given (record { fp = item.fp; place = x } ∷ items)))) is room in
          let ends : end_of p ≡ max m.shares_end (end_of p) = (let le = behind_here.0 in omega (arith, le)) in (
            record {
              new = not_own;
              flagged = is_flagged;
              lies =
                  subst (λ (x : Option Place). IfSome x (ShareLies g false m)) (sym is)
                  (share_lies m.shares_end p behind_here.0 (room_all p (contains_here p (places_of (places_given items)))));
            },
            go_on
                (subst (λ (x : Option Place). AreBehind (end_with m.shares_end x) (places_of (places_given items))) (sym is)
                (subst (λ (n : ℕ). AreBehind n (places_of (places_given items))) ends behind_here.1))
                (λ q c. room_all q (contains_later p (places_of (places_given items)) q c)),
          )

-- ---- a record

module _ (shape : Shape) (rooms : UserRooms) (region shares_len : ℕ) (area : List ℕ) (cloud : ℕ) (list : List Command) (before : List Body) (m : Memory) (are_rooms : AreRooms rooms)
    (left : IsLeft shape area rooms.users region list before m) where
  abbrev g : Ground
  g = record { shape = shape; rooms = rooms; region = region; shares_len = shares_len; recipes_len = length area }

  abbrev with_one : Command → List Command
  with_one command = list ++ command ∷ []

  -- what the record leaves
  abbrev Leaves : Command → Body → Memory → Type 0
  Leaves command body new = IsLeft shape area rooms.users region (with_one command) (before ++ body ∷ []) new

  put_fits : (user : UserId) (strings : List (List ℕ)) (items : List PutItem) → user.0 < rooms.users → IsWithin shape rooms (with_one (commands.Put user strings))
      → Leaves (commands.Put user strings) (bodies.Put user items) (with_put user items m) → PutFits g false user items (with_items user m items)
  put_fits user strings items place within new =
      let grown = with_one (commands.Put user strings) in
      let filled = with_items user m items in
      let more : Row = spent_on filled items in
      let known : user.0 < length filled.spent = subst (λ (n : ℕ). user.0 < n) (sym (ap length (spent_stays user m items) ∙ left.users_are)) place in
      let row : as_spent (both (spent_by filled.spent user) more) ≡ spent_of grown user =
      sym (ap as_spent (row_here filled.spent user (both (spent_by filled.spent user) more) known)) ∙ new.remembers.spent user in
      let fits = each_within shape rooms grown user within in
      let a = fits.owners in
      let b = fits.shares in
      let c : (spent_by filled.spent user).owners + length items ≡ (spent_of grown user).owners = ap (λ (s : SpentByUser). s.owners) row in
      let d : (spent_by filled.spent user).shares + (spent_on filled items).shares ≡ (spent_of grown user).shares = ap (λ (s : SpentByUser). s.shares) row in
      record {
        own = owned_within shape rooms grown within filled.owners user (own_known shape rooms grown (with_put user items m) new.remembers user);
        placed = placed_within shape rooms grown within filled.places (λ fp some. (new.remembers.placed fp).0 some);
        owners = inr (omega (arith, a, c));
        shares = inr (omega (arith, b, d));
      }

  commit_fits : (user : UserId) (tag : Tag) (version : Version) (recipe : List ℕ) (at : ℕ) (named : List Fp) → user.0 < rooms.users → get m.files (key_of user.0 tag.0 version.0) ≡ None
      → IsWithin shape rooms (with_one (commands.Commit user tag version recipe))
      → Leaves (commands.Commit user tag version recipe) (bodies.Commit (commit_of user tag version recipe at)) (with_commit named (commit_of user tag version recipe at) m)
      → CommitFits g false (commit_of user tag version recipe at) m
  commit_fits user tag version recipe at named place lacks within new =
      let grown = with_one (commands.Commit user tag version recipe) in
      let c = commit_of user tag version recipe at in
      let more : Row = record { owners = 0; shares = 0; recipes = length recipe } in
      let known : user.0 < length m.spent = subst (λ (n : ℕ). user.0 < n) (sym left.users_are) place in
      let row : as_spent (both (spent_by m.spent user) more) ≡ spent_of grown user =
      sym (ap as_spent (row_here m.spent user (both (spent_by m.spent user) more) known)) ∙ new.remembers.spent user in
      let fits = each_within shape rooms grown user within in
      let a = fits.recipes in
      let b : (spent_by m.spent user).recipes + length recipe ≡ (spent_of grown user).recipes = ap (λ (s : SpentByUser). s.recipes) row in
      record {
        entries = λ full.
            let more_one = more_files m.files user tag version (record { at = at; len = length recipe; fp = fingerprint recipe }) lacks in
            let most = files_within shape rooms grown within (with_entry named c m).files user (file_known shape rooms grown (with_commit named c m) new.remembers user) in
            absurd (omega (arith, full, more_one, most));
        recipes = inr (omega (arith, a, b));
      }

  abbrev HaveRoom : Body → Type 0
  HaveRoom body = HaveRoomFor region shares_len body

  abbrev IsTaken : Body → List Bool → Type 0
  IsTaken body marks = JudgesBody g false (recipe_for area m body) marks m body (Ok (record_left shape area false m body)) × ReadsNone g area false m body

  put_taken : (user : UserId) (strings : List (List ℕ)) (items : List PutItem) (marks : List Bool) → IsSound shape cloud (with_one (commands.Put user strings))
      → user.0 < rooms.users → IsWithin shape rooms (with_one (commands.Put user strings)) → AreItems (map fingerprint (strings_in list)) strings items
      → AreBehind (shares_end region before) (places_of (places_given items)) → HaveRoom (bodies.Put user items)
      → Leaves (commands.Put user strings) (bodies.Put user items) (with_put user items m) → IsTaken (bodies.Put user items) marks
  put_taken user strings items marks sound place within each behind room new =
      let l = lawful shape cloud list (commands.Put user strings) sound in
      let fresh = news_new shape area rooms.users region list before m left user strings l.1.0 l.1.1 in
      let apart : Apart (map fingerprint strings) =
      apart_from (map fingerprint strings) (λ i j fp at_i at_j.
      let of = are_new (user_view shape list user).own l.1.0 in
      of.apart i j fp (ap (λ (s : List (List ℕ)). slice_get (map fingerprint s) i) (sym l.1.1) ∙ at_i) (ap (λ (s : List (List ℕ)). slice_get (map fingerprint s) j) (sym l.1.1) ∙ at_j)) in
      let free : AreFree user m (map fingerprint strings) = λ fp c.
      let s = from_map fingerprint strings fp c in
      let of = are_new (user_view shape list user).own l.1.0 in
      ap (λ (f : Fp). get m.owners (owner_of user.0 f.0)) (sym s.2)
      ∙ not_own shape area rooms.users region list before m left user (fingerprint s.0) (of.among s.0 (subst (λ (x : List (List ℕ)). Contains x s.0) l.1.1 s.1)).1 in (
        PutTaken user items
            (right_items g user (strings_in list) strings items m each (are_placed (strings_in list) m.places left.remembers.placed left.remembers.lens) free apart
            (subst (λ (n : ℕ). AreBehind n (places_of (places_given items))) (sym left.shares) behind) room.shares)
            (put_fits user strings items place within new),
        λ none. refl,
      )

  commit_taken : (user : UserId) (tag : Tag) (version : Version) (recipe : List ℕ) (at : ℕ) (marks : List Bool) → IsSound shape cloud (with_one (commands.Commit user tag version recipe))
      → user.0 < rooms.users → IsWithin shape rooms (with_one (commands.Commit user tag version recipe))
      → recipes_end region before ≤ at → IsAt area (record { place = at; blob = recipe }) → HaveRoom (bodies.Commit (commit_of user tag version recipe at))
      → Leaves (commands.Commit user tag version recipe) (bodies.Commit (commit_of user tag version recipe at)) (record_left shape area false m (bodies.Commit (commit_of user tag version recipe at)))
      → IsTaken (bodies.Commit (commit_of user tag version recipe at)) marks
  commit_taken user tag version recipe at marks sound place within behind lies room new =
      let l = lawful shape cloud list (commands.Commit user tag version recipe) sound in
      let c = commit_of user tag version recipe at in
      let fresh : FileEntry = record { tag = tag; version = version; recipe = recipe } in
      let view = own_adds shape list (commands.Commit user tag version recipe) user refl in
      let here : Contains (user_view shape (with_one (commands.Commit user tag version recipe)) user).files fresh =
      subst (λ (v : View). Contains v.files fresh) (sym view) (Contains-append_right (user_view shape list user).files (fresh ∷ []) fresh (contains_here fresh [])) in
      let size : IsSized shape recipe = entry_sized shape cloud (with_one (commands.Commit user tag version recipe)) user fresh sound here in
      let p : Place = record { at = at; len = length recipe } in
      let where_is : LiesIn region p = room.recipes p (contains_here p []) in
      let end = left.recipes in
      let recipe_lies : RecipeLies g false m c =
      (size.few, record { behind = inr (omega (arith, end, behind)); region = where_is.0; in_one = where_is.1; within = inside_area area (record { place = at; blob = recipe }) lies size.some }) in
      let read : bytes_at area at (length recipe) ≡ recipe = lies in
      let owned = owns_all shape area rooms.users region list before m left user (names_of shape recipe) l.1.0 in
      let whole : IsWhole g m c (bytes_at area at (length recipe)) =
      subst (λ (bytes : List ℕ). IsNamed shape (fingerprint recipe) bytes × AreOwned m.owners user (names_of shape bytes)) (sym read)
      (record { hashes = refl; recipe = size.read; is_recipe = size.is_recipe }, owned) in
      let lacks = lacks_version shape area rooms.users region list before m left user tag version l.1.1 in (
        CommitTaken c recipe_lies lacks whole (commit_fits user tag version recipe at (names_of shape (bytes_at area at (length recipe))) place lacks within new),
        λ none. absurd (none p (ByCommit c recipe_lies lacks)),
      )

  delete_taken : (user : UserId) (tag : Tag) (version : Version) (marks : List Bool) → IsSound shape cloud (with_one (commands.Delete user tag version))
      → IsTaken (bodies.Delete (record { user = user; tag = tag; version = version })) marks
  delete_taken user tag version marks sound =
      let l = lawful shape cloud list (commands.Delete user tag version) sound in
      let k = entry_known shape area rooms.users region list before m left user tag version l.1.0 l.1.1 in
      let d : DeleteBody = record { user = user; tag = tag; version = version } in
      let f = found_entry (user_view shape list user).files (tag, version) l.1.0 l.1.1 in
      let size = entry_sized shape cloud list user l.1.0 l.0 f.1 in
      let read : entry_bytes area (get m.files (key_of user.0 tag.0 version.0)) ≡ l.1.0.recipe = ap (entry_bytes area) k.got ∙ k.read in
      let named : IsNamed shape k.e.fp (entry_bytes area (get m.files (key_of user.0 tag.0 version.0))) =
      subst (IsNamed shape k.e.fp) (sym read) (record { hashes = sym k.fp; recipe = size.read; is_recipe = size.is_recipe }) in
      let few : k.e.len ≤ 1180190 = (let len = k.len in let most = size.few in omega (arith, len, most)) in
      (Deleted d k.e k.got named, λ none. absurd (none (record { at = k.e.at; len = k.e.len }) (ByDelete d k.e k.got few)))

  pub behind_taken : (command : Command) (body : Body) (laid : List Placed) (marks : List Bool) → IsRecord region before list command body laid
      → IsSound shape cloud (with_one command) → IsWithin shape rooms (with_one command) → All (IsAt area) laid → HaveRoom body → IsTaken body marks
  behind_taken (commands.Put user strings) body laid marks is sound within lie room =
      let place = known_user shape rooms cloud list (commands.Put user strings) sound within in
      let few = few_files shape rooms list (front_within shape rooms list (commands.Put user strings ∷ []) within) are_rooms in
      let new = next_left shape area rooms.users region list before m left cloud (commands.Put user strings) (bodies.Put user is.0.items) laid
      (record { items = is.0.items; body_is = refl; each = is.0.each; behind = is.0.behind }, is.1) sound place few lie in
      subst (λ (b : Body). IsTaken b marks) (sym is.0.body_is)
      (put_taken user strings is.0.items marks sound place within is.0.each is.0.behind (subst HaveRoom is.0.body_is room) new)
  behind_taken (commands.Commit user tag version recipe) body laid marks is sound within lie room =
      let place = known_user shape rooms cloud list (commands.Commit user tag version recipe) sound within in
      let few = few_files shape rooms list (front_within shape rooms list (commands.Commit user tag version recipe ∷ []) within) are_rooms in
      let c = commit_of user tag version recipe is.at in
      let lies : IsAt area (record { place = is.at; blob = recipe }) =
      All-head (IsAt area) (record { place = is.at; blob = recipe }) [] (subst (All (IsAt area)) is.laid_is lie) in
      let new = next_left shape area rooms.users region list before m left cloud (commands.Commit user tag version recipe) (bodies.Commit c) laid
      (record { at = is.at; body_is = refl; behind = is.behind; laid_is = is.laid_is }) sound place few lie in
      subst (λ (b : Body). IsTaken b marks) (sym is.body_is)
      (commit_taken user tag version recipe is.at marks sound place within is.behind lies (subst HaveRoom is.body_is room) new)
  behind_taken (commands.Delete user tag version) body laid marks is sound within lie room =
      subst (λ (b : Body). IsTaken b marks) (sym is.0) (delete_taken user tag version marks sound)
