-- A record of a checkpoint of format 1 is taken.
use Rattle.std.proofs.Common.{◌≡◌, inl, inr, ℕ, zero, suc, Bool, true, false, cond, List, [], ◌∷◌, ◌++◌, length, map, Option, Some, None, refl, sym, ap, ◌∙◌, subst, arith, eq-eqb, append-nil, append_assoc}
use Rattle.std.specs.Prelude.{◌==◌, ◌≤◌, is_some, IsSome, take, drop, All}
use Rattle.std.specs.List.{Contains, flat_map}
use Rattle.std.specs.FinMap.{get, len, get-empty}
use Rattle.std.proofs.lemmas.Grind.{flat_map-append}
use Rattle.std.proofs.lemmas.List.{map-append}
use Rattle.std.proofs.lemmas.List.Elements.{All-contains, filter-append, Contains-append_left, Contains-append_right, Contains-append_cases}
use Rattle.std.proofs.lemmas.List.Sums.{fold-append}
use Rattle.journal_halves.specs.CdBase.ids.Fp.{Fp}
use Rattle.journal_halves.specs.CdBase.ids.Tag.{Tag}
use Rattle.journal_halves.specs.CdBase.ids.UserId.{UserId}
use Rattle.journal_halves.specs.CdBase.ids.Version.{Version}
use Rattle.journal_halves.specs.CdBase.place.Place.{Place}
use Rattle.journal_halves.specs.CdBase.shape.Shape.{Shape}
use Rattle.journal_halves.specs.CdBase.Order.{fp_cmp}
use Rattle.record_laws.specs.ContainerLog.Laying.{Placed, IsAt}
use Rattle.compact_memories.specs.FileIndex.key.Entry.{Entry}
use Rattle.compact_memories.specs.FileIndex.Files as files
use Rattle.journal_halves.specs.JournalStart.rooms.UserRooms.{UserRooms}
use Rattle.first_records.specs.RecordBody.body.CommitBody.{CommitBody}
use Rattle.first_records.specs.RecordBody.body.PutItem.{PutItem}
use Rattle.first_records.specs.RecordBody.body.KeptItem.{KeptItem}
use Rattle.first_records.specs.RecordBody.body.SpentBody.{SpentBody}
use Rattle.first_records.specs.RecordBody.Spelling as bodies
use Rattle.first_records.specs.RecordBody.Spelling.{Body}
use Rattle.compact_memories.specs.ShareIndex.Order.{owner_cmp, owner_of}
use Rattle.compact_memories.specs.UserDedup.command.Command.{Command}
use Rattle.compact_memories.specs.UserDedup.file_list.FileEntry.{FileEntry}
use Rattle.compact_memories.specs.UserDedup.Cloud.{fingerprint, user_view, strings_in}
use Rattle.compact_memories.specs.UserDedup.Dedup.{IsSound}
use Rattle.compact_memories.specs.UserDedup.Owning.{is_among}
use Rattle.compact_memories.specs.UserDedup.Pages.{entry_at}
use Rattle.compact_memories.specs.UserDedup.Requests.{fps_of as names_of}
use Rattle.compact_memories.proofs.UserDedup.Owned.{contains_here, among_contains, contains_among}
use Rattle.compact_memories.proofs.UserDedup.Sound.{found_entry, entries_owned, contained}
use Rattle.compact_memories.specs.CloudAreas.Checkpoints.{PutRecord, put_body, of_user, fps_of, items_in, key_of, AreFlagged, IsCheckpointOfList}
use Rattle.compact_memories.specs.CloudAreas.FormatOne.{IsWithinGreatest}
use Rattle.compact_memories.specs.CloudAreas.Placing.{shares_placed, shares_in, fps_placed}
use Rattle.compact_memories.proofs.CloudAreas.Apart.{Apart, apart_from}
use Rattle.compact_memories.proofs.CloudAreas.Entries.{entry_of}
use Rattle.compact_memories.proofs.CloudAreas.Lists.{in_map, from_map}
use Rattle.compact_memories.proofs.CloudAreas.Once.{checkpoint_once}
use Rattle.compact_memories.proofs.CloudAreas.Placed.{shares_more, checkpoint_is_sent}
use Rattle.compact_memories.specs.CloudMemory.Memory.{Memory, IsPlacedBy, commit_of, times}
use Rattle.compact_memories.specs.CloudMemory.Sharing.{AreOwned}
use Rattle.compact_memories.specs.CloudMemory.Steps.{with_items, with_entry}
use Rattle.compact_memories.proofs.CloudMemoryLaws.Beginning.{none_placed}
use Rattle.compact_memories.proofs.CloudMemoryLaws.Naming.{one_more, repeated}
use Rattle.record_laws.specs.RecordChecks.ground.Ground.{Ground}
use Rattle.record_laws.specs.RecordChecks.Checks.{ByCommit, RecipeLies, IsNamed, IsWhole}
use Rattle.record_laws.specs.Leaving.{bytes_at, recipe_for, record_left}
use Rattle.record_laws.proofs.Counts.{commits_by}
use Rattle.record_laws.proofs.Items.{AreMine, inside_items, inside_kepts, puts_seen, flagged_split}
use Rattle.record_laws.proofs.Places.{all_placed, record_placed, apart_front, apart_behind, fps_append}
use Rattle.record_laws.proofs.Segments.{over, names, puts_own, commits_own, kept_own, IsOfList, entry_of_list}
use Rattle.record_laws.proofs.Sized.{IsSized, entry_sized, inside_area, HaveRoomFor}
use Rattle.record_laws.proofs.Split.{split_in, map_split}
use Rattle.first_records.specs.Judging.{PutLeaves, CommitLeaves, KeptLeaves}
use Rattle.first_laws.specs.Leaving.{begun_behind, first_left, first_left_by}
use Rattle.first_laws.proofs.Crowding.{put_fits, kepts_fit, commit_fits}
use Rattle.first_laws.proofs.Most.{most_places, most_owners, most_files}
use Rattle.first_laws.proofs.Passing.{IsTaken, put_own, commit_own, kept_own as kept_kind}

-- ---- Commits among records

pub same_commit : (c d : CommitBody) → bodies.Commit c ≡ bodies.Commit d → c ≡ d
same_commit c d e = cc

only_commits : (puts : List PutRecord) (kept : List (List KeptItem)) (commits : List CommitBody) (d : CommitBody)
    → Contains (map put_body puts ++ (map bodies.Kept kept ++ map bodies.Commit commits)) (bodies.Commit d) → Contains commits d
only_commits puts kept commits d there = elim (Contains-append_cases (map put_body puts) (map bodies.Kept kept ++ map bodies.Commit commits) (bodies.Commit d) there) [
  | inl a ↦ let p = from_map put_body puts (bodies.Commit d) a in absurd (let no : bodies.Put p.0.user p.0.items ≡ bodies.Commit d = p.2 in cc)
  | inr b ↦ elim (Contains-append_cases (map bodies.Kept kept) (map bodies.Commit commits) (bodies.Commit d) b) [
    | inl k ↦ let p = from_map bodies.Kept kept (bodies.Commit d) k in absurd (let no : bodies.Kept p.0 ≡ bodies.Commit d = p.2 in cc)
    | inr x ↦ let p = from_map bodies.Commit commits (bodies.Commit d) x in subst (Contains commits) (same_commit p.0 d p.2) p.1
  ]
]

some_raised : (n k : ℕ) → IsSome (repeated one_more n (Some k))
some_raised zero k = refl
some_raised (suc n) k = some_raised n _

-- ---- a checkpoint

module _ (shape : Shape) (cloud users end : ℕ) (rooms : UserRooms) (shares_len : ℕ) (area : List ℕ) (whole list rest : List Command) (within : IsWithinGreatest shape whole) (front : whole ≡ list ++ rest)
    (records : List Body) (recipes : List Placed) (is : IsCheckpointOfList 1 shape list records recipes) (sound : IsSound shape cloud list) (lie : All (IsAt area) recipes) where
  abbrev g : Ground
  g = record { shape = shape; rooms = rooms; region = 0; shares_len = shares_len; recipes_len = length area }

  abbrev m0 : Memory
  m0 = begun_behind users end

  abbrev left : List Body → Memory
  left before = first_left_by shape area m0 before

  abbrev IsTakenAt : List Body → Body → Type 0
  IsTakenAt before body = IsTaken g true area (left before) body

  abbrev HaveRoom : Body → Type 0
  HaveRoom body = HaveRoomFor 0 shares_len body

  abbrev after_puts : List PutRecord → Memory
  after_puts puts = over shape area m0 (map put_body puts)

  abbrev m2 : Memory
  m2 = over shape area (after_puts is.puts) (map bodies.Kept is.kept)

  parts : records ≡ map put_body is.puts ++ (map bodies.Kept is.kept ++ map bodies.Commit is.commits)
  parts =
      let none : is.spents ≡ [] = is.spent in
      is.whole
      ∙ ap (λ (l : List SpentBody). map put_body is.puts ++ (map bodies.Kept is.kept ++ (map bodies.Commit is.commits ++ map bodies.Spent l))) none
      ∙ ap (λ (l : List Body). map put_body is.puts ++ (map bodies.Kept is.kept ++ l)) (append-nil (map bodies.Commit is.commits))

  -- ---- what a front of the records places

  module _ (before : List Body) (body : Body) (after : List Body) (whole_is : records ≡ before ++ body ∷ after) where
    split : records ≡ (before ++ body ∷ []) ++ after
    split = whole_is ∙ sym (append_assoc before (body ∷ []) after)

    front_apart : Apart (fps_placed (shares_in (before ++ body ∷ [])))
    front_apart =
        apart_front (fps_placed (shares_in (before ++ body ∷ []))) (fps_placed (shares_in after))
        (subst Apart (ap (λ l. fps_placed (shares_in l)) split ∙ fps_append (before ++ body ∷ []) after) (checkpoint_once 1 shape list records recipes is))

    before_placed : IsPlacedBy before (left before)
    before_placed =
        all_placed shape area true [] before m0 (record { shares = (none_placed users 0).shares; recipes = (none_placed users 0).recipes })
        (apart_front (fps_placed (shares_in before)) (fps_placed (shares_in (body ∷ []))) (subst Apart (fps_append before (body ∷ [])) front_apart))

    abbrev new : Memory
    new = first_left shape area (left before) body

    left_placed : IsPlacedBy (before ++ body ∷ []) new
    left_placed = record_placed shape before true (recipe_for area (left before) body) body (left before) before_placed front_apart

    -- all that has a place then is held
    front_sent : (fp : Fp) → IsSome (get new.places fp.0) → Contains (map fingerprint (strings_in list)) fp
    front_sent fp some = by_place (get new.places fp.0) refl
      where
        by_place : (o : Option Place) → get new.places fp.0 ≡ o → Contains (map fingerprint (strings_in list)) fp
        by_place None none = absurd (let no : false ≡ true = sym (ap is_some none) ∙ some in cc)
        by_place (Some p) at =
            checkpoint_is_sent 1 shape list records recipes is (fp, p)
            (subst (λ (l : List (Fp × Place)). Contains l (fp, p)) (sym (ap shares_in split ∙ flat_map-append shares_placed (before ++ body ∷ []) after))
            (Contains-append_left (shares_in (before ++ body ∷ [])) (shares_in after) (fp, p) ((left_placed.shares fp p).0 at)))

    -- and each entry is one of the list's
    front_entered : (q : UserId) (t : Tag) (v : Version) → IsSome (get new.files (files.key_of q.0 t.0 v.0)) → (e : FileEntry) × (entry_at (user_view shape list q).files (t, v) ≡ Some e)
    front_entered q t v some = by_entry (get new.files (files.key_of q.0 t.0 v.0)) refl
      where
        by_entry : (o : Option Entry) → get new.files (files.key_of q.0 t.0 v.0) ≡ o → (e : FileEntry) × (entry_at (user_view shape list q).files (t, v) ≡ Some e)
        by_entry None none = absurd (let no : false ≡ true = sym (ap is_some none) ∙ some in cc)
        by_entry (Some e) at =
            let d = commit_of q t v e in
            let there = Contains-append_left (before ++ body ∷ []) after (bodies.Commit d) (left_placed.recipes q t v e at) in
            let c = only_commits is.puts is.kept is.commits d (subst (λ (l : List Body). Contains l (bodies.Commit d)) (sym split ∙ parts) there) in
            let b = entry_of shape list is.commits recipes d is.laid c in
            (b.2.entry, b.2.here)

    few_places : len new.places ≤ 262144
    few_places = most_places shape whole within list rest front new.places front_sent

  -- ---- a Put

  module _ (puts : List PutRecord) (p : PutRecord) (back : List PutRecord) (split_is : is.puts ≡ puts ++ p ∷ back) where
    abbrev mine : List Fp
    mine = fps_of (items_in (of_user p.user puts))

    abbrev others : List Fp
    others = fps_of (items_in (of_user p.user back))

    all_mine : fps_of (items_in (of_user p.user is.puts)) ≡ mine ++ (fps_of p.items ++ others)
    all_mine =
        let own = of_user p.user in
        let passes : own (p ∷ back) ≡ p ∷ own back = ap (λ (b : Bool). cond b (p ∷ own back) (own back)) (eq-eqb p.user.0 p.user.0 refl) in
        let two : own is.puts ≡ own puts ++ (p ∷ own back) =
        ap own split_is ∙ filter-append (λ (x : PutRecord). x.user.0 == p.user.0) puts (p ∷ back) ∙ ap (λ l. own puts ++ l) passes in
        ap (λ l. fps_of (items_in l)) two
        ∙ ap fps_of (flat_map-append (λ (x : PutRecord). x.items) (own puts) (p ∷ own back))
        ∙ map-append (λ (i : PutItem). i.fp) (items_in (own puts)) (p.items ++ items_in (own back))
        ∙ ap (λ l. mine ++ l) (map-append (λ (i : PutItem). i.fp) p.items (items_in (own back)))

    mine_apart : Apart (mine ++ fps_of p.items)
    mine_apart =
        apart_front (mine ++ fps_of p.items) others
        (subst Apart (all_mine ∙ sym (append_assoc mine (fps_of p.items) others)) (apart_from (fps_of (items_in (of_user p.user is.puts))) (is.owners.own p.user).once))

    both_flags : AreFlagged [] (items_in puts) × AreFlagged (fps_of (items_in puts)) (p.items ++ items_in back)
    both_flags =
        flagged_split [] (items_in puts) (p.items ++ items_in back)
        (subst (AreFlagged []) (ap items_in split_is ∙ flat_map-append (λ (x : PutRecord). x.items) puts (p ∷ back)) is.owners.flags)

    mine_own : AreMine p.user mine (after_puts puts)
    mine_own fp = puts_own shape area m0 puts p.user fp ∙ ap (λ o. cond (is_among mine fp) (Some 0) o) (get-empty owner_cmp (owner_of p.user.0 fp.0))

    abbrev grown : List PutRecord
    grown = puts ++ p ∷ []

    grown_left : after_puts grown ≡ with_items p.user (after_puts puts) p.items
    grown_left = ap (over shape area m0) (map-append put_body puts (p ∷ [])) ∙ fold-append (record_left shape area true) m0 (map put_body puts) (put_body p ∷ [])

    grown_own : (q : UserId) → fps_of (items_in (of_user q is.puts)) ≡ fps_of (items_in (of_user q grown)) ++ fps_of (items_in (of_user q back))
    grown_own q =
        ap (λ l. fps_of (items_in (of_user q l))) (split_is ∙ sym (append_assoc puts (p ∷ []) back))
        ∙ ap (λ l. fps_of (items_in l)) (filter-append (λ (x : PutRecord). x.user.0 == q.0) grown back)
        ∙ ap fps_of (flat_map-append (λ (x : PutRecord). x.items) (of_user q grown) (of_user q back))
        ∙ map-append (λ (i : PutItem). i.fp) (items_in (of_user q grown)) (items_in (of_user q back))

    -- who owns a fingerprint then owns it by the list
    owners_known : (q : UserId) (fp : Fp) → IsSome (get (with_items p.user (after_puts puts) p.items).owners (owner_of q.0 fp.0)) → Contains (user_view shape list q).own fp
    owners_known q fp some =
        by_test (is_among (fps_of (items_in (of_user q grown))) fp) refl
        (subst (λ (o : Option ℕ). IsSome o)
        (ap (λ (m : Memory). get m.owners (owner_of q.0 fp.0)) (sym grown_left)
        ∙ puts_own shape area m0 grown q fp
        ∙ ap (λ o. cond (is_among (fps_of (items_in (of_user q grown))) fp) (Some 0) o) (get-empty owner_cmp (owner_of q.0 fp.0))) some)
      where
        by_test : (b : Bool) → is_among (fps_of (items_in (of_user q grown))) fp ≡ b → IsSome (cond {A = Option ℕ} b (Some 0) None) → Contains (user_view shape list q).own fp
        by_test true t has =
            ((is.owners.own q).each fp).0
            (subst (λ l. Contains l fp) (sym (grown_own q))
            (Contains-append_left (fps_of (items_in (of_user q grown))) (fps_of (items_in (of_user q back))) fp (among_contains (fps_of (items_in (of_user q grown))) fp t)))
        by_test false t has = absurd (let no : false ≡ true = has in cc)

    put_taken : (after : List Body) → records ≡ map put_body puts ++ put_body p ∷ after → HaveRoom (put_body p) → IsTakenAt (map put_body puts) (put_body p)
    put_taken after whole_is room =
        let right = inside_items g p.user (fps_of (items_in puts)) mine p.items (after_puts puts) (flagged_split (fps_of (items_in puts)) p.items (items_in back) both_flags.1).0
        (puts_seen shape area [] m0 puts both_flags.0 (λ fp. ap is_some (get-empty fp_cmp fp.0))) mine_own mine_apart room.shares in
        record {
          own = put_own p.user p.items true;
          few =
              put_fits g true p.user p.items (after_puts puts) right (few_places (map put_body puts) (put_body p) after whole_is)
              (most_owners shape whole within list rest front (with_items p.user (after_puts puts) p.items).owners owners_known);
          leaves = PutLeaves p.user p.items right;
          reads = λ none. refl;
        }

  -- ---- a Kept

  kept_taken : (before : List Body) (items : List KeptItem) (after : List Body) → records ≡ before ++ bodies.Kept items ∷ after → HaveRoom (bodies.Kept items)
      → IsTakenAt before (bodies.Kept items)
  kept_taken before items after whole_is room =
      let placed = before_placed before (bodies.Kept items) after whole_is in
      let right = inside_kepts g (shares_in before) items (left before) placed.shares
      (subst (λ l. Apart (fps_placed l)) (shares_more before (bodies.Kept items)) (front_apart before (bodies.Kept items) after whole_is)) room.shares in
      record {
        own = kept_kind items;
        few = kepts_fit g true items (left before) right (few_places before (bodies.Kept items) after whole_is);
        leaves = KeptLeaves items right;
        reads = λ none. refl;
      }

  -- ---- a Commit

  module _ (commits : List CommitBody) (c : CommitBody) (back : List CommitBody) (split_is : is.commits ≡ commits ++ c ∷ back) where
    abbrev m : Memory
    m = over shape area m2 (map bodies.Commit commits)

    here : Contains is.commits c
    here = subst (λ l. Contains l c) (sym split_is) (Contains-append_right commits (c ∷ back) c (contains_here c back))

    x : IsOfList shape area list c.user c.tag c.version (record { at = c.at; len = c.len; fp = c.fp })
    x = let b = entry_of shape list is.commits recipes c is.laid here in entry_of_list shape area list c b.0 b.2 (All-contains (IsAt area) recipes b.0 lie b.1)

    found : Contains (user_view shape list c.user).files x.entry
    found = (found_entry (user_view shape list c.user).files (c.tag, c.version) x.entry x.here).1

    size : IsSized shape x.entry.recipe
    size = entry_sized shape cloud list c.user x.entry sound found

    -- no Commit before it has its key
    lacks : (before : List Body) → before ≡ map put_body is.puts ++ (map bodies.Kept is.kept ++ map bodies.Commit commits) → (m : Memory) → IsPlacedBy before m
        → get m.files (files.key_of c.user.0 c.tag.0 c.version.0) ≡ None
    lacks before before_is m placed = by_entry (get m.files (files.key_of c.user.0 c.tag.0 c.version.0)) refl
      where
        by_entry : (o : Option Entry) → get m.files (files.key_of c.user.0 c.tag.0 c.version.0) ≡ o → o ≡ None
        by_entry None at = refl
        by_entry (Some e) at =
            let d = commit_of c.user c.tag c.version e in
            let there = only_commits is.puts is.kept commits d (subst (λ (l : List Body). Contains l (bodies.Commit d)) before_is (placed.recipes c.user c.tag c.version e at)) in
            let keys : Apart (map key_of commits ++ key_of c ∷ map key_of back) =
            subst Apart (ap (map key_of) split_is ∙ map-append key_of commits (c ∷ back)) (apart_from (map key_of is.commits) is.entries.once) in
            absurd (apart_behind (map key_of commits) (map key_of back) (key_of c) keys (in_map key_of commits d there))

    read : bytes_at area c.at c.len ≡ x.entry.recipe
    read = ap (λ (n : ℕ). take n (drop c.at area)) x.len ∙ x.lies

    owned : AreOwned m.owners c.user (names_of shape x.entry.recipe)
    owned = contained (λ (fp : Fp). IsSome (get m.owners (owner_of c.user.0 fp.0))) (names_of shape x.entry.recipe) (λ fp h.
        let own = All-contains (Contains (user_view shape list c.user).own) (names_of shape x.entry.recipe) fp (entries_owned shape cloud list c.user x.entry sound found) h in
        let all = fps_of (items_in (of_user c.user is.puts)) in
        let among : is_among all fp ≡ true = contains_among all fp (((is.owners.own c.user).each fp).1 own) in
        let one : get m2.owners (owner_of c.user.0 fp.0) ≡ Some 0 =
        ap (λ o. get o (owner_of c.user.0 fp.0)) (kept_own shape area (after_puts is.puts) is.kept)
        ∙ puts_own shape area m0 is.puts c.user fp
        ∙ (λ i. cond (among i) (Some 0) (get-empty owner_cmp (owner_of c.user.0 fp.0) i)) in
        let n = times (flat_map (names shape area) (commits_by c.user commits)) fp in
        subst (λ (o : Option ℕ). IsSome o) (sym (commits_own shape area m2 commits c.user fp ∙ ap (repeated one_more n) one)) (some_raised n 0))

    whole_recipe : IsWhole g m c (bytes_at area c.at c.len)
    whole_recipe =
        subst (λ (bytes : List ℕ). IsNamed shape c.fp bytes × AreOwned m.owners c.user (names_of shape bytes)) (sym read)
        (record { hashes = sym x.fp; recipe = size.read; is_recipe = size.is_recipe }, owned)

    commit_taken : (before after : List Body) → before ≡ map put_body is.puts ++ (map bodies.Kept is.kept ++ map bodies.Commit commits) → records ≡ before ++ bodies.Commit c ∷ after
        → left before ≡ m → HaveRoom (bodies.Commit c) → IsTakenAt before (bodies.Commit c)
    commit_taken before after before_is whole_is is_m room =
        let p : Place = record { at = c.at; len = c.len } in
        let where_is = room.recipes p (contains_here p []) in
        let end = inside_area area (record { place = c.at; blob = x.entry.recipe }) x.lies size.some in
        let long = x.len in
        let few = size.few in
        let lies : RecipeLies g true (left before) c =
        (omega (arith, long, few), record { behind = inl refl; region = where_is.0; in_one = where_is.1; within = omega (arith, end, long) }) in
        let none = lacks before before_is (left before) (before_placed before (bodies.Commit c) after whole_is) in
        record {
          own = commit_own c true;
          few =
              commit_fits (names shape area c) c (left before) none
              (most_files shape whole within list rest front (with_entry (names shape area c) c (left before)).files (front_entered before (bodies.Commit c) after whole_is));
          leaves = CommitLeaves c lies none (subst (λ (old : Memory). IsWhole g old c (bytes_at area c.at c.len)) (sym is_m) whole_recipe);
          reads = λ asks_none. absurd (asks_none p (ByCommit c lies none));
        }

  -- ---- whichever it is

  pub checkpoint_taken : (before : List Body) (body : Body) (after : List Body) → records ≡ before ++ body ∷ after → HaveRoom body → IsTakenAt before body
  checkpoint_taken before body after whole_is room =
      let puts = map put_body is.puts in
      let kept = map bodies.Kept is.kept in
      let commits = map bodies.Commit is.commits in
      let one = record_left shape area true in
      elim (split_in puts (kept ++ commits) before body after (sym parts ∙ whole_is)) [
        | inl a ↦
            let s = map_split put_body is.puts before body a.rest a.is in
            let here : records ≡ map put_body s.front ++ put_body s.x ∷ after = whole_is ∙ (λ i. s.before_is i ++ s.here i ∷ after) in
            subst (λ (y : List Body × Body). IsTakenAt y.0 y.1) (λ i. (sym s.before_is i, sym s.here i))
            (put_taken s.front s.x s.back s.is after here (subst HaveRoom s.here room))
        | inr a ↦ elim (split_in kept commits a.0 body after a.2) [
          | inl b ↦
              let s = map_split bodies.Kept is.kept a.0 body b.rest b.is in
              subst (IsTakenAt before) (sym s.here) (kept_taken before s.x after (whole_is ∙ ap (λ (y : Body). before ++ y ∷ after) s.here) (subst HaveRoom s.here room))
          | inr b ↦
              let s = map_split bodies.Commit is.commits b.0 body after b.2 in
              let before_is : before ≡ puts ++ (kept ++ map bodies.Commit s.front) = a.1 ∙ ap (λ l. puts ++ l) (b.1 ∙ ap (λ l. kept ++ l) s.before_is) in
              let memory : left before ≡ over shape area m2 (map bodies.Commit s.front) =
              ap (first_left_by shape area m0) before_is
              ∙ fold-append one m0 puts (kept ++ map bodies.Commit s.front)
              ∙ fold-append one (after_puts is.puts) kept (map bodies.Commit s.front) in
              subst (IsTakenAt before) (sym s.here)
              (commit_taken s.front s.x s.back s.is before after before_is (whole_is ∙ ap (λ (y : Body). before ++ y ∷ after) s.here) memory (subst HaveRoom s.here room))
        ]
      ]
