-- A record of a checkpoint is taken.
use Rattle.std.proofs.Common.{◌≡◌, ◌≢◌, inl, inr, ℕ, zero, suc, ◌<◌, Bool, true, false, cond, List, [], ◌∷◌, ◌++◌, length, map, replicate, Option, Some, None, refl, sym, ap, ◌∙◌, subst, arith, eq-eqb, append_assoc}
use Rattle.std.specs.Prelude.{◌&&◌, ◌==◌, bytes_eq, fold, is_some, IsSome, Ok, take, drop, slice_index_or, slice_set}
use Rattle.std.specs.List.{Contains, flat_map}
use Rattle.std.specs.FinMap.{get, get-empty}
use Rattle.std.proofs.Math.Seq.{get_or-set_other}
use Rattle.std.proofs.lemmas.Bool.{and_parts, eqb-true}
use Rattle.std.proofs.lemmas.Grind.{flat_map-append}
use Rattle.std.proofs.lemmas.List.{map-append}
use Rattle.std.proofs.lemmas.List.Elements.{All-contains, filter-append, Contains-append_left, Contains-append_right}
use Rattle.std.proofs.lemmas.List.Sums.{fold-append}
use Rattle.std.proofs.lemmas.Slice.Eq.{bytes_eq-Decides}
use Rattle.cd_edges.specs.CdBase.ids.Fp.{Fp}
use Rattle.cd_edges.specs.CdBase.ids.Tag.{Tag}
use Rattle.cd_edges.specs.CdBase.ids.UserId.{UserId}
use Rattle.cd_edges.specs.CdBase.ids.Version.{Version}
use Rattle.cd_edges.specs.CdBase.shape.Shape.{Shape}
use Rattle.record_checks.specs.ContainerLog.Laying.{Placed, IsAt}
use Rattle.record_checks.specs.FileIndex.key.Entry.{Entry}
use Rattle.record_checks.specs.FileIndex.Files as files
use Rattle.record_checks.specs.FileIndex.Order.{key_cmp}
use Rattle.record_checks.specs.JournalStart.rooms.UserRooms.{UserRooms}
use Rattle.record_checks.specs.JournalStart.Ranges.{AreRooms}
use Rattle.record_checks.specs.RecordBody.body.CommitBody.{CommitBody}
use Rattle.record_checks.specs.RecordBody.body.PutItem.{PutItem}
use Rattle.record_checks.specs.RecordBody.body.KeptItem.{KeptItem}
use Rattle.record_checks.specs.RecordBody.body.SpentBody.{SpentBody}
use Rattle.record_checks.specs.RecordBody.Spelling as bodies
use Rattle.record_checks.specs.RecordBody.Spelling.{Body}
use Rattle.cd_edges.specs.CdBase.place.Place.{Place}
use Rattle.record_checks.specs.ShareIndex.Order.{owner_cmp, owner_of}
use Rattle.cd_edges.specs.CdBase.Order.{fp_cmp}
use Rattle.record_checks.specs.UserDedup.file_list.FileEntry.{FileEntry}
use Rattle.record_checks.specs.UserDedup.Cloud.{fingerprint}
use Rattle.record_checks.specs.UserDedup.Owning.{is_among}
use Rattle.record_checks.specs.UserDedup.Pages.{entry_at}
use Rattle.record_checks.specs.UserDedup.Requests.{fps_of as names_of}
use Rattle.record_checks.proofs.UserDedup.Owned.{contains_here, contains_later, contains_nothing, contains_cases, among_contains, contains_among}
use Rattle.record_checks.proofs.UserDedup.Sound.{found_entry, contained}
use Rattle.record_checks.specs.UserDedup.command.Command.{Command}
use Rattle.record_checks.specs.UserDedup.Cloud.{user_view, strings_in}
use Rattle.record_checks.specs.UserDedup.Spending.{SpentByUser, nothing, spent_of}
use Rattle.record_checks.proofs.UserDedup.Sound.{entries_owned}
use Rattle.record_checks.proofs.UserDedup.Spending.{each_within}
use Rattle.record_checks.specs.CloudAreas.Checkpoints.{PutRecord, put_body, of_user, fps_of, items_in, key_of, AreFlagged, IsCheckpointOfList}
use Rattle.record_checks.specs.CloudAreas.Placing.{shares_placed, shares_in, fps_placed}
use Rattle.record_checks.proofs.CloudAreas.Apart.{Apart, apart_from}
use Rattle.record_checks.proofs.CloudAreas.Entries.{entry_of}
use Rattle.record_checks.proofs.CloudAreas.Lists.{in_map}
use Rattle.record_checks.proofs.CloudAreas.Once.{checkpoint_once}
use Rattle.record_checks.proofs.CloudAreas.Placed.{shares_more, checkpoint_is_sent}
use Rattle.record_checks.specs.CloudMemory.Memory.{Memory, IsPlacedBy, times}
use Rattle.record_checks.specs.CloudMemory.Sharing.{AreOwned}
use Rattle.record_checks.specs.CloudMemory.Steps.{begun, with_items, with_kepts, with_entry, raised}
use Rattle.record_checks.proofs.MemoryProofs.Beginning.{none_placed}
use Rattle.record_checks.proofs.MemoryProofs.Keys.{entry_in}
use Rattle.record_checks.proofs.MemoryProofs.Naming.{one_more, repeated}
use Rattle.record_checks.specs.declared.ground.Ground.{Ground}
use Rattle.record_checks.specs.Checks.{ByCommit, RecipeLies, IsNamed, IsWhole, CommitFits}
use Rattle.record_checks.specs.Judging.{JudgesBody, PutTaken, CommitTaken, KeptTaken, SpentTaken}
use Rattle.record_laws.specs.Leaving.{bytes_at, recipe_for, record_left, left_by}
use Rattle.record_laws.proofs.Checkpoint.{had, listed}
use Rattle.record_laws.proofs.Counts.{commits_by}
use Rattle.record_laws.proofs.Known.{few_files, known_spent}
use Rattle.record_laws.proofs.Places.{all_placed, record_placed, apart_front, apart_behind, fps_append}
use Rattle.record_laws.proofs.Segments.{over, names, items_own, puts_own, commits_own, puts_files, kept_files, IsOfList, entry_of_list}
use Rattle.record_laws.specs.Fronts.{marked, marks_of}
use Rattle.record_laws.proofs.Behind.{ReadsNone}
use Rattle.record_laws.proofs.Counted.{owned_within, placed_within, files_within, more_files}
use Rattle.record_laws.proofs.Front.{IsFine}
use Rattle.record_laws.proofs.Items.{AreMine, inside_items, inside_kepts, puts_seen, flagged_split}
use Rattle.record_laws.proofs.Sized.{IsSized, entry_sized, inside_area, HaveRoomFor}
use Rattle.record_laws.proofs.Split.{split_in, map_split}

-- ---- marks

no_marks : (n u : ℕ) → u < n → slice_index_or (replicate n false) u true ≡ false
no_marks zero u below = absurd (omega (arith, below))
no_marks (suc n) zero below = refl
no_marks (suc n) (suc u) below = no_marks n u (omega (arith, below))

puts_mark : (marks : List Bool) (puts : List PutRecord) → fold marked marks (map put_body puts) ≡ marks
puts_mark marks [] = refl
puts_mark marks (p ∷ puts) = puts_mark marks puts

kept_mark : (marks : List Bool) (kept : List (List KeptItem)) → fold marked marks (map bodies.Kept kept) ≡ marks
kept_mark marks [] = refl
kept_mark marks (k ∷ kept) = kept_mark marks kept

commits_mark : (marks : List Bool) (commits : List CommitBody) → fold marked marks (map bodies.Commit commits) ≡ marks
commits_mark marks [] = refl
commits_mark marks (c ∷ commits) = commits_mark marks commits

spents_mark : (marks : List Bool) (spents : List SpentBody) (u : ℕ) → ((s : SpentBody) → Contains spents s → s.user.0 ≢ u)
    → slice_index_or (fold marked marks (map bodies.Spent spents)) u true ≡ slice_index_or marks u true
spents_mark marks [] u other = refl
spents_mark marks (s ∷ spents) u other =
    spents_mark (slice_set marks s.user.0 true) spents u (λ x c. other x (contains_later s spents x c))
    ∙ get_or-set_other marks s.user.0 u true true (λ e. other s (contains_here s spents) (sym e))

-- ---- entries so far

module _ (shape : Shape) (area : List ℕ) (list : List Command) where
  abbrev IsEntered : UserId → Tag → Version → Type 0
  IsEntered q t v = (e : FileEntry) × (entry_at (user_view shape list q).files (t, v) ≡ Some e)

  -- each entry that Commits leave is one of the list's
  commits_entered : (m : Memory) (commits : List CommitBody) → ((c : CommitBody) → Contains commits c → IsEntered c.user c.tag c.version)
      → ((q : UserId) (t : Tag) (v : Version) → IsSome (get m.files (files.key_of q.0 t.0 v.0)) → IsEntered q t v)
      → (q : UserId) (t : Tag) (v : Version) → IsSome (get (over shape area m (map bodies.Commit commits)).files (files.key_of q.0 t.0 v.0)) → IsEntered q t v
  commits_entered m [] each before q t v some = before q t v some
  commits_entered m (c ∷ commits) each before q t v some =
      commits_entered (with_entry (names shape area c) c m) commits (λ d h. each d (contains_later c commits d h)) one q t v some
    where
      one : (q : UserId) (t : Tag) (v : Version) → IsSome (get (with_entry (names shape area c) c m).files (files.key_of q.0 t.0 v.0)) → IsEntered q t v
      one q t v some =
          by_test ((c.user.0 == q.0) && (bytes_eq c.tag.0 t.0 && (c.version.0 == v.0))) refl
          (subst (λ (o : Option Entry). IsSome o) (entry_in m.files c.user.0 c.tag.0 c.version.0 (record { at = c.at; len = c.len; fp = c.fp }) q.0 t.0 v.0) some)
        where
          by_test : (b : Bool) → ((c.user.0 == q.0) && (bytes_eq c.tag.0 t.0 && (c.version.0 == v.0))) ≡ b
              → IsSome (cond b (Some (record { at = c.at; len = c.len; fp = c.fp })) (get m.files (files.key_of q.0 t.0 v.0))) → IsEntered q t v
          by_test false h has = before q t v has
          by_test true h has =
              let p = and_parts (c.user.0 == q.0) (bytes_eq c.tag.0 t.0 && (c.version.0 == v.0)) h in
              let s = and_parts (bytes_eq c.tag.0 t.0) (c.version.0 == v.0) p.1 in
              let users : c.user.0 ≡ q.0 = eqb-true c.user.0 q.0 p.0 in
              let tags : c.tag.0 ≡ t.0 = (bytes_eq-Decides c.tag.0 t.0).0 s.0 in
              let versions : c.version.0 ≡ v.0 = eqb-true c.version.0 v.0 s.1 in
              subst (λ (x : UserId × Tag × Version). IsEntered x.0 x.1 x.2) (λ i. (record { 0 = users i }, record { 0 = tags i }, record { 0 = versions i }))
              (each c (contains_here c commits))

  -- a key that no Commit has is as it was
  commits_skip : (m : Memory) (commits : List CommitBody) (d : CommitBody) → (Contains (map key_of commits) (key_of d) → ⊥)
      → get (over shape area m (map bodies.Commit commits)).files (files.key_of d.user.0 d.tag.0 d.version.0) ≡ get m.files (files.key_of d.user.0 d.tag.0 d.version.0)
  commits_skip m [] d other = refl
  commits_skip m (c ∷ commits) d other =
      commits_skip (with_entry (names shape area c) c m) commits d (λ h. other (contains_later (key_of c) (map key_of commits) (key_of d) h))
      ∙ entry_in m.files c.user.0 c.tag.0 c.version.0 (record { at = c.at; len = c.len; fp = c.fp }) d.user.0 d.tag.0 d.version.0
      ∙ by_test ((c.user.0 == d.user.0) && (bytes_eq c.tag.0 d.tag.0 && (c.version.0 == d.version.0))) refl
    where
      by_test : (b : Bool) → ((c.user.0 == d.user.0) && (bytes_eq c.tag.0 d.tag.0 && (c.version.0 == d.version.0))) ≡ b
          → cond b (Some (record { at = c.at; len = c.len; fp = c.fp })) (get m.files (files.key_of d.user.0 d.tag.0 d.version.0)) ≡ get m.files (files.key_of d.user.0 d.tag.0 d.version.0)
      by_test false h = refl
      by_test true h =
          let p = and_parts (c.user.0 == d.user.0) (bytes_eq c.tag.0 d.tag.0 && (c.version.0 == d.version.0)) h in
          let s = and_parts (bytes_eq c.tag.0 d.tag.0) (c.version.0 == d.version.0) p.1 in
          let users : c.user.0 ≡ d.user.0 = eqb-true c.user.0 d.user.0 p.0 in
          let tags : c.tag.0 ≡ d.tag.0 = (bytes_eq-Decides c.tag.0 d.tag.0).0 s.0 in
          let versions : c.version.0 ≡ d.version.0 = eqb-true c.version.0 d.version.0 s.1 in
          let keys : ◌≡◌ {A = UserId × Tag × Version} (key_of c) (key_of d) = λ i. (record { 0 = users i }, record { 0 = tags i }, record { 0 = versions i }) in
          absurd (other (subst (Contains (map key_of (c ∷ commits))) keys (contains_here (key_of c) (map key_of commits))))

some_raised : (n k : ℕ) → IsSome (repeated one_more n (Some k))
some_raised zero k = refl
some_raised (suc n) k = some_raised n (raised k)

-- ---- a record

module _ (format : ℕ) (shape : Shape) (cloud : ℕ) (rooms : UserRooms) (region shares_len : ℕ) (area : List ℕ) (later : (format == 1) ≡ false) (are_rooms : AreRooms rooms)
    (list : List Command) (records : List Body) (recipes : List Placed) (is : IsCheckpointOfList format shape list records recipes)
    (fine : IsFine shape cloud rooms area list records recipes) where
  abbrev g : Ground
  g = record { shape = shape; rooms = rooms; region = region; shares_len = shares_len; recipes_len = length area }

  abbrev m0 : Memory
  m0 = begun rooms.users region

  abbrev after_puts : List PutRecord → Memory
  after_puts puts = over shape area m0 (map put_body puts)

  abbrev m2 : Memory
  m2 = over shape area (after_puts is.puts) (map bodies.Kept is.kept)

  abbrev all_known : (q : UserId) → spent_of list q ≢ nothing → q.0 < rooms.users
  all_known = known_spent shape rooms list fine.within

  -- what a front of the records places
  module _ (before : List Body) (body : Body) (after : List Body) (whole : records ≡ before ++ body ∷ after) where
    front_apart : Apart (fps_placed (shares_in (before ++ body ∷ [])))
    front_apart =
        let split : records ≡ (before ++ body ∷ []) ++ after = whole ∙ sym (append_assoc before (body ∷ []) after) in
        apart_front (fps_placed (shares_in (before ++ body ∷ []))) (fps_placed (shares_in after))
        (subst Apart (ap (λ l. fps_placed (shares_in l)) split ∙ fps_append (before ++ body ∷ []) after) (checkpoint_once format shape list records recipes is))

    before_apart : Apart (fps_placed (shares_in before))
    before_apart =
        apart_front (fps_placed (shares_in before)) (fps_placed (shares_in (body ∷ []))) (subst Apart (fps_append before (body ∷ [])) front_apart)

    before_placed : IsPlacedBy before (left_by shape area true m0 before)
    before_placed = all_placed shape area true [] before m0 (none_placed rooms.users region) before_apart

    -- all that has a place then is held
    front_sent : (fp : Fp) → IsSome (get (record_left shape area true (left_by shape area true m0 before) body).places fp.0) → Contains (map fingerprint (strings_in list)) fp
    front_sent fp some = by_place (get new.places fp.0) refl
      where
        new : Memory
        new = record_left shape area true (left_by shape area true m0 before) body

        placed : IsPlacedBy (before ++ body ∷ []) new
        placed = record_placed shape before true (recipe_for area (left_by shape area true m0 before) body) body (left_by shape area true m0 before) before_placed front_apart

        by_place : (o : Option Place) → get new.places fp.0 ≡ o → Contains (map fingerprint (strings_in list)) fp
        by_place None none = absurd (let no : false ≡ true = sym (ap is_some none) ∙ some in cc)
        by_place (Some p) at =
            let split : records ≡ (before ++ body ∷ []) ++ after = whole ∙ sym (append_assoc before (body ∷ []) after) in
            checkpoint_is_sent format shape list records recipes is (fp, p)
            (subst (λ (l : List (Fp × Place)). Contains l (fp, p)) (sym (ap shares_in split ∙ flat_map-append shares_placed (before ++ body ∷ []) after))
            (Contains-append_left (shares_in (before ++ body ∷ [])) (shares_in after) (fp, p) ((placed.shares fp p).0 at)))

  abbrev IsTaken : List Body → Body → Type 0
  IsTaken before body =
      JudgesBody g true (recipe_for area (left_by shape area true m0 before) body) (marks_of before) (left_by shape area true m0 before) body
      (Ok (record_left shape area true (left_by shape area true m0 before) body))
      × ReadsNone g area true (left_by shape area true m0 before) body

  abbrev HaveRoom : Body → Type 0
  HaveRoom body = HaveRoomFor region shares_len body

  -- ---- a Put

  module _ (puts : List PutRecord) (p : PutRecord) (back : List PutRecord) (split : is.puts ≡ puts ++ p ∷ back) where
    abbrev mine : List Fp
    mine = fps_of (items_in (of_user p.user puts))

    abbrev rest : List Fp
    rest = fps_of (items_in (of_user p.user back))

    all_mine : fps_of (items_in (of_user p.user is.puts)) ≡ mine ++ (fps_of p.items ++ rest)
    all_mine =
        let own = of_user p.user in
        let passes : own (p ∷ back) ≡ p ∷ own back = ap (λ (b : Bool). cond b (p ∷ own back) (own back)) (eq-eqb p.user.0 p.user.0 refl) in
        let parts : own is.puts ≡ own puts ++ (p ∷ own back) =
        ap own split ∙ filter-append (λ (x : PutRecord). x.user.0 == p.user.0) puts (p ∷ back) ∙ ap (λ l. own puts ++ l) passes in
        ap (λ l. fps_of (items_in l)) parts
        ∙ ap fps_of (flat_map-append (λ (x : PutRecord). x.items) (own puts) (p ∷ own back))
        ∙ map-append (λ (i : PutItem). i.fp) (items_in (own puts)) (p.items ++ items_in (own back))
        ∙ ap (λ l. mine ++ l) (map-append (λ (i : PutItem). i.fp) p.items (items_in (own back)))

    mine_apart : Apart (mine ++ fps_of p.items)
    mine_apart =
        apart_front (mine ++ fps_of p.items) rest
        (subst Apart (all_mine ∙ sym (append_assoc mine (fps_of p.items) rest)) (apart_from (fps_of (items_in (of_user p.user is.puts))) (is.owners.own p.user).once))

    flags : AreFlagged (fps_of (items_in puts)) p.items
    flags =
        let parts : items_in is.puts ≡ items_in puts ++ (p.items ++ items_in back) =
        ap items_in split ∙ flat_map-append (λ (x : PutRecord). x.items) puts (p ∷ back) in
        let behind = (flagged_split [] (items_in puts) (p.items ++ items_in back) (subst (AreFlagged []) parts is.owners.flags)).1 in
        (flagged_split (fps_of (items_in puts)) p.items (items_in back) behind).0

    front_flags : AreFlagged [] (items_in puts)
    front_flags =
        (flagged_split [] (items_in puts) (p.items ++ items_in back)
        (subst (AreFlagged []) (ap items_in split ∙ flat_map-append (λ (x : PutRecord). x.items) puts (p ∷ back)) is.owners.flags)).0

    mine_own : AreMine p.user mine (after_puts puts)
    mine_own fp = puts_own shape area m0 puts p.user fp ∙ ap (λ o. cond (is_among mine fp) (Some 0) o) (get-empty owner_cmp (owner_of p.user.0 fp.0))

    abbrev filled : Memory
    filled = with_items p.user (after_puts puts) p.items

    own_known : (fp : Fp) → IsSome (get filled.owners (owner_of p.user.0 fp.0)) → Contains (user_view shape list p.user).own fp
    own_known fp some =
        by_tests (is_among (fps_of p.items) fp) refl (is_among mine fp) refl
        (subst (λ (o : Option ℕ). IsSome o)
        (items_own p.user (after_puts puts) p.items p.user fp
        ∙ (λ i. cond (eq-eqb p.user.0 p.user.0 refl i && is_among (fps_of p.items) fp) (Some 0) (mine_own fp i))) some)
      where
        is_own : Contains (mine ++ (fps_of p.items ++ rest)) fp → Contains (user_view shape list p.user).own fp
        is_own c = ((is.owners.own p.user).each fp).0 (subst (λ l. Contains l fp) (sym all_mine) c)

        by_tests : (a : Bool) → is_among (fps_of p.items) fp ≡ a → (b : Bool) → is_among mine fp ≡ b → IsSome (cond {A = Option ℕ} a (Some 0) (cond b (Some 0) None))
            → Contains (user_view shape list p.user).own fp
        by_tests true a b ib has =
            is_own (Contains-append_right mine (fps_of p.items ++ rest) fp (Contains-append_left (fps_of p.items) rest fp (among_contains (fps_of p.items) fp a)))
        by_tests false a true ib has = is_own (Contains-append_left mine (fps_of p.items ++ rest) fp (among_contains mine fp ib))
        by_tests false a false ib has = absurd (let no : false ≡ true = has in cc)

    put_taken : (after : List Body) → records ≡ map put_body puts ++ put_body p ∷ after → HaveRoom (put_body p) → IsTaken (map put_body puts) (put_body p)
    put_taken after whole room = (
      PutTaken p.user p.items
          (inside_items g p.user (fps_of (items_in puts)) mine p.items (after_puts puts) flags
          (puts_seen shape area [] m0 puts front_flags (λ fp. ap is_some (get-empty fp_cmp fp.0))) mine_own mine_apart room.shares)
          (record {
            own = owned_within shape rooms list fine.within filled.owners p.user own_known;
            placed = placed_within shape rooms list fine.within filled.places (front_sent (map put_body puts) (put_body p) after whole);
            owners = inl refl;
            shares = inl refl;
          }),
      λ none. refl,
    )

  -- ---- a Kept

  kept_taken : (before : List Body) (items : List KeptItem) (after : List Body) → records ≡ before ++ bodies.Kept items ∷ after → HaveRoom (bodies.Kept items)
      → IsTaken before (bodies.Kept items)
  kept_taken before items after whole room =
      let placed = before_placed before (bodies.Kept items) after whole in (
        KeptTaken items
            (inside_kepts g (shares_in before) items (left_by shape area true m0 before) placed.shares
            (subst (λ l. Apart (fps_placed l)) (shares_more before (bodies.Kept items)) (front_apart before (bodies.Kept items) after whole)) room.shares)
            (placed_within shape rooms list fine.within (with_kepts (left_by shape area true m0 before) items).places (front_sent before (bodies.Kept items) after whole)),
        λ none. refl,
      )

  -- ---- a Commit

  module _ (commits : List CommitBody) (c : CommitBody) (back : List CommitBody) (split : is.commits ≡ commits ++ c ∷ back) where
    abbrev m : Memory
    m = over shape area m2 (map bodies.Commit commits)

    abbrev entered : Entry
    entered = record { at = c.at; len = c.len; fp = c.fp }

    in_commits : (d : CommitBody) → Contains (commits ++ c ∷ back) d → Contains is.commits d
    in_commits d h = subst (λ l. Contains l d) (sym split) h

    of_list : (d : CommitBody) → Contains (commits ++ c ∷ back) d → IsOfList shape area list d.user d.tag d.version (record { at = d.at; len = d.len; fp = d.fp })
    of_list d h =
        let b = entry_of shape list is.commits recipes d is.laid (in_commits d h) in
        entry_of_list shape area list d b.0 b.2 (All-contains (IsAt area) recipes b.0 fine.lie b.1)

    x : IsOfList shape area list c.user c.tag c.version entered
    x = of_list c (Contains-append_right commits (c ∷ back) c (contains_here c back))

    found : Contains (user_view shape list c.user).files x.entry
    found = (found_entry (user_view shape list c.user).files (c.tag, c.version) x.entry x.here).1

    size : IsSized shape x.entry.recipe
    size = entry_sized shape cloud list c.user x.entry fine.sound found

    no_files : (q : UserId) (t : Tag) (v : Version) → get m2.files (files.key_of q.0 t.0 v.0) ≡ None
    no_files q t v =
        ap (λ mm. get mm (files.key_of q.0 t.0 v.0)) (kept_files shape area (after_puts is.puts) is.kept ∙ puts_files shape area m0 is.puts)
        ∙ get-empty key_cmp (files.key_of q.0 t.0 v.0)

    lacks : get m.files (files.key_of c.user.0 c.tag.0 c.version.0) ≡ None
    lacks =
        let keys : Apart (map key_of commits ++ key_of c ∷ map key_of back) =
        subst Apart (ap (map key_of) split ∙ map-append key_of commits (c ∷ back)) (apart_from (map key_of is.commits) is.entries.once) in
        commits_skip shape area list m2 commits c (λ h. apart_behind (map key_of commits) (map key_of back) (key_of c) keys h)
        ∙ no_files c.user c.tag c.version

    read : bytes_at area c.at c.len ≡ x.entry.recipe
    read = ap (λ (n : ℕ). take n (drop c.at area)) x.len ∙ x.lies

    owned : AreOwned m.owners c.user (names_of shape x.entry.recipe)
    owned = contained (λ (fp : Fp). IsSome (get m.owners (owner_of c.user.0 fp.0))) (names_of shape x.entry.recipe) (λ fp h.
        let own = All-contains (Contains (user_view shape list c.user).own) (names_of shape x.entry.recipe) fp (entries_owned shape cloud list c.user x.entry fine.sound found) h in
        let among = contains_among (user_view shape list c.user).own fp own in
        let one : get m2.owners (owner_of c.user.0 fp.0) ≡ Some 0 =
        had format shape cloud list records recipes rooms.users region area later fine.sound is fine.long fine.lie all_known (few_files shape rooms list fine.within are_rooms) c.user fp
        ∙ ap (λ (b : Bool). cond {A = Option ℕ} b (Some 0) None) among in
        let n = times (flat_map (names shape area) (commits_by c.user commits)) fp in
        subst (λ (o : Option ℕ). IsSome o) (sym (commits_own shape area m2 commits c.user fp ∙ ap (repeated one_more n) one)) (some_raised n 0))

    whole_recipe : IsWhole g m c (bytes_at area c.at c.len)
    whole_recipe =
        subst (λ (bytes : List ℕ). IsNamed shape c.fp bytes × AreOwned m.owners c.user (names_of shape bytes)) (sym read)
        (record { hashes = sym x.fp; recipe = size.read; is_recipe = size.is_recipe }, owned)

    fits : CommitFits g true c m
    fits = record {
      entries = λ full.
          let more_one = more_files m.files c.user c.tag c.version entered lacks in
          let most = files_within shape rooms list fine.within (with_entry (names shape area c) c m).files c.user (λ t v some.
          commits_entered shape area list m (c ∷ []) (λ d h. elim (contains_cases c [] d h) [
            | inl same ↦ subst (λ (y : CommitBody). IsEntered shape area list y.user y.tag y.version) same (x.entry, x.here)
            | inr none ↦ absurd (contains_nothing d none)
          ]) (commits_entered shape area list m2 commits
          (λ d h. let y = of_list d (Contains-append_left commits (c ∷ back) d h) in (y.entry, y.here))
          (λ q t v none. absurd (let no : false ≡ true = sym (ap is_some (no_files q t v)) ∙ none in cc))) c.user t v some) in
          absurd (omega (arith, full, more_one, most));
      recipes = inl refl;
    }

    commit_taken : (before : List Body) → left_by shape area true m0 before ≡ m → HaveRoom (bodies.Commit c) → IsTaken before (bodies.Commit c)
    commit_taken before is_m room =
        let p : Place = record { at = c.at; len = c.len } in
        let where_is = room.recipes p (contains_here p []) in
        let end = inside_area area (record { place = c.at; blob = x.entry.recipe }) x.lies size.some in
        let len = x.len in
        let few = size.few in
        let lies : RecipeLies g true m c =
        (omega (arith, len, few), record { behind = inl refl; region = where_is.0; in_one = where_is.1; within = omega (arith, end, len) }) in
        subst (λ (old : Memory). JudgesBody g true (recipe_for area old (bodies.Commit c)) (marks_of before) old (bodies.Commit c) (Ok (record_left shape area true old (bodies.Commit c)))
        × ReadsNone g area true old (bodies.Commit c)) (sym is_m)
        (CommitTaken c lies lacks whole_recipe fits, λ none. absurd (none p (ByCommit c lies lacks)))

  -- ---- a Spent

  spent_taken : (before : List Body) (spents : List SpentBody) (s : SpentBody) (back : List SpentBody) → is.spents ≡ spents ++ s ∷ back
      → ((u : ℕ) → slice_index_or (marks_of before) u true ≡ slice_index_or (fold marked (replicate 256 false) (map bodies.Spent spents)) u true)
      → IsTaken before (bodies.Spent s)
  spent_taken before spents s back split marks =
      let said = listed format shape cloud list records recipes rooms.users region area later fine.sound is fine.long fine.lie all_known (few_files shape rooms list fine.within are_rooms) in
      let user_in : SpentBody → UserId = λ (y : SpentBody). y.user in
      let here : Contains is.spents s = subst (λ l. Contains l s) (sym split) (Contains-append_right spents (s ∷ back) s (contains_here s back)) in
      let numbers = said.numbers s here in
      let known = all_known s.user ((said.users.each s.user).0 (in_map user_in is.spents s here)) in
      let few = are_rooms.few in
      let fits = each_within shape rooms list s.user fine.within in
      let users : Apart (map user_in spents ++ s.user ∷ map user_in back) =
      subst Apart (ap (map user_in) split ∙ map-append user_in spents (s ∷ back)) (apart_from (map user_in is.spents) said.users.once) in
      let other : (y : SpentBody) → Contains spents y → y.user.0 ≢ s.user.0 = λ y c same.
      let named : y.user ≡ s.user = λ i. record { 0 = same i } in
      apart_behind (map user_in spents) (map user_in back) s.user users (subst (Contains (map user_in spents)) named (in_map user_in spents y c)) in
      let owners : s.owners ≡ (spent_of list s.user).owners = ap (λ (y : SpentByUser). y.owners) numbers in
      let shares : s.shares ≡ (spent_of list s.user).shares = ap (λ (y : SpentByUser). y.shares) numbers in
      let recipes_spent : s.recipes ≡ (spent_of list s.user).recipes = ap (λ (y : SpentByUser). y.recipes) numbers in
      let a = fits.owners in
      let b = fits.shares in
      let c = fits.recipes in (
        SpentTaken s (record {
          first = marks s.user.0 ∙ spents_mark (replicate 256 false) spents s.user.0 other ∙ no_marks 256 s.user.0 (omega (arith, known, few));
          owners = omega (arith, a, owners);
          shares = omega (arith, b, shares);
          recipes = omega (arith, c, recipes_spent);
        }),
        λ none. refl,
      )

  -- ---- whichever it is

  pub inside_taken : (before : List Body) (body : Body) (after : List Body) → records ≡ before ++ body ∷ after → HaveRoom body → IsTaken before body
  inside_taken before body after whole room =
      let puts = map put_body is.puts in
      let kept = map bodies.Kept is.kept in
      let commits = map bodies.Commit is.commits in
      let spents = map bodies.Spent is.spents in
      let one = record_left shape area true in
      elim (split_in puts (kept ++ (commits ++ spents)) before body after (sym is.whole ∙ whole)) [
        | inl a ↦
            let s = map_split put_body is.puts before body a.rest a.is in
            let split : records ≡ map put_body s.front ++ put_body s.x ∷ after = whole ∙ (λ i. s.before_is i ++ s.here i ∷ after) in
            subst (λ (y : List Body × Body). IsTaken y.0 y.1) (λ i. (sym s.before_is i, sym s.here i))
            (put_taken s.front s.x s.back s.is after split (subst HaveRoom s.here room))
        | inr a ↦ elim (split_in kept (commits ++ spents) a.0 body after a.2) [
          | inl b ↦
              let s = map_split bodies.Kept is.kept a.0 body b.rest b.is in
              subst (IsTaken before) (sym s.here) (kept_taken before s.x after (whole ∙ ap (λ (y : Body). before ++ y ∷ after) s.here) (subst HaveRoom s.here room))
          | inr b ↦ elim (split_in commits spents b.0 body after b.2) [
            | inl c ↦
                let s = map_split bodies.Commit is.commits b.0 body c.rest c.is in
                let parts : before ≡ puts ++ (kept ++ map bodies.Commit s.front) = a.1 ∙ ap (λ l. puts ++ l) (b.1 ∙ ap (λ l. kept ++ l) s.before_is) in
                let memory : left_by shape area true m0 before ≡ over shape area m2 (map bodies.Commit s.front) =
                ap (left_by shape area true m0) parts
                ∙ fold-append one m0 puts (kept ++ map bodies.Commit s.front)
                ∙ fold-append one (after_puts is.puts) kept (map bodies.Commit s.front) in
                subst (IsTaken before) (sym s.here) (commit_taken s.front s.x s.back s.is before memory (subst HaveRoom s.here room))
            | inr c ↦
                let s = map_split bodies.Spent is.spents c.0 body after c.2 in
                let parts : before ≡ puts ++ (kept ++ (commits ++ map bodies.Spent s.front)) =
                a.1 ∙ ap (λ l. puts ++ l) (b.1 ∙ ap (λ l. kept ++ l) (c.1 ∙ ap (λ l. commits ++ l) s.before_is)) in
                let none = replicate 256 false in
                let marks : marks_of before ≡ fold marked none (map bodies.Spent s.front) =
                ap (fold marked none) parts
                ∙ fold-append marked none puts (kept ++ (commits ++ map bodies.Spent s.front))
                ∙ ap (λ l. fold marked l (kept ++ (commits ++ map bodies.Spent s.front))) (puts_mark none is.puts)
                ∙ fold-append marked none kept (commits ++ map bodies.Spent s.front)
                ∙ ap (λ l. fold marked l (commits ++ map bodies.Spent s.front)) (kept_mark none is.kept)
                ∙ fold-append marked none commits (map bodies.Spent s.front)
                ∙ ap (λ l. fold marked l (map bodies.Spent s.front)) (commits_mark none is.commits) in
                subst (IsTaken before) (sym s.here) (spent_taken before s.front s.x s.back s.is (λ u. ap (λ l. slice_index_or l u true) marks))
          ]
        ]
      ]
