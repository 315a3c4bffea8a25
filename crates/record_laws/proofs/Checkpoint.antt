-- What the records of a checkpoint leave is the memory of the list.
use Rattle.std.proofs.Common.{◌≡◌, ◌≢◌, ◌⊎◌, inl, inr, ℕ, ◌+◌, ◌-◌, ◌^◌, ◌<◌, ◌≤◌, Bool, true, false, cond, List, [], ◌++◌, length, map, replicate, Option, Some, None, refl, sym, ap, ◌∙◌, subst, arith, eq-eqb}
use Rattle.std.proofs.lemmas.List.{length-replicate}
use Rattle.std.specs.Prelude.{◌==◌, is_some, IsSome, option_map, All, take, drop}
use Rattle.std.specs.List.{Contains, flat_map}
use Rattle.std.specs.FinMap.{get, get-empty}
use Rattle.std.proofs.lemmas.Bool.{cases_eq}
use Rattle.std.proofs.lemmas.List.Elements.{All-contains}
use Rattle.std.proofs.lemmas.List.Sums.{fold-append}
use Rattle.cd_edges.specs.CdBase.ids.Fp.{Fp}
use Rattle.cd_edges.specs.CdBase.ids.Tag.{Tag}
use Rattle.cd_edges.specs.CdBase.ids.UserId.{UserId}
use Rattle.cd_edges.specs.CdBase.ids.Version.{Version}
use Rattle.cd_edges.specs.CdBase.shape.Shape.{Shape}
use Rattle.record_checks.specs.ContainerLog.Laying.{Placed, IsAt}
use Rattle.record_checks.specs.FileIndex.key.Entry.{Entry}
use Rattle.record_checks.specs.FileIndex.Files as files
use Rattle.record_checks.specs.FileIndex.Order.{key_cmp}
use Rattle.record_checks.specs.RecordBody.body.CommitBody.{CommitBody}
use Rattle.record_checks.specs.RecordBody.body.SpentBody.{SpentBody}
use Rattle.record_checks.specs.RecordBody.Spelling as bodies
use Rattle.record_checks.specs.RecordBody.Spelling.{Body}
use Rattle.record_checks.specs.ShareIndex.Order.{owner_cmp, owner_of}
use Rattle.record_checks.specs.SpentTable.Spending.{nothing as no_row, spent_by}
use Rattle.record_checks.specs.UserDedup.file_list.FileEntry.{FileEntry}
use Rattle.record_checks.specs.UserDedup.Owning.{is_among}
use Rattle.record_checks.specs.UserDedup.Pages as pages
use Rattle.record_checks.specs.UserDedup.Pages.{entry_at}
use Rattle.record_checks.specs.UserDedup.Requests.{fps_of as names_of}
use Rattle.record_checks.proofs.UserDedup.Owned.{among_contains, contains_among}
use Rattle.record_checks.proofs.UserDedup.Sound.{found_entry}
use Rattle.record_checks.specs.UserDedup.command.Command.{Command}
use Rattle.record_checks.specs.UserDedup.Dedup.{IsSound}
use Rattle.record_checks.specs.UserDedup.Cloud.{user_view, named_by, named_in}
use Rattle.record_checks.specs.UserDedup.Spending.{SpentByUser, nothing, spent_of, files_of}
use Rattle.record_checks.proofs.UserDedup.Filtered.{in_filter}
use Rattle.record_checks.proofs.UserDedup.Sound.{keys_apart}
use Rattle.record_checks.specs.CloudAreas.Chains.{AreLong}
use Rattle.record_checks.specs.CloudAreas.Checkpoints.{put_body, of_user, fps_of, items_in, key_of, HasEntry, SpentIs, ListSpent, IsCheckpointOfList}
use Rattle.record_checks.specs.CloudAreas.Placing.{shares_in}
use Rattle.record_checks.proofs.CloudAreas.Apart.{apart_from}
use Rattle.record_checks.proofs.CloudAreas.Entries.{entry_of}
use Rattle.record_checks.proofs.CloudAreas.Lists.{in_map, from_map}
use Rattle.record_checks.proofs.CloudAreas.Once.{checkpoint_once, checkpoint_all}
use Rattle.record_checks.proofs.CloudAreas.Placed.{checkpoint_is_sent}
use Rattle.record_checks.specs.CloudMemory.Memory.{Memory, as_spent, times, uses_of, summary, summary_of}
use Rattle.record_checks.specs.CloudMemory.Steps.{begun}
use Rattle.record_checks.proofs.MemoryProofs.Beginning.{none_remembered, none_placed}
use Rattle.record_checks.proofs.MemoryProofs.Few.{all_named, times_few}
use Rattle.record_checks.proofs.MemoryProofs.Keys.{both_ways}
use Rattle.record_checks.proofs.MemoryProofs.Naming.{committed_as_viewed}
use Rattle.record_checks.proofs.MemoryProofs.PutLaw.{unnamed, named_user}
use Rattle.record_checks.proofs.CloudAreas.Ends.{some_is}
use Rattle.record_laws.specs.Leaving.{record_left, left_by, bytes_at, IsLeft, RecipesLie}
use Rattle.record_laws.proofs.Counts.{same_sum, sums_match, times_flat, files_apart, entry_found, is_by, commits_by, version_of, from_user, versions_apart}
use Rattle.record_laws.proofs.Places.{all_placed, shares_end_all, recipes_end_all, Finds, places_remembered}
use Rattle.record_laws.proofs.Segments.{over, names, puts_own, kept_own, commits_own, spents_own, puts_files, kept_files, spents_files, IsOfList, AreOfList, entry_of_list, commits_of_list, commits_enter, puts_spent, kept_spent, commits_spent, spents_rows, row_listed, row_unlisted}

spent_nothing : (s : SpentByUser) → (s ≡ nothing) ⊎ (s ≢ nothing)
spent_nothing s = elim (cases_eq s.owners 0) [
  | inr more ↦ inr (λ same. more (ap (λ (x : SpentByUser). x.owners) same))
  | inl owners ↦ elim (cases_eq s.shares 0) [
    | inr more ↦ inr (λ same. more (ap (λ (x : SpentByUser). x.shares) same))
    | inl shares ↦ elim (cases_eq s.recipes 0) [
      | inr more ↦ inr (λ same. more (ap (λ (x : SpentByUser). x.recipes) same))
      | inl recipes ↦ inl (λ i. record { owners = owners i; shares = shares i; recipes = recipes i })
    ]
  ]
]

module _ (format : ℕ) (shape : Shape) (cloud : ℕ) (list : List Command) (records : List Body) (recipes : List Placed) (users region : ℕ) (area : List ℕ)
    (later : (format == 1) ≡ false) (sound : IsSound shape cloud list) (is : IsCheckpointOfList format shape list records recipes)
    (long : AreLong list (shares_in records)) (lie : All (IsAt area) recipes)
    (known : (q : UserId) → spent_of list q ≢ nothing → q.0 < users) (few : (q : UserId) → files_of shape list q ≤ 16384) where
  abbrev m0 : Memory
  m0 = begun users region

  abbrev m1 : Memory
  m1 = over shape area m0 (map put_body is.puts)

  abbrev m2 : Memory
  m2 = over shape area m1 (map bodies.Kept is.kept)

  abbrev m3 : Memory
  m3 = over shape area m2 (map bodies.Commit is.commits)

  abbrev m4 : Memory
  m4 = over shape area m3 (map bodies.Spent is.spents)

  in_parts : over shape area m0 records ≡ m4
  in_parts =
      let puts = map put_body is.puts in
      let kept = map bodies.Kept is.kept in
      let commits = map bodies.Commit is.commits in
      let spents = map bodies.Spent is.spents in
      let one = record_left shape area true in
      ap (over shape area m0) is.whole
      ∙ fold-append one m0 puts (kept ++ (commits ++ spents))
      ∙ fold-append one m1 kept (commits ++ spents)
      ∙ fold-append one m2 commits spents

  abbrev entries_in : UserId → List FileEntry
  entries_in q = (user_view shape list q).files

  each_lies : (b : Placed) → Contains recipes b → IsAt area b
  each_lies b c = All-contains (IsAt area) recipes b lie c

  -- ---- entries

  no_files : AreOfList shape area list m2
  no_files q t v e at =
      let none : m2.files ≡ m0.files = kept_files shape area m1 is.kept ∙ puts_files shape area m0 is.puts in
      absurd (let never : None ≡ Some e = sym (get-empty key_cmp (files.key_of q.0 t.0 v.0)) ∙ (ap (λ mm. get mm (files.key_of q.0 t.0 v.0)) (sym none) ∙ at) in cc)

  of_list : AreOfList shape area list m4
  of_list q t v e at =
      commits_of_list shape area list m2 is.commits recipes is.laid each_lies no_files q t v e
      (ap (λ mm. get mm (files.key_of q.0 t.0 v.0)) (sym (spents_files shape area m3 is.spents)) ∙ at)

  commit_at : (q : UserId) (t : Tag) (v : Version) (entry : FileEntry) → entry_at (entries_in q) (t, v) ≡ Some entry
      → (c : CommitBody) × Contains is.commits c × (◌≡◌ {A = UserId × Tag × Version} (key_of c) (q, t, v))
  commit_at q t v entry at =
      let has : HasEntry shape list (q, t, v) = ap (λ (o : Option FileEntry). is_some o) at in
      from_map key_of is.commits (q, t, v) ((is.entries.each (q, t, v)).1 has)

  files_are : (q : UserId) (t : Tag) (v : Version) → option_map summary (get m4.files (files.key_of q.0 t.0 v.0)) ≡ option_map summary_of (entry_at (entries_in q) (t, v))
  files_are q t v = by_both (get m4.files (files.key_of q.0 t.0 v.0)) refl (entry_at (entries_in q) (t, v)) refl
    where
      by_both : (o : Option Entry) → get m4.files (files.key_of q.0 t.0 v.0) ≡ o → (w : Option FileEntry) → entry_at (entries_in q) (t, v) ≡ w → option_map summary o ≡ option_map summary_of w
      by_both None got None at = refl
      by_both None got (Some entry) at =
          let c = commit_at q t v entry at in
          let has = commits_enter shape area m2 is.commits c.0 c.1 in
          let here : IsSome (get m3.files (files.key_of q.0 t.0 v.0)) =
          subst (λ (k : UserId × Tag × Version). IsSome (get m3.files (files.key_of k.0.0 k.1.0 k.2.0))) c.2 has in
          let none : get m3.files (files.key_of q.0 t.0 v.0) ≡ None = ap (λ mm. get mm (files.key_of q.0 t.0 v.0)) (sym (spents_files shape area m3 is.spents)) ∙ got in
          absurd (let never : false ≡ true = sym (ap is_some none) ∙ here in cc)
      by_both (Some e) got w at =
          let x = of_list q t v e got in
          sym (ap (option_map summary_of) (sym at ∙ x.here) ∙ (λ i. Some (sym x.len i, sym x.fp i)))

  recipes_lie : RecipesLie shape area list m4
  recipes_lie q t v e entry got at =
      let x = of_list q t v e got in
      subst (λ (y : FileEntry). IsAt area (record { place = e.at; blob = y.recipe })) (some_is x.entry entry (sym x.here ∙ at)) x.lies

  -- ---- owners

  module _ (q : UserId) (f : Fp) where
    abbrev own : List Fp
    own = (user_view shape list q).own

    abbrev commits_here : List CommitBody
    commits_here = commits_by q is.commits

    pub listed_own : is_among (fps_of (items_in (of_user q is.puts))) f ≡ is_among own f
    listed_own =
        let l = fps_of (items_in (of_user q is.puts)) in
        both_ways (is_among l f) (is_among own f)
        (λ e. contains_among own f (((is.owners.own q).each f).0 (among_contains l f e)))
        (λ e. contains_among l f (((is.owners.own q).each f).1 (among_contains own f e)))

    pub had : get m2.owners (owner_of q.0 f.0) ≡ cond (is_among own f) (Some 0) None
    had =
        ap (λ mm. get mm (owner_of q.0 f.0)) (kept_own shape area m1 is.kept)
        ∙ puts_own shape area m0 is.puts q f
        ∙ (λ i. cond (listed_own i) (Some 0) (get-empty owner_cmp (owner_of q.0 f.0) i))

    -- the uses of a version's recipe
    abbrev weight : Tag × Version → ℕ
    weight k = times (named_by shape (entry_at (entries_in q) k)) f

    entry_here : (c : CommitBody) → Contains commits_here c → IsOfList shape area list q c.tag c.version (record { at = c.at; len = c.len; fp = c.fp })
    entry_here c here =
        let u = from_user q is.commits c here in
        let b = entry_of shape list is.commits recipes c is.laid u.0 in
        subst (λ (x : UserId). IsOfList shape area list x c.tag c.version (record { at = c.at; len = c.len; fp = c.fp })) u.1
        (entry_of_list shape area list c b.0 b.2 (each_lies b.0 b.1))

    commit_weight : (c : CommitBody) → Contains commits_here c → times (names shape area c) f ≡ weight (version_of c)
    commit_weight c here =
        let x = entry_here c here in
        let read : bytes_at area c.at c.len ≡ x.entry.recipe = ap (λ (n : ℕ). take n (drop c.at area)) x.len ∙ x.lies in
        ap (λ (r : List ℕ). times (names_of shape r) f) read ∙ sym (ap (λ (o : Option FileEntry). times (named_by shape o) f) x.here)

    entry_weight : (e : FileEntry) → Contains (entries_in q) e → times (names_of shape e.recipe) f ≡ weight (pages.key_of e)
    entry_weight e here =
        sym (ap (λ (o : Option FileEntry). times (named_by shape o) f) (entry_found (entries_in q) e (files_apart (entries_in q) (keys_apart shape cloud list q sound)) here))

    to_entries : (k : Tag × Version) → Contains (map version_of commits_here) k → Contains (map pages.key_of (entries_in q)) k
    to_entries k c =
        let d = from_map version_of commits_here k c in
        let x = entry_here d.0 d.1 in
        let e = found_entry (entries_in q) (version_of d.0) x.entry x.here in
        subst (Contains (map pages.key_of (entries_in q))) (e.0 ∙ d.2) (in_map pages.key_of (entries_in q) x.entry e.1)

    to_commits : (k : Tag × Version) → Contains (map pages.key_of (entries_in q)) k → Contains (map version_of commits_here) k
    to_commits k c =
        let e = from_map pages.key_of (entries_in q) k c in
        let found = entry_found (entries_in q) e.0 (files_apart (entries_in q) (keys_apart shape cloud list q sound)) e.1 in
        let d = commit_at q e.0.tag e.0.version e.0 found in
        let users : d.0.user ≡ q = ap (λ (x : UserId × Tag × Version). x.0) d.2 in
        let own_commit = in_filter (is_by q) is.commits d.0 d.1 (eq-eqb d.0.user.0 q.0 (ap (λ (u : UserId). u.0) users)) in
        let keys : ◌≡◌ {A = Tag × Version} (version_of d.0) k = ap (λ (x : UserId × Tag × Version). (x.1, x.2)) d.2 ∙ e.2 in
        subst (Contains (map version_of commits_here)) keys (in_map version_of commits_here d.0 own_commit)

    named_alike : times (flat_map (names shape area) commits_here) f ≡ uses_of shape (entries_in q) f
    named_alike =
        times_flat (names shape area) commits_here f
        ∙ sums_match (λ c. times (names shape area c) f) weight version_of commits_here commit_weight
        ∙ same_sum weight (map version_of commits_here) (map pages.key_of (entries_in q))
        (versions_apart q is.commits (apart_from (map key_of is.commits) is.entries.once)) (files_apart (entries_in q) (keys_apart shape cloud list q sound)) to_entries to_commits
        ∙ sym (sums_match (λ (e : FileEntry). times (names_of shape e.recipe) f) weight pages.key_of (entries_in q) entry_weight)
        ∙ sym (times_flat (λ (e : FileEntry). names_of shape e.recipe) (entries_in q) f)

    owners_are : get m4.owners (owner_of q.0 f.0) ≡ cond (is_among own f) (Some (uses_of shape (entries_in q) f)) None
    owners_are =
        let all = flat_map (names shape area) commits_here in
        let fits : times all f + 0 ≤ 2 ^ 32 - 1 =
        (let a = times_few (named_in shape (entries_in q)) f in let b = all_named shape (entries_in q) in let c = few q in omega (arith, named_alike, a, b, c)) in
        let sum : times all f + 0 ≡ uses_of shape (entries_in q) f = omega (arith, named_alike) in
        ap (λ mm. get mm (owner_of q.0 f.0)) (spents_own shape area m3 is.spents)
        ∙ commits_own shape area m2 is.commits q f
        ∙ committed_as_viewed q all m2.owners f (is_among own f) 0 had (λ off. named_alike ∙ unnamed shape cloud list q f sound off) fits
        ∙ ap (λ (n : ℕ). cond (is_among own f) (Some n) None) sum

  -- ---- what was spent

  rows_before : m3.spent ≡ replicate users no_row
  rows_before = commits_spent shape area m2 is.commits ∙ kept_spent shape area m1 is.kept ∙ puts_spent shape area m0 is.puts

  row_count : length m3.spent ≡ users
  row_count = ap length rows_before ∙ length-replicate users no_row

  pub listed : ListSpent list is.spents
  listed = subst (λ (b : Bool). SpentIs b list is.spents) later is.spent

  spent_is : (q : UserId) → as_spent (spent_by m4.spent q) ≡ spent_of list q
  spent_is q = elim (spent_nothing (spent_of list q)) [
    | inr some ↦
        let s = from_map (λ (x : SpentBody). x.user) is.spents q ((listed.users.each q).1 some) in
        row_listed shape area list q m3 is.spents listed.numbers (subst (λ (n : ℕ). q.0 < n) (sym row_count) (known q some)) s.0 s.1 s.2
    | inl none ↦
        let rows : spent_by m4.spent q ≡ spent_by m3.spent q =
        row_unlisted shape area list q m3 is.spents (λ s c same.
        (listed.users.each q).0 (subst (Contains (map (λ (x : SpentBody). x.user) is.spents)) (named_user s.user q same) (in_map (λ (x : SpentBody). x.user) is.spents s c)) none) in
        ap as_spent (rows ∙ ap (λ l. spent_by l q) rows_before) ∙ (none_remembered shape users region).spent q ∙ sym none
  ]

  -- ---- all of it

  finds : Finds list (over shape area m0 records)
  finds =
      places_remembered list records (over shape area m0 records)
      (all_placed shape area true [] records m0 (none_placed users region) (checkpoint_once format shape list records recipes is))
      (checkpoint_is_sent format shape list records recipes is) (checkpoint_all format shape list records recipes is) long

  pub checkpoint_left : IsLeft shape area users region list records (left_by shape area true (begun users region) records)
  checkpoint_left = record {
    remembers = record {
      placed = finds.placed;
      lens = finds.lens;
      owners = λ q f. ap (λ (m : Memory). get m.owners (owner_of q.0 f.0)) in_parts ∙ owners_are q f;
      files = λ q t v. ap (λ (m : Memory). option_map summary (get m.files (files.key_of q.0 t.0 v.0))) in_parts ∙ files_are q t v;
      spent = λ q. ap (λ (m : Memory). as_spent (spent_by m.spent q)) in_parts ∙ spent_is q;
    };
    placed = all_placed shape area true [] records m0 (none_placed users region) (checkpoint_once format shape list records recipes is);
    shares = shares_end_all shape area true region [] records m0 refl;
    recipes = recipes_end_all shape area true region [] records m0 refl;
    users_are = ap (λ (m : Memory). length m.spent) in_parts ∙ spents_rows shape area m3 is.spents ∙ row_count;
    lie = subst (RecipesLie shape area list) (sym in_parts) recipes_lie;
  }
