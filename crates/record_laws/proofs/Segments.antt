-- What the four parts of a checkpoint leave: its Puts, its Kepts, its Commits, its Spents.
use Rattle.std.proofs.Common.{length-set, ◌≡◌, ◌≢◌, inl, inr, ℕ, zero, suc, eq-eqb, ◌+◌, ◌<◌, Bool, true, false, cond, List, [], ◌∷◌, ◌++◌, length, map, Option, Some, refl, sym, ap, ◌∙◌, subst, arith}
use Rattle.std.specs.Prelude.{◌&&◌, ◌||◌, ◌==◌, bytes_eq, IsSome}
use Rattle.std.specs.List.{Contains, flat_map}
use Rattle.std.specs.FinMap.{get}
use Rattle.std.proofs.lemmas.Bool.{and_parts, eqb-true, cases_eq}
use Rattle.std.proofs.lemmas.List.{map-append}
use Rattle.std.proofs.lemmas.List.Folds.{list_any-append}
use Rattle.std.proofs.lemmas.Slice.Eq.{bytes_eq-Decides}
use Rattle.cd_edges.specs.CdBase.ids.Fp.{Fp}
use Rattle.cd_edges.specs.CdBase.ids.Tag.{Tag}
use Rattle.cd_edges.specs.CdBase.ids.UserId.{UserId}
use Rattle.cd_edges.specs.CdBase.ids.Version.{Version}
use Rattle.cd_edges.specs.CdBase.shape.Shape.{Shape}
use Rattle.record_checks.specs.ContainerLog.Laying.{Placed, IsAt}
use Rattle.record_checks.specs.FileIndex.key.Entry.{Entry}
use Rattle.record_checks.specs.FileIndex.Files as files
use Rattle.record_checks.specs.RecordBody.body.CommitBody.{CommitBody}
use Rattle.record_checks.specs.RecordBody.body.PutItem.{PutItem}
use Rattle.record_checks.specs.RecordBody.body.KeptItem.{KeptItem}
use Rattle.record_checks.specs.RecordBody.body.SpentBody.{SpentBody}
use Rattle.record_checks.specs.RecordBody.Spelling as bodies
use Rattle.record_checks.specs.RecordBody.Spelling.{Body}
use Rattle.record_checks.specs.ShareIndex.Order.{owner_of}
use Rattle.record_checks.specs.SpentTable.Spending.{spent_by}
use Rattle.record_checks.specs.UserDedup.file_list.FileEntry.{FileEntry}
use Rattle.record_checks.specs.UserDedup.Cloud.{fingerprint}
use Rattle.record_checks.specs.UserDedup.Owning.{is_among}
use Rattle.record_checks.specs.UserDedup.Pages.{entry_at}
use Rattle.record_checks.specs.UserDedup.Requests.{fps_of as names_of}
use Rattle.record_checks.proofs.UserDedup.Owned.{contains_here, contains_later, contains_nothing, contains_cases}
use Rattle.record_checks.specs.UserDedup.command.Command.{Command}
use Rattle.record_checks.specs.UserDedup.Cloud.{user_view}
use Rattle.record_checks.specs.UserDedup.Spending.{spent_of}
use Rattle.record_checks.specs.CloudAreas.Checkpoints.{PutRecord, put_body, of_user, fps_of, items_in, IsEntry, AreEntries}
use Rattle.record_checks.specs.CloudMemory.Memory.{Memory, times, as_spent}
use Rattle.record_checks.specs.CloudMemory.Steps.{with_item, with_items, with_kepts, with_entry, with_spent}
use Rattle.record_checks.proofs.MemoryProofs.Keys.{owner_in, entry_in}
use Rattle.record_checks.proofs.MemoryProofs.Lists.{row_here, row_there}
use Rattle.record_checks.proofs.MemoryProofs.Naming.{times-append, one_more, repeated, all_raised}
use Rattle.record_checks.proofs.MemoryProofs.Puts.{files_stay, spent_stays}
use Rattle.record_checks.proofs.MemoryProofs.PutLaw.{named_user}
use Rattle.record_laws.specs.Leaving.{row_of, bytes_at, left_by}
use Rattle.record_laws.proofs.Counts.{commits_by}
use Rattle.record_laws.proofs.Places.{kepts_files, kepts_owners, kepts_spent}

-- ---- owners

-- what users own behind the items of a Put
pub items_own : (user : UserId) (m : Memory) (items : List PutItem) (q : UserId) (f : Fp)
    → get (with_items user m items).owners (owner_of q.0 f.0) ≡ cond ((user.0 == q.0) && is_among (fps_of items) f) (Some 0) (get m.owners (owner_of q.0 f.0))
items_own user m [] q f = sym (by_test (user.0 == q.0))
  where
    by_test : (b : Bool) → cond (b && false) (Some 0) (get m.owners (owner_of q.0 f.0)) ≡ get m.owners (owner_of q.0 f.0)
    by_test true = refl
    by_test false = refl
items_own user m (item ∷ items) q f =
    items_own user (with_item user m item) items q f
    ∙ ap (λ (o : Option ℕ). cond ((user.0 == q.0) && is_among (fps_of items) f) (Some 0) o) (owner_in m.owners user.0 item.fp.0 0 q.0 f.0)
    ∙ by_test (user.0 == q.0) (is_among (fps_of items) f) (bytes_eq item.fp.0 f.0) (get m.owners (owner_of q.0 f.0))
  where
    by_test : (u a b : Bool) (o : Option ℕ) → cond (u && a) (Some 0) (cond (u && b) (Some 0) o) ≡ cond (u && (b || a)) (Some 0) o
    by_test true true true o = refl
    by_test true true false o = refl
    by_test true false true o = refl
    by_test true false false o = refl
    by_test false a b o = refl

module _ (shape : Shape) (area : List ℕ) where
  -- inside of a checkpoint
  abbrev pub over : Memory → List Body → Memory
  over m records = left_by shape area true m records

  -- the fingerprints that the recipe of a Commit names, by what the area has there
  abbrev pub names : CommitBody → List Fp
  names c = names_of shape (bytes_at area c.at c.len)

  pub puts_own : (m : Memory) (puts : List PutRecord) (q : UserId) (f : Fp)
      → get (over m (map put_body puts)).owners (owner_of q.0 f.0) ≡ cond (is_among (fps_of (items_in (of_user q puts))) f) (Some 0) (get m.owners (owner_of q.0 f.0))
  puts_own m [] q f = refl
  puts_own m (p ∷ puts) q f =
      puts_own (with_items p.user m p.items) puts q f
      ∙ ap (λ (o : Option ℕ). cond (is_among (fps_of (items_in (of_user q puts))) f) (Some 0) o) (items_own p.user m p.items q f)
      ∙ by_test (p.user.0 == q.0)
    where
      listed : is_among (fps_of (p.items ++ items_in (of_user q puts))) f ≡ (is_among (fps_of p.items) f || is_among (fps_of (items_in (of_user q puts))) f)
      listed =
          ap (λ (l : List Fp). is_among l f) (map-append (λ (item : PutItem). item.fp) p.items (items_in (of_user q puts)))
          ∙ list_any-append (λ (other : Fp). bytes_eq other.0 f.0) (fps_of p.items) (fps_of (items_in (of_user q puts)))

      either : (a b : Bool) (o : Option ℕ) → cond a (Some 0) (cond b (Some 0) o) ≡ cond (b || a) (Some 0) o
      either true true o = refl
      either true false o = refl
      either false true o = refl
      either false false o = refl

      by_test : (b : Bool)
          → cond (is_among (fps_of (items_in (of_user q puts))) f) (Some 0) (cond (b && is_among (fps_of p.items) f) (Some 0) (get m.owners (owner_of q.0 f.0)))
          ≡ cond (is_among (fps_of (items_in (cond b (p ∷ of_user q puts) (of_user q puts)))) f) (Some 0) (get m.owners (owner_of q.0 f.0))
      by_test true =
          either (is_among (fps_of (items_in (of_user q puts))) f) (is_among (fps_of p.items) f) (get m.owners (owner_of q.0 f.0))
          ∙ sym (ap (λ (b : Bool). cond b (Some 0) (get m.owners (owner_of q.0 f.0))) listed)
      by_test false = refl

  pub kept_own : (m : Memory) (kept : List (List KeptItem)) → (over m (map bodies.Kept kept)).owners ≡ m.owners
  kept_own m [] = refl
  kept_own m (items ∷ kept) = kept_own (with_kepts m items) kept ∙ kepts_owners m items

  pub commits_own : (m : Memory) (commits : List CommitBody) (q : UserId) (f : Fp)
      → get (over m (map bodies.Commit commits)).owners (owner_of q.0 f.0) ≡ repeated one_more (times (flat_map names (commits_by q commits)) f) (get m.owners (owner_of q.0 f.0))
  commits_own m [] q f = refl
  commits_own m (c ∷ commits) q f =
      commits_own (with_entry (names c) c m) commits q f
      ∙ ap (repeated one_more (times (flat_map names (commits_by q commits)) f)) (all_raised c.user (names c) m.owners q f)
      ∙ by_test (c.user.0 == q.0)
    where
      together : (a b : ℕ) (o : Option ℕ) → repeated one_more b (repeated one_more a o) ≡ repeated one_more (a + b) o
      together zero b o = let none : 0 + b ≡ b = omega arith in ap (λ (n : ℕ). repeated one_more n o) (sym none)
      together (suc a) b o = let next : suc a + b ≡ suc (a + b) = omega arith in together a b (one_more o) ∙ ap (λ (n : ℕ). repeated one_more n o) (sym next)

      by_test : (b : Bool)
          → repeated one_more (times (flat_map names (commits_by q commits)) f) (cond b (repeated one_more (times (names c) f) (get m.owners (owner_of q.0 f.0))) (get m.owners (owner_of q.0 f.0)))
          ≡ repeated one_more (times (flat_map names (cond b (c ∷ commits_by q commits) (commits_by q commits))) f) (get m.owners (owner_of q.0 f.0))
      by_test true =
          together (times (names c) f) (times (flat_map names (commits_by q commits)) f) (get m.owners (owner_of q.0 f.0))
          ∙ ap (λ (n : ℕ). repeated one_more n (get m.owners (owner_of q.0 f.0))) (sym (times-append (names c) (flat_map names (commits_by q commits)) f))
      by_test false = refl

  pub spents_own : (m : Memory) (spents : List SpentBody) → (over m (map bodies.Spent spents)).owners ≡ m.owners
  spents_own m [] = refl
  spents_own m (s ∷ spents) = spents_own (with_spent s.user (row_of s) m) spents

  -- ---- entries

  pub puts_files : (m : Memory) (puts : List PutRecord) → (over m (map put_body puts)).files ≡ m.files
  puts_files m [] = refl
  puts_files m (p ∷ puts) = puts_files (with_items p.user m p.items) puts ∙ files_stay p.user m p.items

  pub kept_files : (m : Memory) (kept : List (List KeptItem)) → (over m (map bodies.Kept kept)).files ≡ m.files
  kept_files m [] = refl
  kept_files m (items ∷ kept) = kept_files (with_kepts m items) kept ∙ kepts_files m items

  pub spents_files : (m : Memory) (spents : List SpentBody) → (over m (map bodies.Spent spents)).files ≡ m.files
  spents_files m [] = refl
  spents_files m (s ∷ spents) = spents_files (with_spent s.user (row_of s) m) spents

  -- the list has an entry of this key, as the memory says it, and its recipe lies in the area
  pub record IsOfList (list : List Command) (q : UserId) (t : Tag) (v : Version) (e : Entry) : Type 0 where
    pub entry : FileEntry
    pub here : entry_at (user_view shape list q).files (t, v) ≡ Some entry
    pub len : e.len ≡ length entry.recipe
    pub fp : e.fp ≡ fingerprint entry.recipe
    pub lies : IsAt area (record { place = e.at; blob = entry.recipe })

  abbrev pub AreOfList : List Command → Memory → Type 0
  AreOfList list m = (q : UserId) (t : Tag) (v : Version) (e : Entry) → get m.files (files.key_of q.0 t.0 v.0) ≡ Some e → IsOfList list q t v e

  pub entry_of_list : (list : List Command) (c : CommitBody) (recipe : Placed) → IsEntry shape list c recipe → IsAt area recipe
      → IsOfList list c.user c.tag c.version (record { at = c.at; len = c.len; fp = c.fp })
  entry_of_list list c recipe is lies = record {
    entry = is.entry;
    here = is.here;
    len = is.len;
    fp = is.fp;
    lies = subst (IsAt area) (λ i. record { place = is.place i; blob = is.bytes i }) lies;
  }

  one_of_list : (list : List Command) (m : Memory) (c : CommitBody) (recipe : Placed) → IsEntry shape list c recipe → IsAt area recipe → AreOfList list m
      → AreOfList list (with_entry (names c) c m)
  one_of_list list m c recipe is lies old q t v e at =
      by_test ((c.user.0 == q.0) && (bytes_eq c.tag.0 t.0 && (c.version.0 == v.0))) refl (sym (entry_in m.files c.user.0 c.tag.0 c.version.0 (record { at = c.at; len = c.len; fp = c.fp }) q.0 t.0 v.0) ∙ at)
    where
      by_test : (b : Bool) → ((c.user.0 == q.0) && (bytes_eq c.tag.0 t.0 && (c.version.0 == v.0))) ≡ b
          → cond b (Some (record { at = c.at; len = c.len; fp = c.fp })) (get m.files (files.key_of q.0 t.0 v.0)) ≡ Some e → IsOfList list q t v e
      by_test false h is = old q t v e is
      by_test true h got =
          let p = and_parts (c.user.0 == q.0) (bytes_eq c.tag.0 t.0 && (c.version.0 == v.0)) h in
          let s = and_parts (bytes_eq c.tag.0 t.0) (c.version.0 == v.0) p.1 in
          let users : c.user.0 ≡ q.0 = eqb-true c.user.0 q.0 p.0 in
          let tags : c.tag.0 ≡ t.0 = (bytes_eq-Decides c.tag.0 t.0).0 s.0 in
          let versions : c.version.0 ≡ v.0 = eqb-true c.version.0 v.0 s.1 in
          let entries : record { at = c.at; len = c.len; fp = c.fp } ≡ e = cc in
          let one : IsOfList list c.user c.tag c.version (record { at = c.at; len = c.len; fp = c.fp }) = entry_of_list list c recipe is lies in
          subst (λ (x : UserId × Tag × Version × Entry). IsOfList list x.0 x.1 x.2 x.3)
          (λ i. (record { 0 = users i }, record { 0 = tags i }, record { 0 = versions i }, entries i)) one

  -- each entry that the Commits leave is one of the list's
  pub commits_of_list : (list : List Command) (m : Memory) (commits : List CommitBody) (recipes : List Placed) → AreEntries shape list commits recipes
      → ((b : Placed) → Contains recipes b → IsAt area b) → AreOfList list m → AreOfList list (over m (map bodies.Commit commits))
  commits_of_list list m [] [] are lie old = old
  commits_of_list list m [] (b ∷ recipes) are lie old = absurd are
  commits_of_list list m (c ∷ commits) [] are lie old = absurd are
  commits_of_list list m (c ∷ commits) (b ∷ recipes) are lie old =
      commits_of_list list (with_entry (names c) c m) commits recipes are.1 (λ x h. lie x (contains_later b recipes x h))
      (one_of_list list m c b are.0 (lie b (contains_here b recipes)) old)

  abbrev HasKey : Memory → CommitBody → Type 0
  HasKey m c = IsSome (get m.files (files.key_of c.user.0 c.tag.0 c.version.0))

  one_stays : (m : Memory) (c d : CommitBody) → HasKey m d → HasKey (with_entry (names c) c m) d
  one_stays m c d has =
      subst (λ (o : Option Entry). IsSome o) (sym (entry_in m.files c.user.0 c.tag.0 c.version.0 (record { at = c.at; len = c.len; fp = c.fp }) d.user.0 d.tag.0 d.version.0))
      (by_test ((c.user.0 == d.user.0) && (bytes_eq c.tag.0 d.tag.0 && (c.version.0 == d.version.0))))
    where
      by_test : (b : Bool) → IsSome (cond b (Some (record { at = c.at; len = c.len; fp = c.fp })) (get m.files (files.key_of d.user.0 d.tag.0 d.version.0)))
      by_test true = refl
      by_test false = has

  all_stay : (m : Memory) (commits : List CommitBody) (d : CommitBody) → HasKey m d → HasKey (over m (map bodies.Commit commits)) d
  all_stay m [] d has = has
  all_stay m (c ∷ commits) d has = all_stay (with_entry (names c) c m) commits d (one_stays m c d has)

  own_key : (m : Memory) (c : CommitBody) → HasKey (with_entry (names c) c m) c
  own_key m c =
      subst (λ (o : Option Entry). IsSome o) (sym (entry_in m.files c.user.0 c.tag.0 c.version.0 (record { at = c.at; len = c.len; fp = c.fp }) c.user.0 c.tag.0 c.version.0))
      (subst (λ (b : Bool). IsSome (cond b (Some (record { at = c.at; len = c.len; fp = c.fp })) (get m.files (files.key_of c.user.0 c.tag.0 c.version.0)))) (sym test) refl)
    where
      test : ((c.user.0 == c.user.0) && (bytes_eq c.tag.0 c.tag.0 && (c.version.0 == c.version.0))) ≡ true
      test = rw (eq-eqb c.user.0 c.user.0 refl, (bytes_eq-Decides c.tag.0 c.tag.0).1 refl, eq-eqb c.version.0 c.version.0 refl) refl

  -- each Commit's key has an entry
  pub commits_enter : (m : Memory) (commits : List CommitBody) (d : CommitBody) → Contains commits d → HasKey (over m (map bodies.Commit commits)) d
  commits_enter m [] d c = absurd (contains_nothing d c)
  commits_enter m (c ∷ commits) d here = elim (contains_cases c commits d here) [
    | inl same ↦ all_stay (with_entry (names c) c m) commits d (subst (HasKey (with_entry (names c) c m)) same (own_key m c))
    | inr later ↦ commits_enter (with_entry (names c) c m) commits d later
  ]

  -- ---- what was spent

  pub puts_spent : (m : Memory) (puts : List PutRecord) → (over m (map put_body puts)).spent ≡ m.spent
  puts_spent m [] = refl
  puts_spent m (p ∷ puts) = puts_spent (with_items p.user m p.items) puts ∙ spent_stays p.user m p.items

  pub kept_spent : (m : Memory) (kept : List (List KeptItem)) → (over m (map bodies.Kept kept)).spent ≡ m.spent
  kept_spent m [] = refl
  kept_spent m (items ∷ kept) = kept_spent (with_kepts m items) kept ∙ kepts_spent m items

  pub commits_spent : (m : Memory) (commits : List CommitBody) → (over m (map bodies.Commit commits)).spent ≡ m.spent
  commits_spent m [] = refl
  commits_spent m (c ∷ commits) = commits_spent (with_entry (names c) c m) commits

  pub spents_rows : (m : Memory) (spents : List SpentBody) → length (over m (map bodies.Spent spents)).spent ≡ length m.spent
  spents_rows m [] = refl
  spents_rows m (s ∷ spents) = spents_rows (with_spent s.user (row_of s) m) spents ∙ length-set m.spent s.user.0 (row_of s)

  module _ (list : List Command) (q : UserId) where
    abbrev HasRow : Memory → Type 0
    HasRow m = as_spent (spent_by m.spent q) ≡ spent_of list q

    row_said : (m : Memory) (s : SpentBody) → as_spent (row_of s) ≡ spent_of list s.user → q.0 < length m.spent → s.user ≡ q → HasRow (with_spent s.user (row_of s) m)
    row_said m s says place own =
        subst (λ (u : UserId). as_spent (spent_by (with_spent u (row_of s) m).spent q) ≡ spent_of list q) (sym own)
        (ap as_spent (row_here m.spent q (row_of s) place) ∙ says ∙ ap (spent_of list) own)

    row_stays : (m : Memory) (s : SpentBody) → as_spent (row_of s) ≡ spent_of list s.user → q.0 < length m.spent → HasRow m → HasRow (with_spent s.user (row_of s) m)
    row_stays m s says place has = elim (cases_eq s.user.0 q.0) [
      | inl same ↦ row_said m s says place (named_user s.user q same)
      | inr other ↦ ap as_spent (row_there m.spent s.user q (row_of s) (λ e. other (sym e))) ∙ has
    ]

    all_rows_stay : (m : Memory) (spents : List SpentBody) → ((s : SpentBody) → Contains spents s → as_spent (row_of s) ≡ spent_of list s.user) → q.0 < length m.spent
        → HasRow m → HasRow (over m (map bodies.Spent spents))
    all_rows_stay m [] says place has = has
    all_rows_stay m (s ∷ spents) says place has =
        all_rows_stay (with_spent s.user (row_of s) m) spents (λ x c. says x (contains_later s spents x c)) (subst (λ (n : ℕ). q.0 < n) (sym (length-set m.spent s.user.0 (row_of s))) place)
        (row_stays m s (says s (contains_here s spents)) place has)

    -- a user that has a Spent has the row that it says
    pub row_listed : (m : Memory) (spents : List SpentBody) → ((s : SpentBody) → Contains spents s → as_spent (row_of s) ≡ spent_of list s.user) → q.0 < length m.spent
        → (s : SpentBody) → Contains spents s → s.user ≡ q → HasRow (over m (map bodies.Spent spents))
    row_listed m [] says place s c own = absurd (contains_nothing s c)
    row_listed m (x ∷ spents) says place s c own =
        let further : q.0 < length (with_spent x.user (row_of x) m).spent = subst (λ (n : ℕ). q.0 < n) (sym (length-set m.spent x.user.0 (row_of x))) place in
        elim (contains_cases x spents s c) [
          | inl same ↦
              all_rows_stay (with_spent x.user (row_of x) m) spents (λ y d. says y (contains_later x spents y d)) further
              (row_said m x (says x (contains_here x spents)) place (ap (λ (y : SpentBody). y.user) same ∙ own))
          | inr later ↦ row_listed (with_spent x.user (row_of x) m) spents (λ y d. says y (contains_later x spents y d)) further s later own
        ]

    -- one that has none has the row it had
    pub row_unlisted : (m : Memory) (spents : List SpentBody) → ((s : SpentBody) → Contains spents s → s.user.0 ≢ q.0)
        → spent_by (over m (map bodies.Spent spents)).spent q ≡ spent_by m.spent q
    row_unlisted m [] other = refl
    row_unlisted m (s ∷ spents) other =
        row_unlisted (with_spent s.user (row_of s) m) spents (λ x c. other x (contains_later s spents x c))
        ∙ row_there m.spent s.user q (row_of s) (λ e. other s (contains_here s spents) (sym e))
