-- What one record more leaves, behind a checkpoint, is the memory of the list with its command.
use Rattle.std.proofs.Common.{◌≡◌, ◌≢◌, inl, inr, ℕ, ◌<◌, ◌≤◌, Bool, true, false, cond, List, [], ◌∷◌, ◌++◌, length, map, Option, Some, None, refl, sym, ap, ◌∙◌, subst, eq-eqb, append-nil, append_assoc, length-set}
use Rattle.std.specs.Prelude.{◌&&◌, ◌==◌, bytes_eq, fold, find, is_some, IsSome, option_map, All, slice_get, slice_set, take, drop}
use Rattle.std.specs.List.{Contains, sum_by}
use Rattle.std.specs.Option.{option_or}
use Rattle.std.specs.FinMap.{FinMap, get, insert}
use Rattle.std.proofs.lemmas.Bool.{and_parts, eqb-true, cases_eq, false_from_ne_true}
use Rattle.std.proofs.lemmas.List.{map-append, length-map}
use Rattle.std.proofs.lemmas.List.Elements.{All-contains, All-head}
use Rattle.std.proofs.lemmas.List.Folds.{find-append}
use Rattle.std.proofs.lemmas.Slice.Eq.{bytes_eq-Decides}
use Rattle.cd_edges.specs.CdBase.ids.Fp.{Fp}
use Rattle.cd_edges.specs.CdBase.ids.Tag.{Tag}
use Rattle.cd_edges.specs.CdBase.ids.UserId.{UserId}
use Rattle.cd_edges.specs.CdBase.ids.Version.{Version}
use Rattle.cd_edges.specs.CdBase.shape.Shape.{Shape}
use Rattle.record_checks.specs.ContainerLog.Laying.{Placed, IsAt, lengths}
use Rattle.record_checks.specs.FileIndex.key.Entry.{Entry}
use Rattle.record_checks.specs.FileIndex.Files as files
use Rattle.record_checks.specs.RecordBody.body.PutItem.{PutItem}
use Rattle.record_checks.specs.RecordBody.body.DeleteBody.{DeleteBody}
use Rattle.record_checks.specs.RecordBody.Spelling as bodies
use Rattle.record_checks.specs.RecordBody.Spelling.{Body}
use Rattle.cd_edges.specs.CdBase.place.Place.{Place}
use Rattle.record_checks.specs.ShareIndex.Order.{owner_cmp, owner_of}
use Rattle.cd_edges.specs.CdBase.Order.{fp_cmp}
use Rattle.record_checks.specs.SpentTable.Spending.{spent_by, both}
use Rattle.record_checks.specs.UserDedup.file_list.FileEntry.{FileEntry}
use Rattle.record_checks.specs.UserDedup.view.View.{View}
use Rattle.record_checks.specs.UserDedup.Cloud.{fingerprint, has_fingerprint}
use Rattle.record_checks.specs.UserDedup.Owning.{is_among, new_strings}
use Rattle.record_checks.specs.UserDedup.Pages.{is_at, entry_at}
use Rattle.record_checks.specs.UserDedup.Requests.{fps_of as names_of}
use Rattle.record_checks.proofs.UserDedup.New.{are_new}
use Rattle.record_checks.proofs.UserDedup.Owned.{fp_same, among_contains, contains_among}
use Rattle.record_checks.specs.UserDedup.command.Command.{Command}
use Rattle.record_checks.specs.UserDedup.command.Command.TheVariants as commands
use Rattle.record_checks.specs.UserDedup.Dedup.{IsSound}
use Rattle.record_checks.specs.UserDedup.Cloud.{user_of, user_view, strings_in}
use Rattle.record_checks.specs.UserDedup.Spending.{files_of}
use Rattle.record_checks.proofs.UserDedup.Deleting.{at_its_key, entry_stays}
use Rattle.record_checks.proofs.UserDedup.Views.{own_adds, others_stay}
use Rattle.record_checks.specs.CloudAreas.Chains.{commit_of, PlacedNew, AreItems, IsRecord}
use Rattle.record_checks.specs.CloudAreas.Checkpoints.{fps_of}
use Rattle.record_checks.specs.CloudAreas.Placing.{places_given, shares_in}
use Rattle.record_checks.proofs.CloudAreas.Lists.{from_map}
use Rattle.record_checks.proofs.CloudAreas.Placed.{shares_more}
use Rattle.record_checks.specs.CloudMemory.rooms.New.{New}
use Rattle.record_checks.specs.CloudMemory.Memory.{Memory, Remembers, as_spent, uses_of, summary, summary_of}
use Rattle.record_checks.specs.CloudMemory.News.{AreOf, AreNewTo}
use Rattle.record_checks.specs.CloudMemory.Sharing.{AreOwned}
use Rattle.record_checks.specs.CloudMemory.Steps.{with_item, with_items, part_in, parts_of, placed_len, spent_on, with_put, with_commit, without_entry, places_with}
use Rattle.record_checks.proofs.MemoryProofs.CommitLaw.{commit_remembered}
use Rattle.record_checks.proofs.MemoryProofs.DeleteLaw.{delete_remembered}
use Rattle.record_checks.proofs.MemoryProofs.Keys.{place_in, entry_in, entry_out}
use Rattle.record_checks.proofs.MemoryProofs.Lists.{strings_more, is_placed, placed_len_is, are_placed, among_found, string_len}
use Rattle.record_checks.proofs.MemoryProofs.PutLaw.{placed_after, put_remembered, named_user}
use Rattle.record_checks.proofs.MemoryProofs.PlacingLaw.{commit_placed, delete_placed, given_more, Gives}
use Rattle.record_checks.proofs.MemoryProofs.Puts.{ArePlaced, len_at, files_stay, spent_stays}
use Rattle.record_checks.proofs.UserDedup.Sound.{contained}
use Rattle.record_laws.specs.Leaving.{bytes_at, entry_bytes, record_left, IsLeft, RecipesLie}
use Rattle.record_laws.proofs.Asked.{lawful}
use Rattle.record_laws.proofs.Counts.{sums_match}
use Rattle.record_laws.proofs.Places.{one_gives, record_commits, shares_end_next, recipes_end_next}
use Rattle.record_laws.proofs.Segments.{IsOfList, AreOfList}

-- ---- the items of a Put, one by one

-- a place that a fingerprint has none of
len_none : (o : Option Place) → len_at o ≡ None → o ≡ None
len_none None e = refl
len_none (Some p) e = absurd (let no : Some p.len ≡ None = e in cc)

not_found : (strings : List (List ℕ)) (fp : Fp) → is_among (map fingerprint strings) fp ≡ false → find (has_fingerprint fp) strings ≡ None
not_found strings fp off = by_found (find (has_fingerprint fp) strings) (sym (among_found strings fp) ∙ off)
  where
    by_found : (o : Option (List ℕ)) → is_some o ≡ false → o ≡ None
    by_found None e = refl
    by_found (Some s) e = absurd (let no : true ≡ false = e in cc)

pub was_found : (strings : List (List ℕ)) (fp : Fp) → is_among (map fingerprint strings) fp ≡ true → (s : List ℕ) × (find (has_fingerprint fp) strings ≡ Some s)
was_found strings fp on = by_found (find (has_fingerprint fp) strings) refl (sym (among_found strings fp) ∙ on)
  where
    by_found : (o : Option (List ℕ)) → find (has_fingerprint fp) strings ≡ o → is_some o ≡ true → (s : List ℕ) × (find (has_fingerprint fp) strings ≡ Some s)
    by_found None is e = absurd (let no : false ≡ true = e in cc)
    by_found (Some s) is e = (s, is)

new_free : (b : Bool) (s : List ℕ) (o : Option Place) (place : Place) → PlacedNew b s o → o ≡ Some place → b ≡ false
new_free true s None place new e = absurd (let no : None ≡ Some place = e in cc)
new_free true s (Some p) place new e = absurd new
new_free false s o place new e = refl

-- a share that is placed now has no place yet
pub free_place : (before : List (List ℕ)) (places : FinMap fp_cmp Place) (fp : Fp) → ArePlaced before places → is_among (map fingerprint before) fp ≡ false → get places fp.0 ≡ None
free_place before places fp placed off = len_none (get places fp.0) (placed fp ∙ ap string_len (not_found before fp off))

pub one_placed : (before : List (List ℕ)) (s : List ℕ) (places : FinMap fp_cmp Place) (o : Option Place) → ArePlaced before places
    → PlacedNew (is_among (map fingerprint before) (fingerprint s)) s o → ArePlaced (before ++ s ∷ []) (places_with places (fingerprint s) o)
one_placed before s places o placed new f =
    by_flag (is_among (map fingerprint before) (fingerprint s)) refl o new
    ∙ sym (ap string_len (find-append (has_fingerprint f) before (s ∷ [])))
  where
    or_none : (w : Option (List ℕ)) → w ≡ option_or w None
    or_none None = refl
    or_none (Some t) = refl

    -- a string that came before
    known : is_among (map fingerprint before) (fingerprint s) ≡ true → (b : Bool) → bytes_eq (fingerprint s).0 f.0 ≡ b
        → len_at (get places f.0) ≡ string_len (option_or (find (has_fingerprint f) before) (cond b (Some s) None))
    known on true t =
        let same : fingerprint s ≡ f = (fp_same (fingerprint s) f).0 t in
        let w = was_found before f (ap (is_among (map fingerprint before)) (sym same) ∙ on) in
        placed f ∙ ap string_len w.1 ∙ sym (ap (λ (x : Option (List ℕ)). string_len (option_or x (Some s))) w.1)
    known on false t = placed f ∙ ap string_len (or_none (find (has_fingerprint f) before))

    -- a new one
    fresh : is_among (map fingerprint before) (fingerprint s) ≡ false → (p : Place) → p.len ≡ length s → (b : Bool) → bytes_eq (fingerprint s).0 f.0 ≡ b
        → len_at (cond b (Some p) (get places f.0)) ≡ string_len (option_or (find (has_fingerprint f) before) (cond b (Some s) None))
    fresh off p len true t =
        let same : fingerprint s ≡ f = (fp_same (fingerprint s) f).0 t in
        let none = not_found before f (ap (is_among (map fingerprint before)) (sym same) ∙ off) in
        ap Some len ∙ sym (ap (λ (x : Option (List ℕ)). string_len (option_or x (Some s))) none)
    fresh off p len false t = placed f ∙ ap string_len (or_none (find (has_fingerprint f) before))

    by_flag : (b : Bool) → is_among (map fingerprint before) (fingerprint s) ≡ b → (o : Option Place) → PlacedNew b s o
        → len_at (get (places_with places (fingerprint s) o) f.0) ≡ string_len (option_or (find (has_fingerprint f) before) (cond (bytes_eq (fingerprint s).0 f.0) (Some s) None))
    by_flag true on None new = known on (bytes_eq (fingerprint s).0 f.0) refl
    by_flag true on (Some p) new = absurd new
    by_flag false off None new = absurd new
    by_flag false off (Some p) new =
        ap len_at (place_in places (fingerprint s).0 p f.0) ∙ fresh off p new (bytes_eq (fingerprint s).0 f.0) refl

-- where the strings so far are placed, and the pairs so far are the map's, they are so behind the items
pub record Fill (before : List (List ℕ)) (pairs : List (Fp × Place)) (places : FinMap fp_cmp Place) : Type 0 where
  pub placed : ArePlaced before places
  pub gives : Gives pairs places

one_fills : (before : List (List ℕ)) (pairs : List (Fp × Place)) (user : UserId) (m : Memory) (s : List ℕ) (item : PutItem) → item.fp ≡ fingerprint s
    → PlacedNew (is_among (map fingerprint before) (fingerprint s)) s item.place → Fill before pairs m.places
    → Fill (before ++ s ∷ []) (pairs ++ places_given (item ∷ [])) (with_item user m item).places
one_fills before pairs user m s item fp new f = record {
  placed =
      subst (λ (x : Fp). ArePlaced (before ++ s ∷ []) (places_with m.places x item.place)) (sym fp)
      (one_placed before s m.places item.place f.placed new);
  gives = by_place item.place refl;
}
  where
    by_place : (o : Option Place) → item.place ≡ o → Gives (pairs ++ places_given (record { fp = item.fp; place = o } ∷ [])) (places_with m.places item.fp o)
    by_place None is = subst (λ (l : List (Fp × Place)). Gives l m.places) (sym (append-nil pairs)) f.gives
    by_place (Some p) is =
        one_gives pairs m.places (item.fp, p) f.gives
        (ap (λ (x : Fp). get m.places x.0) fp
        ∙ free_place before m.places (fingerprint s) f.placed (new_free (is_among (map fingerprint before) (fingerprint s)) s item.place p new is))

all_fill : (before : List (List ℕ)) (pairs : List (Fp × Place)) (user : UserId) (m : Memory) (strings : List (List ℕ)) (items : List PutItem)
    → AreItems (map fingerprint before) strings items → Fill before pairs m.places → Fill (before ++ strings) (pairs ++ places_given items) (with_items user m items).places
all_fill before pairs user m [] [] are f =
    record {
      placed = subst (λ (l : List (List ℕ)). ArePlaced l m.places) (sym (append-nil before)) f.placed;
      gives = subst (λ (l : List (Fp × Place)). Gives l m.places) (sym (append-nil pairs)) f.gives;
    }
all_fill before pairs user m [] (item ∷ items) are f = absurd are
all_fill before pairs user m (s ∷ strings) [] are f = absurd are
all_fill before pairs user m (s ∷ strings) (item ∷ items) are f =
    let next = with_item user m item in
    let rest = all_fill (before ++ s ∷ []) (pairs ++ places_given (item ∷ [])) user next strings items
    (subst (λ (l : List Fp). AreItems l strings items) (sym (map-append fingerprint before (s ∷ []))) are.2)
    (one_fills before pairs user m s item are.0 are.1 f) in
    record {
      placed = subst (λ (l : List (List ℕ)). ArePlaced l (with_items user next items).places) (append_assoc before (s ∷ []) strings) rest.placed;
      gives =
          subst (λ (l : List (Fp × Place)). Gives l (with_items user next items).places)
          (append_assoc pairs (places_given (item ∷ [])) (places_given items) ∙ ap (λ (l : List (Fp × Place)). pairs ++ l) (sym (given_more item items))) rest.gives;
    }

pub items_listed : (before : List Fp) (strings : List (List ℕ)) (items : List PutItem) → AreItems before strings items → fps_of items ≡ map fingerprint strings
items_listed before [] [] are = refl
items_listed before [] (item ∷ items) are = absurd are
items_listed before (s ∷ ss) [] are = absurd are
items_listed before (s ∷ ss) (item ∷ items) are = λ i. are.0 i ∷ items_listed (before ++ fingerprint s ∷ []) ss items are.2 i

-- ---- owners and what is spent depend on no place

abbrev own_more : UserId → FinMap owner_cmp ℕ → Fp → FinMap owner_cmp ℕ
own_more user owners fp = insert owners (owner_of user.0 fp.0) 0

owners_by_fps : (user : UserId) (m : Memory) (items : List PutItem) → (with_items user m items).owners ≡ fold (own_more user) m.owners (fps_of items)
owners_by_fps user m [] = refl
owners_by_fps user m (item ∷ items) = owners_by_fps user (with_item user m item) items

same_len : (a b : Option Place) → len_at a ≡ len_at b → placed_len a ≡ placed_len b
same_len None None e = refl
same_len None (Some p) e = absurd (let no : None ≡ Some p.len = e in cc)
same_len (Some p) None e = absurd (let no : Some p.len ≡ None = e in cc)
same_len (Some p) (Some q) e = let same : Some p.len ≡ Some q.len = e in cc

cost_by_fps : (places : FinMap fp_cmp Place) (items : List PutItem)
    → sum_by (λ (item : PutItem). placed_len (get places item.fp.0)) items ≡ sum_by (λ (fp : Fp). placed_len (get places fp.0)) (fps_of items)
cost_by_fps places items = sums_match (λ (item : PutItem). placed_len (get places item.fp.0)) (λ (fp : Fp). placed_len (get places fp.0)) (λ (item : PutItem). item.fp) items (λ item c. refl)

map_alone : (fps : List Fp) → map (λ (fp : Fp). fp) fps ≡ fps
map_alone [] = refl
map_alone (fp ∷ fps) = ap (λ l. fp ∷ l) (map_alone fps)

same_cost : (one two : FinMap fp_cmp Place) (fps : List Fp) → ((fp : Fp) → len_at (get one fp.0) ≡ len_at (get two fp.0))
    → sum_by (λ (fp : Fp). placed_len (get one fp.0)) fps ≡ sum_by (λ (fp : Fp). placed_len (get two fp.0)) fps
same_cost one two fps same =
    sums_match (λ (fp : Fp). placed_len (get one fp.0)) (λ (fp : Fp). placed_len (get two fp.0)) (λ (fp : Fp). fp) fps (λ fp c. same_len (get one fp.0) (get two fp.0) (same fp))
    ∙ ap (sum_by (λ (fp : Fp). placed_len (get two fp.0))) (map_alone fps)

-- ---- a Put

-- shares as a server takes them
abbrev new_of : List ℕ → New
new_of s = record { fp = fingerprint s; len = length s }

news_of : (strings : List (List ℕ)) → AreOf (map new_of strings) strings
news_of strings = record { fps = fps strings; lens = lens strings }
  where
    fps : (ss : List (List ℕ)) → map (λ (n : New). n.fp) (map new_of ss) ≡ map fingerprint ss
    fps [] = refl
    fps (s ∷ ss) = ap (λ l. fingerprint s ∷ l) (fps ss)

    lens : (ss : List (List ℕ)) → map (λ (n : New). n.len) (map new_of ss) ≡ lengths ss
    lens [] = refl
    lens (s ∷ ss) = ap (λ l. length s ∷ l) (lens ss)

parts_listed : (user : UserId) (m : Memory) (strings : List (List ℕ)) → fps_of (parts_of user m (map new_of strings)) ≡ map fingerprint strings
parts_listed user m [] = refl
parts_listed user m (s ∷ strings) = ap (λ l. fingerprint s ∷ l) (parts_listed user (with_item user m (part_in m (new_of s))) strings)

module _ (shape : Shape) (area : List ℕ) (users region : ℕ) (list : List Command) (records : List Body) (m : Memory) (left : IsLeft shape area users region list records m) where
  abbrev r : Remembers shape list m
  r = left.remembers

  pub not_own : (user : UserId) (fp : Fp) → (Contains (user_view shape list user).own fp → ⊥) → get m.owners (owner_of user.0 fp.0) ≡ None
  not_own user fp free =
      r.owners user fp
      ∙ ap (λ (b : Bool). cond b (Some (uses_of shape (user_view shape list user).files fp)) None)
      (false_from_ne_true (is_among (user_view shape list user).own fp) (λ t. free (among_contains (user_view shape list user).own fp t)))

  module _ (user : UserId) (strings sent : List (List ℕ)) (new : strings ≡ new_strings (user_view shape list user).own sent) where
    pub news_new : AreNewTo m user (map new_of strings)
    news_new =
        let of = are_new (user_view shape list user).own sent in
        let fps : map (λ (n : New). n.fp) (map new_of strings) ≡ map fingerprint strings = (news_of strings).fps in
        record {
          new = contained (λ (n : New). get m.owners (owner_of user.0 n.fp.0) ≡ None) (map new_of strings) (λ n c.
              let s = from_map new_of strings n c in
              ap (λ (x : New). get m.owners (owner_of user.0 x.fp.0)) (sym s.2)
              ∙ not_own user (fingerprint s.0) (of.among s.0 (subst (λ (l : List (List ℕ)). Contains l s.0) new s.1)).1);
          apart = λ i j fp at_i at_j.
              let listed : map (λ (n : New). n.fp) (map new_of strings) ≡ map fingerprint (new_strings (user_view shape list user).own sent) = fps ∙ ap (map fingerprint) new in
              of.apart i j fp (ap (λ l. slice_get l i) (sym listed) ∙ at_i) (ap (λ l. slice_get l j) (sym listed) ∙ at_j);
        }

  module _ (cloud : ℕ) (user : UserId) (strings : List (List ℕ)) (items : List PutItem) (sound : IsSound shape cloud list) (new : AreNewTo m user (map new_of strings))
      (place : user.0 < length m.spent) (each : AreItems (map fingerprint (strings_in list)) strings items) where
    abbrev after_list : List Command
    after_list = list ++ commands.Put user strings ∷ []

    abbrev news : List New
    news = map new_of strings

    abbrev like : Memory
    like = with_put user (parts_of user m news) m

    abbrev after : Memory
    after = with_put user items m

    pub fills : Fill (strings_in list ++ strings) (shares_in records ++ places_given items) after.places
    fills = all_fill (strings_in list) (shares_in records) user m strings items each (record { placed = are_placed (strings_in list) m.places r.placed r.lens; gives = left.placed.shares })

    all_strings : strings_in after_list ≡ strings_in list ++ strings
    all_strings = strings_more list (commands.Put user strings)

    placed_now : ArePlaced (strings_in after_list) after.places
    placed_now = subst (λ (l : List (List ℕ)). ArePlaced l after.places) (sym all_strings) fills.placed

    placed_like : ArePlaced (strings_in after_list) like.places
    placed_like = placed_after shape cloud list user strings news m sound r (news_of strings) new

    listed : fps_of items ≡ fps_of (parts_of user m news)
    listed = items_listed (map fingerprint (strings_in list)) strings items each ∙ sym (parts_listed user m strings)

    same_owners : after.owners ≡ like.owners
    same_owners = owners_by_fps user m items ∙ ap (fold (own_more user) m.owners) listed ∙ sym (owners_by_fps user m (parts_of user m news))

    same_files : after.files ≡ like.files
    same_files = files_stay user m items ∙ sym (files_stay user m (parts_of user m news))

    same_spent : after.spent ≡ like.spent
    same_spent =
        let one = with_items user m items in
        let two = with_items user m (parts_of user m news) in
        let rows : one.spent ≡ two.spent = spent_stays user m items ∙ sym (spent_stays user m (parts_of user m news)) in
        let count : length items ≡ length (parts_of user m news) =
        sym (length-map items (λ (i : PutItem). i.fp)) ∙ ap length listed ∙ length-map (parts_of user m news) (λ (i : PutItem). i.fp) in
        let cost : (spent_on one items).shares ≡ (spent_on two (parts_of user m news)).shares =
        cost_by_fps one.places items
        ∙ same_cost one.places two.places (fps_of items) (λ fp. placed_now fp ∙ sym (placed_like fp))
        ∙ ap (sum_by (λ (fp : Fp). placed_len (get two.places fp.0))) listed
        ∙ sym (cost_by_fps two.places (parts_of user m news)) in
        λ i. slice_set (rows i) user.0 (both (spent_by (rows i) user) (record { owners = count i; shares = cost i; recipes = 0 }))

    pub put_left_remembers : Remembers shape after_list after
    put_left_remembers =
        let s = put_remembered shape cloud list user strings news m sound r (news_of strings) new place in
        record {
          placed = is_placed (strings_in after_list) after.places placed_now;
          lens = placed_len_is (strings_in after_list) after.places placed_now;
          owners = λ q f. ap (λ o. get o (owner_of q.0 f.0)) same_owners ∙ s.owners q f;
          files = λ q t v. ap (λ mm. option_map summary (get mm (files.key_of q.0 t.0 v.0))) same_files ∙ s.files q t v;
          spent = λ q. ap (λ l. as_spent (spent_by l q)) same_spent ∙ s.spent q;
        }

  -- ---- where recipes lie

  some_is : {X : Type 0} (x y : X) → Some x ≡ Some y → x ≡ y
  some_is x y e = cc

  pub left_of_list : AreOfList shape area list m
  left_of_list q t v e got = by_found (entry_at (user_view shape list q).files (t, v)) refl
    where
      by_found : (o : Option FileEntry) → entry_at (user_view shape list q).files (t, v) ≡ o → IsOfList shape area list q t v e
      by_found None at =
          absurd (let no : Some (summary e) ≡ None = sym (ap (option_map summary) got) ∙ r.files q t v ∙ ap (option_map summary_of) at in cc)
      by_found (Some x) at =
          let same = some_is (summary e) (summary_of x) (sym (ap (option_map summary) got) ∙ r.files q t v ∙ ap (option_map summary_of) at) in
          record {
            entry = x;
            here = at;
            len = ap (λ (s : ℕ × Fp). s.0) same;
            fp = ap (λ (s : ℕ × Fp). s.1) same;
            lies = left.lie q t v e x got at;
          }

  -- what is found in a longer list too
  still_of_list : (more : List Command) (q : UserId) (t : Tag) (v : Version) (e : Entry)
      → ((x : FileEntry) → entry_at (user_view shape list q).files (t, v) ≡ Some x → entry_at (user_view shape more q).files (t, v) ≡ Some x)
      → IsOfList shape area list q t v e → IsOfList shape area more q t v e
  still_of_list more q t v e still is = record { entry = is.entry; here = still is.entry is.here; len = is.len; fp = is.fp; lies = is.lies }

  lie_by : (more : List Command) (new : Memory) → AreOfList shape area more new → RecipesLie shape area more new
  lie_by more new are q t v e entry got at =
      let x = are q t v e got in
      subst (λ (y : FileEntry). IsAt area (record { place = e.at; blob = y.recipe })) (some_is x.entry entry (sym x.here ∙ at)) x.lies

  -- another user's command leaves the entries
  foreign : (command : Command) (q : UserId) (t : Tag) (v : Version) → (user_of command).0 ≢ q.0 → (x : FileEntry)
      → entry_at (user_view shape list q).files (t, v) ≡ Some x → entry_at (user_view shape (list ++ command ∷ []) q).files (t, v) ≡ Some x
  foreign command q t v other x at = ap (λ (w : View). entry_at w.files (t, v)) (others_stay shape list command q other) ∙ at

  put_of_list : (user : UserId) (strings : List (List ℕ)) (new : Memory) → new.files ≡ m.files → AreOfList shape area (list ++ commands.Put user strings ∷ []) new
  put_of_list user strings new same q t v e got =
      still_of_list (list ++ commands.Put user strings ∷ []) q t v e still (left_of_list q t v e (ap (λ mm. get mm (files.key_of q.0 t.0 v.0)) (sym same) ∙ got))
    where
      still : (x : FileEntry) → entry_at (user_view shape list q).files (t, v) ≡ Some x → entry_at (user_view shape (list ++ commands.Put user strings ∷ []) q).files (t, v) ≡ Some x
      still x at = elim (cases_eq user.0 q.0) [
        | inl own ↦ ap (λ (w : View). entry_at w.files (t, v)) (own_adds shape list (commands.Put user strings) q own) ∙ at
        | inr other ↦ foreign (commands.Put user strings) q t v other x at
      ]

  commit_of_list : (user : UserId) (tag : Tag) (version : Version) (recipe : List ℕ) (at : ℕ) (named : List Fp) → entry_at (user_view shape list user).files (tag, version) ≡ None
      → IsAt area (record { place = at; blob = recipe })
      → AreOfList shape area (list ++ commands.Commit user tag version recipe ∷ []) (with_commit named (commit_of user tag version recipe at) m)
  commit_of_list user tag version recipe at named lacked lies q t v e got =
      by_test ((user.0 == q.0) && (bytes_eq tag.0 t.0 && (version.0 == v.0))) refl (sym (entry_in m.files user.0 tag.0 version.0 entry q.0 t.0 v.0) ∙ got)
    where
      entry : Entry
      entry = record { at = at; len = length recipe; fp = fingerprint recipe }

      fresh : FileEntry
      fresh = record { tag = tag; version = version; recipe = recipe }

      command : Command
      command = commands.Commit user tag version recipe

      push : (key : Tag × Version) → entry_at (user_view shape (list ++ command ∷ []) user).files key ≡ option_or (entry_at (user_view shape list user).files key) (cond (is_at key fresh) (Some fresh) None)
      push key =
          ap (λ (w : View). entry_at w.files key) (own_adds shape list command user refl)
          ∙ find-append (is_at key) (user_view shape list user).files (fresh ∷ [])

      this : IsOfList shape area (list ++ command ∷ []) user tag version entry
      this = record {
        entry = fresh;
        here =
            push (tag, version)
            ∙ (λ i. option_or (lacked i) (cond (itself i) (Some fresh) None));
        len = refl;
        fp = refl;
        lies = lies;
      }
        where
          itself : is_at (tag, version) fresh ≡ true
          itself = at_its_key fresh (tag, version) refl

      still : (x : FileEntry) → entry_at (user_view shape list q).files (t, v) ≡ Some x → entry_at (user_view shape (list ++ command ∷ []) q).files (t, v) ≡ Some x
      still x has = elim (cases_eq user.0 q.0) [
        | inl own ↦ subst (λ (u : UserId). entry_at (user_view shape list u).files (t, v) ≡ Some x → entry_at (user_view shape (list ++ command ∷ []) u).files (t, v) ≡ Some x)
            (named_user user q own) (λ h. push (t, v) ∙ ap (λ (o : Option FileEntry). option_or o (cond (is_at (t, v) fresh) (Some fresh) None)) h) has
        | inr other ↦ foreign command q t v other x has
      ]

      by_test : (b : Bool) → ((user.0 == q.0) && (bytes_eq tag.0 t.0 && (version.0 == v.0))) ≡ b → cond b (Some entry) (get m.files (files.key_of q.0 t.0 v.0)) ≡ Some e
          → IsOfList shape area (list ++ command ∷ []) q t v e
      by_test false h is = still_of_list (list ++ command ∷ []) q t v e still (left_of_list q t v e is)
      by_test true h is =
          let p = and_parts (user.0 == q.0) (bytes_eq tag.0 t.0 && (version.0 == v.0)) h in
          let s = and_parts (bytes_eq tag.0 t.0) (version.0 == v.0) p.1 in
          let users_same : user.0 ≡ q.0 = eqb-true user.0 q.0 p.0 in
          let tags : tag.0 ≡ t.0 = (bytes_eq-Decides tag.0 t.0).0 s.0 in
          let versions : version.0 ≡ v.0 = eqb-true version.0 v.0 s.1 in
          let entries : entry ≡ e = some_is entry e is in
          subst (λ (x : UserId × Tag × Version × Entry). IsOfList shape area (list ++ command ∷ []) x.0 x.1 x.2 x.3)
          (λ i. (record { 0 = users_same i }, record { 0 = tags i }, record { 0 = versions i }, entries i)) this

  delete_of_list : (user : UserId) (tag : Tag) (version : Version) (named : List Fp)
      → AreOfList shape area (list ++ commands.Delete user tag version ∷ []) (without_entry named user (files.key_of user.0 tag.0 version.0) m)
  delete_of_list user tag version named q t v e got =
      by_test ((user.0 == q.0) && (bytes_eq tag.0 t.0 && (version.0 == v.0))) refl (sym (entry_out m.files user.0 tag.0 version.0 q.0 t.0 v.0) ∙ got)
    where
      command : Command
      command = commands.Delete user tag version

      same_key : user.0 ≡ q.0 → ◌≡◌ {A = Tag × Version} (t, v) (tag, version) → ((user.0 == q.0) && (bytes_eq tag.0 t.0 && (version.0 == v.0))) ≡ true
      same_key own key =
          let tags : tag.0 ≡ t.0 = ap (λ (x : Tag × Version). x.0.0) (sym key) in
          let versions : version.0 ≡ v.0 = ap (λ (x : Tag × Version). x.1.0) (sym key) in
          rw (eq-eqb user.0 q.0 own, (bytes_eq-Decides tag.0 t.0).1 tags, eq-eqb version.0 v.0 versions) refl

      still : ((user.0 == q.0) && (bytes_eq tag.0 t.0 && (version.0 == v.0))) ≡ false → (x : FileEntry)
          → entry_at (user_view shape list q).files (t, v) ≡ Some x → entry_at (user_view shape (list ++ command ∷ []) q).files (t, v) ≡ Some x
      still off x has = elim (cases_eq user.0 q.0) [
        | inl own ↦
            let other_key : ◌≢◌ {A = Tag × Version} (t, v) (tag, version) = λ key. let no : false ≡ true = sym off ∙ same_key own key in cc in
            ap (λ (w : View). entry_at w.files (t, v)) (own_adds shape list command q own)
            ∙ entry_stays shape (tag, version) (t, v) (user_view shape list q) other_key ∙ has
        | inr other ↦ foreign command q t v other x has
      ]

      by_test : (b : Bool) → ((user.0 == q.0) && (bytes_eq tag.0 t.0 && (version.0 == v.0))) ≡ b → cond b None (get m.files (files.key_of q.0 t.0 v.0)) ≡ Some e
          → IsOfList shape area (list ++ command ∷ []) q t v e
      by_test true h is = absurd (let no : None ≡ Some e = is in cc)
      by_test false h is = still_of_list (list ++ command ∷ []) q t v e (still h) (left_of_list q t v e is)

  -- ---- a record

  abbrev IsLeftWith : Command → Body → Memory → Type 0
  IsLeftWith command body new = IsLeft shape area users region (list ++ command ∷ []) (records ++ body ∷ []) new

  put_left : (cloud : ℕ) (user : UserId) (strings : List (List ℕ)) (items : List PutItem) → IsSound shape cloud list → AreNewTo m user (map new_of strings)
      → user.0 < users → AreItems (map fingerprint (strings_in list)) strings items
      → IsLeftWith (commands.Put user strings) (bodies.Put user items) (with_put user items m)
  put_left cloud user strings items sound new place each =
      let known : user.0 < length m.spent = subst (λ (n : ℕ). user.0 < n) (sym left.users_are) place in
      let filled = with_items user m items in
      record {
        remembers = put_left_remembers cloud user strings items sound new known each;
        placed = record {
          shares =
              subst (λ (l : List (Fp × Place)). Gives l filled.places) (sym (shares_more records (bodies.Put user items)))
              (fills cloud user strings items sound new known each).gives;
          recipes = record_commits shape records false [] (bodies.Put user items) m left.placed;
        };
        shares = shares_end_next shape region records false [] (bodies.Put user items) m left.shares;
        recipes = recipes_end_next shape region records false [] (bodies.Put user items) m left.recipes;
        users_are =
            length-set filled.spent user.0 (both (spent_by filled.spent user) (spent_on filled items))
            ∙ ap length (spent_stays user m items) ∙ left.users_are;
        lie = lie_by (list ++ commands.Put user strings ∷ []) (with_put user items m) (put_of_list user strings (with_put user items m) (files_stay user m items));
      }

  none_from : (o : Option Entry) → option_map summary o ≡ None → o ≡ None
  none_from None e = refl
  none_from (Some x) e = absurd (let no : Some (summary x) ≡ None = e in cc)

  pub lacks_version : (user : UserId) (tag : Tag) (version : Version) → entry_at (user_view shape list user).files (tag, version) ≡ None
      → get m.files (files.key_of user.0 tag.0 version.0) ≡ None
  lacks_version user tag version lacked =
      none_from (get m.files (files.key_of user.0 tag.0 version.0)) (r.files user tag version ∙ ap (option_map summary_of) lacked)

  pub owns_all : (user : UserId) (named : List Fp) → All (Contains (user_view shape list user).own) named → AreOwned m.owners user named
  owns_all user named all = contained (λ (fp : Fp). IsSome (get m.owners (owner_of user.0 fp.0))) named (λ fp c.
      let here = contains_among (user_view shape list user).own fp (All-contains (Contains (user_view shape list user).own) named fp all c) in
      ap is_some (r.owners user fp ∙ ap (λ (b : Bool). cond b (Some (uses_of shape (user_view shape list user).files fp)) None) here))

  commit_left : (user : UserId) (tag : Tag) (version : Version) (recipe : List ℕ) (at : ℕ) → All (Contains (user_view shape list user).own) (names_of shape recipe)
      → entry_at (user_view shape list user).files (tag, version) ≡ None → files_of shape list user ≤ 16384 → user.0 < users
      → IsAt area (record { place = at; blob = recipe })
      → IsLeftWith (commands.Commit user tag version recipe) (bodies.Commit (commit_of user tag version recipe at)) (with_commit (names_of shape recipe) (commit_of user tag version recipe at) m)
  commit_left user tag version recipe at owned lacked few place lies =
      let c = commit_of user tag version recipe at in
      let known : user.0 < length m.spent = subst (λ (n : ℕ). user.0 < n) (sym left.users_are) place in
      record {
        remembers =
            commit_remembered shape list user tag version recipe at m r (lacks_version user tag version lacked) (owns_all user (names_of shape recipe) owned) few known;
        placed = commit_placed records (names_of shape recipe) c m left.placed;
        shares = shares_end_next shape region records false recipe (bodies.Commit c) m left.shares;
        recipes = recipes_end_next shape region records false recipe (bodies.Commit c) m left.recipes;
        users_are = length-set m.spent user.0 (both (spent_by m.spent user) (record { owners = 0; shares = 0; recipes = length recipe })) ∙ left.users_are;
        lie = lie_by (list ++ commands.Commit user tag version recipe ∷ []) (with_commit (names_of shape recipe) c m) (commit_of_list user tag version recipe at (names_of shape recipe) lacked lies);
      }

  abbrev DeleteLeft : UserId → Tag → Version → List Fp → Type 0
  DeleteLeft user tag version named =
      IsLeftWith (commands.Delete user tag version) (bodies.Delete (record { user = user; tag = tag; version = version }))
      (without_entry named user (files.key_of user.0 tag.0 version.0) m)

  delete_left : (cloud : ℕ) (user : UserId) (tag : Tag) (version : Version) (entry : FileEntry) → IsSound shape cloud list
      → entry_at (user_view shape list user).files (tag, version) ≡ Some entry → DeleteLeft user tag version (names_of shape entry.recipe)
  delete_left cloud user tag version entry sound there =
      let d : DeleteBody = record { user = user; tag = tag; version = version } in
      let named = names_of shape entry.recipe in
      record {
        remembers = delete_remembered shape cloud list user tag version entry m sound r there;
        placed = delete_placed records named d m left.placed;
        shares = shares_end_next shape region records false entry.recipe (bodies.Delete d) m left.shares;
        recipes = recipes_end_next shape region records false entry.recipe (bodies.Delete d) m left.recipes;
        users_are = left.users_are;
        lie = lie_by (list ++ commands.Delete user tag version ∷ []) (without_entry named user (files.key_of user.0 tag.0 version.0) m) (delete_of_list user tag version named);
      }

  -- the entry that the memory has of one of the list's, and what its place has
  pub record IsKnown (user : UserId) (tag : Tag) (version : Version) (entry : FileEntry) : Type 0 where
    pub e : Entry
    pub got : get m.files (files.key_of user.0 tag.0 version.0) ≡ Some e
    pub fp : e.fp ≡ fingerprint entry.recipe
    pub len : e.len ≡ length entry.recipe
    pub read : bytes_at area e.at e.len ≡ entry.recipe

  pub entry_known : (user : UserId) (tag : Tag) (version : Version) (entry : FileEntry) → entry_at (user_view shape list user).files (tag, version) ≡ Some entry
      → IsKnown user tag version entry
  entry_known user tag version entry there = by_found (get m.files (files.key_of user.0 tag.0 version.0)) refl
    where
      by_found : (o : Option Entry) → get m.files (files.key_of user.0 tag.0 version.0) ≡ o → IsKnown user tag version entry
      by_found None is = absurd (let no : None ≡ Some (summary_of entry) = sym (ap (option_map summary) is) ∙ r.files user tag version ∙ ap (option_map summary_of) there in cc)
      by_found (Some e) is =
          let same = some_is (summary e) (summary_of entry) (sym (ap (option_map summary) is) ∙ r.files user tag version ∙ ap (option_map summary_of) there) in
          record {
            e = e;
            got = is;
            fp = ap (λ (s : ℕ × Fp). s.1) same;
            len = ap (λ (s : ℕ × Fp). s.0) same;
            read = ap (λ (n : ℕ). take n (drop e.at area)) (ap (λ (s : ℕ × Fp). s.0) same) ∙ left.lie user tag version e entry is there;
          }

  pub next_left : (cloud : ℕ) (command : Command) (body : Body) (laid : List Placed) → IsRecord region records list command body laid
      → IsSound shape cloud (list ++ command ∷ []) → (user_of command).0 < users → ((q : UserId) → files_of shape list q ≤ 16384) → All (IsAt area) laid
      → IsLeft shape area users region (list ++ command ∷ []) (records ++ body ∷ []) (record_left shape area false m body)
  next_left cloud (commands.Put user strings) body laid is sound place few lie =
      let l = lawful shape cloud list (commands.Put user strings) sound in
      subst (λ (b : Body). IsLeftWith (commands.Put user strings) b (record_left shape area false m b)) (sym is.0.body_is)
      (put_left cloud user strings is.0.items l.0 (news_new user strings l.1.0 l.1.1) place is.0.each)
  next_left cloud (commands.Commit user tag version recipe) body laid is sound place few lie =
      let l = lawful shape cloud list (commands.Commit user tag version recipe) sound in
      let lies : IsAt area (record { place = is.at; blob = recipe }) =
      All-head (IsAt area) (record { place = is.at; blob = recipe }) [] (subst (All (IsAt area)) is.laid_is lie) in
      let c = commit_of user tag version recipe is.at in
      subst (λ (b : Body). IsLeftWith (commands.Commit user tag version recipe) b (record_left shape area false m b)) (sym is.body_is)
      (subst (λ (read : List ℕ). IsLeftWith (commands.Commit user tag version recipe) (bodies.Commit c) (with_commit (names_of shape read) c m)) (sym lies)
      (commit_left user tag version recipe is.at l.1.0 l.1.1 (few user) place lies))
  next_left cloud (commands.Delete user tag version) body laid is sound place few lie =
      let l = lawful shape cloud list (commands.Delete user tag version) sound in
      let k = entry_known user tag version l.1.0 l.1.1 in
      let read : entry_bytes area (get m.files (files.key_of user.0 tag.0 version.0)) ≡ l.1.0.recipe = ap (entry_bytes area) k.got ∙ k.read in
      subst (λ (b : Body). IsLeftWith (commands.Delete user tag version) b (record_left shape area false m b)) (sym is.0)
      (subst (λ (bytes : List ℕ). DeleteLeft user tag version (names_of shape bytes)) (sym read)
      (delete_left cloud user tag version l.1.0 l.0 l.1.1))
