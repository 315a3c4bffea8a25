-- Behind a checkpoint of a list within its rooms a half has room for one more record.
use Rattle.std.proofs.Common.{◌≡◌, ℕ, ◌+◌, ◌*◌, ◌<◌, ◌≤◌, Bool, true, false, cond, List, [], ◌∷◌, ◌++◌, length, map, Option, None, Some, refl, sym, ap, ◌∙◌, subst, arith, length-append}
use Rattle.std.specs.Prelude.{All, filter, is_some, fold, nat_lt, ◌==◌, ◌||◌, not, if◌then◌else◌}
use Rattle.std.specs.List.{flat_map, Contains, sum_by, count_by}
use Rattle.std.specs.Int.{w32, to_be_bytes}
use Rattle.std.proofs.lemmas.Bool.{eqb-true}
use Rattle.std.proofs.lemmas.Bool.Decides.{nat_tests}
use Rattle.std.proofs.lemmas.List.{map-append}
use Rattle.std.proofs.lemmas.List.Elements.{All-head, All-tail, All-same, All-contains, Contains-append_left, Contains-append_right}
use Rattle.std.proofs.lemmas.List.Sums.{sum_by-cons, sum_by-append}
use native.Mathlib.Nat.{mul-add, mul_left_comm, mul_comm}
use Rattle.user_dedup.specs.CdBase.ids.Fp.{Fp}
use Rattle.user_dedup.specs.CdBase.ids.Tag.{Tag}
use Rattle.user_dedup.specs.CdBase.ids.UserId.{UserId}
use Rattle.user_dedup.specs.CdBase.ids.Version.{Version}
use Rattle.user_dedup.specs.CdBase.shape.Shape.{Shape}
use Rattle.journal_halves.specs.Records.{sized, chain}
use Rattle.container_log.specs.Laying.{Placed}
use Rattle.journal_halves.specs.Halves.{half_limit}
use Rattle.journal_halves.specs.Journals.{used_by, with_body}
use Rattle.journal_halves.specs.JournalStart.rooms.UserRooms.{UserRooms}
use Rattle.journal_halves.specs.JournalStart.start.Checkpoint.{Checkpoint}
use Rattle.journal_halves.specs.JournalStart.start.Header.{Header}
use Rattle.journal_halves.specs.JournalStart.start.Start.{Start}
use Rattle.journal_halves.specs.JournalStart.Ranges.{AreRooms}
use Rattle.journal_halves.specs.JournalStart.Spelling.{header_bytes, behind_header, start_bytes}
use Rattle.record_body.specs.declared.body.PutItem.{PutItem}
use Rattle.record_body.specs.declared.body.CommitBody.{CommitBody}
use Rattle.record_body.proofs.FirstSpelled.{length-put, length-commit, has_place}
use Rattle.record_body.specs.declared.body.KeptItem.{KeptItem}
use Rattle.record_body.specs.declared.body.SpentBody.{SpentBody}
use Rattle.record_body.specs.Spelling as bodies
use Rattle.record_body.specs.Spelling.{Body, body_bytes, FitsBody}
use Rattle.record_body.proofs.Spelled.{length-kept, longest}
use Rattle.user_dedup.specs.CdBase.place.Place.{Place}
use Rattle.user_dedup.specs.declared.file_list.FileEntry.{FileEntry}
use Rattle.user_dedup.specs.declared.view.View.{View}
use Rattle.user_dedup.specs.Cloud.{fingerprint, no_view}
use Rattle.user_dedup.specs.Owning.{is_among}
use Rattle.user_dedup.specs.Pages as pages
use Rattle.user_dedup.specs.Pages.{entry_at}
use Rattle.user_dedup.proofs.Owned.{contains_here, contains_later}
use Rattle.user_dedup.proofs.Sound.{found_entry, contained}
use Rattle.user_dedup.specs.declared.command.Command.{Command}
use Rattle.user_dedup.specs.declared.command.Command.TheVariants as commands
use Rattle.user_dedup.specs.Cloud.{user_of, commands_of, user_view, view_after, strings_of, strings_in, recipes_of, named_by, named_in, without_key}
use Rattle.user_dedup.specs.Spending.{SpentByUser, nothing, held_len, spent_of, spent_by_all, limits_of, files_of, UsesWithin, IsWithin}
use Rattle.user_dedup.proofs.Filtered.{from_filter}
use Rattle.user_dedup.proofs.Spending.{each_within}
use Rattle.cloud_areas.specs.Chains.{BothHaveRoom}
use Rattle.cloud_areas.specs.Placing.{region_start, shares_end, recipes_end, places_given, shares_in, fps_placed}
use Rattle.cloud_areas.specs.Checkpoints.{PutRecord, put_body, of_user, fps_of, items_in, key_of, HasEntry, ListSpent, SpentIs, IsCheckpointOfList}
use Rattle.cloud_areas.specs.Standing.{Chain, where_of}
use Rattle.cloud_areas.proofs.Lists.{in_map, from_map}
use Rattle.cloud_areas.proofs.Apart.{Apart, apart_from}
use Rattle.cloud_areas.proofs.Counting.{fewer, grouped}
use Rattle.cloud_areas.proofs.Placed.{fps_sent, checkpoint_is_sent}
use Rattle.cloud_areas.proofs.Once.{all_kept, checkpoint_once, checkpoint_places}

-- ---- how long records are

abbrev record_len : Body → ℕ
record_len body = length (body_bytes body) + 5

abbrev len_of : PutRecord → ℕ
len_of p = length p.items

abbrev placed_by : PutRecord → ℕ
placed_by p = count_by has_place p.items

abbrev kept_in : List (List KeptItem) → ℕ
kept_in kept = sum_by (λ (items : List KeptItem). length items) kept

all_left : {X : Type 0} (P : X → Type 0) (xs ys : List X) → All P (xs ++ ys) → All P xs
all_left P xs ys all = contained P xs (λ x c. All-contains P (xs ++ ys) x all (Contains-append_left xs ys x c))

all_right : {X : Type 0} (P : X → Type 0) (xs ys : List X) → All P (xs ++ ys) → All P ys
all_right P xs ys all = contained P ys (λ x c. All-contains P (xs ++ ys) x all (Contains-append_right xs ys x c))

puts_len : (puts : List PutRecord) → All FitsBody (map put_body puts) → sum_by record_len (map put_body puts) ≤ 45 * sum_by len_of puts + 12 * sum_by placed_by puts
puts_len [] fit = omega arith
puts_len (p ∷ ps) fit =
    let fits = All-head FitsBody (put_body p) (map put_body ps) fit in
    omega (
      arith,
      sum_by-cons record_len (put_body p) (map put_body ps),
      length-put p.user p.items fits.1.1,
      puts_len ps (All-tail FitsBody (put_body p) (map put_body ps) fit),
      fits.1.0.0,
      sum_by-cons len_of p ps,
      sum_by-cons placed_by p ps,
    )

kept_len : (kept : List (List KeptItem)) → All FitsBody (map bodies.Kept kept) → sum_by record_len (map bodies.Kept kept) ≤ 52 * kept_in kept
kept_len [] fit = omega arith
kept_len (k ∷ ks) fit =
    let fits = All-head FitsBody (bodies.Kept k) (map bodies.Kept ks) fit in
    omega (
      arith,
      sum_by-cons record_len (bodies.Kept k) (map bodies.Kept ks),
      length-kept k fits.1,
      kept_len ks (All-tail FitsBody (bodies.Kept k) (map bodies.Kept ks) fit),
      fits.0.0,
      sum_by-cons (λ (items : List KeptItem). length items) k ks,
    )

commits_len : (commits : List CommitBody) → All FitsBody (map bodies.Commit commits) → sum_by record_len (map bodies.Commit commits) ≡ 94 * length commits
commits_len [] fit = refl
commits_len (c ∷ cs) fit =
    omega (
      arith,
      sum_by-cons record_len (bodies.Commit c) (map bodies.Commit cs),
      length-commit c (All-head FitsBody (bodies.Commit c) (map bodies.Commit cs) fit),
      commits_len cs (All-tail FitsBody (bodies.Commit c) (map bodies.Commit cs) fit),
    )

spents_len : (spents : List SpentBody) → sum_by record_len (map bodies.Spent spents) ≡ 30 * length spents
spents_len [] = refl
spents_len (s ∷ ss) = omega (arith, sum_by-cons record_len (bodies.Spent s) (map bodies.Spent ss), spents_len ss)

-- ---- numbers of users

abbrev spent_is_of : ℕ → SpentBody → Bool
spent_is_of u s = s.user.0 == u

abbrev spent_users : List SpentBody → List UserId
spent_users spents = map (λ (s : SpentBody). s.user) spents

no_other : (u : ℕ) (s : SpentBody) (ss : List SpentBody) → s.user.0 ≡ u → (Contains (spent_users ss) s.user → ⊥) → filter (spent_is_of u) ss ≡ []
no_other u s [] is other = refl
no_other u s (t ∷ ss) is other = by_test (t.user.0 == u) refl (no_other u s ss is (λ c. other (contains_later t.user (spent_users ss) s.user c)))
  where
    by_test : (b : Bool) → (t.user.0 == u) ≡ b → filter (spent_is_of u) ss ≡ [] → cond b (t ∷ filter (spent_is_of u) ss) (filter (spent_is_of u) ss) ≡ []
    by_test true e rest =
        let same : t.user.0 ≡ s.user.0 = eqb-true t.user.0 u e ∙ sym is in
        absurd (other (subst (Contains (t.user ∷ spent_users ss)) (λ i. record { 0 = same i }) (contains_here t.user (spent_users ss))))
    by_test false e rest = rest

alone : (u : ℕ) (ss : List SpentBody) → Apart (spent_users ss) → length (filter (spent_is_of u) ss) ≤ 1
alone u [] apart = omega arith
alone u (s ∷ ss) apart = by_test (s.user.0 == u) refl (alone u ss apart.1)
  where
    by_test : (b : Bool) → (s.user.0 == u) ≡ b → length (filter (spent_is_of u) ss) ≤ 1 → length (cond b (s ∷ filter (spent_is_of u) ss) (filter (spent_is_of u) ss)) ≤ 1
    by_test true e rest = omega (arith, ap length (no_other u s ss (eqb-true s.user.0 u e) apart.0))
    by_test false e rest = rest

none_of : (u : ℕ) (ss : List SpentBody) → ((s : SpentBody) → Contains ss s → s.user.0 ≡ u → ⊥) → filter (spent_is_of u) ss ≡ []
none_of u [] some = refl
none_of u (s ∷ ss) some = by_test (s.user.0 == u) refl (none_of u ss (λ t c. some t (contains_later s ss t c)))
  where
    by_test : (b : Bool) → (s.user.0 == u) ≡ b → filter (spent_is_of u) ss ≡ [] → cond b (s ∷ filter (spent_is_of u) ss) (filter (spent_is_of u) ss) ≡ []
    by_test true e rest = absurd (some s (contains_here s ss) (eqb-true s.user.0 u e))
    by_test false e rest = rest

-- ---- other lengths

abbrev kept_at : KeptItem → Fp × Place
kept_at item = (item.fp, item.place)

mapped : {X Y : Type 0} (f : X → Y) (xs : List X) → length (map f xs) ≡ length xs
mapped f [] = refl
mapped f (x ∷ xs) = omega (arith, mapped f xs)

ones : {X : Type 0} (xs : List X) → sum_by (λ (x : X). 1) xs ≡ length xs
ones [] = refl
ones {X} (x ∷ xs) = omega (arith, sum_by-cons (λ (y : X). 1) x xs, ones xs)

filter_len : (p : Fp → Bool) (fps : List Fp) → length (filter p fps) ≤ length fps
filter_len p [] = omega arith
filter_len p (fp ∷ fps) = by_test (p fp) (filter_len p fps)
  where
    by_test : (b : Bool) → length (filter p fps) ≤ length fps → length (cond b (fp ∷ filter p fps) (filter p fps)) ≤ length (fp ∷ fps)
    by_test true le = omega (arith, le)
    by_test false le = omega (arith, le)

-- ---- how many there are of each

module _ (shape : Shape) (rooms : UserRooms) (list : List Command) (within : IsWithin shape rooms list) where
  pub uses : (u : ℕ) → UsesWithin shape rooms list (record { 0 = u })
  uses u = each_within shape rooms list (record { 0 = u }) within

  limits_below : (u : ℕ) → u < rooms.users → nat_lt u rooms.users ≡ true
  limits_below u lt = grind (arith, nat_tests)

  limits_above : (u : ℕ) → rooms.users ≤ u → nat_lt u rooms.users ≡ false
  limits_above u ge = grind (arith, nat_tests)

  pub spent_below : (u : ℕ) → u < rooms.users → (spent_of list (record { 0 = u })).owners ≤ rooms.owners
  spent_below u lt =
      subst (λ (b : Bool). (spent_of list (record { 0 = u })).owners ≤ (if b then record { owners = rooms.owners; shares = rooms.shares; recipes = rooms.recipes } else nothing).owners)
      (limits_below u lt) (uses u).owners

  pub spent_above : (u : ℕ) → rooms.users ≤ u → spent_of list (record { 0 = u }) ≡ nothing
  spent_above u ge =
      let l : limits_of rooms (record { 0 = u }) ≡ nothing =
      ap (λ (b : Bool). if b then record { owners = rooms.owners; shares = rooms.shares; recipes = rooms.recipes } else nothing) (limits_above u ge) in
      let k = uses u in
      let owners : (spent_of list (record { 0 = u })).owners ≡ 0 = omega (arith, k.owners, ap (λ (s : SpentByUser). s.owners) l) in
      let shares : (spent_of list (record { 0 = u })).shares ≡ 0 = omega (arith, k.shares, ap (λ (s : SpentByUser). s.shares) l) in
      let recipes : (spent_of list (record { 0 = u })).recipes ≡ 0 = omega (arith, k.recipes, ap (λ (s : SpentByUser). s.recipes) l) in
      λ i. record { owners = owners i; shares = shares i; recipes = recipes i }

  pub files_below : (u : ℕ) → u < rooms.users → files_of shape list (record { 0 = u }) ≤ rooms.files
  files_below u lt = subst (λ (b : Bool). files_of shape list (record { 0 = u }) ≤ (if b then rooms.files else 0)) (limits_below u lt) (uses u).files

  pub files_above : (u : ℕ) → rooms.users ≤ u → files_of shape list (record { 0 = u }) ≡ 0
  files_above u ge =
      let few : files_of shape list (record { 0 = u }) ≤ 0 =
      subst (λ (b : Bool). files_of shape list (record { 0 = u }) ≤ (if b then rooms.files else 0)) (limits_above u ge) (uses u).files in
      omega (arith, few)

  -- strings
  abbrev strings_len : Command → ℕ
  strings_len command = length (strings_of command)

  strings_sum : (some : List Command) → length (strings_in some) ≡ sum_by strings_len some
  strings_sum [] = refl
  strings_sum (c ∷ some) = omega (arith, sum_by-cons strings_len c some, strings_sum some, length-append (strings_of c) (strings_in some))

  pub strings_few : length (strings_in list) ≤ rooms.users * rooms.owners
  strings_few =
      let all = grouped strings_len (λ (c : Command). (user_of c).0) rooms.users rooms.owners list
      (λ u lt. omega (arith, spent_below u lt, strings_sum (commands_of (record { 0 = u }) list)))
      (λ u ge. omega (arith, ap (λ (s : SpentByUser). s.owners) (spent_above u ge), strings_sum (commands_of (record { 0 = u }) list))) in
      omega (arith, all, strings_sum list)

  -- what a user owns was sent by the user
  own_few : (v : View) (some : List Command) → length (fold (view_after shape) v some).own ≤ length v.own + length (strings_in some)
  own_few v [] = omega arith
  own_few v (commands.Put user shares ∷ some) =
      omega (
        arith,
        own_few (view_after shape v (commands.Put user shares)) some,
        length-append v.own (map fingerprint shares),
        length-append shares (strings_in some),
        mapped fingerprint shares,
      )
  own_few v (commands.Commit user tag version recipe ∷ some) = own_few (view_after shape v (commands.Commit user tag version recipe)) some
  own_few v (commands.Delete user tag version ∷ some) =
      omega (
        arith,
        own_few (view_after shape v (commands.Delete user tag version)) some,
        filter_len (λ (fp : Fp). not (is_among (named_by shape (entry_at v.files (tag, version))) fp) || is_among (named_in shape (without_key (tag, version) v.files)) fp) v.own,
      )

  module _ (format : ℕ) (records : List Body) (recipes : List Placed) (is : IsCheckpointOfList format shape list records recipes) where
    -- what is listed
    items_sum : (puts : List PutRecord) → length (fps_of (items_in puts)) ≡ sum_by len_of puts
    items_sum [] = refl
    items_sum (p ∷ puts) =
        omega (
          arith,
          sum_by-cons len_of p puts,
          items_sum puts,
          ap length (map-append (λ (i : PutItem). i.fp) p.items (items_in puts)),
          length-append (fps_of p.items) (fps_of (items_in puts)),
          mapped (λ (i : PutItem). i.fp) p.items,
        )

    listed_for : (u : ℕ) → sum_by len_of (of_user (record { 0 = u }) is.puts) ≤ (spent_of list (record { 0 = u })).owners
    listed_for u =
        let user : UserId = record { 0 = u } in
        let own = is.owners.own user in
        omega (
          arith,
          items_sum (of_user user is.puts),
          fewer (fps_of (items_in (of_user user is.puts))) (user_view shape list user).own (apart_from (fps_of (items_in (of_user user is.puts))) own.once) (λ fp c. (own.each fp).0 c),
          own_few no_view (commands_of user list),
        )

    listed_few : sum_by len_of is.puts ≤ rooms.users * rooms.owners
    listed_few =
        grouped len_of (λ (p : PutRecord). p.user.0) rooms.users rooms.owners is.puts
        (λ u lt. omega (arith, listed_for u, spent_below u lt))
        (λ u ge. omega (arith, listed_for u, ap (λ (s : SpentByUser). s.owners) (spent_above u ge)))

    -- what is placed
    given_len : (items : List PutItem) → length (places_given items) ≡ count_by has_place items
    given_len [] = refl
    given_len (item ∷ items) = by_place item.place (given_len items)
      where
        by_place : (o : Option Place) → length (places_given items) ≡ count_by has_place items
            → length (places_given (record { fp = item.fp; place = o } ∷ items)) ≡ count_by has_place (record { fp = item.fp; place = o } ∷ items)
        by_place None same = omega (arith, same, sum_by-cons (λ (i : PutItem). cond (has_place i) 1 0) (record { fp = item.fp; place = None }) items)
        by_place (Some place) same = omega (arith, same, sum_by-cons (λ (i : PutItem). cond (has_place i) 1 0) (record { fp = item.fp; place = Some place }) items)

    placed_sum : (puts : List PutRecord) → count_by has_place (items_in puts) ≡ sum_by placed_by puts
    placed_sum [] = refl
    placed_sum (p ∷ puts) =
        omega (arith, sum_by-cons placed_by p puts, placed_sum puts, sum_by-append (λ (i : PutItem). cond (has_place i) 1 0) p.items (items_in puts))

    kept_sum : (kept : List (List KeptItem)) → length (all_kept kept) ≡ kept_in kept
    kept_sum [] = refl
    kept_sum (k ∷ kept) = omega (arith, sum_by-cons (λ (items : List KeptItem). length items) k kept, kept_sum kept, length-append k (all_kept kept))

    placed_few : sum_by placed_by is.puts + kept_in is.kept ≤ rooms.users * rooms.owners
    placed_few =
        let all = fewer (fps_placed (shares_in records)) (fps_sent list) (checkpoint_once format shape list records recipes is)
        (λ fp c.
        let x = from_map (λ (y : Fp × Place). y.0) (shares_in records) fp c in
        subst (Contains (fps_sent list)) x.2 (checkpoint_is_sent format shape list records recipes is x.0 x.1)) in
        omega (
          arith,
          all,
          strings_few,
          mapped fingerprint (strings_in list),
          mapped (λ (y : Fp × Place). y.0) (shares_in records),
          ap length (checkpoint_places format shape list records recipes is),
          length-append (places_given (items_in is.puts)) (map kept_at (all_kept is.kept)),
          given_len (items_in is.puts),
          placed_sum is.puts,
          mapped kept_at (all_kept is.kept),
          kept_sum is.kept,
        )

    -- entries
    abbrev tag_and_version : CommitBody → Tag × Version
    tag_and_version c = (c.tag, c.version)

    abbrev of_number : ℕ → CommitBody → Bool
    of_number u c = c.user.0 == u

    -- the keys of one user's records are apart without the user
    keys_apart : (u : ℕ) (commits : List CommitBody) → Apart (map key_of commits) → Apart (map tag_and_version (filter (of_number u) commits))
    keys_apart u [] apart = tt
    keys_apart u (c ∷ cs) apart = by_test (c.user.0 == u) refl (keys_apart u cs apart.1)
      where
        by_test : (b : Bool) → (c.user.0 == u) ≡ b → Apart (map tag_and_version (filter (of_number u) cs))
            → Apart (map tag_and_version (cond b (c ∷ filter (of_number u) cs) (filter (of_number u) cs)))
        by_test false is more = more
        by_test true is more = (
          λ found.
              let d = from_map tag_and_version (filter (of_number u) cs) (c.tag, c.version) found in
              let here = from_filter (of_number u) cs d.0 d.1 in
              let same : d.0.user.0 ≡ c.user.0 = eqb-true d.0.user.0 u here.1 ∙ sym (eqb-true c.user.0 u is) in
              let key : key_of d.0 ≡ key_of c = λ i. (record { 0 = same i }, (d.2 i).0, (d.2 i).1) in
              apart.0 (subst (Contains (map key_of cs)) key (in_map key_of cs d.0 here.0)),
          more,
        )

    entries_for : (u : ℕ) → length (filter (of_number u) is.commits) ≤ files_of shape list (record { 0 = u })
    entries_for u =
        let user : UserId = record { 0 = u } in
        let mine = filter (of_number u) is.commits in
        let files = (user_view shape list user).files in
        let few = fewer (map tag_and_version mine) (map pages.key_of files) (keys_apart u is.commits (apart_from (map key_of is.commits) is.entries.once))
        (λ key c.
        let d = from_map tag_and_version mine key c in
        let here = from_filter (of_number u) is.commits d.0 d.1 in
        let same : d.0.user ≡ user = (let e = eqb-true d.0.user.0 u here.1 in λ i. record { 0 = e i }) in
        let has : HasEntry shape list (user, d.0.tag, d.0.version) =
        subst (λ (w : UserId). HasEntry shape list (w, d.0.tag, d.0.version)) same ((is.entries.each (key_of d.0)).0 (in_map key_of is.commits d.0 here.0)) in
        subst (Contains (map pages.key_of files)) d.2 (key_there files (d.0.tag, d.0.version) (entry_at files (d.0.tag, d.0.version)) refl has)) in
        omega (arith, few, mapped tag_and_version mine, mapped pages.key_of files)
      where
        key_there : (files : List FileEntry) (key : Tag × Version) (o : Option FileEntry) → entry_at files key ≡ o → is_some o ≡ true → Contains (map pages.key_of files) key
        key_there files key None at has = absurd (let no : false ≡ true = has in cc)
        key_there files key (Some entry) at has =
            let f = found_entry files key entry at in
            subst (Contains (map pages.key_of files)) f.0 (in_map pages.key_of files entry f.1)

    entries_few : length is.commits ≤ rooms.users * rooms.files
    entries_few =
        let all = grouped (λ (c : CommitBody). 1) (λ (c : CommitBody). c.user.0) rooms.users rooms.files is.commits
        (λ u lt. omega (arith, entries_for u, files_below u lt, ones (filter (of_number u) is.commits)))
        (λ u ge. omega (arith, entries_for u, files_above u ge, ones (filter (of_number u) is.commits))) in
        omega (arith, all, ones is.commits)

    -- numbers
    spents_few_in : (spents : List SpentBody) → ListSpent list spents → length spents ≤ rooms.users
    spents_few_in spents lists =
        let all = grouped (λ (s : SpentBody). 1) (λ (s : SpentBody). s.user.0) rooms.users 1 spents
        (λ u lt. omega (arith, alone u spents (apart_from (spent_users spents) lists.users.once), ones (filter (spent_is_of u) spents)))
        (λ u ge. ap (sum_by (λ (s : SpentBody). 1)) (none_of u spents (λ s c is.
        (lists.users.each s.user).0 (in_map (λ (t : SpentBody). t.user) spents s c)
        (subst (λ (w : UserId). spent_of list w ≡ nothing) (λ i. record { 0 = sym is i }) (spent_above u ge))))) in
        omega (arith, all, ones spents)

    spents_few : (first : Bool) → SpentIs first list is.spents → length is.spents ≤ rooms.users
    spents_few true none = omega (arith, ap length none)
    spents_few false lists = spents_few_in is.spents lists

    -- ---- all of them

    spread : half_limit rooms ≡ 11595 + (97 * (rooms.users * rooms.owners) + 94 * (rooms.users * rooms.files) + 30 * rooms.users)
    spread =
        let a = mul-add rooms.users (97 * rooms.owners + 94 * rooms.files) 30 in
        let b = mul-add rooms.users (97 * rooms.owners) (94 * rooms.files) in
        omega (arith, a, b, mul_left_comm rooms.users 97 rooms.owners, mul_left_comm rooms.users 94 rooms.files, mul_comm rooms.users 30)

    pub records_fit : All FitsBody records → 63 + sum_by record_len records + 11532 ≤ half_limit rooms
    records_fit fit =
        let puts = map put_body is.puts in
        let kept = map bodies.Kept is.kept in
        let commits = map bodies.Commit is.commits in
        let spents = map bodies.Spent is.spents in
        let whole = All-same FitsBody (puts ++ (kept ++ (commits ++ spents))) records (sym is.whole) fit in
        let behind = all_right FitsBody puts (kept ++ (commits ++ spents)) whole in
        omega (
          arith,
          ap (sum_by record_len) is.whole,
          sum_by-append record_len puts (kept ++ (commits ++ spents)),
          sum_by-append record_len kept (commits ++ spents),
          sum_by-append record_len commits spents,
          puts_len is.puts (all_left FitsBody puts (kept ++ (commits ++ spents)) whole),
          kept_len is.kept (all_left FitsBody kept (commits ++ spents) behind),
          commits_len is.commits (all_left FitsBody commits spents (all_right FitsBody kept (commits ++ spents) behind)),
          spents_len is.spents,
          spread,
          listed_few,
          placed_few,
          entries_few,
          spents_few _ is.spent,
        )

-- ---- how far logs reach

module _ (shape : Shape) (rooms : UserRooms) (list : List Command) (within : IsWithin shape rooms list) where
  pub shares_by : Command → ℕ
  shares_by command = sum_by (held_len list) (strings_of command)

  pub shares_sum : (some : List Command) → sum_by (held_len list) (strings_in some) ≡ sum_by shares_by some
  unfolding shares_by
  shares_sum [] = refl
  shares_sum (c ∷ some) =
      omega (arith, sum_by-cons (λ (d : Command). sum_by (held_len list) (strings_of d)) c some, shares_sum some, sum_by-append (held_len list) (strings_of c) (strings_in some))

  recipe_len : List ℕ → ℕ
  recipe_len recipe = length recipe

  pub recipes_by : Command → ℕ
  recipes_by command = sum_by recipe_len (recipes_of command)

  recipes_sum : (some : List Command) → sum_by recipe_len (flat_map recipes_of some) ≡ sum_by recipes_by some
  unfolding recipes_by
  recipes_sum [] = refl
  recipes_sum (c ∷ some) =
      omega (arith, sum_by-cons (λ (d : Command). sum_by recipe_len (recipes_of d)) c some, recipes_sum some, sum_by-append recipe_len (recipes_of c) (flat_map recipes_of some))

  pub recipes_total : (some : List Command) → sum_by (λ (recipe : List ℕ). length recipe) (flat_map recipes_of some) ≡ sum_by recipes_by some
  unfolding recipe_len
  recipes_total some = recipes_sum some

  pub shares_below : (u : ℕ) → u < rooms.users → (spent_of list (record { 0 = u })).shares ≤ rooms.shares
  shares_below u lt =
      subst (λ (b : Bool). (spent_of list (record { 0 = u })).shares ≤ (if b then record { owners = rooms.owners; shares = rooms.shares; recipes = rooms.recipes } else nothing).shares)
      (limits_below shape rooms list within u lt) (uses shape rooms list within u).shares

  pub recipes_below : (u : ℕ) → u < rooms.users → (spent_of list (record { 0 = u })).recipes ≤ rooms.recipes
  recipes_below u lt =
      subst (λ (b : Bool). (spent_of list (record { 0 = u })).recipes ≤ (if b then record { owners = rooms.owners; shares = rooms.shares; recipes = rooms.recipes } else nothing).recipes)
      (limits_below shape rooms list within u lt) (uses shape rooms list within u).recipes

  -- all users together have spent what each may, at most
  pub shares_few : (spent_by_all list).shares ≤ rooms.users * rooms.shares
  shares_few =
      let all = grouped shares_by (λ (c : Command). (user_of c).0) rooms.users rooms.shares list
      (λ u lt. omega (arith, shares_below u lt, shares_sum (commands_of (record { 0 = u }) list)))
      (λ u ge. omega (arith, ap (λ (s : SpentByUser). s.shares) (spent_above shape rooms list within u ge), shares_sum (commands_of (record { 0 = u }) list))) in
      omega (arith, all, shares_sum list)

  pub recipes_few : (spent_by_all list).recipes ≤ rooms.users * rooms.recipes
  unfolding recipe_len
  recipes_few =
      let all = grouped recipes_by (λ (c : Command). (user_of c).0) rooms.users rooms.recipes list
      (λ u lt. omega (arith, recipes_below u lt, recipes_sum (commands_of (record { 0 = u }) list)))
      (λ u ge. omega (arith, ap (λ (s : SpentByUser). s.recipes) (spent_above shape rooms list within u ge), recipes_sum (commands_of (record { 0 = u }) list))) in
      omega (arith, all, recipes_sum list)

-- So both areas end far below the region's end, wherever a list within its rooms has brought them.
pub shares_far : (shape : Shape) (rooms : UserRooms) (region : ℕ) (list : List Command) (records : List Body) → IsWithin shape rooms list → AreRooms rooms → BothHaveRoom region list records
    → shares_end region records ≤ region_start region + 25769803776
shares_far shape rooms region list records within are room = omega (arith, room.shares.bound, shares_few shape rooms list within, are.shares)

pub recipes_far : (shape : Shape) (rooms : UserRooms) (region : ℕ) (list : List Command) (records : List Body) → IsWithin shape rooms list → AreRooms rooms → BothHaveRoom region list records
    → recipes_end region records ≤ region_start region + 3221225472
recipes_far shape rooms region list records within are room = omega (arith, room.recipes.bound, recipes_few shape rooms list within, are.recipes)

-- ---- a chain

pub chain_len : (bs : List (List ℕ)) → length (chain bs) ≡ sum_by (λ (b : List ℕ). length b + 5) bs
chain_len [] = omega arith
chain_len (body ∷ bs) =
    omega (arith, chain_len bs, sum_by-cons (λ (b : List ℕ). length b + 5) body bs, length-append (sized body) (chain bs), length-append (to_be_bytes w32 (length body)) body)

mapped_sum : (records : List Body) → sum_by (λ (b : List ℕ). length b + 5) (map body_bytes records) ≡ sum_by record_len records
mapped_sum [] = refl
mapped_sum (body ∷ records) =
    omega (arith, mapped_sum records, sum_by-cons (λ (b : List ℕ). length b + 5) (body_bytes body) (map body_bytes records), sum_by-cons record_len body records)

-- a start has at most 57 bytes
start_len : (s : Start) → length (start_bytes s) ≤ 57
start_len s = by_format (s.header.format == 1) refl s.checkpoint
  where
    by_format : (b : Bool) → (s.header.format == 1) ≡ b → (o : Option Checkpoint) → length (header_bytes s.header ++ behind_header s.header.format o) ≤ 57
    by_format true is None = rw is (omega arith)
    by_format false is None = rw is (omega arith)
    by_format true is (Some c) = rw is (omega arith)
    by_format false is (Some c) = rw is (omega arith)

-- Behind a checkpoint of a list within its rooms a half has room for one more record, whichever it is.
pub room_behind : (header : Header) (list : List Command) (c : Chain) (body : Body) → IsWithin header.shape header.rooms list
    → IsCheckpointOfList header.format header.shape list c.records c.recipes → All FitsBody c.records → FitsBody body
    → used_by (with_body (where_of c) (body_bytes body)) ≤ half_limit header.rooms
room_behind header list c body within is fit fits =
    let all : List (List ℕ) = start_bytes c.start ∷ (map body_bytes c.records ++ body_bytes body ∷ []) in
    omega (
      arith,
      chain_len all,
      sum_by-cons (λ (b : List ℕ). length b + 5) (start_bytes c.start) (map body_bytes c.records ++ body_bytes body ∷ []),
      sum_by-append (λ (b : List ℕ). length b + 5) (map body_bytes c.records) (body_bytes body ∷ []),
      sum_by-cons (λ (b : List ℕ). length b + 5) (body_bytes body) [],
      mapped_sum c.records,
      start_len c.start,
      longest body fits,
      records_fit header.shape header.rooms list within header.format c.records c.recipes is fit,
    )

-- the greatest half limit is far below a half
pub half_is_enough : (rooms : UserRooms) → AreRooms rooms → half_limit rooms ≤ 52415307
half_is_enough rooms are =
    let a = mul-add rooms.users (97 * rooms.owners + 94 * rooms.files) 30 in
    let b = mul-add rooms.users (97 * rooms.owners) (94 * rooms.files) in
    omega (arith, a, b, mul_left_comm rooms.users 97 rooms.owners, mul_left_comm rooms.users 94 rooms.files, mul_comm rooms.users 30, are.owners, are.files, are.few)
