-- The recipe of each entry lies where a Commit of its key places it.
use Rattle.std.proofs.Common.{◌≡◌, ◌⊎◌, inl, inr, ℕ, Bool, true, false, cond, List, [], ◌∷◌, ◌++◌, length, map, Option, Some, None, refl, sym, ap, ◌∙◌, subst}
use Rattle.std.specs.Prelude.{is_some}
use Rattle.std.specs.List.{Contains}
use Rattle.std.specs.Option.{option_or}
use Rattle.std.proofs.lemmas.Bool.{cases_eq}
use Rattle.std.proofs.lemmas.List.Folds.{find-append}
use Rattle.std.proofs.lemmas.List.Elements.{All-contains, Contains-append_left, Contains-append_right}
use Rattle.user_dedup.specs.CdBase.ids.Fp.{Fp}
use Rattle.user_dedup.specs.CdBase.ids.Tag.{Tag}
use Rattle.user_dedup.specs.CdBase.ids.UserId.{UserId}
use Rattle.user_dedup.specs.CdBase.ids.Version.{Version}
use Rattle.user_dedup.specs.CdBase.shape.Shape.{Shape}
use Rattle.journal_halves.specs.CdEdges.area.Area.TheVariants.{Shares, Recipes}
use Rattle.journal_halves.specs.CdEdges.Disk.{Image}
use Rattle.container_log.specs.Laying.{Placed, IsAt}
use Rattle.journal_halves.specs.JournalStart.start.Header.{Header}
use Rattle.journal_halves.specs.JournalStart.Spelling.{commands_of, records_of}
use Rattle.record_body.specs.declared.body.CommitBody.{CommitBody}
use Rattle.record_body.specs.Spelling as bodies
use Rattle.record_body.specs.Spelling.{Body}
use Rattle.user_dedup.specs.CdBase.place.Place.{Place}
use Rattle.user_dedup.specs.declared.file_list.FileEntry.{FileEntry}
use Rattle.user_dedup.specs.declared.view.View.{View}
use Rattle.user_dedup.specs.Pages as pages
use Rattle.user_dedup.specs.Pages.{is_at, entry_at}
use Rattle.user_dedup.proofs.Owned.{contains_here, contains_later, contains_nothing, contains_cases}
use Rattle.user_dedup.proofs.Sound.{found_entry}
use Rattle.user_dedup.specs.declared.command.Command.{Command}
use Rattle.user_dedup.specs.declared.command.Command.TheVariants as commands
use Rattle.user_dedup.specs.Cloud.{user_of, user_view, view_after, without_key, held_bytes}
use Rattle.user_dedup.proofs.Deleting.{its_key, entries_left, entry_stays}
use Rattle.user_dedup.proofs.Views.{own_adds, others_stay}
use Rattle.cloud_areas.specs.Placing.{shares_in}
use Rattle.cloud_areas.specs.Checkpoints.{put_body, key_of, HasEntry, IsEntry, AreEntries, IsCheckpointOfList}
use Rattle.cloud_areas.specs.Chains.{commit_of, IsRecord, AreRecordsOfList, Summed, Then, laid_shares}
use Rattle.cloud_areas.specs.Standing.{Chain, region_in, Holds, HeldShareLies, EntryLies}
use Rattle.cloud_areas.proofs.Lists.{in_map, from_map}
use Rattle.cloud_areas.proofs.Ends.{some_is}

-- a Commit of the key is among the records, and its recipe among those that they place
record IsPlaced (records : List Body) (recipes : List Placed) (user : UserId) (key : Tag × Version) (e : FileEntry) : Type 0 where
  pub at : ℕ
  pub named : Contains records (bodies.Commit (commit_of user key.0 key.1 e.recipe at))
  pub placed : Contains recipes (record { place = at; blob = e.recipe })

still_placed : (records : List Body) (recipes : List Placed) (body : Body) (more : List Placed) (user : UserId) (key : Tag × Version) (e : FileEntry)
    → IsPlaced records recipes user key e → IsPlaced (records ++ body ∷ []) (recipes ++ more) user key e
still_placed records recipes body more user key e p = record {
  at = p.at;
  named = Contains-append_left records (body ∷ []) (bodies.Commit (commit_of user key.0 key.1 e.recipe p.at)) p.named;
  placed = Contains-append_left recipes more (record { place = p.at; blob = e.recipe }) p.placed;
}

-- ---- a checkpoint

pub entry_of : (shape : Shape) (list : List Command) (commits : List CommitBody) (recipes : List Placed) (c : CommitBody) → AreEntries shape list commits recipes → Contains commits c
    → (b : Placed) × Contains recipes b × IsEntry shape list c b
entry_of shape list [] recipes c are here = absurd (contains_nothing c here)
entry_of shape list (d ∷ commits) [] c are here = absurd are
entry_of shape list (d ∷ commits) (b ∷ recipes) c are here = elim (contains_cases d commits c here) [
  | inl same ↦ (b, contains_here b recipes, subst (λ (x : CommitBody). IsEntry shape list x b) same are.0)
  | inr later ↦ (let r = entry_of shape list commits recipes c are.1 later in (r.0, contains_later b recipes r.0 r.1, r.2))
]

module _ (format : ℕ) (shape : Shape) (list : List Command) (records : List Body) (recipes : List Placed) (is : IsCheckpointOfList format shape list records recipes) where
  pub in_records : (c : CommitBody) → Contains is.commits c → Contains records (bodies.Commit c)
  in_records c here =
      let puts = map put_body is.puts in
      let kept = map bodies.Kept is.kept in
      let commits = map bodies.Commit is.commits in
      let spents = map bodies.Spent is.spents in
      subst (λ (l : List Body). Contains l (bodies.Commit c)) (sym is.whole)
      (Contains-append_right puts (kept ++ (commits ++ spents)) (bodies.Commit c)
      (Contains-append_right kept (commits ++ spents) (bodies.Commit c)
      (Contains-append_left commits spents (bodies.Commit c) (in_map bodies.Commit is.commits c here))))

  checkpoint_placed : (user : UserId) (key : Tag × Version) (e : FileEntry) → entry_at (user_view shape list user).files key ≡ Some e → IsPlaced records recipes user key e
  checkpoint_placed user key e found =
      let has : HasEntry shape list (user, key.0, key.1) = ap (λ (o : Option FileEntry). is_some o) found in
      let c = from_map key_of is.commits (user, key.0, key.1) ((is.entries.each (user, key.0, key.1)).1 has) in
      let b = entry_of shape list is.commits recipes c.0 is.laid c.1 in
      by_entry c.0 c.1 c.2 b.0 b.1 b.2
    where
      by_entry : (c : CommitBody) → Contains is.commits c → ◌≡◌ {A = UserId × Tag × Version} (key_of c) (user, key.0, key.1)
          → (b : Placed) → Contains recipes b → IsEntry shape list c b → IsPlaced records recipes user key e
      by_entry c here k b there entry =
          let at_key : entry_at (user_view shape list c.user).files (c.tag, c.version) ≡ Some e =
          subst (λ (x : UserId × Tag × Version). entry_at (user_view shape list x.0).files (x.1, x.2) ≡ Some e) (sym k) found in
          let same : entry.entry ≡ e = some_is entry.entry e (sym entry.here ∙ at_key) in
          let recipe : entry.entry.recipe ≡ e.recipe = ap (λ (x : FileEntry). x.recipe) same in
          let len : c.len ≡ length e.recipe = entry.len ∙ ap (λ (r : List ℕ). length r) recipe in
          let fp : c.fp ≡ (commit_of user key.0 key.1 e.recipe c.at).fp = entry.fp ∙ ap (λ (r : List ℕ). (commit_of user key.0 key.1 r c.at).fp) recipe in
          let body : c ≡ commit_of user key.0 key.1 e.recipe c.at =
          λ i. record { user = (k i).0; tag = (k i).1; version = (k i).2; at = c.at; len = len i; fp = fp i } in
          let placed : b ≡ record { place = c.at; blob = e.recipe } = λ i. record { place = entry.place i; blob = (entry.bytes ∙ recipe) i } in
          record {
            at = c.at;
            named = subst (λ (x : CommitBody). Contains records (bodies.Commit x)) body (in_records c here);
            placed = subst (Contains recipes) placed there;
          }

-- ---- one record more

abbrev blob_at : ℕ → List ℕ → Placed
blob_at at bytes = record { place = at; blob = bytes }

-- an entry that a view has with one more at its end was there, or is that one
found_push : (files : List FileEntry) (new : FileEntry) (key : Tag × Version) (e : FileEntry) → entry_at (files ++ new ∷ []) key ≡ Some e
    → (entry_at files key ≡ Some e) ⊎ ((pages.key_of new ≡ key) × (new ≡ e))
found_push files new key e found = by_old (entry_at files key) refl (sym (find-append (is_at key) files (new ∷ [])) ∙ found)
  where
    by_new : (b : Bool) → is_at key new ≡ b → cond b (Some new) None ≡ Some e → (pages.key_of new ≡ key) × (new ≡ e)
    by_new true at got = (its_key new key at, some_is new e got)
    by_new false at got = absurd (let no : None ≡ Some e = got in cc)

    by_old : (o : Option FileEntry) → entry_at files key ≡ o → option_or o (entry_at (new ∷ []) key) ≡ Some e
        → (entry_at files key ≡ Some e) ⊎ ((pages.key_of new ≡ key) × (new ≡ e))
    by_old (Some x) at got = inl (at ∙ got)
    by_old None at got = inr (by_new (is_at key new) refl got)

module _ (shape : Shape) (region : ℕ) (before : List Body) (old : List Command) (laid : List Placed) (body : Body) (more : List Placed)
    (user : UserId) (key : Tag × Version) (e : FileEntry) (rest : entry_at (user_view shape old user).files key ≡ Some e → IsPlaced before laid user key e) where
  stays : entry_at (user_view shape old user).files key ≡ Some e → IsPlaced (before ++ body ∷ []) (laid ++ more) user key e
  stays found = still_placed before laid body more user key e (rest found)

  -- what the user's own command leaves
  own_placed : (command : Command) → IsRecord region before old command body more → user_of command ≡ user
      → entry_at (view_after shape (user_view shape old user) command).files key ≡ Some e → IsPlaced (before ++ body ∷ []) (laid ++ more) user key e
  own_placed (commands.Put u shares) is own found = stays found
  own_placed (commands.Commit u tag version recipe) is own found =
      elim (found_push (user_view shape old user).files (record { tag = tag; version = version; recipe = recipe }) key e found) [
        | inl had ↦ stays had
        | inr new ↦ this new.0 new.1
      ]
    where
      this : ◌≡◌ {A = Tag × Version} (tag, version) key → ◌≡◌ {A = FileEntry} (record { tag = tag; version = version; recipe = recipe }) e
          → IsPlaced (before ++ body ∷ []) (laid ++ more) user key e
      this at same =
          let bytes : recipe ≡ e.recipe = ap (λ (x : FileEntry). x.recipe) same in
          let named : body ≡ bodies.Commit (commit_of user key.0 key.1 e.recipe is.at) =
          is.body_is ∙ (λ i. bodies.Commit (commit_of (own i) (at i).0 (at i).1 (bytes i) is.at)) in
          record {
            at = is.at;
            named = Contains-append_right before (body ∷ []) (bodies.Commit (commit_of user key.0 key.1 e.recipe is.at))
                (subst (Contains (body ∷ [])) named (contains_here body []));
            placed = Contains-append_right laid more (blob_at is.at e.recipe)
                (subst (λ (l : List Placed). Contains l (blob_at is.at e.recipe)) (sym is.laid_is)
                (subst (λ (r : List ℕ). Contains (blob_at is.at recipe ∷ []) (blob_at is.at r)) bytes (contains_here (blob_at is.at recipe) [])));
          }
  own_placed (commands.Delete u tag version) is own found =
      let v = user_view shape old user in
      let f = found_entry (without_key (tag, version) v.files) key e found in
      let left = entries_left (tag, version) v.files e f.1 in
      stays (sym (entry_stays shape (tag, version) key v (λ same. left.1 (f.0 ∙ same))) ∙ found)

  entry_more : (command : Command) → IsRecord region before old command body more
      → entry_at (user_view shape (old ++ command ∷ []) user).files key ≡ Some e → IsPlaced (before ++ body ∷ []) (laid ++ more) user key e
  entry_more command is found = elim (cases_eq (user_of command).0 user.0) [
    | inl same ↦ own_placed command is (λ i. record { 0 = same i }) (sym (ap (λ (v : View). entry_at v.files key) (own_adds shape old command user same)) ∙ found)
    | inr other ↦ stays (sym (ap (λ (v : View). entry_at v.files key) (others_stay shape old command user other)) ∙ found)
  ]

-- ---- a chain

entry_placed : (format : ℕ) (shape : Shape) (region records commands : ℕ) (bodies : List Body) (list : List Command) (recipes : List Placed)
    → AreRecordsOfList format shape region records commands bodies list recipes → (user : UserId) (key : Tag × Version) (e : FileEntry)
    → entry_at (user_view shape list user).files key ≡ Some e → IsPlaced bodies recipes user key e
entry_placed format shape region records commands _ _ _ (Summed bodies list recipes is count number) user key e found =
    checkpoint_placed format shape list bodies recipes is user key e found
entry_placed format shape region records commands _ _ _ (Then before old laid body command more says is) user key e found =
    entry_more shape region before old laid body more user key e (λ had. entry_placed format shape region records commands before old laid says user key e had) command is found

module _ (header : Header) (image : Image) (list : List Command) (c : Chain) (h : Holds header image list c) where
  pub entry_lies : (user : UserId) (key : Tag × Version) (e : FileEntry) → entry_at (user_view header.shape list user).files key ≡ Some e → EntryLies image c user key e
  entry_lies user key e found =
      let p = entry_placed header.format header.shape (region_in c) (records_of c.start.checkpoint) (commands_of c.start.checkpoint) c.records list c.recipes h.says user key e found in
      record { at = p.at; named = p.named; lies = All-contains (IsAt (image Recipes)) c.recipes (record { place = p.at; blob = e.recipe }) h.recipes p.placed }

  pub share_lies : (fp : Fp) (place : Place) → Contains (shares_in c.records) (fp, place) → HeldShareLies image list fp place
  share_lies fp place here = record {
    len = All-contains (λ (y : Fp × Place). y.1.len ≡ length (held_bytes list y.0)) (shares_in c.records) (fp, place) h.long here;
    lies = All-contains (IsAt (image Shares)) (laid_shares list (shares_in c.records)) (record { place = place.at; blob = held_bytes list fp }) h.shares
        (in_map (λ (x : Fp × Place). record { place = x.1.at; blob = held_bytes list x.0 }) (shares_in c.records) (fp, place) here);
  }
