-- Each record of a chain of format 1 is taken.
use Rattle.std.proofs.Common.{◌≡◌, ◌⊎◌, inl, inr, ℕ, ◌≤◌, max, lt-ltb, Bool, true, false, List, [], ◌∷◌, ◌++◌, length, refl, sym, ap, ◌∙◌, subst, arith, append-nil, append_assoc, length-append}
use Rattle.std.specs.Prelude.{All, Result, Ok, take, drop}
use Rattle.std.specs.List.{Contains}
use Rattle.std.proofs.lemmas.Grind.{flat_map-append}
use Rattle.std.proofs.lemmas.List.Elements.{All-contains, Contains-append_left, Contains-append_right}
use Rattle.journal_halves.specs.CdBase.ids.Fp.{Fp}
use Rattle.journal_halves.specs.CdBase.place.Place.{Place}
use Rattle.journal_halves.specs.CdBase.shape.Shape.{Shape}
use Rattle.journal_halves.specs.CdEdges.area.Area.TheVariants.{Shares, Recipes}
use Rattle.journal_halves.specs.CdEdges.Disk.{Image}
use Rattle.record_laws.specs.ContainerLog.Laying.{Placed, IsAt}
use Rattle.journal_halves.specs.JournalStart.start.Header.{Header}
use Rattle.journal_halves.specs.JournalStart.Spelling.{commands_of, records_of, recipes_end_of}
use Rattle.first_records.specs.RecordBody.body.BodyErr.{BodyErr}
use Rattle.first_records.specs.RecordBody.Spelling.{Body, body_bytes, FitsBody}
use Rattle.first_records.proofs.RecordBody.BodyLaws.{again}
use Rattle.compact_memories.specs.UserDedup.command.Command.{Command}
use Rattle.compact_memories.specs.UserDedup.Cloud.{held_bytes}
use Rattle.compact_memories.specs.UserDedup.Dedup.{IsSound}
use Rattle.compact_memories.proofs.UserDedup.Filtered.{in_flat}
use Rattle.compact_memories.proofs.UserDedup.Owned.{contains_here}
use Rattle.compact_memories.proofs.UserDedup.Sound.{last_same, sound_before, contained}
use Rattle.compact_memories.specs.CloudAreas.Chains.{IsRecord, AreRecordsOfList, Summed, Then, AreLong, laid_shares}
use Rattle.compact_memories.specs.CloudAreas.Checkpoints.{IsCheckpointOfList}
use Rattle.compact_memories.specs.CloudAreas.FormatOne.{Lays}
use Rattle.compact_memories.specs.CloudAreas.Placing.{shares_placed, shares_in, recipes_placed, recipes_in, greatest_end, shares_end}
use Rattle.compact_memories.specs.CloudAreas.Standing.{Chain}
use Rattle.compact_memories.proofs.CloudAreas.Lists.{in_map, from_map}
use Rattle.compact_memories.proofs.CloudAreas.Placed.{placed_is_sent}
use Rattle.compact_memories.specs.CloudMemory.Memory.{Memory}
use Rattle.record_laws.specs.RecordChecks.ground.Ground.{Ground}
use Rattle.record_laws.specs.RecordChecks.Checks.{NamesRecipePlace, AsksFor, ByCommit, ByDelete}
use Rattle.record_laws.specs.Fronts.{is_inside}
use Rattle.record_laws.specs.Leaving.{entry_bytes, recipe_for}
use Rattle.record_laws.proofs.Chain.{checkpoint_within, long_before}
use Rattle.record_laws.proofs.Front.{from_end}
use Rattle.record_laws.proofs.Places.{shares_end_all, further_max}
use Rattle.record_laws.proofs.Sized.{string_some, inside_area, HasRoomIn, HaveRoomFor}
use Rattle.record_laws.proofs.Taken.{not_less}
use Rattle.first_records.specs.Judging.{Leaves, Fits, JudgesFirst, Taken}
use Rattle.first_laws.specs.Holding.{MayHoldOne, front_left_one}
use Rattle.first_laws.specs.Lawful.{ground_one, IsNextOne}
use Rattle.first_laws.specs.Leaving.{begun_behind, first_left, IsLeftOne}
use Rattle.first_laws.proofs.BehindTaken.{behind_taken}
use Rattle.first_laws.proofs.Chained.{HasFewFiles, one_more, all_left_one, says_one, are_long, few_files}
use Rattle.first_laws.proofs.CheckpointTaken.{checkpoint_taken}
use Rattle.first_laws.proofs.Crowding.{ends_fit}
use Rattle.first_laws.proofs.Later.{later_left}
use Rattle.first_laws.proofs.Lying.{share_to, recipe_to, start_to, shares_to, recipes_to}
use Rattle.first_laws.proofs.Passing.{IsTaken}
use Rattle.first_laws.proofs.Summed.{all_recipes}

-- ---- where it stands

module _ (shape : Shape) (cloud count commands : ℕ) (area : List ℕ) (all : List Command) where
  -- the record is one of the checkpoint's
  record IsInside (before : List Body) (body : Body) : Type 0 where
    pub list : List Command
    pub rest : List Command
    pub front : all ≡ list ++ rest
    pub records : List Body
    pub recipes : List Placed
    pub after : List Body
    pub is : IsCheckpointOfList 1 shape list records recipes
    pub whole : records ≡ before ++ body ∷ after
    pub len : length records ≡ count
    pub sound : IsSound shape cloud list
    pub lie : All (IsAt area) recipes

  -- it is the record of a command
  record IsBehind (before : List Body) (body : Body) : Type 0 where
    pub list : List Command
    pub command : Command
    pub rest : List Command
    pub front : all ≡ (list ++ command ∷ []) ++ rest
    pub laid : List Placed
    pub more : List Placed
    pub says : AreRecordsOfList 1 shape 0 count commands before list laid
    pub is : IsRecord 0 before list command body more
    pub sound : IsSound shape cloud (list ++ command ∷ [])
    pub long : AreLong (list ++ command ∷ []) (shares_in (before ++ body ∷ []))
    pub lie : All (IsAt area) (laid ++ more)

  stands_in : (records : List Body) (list : List Command) (recipes : List Placed) → AreRecordsOfList 1 shape 0 count commands records list recipes → (rest : List Command) → all ≡ list ++ rest
      → IsSound shape cloud list → AreLong list (shares_in records) → All (IsAt area) recipes → (before : List Body) (body : Body) (after : List Body) → records ≡ before ++ body ∷ after
      → IsInside before body ⊎ IsBehind before body
  stands_in _ _ _ (Summed records list recipes is len number) rest front sound long lie before body after whole =
      inl (record { list = list; rest = rest; front = front; records = records; recipes = recipes; after = after; is = is; whole = whole; len = len; sound = sound; lie = lie })
  stands_in _ _ _ (Then b old laid last command more says is) rest front sound long lie before body after whole = elim (from_end after) [
    | inl none ↦
        let same = last_same b before last body (whole ∙ ap (λ l. before ++ body ∷ l) none) in
        inr (subst (λ (x : List Body × Body). IsBehind x.0 x.1) (λ i. (same.0 i, same.1 i))
        (record { list = old; command = command; rest = rest; front = front; laid = laid; more = more; says = says; is = is; sound = sound; long = long; lie = lie }))
    | inr some ↦
        let split : b ++ last ∷ [] ≡ (before ++ body ∷ some.front) ++ some.last ∷ [] =
        whole ∙ ap (λ l. before ++ body ∷ l) some.is ∙ sym (append_assoc before (body ∷ some.front) (some.last ∷ [])) in
        let same = last_same b (before ++ body ∷ some.front) last some.last split in
        stands_in b old laid says (command ∷ rest) (front ∙ append_assoc old (command ∷ []) rest) (sound_before shape cloud old command sound).sound
        (long_before 1 shape 0 count commands b old laid command last says long)
        (contained (IsAt area) laid (λ x c. All-contains (IsAt area) (laid ++ more) x lie (Contains-append_left laid more x c))) before body some.front same.0
  ]

-- what its checks ask for is its recipe
asked : (area : List ℕ) (g : Ground) (inside : Bool) (m : Memory) (body : Body) (place : Place) → NamesRecipePlace g inside m body place
    → take place.len (drop place.at area) ≡ recipe_for area m body
asked area g inside m _ _ (ByCommit c lies none) = refl
asked area g inside m _ _ (ByDelete d e got few) = sym (ap (entry_bytes area) got)

some_ok : (a b : Body) → ◌≡◌ {A = Result Body BodyErr} (Ok a) (Ok b) → a ≡ b
some_ok a b e = cc

-- ---- a record that is next

module _ (header : Header) (image : Image) (users : ℕ) (list : List Command) (c : Chain) (before : List Body) (body : Body) (next : IsNextOne header image list c before body) where
  abbrev may : MayHoldOne header list
  may = next.may

  abbrev lays : Lays header image list c
  lays = next.lays

  abbrev shape : Shape
  shape = header.shape

  abbrev area : List ℕ
  area = image Recipes

  abbrev count : ℕ
  count = records_of c.start.checkpoint

  abbrev commands : ℕ
  commands = commands_of c.start.checkpoint

  abbrev end : ℕ
  end = recipes_end_of c.start.checkpoint

  abbrev g : Ground
  g = ground_one header image

  abbrev m : Memory
  m = front_left_one header image users c before

  abbrev front : List Body
  front = before ++ body ∷ []

  split : c.records ≡ front ++ next.after
  split = next.whole ∙ sym (append_assoc before (body ∷ []) next.after)

  here : Contains c.records body
  here = subst (λ l. Contains l body) (sym next.whole) (Contains-append_right before (body ∷ next.after) body (contains_here body next.after))

  -- ---- room for what it places

  share_room : (x : Fp × Place) → Contains (shares_in c.records) x → HasRoomIn 0 (length (image Shares)) x.1
  share_room x there =
      let to = share_to header image list c may lays x.0 x.1 there in
      let blob : Placed = record { place = x.1.at; blob = held_bytes list x.0 } in
      let lies = All-contains (IsAt (image Shares)) (laid_shares list (shares_in c.records)) blob lays.shares
      (in_map (λ (y : Fp × Place). record { place = y.1.at; blob = held_bytes list y.0 }) (shares_in c.records) x there) in
      let long = All-contains (λ (y : Fp × Place). y.1.len ≡ length (held_bytes list y.0)) (shares_in c.records) x (are_long header image list c may lays) there in
      let sent = placed_is_sent 1 shape 0 count commands c.records list c.recipes (says_one header image list c may lays) x there in
      let last = inside_area (image Shares) blob lies (string_some shape header.cloud.0 list x.0 may.sound sent) in
      record { starts = omega arith; in_one = to.0; within = omega (arith, last, long) }

  room : HaveRoomFor 0 (length (image Shares)) body
  room = record {
    shares = λ p there.
        let x = from_map (λ (y : Fp × Place). y.1) (shares_placed body) p there in
        subst (HasRoomIn 0 (length (image Shares))) x.2 (share_room x.0 (in_flat shares_placed c.records body x.0 here x.1));
    recipes = λ p there. (omega arith, (recipe_to header image list c may lays p (in_flat recipes_placed c.records body p here there)).0);
  }

  -- ---- where the areas end then

  abbrev new : Memory
  new = front_left_one header image users c front

  shares_few : new.shares_end ≤ 8589934592
  shares_few =
      let is : new.shares_end ≡ shares_end 0 front = shares_end_all shape area true 0 [] front (begun_behind users end) refl in
      let to = shares_to header image list c may lays front (λ x there.
      subst (λ (l : List (Fp × Place)). Contains l x) (sym (ap shares_in split ∙ flat_map-append shares_placed front next.after)) (Contains-append_left (shares_in front) (shares_in next.after) x there)) in
      let most = may.within.shares in
      omega (arith, is, to, most)

  recipes_few : new.recipes_end ≤ 1073741824
  recipes_few =
      let is : new.recipes_end ≡ max end (greatest_end 0 (recipes_in front)) = all_recipes shape area front (begun_behind users end) ∙ further_max end (recipes_in front) in
      let to : greatest_end 0 (recipes_in front) ≤ _ = recipes_to header image list c may lays front (λ p there.
      subst (λ (l : List Place). Contains l p) (sym (ap recipes_in split ∙ flat_map-append recipes_placed front next.after)) (Contains-append_left (recipes_in front) (recipes_in next.after) p there)) in
      let start = start_to header image list c may lays in
      let most = may.within.recipes in
      omega (arith, is, to, start, most)

  -- ---- its checks

  abbrev Inside : Type 0
  Inside = IsInside shape header.cloud.0 count commands area list before body

  abbrev Behind : Type 0
  Behind = IsBehind shape header.cloud.0 count commands area list before body

  stands : Inside ⊎ Behind
  stands =
      stands_in shape header.cloud.0 count commands area list c.records list c.recipes (says_one header image list c may lays) [] (sym (append-nil list)) may.sound (are_long header image list c may lays)
      lays.recipes before body next.after next.whole

  inside_is : Inside → is_inside c before ≡ true
  inside_is i =
      let all = ap length i.whole in
      let parts = length-append before (body ∷ i.after) in
      let len = i.len in
      lt-ltb (length before) count (omega (arith, all, parts, len))

  behind_from : (b : Behind) → count ≤ length before
  behind_from b = checkpoint_within 1 shape 0 count commands before b.list b.laid b.says

  taken_inside : Inside → IsTaken g true area m body
  taken_inside i =
      checkpoint_taken shape header.cloud.0 users end header.rooms (length (image Shares)) area list i.list i.rest may.within i.front i.records i.recipes i.is i.sound i.lie before body i.after i.whole room

  taken_behind : Behind → IsTaken g false area m body
  taken_behind b =
      let rest : List Command = b.command ∷ b.rest in
      let few : HasFewFiles shape b.list = λ x y same.
      few_files header image list c may lays x (y ++ rest)
      (b.front ∙ append_assoc b.list (b.command ∷ []) b.rest ∙ ap (λ (l : List Command). l ++ rest) same ∙ append_assoc x y rest) in
      let one : IsLeftOne shape area end b.list before m =
      all_left_one shape header.cloud.0 users end count commands area before b.list b.laid b.says (sound_before shape header.cloud.0 b.list b.command b.sound).sound few
      (long_before 1 shape 0 count commands before b.list b.laid b.command body b.says b.long)
      (contained (IsAt area) b.laid (λ x d. All-contains (IsAt area) (b.laid ++ b.more) x b.lie (Contains-append_left b.laid b.more x d))) in
      let more = contained (IsAt area) b.more (λ x d. All-contains (IsAt area) (b.laid ++ b.more) x b.lie (Contains-append_right b.laid b.more x d)) in
      behind_taken shape header.cloud.0 end header.rooms (length (image Shares)) area list b.list b.rest may.within before m one b.command body b.more b.is b.front b.sound more
      (λ commit is. next.lays.behind before commit next.after (next.whole ∙ ap (λ (y : Body). before ++ y ∷ next.after) is) (behind_from b)) room
      (later_left shape header.cloud.0 end area b.list before m b.command body b.more b.sound (few b.list [] (sym (append-nil b.list))) one b.is more)

  taken : IsTaken g (is_inside c before) area m body
  taken = elim stands [
    | inl i ↦ subst (λ (x : Bool). IsTaken g x area m body) (sym (inside_is i)) (taken_inside i)
    | inr b ↦ subst (λ (x : Bool). IsTaken g x area m body) (sym (not_less (length before) count (behind_from b))) (taken_behind b)
  ]

  -- ---- by its bytes, wherever it stands in the journal

  bytes_taken : (at : ℕ) → FitsBody body → JudgesFirst g (is_inside c before) (recipe_for area m body) m at (body_bytes body) (Ok new)
  bytes_taken at fits =
      let next_is : new ≡ first_left shape area m body = one_more shape area (begun_behind users end) before body in
      let over = ends_fit body new shares_few recipes_few in
      Taken body new taken.own (again body fits)
      (Fits new taken.few (subst (Leaves g (is_inside c before) (recipe_for area m body) m body) (sym next_is) taken.leaves) over)

  -- with what lies where its checks ask
  pub there_taken : (at : ℕ) → FitsBody body → (place : Place) → AsksFor g (is_inside c before) m (body_bytes body) place
      → JudgesFirst g (is_inside c before) (take place.len (drop place.at area)) m at (body_bytes body) (Ok new)
  there_taken at fits place asks =
      let same : asks.0 ≡ body = some_ok asks.0 body (sym asks.1 ∙ again body fits) in
      let read = asked area g (is_inside c before) m body place (subst (λ (b : Body). NamesRecipePlace g (is_inside c before) m b place) same asks.2) in
      subst (λ (bytes : List ℕ). JudgesFirst g (is_inside c before) bytes m at (body_bytes body) (Ok new)) (sym read) (bytes_taken at fits)

  -- or with nothing, where they ask for nothing
  pub none_taken : (at : ℕ) → FitsBody body → ((place : Place) → AsksFor g (is_inside c before) m (body_bytes body) place → ⊥)
      → JudgesFirst g (is_inside c before) [] m at (body_bytes body) (Ok new)
  none_taken at fits none =
      let read = taken.reads (λ place asks. none place (body, again body fits, asks)) in
      subst (λ (bytes : List ℕ). JudgesFirst g (is_inside c before) bytes m at (body_bytes body) (Ok new)) read (bytes_taken at fits)
