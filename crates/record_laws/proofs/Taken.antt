-- Each record of a chain is taken.
use Rattle.std.proofs.Common.{◌≡◌, ◌⊎◌, inl, inr, ℕ, zero, suc, ◌≤◌, nat_lt, lt-ltb, Bool, true, false, List, [], ◌∷◌, ◌++◌, length, map, refl, sym, ap, ◌∙◌, subst, arith, length-append}
use Rattle.std.specs.Prelude.{IsFalse, Result, Ok, take, drop, replicate}
use Rattle.std.specs.List.{Contains}
use Rattle.std.proofs.lemmas.Bool.{cases_lt, ne_eqb, false_from_ne_true}
use Rattle.std.proofs.lemmas.List.Elements.{All-contains, Contains-append_left, Contains-append_right}
use Rattle.std.proofs.lemmas.List.Sums.{fold-append}
use Rattle.std.proofs.Common.{ltb-true}
use Rattle.cd_edges.specs.CdBase.ids.Fp.{Fp}
use Rattle.cd_edges.specs.declared.area.Area.TheVariants.{Shares, Recipes}
use Rattle.cd_edges.specs.Disk.{Image}
use Rattle.record_checks.specs.ContainerLog.Laying.{Placed, IsAt}
use Rattle.record_checks.specs.JournalStart.start.Header.{Header}
use Rattle.record_checks.specs.JournalStart.Spelling.{commands_of, records_of}
use Rattle.record_checks.specs.RecordBody.body.BodyErr.{BodyErr}
use Rattle.record_checks.specs.RecordBody.Spelling as bodies
use Rattle.record_checks.specs.RecordBody.Spelling.{Body, body_bytes, FitsBody}
use Rattle.record_checks.proofs.RecordBody.BodyLaws.{again}
use Rattle.cd_edges.specs.CdBase.place.Place.{Place}
use Rattle.record_checks.proofs.UserDedup.Owned.{contains_here}
use Rattle.record_checks.specs.UserDedup.command.Command.{Command}
use Rattle.record_checks.specs.UserDedup.command.Command.TheVariants as commands
use Rattle.record_checks.specs.UserDedup.Cloud.{held_bytes}
use Rattle.record_checks.proofs.UserDedup.Filtered.{in_flat}
use Rattle.record_checks.proofs.UserDedup.Sound.{sound_before, contained}
use Rattle.record_checks.proofs.UserDedup.Spending.{front_within}
use Rattle.record_checks.specs.CloudAreas.Chains.{IsRecord, laid_shares, LiesIn}
use Rattle.record_checks.specs.CloudAreas.Placing.{shares_placed, shares_in, recipes_placed, recipes_in, places_of}
use Rattle.record_checks.specs.CloudAreas.Standing.{Chain, region_in, Holds}
use Rattle.record_checks.proofs.CloudAreas.Lists.{in_map, from_map}
use Rattle.record_checks.proofs.CloudAreas.Placed.{placed_is_sent}
use Rattle.record_checks.specs.CloudMemory.Memory.{Memory}
use Rattle.record_checks.specs.CloudMemory.Steps.{begun}
use Rattle.record_checks.specs.Checks.{IsOfCheckpoint, NamesRecipePlace, AsksFor, ByCommit, ByDelete}
use Rattle.record_checks.specs.declared.ground.Ground.{Ground}
use Rattle.record_checks.specs.declared.taking.Taking.{Taking as Noted}
use Rattle.record_checks.specs.Noting.{noted, IsNoted}
use Rattle.record_checks.specs.Judging.{JudgesBody, Judges, Taken}
use Rattle.record_laws.specs.Leaving.{entry_bytes, recipe_for, record_left, left_by, checkpoint_records, front_left, MayHold, IsLeft}
use Rattle.record_laws.proofs.Chain.{all_left, chain_more, checkpoint_within, long_before}
use Rattle.record_laws.specs.Fronts.{ground_of, is_inside, marked, marks_of, IsNextRecord, StandsBehind}
use Rattle.record_laws.proofs.Behind.{ReadsNone, behind_taken}
use Rattle.record_laws.proofs.Front.{IsFine, IsInside, IsBehind, stands_in, inside_before, behind_before}
use Rattle.record_laws.proofs.Inside.{inside_taken}
use Rattle.record_laws.proofs.Sized.{string_some, inside_area, HasRoomIn, HaveRoomFor}
use Rattle.record_laws.proofs.Split.{map_split}

-- ---- fronts of a chain

take_none : {X : Type 0} (k : ℕ) → ◌≡◌ {A = List X} (take k []) []
take_none zero = refl
take_none (suc k) = refl

drop_none : {X : Type 0} (k : ℕ) → ◌≡◌ {A = List X} (drop k []) []
drop_none zero = refl
drop_none (suc k) = refl

take_all : {X : Type 0} (n : ℕ) (xs : List X) → length xs ≤ n → take n xs ≡ xs
take_all n [] le = take_none n
take_all zero (x ∷ xs) le = absurd (omega (arith, le))
take_all (suc n) (x ∷ xs) le = ap (λ l. x ∷ l) (take_all n xs (omega (arith, le)))

drop_all : {X : Type 0} (n : ℕ) (xs : List X) → length xs ≤ n → drop n xs ≡ []
drop_all n [] le = drop_none n
drop_all zero (x ∷ xs) le = absurd (omega (arith, le))
drop_all (suc n) (x ∷ xs) le = drop_all n xs (omega (arith, le))

pub not_less : (a b : ℕ) → b ≤ a → nat_lt a b ≡ false
not_less a b ge = false_from_ne_true (nat_lt a b) (λ t. let lt = ltb-true a b t in absurd (omega (arith, lt, ge)))

module _ (header : Header) (image : Image) (c : Chain) where
  abbrev m0 : Memory
  m0 = begun header.rooms.users (region_in c)

  abbrev count : ℕ
  count = checkpoint_records c

  -- a front of the checkpoint
  inside_front : (before : List Body) → length before ≤ count → front_left header image c before ≡ left_by header.shape (image Recipes) true m0 before
  inside_front before le =
      ap (left_by header.shape (image Recipes) false (left_by header.shape (image Recipes) true m0 (take count before))) (drop_all count before le)
      ∙ ap (left_by header.shape (image Recipes) true m0) (take_all count before le)

  pub front_begun : front_left header image c [] ≡ m0
  front_begun = inside_front [] (omega arith)

  -- one record more
  pub front_next : (before : List Body) (body : Body)
      → front_left header image c (before ++ body ∷ []) ≡ record_left header.shape (image Recipes) (is_inside c before) (front_left header image c before) body
  front_next before body = elim (cases_lt (length before) count) [
    | inl lt ↦
        let more : length (before ++ body ∷ []) ≤ count = omega (arith, lt, length-append before (body ∷ [])) in
        inside_front (before ++ body ∷ []) more
        ∙ fold-append (record_left header.shape (image Recipes) true) m0 before (body ∷ [])
        ∙ (λ i. record_left header.shape (image Recipes) (sym (lt-ltb (length before) count lt) i) (sym (inside_front before (omega (arith, lt))) i) body)
    | inr ge ↦
        chain_more header.shape (image Recipes) header.rooms.users (region_in c) count before body ge
        ∙ ap (λ (b : Bool). record_left header.shape (image Recipes) b (front_left header image c before) body) (sym (not_less (length before) count ge))
  ]

pub marks_next : (before : List Body) (body : Body) → marks_of (before ++ body ∷ []) ≡ marked (marks_of before) body
marks_next before body = fold-append marked (replicate 256 false) before (body ∷ [])

-- what is noted of it beside the memory
noted_marks : (at : ℕ) (bytes : List ℕ) (m : Memory) (t : Noted) (body : Body) → (noted at bytes m t body).spent ≡ marked t.spent body
noted_marks at bytes m t (bodies.Put user items) = refl
noted_marks at bytes m t (bodies.Commit commit) = refl
noted_marks at bytes m t (bodies.Delete delete) = refl
noted_marks at bytes m t (bodies.Kept items) = refl
noted_marks at bytes m t (bodies.Spent s) = refl

pub noted_next : (at : ℕ) (m : Memory) (old new : Noted) (before : List Body) (body : Body) → FitsBody body → old.spent ≡ marks_of before → IsNoted at (body_bytes body) m old new
    → new.spent ≡ marks_of (before ++ body ∷ [])
noted_next at m old new before body fits marks is =
    ap (λ (t : Noted). t.spent) (is body (again body fits)) ∙ noted_marks at (body_bytes body) m old body ∙ ap (λ l. marked l body) marks ∙ sym (marks_next before body)

-- what its checks ask for is its recipe
pub asked : (area : List ℕ) (g : Ground) (inside : Bool) (m : Memory) (body : Body) (place : Place) → NamesRecipePlace g inside m body place
    → take place.len (drop place.at area) ≡ recipe_for area m body
asked area g inside m _ _ (ByCommit c lies none) = refl
asked area g inside m _ _ (ByDelete d e got few) = sym (ap (entry_bytes area) got)

-- ---- a record that is next

-- no record of a command is one of a checkpoint alone
plain : (region : ℕ) (before : List Body) (list : List Command) (command : Command) (body : Body) (laid : List Placed) → IsRecord region before list command body laid
    → IsOfCheckpoint (body_bytes body) → ⊥
plain region before list (commands.Put user shares) body laid is of = by_kind (subst (λ (b : Body). IsOfCheckpoint (body_bytes b)) is.0.body_is of)
  where
    by_kind : (◌≡◌ {A = ℕ} 1 4) ⊎ (◌≡◌ {A = ℕ} 1 5) → ⊥
    by_kind (inl e) = omega (arith, e)
    by_kind (inr e) = omega (arith, e)
plain region before list (commands.Commit user tag version recipe) body laid is of = by_kind (subst (λ (b : Body). IsOfCheckpoint (body_bytes b)) is.body_is of)
  where
    by_kind : (◌≡◌ {A = ℕ} 2 4) ⊎ (◌≡◌ {A = ℕ} 2 5) → ⊥
    by_kind (inl e) = omega (arith, e)
    by_kind (inr e) = omega (arith, e)
plain region before list (commands.Delete user tag version) body laid is of = by_kind (subst (λ (b : Body). IsOfCheckpoint (body_bytes b)) is.0 of)
  where
    by_kind : (◌≡◌ {A = ℕ} 3 4) ⊎ (◌≡◌ {A = ℕ} 3 5) → ⊥
    by_kind (inl e) = omega (arith, e)
    by_kind (inr e) = omega (arith, e)

module _ (header : Header) (image : Image) (list : List Command) (c : Chain) (before : List Body) (body : Body) (next : IsNextRecord header image list c before body) where
  abbrev h : Holds header image list c
  h = next.holds

  abbrev may : MayHold header list
  may = next.may

  abbrev region : ℕ
  region = region_in c

  abbrev area : List ℕ
  area = image Recipes

  here : Contains c.records body
  here = subst (λ l. Contains l body) (sym next.whole) (Contains-append_right before (body ∷ next.after) body (contains_here body next.after))

  share_room : (x : Fp × Place) → Contains (shares_in c.records) x → HasRoomIn region (length (image Shares)) x.1
  share_room x there =
      let where_is = All-contains (LiesIn region) (places_of (shares_in c.records)) x.1 h.rooms.shares.each (in_map (λ (y : Fp × Place). y.1) (shares_in c.records) x there) in
      let blob : Placed = record { place = x.1.at; blob = held_bytes list x.0 } in
      let lies = All-contains (IsAt (image Shares)) (laid_shares list (shares_in c.records)) blob h.shares
      (in_map (λ (y : Fp × Place). record { place = y.1.at; blob = held_bytes list y.0 }) (shares_in c.records) x there) in
      let long = All-contains (λ (y : Fp × Place). y.1.len ≡ length (held_bytes list y.0)) (shares_in c.records) x h.long there in
      let sent = placed_is_sent header.format header.shape region (records_of c.start.checkpoint) (commands_of c.start.checkpoint) c.records list c.recipes h.says x there in
      let end = inside_area (image Shares) blob lies (string_some header.shape header.cloud.0 list x.0 may.sound sent) in
      record { starts = where_is.0; in_one = where_is.1; within = omega (arith, end, long) }

  room : HaveRoomFor region (length (image Shares)) body
  room = record {
    shares = λ p there.
        let x = from_map (λ (y : Fp × Place). y.1) (shares_placed body) p there in
        subst (HasRoomIn region (length (image Shares))) x.2 (share_room x.0 (in_flat shares_placed c.records body x.0 here x.1));
    recipes = λ p there. All-contains (LiesIn region) (recipes_in c.records) p h.rooms.recipes.each (in_flat recipes_placed c.records body p here there);
  }

  fine : IsFine header.shape header.cloud.0 header.rooms area list c.records c.recipes
  fine = record { sound = may.sound; within = may.within; long = h.long; lie = h.recipes }

  abbrev Inside : Type 0
  Inside = IsInside header.format header.shape header.cloud.0 header.rooms region (checkpoint_records c) (commands_of c.start.checkpoint) area before body

  abbrev Behind : Type 0
  Behind = IsBehind header.format header.shape header.cloud.0 header.rooms region (checkpoint_records c) (commands_of c.start.checkpoint) area before body

  pub stands : Inside ⊎ Behind
  stands =
      stands_in header.format header.shape header.cloud.0 header.rooms region (checkpoint_records c) (commands_of c.start.checkpoint) area c.records list c.recipes h.says fine
      before body next.after next.whole

  abbrev m : Memory
  m = front_left header image c before

  abbrev TakenBy : Bool → Memory → Type 0
  TakenBy inside old =
      JudgesBody (ground_of header image c) inside (recipe_for area old body) (marks_of before) old body (Ok (record_left header.shape area inside old body))
      × ReadsNone (ground_of header image c) area inside old body

  inside_is : Inside → is_inside c before ≡ true
  inside_is i =
      lt-ltb (length before) (checkpoint_records c)
      (inside_before header.format header.shape header.cloud.0 header.rooms region (checkpoint_records c) (commands_of c.start.checkpoint) area before body i)

  behind_is : Behind → is_inside c before ≡ false
  behind_is b =
      not_less (length before) (checkpoint_records c)
      (behind_before header.format header.shape header.cloud.0 header.rooms region (checkpoint_records c) (commands_of c.start.checkpoint) area before body b)

  inside_memory : Inside → m ≡ left_by header.shape area true (begun header.rooms.users region) before
  inside_memory i =
      let lt = inside_before header.format header.shape header.cloud.0 header.rooms region (checkpoint_records c) (commands_of c.start.checkpoint) area before body i in
      inside_front header image c before (omega (arith, lt))

  taken_inside : Inside → TakenBy true (left_by header.shape area true (begun header.rooms.users region) before)
  taken_inside i =
      inside_taken header.format header.shape header.cloud.0 header.rooms region (length (image Shares)) area (ne_eqb header.format 1 may.format) may.rooms
      i.list i.records i.recipes i.is i.fine before body i.after i.whole room

  behind_left : (b : Behind) → IsLeft header.shape area header.rooms.users region b.list before m
  behind_left b =
      all_left header.format header.shape header.cloud.0 header.rooms region (checkpoint_records c) (commands_of c.start.checkpoint) area (ne_eqb header.format 1 may.format) may.rooms
      before b.list b.laid b.says (sound_before header.shape header.cloud.0 b.list b.command b.fine.sound).sound
      (front_within header.shape header.rooms b.list (b.command ∷ []) b.fine.within)
      (long_before header.format header.shape region (checkpoint_records c) (commands_of c.start.checkpoint) before b.list b.laid b.command body b.says b.fine.long)
      (contained (IsAt area) b.laid (λ x d. All-contains (IsAt area) (b.laid ++ b.more) x b.fine.lie (Contains-append_left b.laid b.more x d)))

  taken_behind : Behind → TakenBy false m
  taken_behind b =
      behind_taken header.shape header.rooms region (length (image Shares)) area header.cloud.0 b.list before m may.rooms (behind_left b) b.command body b.more (marks_of before)
      b.is b.fine.sound b.fine.within (contained (IsAt area) b.more (λ x d. All-contains (IsAt area) (b.laid ++ b.more) x b.fine.lie (Contains-append_right b.laid b.more x d))) room

  pub taken : TakenBy (is_inside c before) m
  taken = elim stands [
    | inl i ↦ subst (λ (x : Bool × Memory). TakenBy x.0 x.1) (λ j. (sym (inside_is i) j, sym (inside_memory i) j)) (taken_inside i)
    | inr b ↦ subst (λ (x : Bool). TakenBy x m) (sym (behind_is b)) (taken_behind b)
  ]

  allowed : IsFalse (is_inside c before) × IsOfCheckpoint (body_bytes body) → ⊥
  allowed both = elim stands [
    | inl i ↦ let no : true ≡ false = sym (inside_is i) ∙ both.0 in cc
    | inr b ↦ plain region before b.list b.command body b.more b.is both.1
  ]

  abbrev g : Ground
  g = ground_of header image c

  -- by its bytes, wherever it stands in the journal
  bytes_taken : (at : ℕ) → FitsBody body
      → Judges g (is_inside c before) (recipe_for area m body) (marks_of before) m at (body_bytes body) (Ok (front_left header image c (before ++ body ∷ [])))
  bytes_taken at fits =
      subst (λ (new : Memory). Judges g (is_inside c before) (recipe_for area m body) (marks_of before) m at (body_bytes body) (Ok new))
      (sym (front_next header image c before body))
      (Taken body (record_left header.shape area (is_inside c before) m body) allowed (again body fits) taken.0)

  some_ok : (a b : Body) → ◌≡◌ {A = Result Body BodyErr} (Ok a) (Ok b) → a ≡ b
  some_ok a b e = cc

  -- with what lies where its checks ask
  pub there_taken : (at : ℕ) → FitsBody body → (place : Place) → AsksFor g (is_inside c before) m (body_bytes body) place
      → Judges g (is_inside c before) (take place.len (drop place.at area)) (marks_of before) m at (body_bytes body) (Ok (front_left header image c (before ++ body ∷ [])))
  there_taken at fits place asks =
      let same : asks.0 ≡ body = some_ok asks.0 body (sym asks.1 ∙ again body fits) in
      let read = asked area g (is_inside c before) m body place (subst (λ (b : Body). NamesRecipePlace g (is_inside c before) m b place) same asks.2) in
      subst (λ (bytes : List ℕ). Judges g (is_inside c before) bytes (marks_of before) m at (body_bytes body) (Ok (front_left header image c (before ++ body ∷ [])))) (sym read)
      (bytes_taken at fits)

  -- or with nothing, where they ask for nothing
  pub none_taken : (at : ℕ) → FitsBody body → ((place : Place) → AsksFor g (is_inside c before) m (body_bytes body) place → ⊥)
      → Judges g (is_inside c before) [] (marks_of before) m at (body_bytes body) (Ok (front_left header image c (before ++ body ∷ [])))
  none_taken at fits none =
      let read = taken.1 (λ place asks. none place (body, again body fits, asks)) in
      subst (λ (bytes : List ℕ). Judges g (is_inside c before) bytes (marks_of before) m at (body_bytes body) (Ok (front_left header image c (before ++ body ∷ [])))) read
      (bytes_taken at fits)

-- ---- a chain by its bytes

pub chain_whole : (header : Header) (image : Image) (list : List Command) (c : Chain) → Holds header image list c → checkpoint_records c ≤ length c.records
chain_whole header image list c h =
    checkpoint_within header.format header.shape (region_in c) (checkpoint_records c) (commands_of c.start.checkpoint) c.records list c.recipes h.says

pub by_bytes : (records : List Body) (bodies rest : List (List ℕ)) (bytes : List ℕ) → map body_bytes records ≡ bodies ++ bytes ∷ rest → StandsBehind records bodies bytes
by_bytes records bodies rest bytes e =
    let s = map_split body_bytes records bodies bytes rest e in
    record { before = s.front; body = s.x; after = s.back; whole = s.is; before_are = sym s.before_is; here = sym s.here }
