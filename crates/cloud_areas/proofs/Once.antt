-- Each string that is held has one place.
use Rattle.std.proofs.Common.{◌≡◌, ◌⊎◌, inl, inr, ℕ, Bool, true, false, List, [], ◌∷◌, ◌++◌, map, Option, None, Some, refl, sym, ap, ◌∙◌, subst, append-nil}
use Rattle.std.specs.Prelude.{◌↔◌, ◌==◌, IsSome, IsFalse}
use Rattle.std.specs.List.{Contains, flat_map}
use Rattle.std.proofs.lemmas.Bool.{cases_Bool, false≢true}
use Rattle.std.proofs.lemmas.List.{map-append}
use Rattle.std.proofs.lemmas.List.Elements.{Contains-append_left, Contains-append_right, Contains-append_cases}
use Rattle.std.proofs.lemmas.Grind.{flat_map-append}
use Rattle.user_dedup.specs.CdBase.ids.Fp.{Fp}
use Rattle.user_dedup.specs.CdBase.ids.UserId.{UserId}
use Rattle.user_dedup.specs.CdBase.shape.Shape.{Shape}
use Rattle.journal_halves.specs.CdEdges.Disk.{Image}
use Rattle.container_log.specs.Laying.{Placed}
use Rattle.journal_halves.specs.JournalStart.start.Header.{Header}
use Rattle.journal_halves.specs.JournalStart.Spelling.{commands_of, records_of}
use Rattle.record_body.specs.declared.body.PutItem.{PutItem}
use Rattle.record_body.specs.declared.body.CommitBody.{CommitBody}
use Rattle.record_body.specs.declared.body.KeptItem.{KeptItem}
use Rattle.record_body.specs.declared.body.SpentBody.{SpentBody}
use Rattle.record_body.specs.Spelling as bodies
use Rattle.record_body.specs.Spelling.{Body}
use Rattle.user_dedup.specs.CdBase.place.Place.{Place}
use Rattle.user_dedup.specs.Cloud.{fingerprint}
use Rattle.user_dedup.specs.Owning.{is_among}
use Rattle.user_dedup.proofs.Owned.{contains_here, contains_later, contains_nothing, contains_cases, among_contains, contains_among}
use Rattle.user_dedup.specs.declared.command.Command.{Command}
use Rattle.user_dedup.specs.declared.command.Command.TheVariants as commands
use Rattle.user_dedup.specs.Cloud.{user_view, strings_of}
use Rattle.user_dedup.proofs.Filtered.{from_filter, in_flat, from_flat}
use Rattle.cloud_areas.specs.Placing.{places_given, places_kept, shares_placed, shares_in, fps_placed, HasPlace}
use Rattle.cloud_areas.specs.Checkpoints.{AreDistinct, PutRecord, put_body, of_user, fps_of, items_in, AreFlagged, IsCheckpointOfList}
use Rattle.cloud_areas.specs.Standing.{Chain, region_in, Holds}
use Rattle.cloud_areas.specs.Chains.{PlacedNew, AreItems, IsRecord, AreRecordsOfList, Summed, Then}
use Rattle.cloud_areas.proofs.Lists.{in_map, from_map}
use Rattle.cloud_areas.proofs.Apart.{Apart, apart_from, are_apart, apart_append, one_by}
use Rattle.cloud_areas.proofs.Placed.{fps_sent, sent_more, shares_more, given_is_listed, put_is_owned, placed_is_sent}

fp_of : Fp × Place → Fp
fp_of x = x.0

-- ---- items with places where their fingerprints are new

-- each is placed once, and none of these came before
pub record ArePlacedOnce (before : List Fp) (shares : List (Fp × Place)) : Type 0 where
  pub once : Apart (fps_placed shares)
  pub new : (fp : Fp) → Contains (fps_placed shares) fp → Contains before fp → ⊥

pub flagged_once : (before : List Fp) (items : List PutItem) → AreFlagged before items → ArePlacedOnce before (places_given items)
flagged_once before [] flagged = record { once = tt; new = λ fp c d. contains_nothing fp c }
flagged_once before (item ∷ items) flagged = by_place item.place flagged.0 (flagged_once (before ++ item.fp ∷ []) items flagged.1)
  where
    here : Contains (before ++ item.fp ∷ []) item.fp
    here = Contains-append_right before (item.fp ∷ []) item.fp (contains_here item.fp [])

    by_place : (o : Option Place) → IsSome o ↔ IsFalse (is_among before item.fp) → ArePlacedOnce (before ++ item.fp ∷ []) (places_given items)
        → ArePlacedOnce before (places_given (record { fp = item.fp; place = o } ∷ items))
    by_place None flag rest = record { once = rest.once; new = λ fp c d. rest.new fp c (Contains-append_left before (item.fp ∷ []) fp d) }
    by_place (Some place) flag rest = record {
      once = (λ c. rest.new item.fp c here, rest.once);
      new = λ fp c d. elim (contains_cases item.fp (fps_placed (places_given items)) fp c) [
        | inl same ↦ false≢true (sym (flag.0 refl) ∙ contains_among before item.fp (subst (Contains before) (sym same) d))
        | inr later ↦ rest.new fp later (Contains-append_left before (item.fp ∷ []) fp d)
      ];
    }

-- what is listed came before or has a place
abbrev IsKnownOrPlaced : List Fp → List (Fp × Place) → Fp → Type 0
IsKnownOrPlaced before shares fp = Contains before fp ⊎ ((place : Place) × Contains shares (fp, place))

later_place : (x : Fp × Place) (shares : List (Fp × Place)) (before : List Fp) (fp : Fp) → IsKnownOrPlaced before shares fp → IsKnownOrPlaced before (x ∷ shares) fp
later_place x shares before fp (inl known) = inl known
later_place x shares before fp (inr has) = inr (has.0, contains_later x shares (fp, has.0) has.1)

flagged_all : (before : List Fp) (items : List PutItem) (fp : Fp) → AreFlagged before items → Contains (fps_of items) fp → IsKnownOrPlaced before (places_given items) fp
flagged_all before [] fp flagged c = absurd (contains_nothing fp c)
flagged_all before (item ∷ items) fp flagged c =
    by_place item.place flagged.0 (λ d. flagged_all (before ++ item.fp ∷ []) items fp flagged.1 d) (contains_cases item.fp (fps_of items) fp c)
  where
    -- its own fingerprint came with this item, or before
    known : IsKnownOrPlaced (before ++ item.fp ∷ []) (places_given items) fp → (item.fp ≡ fp) ⊎ IsKnownOrPlaced before (places_given items) fp
    known (inl had) = elim (Contains-append_cases before (item.fp ∷ []) fp had) [
      | inl old ↦ inr (inl old)
      | inr this ↦ elim (contains_cases item.fp [] fp this) [ inl same ↦ inl same | inr none ↦ absurd (contains_nothing fp none) ]
    ]
    known (inr has) = inr (inr has)

    own : (o : Option Place) → IsSome o ↔ IsFalse (is_among before item.fp) → item.fp ≡ fp → IsKnownOrPlaced before (places_given (record { fp = item.fp; place = o } ∷ items)) fp
    own None flag same = elim (cases_Bool (is_among before item.fp)) [
      | inl among ↦ inl (subst (Contains before) same (among_contains before item.fp among))
      | inr new ↦ absurd (false≢true (flag.1 new))
    ]
    own (Some place) flag same = inr (place, subst (λ (g : Fp). Contains ((item.fp, place) ∷ places_given items) (g, place)) same (contains_here (item.fp, place) (places_given items)))

    more : (o : Option Place) → IsKnownOrPlaced before (places_given items) fp → IsKnownOrPlaced before (places_given (record { fp = item.fp; place = o } ∷ items)) fp
    more None has = has
    more (Some place) has = later_place (item.fp, place) (places_given items) before fp has

    by_place : (o : Option Place) → IsSome o ↔ IsFalse (is_among before item.fp)
        → (Contains (fps_of items) fp → IsKnownOrPlaced (before ++ item.fp ∷ []) (places_given items) fp) → (item.fp ≡ fp) ⊎ Contains (fps_of items) fp
        → IsKnownOrPlaced before (places_given (record { fp = item.fp; place = o } ∷ items)) fp
    by_place o flag rest (inl same) = own o flag same
    by_place o flag rest (inr later) = elim (known (rest later)) [ inl same ↦ own o flag same | inr has ↦ more o has ]

-- ---- a record of a Put

new_flagged : (b : Bool) (s : List ℕ) (o : Option Place) → PlacedNew b s o → IsSome o ↔ IsFalse b
new_flagged true s None is = (λ no. absurd (false≢true no), λ no. absurd (false≢true (sym no)))
new_flagged true s (Some place) is = absurd is
new_flagged false s None is = absurd is
new_flagged false s (Some place) is = (λ some. refl, λ none. refl)

items_flagged : (before : List Fp) (shares : List (List ℕ)) (items : List PutItem) → AreItems before shares items → AreFlagged before items
items_flagged before [] [] is = tt
items_flagged before [] (item ∷ items) is = absurd is
items_flagged before (s ∷ ss) [] is = absurd is
items_flagged before (s ∷ ss) (item ∷ items) is =
    subst (λ (fp : Fp). (IsSome item.place ↔ IsFalse (is_among before fp)) × AreFlagged (before ++ fp ∷ []) items) (sym is.0)
    (new_flagged (is_among before (fingerprint s)) s item.place is.1, items_flagged (before ++ fingerprint s ∷ []) ss items is.2)

items_listed : (before : List Fp) (shares : List (List ℕ)) (items : List PutItem) → AreItems before shares items → fps_of items ≡ map fingerprint shares
items_listed before [] [] is = refl
items_listed before [] (item ∷ items) is = absurd is
items_listed before (s ∷ ss) [] is = absurd is
items_listed before (s ∷ ss) (item ∷ items) is = λ i. is.0 i ∷ items_listed (before ++ fingerprint s ∷ []) ss items is.2 i

-- ---- the places of a checkpoint

given_append : (a b : List PutItem) → places_given (a ++ b) ≡ places_given a ++ places_given b
given_append [] b = refl
given_append (item ∷ a) b = by_place item.place (given_append a b)
  where
    by_place : (o : Option Place) → places_given (a ++ b) ≡ places_given a ++ places_given b
        → places_given (record { fp = item.fp; place = o } ∷ a ++ b) ≡ places_given (record { fp = item.fp; place = o } ∷ a) ++ places_given b
    by_place None same = same
    by_place (Some place) same = ap (λ l. (item.fp, place) ∷ l) same

puts_place : (puts : List PutRecord) → shares_in (map put_body puts) ≡ places_given (items_in puts)
puts_place [] = refl
puts_place (p ∷ puts) = ap (λ l. places_given p.items ++ l) (puts_place puts) ∙ sym (given_append p.items (items_in puts))

abbrev pub all_kept : List (List KeptItem) → List KeptItem
all_kept kept = flat_map (λ (items : List KeptItem). items) kept

kept_place : (kept : List (List KeptItem)) → shares_in (map bodies.Kept kept) ≡ places_kept (all_kept kept)
kept_place [] = refl
kept_place (k ∷ kept) = ap (λ l. places_kept k ++ l) (kept_place kept) ∙ sym (map-append (λ (i : KeptItem). (i.fp, i.place)) k (all_kept kept))

commits_place_none : (commits : List CommitBody) → shares_in (map bodies.Commit commits) ≡ []
commits_place_none [] = refl
commits_place_none (c ∷ cs) = commits_place_none cs

spents_place_none : (spents : List SpentBody) → shares_in (map bodies.Spent spents) ≡ []
spents_place_none [] = refl
spents_place_none (s ∷ ss) = spents_place_none ss

fps_kept : (items : List KeptItem) → fps_placed (places_kept items) ≡ map (λ (i : KeptItem). i.fp) items
fps_kept [] = refl
fps_kept (item ∷ items) = ap (λ l. item.fp ∷ l) (fps_kept items)

module _ (format : ℕ) (shape : Shape) (list : List Command) (records : List Body) (recipes : List Placed) (is : IsCheckpointOfList format shape list records recipes) where
  pub checkpoint_places : shares_in records ≡ places_given (items_in is.puts) ++ places_kept (all_kept is.kept)
  checkpoint_places =
      let commits = map bodies.Commit is.commits in
      let spents = map bodies.Spent is.spents in
      let kept = map bodies.Kept is.kept in
      ap shares_in is.whole
      ∙ flat_map-append shares_placed (map put_body is.puts) (kept ++ (commits ++ spents))
      ∙ ap (λ l. shares_in (map put_body is.puts) ++ l) (flat_map-append shares_placed kept (commits ++ spents))
      ∙ (λ i. puts_place is.puts i ++ (kept_place is.kept i ++ (flat_map-append shares_placed commits spents ∙ (λ j. commits_place_none is.commits j ++ spents_place_none is.spents j)) i))
      ∙ ap (λ l. places_given (items_in is.puts) ++ l) (append-nil (places_kept (all_kept is.kept)))

  listed_is_owned : (fp : Fp) → Contains (fps_of (items_in is.puts)) fp → (user : UserId) × Contains (user_view shape list user).own fp
  listed_is_owned fp c =
      let item = from_map (λ (i : PutItem). i.fp) (items_in is.puts) fp c in
      let put = from_flat (λ (p : PutRecord). p.items) is.puts item.0 item.1 in
      (put.0.user, subst (Contains (user_view shape list put.0.user).own) item.2 (put_is_owned format shape list records recipes is put.0 item.0 put.1 put.2))

  owned_is_listed : (user : UserId) (fp : Fp) → Contains (user_view shape list user).own fp → Contains (fps_of (items_in is.puts)) fp
  owned_is_listed user fp c =
      let item = from_map (λ (i : PutItem). i.fp) (items_in (of_user user is.puts)) fp (((is.owners.own user).each fp).1 c) in
      let put = from_flat (λ (p : PutRecord). p.items) (of_user user is.puts) item.0 item.1 in
      let here = from_filter (λ (p : PutRecord). p.user.0 == user.0) is.puts put.0 put.1 in
      subst (Contains (fps_of (items_in is.puts))) item.2
      (in_map (λ (i : PutItem). i.fp) (items_in is.puts) item.0 (in_flat (λ (p : PutRecord). p.items) is.puts put.0 item.0 here.0 put.2))

  fps_apart : Apart (fps_placed (places_given (items_in is.puts)) ++ fps_placed (places_kept (all_kept is.kept)))
  fps_apart =
      apart_append (fps_placed (places_given (items_in is.puts))) (fps_placed (places_kept (all_kept is.kept)))
      (flagged_once [] (items_in is.puts) is.owners.flags).once
      (subst Apart (sym (fps_kept (all_kept is.kept))) (apart_from (map (λ (i : KeptItem). i.fp) (all_kept is.kept)) is.ownerless.fps.once))
      (λ fp l r.
      let x = from_map (λ (y : Fp × Place). y.0) (places_given (items_in is.puts)) fp l in
      let owner = listed_is_owned fp (subst (Contains (fps_of (items_in is.puts))) x.2 (given_is_listed (items_in is.puts) x.0 x.1)) in
      ((is.ownerless.fps.each fp).0 (subst (λ (fps : List Fp). Contains fps fp) (fps_kept (all_kept is.kept)) r)).unowned owner.0 owner.1)

  pub checkpoint_once : Apart (fps_placed (shares_in records))
  checkpoint_once =
      subst Apart (sym (ap fps_placed checkpoint_places ∙ map-append (λ (y : Fp × Place). y.0) (places_given (items_in is.puts)) (places_kept (all_kept is.kept)))) fps_apart

  pub checkpoint_all : (fp : Fp) → Contains (fps_sent list) fp → HasPlace records fp
  checkpoint_all fp sent = elim (cases_Bool (is_among (fps_of (items_in is.puts)) fp)) [
    | inl listed ↦ by_put (flagged_all [] (items_in is.puts) fp is.owners.flags (among_contains (fps_of (items_in is.puts)) fp listed))
    | inr unlisted ↦
        let none : (user : UserId) → Contains (user_view shape list user).own fp → ⊥ =
        λ user c. false≢true (sym unlisted ∙ contains_among (fps_of (items_in is.puts)) fp (owned_is_listed user fp c)) in
        let item = from_map (λ (i : KeptItem). i.fp) (all_kept is.kept) fp ((is.ownerless.fps.each fp).1 (record { put = sent; unowned = none })) in
        in_places item.0.place
        (Contains-append_right (places_given (items_in is.puts)) (places_kept (all_kept is.kept)) (fp, item.0.place)
        (subst (λ (g : Fp). Contains (places_kept (all_kept is.kept)) (g, item.0.place)) item.2 (in_map (λ (i : KeptItem). (i.fp, i.place)) (all_kept is.kept) item.0 item.1)))
  ]
    where
      in_places : (place : Place) → Contains (places_given (items_in is.puts) ++ places_kept (all_kept is.kept)) (fp, place) → HasPlace records fp
      in_places place c = (place, subst (λ (l : List (Fp × Place)). Contains l (fp, place)) (sym checkpoint_places) c)

      by_put : IsKnownOrPlaced [] (places_given (items_in is.puts)) fp → HasPlace records fp
      by_put (inl none) = absurd (contains_nothing fp none)
      by_put (inr has) = in_places has.0 (Contains-append_left (places_given (items_in is.puts)) (places_kept (all_kept is.kept)) (fp, has.0) has.1)

-- ---- one record more

record_once : (region : ℕ) (before : List Body) (list : List Command) (command : Command) (body : Body) (laid : List Placed) → IsRecord region before list command body laid
    → ArePlacedOnce (fps_sent list) (shares_placed body)
record_once region before list (commands.Put user shares) body laid is =
    subst (λ (b : Body). ArePlacedOnce (fps_sent list) (shares_placed b)) (sym is.0.body_is)
    (flagged_once (fps_sent list) is.0.items (items_flagged (fps_sent list) shares is.0.items is.0.each))
record_once region before list (commands.Commit user tag version recipe) body laid is =
    subst (λ (b : Body). ArePlacedOnce (fps_sent list) (shares_placed b)) (sym is.body_is) (record { once = tt; new = λ fp c d. contains_nothing fp c })
record_once region before list (commands.Delete user tag version) body laid is =
    subst (λ (b : Body). ArePlacedOnce (fps_sent list) (shares_placed b)) (sym is.0) (record { once = tt; new = λ fp c d. contains_nothing fp c })

record_all : (region : ℕ) (before : List Body) (list : List Command) (command : Command) (body : Body) (laid : List Placed) (fp : Fp) → IsRecord region before list command body laid
    → Contains (map fingerprint (strings_of command)) fp → IsKnownOrPlaced (fps_sent list) (shares_placed body) fp
record_all region before list (commands.Put user shares) body laid fp is c =
    subst (λ (b : Body). IsKnownOrPlaced (fps_sent list) (shares_placed b) fp) (sym is.0.body_is)
    (flagged_all (fps_sent list) is.0.items fp (items_flagged (fps_sent list) shares is.0.items is.0.each)
    (subst (λ (l : List Fp). Contains l fp) (sym (items_listed (fps_sent list) shares is.0.items is.0.each)) c))
record_all region before list (commands.Commit user tag version recipe) body laid fp is c = absurd (contains_nothing fp c)
record_all region before list (commands.Delete user tag version) body laid fp is c = absurd (contains_nothing fp c)

-- ---- a chain

pub placed_once : (format : ℕ) (shape : Shape) (region records commands : ℕ) (bodies : List Body) (list : List Command) (recipes : List Placed)
    → AreRecordsOfList format shape region records commands bodies list recipes → Apart (fps_placed (shares_in bodies))
placed_once format shape region records commands _ _ _ (Summed bodies list recipes is count number) = checkpoint_once format shape list bodies recipes is
placed_once format shape region records commands _ _ _ (Then before old laid body command more says is) =
    let new = record_once region before old command body more is in
    subst Apart (sym (ap fps_placed (shares_more before body) ∙ map-append (λ (y : Fp × Place). y.0) (shares_in before) (shares_placed body)))
    (apart_append (fps_placed (shares_in before)) (fps_placed (shares_placed body))
    (placed_once format shape region records commands before old laid says) new.once
    (λ fp l r.
    let x = from_map (λ (y : Fp × Place). y.0) (shares_in before) fp l in
    new.new fp r (subst (Contains (fps_sent old)) x.2 (placed_is_sent format shape region records commands before old laid says x.0 x.1))))

pub placed_all : (format : ℕ) (shape : Shape) (region records commands : ℕ) (bodies : List Body) (list : List Command) (recipes : List Placed)
    → AreRecordsOfList format shape region records commands bodies list recipes → (fp : Fp) → Contains (fps_sent list) fp → HasPlace bodies fp
placed_all format shape region records commands _ _ _ (Summed bodies list recipes is count number) fp sent = checkpoint_all format shape list bodies recipes is fp sent
placed_all format shape region records commands _ _ _ (Then before old laid body command more says is) fp sent =
    elim (Contains-append_cases (fps_sent old) (map fingerprint (strings_of command)) fp (subst (λ (l : List Fp). Contains l fp) (sent_more old command) sent)) [
      | inl had ↦ old_place (placed_all format shape region records commands before old laid says fp had)
      | inr this ↦ elim (record_all region before old command body more fp is this) [
        | inl had ↦ old_place (placed_all format shape region records commands before old laid says fp had)
        | inr has ↦ in_longer has.0 (Contains-append_right (shares_in before) (shares_placed body) (fp, has.0) has.1)
      ]
    ]
  where
    in_longer : (place : Place) → Contains (shares_in before ++ shares_placed body) (fp, place) → HasPlace (before ++ body ∷ []) fp
    in_longer place c = (place, subst (λ (l : List (Fp × Place)). Contains l (fp, place)) (sym (shares_more before body)) c)

    old_place : HasPlace before fp → HasPlace (before ++ body ∷ []) fp
    old_place has = in_longer has.0 (Contains-append_left (shares_in before) (shares_placed body) (fp, has.0) has.1)

-- ---- the areas of a chain

module _ (header : Header) (image : Image) (list : List Command) (c : Chain) (h : Holds header image list c) where
  pub sent_is_placed : (fp : Fp) → Contains (fps_sent list) fp ↔ HasPlace c.records fp
  sent_is_placed fp = (
    placed_all header.format header.shape (region_in c) (records_of c.start.checkpoint) (commands_of c.start.checkpoint) c.records list c.recipes h.says fp,
    λ has. placed_is_sent header.format header.shape (region_in c) (records_of c.start.checkpoint) (commands_of c.start.checkpoint) c.records list c.recipes h.says (fp, has.0) has.1,
  )

  once : Apart (fps_placed (shares_in c.records))
  once = placed_once header.format header.shape (region_in c) (records_of c.start.checkpoint) (commands_of c.start.checkpoint) c.records list c.recipes h.says

  pub placed_apart : AreDistinct (fps_placed (shares_in c.records))
  placed_apart = are_apart (fps_placed (shares_in c.records)) once

  pub placed_one : (fp : Fp) (a b : Place) → Contains (shares_in c.records) (fp, a) → Contains (shares_in c.records) (fp, b) → a ≡ b
  placed_one fp a b in_a in_b =
      ap (λ (x : Fp × Place). x.1) (one_by (λ (x : Fp × Place). x.0) (shares_in c.records) (fp, a) (fp, b) once in_a in_b refl)
