-- Each fingerprint that a chain places is that of a string of its list.
use Rattle.std.proofs.Common.{◌≡◌, ℕ, Bool, true, false, cond, List, [], ◌∷◌, ◌++◌, length, map, Option, Some, None, refl, sym, ap, ◌∙◌, subst, inl, inr, eq-eqb, append_assoc}
use Rattle.std.specs.Prelude.{All, find, ◌||◌, ◌==◌, bytes_eq, unwrap_or}
use Rattle.std.specs.List.{Contains, flat_map}
use Rattle.std.proofs.lemmas.List.{map-append}
use Rattle.std.proofs.lemmas.List.Elements.{All-nil, All-cons, Contains-append_left, Contains-append_right, Contains-append_cases}
use Rattle.std.specs.Cmp.Lexicographic.{nat_list_eq_equiv}
use Rattle.sha2.specs.Sha256.{sha256 as sha256_of}
use Rattle.user_dedup.specs.CdBase.ids.Fp.{Fp}
use Rattle.user_dedup.specs.CdBase.ids.UserId.{UserId}
use Rattle.user_dedup.specs.CdBase.shape.Shape.{Shape}
use Rattle.container_log.specs.Laying.{Placed}
use Rattle.record_body.specs.declared.body.PutItem.{PutItem}
use Rattle.record_body.specs.declared.body.CommitBody.{CommitBody}
use Rattle.record_body.specs.declared.body.KeptItem.{KeptItem}
use Rattle.record_body.specs.declared.body.SpentBody.{SpentBody}
use Rattle.record_body.specs.Spelling as bodies
use Rattle.record_body.specs.Spelling.{Body}
use Rattle.user_dedup.specs.CdBase.place.Place.{Place}
use Rattle.user_dedup.specs.Cloud.{fingerprint, has_fingerprint}
use Rattle.user_dedup.specs.Owning.{is_among}
use Rattle.user_dedup.proofs.Owned.{contains_here, contains_later, contains_nothing, contains_cases}
use Rattle.user_dedup.specs.declared.command.Command.{Command}
use Rattle.user_dedup.specs.declared.command.Command.TheVariants as commands
use Rattle.user_dedup.specs.Cloud.{user_view, strings_of, strings_in, held_bytes}
use Rattle.user_dedup.proofs.Filtered.{in_filter, in_flat, from_flat}
use Rattle.user_dedup.proofs.Views.{held_is, sent_is_held, owned_is_held, held_more}
use Rattle.cloud_areas.specs.Placing.{places_given, places_kept, shares_placed, shares_in}
use Rattle.cloud_areas.specs.Checkpoints.{PutRecord, put_body, of_user, fps_of, items_in, IsCheckpointOfList}
use Rattle.cloud_areas.specs.Chains.{PlacedNew, AreItems, IsRecord, AreRecordsOfList, Summed, Then, AreLong}
use Rattle.cloud_areas.proofs.Lists.{in_map, from_map, flat_more}

abbrev pub fps_sent : List Command → List Fp
fps_sent list = map fingerprint (strings_in list)

-- each of these shares has a fingerprint of a string of the list
abbrev pub AreSent : List Command → List (Fp × Place) → Type 0
AreSent list shares = (x : Fp × Place) → Contains shares x → Contains (fps_sent list) x.0

pub strings_more : (list : List Command) (command : Command) → strings_in (list ++ command ∷ []) ≡ strings_in list ++ strings_of command
strings_more list command = flat_more strings_of list command

pub sent_more : (list : List Command) (command : Command) → fps_sent (list ++ command ∷ []) ≡ fps_sent list ++ map fingerprint (strings_of command)
sent_more list command = ap (map fingerprint) (strings_more list command) ∙ map-append fingerprint (strings_in list) (strings_of command)

pub shares_more : (records : List Body) (body : Body) → shares_in (records ++ body ∷ []) ≡ shares_in records ++ shares_placed body
shares_more records body = flat_more shares_placed records body

-- ---- a checkpoint

-- what items place is listed by one of them
pub given_is_listed : (items : List PutItem) (x : Fp × Place) → Contains (places_given items) x → Contains (fps_of items) x.0
given_is_listed [] x c = absurd (contains_nothing x c)
given_is_listed (item ∷ items) x c = by_place item.place (λ d. given_is_listed items x d) c
  where
    by_place : (o : Option Place) → (Contains (places_given items) x → Contains (fps_of items) x.0)
        → Contains (places_given (record { fp = item.fp; place = o } ∷ items)) x → Contains (fps_of (item ∷ items)) x.0
    by_place None rest d = contains_later item.fp (fps_of items) x.0 (rest d)
    by_place (Some place) rest d = elim (contains_cases (item.fp, place) (places_given items) x d) [
      | inl same ↦ subst (λ (y : Fp × Place). Contains (fps_of (item ∷ items)) y.0) same (contains_here item.fp (fps_of items))
      | inr later ↦ contains_later item.fp (fps_of items) x.0 (rest later)
    ]

owned_is_sent : (shape : Shape) (list : List Command) (user : UserId) (fp : Fp) → Contains (user_view shape list user).own fp → Contains (fps_sent list) fp
owned_is_sent shape list user fp c =
    let h = owned_is_held shape list user fp c in
    let k = held_is list fp h.0 h.1 in
    subst (Contains (fps_sent list)) k.0 (in_map fingerprint (strings_in list) h.0 k.1)

abbrev rest_of : List CommitBody → List SpentBody → List Body
rest_of commits spents = map bodies.Commit commits ++ map bodies.Spent spents

-- commits and spent numbers place no shares
rest_places_none : (commits : List CommitBody) (spents : List SpentBody) (body : Body) (x : Fp × Place)
    → Contains (rest_of commits spents) body → Contains (shares_placed body) x → ⊥
rest_places_none commits spents body x c d = elim (Contains-append_cases (map bodies.Commit commits) (map bodies.Spent spents) body c) [
  | inl l ↦ let m = from_map bodies.Commit commits body l in contains_nothing x (subst (λ (b : Body). Contains (shares_placed b) x) (sym m.2) d)
  | inr r ↦ let m = from_map bodies.Spent spents body r in contains_nothing x (subst (λ (b : Body). Contains (shares_placed b) x) (sym m.2) d)
]

module _ (format : ℕ) (shape : Shape) (list : List Command) (records : List Body) (recipes : List Placed) (is : IsCheckpointOfList format shape list records recipes) where
  -- what a Put of a checkpoint lists is owned
  pub put_is_owned : (p : PutRecord) (item : PutItem) → Contains is.puts p → Contains p.items item → Contains (user_view shape list p.user).own item.fp
  put_is_owned p item c d =
      let here = in_filter (λ (q : PutRecord). q.user.0 == p.user.0) is.puts p c (eq-eqb p.user.0 p.user.0 refl) in
      let among = in_flat (λ (q : PutRecord). q.items) (of_user p.user is.puts) p item here d in
      ((is.owners.own p.user).each item.fp).0 (in_map (λ (i : PutItem). i.fp) (items_in (of_user p.user is.puts)) item among)

  put_is_sent : (p : PutRecord) (x : Fp × Place) → Contains is.puts p → Contains (places_given p.items) x → Contains (fps_sent list) x.0
  put_is_sent p x c d =
      let item = from_map (λ (i : PutItem). i.fp) p.items x.0 (given_is_listed p.items x d) in
      owned_is_sent shape list p.user x.0 (subst (Contains (user_view shape list p.user).own) item.2 (put_is_owned p item.0 c item.1))

  kept_is_sent : (items : List KeptItem) (x : Fp × Place) → Contains is.kept items → Contains (places_kept items) x → Contains (fps_sent list) x.0
  kept_is_sent items x c d =
      let item = from_map (λ (i : KeptItem). (i.fp, i.place)) items x d in
      let among = in_flat (λ (l : List KeptItem). l) is.kept items item.0 c item.1 in
      let all = flat_map (λ (l : List KeptItem). l) is.kept in
      let listed = subst (λ (y : Fp × Place). Contains (map (λ (i : KeptItem). i.fp) all) y.0) item.2 (in_map (λ (i : KeptItem). i.fp) all item.0 among) in
      ((is.ownerless.fps.each x.0).0 listed).put

  body_is_sent : (body : Body) (x : Fp × Place) → Contains records body → Contains (shares_placed body) x → Contains (fps_sent list) x.0
  body_is_sent body x c d =
      let tail = map bodies.Kept is.kept ++ rest_of is.commits is.spents in
      elim (Contains-append_cases (map put_body is.puts) tail body (subst (λ (l : List Body). Contains l body) is.whole c)) [
        | inl l ↦
            let m = from_map put_body is.puts body l in
            put_is_sent m.0 x m.1 (subst (λ (b : Body). Contains (shares_placed b) x) (sym m.2) d)
        | inr r ↦ elim (Contains-append_cases (map bodies.Kept is.kept) (rest_of is.commits is.spents) body r) [
          | inl k ↦
              let m = from_map bodies.Kept is.kept body k in
              kept_is_sent m.0 x m.1 (subst (λ (b : Body). Contains (shares_placed b) x) (sym m.2) d)
          | inr n ↦ absurd (rest_places_none is.commits is.spents body x n d)
        ]
      ]

  pub checkpoint_is_sent : AreSent list (shares_in records)
  checkpoint_is_sent x c = let f = from_flat shares_placed records x c in body_is_sent f.0 x f.1 f.2

-- ---- one record

-- what items place is sent with them
items_are_sent : (before : List Fp) (shares : List (List ℕ)) (items : List PutItem) (x : Fp × Place) → AreItems before shares items
    → Contains (places_given items) x → Contains (map fingerprint shares) x.0
items_are_sent before [] [] x is c = absurd (contains_nothing x c)
items_are_sent before [] (item ∷ items) x is c = absurd is
items_are_sent before (s ∷ ss) [] x is c = absurd is
items_are_sent before (s ∷ ss) (item ∷ items) x is c = by_place item.place (λ d. items_are_sent (before ++ fingerprint s ∷ []) ss items x is.2 d) c
  where
    by_place : (o : Option Place) → (Contains (places_given items) x → Contains (map fingerprint ss) x.0)
        → Contains (places_given (record { fp = item.fp; place = o } ∷ items)) x → Contains (map fingerprint (s ∷ ss)) x.0
    by_place None rest d = contains_later (fingerprint s) (map fingerprint ss) x.0 (rest d)
    by_place (Some place) rest d = elim (contains_cases (item.fp, place) (places_given items) x d) [
      | inl same ↦
          subst (Contains (map fingerprint (s ∷ ss))) (sym is.0 ∙ ap (λ (y : Fp × Place). y.0) same) (contains_here (fingerprint s) (map fingerprint ss))
      | inr later ↦ contains_later (fingerprint s) (map fingerprint ss) x.0 (rest later)
    ]

record_is_sent : (region : ℕ) (before : List Body) (list : List Command) (command : Command) (body : Body) (laid : List Placed) (x : Fp × Place)
    → IsRecord region before list command body laid → Contains (shares_placed body) x → Contains (map fingerprint (strings_of command)) x.0
record_is_sent region before list (commands.Put user shares) body laid x is c =
    items_are_sent (fps_sent list) shares is.0.items x is.0.each (subst (λ (b : Body). Contains (shares_placed b) x) is.0.body_is c)
record_is_sent region before list (commands.Commit user tag version recipe) body laid x is c =
    absurd (contains_nothing x (subst (λ (b : Body). Contains (shares_placed b) x) is.body_is c))
record_is_sent region before list (commands.Delete user tag version) body laid x is c =
    absurd (contains_nothing x (subst (λ (b : Body). Contains (shares_placed b) x) is.0 c))

-- ---- a chain

pub placed_is_sent : (format : ℕ) (shape : Shape) (region records commands : ℕ) (bodies : List Body) (list : List Command) (recipes : List Placed)
    → AreRecordsOfList format shape region records commands bodies list recipes → AreSent list (shares_in bodies)
placed_is_sent format shape region records commands _ _ _ (Summed bodies list recipes is count number) x c = checkpoint_is_sent format shape list bodies recipes is x c
placed_is_sent format shape region records commands _ _ _ (Then before old laid body command more says is) x c =
    subst (λ (l : List Fp). Contains l x.0) (sym (sent_more old command))
    (elim (Contains-append_cases (shares_in before) (shares_placed body) x (subst (λ (l : List (Fp × Place)). Contains l x) (shares_more before body) c)) [
      | inl had ↦ Contains-append_left (fps_sent old) (map fingerprint (strings_of command)) x.0
          (placed_is_sent format shape region records commands before old laid says x had)
      | inr new ↦ Contains-append_right (fps_sent old) (map fingerprint (strings_of command)) x.0
          (record_is_sent region before old command body more x is new)
    ])

-- ---- what is held under a placed fingerprint

-- a command more changes nothing of it
pub held_stays : (list : List Command) (command : Command) (fp : Fp) → Contains (fps_sent list) fp → held_bytes (list ++ command ∷ []) fp ≡ held_bytes list fp
held_stays list command fp c =
    let sent = from_map fingerprint (strings_in list) fp c in
    let held = sent_is_held list fp sent in
    ap (λ (o : Option (List ℕ)). unwrap_or o []) (held_more list (command ∷ []) fp held.0 held.1 ∙ sym held.1)

-- the first string with a new fingerprint is found
pub found_new : (before after : List (List ℕ)) (s : List ℕ) → is_among (map fingerprint before) (fingerprint s) ≡ false
    → find (has_fingerprint (fingerprint s)) (before ++ s ∷ after) ≡ Some s
found_new [] after s new = rw (nat_list_eq_equiv.refl (sha256_of s)) refl
found_new (x ∷ before) after s new = by_test (bytes_eq (sha256_of x) (sha256_of s)) (found_new before after s) new
  where
    by_test : (b : Bool) → (is_among (map fingerprint before) (fingerprint s) ≡ false → find (has_fingerprint (fingerprint s)) (before ++ s ∷ after) ≡ Some s)
        → (b || is_among (map fingerprint before) (fingerprint s)) ≡ false
        → cond b (Some x) (find (has_fingerprint (fingerprint s)) (before ++ s ∷ after)) ≡ Some s
    by_test true rest e = absurd (let no : true ≡ false = e in cc)
    by_test false rest e = rest e

-- a new place has the length of the string that is held there
abbrev IsLongIn : List (List ℕ) → Fp × Place → Type 0
IsLongIn strings x = x.1.len ≡ length (unwrap_or (find (has_fingerprint x.0) strings) [])

pub placed_new : (b : Bool) (s : List ℕ) (place : Place) → PlacedNew b s (Some place) → (b ≡ false) × (place.len ≡ length s)
placed_new true s place is = absurd is
placed_new false s place is = (refl, is)

long_items : (before shares : List (List ℕ)) (items : List PutItem) → AreItems (map fingerprint before) shares items
    → All (IsLongIn (before ++ shares)) (places_given items)
long_items before [] [] is = All-nil (IsLongIn (before ++ []))
long_items before [] (item ∷ items) is = absurd is
long_items before (s ∷ ss) [] is = absurd is
long_items before (s ∷ ss) (item ∷ items) is =
    by_place item.place is.1
    (subst (λ (l : List (List ℕ)). All (IsLongIn l) (places_given items)) (append_assoc before (s ∷ []) ss)
    (long_items (before ++ s ∷ []) ss items (subst (λ (l : List Fp). AreItems l ss items) (sym (map-append fingerprint before (s ∷ []))) is.2)))
  where
    by_place : (o : Option Place) → PlacedNew (is_among (map fingerprint before) (fingerprint s)) s o → All (IsLongIn (before ++ s ∷ ss)) (places_given items)
        → All (IsLongIn (before ++ s ∷ ss)) (places_given (record { fp = item.fp; place = o } ∷ items))
    by_place None new rest = rest
    by_place (Some place) new rest =
        let n = placed_new (is_among (map fingerprint before) (fingerprint s)) s place new in
        let long : IsLongIn (before ++ s ∷ ss) (fingerprint s, place) =
        n.1 ∙ sym (ap (λ (o : Option (List ℕ)). length (unwrap_or o [])) (found_new before ss s n.0)) in
        All-cons (IsLongIn (before ++ s ∷ ss)) (item.fp, place) (places_given items)
        (subst (λ (fp : Fp). IsLongIn (before ++ s ∷ ss) (fp, place)) (sym is.0) long) rest

pub record_is_long : (region : ℕ) (before : List Body) (list : List Command) (command : Command) (body : Body) (laid : List Placed)
    → IsRecord region before list command body laid → AreLong (list ++ command ∷ []) (shares_placed body)
record_is_long region before list (commands.Put user shares) body laid is =
    subst (λ (b : Body). AreLong (list ++ commands.Put user shares ∷ []) (shares_placed b)) (sym is.0.body_is)
    (subst (λ (l : List (List ℕ)). All (IsLongIn l) (places_given is.0.items)) (sym (strings_more list (commands.Put user shares)))
    (long_items (strings_in list) shares is.0.items is.0.each))
record_is_long region before list (commands.Commit user tag version recipe) body laid is =
    subst (λ (b : Body). AreLong (list ++ commands.Commit user tag version recipe ∷ []) (shares_placed b)) (sym is.body_is) (All-nil _)
record_is_long region before list (commands.Delete user tag version) body laid is =
    subst (λ (b : Body). AreLong (list ++ commands.Delete user tag version ∷ []) (shares_placed b)) (sym is.0) (All-nil _)
