-- The shares of a checkpoint's Puts and Kepts are taken one by one.
use Rattle.std.proofs.Common.{◌≡◌, inl, inr, ℕ, Bool, true, false, cond, List, [], ◌∷◌, ◌++◌, map, Option, Some, None, refl, sym, ap, ◌∙◌, subst, eq-eqb, append_assoc, append-nil}
use Rattle.std.specs.Prelude.{◌&&◌, ◌||◌, ◌↔◌, bytes_eq, is_some, IsSome, IsFalse, IfSome}
use Rattle.std.specs.List.{Contains}
use Rattle.std.specs.FinMap.{get}
use Rattle.std.proofs.lemmas.Bool.{cases_Bool, false_from_ne_true}
use Rattle.std.proofs.lemmas.List.{map-append}
use Rattle.std.proofs.lemmas.List.Folds.{list_any-append}
use Rattle.cd_edges.specs.CdBase.ids.Fp.{Fp}
use Rattle.cd_edges.specs.CdBase.ids.UserId.{UserId}
use Rattle.cd_edges.specs.CdBase.shape.Shape.{Shape}
use Rattle.record_checks.specs.RecordBody.body.PutItem.{PutItem}
use Rattle.record_checks.specs.RecordBody.body.KeptItem.{KeptItem}
use Rattle.cd_edges.specs.CdBase.place.Place.{Place}
use Rattle.record_checks.specs.ShareIndex.Order.{owner_of}
use Rattle.record_checks.specs.UserDedup.Owning.{is_among}
use Rattle.record_checks.proofs.UserDedup.Owned.{fp_same, contains_here, contains_later, among_contains}
use Rattle.record_checks.specs.CloudAreas.Checkpoints.{PutRecord, put_body, fps_of, items_in, AreFlagged}
use Rattle.record_checks.specs.CloudAreas.Placing.{places_given, places_kept, places_of, fps_placed}
use Rattle.record_checks.proofs.CloudAreas.Apart.{Apart}
use Rattle.record_checks.specs.CloudMemory.Memory.{Memory}
use Rattle.record_checks.specs.CloudMemory.Steps.{with_item, with_items, with_kept, places_with}
use Rattle.record_checks.proofs.MemoryProofs.Keys.{owner_in, place_in}
use Rattle.record_checks.proofs.MemoryProofs.PlacingLaw.{Gives}
use Rattle.record_checks.specs.declared.ground.Ground.{Ground}
use Rattle.record_checks.specs.Checks.{ShareLies, AreRight, AreRightKepts}
use Rattle.record_laws.proofs.Places.{one_gives, no_place, apart_behind}
use Rattle.record_laws.proofs.Segments.{over}
use Rattle.record_laws.proofs.Sized.{HasRoomIn}

-- ---- which have a place

-- those that were listed have one, and no others
abbrev pub AreSeen : List Fp → Memory → Type 0
AreSeen seen m = (fp : Fp) → is_some (get m.places fp.0) ≡ is_among seen fp

one_seen : (seen : List Fp) (user : UserId) (m : Memory) (item : PutItem) → IsSome item.place ↔ IsFalse (is_among seen item.fp) → AreSeen seen m
    → AreSeen (seen ++ item.fp ∷ []) (with_item user m item)
one_seen seen user m item flag are fp =
    by_place item.place flag (bytes_eq item.fp.0 fp.0) refl
    ∙ sym (list_any-append (λ (other : Fp). bytes_eq other.0 fp.0) seen (item.fp ∷ []))
  where
    or_same : (a : Bool) → a ≡ (a || (false || false))
    or_same true = refl
    or_same false = refl

    or_true : (a : Bool) → true ≡ (a || (true || false))
    or_true true = refl
    or_true false = refl

    by_place : (o : Option Place) → IsSome o ↔ IsFalse (is_among seen item.fp) → (b : Bool) → bytes_eq item.fp.0 fp.0 ≡ b
        → is_some (get (places_with m.places item.fp o) fp.0) ≡ (is_among seen fp || (bytes_eq item.fp.0 fp.0 || false))
    by_place None flag true t = elim (cases_Bool (is_among seen item.fp)) [
      | inl among ↦
          let here : is_among seen fp ≡ true = ap (is_among seen) (sym ((fp_same item.fp fp).0 t)) ∙ among in
          are fp ∙ here ∙ sym (λ i. here i || (t i || false))
      | inr new ↦ absurd (let no : false ≡ true = flag.1 new in cc)
    ]
    by_place None flag false t = are fp ∙ or_same (is_among seen fp) ∙ sym (ap (λ (b : Bool). is_among seen fp || (b || false)) t)
    by_place (Some p) flag true t =
        ap is_some (place_in m.places item.fp.0 p fp.0 ∙ ap (λ (b : Bool). cond b (Some p) (get m.places fp.0)) t)
        ∙ or_true (is_among seen fp) ∙ sym (ap (λ (b : Bool). is_among seen fp || (b || false)) t)
    by_place (Some p) flag false t =
        ap is_some (place_in m.places item.fp.0 p fp.0 ∙ ap (λ (b : Bool). cond b (Some p) (get m.places fp.0)) t)
        ∙ are fp ∙ or_same (is_among seen fp) ∙ sym (ap (λ (b : Bool). is_among seen fp || (b || false)) t)

items_seen : (seen : List Fp) (user : UserId) (m : Memory) (items : List PutItem) → AreFlagged seen items → AreSeen seen m → AreSeen (seen ++ fps_of items) (with_items user m items)
items_seen seen user m [] flags are = subst (λ (l : List Fp). AreSeen l m) (sym (append-nil seen)) are
items_seen seen user m (item ∷ items) flags are =
    subst (λ (l : List Fp). AreSeen l (with_items user (with_item user m item) items)) (append_assoc seen (item.fp ∷ []) (fps_of items))
    (items_seen (seen ++ item.fp ∷ []) user (with_item user m item) items flags.1 (one_seen seen user m item flags.0 are))

pub flagged_split : (seen : List Fp) (a b : List PutItem) → AreFlagged seen (a ++ b) → AreFlagged seen a × AreFlagged (seen ++ fps_of a) b
flagged_split seen [] b flags = (tt, subst (λ (l : List Fp). AreFlagged l b) (sym (append-nil seen)) flags)
flagged_split seen (item ∷ a) b flags =
    let rest = flagged_split (seen ++ item.fp ∷ []) a b flags.1 in
    ((flags.0, rest.0), subst (λ (l : List Fp). AreFlagged l b) (append_assoc seen (item.fp ∷ []) (fps_of a)) rest.1)

pub puts_seen : (shape : Shape) (area : List ℕ) (seen : List Fp) (m : Memory) (puts : List PutRecord) → AreFlagged seen (items_in puts) → AreSeen seen m
    → AreSeen (seen ++ fps_of (items_in puts)) (over shape area m (map put_body puts))
puts_seen shape area seen m [] flags are = subst (λ (l : List Fp). AreSeen l m) (sym (append-nil seen)) are
puts_seen shape area seen m (p ∷ puts) flags are =
    let parts = flagged_split seen p.items (items_in puts) flags in
    let all : (seen ++ fps_of p.items) ++ fps_of (items_in puts) ≡ seen ++ fps_of (p.items ++ items_in puts) =
    append_assoc seen (fps_of p.items) (fps_of (items_in puts)) ∙ ap (λ (l : List Fp). seen ++ l) (sym (map-append (λ (i : PutItem). i.fp) p.items (items_in puts))) in
    subst (λ (l : List Fp). AreSeen l (over shape area (with_items p.user m p.items) (map put_body puts))) all
    (puts_seen shape area (seen ++ fps_of p.items) (with_items p.user m p.items) puts parts.1 (items_seen seen p.user m p.items parts.0 are))

-- ---- a Put

-- the user owns these, with no uses, and no others
abbrev pub AreMine : UserId → List Fp → Memory → Type 0
AreMine user mine m = (fp : Fp) → get m.owners (owner_of user.0 fp.0) ≡ cond (is_among mine fp) (Some 0) None

one_mine : (user : UserId) (mine : List Fp) (m : Memory) (item : PutItem) → AreMine user mine m → AreMine user (mine ++ item.fp ∷ []) (with_item user m item)
one_mine user mine m item are fp =
    owner_in m.owners user.0 item.fp.0 0 user.0 fp.0
    ∙ (λ i. cond (eq-eqb user.0 user.0 refl i && bytes_eq item.fp.0 fp.0) (Some 0) (are fp i))
    ∙ either (bytes_eq item.fp.0 fp.0) (is_among mine fp)
    ∙ ap (λ (b : Bool). cond b (Some 0) None) (sym (list_any-append (λ (other : Fp). bytes_eq other.0 fp.0) mine (item.fp ∷ [])))
  where
    either : (b a : Bool) → ◌≡◌ {A = Option ℕ} (cond b (Some 0) (cond a (Some 0) None)) (cond (a || (b || false)) (Some 0) None)
    either true true = refl
    either true false = refl
    either false true = refl
    either false false = refl

module _ (g : Ground) where
  share_lies : (m : Memory) (p : Place) → HasRoomIn g.region g.shares_len p → ShareLies g true m p
  share_lies m p room = record { behind = inl refl; region = room.starts; in_one = room.in_one; within = room.within }

  abbrev HasRoomEach : List Place → Type 0
  HasRoomEach places = (p : Place) → Contains places p → HasRoomIn g.region g.shares_len p

  is_flagged : (seen : List Fp) (m : Memory) (fp : Fp) (o : Option Place) → IsSome o ↔ IsFalse (is_among seen fp) → AreSeen seen m → IsSome o ↔ (get m.places fp.0 ≡ None)
  is_flagged seen m fp o flag are = (
    λ some. no_some (get m.places fp.0) (are fp ∙ flag.0 some),
    λ none. flag.1 (sym (are fp) ∙ ap is_some none),
  )
    where
      no_some : (w : Option Place) → is_some w ≡ false → w ≡ None
      no_some None e = refl
      no_some (Some p) e = absurd (let no : true ≡ false = e in cc)

  pub inside_items : (user : UserId) (seen mine : List Fp) (items : List PutItem) (m : Memory) → AreFlagged seen items → AreSeen seen m → AreMine user mine m
      → Apart (mine ++ fps_of items) → HasRoomEach (places_of (places_given items)) → AreRight g true user m items
  inside_items user seen mine [] m flags are own apart room = tt
  inside_items user seen mine (item ∷ items) m flags are own apart room = (
    record {
      new = λ some.
          let off = false_from_ne_true (is_among mine item.fp) (λ t. apart_behind mine (fps_of items) item.fp apart (among_contains mine item.fp t)) in
          let none : get m.owners (owner_of user.0 item.fp.0) ≡ None = own item.fp ∙ ap (λ (b : Bool). cond {A = Option ℕ} b (Some 0) None) off in
          let no : false ≡ true = sym (ap is_some none) ∙ some in cc;
      flagged = is_flagged seen m item.fp item.place flags.0 are;
      lies = by_place item.place refl;
    },
    inside_items user (seen ++ item.fp ∷ []) (mine ++ item.fp ∷ []) items (with_item user m item) flags.1 (one_seen seen user m item flags.0 are) (one_mine user mine m item own)
        (subst Apart (sym (append_assoc mine (item.fp ∷ []) (fps_of items))) apart)
        (λ p c. room p (later item.place p c)),
  )
    where
      by_place : (o : Option Place) → item.place ≡ o → IfSome item.place (ShareLies g true m)
      by_place None is = subst (λ (x : Option Place). IfSome x (ShareLies g true m)) (sym is) tt
      by_place (Some p) is =
          subst (λ (x : Option Place). IfSome x (ShareLies g true m)) (sym is)
          (share_lies m p (room p (subst (λ (x : Option Place). Contains (places_of (places_given (record { fp = item.fp; place = x } ∷ items))) p) (sym is) (contains_here p (places_of (places_given items))))))

      later : (o : Option Place) (p : Place) → Contains (places_of (places_given items)) p → Contains (places_of (places_given (record { fp = item.fp; place = o } ∷ items))) p
      later None p c = c
      later (Some q) p c = contains_later q (places_of (places_given items)) p c

  -- ---- a Kept

  pub inside_kepts : (pairs : List (Fp × Place)) (items : List KeptItem) (m : Memory) → Gives pairs m.places → Apart (fps_placed (pairs ++ places_kept items))
      → HasRoomEach (places_of (places_kept items)) → AreRightKepts g true m items
  inside_kepts pairs [] m gives apart room = tt
  inside_kepts pairs (item ∷ items) m gives apart room =
      let x : Fp × Place = (item.fp, item.place) in
      let listed : fps_placed (pairs ++ x ∷ places_kept items) ≡ fps_placed pairs ++ item.fp ∷ fps_placed (places_kept items) =
      map-append (λ (y : Fp × Place). y.0) pairs (x ∷ places_kept items) in
      let free = no_place pairs m.places item.fp gives (apart_behind (fps_placed pairs) (fps_placed (places_kept items)) item.fp (subst Apart listed apart)) in (
        record { new = free; lies = share_lies m item.place (room item.place (contains_here item.place (places_of (places_kept items)))) },
        inside_kepts (pairs ++ x ∷ []) items (with_kept m item) (one_gives pairs m.places x gives free)
            (subst (λ (l : List (Fp × Place)). Apart (fps_placed l)) (sym (append_assoc pairs (x ∷ []) (places_kept items))) apart)
            (λ p c. room p (contains_later item.place (places_of (places_kept items)) p c)),
      )
