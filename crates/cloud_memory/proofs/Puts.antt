-- What a Put leaves: places, and what the user owns.
use Rattle.std.proofs.Common.{◌≡◌, ℕ, Bool, true, false, cond, List, [], ◌∷◌, ◌++◌, length, map, Option, Some, None, refl, sym, ap, ◌∙◌, subst, append_assoc, append-nil}
use Rattle.std.specs.Prelude.{◌&&◌, ◌||◌, ◌==◌, bytes_eq, find, is_some, option_map, All}
use Rattle.std.specs.Option.{option_or}
use Rattle.std.specs.FinMap.{FinMap, get}
use Rattle.std.proofs.lemmas.List.Folds.{find-append}
use Rattle.std.proofs.lemmas.List.Elements.{All-head, All-tail}
use Rattle.spent_table.specs.CdBase.ids.Fp.{Fp}
use Rattle.spent_table.specs.CdBase.ids.UserId.{UserId}
use Rattle.cloud_areas.specs.ContainerLog.Laying.{lengths}
use Rattle.cloud_areas.specs.RecordBody.body.PutItem.{PutItem}
use Rattle.spent_table.specs.CdBase.place.Place.{Place}
use Rattle.share_index.specs.Order.{owner_cmp, owner_of}
use Rattle.spent_table.specs.CdBase.Order.{fp_cmp}
use Rattle.cloud_areas.specs.UserDedup.Cloud.{fingerprint, has_fingerprint}
use Rattle.cloud_areas.specs.UserDedup.Owning.{is_among}
use Rattle.cloud_areas.proofs.UserDedup.Owned.{fp_same}
use Rattle.cloud_areas.specs.ContainerLog.Places.{place_of}
use Rattle.cloud_memory.specs.declared.rooms.New.{New}
use Rattle.cloud_memory.specs.Memory.{Memory}
use Rattle.cloud_memory.specs.Steps.{places_with, with_item, with_items, part_in, parts_of}
use Rattle.cloud_memory.proofs.Keys.{owner_in, place_in}

-- ---- places

-- the place that a share gets
abbrev pub place_for : Memory → New → Place
place_for m n = record { at = place_of m.shares_end n.len; len = n.len }

-- what is placed stays where it is, and the share has a place too
pub placed_more : (m : Memory) (user : UserId) (n : New) (f : Fp)
    → get (with_item user m (part_in m n)).places f.0 ≡ option_or (get m.places f.0) (cond (bytes_eq n.fp.0 f.0) (Some (place_for m n)) None)
placed_more m user n f = by_place (get m.places n.fp.0) refl (bytes_eq n.fp.0 f.0) refl
  where
    has : bytes_eq n.fp.0 f.0 ≡ true → (o : Option Place) → get m.places n.fp.0 ≡ o → get m.places f.0 ≡ o
    has t o is = ap (λ (q : Fp). get m.places q.0) (sym ((fp_same n.fp f).0 t)) ∙ is

    none_more : (o : Option Place) → o ≡ option_or o None
    none_more None = refl
    none_more (Some p) = refl

    by_place : (o : Option Place) → get m.places n.fp.0 ≡ o → (b : Bool) → bytes_eq n.fp.0 f.0 ≡ b
        → get (places_with m.places n.fp (cond (is_some o) None (Some (place_for m n)))) f.0 ≡ option_or (get m.places f.0) (cond b (Some (place_for m n)) None)
    by_place (Some p) is true t = has t (Some p) is ∙ sym (ap (λ (o : Option Place). option_or o (Some (place_for m n))) (has t (Some p) is))
    by_place (Some p) is false t = none_more (get m.places f.0)
    by_place None is true t =
        place_in m.places n.fp.0 (place_for m n) f.0 ∙ ap (λ (b : Bool). cond b (Some (place_for m n)) (get m.places f.0)) t
        ∙ sym (ap (λ (o : Option Place). option_or o (Some (place_for m n))) (has t None is))
    by_place None is false t =
        place_in m.places n.fp.0 (place_for m n) f.0 ∙ ap (λ (b : Bool). cond b (Some (place_for m n)) (get m.places f.0)) t ∙ none_more (get m.places f.0)

abbrev pub len_at : Option Place → Option ℕ
len_at o = option_map (λ (p : Place). p.len) o

-- each of these strings that is the first with its SHA-256 has a place of its length, and nothing else has one
abbrev pub ArePlaced : List (List ℕ) → FinMap fp_cmp Place → Type 0
ArePlaced strings places = (f : Fp) → len_at (get places f.0) ≡ option_map (λ (s : List ℕ). length s) (find (has_fingerprint f) strings)

map_or : (a b : Option Place) → len_at (option_or a b) ≡ option_or (len_at a) (len_at b)
map_or None b = refl
map_or (Some p) b = refl

string_or : (a b : Option (List ℕ)) → option_map (λ (s : List ℕ). length s) (option_or a b) ≡ option_or (option_map (λ (s : List ℕ). length s) a) (option_map (λ (s : List ℕ). length s) b)
string_or None b = refl
string_or (Some s) b = refl

-- one string more
pub one_placed : (strings : List (List ℕ)) (s : List ℕ) (m : Memory) (user : UserId) (n : New) → n.fp ≡ fingerprint s → n.len ≡ length s
    → ArePlaced strings m.places → ArePlaced (strings ++ s ∷ []) (with_item user m (part_in m n)).places
one_placed strings s m user n fp len placed f =
    ap len_at (placed_more m user n f) ∙ map_or (get m.places f.0) (cond (bytes_eq n.fp.0 f.0) (Some (place_for m n)) None)
    ∙ (λ i. option_or (placed f i) (last i))
    ∙ sym (ap (option_map (λ (s : List ℕ). length s)) (find-append (has_fingerprint f) strings (s ∷ [])) ∙ string_or (find (has_fingerprint f) strings) (cond (has_fingerprint f s) (Some s) None))
  where
    by_test : (b : Bool) → len_at (cond b (Some (place_for m n)) None) ≡ option_map (λ (s : List ℕ). length s) (cond b (Some s) None)
    by_test true = ap Some len
    by_test false = refl

    last : len_at (cond (bytes_eq n.fp.0 f.0) (Some (place_for m n)) None) ≡ option_map (λ (s : List ℕ). length s) (cond (has_fingerprint f s) (Some s) None)
    last =
        by_test (bytes_eq n.fp.0 f.0)
        ∙ ap (λ (q : Fp). option_map (λ (s : List ℕ). length s) (cond (bytes_eq q.0 f.0) (Some s) None)) fp

-- the fingerprints of some shares
abbrev pub fps_new : List New → List Fp
fps_new news = map (λ (n : New). n.fp) news

abbrev pub lens_new : List New → List ℕ
lens_new news = map (λ (n : New). n.len) news

-- all of them
pub all_placed : (before strings : List (List ℕ)) (m : Memory) (user : UserId) (news : List New) → fps_new news ≡ map fingerprint strings → lens_new news ≡ lengths strings
    → ArePlaced before m.places → ArePlaced (before ++ strings) (with_items user m (parts_of user m news)).places
all_placed before [] m user [] fps lens placed = subst (λ (l : List (List ℕ)). ArePlaced l m.places) (sym (append-nil before)) placed
all_placed before [] m user (n ∷ news) fps lens placed = absurd (let no : n.fp ∷ fps_new news ≡ [] = fps in cc)
all_placed before (s ∷ strings) m user [] fps lens placed = absurd (let no : [] ≡ fingerprint s ∷ map fingerprint strings = fps in cc)
all_placed before (s ∷ strings) m user (n ∷ news) fps lens placed =
    let all_fps : n.fp ∷ fps_new news ≡ fingerprint s ∷ map fingerprint strings = fps in
    let all_lens : n.len ∷ lens_new news ≡ length s ∷ lengths strings = lens in
    let fp : n.fp ≡ fingerprint s = cc in
    let fps_later : fps_new news ≡ map fingerprint strings = cc in
    let len : n.len ≡ length s = cc in
    let lens_later : lens_new news ≡ lengths strings = cc in
    let next = with_item user m (part_in m n) in
    subst (λ (l : List (List ℕ)). ArePlaced l (with_items user next (parts_of user next news)).places) (append_assoc before (s ∷ []) strings)
    (all_placed (before ++ s ∷ []) strings next user news fps_later lens_later (one_placed before s m user n fp len placed))

-- ---- owners

-- what the user owns behind the items
pub owners_more : (user : UserId) (m : Memory) (news : List New) (q : UserId) (f : Fp)
    → get (with_items user m (parts_of user m news)).owners (owner_of q.0 f.0) ≡ cond ((user.0 == q.0) && is_among (fps_new news) f) (Some 0) (get m.owners (owner_of q.0 f.0))
owners_more user m [] q f = sym (by_test (user.0 == q.0))
  where
    by_test : (b : Bool) → cond (b && false) (Some 0) (get m.owners (owner_of q.0 f.0)) ≡ get m.owners (owner_of q.0 f.0)
    by_test true = refl
    by_test false = refl
owners_more user m (n ∷ news) q f =
    let next = with_item user m (part_in m n) in
    owners_more user next news q f
    ∙ ap (λ (o : Option ℕ). cond ((user.0 == q.0) && is_among (fps_new news) f) (Some 0) o) (owner_in m.owners user.0 n.fp.0 0 q.0 f.0)
    ∙ by_test (user.0 == q.0) (is_among (fps_new news) f) (bytes_eq n.fp.0 f.0) (get m.owners (owner_of q.0 f.0))
  where
    by_test : (u a b : Bool) (o : Option ℕ) → cond (u && a) (Some 0) (cond (u && b) (Some 0) o) ≡ cond (u && (b || a)) (Some 0) o
    by_test true true true o = refl
    by_test true true false o = refl
    by_test true false true o = refl
    by_test true false false o = refl
    by_test false a b o = refl

-- the user owns none of these shares
pub all_lack : (owners : FinMap owner_cmp ℕ) (user : UserId) (news : List New) (f : Fp) → All (λ (n : New). get owners (owner_of user.0 n.fp.0) ≡ None) news
    → is_among (fps_new news) f ≡ true → get owners (owner_of user.0 f.0) ≡ None
all_lack owners user [] f all e = absurd (let no : false ≡ true = e in cc)
all_lack owners user (n ∷ news) f all e =
    by_test (bytes_eq n.fp.0 f.0) refl (all_lack owners user news f (All-tail (λ (n : New). get owners (owner_of user.0 n.fp.0) ≡ None) n news all)) e
  where
    by_test : (b : Bool) → bytes_eq n.fp.0 f.0 ≡ b → (is_among (fps_new news) f ≡ true → get owners (owner_of user.0 f.0) ≡ None)
        → (b || is_among (fps_new news) f) ≡ true → get owners (owner_of user.0 f.0) ≡ None
    by_test true t later e =
        ap (λ (x : Fp). get owners (owner_of user.0 x.0)) (sym ((fp_same n.fp f).0 t)) ∙ All-head (λ (n : New). get owners (owner_of user.0 n.fp.0) ≡ None) n news all
    by_test false t later e = later e

-- ---- what else stays

pub files_stay : (user : UserId) (m : Memory) (items : List PutItem) → (with_items user m items).files ≡ m.files
files_stay user m [] = refl
files_stay user m (item ∷ items) = files_stay user (with_item user m item) items

pub spent_stays : (user : UserId) (m : Memory) (items : List PutItem) → (with_items user m items).spent ≡ m.spent
spent_stays user m [] = refl
spent_stays user m (item ∷ items) = spent_stays user (with_item user m item) items

pub recipes_end_stays : (user : UserId) (m : Memory) (items : List PutItem) → (with_items user m items).recipes_end ≡ m.recipes_end
recipes_end_stays user m [] = refl
recipes_end_stays user m (item ∷ items) = recipes_end_stays user (with_item user m item) items
