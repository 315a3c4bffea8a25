-- Places and ends, as records leave them.
use Rattle.std.proofs.Common.{◌≡◌, ℕ, Bool, true, false, cond, List, [], ◌∷◌, ◌++◌, Option, Some, None, refl, sym, ap, ◌∙◌, subst, arith, inl, inr, append-nil, append_assoc}
use Rattle.std.specs.Prelude.{◌↔◌, max, bytes_eq, length, is_some, IsSome}
use Rattle.std.specs.List.{Contains}
use Rattle.std.specs.FinMap.{FinMap, get, insert}
use Rattle.std.proofs.lemmas.List.{map-append}
use Rattle.std.proofs.lemmas.Grind.{flat_map-append}
use Rattle.std.proofs.lemmas.List.Elements.{All-contains, Contains-append_left, Contains-append_right, Contains-append_cases}
use Rattle.cd_edges.specs.CdBase.ids.Fp.{Fp}
use Rattle.cd_edges.specs.CdBase.ids.Tag.{Tag}
use Rattle.cd_edges.specs.CdBase.ids.UserId.{UserId}
use Rattle.cd_edges.specs.CdBase.ids.Version.{Version}
use Rattle.cd_edges.specs.CdBase.shape.Shape.{Shape}
use Rattle.record_checks.specs.FileIndex.key.Entry.{Entry}
use Rattle.record_checks.specs.FileIndex.Files.{key_of}
use Rattle.record_checks.specs.RecordBody.body.PutItem.{PutItem}
use Rattle.record_checks.specs.RecordBody.body.KeptItem.{KeptItem}
use Rattle.record_checks.specs.RecordBody.Spelling as bodies
use Rattle.record_checks.specs.RecordBody.Spelling.{Body}
use Rattle.cd_edges.specs.CdBase.place.Place.{Place}
use Rattle.cd_edges.specs.CdBase.Order.{fp_cmp}
use Rattle.record_checks.proofs.UserDedup.Owned.{fp_same, contains_here, contains_nothing, contains_cases}
use Rattle.record_checks.specs.UserDedup.command.Command.{Command}
use Rattle.record_checks.specs.UserDedup.Cloud.{held_bytes}
use Rattle.record_checks.specs.CloudAreas.Placing.{places_given, places_kept, shares_placed, recipes_placed, shares_in, recipes_in, fps_placed, places_of, end_of, greatest_end, region_start, shares_end, recipes_end, HasPlace}
use Rattle.record_checks.specs.CloudAreas.Chains.{AreLong}
use Rattle.record_checks.proofs.CloudAreas.Apart.{Apart}
use Rattle.record_checks.proofs.CloudAreas.Behind.{recipes_more}
use Rattle.record_checks.proofs.CloudAreas.Lists.{in_map}
use Rattle.record_checks.proofs.CloudAreas.Placed.{shares_more, fps_sent, AreSent}
use Rattle.record_checks.specs.CloudMemory.Memory.{Memory, IsPlacedBy, commit_of}
use Rattle.record_checks.specs.CloudMemory.Steps.{with_item, with_items, with_put, with_kept, with_kepts}
use Rattle.record_checks.proofs.MemoryProofs.Keys.{place_in}
use Rattle.record_checks.proofs.MemoryProofs.PlacingLaw.{commit_placed, delete_placed, Gives}
use Rattle.record_checks.proofs.MemoryProofs.Puts.{files_stay, recipes_end_stays}
use Rattle.record_laws.specs.Leaving.{taken, recipe_for, record_left, left_by}

-- ---- places one after another

-- the places with these more
abbrev pub filled : FinMap fp_cmp Place → List (Fp × Place) → FinMap fp_cmp Place
filled places [] = places
filled places (x ∷ xs) = filled (insert places x.0.0 x.1) xs

-- the end, once it is behind these places too
abbrev pub further : ℕ → List Place → ℕ
further end [] = end
further end (p ∷ ps) = further (max end (end_of p)) ps

pub items_fill : (user : UserId) (m : Memory) (items : List PutItem) → (with_items user m items).places ≡ filled m.places (places_given items)
items_fill user m [] = refl
items_fill user m (item ∷ items) = by_place item.place (items_fill user (with_item user m item) items)
  where
    by_place : (o : Option Place)
        → (with_items user (with_item user m (record { fp = item.fp; place = o })) items).places ≡ filled (with_item user m (record { fp = item.fp; place = o })).places (places_given items)
        → (with_items user m (record { fp = item.fp; place = o } ∷ items)).places ≡ filled m.places (places_given (record { fp = item.fp; place = o } ∷ items))
    by_place None is = is
    by_place (Some p) is = is

pub items_end : (user : UserId) (m : Memory) (items : List PutItem) → (with_items user m items).shares_end ≡ further m.shares_end (places_of (places_given items))
items_end user m [] = refl
items_end user m (item ∷ items) = by_place item.place (items_end user (with_item user m item) items)
  where
    by_place : (o : Option Place)
        → (with_items user (with_item user m (record { fp = item.fp; place = o })) items).shares_end ≡ further (with_item user m (record { fp = item.fp; place = o })).shares_end (places_of (places_given items))
        → (with_items user m (record { fp = item.fp; place = o } ∷ items)).shares_end ≡ further m.shares_end (places_of (places_given (record { fp = item.fp; place = o } ∷ items)))
    by_place None is = is
    by_place (Some p) is = is

pub kepts_fill : (m : Memory) (items : List KeptItem) → (with_kepts m items).places ≡ filled m.places (places_kept items)
kepts_fill m [] = refl
kepts_fill m (item ∷ items) = kepts_fill (with_kept m item) items

pub kepts_end : (m : Memory) (items : List KeptItem) → (with_kepts m items).shares_end ≡ further m.shares_end (places_of (places_kept items))
kepts_end m [] = refl
kepts_end m (item ∷ items) = kepts_end (with_kept m item) items

-- a Kept leaves all else
pub kepts_files : (m : Memory) (items : List KeptItem) → (with_kepts m items).files ≡ m.files
kepts_files m [] = refl
kepts_files m (item ∷ items) = kepts_files (with_kept m item) items

pub kepts_owners : (m : Memory) (items : List KeptItem) → (with_kepts m items).owners ≡ m.owners
kepts_owners m [] = refl
kepts_owners m (item ∷ items) = kepts_owners (with_kept m item) items

pub kepts_spent : (m : Memory) (items : List KeptItem) → (with_kepts m items).spent ≡ m.spent
kepts_spent m [] = refl
kepts_spent m (item ∷ items) = kepts_spent (with_kept m item) items

pub kepts_recipes_end : (m : Memory) (items : List KeptItem) → (with_kepts m items).recipes_end ≡ m.recipes_end
kepts_recipes_end m [] = refl
kepts_recipes_end m (item ∷ items) = kepts_recipes_end (with_kept m item) items

-- ---- a record

module _ (shape : Shape) where
  pub record_fills : (inside : Bool) (recipe : List ℕ) (body : Body) (m : Memory) → (taken shape inside recipe body m).places ≡ filled m.places (shares_placed body)
  record_fills true recipe (bodies.Put user items) m = items_fill user m items
  record_fills false recipe (bodies.Put user items) m = items_fill user m items
  record_fills true recipe (bodies.Commit c) m = refl
  record_fills false recipe (bodies.Commit c) m = refl
  record_fills true recipe (bodies.Delete d) m = refl
  record_fills false recipe (bodies.Delete d) m = refl
  record_fills true recipe (bodies.Kept items) m = kepts_fill m items
  record_fills false recipe (bodies.Kept items) m = kepts_fill m items
  record_fills true recipe (bodies.Spent s) m = refl
  record_fills false recipe (bodies.Spent s) m = refl

  record_end : (inside : Bool) (recipe : List ℕ) (body : Body) (m : Memory) → (taken shape inside recipe body m).shares_end ≡ further m.shares_end (places_of (shares_placed body))
  record_end true recipe (bodies.Put user items) m = items_end user m items
  record_end false recipe (bodies.Put user items) m = items_end user m items
  record_end true recipe (bodies.Commit c) m = refl
  record_end false recipe (bodies.Commit c) m = refl
  record_end true recipe (bodies.Delete d) m = refl
  record_end false recipe (bodies.Delete d) m = refl
  record_end true recipe (bodies.Kept items) m = kepts_end m items
  record_end false recipe (bodies.Kept items) m = kepts_end m items
  record_end true recipe (bodies.Spent s) m = refl
  record_end false recipe (bodies.Spent s) m = refl

  record_recipes_end : (inside : Bool) (recipe : List ℕ) (body : Body) (m : Memory) → (taken shape inside recipe body m).recipes_end ≡ further m.recipes_end (recipes_placed body)
  record_recipes_end true recipe (bodies.Put user items) m = recipes_end_stays user m items
  record_recipes_end false recipe (bodies.Put user items) m = recipes_end_stays user m items
  record_recipes_end true recipe (bodies.Commit c) m = refl
  record_recipes_end false recipe (bodies.Commit c) m = refl
  record_recipes_end true recipe (bodies.Delete d) m = refl
  record_recipes_end false recipe (bodies.Delete d) m = refl
  record_recipes_end true recipe (bodies.Kept items) m = kepts_recipes_end m items
  record_recipes_end false recipe (bodies.Kept items) m = kepts_recipes_end m items
  record_recipes_end true recipe (bodies.Spent s) m = refl
  record_recipes_end false recipe (bodies.Spent s) m = refl

-- ---- ends

pub further_max : (end : ℕ) (ps : List Place) → further end ps ≡ max end (greatest_end 0 ps)
further_max end [] = omega arith
further_max end (p ∷ ps) = omega (arith, further_max (max end (end_of p)) ps)

greatest_max : (least : ℕ) (ps : List Place) → greatest_end least ps ≡ max least (greatest_end 0 ps)
greatest_max least [] = omega arith
greatest_max least (p ∷ ps) = omega (arith, greatest_max least ps)

-- the greatest end goes on by the places that come
pub end_goes_on : (least : ℕ) (old new : List Place) → further (greatest_end least old) new ≡ greatest_end least (old ++ new)
end_goes_on least [] new = further_max least new ∙ sym (greatest_max least new)
end_goes_on least (p ∷ old) new =
    omega (arith, end_goes_on least old new, further_max (greatest_end least old) new, further_max (max (end_of p) (greatest_end least old)) new)

module _ (shape : Shape) (region : ℕ) (records : List Body) (inside : Bool) (recipe : List ℕ) (body : Body) (m : Memory) where
  pub shares_end_next : m.shares_end ≡ shares_end region records → (taken shape inside recipe body m).shares_end ≡ shares_end region (records ++ body ∷ [])
  shares_end_next is =
      record_end shape inside recipe body m ∙ ap (λ (n : ℕ). further n (places_of (shares_placed body))) is
      ∙ end_goes_on (region_start region) (places_of (shares_in records)) (places_of (shares_placed body))
      ∙ ap (greatest_end (region_start region)) (sym (ap places_of (shares_more records body) ∙ map-append (λ (x : Fp × Place). x.1) (shares_in records) (shares_placed body)))

  pub recipes_end_next : m.recipes_end ≡ recipes_end region records → (taken shape inside recipe body m).recipes_end ≡ recipes_end region (records ++ body ∷ [])
  recipes_end_next is =
      record_recipes_end shape inside recipe body m ∙ ap (λ (n : ℕ). further n (recipes_placed body)) is
      ∙ end_goes_on (region_start region) (recipes_in records) (recipes_placed body)
      ∙ ap (greatest_end (region_start region)) (sym (recipes_more records body))

-- ---- which share lies where

-- one more, for a fingerprint that has none
pub one_gives : (pairs : List (Fp × Place)) (places : FinMap fp_cmp Place) (x : Fp × Place) → Gives pairs places → get places x.0.0 ≡ None
    → Gives (pairs ++ x ∷ []) (insert places x.0.0 x.1)
one_gives pairs places x gives none fp place =
    subst (λ (o : Option Place). o ≡ Some place ↔ Contains (pairs ++ x ∷ []) (fp, place)) (sym (place_in places x.0.0 x.1 fp.0)) (by_test (bytes_eq x.0.0 fp.0) refl)
  where
    by_test : (b : Bool) → bytes_eq x.0.0 fp.0 ≡ b → cond b (Some x.1) (get places fp.0) ≡ Some place ↔ Contains (pairs ++ x ∷ []) (fp, place)
    by_test true t =
        let same : x.0 ≡ fp = (fp_same x.0 fp).0 t in
        let free : get places fp.0 ≡ None = ap (λ (q : Fp). get places q.0) (sym same) ∙ none in (
          λ e. let here : x.1 ≡ place = cc in
              Contains-append_right pairs (x ∷ []) (fp, place) (subst (λ (y : Fp × Place). Contains (x ∷ []) y) (λ i. (same i, here i)) (contains_here x [])),
          λ c. elim (Contains-append_cases pairs (x ∷ []) (fp, place) c) [
            | inl old ↦ absurd (let never : None ≡ Some place = sym free ∙ (gives fp place).1 old in cc)
            | inr new ↦ elim (contains_cases x [] (fp, place) new) [
              | inl e ↦ ap (λ (y : Fp × Place). Some y.1) e
              | inr later ↦ absurd (contains_nothing (fp, place) later)
            ]
          ],
        )
    by_test false t = (
      λ e. Contains-append_left pairs (x ∷ []) (fp, place) ((gives fp place).0 e),
      λ c. elim (Contains-append_cases pairs (x ∷ []) (fp, place) c) [
        | inl old ↦ (gives fp place).1 old
        | inr new ↦ elim (contains_cases x [] (fp, place) new) [
          | inl e ↦ absurd (let other : false ≡ true = sym t ∙ (fp_same x.0 fp).1 (ap (λ (y : Fp × Place). y.0) e) in cc)
          | inr later ↦ absurd (contains_nothing (fp, place) later)
        ]
      ],
    )

-- in a list in which nothing comes twice, what stands behind others isn't one of them
pub apart_behind : {X : Type 0} (xs ys : List X) (y : X) → Apart (xs ++ y ∷ ys) → Contains xs y → ⊥
apart_behind [] ys y apart c = contains_nothing y c
apart_behind (x ∷ xs) ys y apart c = elim (contains_cases x xs y c) [
  | inl same ↦ apart.0 (Contains-append_right xs (y ∷ ys) x (subst (λ z. Contains (y ∷ ys) z) (sym same) (contains_here y ys)))
  | inr later ↦ apart_behind xs ys y apart.1 later
]

pub no_place : (pairs : List (Fp × Place)) (places : FinMap fp_cmp Place) (fp : Fp) → Gives pairs places → (Contains (fps_placed pairs) fp → ⊥) → get places fp.0 ≡ None
no_place pairs places fp gives free = by_place (get places fp.0) refl
  where
    by_place : (o : Option Place) → get places fp.0 ≡ o → o ≡ None
    by_place None is = refl
    by_place (Some p) is = absurd (free (in_map (λ (x : Fp × Place). x.0) pairs (fp, p) ((gives fp p).0 is)))

-- all of them, where none has two places
pub all_give : (pairs more : List (Fp × Place)) (places : FinMap fp_cmp Place) → Gives pairs places → Apart (fps_placed (pairs ++ more)) → Gives (pairs ++ more) (filled places more)
all_give pairs [] places gives apart = subst (λ (l : List (Fp × Place)). Gives l places) (sym (append-nil pairs)) gives
all_give pairs (x ∷ more) places gives apart =
    let listed : fps_placed (pairs ++ x ∷ more) ≡ fps_placed pairs ++ x.0 ∷ fps_placed more = map-append (λ (y : Fp × Place). y.0) pairs (x ∷ more) in
    let free = no_place pairs places x.0 gives (apart_behind (fps_placed pairs) (fps_placed more) x.0 (subst Apart listed apart)) in
    subst (λ (l : List (Fp × Place)). Gives l (filled places (x ∷ more))) (append_assoc pairs (x ∷ []) more)
    (all_give (pairs ++ x ∷ []) more (insert places x.0.0 x.1) (one_gives pairs places x gives free)
    (subst (λ (l : List (Fp × Place)). Apart (fps_placed l)) (sym (append_assoc pairs (x ∷ []) more)) apart))

-- ---- a record more

abbrev HaveCommits : List Body → Memory → Type 0
HaveCommits records m = (user : UserId) (tag : Tag) (version : Version) (e : Entry) → get m.files (key_of user.0 tag.0 version.0) ≡ Some e
    → Contains records (bodies.Commit (commit_of user tag version e))

same_files : (records : List Body) (body : Body) (old new : Memory) → new.files ≡ old.files → HaveCommits records old → HaveCommits (records ++ body ∷ []) new
same_files records body old new same have user tag version e is =
    Contains-append_left records (body ∷ []) (bodies.Commit (commit_of user tag version e))
    (have user tag version e (ap (λ mm. get mm (key_of user.0 tag.0 version.0)) (sym same) ∙ is))

pub record_commits : (shape : Shape) (records : List Body) (inside : Bool) (recipe : List ℕ) (body : Body) (m : Memory) → IsPlacedBy records m
    → HaveCommits (records ++ body ∷ []) (taken shape inside recipe body m)
record_commits shape records true recipe (bodies.Put user items) m placed =
    same_files records (bodies.Put user items) m (with_items user m items) (files_stay user m items) placed.recipes
record_commits shape records false recipe (bodies.Put user items) m placed =
    same_files records (bodies.Put user items) m (with_put user items m) (files_stay user m items) placed.recipes
record_commits shape records true recipe (bodies.Commit c) m placed = (commit_placed records [] c m placed).recipes
record_commits shape records false recipe (bodies.Commit c) m placed = (commit_placed records [] c m placed).recipes
record_commits shape records true recipe (bodies.Delete d) m placed = (delete_placed records [] d m placed).recipes
record_commits shape records false recipe (bodies.Delete d) m placed = (delete_placed records [] d m placed).recipes
record_commits shape records true recipe (bodies.Kept items) m placed =
    same_files records (bodies.Kept items) m (with_kepts m items) (kepts_files m items) placed.recipes
record_commits shape records false recipe (bodies.Kept items) m placed =
    same_files records (bodies.Kept items) m (with_kepts m items) (kepts_files m items) placed.recipes
record_commits shape records true recipe (bodies.Spent s) m placed = same_files records (bodies.Spent s) m (taken shape true recipe (bodies.Spent s) m) refl placed.recipes
record_commits shape records false recipe (bodies.Spent s) m placed = same_files records (bodies.Spent s) m (taken shape false recipe (bodies.Spent s) m) refl placed.recipes

pub record_placed : (shape : Shape) (records : List Body) (inside : Bool) (recipe : List ℕ) (body : Body) (m : Memory) → IsPlacedBy records m
    → Apart (fps_placed (shares_in (records ++ body ∷ []))) → IsPlacedBy (records ++ body ∷ []) (taken shape inside recipe body m)
record_placed shape records inside recipe body m placed apart = record {
  shares =
      subst (λ (l : List (Fp × Place)). Gives l (taken shape inside recipe body m).places) (sym (shares_more records body))
      (subst (Gives (shares_in records ++ shares_placed body)) (sym (record_fills shape inside recipe body m))
      (all_give (shares_in records) (shares_placed body) m.places placed.shares (subst (λ (l : List (Fp × Place)). Apart (fps_placed l)) (shares_more records body) apart)));
  recipes = record_commits shape records inside recipe body m placed;
}

-- ---- several records

pub apart_front : {X : Type 0} (xs ys : List X) → Apart (xs ++ ys) → Apart xs
apart_front [] ys apart = tt
apart_front (x ∷ xs) ys apart = (λ c. apart.0 (Contains-append_left xs ys x c), apart_front xs ys apart.1)

pub fps_append : (a b : List Body) → fps_placed (shares_in (a ++ b)) ≡ fps_placed (shares_in a) ++ fps_placed (shares_in b)
fps_append a b = ap fps_placed (flat_map-append shares_placed a b) ∙ map-append (λ (x : Fp × Place). x.0) (shares_in a) (shares_in b)

module _ (shape : Shape) (area : List ℕ) (inside : Bool) where
  pub all_placed : (before records : List Body) (m : Memory) → IsPlacedBy before m → Apart (fps_placed (shares_in (before ++ records)))
      → IsPlacedBy (before ++ records) (left_by shape area inside m records)
  all_placed before [] m placed apart = subst (λ (l : List Body). IsPlacedBy l m) (sym (append-nil before)) placed
  all_placed before (body ∷ records) m placed apart =
      let whole : Apart (fps_placed (shares_in ((before ++ body ∷ []) ++ records))) =
      subst (λ (l : List Body). Apart (fps_placed (shares_in l))) (sym (append_assoc before (body ∷ []) records)) apart in
      subst (λ (l : List Body). IsPlacedBy l (left_by shape area inside m (body ∷ records))) (append_assoc before (body ∷ []) records)
      (all_placed (before ++ body ∷ []) records (record_left shape area inside m body)
      (record_placed shape before inside (recipe_for area m body) body m placed
      (apart_front (fps_placed (shares_in (before ++ body ∷ []))) (fps_placed (shares_in records)) (subst Apart (fps_append (before ++ body ∷ []) records) whole)))
      whole)

  module _ (region : ℕ) where
    pub shares_end_all : (before records : List Body) (m : Memory) → m.shares_end ≡ shares_end region before
        → (left_by shape area inside m records).shares_end ≡ shares_end region (before ++ records)
    shares_end_all before [] m is = is ∙ ap (shares_end region) (sym (append-nil before))
    shares_end_all before (body ∷ records) m is =
        shares_end_all (before ++ body ∷ []) records (record_left shape area inside m body)
        (shares_end_next shape region before inside (recipe_for area m body) body m is)
        ∙ ap (shares_end region) (append_assoc before (body ∷ []) records)

    pub recipes_end_all : (before records : List Body) (m : Memory) → m.recipes_end ≡ recipes_end region before
        → (left_by shape area inside m records).recipes_end ≡ recipes_end region (before ++ records)
    recipes_end_all before [] m is = is ∙ ap (recipes_end region) (sym (append-nil before))
    recipes_end_all before (body ∷ records) m is =
        recipes_end_all (before ++ body ∷ []) records (record_left shape area inside m body)
        (recipes_end_next shape region before inside (recipe_for area m body) body m is)
        ∙ ap (recipes_end region) (append_assoc before (body ∷ []) records)

-- ---- what is remembered of places

-- each string that is held has a place of its length, where the records place them all
pub record Finds (list : List Command) (m : Memory) : Type 0 where
  pub placed : (fp : Fp) → IsSome (get m.places fp.0) ↔ Contains (fps_sent list) fp
  pub lens : (fp : Fp) (place : Place) → get m.places fp.0 ≡ Some place → place.len ≡ length (held_bytes list fp)

pub places_remembered : (list : List Command) (records : List Body) (m : Memory) → IsPlacedBy records m → AreSent list (shares_in records)
    → ((fp : Fp) → Contains (fps_sent list) fp → HasPlace records fp) → AreLong list (shares_in records) → Finds list m
places_remembered list records m placed sent all long = record {
  placed = λ fp. (
    λ some. by_place fp (get m.places fp.0) refl some,
    λ c. let has = all fp c in ap is_some ((placed.shares fp has.0).1 has.1),
  );
  lens = λ fp place is. All-contains (λ (x : Fp × Place). x.1.len ≡ length (held_bytes list x.0)) (shares_in records) (fp, place) long ((placed.shares fp place).0 is);
}
  where
    by_place : (fp : Fp) (o : Option Place) → get m.places fp.0 ≡ o → IsSome (get m.places fp.0) → Contains (fps_sent list) fp
    by_place fp None is some = absurd (let no : false ≡ true = sym (ap is_some is) ∙ some in cc)
    by_place fp (Some p) is some = sent (fp, p) ((placed.shares fp p).0 is)
