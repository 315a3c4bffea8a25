-- A memory that fits records fits them after a command more.
use Rattle.std.proofs.Common.{◌≡◌, ℕ, zero, suc, ◌≤◌, Bool, true, false, cond, List, [], ◌∷◌, fold, Option, Some, None, refl, sym, ap, ◌∙◌, subst, true≢false}
use Rattle.std.specs.Prelude.{All, IsSome, is_some, unwrap_or}
use Rattle.std.specs.FinMap.{FinMap, get, insert, get-insert, get-remove, get-empty}
use Rattle.std.specs.Cmp.{tied_itself}
use Rattle.std.specs.declared.cmp.Ordering.{Ordering}
use Rattle.std.specs.declared.cmp.Ordering.TheVariants.{Less, Equal, Greater}
use Rattle.std.specs.Ordering.{eq_by_cmp, is_eq}
use Rattle.std.proofs.lemmas.List.Elements.{All-nil, All-cons, All-head, All-tail}
use Rattle.spent_table.specs.CdBase.ids.Fp.{Fp}
use Rattle.spent_table.specs.CdBase.ids.UserId.{UserId}
use Rattle.file_index.specs.declared.key.Entry.{Entry}
use Rattle.file_index.specs.declared.key.FileKey.{FileKey}
use Rattle.file_index.specs.Order.{key_cmp}
use Rattle.file_index.specs.Files.{key_of}
use Rattle.file_index.proofs.Order.{key_total}
use Rattle.cloud_areas.specs.MessageFields.Shares.{share_limit}
use Rattle.cloud_areas.specs.RecordBody.body.CommitBody.{CommitBody}
use Rattle.cloud_areas.specs.RecordBody.body.PutItem.{PutItem}
use Rattle.cloud_areas.specs.RecordBody.body.KeptItem.{KeptItem}
use Rattle.cloud_areas.specs.RecordBody.Spelling.{FitsKept}
use Rattle.spent_table.specs.declared.Spent.{Spent}
use Rattle.spent_table.specs.CdBase.place.Place.{Place}
use Rattle.spent_table.specs.CdBase.Order.{fp_cmp}
use Rattle.spent_table.specs.CdBase.Limits.{recipe_limit}
use Rattle.share_index.specs.declared.key.Owner.{Owner}
use Rattle.share_index.specs.Order.{owner_cmp, owner_of, owner_exact}
use Rattle.share_index.specs.Placed.{AreAllPlaced}
use Rattle.share_index.specs.Shares.{uses_at}
use Rattle.share_index.proofs.Placing.{fp_total}
use Rattle.share_index.proofs.Owning.{owner_total}
use Rattle.cloud_memory.specs.declared.rooms.New.{New}
use Rattle.cloud_memory.specs.Memory.{Memory}
use Rattle.cloud_memory.specs.Sharing.{AreOwned}
use Rattle.cloud_memory.specs.Steps.{begun, with_item, with_items, with_put, places_with, part_in, parts_of, with_commit, without_entry, with_kept, with_kepts, with_entry, spends, with_spent, raised, with_use, less_one, without_use}
use Rattle.cloud_memory.specs.Fitting.{AreSharePlaces, AreRecipes, AreShort, FitsPart, FitsRecords, AreItemsPlaced}

pub begun_fits : (users region : ℕ) → FitsRecords (begun users region)
begun_fits users region = record {
  shares = λ fp place at. absurd (let no : ◌≡◌ {A = Option Place} None (Some place) = sym (get-empty fp_cmp fp) ∙ at in cc);
  recipes = λ key e at. absurd (let no : ◌≡◌ {A = Option Entry} None (Some e) = sym (get-empty key_cmp key) ∙ at in cc);
  short = λ key e at. absurd (let no : ◌≡◌ {A = Option Entry} None (Some e) = sym (get-empty key_cmp key) ∙ at in cc);
  placed = λ user fp owned. absurd (true≢false (sym owned ∙ ap is_some (get-empty owner_cmp (owner_of user fp))));
}

-- ---- what is owned has a place

abbrev HasPlace : FinMap fp_cmp Place → Fp → Type 0
HasPlace places fp = IsSome (get places fp.0)

is_equal : (r : Ordering) → is_eq r ≡ true → r ≡ Equal
is_equal Less e = absurd (true≢false (sym e))
is_equal Equal e = refl
is_equal Greater e = absurd (true≢false (sym e))

some_either : {A : Type 0} (b : Bool) (v : A) (o : Option A) → is_some o ≡ true → is_some (cond b (Some v) o) ≡ true
some_either true v o is = refl
some_either false v o is = is

some_before : {A : Type 0} (b : Bool) (o : Option A) → is_some (cond b None o) ≡ true → is_some o ≡ true
some_before true o is = absurd (true≢false (sym is))
some_before false o is = is

-- a fingerprint's own new place is there
own_place : (places : FinMap fp_cmp Place) (fp : Fp) (new : Place) → HasPlace (places_with places fp (Some new)) fp
own_place places fp new =
    ap is_some (get-insert fp_total places fp.0 new fp.0) ∙ ap (λ r. is_some (cond (is_eq r) (Some new) (get places fp.0))) (tied_itself fp_total fp.0)

-- A fingerprint has a place behind an item that gives one where it had none.
pub has_place : (places : FinMap fp_cmp Place) (fp : Fp) (o : Option Place) → (get places fp.0 ≡ None → IsSome o) → IsSome (get (places_with places fp o) fp.0)
has_place places fp (Some new) given = own_place places fp new
has_place places fp None given = by_value (get places fp.0) given
  where
    by_value : (x : Option Place) → (x ≡ None → false ≡ true) → IsSome x
    by_value None given = absurd (true≢false (sym (given refl)))
    by_value (Some place) given = refl

places_more : (places : FinMap fp_cmp Place) (owners : FinMap owner_cmp ℕ) (fp : Fp) (o : Option Place) → AreAllPlaced places owners → AreAllPlaced (places_with places fp o) owners
places_more places owners fp None fit = fit
places_more places owners fp (Some new) fit = λ user q owned.
    ap is_some (get-insert fp_total places fp.0 new q) ∙ some_either (eq_by_cmp fp_cmp q fp.0) new (get places q) (fit user q owned)

owner_more : (places : FinMap fp_cmp Place) (owners : FinMap owner_cmp ℕ) (user : UserId) (fp : Fp) (uses : ℕ) → HasPlace places fp → AreAllPlaced places owners
    → AreAllPlaced places (insert owners (owner_of user.0 fp.0) uses)
owner_more places owners user fp uses here fit = λ other q owned.
    by_test other q (eq_by_cmp owner_cmp (owner_of other q) (owner_of user.0 fp.0)) refl
    (sym (ap is_some (get-insert owner_total owners (owner_of user.0 fp.0) uses (owner_of other q))) ∙ owned)
  where
    by_test : (other : ℕ) (q : List ℕ) (b : Bool) → eq_by_cmp owner_cmp (owner_of other q) (owner_of user.0 fp.0) ≡ b
        → is_some (cond b (Some uses) (get owners (owner_of other q))) ≡ true → IsSome (get places q)
    by_test other q true t is =
        let same : owner_of other q ≡ owner_of user.0 fp.0 = owner_exact (owner_of other q) (owner_of user.0 fp.0) (is_equal _ t) in
        subst (λ (f : List ℕ). IsSome (get places f)) (sym (ap (λ (k : Owner). k.fp) same)) here
    by_test other q false t is = fit other q is

items_placed : (user : UserId) (items : List PutItem) (m : Memory) → AreItemsPlaced m.places items → AreAllPlaced m.places m.owners
    → AreAllPlaced (with_items user m items).places (with_items user m items).owners
items_placed user [] m each fit = fit
items_placed user (item ∷ items) m each fit =
    items_placed user items (with_item user m item) each.1
    (owner_more (places_with m.places item.fp item.place) m.owners user item.fp 0 each.0 (places_more m.places m.owners item.fp item.place fit))

parts_placed : (user : UserId) (news : List New) (m : Memory) → AreItemsPlaced m.places (parts_of user m news)
parts_placed user [] m = tt
parts_placed user (n ∷ news) m = (by_test (is_some (get m.places n.fp.0)) refl _, parts_placed user news (with_item user m (part_in m n)))
  where
    by_test : (b : Bool) → is_some (get m.places n.fp.0) ≡ b → (new : Place) → HasPlace (places_with m.places n.fp (cond b None (Some new))) n.fp
    by_test true t new = t
    by_test false t new = own_place m.places n.fp new

names_placed : (user : UserId) (names : List Fp) (places : FinMap fp_cmp Place) (owners : FinMap owner_cmp ℕ) → AreOwned owners user names → AreAllPlaced places owners
    → All (HasPlace places) names
names_placed user [] places owners owned fit = All-nil (HasPlace places)
names_placed user (fp ∷ names) places owners owned fit =
    All-cons (HasPlace places) fp names (fit user.0 fp.0 (All-head (λ (q : Fp). IsSome (get owners (owner_of user.0 q.0))) fp names owned))
    (names_placed user names places owners (All-tail (λ (q : Fp). IsSome (get owners (owner_of user.0 q.0))) fp names owned) fit)

uses_placed : (user : UserId) (names : List Fp) (places : FinMap fp_cmp Place) (owners : FinMap owner_cmp ℕ) → All (HasPlace places) names → AreAllPlaced places owners
    → AreAllPlaced places (fold (with_use user) owners names)
uses_placed user [] places owners all fit = fit
uses_placed user (fp ∷ names) places owners all fit =
    uses_placed user names places (with_use user owners fp) (All-tail (HasPlace places) fp names all)
    (owner_more places owners user fp (raised (uses_at owners (owner_of user.0 fp.0))) (All-head (HasPlace places) fp names all) fit)

less_placed : (user : UserId) (fp : Fp) (places : FinMap fp_cmp Place) (owners : FinMap owner_cmp ℕ) → AreAllPlaced places owners → AreAllPlaced places (without_use user owners fp)
less_placed user fp places owners fit = by_uses (uses_at owners (owner_of user.0 fp.0)) refl
  where
    some_uses : (o : Option ℕ) (n : ℕ) → unwrap_or o 0 ≡ suc n → IsSome o
    some_uses None n e = absurd (let no : 0 ≡ suc n = e in cc)
    some_uses (Some uses) n e = refl

    by_uses : (n : ℕ) → uses_at owners (owner_of user.0 fp.0) ≡ n → AreAllPlaced places (less_one user owners fp n)
    by_uses zero e = fit
    by_uses (suc zero) e = λ other q owned. fit other q (some_before (eq_by_cmp owner_cmp (owner_of other q) (owner_of user.0 fp.0)) (get owners (owner_of other q))
        (sym (ap is_some (get-remove owner_total owners (owner_of user.0 fp.0) (owner_of other q))) ∙ owned))
    by_uses (suc (suc n)) e =
        owner_more places owners user fp (suc n) (fit user.0 fp.0 (some_uses (get owners (owner_of user.0 fp.0)) (suc n) e)) fit

dropped_placed : (user : UserId) (names : List Fp) (places : FinMap fp_cmp Place) (owners : FinMap owner_cmp ℕ) → AreAllPlaced places owners
    → AreAllPlaced places (fold (without_use user) owners names)
dropped_placed user [] places owners fit = fit
dropped_placed user (fp ∷ names) places owners fit = dropped_placed user names places (without_use user owners fp) (less_placed user fp places owners fit)

-- ---- shares

abbrev pub place_or : Place → Option Place → Place
place_or other None = other
place_or other (Some place) = place

more_places : (places : FinMap fp_cmp Place) (fp : Fp) (o : Option Place) → ((place : Place) → o ≡ Some place → (1 ≤ place.len) × (place.len ≤ share_limit)) → AreSharePlaces places → AreSharePlaces (places_with places fp o)
more_places places fp None part fit = fit
more_places places fp (Some new) part fit = λ q place at. by_test q place (eq_by_cmp fp_cmp q fp.0) (sym (get-insert fp_total places fp.0 new q) ∙ at)
  where
    by_test : (q : List ℕ) (place : Place) (b : Bool) → cond b (Some new) (get places q) ≡ Some place → (1 ≤ place.len) × (place.len ≤ share_limit)
    by_test q place true e = part place e
    by_test q place false e = fit q place e

items_fit : (user : UserId) (items : List PutItem) (m : Memory) → All FitsPart items → AreSharePlaces m.places → AreSharePlaces (with_items user m items).places
items_fit user [] m parts fit = fit
items_fit user (item ∷ items) m parts fit =
    items_fit user items (with_item user m item) (All-tail FitsPart item items parts) (more_places m.places item.fp item.place (All-head FitsPart item items parts) fit)

same_files : (F : FinMap key_cmp Entry → Type 0) (user : UserId) (items : List PutItem) (m : Memory) → F m.files → F (with_items user m items).files
same_files F user [] m fit = fit
same_files F user (item ∷ items) m fit = same_files F user items (with_item user m item) fit

pub put_fits : (user : UserId) (items : List PutItem) (m : Memory) → All FitsPart items → AreItemsPlaced m.places items → FitsRecords m → FitsRecords (with_put user items m)
put_fits user items m parts each fit = record {
  shares = items_fit user items m parts fit.shares;
  recipes = same_files AreRecipes user items m fit.recipes;
  short = same_files AreShort user items m fit.short;
  placed = items_placed user items m each fit.placed;
}

abbrev FitsNew : New → Type 0
FitsNew n = (1 ≤ n.len) × (n.len ≤ share_limit)

part_fits : (m : Memory) (n : New) → FitsNew n → FitsPart (part_in m n)
part_fits m n fit place e = by_test (is_some (get m.places n.fp.0)) _ refl e
  where
    by_test : (b : Bool) (new : Place) → new.len ≡ n.len → cond b None (Some new) ≡ Some place → (1 ≤ place.len) × (place.len ≤ share_limit)
    by_test true new len e = absurd (let no : ◌≡◌ {A = Option Place} None (Some place) = e in cc)
    by_test false new len e =
        let same : n.len ≡ place.len = sym len ∙ ap (λ o. (place_or new o).len) e in
        subst (λ (l : ℕ). (1 ≤ l) × (l ≤ share_limit)) same fit

parts_fit : (user : UserId) (m : Memory) (news : List New) → All FitsNew news → All FitsPart (parts_of user m news)
parts_fit user m [] fit = All-nil FitsPart
parts_fit user m (n ∷ news) fit =
    All-cons FitsPart (part_in m n) (parts_of user (with_item user m (part_in m n)) news) (part_fits m n (All-head FitsNew n news fit))
    (parts_fit user (with_item user m (part_in m n)) news (All-tail FitsNew n news fit))

pub news_fit : (user : UserId) (news : List New) (m : Memory) → All (λ (n : New). (1 ≤ n.len) × (n.len ≤ share_limit)) news → FitsRecords m → FitsRecords (with_put user (parts_of user m news) m)
news_fit user news m fit old = put_fits user (parts_of user m news) m (parts_fit user m news fit) (parts_placed user news m) old

-- ---- what a record leaves

pub filled_fits : (user : UserId) (items : List PutItem) (m : Memory) → All FitsPart items → AreItemsPlaced m.places items → FitsRecords m → FitsRecords (with_items user m items)
filled_fits user items m parts each fit = record {
  shares = items_fit user items m parts fit.shares;
  recipes = same_files AreRecipes user items m fit.recipes;
  short = same_files AreShort user items m fit.short;
  placed = items_placed user items m each fit.placed;
}

pub kepts_fit : (items : List KeptItem) (m : Memory) → All FitsKept items → FitsRecords m → FitsRecords (with_kepts m items)
kepts_fit [] m kept fit = fit
kepts_fit (item ∷ items) m kept fit = kepts_fit items (with_kept m item) (All-tail FitsKept item items kept) (record {
  shares = more_places m.places item.fp (Some item.place) (λ place e. part place e (All-head FitsKept item items kept)) fit.shares;
  recipes = fit.recipes;
  short = fit.short;
  placed = places_more m.places m.owners item.fp (Some item.place) fit.placed;
})
  where
    part : (place : Place) → ◌≡◌ {A = Option Place} (Some item.place) (Some place) → FitsKept item → (1 ≤ place.len) × (place.len ≤ share_limit)
    part place e fits =
        let same : item.place.len ≡ place.len = ap (λ o. (place_or item.place o).len) e in
        subst (λ (l : ℕ). (1 ≤ l) × (l ≤ share_limit)) same fits.1.1

pub spends_fits : (user : UserId) (more : Spent) (m : Memory) → FitsRecords m → FitsRecords (spends user more m)
spends_fits user more m fit = record { shares = fit.shares; recipes = fit.recipes; short = fit.short; placed = fit.placed }

pub spent_fits : (user : UserId) (spent : Spent) (m : Memory) → FitsRecords m → FitsRecords (with_spent user spent m)
spent_fits user spent m fit = record { shares = fit.shares; recipes = fit.recipes; short = fit.short; placed = fit.placed }

-- ---- entries

pub entry_fits : (names : List Fp) (c : CommitBody) (m : Memory) → 1 ≤ c.len → c.len ≤ recipe_limit → AreOwned m.owners c.user names → FitsRecords m
    → FitsRecords (with_entry names c m)
entry_fits names c m some few owned fit = record {
  shares = fit.shares;
  recipes = λ key e at. (both key e at).0;
  short = λ key e at. (both key e at).1;
  placed = uses_placed c.user names m.places m.owners (names_placed c.user names m.places m.owners owned fit.placed) fit.placed;
}
  where
    len_or : Entry → Option Entry → ℕ
    len_or other None = other.len
    len_or other (Some e) = e.len

    by_test : (key : FileKey) (e : Entry) (b : Bool) → cond b (Some (record { at = c.at; len = c.len; fp = c.fp })) (get m.files key) ≡ Some e → (1 ≤ e.len) × (e.len ≤ recipe_limit)
    by_test key e true is = subst (λ (l : ℕ). (1 ≤ l) × (l ≤ recipe_limit)) (ap (len_or e) is) (some, few)
    by_test key e false is = (fit.recipes key e is, fit.short key e is)

    both : (key : FileKey) (e : Entry) → get (with_entry names c m).files key ≡ Some e → (1 ≤ e.len) × (e.len ≤ recipe_limit)
    both key e at = by_test key e (eq_by_cmp key_cmp key (key_of c.user.0 c.tag.0 c.version.0)) (sym (get-insert key_total m.files (key_of c.user.0 c.tag.0 c.version.0) _ key) ∙ at)

pub commit_fits : (names : List Fp) (c : CommitBody) (m : Memory) → 1 ≤ c.len → c.len ≤ recipe_limit → AreOwned m.owners c.user names → FitsRecords m
    → FitsRecords (with_commit names c m)
commit_fits names c m some few owned fit =
    let e = entry_fits names c m some few owned fit in record { shares = e.shares; recipes = e.recipes; short = e.short; placed = e.placed }

pub delete_fits : (names : List Fp) (user : UserId) (key : FileKey) (m : Memory) → FitsRecords m → FitsRecords (without_entry names user key m)
delete_fits names user key m fit = record {
  shares = fit.shares;
  recipes = λ q e at. fit.recipes q e (before q e at);
  short = λ q e at. fit.short q e (before q e at);
  placed = dropped_placed user names m.places m.owners fit.placed;
}
  where
    by_test : (q : FileKey) (e : Entry) (b : Bool) → cond b None (get m.files q) ≡ Some e → get m.files q ≡ Some e
    by_test q e true is = absurd (let no : ◌≡◌ {A = Option Entry} None (Some e) = is in cc)
    by_test q e false is = is

    before : (q : FileKey) (e : Entry) → get (without_entry names user key m).files q ≡ Some e → get m.files q ≡ Some e
    before q e at = by_test q e (eq_by_cmp key_cmp q key) (sym (get-remove key_total m.files key q) ∙ at)
