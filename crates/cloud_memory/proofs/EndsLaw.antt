-- Where the logs end, with one command and its record more.
use Rattle.std.proofs.Common.{◌≡◌, ℕ, ◌+◌, ◌*◌, ◌/◌, ◌%◌, ◌≤◌, Bool, true, false, cond, List, [], ◌∷◌, ◌++◌, length, Option, Some, None, refl, sym, ap, ◌∙◌, subst, arith, append-nil, leb-false}
use Rattle.std.specs.Prelude.{max, nat_le, is_some, sum_by}
use Rattle.std.specs.FinMap.{get}
use Rattle.std.proofs.lemmas.Grind.{flat_map-append}
use Rattle.std.proofs.lemmas.List.{map-append}
use Rattle.std.proofs.lemmas.List.Sums.{sum_by-cons}
use Rattle.spent_table.specs.CdBase.ids.Fp.{Fp}
use Rattle.spent_table.specs.CdBase.ids.Tag.{Tag}
use Rattle.spent_table.specs.CdBase.ids.UserId.{UserId}
use Rattle.spent_table.specs.CdBase.ids.Version.{Version}
use Rattle.spent_table.specs.CdBase.shape.Shape.{Shape}
use Rattle.cloud_areas.specs.ContainerLog.Places.{container_len, place_of}
use Rattle.file_index.specs.Files.{key_of}
use Rattle.cloud_areas.specs.RecordBody.body.PutItem.{PutItem}
use Rattle.cloud_areas.specs.RecordBody.Spelling as bodies
use Rattle.cloud_areas.specs.RecordBody.Spelling.{Body}
use Rattle.spent_table.specs.CdBase.place.Place.{Place}
use Rattle.cloud_areas.specs.UserDedup.command.Command.{Command}
use Rattle.cloud_areas.specs.UserDedup.command.Command.TheVariants as commands
use Rattle.cloud_areas.specs.UserDedup.Dedup.{IsSound}
use Rattle.cloud_areas.specs.UserDedup.Spending.{SpentByUser, held_len, spent_by_all}
use Rattle.cloud_areas.specs.Placing.{shares_in, recipes_placed, recipes_in, places_given, places_of, region_start, end_of, greatest_end}
use Rattle.cloud_areas.specs.Chains.{commit_of}
use Rattle.cloud_areas.proofs.Placed.{shares_more}
use Rattle.cloud_memory.specs.declared.rooms.New.{New}
use Rattle.cloud_memory.specs.Memory.{Memory, Remembers, HasEnds}
use Rattle.cloud_memory.specs.News.{AreOf, AreNewTo}
use Rattle.cloud_memory.specs.Steps.{end_with, with_item, with_items, part_in, parts_of, placed_len, len_or, with_put, with_commit, without_entry}
use Rattle.cloud_memory.specs.Steps as steps
use Rattle.cloud_memory.proofs.Puts.{place_for, recipes_end_stays}
use Rattle.cloud_memory.proofs.Adding.{first_held}
use Rattle.cloud_memory.proofs.Lists.{all_spent_next}
use Rattle.cloud_memory.proofs.PlacingLaw.{given_more}
use Rattle.cloud_memory.proofs.PutLaw.{cost_is}

recipes_more : (records : List Body) (body : Body) → recipes_in (records ++ body ∷ []) ≡ recipes_in records ++ recipes_placed body
recipes_more records body = flat_map-append recipes_placed records (body ∷ []) ∙ ap (λ (l : List Place). recipes_in records ++ l) (append-nil (recipes_placed body))

-- ---- ends

-- each place ends at or before this
abbrev AreBelow : ℕ → List Place → Type 0
AreBelow end [] = Unit {0}
AreBelow end (p ∷ ps) = (end_of p ≤ end) × AreBelow end ps

below_from : (least end : ℕ) (ps : List Place) → greatest_end least ps ≤ end → (least ≤ end) × AreBelow end ps
below_from least end [] le = (le, tt)
below_from least end (p ∷ ps) le =
    let rest = below_from least end ps (omega (arith, le)) in
    (rest.0, (omega (arith, le), rest.1))

below_to : (least end : ℕ) (ps : List Place) → least ≤ end → AreBelow end ps → greatest_end least ps ≤ end
below_to least end [] le below = le
below_to least end (p ∷ ps) le below = let first = below.0 in let rest = below_to least end ps le below.1 in omega (arith, first, rest)

below_further : (end other : ℕ) (ps : List Place) → end ≤ other → AreBelow end ps → AreBelow other ps
below_further end other [] le below = tt
below_further end other (p ∷ ps) le below = (let first = below.0 in omega (arith, first, le), below_further end other ps le below.1)

below_both : (end : ℕ) (ps qs : List Place) → AreBelow end ps → AreBelow end qs → AreBelow end (ps ++ qs)
below_both end [] qs one two = two
below_both end (p ∷ ps) qs one two = (one.0, below_both end ps qs one.1 two)

-- with places more
more_below : (least end other : ℕ) (ps qs : List Place) → greatest_end least ps ≤ end → end ≤ other → AreBelow other qs → greatest_end least (ps ++ qs) ≤ other
more_below least end other ps qs le further below =
    let had = below_from least end ps le in let first = had.0 in
    below_to least other (ps ++ qs) (omega (arith, first, further)) (below_both other ps qs (below_further end other ps further had.1) below)

-- a blob moves an end by at most twice its length
pub place_near : (end len : ℕ) → place_of end len + len ≤ end + 2 * len
place_near end len = by_test (nat_le (end % container_len + len) container_len) refl
  where
    by_test : (b : Bool) → nat_le (end % container_len + len) container_len ≡ b → cond b end ((end / container_len + 1) * container_len) + len ≤ end + 2 * len
    by_test true is = omega arith
    by_test false is = let far = leb-false (end % 4194304 + len) 4194304 is in omega (arith, far)

-- ---- a Put

end_near : (m : Memory) (n : New) → end_with m.shares_end (part_in m n).place ≤ m.shares_end + 2 * steps.held_len m.places n
end_near m n = by_place (get m.places n.fp.0)
  where
    by_place : (o : Option Place) → end_with m.shares_end (cond (is_some o) None (Some (place_for m n))) ≤ m.shares_end + 2 * len_or o n.len
    by_place None = let near = place_near m.shares_end n.len in omega (arith, near)
    by_place (Some p) = omega arith

end_further : (m : Memory) (item : PutItem) → m.shares_end ≤ end_with m.shares_end item.place
end_further m item = by_place item.place
  where
    by_place : (o : Option Place) → m.shares_end ≤ end_with m.shares_end o
    by_place None = omega arith
    by_place (Some p) = omega arith

all_further : (user : UserId) (m : Memory) (items : List PutItem) → m.shares_end ≤ (with_items user m items).shares_end
all_further user m [] = omega arith
all_further user m (item ∷ items) = let here = end_further m item in let rest = all_further user (with_item user m item) items in omega (arith, here, rest)

item_below : (m : Memory) (user : UserId) (item : PutItem) → AreBelow (end_with m.shares_end item.place) (places_of (places_given (item ∷ [])))
item_below m user item = by_place item.place refl
  where
    by_place : (o : Option Place) → item.place ≡ o → AreBelow (end_with m.shares_end item.place) (places_of (places_given (item ∷ [])))
    by_place None is = rw is tt
    by_place (Some p) is = rw is (omega arith, tt)

places_more : (item : PutItem) (items : List PutItem) → places_of (places_given (item ∷ items)) ≡ places_of (places_given (item ∷ [])) ++ places_of (places_given items)
places_more item items = ap places_of (given_more item items) ∙ map-append (λ (x : Fp × Place). x.1) (places_given (item ∷ [])) (places_given items)

items_below : (user : UserId) (m : Memory) (items : List PutItem) → AreBelow (with_items user m items).shares_end (places_of (places_given items))
items_below user m [] = tt
items_below user m (item ∷ items) =
    let next = with_item user m item in
    subst (AreBelow (with_items user next items).shares_end) (sym (places_more item items))
    (below_both (with_items user next items).shares_end (places_of (places_given (item ∷ []))) (places_of (places_given items))
    (below_further (end_with m.shares_end item.place) (with_items user next items).shares_end (places_of (places_given (item ∷ []))) (all_further user next items) (item_below m user item))
    (items_below user next items))

-- the end goes on by at most twice what is spent
pub put_near : (user : UserId) (m : Memory) (news : List New)
    → (with_items user m (parts_of user m news)).shares_end
    ≤ m.shares_end + 2 * sum_by (λ (item : PutItem). placed_len (get (with_items user m (parts_of user m news)).places item.fp.0)) (parts_of user m news)
put_near user m [] = omega arith
put_near user m (n ∷ news) =
    let next = with_item user m (part_in m n) in
    let last = (with_items user next (parts_of user next news)).places in
    let rest = put_near user next news in
    let here = end_near m n in
    let held = first_held m user n news in
    let sum = sum_by-cons (λ (item : PutItem). placed_len (get last item.fp.0)) (part_in m n) (parts_of user next news) in
    omega (arith, rest, here, held, sum)

pub put_ends : (shape : Shape) (cloud : ℕ) (list : List Command) (user : UserId) (strings : List (List ℕ)) (news : List New) (m : Memory) (region : ℕ) (records : List Body)
    → IsSound shape cloud list → Remembers shape list m → AreOf news strings → AreNewTo m user news → HasEnds region list records m
    → HasEnds region (list ++ commands.Put user strings ∷ []) (records ++ bodies.Put user (parts_of user m news) ∷ []) (with_put user (parts_of user m news) m)
put_ends shape cloud list user strings news m region records sound r of new ends =
    let items = parts_of user m news in
    let filled = with_items user m items in
    let further = all_further user m items in
    let all = all_spent_next list (commands.Put user strings) in
    let listed = ap (λ (l : List (Fp × Place)). places_of l) (shares_more records (bodies.Put user items)) ∙ map-append (λ (x : Fp × Place). x.1) (shares_in records) (places_given items) in
    let recipes = recipes_more records (bodies.Put user items) ∙ append-nil (recipes_in records) in
    let cost = cost_is shape cloud list user strings news m sound r of new in
    let near = put_near user m news in
    let bound = ends.shares_bound in
    let shares : (spent_by_all (list ++ commands.Put user strings ∷ [])).shares ≡ (spent_by_all list).shares + sum_by (held_len (list ++ commands.Put user strings ∷ [])) strings =
    ap (λ (s : SpentByUser). s.shares) all ∙ ap (λ (l : List (List ℕ)). (spent_by_all list).shares + sum_by (held_len (list ++ commands.Put user strings ∷ [])) l) (append-nil strings) in
    let stays = recipes_end_stays user m items in
    let had = ends.recipes in
    let had_bound = ends.recipes_bound in
    let spent : (spent_by_all (list ++ commands.Put user strings ∷ [])).recipes ≡ (spent_by_all list).recipes + 0 = ap (λ (s : SpentByUser). s.recipes) all in
    record {
      shares =
          subst (λ (l : List Place). greatest_end (region_start region) l ≤ filled.shares_end) (sym listed)
          (more_below (region_start region) m.shares_end filled.shares_end (places_of (shares_in records)) (places_of (places_given items)) ends.shares further (items_below user m items));
      shares_bound = omega (arith, near, cost, bound, shares);
      recipes = subst (λ (l : List Place). greatest_end (region_start region) l ≤ filled.recipes_end) (sym recipes) (omega (arith, had, stays));
      recipes_bound = omega (arith, had_bound, stays, spent);
    }

-- ---- a Commit

pub commit_ends : (list : List Command) (user : UserId) (tag : Tag) (version : Version) (recipe : List ℕ) (names : List Fp) (m : Memory) (region : ℕ) (records : List Body)
    → HasEnds region list records m
    → HasEnds region (list ++ commands.Commit user tag version recipe ∷ []) (records ++ bodies.Commit (commit_of user tag version recipe (place_of m.recipes_end (length recipe))) ∷ [])
    (with_commit names (commit_of user tag version recipe (place_of m.recipes_end (length recipe))) m)
commit_ends list user tag version recipe names m region records ends =
    let c = commit_of user tag version recipe (place_of m.recipes_end (length recipe)) in
    let all = all_spent_next list (commands.Commit user tag version recipe) in
    let listed = ap (λ (l : List (Fp × Place)). places_of l) (shares_more records (bodies.Commit c) ∙ append-nil (shares_in records)) in
    let recipes = recipes_more records (bodies.Commit c) in
    let near = place_near m.recipes_end (length recipe) in
    let had = ends.shares in
    let had_bound = ends.shares_bound in
    let bound = ends.recipes_bound in
    let shares : (spent_by_all (list ++ commands.Commit user tag version recipe ∷ [])).shares ≡ (spent_by_all list).shares + 0 = ap (λ (s : SpentByUser). s.shares) all in
    let one : sum_by (λ (r : List ℕ). length r) (recipe ∷ []) ≡ length recipe = omega arith in
    let spent : (spent_by_all (list ++ commands.Commit user tag version recipe ∷ [])).recipes ≡ (spent_by_all list).recipes + length recipe =
    ap (λ (s : SpentByUser). s.recipes) all ∙ ap (λ (n : ℕ). (spent_by_all list).recipes + n) one in
    record {
      shares = subst (λ (l : List Place). greatest_end (region_start region) l ≤ m.shares_end) (sym listed) had;
      shares_bound = omega (arith, had_bound, shares);
      recipes =
          subst (λ (l : List Place). greatest_end (region_start region) l ≤ max m.recipes_end (c.at + length recipe)) (sym recipes)
          (more_below (region_start region) m.recipes_end (max m.recipes_end (c.at + length recipe)) (recipes_in records) (record { at = c.at; len = length recipe } ∷ []) ends.recipes (omega arith) (omega arith, tt));
      recipes_bound = omega (arith, near, bound, spent);
    }

-- ---- a Delete

pub delete_ends : (list : List Command) (user : UserId) (tag : Tag) (version : Version) (names : List Fp) (m : Memory) (region : ℕ) (records : List Body) → HasEnds region list records m
    → HasEnds region (list ++ commands.Delete user tag version ∷ []) (records ++ bodies.Delete (record { user = user; tag = tag; version = version }) ∷ [])
    (without_entry names user (key_of user.0 tag.0 version.0) m)
delete_ends list user tag version names m region records ends =
    let body = bodies.Delete (record { user = user; tag = tag; version = version }) in
    let all = all_spent_next list (commands.Delete user tag version) in
    let listed = ap (λ (l : List (Fp × Place)). places_of l) (shares_more records body ∙ append-nil (shares_in records)) in
    let recipes = recipes_more records body ∙ append-nil (recipes_in records) in
    let shares_bound = ends.shares_bound in
    let recipes_bound = ends.recipes_bound in
    let shares : (spent_by_all (list ++ commands.Delete user tag version ∷ [])).shares ≡ (spent_by_all list).shares + 0 = ap (λ (s : SpentByUser). s.shares) all in
    let spent : (spent_by_all (list ++ commands.Delete user tag version ∷ [])).recipes ≡ (spent_by_all list).recipes + 0 = ap (λ (s : SpentByUser). s.recipes) all in
    record {
      shares = subst (λ (l : List Place). greatest_end (region_start region) l ≤ m.shares_end) (sym listed) ends.shares;
      shares_bound = omega (arith, shares_bound, shares);
      recipes = subst (λ (l : List Place). greatest_end (region_start region) l ≤ m.recipes_end) (sym recipes) ends.recipes;
      recipes_bound = omega (arith, recipes_bound, spent);
    }
