-- What one command more does to what a list holds and what users have spent.
use Rattle.std.proofs.Common.{◌≡◌, ◌≢◌, ℕ, ◌+◌, ◌<◌, Bool, true, false, cond, List, [], ◌∷◌, ◌++◌, length, map, Option, Some, None, refl, sym, ap, ◌∙◌, append-nil, length-append, add-one, drop, drop-cons, suc}
use Rattle.std.specs.Prelude.{◌||◌, ◌↔◌, find, is_some, IsSome, option_map, unwrap_or, slice_set, slice_get}
use Rattle.std.specs.List.{Contains, flat_map, sum_by}
use Rattle.std.proofs.lemmas.List.Sums.{sum_by-append}
use Rattle.std.proofs.lemmas.List.Elements.{filter-append}
use Rattle.std.proofs.lemmas.Grind.{flat_map-append}
use Rattle.std.proofs.Math.Seq.{get_or-set_same, get_or-set_other}
use Rattle.std.specs.FinMap.{FinMap, get}
use Rattle.std.proofs.lemmas.Option.{get_or_from_slice_get, slice_get_within}
use Rattle.spent_table.specs.CdBase.ids.Fp.{Fp}
use Rattle.spent_table.specs.CdBase.ids.UserId.{UserId}
use Rattle.spent_table.specs.CdBase.place.Place.{Place}
use Rattle.spent_table.specs.CdBase.Order.{fp_cmp}
use Rattle.spent_table.specs.declared.Spent.{Spent as Row}
use Rattle.spent_table.specs.Spending.{spent_by, nothing as no_row}
use Rattle.cloud_areas.specs.UserDedup.Cloud.{fingerprint, has_fingerprint}
use Rattle.cloud_areas.specs.UserDedup.Owning.{is_among}
use Rattle.cloud_areas.proofs.UserDedup.Owned.{among_contains, contains_among}
use Rattle.cloud_areas.specs.UserDedup.command.Command.{Command}
use Rattle.cloud_areas.specs.UserDedup.Cloud.{is_of, commands_of, strings_of, strings_in, recipes_of, held_bytes}
use Rattle.cloud_areas.specs.UserDedup.Spending.{SpentByUser, held_len, spent_in, spent_of, spent_by_all}
use Rattle.cloud_areas.proofs.UserDedup.Views.{strings_among, sent_is_held, held_more}
use Rattle.cloud_areas.proofs.UserDedup.Spending.{sums_alike}
use Rattle.cloud_memory.proofs.Puts.{ArePlaced, len_at}

-- ---- strings

pub strings_more : (list : List Command) (command : Command) → strings_in (list ++ command ∷ []) ≡ strings_in list ++ strings_of command
strings_more list command = flat_map-append strings_of list (command ∷ []) ∙ ap (λ (l : List (List ℕ)). strings_in list ++ l) (append-nil (strings_of command))

pub among_found : (strings : List (List ℕ)) (fp : Fp) → is_among (map fingerprint strings) fp ≡ is_some (find (has_fingerprint fp) strings)
among_found [] fp = refl
among_found (s ∷ strings) fp = by_test (has_fingerprint fp s) (among_found strings fp)
  where
    by_test : (b : Bool) → is_among (map fingerprint strings) fp ≡ is_some (find (has_fingerprint fp) strings)
        → (b || is_among (map fingerprint strings) fp) ≡ is_some (cond b (Some s) (find (has_fingerprint fp) strings))
    by_test true rest = refl
    by_test false rest = rest

abbrev pub string_len : Option (List ℕ) → Option ℕ
string_len o = option_map (λ (s : List ℕ). length s) o

pub both_some : (o : Option Place) (w : Option (List ℕ)) → len_at o ≡ string_len w → is_some o ≡ is_some w
both_some None None e = refl
both_some None (Some s) e = absurd (let no : None ≡ Some (length s) = e in cc)
both_some (Some p) None e = absurd (let no : Some p.len ≡ None = e in cc)
both_some (Some p) (Some s) e = refl

len_of : (p : Place) (w : Option (List ℕ)) → Some p.len ≡ string_len w → p.len ≡ length (unwrap_or w [])
len_of p None e = absurd (let no : Some p.len ≡ None = e in cc)
len_of p (Some s) e = let same : Some p.len ≡ Some (length s) = e in cc

-- each string that is held has a place of its length
pub is_placed : (strings : List (List ℕ)) (places : FinMap fp_cmp Place) → ArePlaced strings places → (fp : Fp) → IsSome (get places fp.0) ↔ Contains (map fingerprint strings) fp
is_placed strings places placed fp =
    let same : is_some (get places fp.0) ≡ is_among (map fingerprint strings) fp =
    both_some (get places fp.0) (find (has_fingerprint fp) strings) (placed fp) ∙ sym (among_found strings fp) in
    (λ e. among_contains (map fingerprint strings) fp (sym same ∙ e), λ c. same ∙ contains_among (map fingerprint strings) fp c)

pub placed_len_is : (strings : List (List ℕ)) (places : FinMap fp_cmp Place) → ArePlaced strings places → (fp : Fp) (place : Place) → get places fp.0 ≡ Some place
    → place.len ≡ length (unwrap_or (find (has_fingerprint fp) strings) [])
placed_len_is strings places placed fp place is = len_of place (find (has_fingerprint fp) strings) (sym (ap len_at is) ∙ placed fp)

pub are_placed : (strings : List (List ℕ)) (places : FinMap fp_cmp Place) → ((fp : Fp) → IsSome (get places fp.0) ↔ Contains (map fingerprint strings) fp)
    → ((fp : Fp) (place : Place) → get places fp.0 ≡ Some place → place.len ≡ length (unwrap_or (find (has_fingerprint fp) strings) [])) → ArePlaced strings places
are_placed strings places iff lens fp = by_cases (get places fp.0) refl (find (has_fingerprint fp) strings) refl
  where
    by_cases : (o : Option Place) → get places fp.0 ≡ o → (w : Option (List ℕ)) → find (has_fingerprint fp) strings ≡ w → len_at o ≡ string_len w
    by_cases None is None found = refl
    by_cases None is (Some s) found =
        let there = (iff fp).1 (among_contains (map fingerprint strings) fp (among_found strings fp ∙ ap is_some found)) in
        absurd (let no : false ≡ true = sym (ap is_some is) ∙ there in cc)
    by_cases (Some p) is None found =
        let here = contains_among (map fingerprint strings) fp ((iff fp).0 (ap is_some is)) in
        absurd (let no : false ≡ true = sym (ap is_some found) ∙ sym (among_found strings fp) ∙ here in cc)
    by_cases (Some p) is (Some s) found = ap Some (lens fp p is ∙ ap (λ (w : Option (List ℕ)). length (unwrap_or w [])) found)

-- ---- what is spent

-- what is held of strings that were sent stays so
held_still : (list more : List Command) (some : List (List ℕ)) → ((s : List ℕ) → Contains some s → Contains (strings_in list) s)
    → sum_by (held_len (list ++ more)) some ≡ sum_by (held_len list) some
held_still list more some among =
    sums_alike (held_len (list ++ more)) (held_len list) some (λ s c.
    let h = sent_is_held list (fingerprint s) (s, among s c, refl) in
    let here : held_bytes list (fingerprint s) ≡ h.0 = ap (λ o. unwrap_or o []) h.1 in
    let there : held_bytes (list ++ more) (fingerprint s) ≡ h.0 = ap (λ o. unwrap_or o []) (held_more list more (fingerprint s) h.0 h.1) in
    ap (λ (l : List ℕ). length l) (there ∙ sym here))

-- the spent numbers with what these commands spend too
abbrev pub and_more : List Command → List Command → SpentByUser → SpentByUser
and_more list more s = record {
  owners = s.owners + length (strings_in more);
  shares = s.shares + sum_by (held_len list) (strings_in more);
  recipes = s.recipes + sum_by (λ (recipe : List ℕ). length recipe) (flat_map recipes_of more);
}

spent_with : (list more some extra : List Command) → ((s : List ℕ) → Contains (strings_in some) s → Contains (strings_in list) s)
    → spent_in (list ++ more) (some ++ extra) ≡ and_more (list ++ more) extra (spent_in list some)
spent_with list more some extra among =
    let strings : strings_in (some ++ extra) ≡ strings_in some ++ strings_in extra = flat_map-append strings_of some extra in
    let recipes : flat_map recipes_of (some ++ extra) ≡ flat_map recipes_of some ++ flat_map recipes_of extra = flat_map-append recipes_of some extra in
    let owners : length (strings_in (some ++ extra)) ≡ length (strings_in some) + length (strings_in extra) =
    ap (λ (l : List (List ℕ)). length l) strings ∙ length-append (strings_in some) (strings_in extra) in
    let old = held_still list more (strings_in some) among in
    let shares : sum_by (held_len (list ++ more)) (strings_in (some ++ extra)) ≡ sum_by (held_len list) (strings_in some) + sum_by (held_len (list ++ more)) (strings_in extra) =
    ap (sum_by (held_len (list ++ more))) strings ∙ sum_by-append (held_len (list ++ more)) (strings_in some) (strings_in extra)
    ∙ ap (λ (n : ℕ). n + sum_by (held_len (list ++ more)) (strings_in extra)) old in
    let lens : sum_by (λ (recipe : List ℕ). length recipe) (flat_map recipes_of (some ++ extra)) ≡ sum_by (λ (recipe : List ℕ). length recipe) (flat_map recipes_of some) + sum_by (λ (recipe : List ℕ). length recipe) (flat_map recipes_of extra) =
    ap (sum_by (λ (recipe : List ℕ). length recipe)) recipes ∙ sum_by-append (λ (recipe : List ℕ). length recipe) (flat_map recipes_of some) (flat_map recipes_of extra) in
    λ i. record { owners = owners i; shares = shares i; recipes = lens i }

-- what a user has spent behind one command more
pub spent_next : (list : List Command) (command : Command) (user : UserId)
    → spent_of (list ++ command ∷ []) user ≡ and_more (list ++ command ∷ []) (cond (is_of user command) (command ∷ []) []) (spent_of list user)
spent_next list command user =
    ap (spent_in (list ++ command ∷ [])) (filter-append (is_of user) list (command ∷ []))
    ∙ spent_with list (command ∷ []) (commands_of user list) (cond (is_of user command) (command ∷ []) []) (λ s c. strings_among (is_of user) list s c)

pub all_spent_next : (list : List Command) (command : Command) → spent_by_all (list ++ command ∷ []) ≡ and_more (list ++ command ∷ []) (command ∷ []) (spent_by_all list)
all_spent_next list command = spent_with list (command ∷ []) list (command ∷ []) (λ s c. c)

-- ---- rows

pub row_here : (rows : List Row) (user : UserId) (row : Row) → user.0 < length rows → spent_by (slice_set rows user.0 row) user ≡ row
row_here rows user row lt = get_or-set_same rows user.0 row no_row lt

pub row_there : (rows : List Row) (user q : UserId) (row : Row) → q.0 ≢ user.0 → spent_by (slice_set rows user.0 row) q ≡ spent_by rows q
row_there rows user q row other = get_or-set_other rows user.0 q.0 row no_row other

pub front_gone : {A : Type 0} (xs : List A) (i : ℕ) (x : A) → slice_get xs i ≡ Some x → drop i xs ≡ x ∷ drop (i + 1) xs
front_gone xs i x e = rw (add-one, drop-cons xs i x (slice_get_within xs i x e)) (ap (λ y. y ∷ drop (suc i) xs) (get_or_from_slice_get xs i x x e))
