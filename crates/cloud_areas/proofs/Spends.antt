-- What a command spends is no less than what its record places.
use Rattle.std.proofs.Common.{◌≡◌, ℕ, ◌+◌, ◌≤◌, List, [], ◌∷◌, ◌++◌, length, map, Option, Some, None, refl, sym, ap, ◌∙◌, subst, arith, append_assoc}
use Rattle.std.specs.Prelude.{find, unwrap_or}
use Rattle.std.specs.List.{Contains, flat_map, sum_by}
use Rattle.std.proofs.lemmas.List.{map-append}
use Rattle.std.proofs.lemmas.List.Sums.{sum_by-cons, sum_by-append}
use Rattle.user_dedup.specs.CdBase.ids.Fp.{Fp}
use Rattle.container_log.specs.Laying.{Placed}
use Rattle.record_body.specs.declared.body.PutItem.{PutItem}
use Rattle.record_body.specs.Spelling.{Body}
use Rattle.user_dedup.specs.CdBase.place.Place.{Place}
use Rattle.user_dedup.specs.Cloud.{fingerprint, has_fingerprint}
use Rattle.user_dedup.specs.Owning.{is_among}
use Rattle.user_dedup.proofs.Owned.{contains_here, contains_later}
use Rattle.user_dedup.specs.declared.command.Command.{Command}
use Rattle.user_dedup.specs.declared.command.Command.TheVariants as commands
use Rattle.user_dedup.specs.Cloud.{strings_of, strings_in, recipes_of}
use Rattle.user_dedup.specs.Spending.{held_len, spent_by_all}
use Rattle.cloud_areas.specs.Placing.{places_given, shares_placed, recipes_placed, places_of, total_len}
use Rattle.cloud_areas.specs.Chains.{PlacedNew, AreItems, IsRecord}
use Rattle.cloud_areas.proofs.Lists.{in_map, flat_more}
use Rattle.cloud_areas.proofs.Placed.{strings_more, held_stays, placed_new, found_new}

sums_alike : (f g : List ℕ → ℕ) (xs : List (List ℕ)) → ((x : List ℕ) → Contains xs x → f x ≡ g x) → sum_by f xs ≡ sum_by g xs
sums_alike f g [] alike = refl
sums_alike f g (x ∷ xs) alike =
    omega (arith, sum_by-cons f x xs, sum_by-cons g x xs, alike x (contains_here x xs), sums_alike f g xs (λ y c. alike y (contains_later x xs y c)))

-- how long the string is that is found under a string's fingerprint
abbrev found_len : List (List ℕ) → List ℕ → ℕ
found_len strings s = length (unwrap_or (find (has_fingerprint (fingerprint s)) strings) [])

items_spend : (before shares : List (List ℕ)) (items : List PutItem) → AreItems (map fingerprint before) shares items
    → total_len (places_of (places_given items)) ≤ sum_by (found_len (before ++ shares)) shares
items_spend before [] [] is = omega arith
items_spend before [] (item ∷ items) is = absurd is
items_spend before (s ∷ ss) [] is = absurd is
items_spend before (s ∷ ss) (item ∷ items) is =
    by_place item.place is.1
    (subst (λ (l : List (List ℕ)). total_len (places_of (places_given items)) ≤ sum_by (found_len l) ss) (append_assoc before (s ∷ []) ss)
    (items_spend (before ++ s ∷ []) ss items (subst (λ (l : List Fp). AreItems l ss items) (sym (map-append fingerprint before (s ∷ []))) is.2)))
  where
    by_place : (o : Option Place) → PlacedNew (is_among (map fingerprint before) (fingerprint s)) s o
        → total_len (places_of (places_given items)) ≤ sum_by (found_len (before ++ s ∷ ss)) ss
        → total_len (places_of (places_given (record { fp = item.fp; place = o } ∷ items))) ≤ sum_by (found_len (before ++ s ∷ ss)) (s ∷ ss)
    by_place None new rest = omega (arith, rest, sum_by-cons (found_len (before ++ s ∷ ss)) s ss)
    by_place (Some place) new rest =
        let n = placed_new (is_among (map fingerprint before) (fingerprint s)) s place new in
        omega (
          arith,
          rest,
          n.1,
          ap (λ (o : Option (List ℕ)). length (unwrap_or o [])) (found_new before ss s n.0),
          sum_by-cons (found_len (before ++ s ∷ ss)) s ss,
          sum_by-cons (λ (p : Place). p.len) place (places_of (places_given items)),
        )

-- the strings of a longer list cost what they did, and those of its last command besides
longer : (list : List Command) (command : Command)
    → (spent_by_all (list ++ command ∷ [])).shares ≡ (spent_by_all list).shares + sum_by (held_len (list ++ command ∷ [])) (strings_of command)
longer list command =
    let more = list ++ command ∷ [] in
    ap (sum_by (held_len more)) (strings_more list command)
    ∙ sum_by-append (held_len more) (strings_in list) (strings_of command)
    ∙ ap (λ (n : ℕ). n + sum_by (held_len more) (strings_of command))
    (sums_alike (held_len more) (held_len list) (strings_in list)
    (λ s c. ap (λ (l : List ℕ). length l) (held_stays list command (fingerprint s) (in_map fingerprint (strings_in list) s c))))

placed_spent : (region : ℕ) (records : List Body) (list : List Command) (command : Command) (body : Body) (laid : List Placed) → IsRecord region records list command body laid
    → total_len (places_of (shares_placed body)) ≤ sum_by (held_len (list ++ command ∷ [])) (strings_of command)
placed_spent region records list (commands.Put user shares) body laid is =
    subst (λ (b : Body). total_len (places_of (shares_placed b)) ≤ sum_by (held_len (list ++ commands.Put user shares ∷ [])) shares) (sym is.0.body_is)
    (subst (λ (l : List (List ℕ)). total_len (places_of (places_given is.0.items)) ≤ sum_by (found_len l) shares) (sym (strings_more list (commands.Put user shares)))
    (items_spend (strings_in list) shares is.0.items is.0.each))
placed_spent region records list (commands.Commit user tag version recipe) body laid is =
    subst (λ (b : Body). total_len (places_of (shares_placed b)) ≤ 0) (sym is.body_is) (omega arith)
placed_spent region records list (commands.Delete user tag version) body laid is =
    subst (λ (b : Body). total_len (places_of (shares_placed b)) ≤ 0) (sym is.0) (omega arith)

pub shares_spent : (region : ℕ) (records : List Body) (list : List Command) (command : Command) (body : Body) (laid : List Placed) → IsRecord region records list command body laid
    → (spent_by_all list).shares + total_len (places_of (shares_placed body)) ≤ (spent_by_all (list ++ command ∷ [])).shares
shares_spent region records list command body laid is = omega (arith, longer list command, placed_spent region records list command body laid is)

recipe_spent : (region : ℕ) (records : List Body) (list : List Command) (command : Command) (body : Body) (laid : List Placed) → IsRecord region records list command body laid
    → total_len (recipes_placed body) ≡ sum_by (λ (recipe : List ℕ). length recipe) (recipes_of command)
recipe_spent region records list (commands.Put user shares) body laid is = ap (λ (b : Body). total_len (recipes_placed b)) is.0.body_is
recipe_spent region records list (commands.Commit user tag version recipe) body laid is = ap (λ (b : Body). total_len (recipes_placed b)) is.body_is
recipe_spent region records list (commands.Delete user tag version) body laid is = ap (λ (b : Body). total_len (recipes_placed b)) is.0

pub recipes_spent : (region : ℕ) (records : List Body) (list : List Command) (command : Command) (body : Body) (laid : List Placed) → IsRecord region records list command body laid
    → (spent_by_all list).recipes + total_len (recipes_placed body) ≡ (spent_by_all (list ++ command ∷ [])).recipes
recipes_spent region records list command body laid is =
    omega (
      arith,
      recipe_spent region records list command body laid is,
      ap (sum_by (λ (recipe : List ℕ). length recipe)) (flat_more recipes_of list command),
      sum_by-append (λ (recipe : List ℕ). length recipe) (flat_map recipes_of list) (recipes_of command),
    )
