-- Keys that rise, and those that are above one of them.
use Rattle.std.proofs.Common.{◌≡◌, Bool, true, false, cond, List, [], ◌∷◌, map, Option, Some, None, refl, sym, ap, ◌∙◌, subst}
use Rattle.std.specs.Prelude.{filter}
use Rattle.std.specs.List.{Contains}
use Rattle.std.specs.declared.cmp.Ordering.TheVariants.{Less}
use Rattle.std.specs.Ordering.{ordering_reverse, is_lt}
use Rattle.std.proofs.lemmas.Cmp.{tied_itself}
use Rattle.messages.specs.MessageFields.Keys.{is_above, AreAbove}
use Rattle.messages.specs.MessageFields.Keys.{key_cmp as cmp_keys}
use Rattle.cloud_memory.specs.UserDedup.file_list.FileEntry.{FileEntry}
use Rattle.cloud_memory.specs.UserDedup.Pages.{sorted_keys}
use Rattle.cloud_memory.specs.UserDedup.Pages.{key_of as file_key}
use Rattle.cloud_memory.proofs.UserDedup.Owned.{contains_here, contains_later}
use Rattle.cloud_memory.proofs.UserDedup.Pages.{sorted_above, Key}
use Rattle.cloud_memory.proofs.Next.{less_above, keys_total, behind}
use Rattle.cloud_memory.specs.Memory.{keys_above}

filter_all : (p : Key → Bool) (keys : List Key) → ((k : Key) → Contains keys k → p k ≡ true) → filter p keys ≡ keys
filter_all p [] all = refl
filter_all p (key ∷ keys) all =
    ap (λ b. cond b (key ∷ filter p keys) (filter p keys)) (all key (contains_here key keys)) ∙ ap (λ l. key ∷ l) (filter_all p keys (λ k c. all k (contains_later key keys k c)))

-- the first that passes is one of the keys
first_from : (p : Key → Bool) (keys : List Key) (key : Key) (rest : List Key) → filter p keys ≡ key ∷ rest → Contains keys key
first_from p [] key rest e = absurd (let wrong : [] ≡ key ∷ rest = e in cc)
first_from p (x ∷ keys) key rest e = by_test (p x) e (first_from p keys key rest)
  where
    by_test : (b : Bool) → cond b (x ∷ filter p keys) (filter p keys) ≡ key ∷ rest → (filter p keys ≡ key ∷ rest → Contains keys key) → Contains (x ∷ keys) key
    by_test true e next =
        let cons : x ∷ filter p keys ≡ key ∷ rest = e in
        let head : x ≡ key = cc in
        subst (λ k. Contains (x ∷ keys) k) head (contains_here x keys)
    by_test false e next = contains_later x keys key (next e)

-- of rising keys those above one of those above another
rest_above : (last : Option Key) (low : Option Key) (keys : List Key) (key : Key) (rest : List Key) → AreAbove low keys → filter (is_above last) keys ≡ key ∷ rest → filter (is_above (Some key)) keys ≡ rest
rest_above last low [] key rest a e = absurd (let wrong : [] ≡ key ∷ rest = e in cc)
rest_above last low (x ∷ keys) key rest a e = by_test (is_above last x) refl e (rest_above last (Some x) keys key rest a.1)
  where
    by_test : (b : Bool) → is_above last x ≡ b → cond b (x ∷ filter (is_above last) keys) (filter (is_above last) keys) ≡ key ∷ rest
        → (filter (is_above last) keys ≡ key ∷ rest → filter (is_above (Some key)) keys ≡ rest)
        → cond (is_above (Some key) x) (x ∷ filter (is_above (Some key)) keys) (filter (is_above (Some key)) keys) ≡ rest
    by_test true above e next =
        let cons : x ∷ filter (is_above last) keys ≡ key ∷ rest = e in
        let head : x ≡ key = cc in
        let tail : filter (is_above last) keys ≡ rest = cc in
        let not_itself : is_above (Some key) x ≡ false = subst (λ k. is_above (Some k) x ≡ false) head (ap is_lt (tied_itself keys_total x)) in
        ap (λ b. cond b (x ∷ filter (is_above (Some key)) keys) (filter (is_above (Some key)) keys)) not_itself
        ∙ filter_all (is_above (Some key)) keys (λ k c. subst (λ y. is_above (Some y) k ≡ true) head (ap is_lt (behind x keys k a.1 c)))
        ∙ sym (filter_all (is_above last) keys (λ k c. beyond last x k above (behind x keys k a.1 c)))
        ∙ tail
      where
        beyond : (last : Option Key) (x k : Key) → is_above last x ≡ true → cmp_keys x k ≡ Less → is_above last k ≡ true
        beyond None x k e f = refl
        beyond (Some z) x k e f = ap is_lt (keys_total.trans z x k (less_above (cmp_keys z x) e) f)
    by_test false above e next =
        let found : filter (is_above last) keys ≡ key ∷ rest = e in
        let there = behind x keys key a.1 (first_from (is_above last) keys key rest found) in
        let below : is_above (Some key) x ≡ false = ap is_lt (keys_total.antisymm key x ∙ ap ordering_reverse there) in
        ap (λ b. cond b (x ∷ filter (is_above (Some key)) keys) (filter (is_above (Some key)) keys)) below ∙ next found

pub keys_behind : (files : List FileEntry) (last : Option Key) (key : Key) (keys : List Key) → keys_above files last ≡ key ∷ keys → keys_above files (Some key) ≡ keys
keys_behind files last key keys e = rest_above last None (sorted_keys (map file_key files)) key keys (sorted_above (map file_key files)) e
