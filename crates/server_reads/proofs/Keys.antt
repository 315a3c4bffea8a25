-- The keys of a page, one after another.
use Rattle.std.proofs.Common.{◌≡◌, ℕ, ◌≤◌, Bool, true, false, cond, List, [], ◌∷◌, ◌++◌, length, map, take, Option, Some, None, IsTrue, refl, sym, ap, ◌∙◌, subst, append-nil, append_assoc}
use Rattle.std.specs.Prelude.{filter, slice_get}
use Rattle.std.proofs.lemmas.List.{take_all}
use Rattle.std.proofs.Math.Seq.{take-append_seam}
use Rattle.cloud_memory.specs.CdBase.ids.UserId.{UserId}
use Rattle.cloud_memory.specs.CdBase.shape.Shape.{Shape}
use Rattle.messages.specs.MessageFields.Keys.{is_above, IsKey, AreAbove, AreKeys}
use Rattle.cloud_memory.specs.UserDedup.command.Command.{Command}
use Rattle.cloud_memory.specs.UserDedup.file_list.FileEntry.{FileEntry}
use Rattle.cloud_memory.specs.UserDedup.Cloud.{user_view}
use Rattle.cloud_memory.specs.UserDedup.Pages.{sorted_keys}
use Rattle.cloud_memory.specs.UserDedup.Pages.{key_of as file_key}
use Rattle.cloud_memory.specs.Memory.{Memory, Remembers, keys_above}
use Rattle.cloud_memory.proofs.UserDedup.Pages.{Key}
use Rattle.server_reads.proofs.Rising.{keys_behind}

-- ---- the next key

front_passes : (p : Key → Bool) (keys : List Key) (key : Key) → slice_get (filter p keys) 0 ≡ Some key → p key ≡ true
front_passes p [] key e = absurd (let no : None ≡ Some key = e in cc)
front_passes p (x ∷ keys) key e = by_test (p x) refl (front_passes p keys key) e
  where
    by_test : (b : Bool) → p x ≡ b → (slice_get (filter p keys) 0 ≡ Some key → p key ≡ true) → slice_get (cond b (x ∷ filter p keys) (filter p keys)) 0 ≡ Some key → p key ≡ true
    by_test true h next f = let same : x ≡ key = (let g : Some x ≡ Some key = f in cc) in subst (λ k. p k ≡ true) same h
    by_test false h next f = next f

pub next_is_above : (files : List FileEntry) (last : Option Key) (key : Key) → slice_get (keys_above files last) 0 ≡ Some key → is_above last key ≡ true
next_is_above files last key e = front_passes (is_above last) (sorted_keys (map file_key files)) key e

front_none : (keys : List Key) → slice_get keys 0 ≡ None → keys ≡ []
front_none [] e = refl
front_none (key ∷ keys) e = absurd (let no : Some key ≡ None = e in cc)

front_some : (keys : List Key) (key : Key) → slice_get keys 0 ≡ Some key → (rest : List Key) × (keys ≡ key ∷ rest)
front_some [] key e = absurd (let no : None ≡ Some key = e in cc)
front_some (x ∷ keys) key e = (keys, let f : Some x ≡ Some key = e in let same : x ≡ key = cc in ap (λ k. k ∷ keys) same)

-- ---- along the keys

-- These keys rise from above the first one to the last one, and the others are those above the last one.
pub record Risen (m : Memory) (user : UserId) (after last : Option Key) (keys : List Key) : Type 0 where
  pub rising : (more : List Key) → AreKeys last more → AreKeys after (keys ++ more)
  pub all : (shape : Shape) (list : List Command) → Remembers shape list m
      → keys_above (user_view shape list user).files after ≡ keys ++ keys_above (user_view shape list user).files last

-- what is said of a next key
abbrev pub IsNextKey : Memory → UserId → Option Key → Option Key → Type 0
IsNextKey m user last next = (shape : Shape) (list : List Command) → Remembers shape list m → next ≡ slice_get (keys_above (user_view shape list user).files last) 0

pub none_risen : (m : Memory) (user : UserId) (after : Option Key) → Risen m user after after []
none_risen m user after = record { rising = λ more k. k; all = λ shape list is. refl }

pub risen_more : (m : Memory) (user : UserId) (after last : Option Key) (keys : List Key) (key : Key) → Risen m user after last keys
    → IsNextKey m user last (Some key) → IsTrue (is_above last key) → IsKey key → Risen m user after (Some key) (keys ++ key ∷ [])
risen_more m user after last keys key r next above range = record {
  rising = λ more k. subst (AreKeys after) (sym (append_assoc keys (key ∷ []) more)) (r.rising (key ∷ more) ((range, above), k));
  all = λ shape list is.
      let files = (user_view shape list user).files in
      let f = front_some (keys_above files last) key (sym (next shape list is)) in
      r.all shape list is ∙ ap (λ l. keys ++ l) (f.1 ∙ ap (λ l. key ∷ l) (sym (keys_behind files last key f.0 f.1)))
      ∙ sym (append_assoc keys (key ∷ []) (keys_above files (Some key)));
}

pub risen_keys : (m : Memory) (user : UserId) (after last : Option Key) (keys : List Key) → Risen m user after last keys → AreKeys after keys
risen_keys m user after last keys r = subst (AreKeys after) (append-nil keys) (r.rising [] tt)

pub take_front : {A : Type 0} (n : ℕ) (xs ys : List A) → length xs ≡ n → take n (xs ++ ys) ≡ xs
take_front n xs ys same = ap (λ m. take m (xs ++ ys)) (sym same) ∙ take-append_seam xs ys

-- where nothing is above the last key, these are all
pub risen_end : (m : Memory) (user : UserId) (after last : Option Key) (keys : List Key) (most : ℕ) → Risen m user after last keys
    → IsNextKey m user last None → length keys ≤ most
    → (shape : Shape) (list : List Command) → Remembers shape list m → keys ≡ take most (keys_above (user_view shape list user).files after)
risen_end m user after last keys most r next few shape list is =
    let files = (user_view shape list user).files in
    let none = front_none (keys_above files last) (sym (next shape list is)) in
    sym (ap (take most) (r.all shape list is ∙ ap (λ l. keys ++ l) none ∙ append-nil keys) ∙ take_all most keys few)

-- and where there are as many as may be, these are the first
pub risen_full : (m : Memory) (user : UserId) (after last : Option Key) (keys : List Key) (most : ℕ) → Risen m user after last keys → length keys ≡ most
    → (shape : Shape) (list : List Command) → Remembers shape list m → keys ≡ take most (keys_above (user_view shape list user).files after)
risen_full m user after last keys most r same shape list is =
    let files = (user_view shape list user).files in
    sym (ap (take most) (r.all shape list is) ∙ take_front most keys (keys_above files last) same)

-- ---- what the reply says

pub keys_rise : (last : Option Key) (keys : List Key) → AreKeys last keys → AreAbove last keys
keys_rise last [] k = tt
keys_rise last (key ∷ keys) k = (k.0.1, keys_rise (Some key) keys k.1)

pub keys_from_none : (last : Option Key) (keys : List Key) → AreKeys last keys → AreKeys None keys
keys_from_none last [] k = tt
keys_from_none last (key ∷ keys) k = ((k.0.0, refl), k.1)
