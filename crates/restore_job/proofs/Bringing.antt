-- What a restored file follows from.
use Rattle.std.proofs.Common.{◌≡◌, ℕ, suc, ◌+◌, ◌<◌, List, [], ◌∷◌, ◌++◌, length, None, Some, Option, Result, Ok, Err, refl, sym, ap, ◌∙◌, subst, arith, append-nil, append_assoc}
use Rattle.std.specs.Prelude.{All, OnOk, slice_index_or, option_map}
use Rattle.std.proofs.lemmas.List.Elements.{All-nil, All-cons}
use Rattle.sha2.specs.Sha256.{sha256 as sha256_of}
use Rattle.user_dedup.specs.CdBase.ids.CloudNo.{CloudNo}
use Rattle.user_dedup.specs.CdBase.shape.Shape.{Shape}
use Rattle.caont_rs.specs.Opening.{opened}
use Rattle.caont_rs.specs.declared.opening.RecoverErr.{RecoverErr}
use Rattle.user_dedup.specs.Recipe.items.Item.{Item}
use Rattle.user_dedup.specs.Recipe.recipe.Recipe.{Recipe}
use Rattle.restore_job.specs.Brought.{in_a_row, HasShares, IsSecret, AreSecrets, Extends}
use Rattle.restore_job.specs.Restored
use Rattle.restore_job.specs.Restored.{Unrestored, item_of, of_secret, or_else, difference, differing}
use Rattle.restore_job.specs.Steps.{Takes, room_of}
use Rattle.restore_job.specs.declared.error.RestoreErr.{RestoreErr}

-- a string of a cloud stands in each room
abbrev pub CameOf : Recipe → ℕ → ℕ → List (List ℕ) → List (List ℕ) → Type 0
CameOf recipe place n old new = (j : ℕ) → j < n → (s : List ℕ) × (sha256_of s ≡ (item_of recipe.items (place + j)).fp.0) × (room_of new j ≡ room_of old j ++ s)

pub taken_came : (shape : Shape) (cloud : CloudNo) (firsts items : List Item) (recipe : Recipe) (place n : ℕ) (shares rooms filled : List (List ℕ)) (res : Result (Unit {0}) RestoreErr) → items ≡ recipe.items
    → Takes shape cloud firsts items place n shares rooms filled res → OnOk res (CameOf recipe place n rooms filled)
taken_came shape cloud firsts items recipe place n shares rooms filled (Ok u) same takes = λ j lt.
    (slice_index_or shares j [], (takes.0 j lt).hash ∙ ap (λ (l : List Item). (item_of l (place + j)).fp.0) same, takes.1 j lt)
taken_came shape cloud firsts items recipe place n shares rooms filled (Err e) same takes = tt

pub has_none : (i : ℕ) (room : List ℕ) → HasShares [] i room room
has_none i room = ([], tt, sym (append-nil room))

pub has_more : (recipe : Recipe) (recipes : List Recipe) (i : ℕ) (old mid new : List ℕ) (s : List ℕ) → sha256_of s ≡ (item_of recipe.items i).fp.0 → mid ≡ old ++ s → HasShares recipes i mid new → HasShares (recipe ∷ recipes) i old new
has_more recipe recipes i old mid new s hash here rest =
    (s ∷ rest.0, (hash, rest.1), rest.2 ∙ ap (λ (l : List ℕ). l ++ in_a_row rest.0) here ∙ append_assoc old s (in_a_row rest.0))

pub opened_is : (i : ℕ) (r : Result (List ℕ) RecoverErr) (file : List ℕ) → of_secret i r ≡ Ok file → r ≡ Ok file
opened_is i (Ok bytes) file e = ap (λ (x : Result (List ℕ) Unrestored). back x) e
  where
    back : Result (List ℕ) Unrestored → Result (List ℕ) RecoverErr
    back (Ok b) = Ok b
    back (Err why) = Ok bytes
opened_is i (Err why) file e = absurd (let f : Err (Restored.NotOpened i why) ≡ done file = e in cc)
  where
    done : List ℕ → Result (List ℕ) Unrestored
    done b = Ok b

pub extends_none : (shape : Shape) (clouds : List ℕ) (firsts : List Item) (recipes : List Recipe) (from to : ℕ) (out : List ℕ) → from ≡ to → Extends shape clouds firsts recipes from to out out
extends_none shape clouds firsts recipes from to out same =
    ([], sym (append-nil out), λ front are. subst (λ (n : ℕ). AreSecrets shape clouds firsts recipes n (front ++ [])) same (subst (AreSecrets shape clouds firsts recipes from) (sym (append-nil front)) are))

pub extends_more : (shape : Shape) (clouds : List ℕ) (firsts : List Item) (recipes : List Recipe) (from at to : ℕ) (old mid new secret : List ℕ) → suc at ≡ to
    → Extends shape clouds firsts recipes from at old mid → new ≡ mid ++ secret → IsSecret shape clouds firsts recipes at secret → Extends shape clouds firsts recipes from to old new
extends_more shape clouds firsts recipes from at to old mid new secret next e now is = (
  e.0 ++ secret,
  now ∙ ap (λ (l : List ℕ). l ++ secret) e.1 ∙ append_assoc old e.0 secret,
  λ front are. subst (λ (n : ℕ). AreSecrets shape clouds firsts recipes n (front ++ (e.0 ++ secret))) next
      (front ++ e.0, secret, sym (append_assoc front e.0 secret), e.2 front are, is),
)

pub extends_on : (shape : Shape) (clouds : List ℕ) (firsts : List Item) (recipes : List Recipe) (from at to : ℕ) (old mid new : List ℕ)
    → Extends shape clouds firsts recipes from at old mid → Extends shape clouds firsts recipes at to mid new → Extends shape clouds firsts recipes from to old new
extends_on shape clouds firsts recipes from at to old mid new one two = (
  one.0 ++ two.0,
  two.1 ∙ ap (λ (l : List ℕ). l ++ two.0) one.1 ∙ append_assoc old one.0 two.0,
  λ front are. subst (AreSecrets shape clouds firsts recipes to) (append_assoc front one.0 two.0) (two.2 (front ++ one.0) (one.2 front are)),
)

pub opened_here : (shape : Shape) (clouds : List ℕ) (firsts : List Item) (recipes : List Recipe) (i : ℕ) (room : List ℕ) (file old new : List ℕ) → HasShares recipes i [] room
    → of_secret i (opened shape (item_of firsts i).secret_len clouds room) ≡ Ok file → IsSecret shape clouds firsts recipes i file
opened_here shape clouds firsts recipes i room file old new has is = record {
  strings = has.0;
  shares = has.1;
  opens = ap (opened shape (item_of firsts i).secret_len clouds) (sym has.2) ∙ opened_is i (opened shape (item_of firsts i).secret_len clouds room) file is;
}

-- recipes of which the first differs from none agree
pub none_differs : (cloud : ℕ) (recipe : Recipe) (clouds : List ℕ) (recipes : List Recipe) → length clouds ≡ length recipes → differing cloud recipe clouds recipes ≡ None → All (λ other. difference recipe other ≡ None) recipes
none_differs cloud recipe clouds [] long e = All-nil (λ other. difference recipe other ≡ None)
none_differs cloud recipe [] (r ∷ recipes) long e = absurd (omega arith)
none_differs cloud recipe (c ∷ clouds) (r ∷ recipes) long e =
    let parts = go (difference recipe r) (differing cloud recipe clouds recipes) e in
    All-cons (λ other. difference recipe other ≡ None) r recipes parts.0 (none_differs cloud recipe clouds recipes (omega arith) parts.1)
  where
    go : (o : Option ℕ) (rest : Option Unrestored) → or_else (option_map (Restored.RecipesDiffer cloud c) o) rest ≡ None → (o ≡ None) × (rest ≡ None)
    go None rest e = (refl, e)
    go (Some at) rest e = absurd (let f : Some (Restored.RecipesDiffer cloud c at) ≡ None = e in cc)
