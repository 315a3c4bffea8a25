-- Lists of items, shares and rooms.
use Rattle.std.proofs.Common.{◌≡◌, ◌≢◌, ◌⊎◌, ℕ, zero, suc, ◌+◌, ◌-◌, ◌*◌, ◌^◌, ◌<◌, ◌≤◌, List, [], ◌∷◌, ◌++◌, length, map, drop, get_or, None, Result, Ok, Err, refl, sym, ap, ◌∙◌, subst, arith, inl, inr, append-nil, append_assoc, length-append, length-drop, below_more}
use Rattle.std.proofs.Math.ListN.{set}
use Rattle.std.proofs.lemmas.List.{get_or-set_same, get_or-set_other, length-set, get_or-drop, drop-drop}
use Rattle.std.proofs.lemmas.Option.{get_or_from_slice_get, slice_get-get_or}
use Rattle.sha2.specs.Sha256.{sha256 as sha256_of}
use Rattle.std.specs.Prelude.{slice_index_or}
use Rattle.std.specs.List.{flat_map}
use Rattle.user_dedup.specs.CdBase.Lengths.{share_len_of}
use Rattle.user_dedup.specs.CdBase.ids.Fp.{Fp}
use Rattle.user_dedup.specs.CdBase.shape.Shape.{Shape}
use Rattle.user_dedup.specs.Recipe.items.Item.{Item}
use Rattle.user_dedup.specs.Owning.{fps_in}
use Rattle.std.specs.Int.{w16, w32, to_be_bytes}
use Rattle.std.proofs.lemmas.List.{get_or-map, length-map}
use Rattle.std.proofs.lemmas.List.Elements.{All-from_get_or}
use Rattle.user_dedup.specs.CdBase.ids.UserId.{UserId}
use Rattle.user_dedup.specs.Messages.request.Request.TheVariants as requests
use Rattle.user_dedup.specs.Messages.Requests.{FitsRequest, request_bytes}
use Rattle.restore_job.specs.Restored.{Unrestored, Given, no_item, item_of, items_difference, string_at, joined, behind, of_secret, secret_opened, secrets_opened}
use Rattle.caont_rs.specs.Opening.{opened}
use Rattle.caont_rs.specs.declared.opening.RecoverErr.TheVariants as opening
use Rattle.restore_job.specs.Restored
use Rattle.restore_job.specs.Steps.{AreItemsAt, IsShareOf, WithStrings, OpensSecretsTo, Grows, room_of}
use Rattle.restore_job.specs.declared.error.RestoreErr.{RestoreErr}
use Rattle.restore_job.specs.declared.error.RestoreErr.TheVariants as errors

-- ---- recipes

pub differ_end : (place : ℕ) (one other : List Item) → (one ≡ []) ⊎ (other ≡ []) → items_difference place one other ≡ None
differ_end place [] other e = refl
differ_end place (a ∷ more) [] e = refl
differ_end place (a ∷ more) (b ∷ bs) (inl e) = absurd (let n = ap length e in omega arith)
differ_end place (a ∷ more) (b ∷ bs) (inr e) = absurd (let n = ap length e in omega arith)

-- ---- requests

pub fps_long : (items : List Item) → AreItemsAt items → length (flat_map (λ (fp : Fp). fp.0) (fps_in items)) ≡ 32 * length items
fps_long [] are = refl
fps_long (i ∷ items) are =
    let here : length i.fp.0 ≡ 32 = (are 0 (omega arith)).fp in
    omega (arith, length-append i.fp.0 (flat_map (λ (fp : Fp). fp.0) (fps_in items)), here, fps_long items (λ k l. are (suc k) (omega arith)))

pub fits_shares : (user : UserId) (items : List Item) → user.0 < 2 ^ 32 → 1 ≤ length items → length items ≤ 256 → AreItemsAt items → FitsRequest (requests.GetShares user (fps_in items))
fits_shares user items range some few are =
    let long : length (fps_in items) ≡ length items = length-map items (λ (item : Item). item.fp) in (
      range,
      (
        (omega (arith, long), omega (arith, long)),
        All-from_get_or (λ (fp : Fp). length fp.0 ≡ 32) (fps_in items) no_item.fp
            (λ i lt. let l : i < length items = omega (arith, long) in ap (λ (fp : Fp). length fp.0) (get_or-map (λ (item : Item). item.fp) items i no_item no_item.fp l) ∙ (are i l).fp),
      ),
    )

pub length_shares : (user : UserId) (items : List Item) → AreItemsAt items → length (request_bytes (requests.GetShares user (fps_in items))) ≡ 7 + 32 * length items
length_shares user items are =
    let fps = fps_in items in
    let bytes : List ℕ = flat_map (λ (fp : Fp). fp.0) fps in
    omega (arith, length-append (to_be_bytes w32 user.0) (to_be_bytes w16 (length fps) ++ bytes), length-append (to_be_bytes w16 (length fps)) bytes, fps_long items are)

-- ---- opening

-- some bytes were appended, and this is what is due behind them
pub record Opening (due rest : Result (List ℕ) Unrestored) (old new : List ℕ) : Type 0 where
  pub done : List ℕ
  pub appended : new ≡ old ++ done
  pub left : due ≡ joined done rest

pub joined_none : (r : Result (List ℕ) Unrestored) → joined [] r ≡ r
joined_none (Ok bytes) = refl
joined_none (Err why) = refl

joined_on : (a b : List ℕ) (r : Result (List ℕ) Unrestored) → joined a (joined b r) ≡ joined (a ++ b) r
joined_on a b (Ok bytes) = ap Ok (sym (append_assoc a b bytes))
joined_on a b (Err why) = refl

pub opening_none : (due : Result (List ℕ) Unrestored) (out : List ℕ) → Opening due due out out
opening_none due out = record { done = []; appended = sym (append-nil out); left = sym (joined_none due) }

pub opening_is : (due rest other : Result (List ℕ) Unrestored) (old new : List ℕ) → rest ≡ other → Opening due rest old new → Opening due other old new
opening_is due rest other old new e o = subst (λ (r : Result (List ℕ) Unrestored). Opening due r old new) e o

-- one part more was opened
pub opening_more : (due next rest : Result (List ℕ) Unrestored) (old mid new : List ℕ) → Opening due (behind next rest) old mid → OpensSecretsTo next (Ok tt) mid new → Opening due rest old new
opening_more due next rest old mid new o opens = record {
  done = o.done ++ opens.0;
  appended = opens.1 ∙ ap (λ (l : List ℕ). l ++ opens.0) o.appended ∙ append_assoc old o.done opens.0;
  left = o.left ∙ ap (λ (r : Result (List ℕ) Unrestored). joined o.done (behind r rest)) opens.2 ∙ joined_on o.done opens.0 rest;
}

pub opening_stops : (due next rest : Result (List ℕ) Unrestored) (e : RestoreErr) (old mid new : List ℕ) → Opening due (behind next rest) old mid → OpensSecretsTo next (Err e) mid new → OpensSecretsTo due (Err e) old new
opening_stops due next rest e old mid new o opens = go e opens
  where
    refuses : (why : Unrestored) → next ≡ Err why → due ≡ Err why
    refuses why is = o.left ∙ ap (λ (r : Result (List ℕ) Unrestored). joined o.done (behind r rest)) is

    go : (e : RestoreErr) → OpensSecretsTo next (Err e) mid new → OpensSecretsTo due (Err e) old new
    go (errors.BadSecret secret named found) opens = refuses (Restored.NotOpened secret (opening.BadSecret named found)) opens
    go (errors.BadPad secret at byte) opens = refuses (Restored.NotOpened secret (opening.BadPad at byte)) opens
    go errors.NoMemory opens = tt
    go (errors.Missing c) opens = absurd opens
    go (errors.Lost c) opens = absurd opens
    go (errors.CloudFault c) opens = absurd opens
    go (errors.CloudDamaged c at byte) opens = absurd opens
    go (errors.CloudRotten c named found) opens = absurd opens
    go (errors.CloudNoMemory c) opens = absurd opens
    go (errors.Strange c kind) opens = absurd opens
    go (errors.RecipesDiffer a b at) opens = absurd opens
    go (errors.ShareLength c secret found wanted) opens = absurd opens
    go (errors.BadShare c secret named found) opens = absurd opens

pub opening_all : (due : Result (List ℕ) Unrestored) (old new : List ℕ) → Opening due (Ok []) old new → OpensSecretsTo due (Ok tt) old new
opening_all due old new o = (o.done, o.appended, o.left ∙ ap Ok (append-nil o.done))

-- the next secret, and those behind it
pub secrets_next : (shape : Shape) (firsts : List Item) (all : List Given) (place n j : ℕ) → j < n
    → secrets_opened shape firsts all (place + j) (n - j) ≡ behind (of_secret (place + j) (secret_opened shape firsts all (place + j))) (secrets_opened shape firsts all (place + (j + 1)) (n - (j + 1)))
secrets_next shape firsts all place n j lt =
    let e : n - j ≡ suc (n - (j + 1)) = omega arith in
    let p : place + j + 1 ≡ place + (j + 1) = omega arith in
    ap (secrets_opened shape firsts all (place + j)) e
    ∙ ap (λ (x : ℕ). behind (of_secret (place + j) (secret_opened shape firsts all (place + j))) (secrets_opened shape firsts all x (n - (j + 1)))) p

pub secrets_done : (shape : Shape) (firsts : List Item) (all : List Given) (place n j : ℕ) → n ≤ j → secrets_opened shape firsts all (place + j) (n - j) ≡ Ok []
secrets_done shape firsts all place n j le = let e : n - j ≡ zero = omega arith in ap (secrets_opened shape firsts all (place + j)) e

pub secret_is : (shape : Shape) (firsts : List Item) (all : List Given) (points room : List ℕ) (i : ℕ) → points ≡ map (λ given. given.cloud) all → room ≡ flat_map (λ given. string_at given i) all
    → opened shape (item_of firsts i).secret_len points room ≡ secret_opened shape firsts all i
secret_is shape firsts all points room i p r = λ k. opened shape (item_of firsts i).secret_len (p k) (r k)

pub grows_on : (a b c : List ℕ) → Grows a b → Grows b c → Grows a c
grows_on a b c x y = (x.0 ++ y.0, y.1 ∙ ap (λ (l : List ℕ). l ++ y.0) x.1 ∙ append_assoc a x.0 y.0)

pub grows_none : (a : List ℕ) → Grows a a
grows_none a = ([], sym (append-nil a))

-- another default, within a list
pub other_default : {A : Type 0} (xs : List A) (i : ℕ) (a b : A) → i < length xs → get_or xs i b ≡ get_or xs i a
other_default xs i a b lt = get_or_from_slice_get xs i (get_or xs i a) b (slice_get-get_or xs i a lt)

-- an item that was read
pub item_is : (items : List Item) (i : ℕ) (x : Item) → i < length items → x ≡ get_or items i x → x ≡ item_of items i
item_is items i x lt e = e ∙ other_default items i no_item x lt

-- ---- taking shares

next_drop : {A : Type 0} (xs : List A) (j : ℕ) (x d : A) (more : List A) → drop j xs ≡ x ∷ more → (more ≡ drop (j + 1) xs) × (get_or xs j d ≡ x)
next_drop {A = A} xs j x d more e = (
  ap (drop 1) (sym e) ∙ drop-drop 1 j xs,
  ap (λ (k : ℕ). get_or xs k d) (omega arith) ∙ sym (get_or-drop j xs 0 d) ∙ ap (λ (l : List A). get_or l 0 d) e,
)

-- the shares so far were looked at, and each was appended in its room
pub record Taken (shape : Shape) (firsts items : List Item) (place : ℕ) (shares rooms filled rest : List (List ℕ)) (j : ℕ) : Type 0 where
  pub rest_is : rest ≡ drop j shares
  pub are : (i : ℕ) → i < j → IsShareOf shape firsts items place shares i
  pub with : WithStrings j shares rooms filled
  pub others : (i : ℕ) → j ≤ i → room_of filled i ≡ room_of rooms i
  pub len : length filled ≡ length rooms

pub taken_none : (shape : Shape) (firsts items : List Item) (place : ℕ) (shares rooms : List (List ℕ)) → Taken shape firsts items place shares rooms rooms shares 0
taken_none shape firsts items place shares rooms = record {
  rest_is = refl;
  are = λ i l. absurd (omega arith);
  with = λ i l. absurd (omega arith);
  others = λ i l. refl;
  len = refl;
}

pub taken_over : {P : Type 0} (shape : Shape) (firsts items : List Item) (place : ℕ) (shares rooms filled rest : List (List ℕ)) (j n : ℕ) → Taken shape firsts items place shares rooms filled rest j
    → rest ≡ [] → j < n → length shares ≡ n → P
taken_over shape firsts items place shares rooms filled rest j n t none lt all =
    absurd (let e = ap length (sym t.rest_is ∙ none) in omega (arith, length-drop j shares, e))

-- what looking at the next share says, of all of them
pub here_is : (shape : Shape) (firsts items : List Item) (place : ℕ) (shares rooms filled rest : List (List ℕ)) (j : ℕ) (share : List ℕ) (more : List (List ℕ)) → Taken shape firsts items place shares rooms filled rest j
    → rest ≡ share ∷ more → slice_index_or shares j [] ≡ share
here_is shape firsts items place shares rooms filled rest j share more t next = (next_drop shares j share [] more (sym t.rest_is ∙ next)).1

pub taken_more : (shape : Shape) (firsts items : List Item) (place : ℕ) (shares rooms filled rest new : List (List ℕ)) (j : ℕ) (share : List ℕ) (more : List (List ℕ)) (first item : Item)
    → Taken shape firsts items place shares rooms filled rest j → rest ≡ share ∷ more → j < length filled
    → first ≡ item_of firsts (place + j) → item ≡ item_of items (place + j)
    → length share ≡ share_len_of shape.k first.secret_len → sha256_of share ≡ item.fp.0
    → new ≡ set filled j (room_of filled j ++ share) → Taken shape firsts items place shares rooms new more (j + 1)
taken_more shape firsts items place shares rooms filled rest new j share more first item t next lt first_at item_at len hash now =
    let n = next_drop shares j share [] more (sym t.rest_is ∙ next) in
    record {
      rest_is = n.0;
      are = below_more _ _ t.are (record {
        len = ap length n.1 ∙ len ∙ ap (λ (x : Item). share_len_of shape.k x.secret_len) first_at;
        hash = ap sha256_of n.1 ∙ hash ∙ ap (λ (x : Item). x.fp.0) item_at;
      });
      with = below_more _ _
          (λ i l. (let ne : i ≢ j = omega arith in ap (λ (r : List (List ℕ)). room_of r i) now ∙ get_or-set_other filled j i (room_of filled j ++ share) [] ne ∙ t.with i l))
          (ap (λ (r : List (List ℕ)). room_of r j) now ∙ get_or-set_same filled j (room_of filled j ++ share) [] lt
          ∙ ap (λ (l : List ℕ). l ++ share) (t.others j (omega arith)) ∙ ap (λ (l : List ℕ). room_of rooms j ++ l) (sym n.1));
      others = λ i l. (let ne : i ≢ j = omega arith in ap (λ (r : List (List ℕ)). room_of r i) now ∙ get_or-set_other filled j i (room_of filled j ++ share) [] ne ∙ t.others i (omega arith));
      len = ap length now ∙ length-set filled j (room_of filled j ++ share) ∙ t.len;
    }
