-- The shares of a batch, from told clouds.
use Rattle.std.proofs.Common.{◌≡◌, ℕ, zero, suc, ◌+◌, ◌-◌, ◌<◌, ◌≤◌, Bool, cond, List, [], ◌∷◌, ◌++◌, length, map, take, drop, Option, Some, None, Result, Ok, Err, refl, sym, ap, ◌∙◌, subst, arith, length-drop, length-take-le, eq-eqb}
use Rattle.std.specs.Prelude.{All, slice_index_or, IsTrue, IfErr}
use Rattle.std.specs.List.{Contains}
use Rattle.std.proofs.lemmas.Bool.{ne_eqb}
use Rattle.std.proofs.lemmas.List.{get_or-map, get_or-take, get_or-drop, length-map}
use Rattle.std.proofs.lemmas.List.Elements.{All-from_get_or, All-get_or}
use Rattle.sha2.specs.Sha256.{sha256 as sha256_of}
use Rattle.user_dedup.specs.CdBase.Lengths.{share_len_of}
use Rattle.user_dedup.specs.CdBase.Reading.{AreBytes}
use Rattle.user_dedup.specs.CdBase.ids.CloudNo.{CloudNo}
use Rattle.user_dedup.specs.CdBase.ids.Fp.{Fp}
use Rattle.user_dedup.specs.CdBase.ids.Tag.{Tag}
use Rattle.user_dedup.specs.CdBase.ids.UserId.{UserId}
use Rattle.user_dedup.specs.CdBase.ids.Version.{Version}
use Rattle.user_dedup.specs.CdBase.shape.Shape.{Shape}
use Rattle.user_dedup.specs.Recipe.items.Item.{Item}
use Rattle.user_dedup.specs.Recipe.recipe.Recipe.{Recipe}
use Rattle.user_dedup.specs.Messages.reply.Reply.{Reply}
use Rattle.user_dedup.specs.Messages.reply.Reply.TheVariants as replies
use Rattle.user_dedup.specs.Messages.request.Request.TheVariants as requests
use Rattle.user_dedup.specs.Messages.ReplyReading.{reply_at}
use Rattle.user_dedup.specs.declared.command.Command.{Command}
use Rattle.user_dedup.specs.Owning.{fps_in}
use Rattle.user_dedup.specs.Exec.{Peer}
use Rattle.user_dedup.specs.Link.{LinkTelling, Asks, LeavesOthers, TellsSound}
use Rattle.restore_job.specs.Asking.{ReadFails, LeadsAny, among}
use Rattle.restore_job.specs.Refusals.{Names}
use Rattle.restore_job.specs.Restored
use Rattle.restore_job.specs.Restored.{Unrestored, Given, no_item, item_of, string_at, or_else, wrong_string, wrong_strings}
use Rattle.restore_job.specs.Steps.{Takes, SharesTold, SharesShown, Refuses, NoShares, ReadyAt, given_of, room_of}
use Rattle.restore_job.specs.declared.error.RestoreErr.{RestoreErr}
use Rattle.restore_job.specs.declared.error.RestoreErr.TheVariants as errors
use Rattle.restore_job.proofs.Leading.{step_among, leads_none}
use Rattle.restore_job.proofs.Causing.{FaultRose, takes_names, takes_rose, shares_names, shares_rose, shares_caused, fault_any}
use Rattle.restore_job.proofs.Held.{good, held_in, AreHeld, shares_moves, lost_moves, refused, error_is}

-- ---- the items of a batch

-- so many items, from a place on
abbrev pub part : ℕ → ℕ → List Item → List Item
part place n items = take (place + n - place) (drop place items)

part_at : (place n : ℕ) (items : List Item) (j : ℕ) → j < n → item_of (part place n items) j ≡ item_of items (place + j)
part_at place n items j lt = get_or-take (place + n - place) (drop place items) j no_item (omega arith) ∙ get_or-drop place items j no_item

part_long : (place n : ℕ) (items : List Item) → place + n ≤ length items → length (part place n items) ≡ n
part_long place n items fits = length-take-le (place + n - place) (drop place items) (omega (arith, length-drop place items)) ∙ omega arith

-- what holds of each item's fingerprint holds of those of a part
pub part_owned : (place n : ℕ) (items : List Item) → place + n ≤ length items → (own : List Fp) → All (Contains own) (fps_in items) → All (Contains own) (fps_in (part place n items))
part_owned place n items fits own all =
    All-from_get_or (Contains own) (fps_in (part place n items)) no_item.fp
    (λ j lt.
    let l : j < n = omega (arith, length-map (part place n items) (λ (item : Item). item.fp), part_long place n items fits) in
    let within : place + j < length items = omega arith in
    let mapped : length (fps_in items) ≡ length items = length-map items (λ (item : Item). item.fp) in
    subst (Contains own)
    (get_or-map (λ (item : Item). item.fp) items (place + j) no_item no_item.fp within ∙ ap (λ (x : Item). x.fp) (sym (part_at place n items j l))
    ∙ sym (get_or-map (λ (item : Item). item.fp) (part place n items) j no_item no_item.fp (omega (arith, part_long place n items fits))))
    (All-get_or (Contains own) (fps_in items) (place + j) no_item.fp (omega arith) all))

-- the string and the hash of each item of a part
pub string_is : (place n : ℕ) (items : List Item) (list : List Command) (j : ℕ) → place + n ≤ length items → j < n
    → slice_index_or (map (held_in list) (fps_in (part place n items))) j [] ≡ held_in list (item_of items (place + j)).fp
string_is place n items list j fits lt =
    let long = part_long place n items fits in
    let mapped : length (fps_in (part place n items)) ≡ length (part place n items) = length-map (part place n items) (λ (item : Item). item.fp) in
    get_or-map (held_in list) (fps_in (part place n items)) j no_item.fp [] (omega arith)
    ∙ ap (held_in list) (get_or-map (λ (item : Item). item.fp) (part place n items) j no_item no_item.fp (omega arith))
    ∙ ap (λ (x : Item). held_in list x.fp) (part_at place n items j lt)

pub hash_is : (place n : ℕ) (items : List Item) (list : List Command) (j : ℕ) → place + n ≤ length items → j < n → AreHeld list (fps_in (part place n items))
    → sha256_of (held_in list (item_of items (place + j)).fp) ≡ (item_of items (place + j)).fp.0
hash_is place n items list j fits lt held =
    let long = part_long place n items fits in
    let mapped : length (fps_in (part place n items)) ≡ length (part place n items) = length-map (part place n items) (λ (item : Item). item.fp) in
    let at = get_or-map (λ (item : Item). item.fp) (part place n items) j no_item no_item.fp (omega arith) ∙ ap (λ (x : Item). x.fp) (part_at place n items j lt) in
    subst (λ (fp : Fp). sha256_of (held_in list fp) ≡ fp.0) at (All-get_or (λ fp. sha256_of (held_in list fp) ≡ fp.0) (fps_in (part place n items)) j no_item.fp (omega arith) held)

-- ---- lengths

-- string i is as long as a share
abbrev FineAt : Shape → List Item → Given → ℕ → Type 0
FineAt shape firsts given i = length (string_at given i) ≡ share_len_of shape.k (item_of firsts i).secret_len

fine_none : (shape : Shape) (firsts : List Item) (given : Given) (i : ℕ) → FineAt shape firsts given i → wrong_string shape firsts given i ≡ None
fine_none shape firsts given i fine =
    ap (λ (b : Bool). cond b None (Some (Restored.ShareLength given.cloud i (length (string_at given i)) (share_len_of shape.k (item_of firsts i).secret_len)))) (eq-eqb _ _ fine)

wrong_some : (shape : Shape) (firsts : List Item) (given : Given) (i : ℕ) → (FineAt shape firsts given i → ⊥)
    → wrong_string shape firsts given i ≡ Some (Restored.ShareLength given.cloud i (length (string_at given i)) (share_len_of shape.k (item_of firsts i).secret_len))
wrong_some shape firsts given i wrong =
    ap (λ (b : Bool). cond b None (Some (Restored.ShareLength given.cloud i (length (string_at given i)) (share_len_of shape.k (item_of firsts i).secret_len)))) (ne_eqb _ _ wrong)

pub all_fine : (shape : Shape) (firsts : List Item) (given : Given) (place n : ℕ) → ((j : ℕ) → j < n → FineAt shape firsts given (place + j)) → wrong_strings shape firsts given place n ≡ None
all_fine shape firsts given place zero fine = refl
all_fine shape firsts given place (suc n) fine =
    ap (λ (o : Option Unrestored). or_else o (wrong_strings shape firsts given (place + 1) n)) (fine_none shape firsts given place (subst (FineAt shape firsts given) (omega arith) (fine 0 (omega arith))))
    ∙ all_fine shape firsts given (place + 1) n (λ j lt. let e : place + suc j ≡ place + 1 + j = omega arith in subst (FineAt shape firsts given) e (fine (suc j) (omega arith)))

pub first_wrong : (shape : Shape) (firsts : List Item) (given : Given) (place n j : ℕ) → j < n → ((i : ℕ) → i < j → FineAt shape firsts given (place + i)) → (FineAt shape firsts given (place + j) → ⊥)
    → wrong_strings shape firsts given place n ≡ Some (Restored.ShareLength given.cloud (place + j) (length (string_at given (place + j))) (share_len_of shape.k (item_of firsts (place + j)).secret_len))
first_wrong shape firsts given place zero j lt fine wrong = absurd (omega arith)
first_wrong shape firsts given place (suc n) zero lt fine wrong =
    let here : place + 0 ≡ place = omega arith in
    ap (λ (o : Option Unrestored). or_else o (wrong_strings shape firsts given (place + 1) n)) (wrong_some shape firsts given place (λ f. wrong (subst (FineAt shape firsts given) (sym here) f)))
    ∙ ap (λ (i : ℕ). Some (Restored.ShareLength given.cloud i (length (string_at given i)) (share_len_of shape.k (item_of firsts i).secret_len))) (sym here)
first_wrong shape firsts given place (suc n) (suc j) lt fine wrong =
    let next : place + suc j ≡ place + 1 + j = omega arith in
    ap (λ (o : Option Unrestored). or_else o (wrong_strings shape firsts given (place + 1) n)) (fine_none shape firsts given place (subst (FineAt shape firsts given) (omega arith) (fine 0 (omega arith))))
    ∙ first_wrong shape firsts given (place + 1) n j (omega arith)
    (λ i l. let e : place + suc i ≡ place + 1 + i = omega arith in subst (FineAt shape firsts given) e (fine (suc i) (omega arith)))
    (λ f. wrong (subst (FineAt shape firsts given) (sym next) f))
    ∙ ap (λ (i : ℕ). Some (Restored.ShareLength given.cloud i (length (string_at given i)) (share_len_of shape.k (item_of firsts i).secret_len))) (sym next)

-- ---- one cloud

-- what looking at the strings of a told cloud says
pub takes_told : (shape : Shape) (cloud : CloudNo) (firsts : List Item) (recipe : Recipe) (place n : ℕ) (shares rooms filled : List (List ℕ)) (res : Result (Unit {0}) RestoreErr) (p q : Peer)
    → place + n ≤ length recipe.items → shares ≡ map (held_in p.list) (fps_in (part place n recipe.items)) → AreHeld p.list (fps_in (part place n recipe.items))
    → Takes shape cloud firsts recipe.items place n shares rooms filled res → SharesTold shape cloud firsts (given_of p cloud.0 recipe) place n res rooms filled p q
takes_told shape cloud firsts recipe place n shares rooms filled res p q fits are held takes = go res takes
  where
    given : Given
    given = given_of p cloud.0 recipe

    string : (j : ℕ) → j < n → slice_index_or shares j [] ≡ held_in p.list (item_of recipe.items (place + j)).fp
    string j lt = ap (λ (l : List (List ℕ)). slice_index_or l j []) are ∙ string_is place n recipe.items p.list j fits lt

    go : (res : Result (Unit {0}) RestoreErr) → Takes shape cloud firsts recipe.items place n shares rooms filled res → SharesTold shape cloud firsts (given_of p cloud.0 recipe) place n res rooms filled p q
    go (Ok u) takes = (
      all_fine shape firsts (given_of p cloud.0 recipe) place n (λ j lt. ap length (sym (string j lt)) ∙ (takes.0 j lt).len),
      λ j lt. takes.1 j lt ∙ ap (λ (s : List ℕ). room_of rooms j ++ s) (string j lt),
    )
    go (Err (errors.ShareLength c secret found wanted)) takes =
        let w = takes.1 in
        let found_is = w.found_is ∙ ap length (string w.j w.within) in
        first_wrong shape firsts (given_of p cloud.0 recipe) place n w.j w.within
        (λ i l. let lt : i < n = (let a = w.within in omega arith) in ap length (sym (string i lt)) ∙ (w.front i l).len)
        (λ f. w.differ (found_is ∙ f ∙ sym w.wanted_is))
        ∙ (λ i. Some (Restored.ShareLength (sym takes.0 i).0 (sym w.secret_is i) (sym found_is i) (sym w.wanted_is i)))
    go (Err (errors.BadShare c secret named found)) takes =
        let w = takes.1 in
        absurd (w.differ (w.found_is ∙ ap sha256_of (string w.j w.within) ∙ hash_is place n recipe.items p.list w.j fits w.within held ∙ sym w.named_is))
    go (Err errors.NoMemory) takes = tt
    go (Err (errors.Missing c)) takes = absurd takes
    go (Err (errors.Lost c)) takes = absurd takes
    go (Err (errors.CloudFault c)) takes = absurd takes
    go (Err (errors.CloudDamaged c at byte)) takes = absurd takes
    go (Err (errors.CloudRotten c named found)) takes = absurd takes
    go (Err (errors.CloudNoMemory c)) takes = absurd takes
    go (Err (errors.Strange c kind)) takes = absurd takes
    go (Err (errors.RecipesDiffer a b at)) takes = absurd takes
    go (Err (errors.BadSecret secret named found)) takes = absurd takes
    go (Err (errors.BadPad secret at byte)) takes = absurd takes

-- a reply of so many shares is refused only for want of memory
pub shares_refused : (shape : Shape) (cloud : CloudNo) (firsts : List Item) (given : Given) (place n : ℕ) (e : RestoreErr) (strings rooms filled : List (List ℕ)) (p q : Peer) → length strings ≡ n
    → Refuses cloud (Ok (replies.Shares strings)) (NoShares n) e → SharesTold shape cloud firsts given place n (Err e) rooms filled p q
shares_refused shape cloud firsts given place n (errors.CloudFault c) strings rooms filled p q all r = absurd (let f : good (replies.Shares strings) ≡ good replies.Fault = r.1 in cc)
shares_refused shape cloud firsts given place n (errors.CloudDamaged c at byte) strings rooms filled p q all r = absurd (let f : good (replies.Shares strings) ≡ good (replies.Damaged at byte) = r.1 in cc)
shares_refused shape cloud firsts given place n (errors.CloudRotten c named found) strings rooms filled p q all r = absurd (let f : good (replies.Shares strings) ≡ good (replies.Rotten named found) = r.1 in cc)
shares_refused shape cloud firsts given place n (errors.CloudNoMemory c) strings rooms filled p q all r = absurd (let f : good (replies.Shares strings) ≡ good replies.NoMemory = r.1 in cc)
shares_refused shape cloud firsts given place n (errors.Strange c kind) strings rooms filled p q all r = absurd (r.1 (replies.Shares strings) refl all)
shares_refused shape cloud firsts given place n errors.NoMemory strings rooms filled p q all r = tt
shares_refused shape cloud firsts given place n (errors.Missing c) strings rooms filled p q all r = absurd r
shares_refused shape cloud firsts given place n (errors.Lost c) strings rooms filled p q all r = absurd r
shares_refused shape cloud firsts given place n (errors.RecipesDiffer a b at) strings rooms filled p q all r = absurd r
shares_refused shape cloud firsts given place n (errors.ShareLength c secret found wanted) strings rooms filled p q all r = absurd r
shares_refused shape cloud firsts given place n (errors.BadShare c secret named found) strings rooms filled p q all r = absurd r
shares_refused shape cloud firsts given place n (errors.BadSecret secret named found) strings rooms filled p q all r = absurd r
shares_refused shape cloud firsts given place n (errors.BadPad secret at byte) strings rooms filled p q all r = absurd r

pub shares_failed : (shape : Shape) (cloud : CloudNo) (firsts : List Item) (given : Given) (place n : ℕ) (e : RestoreErr) (rooms filled : List (List ℕ)) (p q : Peer) → ReadFails p q
    → Refuses cloud (Ok replies.Fault) (NoShares n) e → SharesTold shape cloud firsts given place n (Err e) rooms filled p q
shares_failed shape cloud firsts given place n (errors.CloudFault c) rooms filled p q fails r = (r.0, fails)
shares_failed shape cloud firsts given place n (errors.CloudDamaged c at byte) rooms filled p q fails r = absurd (let f : good replies.Fault ≡ good (replies.Damaged at byte) = r.1 in cc)
shares_failed shape cloud firsts given place n (errors.CloudRotten c named found) rooms filled p q fails r = absurd (let f : good replies.Fault ≡ good (replies.Rotten named found) = r.1 in cc)
shares_failed shape cloud firsts given place n (errors.CloudNoMemory c) rooms filled p q fails r = absurd (let f : good replies.Fault ≡ good replies.NoMemory = r.1 in cc)
shares_failed shape cloud firsts given place n (errors.Strange c kind) rooms filled p q fails r = absurd (r.1 replies.Fault refl)
shares_failed shape cloud firsts given place n errors.NoMemory rooms filled p q fails r = tt
shares_failed shape cloud firsts given place n (errors.Missing c) rooms filled p q fails r = absurd r
shares_failed shape cloud firsts given place n (errors.Lost c) rooms filled p q fails r = absurd r
shares_failed shape cloud firsts given place n (errors.RecipesDiffer a b at) rooms filled p q fails r = absurd r
shares_failed shape cloud firsts given place n (errors.ShareLength c secret found wanted) rooms filled p q fails r = absurd r
shares_failed shape cloud firsts given place n (errors.BadShare c secret named found) rooms filled p q fails r = absurd r
shares_failed shape cloud firsts given place n (errors.BadSecret secret named found) rooms filled p q fails r = absurd r
shares_failed shape cloud firsts given place n (errors.BadPad secret at byte) rooms filled p q fails r = absurd r

shares_same : (a b : List (List ℕ)) → good (replies.Shares a) ≡ good (replies.Shares b) → a ≡ b
shares_same a b e = cc

-- what an asked cloud is told, related at its own peers
abbrev Told : Shape → UserId → Tag × Version → CloudNo → List Item → Recipe → ℕ → ℕ → Result (Unit {0}) RestoreErr → List (List ℕ) → List (List ℕ) → Peer → Peer → Type 0
Told shape user key cloud firsts recipe place n res rooms filled p q = SharesTold shape cloud firsts (given_of p cloud.0 recipe) place n res rooms filled p q

pub shares_taken : {L : Type 0} (t : LinkTelling L) (shape : Shape) (user : UserId) (key : Tag × Version) (cloud : CloudNo) (firsts : List Item) (recipe : Recipe) (place n : ℕ)
    (old new : L) (content : List ℕ) (shares rooms filled : List (List ℕ)) (res : Result (Unit {0}) RestoreErr)
    → t.shape old ≡ shape → TellsSound t old → IsTrue (t.reaches old cloud.0) → LeavesOthers t cloud.0 old new → AreBytes content → place + n ≤ length recipe.items
    → Asks {E = RestoreErr} t cloud.0 old (requests.GetShares user (fps_in (part place n recipe.items))) content (Ok tt) new
    → reply_at content ≡ Ok (replies.Shares shares) → Takes shape cloud firsts recipe.items place n shares rooms filled res
    → LeadsAny t (cloud.0 ∷ []) old new (λ these. SharesShown (among these t) old shape user key cloud.0 firsts recipe res)
    (λ a b. ReadyAt shape user key recipe (a cloud.0) → SharesTold shape cloud firsts (given_of (a cloud.0) cloud.0 recipe) place n res rooms filled (a cloud.0) (b cloud.0))
shares_taken t shape user key cloud firsts recipe place n old new content shares rooms filled res same sound reached others bytes fits asks read takes these =
    shares_caused (among these t) shape user key cloud firsts recipe place n old new rooms filled res (names res takes) fits
    (step_among t these cloud.0 old new (FaultRose res) (λ p q. ReadyAt shape user key recipe p → Told shape user key cloud firsts recipe place n res rooms filled p q) reached others
    (shares_moves t shape user key recipe cloud old new content (fps_in (part place n recipe.items)) (FaultRose res) (Told shape user key cloud firsts recipe place n res rooms filled) same sound bytes asks (part_owned place n recipe.items fits)
    (λ p q rose. takes_rose shape cloud firsts recipe.items place n shares rooms filled res p q takes)
    (λ p q at held. takes_told shape cloud firsts recipe place n shares rooms filled res p q fits (shares_same shares (map (held_in p.list) (fps_in (part place n recipe.items))) (sym read ∙ at)) held takes)
    (λ p q fails at. absurd (let f : good (replies.Shares shares) ≡ good replies.Fault = sym read ∙ at in cc))) (fault_any res))
  where
    names : (r : Result (Unit {0}) RestoreErr) → Takes shape cloud firsts recipe.items place n shares rooms filled r → IfErr r (Names (λ c. c ≡ cloud.0))
    names (Ok u) takes = tt
    names (Err e) takes = takes_names shape cloud firsts recipe.items place n shares rooms filled e takes

pub shares_unread : {L : Type 0} (t : LinkTelling L) (shape : Shape) (user : UserId) (key : Tag × Version) (cloud : CloudNo) (firsts : List Item) (recipe : Recipe) (place n : ℕ)
    (old new : L) (content : List ℕ) (rooms filled : List (List ℕ)) (e : RestoreErr)
    → t.shape old ≡ shape → TellsSound t old → IsTrue (t.reaches old cloud.0) → LeavesOthers t cloud.0 old new → AreBytes content → place + n ≤ length recipe.items
    → Asks {E = RestoreErr} t cloud.0 old (requests.GetShares user (fps_in (part place n recipe.items))) content (Ok tt) new
    → Refuses cloud (reply_at content) (NoShares n) e
    → LeadsAny t (cloud.0 ∷ []) old new (λ these. SharesShown (among these t) old shape user key cloud.0 firsts recipe (Err e))
    (λ a b. ReadyAt shape user key recipe (a cloud.0) → SharesTold shape cloud firsts (given_of (a cloud.0) cloud.0 recipe) place n (Err e) rooms filled (a cloud.0) (b cloud.0))
shares_unread t shape user key cloud firsts recipe place n old new content rooms filled e same sound reached others bytes fits asks refuses these =
    let fps = fps_in (part place n recipe.items) in
    let long : length fps ≡ n = length-map (part place n recipe.items) (λ (item : Item). item.fp) ∙ part_long place n recipe.items fits in
    shares_caused (among these t) shape user key cloud firsts recipe place n old new rooms filled (Err e) (shares_names cloud (reply_at content) (NoShares n) e refuses) fits
    (step_among t these cloud.0 old new (FaultRose {A = Unit {0}} (Err e)) (λ p q. ReadyAt shape user key recipe p → Told shape user key cloud firsts recipe place n (Err e) rooms filled p q) reached others
    (shares_moves t shape user key recipe cloud old new content fps (FaultRose {A = Unit {0}} (Err e)) (Told shape user key cloud firsts recipe place n (Err e) rooms filled) same sound bytes asks (part_owned place n recipe.items fits)
    (λ p q rose. shares_rose cloud (reply_at content) (NoShares n) e p q refuses rose)
    (λ p q at held. shares_refused shape cloud firsts (given_of p cloud.0 recipe) place n e (map (held_in p.list) fps) rooms filled p q (length-map fps (held_in p.list) ∙ long) (subst (λ (x : Result Reply ℕ). Refuses cloud x (NoShares n) e) at refuses))
    (λ p q fails at. shares_failed shape cloud firsts (given_of p cloud.0 recipe) place n e rooms filled p q fails (subst (λ (x : Result Reply ℕ). Refuses cloud x (NoShares n) e) at refuses)))
    (fault_any {A = Unit {0}} (Err e)))

pub shares_lost : {L : Type 0} (t : LinkTelling L) (shape : Shape) (user : UserId) (key : Tag × Version) (cloud : CloudNo) (firsts : List Item) (recipe : Recipe) (place n : ℕ)
    (old new : L) (content : List ℕ) (rooms filled : List (List ℕ)) (e : RestoreErr)
    → IsTrue (t.reaches old cloud.0) → LeavesOthers t cloud.0 old new → place + n ≤ length recipe.items
    → Asks t cloud.0 old (requests.GetShares user (fps_in (part place n recipe.items))) content (Err e) new
    → refused {A = Unit {0}} e ≡ Err (errors.Lost cloud)
    → LeadsAny t (cloud.0 ∷ []) old new (λ these. SharesShown (among these t) old shape user key cloud.0 firsts recipe (Err e))
    (λ a b. ReadyAt shape user key recipe (a cloud.0) → SharesTold shape cloud firsts (given_of (a cloud.0) cloud.0 recipe) place n (Err e) rooms filled (a cloud.0) (b cloud.0))
shares_lost t shape user key cloud firsts recipe place n old new content rooms filled e reached others fits asks lost these =
    let is : e ≡ errors.Lost cloud = error_is e (errors.Lost cloud) lost in
    shares_caused (among these t) shape user key cloud firsts recipe place n old new rooms filled (Err e) (subst (Names (λ c. c ≡ cloud.0)) (sym is) refl) fits
    (step_among t these cloud.0 old new (FaultRose {A = Unit {0}} (Err e)) (λ p q. ReadyAt shape user key recipe p → Told shape user key cloud firsts recipe place n (Err e) rooms filled p q) reached others
    (lost_moves t cloud.0 old new (requests.GetShares user (fps_in (part place n recipe.items))) content e (FaultRose {A = Unit {0}} (Err e)) (λ p q. ReadyAt shape user key recipe p → Told shape user key cloud firsts recipe place n (Err e) rooms filled p q) (λ list. refl) asks
    (λ p q. subst (λ (x : RestoreErr). FaultRose {A = Unit {0}} (Err x) p q) (sym is) tt)
    (λ p q ready. subst (λ (x : RestoreErr). SharesTold shape cloud firsts (given_of p cloud.0 recipe) place n (Err x) rooms filled p q) (sym is) refl)) (fault_any {A = Unit {0}} (Err e)))

pub shares_unasked : {L : Type 0} (t : LinkTelling L) (shape : Shape) (user : UserId) (key : Tag × Version) (cloud : CloudNo) (firsts : List Item) (recipe : Recipe) (place n : ℕ) (link : L) (rooms filled : List (List ℕ))
    → LeadsAny t (cloud.0 ∷ []) link link (λ these. SharesShown (among these t) link shape user key cloud.0 firsts recipe (Err errors.NoMemory)) (λ a b. ReadyAt shape user key recipe (a cloud.0) → SharesTold shape cloud firsts (given_of (a cloud.0) cloud.0 recipe) place n (Err errors.NoMemory) rooms filled (a cloud.0) (b cloud.0))
shares_unasked t shape user key cloud firsts recipe place n link rooms filled these = leads_none (among these t) (cloud.0 ∷ []) link _ _ (λ a ready alike. tt) (λ a ready. tt)
