-- Asking cloud after cloud for its recipe.
use Rattle.std.proofs.Common.{◌≡◌, ℕ, Bool, true, false, cond, List, [], ◌∷◌, ◌++◌, length, map, Option, Some, None, Ok, Err, refl, sym, ap, ◌∙◌, subst, arith, inl, inr, append-nil, append_assoc, length-append}
use Rattle.std.specs.Prelude.{All, find, is_none, option_map, IsTrue}
use Rattle.std.specs.List.{Contains}
use Rattle.std.proofs.lemmas.List.{map-append}
use Rattle.std.proofs.lemmas.List.Elements.{All-nil, All-push, Contains-append_left, Contains-append_right, Contains-push_cases}
use Rattle.user_dedup.specs.CdBase.Numbers.{numbers_of}
use Rattle.user_dedup.specs.CdBase.ids.CloudNo.{CloudNo}
use Rattle.user_dedup.specs.CdBase.ids.Tag.{Tag}
use Rattle.user_dedup.specs.CdBase.ids.UserId.{UserId}
use Rattle.user_dedup.specs.CdBase.ids.Version.{Version}
use Rattle.user_dedup.specs.CdBase.shape.Shape.{Shape}
use Rattle.user_dedup.specs.Recipe.recipe.Recipe.{Recipe}
use Rattle.user_dedup.specs.Recipe.Spelling.{Fits}
use Rattle.user_dedup.specs.Messages.request.Request.TheVariants as requests
use Rattle.user_dedup.specs.Messages.Requests.{IsRequest}
use Rattle.user_dedup.specs.declared.command.Command.{Command}
use Rattle.user_dedup.specs.Exec.{Peer, MaySettleAs}
use Rattle.user_dedup.specs.Link.{LinkTelling}
use Rattle.user_dedup.proofs.Owned.{contains_here, contains_later, contains_cases, contains_nothing}
use Rattle.restore_job.specs.Asking.{Reads, MayRead, ReadFails, AreOnlyAsked, Leads, LeadsAny, HasAskedClouds, AreRead, StoppedAt, among}
use Rattle.restore_job.specs.Restored
use Rattle.restore_job.specs.Restored.{Unrestored, recipe_in, missing}
use Rattle.restore_job.specs.Steps.{RecipeTold, RecipesTold, RecipeShown, RecipesShown, ReadyWhere, recipes_in}
use Rattle.restore_job.specs.declared.error.RestoreErr.{RestoreErr}
use Rattle.restore_job.specs.declared.error.RestoreErr.TheVariants as errors
use Rattle.restore_job.proofs.Leading.{settled_same, reads_on, fails_on, counts_on, settle_along, no_pending, leads_on, leads_to, leads_none, told_among, only_on, asked_on, asked_none, asked_at}
use Rattle.restore_job.proofs.Causing.{caused_on, ready_on, ready_push}

pub may_reads : (a b c : Peer) → MayRead a b → Reads b c → Reads a c
may_reads a b c (inl s, n) two = (record { list = settle_along a b c.list s two.0.list; pending = two.0.pending }, counts_on a b c n two.1)
may_reads a b c (inr s, n) two = (record { list = subst (MaySettleAs a) (sym (no_pending b c.list s.pending two.0.list)) s.list; pending = two.0.pending }, counts_on a b c n two.1)

-- functions that agree on a list
pub map_same : {A B : Type 0} (xs : List A) (f g : A → B) → ((x : A) → Contains xs x → f x ≡ g x) → map f xs ≡ map g xs
map_same [] f g same = refl
map_same (x ∷ xs) f g same = let here = same x (contains_here x xs) in let more = map_same xs f g (λ y has. same y (contains_later x xs y has)) in λ i. here i ∷ more i

-- the first that passes, behind those that don't
find_behind : (p : ℕ → Bool) (front : List ℕ) (x : ℕ) (rest : List ℕ) → ((y : ℕ) → Contains front y → p y ≡ false) → p x ≡ true → find p (front ++ x ∷ rest) ≡ Some x
find_behind p [] x rest none passes = ap (λ (b : Bool). cond b (Some x) (find p rest)) passes
find_behind p (y ∷ front) x rest none passes =
    ap (λ (b : Bool). cond b (Some y) (find p (front ++ x ∷ rest))) (none y (contains_here y front))
    ∙ find_behind p front x rest (λ z has. none z (contains_later y front z has)) passes

pub head_is : {A : Type 0} (a b : A) (xs ys : List A) → a ∷ xs ≡ b ∷ ys → (a ≡ b) × (xs ≡ ys)
head_is a b xs ys e = (let f : a ∷ xs ≡ b ∷ ys = e in cc, let f : a ∷ xs ≡ b ∷ ys = e in cc)

-- each of some values that are all there
all_there : (f : ℕ → Option Recipe) (xs : List ℕ) (rs : List Recipe) → map f xs ≡ map Some rs → (x : ℕ) → Contains xs x → is_none (f x) ≡ false
all_there f [] rs e x has = absurd (contains_nothing x has)
all_there f (y ∷ xs) [] e x has = absurd (let n = ap length e in omega arith)
all_there f (y ∷ xs) (r ∷ rs) e x has =
    let h = head_is (f y) (Some r) (map f xs) (map Some rs) e in
    elim (contains_cases y xs x has) [
      | inl same ↦ ap (λ (z : ℕ). is_none (f z)) (sym same) ∙ ap is_none h.0
      | inr more ↦ all_there f xs rs h.1 x more
    ]

-- where clouds that stand settled may have been read, they have the same recipes
pub recipes_stay : (shape : Shape) (user : UserId) (key : Tag × Version) (clouds : List ℕ) (a b : ℕ → Peer) → ((x : ℕ) → Contains clouds x → (a x).pending ≡ None)
    → ((x : ℕ) → MayRead (a x) (b x)) → recipes_in shape user key b clouds ≡ recipes_in shape user key a clouds
recipes_stay shape user key clouds a b settled may =
    map_same clouds (λ x. recipe_in shape (b x).list user key) (λ x. recipe_in shape (a x).list user key)
    (λ x has. ap (λ (l : List Command). recipe_in shape l user key) (settled_same (a x) (b x) (settled x has) (may x)).list)

-- the clouds in front were asked, and these are their recipes
pub record Fetched {L : Type 0} (t : LinkTelling L) (shape : Shape) (old now : L) (content clouds rest : List ℕ) (recipes : List Recipe) : Type 0 where
  pub done : List ℕ
  pub split : clouds ≡ done ++ rest
  pub count : length recipes ≡ length done
  pub fits : All (Fits shape) recipes
  pub told : (user : UserId) (tag : Tag) (version : Version) → IsRequest content (requests.GetRecipe user tag version)
      → LeadsAny t done old now (λ these a b. ReadyWhere (among these t) old shape user (tag, version) done recipes b) (λ a b. AreRead done a b × (recipes_in shape user (tag, version) b done ≡ map Some recipes))
  pub asked : HasAskedClouds t clouds old now false

pub fetched_none : {L : Type 0} (t : LinkTelling L) (shape : Shape) (link : L) (content clouds : List ℕ) → Fetched t shape link link content clouds clouds []
fetched_none t shape link content clouds = record {
  done = [];
  split = refl;
  count = refl;
  fits = All-nil (Fits shape);
  told = λ user tag version is these. leads_none (among these t) [] link (λ a b. Unit {0}) (λ a b. AreRead [] a b × (recipes_in shape user (tag, version) b [] ≡ [])) (λ a. tt) (λ a. (λ x has. absurd (contains_nothing x has), refl));
  asked = asked_none t clouds link;
}

in_front : (done rest : List ℕ) (cloud : ℕ) (x : ℕ) → Contains done x → Contains (done ++ cloud ∷ rest) x
in_front done rest cloud x has = Contains-append_left done (cloud ∷ rest) x has

right_here : (done rest : List ℕ) (cloud : ℕ) (x : ℕ) → Contains (cloud ∷ []) x → Contains (done ++ cloud ∷ rest) x
right_here done rest cloud x has =
    elim (contains_cases cloud [] x has) [
      | inl same ↦ Contains-append_right done (cloud ∷ rest) x (subst (λ (y : ℕ). Contains (cloud ∷ rest) y) same (contains_here cloud rest))
      | inr none ↦ absurd (contains_nothing x none)
    ]

pub fetched_more : {L : Type 0} (t : LinkTelling L) (shape : Shape) (old mid new : L) (content clouds : List ℕ) (cloud : CloudNo) (rest : List ℕ) (recipes : List Recipe) (recipe : Recipe)
    → Fetched t shape old mid content clouds (cloud.0 ∷ rest) recipes → HasAskedClouds t (cloud.0 ∷ []) mid new false → Fits shape recipe
    → ((user : UserId) (tag : Tag) (version : Version) → IsRequest content (requests.GetRecipe user tag version)
    → LeadsAny t (cloud.0 ∷ []) mid new (λ these. RecipeShown (among these t) mid shape user (tag, version) cloud.0 (Ok recipe)) (λ a b. RecipeTold shape user (tag, version) cloud (Ok recipe) (a cloud.0) (b cloud.0)))
    → Fetched t shape old new content clouds rest (recipes ++ recipe ∷ [])
fetched_more t shape old mid new content clouds cloud rest recipes recipe f asked fits step = record {
  done = f.done ++ cloud.0 ∷ [];
  split = f.split ∙ sym (append_assoc f.done (cloud.0 ∷ []) rest);
  count = omega (arith, length-append recipes (recipe ∷ []), length-append f.done (cloud.0 ∷ []), f.count);
  fits = All-push (Fits shape) recipes recipe f.fits fits;
  told = λ user tag version is these.
      let tells = among these t in
      let same = told_among t these old mid f.asked.told in
      leads_on tells f.done (cloud.0 ∷ []) (f.done ++ cloud.0 ∷ []) old mid new
      (λ a b. ReadyWhere tells old shape user (tag, version) f.done recipes b)
      (RecipeShown tells mid shape user (tag, version) cloud.0 (Ok recipe))
      (λ a b. ReadyWhere tells old shape user (tag, version) (f.done ++ cloud.0 ∷ []) (recipes ++ recipe ∷ []) b)
      (λ a b. AreRead f.done a b × (recipes_in shape user (tag, version) b f.done ≡ map Some recipes))
      (λ a b. RecipeTold shape user (tag, version) cloud (Ok recipe) (a cloud.0) (b cloud.0))
      (λ a b. AreRead (f.done ++ cloud.0 ∷ []) a b × (recipes_in shape user (tag, version) b (f.done ++ cloud.0 ∷ []) ≡ map Some (recipes ++ recipe ∷ [])))
      (f.told user tag version is these) same (step user tag version is these)
      (in_front f.done [] cloud.0) (right_here f.done [] cloud.0)
      (λ a b c one two r s. ready_push tells old shape user (tag, version) f.done recipes cloud.0 recipe c f.count (ready_on tells old old shape user (tag, version) f.done recipes b c refl two.read r)
      (λ told. s (subst (λ (g : ℕ → Bool). IsTrue (g cloud.0)) (sym same) told)))
      (λ a b c one two r s. both user (tag, version) a b c one two r s);
  asked = asked_on t clouds old mid new false f.asked (asked_at t cloud.0 clouds mid new false (subst (λ (l : List ℕ). Contains l cloud.0) (sym f.split) (right_here f.done rest cloud.0 cloud.0 (contains_here cloud.0 []))) asked);
}
  where
    both : (user : UserId) (key : Tag × Version) (a b c : ℕ → Peer) → AreOnlyAsked f.done a b → AreOnlyAsked (cloud.0 ∷ []) b c
        → AreRead f.done a b × (recipes_in shape user key b f.done ≡ map Some recipes) → RecipeTold shape user key cloud (Ok recipe) (b cloud.0) (c cloud.0)
        → AreRead (f.done ++ cloud.0 ∷ []) a c × (recipes_in shape user key c (f.done ++ cloud.0 ∷ []) ≡ map Some (recipes ++ recipe ∷ []))
    both user key a b c one two r s = (
      λ x has. elim (Contains-push_cases f.done cloud.0 x has) [
        | inl front ↦ reads_on (a x) (b x) (c x) (r.0 x front) (two.read x)
        | inr same ↦ subst (λ (y : ℕ). Reads (a y) (c y)) same (may_reads (a cloud.0) (b cloud.0) (c cloud.0) (one.read cloud.0) s.0)
      ],
      let g : ℕ → Option Recipe = λ x. recipe_in shape (c x).list user key in
          let front = recipes_stay shape user key f.done b c (λ x has. (r.0 x has).0.pending) two.read ∙ r.1 in
          map-append g f.done (cloud.0 ∷ []) ∙ (λ i. front i ++ s.1 i ∷ []) ∙ sym (map-append Some recipes (recipe ∷ [])),
    )

pub fetched_all : {L : Type 0} (t : LinkTelling L) (shape : Shape) (old now : L) (content clouds : List ℕ) (recipes : List Recipe) → Fetched t shape old now content clouds [] recipes
    → (user : UserId) (tag : Tag) (version : Version) → IsRequest content (requests.GetRecipe user tag version) → LeadsAny t clouds old now (λ these. RecipesShown (among these t) old shape user (tag, version) clouds (Ok recipes)) (RecipesTold shape user (tag, version) clouds (Ok recipes))
fetched_all t shape old now content clouds recipes f user tag version is these =
    let all : f.done ≡ clouds = sym (f.split ∙ append-nil f.done) in
    subst (λ (l : List ℕ). Leads (among these t) l old now (λ a b. ReadyWhere (among these t) old shape user (tag, version) l recipes b) (λ a b. AreRead l a b × (recipes_in shape user (tag, version) b l ≡ map Some recipes))) all (f.told user tag version is these)

-- a cloud refused
pub stopped : (shape : Shape) (user : UserId) (key : Tag × Version) (cloud : CloudNo) (done rest : List ℕ) (recipes : List Recipe) (e : RestoreErr) (a b c : ℕ → Peer)
    → AreOnlyAsked done a b → AreOnlyAsked (cloud.0 ∷ []) b c → AreRead done a b → recipes_in shape user key b done ≡ map Some recipes
    → RecipeTold shape user key cloud (Err e) (b cloud.0) (c cloud.0) → RecipesTold shape user key (done ++ cloud.0 ∷ rest) (Err e) a c
stopped shape user key cloud done rest recipes e a b c one two read are s = go e s
  where
    others : (x : ℕ) → (Contains (done ++ cloud.0 ∷ []) x → ⊥) → c x ≡ a x
    others x out = (only_on done (cloud.0 ∷ []) (done ++ cloud.0 ∷ []) a b c one two (in_front done [] cloud.0) (right_here done [] cloud.0)).others x out

    at_cloud : (Stops : Peer → Peer → Type 0) → Stops (a cloud.0) (c cloud.0) → StoppedAt cloud.0 Stops (done ++ cloud.0 ∷ rest) a c
    at_cloud Stops stops = record {
      front = done;
      rest = rest;
      split = refl;
      read = λ x has ne. reads_on (a x) (b x) (c x) (read x has) (two.read x);
      stops = stops;
      others = others;
    }

    now_are : recipes_in shape user key c done ≡ map Some recipes
    now_are = recipes_stay shape user key done b c (λ x has. (read x has).0.pending) two.read ∙ are

    named : Contains (done ++ cloud.0 ∷ rest) cloud.0
    named = Contains-append_right done (cloud.0 ∷ rest) cloud.0 (contains_here cloud.0 rest)

    go : (e : RestoreErr) → RecipeTold shape user key cloud (Err e) (b cloud.0) (c cloud.0) → RecipesTold shape user key (done ++ cloud.0 ∷ rest) (Err e) a c
    go (errors.Missing n) s =
        let lacks : is_none (recipe_in shape (c cloud.0).list user key) ≡ true = ap is_none s.2 in
        let first = find_behind (λ x. is_none (recipe_in shape (c x).list user key)) done cloud.0 rest (all_there (λ x. recipe_in shape (c x).list user key) done recipes now_are) lacks in
        subst (λ (x : CloudNo). RecipesTold shape user key (done ++ cloud.0 ∷ rest) (Err (errors.Missing x)) a c) (sym s.0)
        (ap (λ (o : Option ℕ). option_map Restored.Missing o) first, at_cloud Reads (may_reads (a cloud.0) (b cloud.0) (c cloud.0) (one.read cloud.0) s.1))
    go (errors.CloudFault n) s =
        subst (λ (x : CloudNo). RecipesTold shape user key (done ++ cloud.0 ∷ rest) (Err (errors.CloudFault x)) a c) (sym s.0)
        (at_cloud ReadFails (fails_on (a cloud.0) (b cloud.0) (c cloud.0) (one.read cloud.0) s.1))
    go (errors.Lost n) s = subst (λ (x : CloudNo). Contains (done ++ cloud.0 ∷ rest) x.0) (sym s) named
    go errors.NoMemory s = tt
    go (errors.CloudDamaged n at byte) s = absurd s
    go (errors.CloudRotten n x found) s = absurd s
    go (errors.CloudNoMemory n) s = absurd s
    go (errors.Strange n kind) s = absurd s
    go (errors.RecipesDiffer x y place) s = absurd s
    go (errors.ShareLength n secret found wanted) s = absurd s
    go (errors.BadShare n secret x found) s = absurd s
    go (errors.BadSecret secret x found) s = absurd s
    go (errors.BadPad secret at byte) s = absurd s

pub fetched_stops : {L : Type 0} (t : LinkTelling L) (shape : Shape) (old mid new : L) (content clouds : List ℕ) (cloud : CloudNo) (rest : List ℕ) (recipes : List Recipe) (e : RestoreErr)
    → Fetched t shape old mid content clouds (cloud.0 ∷ rest) recipes
    → ((user : UserId) (tag : Tag) (version : Version) → IsRequest content (requests.GetRecipe user tag version)
    → LeadsAny t (cloud.0 ∷ []) mid new (λ these. RecipeShown (among these t) mid shape user (tag, version) cloud.0 (Err e)) (λ a b. RecipeTold shape user (tag, version) cloud (Err e) (a cloud.0) (b cloud.0)))
    → (user : UserId) (tag : Tag) (version : Version) → IsRequest content (requests.GetRecipe user tag version)
    → LeadsAny t clouds old new (λ these. RecipesShown (among these t) old shape user (tag, version) clouds (Err e)) (RecipesTold shape user (tag, version) clouds (Err e))
fetched_stops t shape old mid new content clouds cloud rest recipes e f step user tag version is these =
    let tells = among these t in
    let same = told_among t these old mid f.asked.told in
    subst (λ (l : List ℕ). Leads tells l old new (RecipesShown tells old shape user (tag, version) l (Err e)) (RecipesTold shape user (tag, version) l (Err e))) (sym f.split)
    (leads_on tells f.done (cloud.0 ∷ []) (f.done ++ cloud.0 ∷ rest) old mid new
    (λ a b. ReadyWhere tells old shape user (tag, version) f.done recipes b)
    (RecipeShown tells mid shape user (tag, version) cloud.0 (Err e))
    (RecipesShown tells old shape user (tag, version) (f.done ++ cloud.0 ∷ rest) (Err e))
    (λ a b. AreRead f.done a b × (recipes_in shape user (tag, version) b f.done ≡ map Some recipes))
    (λ a b. RecipeTold shape user (tag, version) cloud (Err e) (a cloud.0) (b cloud.0))
    (RecipesTold shape user (tag, version) (f.done ++ cloud.0 ∷ rest) (Err e))
    (f.told user tag version is these) same (step user tag version is these)
    (in_front f.done rest cloud.0) (right_here f.done rest cloud.0)
    (λ a b c one two r s. caused_on tells old mid shape user (tag, version) e a b c same one.read s)
    (λ a b c one two r s. stopped shape user (tag, version) cloud f.done rest recipes e a b c one two r.0 r.1 s))

-- memory ran out at the client, behind a cloud that answered
pub fetched_unkept : {L : Type 0} (t : LinkTelling L) (shape : Shape) (old mid new : L) (content clouds : List ℕ) (cloud : CloudNo) (rest : List ℕ) (recipes : List Recipe) (recipe : Recipe)
    → Fetched t shape old mid content clouds (cloud.0 ∷ rest) recipes
    → ((user : UserId) (tag : Tag) (version : Version) → IsRequest content (requests.GetRecipe user tag version)
    → LeadsAny t (cloud.0 ∷ []) mid new (λ these. RecipeShown (among these t) mid shape user (tag, version) cloud.0 (Ok recipe)) (λ a b. RecipeTold shape user (tag, version) cloud (Ok recipe) (a cloud.0) (b cloud.0)))
    → (user : UserId) (tag : Tag) (version : Version) → IsRequest content (requests.GetRecipe user tag version) → LeadsAny t clouds old new (λ these. RecipesShown (among these t) old shape user (tag, version) clouds (Err errors.NoMemory)) (RecipesTold shape user (tag, version) clouds (Err errors.NoMemory))
fetched_unkept t shape old mid new content clouds cloud rest recipes recipe f step user tag version is =
    fetched_stops t shape old mid new content clouds cloud rest recipes errors.NoMemory f
    (λ u g v h these. leads_to (among these t) (cloud.0 ∷ []) (cloud.0 ∷ []) mid new (RecipeShown (among these t) mid shape u (g, v) cloud.0 (Ok recipe)) (RecipeShown (among these t) mid shape u (g, v) cloud.0 (Err errors.NoMemory))
    (λ a b. RecipeTold shape u (g, v) cloud (Ok recipe) (a cloud.0) (b cloud.0)) (λ a b. RecipeTold shape u (g, v) cloud (Err errors.NoMemory) (a cloud.0) (b cloud.0))
    (step u g v h these) (λ x has. has) (λ a b one r told. tt) (λ a b one r. tt)) user tag version is

-- the numbers of clouds, one by one
pub numbers_next : (clouds : List CloudNo) (cloud : CloudNo) (more : List CloudNo) → clouds ≡ cloud ∷ more → numbers_of clouds ≡ cloud.0 ∷ numbers_of more
numbers_next clouds cloud more e = ap numbers_of e

pub numbers_none : (clouds : List CloudNo) → clouds ≡ [] → numbers_of clouds ≡ []
numbers_none clouds e = ap numbers_of e

pub rest_is : {L : Type 0} (t : LinkTelling L) (shape : Shape) (old now : L) (content clouds one other : List ℕ) (recipes : List Recipe) → one ≡ other → Fetched t shape old now content clouds one recipes
    → Fetched t shape old now content clouds other recipes
rest_is t shape old now content clouds one other recipes e f = subst (λ (l : List ℕ). Fetched t shape old now content clouds l recipes) e f

-- the next cloud is one of them
pub next_named : {L : Type 0} (t : LinkTelling L) (shape : Shape) (old now : L) (content clouds : List ℕ) (cloud : ℕ) (rest : List ℕ) (recipes : List Recipe) → Fetched t shape old now content clouds (cloud ∷ rest) recipes
    → Contains clouds cloud
next_named t shape old now content clouds cloud rest recipes f = subst (λ (l : List ℕ). Contains l cloud) (sym f.split) (Contains-append_right f.done (cloud ∷ rest) cloud (contains_here cloud rest))
