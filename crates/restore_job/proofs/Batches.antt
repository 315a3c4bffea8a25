-- Cloud after cloud, and batch after batch.
use Rattle.std.proofs.Common.{◌≡◌, ℕ, ◌+◌, ◌<◌, List, [], ◌∷◌, ◌++◌, map, Option, Some, None, Result, Ok, Err, refl, sym, ap, ◌∙◌, subst, inl, inr, append-nil, append_assoc}
use Rattle.std.specs.Prelude.{unwrap_or}
use Rattle.std.specs.List.{Contains, flat_map}
use Rattle.std.proofs.lemmas.List.Concat.{flat_map-cons}
use Rattle.std.proofs.lemmas.List.Elements.{All-head, All-tail}
use Rattle.user_dedup.specs.CdBase.ids.CloudNo.{CloudNo}
use Rattle.user_dedup.specs.CdBase.ids.Tag.{Tag}
use Rattle.user_dedup.specs.CdBase.ids.UserId.{UserId}
use Rattle.user_dedup.specs.CdBase.ids.Version.{Version}
use Rattle.user_dedup.specs.CdBase.shape.Shape.{Shape}
use Rattle.user_dedup.specs.Recipe.items.Item.{Item}
use Rattle.user_dedup.specs.Recipe.recipe.Recipe.{Recipe}
use Rattle.user_dedup.specs.Cloud.{held_string}
use Rattle.user_dedup.specs.Exec.{Peer}
use Rattle.user_dedup.specs.Link.{LinkTelling}
use Rattle.user_dedup.proofs.Owned.{contains_here, contains_later, contains_cases, contains_nothing}
use Rattle.restore_job.specs.Asking.{MayRead, ReadFails, Leads}
use Rattle.restore_job.specs.Restored.{Unrestored, Given, string_at, recipe_in, or_else, wrong_strings, wrong_length}
use Rattle.restore_job.specs.Steps.{SharesTold, SharesShown, SameLens, BatchTold, BatchShown, ReadyAt, Ready, recipes_in, given_of, givens, room_of}
use Rattle.restore_job.specs.declared.error.RestoreErr.{RestoreErr}
use Rattle.restore_job.specs.declared.error.RestoreErr.TheVariants as errors
use Rattle.restore_job.proofs.Leading.{settled_same, leads_on, leads_to, leads_none, fails_on}
use Rattle.restore_job.proofs.Causing.{causes_on, ready_on}
use Rattle.restore_job.proofs.Asks.{head_is, recipes_stay}

-- ---- the same lists

pub givens_stay : (clouds : List ℕ) (recipes : List Recipe) (a b : ℕ → Peer) → ((x : ℕ) → Contains clouds x → (b x).list ≡ (a x).list) → givens b clouds recipes ≡ givens a clouds recipes
givens_stay [] recipes a b same = refl
givens_stay (c ∷ clouds) [] a b same = refl
givens_stay (c ∷ clouds) (r ∷ recipes) a b same =
    let here = same c (contains_here c clouds) in
    let more = givens_stay clouds recipes a b (λ x has. same x (contains_later c clouds x has)) in
    λ i. record { cloud = c; recipe = r; held = λ fp. unwrap_or (held_string (here i) fp) [] } ∷ more i

pub ready_stays : (shape : Shape) (user : UserId) (key : Tag × Version) (clouds : List ℕ) (recipes : List Recipe) (a b : ℕ → Peer) → Ready shape user key clouds recipes a
    → ((x : ℕ) → MayRead (a x) (b x)) → Ready shape user key clouds recipes b
ready_stays shape user key clouds recipes a b ready may = record {
  recipes_are = recipes_stay shape user key clouds a b ready.settled may ∙ ready.recipes_are;
  settled = λ x has. (settled_same (a x) (b x) (ready.settled x has) (may x)).pending;
}

pub lists_stay : (shape : Shape) (user : UserId) (key : Tag × Version) (clouds : List ℕ) (recipes : List Recipe) (a b : ℕ → Peer) → Ready shape user key clouds recipes a
    → ((x : ℕ) → MayRead (a x) (b x)) → (x : ℕ) → Contains clouds x → (b x).list ≡ (a x).list
lists_stay shape user key clouds recipes a b ready may x has = (settled_same (a x) (b x) (ready.settled x has) (may x)).list

ready_head : (shape : Shape) (user : UserId) (key : Tag × Version) (c : ℕ) (clouds : List ℕ) (r : Recipe) (recipes : List Recipe) (a : ℕ → Peer) → Ready shape user key (c ∷ clouds) (r ∷ recipes) a → ReadyAt shape user key r (a c)
ready_head shape user key c clouds r recipes a ready = record {
  recipe_is = (head_is (recipe_in shape (a c).list user key) (Some r) (recipes_in shape user key a clouds) (map Some recipes) ready.recipes_are).0;
  settled = ready.settled c (contains_here c clouds);
}

ready_tail : (shape : Shape) (user : UserId) (key : Tag × Version) (c : ℕ) (clouds : List ℕ) (r : Recipe) (recipes : List Recipe) (a : ℕ → Peer) → Ready shape user key (c ∷ clouds) (r ∷ recipes) a → Ready shape user key clouds recipes a
ready_tail shape user key c clouds r recipes a ready = record {
  recipes_are = (head_is (recipe_in shape (a c).list user key) (Some r) (recipes_in shape user key a clouds) (map Some recipes) ready.recipes_are).1;
  settled = λ x has. ready.settled x (contains_later c clouds x has);
}

only_first : (c : ℕ) (clouds : List ℕ) (x : ℕ) → Contains (c ∷ []) x → Contains (c ∷ clouds) x
only_first c clouds x has =
    elim (contains_cases c [] x has) [
      | inl same ↦ subst (λ (y : ℕ). Contains (c ∷ clouds) y) same (contains_here c clouds)
      | inr none ↦ absurd (contains_nothing x none)
    ]

-- ---- a batch, cloud by cloud

after_first : (shape : Shape) (firsts : List Item) (c : ℕ) (clouds : List ℕ) (given : Given) (all : List Given) (place n : ℕ) (res : Result (Unit {0}) RestoreErr) (rooms mid filled : List (List ℕ)) (a b d : ℕ → Peer)
    → ((x : ℕ) → MayRead (a x) (b x)) → wrong_strings shape firsts given place n ≡ None → ((j : ℕ) → j < n → room_of mid j ≡ room_of rooms j ++ string_at given (place + j))
    → BatchTold shape clouds firsts all place n res mid filled b d → BatchTold shape (c ∷ clouds) firsts (given ∷ all) place n res rooms filled a d
after_first shape firsts c clouds given all place n res rooms mid filled a b d may fine here told = go res told
  where
    go : (res : Result (Unit {0}) RestoreErr) → BatchTold shape clouds firsts all place n res mid filled b d → BatchTold shape (c ∷ clouds) firsts (given ∷ all) place n res rooms filled a d
    go (Ok u) told = (
      ap (λ (o : Option Unrestored). or_else o (wrong_length shape firsts place n all)) fine ∙ told.0,
      λ j lt. told.1 j lt ∙ ap (λ (l : List ℕ). l ++ flat_map (λ g. string_at g (place + j)) all) (here j lt)
          ∙ append_assoc (room_of rooms j) (string_at given (place + j)) (flat_map (λ g. string_at g (place + j)) all)
          ∙ ap (λ (l : List ℕ). room_of rooms j ++ l) (sym (flat_map-cons (λ (g : Given). string_at g (place + j)) given all)),
    )
    go (Err (errors.ShareLength x secret found wanted)) told = ap (λ (o : Option Unrestored). or_else o (wrong_length shape firsts place n all)) fine ∙ told
    go (Err (errors.CloudFault x)) told = (contains_later c clouds x.0 told.0, fails_on (a x.0) (b x.0) (d x.0) (may x.0) told.1)
    go (Err (errors.Lost x)) told = contains_later c clouds x.0 told
    go (Err errors.NoMemory) told = tt
    go (Err (errors.Missing x)) told = absurd told
    go (Err (errors.CloudDamaged x at byte)) told = absurd told
    go (Err (errors.CloudRotten x named found)) told = absurd told
    go (Err (errors.CloudNoMemory x)) told = absurd told
    go (Err (errors.Strange x kind)) told = absurd told
    go (Err (errors.RecipesDiffer x y at)) told = absurd told
    go (Err (errors.BadShare x secret named found)) told = absurd told
    go (Err (errors.BadSecret secret named found)) told = absurd told
    go (Err (errors.BadPad secret at byte)) told = absurd told

-- the first cloud refused
first_stops : (shape : Shape) (firsts : List Item) (cloud : CloudNo) (clouds : List ℕ) (given : Given) (all : List Given) (place n : ℕ) (e : RestoreErr) (rooms filled : List (List ℕ)) (a b : ℕ → Peer)
    → SharesTold shape cloud firsts given place n (Err e) rooms filled (a cloud.0) (b cloud.0) → BatchTold shape (cloud.0 ∷ clouds) firsts (given ∷ all) place n (Err e) rooms filled a b
first_stops shape firsts cloud clouds given all place n (errors.ShareLength x secret found wanted) rooms filled a b told = ap (λ (o : Option Unrestored). or_else o (wrong_length shape firsts place n all)) told
first_stops shape firsts cloud clouds given all place n (errors.CloudFault x) rooms filled a b told =
    subst (λ (y : CloudNo). Contains (cloud.0 ∷ clouds) y.0 × ReadFails (a y.0) (b y.0)) (sym told.0) (contains_here cloud.0 clouds, told.1)
first_stops shape firsts cloud clouds given all place n (errors.Lost x) rooms filled a b told = subst (λ (y : CloudNo). Contains (cloud.0 ∷ clouds) y.0) (sym told) (contains_here cloud.0 clouds)
first_stops shape firsts cloud clouds given all place n errors.NoMemory rooms filled a b told = tt
first_stops shape firsts cloud clouds given all place n (errors.Missing x) rooms filled a b told = absurd told
first_stops shape firsts cloud clouds given all place n (errors.CloudDamaged x at byte) rooms filled a b told = absurd told
first_stops shape firsts cloud clouds given all place n (errors.CloudRotten x named found) rooms filled a b told = absurd told
first_stops shape firsts cloud clouds given all place n (errors.CloudNoMemory x) rooms filled a b told = absurd told
first_stops shape firsts cloud clouds given all place n (errors.Strange x kind) rooms filled a b told = absurd told
first_stops shape firsts cloud clouds given all place n (errors.RecipesDiffer x y at) rooms filled a b told = absurd told
first_stops shape firsts cloud clouds given all place n (errors.BadShare x secret named found) rooms filled a b told = absurd told
first_stops shape firsts cloud clouds given all place n (errors.BadSecret secret named found) rooms filled a b told = absurd told
first_stops shape firsts cloud clouds given all place n (errors.BadPad secret at byte) rooms filled a b told = absurd told

pub batch_more : {L : Type 0} (t : LinkTelling L) (shape : Shape) (user : UserId) (key : Tag × Version) (cloud : CloudNo) (clouds : List ℕ) (firsts : List Item) (recipe : Recipe) (recipes : List Recipe) (place n : ℕ)
    (old mid new : L) (rooms between filled : List (List ℕ)) (res : Result (Unit {0}) RestoreErr)
    → t.told mid ≡ t.told old
    → Leads t (cloud.0 ∷ []) old mid (SharesShown t old shape user key cloud.0 firsts recipe (Ok tt)) (λ a b. ReadyAt shape user key recipe (a cloud.0) → SharesTold shape cloud firsts (given_of (a cloud.0) cloud.0 recipe) place n (Ok tt) rooms between (a cloud.0) (b cloud.0))
    → Leads t clouds mid new (BatchShown t mid shape user key clouds firsts recipes res) (λ a b. Ready shape user key clouds recipes a → BatchTold shape clouds firsts (givens a clouds recipes) place n res between filled a b)
    → Leads t (cloud.0 ∷ clouds) old new (BatchShown t old shape user key (cloud.0 ∷ clouds) firsts (recipe ∷ recipes) res) (λ a b. Ready shape user key (cloud.0 ∷ clouds) (recipe ∷ recipes) a
    → BatchTold shape (cloud.0 ∷ clouds) firsts (givens a (cloud.0 ∷ clouds) (recipe ∷ recipes)) place n res rooms filled a b)
batch_more t shape user key cloud clouds firsts recipe recipes place n old mid new rooms between filled res same first second =
    leads_on t (cloud.0 ∷ []) clouds (cloud.0 ∷ clouds) old mid new _ _ _ _ _ _ first same second (only_first cloud.0 clouds) (contains_later cloud.0 clouds)
    (λ a b d one two r s ready alike. causes_on t old mid shape user key res a b d same one.read
    (s (ready_on t old mid shape user key clouds recipes a b same one.read ready.1) (All-tail (λ (r : Recipe). SameLens firsts r.items) recipe recipes alike)))
    (λ a b d one two r s ready.
    let tail = ready_tail shape user key cloud.0 clouds recipe recipes a ready in
    let head = r (ready_head shape user key cloud.0 clouds recipe recipes a ready) in
    let rest = s (ready_stays shape user key clouds recipes a b tail one.read) in
    let same_all = givens_stay clouds recipes a b (lists_stay shape user key clouds recipes a b tail one.read) in
    after_first shape firsts cloud.0 clouds (given_of (a cloud.0) cloud.0 recipe) (givens a clouds recipes) place n res rooms between filled a b d one.read head.0 head.1
    (subst (λ (l : List Given). BatchTold shape clouds firsts l place n res between filled b d) same_all rest))

pub batch_stops : {L : Type 0} (t : LinkTelling L) (shape : Shape) (user : UserId) (key : Tag × Version) (cloud : CloudNo) (clouds : List ℕ) (firsts : List Item) (recipe : Recipe) (recipes : List Recipe) (place n : ℕ)
    (old new : L) (rooms filled : List (List ℕ)) (e : RestoreErr)
    → Leads t (cloud.0 ∷ []) old new (SharesShown t old shape user key cloud.0 firsts recipe (Err e)) (λ a b. ReadyAt shape user key recipe (a cloud.0) → SharesTold shape cloud firsts (given_of (a cloud.0) cloud.0 recipe) place n (Err e) rooms filled (a cloud.0) (b cloud.0))
    → Leads t (cloud.0 ∷ clouds) old new (BatchShown t old shape user key (cloud.0 ∷ clouds) firsts (recipe ∷ recipes) (Err e)) (λ a b. Ready shape user key (cloud.0 ∷ clouds) (recipe ∷ recipes) a
    → BatchTold shape (cloud.0 ∷ clouds) firsts (givens a (cloud.0 ∷ clouds) (recipe ∷ recipes)) place n (Err e) rooms filled a b)
batch_stops t shape user key cloud clouds firsts recipe recipes place n old new rooms filled e first =
    leads_to t (cloud.0 ∷ []) (cloud.0 ∷ clouds) old new _ _ _ _ first (only_first cloud.0 clouds)
    (λ a b one r told ready alike. r ready.0 (All-head (λ (r : Recipe). SameLens firsts r.items) recipe recipes alike))
    (λ a b one r ready. first_stops shape firsts cloud clouds (given_of (a cloud.0) cloud.0 recipe) (givens a clouds recipes) place n e rooms filled a b (r (ready_head shape user key cloud.0 clouds recipe recipes a ready)))

pub batch_none : {L : Type 0} (t : LinkTelling L) (shape : Shape) (user : UserId) (key : Tag × Version) (firsts : List Item) (recipes : List Recipe) (place n : ℕ) (link : L) (rooms : List (List ℕ))
    → Leads t [] link link (BatchShown t link shape user key [] firsts recipes (Ok tt)) (λ a b. Ready shape user key [] recipes a → BatchTold shape [] firsts (givens a [] recipes) place n (Ok tt) rooms rooms a b)
batch_none t shape user key firsts recipes place n link rooms = leads_none t [] link _ _ (λ a ready alike. tt) (λ a ready. (refl, λ j lt. sym (append-nil (room_of rooms j))))

abbrev pub BatchLeads : {L : Type 0} → LinkTelling L → Shape → UserId → Tag × Version → List Item → ℕ → ℕ → L → L → List (List ℕ) → List (List ℕ) → Result (Unit {0}) RestoreErr → List ℕ → List Recipe → Type 0
BatchLeads t shape user key firsts place n old new rooms filled res clouds recipes =
    Leads t clouds old new (BatchShown t old shape user key clouds firsts recipes res) (λ a b. Ready shape user key clouds recipes a → BatchTold shape clouds firsts (givens a clouds recipes) place n res rooms filled a b)

pub batch_as : {L : Type 0} (t : LinkTelling L) (shape : Shape) (user : UserId) (key : Tag × Version) (firsts : List Item) (place n : ℕ) (old new : L) (rooms filled : List (List ℕ)) (res : Result (Unit {0}) RestoreErr)
    (clouds clouds' : List ℕ) (recipes recipes' : List Recipe) → clouds' ≡ clouds → recipes' ≡ recipes → BatchLeads t shape user key firsts place n old new rooms filled res clouds recipes
    → BatchLeads t shape user key firsts place n old new rooms filled res clouds' recipes'
batch_as t shape user key firsts place n old new rooms filled res clouds clouds' recipes recipes' c r leads =
    subst (λ (x : List ℕ). BatchLeads t shape user key firsts place n old new rooms filled res x recipes') (sym c)
    (subst (λ (x : List Recipe). BatchLeads t shape user key firsts place n old new rooms filled res clouds x) (sym r) leads)
