-- How a restore ends.
use Rattle.std.proofs.Common.{◌≡◌, ℕ, zero, suc, ◌+◌, ◌-◌, ◌<◌, ◌≤◌, Bool, true, false, cond, List, [], ◌∷◌, ◌++◌, length, map, Option, Some, None, Result, Ok, Err, refl, sym, ap, ◌∙◌, subst, arith, inl, inr}
use Rattle.std.proofs.Common.{leb}
use Rattle.std.proofs.lemmas.Bool.{and_parts, leb-true}
use Rattle.std.proofs.lemmas.List.Elements.{All-cons, All-weaker}
use Rattle.std.specs.Prelude.{◌==◌, All, IsTrue, min, unwrap_or, option_map, find, is_none, IfErr}
use Rattle.std.specs.List.{Contains, flat_map}
use Rattle.user_dedup.specs.CdBase.ids.Tag.{Tag}
use Rattle.user_dedup.specs.CdBase.ids.UserId.{UserId}
use Rattle.user_dedup.specs.CdBase.ids.Version.{Version}
use Rattle.user_dedup.specs.CdBase.shape.Shape.{Shape}
use Rattle.user_dedup.specs.CdBase.Lengths.{share_len_of}
use Rattle.caont_rs.specs.declared.opening.RecoverErr.{RecoverErr}
use Rattle.caont_rs.specs.declared.opening.RecoverErr.TheVariants as opening
use Rattle.user_dedup.specs.Recipe.Spelling.{Fits, AreRecipeItems, is_len}
use Rattle.user_dedup.specs.Recipe.items.Item.{Item}
use Rattle.user_dedup.specs.Recipe.recipe.Recipe.{Recipe}
use Rattle.user_dedup.specs.Cloud.{held_string}
use Rattle.user_dedup.specs.Exec.{Peer}
use Rattle.user_dedup.specs.Link.{LinkTelling}
use Rattle.user_dedup.proofs.Owned.{contains_here, contains_later}
use Rattle.restore_job.specs.Asking.{MayRead, Leads, LeadsAny, HasAskedClouds, AreRead, among}
use Rattle.restore_job.specs.Reading.{Ends, Restores}
use Rattle.restore_job.specs.Refusals.{Names, Shows}
use Rattle.restore_job.specs.Restored
use Rattle.restore_job.specs.Restored.{Unrestored, Given, item_of, string_at, or_else, difference, of_secret, secret_opened, wrong_string, wrong_strings, recipe_in, no_recipe, given_by, missing, unless, joined, behind, differing, wrong_length, secrets_opened, batch_opened, batches_opened, batch_count, items_opened, agreed, restored_file}
use Rattle.restore_job.specs.Steps.{AreItemsAt, AgreedShown, BatchTold, BatchCaused, BatchShown, RecipesCaused, RecipesShown, SameLens, OpensSecretsTo, Compares, Ready, RecipesTold, recipes_in, givens, room_of}
use Rattle.restore_job.specs.declared.error.RestoreErr.{RestoreErr}
use Rattle.restore_job.specs.declared.error.RestoreErr.TheVariants as errors
use Rattle.restore_job.proofs.Causing.{caused_by_none, caused_on, causes_on, ready_on, compared_caused}
use Rattle.restore_job.proofs.Leading.{rose_on, may_on, may_stay, reads_on, leads_on, leads_to, leads_none, leads_whole, told_among, asked_on, asked_none, settled_same}
use Rattle.restore_job.proofs.Asks.{head_is, recipes_stay}
use Rattle.restore_job.proofs.Bringing.{none_differs}
use Rattle.restore_job.proofs.Wrong.{recipes_same, shown_caused, shows_caused}
use Rattle.restore_job.proofs.Taking.{Opening, opening_none, opening_is, opening_more, opening_all}
use Rattle.restore_job.proofs.Batches.{givens_stay, ready_stays, lists_stay}

-- ---- what clouds give

pub clouds_given : (clouds : List ℕ) (recipes : List Recipe) (a : ℕ → Peer) → length clouds ≡ length recipes → map (λ given. given.cloud) (givens a clouds recipes) ≡ clouds
clouds_given [] recipes a e = refl
clouds_given (c ∷ clouds) [] a e = absurd (omega arith)
clouds_given (c ∷ clouds) (r ∷ recipes) a e = let more = clouds_given clouds recipes a (omega arith) in λ i. c ∷ more i

pub recipes_given : (clouds : List ℕ) (recipes : List Recipe) (a : ℕ → Peer) → length clouds ≡ length recipes → map (λ given. given.recipe) (givens a clouds recipes) ≡ recipes
recipes_given [] [] a e = refl
recipes_given [] (r ∷ recipes) a e = absurd (omega arith)
recipes_given (c ∷ clouds) [] a e = absurd (omega arith)
recipes_given (c ∷ clouds) (r ∷ recipes) a e = let more = recipes_given clouds recipes a (omega arith) in λ i. r ∷ more i

-- ---- a batch

ends_of : (outcome : Result (List ℕ) Unrestored) (clouds : List ℕ) (res : Result (Unit {0}) RestoreErr) (old new : List ℕ) (a b : ℕ → Peer) → OpensSecretsTo outcome res old new → Ends outcome clouds res old new a b
ends_of outcome clouds (Ok u) old new a b opens = opens
ends_of outcome clouds (Err (errors.BadSecret secret named found)) old new a b opens = opens
ends_of outcome clouds (Err (errors.BadPad secret at byte)) old new a b opens = opens
ends_of outcome clouds (Err errors.NoMemory) old new a b opens = tt
ends_of outcome clouds (Err (errors.Missing c)) old new a b opens = absurd opens
ends_of outcome clouds (Err (errors.Lost c)) old new a b opens = absurd opens
ends_of outcome clouds (Err (errors.CloudFault c)) old new a b opens = absurd opens
ends_of outcome clouds (Err (errors.CloudDamaged c at byte)) old new a b opens = absurd opens
ends_of outcome clouds (Err (errors.CloudRotten c named found)) old new a b opens = absurd opens
ends_of outcome clouds (Err (errors.CloudNoMemory c)) old new a b opens = absurd opens
ends_of outcome clouds (Err (errors.Strange c kind)) old new a b opens = absurd opens
ends_of outcome clouds (Err (errors.RecipesDiffer x y at)) old new a b opens = absurd opens
ends_of outcome clouds (Err (errors.ShareLength c secret found wanted)) old new a b opens = absurd opens
ends_of outcome clouds (Err (errors.BadShare c secret named found)) old new a b opens = absurd opens

pub batch_refuses : (shape : Shape) (firsts : List Item) (clouds : List ℕ) (all : List Given) (place n : ℕ) (e : RestoreErr) (rooms filled : List (List ℕ)) (old : List ℕ) (a b : ℕ → Peer)
    → BatchTold shape clouds firsts all place n (Err e) rooms filled a b → Ends (batch_opened shape firsts all place n) clouds (Err e) old old a b
batch_refuses shape firsts clouds all place n (errors.ShareLength c secret found wanted) rooms filled old a b told = ap (λ (o : Option Unrestored). unless o (secrets_opened shape firsts all place n)) told
batch_refuses shape firsts clouds all place n (errors.CloudFault c) rooms filled old a b told = (told.0, told.1.0)
batch_refuses shape firsts clouds all place n (errors.Lost c) rooms filled old a b told = told
batch_refuses shape firsts clouds all place n errors.NoMemory rooms filled old a b told = tt
batch_refuses shape firsts clouds all place n (errors.Missing c) rooms filled old a b told = absurd told
batch_refuses shape firsts clouds all place n (errors.CloudDamaged c at byte) rooms filled old a b told = absurd told
batch_refuses shape firsts clouds all place n (errors.CloudRotten c named found) rooms filled old a b told = absurd told
batch_refuses shape firsts clouds all place n (errors.CloudNoMemory c) rooms filled old a b told = absurd told
batch_refuses shape firsts clouds all place n (errors.Strange c kind) rooms filled old a b told = absurd told
batch_refuses shape firsts clouds all place n (errors.RecipesDiffer x y at) rooms filled old a b told = absurd told
batch_refuses shape firsts clouds all place n (errors.BadShare c secret named found) rooms filled old a b told = absurd told
batch_refuses shape firsts clouds all place n (errors.BadSecret secret named found) rooms filled old a b told = absurd told
batch_refuses shape firsts clouds all place n (errors.BadPad secret at byte) rooms filled old a b told = absurd told

pub refused_batch : {L : Type 0} (t : LinkTelling L) (shape : Shape) (user : UserId) (key : Tag × Version) (clouds : List ℕ) (firsts : List Item) (recipes : List Recipe) (place n : ℕ) (old new : L) (rooms filled : List (List ℕ)) (out : List ℕ) (e : RestoreErr)
    → Leads t clouds old new (BatchShown t old shape user key clouds firsts recipes (Err e)) (λ a b. Ready shape user key clouds recipes a → BatchTold shape clouds firsts (givens a clouds recipes) place n (Err e) rooms filled a b)
    → Leads t clouds old new (BatchShown t old shape user key clouds firsts recipes (Err e)) (λ a b. Ready shape user key clouds recipes a → Ends (batch_opened shape firsts (givens a clouds recipes) place n) clouds (Err e) out out a b)
refused_batch t shape user key clouds firsts recipes place n old new rooms filled out e told =
    leads_to t clouds clouds old new _ _ _ _ told (λ x has. has) (λ a b one r known. r) (λ a b one r ready. batch_refuses shape firsts clouds (givens a clouds recipes) place n e rooms filled out a b (r ready))

pub opened_batch : {L : Type 0} (t : LinkTelling L) (shape : Shape) (user : UserId) (key : Tag × Version) (clouds points : List ℕ) (firsts : List Item) (recipes : List Recipe) (place n : ℕ) (old new : L) (rooms filled : List (List ℕ)) (out out' : List ℕ) (res : Result (Unit {0}) RestoreErr)
    → points ≡ clouds → length clouds ≡ length recipes → ((j : ℕ) → j < n → room_of rooms j ≡ [])
    → Leads t clouds old new (BatchShown t old shape user key clouds firsts recipes (Ok tt)) (λ a b. Ready shape user key clouds recipes a → BatchTold shape clouds firsts (givens a clouds recipes) place n (Ok tt) rooms filled a b)
    → ((all : List Given) → points ≡ map (λ given. given.cloud) all → ((j : ℕ) → j < n → room_of filled j ≡ flat_map (λ given. string_at given (place + j)) all) → OpensSecretsTo (secrets_opened shape firsts all place n) res out out')
    → IfErr res (Names (λ c. ⊥))
    → Leads t clouds old new (BatchShown t old shape user key clouds firsts recipes res) (λ a b. Ready shape user key clouds recipes a → Ends (batch_opened shape firsts (givens a clouds recipes) place n) clouds res out out' a b)
opened_batch t shape user key clouds points firsts recipes place n old new rooms filled out out' res are pairs empty told opens alone =
    leads_to t clouds clouds old new _ _ _ _ told (λ x has. has) (λ a b one r known ready alike. caused res alone a b)
    (λ a b one r ready.
    let all : List Given = givens a clouds recipes in
    let batch = r ready in
    let secrets = opens all (are ∙ sym (clouds_given clouds recipes a pairs)) (λ j lt. batch.1 j lt ∙ ap (λ (l : List ℕ). l ++ flat_map (λ given. string_at given (place + j)) all) (empty j lt)) in
    subst (λ (o : Option Unrestored). Ends (unless o (secrets_opened shape firsts all place n)) clouds res out out' a b) (sym batch.0)
    (ends_of (secrets_opened shape firsts all place n) clouds res out out' a b secrets))
  where
    caused : (r : Result (Unit {0}) RestoreErr) → IfErr r (Names (λ c. ⊥)) → (a b : ℕ → Peer) → Shows t old shape user key r a b
    caused (Ok u) alone a b = tt
    caused (Err e) alone a b = caused_by_none t old shape user key e a b alone

-- ---- batch by batch

ends_stops : (due next rest : Result (List ℕ) Unrestored) (clouds : List ℕ) (e : RestoreErr) (old mid new : List ℕ) (a b d : ℕ → Peer) → ((x : ℕ) → MayRead (a x) (b x)) → Opening due (behind next rest) old mid
    → Ends next clouds (Err e) mid new b d → Ends due clouds (Err e) old new a d
ends_stops due next rest clouds e old mid new a b d may o ends = go e ends
  where
    refuses : (why : Unrestored) → next ≡ Err why → due ≡ Err why
    refuses why is = o.left ∙ ap (λ (r : Result (List ℕ) Unrestored). joined o.done (behind r rest)) is

    go : (e : RestoreErr) → Ends next clouds (Err e) mid new b d → Ends due clouds (Err e) old new a d
    go (errors.Missing c) ends = refuses (Restored.Missing c.0) ends
    go (errors.RecipesDiffer x y at) ends = refuses (Restored.RecipesDiffer x.0 y.0 at) ends
    go (errors.ShareLength c secret found wanted) ends = refuses (Restored.ShareLength c.0 secret found wanted) ends
    go (errors.BadSecret secret named found) ends = refuses (Restored.NotOpened secret (opening.BadSecret named found)) ends
    go (errors.BadPad secret at byte) ends = refuses (Restored.NotOpened secret (opening.BadPad at byte)) ends
    go (errors.CloudFault c) ends = (ends.0, rose_on (a c.0).faults (b c.0).faults (d c.0).faults (may c.0).1.faults ends.1)
    go (errors.Lost c) ends = ends
    go errors.NoMemory ends = tt
    go (errors.CloudDamaged c at byte) ends = absurd ends
    go (errors.CloudRotten c named found) ends = absurd ends
    go (errors.CloudNoMemory c) ends = absurd ends
    go (errors.Strange c kind) ends = absurd ends
    go (errors.BadShare c secret named found) ends = absurd ends

-- what is left of the batches, from a place on
abbrev pub left_from : Shape → List Item → List Given → ℕ → Result (List ℕ) Unrestored
left_from shape firsts all place = batches_opened shape firsts all (batch_count (length firsts - place)) place (length firsts - place)

-- the secrets in front of a place were appended
pub record Restoring {L : Type 0} (t : LinkTelling L) (shape : Shape) (user : UserId) (clouds : List ℕ) (firsts : List Item) (recipes : List Recipe) (old now : L) (place : ℕ) (out out' : List ℕ) : Type 0 where
  pub told : (tag : Tag) (version : Version) → LeadsAny t clouds old now (λ these a b. Unit {0}) (λ a b. Ready shape user (tag, version) clouds recipes a
      → Opening (items_opened shape firsts (givens a clouds recipes)) (left_from shape firsts (givens a clouds recipes) place) out out')
  pub asked : HasAskedClouds t clouds old now false

pub restoring_none : {L : Type 0} (t : LinkTelling L) (shape : Shape) (user : UserId) (clouds : List ℕ) (firsts : List Item) (recipes : List Recipe) (link : L) (out : List ℕ) → Restoring t shape user clouds firsts recipes link link 0 out out
restoring_none t shape user clouds firsts recipes link out = record {
  told = λ tag version these. leads_none (among these t) clouds link _ _ (λ a. tt) (λ a ready.
      let due = items_opened shape firsts (givens a clouds recipes) in
      let e : length firsts ≡ length firsts - 0 = omega arith in
      opening_is due due (left_from shape firsts (givens a clouds recipes) 0) out out (λ i. batches_opened shape firsts (givens a clouds recipes) (batch_count (e i)) 0 (e i)) (opening_none due out));
  asked = asked_none t clouds link;
}

left_next : (shape : Shape) (firsts : List Item) (all : List Given) (place count : ℕ) → place < length firsts → count ≡ min 256 (length firsts - place)
    → left_from shape firsts all place ≡ behind (batch_opened shape firsts all place count) (left_from shape firsts all (place + count))
left_next shape firsts all place count lt is =
    let left : ℕ = length firsts - place in
    let size : ℕ = min 256 left in
    let same : count ≡ size = is in
    let one : batch_count left ≡ suc (batch_count (length firsts - (place + size))) = omega arith in
    let rest : left - size ≡ length firsts - (place + size) = omega arith in
    ap (λ (m : ℕ). batches_opened shape firsts all m place left) one
    ∙ ap (λ (l : ℕ). behind (batch_opened shape firsts all place size) (batches_opened shape firsts all (batch_count (length firsts - (place + size))) (place + size) l)) rest
    ∙ ap (λ (c : ℕ). behind (batch_opened shape firsts all place c) (left_from shape firsts all (place + c))) (sym same)

abbrev BatchEnds : {L : Type 0} → LinkTelling L → Shape → UserId → List ℕ → List Item → List Recipe → L → L → ℕ → ℕ → Result (Unit {0}) RestoreErr → List ℕ → List ℕ → Type 0
BatchEnds t shape user clouds firsts recipes mid new place count res out out' =
    (tag : Tag) (version : Version) → LeadsAny t clouds mid new (λ these. BatchShown (among these t) mid shape user (tag, version) clouds firsts recipes res) (λ a b. Ready shape user (tag, version) clouds recipes a → Ends (batch_opened shape firsts (givens a clouds recipes) place count) clouds res out out' a b)

pub restoring_more : {L : Type 0} (t : LinkTelling L) (shape : Shape) (user : UserId) (clouds : List ℕ) (firsts : List Item) (recipes : List Recipe) (old mid new : L) (place count : ℕ) (out between out' : List ℕ)
    → Restoring t shape user clouds firsts recipes old mid place out between → place < length firsts → count ≡ min 256 (length firsts - place) → HasAskedClouds t clouds mid new false
    → BatchEnds t shape user clouds firsts recipes mid new place count (Ok tt) between out' → Restoring t shape user clouds firsts recipes old new (place + count) out out'
restoring_more t shape user clouds firsts recipes old mid new place count out between out' f lt is asked ends = record {
  told = λ tag version these. leads_on (among these t) clouds clouds clouds old mid new _ _ _ _ _ _ (f.told tag version these) (told_among t these old mid f.asked.told) (ends tag version these) (λ x has. has) (λ x has. has)
      (λ a b d one two r s. tt)
      (λ a b d one two r s ready.
      let all : List Given = givens a clouds recipes in
      let due = items_opened shape firsts all in
      let same = givens_stay clouds recipes a b (lists_stay shape user (tag, version) clouds recipes a b ready one.read) in
      let batch = subst (λ (l : List Given). Ends (batch_opened shape firsts l place count) clouds (Ok tt) between out' b d) same (s (ready_stays shape user (tag, version) clouds recipes a b ready one.read)) in
      opening_more due (batch_opened shape firsts all place count) (left_from shape firsts all (place + count)) out between out'
      (opening_is due (left_from shape firsts all place) _ out between (left_next shape firsts all place count lt is) (r ready)) batch);
  asked = asked_on t clouds old mid new false f.asked asked;
}

pub restoring_stops : {L : Type 0} (t : LinkTelling L) (shape : Shape) (user : UserId) (clouds : List ℕ) (firsts : List Item) (recipes : List Recipe) (old mid new : L) (place count : ℕ) (out between out' : List ℕ) (e : RestoreErr)
    → Restoring t shape user clouds firsts recipes old mid place out between → place < length firsts → count ≡ min 256 (length firsts - place)
    → BatchEnds t shape user clouds firsts recipes mid new place count (Err e) between out' → (tag : Tag) (version : Version)
    → LeadsAny t clouds old new (λ these. BatchShown (among these t) old shape user (tag, version) clouds firsts recipes (Err e)) (λ a b. Ready shape user (tag, version) clouds recipes a → Ends (items_opened shape firsts (givens a clouds recipes)) clouds (Err e) out out' a b)
restoring_stops t shape user clouds firsts recipes old mid new place count out between out' e f lt is ends tag version these =
    let tells = among these t in
    let told = told_among t these old mid f.asked.told in
    leads_on tells clouds clouds clouds old mid new _ _ _ _ _ _ (f.told tag version these) told (ends tag version these) (λ x has. has) (λ x has. has)
    (λ a b d one two r s ready alike. caused_on tells old mid shape user (tag, version) e a b d told one.read (s (ready_on tells old mid shape user (tag, version) clouds recipes a b told one.read ready) alike))
    (λ a b d one two r s ready.
    let all : List Given = givens a clouds recipes in
    let due = items_opened shape firsts all in
    let same = givens_stay clouds recipes a b (lists_stay shape user (tag, version) clouds recipes a b ready one.read) in
    let batch = subst (λ (l : List Given). Ends (batch_opened shape firsts l place count) clouds (Err e) between out' b d) same (s (ready_stays shape user (tag, version) clouds recipes a b ready one.read)) in
    ends_stops due (batch_opened shape firsts all place count) (left_from shape firsts all (place + count)) clouds e out between out' a b d one.read
    (opening_is due (left_from shape firsts all place) _ out between (left_next shape firsts all place count lt is) (r ready)) batch)

pub restoring_all : {L : Type 0} (t : LinkTelling L) (shape : Shape) (user : UserId) (clouds : List ℕ) (firsts : List Item) (recipes : List Recipe) (old now : L) (place : ℕ) (out out' : List ℕ)
    → Restoring t shape user clouds firsts recipes old now place out out' → length firsts ≤ place → (tag : Tag) (version : Version)
    → LeadsAny t clouds old now (λ these. BatchShown (among these t) old shape user (tag, version) clouds firsts recipes (Ok tt)) (λ a b. Ready shape user (tag, version) clouds recipes a → Ends (items_opened shape firsts (givens a clouds recipes)) clouds (Ok tt) out out' a b)
restoring_all t shape user clouds firsts recipes old now place out out' f le tag version these =
    leads_to (among these t) clouds clouds old now _ _ _ _ (f.told tag version these) (λ x has. has) (λ a b one r known ready alike. tt)
    (λ a b one r ready.
    let due = items_opened shape firsts (givens a clouds recipes) in
    let none : batch_count (length firsts - place) ≡ zero = omega arith in
    opening_all due out out' (opening_is due (left_from shape firsts (givens a clouds recipes) place) (Ok []) out out' (ap (λ (m : ℕ). batches_opened shape firsts (givens a clouds recipes) m place (length firsts - place)) none) (r ready)))

-- ---- the recipes agree, or not

pub agreed_over : (shape : Shape) (cloud : ℕ) (recipe : Recipe) (clouds : List ℕ) (recipes : List Recipe) (a : ℕ → Peer) → length clouds ≡ length recipes
    → agreed shape (givens a (cloud ∷ clouds) (recipe ∷ recipes)) ≡ unless (differing cloud recipe clouds recipes) (items_opened shape recipe.items (givens a (cloud ∷ clouds) (recipe ∷ recipes)))
agreed_over shape cloud recipe clouds recipes a pairs =
    let cs = clouds_given clouds recipes a pairs in
    let rs = recipes_given clouds recipes a pairs in
    λ i. unless (differing cloud recipe (cs i) (rs i)) (items_opened shape recipe.items (givens a (cloud ∷ clouds) (recipe ∷ recipes)))

abbrev pub AgreedLeads : {L : Type 0} → LinkTelling L → Shape → UserId → L → L → List ℕ → List ℕ → Result (Unit {0}) RestoreErr → List ℕ → List Recipe → Type 0
AgreedLeads t shape user old new out out' res clouds recipes =
    (tag : Tag) (version : Version) → LeadsAny t clouds old new (λ these. AgreedShown (among these t) old shape user (tag, version) clouds recipes res) (λ a b. Ready shape user (tag, version) clouds recipes a → Ends (agreed shape (givens a clouds recipes)) clouds res out out' a b)

pub agreed_as : {L : Type 0} (t : LinkTelling L) (shape : Shape) (user : UserId) (old new : L) (out out' : List ℕ) (res : Result (Unit {0}) RestoreErr) (clouds clouds' : List ℕ) (recipes recipes' : List Recipe)
    → clouds' ≡ clouds → recipes' ≡ recipes → AgreedLeads t shape user old new out out' res clouds recipes → AgreedLeads t shape user old new out out' res clouds' recipes'
agreed_as t shape user old new out out' res clouds clouds' recipes recipes' c r leads =
    subst (λ (x : List ℕ). AgreedLeads t shape user old new out out' res x recipes') (sym c) (subst (λ (x : List Recipe). AgreedLeads t shape user old new out out' res clouds x) (sym r) leads)

compare_ends : (shape : Shape) (cloud : ℕ) (recipe : Recipe) (others : List ℕ) (rest : List Recipe) (clouds : List ℕ) (outcome : Result (List ℕ) Unrestored) (e : RestoreErr) (out : List ℕ) (a : ℕ → Peer)
    → Compares cloud recipe others rest (Err e) → Ends (unless (differing cloud recipe others rest) outcome) clouds (Err e) out out a a
compare_ends shape cloud recipe others rest clouds outcome (errors.RecipesDiffer x y at) out a differs = ap (λ (o : Option Unrestored). unless o outcome) differs
compare_ends shape cloud recipe others rest clouds outcome (errors.Missing c) out a differs = absurd differs
compare_ends shape cloud recipe others rest clouds outcome (errors.Lost c) out a differs = absurd differs
compare_ends shape cloud recipe others rest clouds outcome (errors.CloudFault c) out a differs = absurd differs
compare_ends shape cloud recipe others rest clouds outcome (errors.CloudDamaged c at byte) out a differs = absurd differs
compare_ends shape cloud recipe others rest clouds outcome (errors.CloudRotten c named found) out a differs = absurd differs
compare_ends shape cloud recipe others rest clouds outcome (errors.CloudNoMemory c) out a differs = absurd differs
compare_ends shape cloud recipe others rest clouds outcome (errors.Strange c kind) out a differs = absurd differs
compare_ends shape cloud recipe others rest clouds outcome (errors.ShareLength c secret found wanted) out a differs = absurd differs
compare_ends shape cloud recipe others rest clouds outcome (errors.BadShare c secret named found) out a differs = absurd differs
compare_ends shape cloud recipe others rest clouds outcome (errors.BadSecret secret named found) out a differs = absurd differs
compare_ends shape cloud recipe others rest clouds outcome (errors.BadPad secret at byte) out a differs = absurd differs
compare_ends shape cloud recipe others rest clouds outcome errors.NoMemory out a differs = tt

pub agreed_differs : {L : Type 0} (t : LinkTelling L) (shape : Shape) (user : UserId) (cloud : ℕ) (recipe : Recipe) (others : List ℕ) (rest : List Recipe) (link : L) (out : List ℕ) (e : RestoreErr) → length others ≡ length rest
    → Compares cloud recipe others rest (Err e) → AgreedLeads t shape user link link out out (Err e) (cloud ∷ others) (recipe ∷ rest)
agreed_differs t shape user cloud recipe others rest link out e pairs differs tag version these =
    leads_none (among these t) (cloud ∷ others) link _ _ (λ a ready. compared_caused (among these t) link shape user (tag, version) cloud recipe others rest e a a differs) (λ a ready.
    let all = givens a (cloud ∷ others) (recipe ∷ rest) in
    subst (λ (o : Result (List ℕ) Unrestored). Ends o (cloud ∷ others) (Err e) out out a a) (sym (agreed_over shape cloud recipe others rest a pairs))
    (compare_ends shape cloud recipe others rest (cloud ∷ others) (items_opened shape recipe.items all) e out a differs))

-- recipes that don't differ from the first one have secrets of the same lengths
same_lens : (cloud : ℕ) (recipe : Recipe) (others : List ℕ) (rest : List Recipe) → length others ≡ length rest → differing cloud recipe others rest ≡ None → All (λ (r : Recipe). SameLens recipe.items r.items) (recipe ∷ rest)
same_lens cloud recipe others rest pairs same =
    All-cons (λ (r : Recipe). SameLens recipe.items r.items) recipe rest (λ i. refl)
    (All-weaker (λ (r : Recipe). difference recipe r ≡ None) (λ (r : Recipe). SameLens recipe.items r.items) (λ r e. (recipes_same recipe r e).lens) rest (none_differs cloud recipe others rest pairs same))

-- of all the clouds: what is said of told ones
pub agreed_told : {L : Type 0} (t : LinkTelling L) (shape : Shape) (user : UserId) (old new : L) (out out' : List ℕ) (res : Result (Unit {0}) RestoreErr) (clouds : List ℕ) (recipes : List Recipe)
    → AgreedLeads t shape user old new out out' res clouds recipes → (tag : Tag) (version : Version)
    → Leads t clouds old new (BatchCaused t old shape user (tag, version) clouds recipes res) (λ a b. Ready shape user (tag, version) clouds recipes a → Ends (agreed shape (givens a clouds recipes)) clouds res out out' a b)
agreed_told t shape user old new out out' res clouds recipes leads tag version =
    leads_to t clouds clouds old new (AgreedShown t old shape user (tag, version) clouds recipes res) (BatchCaused t old shape user (tag, version) clouds recipes res) _ _
    (leads_whole t clouds old new (AgreedShown t old shape user (tag, version) clouds recipes res) _ (leads tag version (λ c. true)))
    (λ x has. has) (λ a b one r known ready. shows_caused t old shape user (tag, version) res a b (r ready)) (λ a b one r. r)

pub recipes_told : {L : Type 0} (t : LinkTelling L) (shape : Shape) (user : UserId) (key : Tag × Version) (clouds : List ℕ) (old new : L) (res : Result (List Recipe) RestoreErr)
    → LeadsAny t clouds old new (λ these. RecipesShown (among these t) old shape user key clouds res) (RecipesTold shape user key clouds res)
    → Leads t clouds old new (RecipesCaused t old shape user key clouds res) (RecipesTold shape user key clouds res)
recipes_told t shape user key clouds old new res leads =
    leads_to t clouds clouds old new (RecipesShown t old shape user key clouds res) (RecipesCaused t old shape user key clouds res) _ _
    (leads_whole t clouds old new (RecipesShown t old shape user key clouds res) _ (leads (λ c. true)))
    (λ x has. has) (λ a b one r known. by_result res a b r) (λ a b one r. r)
  where
    by_result : (r : Result (List Recipe) RestoreErr) (a b : ℕ → Peer) → RecipesShown t old shape user key clouds r a b → RecipesCaused t old shape user key clouds r a b
    by_result (Ok recipes) a b k = k
    by_result (Err e) a b k = shown_caused t old shape user key e a b k

pub agreed_items : {L : Type 0} (t : LinkTelling L) (shape : Shape) (user : UserId) (cloud : ℕ) (recipe : Recipe) (others : List ℕ) (rest : List Recipe) (old new : L) (out out' : List ℕ) (res : Result (Unit {0}) RestoreErr) → length others ≡ length rest
    → differing cloud recipe others rest ≡ None
    → ((tag : Tag) (version : Version) → LeadsAny t (cloud ∷ others) old new (λ these. BatchShown (among these t) old shape user (tag, version) (cloud ∷ others) recipe.items (recipe ∷ rest) res) (λ a b. Ready shape user (tag, version) (cloud ∷ others) (recipe ∷ rest) a
    → Ends (items_opened shape recipe.items (givens a (cloud ∷ others) (recipe ∷ rest))) (cloud ∷ others) res out out' a b))
    → AgreedLeads t shape user old new out out' res (cloud ∷ others) (recipe ∷ rest)
agreed_items t shape user cloud recipe others rest old new out out' res pairs same items tag version these =
    leads_to (among these t) (cloud ∷ others) (cloud ∷ others) old new _ _ _ _ (items tag version these) (λ x has. has) (λ a b one r known ready. r ready (same_lens cloud recipe others rest pairs same))
    (λ a b one r ready.
    let all = givens a (cloud ∷ others) (recipe ∷ rest) in
    subst (λ (o : Result (List ℕ) Unrestored). Ends o (cloud ∷ others) res out out' a b) (sym (agreed_over shape cloud recipe others rest a pairs ∙ ap (λ (o : Option Unrestored). unless o (items_opened shape recipe.items all)) same)) (r ready))

pub agreed_unmade : {L : Type 0} (t : LinkTelling L) (shape : Shape) (user : UserId) (clouds : List ℕ) (recipes : List Recipe) (link : L) (out : List ℕ) → AgreedLeads t shape user link link out out (Err errors.NoMemory) clouds recipes
agreed_unmade t shape user clouds recipes link out tag version these = leads_none (among these t) clouds link _ _ (λ a ready. tt) (λ a ready. tt)

-- ---- all of it

pub givens_by : (shape : Shape) (user : UserId) (key : Tag × Version) (clouds : List ℕ) (recipes : List Recipe) (a : ℕ → Peer) → recipes_in shape user key a clouds ≡ map Some recipes
    → map (given_by shape (λ cloud. (a cloud).list) user key) clouds ≡ givens a clouds recipes
givens_by shape user key [] recipes a are = refl
givens_by shape user key (c ∷ clouds) [] a are = absurd (let n = ap length are in omega arith)
givens_by shape user key (c ∷ clouds) (r ∷ recipes) a are =
    let h = head_is (recipe_in shape (a c).list user key) (Some r) (recipes_in shape user key a clouds) (map Some recipes) are in
    let more = givens_by shape user key clouds recipes a h.1 in
    λ i. record { cloud = c; recipe = unwrap_or (h.0 i) no_recipe; held = λ fp. unwrap_or (held_string (a c).list fp) [] } ∷ more i

pub none_missing : (shape : Shape) (user : UserId) (key : Tag × Version) (clouds : List ℕ) (recipes : List Recipe) (a : ℕ → Peer) → recipes_in shape user key a clouds ≡ map Some recipes
    → find (λ cloud. is_none (recipe_in shape (a cloud).list user key)) clouds ≡ None
none_missing shape user key [] recipes a are = refl
none_missing shape user key (c ∷ clouds) [] a are = absurd (let n = ap length are in omega arith)
none_missing shape user key (c ∷ clouds) (r ∷ recipes) a are =
    let h = head_is (recipe_in shape (a c).list user key) (Some r) (recipes_in shape user key a clouds) (map Some recipes) are in
    ap (λ (o : Option Recipe). cond (is_none o) (Some c) (find (λ cloud. is_none (recipe_in shape (a cloud).list user key)) clouds)) h.0 ∙ none_missing shape user key clouds recipes a h.1

pub file_over : (shape : Shape) (user : UserId) (key : Tag × Version) (clouds : List ℕ) (recipes : List Recipe) (a : ℕ → Peer) → recipes_in shape user key a clouds ≡ map Some recipes
    → restored_file shape (λ cloud. (a cloud).list) user key clouds ≡ agreed shape (givens a clouds recipes)
unfolding restored_file
file_over shape user key clouds recipes a are =
    ap (λ (o : Option ℕ). unless (option_map Restored.Missing o) (agreed shape (map (given_by shape (λ cloud. (a cloud).list) user key) clouds))) (none_missing shape user key clouds recipes a are)
    ∙ ap (agreed shape) (givens_by shape user key clouds recipes a are)

pub file_missing : (shape : Shape) (user : UserId) (key : Tag × Version) (clouds : List ℕ) (a : ℕ → Peer) (why : Unrestored) → missing shape (λ cloud. (a cloud).list) user key clouds ≡ Some why
    → restored_file shape (λ cloud. (a cloud).list) user key clouds ≡ Err why
unfolding restored_file
file_missing shape user key clouds a why is = ap (λ (o : Option Unrestored). unless o (agreed shape (map (given_by shape (λ cloud. (a cloud).list) user key) clouds))) is

-- the first asks ended it
pub first_ends : (shape : Shape) (user : UserId) (key : Tag × Version) (clouds : List ℕ) (e : RestoreErr) (out : List ℕ) (a b : ℕ → Peer) → RecipesTold shape user key clouds (Err e) a b → Restores shape user key clouds (Err e) out out a b
first_ends shape user key clouds (errors.Missing c) out a b told = record { ends = file_missing shape user key clouds b (Restored.Missing c.0) told.0; read = told.1 }
first_ends shape user key clouds (errors.CloudFault c) out a b told = record {
  ends = (subst (λ (l : List ℕ). Contains l c.0) (sym told.split) (in_middle told.front c.0 told.rest), told.stops.0);
  read = inl told;
}
  where
    in_middle : (front : List ℕ) (x : ℕ) (rest : List ℕ) → Contains (front ++ x ∷ rest) x
    in_middle [] x rest = contains_here x rest
    in_middle (y ∷ front) x rest = contains_later y (front ++ x ∷ rest) x (in_middle front x rest)
first_ends shape user key clouds (errors.Lost c) out a b told = record { ends = told; read = tt }
first_ends shape user key clouds errors.NoMemory out a b told = record { ends = tt; read = tt }
first_ends shape user key clouds (errors.CloudDamaged c at byte) out a b told = absurd told
first_ends shape user key clouds (errors.CloudRotten c named found) out a b told = absurd told
first_ends shape user key clouds (errors.CloudNoMemory c) out a b told = absurd told
first_ends shape user key clouds (errors.Strange c kind) out a b told = absurd told
first_ends shape user key clouds (errors.RecipesDiffer x y at) out a b told = absurd told
first_ends shape user key clouds (errors.ShareLength c secret found wanted) out a b told = absurd told
first_ends shape user key clouds (errors.BadShare c secret named found) out a b told = absurd told
first_ends shape user key clouds (errors.BadSecret secret named found) out a b told = absurd told
first_ends shape user key clouds (errors.BadPad secret at byte) out a b told = absurd told

-- ---- what isn't missing

abbrev NeverIn : Option Unrestored → Type 0
NeverIn None = Unit {0}
NeverIn (Some (Restored.Missing c)) = ⊥
NeverIn (Some (Restored.RecipesDiffer x y at)) = Unit {0}
NeverIn (Some (Restored.ShareLength c secret found wanted)) = Unit {0}
NeverIn (Some (Restored.NotOpened secret why)) = Unit {0}

abbrev Never : Result (List ℕ) Unrestored → Type 0
Never (Ok bytes) = Unit {0}
Never (Err (Restored.Missing c)) = ⊥
Never (Err (Restored.RecipesDiffer x y at)) = Unit {0}
Never (Err (Restored.ShareLength c secret found wanted)) = Unit {0}
Never (Err (Restored.NotOpened secret why)) = Unit {0}

never_else : (a b : Option Unrestored) → NeverIn a → NeverIn b → NeverIn (or_else a b)
never_else None b na nb = nb
never_else (Some why) b na nb = na

never_unless : (o : Option Unrestored) (r : Result (List ℕ) Unrestored) → NeverIn o → Never r → Never (unless o r)
never_unless None r no_o nr = nr
never_unless (Some (Restored.Missing c)) r no_o nr = no_o
never_unless (Some (Restored.RecipesDiffer x y at)) r no_o nr = tt
never_unless (Some (Restored.ShareLength c secret found wanted)) r no_o nr = tt
never_unless (Some (Restored.NotOpened secret why)) r no_o nr = tt

never_joined : (bytes : List ℕ) (r : Result (List ℕ) Unrestored) → Never r → Never (joined bytes r)
never_joined bytes (Ok more) n = tt
never_joined bytes (Err (Restored.Missing c)) n = n
never_joined bytes (Err (Restored.RecipesDiffer x y at)) n = tt
never_joined bytes (Err (Restored.ShareLength c secret found wanted)) n = tt
never_joined bytes (Err (Restored.NotOpened secret why)) n = tt

never_behind : (one two : Result (List ℕ) Unrestored) → Never one → Never two → Never (behind one two)
never_behind (Ok bytes) two n m = never_joined bytes two m
never_behind (Err (Restored.Missing c)) two n m = n
never_behind (Err (Restored.RecipesDiffer x y at)) two n m = tt
never_behind (Err (Restored.ShareLength c secret found wanted)) two n m = tt
never_behind (Err (Restored.NotOpened secret why)) two n m = tt

never_wrong : (shape : Shape) (firsts : List Item) (given : Given) (i : ℕ) → NeverIn (wrong_string shape firsts given i)
never_wrong shape firsts given i = by_test (length (string_at given i) == share_len_of shape.k (item_of firsts i).secret_len)
  where
    by_test : (b : Bool) → NeverIn (cond b None (Some (Restored.ShareLength given.cloud i (length (string_at given i)) (share_len_of shape.k (item_of firsts i).secret_len))))
    by_test true = tt
    by_test false = tt

never_strings : (shape : Shape) (firsts : List Item) (given : Given) (place n : ℕ) → NeverIn (wrong_strings shape firsts given place n)
never_strings shape firsts given place zero = tt
never_strings shape firsts given place (suc n) = never_else (wrong_string shape firsts given place) (wrong_strings shape firsts given (place + 1) n) (never_wrong shape firsts given place) (never_strings shape firsts given (place + 1) n)

never_length : (shape : Shape) (firsts : List Item) (place n : ℕ) (all : List Given) → NeverIn (wrong_length shape firsts place n all)
never_length shape firsts place n [] = tt
never_length shape firsts place n (g ∷ all) = never_else (wrong_strings shape firsts g place n) (wrong_length shape firsts place n all) (never_strings shape firsts g place n) (never_length shape firsts place n all)

never_secret : (i : ℕ) (r : Result (List ℕ) RecoverErr) → Never (of_secret i r)
never_secret i (Ok bytes) = tt
never_secret i (Err why) = tt

never_secrets : (shape : Shape) (firsts : List Item) (all : List Given) (place n : ℕ) → Never (secrets_opened shape firsts all place n)
never_secrets shape firsts all place zero = tt
never_secrets shape firsts all place (suc n) =
    never_behind (of_secret place (secret_opened shape firsts all place)) (secrets_opened shape firsts all (place + 1) n) (never_secret place (secret_opened shape firsts all place)) (never_secrets shape firsts all (place + 1) n)

never_batches : (shape : Shape) (firsts : List Item) (all : List Given) (m place left : ℕ) → Never (batches_opened shape firsts all m place left)
never_batches shape firsts all zero place left = tt
never_batches shape firsts all (suc m) place left =
    never_behind (batch_opened shape firsts all place (min 256 left)) (batches_opened shape firsts all m (place + min 256 left) (left - min 256 left))
    (never_unless (wrong_length shape firsts place (min 256 left) all) (secrets_opened shape firsts all place (min 256 left)) (never_length shape firsts place (min 256 left) all) (never_secrets shape firsts all place (min 256 left)))
    (never_batches shape firsts all m (place + min 256 left) (left - min 256 left))

never_differs : (cloud : ℕ) (recipe : Recipe) (clouds : List ℕ) (recipes : List Recipe) → NeverIn (differing cloud recipe clouds recipes)
never_differs cloud recipe [] recipes = tt
never_differs cloud recipe (c ∷ clouds) [] = tt
never_differs cloud recipe (c ∷ clouds) (r ∷ recipes) =
    never_else (option_map (Restored.RecipesDiffer cloud c) (difference recipe r)) (differing cloud recipe clouds recipes) (by_place (difference recipe r)) (never_differs cloud recipe clouds recipes)
  where
    by_place : (o : Option ℕ) → NeverIn (option_map (Restored.RecipesDiffer cloud c) o)
    by_place None = tt
    by_place (Some place) = tt

pub never_agreed : (shape : Shape) (all : List Given) → Never (agreed shape all)
never_agreed shape [] = tt
never_agreed shape (g ∷ all) =
    never_unless (differing g.cloud g.recipe (map (λ given. given.cloud) all) (map (λ given. given.recipe) all)) (items_opened shape g.recipe.items (g ∷ all))
    (never_differs g.cloud g.recipe (map (λ given. given.cloud) all) (map (λ given. given.recipe) all))
    (never_batches shape g.recipe.items (g ∷ all) (batch_count (length g.recipe.items)) 0 (length g.recipe.items))

-- ---- behind the recipes

pub then_ends : (shape : Shape) (user : UserId) (key : Tag × Version) (clouds : List ℕ) (recipes : List Recipe) (res : Result (Unit {0}) RestoreErr) (out out' : List ℕ) (a b d : ℕ → Peer)
    → AreRead clouds a b → recipes_in shape user key b clouds ≡ map Some recipes → ((x : ℕ) → MayRead (a x) (b x)) → ((x : ℕ) → MayRead (b x) (d x))
    → Ends (agreed shape (givens b clouds recipes)) clouds res out out' b d → Restores shape user key clouds res out out' a d
then_ends shape user key clouds recipes res out out' a b d read are first may ends = go res ends
  where
    settled : (x : ℕ) → Contains clouds x → (b x).pending ≡ None
    settled x has = (read x has).0.pending

    outcome : restored_file shape (λ cloud. (d cloud).list) user key clouds ≡ agreed shape (givens b clouds recipes)
    outcome =
        file_over shape user key clouds recipes d (recipes_stay shape user key clouds b d settled may ∙ are)
        ∙ ap (agreed shape) (givens_stay clouds recipes b d (λ x has. (settled_same (b x) (d x) (settled x has) (may x)).list))

    all_read : AreRead clouds a d
    all_read x has = reads_on (a x) (b x) (d x) (read x has) (may x)

    go : (res : Result (Unit {0}) RestoreErr) → Ends (agreed shape (givens b clouds recipes)) clouds res out out' b d → Restores shape user key clouds res out out' a d
    go (Ok u) ends = record { ends = (ends.0, ends.1, outcome ∙ ends.2); read = all_read }
    go (Err (errors.Missing c)) ends = absurd (subst Never ends (never_agreed shape (givens b clouds recipes)))
    go (Err (errors.RecipesDiffer x y at)) ends = record { ends = outcome ∙ ends; read = all_read }
    go (Err (errors.ShareLength c secret found wanted)) ends = record { ends = outcome ∙ ends; read = all_read }
    go (Err (errors.BadSecret secret named found)) ends = record { ends = outcome ∙ ends; read = all_read }
    go (Err (errors.BadPad secret at byte)) ends = record { ends = outcome ∙ ends; read = all_read }
    go (Err (errors.CloudFault c)) ends =
        let rose = rose_on (a c.0).faults (b c.0).faults (d c.0).faults (first c.0).1.faults ends.1 in
        record { ends = (ends.0, rose); read = inr (record { named = ends.0; read = λ x has other. all_read x has; fails = (rose, may_on (a c.0) (b c.0) (d c.0) (first c.0) (may c.0)) }) }
    go (Err (errors.Lost c)) ends = record { ends = ends; read = tt }
    go (Err errors.NoMemory) ends = record { ends = tt; read = tt }
    go (Err (errors.CloudDamaged c at byte)) ends = absurd ends
    go (Err (errors.CloudRotten c named found)) ends = absurd ends
    go (Err (errors.CloudNoMemory c)) ends = absurd ends
    go (Err (errors.Strange c kind)) ends = absurd ends
    go (Err (errors.BadShare c secret named found)) ends = absurd ends

pub all_restored : {L : Type 0} (t : LinkTelling L) (shape : Shape) (user : UserId) (tag : Tag) (version : Version) (clouds : List ℕ) (recipes : List Recipe) (old mid new : L) (res : Result (Unit {0}) RestoreErr) (out out' : List ℕ)
    → LeadsAny t clouds old mid (λ these. RecipesShown (among these t) old shape user (tag, version) clouds (Ok recipes)) (RecipesTold shape user (tag, version) clouds (Ok recipes)) → t.told mid ≡ t.told old → AgreedLeads t shape user mid new out out' res clouds recipes
    → LeadsAny t clouds old new (λ these. Shows (among these t) old shape user (tag, version) res) (Restores shape user (tag, version) clouds res out out')
all_restored t shape user tag version clouds recipes old mid new res out out' first same second these =
    let tells = among these t in
    let told = told_among t these old mid same in
    leads_on tells clouds clouds clouds old mid new _ _ _ _ _ _ (first these) told (second tag version these) (λ x has. has) (λ x has. has)
    (λ a b d one two r s. causes_on tells old mid shape user (tag, version) res a b d told one.read (s (ready_on tells old mid shape user (tag, version) clouds recipes b b told (λ x. may_stay (b x)) r)))
    (λ a b d one two r s.
    then_ends shape user (tag, version) clouds recipes res out out' a b d r.0 r.1 one.read two.read
    (s (record { recipes_are = r.1; settled = λ x has. (r.0 x has).0.pending })))

pub first_refused : {L : Type 0} (t : LinkTelling L) (shape : Shape) (user : UserId) (key : Tag × Version) (clouds : List ℕ) (old new : L) (e : RestoreErr) (out : List ℕ)
    → LeadsAny t clouds old new (λ these. RecipesShown (among these t) old shape user key clouds (Err e)) (RecipesTold shape user key clouds (Err e)) → LeadsAny t clouds old new (λ these. Shows (among these t) old shape user key (Err e)) (Restores shape user key clouds (Err e) out out)
first_refused t shape user key clouds old new e out first these = leads_to (among these t) clouds clouds old new _ _ _ _ (first these) (λ x has. has) (λ a b one r known. r) (λ a b one r. first_ends shape user key clouds e out a b r)

pub not_begun : {L : Type 0} (t : LinkTelling L) (shape : Shape) (user : UserId) (key : Tag × Version) (clouds : List ℕ) (link : L) (out : List ℕ) → LeadsAny t clouds link link (λ these. Shows (among these t) link shape user key (Err errors.NoMemory)) (Restores shape user key clouds (Err errors.NoMemory) out out)
not_begun t shape user key clouds link out these = leads_none (among these t) clouds link _ _ (λ a. tt) (λ a. record { ends = tt; read = tt })

-- an error leaves what stands in front
pub cut_back : (shape : Shape) (user : UserId) (key : Tag × Version) (clouds : List ℕ) (e : RestoreErr) (out between cut : List ℕ) (a b : ℕ → Peer) → Restores shape user key clouds (Err e) out between a b → Restores shape user key clouds (Err e) out cut a b
cut_back shape user key clouds e out between cut a b r = record { ends = go e r.ends; read = r.read }
  where
    due : Result (List ℕ) Unrestored
    due = restored_file shape (λ cloud. (b cloud).list) user key clouds

    go : (e : RestoreErr) → Ends due clouds (Err e) out between a b → Ends due clouds (Err e) out cut a b
    go (errors.Missing c) ends = ends
    go (errors.RecipesDiffer x y at) ends = ends
    go (errors.ShareLength c secret found wanted) ends = ends
    go (errors.BadSecret secret named found) ends = ends
    go (errors.BadPad secret at byte) ends = ends
    go (errors.CloudFault c) ends = ends
    go (errors.Lost c) ends = ends
    go errors.NoMemory ends = tt
    go (errors.CloudDamaged c at byte) ends = absurd ends
    go (errors.CloudRotten c named found) ends = absurd ends
    go (errors.CloudNoMemory c) ends = absurd ends
    go (errors.Strange c kind) ends = absurd ends
    go (errors.BadShare c secret named found) ends = absurd ends

-- ---- recipes that keep the rules

pub fits_items : (items : List Item) → AreRecipeItems items → AreItemsAt items
fits_items [] are i lt = absurd (omega arith)
fits_items (x ∷ items) are zero lt = record { some = least (length items == 0) are.0.1; few = most (length items == 0) are.0.1; fp = are.0.0 }
  where
    least : (last : Bool) → IsTrue (is_len last x.secret_len) → 1 ≤ x.secret_len
    least true h = leb-true _ _ (and_parts (leb 1 x.secret_len) _ h).0
    least false h = (let two : 2048 ≤ x.secret_len = leb-true _ _ (and_parts (leb 2048 x.secret_len) _ h).0 in omega arith)

    most : (last : Bool) → IsTrue (is_len last x.secret_len) → x.secret_len ≤ 16384
    most true h = leb-true _ _ (and_parts (leb 1 x.secret_len) _ h).1
    most false h = leb-true _ _ (and_parts (leb 2048 x.secret_len) _ h).1
fits_items (x ∷ items) are (suc i) lt = fits_items items are.1 i (omega arith)

pub fits_few : (shape : Shape) (r : Recipe) → Fits shape r → length r.items ≤ 32768
fits_few shape r fits = leb-true _ _ (and_parts (leb (length r.items) 32768) _ fits.count).0

abbrev pub ItemsLeads : {L : Type 0} → LinkTelling L → Shape → UserId → L → L → List ℕ → List ℕ → Result (Unit {0}) RestoreErr → List ℕ → List Recipe → List Item → Type 0
ItemsLeads t shape user old new out out' res clouds recipes firsts =
    (tag : Tag) (version : Version) → LeadsAny t clouds old new (λ these. BatchShown (among these t) old shape user (tag, version) clouds firsts recipes res) (λ a b. Ready shape user (tag, version) clouds recipes a → Ends (items_opened shape firsts (givens a clouds recipes)) clouds res out out' a b)

pub items_as : {L : Type 0} (t : LinkTelling L) (shape : Shape) (user : UserId) (old new : L) (out out' : List ℕ) (res : Result (Unit {0}) RestoreErr) (clouds clouds' : List ℕ) (recipes recipes' : List Recipe) (firsts firsts' : List Item)
    → clouds' ≡ clouds → recipes' ≡ recipes → firsts' ≡ firsts → ItemsLeads t shape user old new out out' res clouds' recipes' firsts' → ItemsLeads t shape user old new out out' res clouds recipes firsts
items_as t shape user old new out out' res clouds clouds' recipes recipes' firsts firsts' c r f leads =
    subst (λ (x : List Item). ItemsLeads t shape user old new out out' res clouds recipes x) f
    (subst (λ (x : List Recipe). ItemsLeads t shape user old new out out' res clouds x firsts') r
    (subst (λ (x : List ℕ). ItemsLeads t shape user old new out out' res x recipes' firsts') c leads))
