use Rattle.std.proofs.Common.{◌≡◌, ◌∷◌, ◌+◌, ℕ, Bool, false, List, [], length, Ok, Err, sym, ap, subst, arith, rules, ◌∙◌}
use Rattle.std.specs.Prelude.{All, IsTrue}
use Rattle.std.specs.List.{Contains}
use Rattle.std.proofs.lemmas.List.Elements.{All-tail}
use Rattle.user_dedup.specs.CdBase.Numbers.{numbers_of}
use Rattle.user_dedup.specs.Recipe.recipe.Recipe.{Recipe}
use Rattle.user_dedup.proofs.Owned.{contains_here, contains_later}
use Rattle.restore_job.specs.Refusals.{Names}
use Rattle.restore_job.specs.Brought.{HasShares}
use Rattle.restore_job.specs.Steps.{AreItemsAt, room_of}
use Rattle.restore_job.proofs.Bringing.{has_none, has_more}
use Rattle.restore_job.proofs.Causing.{names_to}
use Rattle.restore_job.proofs.Batches.{batch_none, batch_more, batch_stops, batch_as}
use Rattle.restore_job.specs.Asking.{HasAskedClouds, among, is_loss}
use Rattle.restore_job.proofs.Leading.{asked_on, asked_in, asked_at, told_among}
use Rattle.restore_job.proofs.Speaking.{unlost_as, batch_said_none, batch_said_one, batch_said_stop}
use Rattle.restore_job.proofs.Beside.{lost_on}
use Rattle.restore_job.proofs.Readable.{none_asked, readable_on, readable_stop}
use Rattle.restore_job.proofs.fetching.+fetch_batch.Goals as goal

pub returns-in_default-clause-told : goal.returns-in_default-clause-told
returns-in_default-clause-told g t c tag version these =
    let tells = among these g.L.Link.tells in
    batch_as tells c.args.batch.now.shape c.args.batch.now.user (tag, version) c.args.batch.now.firsts.now c.args.batch.now.place c.args.batch.now.count c.args.link.now c.args.link.now c.args.rooms.now c.args.rooms.now (Ok tt)
    [] (numbers_of c.args.clouds.now) c.args.recipes.now c.args.recipes.now (ap numbers_of c.in_default.ensures.clouds) (λ i. c.args.recipes.now)
    (batch_none tells c.args.batch.now.shape c.args.batch.now.user (tag, version) c.args.batch.now.firsts.now c.args.recipes.now c.args.batch.now.place c.args.batch.now.count c.args.link.now c.args.rooms.now)

pub returns-in-Err-clause-told : goal.returns-in-Err-clause-told
returns-in-Err-clause-told g t c tag version these =
    let tells = among these g.L.Link.tells in
    batch_as tells c.args.batch.now.shape c.args.batch.now.user (tag, version) c.args.batch.now.firsts.now c.args.batch.now.place c.args.batch.now.count c.args.link.now c.fetch_shares.new.link c.args.rooms.now c.fetch_shares.new.rooms (Err c.in-Err.e)
    (c.in-Some.cloud.0 ∷ numbers_of c.in-Some.more.now) (numbers_of c.args.clouds.now) (c.in-Some.recipe.now ∷ c.in-Some.rest.now) c.args.recipes.now (ap numbers_of c.in-Some.ensures.clouds) c.in-Some.ensures.recipes
    (batch_stops tells c.args.batch.now.shape c.args.batch.now.user (tag, version) c.in-Some.cloud (numbers_of c.in-Some.more.now) c.args.batch.now.firsts.now c.in-Some.recipe.now c.in-Some.rest.now c.args.batch.now.place c.args.batch.now.count
    c.args.link.now c.fetch_shares.new.link c.args.rooms.now c.fetch_shares.new.rooms c.in-Err.e (c.in-Err.ensures.told tag version these))

pub fetch_batch-requires : goal.fetch_batch-requires
fetch_batch-requires g t c =
    let shorter : length c.args.clouds.now ≡ length (c.in-Some.cloud ∷ c.in-Some.more.now) = ap length c.in-Some.ensures.clouds in
    let fewer : length c.args.recipes.now ≡ length (c.in-Some.recipe.now ∷ c.in-Some.rest.now) = ap length c.in-Some.ensures.recipes in
    let pairs : length c.in-Some.more.now ≡ length c.in-Some.rest.now = (let e = c.requires.pairs in omega arith) in
    let same : All (λ (recipe : Recipe). length recipe.items ≡ length c.args.batch.now.firsts.now) c.in-Some.rest.now =
    All-tail (λ (recipe : Recipe). length recipe.items ≡ length c.args.batch.now.firsts.now) c.in-Some.recipe.now c.in-Some.rest.now (subst (All (λ (recipe : Recipe). length recipe.items ≡ length c.args.batch.now.firsts.now)) c.in-Some.ensures.recipes c.requires.same) in
    let items : All (λ (recipe : Recipe). AreItemsAt recipe.items) c.in-Some.rest.now =
    All-tail (λ (recipe : Recipe). AreItemsAt recipe.items) c.in-Some.recipe.now c.in-Some.rest.now (subst (All (λ (recipe : Recipe). AreItemsAt recipe.items)) c.in-Some.ensures.recipes c.requires.items) in
    let reached : (cloud : ℕ) → Contains (numbers_of c.in-Some.more.now) cloud → IsTrue (g.L.Link.tells.reaches c.fetch_shares.new.link cloud) =
    λ cloud has. subst (λ (r : ℕ → Bool). IsTrue (r cloud)) (sym c.in-Ok.ensures.asked.reaches)
    (c.requires.reached cloud (subst (λ (l : List ℕ). Contains l cloud) (sym (ap numbers_of c.in-Some.ensures.clouds)) (contains_later c.in-Some.cloud.0 (numbers_of c.in-Some.more.now) cloud has))) in
    let shape : g.L.Link.tells.shape c.fetch_shares.new.link ≡ c.args.batch.now.shape = c.in-Ok.ensures.asked.shape ∙ c.requires.shape in
    search rules

pub returns-in-Ok-fetch_batch-clause-told : goal.returns-in-Ok-fetch_batch-clause-told
returns-in-Ok-fetch_batch-clause-told g t c tag version these =
    let tells = among these g.L.Link.tells in
    batch_as tells c.args.batch.now.shape c.args.batch.now.user (tag, version) c.args.batch.now.firsts.now c.args.batch.now.place c.args.batch.now.count c.args.link.now c.fetch_batch.new.link c.args.rooms.now c.fetch_batch.new.rooms (Ok tt)
    (c.in-Some.cloud.0 ∷ numbers_of c.in-Some.more.now) (numbers_of c.args.clouds.now) (c.in-Some.recipe.now ∷ c.in-Some.rest.now) c.args.recipes.now (ap numbers_of c.in-Some.ensures.clouds) c.in-Some.ensures.recipes
    (batch_more tells c.args.batch.now.shape c.args.batch.now.user (tag, version) c.in-Some.cloud (numbers_of c.in-Some.more.now) c.args.batch.now.firsts.now c.in-Some.recipe.now c.in-Some.rest.now c.args.batch.now.place c.args.batch.now.count
    c.args.link.now c.fetch_shares.new.link c.fetch_batch.new.link c.args.rooms.now c.fetch_shares.new.rooms c.fetch_batch.new.rooms (Ok tt) (told_among g.L.Link.tells these c.args.link.now c.fetch_shares.new.link c.in-Ok.ensures.asked.told) (c.in-Ok.ensures.told tag version these) (c.in-Ok-fetch_batch.ensures.told tag version these))

pub returns-in-Err-fetch_batch-clause-told : goal.returns-in-Err-fetch_batch-clause-told
returns-in-Err-fetch_batch-clause-told g t c tag version these =
    let tells = among these g.L.Link.tells in
    batch_as tells c.args.batch.now.shape c.args.batch.now.user (tag, version) c.args.batch.now.firsts.now c.args.batch.now.place c.args.batch.now.count c.args.link.now c.fetch_batch.new.link c.args.rooms.now c.fetch_batch.new.rooms (Err c.in-Err-fetch_batch.e)
    (c.in-Some.cloud.0 ∷ numbers_of c.in-Some.more.now) (numbers_of c.args.clouds.now) (c.in-Some.recipe.now ∷ c.in-Some.rest.now) c.args.recipes.now (ap numbers_of c.in-Some.ensures.clouds) c.in-Some.ensures.recipes
    (batch_more tells c.args.batch.now.shape c.args.batch.now.user (tag, version) c.in-Some.cloud (numbers_of c.in-Some.more.now) c.args.batch.now.firsts.now c.in-Some.recipe.now c.in-Some.rest.now c.args.batch.now.place c.args.batch.now.count
    c.args.link.now c.fetch_shares.new.link c.fetch_batch.new.link c.args.rooms.now c.fetch_shares.new.rooms c.fetch_batch.new.rooms (Err c.in-Err-fetch_batch.e) (told_among g.L.Link.tells these c.args.link.now c.fetch_shares.new.link c.in-Ok.ensures.asked.told) (c.in-Ok.ensures.told tag version these) (c.in-Err-fetch_batch.ensures.told tag version these))

pub returns-in-Err-clause-named : goal.returns-in-Err-clause-named
returns-in-Err-clause-named g t c =
    subst (λ (l : List ℕ). Names (Contains l) c.in-Err.e) (sym (ap numbers_of c.in-Some.ensures.clouds))
    (names_to (λ x. x ≡ c.in-Some.cloud.0) (Contains (c.in-Some.cloud.0 ∷ numbers_of c.in-Some.more.now)) c.in-Err.e
    (λ x is. subst (Contains (c.in-Some.cloud.0 ∷ numbers_of c.in-Some.more.now)) (sym is) (contains_here c.in-Some.cloud.0 (numbers_of c.in-Some.more.now))) c.in-Err.ensures.named)

pub returns-in-Err-fetch_batch-clause-named : goal.returns-in-Err-fetch_batch-clause-named
returns-in-Err-fetch_batch-clause-named g t c =
    subst (λ (l : List ℕ). Names (Contains l) c.in-Err-fetch_batch.e) (sym (ap numbers_of c.in-Some.ensures.clouds))
    (names_to (Contains (numbers_of c.in-Some.more.now)) (Contains (c.in-Some.cloud.0 ∷ numbers_of c.in-Some.more.now)) c.in-Err-fetch_batch.e
    (contains_later c.in-Some.cloud.0 (numbers_of c.in-Some.more.now)) c.in-Err-fetch_batch.ensures.named)

pub returns-in_default-clause-came : goal.returns-in_default-clause-came
returns-in_default-clause-came g t c j lt =
    subst (λ (l : List Recipe). HasShares l (c.args.batch.now.place + j) (room_of c.args.rooms.now j) (room_of c.args.rooms.now j)) (sym c.in_default.ensures.recipes) (has_none (c.args.batch.now.place + j) (room_of c.args.rooms.now j))

pub returns-in-Ok-fetch_batch-clause-came : goal.returns-in-Ok-fetch_batch-clause-came
returns-in-Ok-fetch_batch-clause-came g t c j lt =
    let first = c.in-Ok.ensures.came j lt in
    subst (λ (l : List Recipe). HasShares l (c.args.batch.now.place + j) (room_of c.args.rooms.now j) (room_of c.fetch_batch.new.rooms j)) (sym c.in-Some.ensures.recipes)
    (has_more c.in-Some.recipe.now c.in-Some.rest.now (c.args.batch.now.place + j) (room_of c.args.rooms.now j) (room_of c.fetch_shares.new.rooms j) (room_of c.fetch_batch.new.rooms j) first.0 first.1 first.2 (c.in-Ok-fetch_batch.ensures.came j lt))

pub returns-in-Err-clause-asked : goal.returns-in-Err-clause-asked
returns-in-Err-clause-asked g t c =
    subst (λ (l : List ℕ). HasAskedClouds g.L.Link.tells l c.args.link.now c.fetch_shares.new.link (is_loss c.in-Err.e)) (sym (ap numbers_of c.in-Some.ensures.clouds))
    (asked_at g.L.Link.tells c.in-Some.cloud.0 (c.in-Some.cloud.0 ∷ numbers_of c.in-Some.more.now) c.args.link.now c.fetch_shares.new.link _ (contains_here c.in-Some.cloud.0 (numbers_of c.in-Some.more.now)) c.in-Err.ensures.asked)

pub returns-in-Ok-fetch_batch-clause-asked : goal.returns-in-Ok-fetch_batch-clause-asked
returns-in-Ok-fetch_batch-clause-asked g t c =
    subst (λ (l : List ℕ). HasAskedClouds g.L.Link.tells l c.args.link.now c.fetch_batch.new.link false) (sym (ap numbers_of c.in-Some.ensures.clouds))
    (asked_on g.L.Link.tells (c.in-Some.cloud.0 ∷ numbers_of c.in-Some.more.now) c.args.link.now c.fetch_shares.new.link c.fetch_batch.new.link _
    (asked_at g.L.Link.tells c.in-Some.cloud.0 (c.in-Some.cloud.0 ∷ numbers_of c.in-Some.more.now) c.args.link.now c.fetch_shares.new.link _ (contains_here c.in-Some.cloud.0 (numbers_of c.in-Some.more.now)) c.in-Ok.ensures.asked)
    (asked_in g.L.Link.tells (numbers_of c.in-Some.more.now) (c.in-Some.cloud.0 ∷ numbers_of c.in-Some.more.now) c.fetch_shares.new.link c.fetch_batch.new.link _ (contains_later c.in-Some.cloud.0 (numbers_of c.in-Some.more.now)) c.in-Ok-fetch_batch.ensures.asked))

pub returns-in-Err-fetch_batch-clause-asked : goal.returns-in-Err-fetch_batch-clause-asked
returns-in-Err-fetch_batch-clause-asked g t c =
    subst (λ (l : List ℕ). HasAskedClouds g.L.Link.tells l c.args.link.now c.fetch_batch.new.link (is_loss c.in-Err-fetch_batch.e)) (sym (ap numbers_of c.in-Some.ensures.clouds))
    (asked_on g.L.Link.tells (c.in-Some.cloud.0 ∷ numbers_of c.in-Some.more.now) c.args.link.now c.fetch_shares.new.link c.fetch_batch.new.link _
    (asked_at g.L.Link.tells c.in-Some.cloud.0 (c.in-Some.cloud.0 ∷ numbers_of c.in-Some.more.now) c.args.link.now c.fetch_shares.new.link _ (contains_here c.in-Some.cloud.0 (numbers_of c.in-Some.more.now)) c.in-Ok.ensures.asked)
    (asked_in g.L.Link.tells (numbers_of c.in-Some.more.now) (c.in-Some.cloud.0 ∷ numbers_of c.in-Some.more.now) c.fetch_shares.new.link c.fetch_batch.new.link _ (contains_later c.in-Some.cloud.0 (numbers_of c.in-Some.more.now)) c.in-Err-fetch_batch.ensures.asked))

pub returns-in_default-clause-said : goal.returns-in_default-clause-said
returns-in_default-clause-said g t c =
    batch_said_none g.L.Link.tells g.L.Link.talk c.args.batch.now.shape c.args.batch.now.user c.args.batch.now.firsts.now c.args.batch.now.place c.args.batch.now.count c.args.link.now c.args.clouds.now c.args.recipes.now c.args.rooms.now c.in_default.ensures.clouds c.in_default.ensures.recipes

pub returns-in-Err-clause-said : goal.returns-in-Err-clause-said
returns-in-Err-clause-said g t c =
    unlost_as Unit Unit c.in-Err.e _ _
    (batch_said_stop g.L.Link.tells g.L.Link.talk c.args.batch.now.shape c.args.batch.now.user c.args.batch.now.firsts.now c.args.batch.now.place c.args.batch.now.count c.args.link.now c.fetch_shares.new.link c.args.clouds.now c.args.recipes.now
    c.in-Some.cloud c.in-Some.more.now c.in-Some.recipe.now c.in-Some.rest.now c.args.rooms.now c.fetch_shares.new.rooms c.in-Err.e c.in-Some.ensures.clouds c.in-Some.ensures.recipes) c.in-Err.ensures.said

pub returns-in-Ok-fetch_batch-clause-said : goal.returns-in-Ok-fetch_batch-clause-said
returns-in-Ok-fetch_batch-clause-said g t c =
    batch_said_one g.L.Link.tells g.L.Link.talk c.args.batch.now.shape c.args.batch.now.user c.args.batch.now.firsts.now c.args.batch.now.place c.args.batch.now.count c.args.link.now c.fetch_shares.new.link c.fetch_batch.new.link c.args.clouds.now c.args.recipes.now
    c.in-Some.cloud c.in-Some.more.now c.in-Some.recipe.now c.in-Some.rest.now c.args.rooms.now c.fetch_shares.new.rooms c.fetch_batch.new.rooms (Ok tt) c.in-Some.ensures.clouds c.in-Some.ensures.recipes
    c.in-Ok.ensures.said c.in-Ok-fetch_batch.ensures.said

pub returns-in-Err-fetch_batch-clause-said : goal.returns-in-Err-fetch_batch-clause-said
returns-in-Err-fetch_batch-clause-said g t c =
    unlost_as Unit Unit c.in-Err-fetch_batch.e _ _
    (batch_said_one g.L.Link.tells g.L.Link.talk c.args.batch.now.shape c.args.batch.now.user c.args.batch.now.firsts.now c.args.batch.now.place c.args.batch.now.count c.args.link.now c.fetch_shares.new.link c.fetch_batch.new.link c.args.clouds.now c.args.recipes.now
    c.in-Some.cloud c.in-Some.more.now c.in-Some.recipe.now c.in-Some.rest.now c.args.rooms.now c.fetch_shares.new.rooms c.fetch_batch.new.rooms (Err c.in-Err-fetch_batch.e) c.in-Some.ensures.clouds c.in-Some.ensures.recipes
    c.in-Ok.ensures.said) c.in-Err-fetch_batch.ensures.said

pub returns-in-Err-fetch_batch-clause-beside : goal.returns-in-Err-fetch_batch-clause-beside
returns-in-Err-fetch_batch-clause-beside g t c =
    let one = c.in-Ok.ensures.said in
    lost_on g.L.Link.talk (Unit {0}) (Unit {0}) c.args.link.now c.fetch_shares.new.link c.fetch_batch.new.link
    (one.0 ∷ []) c.in-Err-fetch_batch.e one.1.0 c.in-Err-fetch_batch.ensures.beside

pub returns-in_default-clause-readable : goal.returns-in_default-clause-readable
returns-in_default-clause-readable g t c = none_asked g.L.Link.tells c.args.link.now

pub returns-in-Ok-fetch_batch-clause-readable : goal.returns-in-Ok-fetch_batch-clause-readable
returns-in-Ok-fetch_batch-clause-readable g t c =
    readable_on g.L.Link.tells c.args.link.now c.fetch_shares.new.link c.fetch_batch.new.link c.in-Ok.ensures.readable
    c.in-Ok-fetch_batch.ensures.readable

pub returns-in-Err-fetch_batch-clause-readable : goal.returns-in-Err-fetch_batch-clause-readable
returns-in-Err-fetch_batch-clause-readable g t c =
    readable_stop g.L.Link.tells c.args.link.now c.fetch_shares.new.link c.fetch_batch.new.link c.in-Err-fetch_batch.e
    c.in-Ok.ensures.readable c.in-Err-fetch_batch.ensures.readable
