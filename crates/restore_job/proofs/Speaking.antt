-- Exchanges, one behind another.
use Rattle.std.proofs.Common.{◌≡◌, ℕ, ◌+◌, ◌-◌, ◌<◌, ◌≤◌, min, length, Bool, true, false, List, [], ◌∷◌, ◌++◌, Some, Result, Ok, Err, cond, append_assoc, append-nil, refl, sym, ap, subst, subst₂}
use Rattle.std.specs.Prelude.{◌==◌}
use Rattle.std.proofs.lemmas.Bool.{eqb-true, eqb-false}
use Rattle.user_dedup.specs.Link.{IsReading, LinkTelling, Talk, said, TakesFirstReply, SaysNothingElse}
use Rattle.user_dedup.specs.Recipe.recipe.Recipe.{Recipe}
use Rattle.caont_rs.specs.Opening.{opened}
use Rattle.restore_job.specs.Restored.{item_of, of_secret}
use Rattle.restore_job.specs.Steps.{OpensSecretsTo, room_of}
use Rattle.restore_job.specs.declared.error.RestoreErr.{RestoreErr}
use Rattle.restore_job.specs.declared.error.RestoreErr.TheVariants as errors
use Rattle.restore_job.specs.Exchanges.{CloudExchange, behind_one, behind_all, AreReplies, HasSpoken, Exchanged, PassesAll, Unlost, RecipeSaid, RecipesSaid, AllSaid, OneSaid, Refused, SharesSaid, BatchSaid, AllTaken, OneTaken, OneRefused, BatchRun, ItemsRun, ItemsDone, ItemsNext, ItemsStop, with_first, with_front}
use Rattle.user_dedup.specs.CdBase.ids.CloudNo.{CloudNo}
use Rattle.user_dedup.specs.CdBase.shape.Shape.{Shape}
use Rattle.user_dedup.specs.CdBase.ids.UserId.{UserId}
use Rattle.user_dedup.specs.Recipe.items.Item.{Item}

pub behind-append : (cloud : ℕ) (one two : List CloudExchange) (talk : Talk) → behind_all cloud (one ++ two) talk ≡ behind_all cloud two (behind_all cloud one talk)
behind-append cloud [] two talk = refl
behind-append cloud (x ∷ one) two talk = behind-append cloud one two (behind_one cloud x talk)

pub replies-append : (cloud : ℕ) (one two : List CloudExchange) (talk : Talk) → AreReplies cloud one talk → AreReplies cloud two (behind_all cloud one talk) → AreReplies cloud (one ++ two) talk
replies-append cloud [] two talk a b = b
replies-append cloud (x ∷ one) two talk a b = (a.0, replies-append cloud one two (behind_one cloud x talk) a.1 b)

module _ {L : Type 0} (talk : L → ℕ → Talk → Type 0) where
  pub spoken_none : (link : L) → HasSpoken talk link link []
  spoken_none link cloud before is = (is, tt)

  pub spoken_twice : (a b c : L) (one two : List CloudExchange) → HasSpoken talk a b one → HasSpoken talk b c two → HasSpoken talk a c (one ++ two)
  spoken_twice a b c one two first second cloud before is =
      let x = first cloud before is in
      let y = second cloud (behind_all cloud one before) x.0 in (
        subst (λ (t : Talk). talk c cloud t) (sym (behind-append cloud one two before)) y.0,
        replies-append cloud one two before x.1 y.1,
      )

  -- an ask that was answered
  pub spoken_one : (E : Type 0) (old new : L) (cloud : ℕ) (request reply : List ℕ) → TakesFirstReply {E = E} talk cloud old request reply (Ok tt) new → SaysNothingElse talk cloud old new
      → HasSpoken talk old new (record { cloud = cloud; request = request; reply = reply } ∷ [])
  spoken_one E old new cloud request reply says else other before is = go (cloud == other) refl
    where
      x : CloudExchange
      x = record { cloud = cloud; request = request; reply = reply }

      not_eqb : (cloud == other) ≡ false → cloud ≡ other → ⊥
      not_eqb e same = eqb-false cloud other e same

      go : (b : Bool) → (cloud == other) ≡ b → talk new other (behind_all other (x ∷ []) before) × AreReplies other (x ∷ []) before
      go true e =
          let same : cloud ≡ other = eqb-true cloud other e in
          let said_so = says before (subst (λ (n : ℕ). talk old n before) (sym same) is) in (
            subst (λ (b : Bool). talk new other (cond b (said before request) before)) (sym e) (subst (λ (n : ℕ). talk new n (said before request)) same said_so.1),
            (λ _. said_so.0, tt),
          )
      go false e = (
        subst (λ (b : Bool). talk new other (cond b (said before request) before)) (sym e) (else other before (λ same. not_eqb e (sym same)) is),
        (λ same. absurd (not_eqb e same), tt),
      )

-- what holds whatever the result
pub unlost : {A : Type 0} (result : Result A RestoreErr) (P : Type 0) → P → Unlost result P
unlost (Ok x) P p = p
unlost (Err (errors.Missing c)) P p = p
unlost (Err (errors.Lost c)) P p = tt
unlost (Err (errors.CloudFault c)) P p = p
unlost (Err (errors.CloudDamaged c at byte)) P p = p
unlost (Err (errors.CloudRotten c named found)) P p = p
unlost (Err (errors.CloudNoMemory c)) P p = p
unlost (Err (errors.Strange c kind)) P p = p
unlost (Err (errors.RecipesDiffer a b place)) P p = p
unlost (Err (errors.ShareLength c secret found wanted)) P p = p
unlost (Err (errors.BadShare c secret named found)) P p = p
unlost (Err (errors.BadSecret secret named found)) P p = p
unlost (Err (errors.BadPad secret at byte)) P p = p
unlost (Err errors.NoMemory) P p = tt

with_front-append : (recipes : List Recipe) (recipe : Recipe) (result : Result (List Recipe) RestoreErr) → with_front (recipes ++ recipe ∷ []) result ≡ with_front recipes (with_first recipe result)
with_front-append [] recipe result = refl
with_front-append (r ∷ recipes) recipe result = ap (with_first r) (with_front-append recipes recipe result)

pub with_front-end : (recipes : List Recipe) → with_front recipes (Ok []) ≡ Ok recipes
with_front-end [] = refl
with_front-end (r ∷ recipes) = ap (with_first r) (with_front-end recipes)

pub with_front-err : (recipes : List Recipe) (e : RestoreErr) → with_front recipes (Err e) ≡ Err e
with_front-err [] e = refl
with_front-err (r ∷ recipes) e = ap (with_first r) (with_front-err recipes e)

-- ---- what the link passed on

module _ {L : Type 0} (t : LinkTelling L) (talk : L → ℕ → Talk → Type 0) where
  pub exchanged_none : (link : L) → Exchanged t talk link link []
  exchanged_none link = (spoken_none talk link, refl)

  passed_twice : (a b c : L) (one two : List CloudExchange) → PassesAll t a b one → PassesAll t b c two → PassesAll t a c (one ++ two)
  passed_twice a b c [] two first second = subst (λ x. PassesAll t x c two) first second
  passed_twice a b c (x ∷ one) two first second = (first.0, (first.1.0, first.1.1, passed_twice first.1.0 b c one two first.1.2 second))

  pub exchanged_twice : (a b c : L) (one two : List CloudExchange) → Exchanged t talk a b one → Exchanged t talk b c two → Exchanged t talk a c (one ++ two)
  exchanged_twice a b c one two first second = (spoken_twice talk a b c one two first.0 second.0, passed_twice a b c one two first.1 second.1)

  pub exchanged_one : (E : Type 0) (old new : L) (cloud : ℕ) (request reply : List ℕ) → TakesFirstReply {E = E} talk cloud old request reply (Ok tt) new → SaysNothingElse talk cloud old new
      → IsReading request → t.passes old (record { cloud = cloud; content = request; reply = Some reply }) new
      → Exchanged t talk old new (record { cloud = cloud; request = request; reply = reply } ∷ [])
  exchanged_one E old new cloud request reply says else reading passes = (spoken_one talk E old new cloud request reply says else, (reading, (new, passes, refl)))

-- ---- recipes

-- Some clouds were asked, and gave recipes: what comes of the rest comes, behind this, of all.
pub record SaidAlong {L : Type 0} (t : LinkTelling L) (talk : L → ℕ → Talk → Type 0) (shape : Shape) (request : List ℕ) (clouds rest : List CloudNo) (old new : L) (recipes : List Recipe) : Type 0 where
  pub log : List CloudExchange
  pub spoken : Exchanged t talk old new log
  pub whole : (more : List CloudExchange) (result : Result (List Recipe) RestoreErr) → RecipesSaid shape request rest more result → RecipesSaid shape request clouds (log ++ more) (with_front recipes result)

pub record Came {L : Type 0} (t : LinkTelling L) (talk : L → ℕ → Talk → Type 0) (shape : Shape) (request : List ℕ) (clouds : List CloudNo) (old new : L) (result : Result (List Recipe) RestoreErr) : Type 0 where
  pub log : List CloudExchange
  pub spoken : Exchanged t talk old new log
  pub said_so : RecipesSaid shape request clouds log result

module _ {L : Type 0} (t : LinkTelling L) (talk : L → ℕ → Talk → Type 0) (shape : Shape) (request : List ℕ) (clouds : List CloudNo) (old : L) where
  pub along_none : SaidAlong t talk shape request clouds clouds old old []
  along_none = record { log = []; spoken = exchanged_none t talk old; whole = λ more result is. is }

  pub along_more : (mid new : L) (cloud : CloudNo) (rest : List CloudNo) (recipes : List Recipe) (recipe : Recipe) (x : CloudExchange) → SaidAlong t talk shape request clouds (cloud ∷ rest) old mid recipes
      → Exchanged t talk mid new (x ∷ []) → RecipeSaid shape request cloud x (Ok recipe) → SaidAlong t talk shape request clouds rest old new (recipes ++ recipe ∷ [])
  along_more mid new cloud rest recipes recipe x so_far spoken one = record {
    log = so_far.log ++ x ∷ [];
    spoken = exchanged_twice t talk old mid new so_far.log (x ∷ []) so_far.spoken spoken;
    whole = λ more result is.
        subst (λ (r : Result (List Recipe) RestoreErr). RecipesSaid shape request clouds ((so_far.log ++ x ∷ []) ++ more) r) (sym (with_front-append recipes recipe result))
        (subst (λ (l : List CloudExchange). RecipesSaid shape request clouds l (with_front recipes (with_first recipe result))) (sym (append_assoc so_far.log (x ∷ []) more))
        (so_far.whole (x ∷ more) (with_first recipe result) (OneSaid cloud rest x more recipe result one is)));
  }

  pub along_end : (new : L) (recipes : List Recipe) → SaidAlong t talk shape request clouds [] old new recipes → Came t talk shape request clouds old new (Ok recipes)
  along_end new recipes so_far = record {
    log = so_far.log ++ [];
    spoken = subst (λ (l : List CloudExchange). Exchanged t talk old new l) (sym (append-nil so_far.log)) so_far.spoken;
    said_so = subst (λ (r : Result (List Recipe) RestoreErr). RecipesSaid shape request clouds (so_far.log ++ []) r) (with_front-end recipes) (so_far.whole [] (Ok []) AllSaid);
  }

  pub along_stop : (mid new : L) (cloud : CloudNo) (rest : List CloudNo) (recipes : List Recipe) (e : RestoreErr) (x : CloudExchange) → SaidAlong t talk shape request clouds (cloud ∷ rest) old mid recipes
      → Exchanged t talk mid new (x ∷ []) → RecipeSaid shape request cloud x (Err e) → Came t talk shape request clouds old new (Err e)
  along_stop mid new cloud rest recipes e x so_far spoken one = record {
    log = so_far.log ++ x ∷ [];
    spoken = exchanged_twice t talk old mid new so_far.log (x ∷ []) so_far.spoken spoken;
    said_so = subst (λ (r : Result (List Recipe) RestoreErr). RecipesSaid shape request clouds (so_far.log ++ x ∷ []) r) (with_front-err recipes e) (so_far.whole (x ∷ []) (Err e) (Refused cloud rest x e one));
  }

-- a refusal of a cloud stops it, unless the ask was lost
pub stops_unlost : {L : Type 0} (t : LinkTelling L) (talk : L → ℕ → Talk → Type 0) (shape : Shape) (request : List ℕ) (clouds : List CloudNo) (old mid new : L) (cloud : CloudNo) (rest : List CloudNo) (recipes : List Recipe) (e : RestoreErr)
    → SaidAlong t talk shape request clouds (cloud ∷ rest) old mid recipes
    → Unlost {A = Recipe} (Err e) ((x : CloudExchange) × Exchanged t talk mid new (x ∷ []) × RecipeSaid shape request cloud x (Err e))
    → Unlost {A = List Recipe} (Err e) ((log : List CloudExchange) × Exchanged t talk old new log × RecipesSaid shape request clouds log (Err e))
stops_unlost t talk shape request clouds old mid new cloud rest recipes e so_far one = go e one
  where
    done : (f : RestoreErr) → (x : CloudExchange) × Exchanged t talk mid new (x ∷ []) × RecipeSaid shape request cloud x (Err f) → (log : List CloudExchange) × Exchanged t talk old new log × RecipesSaid shape request clouds log (Err f)
    done f it = let c = along_stop t talk shape request clouds old mid new cloud rest recipes f it.0 so_far it.1 it.2 in (c.log, c.spoken, c.said_so)

    go : (f : RestoreErr) → Unlost {A = Recipe} (Err f) ((x : CloudExchange) × Exchanged t talk mid new (x ∷ []) × RecipeSaid shape request cloud x (Err f))
        → Unlost {A = List Recipe} (Err f) ((log : List CloudExchange) × Exchanged t talk old new log × RecipesSaid shape request clouds log (Err f))
    go (errors.Missing c) it = done (errors.Missing c) it
    go (errors.Lost c) it = tt
    go (errors.CloudFault c) it = done (errors.CloudFault c) it
    go (errors.CloudDamaged c at byte) it = done (errors.CloudDamaged c at byte) it
    go (errors.CloudRotten c named found) it = done (errors.CloudRotten c named found) it
    go (errors.CloudNoMemory c) it = done (errors.CloudNoMemory c) it
    go (errors.Strange c kind) it = done (errors.Strange c kind) it
    go (errors.RecipesDiffer a b place) it = done (errors.RecipesDiffer a b place) it
    go (errors.ShareLength c secret found wanted) it = done (errors.ShareLength c secret found wanted) it
    go (errors.BadShare c secret named found) it = done (errors.BadShare c secret named found) it
    go (errors.BadSecret secret named found) it = done (errors.BadSecret secret named found) it
    go (errors.BadPad secret at byte) it = done (errors.BadPad secret at byte) it
    go errors.NoMemory it = tt

-- what follows of what was said, unless the ask was lost
pub unlost_as : (A B : Type 0) (e : RestoreErr) (P Q : Type 0) → (P → Q) → Unlost {A = A} (Err e) P → Unlost {A = B} (Err e) Q
unlost_as A B (errors.Missing c) P Q f p = f p
unlost_as A B (errors.Lost c) P Q f p = tt
unlost_as A B (errors.CloudFault c) P Q f p = f p
unlost_as A B (errors.CloudDamaged c at byte) P Q f p = f p
unlost_as A B (errors.CloudRotten c named found) P Q f p = f p
unlost_as A B (errors.CloudNoMemory c) P Q f p = f p
unlost_as A B (errors.Strange c kind) P Q f p = f p
unlost_as A B (errors.RecipesDiffer a b place) P Q f p = f p
unlost_as A B (errors.ShareLength c secret found wanted) P Q f p = f p
unlost_as A B (errors.BadShare c secret named found) P Q f p = f p
unlost_as A B (errors.BadSecret secret named found) P Q f p = f p
unlost_as A B (errors.BadPad secret at byte) P Q f p = f p
unlost_as A B errors.NoMemory P Q f p = tt

-- ---- shares

module _ {L : Type 0} (t : LinkTelling L) (talk : L → ℕ → Talk → Type 0) (shape : Shape) (user : UserId) (firsts : List Item) (place n : ℕ) where
  -- what was said in a batch
  abbrev pub BatchCame : List CloudNo → List Recipe → L → L → List (List ℕ) → List (List ℕ) → Result (Unit {0}) RestoreErr → Type 0
  BatchCame clouds recipes old new rooms filled result = (log : List CloudExchange) × Exchanged t talk old new log × BatchSaid shape user firsts place n clouds recipes log rooms filled result

  pub batch_said_none : (link : L) (clouds : List CloudNo) (recipes : List Recipe) (rooms : List (List ℕ)) → clouds ≡ [] → recipes ≡ [] → BatchCame clouds recipes link link rooms rooms (Ok tt)
  batch_said_none link clouds recipes rooms e f = (
    [],
    exchanged_none t talk link,
    subst₂ (λ (c : List CloudNo) (r : List Recipe). BatchSaid shape user firsts place n c r [] rooms rooms (Ok tt)) (sym e) (sym f) (AllTaken rooms),
  )

  pub batch_said_one : (old mid new : L) (clouds : List CloudNo) (recipes : List Recipe) (cloud : CloudNo) (more : List CloudNo) (recipe : Recipe) (rest : List Recipe) (rooms some filled : List (List ℕ)) (result : Result (Unit {0}) RestoreErr)
      → clouds ≡ cloud ∷ more → recipes ≡ recipe ∷ rest
      → (x : CloudExchange) × Exchanged t talk old mid (x ∷ []) × SharesSaid shape user cloud firsts recipe place n x rooms some (Ok tt)
      → BatchCame more rest mid new some filled result → BatchCame clouds recipes old new rooms filled result
  batch_said_one old mid new clouds recipes cloud more recipe rest rooms some filled result e f one came = (
    one.0 ∷ came.0,
    exchanged_twice t talk old mid new (one.0 ∷ []) came.0 one.1 came.1,
    subst₂ (λ (c : List CloudNo) (r : List Recipe). BatchSaid shape user firsts place n c r (one.0 ∷ came.0) rooms filled result) (sym e) (sym f)
        (OneTaken cloud more recipe rest one.0 came.0 rooms some filled result one.2 came.2),
  )

  pub batch_said_stop : (old new : L) (clouds : List CloudNo) (recipes : List Recipe) (cloud : CloudNo) (more : List CloudNo) (recipe : Recipe) (rest : List Recipe) (rooms filled : List (List ℕ)) (e : RestoreErr)
      → clouds ≡ cloud ∷ more → recipes ≡ recipe ∷ rest
      → (x : CloudExchange) × Exchanged t talk old new (x ∷ []) × SharesSaid shape user cloud firsts recipe place n x rooms filled (Err e)
      → BatchCame clouds recipes old new rooms filled (Err e)
  batch_said_stop old new clouds recipes cloud more recipe rest rooms filled e is are one = (
    one.0 ∷ [],
    one.1,
    subst₂ (λ (c : List CloudNo) (r : List Recipe). BatchSaid shape user firsts place n c r (one.0 ∷ []) rooms filled (Err e)) (sym is) (sym are)
        (OneRefused cloud more recipe rest one.0 rooms filled e one.2),
  )

-- ---- secrets

-- what stands in a room is opened
pub opens_here : (shape : Shape) (points : List ℕ) (firsts : List Item) (rooms : List (List ℕ)) (place j : ℕ) (shares : List ℕ) (result : Result (Unit {0}) RestoreErr) (old new : List ℕ) → shares ≡ room_of rooms j
    → OpensSecretsTo (of_secret (place + j) (opened shape (item_of firsts (place + j)).secret_len points shares)) result old new
    → OpensSecretsTo (of_secret (place + j) (opened shape (item_of firsts (place + j)).secret_len points (room_of rooms j))) result old new
opens_here shape points firsts rooms place j shares result old new e opens =
    subst (λ (l : List ℕ). OpensSecretsTo (of_secret (place + j) (opened shape (item_of firsts (place + j)).secret_len points l)) result old new) e opens

-- ---- batches

-- What comes of the secrets from a place on comes, behind this, of all.
pub record ItemsAlong {L : Type 0} (t : LinkTelling L) (talk : L → ℕ → Talk → Type 0) (shape : Shape) (user : UserId) (clouds : List CloudNo) (points : List ℕ) (firsts : List Item) (recipes : List Recipe) (old new : L) (place : ℕ) (out left : List ℕ) : Type 0 where
  pub log : List CloudExchange
  pub spoken : Exchanged t talk old new log
  pub whole : (more : List CloudExchange) (last : List ℕ) (result : Result (Unit {0}) RestoreErr) → ItemsRun shape user clouds points firsts recipes place more left last result
      → ItemsRun shape user clouds points firsts recipes 0 (log ++ more) out last result

module _ {L : Type 0} (t : LinkTelling L) (talk : L → ℕ → Talk → Type 0) (shape : Shape) (user : UserId) (clouds : List CloudNo) (points : List ℕ) (firsts : List Item) (recipes : List Recipe) where
  pub items_none : (link : L) (out : List ℕ) → ItemsAlong t talk shape user clouds points firsts recipes link link 0 out out
  items_none link out = record { log = []; spoken = exchanged_none t talk link; whole = λ more last result is. is }

  pub items_more : (old mid new : L) (place n : ℕ) (out left next : List ℕ) → place < length firsts → n ≡ min 256 (length firsts - place)
      → (log : List CloudExchange) × Exchanged t talk mid new log × BatchRun shape user clouds points firsts recipes place n log left next (Ok tt)
      → ItemsAlong t talk shape user clouds points firsts recipes old mid place out left → ItemsAlong t talk shape user clouds points firsts recipes old new (place + n) out next
  items_more old mid new place n out left next within size batch so_far = record {
    log = so_far.log ++ batch.0;
    spoken = exchanged_twice t talk old mid new so_far.log batch.0 so_far.spoken batch.1;
    whole = λ more last result is.
        subst (λ (l : List CloudExchange). ItemsRun shape user clouds points firsts recipes 0 l out last result) (sym (append_assoc so_far.log batch.0 more))
        (so_far.whole (batch.0 ++ more) last result (ItemsNext place batch.0 more left next last result within
        (subst (λ (m : ℕ). BatchRun shape user clouds points firsts recipes place m batch.0 left next (Ok tt)) size batch.2)
        (subst (λ (m : ℕ). ItemsRun shape user clouds points firsts recipes (place + m) more next last result) size is)));
  }

  abbrev pub ItemsCame : L → L → List ℕ → List ℕ → Result (Unit {0}) RestoreErr → Type 0
  ItemsCame old new out left result = (log : List CloudExchange) × Exchanged t talk old new log × ItemsRun shape user clouds points firsts recipes 0 log out left result

  pub items_end : (old new : L) (place : ℕ) (out left : List ℕ) → length firsts ≤ place → ItemsAlong t talk shape user clouds points firsts recipes old new place out left → ItemsCame old new out left (Ok tt)
  items_end old new place out left past so_far = (
    so_far.log ++ [],
    subst (λ (l : List CloudExchange). Exchanged t talk old new l) (sym (append-nil so_far.log)) so_far.spoken,
    so_far.whole [] left (Ok tt) (ItemsDone place left past),
  )

  pub items_stop : (old mid new : L) (place n : ℕ) (out left next : List ℕ) (e : RestoreErr) → place < length firsts → n ≡ min 256 (length firsts - place)
      → ItemsAlong t talk shape user clouds points firsts recipes old mid place out left
      → (log : List CloudExchange) × Exchanged t talk mid new log × BatchRun shape user clouds points firsts recipes place n log left next (Err e) → ItemsCame old new out next (Err e)
  items_stop old mid new place n out left next e within size so_far batch = (
    so_far.log ++ batch.0,
    exchanged_twice t talk old mid new so_far.log batch.0 so_far.spoken batch.1,
    so_far.whole batch.0 next (Err e) (ItemsStop place batch.0 left next e within (subst (λ (m : ℕ). BatchRun shape user clouds points firsts recipes place m batch.0 left next (Err e)) size batch.2)),
  )
