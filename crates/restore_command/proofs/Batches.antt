-- What the clouds were asked in one batch, and what they gave.
use Rattle.std.proofs.Common.{◌≡◌, ◌≢◌, ℕ, ◌<◌, ◌⊎◌, inl, inr, List, [], ◌∷◌, ◌++◌, length, refl, sym, ap, ◌∙◌, subst, arith, append_assoc, append-nil, Result, Ok, Err}
use Rattle.std.specs.List.{AllByRecursion}
use Rattle.ports_link.specs.CdBase.ids.CloudNo.{CloudNo}
use Rattle.ports_link.specs.CdBase.ids.UserId.{UserId}
use Rattle.ports_link.specs.CdBase.shape.Shape.{Shape}
use Rattle.ports_link.specs.Messages.ReplyReading.{reply_at}
use Rattle.ports_link.specs.Messages.Requests.{IsRequest}
use Rattle.ports_link.specs.Messages.reply.Reply.TheVariants as replies
use Rattle.ports_link.specs.Messages.request.Request.TheVariants as requests
use Rattle.subset_restore.specs.Recipe.items.Item.{Item}
use Rattle.subset_restore.specs.Recipe.recipe.Recipe.{Recipe}
use Rattle.ports_link.specs.UserDedup.Owning.{fps_in}
use Rattle.subset_restore.specs.RestoreJob.Exchanges.{CloudExchange, TakenAs, BatchSaid, AllTaken, OneTaken, OneRefused, items_at}
use Rattle.subset_restore.specs.RestoreJob.Steps.{SharesFrom, NamesKind, NoShares, Refuses, Takes, IsShareOf, room_of}
use Rattle.subset_restore.specs.RestoreJob.error.RestoreErr.{RestoreErr}
use Rattle.restore_command.specs.Talks.{with_cloud}
use Rattle.restore_command.specs.Fetched.{Each, NoMore, OneMore, row, string_of}
use Rattle.restore_command.specs.Stopped.{EachUntil, There, Further}
use Rattle.restore_command.proofs.Lists.{NoneIs, Apart, with_here, with_other}

-- ---- so of each cloud, on to something else

pub each_as : {P Q : CloudNo → Recipe → List (List ℕ) → Type 0} (Is : CloudNo → Type 0) (clouds : List CloudNo)
    (recipes : List Recipe) (all : List (List (List ℕ)))
    → ((c : CloudNo) (r : Recipe) (s : List (List ℕ)) → Is c → P c r s → Q c r s) → AllByRecursion Is clouds
    → Each P clouds recipes all → Each Q clouds recipes all
each_as Is _ _ _ f is NoMore = NoMore
each_as Is _ _ _ f is (OneMore cloud recipe strings clouds recipes all p more) =
    OneMore cloud recipe strings clouds recipes all (f cloud recipe strings is.0 p)
    (each_as Is clouds recipes all f is.1 more)

pub until_as : {B A H B' A' H' : CloudNo → Recipe → List (List ℕ) → Type 0} (Is : CloudNo → Type 0)
    (clouds : List CloudNo) (recipes : List Recipe) (all : List (List (List ℕ)))
    → ((c : CloudNo) (r : Recipe) (s : List (List ℕ)) → Is c → B c r s → B' c r s)
    → ((c : CloudNo) (r : Recipe) (s : List (List ℕ)) → Is c → A c r s → A' c r s)
    → ((c : CloudNo) (r : Recipe) (s : List (List ℕ)) → Is c → H c r s → H' c r s)
    → AllByRecursion Is clouds → EachUntil B A H clouds recipes all → EachUntil B' A' H' clouds recipes all
until_as Is _ _ _ f g h is (There cloud recipe strings clouds recipes all at behind) =
    There cloud recipe strings clouds recipes all (g cloud recipe strings is.0 at)
    (each_as Is clouds recipes all h is.1 behind)
until_as Is _ _ _ f g h is (Further cloud recipe strings clouds recipes all before more) =
    Further cloud recipe strings clouds recipes all (f cloud recipe strings is.0 before)
    (until_as Is clouds recipes all f g h is.1 more)

-- ---- a batch

module _ (shape : Shape) (user : UserId) (firsts : List Item) (place n : ℕ) where
  -- a cloud was asked once, and gave a share of each item
  pub record BatchOf (log : List CloudExchange) (cloud : CloudNo) (recipe : Recipe) (strings : List (List ℕ)) : Type 0 where
    pub x : CloudExchange
    pub mine : with_cloud log cloud.0 ≡ x ∷ []
    pub asked : IsRequest x.request (requests.GetShares user (fps_in (items_at place n recipe.items)))
    pub came : reply_at x.reply ≡ Ok (replies.Shares strings)
    pub long : length strings ≡ n
    pub shares : (j : ℕ) → j < n → IsShareOf shape firsts recipe.items place strings j

  -- a cloud was asked once, and refused
  pub record RefusedOf (log : List CloudExchange) (e : RestoreErr) (cloud : CloudNo) (recipe : Recipe)
      (strings : List (List ℕ)) : Type 0 where
    pub x : CloudExchange
    pub mine : with_cloud log cloud.0 ≡ x ∷ []
    pub asked : IsRequest x.request (requests.GetShares user (fps_in (items_at place n recipe.items)))
    pub none : strings ≡ []
    pub refuses : Refuses cloud (reply_at x.reply) (NoShares n) e
    pub kind : NamesKind {A = List (List ℕ)} x.reply (Err e)

  -- a cloud was asked once, and a string that it gave is no share
  pub record WrongOf (log : List CloudExchange) (e : RestoreErr) (cloud : CloudNo) (recipe : Recipe)
      (strings : List (List ℕ)) : Type 0 where
    pub x : CloudExchange
    pub mine : with_cloud log cloud.0 ≡ x ∷ []
    pub asked : IsRequest x.request (requests.GetShares user (fps_in (items_at place n recipe.items)))
    pub came : reply_at x.reply ≡ Ok (replies.Shares strings)
    pub long : length strings ≡ n
    pub old : List (List ℕ)
    pub new : List (List ℕ)
    pub wrong : Takes shape cloud firsts recipe.items place n strings old new (Err e)

  abbrev pub StopsOf : List CloudExchange → RestoreErr → CloudNo → Recipe → List (List ℕ) → Type 0
  StopsOf log e cloud recipe strings = RefusedOf log e cloud recipe strings ⊎ WrongOf log e cloud recipe strings

  abbrev pub UnaskedOf : List CloudExchange → CloudNo → Recipe → List (List ℕ) → Type 0
  UnaskedOf log cloud recipe strings = (with_cloud log cloud.0 ≡ []) × (strings ≡ [])

  abbrev pub BatchCame : List CloudNo → List Recipe → List CloudExchange → List (List ℕ) → List (List ℕ)
      → Result (Unit {0}) RestoreErr → Type 0
  BatchCame clouds recipes log rooms filled (Ok u) =
      (all : List (List (List ℕ))) × Each (BatchOf log) clouds recipes all
      × ((j : ℕ) → j < n → room_of filled j ≡ room_of rooms j ++ row all j)
  BatchCame clouds recipes log rooms filled (Err e) =
      (all : List (List (List ℕ))) × EachUntil (BatchOf log) (StopsOf log e) (UnaskedOf log) clouds recipes all

  -- who isn't one of these wasn't asked
  pub batch_others : (clouds : List CloudNo) (recipes : List Recipe) (log : List CloudExchange)
      (rooms filled : List (List ℕ)) (result : Result (Unit {0}) RestoreErr)
      → BatchSaid shape user firsts place n clouds recipes log rooms filled result → (c : ℕ) → NoneIs c clouds
      → with_cloud log c ≡ []
  batch_others _ _ _ _ _ _ (AllTaken rooms) c none = refl
  batch_others _ _ _ _ _ _ (OneTaken cloud clouds recipe recipes x log old mid new result one more) c none =
      with_other x log c (λ same. none.0 (sym same ∙ one.cloud_is)) ∙ batch_others clouds recipes log mid new result
      more c none.1
  batch_others _ _ _ _ _ _ (OneRefused cloud clouds recipe recipes x old new e one) c none =
      with_other x [] c (λ same. none.0 (sym same ∙ one.cloud_is))

  -- the exchange of another cloud in front changes nothing
  batch_behind : (cloud : CloudNo) (x : CloudExchange) (log : List CloudExchange) → x.cloud ≡ cloud.0
      → (c : CloudNo) (r : Recipe) (s : List (List ℕ)) → cloud.0 ≢ c.0 → BatchOf log c r s → BatchOf (x ∷ log) c r s
  batch_behind cloud x log same c r s differ b = record {
    x = b.x;
    mine = with_other x log c.0 (λ e. differ (sym same ∙ e)) ∙ b.mine;
    asked = b.asked;
    came = b.came;
    long = b.long;
    shares = b.shares;
  }

  stops_behind : (cloud : CloudNo) (x : CloudExchange) (log : List CloudExchange) (e : RestoreErr) → x.cloud ≡ cloud.0
      → (c : CloudNo) (r : Recipe) (s : List (List ℕ)) → cloud.0 ≢ c.0 → StopsOf log e c r s
      → StopsOf (x ∷ log) e c r s
  stops_behind cloud x log e same c r s differ (inl b) = inl (record {
    x = b.x;
    mine = with_other x log c.0 (λ e. differ (sym same ∙ e)) ∙ b.mine;
    asked = b.asked;
    none = b.none;
    refuses = b.refuses;
    kind = b.kind;
  })
  stops_behind cloud x log e same c r s differ (inr b) = inr (record {
    x = b.x;
    mine = with_other x log c.0 (λ e. differ (sym same ∙ e)) ∙ b.mine;
    asked = b.asked;
    came = b.came;
    long = b.long;
    old = b.old;
    new = b.new;
    wrong = b.wrong;
  })

  unasked_behind : (cloud : CloudNo) (x : CloudExchange) (log : List CloudExchange) → x.cloud ≡ cloud.0
      → (c : CloudNo) (r : Recipe) (s : List (List ℕ)) → cloud.0 ≢ c.0 → UnaskedOf log c r s
      → UnaskedOf (x ∷ log) c r s
  unasked_behind cloud x log same c r s differ b = (with_other x log c.0 (λ e. differ (sym same ∙ e)) ∙ b.0, b.1)

  -- what one cloud gave
  gave_of : (brought : Result (List (List ℕ)) RestoreErr) (cloud : CloudNo) (recipe : Recipe) (x : CloudExchange)
      (log : List CloudExchange) (old new : List (List ℕ))
      → with_cloud log cloud.0 ≡ x ∷ [] → IsRequest x.request
      (requests.GetShares user (fps_in (items_at place n recipe.items)))
      → SharesFrom cloud n (reply_at x.reply) brought → TakenAs shape cloud firsts recipe.items place n brought old
      new (Ok tt)
      → (strings : List (List ℕ)) × BatchOf log cloud recipe strings
      × ((j : ℕ) → j < n → room_of new j ≡ room_of old j ++ string_of strings j)
  gave_of (Ok shares) cloud recipe x log old new mine asked came taken =
      (shares, record { x = x; mine = mine; asked = asked; came = came.0; long = came.1; shares = taken.0 }, taken.1)
  gave_of (Err f) cloud recipe x log old new mine asked came taken = absurd (let g : Ok tt ≡ refused f = taken in cc)
    where
      refused : RestoreErr → Result (Unit {0}) RestoreErr
      refused f = Err f

  -- what one cloud answered in place of it
  stops_of : (brought : Result (List (List ℕ)) RestoreErr) (cloud : CloudNo) (recipe : Recipe) (x : CloudExchange)
      (log : List CloudExchange) (old new : List (List ℕ)) (e : RestoreErr)
      → with_cloud log cloud.0 ≡ x ∷ [] → IsRequest x.request
      (requests.GetShares user (fps_in (items_at place n recipe.items)))
      → SharesFrom cloud n (reply_at x.reply) brought → NamesKind x.reply brought
      → TakenAs shape cloud firsts recipe.items place n brought old new (Err e)
      → (strings : List (List ℕ)) × StopsOf log e cloud recipe strings
  stops_of (Ok shares) cloud recipe x log old new e mine asked came kind taken = (
    shares,
    inr (record {
      x = x;
      mine = mine;
      asked = asked;
      came = came.0;
      long = came.1;
      old = old;
      new = new;
      wrong = taken;
    }),
  )
  stops_of (Err f) cloud recipe x log old new e mine asked came kind taken =
      let same : f ≡ e = (let g : refused e ≡ refused f = taken in cc) in (
        [],
        inl (record {
          x = x;
          mine = mine;
          asked = asked;
          none = refl;
          refuses = subst (λ (g : RestoreErr). Refuses cloud (reply_at x.reply) (NoShares n) g) same came;
          kind = subst (λ (g : RestoreErr). NamesKind {A = List (List ℕ)} x.reply (Err g)) same kind;
        }),
      )
    where
      refused : RestoreErr → Result (Unit {0}) RestoreErr
      refused f = Err f

  -- of clouds that weren't asked
  pub unasked_all : (clouds : List CloudNo) (recipes : List Recipe) (log : List CloudExchange)
      → length clouds ≡ length recipes → AllByRecursion (λ (c : CloudNo). with_cloud log c.0 ≡ []) clouds
      → (all : List (List (List ℕ))) × Each (UnaskedOf log) clouds recipes all
  unasked_all [] [] log long are = ([], NoMore)
  unasked_all [] (r ∷ recipes) log long are = absurd (omega arith)
  unasked_all (c ∷ clouds) [] log long are = absurd (omega arith)
  unasked_all (c ∷ clouds) (r ∷ recipes) log long are =
      let more = unasked_all clouds recipes log (omega arith) are.1 in
      ([] ∷ more.0, OneMore c r [] clouds recipes more.0 (are.0, refl) more.1)

  none_asked : (clouds : List CloudNo) (cloud : CloudNo) (x : CloudExchange) → x.cloud ≡ cloud.0 → NoneIs cloud.0 clouds
      → AllByRecursion (λ (c : CloudNo). with_cloud (x ∷ []) c.0 ≡ []) clouds
  none_asked [] cloud x same none = tt
  none_asked (c ∷ clouds) cloud x same none = (
    with_other x [] c.0 (λ e. none.0 (sym same ∙ e)),
    none_asked clouds
        cloud x same none.1,
  )

  -- one cloud gave, and then what came of the others
  batch_on : (cloud : CloudNo) (clouds : List CloudNo) (recipe : Recipe) (recipes : List Recipe) (x : CloudExchange)
      (log : List CloudExchange) (old mid new : List (List ℕ)) (result : Result (Unit {0}) RestoreErr)
      → NoneIs cloud.0 clouds → x.cloud ≡ cloud.0
      → (strings : List (List ℕ)) × BatchOf (x ∷ log) cloud recipe strings
      × ((j : ℕ) → j < n → room_of mid j ≡ room_of old j ++ string_of strings j)
      → BatchCame clouds recipes log mid new result → BatchCame (cloud ∷ clouds) (recipe ∷ recipes) (x ∷ log) old new
      result
  batch_on cloud clouds recipe recipes x log old mid new (Ok u) none same one more = (
    one.0 ∷ more.0,
    OneMore cloud recipe one.0 clouds recipes more.0 one.1 (each_as (λ (c : CloudNo). cloud.0 ≢ c.0) clouds recipes
        more.0 (batch_behind cloud x log same) none more.1),
    λ j l. more.2 j l ∙ (ap (λ (r : List ℕ). r ++ row more.0 j) (one.2 j l) ∙ append_assoc (room_of old j)
        (string_of one.0 j) (row more.0 j)),
  )
  batch_on cloud clouds recipe recipes x log old mid new (Err e) none same one more = (
    one.0 ∷ more.0,
    Further cloud recipe one.0 clouds recipes more.0 one.1
        (until_as (λ (c : CloudNo). cloud.0 ≢ c.0) clouds recipes more.0 (batch_behind cloud x log same)
        (stops_behind cloud x log e same) (unasked_behind cloud x log same) none more.1),
  )

  pub batch_came : (clouds : List CloudNo) (recipes : List Recipe) (log : List CloudExchange)
      (rooms filled : List (List ℕ)) (result : Result (Unit {0}) RestoreErr) → Apart clouds
      → length clouds ≡ length recipes
      → BatchSaid shape user firsts place n clouds recipes log rooms filled result
      → BatchCame clouds recipes log rooms filled result
  batch_came _ _ _ _ _ _ apart long (AllTaken rooms) = ([], NoMore, λ j l. sym (append-nil (room_of rooms j)))
  batch_came _ _ _ _ _ _ apart long (OneTaken cloud clouds recipe recipes x log old mid new result one more) =
      let mine = with_here x log cloud.0 one.cloud_is ∙ ap (λ (l : List CloudExchange). x ∷ l)
      (batch_others clouds recipes log mid new result more cloud.0 apart.0) in
      batch_on cloud clouds recipe recipes x log old mid new result apart.0 one.cloud_is
      (gave_of one.brought cloud recipe x (x ∷ log) old mid mine one.asked one.came one.taken)
      (batch_came clouds recipes log mid new result apart.1 (omega arith) more)
  batch_came _ _ _ _ _ _ apart long (OneRefused cloud clouds recipe recipes x old new e one) =
      let at = stops_of one.brought cloud recipe x (x ∷ []) old new e (with_here x [] cloud.0 one.cloud_is) one.asked
      one.came one.kind one.taken in
      let behind = unasked_all clouds recipes (x ∷ []) (omega arith) (none_asked clouds cloud x one.cloud_is apart.0) in
      (at.0 ∷ behind.0, There cloud recipe at.0 clouds recipes behind.0 at.1 behind.1)
