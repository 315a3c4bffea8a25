-- What comes of all batches.
use Rattle.std.proofs.Common.{◌≡◌, ℕ, ◌+◌, ◌*◌, ◌-◌, ◌<◌, ◌≤◌, ◌⊎◌, inl, inr, List, [], ◌∷◌, ◌++◌, length, refl, sym, ap, ◌∙◌, subst, arith, append_assoc, append-nil, length-append, Result, Ok, Err}
use Rattle.std.specs.Prelude.{min}
use Rattle.std.specs.List.{AllByRecursion}
use Rattle.std.proofs.lemmas.Bool.{cases_lt}
use Rattle.std.proofs.lemmas.List.{get_or_push, length_push}
use Rattle.ports_link.specs.CdBase.ids.CloudNo.{CloudNo}
use Rattle.ports_link.specs.CdBase.ids.UserId.{UserId}
use Rattle.ports_link.specs.CdBase.shape.Shape.{Shape}
use Rattle.subset_restore.specs.CaontRs.Opening.{opened}
use Rattle.subset_restore.specs.CaontRs.opening.RecoverErr.{RecoverErr}
use Rattle.subset_restore.specs.CaontRs.opening.RecoverErr.TheVariants as opening
use Rattle.subset_restore.specs.Recipe.items.Item.{Item}
use Rattle.subset_restore.specs.Recipe.recipe.Recipe.{Recipe}
use Rattle.subset_restore.specs.RestoreJob.Brought.{in_a_row}
use Rattle.subset_restore.specs.RestoreJob.Exchanges.{CloudExchange, OpenedTo, NoneOpened, OneOpened, OpensBatch, BatchRun, BatchOpened, BatchUnread, ItemsRun, ItemsDone, ItemsNext, ItemsStop}
use Rattle.subset_restore.specs.RestoreJob.Restored
use Rattle.subset_restore.specs.RestoreJob.Restored.{Unrestored, item_of, of_secret}
use Rattle.subset_restore.specs.RestoreJob.Steps.{OpensSecretsTo, room_of}
use Rattle.subset_restore.specs.RestoreJob.error.RestoreErr.{RestoreErr}
use Rattle.subset_restore.specs.RestoreJob.error.RestoreErr.TheVariants as errors
use Rattle.subset_restore.proofs.RestoreJob.Bringing.{opened_is}
use Rattle.restore_command.specs.Talks.{with_cloud}
use Rattle.restore_command.specs.Fetched.{Each, NoMore, OneMore, row, string_of}
use Rattle.restore_command.specs.Stopped.{EachUntil, There, Further}
use Rattle.restore_command.proofs.Lists.{Apart, in_a_row-append}
use Rattle.restore_command.proofs.Batches.{each_as, BatchOf, StopsOf, UnaskedOf, unasked_all, batch_came}
use Rattle.restore_command.proofs.Items.{each_joined, until_joined, string_front, string_behind, GaveFrom, StopsFrom, SameCount, gave_none, gave_more, stops_more, gave_one, stops_one}

-- a result that isn't opened says which secret it is
fails_as : (i secret : ℕ) (r : Result (List ℕ) RecoverErr) (why : RecoverErr) → of_secret i r ≡ Err
    (Restored.NotOpened secret why) → (secret ≡ i) × (r ≡ Err why)
fails_as i secret (Ok bytes) why e = absurd (let f : done bytes ≡ Err (Restored.NotOpened secret why) = e in cc)
  where
    done : List ℕ → Result (List ℕ) Unrestored
    done b = Ok b
fails_as i secret (Err w) why e =
    let f : failed (Restored.NotOpened i w) ≡ failed (Restored.NotOpened secret why) = e in
    let same : w ≡ why = cc in
    (cc, ap failed_by same)
  where
    failed : Unrestored → Result (List ℕ) Unrestored
    failed u = Err u

    failed_by : RecoverErr → Result (List ℕ) RecoverErr
    failed_by v = Err v

nobody_asked : (clouds : List CloudNo) → AllByRecursion (λ (c : CloudNo). with_cloud [] c.0 ≡ []) clouds
nobody_asked [] = tt
nobody_asked (c ∷ clouds) = (refl, nobody_asked clouds)

anyone : (recipes : List CloudNo) → AllByRecursion (λ (c : CloudNo). Unit {0}) recipes
anyone [] = tt
anyone (c ∷ clouds) = (tt, anyone clouds)

module _ (shape : Shape) (user : UserId) (firsts : List Item) (points : List ℕ) (clouds : List CloudNo)
    (recipes : List Recipe) where
  abbrev pub Opens : ℕ → List ℕ → List ℕ → Type 0
  Opens i strings secret = opened shape (item_of firsts i).secret_len points strings ≡ Ok secret

  pub record OpenedFrom (place n : ℕ) (all : List (List (List ℕ))) (old new : List ℕ) : Type 0 where
    pub secrets : List (List ℕ)
    pub count : length secrets ≡ n
    pub left : new ≡ old ++ in_a_row secrets
    pub opens : (i : ℕ) → i < n → Opens (place + i) (row all i) (string_of secrets i)

  pub record RoomsOpened (rooms : List (List ℕ)) (place n : ℕ) (old new : List ℕ) : Type 0 where
    pub secrets : List (List ℕ)
    pub count : length secrets ≡ n
    pub left : new ≡ old ++ in_a_row secrets
    pub opens : (i : ℕ) → i < n → Opens (place + i) (room_of rooms i) (string_of secrets i)

  one_more : (rooms : List (List ℕ)) (place j : ℕ) (secrets : List (List ℕ)) (file : List ℕ) → length secrets ≡ j
      → ((i : ℕ) → i < j → Opens (place + i) (room_of rooms i) (string_of secrets i)) → Opens (place + j)
      (room_of rooms j) file
      → (i : ℕ) → i < j + 1 → Opens (place + i) (room_of rooms i) (string_of (secrets ++ file ∷ []) i)
  one_more rooms place j secrets file long front here i l = go (cases_lt i j)
    where
      go : (i < j) ⊎ (j ≤ i) → Opens (place + i) (room_of rooms i) (string_of (secrets ++ file ∷ []) i)
      go (inl less) = subst (Opens (place + i) (room_of rooms i))
          (sym (string_front secrets (file ∷ []) j i long less)) (front i less)
      go (inr more) =
          let same : j ≡ i = omega arith in
          subst (λ (k : ℕ). Opens (place + k) (room_of rooms k) (string_of (secrets ++ file ∷ []) k)) same
          (subst (Opens (place + j) (room_of rooms j)) (sym (get_or_push secrets file [] j long)) here)

  rooms_opened : (rooms : List (List ℕ)) (place n : ℕ) (old new : List ℕ) → OpenedTo shape points firsts rooms place n
      old new → RoomsOpened rooms place n old new
  rooms_opened rooms place _ _ _ (NoneOpened out) = record {
    secrets = [];
    count = refl;
    left = sym (append-nil out);
    opens = λ i l. absurd (omega arith);
  }
  rooms_opened rooms place _ _ _ (OneOpened j old mid new before here) =
      let r = rooms_opened rooms place j old mid before in
      let file = here.0 in
      record {
        secrets = r.secrets ++ file ∷ [];
        count = length_push r.secrets file ∙ ap (λ (k : ℕ). k + 1) r.count;
        left = here.1 ∙ (ap (λ (l : List ℕ). l ++ file) r.left ∙ (append_assoc old (in_a_row r.secrets) file
            ∙ ap (λ (l : List ℕ). old ++ l) (ap (λ (l : List ℕ). in_a_row r.secrets ++ l) (sym (append-nil file))
            ∙ sym (in_a_row-append r.secrets (file ∷ [])))));
        opens = one_more rooms place j r.secrets file r.count r.opens
            (opened_is (place + j) (opened shape (item_of firsts (place + j)).secret_len points (room_of rooms j))
            file here.2);
      }

  -- the first m secrets from a place on open
  abbrev pub OpensTill : ℕ → ℕ → List (List (List ℕ)) → Type 0
  OpensTill place m all = (i : ℕ) → i < m → (secret : List ℕ) × Opens (place + i) (row all i) secret

  abbrev pub FailsAt : RestoreErr → ℕ → List ℕ → Type 0
  FailsAt (errors.BadSecret secret named found) i strings = (secret ≡ i)
      × (opened shape (item_of firsts i).secret_len points strings ≡ Err (opening.BadSecret named found))
  FailsAt (errors.BadPad secret at byte) i strings = (secret ≡ i)
      × (opened shape (item_of firsts i).secret_len points strings ≡ Err (opening.BadPad at byte))
  FailsAt errors.NoMemory i strings = Unit {0}
  FailsAt e i strings = ⊥

  fails_of : (e : RestoreErr) (i : ℕ) (strings old new : List ℕ)
      → OpensSecretsTo (of_secret i (opened shape (item_of firsts i).secret_len points strings)) (Err e) old new
      → FailsAt e i strings
  fails_of (errors.BadSecret secret named found) i strings old new h = fails_as i secret
      (opened shape (item_of firsts i).secret_len points strings) (opening.BadSecret named found) h
  fails_of (errors.BadPad secret at byte) i strings old new h = fails_as i secret
      (opened shape (item_of firsts i).secret_len points strings) (opening.BadPad at byte) h
  fails_of errors.NoMemory i strings old new h = tt
  fails_of (errors.Missing d) i strings old new h = absurd h
  fails_of (errors.Lost d) i strings old new h = absurd h
  fails_of (errors.CloudFault d) i strings old new h = absurd h
  fails_of (errors.CloudDamaged d at byte) i strings old new h = absurd h
  fails_of (errors.CloudRotten d named found) i strings old new h = absurd h
  fails_of (errors.CloudNoMemory d) i strings old new h = absurd h
  fails_of (errors.Strange d kind) i strings old new h = absurd h
  fails_of (errors.RecipesDiffer x y p) i strings old new h = absurd h
  fails_of (errors.ShareLength d secret found wanted) i strings old new h = absurd h
  fails_of (errors.BadShare d secret named found) i strings old new h = absurd h

  -- ---- a batch

  pub data BatchStopped (place n : ℕ) (log : List CloudExchange) (e : RestoreErr) : Type 0 where
    SharesOf : (all : List (List (List ℕ))) → EachUntil (BatchOf shape user firsts place n log)
        (StopsOf shape user firsts place n log e) (UnaskedOf shape user firsts place n log) clouds recipes all
        → BatchStopped place n log e
    SecretOf : (all : List (List (List ℕ))) (j : ℕ) → Each (BatchOf shape user firsts place n log) clouds recipes all
        → j < n → OpensTill place j all → FailsAt e (place + j) (row all j)
        → BatchStopped place n log e

  abbrev pub BatchDone : ℕ → ℕ → List CloudExchange → List ℕ → List ℕ → Result (Unit {0}) RestoreErr → Type 0
  BatchDone place n log old new (Ok u) = (all : List (List (List ℕ))) × Each (BatchOf shape user firsts place n log)
      clouds recipes all × OpenedFrom place n all old new
  BatchDone place n log old new (Err e) = BatchStopped place n log e

  opened_batch : (place n : ℕ) (log : List CloudExchange) (filled : List (List ℕ)) (all : List (List (List ℕ)))
      (old new : List ℕ) (result : Result (Unit {0}) RestoreErr)
      → Each (BatchOf shape user firsts place n log) clouds recipes all
      → ((j : ℕ) → j < n → room_of filled j ≡ row all j) → OpensBatch shape points firsts filled place n old new
      result
      → BatchDone place n log old new result
  opened_batch place n log filled all old new (Ok u) each rows opens =
      let r = rooms_opened filled place n old new opens in (
        all,
        each,
        record {
          secrets = r.secrets;
          count = r.count;
          left = r.left;
          opens = λ i l. subst
              (λ (x : List ℕ). Opens (place + i) x (string_of r.secrets i)) (rows i l) (r.opens i l);
        },
      )
  opened_batch place n log filled all old new (Err e) each rows stops =
      let r = rooms_opened filled place stops.j old stops.mid stops.front in
      let l = stops.within in
      SecretOf all stops.j each l
      (λ i less. (
        string_of r.secrets i,
        subst (λ (x : List ℕ). Opens (place + i) x (string_of r.secrets i))
            (rows i (omega arith)) (r.opens i less),
      ))
      (subst (FailsAt e (place + stops.j)) (rows stops.j l) (fails_of e (place + stops.j) (room_of filled stops.j)
      stops.mid new stops.stops))

  batch_run : (place n : ℕ) (log : List CloudExchange) (old new : List ℕ) (result : Result (Unit {0}) RestoreErr)
      → Apart clouds → length clouds ≡ length recipes
      → BatchRun shape user clouds points firsts recipes place n log old new result
      → BatchDone place n log old new result
  batch_run place n _ _ _ _ apart long (BatchOpened rooms filled log old new result empty said opens) =
      let came = batch_came shape user firsts place n clouds recipes log rooms filled (Ok tt) apart long said in
      opened_batch place n log filled came.0 old new result came.1
      (λ j l. came.2 j l ∙ ap (λ (x : List ℕ). x ++ row came.0 j) (empty j l)) opens
  batch_run place n _ _ _ _ apart long (BatchUnread rooms filled log out e empty said) =
      let came = batch_came shape user firsts place n clouds recipes log rooms filled (Err e) apart long said in
      SharesOf came.0 came.1

  -- ---- all batches

  pub record BatchAt (place m n : ℕ) : Type 0 where
    pub batches : ℕ
    pub begins : m ≡ 256 * batches
    pub some : place + m < length firsts
    pub size : n ≡ min 256 (length firsts - (place + m))

  pub data ItemsStopped (place : ℕ) (log : List CloudExchange) (e : RestoreErr) : Type 0 where
    SharesStop : (all : List (List (List ℕ))) (m n : ℕ) → BatchAt place m n
        → EachUntil (GaveFrom shape user firsts place (m + n) log) (StopsFrom shape user firsts place m n log e)
        (GaveFrom shape user firsts place m log) clouds recipes all
        → OpensTill place m all → ItemsStopped place log e
    SecretStop : (all : List (List (List ℕ))) (m n j : ℕ) → BatchAt place m n
        → Each (GaveFrom shape user firsts place (m + n) log) clouds recipes all → m ≤ j → j < m + n
        → OpensTill place j all → FailsAt e (place + j) (row all j) → ItemsStopped place log e

  abbrev pub ItemsCame : ℕ → List CloudExchange → List ℕ → List ℕ → Result (Unit {0}) RestoreErr → Type 0
  ItemsCame place log old new (Ok u) =
      (all : List (List (List ℕ))) × Each (GaveFrom shape user firsts place (length firsts - place) log) clouds
      recipes all × OpenedFrom place (length firsts - place) all old new
  ItemsCame place log old new (Err e) = ItemsStopped place log e

  long_of : (place n : ℕ) (log : List CloudExchange) (c : CloudNo) (r : Recipe) (s : List (List ℕ))
      → BatchOf shape user firsts place n log c r s → length s ≡ n
  long_of place n log c r s g = g.long

  opened_joined : (place b n : ℕ) (all ss ts : List (List (List ℕ))) (old mid new : List ℕ)
      → ((i : ℕ) → i < b → row all i ≡ row ss i) → ((i : ℕ) → row all (b + i) ≡ row ts i)
      → OpenedFrom place b ss old mid → OpenedFrom (place + b) n ts mid new → OpenedFrom place (b + n) all old new
  opened_joined place b n all ss ts old mid new front behind one two = record {
    secrets = one.secrets ++ two.secrets;
    count = let x = one.count in let y = two.count in omega (arith, length-append one.secrets two.secrets);
    left = two.left ∙ (ap (λ (l : List ℕ). l ++ in_a_row two.secrets) one.left
        ∙ (append_assoc old (in_a_row one.secrets) (in_a_row two.secrets)
        ∙ ap (λ (l : List ℕ). old ++ l) (sym (in_a_row-append one.secrets two.secrets))));
    opens = λ i l. go i l (cases_lt i b);
  }
    where
      later : (i : ℕ) → i < n → Opens (place + (b + i)) (row all (b + i)) (string_of (one.secrets ++ two.secrets)
          (b + i))
      later i l =
          let e : place + b + i ≡ place + (b + i) = omega arith in
          subst (λ (p : ℕ). Opens p (row all (b + i)) (string_of (one.secrets ++ two.secrets) (b + i))) e
          (subst (λ (x : List ℕ). Opens (place + b + i) x (string_of (one.secrets ++ two.secrets) (b + i)))
          (sym (behind i))
          (subst (Opens (place + b + i) (row ts i)) (sym (string_behind one.secrets two.secrets b i one.count))
          (two.opens i l)))

      go : (i : ℕ) → i < b + n → (i < b) ⊎ (b ≤ i) → Opens (place + i) (row all i)
          (string_of (one.secrets ++ two.secrets) i)
      go i l (inl less) =
          subst (λ (x : List ℕ). Opens (place + i) x (string_of (one.secrets ++ two.secrets) i)) (sym (front i less))
          (subst (Opens (place + i) (row ss i)) (sym (string_front one.secrets two.secrets b i one.count less))
          (one.opens i less))
      go i l (inr more) =
          let e : b + (i - b) ≡ i = omega arith in
          subst (λ (k : ℕ). Opens (place + k) (row all k) (string_of (one.secrets ++ two.secrets) k)) e
          (later (i - b) (omega arith))

  till_joined : (place b m : ℕ) (all ss ts : List (List (List ℕ))) (old mid : List ℕ)
      → ((i : ℕ) → i < b → row all i ≡ row ss i) → ((i : ℕ) → row all (b + i) ≡ row ts i)
      → OpenedFrom place b ss old mid → OpensTill (place + b) m ts → OpensTill place (b + m) all
  till_joined place b m all ss ts old mid front behind one two i l = go (cases_lt i b)
    where
      later : (j : ℕ) → j < m → (secret : List ℕ) × Opens (place + (b + j)) (row all (b + j)) secret
      later j l =
          let e : place + b + j ≡ place + (b + j) = omega arith in
          let t = two j l in (
            t.0,
            subst (λ (p : ℕ). Opens p (row all (b + j)) t.0) e
                (subst (λ (x : List ℕ). Opens (place + b + j) x t.0) (sym (behind j)) t.1),
          )

      go : (i < b) ⊎ (b ≤ i) → (secret : List ℕ) × Opens (place + i) (row all i) secret
      go (inl less) = (
        string_of one.secrets i,
        subst (λ (x : List ℕ). Opens (place + i) x (string_of one.secrets i))
            (sym (front i less)) (one.opens i less),
      )
      go (inr more) =
          let e : b + (i - b) ≡ i = omega arith in
          subst (λ (k : ℕ). (secret : List ℕ) × Opens (place + k) (row all k) secret) e (later (i - b) (omega arith))

  module _ (place b : ℕ) (log more : List CloudExchange) (within : place < length firsts)
      (size : b ≡ min 256 (length firsts - place)) (same : AllByRecursion (SameCount shape user firsts) recipes) where
    later_batch : (m n : ℕ) → BatchAt (place + b) m n → BatchAt place (b + m) n
    later_batch m n at =
        let begins = at.begins in
        let some = at.some in
        let all = at.size in
        record {
          batches = at.batches + 1;
          begins = omega arith;
          some = omega arith;
          size = all
              ∙ ap (λ (k : ℕ). min 256 (length firsts - k)) (let e : place + b + m ≡ place + (b + m) = omega arith in e);
        }

    fits_in : (m n : ℕ) → BatchAt (place + b) m n → place + b + (m + n) ≤ length firsts
    fits_in m n at = let some = at.some in let all = at.size in omega arith

    items_on : (old mid new : List ℕ) (result : Result (Unit {0}) RestoreErr) → BatchDone place b log old mid (Ok tt)
        → ItemsCame (place + b) more mid new result → ItemsCame place (log ++ more) old new result
    items_on old mid new (Ok u) one two =
        let n = length firsts - (place + b) in
        let sum : b + n ≡ length firsts - place = omega arith in
        let joined = each_joined {R = GaveFrom shape user firsts place (b + n) (log ++ more)}
        (SameCount shape user firsts) b clouds recipes one.0 two.0
        (λ c r s t is. gave_more shape user firsts place b log more within size n (omega arith) c r s t is)
        (long_of place b log) same one.1 two.1 in (
          joined.all,
          subst (λ (k : ℕ). Each (GaveFrom shape user firsts place k (log ++ more)) clouds recipes joined.all) sum
              joined.each,
          subst (λ (k : ℕ). OpenedFrom place k joined.all old new) sum
              (opened_joined place b n joined.all one.0 two.0 old mid new joined.front joined.behind one.2 two.2),
        )
    items_on old mid new (Err e) one (SharesStop ts m n at each opens) =
        let fits = fits_in m n at in
        let sum : b + (m + n) ≡ b + m + n = omega arith in
        let joined = until_joined {B' = GaveFrom shape user firsts place (b + m + n) (log ++ more)}
        {A' = StopsFrom shape user firsts place (b + m) n (log ++ more) e} {H' = GaveFrom shape user firsts place
        (b + m) (log ++ more)}
        (SameCount shape user firsts) b clouds recipes one.0 ts
        (λ c r s t is p q. subst (λ (k : ℕ). GaveFrom shape user firsts place k (log ++ more) c r (s ++ t)) sum
        (gave_more shape user firsts place b log more within size (m + n) fits c r s t is p q))
        (λ c r s t is. stops_more shape user firsts place b log more within size m n e fits c r s t is)
        (λ c r s t is. gave_more shape user firsts place b log more within size m (omega arith) c r s t is)
        (long_of place b log) same one.1 each in
        SharesStop joined.all (b + m) n (later_batch m n at) joined.each
        (till_joined place b m joined.all one.0 ts old mid joined.front joined.behind one.2 opens)
    items_on old mid new (Err e) one (SecretStop ts m n j at each from within_j opens fails) =
        let fits = fits_in m n at in
        let sum : b + (m + n) ≡ b + m + n = omega arith in
        let e' : place + b + j ≡ place + (b + j) = omega arith in
        let joined = each_joined {R = GaveFrom shape user firsts place (b + (m + n)) (log ++ more)}
        (SameCount shape user firsts) b clouds recipes one.0 ts
        (λ c r s t is. gave_more shape user firsts place b log more within size (m + n) fits c r s t is)
        (long_of place b log) same one.1 each in
        SecretStop joined.all (b + m) n (b + j) (later_batch m n at)
        (subst (λ (k : ℕ). Each (GaveFrom shape user firsts place k (log ++ more)) clouds recipes joined.all) sum
        joined.each) (omega arith) (omega arith)
        (till_joined place b j joined.all one.0 ts old mid joined.front joined.behind one.2 opens)
        (subst (λ (p : ℕ). FailsAt e p (row joined.all (b + j))) e' (subst (FailsAt e (place + b + j))
        (sym (joined.behind j)) fails))

  -- ---- the batch at which it stops

  each_on : {P Q : CloudNo → Recipe → List (List ℕ) → Type 0} (Is : Recipe → Type 0) (cs : List CloudNo)
      (rs : List Recipe) (all : List (List (List ℕ)))
      → ((c : CloudNo) (r : Recipe) (s : List (List ℕ)) → Is r → P c r s → Q c r s) → AllByRecursion Is rs
      → Each P cs rs all → Each Q cs rs all
  each_on Is _ _ _ f is NoMore = NoMore
  each_on Is _ _ _ f is (OneMore c r s cs rs all p more) = OneMore c r s cs rs all (f c r s is.0 p)
      (each_on Is cs rs all f is.1 more)

  until_on : {B A H B' A' H' : CloudNo → Recipe → List (List ℕ) → Type 0} (Is : Recipe → Type 0) (cs : List CloudNo)
      (rs : List Recipe) (all : List (List (List ℕ)))
      → ((c : CloudNo) (r : Recipe) (s : List (List ℕ)) → Is r → B c r s → B' c r s)
      → ((c : CloudNo) (r : Recipe) (s : List (List ℕ)) → Is r → A c r s → A' c r s)
      → ((c : CloudNo) (r : Recipe) (s : List (List ℕ)) → Is r → H c r s → H' c r s)
      → AllByRecursion Is rs → EachUntil B A H cs rs all → EachUntil B' A' H' cs rs all
  until_on Is _ _ _ f g h is (There c r s cs rs all at behind) = There c r s cs rs all (g c r s is.0 at)
      (each_on Is cs rs all h is.1 behind)
  until_on Is _ _ _ f g h is (Further c r s cs rs all before more) = Further c r s cs rs all (f c r s is.0 before)
      (until_on Is cs rs all f g h is.1 more)

  module _ (place n : ℕ) (log : List CloudExchange) (within : place < length firsts)
      (size : n ≡ min 256 (length firsts - place)) (same : AllByRecursion (SameCount shape user firsts) recipes) where
    first_batch : BatchAt place 0 n
    first_batch =
        let e : place + 0 ≡ place = omega arith in
        record {
          batches = 0;
          begins = refl;
          some = omega arith;
          size = size
              ∙ ap (λ (k : ℕ). min 256 (length firsts - k)) (sym e);
        }

    gave_here : (c : CloudNo) (r : Recipe) (s : List (List ℕ)) → SameCount shape user firsts r
        → BatchOf shape user firsts place n log c r s → GaveFrom shape user firsts place (0 + n) log c r s
    gave_here c r s is g =
        let sum : n ≡ 0 + n = omega arith in
        subst (λ (k : ℕ). GaveFrom shape user firsts place k log c r s) sum
        (gave_one shape user firsts place n log within size c r s is g)

    items_stop : (e : RestoreErr) → BatchStopped place n log e → ItemsStopped place log e
    items_stop e (SharesOf all each) =
        SharesStop all 0 n first_batch
        (until_on {B' = GaveFrom shape user firsts place (0 + n) log}
        {A' = StopsFrom shape user firsts place 0 n log e} {H' = GaveFrom shape user firsts place 0 log}
        (SameCount shape user firsts) clouds recipes all
        (λ c r s is. gave_here c r s is) (λ c r s is. stops_one shape user firsts place n log within size e c r s is)
        (λ c r s is none. gave_none shape user firsts place log c r s none.0 none.1) same each)
        (λ i l. absurd (omega arith))
    items_stop e (SecretOf all j each l till fails) =
        SecretStop all 0 n j first_batch (each_on {Q = GaveFrom shape user firsts place (0 + n) log}
        (SameCount shape user firsts) clouds recipes all (λ c r s is. gave_here c r s is) same each) (omega arith)
        (omega arith) till fails

  items_done : (place : ℕ) (out : List ℕ) → length firsts ≤ place → length clouds ≡ length recipes
      → ItemsCame place [] out out (Ok tt)
  items_done place out past long =
      let none = unasked_all shape user firsts place 0 clouds recipes [] long (nobody_asked clouds) in
      let zero_left : 0 ≡ length firsts - place = omega arith in (
        none.0,
        subst (λ (k : ℕ). Each (GaveFrom shape user firsts place k []) clouds recipes none.0) zero_left
            (each_as {Q = GaveFrom shape user firsts place 0 []} (λ (c : CloudNo). Unit {0}) clouds recipes none.0
            (λ c r s is is_none. gave_none shape user firsts place [] c r s is_none.0 is_none.1)
            (anyone clouds) none.1),
        record { secrets = []; count = zero_left; left = sym (append-nil out); opens = λ i l. absurd (omega arith) },
      )

  pub items_came : (place : ℕ) (log : List CloudExchange) (old new : List ℕ) (result : Result (Unit {0}) RestoreErr)
      → Apart clouds → length clouds ≡ length recipes → AllByRecursion (SameCount shape user firsts) recipes
      → ItemsRun shape user clouds points firsts recipes place log old new result → ItemsCame place log old new result
  items_came _ _ _ _ _ apart long same (ItemsDone place out past) = items_done place out past long
  items_came _ _ _ _ _ apart long same (ItemsNext place log more old mid new result within batch rest) =
      let b = min 256 (length firsts - place) in
      items_on place b log more within refl same old mid new result
      (batch_run place b log old mid (Ok tt) apart long batch)
      (items_came (place + b) more mid new result apart long same rest)
  items_came _ _ _ _ _ apart long same (ItemsStop place log old new e within batch) =
      let n = min 256 (length firsts - place) in
      items_stop place n log within refl same e (batch_run place n log old new (Err e) apart long batch)
