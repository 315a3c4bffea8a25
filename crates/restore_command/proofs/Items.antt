-- What the clouds were asked batch by batch, and what they gave.
use Rattle.std.proofs.Common.{◌≡◌, ◌≢◌, ℕ, ◌+◌, ◌-◌, ◌<◌, ◌≤◌, ◌⊎◌, inl, inr, List, [], ◌∷◌, ◌++◌, length, map, take, drop, refl, sym, ap, ◌∙◌, subst, arith, length-append, length-drop, Ok, Err}
use Rattle.std.specs.Prelude.{min}
use Rattle.std.specs.List.{AllByRecursion}
use Rattle.std.proofs.lemmas.Bool.{cases_lt}
use Rattle.std.proofs.lemmas.List.{take_all, drop_all, drop-drop, length-map, get_or_append_left, get_or-append-add}
use Rattle.sha2.specs.Sha256.{sha256 as sha256_of}
use Rattle.ports_link.specs.CdBase.Lengths.{share_len_of}
use Rattle.ports_link.specs.CdBase.ids.CloudNo.{CloudNo}
use Rattle.ports_link.specs.CdBase.ids.Fp.{Fp}
use Rattle.ports_link.specs.CdBase.ids.UserId.{UserId}
use Rattle.ports_link.specs.CdBase.shape.Shape.{Shape}
use Rattle.ports_link.specs.Messages.ReplyReading.{reply_at}
use Rattle.ports_link.specs.Messages.Requests.{IsRequest}
use Rattle.ports_link.specs.Messages.reply.Reply.TheVariants as replies
use Rattle.ports_link.specs.Messages.request.Request.TheVariants as requests
use Rattle.subset_restore.specs.Recipe.items.Item.{Item}
use Rattle.subset_restore.specs.Recipe.recipe.Recipe.{Recipe}
use Rattle.ports_link.specs.UserDedup.Owning.{fps_in}
use Rattle.subset_restore.specs.RestoreJob.Exchanges.{CloudExchange, items_at}
use Rattle.subset_restore.specs.RestoreJob.Restored.{item_of}
use Rattle.subset_restore.specs.RestoreJob.Steps.{NamesKind, NoShares, Refuses, Takes, IsShareOf}
use Rattle.subset_restore.specs.RestoreJob.error.RestoreErr.{RestoreErr}
use Rattle.subset_restore.specs.RestoreJob.error.RestoreErr.TheVariants as errors
use Rattle.restore_command.specs.Talks.{with_cloud, sent_in, received_in}
use Rattle.restore_command.specs.Fetched.{AskShares, BringShares, Each, NoMore, OneMore, row, string_of}
use Rattle.restore_command.specs.Stopped.{EachUntil, There, Further}
use Rattle.restore_command.proofs.Lists.{cut_at, cut_of, fps_part, nothing, not_empty, with_append}
use Rattle.restore_command.proofs.Batches.{BatchOf, RefusedOf, WrongOf, StopsOf}

-- ---- two batches of strings, one behind the other

-- of each cloud the strings of both
pub record Joined (R : CloudNo → Recipe → List (List ℕ) → Type 0) (b : ℕ) (clouds : List CloudNo)
    (recipes : List Recipe) (ss ts : List (List (List ℕ))) : Type 0 where
  pub all : List (List (List ℕ))
  pub each : Each R clouds recipes all
  pub front : (i : ℕ) → i < b → row all i ≡ row ss i
  pub behind : (i : ℕ) → row all (b + i) ≡ row ts i

pub record JoinedUntil (B A H : CloudNo → Recipe → List (List ℕ) → Type 0) (b : ℕ) (clouds : List CloudNo)
    (recipes : List Recipe) (ss ts : List (List (List ℕ))) : Type 0 where
  pub all : List (List (List ℕ))
  pub each : EachUntil B A H clouds recipes all
  pub front : (i : ℕ) → i < b → row all i ≡ row ss i
  pub behind : (i : ℕ) → row all (b + i) ≡ row ts i

pub string_front : (s t : List (List ℕ)) (b i : ℕ) → length s ≡ b → i < b → string_of (s ++ t) i ≡ string_of s i
string_front s t b i long l = get_or_append_left s t [] i (omega arith)

pub string_behind : (s t : List (List ℕ)) (b i : ℕ) → length s ≡ b → string_of (s ++ t) (b + i) ≡ string_of t i
string_behind s t b i long = subst (λ (n : ℕ). string_of (s ++ t) (n + i) ≡ string_of t i) long
    (get_or-append-add s t i [])

row_front : (s t : List (List ℕ)) (all ss : List (List (List ℕ))) (b i : ℕ) → length s ≡ b → i < b
    → row all i ≡ row ss i → row ((s ++ t) ∷ all) i ≡ row (s ∷ ss) i
row_front s t all ss b i long l e = ap (λ (x : List ℕ). x ++ row all i) (string_front s t b i long l)
    ∙ ap (λ (x : List ℕ). string_of s i ++ x) e

row_behind : (s t : List (List ℕ)) (all ts : List (List (List ℕ))) (b i : ℕ) → length s ≡ b
    → row all (b + i) ≡ row ts i → row ((s ++ t) ∷ all) (b + i) ≡ row (t ∷ ts) i
row_behind s t all ts b i long e = ap (λ (x : List ℕ). x ++ row all (b + i)) (string_behind s t b i long)
    ∙ ap (λ (x : List ℕ). string_of t i ++ x) e

pub each_joined : {P Q R : CloudNo → Recipe → List (List ℕ) → Type 0} (Is : Recipe → Type 0) (b : ℕ)
    (clouds : List CloudNo) (recipes : List Recipe) (ss ts : List (List (List ℕ)))
    → ((c : CloudNo) (r : Recipe) (s t : List (List ℕ)) → Is r → P c r s → Q c r t → R c r (s ++ t))
    → ((c : CloudNo) (r : Recipe) (s : List (List ℕ)) → P c r s → length s ≡ b)
    → AllByRecursion Is recipes → Each P clouds recipes ss → Each Q clouds recipes ts → Joined R b clouds recipes ss ts
each_joined Is b _ _ _ _ f long are NoMore NoMore = record
    { all = []; each = NoMore; front = λ i l. refl; behind = λ i. refl }
each_joined Is b _ _ _ _ f long are (OneMore c r s clouds recipes ss p ps) (OneMore _ _ t _ _ ts q qs) =
    let more = each_joined Is b clouds recipes ss ts f long are.1 ps qs in
    let l = long c r s p in
    record {
      all = (s ++ t) ∷ more.all;
      each = OneMore c r (s ++ t) clouds recipes more.all (f c r s t are.0 p q) more.each;
      front = λ i within. row_front s t more.all ss b i l within (more.front i within);
      behind = λ i. row_behind s t more.all ts b i l (more.behind i);
    }

pub until_joined : {P B A H B' A' H' : CloudNo → Recipe → List (List ℕ) → Type 0} (Is : Recipe → Type 0) (b : ℕ)
    (clouds : List CloudNo) (recipes : List Recipe) (ss ts : List (List (List ℕ)))
    → ((c : CloudNo) (r : Recipe) (s t : List (List ℕ)) → Is r → P c r s → B c r t → B' c r (s ++ t))
    → ((c : CloudNo) (r : Recipe) (s t : List (List ℕ)) → Is r → P c r s → A c r t → A' c r (s ++ t))
    → ((c : CloudNo) (r : Recipe) (s t : List (List ℕ)) → Is r → P c r s → H c r t → H' c r (s ++ t))
    → ((c : CloudNo) (r : Recipe) (s : List (List ℕ)) → P c r s → length s ≡ b)
    → AllByRecursion Is recipes → Each P clouds recipes ss → EachUntil B A H clouds recipes ts
    → JoinedUntil B' A' H' b clouds recipes ss ts
until_joined Is b _ _ _ _ f g h long are NoMore x = elim x [ ]
until_joined Is b _ _ _ _ f g h long are (OneMore c r s clouds recipes ss p ps) (There _ _ t _ _ ts at qs) =
    let more = each_joined Is b clouds recipes ss ts h long are.1 ps qs in
    let l = long c r s p in
    record {
      all = (s ++ t) ∷ more.all;
      each = There c r (s ++ t) clouds recipes more.all (g c r s t are.0 p at) more.each;
      front = λ i within. row_front s t more.all ss b i l within (more.front i within);
      behind = λ i. row_behind s t more.all ts b i l (more.behind i);
    }
until_joined Is b _ _ _ _ f g h long are (OneMore c r s clouds recipes ss p ps) (Further _ _ t _ _ ts q qs) =
    let more = until_joined Is b clouds recipes ss ts f g h long are.1 ps qs in
    let l = long c r s p in
    record {
      all = (s ++ t) ∷ more.all;
      each = Further c r (s ++ t) clouds recipes more.all (f c r s t are.0 p q) more.each;
      front = λ i within. row_front s t more.all ss b i l within (more.front i within);
      behind = λ i. row_behind s t more.all ts b i l (more.behind i);
    }

-- ---- one cloud, from a place on

module _ (shape : Shape) (user : UserId) (firsts : List Item) where
  -- it was asked for the shares of n items, and gave them
  pub record GaveFrom (place n : ℕ) (log : List CloudExchange) (cloud : CloudNo) (recipe : Recipe)
      (strings : List (List ℕ)) : Type 0 where
    pub asked : AskShares user (take n (drop place (fps_in recipe.items))) (sent_in log cloud.0)
    pub brought : BringShares strings (received_in log cloud.0)
    pub long : length strings ≡ n
    pub shares : (i : ℕ) → i < n → IsShareOf shape firsts recipe.items place strings i

  -- it gave the shares of m items, and refused the next n
  pub record RefusedFrom (place m n : ℕ) (log : List CloudExchange) (e : RestoreErr) (cloud : CloudNo) (recipe : Recipe)
      (strings : List (List ℕ)) : Type 0 where
    pub asked : AskShares user (take (m + n) (drop place (fps_in recipe.items))) (sent_in log cloud.0)
    pub heard : List (List ℕ)
    pub reply : List ℕ
    pub in_order : received_in log cloud.0 ≡ heard ++ reply ∷ []
    pub brought : BringShares strings heard
    pub long : length strings ≡ m
    pub shares : (i : ℕ) → i < m → IsShareOf shape firsts recipe.items place strings i
    pub refuses : Refuses cloud (reply_at reply) (NoShares n) e
    pub kind : NamesKind {A = List (List ℕ)} reply (Err e)

  pub record LengthAt (place m n : ℕ) (recipe : Recipe) (strings : List (List ℕ)) (secret found wanted : ℕ) : Type 0
    where
      pub j : ℕ
      pub from : m ≤ j
      pub within : j < m + n
      pub secret_is : secret ≡ place + j
      pub front : (i : ℕ) → i < j → IsShareOf shape firsts recipe.items place strings i
      pub found_is : found ≡ length (string_of strings j)
      pub wanted_is : wanted ≡ share_len_of shape.k (item_of firsts (place + j)).secret_len
      pub differ : found ≢ wanted

  pub record HashAt (place m n : ℕ) (recipe : Recipe) (strings : List (List ℕ)) (secret : ℕ) (named found : Fp) : Type
      0 where
    pub j : ℕ
    pub from : m ≤ j
    pub within : j < m + n
    pub secret_is : secret ≡ place + j
    pub front : (i : ℕ) → i < j → IsShareOf shape firsts recipe.items place strings i
    pub len : length (string_of strings j) ≡ share_len_of shape.k (item_of firsts (place + j)).secret_len
    pub named_is : named.0 ≡ (item_of recipe.items (place + j)).fp.0
    pub found_is : found.0 ≡ sha256_of (string_of strings j)
    pub differ : found.0 ≢ named.0

  abbrev pub NamesAt : ℕ → ℕ → ℕ → RestoreErr → CloudNo → Recipe → List (List ℕ) → Type 0
  NamesAt place m n (errors.ShareLength c secret found wanted) cloud recipe strings = (c ≡ cloud)
      × LengthAt place m n recipe strings secret found wanted
  NamesAt place m n (errors.BadShare c secret named found) cloud recipe strings = (c ≡ cloud)
      × HashAt place m n recipe strings secret named found
  NamesAt place m n errors.NoMemory cloud recipe strings = Unit {0}
  NamesAt place m n e cloud recipe strings = ⊥

  -- it brought strings for m + n items, of which one of the last n is no share
  pub record WrongFrom (place m n : ℕ) (log : List CloudExchange) (e : RestoreErr) (cloud : CloudNo) (recipe : Recipe)
      (strings : List (List ℕ)) : Type 0 where
    pub asked : AskShares user (take (m + n) (drop place (fps_in recipe.items))) (sent_in log cloud.0)
    pub brought : BringShares strings (received_in log cloud.0)
    pub long : length strings ≡ m + n
    pub names : NamesAt place m n e cloud recipe strings

  abbrev pub StopsFrom : ℕ → ℕ → ℕ → List CloudExchange → RestoreErr → CloudNo → Recipe → List (List ℕ) → Type 0
  StopsFrom place m n log e cloud recipe strings = RefusedFrom place m n log e cloud recipe strings
      ⊎ WrongFrom place m n log e cloud recipe strings

  -- ---- none yet

  pub gave_none : (place : ℕ) (log : List CloudExchange) (c : CloudNo) (r : Recipe) (s : List (List ℕ))
      → with_cloud log c.0 ≡ [] → s ≡ [] → GaveFrom place 0 log c r s
  gave_none place log c r s none empty = record {
    asked = subst (λ (l : List CloudExchange). AskShares user [] (map (λ (x : CloudExchange). x.request) l)) (sym none) refl;
    brought = subst (λ (l : List CloudExchange). BringShares s (map (λ (x : CloudExchange). x.reply) l)) (sym none) empty;
    long = ap length empty;
    shares = λ i l. absurd (omega arith);
  }

  -- ---- one batch more in front

  share_front : (items : List Item) (place b i : ℕ) (s t : List (List ℕ)) → length s ≡ b → i < b
      → IsShareOf shape firsts items place s i → IsShareOf shape firsts items place (s ++ t) i
  share_front items place b i s t long l h = record {
    len = ap length (string_front s t b i long l) ∙ h.len;
    hash = ap sha256_of (string_front s t b i long l) ∙ h.hash;
  }

  share_behind : (items : List Item) (place b i : ℕ) (s t : List (List ℕ)) → length s ≡ b
      → IsShareOf shape firsts items (place + b) t i → IsShareOf shape firsts items place (s ++ t) (b + i)
  share_behind items place b i s t long h =
      let e : place + b + i ≡ place + (b + i) = omega arith in
      record {
        len = ap length (string_behind s t b i long)
            ∙ (h.len ∙ ap (λ (p : ℕ). share_len_of shape.k (item_of firsts p).secret_len) e);
        hash = ap sha256_of (string_behind s t b i long) ∙ (h.hash ∙ ap (λ (p : ℕ). (item_of items p).fp.0) e);
      }

  shares_joined : (items : List Item) (place b n : ℕ) (s t : List (List ℕ)) → length s ≡ b
      → ((i : ℕ) → i < b → IsShareOf shape firsts items place s i)
      → ((i : ℕ) → i < n → IsShareOf shape firsts items (place + b) t i) → (i : ℕ) → i < b + n
      → IsShareOf shape firsts items place (s ++ t) i
  shares_joined items place b n s t long one two i l = go (cases_lt i b)
    where
      go : (i < b) ⊎ (b ≤ i) → IsShareOf shape firsts items place (s ++ t) i
      go (inl less) = share_front items place b i s t long less (one i less)
      go (inr more) =
          let e : b + (i - b) ≡ i = omega arith in
          subst (IsShareOf shape firsts items place (s ++ t)) e (share_behind items place b (i - b) s t long
          (two (i - b) (omega arith)))

  -- it has as many items
  abbrev pub SameCount : Recipe → Type 0
  SameCount recipe = length recipe.items ≡ length firsts

  module _ (place b : ℕ) (one two : List CloudExchange) (within : place < length firsts)
      (size : b ≡ min 256 (length firsts - place)) where
    mine : (c : CloudNo) (r : Recipe) (s : List (List ℕ)) (g : BatchOf shape user firsts place b one c r s)
        → with_cloud (one ++ two) c.0 ≡ g.x ∷ with_cloud two c.0
    mine c r s g = with_append one two c.0 ∙ ap (λ (l : List CloudExchange). l ++ with_cloud two c.0) g.mine

    asked_more : (n : ℕ) (c : CloudNo) (r : Recipe) (s : List (List ℕ)) → SameCount r → place + b + n ≤ length firsts
        → BatchOf shape user firsts place b one c r s
        → AskShares user (take n (drop (place + b) (fps_in r.items))) (sent_in two c.0)
        → AskShares user (take (b + n) (drop place (fps_in r.items))) (sent_in (one ++ two) c.0)
    asked_more n c r s same fits g more =
        let fps = fps_in r.items in
        let long : length fps ≡ length firsts = length-map r.items (λ (item : Item). item.fp) ∙ same in
        let left : length (drop place fps) ≡ length firsts - place = length-drop place fps ∙ ap (λ (m : ℕ). m - place)
        long in
        let cut = cut_at (drop place fps) b n (size ∙ ap (min 256) (sym left)) (omega arith) (omega arith) in
        subst (λ (l : List CloudExchange). AskShares user (take (b + n) (drop place fps))
        (map (λ (x : CloudExchange). x.request) l)) (sym (mine c r s g)) (
          cut.some,
          subst (λ (f : List Fp). IsRequest g.x.request (requests.GetShares user f)) (fps_part place b r.items
              ∙ sym cut.first) g.asked,
          subst (λ (f : List Fp). AskShares user f (sent_in two c.0))
              (sym (cut.others ∙ ap (take n) (drop-drop b place fps))) more,
        )

    brought_more : (n : ℕ) (c : CloudNo) (r : Recipe) (s t : List (List ℕ))
        (g : BatchOf shape user firsts place b one c r s) (heard : List (List ℕ)) → length t ≡ n
        → place + b + n ≤ length firsts
        → BringShares t heard → BringShares (s ++ t) (g.x.reply ∷ heard)
    brought_more n c r s t g heard long fits more =
        let l = g.long in
        let cut = cut_of s t (omega arith) (omega arith) (go (cases_lt (length firsts - place) 256)) in (
          cut.some,
          g.came ∙ ap (λ (x : List (List ℕ)). Ok (replies.Shares x)) (sym cut.first),
          subst (λ (x : List (List ℕ)). BringShares x heard) (sym cut.others) more,
        )
      where
        go : (length firsts - place < 256) ⊎ (256 ≤ length firsts - place) → (length s ≡ 256) ⊎ (t ≡ [])
        go (inl few) = inr (nothing t (omega arith))
        go (inr many) = let l = g.long in inl (omega arith)

    pub gave_more : (n : ℕ) → place + b + n ≤ length firsts → (c : CloudNo) (r : Recipe) (s t : List (List ℕ))
        → SameCount r → BatchOf shape user firsts place b one c r s
        → GaveFrom (place + b) n two c r t → GaveFrom place (b + n) (one ++ two) c r (s ++ t)
    gave_more n fits c r s t same g h = record {
      asked = asked_more n c r s same fits g h.asked;
      brought = subst (λ (l : List CloudExchange). BringShares (s ++ t) (map (λ (x : CloudExchange). x.reply) l))
          (sym (mine c r s g)) (brought_more n c r s t g (received_in two c.0) h.long fits h.brought);
      long = let one = g.long in let two = h.long in omega (arith, length-append s t);
      shares = shares_joined r.items place b n s t g.long g.shares h.shares;
    }

    refused_more : (m n : ℕ) (e : RestoreErr) → place + b + (m + n) ≤ length firsts → (c : CloudNo) (r : Recipe)
        (s t : List (List ℕ)) → SameCount r → BatchOf shape user firsts place b one c r s
        → RefusedFrom (place + b) m n two e c r t → RefusedFrom place (b + m) n (one ++ two) e c r (s ++ t)
    refused_more m n e fits c r s t same g h =
        let sum : b + (m + n) ≡ b + m + n = omega arith in
        record {
          asked = subst (λ (k : ℕ). AskShares user (take k (drop place (fps_in r.items))) (sent_in (one ++ two) c.0))
              sum (asked_more (m + n) c r s same fits g h.asked);
          heard = g.x.reply ∷ h.heard;
          reply = h.reply;
          in_order = ap (map (λ (x : CloudExchange). x.reply)) (mine c r s g) ∙ ap (λ (l : List (List ℕ)). g.x.reply ∷ l)
              h.in_order;
          brought = brought_more m c r s t g h.heard h.long (omega arith) h.brought;
          long = let one = g.long in let two = h.long in omega (arith, length-append s t);
          shares = shares_joined r.items place b m s t g.long g.shares h.shares;
          refuses = h.refuses;
          kind = h.kind;
        }

    length_more : (m n : ℕ) (c : CloudNo) (r : Recipe) (s t : List (List ℕ)) (secret found wanted : ℕ)
        → BatchOf shape user firsts place b one c r s
        → LengthAt (place + b) m n r t secret found wanted → LengthAt place (b + m) n r (s ++ t) secret found wanted
    length_more m n c r s t secret found wanted g h =
        let from = h.from in
        let within = h.within in
        let is = h.secret_is in
        let e : place + b + h.j ≡ place + (b + h.j) = omega arith in
        record {
          j = b + h.j;
          from = omega arith;
          within = omega arith;
          secret_is = omega arith;
          front = shares_joined r.items place b h.j s t g.long g.shares h.front;
          found_is = h.found_is ∙ ap length (sym (string_behind s t b h.j g.long));
          wanted_is = h.wanted_is ∙ ap (λ (p : ℕ). share_len_of shape.k (item_of firsts p).secret_len) e;
          differ = h.differ;
        }

    hash_more : (m n : ℕ) (c : CloudNo) (r : Recipe) (s t : List (List ℕ)) (secret : ℕ) (named found : Fp)
        → BatchOf shape user firsts place b one c r s
        → HashAt (place + b) m n r t secret named found → HashAt place (b + m) n r (s ++ t) secret named found
    hash_more m n c r s t secret named found g h =
        let from = h.from in
        let within = h.within in
        let is = h.secret_is in
        let e : place + b + h.j ≡ place + (b + h.j) = omega arith in
        record {
          j = b + h.j;
          from = omega arith;
          within = omega arith;
          secret_is = omega arith;
          front = shares_joined r.items place b h.j s t g.long g.shares h.front;
          len = ap length (string_behind s t b h.j g.long)
              ∙ (h.len ∙ ap (λ (p : ℕ). share_len_of shape.k (item_of firsts p).secret_len) e);
          named_is = h.named_is ∙ ap (λ (p : ℕ). (item_of r.items p).fp.0) e;
          found_is = h.found_is ∙ ap sha256_of (sym (string_behind s t b h.j g.long));
          differ = h.differ;
        }

    names_more : (m n : ℕ) (e : RestoreErr) (c : CloudNo) (r : Recipe) (s t : List (List ℕ))
        → BatchOf shape user firsts place b one c r s
        → NamesAt (place + b) m n e c r t → NamesAt place (b + m) n e c r (s ++ t)
    names_more m n (errors.ShareLength d secret found wanted) c r s t g h =
        (h.0, length_more m n c r s t secret found wanted g h.1)
    names_more m n (errors.BadShare d secret named found) c r s t g h =
        (h.0, hash_more m n c r s t secret named found g h.1)
    names_more m n errors.NoMemory c r s t g h = tt
    names_more m n (errors.Missing d) c r s t g h = absurd h
    names_more m n (errors.Lost d) c r s t g h = absurd h
    names_more m n (errors.CloudFault d) c r s t g h = absurd h
    names_more m n (errors.CloudDamaged d at byte) c r s t g h = absurd h
    names_more m n (errors.CloudRotten d named found) c r s t g h = absurd h
    names_more m n (errors.CloudNoMemory d) c r s t g h = absurd h
    names_more m n (errors.Strange d kind) c r s t g h = absurd h
    names_more m n (errors.RecipesDiffer x y p) c r s t g h = absurd h
    names_more m n (errors.BadSecret secret named found) c r s t g h = absurd h
    names_more m n (errors.BadPad secret at byte) c r s t g h = absurd h

    wrong_more : (m n : ℕ) (e : RestoreErr) → place + b + (m + n) ≤ length firsts → (c : CloudNo) (r : Recipe)
        (s t : List (List ℕ)) → SameCount r → BatchOf shape user firsts place b one c r s
        → WrongFrom (place + b) m n two e c r t → WrongFrom place (b + m) n (one ++ two) e c r (s ++ t)
    wrong_more m n e fits c r s t same g h =
        let sum : b + (m + n) ≡ b + m + n = omega arith in
        record {
          asked = subst (λ (k : ℕ). AskShares user (take k (drop place (fps_in r.items))) (sent_in (one ++ two) c.0))
              sum (asked_more (m + n) c r s same fits g h.asked);
          brought = subst (λ (l : List CloudExchange). BringShares (s ++ t) (map (λ (x : CloudExchange). x.reply) l))
              (sym (mine c r s g)) (brought_more (m + n) c r s t g (received_in two c.0) h.long fits h.brought);
          long = let one = g.long in let two = h.long in omega (arith, length-append s t);
          names = names_more m n e c r s t g h.names;
        }

    pub stops_more : (m n : ℕ) (e : RestoreErr) → place + b + (m + n) ≤ length firsts → (c : CloudNo) (r : Recipe)
        (s t : List (List ℕ)) → SameCount r → BatchOf shape user firsts place b one c r s
        → StopsFrom (place + b) m n two e c r t → StopsFrom place (b + m) n (one ++ two) e c r (s ++ t)
    stops_more m n e fits c r s t same g (inl h) = inl (refused_more m n e fits c r s t same g h)
    stops_more m n e fits c r s t same g (inr h) = inr (wrong_more m n e fits c r s t same g h)

  -- ---- the batch at which it stops

  module _ (place n : ℕ) (log : List CloudExchange) (within : place < length firsts)
      (size : n ≡ min 256 (length firsts - place)) where
    asked_one : (x : CloudExchange) (c : CloudNo) (r : Recipe) → SameCount r → with_cloud log c.0 ≡ x ∷ []
        → IsRequest x.request (requests.GetShares user (fps_in (items_at place n r.items)))
        → AskShares user (take n (drop place (fps_in r.items))) (sent_in log c.0)
    asked_one x c r same is asked =
        let fps = fps_in r.items in
        let long : length fps ≡ length firsts = length-map r.items (λ (item : Item). item.fp) ∙ same in
        let left : length (drop place fps) ≡ length firsts - place = length-drop place fps ∙ ap (λ (m : ℕ). m - place)
        long in
        let cut = cut_at (drop place fps) n 0 (size ∙ ap (min 256) (sym left)) (omega arith) (omega arith) in
        let none : n + 0 ≡ n = omega arith in
        subst (λ (l : List CloudExchange). AskShares user (take n (drop place fps)) (map (λ (x : CloudExchange). x.request) l))
        (sym is)
        (subst (λ (k : ℕ). AskShares user (take k (drop place fps)) (x.request ∷ [])) none (
          cut.some,
          subst (λ (f : List Fp). IsRequest x.request (requests.GetShares user f)) (fps_part place n r.items
              ∙ sym cut.first) asked,
          cut.others,
        ))

    brought_one : (x : CloudExchange) (c : CloudNo) (s : List (List ℕ)) → with_cloud log c.0 ≡ x ∷ [] → length s ≡ n
        → reply_at x.reply ≡ Ok (replies.Shares s) → BringShares s (received_in log c.0)
    brought_one x c s is long came =
        subst (λ (l : List CloudExchange). BringShares s (map (λ (x : CloudExchange). x.reply) l)) (sym is) (
          not_empty s (omega arith),
          came ∙ ap (λ (l : List (List ℕ)). Ok (replies.Shares l)) (sym (take_all 256 s (omega arith))),
          drop_all 256 s (omega arith),
        )

    pub gave_one : (c : CloudNo) (r : Recipe) (s : List (List ℕ)) → SameCount r → BatchOf shape user firsts place n
        log c r s → GaveFrom place n log c r s
    gave_one c r s same g = record {
      asked = asked_one g.x c r same g.mine g.asked;
      brought = brought_one g.x c s g.mine g.long g.came;
      long = g.long;
      shares = g.shares;
    }

    refused_one : (e : RestoreErr) (c : CloudNo) (r : Recipe) (s : List (List ℕ)) → SameCount r
        → RefusedOf shape user firsts place n log e c r s → RefusedFrom place 0 n log e c r s
    refused_one e c r s same g =
        let sum : 0 + n ≡ n = omega arith in
        record {
          asked = subst (λ (k : ℕ). AskShares user (take k (drop place (fps_in r.items))) (sent_in log c.0)) (sym sum)
              (asked_one g.x c r same g.mine g.asked);
          heard = [];
          reply = g.x.reply;
          in_order = ap (map (λ (x : CloudExchange). x.reply)) g.mine;
          brought = g.none;
          long = ap length g.none;
          shares = λ i l. absurd (omega arith);
          refuses = g.refuses;
          kind = g.kind;
        }

    names_one : (e : RestoreErr) (c : CloudNo) (r : Recipe) (s old new : List (List ℕ))
        → Takes shape c firsts r.items place n s old new (Err e) → NamesAt place 0 n e c r s
    names_one (errors.ShareLength d secret found wanted) c r s old new h =
        let w = h.1 in
        let l = w.within in (
          h.0,
          record {
            j = w.j;
            from = omega arith;
            within = omega arith;
            secret_is = w.secret_is;
            front = w.front;
            found_is = w.found_is;
            wanted_is = w.wanted_is;
            differ = w.differ;
          },
        )
    names_one (errors.BadShare d secret named found) c r s old new h =
        let w = h.1 in
        let l = w.within in (
          h.0,
          record {
            j = w.j;
            from = omega arith;
            within = omega arith;
            secret_is = w.secret_is;
            front = w.front;
            len = w.len;
            named_is = w.named_is;
            found_is = w.found_is;
            differ = w.differ;
          },
        )
    names_one errors.NoMemory c r s old new h = tt
    names_one (errors.Missing d) c r s old new h = absurd h
    names_one (errors.Lost d) c r s old new h = absurd h
    names_one (errors.CloudFault d) c r s old new h = absurd h
    names_one (errors.CloudDamaged d at byte) c r s old new h = absurd h
    names_one (errors.CloudRotten d named found) c r s old new h = absurd h
    names_one (errors.CloudNoMemory d) c r s old new h = absurd h
    names_one (errors.Strange d kind) c r s old new h = absurd h
    names_one (errors.RecipesDiffer x y p) c r s old new h = absurd h
    names_one (errors.BadSecret secret named found) c r s old new h = absurd h
    names_one (errors.BadPad secret at byte) c r s old new h = absurd h

    wrong_one : (e : RestoreErr) (c : CloudNo) (r : Recipe) (s : List (List ℕ)) → SameCount r
        → WrongOf shape user firsts place n log e c r s → WrongFrom place 0 n log e c r s
    wrong_one e c r s same g =
        let sum : 0 + n ≡ n = omega arith in
        record {
          asked = subst (λ (k : ℕ). AskShares user (take k (drop place (fps_in r.items))) (sent_in log c.0)) (sym sum)
              (asked_one g.x c r same g.mine g.asked);
          brought = brought_one g.x c s g.mine g.long g.came;
          long = g.long ∙ sym sum;
          names = names_one e c r s g.old g.new g.wrong;
        }

    pub stops_one : (e : RestoreErr) (c : CloudNo) (r : Recipe) (s : List (List ℕ)) → SameCount r
        → StopsOf shape user firsts place n log e c r s → StopsFrom place 0 n log e c r s
    stops_one e c r s same (inl g) = inl (refused_one e c r s same g)
    stops_one e c r s same (inr g) = inr (wrong_one e c r s same g)
