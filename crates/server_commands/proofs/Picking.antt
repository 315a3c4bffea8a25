-- The shares that are new, picked one after another, and those that have no place, staged.
use Rattle.std.proofs.Common.{◌≡◌, ℕ, ◌+◌, ◌*◌, ◌<◌, ◌≤◌, Bool, true, false, cond, List, [], ◌∷◌, ◌++◌, length, map, take, set, Option, Some, None, IsTrue, refl, sym, ap, ◌∙◌, subst, arith, append-nil, append_assoc, length-append}
use Rattle.std.specs.Prelude.{All, slice_get, sum_by, is_some, ◌||◌, not, bytes_eq}
use Rattle.std.specs.FinMap.{FinMap, get}
use Rattle.std.proofs.lemmas.List.{map_push, take_more_set}
use Rattle.std.proofs.lemmas.List.Elements.{All-nil, All-cons, All-head, All-tail, All-push}
use Rattle.std.proofs.lemmas.List.Folds.{list_any-append}
use Rattle.std.proofs.lemmas.List.Sums.{sum_by-cons}
use Rattle.server_reads.specs.CdBase.Order.{fp_cmp}
use Rattle.server_reads.specs.CdBase.ids.Fp.{Fp}
use Rattle.server_reads.specs.CdBase.ids.UserId.{UserId}
use Rattle.server_reads.specs.CdBase.place.Place.{Place}
use Rattle.server_reads.specs.CdBase.shape.Shape.{Shape}
use Rattle.server_reads.specs.ContainerLog.Laying.{lengths}
use Rattle.server_reads.specs.ContainerLog.Places.{container_len}
use Rattle.server_reads.specs.ContainerLog.States.{State, HasStaged, need_of}
use Rattle.server_reads.proofs.ContainerLog.Rooms.{room_staged}
use Rattle.server_reads.specs.MessageFields.Shares.{IsShare}
use Rattle.server_reads.specs.ShareIndex.Order.{owner_cmp, owner_of}
use Rattle.server_reads.specs.UserDedup.command.Command.{Command}
use Rattle.server_reads.specs.UserDedup.Cloud.{fingerprint, user_view}
use Rattle.server_reads.specs.UserDedup.Owning.{is_among, new_strings}
use Rattle.server_reads.proofs.UserDedup.New.{are_new}
use Rattle.server_reads.specs.CloudMemory.rooms.New.{New}
use Rattle.server_reads.specs.CloudMemory.Memory.{Memory, Remembers, uses_of}
use Rattle.server_reads.specs.CloudMemory.Rooms.{memory_of}
use Rattle.cloud_store.specs.declared.store.CloudStore.{CloudStore}
use Rattle.cloud_store.specs.Store.{IsOpen, IsSettled, EndsMeet}
use Rattle.cloud_store.specs.Adding.{unplaced}
use Rattle.server_commands.specs.Executing.{IsStoreReady}
use Rattle.server_commands.specs.Entering.{new_of, unowned_from, unowned}
use Rattle.server_commands.specs.Picked.{fps_of, with_shares, Picked}

among-append : (a b : List Fp) (fp : Fp) → is_among (a ++ b) fp ≡ (is_among a fp || is_among b fp)
among-append a b fp = list_any-append (λ (other : Fp). bytes_eq other.0 fp.0) a b

-- the new strings of two lists, one behind the other
new_append : (own : List Fp) (a b : List (List ℕ)) → new_strings own (a ++ b) ≡ new_strings own a ++ new_strings (own ++ map fingerprint (new_strings own a)) b
new_append own [] b = ap (λ o. new_strings o b) (sym (append-nil own))
new_append own (x ∷ a) b = by_test (is_among own (fingerprint x)) (new_append own a b) (new_append (own ++ fingerprint x ∷ []) a b)
  where
    more : List Fp
    more = own ++ fingerprint x ∷ []

    by_test : (t : Bool) → new_strings own (a ++ b) ≡ new_strings own a ++ new_strings (own ++ map fingerprint (new_strings own a)) b
        → new_strings more (a ++ b) ≡ new_strings more a ++ new_strings (more ++ map fingerprint (new_strings more a)) b
        → cond t (new_strings own (a ++ b)) (x ∷ new_strings more (a ++ b))
        ≡ cond t (new_strings own a) (x ∷ new_strings more a) ++ new_strings (own ++ map fingerprint (cond t (new_strings own a) (x ∷ new_strings more a))) b
    by_test true same next = same
    by_test false same next =
        ap (λ l. x ∷ l) (next ∙ ap (λ o. new_strings more a ++ new_strings o b) (append_assoc own (fingerprint x ∷ []) (map fingerprint (new_strings more a))))

alone_more : (picked : List (List ℕ)) (s : List ℕ) → new_strings [] picked ≡ picked → is_among (map fingerprint picked) (fingerprint s) ≡ false → new_strings [] (picked ++ s ∷ []) ≡ picked ++ s ∷ []
alone_more picked s alone new =
    new_append [] picked (s ∷ []) ∙ (λ i. alone i ++ new_strings (map fingerprint (alone i)) (s ∷ [])) ∙ ap (λ t. picked ++ cond t [] (s ∷ [])) new

-- those that have no place, with a string more
unplaced_more : (places : FinMap fp_cmp Place) (picked : List (List ℕ)) (s : List ℕ)
    → unplaced places (picked ++ s ∷ []) ≡ cond (is_some (get places (fingerprint s).0)) (unplaced places picked) (unplaced places picked ++ s ∷ [])
unplaced_more places [] s = by_test (is_some (get places (fingerprint s).0))
  where
    by_test : (t : Bool) → cond t [] (s ∷ []) ≡ cond t [] (s ∷ [])
    by_test t = refl
unplaced_more places (x ∷ picked) s = by_test (is_some (get places (fingerprint x).0)) (is_some (get places (fingerprint s).0)) (unplaced_more places picked s)
  where
    by_test : (t u : Bool) → unplaced places (picked ++ s ∷ []) ≡ cond u (unplaced places picked) (unplaced places picked ++ s ∷ [])
        → cond t (unplaced places (picked ++ s ∷ [])) (x ∷ unplaced places (picked ++ s ∷ []))
        ≡ cond u (cond t (unplaced places picked) (x ∷ unplaced places picked)) (cond t (unplaced places picked) (x ∷ unplaced places picked) ++ s ∷ [])
    by_test true true e = e
    by_test true false e = e
    by_test false true e = ap (λ l. x ∷ l) e
    by_test false false e = ap (λ l. x ∷ l) e

pub unplaced_range : (places : FinMap fp_cmp Place) (picked : List (List ℕ)) → All IsShare picked → All IsShare (unplaced places picked)
unplaced_range places [] all = All-nil IsShare
unplaced_range places (s ∷ picked) all = by_test (is_some (get places (fingerprint s).0)) (unplaced_range places picked (All-tail IsShare s picked all))
  where
    by_test : (t : Bool) → All IsShare (unplaced places picked) → All IsShare (cond t (unplaced places picked) (s ∷ unplaced places picked))
    by_test true rest = rest
    by_test false rest = All-cons IsShare s (unplaced places picked) (All-head IsShare s picked all) rest

unplaced_few : (places : FinMap fp_cmp Place) (picked : List (List ℕ)) → length (unplaced places picked) ≤ length picked
unplaced_few places [] = omega arith
unplaced_few places (s ∷ picked) = by_test (is_some (get places (fingerprint s).0)) (unplaced_few places picked)
  where
    by_test : (t : Bool) → length (unplaced places picked) ≤ length picked → length (cond t (unplaced places picked) (s ∷ unplaced places picked)) ≤ length (s ∷ picked)
    by_test true rest = omega (arith, rest)
    by_test false rest = omega (arith, rest)

small : (blobs : List (List ℕ)) → All IsShare blobs → All (λ (b : List ℕ). length b ≤ 8208) blobs
small [] all = All-nil (λ (b : List ℕ). length b ≤ 8208)
small (b ∷ blobs) all = All-cons (λ (x : List ℕ). length x ≤ 8208) b blobs (All-head IsShare b blobs all).1 (small blobs (All-tail IsShare b blobs all))

total : (blobs : List (List ℕ)) → All IsShare blobs → sum_by (λ (b : List ℕ). length b) blobs ≤ 8208 * length blobs
total [] all = omega arith
total (b ∷ blobs) all = let most : length b ≤ 8208 = (All-head IsShare b blobs all).1 in omega (arith, most, sum_by-cons (λ (x : List ℕ). length x) b blobs, total blobs (All-tail IsShare b blobs all))

-- up to 256 shares have room among what can be staged
room : (log : State) (blobs : List (List ℕ)) (s : List ℕ) → HasStaged log blobs → All IsShare blobs → IsShare s → length blobs < 256 → need_of log (length s) ≤ container_len
room log blobs s has range one few =
    let most : length s ≤ 8208 = one.1 in
    room_staged log blobs s 8208 has (small blobs range) most (omega (arith, most, few, total blobs range))

-- The memory doesn't give the user the string.
abbrev pub IsNew : Memory → UserId → List ℕ → Type 0
IsNew m user s = get m.owners (owner_of user.0 (fingerprint s).0) ≡ None

-- Of the first shares these are picked, and the rest follows.
pub record Picking (old store : CloudStore) (user : UserId) (sent : List (List ℕ)) (place count : ℕ) (rest : List (List ℕ)) (news : List New) : Type 0 where
  pub picked : List (List ℕ)
  pub front : take count news ≡ map new_of picked
  pub long : length picked ≡ count
  pub few : count ≤ place
  pub left : place + length rest ≡ length sent
  pub range : All IsShare picked
  pub new : All (IsNew (memory_of old.memory) user) picked
  pub alone : new_strings [] picked ≡ picked
  pub by_memory : unowned (memory_of old.memory) user sent ≡ picked ++ unowned_from (memory_of old.memory).owners user (map fingerprint picked) rest
  pub staged : HasStaged store.disk.shares (unplaced (memory_of old.memory).places picked)
  pub same : store ≡ with_shares old store.disk.shares.staged
  pub settled : IsSettled store
  pub meet : EndsMeet store

pub begun : (old : CloudStore) (user : UserId) (sent : List (List ℕ)) (news : List New) → IsStoreReady old → Picking old old user sent 0 0 sent news
begun old user sent news ready = record {
  picked = [];
  front = refl;
  long = refl;
  few = omega arith;
  left = omega arith;
  range = All-nil IsShare;
  new = All-nil (IsNew (memory_of old.memory) user);
  alone = refl;
  by_memory = refl;
  staged = ready.none.shares;
  same = refl;
  settled = ready.settled;
  meet = ready.meet;
}

-- the fingerprints of what is picked
pub fps_picked : (picked : List (List ℕ)) → fps_of (map new_of picked) ≡ map fingerprint picked
fps_picked [] = refl
fps_picked (s ∷ ss) = ap (λ l. fingerprint s ∷ l) (fps_picked ss)

pub lens_picked : (picked : List (List ℕ)) → map (λ (n : New). n.len) (map new_of picked) ≡ lengths picked
lens_picked [] = refl
lens_picked (s ∷ ss) = ap (λ l. length s ∷ l) (lens_picked ss)

all_new : (m : Memory) (user : UserId) (picked : List (List ℕ)) → All (IsNew m user) picked → All (λ (n : New). get m.owners (owner_of user.0 n.fp.0) ≡ None) (map new_of picked)
all_new m user [] all = All-nil (λ (n : New). get m.owners (owner_of user.0 n.fp.0) ≡ None)
all_new m user (s ∷ ss) all =
    All-cons (λ (n : New). get m.owners (owner_of user.0 n.fp.0) ≡ None) (new_of s) (map new_of ss) (All-head (IsNew m user) s ss all) (all_new m user ss (All-tail (IsNew m user) s ss all))

-- a test of a share, where it is new and where it isn't
by_owners : (owners : FinMap owner_cmp ℕ) (user : UserId) (sent picked : List (List ℕ)) (s : List ℕ) (others : List (List ℕ)) (b : Bool)
    → b ≡ not (is_some (get owners (owner_of user.0 (fingerprint s).0)) || is_among (map fingerprint picked) (fingerprint s))
    → unowned_from owners user [] sent ≡ picked ++ unowned_from owners user (map fingerprint picked) (s ∷ others)
    → unowned_from owners user [] sent ≡ (picked ++ cond b (s ∷ []) []) ++ unowned_from owners user (map fingerprint (picked ++ cond b (s ∷ []) [])) others
by_owners owners user sent picked s others b test so_far =
    so_far ∙ by_test (is_some (get owners (owner_of user.0 (fingerprint s).0)) || is_among (map fingerprint picked) (fingerprint s)) b test
  where
    by_test : (had b : Bool) → b ≡ not had
        → picked ++ cond had (unowned_from owners user (map fingerprint picked) others) (s ∷ unowned_from owners user (map fingerprint picked ++ fingerprint s ∷ []) others)
        ≡ (picked ++ cond b (s ∷ []) []) ++ unowned_from owners user (map fingerprint (picked ++ cond b (s ∷ []) [])) others
    by_test true true e = absurd (let never : true ≡ false = e in cc)
    by_test true false e = ap (λ l. l ++ unowned_from owners user (map fingerprint l) others) (sym (append-nil picked))
    by_test false true e =
        ap (λ fps. picked ++ s ∷ unowned_from owners user fps others) (sym (map_push fingerprint picked s))
        ∙ sym (append_assoc picked (s ∷ []) (unowned_from owners user (map fingerprint (picked ++ s ∷ [])) others))
    by_test false false e = absurd (let never : false ≡ true = e in cc)

-- where the owners are those that a list has, the strings are those that are new to it
owned_of : (b : Bool) (o : Option ℕ) (n : ℕ) → o ≡ cond b (Some n) None → is_some o ≡ b
owned_of true o n e = ap (λ (x : Option ℕ). is_some x) e
owned_of false o n e = ap (λ (x : Option ℕ). is_some x) e

as_listed : (owners : FinMap owner_cmp ℕ) (user : UserId) (own : List Fp) → ((fp : Fp) → is_some (get owners (owner_of user.0 fp.0)) ≡ is_among own fp) → (before : List Fp) (ss : List (List ℕ))
    → unowned_from owners user before ss ≡ new_strings (own ++ before) ss
as_listed owners user own same before [] = refl
as_listed owners user own same before (s ∷ ss) =
    let test : (is_some (get owners (owner_of user.0 (fingerprint s).0)) || is_among before (fingerprint s)) ≡ is_among (own ++ before) (fingerprint s) =
    ap (λ (t : Bool). t || is_among before (fingerprint s)) (same (fingerprint s)) ∙ sym (among-append own before (fingerprint s)) in
    let one = as_listed owners user own same before ss in
    let more = as_listed owners user own same (before ++ fingerprint s ∷ []) ss ∙ ap (λ fps. new_strings fps ss) (sym (append_assoc own before (fingerprint s ∷ []))) in
    λ i. cond (test i) (one i) (s ∷ more i)

pub listed : (shape : Shape) (list : List Command) (m : Memory) (user : UserId) (sent : List (List ℕ)) → Remembers shape list m → unowned m user sent ≡ new_strings (user_view shape list user).own sent
listed shape list m user sent is =
    let own = (user_view shape list user).own in
    as_listed m.owners user own (λ fp. owned_of (is_among own fp) (get m.owners (owner_of user.0 fp.0)) (uses_of shape (user_view shape list user).files fp) (is.owners user fp)) [] sent
    ∙ ap (λ fps. new_strings fps sent) (append-nil own)

-- what one test says of a share
pub record Tested (m : Memory) (user : UserId) (before : List New) (s : List ℕ) (b : Bool) : Type 0 where
  pub fresh : IsTrue b → IsNew m user s
  pub other : IsTrue b → is_among (fps_of before) (fingerprint s) ≡ false
  pub by_memory : b ≡ not (is_some (get m.owners (owner_of user.0 (fingerprint s).0)) || is_among (fps_of before) (fingerprint s))

memory_same : (old store : CloudStore) → store ≡ with_shares old store.disk.shares.staged → memory_of store.memory ≡ memory_of old.memory
memory_same old store same = ap (λ (s : CloudStore). memory_of s.memory) same

pub opened : (old store : CloudStore) → IsStoreReady old → store ≡ with_shares old store.disk.shares.staged → IsOpen store
opened old store ready same = subst IsOpen (sym same) ready.at_end

module _ (old store : CloudStore) (user : UserId) (sent : List (List ℕ)) (place count : ℕ) (rest : List (List ℕ)) (news : List New) (s : List ℕ) (others : List (List ℕ)) (rest_is : rest ≡ s ∷ others)
    (p : Picking old store user sent place count rest news) where
  pub room_for : IsShare s → length sent ≤ 256 → need_of store.disk.shares (length s) ≤ container_len
  room_for range few =
      let places = (memory_of old.memory).places in
      let long = ap length rest_is in
      room store.disk.shares (unplaced places p.picked) s p.staged (unplaced_range places p.picked p.range) range (omega (arith, unplaced_few places p.picked, p.long, p.few, p.left, few, long))

  fps_are : fps_of (take count news) ≡ map fingerprint p.picked
  fps_are = ap fps_of p.front ∙ fps_picked p.picked

  so_far : (b : Bool) → Tested (memory_of old.memory) user (take count news) s b
      → unowned (memory_of old.memory) user sent ≡ (p.picked ++ cond b (s ∷ []) []) ++ unowned_from (memory_of old.memory).owners user (map fingerprint (p.picked ++ cond b (s ∷ []) [])) others
  so_far b t =
      let owners = (memory_of old.memory).owners in
      by_owners owners user sent p.picked s others b
      (t.by_memory ∙ ap (λ fps. not (is_some (get owners (owner_of user.0 (fingerprint s).0)) || is_among fps (fingerprint s))) fps_are)
      (p.by_memory ∙ ap (λ l. p.picked ++ unowned_from owners user (map fingerprint p.picked) l) rest_is)

  pub tested : (b : Bool) → Tested (memory_of store.memory) user (take count news) s b → Tested (memory_of old.memory) user (take count news) s b
  tested b t = subst (λ (m : Memory). Tested m user (take count news) s b) (memory_same old store p.same) t

  pub more_new : (news' : List New) (store' : CloudStore) → count < length news → IsShare s → Tested (memory_of store.memory) user (take count news) s true → news' ≡ set news count (new_of s)
      → ((blobs : List (List ℕ)) → HasStaged store.disk.shares blobs
      → HasStaged store'.disk.shares (cond (is_some (get (memory_of store.memory).places (fingerprint s).0)) blobs (blobs ++ s ∷ [])))
      → store' ≡ with_shares store store'.disk.shares.staged → IsSettled store' → EndsMeet store' → Picking old store' user sent (place + 1) (count + 1) others news'
  more_new news' store' in_news range tests put stages same settled meet =
      let t = tested true tests in
      let long = ap length rest_is in
      let m_same = memory_same old store p.same in
      record {
        picked = p.picked ++ s ∷ [];
        front = ap (take (count + 1)) put ∙ take_more_set news count (new_of s) in_news ∙ ap (λ l. l ++ new_of s ∷ []) p.front ∙ sym (map_push new_of p.picked s);
        long = omega (arith, length-append p.picked (s ∷ []), p.long);
        few = omega (arith, p.few);
        left = omega (arith, p.left, long);
        range = All-push IsShare p.picked s p.range range;
        new = All-push (IsNew (memory_of old.memory) user) p.picked s p.new (t.fresh refl);
        alone = alone_more p.picked s p.alone (ap (λ fps. is_among fps (fingerprint s)) (sym fps_are) ∙ t.other refl);
        by_memory = so_far true t;
        staged = subst (λ (l : List (List ℕ)). HasStaged store'.disk.shares l) (sym (unplaced_more (memory_of old.memory).places p.picked s))
            (subst (λ (m : Memory). HasStaged store'.disk.shares (cond (is_some (get m.places (fingerprint s).0)) (unplaced (memory_of old.memory).places p.picked) (unplaced (memory_of old.memory).places p.picked ++ s ∷ []))) m_same
            (stages (unplaced (memory_of old.memory).places p.picked) p.staged));
        same = same ∙ ap (λ (x : CloudStore). with_shares x store'.disk.shares.staged) p.same;
        settled = settled;
        meet = meet;
      }

  pub more_old : (news' : List New) → Tested (memory_of store.memory) user (take count news) s false → news' ≡ news → Picking old store user sent (place + 1) count others news'
  more_old news' tests left =
      let t = tested false tests in
      let long = ap length rest_is in
      record {
        picked = p.picked;
        front = ap (take count) left ∙ p.front;
        long = p.long;
        few = omega (arith, p.few);
        left = omega (arith, p.left, long);
        range = p.range;
        new = p.new;
        alone = p.alone;
        by_memory = so_far false t ∙ ap (λ l. l ++ unowned_from (memory_of old.memory).owners user (map fingerprint l) others) (append-nil p.picked);
        staged = p.staged;
        same = p.same;
        settled = p.settled;
        meet = p.meet;
      }

pub moved : (old store store' : CloudStore) (user : UserId) (sent : List (List ℕ)) (place count count' : ℕ) (rest : List (List ℕ)) (news : List New) → store' ≡ store → count' ≡ count
    → Picking old store user sent place count rest news → Picking old store' user sent place count' rest news
moved old store store' user sent place count count' rest news same is p =
    subst (λ (n : ℕ). Picking old store' user sent place n rest news) (sym is) (subst (λ (s : CloudStore). Picking old s user sent place count rest news) (sym same) p)

abbrev Apart : List Fp → Type 0
Apart fps = (i j : ℕ) (fp : Fp) → slice_get fps i ≡ Some fp → slice_get fps j ≡ Some fp → i ≡ j

nothing_left : (rest : List (List ℕ)) (place n : ℕ) → place + length rest ≡ n → n ≤ place → rest ≡ []
nothing_left [] place n left past = refl
nothing_left (s ∷ rest) place n left past = absurd (omega arith)

pub ended : (old store : CloudStore) (user : UserId) (sent : List (List ℕ)) (place count : ℕ) (rest : List (List ℕ)) (news : List New) → length sent ≤ place → place ≤ length sent
    → Picking old store user sent place count rest news → Picked old store user sent (take count news)
ended old store user sent place count rest news past within p = record {
  strings = p.picked;
  range = p.range;
  few = omega (arith, p.long, p.few);
  lens = p.front;
  are_of = record { fps = ap fps_of p.front ∙ fps_picked p.picked; lens = ap (map (λ (n : New). n.len)) p.front ∙ lens_picked p.picked };
  fresh = record {
    new = subst (All (λ (n : New). get (memory_of old.memory).owners (owner_of user.0 n.fp.0) ≡ None)) (sym p.front) (all_new (memory_of old.memory) user p.picked p.new);
    apart = subst Apart (sym (ap fps_of p.front ∙ fps_picked p.picked)) apart;
  };
  by_memory = are;
  by_list = λ list is. are ∙ listed old.header.shape list (memory_of old.memory) user sent is;
  staged = p.staged;
  same = p.same;
}
  where
    none : rest ≡ []
    none = nothing_left rest place (length sent) p.left past

    are : p.picked ≡ unowned (memory_of old.memory) user sent
    are =
        let owners = (memory_of old.memory).owners in
        sym (p.by_memory ∙ ap (λ l. p.picked ++ unowned_from owners user (map fingerprint p.picked) l) none ∙ append-nil p.picked)

    apart : Apart (map fingerprint p.picked)
    apart = subst (λ (l : List (List ℕ)). Apart (map fingerprint l)) p.alone (are_new [] p.picked).apart
