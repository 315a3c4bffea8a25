-- What a Put does, by what its exits leave.
use Rattle.std.proofs.Common.{◌≡◌, ◌≢◌, ◌⊎◌, ℕ, ◌<◌, ◌≤◌, ◌^◌, List, [], ◌∷◌, ◌++◌, length, drop, map, Result, Ok, Err, refl, sym, ap, ◌∙◌, subst, arith}
use Rattle.std.specs.Prelude.{All, OnOk}
use Rattle.std.specs.Int.{w16, to_be_bytes, from_be_bytes}
use Rattle.std.proofs.lemmas.List.{nil_from_length}
use Rattle.std.proofs.lemmas.List.Elements.{All-nil, All-cons, All-head, All-tail}
use Rattle.std.proofs.lemmas.Nat.{from_be_bytes-to_be_bytes_2}
use Rattle.server_reads.specs.CdBase.ids.UserId.{UserId}
use Rattle.server_reads.specs.CdBase.ids.Fp.{Fp}
use Rattle.server_reads.specs.CdBase.rooms.Room.{Room}
use Rattle.server_reads.specs.CdBase.rooms.Room.TheVariants as names
use Rattle.server_reads.specs.CdBase.shape.Shape.{Shape}
use Rattle.server_reads.specs.CdEdges.area.Area.TheVariants.{Journal}
use Rattle.server_reads.specs.CdEdges.Disk.{Cloud}
use Rattle.server_reads.specs.ContainerLog.Laying.{laid, placed}
use Rattle.server_reads.specs.ContainerLog.States.{State, HasStaged}
use Rattle.cloud_store.specs.CommitJournal.journal.Stage.TheVariants.{AtEnd}
use Rattle.cloud_store.specs.JournalStart.rooms.UserRooms.{UserRooms}
use Rattle.server_reads.specs.MessageFields.Shares.{IsShare, AreShares}
use Rattle.server_reads.specs.Messages.request.Request.{Request}
use Rattle.server_reads.specs.Messages.request.Request.TheVariants as requests
use Rattle.server_reads.specs.Messages.reply.Reply.{Reply}
use Rattle.server_reads.specs.Messages.reply.Reply.TheVariants as replies
use Rattle.server_reads.specs.Messages.Replies.{IsReply}
use Rattle.server_reads.specs.UserDedup.command.Command.{Command}
use Rattle.server_reads.specs.UserDedup.command.Command.TheVariants as commands
use Rattle.server_reads.specs.UserDedup.Cloud.{user_view}
use Rattle.server_reads.specs.UserDedup.Dedup.{IsSound, Added, Outcome, only, put_outcome, answer_over}
use Rattle.server_reads.specs.UserDedup.Owning.{new_strings}
use Rattle.server_reads.specs.UserDedup.Spending.{full_for}
use Rattle.cloud_store.specs.CloudAreas.Standing.{Chain}
use Rattle.server_reads.specs.CloudMemory.cloud.CloudMemory.{CloudMemory}
use Rattle.server_reads.specs.CloudMemory.rooms.New.{New}
use Rattle.server_reads.specs.CloudMemory.Memory.{Memory}
use Rattle.server_reads.specs.CloudMemory.Rooms.{memory_of}
use Rattle.server_reads.specs.CloudMemory.Steps.{parts_of}
use Rattle.cloud_store.specs.CloudAreas.Placing.{places_given}
use Rattle.cloud_store.specs.CommitJournal.States.{IsJournalEnded}
use Rattle.cloud_store.specs.JournalHalves.Journals.{Where, with_body}
use Rattle.cloud_store.specs.RecordBody.Spelling.{body_bytes}
use Rattle.cloud_store.specs.declared.store.CloudStore.{CloudStore}
use Rattle.cloud_store.specs.Store.{IsSettled, EndsMeet, Serves}
use Rattle.cloud_store.specs.Adding.{NoneStaged, Unmoved, IsPut, IsGrownFrom, KeepsOrGrows, put_record, share_at, summed, unplaced, unstaged}
use Rattle.cloud_store.proofs.Held.{is_put, shares_given}
use Rattle.cloud_store.proofs.Keeping.{serves_on}
use Rattle.server_reads.specs.Allowed.{Replies}
use Rattle.server_commands.specs.Entering.{Stores, new_of, news_of, unowned}
use Rattle.server_commands.specs.Executing.{IsStoreReady, Executes}
use Rattle.server_commands.specs.Growing.{HasCommandAdded, StoresSome}
use Rattle.server_commands.specs.Leaving.{StoresNothing}
use Rattle.server_commands.specs.Picked.{Picked, with_shares}
use Rattle.server_commands.specs.Serving.{serves, IsServedByList, IsGiven, GivesReply}
use Rattle.server_commands.specs.Steps.{Calls, IsLeftSettled, DoesByList, GoesBehind, HasNewsStaged}
use Rattle.server_commands.proofs.Calls.{ok_result, no_calls, stays_still}
use Rattle.server_commands.proofs.Contents.{one_kind}
use Rattle.server_commands.proofs.Doing.{served_only, served_still, adding, stays_executes, adds_executes}
use Rattle.server_commands.proofs.Grown.{IsFilled, goes_on, is_added, put_said}
use Rattle.server_commands.proofs.Picking.{unplaced_range}
use Rattle.server_commands.proofs.Storing.{as_many, not_all_owned}

-- ---- what a list answers

outcome_is : (user : UserId) (strings : List (List ℕ)) → 1 ≤ length strings → put_outcome user strings ≡ adding (replies.Stored (length strings)) (commands.Put user strings)
outcome_is user [] some = absurd (omega (arith, some))
outcome_is user (s ∷ ss) some = refl

module _ (shape : Shape) (number : ℕ) (list : List Command) (user : UserId) (sent strings : List (List ℕ)) (is : strings ≡ new_strings (user_view shape list user).own sent) where
  pub answers_put : 1 ≤ length strings → answer_over shape number list (requests.Put user sent) ≡ adding (replies.Stored (length strings)) (commands.Put user strings)
  answers_put some = ap (put_outcome user) (sym is) ∙ outcome_is user strings some

  answers_none : strings ≡ [] → answer_over shape number list (requests.Put user sent) ≡ only (replies.Stored 0)
  answers_none none = ap (put_outcome user) (sym is ∙ none)

-- ---- replies

some_or_none : (content : List ℕ) (n : ℕ) → 1 ≤ n → IsReply content (replies.Stored n) → IsReply content (replies.Stored 0) → ⊥
some_or_none content n some one none =
    let e : from_be_bytes w16 (to_be_bytes w16 n) ≡ from_be_bytes w16 (to_be_bytes w16 0) = ap (λ (l : List ℕ). from_be_bytes w16 (drop 1 l)) (sym one.spelled ∙ none.spelled) in
    let few : n ≤ 256 = one.fits in
    omega (arith, e, from_be_bytes-to_be_bytes_2 n (omega (arith, few)), from_be_bytes-to_be_bytes_2 0 (omega arith))

stored_none : (content : List ℕ) (answer : Reply) → StoresSome answer → IsReply content (replies.Stored 0) → IsReply content answer → ⊥
stored_none content (replies.Stored count) some none is = some_or_none content count some is none
stored_none content answer some none is = elim some [ ]

module _ (rooms : UserRooms) (m new : Memory) (user : UserId) (news : List New) (content : List ℕ) where
  stores_not : (reply : Reply) (a : ℕ) (rest : List ℕ) → 131 ≢ a → 140 ≢ a → IsReply content reply → Stores rooms m new user news reply → content ≡ a ∷ rest → ⊥
  stores_not (replies.Stored count) a rest one two is of other = one (one_kind content 131 a _ rest is.spelled other)
  stores_not (replies.Full room used need limit) a rest one two is of other = two (one_kind content 140 a _ rest is.spelled other)
  stores_not reply a rest one two is of other = elim of [ ]

  stores_given : (shape : Shape) (sent : List (List ℕ)) → length news ≤ length sent → (reply : Reply) → Stores rooms m new user news reply → IsGiven shape (requests.Put user sent) reply
  stores_given shape sent few (replies.Stored count) of = record {
    kind = omega (arith, of.0, few);
    memory = λ e. let no : replies.Stored count ≡ replies.NoMemory = e in cc;
    fault = λ e. let no : replies.Stored count ≡ replies.Fault = e in cc;
    damaged = λ at byte e. let no : replies.Stored count ≡ replies.Damaged at byte = e in cc;
  }
  stores_given shape sent few (replies.Full room used need limit) of = record {
    kind = tt;
    memory = λ e. let no : replies.Full room used need limit ≡ replies.NoMemory = e in cc;
    fault = λ e. let no : replies.Full room used need limit ≡ replies.Fault = e in cc;
    damaged = λ at byte e. let no : replies.Full room used need limit ≡ replies.Damaged at byte = e in cc;
  }
  stores_given shape sent few reply of = elim of [ ]

  -- where a share is new, the reply isn't Stored with none
  not_none : (reply : Reply) → 1 ≤ length news → IsReply content reply → Stores rooms m new user news reply → IsReply content (replies.Stored 0) → ⊥
  not_none (replies.Stored count) some is of other = some_or_none content count (omega (arith, of.0, some)) is other
  not_none (replies.Full room used need limit) some is of other = omega (arith, one_kind content 140 131 _ _ is.spelled other.spelled)
  not_none reply some is of other = elim of [ ]

  pub put_never_rotten : {T E : Type 0} (r : Result T E) → OnOk r (Replies content (Stores rooms m new user news)) → (named found : Fp) → OnOk r (IsReply content (replies.Rotten named found) → ⊥)
  put_never_rotten (Err e) s named found = tt
  put_never_rotten (Ok v) s named found = λ other. stores_not s.reply 143 _ (λ e. omega (arith, e)) (λ e. omega (arith, e)) s.is s.said other.spelled

  pub put_gives : {T E : Type 0} (r : Result T E) (shape : Shape) (sent : List (List ℕ)) → length news ≤ length sent → OnOk r (Replies content (Stores rooms m new user news))
      → OnOk r (GivesReply shape (requests.Put user sent) content)
  put_gives (Err e) shape sent few s = tt
  put_gives (Ok v) shape sent few s = record { reply = s.reply; is = s.is; given = stores_given shape sent few s.reply s.said }

  pub put_leaves : {T E : Type 0} (r : Result T E) (Left : Type 0) → 1 ≤ length news → OnOk r (Replies content (Stores rooms m new user news))
      → ((room : Room) (used need limit : ℕ) → room ≢ names.Journal → OnOk r (IsReply content (replies.Full room used need limit) → Left))
      → (answer : Reply) → StoresNothing answer → OnOk r (IsReply content answer → Left)
  put_leaves (Err e) Left some s full answer leaves = tt
  put_leaves (Ok v) Left some s full (replies.Stored count) leaves =
      λ other. absurd (not_none s.reply some s.is s.said (subst (λ (n : ℕ). IsReply content (replies.Stored n)) leaves other))
  put_leaves (Ok v) Left some s full (replies.Full room used need limit) leaves = full room used need limit leaves
  put_leaves (Ok v) Left some s full answer leaves = elim leaves [ ]

-- ---- no share is new

-- nothing was staged
pub nothing_staged : (old new : CloudStore) (user : UserId) (sent : List (List ℕ)) (news : List New) → NoneStaged old → Picked old new user sent news → length news ≡ 0 → new ≡ old
nothing_staged old new user sent news none p few =
    let nil = nil_from_length p.strings (sym (as_many news p.strings p.are_of) ∙ few) in
    let bytes = p.staged.bytes ∙ ap (λ (l : List (List ℕ)). laid new.disk.shares.end (unplaced (memory_of old.memory).places l)) nil in
    p.same ∙ ap (with_shares old) (bytes ∙ sym none.shares.bytes)

pub none_new : (Same : Type 0) (old new : CloudStore) (a : ℕ → Cloud) (f : ℕ) (user : UserId) (sent : List (List ℕ)) (news : List New) (content : List ℕ) → Same → IsStoreReady old
    → Picked old new user sent news → length news ≡ 0 → IsReply content (replies.Stored 0) → Executes Same old new a a f f (requests.Put user sent) content ok_result
none_new Same old new a f user sent news content same ready p few content_is =
    let n = old.header.cloud.0 in let shape = old.header.shape in
    let nil = nil_from_length p.strings (sym (as_many news p.strings p.are_of) ∙ few) in
    subst (λ (x : CloudStore). Executes Same old x a a f f (requests.Put user sent) content ok_result) (sym (nothing_staged old new user sent news ready.none p few))
    (stays_executes ok_result Same old old a a f f (requests.Put user sent) content
    (record { ready = ready; settled = ready.settled; none = ready.none; shut = tt; header = refl })
    (record { cloud = stays_still (a n); memory = refl })
    (no_calls a n f)
    (λ list some.
    served_still old old (a n) list (requests.Put user sent) content (replies.Stored 0)
    (served_only (full_for shape old.header.rooms list) _ (replies.Stored 0) (answers_none shape n list user sent p.strings (p.by_list list some.serves.known.remembers) nil))
    content_is.spelled some)
    (λ named found other. absurd (omega (arith, one_kind content 131 143 _ _ content_is.spelled other.spelled)))
    (λ answer leaves other. (same, refl))
    (record {
      reply = replies.Stored 0;
      is = content_is;
      given = record {
        kind = omega arith;
        memory = λ e. let no : replies.Stored 0 ≡ replies.NoMemory = e in cc;
        fault = λ e. let no : replies.Stored 0 ≡ replies.Fault = e in cc;
        damaged = λ at byte e. let no : replies.Stored 0 ≡ replies.Damaged at byte = e in cc;
      };
    })
    refl
    (λ answer some other. stored_none content answer some content_is other))

-- ---- some are

filled : (strings : List (List ℕ)) → All IsShare strings → All IsFilled strings
filled [] range = All-nil IsFilled
filled (s ∷ ss) range = All-cons IsFilled s ss (All-head IsShare s ss range).0 (filled ss (All-tail IsShare s ss range))

shares_serve : (s : CloudStore) (bytes : List ℕ) (list : List Command) (c : Chain) (cloud : Cloud) → Serves list c s cloud → Serves list c (with_shares s bytes) cloud
shares_serve s bytes list c cloud serves =
    let on = serves.known.on in
    serves_on list c s (with_shares s bytes).disk cloud cloud serves
    (record { read = on.read; shares = record { area_is = on.shares.area_is; behind = on.shares.behind; agrees = on.shares.agrees }; recipes = on.recipes }) refl refl refl

pub news_staged : (old x : CloudStore) (user : UserId) (sent : List (List ℕ)) (news : List New) → IsStoreReady old → Picked old x user sent news → IsSettled x → EndsMeet x → HasNewsStaged x news
news_staged old x user sent news ready p settled meet = record {
  settled = settled;
  at_end = subst (λ (s : CloudStore). s.disk.journal.stage ≡ old.disk.journal.stage) (sym p.same) refl ∙ ready.at_end;
  meet = meet;
  strings = p.strings;
  are_of = p.are_of;
  shares = subst (λ (m : Memory). HasStaged x.disk.shares (unplaced m.places p.strings)) (sym (ap (λ (s : CloudStore). memory_of s.memory) p.same)) p.staged;
  recipes = subst (λ (s : CloudStore). HasStaged s.disk.recipes []) (sym p.same) ready.none.recipes;
}

unstaged_is : (s : CloudStore) (bytes : List ℕ) → NoneStaged s → unstaged (with_shares s bytes) ≡ s
unstaged_is s bytes none = λ i. record s { disk = record s.disk { shares = record s.disk.shares { staged = sym none.shares.bytes i }; recipes = record s.disk.recipes { staged = sym none.recipes.bytes i } } }

served_staged : {T E : Type 0} (old new : CloudStore) (c : Cloud) (bytes : List ℕ) (list : List Command) (request : Request) (content : List ℕ) (r : Result T E)
    → OnOk r (IsServedByList (with_shares old bytes) new c list request content) → OnOk r (IsServedByList old new c list request content)
served_staged old new c bytes list request content (Err e) s = tt
served_staged old new c bytes list request content (Ok v) s = record { reply = s.reply; next = s.next }

does_staged : {T E : Type 0} (old new : CloudStore) (a c : Cloud) (bytes : List ℕ) (list : List Command) (request : Request) (content : List ℕ) (r : Result T E)
    → DoesByList (with_shares old bytes) new a c list request content r → DoesByList old new a c list request content r
does_staged old new a c bytes list request content r d = record {
  any_moment = d.any_moment;
  served = served_staged old new c bytes list request content r d.served;
  stays = λ none. let l = d.stays none in record { cloud = l.cloud; memory = l.memory };
}

full_then : {T E : Type 0} (r : Result T E) (P Same : Type 0) (old new : CloudStore) (bytes : List ℕ) → NoneStaged old → OnOk r (P → Same × (new ≡ unstaged (with_shares old bytes))) → OnOk r (P → Same × (new ≡ old))
full_then (Err e) P Same old new bytes none f = tt
full_then (Ok v) P Same old new bytes none f = λ p. let u = f p in (u.0, u.1 ∙ unstaged_is old bytes none)

module _ (user : UserId) (sent : List (List ℕ)) (news : List New) where
  -- what adding the Put leaves of a store that has its shares staged
  pub record Adds {T E : Type 0} (Same : Type 0) (x new : CloudStore) (a c : ℕ → Cloud) (f0 f1 : ℕ) (content : List ℕ) (r : Result T E) : Type 0 where
    pub leaves : IsLeftSettled x new r
    pub does : (list : List Command) (chain : Chain) (strings : List (List ℕ)) → IsPut list chain x user news strings (a x.header.cloud.0)
        → strings ≡ new_strings (user_view x.header.shape list user).own sent
        → DoesByList x new (a x.header.cloud.0) (c x.header.cloud.0) list (requests.Put user sent) content r
    pub behind : KeepsOrGrows x (body_bytes (put_record x user news)) (a x.header.cloud.0) (c x.header.cloud.0)
    pub goes : GoesBehind x new (body_bytes (put_record x user news)) (a x.header.cloud.0) (c x.header.cloud.0) ((count : ℕ) × IsReply content (replies.Stored count)) r
    pub stores : OnOk r (Replies content (Stores x.header.rooms (memory_of x.memory) (memory_of new.memory) user news))
    pub full : (room : Room) (used need limit : ℕ) → room ≢ names.Journal → OnOk r (IsReply content (replies.Full room used need limit) → Same × (new ≡ unstaged x))
    pub calls : Calls a c x.header.cloud.0 f0 f1 r

  put_added : (w : Where) (old x new : CloudStore) (bytes : List ℕ) (a c : Cloud) → IsStoreReady old → Picked old x user sent news
      → HasStaged (with_shares old bytes).disk.shares (unplaced (memory_of old.memory).places (unowned (memory_of old.memory) user sent))
      → IsGrownFrom w (with_shares old bytes) new (body_bytes (put_record old user news)) a c → HasCommandAdded w old new a c (requests.Put user sent)
  put_added w old x new bytes a c ready p staged g =
      let m = memory_of old.memory in
      let news_are : news ≡ news_of m user sent = p.lens ∙ ap (map new_of) p.by_memory in
      let range : All IsShare (unplaced m.places (unowned m user sent)) = unplaced_range m.places (unowned m user sent) (subst (All IsShare) p.by_memory p.range) in
      is_added w old new a c (requests.Put user sent) (put_record old user (news_of m user sent)) (with_shares old bytes).disk.shares old.disk.recipes refl ready.meet refl refl
      staged ready.none.recipes (filled (unplaced m.places (unowned m user sent)) range) (All-nil IsFilled)
      (subst (λ (l : List New). map (share_at (unowned m user sent)) (places_given (parts_of user m l)) ≡ placed m.shares_end (unplaced m.places (unowned m user sent))) news_are
      (subst (λ (l : List (List ℕ)). map (share_at l) (places_given (parts_of user m news)) ≡ placed m.shares_end (unplaced m.places l)) p.by_memory (shares_given user news p.strings m p.are_of p.fresh.apart)))
      (subst (λ (l : List New). IsJournalEnded new.disk.journal (c.now Journal) (with_body w (body_bytes (put_record old user l)))
      ⊎ IsJournalEnded new.disk.journal (c.now Journal) (with_body (summed old w) (body_bytes (put_record old user l)))) news_are g.chain)
      g.shares g.recipes

  pub added : {T E : Type 0} (r : Result T E) (Same : Type 0) (old x new : CloudStore) (a c : ℕ → Cloud) (f0 f1 : ℕ) (content : List ℕ) → IsStoreReady old → AreShares sent → user.0 < 2 ^ 32
      → Picked old x user sent news → 1 ≤ length news → Adds Same x new a c f0 f1 content r → Executes Same old new a c f0 f1 (requests.Put user sent) content r
  added r Same old x new a c f0 f1 content ready batch small p some adds =
      let n = old.header.cloud.0 in let shape = old.header.shape in let m = memory_of old.memory in
      let bytes = x.disk.shares.staged in
      let e = subst (λ (s : CloudStore). Adds Same s new a c f0 f1 content r) p.same adds in
      let staged : HasStaged (with_shares old bytes).disk.shares (unplaced m.places p.strings) = subst (λ (s : CloudStore). HasStaged s.disk.shares (unplaced m.places p.strings)) p.same p.staged in
      let many = as_many news p.strings p.are_of in
      let few : length news ≤ length sent = omega (arith, many, p.few) in
      adds_executes r Same old new a c f0 f1 (requests.Put user sent) content
      (record { ready = e.leaves.ready; settled = e.leaves.settled; none = e.leaves.none; shut = e.leaves.shut; header = e.leaves.header })
      (λ list served.
      let new_is = p.by_list list served.serves.known.remembers in
      let sound : IsSound shape n (list ++ commands.Put user p.strings ∷ []) =
      Added list (requests.Put user sent) (commands.Put user p.strings) served.serves.known.on.read.sound (small, batch) tt
      (ap (λ (o : Outcome). o.adds) (answers_put shape n list user sent p.strings new_is (omega (arith, some, many)))) in
      does_staged old new (a n) (c n) bytes list (requests.Put user sent) content r
      (e.does list served.c p.strings
      (is_put list served.c (with_shares old bytes) (a n) user news p.strings (shares_serve old bytes list served.c (a n) served.serves) p.are_of p.fresh sound staged ready.none.recipes) new_is))
      (record {
        body = put_record old user (news_of m user sent);
        is = refl;
        chain = subst (λ (l : List New). KeepsOrGrows old (body_bytes (put_record old user l)) (a n) (c n)) (p.lens ∙ ap (map new_of) p.by_memory) e.behind;
      })
      (λ told w ended.
      goes_on r w (with_shares old bytes) old new (a n) (a n) (c n) (requests.Put user sent) content (body_bytes (put_record old user news)) ((count : ℕ) × IsReply content (replies.Stored count))
      (put_said content)
      (put_added w old x new bytes (a n) (c n) ready p (subst (λ (l : List (List ℕ)). HasStaged (with_shares old bytes).disk.shares (unplaced m.places l)) p.by_memory staged))
      (e.goes told w ended))
      e.calls
      (not_all_owned m user sent p.strings p.by_memory (omega (arith, some, many)))
      (put_never_rotten old.header.rooms m (memory_of new.memory) user news content r e.stores)
      (put_leaves old.header.rooms m (memory_of new.memory) user news content r (Same × (new ≡ old)) some e.stores
      (λ room used need limit other. full_then r _ Same old new bytes ready.none (e.full room used need limit other)))
      (put_gives old.header.rooms m (memory_of new.memory) user news content r shape sent few e.stores)

-- ---- what adding leaves

pub leaves_added : (old new : CloudStore) → IsSettled new → NoneStaged new → new.header ≡ old.header → new.disk.journal.stage ≡ AtEnd → EndsMeet new → IsLeftSettled old new ok_result
leaves_added old new settled none header at_end meet = record {
  ready = record { settled = settled; at_end = at_end; none = none; meet = meet };
  settled = settled;
  none = none;
  shut = tt;
  header = header;
}

pub unstaged_meets : (old new : CloudStore) → EndsMeet old → new ≡ unstaged old → EndsMeet new
unstaged_meets old new meet is = subst EndsMeet (sym is) (record { shares = meet.shares; recipes = meet.recipes })

pub unmoved_meets : (old new : CloudStore) → EndsMeet old → Unmoved old new → EndsMeet new
unmoved_meets old new meet u = record {
  shares = ap (λ (l : State). l.end) u.shares ∙ meet.shares ∙ sym (ap (λ (m : CloudMemory). m.shares_end) u.memory);
  recipes = ap (λ (l : State). l.end) u.recipes ∙ meet.recipes ∙ sym (ap (λ (m : CloudMemory). m.recipes_end) u.memory);
}

pub long_stores : (rooms : UserRooms) (m new : Memory) (user : UserId) (news : List New) (content : List ℕ) (used need limit : ℕ) → 1 ≤ length news → new ≡ m
    → IsReply content (replies.Full names.Journal used need limit) → Replies content (Stores rooms m new user news)
long_stores rooms m new user news content used need limit some same is = record { reply = replies.Full names.Journal used need limit; is = is; said = (some, same, λ other. absurd (other refl)) }

-- ---- what a Put says by the memory

pub none_stores : (rooms : UserRooms) (old new : CloudStore) (user : UserId) (sent : List (List ℕ)) (news : List New) (content : List ℕ) → NoneStaged old → Picked old new user sent news → length news ≡ 0
    → IsReply content (replies.Stored 0) → Replies content (Stores rooms (memory_of old.memory) (memory_of new.memory) user (news_of (memory_of old.memory) user sent))
none_stores rooms old new user sent news content none p few is =
    let m = memory_of old.memory in
    let nil = nil_from_length p.strings (sym (as_many news p.strings p.are_of) ∙ few) in
    let no_news : news_of m user sent ≡ [] = ap (map new_of) (sym p.by_memory ∙ nil) in
    subst (λ (l : List New). Replies content (Stores rooms m (memory_of new.memory) user l)) (sym no_news)
    (record { reply = replies.Stored 0; is = is; said = (refl, ap (λ (s : CloudStore). memory_of s.memory) (nothing_staged old new user sent news none p few), λ some. absurd (omega (arith, some))) })

pub some_store : {T E : Type 0} (r : Result T E) (old x : CloudStore) (new : Memory) (user : UserId) (sent : List (List ℕ)) (news : List New) (content : List ℕ) → Picked old x user sent news
    → OnOk r (Replies content (Stores x.header.rooms (memory_of x.memory) new user news))
    → OnOk r (Replies content (Stores old.header.rooms (memory_of old.memory) new user (news_of (memory_of old.memory) user sent)))
some_store r old x new user sent news content p stores =
    subst (λ (l : List New). OnOk r (Replies content (Stores old.header.rooms (memory_of old.memory) new user l))) (p.lens ∙ ap (map new_of) p.by_memory)
    (subst (λ (s : CloudStore). OnOk r (Replies content (Stores s.header.rooms (memory_of s.memory) new user news))) p.same stores)
