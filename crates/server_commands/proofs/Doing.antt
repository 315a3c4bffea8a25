-- What a request does, by a list that the store serves, and what one leaves that adds nothing.
use Rattle.std.proofs.Common.{◌≡◌, inl, inr, ℕ, List, [], ◌∷◌, ◌++◌, Option, Some, None, Result, Ok, Err, IsTrue, refl, sym, ap, ◌∙◌, subst, append-nil}
use Rattle.std.specs.Prelude.{OnOk, option_to_list}
use Rattle.server_reads.specs.CdBase.ids.Fp.{Fp}
use Rattle.server_reads.specs.CdEdges.area.Area.TheVariants.{Journal, Shares, Recipes}
use Rattle.server_reads.specs.CdEdges.Disk.{Areas, Cloud, Image, IsImage, reads}
use Rattle.server_reads.specs.CdEdges.Shelf.{Stays}
use Rattle.server_reads.proofs.CdEdges.Moments.{stayed, weaker}
use Rattle.server_reads.specs.FileIndex.Files.{key_of}
use Rattle.server_reads.specs.FileIndex.key.FileKey.{FileKey}
use Rattle.server_reads.specs.Messages.request.Request.{Request}
use Rattle.server_reads.specs.Messages.request.Request.TheVariants as requests
use Rattle.server_reads.specs.Messages.reply.Reply.{Reply}
use Rattle.server_reads.specs.Messages.reply.Reply.TheVariants as replies
use Rattle.server_reads.specs.Messages.Replies.{IsReply, reply_bytes}
use Rattle.server_reads.specs.UserDedup.command.Command.{Command}
use Rattle.server_reads.specs.UserDedup.Dedup.{Outcome, only, FullRoom, unless_full, by_room}
use Rattle.cloud_store.specs.CloudAreas.Peers.{StandsForSome}
use Rattle.cloud_store.specs.CloudAreas.Standing.{StandsFor}
use Rattle.cloud_store.specs.CloudDisk.Disk.{KeepsOrAdds, StandsForEither}
use Rattle.cloud_store.proofs.DiskProofs.Standing.{images_on}
use Rattle.server_reads.specs.CloudMemory.Memory.{Memory}
use Rattle.server_reads.specs.CloudMemory.Rooms.{memory_of}
use Rattle.cloud_store.specs.CommitJournal.States.{IsJournalEnded}
use Rattle.cloud_store.specs.JournalHalves.Journals.{Where}
use Rattle.cloud_store.specs.declared.store.CloudStore.{CloudStore}
use Rattle.cloud_store.specs.Store.{ServesSome}
use Rattle.server_reads.specs.Found.{IsOther, IsFoundRecipe, IsFoundShare}
use Rattle.server_commands.specs.Executing.{Executes, ForServed, GrowsBehind, LeavesBoth}
use Rattle.server_commands.specs.Growing.{SaysAdded, JournalGoesOn}
use Rattle.server_commands.specs.Leaving.{LeavesAll, IsSteady, IsFound}
use Rattle.server_commands.specs.Serving.{serves, IsServedByList, IsServedOrNot, GivesReply}
use Rattle.server_commands.specs.Steps.{Calls, IsLeftSettled, DoesByList}
use Rattle.server_commands.proofs.Grown.{goes_still}

-- ---- outcomes

pub served_only : (full : Command → Option FullRoom) (outcome : Outcome) (reply : Reply) → outcome ≡ only reply → unless_full full outcome ≡ only reply
served_only full outcome reply e = ap (λ (o : Outcome). unless_full full o) e

-- the reply, and the command that is added
abbrev pub adding : Reply → Command → Outcome
adding reply command = record { reply = reply; adds = Some command }

abbrev pub full_reply : FullRoom → Reply
full_reply room = replies.Full room.room room.used room.need room.limit

pub served_full : (full : Command → Option FullRoom) (outcome : Outcome) (reply : Reply) (command : Command) (room : FullRoom) → outcome ≡ adding reply command → full command ≡ Some room
    → unless_full full outcome ≡ only (full_reply room)
served_full full outcome reply command room e is = ap (λ (o : Outcome). unless_full full o) e ∙ ap (λ (r : Option FullRoom). by_room (adding reply command) r) is

pub served_added : (full : Command → Option FullRoom) (outcome : Outcome) (reply : Reply) (command : Command) → outcome ≡ adding reply command → full command ≡ None
    → unless_full full outcome ≡ adding reply command
served_added full outcome reply command e is = ap (λ (o : Outcome). unless_full full o) e ∙ ap (λ (r : Option FullRoom). by_room (adding reply command) r) is

-- ---- nothing is added

pub images_served : (s : CloudStore) (cloud : Cloud) (list : List Command) → ServesSome list s cloud → (image : Image) → IsImage cloud.now image → StandsFor image s.header list
images_served s cloud list some image left = images_on s.header list some.c s.disk cloud some.serves.known.on image left

pub served_still : (old new : CloudStore) (after : Cloud) (list : List Command) (request : Request) (content : List ℕ) (reply : Reply) → serves old list request ≡ only reply
    → content ≡ reply_bytes reply → ServesSome list new after → IsServedByList old new after list request content
served_still old new after list request content reply is content_is some = record {
  reply = content_is ∙ ap (λ (o : Outcome). reply_bytes o.reply) (sym is);
  next = subst (λ (o : Option Command). ServesSome (list ++ option_to_list o) new after) (sym (ap (λ (o : Outcome). o.adds) is))
      (subst (λ (l : List Command). ServesSome l new after) (sym (append-nil list)) some);
}

-- a request that adds nothing does what its list says
pub stays_does : {T E : Type 0} (old new : CloudStore) (before after : Cloud) (list : List Command) (request : Request) (content : List ℕ) (reply : Reply) (r : Result T E)
    → serves old list request ≡ only reply → OnOk r (content ≡ reply_bytes reply) → ServesSome list old before → LeavesBoth old new before after → OnOk r (ServesSome list new after)
    → DoesByList old new before after list request content r
stays_does old new before after list request content reply r is content_is some both next = record {
  any_moment = stayed before after (StandsForSome old.header (IsServedOrNot old list request)) both.cloud (λ image left. (list, inl refl, images_served old before list some image left));
  served = by r content_is next;
  stays = λ none. both;
}
  where
    by : {T E : Type 0} (r : Result T E) → OnOk r (content ≡ reply_bytes reply) → OnOk r (ServesSome list new after) → OnOk r (IsServedByList old new after list request content)
    by (Err e) c s = tt
    by (Ok v) c s = served_still old new after list request content reply is c s

-- ---- a command is added

module _ (old new : CloudStore) (before after : Cloud) (list : List Command) (request : Request) (reply : Reply) (command : Command) (is : serves old list request ≡ adding reply command) where
  adds : (serves old list request).adds ≡ Some command
  adds = ap (λ (o : Outcome). o.adds) is

  or_not : (image : Image) → StandsForEither old.header list command image → StandsForSome old.header (IsServedOrNot old list request) image
  or_not image (inl without) = (list, inl refl, without)
  or_not image (inr with) = (list ++ command ∷ [], inr (command, adds, refl), with)

  pub adds_does : {T E : Type 0} (content : List ℕ) (r : Result T E) → OnOk r (content ≡ reply_bytes reply) → KeepsOrAdds old.header list command before after
      → OnOk r (ServesSome (list ++ command ∷ []) new after) → DoesByList old new before after list request content r
  adds_does content r content_is images some = record {
    any_moment = weaker before after (StandsForEither old.header list command) (StandsForSome old.header (IsServedOrNot old list request)) images or_not;
    served = by r content_is some;
    stays = λ none. absurd (let no : None ≡ Some command = sym none ∙ adds in cc);
  }
    where
      by : {T E : Type 0} (r : Result T E) → OnOk r (content ≡ reply_bytes reply) → OnOk r (ServesSome (list ++ command ∷ []) new after) → OnOk r (IsServedByList old new after list request content)
      by (Err e) c s = tt
      by (Ok v) c s = record {
        reply = c ∙ ap (λ (o : Outcome). reply_bytes o.reply) (sym is);
        next = subst (λ (o : Option Command). ServesSome (list ++ option_to_list o) new after) (sym adds) s;
      }

-- ---- what is found lies there afterwards too

module _ (c0 c1 : Cloud) (m0 m1 : Memory) (stays : Stays c0 c1) (told_same : c1.told ≡ c0.told) (memory : m1 ≡ m0) where
  recipe_now : (key : FileKey) (named found : Fp) → IsFoundRecipe c0 m0 key named found → IsFoundRecipe c1 m1 key named found
  recipe_now key named found s = subst (λ (m : Memory). IsFoundRecipe c1 m key named found) (sym memory) (record {
    entry = s.entry;
    kept = s.kept;
    named_is = s.named_is;
    lies = λ told some few.
        subst (λ (a : Areas). IsOther (reads a Recipes) s.entry.at s.entry.len named found) (sym stays.now) (s.lies (subst IsTrue told_same told) some few);
    unfit = s.unfit;
  })

  share_now : (named found : Fp) → IsFoundShare c0 m0 named found → IsFoundShare c1 m1 named found
  share_now named found s = subst (λ (m : Memory). IsFoundShare c1 m named found) (sym memory) (record {
    lies = λ told place kept some few.
        subst (λ (a : Areas). IsOther (reads a Shares) place.at place.len named found) (sym stays.now) (s.lies (subst IsTrue told_same told) place kept some few);
    none = s.none;
    unfit = s.unfit;
  })

  pub found_now : (request : Request) (named found : Fp) → IsFound c0 m0 request named found → IsFound c1 m1 request named found
  found_now requests.Hello named found f = tt
  found_now (requests.Query user fps) named found f = tt
  found_now (requests.Put user shares) named found f = absurd f
  found_now (requests.Commit user tag version recipe) named found f = recipe_now (key_of user.0 tag.0 version.0) named found f
  found_now (requests.GetRecipe user tag version) named found f = recipe_now (key_of user.0 tag.0 version.0) named found f
  found_now (requests.GetShares user fps) named found f = (f.0, share_now named found f.1)
  found_now (requests.List user after) named found f = tt
  found_now (requests.Delete user tag version) named found f = recipe_now (key_of user.0 tag.0 version.0) named found f

-- ---- all of it

module _ {T E : Type 0} (r : Result T E) where
  when_ok : (P Q : Type 0) → (P → Q) → OnOk r P → OnOk r Q
  when_ok P Q f p = by r p
    where
      by : (x : Result T E) → OnOk x P → OnOk x Q
      by (Err e) p = tt
      by (Ok v) p = f p

  always : (Q : Type 0) → Q → OnOk r Q
  always Q q = by r
    where
      by : (x : Result T E) → OnOk x Q
      by (Err e) = tt
      by (Ok v) = q

  module _ (Same : Type 0) (old new : CloudStore) (before after : ℕ → Cloud) (f0 f1 : ℕ) (request : Request) (content : List ℕ) where
    -- a request that adds nothing
    pub stays_executes : IsLeftSettled old new r → LeavesBoth old new (before old.header.cloud.0) (after old.header.cloud.0) → Calls before after old.header.cloud.0 f0 f1 r
        → ForServed old (before old.header.cloud.0) (λ list. OnOk r (IsServedByList old new (after old.header.cloud.0) list request content))
        → ((named found : Fp) → OnOk r (IsReply content (replies.Rotten named found) → IsFound (before old.header.cloud.0) (memory_of old.memory) request named found))
        → ((answer : Reply) → LeavesAll request answer → OnOk r (IsReply content answer → Same × (new ≡ old)))
        → OnOk r (GivesReply old.header.shape request content)
        → OnOk r (new.disk.journal ≡ old.disk.journal) → ((answer : Reply) → SaysAdded (memory_of old.memory) request answer → OnOk r (IsReply content answer → ⊥))
        → Executes Same old new before after f0 f1 request content r
    stays_executes leaves both calls served rotten untouched kind journal asks =
        let c0 = before old.header.cloud.0 in let c1 = after old.header.cloud.0 in
        record {
          ready = leaves.ready;
          settled = leaves.settled;
          none = leaves.none;
          shut = leaves.shut;
          header = leaves.header;
          any_moment = λ list some. stayed c0 c1 (StandsForSome old.header (IsServedOrNot old list request)) both.cloud (λ image left. (list, inl refl, images_served old c0 list some image left));
          served = served;
          stays = λ list some none. both;
          behind = inl both.cloud;
          grown = λ told w ended. goes_still r w old new c0 c1 request content journal both.cloud asks ended;
          steady = λ has. both;
          spared = λ named found. always (IsReply content (replies.Rotten named found) → LeavesBoth old new c0 c1) (λ is. both);
          rotten = rotten;
          found = λ named found. when_ok (IsReply content (replies.Rotten named found) → IsFound c0 (memory_of old.memory) request named found)
              (IsReply content (replies.Rotten named found) → IsFound c1 (memory_of new.memory) request named found)
              (λ f is. found_now c0 c1 (memory_of old.memory) (memory_of new.memory) both.cloud calls.call.told (ap memory_of both.memory) request named found (f is)) (rotten named found);
          untouched = untouched;
          kind = kind;
          call = calls.call;
          failed = calls.failed;
          uncounted = calls.counts;
        }

    -- a request that adds its command where the store serves a list
    pub adds_executes : IsLeftSettled old new r → ForServed old (before old.header.cloud.0) (λ list. DoesByList old new (before old.header.cloud.0) (after old.header.cloud.0) list request content r)
        → GrowsBehind old (before old.header.cloud.0) (after old.header.cloud.0) request
        → (IsTrue (before old.header.cloud.0).told → (w : Where) → IsJournalEnded old.disk.journal ((before old.header.cloud.0).now Journal) w
        → OnOk r (JournalGoesOn w old new (before old.header.cloud.0) (after old.header.cloud.0) request content))
        → Calls before after old.header.cloud.0 f0 f1 r → (IsSteady (memory_of old.memory) request → ⊥)
        → ((named found : Fp) → OnOk r (IsReply content (replies.Rotten named found) → ⊥))
        → ((answer : Reply) → LeavesAll request answer → OnOk r (IsReply content answer → Same × (new ≡ old)))
        → OnOk r (GivesReply old.header.shape request content) → Executes Same old new before after f0 f1 request content r
    adds_executes leaves does behind grown calls no_entry never untouched kind =
        let c0 = before old.header.cloud.0 in let c1 = after old.header.cloud.0 in
        record {
          ready = leaves.ready;
          settled = leaves.settled;
          none = leaves.none;
          shut = leaves.shut;
          header = leaves.header;
          any_moment = λ list some. (does list some).any_moment;
          served = λ list some. (does list some).served;
          stays = λ list some none. (does list some).stays none;
          behind = inr behind;
          grown = grown;
          steady = λ has. absurd (no_entry has);
          spared = λ named found. when_ok (IsReply content (replies.Rotten named found) → ⊥) (IsReply content (replies.Rotten named found) → LeavesBoth old new c0 c1) (λ no is. absurd (no is)) (never named found);
          rotten = λ named found. when_ok (IsReply content (replies.Rotten named found) → ⊥) (IsReply content (replies.Rotten named found) → IsFound c0 (memory_of old.memory) request named found) (λ no is. absurd (no is)) (never named found);
          found = λ named found. when_ok (IsReply content (replies.Rotten named found) → ⊥) (IsReply content (replies.Rotten named found) → IsFound c1 (memory_of new.memory) request named found) (λ no is. absurd (no is)) (never named found);
          untouched = untouched;
          kind = kind;
          call = calls.call;
          failed = calls.failed;
          uncounted = calls.counts;
        }
