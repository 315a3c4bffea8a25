-- What an open store leaves that was read through one of its logs.
use Rattle.std.proofs.Common.{◌≡◌, ℕ, List, [], Result, Ok, Err, refl, sym, ap, ◌∙◌, subst}
use Rattle.std.specs.Prelude.{OnOk}
use Rattle.server_commands.specs.CdBase.ids.Fp.{Fp}
use Rattle.server_commands.specs.CdEdges.Disk.{Cloud}
use Rattle.server_commands.specs.CdEdges.Shelf.{IsCall, HasFailed, KeepsCounts, Stays}
use Rattle.server_commands.specs.ContainerLog.States.{State, HasStaged}
use Rattle.server_commands.specs.CommitJournal.States as journals
use Rattle.server_commands.specs.Messages.request.Request.{Request}
use Rattle.server_commands.specs.Messages.reply.Reply.{Reply}
use Rattle.server_commands.specs.Messages.reply.Reply.TheVariants as replies
use Rattle.server_commands.specs.Messages.Replies.{IsReply, reply_bytes}
use Rattle.server_commands.specs.UserDedup.command.Command.{Command}
use Rattle.server_commands.specs.UserDedup.Dedup.{only, answer_over}
use Rattle.server_commands.specs.CloudAreas.Standing.{Chain}
use Rattle.server_commands.specs.CloudDisk.Disk.{Disk, IsReadThrough}
use Rattle.server_commands.specs.ServerReads.CloudMemory.Rooms.{memory_of}
use Rattle.server_commands.specs.CloudStore.store.CloudStore.{CloudStore}
use Rattle.server_commands.specs.CloudStore.Store.{IsSettled, IsOpen, Serves, ServesSome, closed}
use Rattle.server_commands.specs.CloudStore.Adding.{NoneStaged}
use Rattle.server_commands.proofs.OfCloudStore.Keeping.{reads_serve, reads_settled, reads_meet}
use Rattle.server_commands.specs.ServerReads.Found.{ReadsLog}
use Rattle.server_commands.proofs.ServerReads.Logs.{log_still}
use Rattle.server_commands.specs.Executing.{IsStoreReady, Executes}
use Rattle.server_commands.specs.Growing.{SaysAdded}
use Rattle.server_commands.specs.Leaving.{LeavesAll, IsFound}
use Rattle.server_commands.specs.Serving.{serves, GivesReply}
use Rattle.server_commands.proofs.Calls.{ok_result, failed_result}
use Rattle.server_commands.proofs.Doing.{served_still, stays_executes}
use Rattle.server_requests.specs.Reading.{ReadsDisk}

-- ---- one log

-- the log that is lent, and then is another
pub reads_shares : (old : Disk) (lent new : State) (a b : Cloud) → lent ≡ old.shares → Stays a b → ReadsLog lent new a b → ReadsDisk old (record old { shares = new }) a b
reads_shares old lent new a b is stays reads = record {
  journal = refl;
  shares = subst (λ (s : State). ReadsLog s new a b) is reads;
  recipes = log_still old.recipes old.recipes a b stays refl;
}

pub reads_recipes : (old : Disk) (lent new : State) (a b : Cloud) → lent ≡ old.recipes → Stays a b → ReadsLog lent new a b → ReadsDisk old (record old { recipes = new }) a b
reads_recipes old lent new a b is stays reads = record {
  journal = refl;
  shares = log_still old.shares old.shares a b stays refl;
  recipes = subst (λ (s : State). ReadsLog s new a b) is reads;
}

-- where the log is as it was lent, the disk is as it was
pub lent_back : {T E : Type 0} (r : Result T E) (P Q Same : Type 0) (put : State → Disk) (old lent new : State) → lent ≡ old → OnOk r (P → Q × Same × (new ≡ lent))
    → OnOk r (P → Same × (put new ≡ put old))
lent_back (Err e) P Q Same put old lent new is f = tt
lent_back (Ok x) P Q Same put old lent new is f = λ p. let s = f p in (s.1, ap put (s.2 ∙ is))

-- ---- the store

abbrev pub with_disk : CloudStore → Disk → CloudStore
with_disk s disk = record s { disk = disk }

staged_still : (old new : State) → new ≡ record old { kept = new.kept } → HasStaged old [] → HasStaged new []
staged_still old new same none = subst (λ (s : State). HasStaged s []) (sym same) (record { fit = none.fit; bytes = none.bytes })

module _ (old : CloudStore) (disk : Disk) (a b : Cloud) (reads : ReadsDisk old.disk disk a b) where
  pub ready_after : IsStoreReady old → IsStoreReady (with_disk old disk)
  ready_after ready = record {
    settled = reads_settled old (with_disk old disk) ready.settled refl reads.journal reads.shares.rest reads.recipes.rest;
    at_end = ap (λ (j : journals.JournalState). j.stage) reads.journal ∙ ready.at_end;
    none = record {
      shares = staged_still old.disk.shares disk.shares reads.shares.rest ready.none.shares;
      recipes = staged_still old.disk.recipes disk.recipes reads.recipes.rest ready.none.recipes;
    };
    meet = reads_meet old (with_disk old disk) ready.meet refl reads.shares.rest reads.recipes.rest;
  }

  serves_after : (list : List Command) (c : Chain) → Stays a b → b.told ≡ a.told → Serves list c old a → Serves list c (with_disk old disk) b
  serves_after list c stays told is =
      let on = is.known.on in
      let through : IsReadThrough old.disk disk a b = record {
        stays = stays;
        told = told;
        journal = reads.journal;
        shares = record { same = reads.shares.rest; agrees = reads.shares.agrees on.read.told on.shares.agrees };
        recipes = record { same = reads.recipes.rest; agrees = reads.recipes.agrees on.read.told on.recipes.agrees };
      } in
      reads_serve list c old (with_disk old disk) a b is refl through

-- ---- a request that only reads

-- the list's reply, whatever rooms there are
abbrev pub answer_of : CloudStore → List Command → Request → Reply
answer_of s list request = (answer_over s.header.shape s.header.cloud.0 list request).reply

module _ (Same : Type 0) (old : CloudStore) (disk : Disk) (a b : ℕ → Cloud) (f0 f1 : ℕ) (request : Request) (content : List ℕ) (ready : IsStoreReady old)
    (reads : ReadsDisk old.disk disk (a old.header.cloud.0) (b old.header.cloud.0)) (stays : Stays (a old.header.cloud.0) (b old.header.cloud.0)) (call : IsCall a b old.header.cloud.0 f0 f1) where
  pub was_read : KeepsCounts (a old.header.cloud.0) (b old.header.cloud.0) f0 f1 → ((list : List Command) → serves old list request ≡ only (answer_of old list request))
      → ((list : List Command) (c : Chain) → Serves list c old (a old.header.cloud.0) → content ≡ reply_bytes (answer_of old list request))
      → ((named found : Fp) → IsReply content (replies.Rotten named found) → IsFound (a old.header.cloud.0) (memory_of old.memory) request named found)
      → ((answer : Reply) → LeavesAll request answer → IsReply content answer → Same × (disk ≡ old.disk))
      → GivesReply old.header.shape request content → ((answer : Reply) → SaysAdded (memory_of old.memory) request answer → ⊥)
      → Executes Same old (with_disk old disk) a b f0 f1 request content ok_result
  was_read counts alone value rotten leaves kind asks =
      let n = old.header.cloud.0 in let mid = with_disk old disk in
      let now = ready_after old disk (a n) (b n) reads ready in
      stays_executes ok_result Same old mid a b f0 f1 request content
      (record { ready = now; settled = now.settled; none = now.none; shut = tt; header = refl })
      (record { cloud = stays; memory = refl })
      (record { call = call; failed = tt; counts = counts })
      (λ list some.
      let there : ServesSome list mid (b n) = record { c = some.c; serves = serves_after old disk (a n) (b n) reads list some.c stays call.told some.serves } in
      served_still old mid (b n) list request content (answer_of old list request) (alone list) (value list some.c some.serves) there)
      rotten
      (λ answer is other. let s = leaves answer is other in (s.0, ap (with_disk old) s.1))
      kind reads.journal (λ answer adds other. asks answer adds)

  pub was_failed : (new : CloudStore) → HasFailed (a old.header.cloud.0) (b old.header.cloud.0) f0 f1 → new ≡ closed (with_disk old disk) → IsSettled new → ¬ (IsOpen new)
      → Executes Same old new a b f0 f1 request content failed_result
  was_failed new failed is settled shut =
      let n = old.header.cloud.0 in
      let now = ready_after old disk (a n) (b n) reads ready in
      stays_executes failed_result Same old new a b f0 f1 request content
      (record {
        ready = tt;
        settled = settled;
        none = subst NoneStaged (sym is) (record { shares = now.none.shares; recipes = now.none.recipes });
        shut = shut;
        header = ap (λ (s : CloudStore). s.header) is;
      })
      (record { cloud = stays; memory = ap (λ (s : CloudStore). s.memory) is })
      (record { call = call; failed = failed; counts = tt })
      (λ list some. tt) (λ named found. tt) (λ answer leaves. tt) tt tt (λ answer adds. tt)
