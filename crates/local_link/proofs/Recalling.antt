-- What a told cloud replies whose areas open to a memory, whatever failed before.
use Rattle.std.proofs.Common.{◌≡◌, ℕ, Bool, true, false, List, [], ◌∷◌, Option, Some, None, Result, Ok, Err, refl, sym, ap, ◌∙◌, subst, inl, inr, ◌⊎◌}
use Rattle.std.specs.Prelude.{◌≢◌, IsOk, IsTrue, OnOk, IsSomeAnd}
use Rattle.std.specs.List.{Contains}
use Rattle.std.proofs.lemmas.Bool.{cases_eq}
use Rattle.share_server.specs.CdBase.ids.Fp.{Fp}
use Rattle.share_server.specs.CdEdges.Disk.{Cloud, Image, LeavesOnly, reads}
use Rattle.share_server.specs.CdEdges.Shelf.{Stays}
use Rattle.share_server.specs.CdEdges.area.Area.TheVariants.{Journal}
use Rattle.share_server.proofs.CdEdges.Moments.{at_end, joined, started, stayed, weaker}
use Rattle.share_server.specs.CloudMemory.Memory.{Memory}
use Rattle.share_server.specs.CloudMemory.Rooms.{memory_of}
use Rattle.share_server.specs.CommitJournal.Openings.{MayBeBegun, OnFault}
use Rattle.share_server.specs.CommitJournal.errors.OpenErr.{OpenErr}
use Rattle.share_server.specs.CommitJournal.errors.OpenErr.TheVariants as errors
use Rattle.share_server.specs.JournalHalves.Beginnings.{IsUnbegun}
use Rattle.share_server.specs.JournalStart.start.Header.{Header}
use Rattle.share_server.specs.Messages.request.Request.{Request}
use Rattle.share_server.specs.Messages.Requests.{IsRequest}
use Rattle.share_server.specs.Messages.reply.Reply.TheVariants as replies
use Rattle.share_server.specs.Messages.Replies.{IsReply}
use Rattle.share_server.specs.Openings.{OpensTo}
use Rattle.share_server.specs.CloudStore.Store.{IsOpen}
use Rattle.share_server.specs.CloudStore.store.CloudStore.{CloudStore}
use Rattle.share_server.specs.Refusals.{IsErrorReply}
use Rattle.share_server.specs.ServerCommands.Leaving.{IsFound}
use Rattle.share_server.specs.Serving.{ChangesBehind, EntersBy, IsUnopenedReply, an_error, some_commands}
use Rattle.share_server.specs.CloudOpening.Exact.{Opens, New, Read}
use Rattle.share_server.specs.CloudOpening.Spared.{Spares}
use Rattle.share_server.specs.UserDedup.Link.{AddsNothing, Exchange, IsReading, Passes, exchange_of}
use Rattle.share_server.specs.declared.server.Server.{Server}
use Rattle.share_server.proofs.UserDedup.Asked.{asked_law}
use Rattle.share_server.proofs.UserDedup.Owned.{contains_cases, contains_nothing}
use Rattle.cloud_opening.specs.CommitJournal.journal.Stage.{Stage}
use Rattle.cloud_opening.specs.CommitJournal.journal.Stage.TheVariants as stages
use Rattle.cloud_opening.proofs.OneOpening.{one_opening}
use Rattle.local_link.specs.declared.fate.Fate.TheVariants.{LoseRequest}
use Rattle.local_link.specs.declared.link.LocalLink.{LocalLink}
use Rattle.local_link.specs.declared.servers.Servers.{Servers}
use Rattle.local_link.specs.Steps.{OpensOrShuts}
use Rattle.local_link.specs.Tells.{server_at, header_at, IsRemembered, IsSaidBy, LeavesRest, ReadsTold, PassesOn, telling}
use Rattle.local_link.proofs.ByMemory.{by_stores, is_steady, lost_there, said_there}
use Rattle.local_link.proofs.Passing.{has_recipe, one_reply}
use Rattle.local_link.proofs.Standing.{header_is, header_stays}

-- ---- a store is open, or not

at_end_or_not : (stage : Stage) → (stage ≡ stages.AtEnd) ⊎ (stage ≢ stages.AtEnd)
at_end_or_not stages.AtEnd = inl refl
at_end_or_not stages.Shut = inr (λ e. let never : stages.Shut ≡ stages.AtEnd = e in cc)
at_end_or_not stages.Laying = inr (λ e. let never : stages.Laying ≡ stages.AtEnd = e in cc)
at_end_or_not stages.Reading = inr (λ e. let never : stages.Reading ≡ stages.AtEnd = e in cc)

open_or_shut : (store : CloudStore) → IsOpen store ⊎ ¬ (IsOpen store)
open_or_shut store = at_end_or_not store.disk.journal.stage

-- ---- one opening of bytes

-- areas that open where nothing is to be begun open so where something is
opens_begun : (header : Header) (image : Image) (m : Memory) (commands : ℕ) → Opens header false image m (Ok commands) → Opens header true image m (Ok commands)
opens_begun header image m commands (New none is memory) = absurd (let never : false ≡ true = is in cc)
opens_begun header image m commands (Read half start answer current same replays) = Read half start answer current same replays

same_memory : (header : Header) (image : Image) (m n : Memory) (commands number : ℕ) → Opens header false image m (Ok commands) → Opens header true image n (Ok number) → n ≡ m
same_memory header image m n commands number one two = (one_opening header true image n m (Ok number) (Ok commands) two (opens_begun header image m commands one)).memories

never_fails : (header : Header) (image : Image) (m n : Memory) (commands : ℕ) (error : OpenErr) → Opens header false image m (Ok commands) → Opens header true image n (Err error) → ⊥
never_fails header image m n commands error one two =
    let e : (let a : Result ℕ OpenErr = Err error in let b : Result ℕ OpenErr = Ok commands in a ≡ b) =
    (one_opening header true image n m (Err error) (Ok commands) two (opens_begun header image m commands one)).answers in
    (let never = e in cc)

-- ---- the areas meanwhile

-- A crash at any moment since left what the areas read, and they read so still.
pub record Along (old new : Cloud) : Type 0 where
  pub since : LeavesOnly old new (λ (image : Image). image ≡ reads old.now)
  pub same : reads new.now ≡ reads old.now

module _ (header : Header) (m : Memory) (old : Cloud) (server : Option Server) (is : IsRemembered header old server m) where
  none_yet : Along old old
  none_yet = record { since = started old (λ (image : Image). image ≡ reads old.now) is.alone; same = refl }

  stay_on : (mid new : Cloud) → Along old mid → Stays mid new → Along old new
  stay_on mid new so stays = record {
    since = joined old mid new (λ (image : Image). image ≡ reads old.now) so.since
        (stayed mid new (λ (image : Image). image ≡ reads old.now) stays (at_end old mid (λ (image : Image). image ≡ reads old.now) so.since));
    same = ap reads stays.now ∙ so.same;
  }

  -- an opening that begins what isn't begun begins nothing here
  back : (image : Image) → MayBeBegun old.now header true image → image ≡ reads old.now
  back image (inl left) = is.alone image left
  back image (inr begins) = absurd (is.begun begins.1)

  opened_on : {T : Type 0} (new : Cloud) (result : Result T OpenErr) → Spares header true old new result → Along old new
  opened_on new result s = record {
    since = weaker old new (MayBeBegun old.now header true) (λ (image : Image). image ≡ reads old.now) s.any_moment back;
    same = back (reads new.now) s.still_read;
  }

  -- it reads as this memory still
  still : (new : Cloud) (after : Option Server) → Along old new → IsSomeAnd after (λ (a : Server). IsOpen a.store → memory_of a.store.memory ≡ m) → IsRemembered header new after m
  still new after so keeps = record {
    commands = is.commands;
    opens = subst (λ (image : Image). Opens header false image m (Ok is.commands)) (sym so.same) is.opens;
    begun = λ none. is.begun (subst (λ (image : Image). IsUnbegun (image Journal)) so.same none);
    alone = λ image left. at_end old new (λ (i : Image). i ≡ reads old.now) so.since image left ∙ sym so.same;
    keeps = keeps;
  }

-- ---- one request to a server

module _ (header : Header) (m : Memory) (old new : Cloud) (told : IsTrue old.told) (r : Request) (none : AddsNothing r) where
  -- the server is closed behind it, or has the memory
  abbrev Keeps : Option Server → Type 0
  Keeps after = IsSomeAnd after (λ (a : Server). IsOpen a.store → memory_of a.store.memory ≡ m)

  abbrev Behind : Option Server → Option Server → Type 0
  Behind before after = IsSomeAnd before (λ (b : Server). IsOpen b.store → IsSomeAnd after (λ (a : Server). ChangesBehind b.store a.store old new r))

  abbrev First : Option Server → Option Server → List ℕ → Type 0
  First before after content = IsSomeAnd before (λ (b : Server). ¬ (IsOpen b.store) → IsSomeAnd after (λ (a : Server). OpensOrShuts b.store a.store old new r content))

  abbrev Enter : Option Server → Option Server → List ℕ → Type 0
  Enter before after content = IsSomeAnd before (λ (b : Server). IsOpen b.store → IsSomeAnd after (λ (a : Server). EntersBy b.store a.store r content))

  abbrev Finds : Option Server → List ℕ → Type 0
  Finds after content = IsSomeAnd after (λ (a : Server). (named what : Fp) → IsReply content (replies.Rotten named what) → IsFound new (memory_of a.store.memory) r named what)

  -- The error of an opening of such a cloud is that of a device, and the reply is Fault.
  is_fault : (store : CloudStore) (server : Option Server) (content : List ℕ) → store.header ≡ header → IsRemembered header old server m → IsUnopenedReply store old new content
      → IsReply content replies.Fault
  is_fault store server content same is u =
      by_error u.error u.refuses (subst (λ (h : Header). OnFault (an_error u.error) (Unit {0}) (OpensTo h true (reads old.now) (an_error u.error))) same (u.unopened.exact told))
    where
      by_error : (error : OpenErr) → IsErrorReply error content → OnFault (an_error error) (Unit {0}) (OpensTo header true (reads old.now) (an_error error)) → IsReply content replies.Fault
      by_error errors.Fault refuses opens = subst (IsReply content) refuses.refusal refuses.is
      by_error (errors.NotBegun len) refuses opens = absurd (never_fails header (reads old.now) m opens.0 is.commands (errors.NotBegun len) is.opens opens.1)
      by_error (errors.Damaged at byte) refuses opens = absurd (never_fails header (reads old.now) m opens.0 is.commands (errors.Damaged at byte) is.opens opens.1)
      by_error (errors.OtherStore found asked at) refuses opens = absurd (never_fails header (reads old.now) m opens.0 is.commands (errors.OtherStore found asked at) is.opens opens.1)

  -- what stands behind it
  pub left_so : (before after : Option Server) (content : List ℕ) → IsSomeAnd before (λ (b : Server). b.store.header ≡ header) → IsRemembered header old before m → Behind before after
      → First before after content → Along old new × Keeps after
  left_so None after content same is behind first = absurd same
  left_so (Some b) None content same is behind first = elim (open_or_shut b.store) [ inl opened ↦ absurd (behind opened) | inr shut ↦ absurd (first shut) ]
  left_so (Some b) (Some a) content same is behind first = elim (open_or_shut b.store) [ inl opened ↦ by_change (behind opened) opened | inr shut ↦ by_first (first shut) ]
    where
      by_change : ChangesBehind b.store a.store old new r → IsOpen b.store → Along old new × Keeps (Some a)
      by_change x opened =
          let left = x.steady (is_steady (memory_of b.store.memory) r none) in
          (stay_on header m old (Some b) is old new (none_yet header m old (Some b) is) left.cloud, λ later. ap memory_of left.memory ∙ is.keeps opened)

      by_first : OpensOrShuts b.store a.store old new r content → Along old new × Keeps (Some a)
      by_first (inl x) =
          let opens = subst (λ (h : Header). Opens h true (reads old.now) (memory_of x.opened.memory) (Ok x.commands)) same x.exact in
          let memory = same_memory header (reads old.now) m (memory_of x.opened.memory) is.commands x.commands is.opens opens in
          let left = x.changes.steady (is_steady (memory_of x.opened.memory) r none) in
          let between = opened_on header m old (Some b) is x.between (some_commands x.commands) (subst (λ (h : Header). Spares h true old x.between (some_commands x.commands)) same x.spares) in
          (stay_on header m old (Some b) is x.between new between left.cloud, λ later. ap memory_of left.memory ∙ memory)
      by_first (inr x) = (
        opened_on header m old (Some b) is new (an_error x.0.error) (subst (λ (h : Header). Spares h true old new (an_error x.0.error)) same (x.0.unopened.areas told)),
        λ later. absurd (x.1 (is_fault b.store (Some b) content same is x.0) later),
      )

  -- and what came back
  pub says_so : (before after : Option Server) (content : List ℕ) → IsSomeAnd before (λ (b : Server). b.store.header ≡ header) → IsRemembered header old before m → new.told ≡ old.told
      → reads new.now ≡ reads old.now → Behind before after → First before after content → Enter before after content → Finds after content
      → IsReply content replies.Fault ⊎ IsSaidBy old m r content
  says_so None after content same is tells reading behind first enters found = absurd same
  says_so (Some b) None content same is tells reading behind first enters found = absurd found
  says_so (Some b) (Some a) content same is tells reading behind first enters found = elim (open_or_shut b.store) [
    | inl opened ↦
        let left = (behind opened).steady (is_steady (memory_of b.store.memory) r none) in
        by_stores b.store a.store old new m r content none (is.keeps opened) (ap memory_of left.memory ∙ is.keeps opened) reading tells (enters opened) found
    | inr shut ↦ by_first (first shut)
  ]
    where
      by_first : OpensOrShuts b.store a.store old new r content → IsReply content replies.Fault ⊎ IsSaidBy old m r content
      by_first (inl x) =
          let opens = subst (λ (h : Header). Opens h true (reads old.now) (memory_of x.opened.memory) (Ok x.commands)) same x.exact in
          let memory = same_memory header (reads old.now) m (memory_of x.opened.memory) is.commands x.commands is.opens opens in
          let left = x.changes.steady (is_steady (memory_of x.opened.memory) r none) in
          by_stores x.opened a.store old new m r content none memory (ap memory_of left.memory ∙ memory) reading tells x.enters found
      by_first (inr x) = inl (is_fault b.store (Some b) content same is x.0)

-- ---- one ask

-- the header of a server that is there
header_there : (servers : Servers) (cloud : ℕ) (P : Server → Type 0) → IsSomeAnd (server_at servers cloud) P → IsSomeAnd (server_at servers cloud) (λ (s : Server). s.store.header ≡ header_at servers cloud)
header_there servers cloud P is = by_server (server_at servers cloud) refl is
  where
    by_server : (o : Option Server) → server_at servers cloud ≡ o → IsSomeAnd o P → IsSomeAnd o (λ (s : Server). s.store.header ≡ header_at servers cloud)
    by_server None here is = absurd is
    by_server (Some s) here is = header_is servers cloud s here

module _ {V : Type 0} (clouds : V → ℕ → Cloud) (old new : LocalLink V) (cloud : ℕ) (m : Memory) (r : Request) (none : AddsNothing r) (told : IsTrue (clouds old.shelf.now cloud).told)
    (is : IsRemembered (header_at old.servers cloud) (clouds old.shelf.now cloud) (server_at old.servers cloud) m) (rest : LeavesRest clouds cloud old new)
    (unheard : old.fate ≡ LoseRequest → (new.servers ≡ old.servers) × (new.shelf ≡ old.shelf)) where
  abbrev header : Header
  header = header_at old.servers cloud

  abbrev one : Cloud
  one = clouds old.shelf.now cloud

  abbrev two : Cloud
  two = clouds new.shelf.now cloud

  abbrev before : Option Server
  before = server_at old.servers cloud

  abbrev after : Option Server
  after = server_at new.servers cloud

  there : IsSomeAnd before (λ (b : Server). b.store.header ≡ header)
  there = header_there old.servers cloud (λ (s : Server). IsOpen s.store → memory_of s.store.memory ≡ m) is.keeps

  unsent : old.fate ≡ LoseRequest → Along one two × Keeps header m one two told r none after
  unsent lost =
      let same = unheard lost in
      let here : two ≡ one = λ i. clouds (same.1 i).now cloud in (
        stay_on header m one before is one two (none_yet header m one before is)
            (record { armed = ap (λ (c : Cloud). c.armed) here; past = ap (λ (c : Cloud). c.past) here; now = ap (λ (c : Cloud). c.now) here }),
        subst (λ (s : Servers). IsSomeAnd (server_at s cloud) (λ (a : Server). IsOpen a.store → memory_of a.store.memory ≡ m)) (sym same.0) is.keeps,
      )

  pub recalled : {E : Type 0} (content reply : List ℕ) (result : Result (Unit {0}) E) → (IsOk result → old.fate ≢ LoseRequest)
      → (old.fate ≢ LoseRequest → Behind header m one two told r none before after)
      → (old.fate ≢ LoseRequest → (heard : List ℕ) × OnOk result (reply ≡ heard) × First header m one two told r none before after heard)
      → (old.fate ≢ LoseRequest → (heard : List ℕ) × OnOk result (reply ≡ heard) × Enter header m one two told r none before after heard)
      → (old.fate ≢ LoseRequest → (heard : List ℕ) × OnOk result (reply ≡ heard) × Finds header m one two told r none after heard)
      → ReadsTold header one two after (exchange_of cloud content result reply) m r
  recalled content reply (Err e) delivered behind first enters found =
      let x = by_fate (lost_there old.fate) in record {
        at_end = still header m one before is two after x.0 x.1;
        since = x.0.since;
        same = x.0.same;
        says = λ heard came. absurd (let never : None ≡ Some heard = came in cc);
      }
    where
      by_fate : (old.fate ≡ LoseRequest) ⊎ (old.fate ≢ LoseRequest) → Along one two × Keeps header m one two told r none after
      by_fate (inl lost) = unsent lost
      by_fate (inr arrives) = let f = first arrives in left_so header m one two told r none before after f.0 there is (behind arrives) f.2
  recalled content reply (Ok u) delivered behind first enters found =
      let arrives = delivered refl in
      let f = first arrives in let e = enters arrives in let w = found arrives in
      let first_here = subst (First header m one two told r none before after) (sym f.1) f.2 in
      let x = left_so header m one two told r none before after reply there is (behind arrives) first_here in
      let says = says_so header m one two told r none before after reply there is (rest.told_stays cloud) x.0.same (behind arrives) first_here
      (subst (Enter header m one two told r none before after) (sym e.1) e.2) (subst (Finds header m one two told r none after) (sym w.1) w.2) in
      record {
        at_end = still header m one before is two after x.0 x.1;
        since = x.0.since;
        same = x.0.same;
        says = λ heard came. subst (λ (l : List ℕ). IsReply l replies.Fault ⊎ IsSaidBy one m r l) (one_reply reply heard came) says;
      }

-- ---- the chain

module _ {V : Type 0} (clouds : V → ℕ → Cloud) where
  abbrev Reads : LocalLink V → ℕ → Memory → Type 0
  Reads a cloud m = IsRemembered (header_at a.servers cloud) (clouds a.shelf.now cloud) (server_at a.servers cloud) m

  -- the cloud of this number reads as this memory, and as it did
  abbrev GoesOn : LocalLink V → LocalLink V → ℕ → Memory → Type 0
  GoesOn a b cloud m = Reads b cloud m × LeavesOnly (clouds a.shelf.now cloud) (clouds b.shelf.now cloud) (λ (image : Image). image ≡ reads (clouds a.shelf.now cloud).now)
      × (reads (clouds b.shelf.now cloud).now ≡ reads (clouds a.shelf.now cloud).now)

  -- the header of a server is what it was
  next_header : (e : Exchange) (a b : LocalLink V) (cloud : ℕ) → PassesOn clouds a e b → header_at b.servers cloud ≡ header_at a.servers cloud
  next_header e a b cloud step = header_stays clouds e.cloud cloud a b step.rest step.rooms

  one_read : (e : Exchange) (a b : LocalLink V) (m : Memory) (r : Request) → IsRequest e.content r → AddsNothing r → PassesOn clouds a e b
      → IsTrue (clouds a.shelf.now e.cloud).told → Reads a e.cloud m
      → ReadsTold (header_at a.servers e.cloud) (clouds a.shelf.now e.cloud) (clouds b.shelf.now e.cloud) (server_at b.servers e.cloud) e m r
  one_read e a b m r asks none step told is =
      step.recalls m r told ((asked_law a.servers.shape e.content r step.bytes).1 (record { asked = asks; recipe = has_recipe a.servers.shape r none })) none is

  one_on : (e : Exchange) (a b : LocalLink V) (cloud : ℕ) (m : Memory) → IsReading e.content → PassesOn clouds a e b → IsTrue (clouds a.shelf.now cloud).told
      → Reads a cloud m → GoesOn a b cloud m
  one_on e a b cloud m reading step told is = by_cloud (cases_eq cloud e.cloud)
    where
      at_asked : IsTrue (clouds a.shelf.now e.cloud).told → Reads a e.cloud m → GoesOn a b e.cloud m
      at_asked t reads_there =
          let x = one_read e a b m reading.0 reading.1 reading.2 step t reads_there in
          (subst (λ (h : Header). IsRemembered h (clouds b.shelf.now e.cloud) (server_at b.servers e.cloud) m) (sym (next_header e a b e.cloud step)) x.at_end, x.since, x.same)

      by_cloud : (cloud ≡ e.cloud) ⊎ (cloud ≢ e.cloud) → GoesOn a b cloud m
      by_cloud (inl same) =
          subst (λ (n : ℕ). IsTrue (clouds a.shelf.now n).told → Reads a n m → GoesOn a b n m) (sym same) at_asked told is
      by_cloud (inr ne) =
          let one = clouds a.shelf.now cloud in
          let header = header_at b.servers cloud in
          let first : IsRemembered header one (server_at a.servers cloud) m × LeavesOnly one one (λ (image : Image). image ≡ reads one.now) × (reads one.now ≡ reads one.now) =
          (subst (λ (h : Header). IsRemembered h one (server_at a.servers cloud) m) (sym (next_header e a b cloud step)) is, started one (λ (image : Image). image ≡ reads one.now) is.alone, refl) in
          subst (λ (c : Cloud). IsRemembered header c (server_at b.servers cloud) m × LeavesOnly one c (λ (image : Image). image ≡ reads one.now) × (reads c.now ≡ reads one.now))
          (sym (step.rest.clouds_stay cloud ne))
          (subst (λ (o : Option Server). IsRemembered header one o m × LeavesOnly one one (λ (image : Image). image ≡ reads one.now) × (reads one.now ≡ reads one.now))
          (sym (step.rest.servers_stay cloud ne)) first)

  abbrev Chain : LocalLink V → List Exchange → LocalLink V → Type 0
  Chain a es b = Passes (telling clouds) (λ e. IsReading e.content) a es b

  told_next : (e : Exchange) (a b : LocalLink V) (cloud : ℕ) → PassesOn clouds a e b → IsTrue (clouds a.shelf.now cloud).told → IsTrue (clouds b.shelf.now cloud).told
  told_next e a b cloud step told = subst (λ (t : Bool). IsTrue t) (sym (step.rest.told_stays cloud)) told

  pub reading_on : (es : List Exchange) (a b : LocalLink V) (cloud : ℕ) (m : Memory) → Chain a es b → IsTrue (clouds a.shelf.now cloud).told
      → Reads a cloud m → GoesOn a b cloud m
  reading_on [] a b cloud m same told is =
      subst (λ (l : LocalLink V). GoesOn a l cloud m) (sym same)
      (is, started (clouds a.shelf.now cloud) (λ (image : Image). image ≡ reads (clouds a.shelf.now cloud).now) is.alone, refl)
  reading_on (e ∷ es) a b cloud m chain told is =
      let mid = chain.1.0 in
      let step = chain.1.1 in
      let first = one_on e a mid cloud m chain.0 step told is in
      let more = reading_on es mid b cloud m chain.1.2 (told_next e a mid cloud step told) first.0 in (
        more.0,
        joined (clouds a.shelf.now cloud) (clouds mid.shelf.now cloud) (clouds b.shelf.now cloud) (λ (image : Image). image ≡ reads (clouds a.shelf.now cloud).now) first.1
            (subst (λ (i : Image). LeavesOnly (clouds mid.shelf.now cloud) (clouds b.shelf.now cloud) (λ (image : Image). image ≡ i)) first.2 more.1),
        more.2 ∙ first.2,
      )

  pub recalled_on : (es : List Exchange) (a b : LocalLink V) (e : Exchange) (content : List ℕ) (m : Memory) (r : Request) → Chain a es b → Contains es e
      → e.reply ≡ Some content → IsRequest e.content r → AddsNothing r → IsTrue (clouds a.shelf.now e.cloud).told → Reads a e.cloud m
      → IsReply content replies.Fault ⊎ IsSaidBy (clouds a.shelf.now e.cloud) m r content
  recalled_on [] a b e content m r chain has came asks none told is = absurd (contains_nothing e has)
  recalled_on (x ∷ es) a b e content m r chain has came asks none told is = elim (contains_cases x es e has) [
    | inl same ↦ subst
        (λ (y : Exchange). y.reply ≡ Some content → IsRequest y.content r → IsTrue (clouds a.shelf.now y.cloud).told → Reads a y.cloud m
        → IsReply content replies.Fault ⊎ IsSaidBy (clouds a.shelf.now y.cloud) m r content)
        same here came asks told is
    | inr more ↦
        let first = one_on x a chain.1.0 e.cloud m chain.0 chain.1.1 told is in
        further first.2 (recalled_on es chain.1.0 b e content m r chain.1.2 more came asks none (told_next x a chain.1.0 e.cloud chain.1.1 told) first.0)
  ]
    where
      mid : LocalLink V
      mid = chain.1.0

      step : PassesOn clouds a x mid
      step = chain.1.1

      here : x.reply ≡ Some content → IsRequest x.content r → IsTrue (clouds a.shelf.now x.cloud).told → Reads a x.cloud m
          → IsReply content replies.Fault ⊎ IsSaidBy (clouds a.shelf.now x.cloud) m r content
      here came_here asks_here told_here is_here = (one_read x a mid m r asks_here none step told_here is_here).says content came_here

      further : reads (clouds mid.shelf.now e.cloud).now ≡ reads (clouds a.shelf.now e.cloud).now → IsReply content replies.Fault ⊎ IsSaidBy (clouds mid.shelf.now e.cloud) m r content
          → IsReply content replies.Fault ⊎ IsSaidBy (clouds a.shelf.now e.cloud) m r content
      further same (inl fault) = inl fault
      further same (inr says) = inr (said_there (clouds mid.shelf.now e.cloud) (clouds a.shelf.now e.cloud) m (sym (step.rest.told_stays e.cloud)) (sym same) r content says)
