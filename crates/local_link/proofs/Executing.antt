-- What executing a request does to the peer that a cloud stands as.
use Rattle.std.proofs.Common.{◌≡◌, ◌⊎◌, ℕ, ◌<◌, ◌≤◌, Bool, true, false, List, length, Option, Some, Ok, Err, refl, sym, ap, ◌∙◌, subst, arith, inl}
use Rattle.std.specs.Prelude.{IsTrue, IsSomeAnd}
use Rattle.share_server.specs.CdBase.Reading.{AreBytes}
use Rattle.share_server.specs.CdBase.ids.Fp.{Fp}
use Rattle.share_server.specs.CdBase.shape.Shape.{Shape}
use Rattle.share_server.specs.CdEdges.Causes.{Rose}
use Rattle.share_server.specs.CdEdges.Disk.{Cloud}
use Rattle.share_server.specs.CdEdges.Shelf.{IsCall}
use Rattle.share_server.proofs.CdEdges.Moments.{started}
use Rattle.share_server.specs.JournalStart.rooms.UserRooms.{UserRooms}
use Rattle.share_server.specs.JournalStart.start.Header.{Header}
use Rattle.share_server.specs.Messages.request.Request.{Request}
use Rattle.share_server.specs.Messages.reply.Reply.{Reply}
use Rattle.share_server.specs.Messages.reply.Reply.TheVariants as replies
use Rattle.share_server.specs.Messages.Replies.{IsReply, reply_bytes}
use Rattle.share_server.specs.UserDedup.command.Command.{Command}
use Rattle.share_server.specs.UserDedup.Requests.{asked_at}
use Rattle.share_server.specs.UserDedup.Dedup.{Outcome}
use Rattle.share_server.specs.UserDedup.Exec.{Peer, MaySettleAs, Exec, StandsSound, served}
use Rattle.share_server.specs.UserDedup.Served.{served_by}
use Rattle.share_server.proofs.UserDedup.Asked.{asked_law}
use Rattle.share_server.proofs.UserDedup.Execs.{keeps_sound}
use Rattle.share_server.specs.CloudAreas.Peers.{StandsForSome, ImagesNow, ImagesSince, MayBecome}
use Rattle.share_server.specs.CloudMemory.Rooms.{memory_of}
use Rattle.share_server.specs.CloudStore.Store.{IsOpen}
use Rattle.share_server.specs.ServerCommands.Leaving.{IsFound}
use Rattle.share_server.specs.declared.server.Server.{Server}
use Rattle.share_server.specs.Serving.{IsServing, CanOpen, IsUnopenedReply, ChangesBehind, EntersBy, GrowsOn}
use Rattle.local_link.specs.declared.servers.Servers.{Servers}
use Rattle.local_link.specs.declared.link.LocalLink.{LocalLink}
use Rattle.local_link.specs.Tells.{server_at, rooms_at, header_at, full_at, IsPeer}
use Rattle.local_link.specs.Steps.{HasPutServer, Executed, Replied, RepliesOpen, OpensOrShuts, HasServerExecuted}
use Rattle.local_link.proofs.Standing.{header_put, here_now, said_of, known_of, peer_moves}
use Rattle.local_link.proofs.Malformed.{place_fits}

-- a cloud went on by a request
pub record GoesOn (old_servers new_servers : Servers) (cloud : ℕ) (old new : Cloud) (p : Peer) (request : Request) (reply : List ℕ) : Type 0 where
  pub peer : Peer
  pub answer : Reply
  pub stands : IsPeer new_servers.shape cloud new (server_at new_servers cloud) peer
  pub is : IsReply reply answer
  pub exec : Exec old_servers.shape old.told (served old_servers.shape cloud (full_at old_servers cloud)) p request answer peer

module _ (old_servers new_servers : Servers) (cloud : ℕ) (before after : Server) (put : HasPutServer old_servers new_servers cloud before after) (lt : cloud < old_servers.shape.n)
    (old new : ℕ → Cloud) (faults_before faults_now : ℕ) (content reply : List ℕ) (x : HasServerExecuted before after old new faults_before faults_now content reply) where
  h : before.store.header ≡ header_at old_servers cloud
  h = header_put old_servers new_servers cloud before after put

  here : server_at new_servers cloud ≡ Some after
  here = here_now old_servers new_servers cloud before after put lt

  -- the clauses at the cloud's number
  exec_here : (p : Peer) (r : Request) → IsTrue (old cloud).told → IsServing before (old cloud) p → asked_at old_servers.shape content ≡ Ok r → Executed before after (new cloud) p r reply
  exec_here p r =
      subst (λ (d : Header). IsTrue (old d.cloud.0).told → IsServing before (old d.cloud.0) p → asked_at d.shape content ≡ Ok r → Executed before after (new d.cloud.0) p r reply) h (x.exec p r)

  pub replied_here : (r : Request) → asked_at old_servers.shape content ≡ Ok r → Replied old_servers.shape (old cloud) (new cloud) faults_before faults_now r reply
  replied_here r =
      subst (λ (d : Header). asked_at d.shape content ≡ Ok r → Replied d.shape (old d.cloud.0) (new d.cloud.0) faults_before faults_now r reply) h (x.untold r)

  pub uncounted_here : (at : ℕ) → asked_at old_servers.shape content ≡ Err at → faults_now ≡ faults_before
  uncounted_here at = subst (λ (d : Header). asked_at d.shape content ≡ Err at → faults_now ≡ faults_before) h (x.uncounted at)

  pub called_here : IsCall old new cloud faults_before faults_now
  called_here = subst (λ (d : Header). IsCall old new d.cloud.0 faults_before faults_now) h x.call

  pub closed_here : (r : Request) → IsTrue (old cloud).told → asked_at old_servers.shape content ≡ Ok r
      → IsSomeAnd (server_at old_servers cloud) (λ (s : Server). ¬ (IsOpen s.store) → CanOpen s.store (old cloud) ⊎ IsUnopenedReply s.store (old cloud) (new cloud) reply)
  closed_here r told asked =
      let at_cloud =
      subst (λ (d : Header). IsTrue (old d.cloud.0).told → ¬ (IsOpen before.store) → asked_at d.shape content ≡ Ok r
      → CanOpen before.store (old d.cloud.0) ⊎ IsUnopenedReply before.store (old d.cloud.0) (new d.cloud.0) reply) h (x.closed r) in
      said_of (server_at old_servers cloud) before (λ (s : Server). ¬ (IsOpen s.store) → CanOpen s.store (old cloud) ⊎ IsUnopenedReply s.store (old cloud) (new cloud) reply) put.here
      (λ shut. at_cloud told shut asked)

  pub opened_here : (r : Request) → asked_at old_servers.shape content ≡ Ok r
      → IsSomeAnd (server_at old_servers cloud) (λ (s : Server). IsOpen s.store → RepliesOpen old new faults_before faults_now r reply)
  opened_here r asked =
      said_of (server_at old_servers cloud) before (λ (s : Server). IsOpen s.store → RepliesOpen old new faults_before faults_now r reply) put.here
      (λ is_open. subst (λ (d : Header). asked_at d.shape content ≡ Ok r → RepliesOpen old new faults_before faults_now r reply) h (x.opened r is_open) asked)

  pub found_here : (r : Request) → asked_at old_servers.shape content ≡ Ok r
      → IsSomeAnd (server_at new_servers cloud) (λ (s : Server). (named what : Fp) → IsReply reply (replies.Rotten named what) → IsFound (new cloud) (memory_of s.store.memory) r named what)
  found_here r asked =
      said_of (server_at new_servers cloud) after (λ (s : Server). (named what : Fp) → IsReply reply (replies.Rotten named what) → IsFound (new cloud) (memory_of s.store.memory) r named what) here
      (λ named what.
      subst (λ (d : Header). asked_at d.shape content ≡ Ok r → IsReply reply (replies.Rotten named what) → IsFound (new d.cloud.0) (memory_of after.store.memory) r named what) h (x.found r named what) asked)

  pub behind_here : (r : Request) → asked_at old_servers.shape content ≡ Ok r
      → IsSomeAnd (server_at old_servers cloud) (λ (s : Server). IsOpen s.store
      → IsSomeAnd (server_at new_servers cloud) (λ (t : Server). ChangesBehind s.store t.store (old cloud) (new cloud) r))
  behind_here r asked =
      said_of (server_at old_servers cloud) before (λ (s : Server). IsOpen s.store
      → IsSomeAnd (server_at new_servers cloud) (λ (t : Server). ChangesBehind s.store t.store (old cloud) (new cloud) r)) put.here
      (λ is_open.
      let at_cloud = subst (λ (d : Header). asked_at d.shape content ≡ Ok r → ChangesBehind before.store after.store (old d.cloud.0) (new d.cloud.0) r) h (x.behind r is_open) in
      said_of (server_at new_servers cloud) after (λ (t : Server). ChangesBehind before.store t.store (old cloud) (new cloud) r) here (at_cloud asked))

  pub grown_here : (r : Request) → asked_at old_servers.shape content ≡ Ok r
      → IsSomeAnd (server_at old_servers cloud) (λ (s : Server). IsOpen s.store
      → IsSomeAnd (server_at new_servers cloud) (λ (t : Server). GrowsOn s.store t.store (old cloud) (new cloud) r reply))
  grown_here r asked =
      said_of (server_at old_servers cloud) before (λ (s : Server). IsOpen s.store
      → IsSomeAnd (server_at new_servers cloud) (λ (t : Server). GrowsOn s.store t.store (old cloud) (new cloud) r reply)) put.here
      (λ is_open.
      let at_cloud = subst (λ (d : Header). asked_at d.shape content ≡ Ok r → GrowsOn before.store after.store (old d.cloud.0) (new d.cloud.0) r reply) h (x.grown r is_open) in
      said_of (server_at new_servers cloud) after (λ (t : Server). GrowsOn before.store t.store (old cloud) (new cloud) r reply) here (at_cloud asked))

  pub enters_here : (r : Request) → asked_at old_servers.shape content ≡ Ok r
      → IsSomeAnd (server_at old_servers cloud) (λ (s : Server). IsOpen s.store
      → IsSomeAnd (server_at new_servers cloud) (λ (t : Server). EntersBy s.store t.store r reply))
  enters_here r asked =
      said_of (server_at old_servers cloud) before (λ (s : Server). IsOpen s.store
      → IsSomeAnd (server_at new_servers cloud) (λ (t : Server). EntersBy s.store t.store r reply)) put.here
      (λ is_open.
      let at_cloud = subst (λ (d : Header). asked_at d.shape content ≡ Ok r → EntersBy before.store after.store r reply) h (x.enters r is_open) in
      said_of (server_at new_servers cloud) after (λ (t : Server). EntersBy before.store t.store r reply) here (at_cloud asked))

  pub first_here : (r : Request) → IsTrue (old cloud).told → asked_at old_servers.shape content ≡ Ok r
      → IsSomeAnd (server_at old_servers cloud) (λ (s : Server). ¬ (IsOpen s.store)
      → IsSomeAnd (server_at new_servers cloud) (λ (t : Server). OpensOrShuts s.store t.store (old cloud) (new cloud) r reply))
  first_here r told asked =
      said_of (server_at old_servers cloud) before (λ (s : Server). ¬ (IsOpen s.store)
      → IsSomeAnd (server_at new_servers cloud) (λ (t : Server). OpensOrShuts s.store t.store (old cloud) (new cloud) r reply)) put.here
      (λ shut.
      let at_cloud =
      subst (λ (d : Header). IsTrue (old d.cloud.0).told → ¬ (IsOpen before.store) → asked_at d.shape content ≡ Ok r
      → OpensOrShuts before.store after.store (old d.cloud.0) (new d.cloud.0) r reply) h (x.first r) in
      said_of (server_at new_servers cloud) after (λ (t : Server). OpensOrShuts before.store t.store (old cloud) (new cloud) r reply) here
      (at_cloud told shut asked))

  told_goes : (p : Peer) (r : Request) → AreBytes content → (old cloud).told ≡ true → IsPeer old_servers.shape cloud (old cloud) (server_at old_servers cloud) p → asked_at old_servers.shape content ≡ Ok r
      → GoesOn old_servers new_servers cloud (old cloud) (new cloud) p r reply
  told_goes p r known told is asked =
      let asks = (asked_law old_servers.shape content r known).0 asked in
      let serving = known_of (server_at old_servers cloud) before (λ (s : Server). IsServing s (old cloud) p) put.here (is.serving told) in
      let e = exec_here p r told serving asked in
      let exec : Exec old_servers.shape true (served old_servers.shape cloud (full_at old_servers cloud)) p r e.answer e.left =
      subst (λ (d : Header). Exec d.shape true (served_by d.rooms d.shape d.cloud.0) p r e.answer e.left) h e.exec in
      let sound = keeps_sound old_servers.shape cloud (full_at old_servers cloud) p e.left r e.answer (is.sound told) asks.asked.fits asks.recipe exec in
      record {
        peer = e.left;
        answer = e.answer;
        stands = record {
          faults = e.stands.stands.faults;
          armings = e.stands.stands.armings;
          serving = λ t. said_of (server_at new_servers cloud) after (λ (s : Server). IsServing s (new cloud) e.left) here e.stands;
          sound = λ t. subst (λ (s : Shape). StandsSound s cloud e.left) (sym put.shape) sound;
        };
        is = e.is;
        exec = subst (λ (b : Bool). Exec old_servers.shape b (served old_servers.shape cloud (full_at old_servers cloud)) p r e.answer e.left) (sym told) exec;
      }

  told_call : (new cloud).told ≡ (old cloud).told
  told_call = called_here.told

  armings_call : (new cloud).armings ≡ (old cloud).armings
  armings_call = called_here.armings

  later_call : (old cloud).faults ≤ (new cloud).faults
  later_call = called_here.later

  untold_goes : (p : Peer) (r : Request) → (old cloud).told ≡ false → IsPeer old_servers.shape cloud (old cloud) (server_at old_servers cloud) p → asked_at old_servers.shape content ≡ Ok r
      → GoesOn old_servers new_servers cloud (old cloud) (new cloud) p r reply
  untold_goes p r untold is asked =
      let e = replied_here r asked in
      let q : Peer = record { list = p.list; pending = p.pending; faults = (new cloud).faults; armings = (new cloud).armings } in
      let shown : Exec old_servers.shape false (served old_servers.shape cloud (full_at old_servers cloud)) p r e.answer q = record {
        counts = record { faults = let f = is.faults in let l = later_call in omega arith; armings = armings_call ∙ sym is.armings };
        does = record {
          kind = e.kind;
          memory = e.memory;
          fault = λ f. let rose = (e.fault f).cloud in let same = is.faults in rose_at (old cloud).faults p.faults (new cloud).faults (sym same) rose;
          stays = record { list = refl; pending = refl };
        };
      } in
      record {
        peer = q;
        answer = e.answer;
        stands = record {
          faults = refl;
          armings = refl;
          serving = λ told. absurd (let f : true ≡ false = sym told ∙ told_call ∙ untold in cc);
          sound = λ told. absurd (let f : true ≡ false = sym told ∙ told_call ∙ untold in cc);
        };
        is = e.is;
        exec = subst (λ (b : Bool). Exec old_servers.shape b (served old_servers.shape cloud (full_at old_servers cloud)) p r e.answer q) (sym untold) shown;
      }
    where
      rose_at : (a b c : ℕ) → a ≡ b → Rose a c → Rose b c
      rose_at a b c e rose = subst (λ (n : ℕ). Rose n c) e rose

  pub goes_on : (p : Peer) (r : Request) → AreBytes content → IsPeer old_servers.shape cloud (old cloud) (server_at old_servers cloud) p → asked_at old_servers.shape content ≡ Ok r
      → GoesOn old_servers new_servers cloud (old cloud) (new cloud) p r reply
  goes_on p r known is asked = by_told (old cloud).told refl
    where
      by_told : (b : Bool) → (old cloud).told ≡ b → GoesOn old_servers new_servers cloud (old cloud) (new cloud) p r reply
      by_told true told = told_goes p r known told is asked
      by_told false untold = untold_goes p r untold is asked

  -- content that asks nothing
  refused : (at : ℕ) → asked_at old_servers.shape content ≡ Err at → (reply ≡ reply_bytes (replies.Malformed at)) × (after ≡ before) × (new ≡ old)
  refused at = subst (λ (d : Header). asked_at d.shape content ≡ Err at → (reply ≡ reply_bytes (replies.Malformed at)) × (after ≡ before) × (new ≡ old)) h (x.malformed at)

  pub refused_clouds : (at : ℕ) → asked_at old_servers.shape content ≡ Err at → new ≡ old
  refused_clouds at asked = (refused at asked).2

  pub refuses : (at : ℕ) → asked_at old_servers.shape content ≡ Err at → (p : Peer) → IsPeer old_servers.shape cloud (old cloud) (server_at old_servers cloud) p
      → IsPeer new_servers.shape cloud (new cloud) (server_at new_servers cloud) p
  refuses at asked p is =
      let r = refused at asked in
      let same : server_at new_servers cloud ≡ server_at old_servers cloud = here ∙ ap Some r.1 ∙ sym put.here in
      subst (λ (s : Shape). IsPeer s cloud (new cloud) (server_at new_servers cloud) p) (sym put.shape)
      (peer_moves old_servers.shape cloud (old cloud) (new cloud) (server_at old_servers cloud) (server_at new_servers cloud) p (ap (λ f. f cloud) r.2) same is)

  pub refused_reply : (at : ℕ) → AreBytes content → length content ≤ 4194304 → asked_at old_servers.shape content ≡ Err at → IsReply reply (replies.Malformed at)
  refused_reply at known few asked = record { fits = place_fits old_servers.shape content at known few asked; spelled = (refused at asked).0 }

  -- what a crash leaves meanwhile
  pub images_since : (p : Peer) (r : Request) → IsTrue (old cloud).told → IsPeer old_servers.shape cloud (old cloud) (server_at old_servers cloud) p → asked_at old_servers.shape content ≡ Ok r
      → ImagesSince (old cloud) (new cloud) (header_at old_servers cloud) (MayBecome (served old_servers.shape cloud (full_at old_servers cloud)) p r)
  images_since p r told is asked =
      let serving = known_of (server_at old_servers cloud) before (λ (s : Server). IsServing s (old cloud) p) put.here (is.serving told) in
      let at_cloud =
      subst (λ (d : Header). IsTrue (old d.cloud.0).told → IsServing before (old d.cloud.0) p → asked_at d.shape content ≡ Ok r
      → ImagesSince (old d.cloud.0) (new d.cloud.0) d (MayBecome (served_by d.rooms d.shape d.cloud.0) p r)) h (x.images p r) in
      at_cloud told serving asked

-- ---- nothing was executed

pub images_stay : (header : Header) (serve : List Command → Request → Outcome) (c : Cloud) (p : Peer) (r : Request) → ImagesNow c header (MaySettleAs p) → ImagesSince c c header (MayBecome serve p r)
images_stay header serve c p r now = started c (StandsForSome header (MayBecome serve p r)) (λ image left. let f = now image left in (f.0, inl f.1, f.2))

-- ---- a loss is counted, and nothing else

pub peer_counted : {V : Type 0} (clouds : V → ℕ → Cloud) (a b : LocalLink V) (cloud : ℕ) (p : Peer) → b ≡ a
    → IsPeer a.servers.shape cloud (clouds a.shelf.now cloud) (server_at a.servers cloud) p → IsPeer b.servers.shape cloud (clouds b.shelf.now cloud) (server_at b.servers cloud) p
peer_counted {V} clouds a b cloud p e is = subst (λ (l : LocalLink V). IsPeer l.servers.shape cloud (clouds l.shelf.now cloud) (server_at l.servers cloud) p) (sym e) is

pub images_counted : {V : Type 0} (clouds : V → ℕ → Cloud) (a b : LocalLink V) (cloud : ℕ) (old : Cloud) (header : Header) (P : List Command → Type 0) → b ≡ a
    → ImagesSince old (clouds a.shelf.now cloud) header P → ImagesSince old (clouds b.shelf.now cloud) header P
images_counted {V} clouds a b cloud old header P e is = subst (λ (l : LocalLink V). ImagesSince old (clouds l.shelf.now cloud) header P) (sym e) is

pub rooms_counted : {V : Type 0} (a b : LocalLink V) (cloud : ℕ) (rooms : UserRooms) → b ≡ a → rooms_at a.servers cloud ≡ rooms → rooms_at b.servers cloud ≡ rooms
rooms_counted {V} a b cloud rooms e is = ap (λ (l : LocalLink V). rooms_at l.servers cloud) e ∙ is

pub clouds_counted : {V : Type 0} (clouds : V → ℕ → Cloud) (a b : LocalLink V) (old : ℕ → Cloud) → b ≡ a → clouds a.shelf.now ≡ old → clouds b.shelf.now ≡ old
clouds_counted {V} clouds a b old e is = ap (λ (l : LocalLink V). clouds l.shelf.now) e ∙ is

-- ---- the calls on the clouds

pub none_called : (clouds : ℕ → Cloud) (cloud faults : ℕ) → IsCall clouds clouds cloud faults faults
none_called clouds cloud faults = record { others = λ other ne. refl; told = refl; armings = refl; later = omega arith; total_later = omega arith }

pub calls_counted : {V : Type 0} (clouds : V → ℕ → Cloud) (faults : V → ℕ) (a b : LocalLink V) (cloud : ℕ) (old : ℕ → Cloud) (before : ℕ) → b ≡ a
    → IsCall old (clouds a.shelf.now) cloud before (faults a.shelf.now) → IsCall old (clouds b.shelf.now) cloud before (faults b.shelf.now)
calls_counted {V} clouds faults a b cloud old before e is = subst (λ (l : LocalLink V). IsCall old (clouds l.shelf.now) cloud before (faults l.shelf.now)) (sym e) is

pub replied_counted : {V : Type 0} (clouds : V → ℕ → Cloud) (faults : V → ℕ) (a b : LocalLink V) (cloud : ℕ) (shape : Shape) (old : Cloud) (before : ℕ) (r : Request) (reply : List ℕ) → b ≡ a
    → Replied shape old (clouds a.shelf.now cloud) before (faults a.shelf.now) r reply → Replied shape old (clouds b.shelf.now cloud) before (faults b.shelf.now) r reply
replied_counted {V} clouds faults a b cloud shape old before r reply e is = subst (λ (l : LocalLink V). Replied shape old (clouds l.shelf.now cloud) before (faults l.shelf.now) r reply) (sym e) is

pub closed_counted : {V : Type 0} (clouds : V → ℕ → Cloud) (a b : LocalLink V) (cloud : ℕ) (server : Option Server) (old : Cloud) (reply : List ℕ) → b ≡ a
    → IsSomeAnd server (λ (s : Server). ¬ (IsOpen s.store) → CanOpen s.store old ⊎ IsUnopenedReply s.store old (clouds a.shelf.now cloud) reply)
    → IsSomeAnd server (λ (s : Server). ¬ (IsOpen s.store) → CanOpen s.store old ⊎ IsUnopenedReply s.store old (clouds b.shelf.now cloud) reply)
closed_counted {V} clouds a b cloud server old reply e is =
    subst (λ (l : LocalLink V). IsSomeAnd server (λ (s : Server). ¬ (IsOpen s.store) → CanOpen s.store old ⊎ IsUnopenedReply s.store old (clouds l.shelf.now cloud) reply)) (sym e) is

pub opened_counted : {V : Type 0} (clouds : V → ℕ → Cloud) (faults : V → ℕ) (a b : LocalLink V) (server : Option Server) (old : ℕ → Cloud) (before : ℕ) (r : Request) (reply : List ℕ) → b ≡ a
    → IsSomeAnd server (λ (s : Server). IsOpen s.store → RepliesOpen old (clouds a.shelf.now) before (faults a.shelf.now) r reply)
    → IsSomeAnd server (λ (s : Server). IsOpen s.store → RepliesOpen old (clouds b.shelf.now) before (faults b.shelf.now) r reply)
opened_counted {V} clouds faults a b server old before r reply e is =
    subst (λ (l : LocalLink V). IsSomeAnd server (λ (s : Server). IsOpen s.store → RepliesOpen old (clouds l.shelf.now) before (faults l.shelf.now) r reply)) (sym e) is

pub found_counted : {V : Type 0} (clouds : V → ℕ → Cloud) (a b : LocalLink V) (cloud : ℕ) (r : Request) (reply : List ℕ) → b ≡ a
    → IsSomeAnd (server_at a.servers cloud) (λ (s : Server). (named what : Fp) → IsReply reply (replies.Rotten named what) → IsFound (clouds a.shelf.now cloud) (memory_of s.store.memory) r named what)
    → IsSomeAnd (server_at b.servers cloud) (λ (s : Server). (named what : Fp) → IsReply reply (replies.Rotten named what) → IsFound (clouds b.shelf.now cloud) (memory_of s.store.memory) r named what)
found_counted {V} clouds a b cloud r reply e is =
    subst (λ (l : LocalLink V). IsSomeAnd (server_at l.servers cloud) (λ (s : Server). (named what : Fp) → IsReply reply (replies.Rotten named what) → IsFound (clouds l.shelf.now cloud) (memory_of s.store.memory) r named what)) (sym e) is

pub total_counted : {V : Type 0} (faults : V → ℕ) (a b : LocalLink V) (before : ℕ) → b ≡ a → faults a.shelf.now ≡ before → faults b.shelf.now ≡ before
total_counted {V} faults a b before e is = ap (λ (l : LocalLink V). faults l.shelf.now) e ∙ is

pub behind_counted : {V : Type 0} (clouds : V → ℕ → Cloud) (a b : LocalLink V) (cloud : ℕ) (server : Option Server) (old : Cloud) (r : Request) → b ≡ a
    → IsSomeAnd server (λ (s : Server). IsOpen s.store → IsSomeAnd (server_at a.servers cloud) (λ (t : Server). ChangesBehind s.store t.store old (clouds a.shelf.now cloud) r))
    → IsSomeAnd server (λ (s : Server). IsOpen s.store → IsSomeAnd (server_at b.servers cloud) (λ (t : Server). ChangesBehind s.store t.store old (clouds b.shelf.now cloud) r))
behind_counted {V} clouds a b cloud server old r e is =
    subst (λ (l : LocalLink V). IsSomeAnd server (λ (s : Server). IsOpen s.store → IsSomeAnd (server_at l.servers cloud) (λ (t : Server). ChangesBehind s.store t.store old (clouds l.shelf.now cloud) r))) (sym e) is

pub grown_counted : {V : Type 0} (clouds : V → ℕ → Cloud) (a b : LocalLink V) (cloud : ℕ) (server : Option Server) (old : Cloud) (r : Request) (reply : List ℕ) → b ≡ a
    → IsSomeAnd server (λ (s : Server). IsOpen s.store → IsSomeAnd (server_at a.servers cloud) (λ (t : Server). GrowsOn s.store t.store old (clouds a.shelf.now cloud) r reply))
    → IsSomeAnd server (λ (s : Server). IsOpen s.store → IsSomeAnd (server_at b.servers cloud) (λ (t : Server). GrowsOn s.store t.store old (clouds b.shelf.now cloud) r reply))
grown_counted {V} clouds a b cloud server old r reply e is =
    subst (λ (l : LocalLink V). IsSomeAnd server (λ (s : Server). IsOpen s.store → IsSomeAnd (server_at l.servers cloud) (λ (t : Server). GrowsOn s.store t.store old (clouds l.shelf.now cloud) r reply))) (sym e) is

pub enters_counted : {V : Type 0} (a b : LocalLink V) (cloud : ℕ) (server : Option Server) (r : Request) (reply : List ℕ) → b ≡ a
    → IsSomeAnd server (λ (s : Server). IsOpen s.store → IsSomeAnd (server_at a.servers cloud) (λ (t : Server). EntersBy s.store t.store r reply))
    → IsSomeAnd server (λ (s : Server). IsOpen s.store → IsSomeAnd (server_at b.servers cloud) (λ (t : Server). EntersBy s.store t.store r reply))
enters_counted {V} a b cloud server r reply e is =
    subst (λ (l : LocalLink V). IsSomeAnd server (λ (s : Server). IsOpen s.store → IsSomeAnd (server_at l.servers cloud) (λ (t : Server). EntersBy s.store t.store r reply))) (sym e) is

pub first_counted : {V : Type 0} (clouds : V → ℕ → Cloud) (a b : LocalLink V) (cloud : ℕ) (server : Option Server) (old : Cloud) (r : Request) (reply : List ℕ) → b ≡ a
    → IsSomeAnd server (λ (s : Server). ¬ (IsOpen s.store) → IsSomeAnd (server_at a.servers cloud) (λ (t : Server).
    OpensOrShuts s.store t.store old (clouds a.shelf.now cloud) r reply))
    → IsSomeAnd server (λ (s : Server). ¬ (IsOpen s.store) → IsSomeAnd (server_at b.servers cloud) (λ (t : Server).
    OpensOrShuts s.store t.store old (clouds b.shelf.now cloud) r reply))
first_counted {V} clouds a b cloud server old r reply e is =
    subst (λ (l : LocalLink V). IsSomeAnd server (λ (s : Server). ¬ (IsOpen s.store) → IsSomeAnd (server_at l.servers cloud) (λ (t : Server).
    OpensOrShuts s.store t.store old (clouds l.shelf.now cloud) r reply))) (sym e) is
