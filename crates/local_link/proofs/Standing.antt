-- How a cloud stands as a peer behind a call.
use Rattle.std.proofs.Common.{◌≡◌, ℕ, ◌<◌, List, Option, Some, sym, ap, ◌∙◌, subst, arith, inl, inr}
use Rattle.std.specs.Prelude.{◌≢◌, IsTrue, IsSomeAnd, slice_get, nat_lt}
use Rattle.std.proofs.lemmas.Bool.{cases_eq}
use Rattle.std.proofs.lemmas.Option.{slice_get_cases}
use Rattle.share_server.specs.CdBase.shape.Shape.{Shape}
use Rattle.share_server.specs.CdEdges.Disk.{Cloud}
use Rattle.share_server.specs.CdEdges.Shelf.{IsCall}
use Rattle.share_server.specs.JournalStart.rooms.UserRooms.{UserRooms}
use Rattle.share_server.specs.JournalStart.start.Header.{Header}
use Rattle.share_server.specs.UserDedup.command.Command.{Command}
use Rattle.share_server.specs.UserDedup.Exec.{Peer, MaySettleAs}
use Rattle.share_server.specs.UserDedup.Link.{LeavesOthers}
use Rattle.share_server.specs.UserDedup.Spending.{full_for, IsWithin}
use Rattle.share_server.specs.CloudAreas.Peers.{ImagesNow}
use Rattle.share_server.specs.CloudStore.Store.{IsOpen}
use Rattle.share_server.specs.Names.{header_of}
use Rattle.share_server.specs.declared.server.Server.{Server}
use Rattle.share_server.specs.Serving.{number_of, IsServing}
use Rattle.local_link.specs.declared.servers.Servers.{Servers}
use Rattle.local_link.specs.declared.link.LocalLink.{LocalLink}
use Rattle.local_link.specs.Tells.{server_at, rooms_of, rooms_at, header_at, IsPeer, telling, LeavesRest}
use Rattle.local_link.specs.Steps.{HasPutServer, IsClosedIn}
use Rattle.local_link.specs.Calls.{MayServe}
use Rattle.local_link.proofs.Placing.{set_here, set_there}

-- ---- the header of a server

-- is that of its cloud's number in a store of the servers' shape
pub header_is : (servers : Servers) (cloud : ℕ) (server : Server) → server_at servers cloud ≡ Some server → server.store.header ≡ header_at servers cloud
header_is servers cloud server here =
    (servers.are_servers.each cloud server here).header_is ∙ ap (λ (o : Option Server). header_of servers.shape (rooms_of o) cloud) (sym here)

-- ---- one server in place of another

module _ (old new : Servers) (cloud : ℕ) (before after : Server) (put : HasPutServer old new cloud before after) where
  pub header_put : before.store.header ≡ header_at old cloud
  header_put = header_is old cloud before put.here

  pub number_put : number_of before ≡ cloud
  number_put = ap (λ (h : Header). h.cloud.0) header_put

  pub here_now : cloud < old.shape.n → server_at new cloud ≡ Some after
  here_now lt = let n = old.are_servers.count in ap (λ (l : List Server). slice_get l cloud) put.list ∙ set_here old.list.items cloud after (omega arith)

  pub there_now : (other : ℕ) → other ≢ cloud → server_at new other ≡ server_at old other
  there_now other ne = ap (λ (l : List Server). slice_get l other) put.list ∙ set_there old.list.items cloud other after ne

-- what is said of a place's server
pub said_of : (o : Option Server) (server : Server) (P : Server → Type 0) → o ≡ Some server → P server → IsSomeAnd o P
said_of o server P e p = subst (λ (x : Option Server). IsSomeAnd x P) (sym e) p

pub known_of : (o : Option Server) (server : Server) (P : Server → Type 0) → o ≡ Some server → IsSomeAnd o P → P server
known_of o server P e p = subst (λ (x : Option Server). IsSomeAnd x P) e p

-- there is a server for each cloud
pub some_server : (servers : Servers) (cloud : ℕ) → cloud < servers.shape.n → (server : Server) × (server_at servers cloud ≡ Some server)
some_server servers cloud lt = elim (slice_get_cases servers.list.items cloud).1 [
  | inl x ↦ (x.0, x.2)
  | inr x ↦ absurd (let n = servers.are_servers.count in let l = x.0 in omega arith)
]

-- ---- what a call leaves

pub told_by : (old new : ℕ → Cloud) (number before now : ℕ) → IsCall old new number before now → (other : ℕ) → (new other).told ≡ (old other).told
told_by old new number before now call other = elim (cases_eq other number) [
  | inl same ↦ subst (λ (n : ℕ). (new n).told ≡ (old n).told) (sym same) call.told
  | inr ne ↦ ap (λ (c : Cloud). c.told) (call.others other ne)
]

pub rest_at : {V : Type 0} (clouds : V → ℕ → Cloud) (cloud : ℕ) (old new : LocalLink V) (before after : Server) (faults_before faults_now : ℕ)
    → HasPutServer old.servers new.servers cloud before after → IsCall (clouds old.shelf.now) (clouds new.shelf.now) cloud faults_before faults_now → LeavesRest clouds cloud old new
rest_at clouds cloud old new before after faults_before faults_now put call = record {
  clouds_stay = call.others;
  servers_stay = there_now old.servers new.servers cloud before after put;
  shape_stays = put.shape;
  told_stays = told_by (clouds old.shelf.now) (clouds new.shelf.now) cloud faults_before faults_now call;
}

-- of a call on the cloud of the server that stood there
pub rest_by : {V : Type 0} (clouds : V → ℕ → Cloud) (cloud : ℕ) (old new : LocalLink V) (before after : Server) (faults_before faults_now : ℕ)
    → HasPutServer old.servers new.servers cloud before after → IsCall (clouds old.shelf.now) (clouds new.shelf.now) (number_of before) faults_before faults_now
    → LeavesRest clouds cloud old new
rest_by clouds cloud old new before after faults_before faults_now put call =
    rest_at clouds cloud old new before after faults_before faults_now put
    (subst (λ (n : ℕ). IsCall (clouds old.shelf.now) (clouds new.shelf.now) n faults_before faults_now) (number_put old.servers new.servers cloud before after put) call)

pub peer_moves : (shape : Shape) (number : ℕ) (c d : Cloud) (s t : Option Server) (p : Peer) → d ≡ c → t ≡ s → IsPeer shape number c s p → IsPeer shape number d t p
peer_moves shape number c d s t p e f is = subst (λ (x : Cloud). IsPeer shape number x t p) (sym e) (subst (λ (o : Option Server). IsPeer shape number c o p) (sym f) is)

-- the rooms stay where the header does
pub rooms_same : (s t : Option Server) (before after : Server) → s ≡ Some before → t ≡ Some after → after.store.header ≡ before.store.header → rooms_of t ≡ rooms_of s
rooms_same s t before after e f same = ap rooms_of f ∙ (ap (λ (h : Header). h.rooms) same ∙ sym (ap rooms_of e))

pub others_by : {V : Type 0} (clouds : V → ℕ → Cloud) (cloud : ℕ) (old new : LocalLink V) → LeavesRest clouds cloud old new
    → rooms_at new.servers cloud ≡ rooms_at old.servers cloud → LeavesOthers (telling clouds) cloud old new
others_by clouds cloud old new rest rooms = record {
  stands = λ other p ne is.
      subst (λ (s : Shape). IsPeer s other (clouds new.shelf.now other) (server_at new.servers other) p) (sym rest.shape_stays)
      (peer_moves old.servers.shape other (clouds old.shelf.now other) (clouds new.shelf.now other) (server_at old.servers other) (server_at new.servers other) p (rest.clouds_stay other ne) (rest.servers_stay other ne) is);
  reaches = λ i n. nat_lt n (rest.shape_stays i).n;
  shape = rest.shape_stays;
  told = λ i n. rest.told_stays n i;
  full = λ i n. full_for (rest.shape_stays i) (rooms_stay n i);
}
  where
    rooms_stay : (n : ℕ) → rooms_at new.servers n ≡ rooms_at old.servers n
    rooms_stay n = elim (cases_eq n cloud) [
      | inl same ↦ subst (λ (m : ℕ). rooms_at new.servers m ≡ rooms_at old.servers m) (sym same) rooms
      | inr ne ↦ ap rooms_of (rest.servers_stay n ne)
    ]

-- the header of a cloud's place stays where its rooms do
pub header_stays : {V : Type 0} (clouds : V → ℕ → Cloud) (asked cloud : ℕ) (old new : LocalLink V) → LeavesRest clouds asked old new
    → rooms_at new.servers asked ≡ rooms_at old.servers asked → header_at new.servers cloud ≡ header_at old.servers cloud
header_stays clouds asked cloud old new rest rooms = λ i. header_of (rest.shape_stays i) (rooms_stay i) cloud
  where
    rooms_stay : rooms_at new.servers cloud ≡ rooms_at old.servers cloud
    rooms_stay = elim (cases_eq cloud asked) [
      | inl same ↦ subst (λ (m : ℕ). rooms_at new.servers m ≡ rooms_at old.servers m) (sym same) rooms
      | inr ne ↦ ap rooms_of (rest.servers_stay cloud ne)
    ]

-- ---- a closed server

pub closed_serves : (server : Server) (cloud : Cloud) (p : Peer) → ¬ (IsOpen server.store) → ImagesNow cloud server.store.header (MaySettleAs p)
    → p.faults ≡ cloud.faults → p.armings ≡ cloud.armings → ((list : List Command) → MaySettleAs p list → IsWithin server.store.header.shape server.store.header.rooms list) → IsServing server cloud p
closed_serves server cloud p shut images faults armings within = record {
  stands = record { images = images; faults = faults; armings = armings };
  within = within;
  ready = λ is_open. absurd (shut is_open);
}

pub closed_stands : (servers : Servers) (cloud : ℕ) (rooms : UserRooms) (c : Cloud) (p : Peer) → cloud < servers.shape.n → ((server : Server) → server_at servers cloud ≡ Some server → IsClosedIn rooms server)
    → MayServe servers.shape cloud rooms c p → IsPeer servers.shape cloud c (server_at servers cloud) p
closed_stands servers cloud rooms c p lt closed may =
    let here = some_server servers cloud lt in
    let is = closed here.0 here.1 in
    let header : here.0.store.header ≡ header_of servers.shape rooms cloud = (servers.are_servers.each cloud here.0 here.1).header_is ∙ ap (λ (r : UserRooms). header_of servers.shape r cloud) is.rooms_are in
    record {
      faults = may.faults;
      armings = may.armings;
      serving = λ told. said_of (server_at servers cloud) here.0 (λ (s : Server). IsServing s c p) here.1
          (closed_serves here.0 c p is.shut (subst (λ (h : Header). ImagesNow c h (MaySettleAs p)) (sym header) (may.images told)) may.faults may.armings
          (λ list settles. subst (λ (h : Header). IsWithin h.shape h.rooms list) (sym header) (may.within told list settles)));
      sound = may.sound;
    }

-- what a crash leaves of a told cloud now
pub images_now : (servers : Servers) (cloud : ℕ) (c : Cloud) (p : Peer) → cloud < servers.shape.n → IsTrue c.told → IsPeer servers.shape cloud c (server_at servers cloud) p
    → ImagesNow c (header_at servers cloud) (MaySettleAs p)
images_now servers cloud c p lt told is =
    let here = some_server servers cloud lt in
    let serving = known_of (server_at servers cloud) here.0 (λ (s : Server). IsServing s c p) here.1 (is.serving told) in
    subst (λ (h : Header). ImagesNow c h (MaySettleAs p)) (header_is servers cloud here.0 here.1) serving.stands.images

-- ---- areas that stay

-- the peer with a cloud's counts
abbrev pub counted : Peer → Cloud → Peer
counted p cloud = record { list = p.list; pending = p.pending; faults = cloud.faults; armings = cloud.armings }

-- a server serves the peer that it served, over a cloud whose areas are as they were
abbrev pub ServesByAreas : Type 0
ServesByAreas = (server : Server) (old new : Cloud) (p : Peer) → new.told ≡ old.told → new.now ≡ old.now → IsServing server old p → IsServing server new (counted p new)
