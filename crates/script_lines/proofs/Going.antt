-- A link at the clouds of a vault, and what one call on one cloud leaves of it.
use Rattle.std.proofs.Common.{◌≡◌, ℕ, ◌<◌, ◌≤◌, Bool, List, [], ◌∷◌, refl, sym, ap, ◌∙◌, subst, inl, inr, arith, append-nil}
use Rattle.std.specs.Prelude.{IsTrue, Option, Some}
use Rattle.std.proofs.lemmas.Bool.{cases_eq}
use Rattle.recipe.specs.CdBase.shape.Shape.{Shape}
use Rattle.session_model.specs.CdEdges.Disk.{Cloud}
use Rattle.session_model.proofs.CdEdges.Moments.{weaker, left_alone, started, at_end}
use Rattle.session_model.specs.JournalStart.start.Header.{Header}
use Rattle.session_model.specs.ShareServer.Names.{header_of}
use Rattle.deletions.specs.Messages.request.Request.{Request}
use Rattle.deletions.specs.Messages.reply.Reply.{Reply}
use Rattle.session_model.specs.UserDedup.command.Command.{Command}
use Rattle.session_model.specs.UserDedup.Dedup.{FullRoom, Outcome}
use Rattle.session_model.specs.UserDedup.Exec.{Peer, MaySettleAs, Exec, served}
use Rattle.session_model.specs.UserDedup.Spending.{full_for}
use Rattle.session_model.specs.UserDedup.Link.{LeavesOthers, Exchange, Passes}
use Rattle.session_model.proofs.UserDedup.Owned.{contains_here}
use Rattle.session_model.specs.CloudAreas.Peers.{StandsForSome, ImagesNow, ImagesSince, MayBecome}
use Rattle.session_model.specs.UploadJob.Lanes.{LaneView}
use Rattle.session_model.specs.LocalLink.fate.Fate.TheVariants.{Deliver}
use Rattle.session_model.specs.LocalLink.link.LocalLink.{LocalLink}
use Rattle.session_model.specs.LocalLink.servers.Servers.{Servers}
use Rattle.session_model.specs.LocalLink.Tells.{rooms_of, rooms_at, header_at, full_at, telling, serving_at, StandsAt, LeavesRest}
use Rattle.session_model.proofs.OfLocalLink.Passing.{read_images}
use Rattle.session_model.proofs.Parts.{put, put_here, put_other}
use Rattle.session_model.specs.Session.event.Event.{Event}
use Rattle.session_model.specs.Transcript.line.Line.{Line}
use Rattle.session_model.specs.Vault.{Setting, Vault, HasVaultExecuted, served_at}
use Rattle.session_model.specs.Steps.{Moment, VStep}
use Rattle.session_model.specs.Run.{IsListIn}
use Rattle.session_model.specs.Headline.{IsPartOf}
use Rattle.script_lines.specs.At.{header_in, LinkAt, IsAtVault, KeepsOtherClouds}
use Rattle.script_lines.specs.Does.{Images, Goes, IsLeftByCut, IsLineCut}

-- ---- clouds by number, one of which goes on

-- before a request that a cloud executes
abbrev pub before_exec : (ℕ → Peer) → ℕ → Request → Reply → Moment
before_exec peers cloud request reply = record { peers = peers; event = Some (record { cloud = cloud; request = request; reply = reply }) }

-- ---- the rooms and the headers

pub header_is : (servers : Servers) (s : Setting) (cloud : ℕ) → servers.shape ≡ s.shape → rooms_at servers cloud ≡ s.rooms → header_at servers cloud ≡ header_in s cloud
header_is servers s cloud shape rooms = λ i. header_of (shape i) (rooms i) cloud

pub full_is : (servers : Servers) (s : Setting) (cloud : ℕ) → servers.shape ≡ s.shape → rooms_at servers cloud ≡ s.rooms → full_at servers cloud ≡ full_for s.shape s.rooms
full_is servers s cloud shape rooms = λ i. full_for (shape i) (rooms i)

pub serves_is : {V : Type 0} (link : LocalLink V) (s : Setting) (cloud : ℕ) → link.servers.shape ≡ s.shape → rooms_at link.servers cloud ≡ s.rooms → serving_at link cloud ≡ served_at s cloud
serves_is link s cloud shape rooms = λ i. served (shape i) cloud (full_for (shape i) (rooms i))

module _ {V : Type 0} (clouds : V → ℕ → Cloud) where
  -- each cloud keeps its rooms where the one does that was called
  pub rooms_kept : (old new : LocalLink V) (cloud c : ℕ) → LeavesRest clouds cloud old new → rooms_at new.servers cloud ≡ rooms_at old.servers cloud → rooms_at new.servers c ≡ rooms_at old.servers c
  rooms_kept old new cloud c rest same = elim (cases_eq c cloud) [
    | inl e ↦ subst (λ (n : ℕ). rooms_at new.servers n ≡ rooms_at old.servers n) (sym e) same
    | inr ne ↦ ap rooms_of (rest.servers_stay c ne)
  ]

  pub header_kept : (old new : LocalLink V) (cloud c : ℕ) → LeavesRest clouds cloud old new → rooms_at new.servers cloud ≡ rooms_at old.servers cloud → header_at new.servers c ≡ header_at old.servers c
  header_kept old new cloud c rest same =
      let rooms : rooms_at new.servers c ≡ rooms_at old.servers c = rooms_kept old new cloud c rest same in
      λ i. header_of (rest.shape_stays i) (rooms i) c

  -- no ask changes the rooms of any cloud
  pub asks_rooms : (Is : Exchange → Type 0) (asks : List Exchange) (old new : LocalLink V) → Passes (telling clouds) Is old asks new → (c : ℕ) → rooms_at new.servers c ≡ rooms_at old.servers c
  asks_rooms Is [] old new same c = ap (λ (l : LocalLink V). rooms_at l.servers c) same
  asks_rooms Is (e ∷ es) old new chain c = asks_rooms Is es chain.1.0 new chain.1.2 c ∙ rooms_kept old chain.1.0 e.cloud c chain.1.1.rest chain.1.1.rooms

  pub leaves_rest : (old new : LocalLink V) (cloud : ℕ) → cloud < old.servers.shape.n → LeavesRest clouds cloud old new → KeepsOtherClouds clouds old new
  leaves_rest old new cloud below rest = record {
    shape = rest.shape_stays;
    told = rest.told_stays;
    others = λ c le. rest.clouds_stay c (λ same. absurd (past c same le));
  }
    where
      past : (c : ℕ) → c ≡ cloud → old.servers.shape.n ≤ c → ⊥
      past c same le = omega arith

  pub leaves_all : (old new : LocalLink V) → new ≡ old → KeepsOtherClouds clouds old new
  leaves_all old new same = record {
    shape = ap (λ (l : LocalLink V). l.servers.shape) same;
    told = λ c. ap (λ (l : LocalLink V). (clouds l.shelf.now c).told) same;
    others = λ c le. ap (λ (l : LocalLink V). clouds l.shelf.now c) same;
  }

  pub leaves_join : (old mid new : LocalLink V) → KeepsOtherClouds clouds old mid → KeepsOtherClouds clouds mid new → KeepsOtherClouds clouds old new
  leaves_join old mid new one two = record {
    shape = two.shape ∙ one.shape;
    told = λ c. two.told c ∙ one.told c;
    others = λ c le. two.others c (subst (λ (n : ℕ). n ≤ c) (sym (ap (λ (x : Shape). x.n) one.shape)) le) ∙ one.others c le;
  }

module _ {V : Type 0} (clouds : V → ℕ → Cloud) (s : Setting) where
  -- each image now stands for a list that the peer may settle as
  pub now_by : (link : LocalLink V) (peers : ℕ → Peer) → LinkAt clouds s link peers → (cloud : ℕ) → cloud < s.shape.n → IsTrue (s.told cloud)
      → ImagesNow (clouds link.shelf.now cloud) (header_in s cloud) (MaySettleAs (peers cloud))
  now_by link peers is cloud lt told =
      subst (λ (h : Header). ImagesNow (clouds link.shelf.now cloud) h (MaySettleAs (peers cloud))) (header_is link.servers s cloud is.shape (is.rooms cloud lt))
      (at_end (clouds link.shelf.now cloud) (clouds link.shelf.now cloud) (StandsForSome (header_at link.servers cloud) (MaySettleAs (peers cloud)))
      (read_images clouds [] [] link link cloud (peers cloud) refl (subst (λ (sh : Shape). cloud < sh.n) (sym is.shape) lt) (is.told cloud ∙ told) (is.stands cloud lt)))

  -- and so what is left of the clouds
  pub left_at : (link : LocalLink V) (peers : ℕ → Peer) → LinkAt clouds s link peers → IsLeftByCut clouds s link peers
  left_at link peers is = record {
    faults = λ cloud lt. let e = (is.stands cloud lt).faults in subst (λ (n : ℕ). n ≤ (clouds link.shelf.now cloud).faults) (sym e) (same_le (clouds link.shelf.now cloud).faults);
    armings = λ cloud lt. (is.stands cloud lt).armings;
    images = now_by link peers is;
  }
    where
      same_le : (n : ℕ) → n ≤ n
      same_le n = omega arith

  -- one cloud goes on, and the others stay
  pub moves : (old new : LocalLink V) (peers : ℕ → Peer) (cloud : ℕ) (q : Peer) → LinkAt clouds s old peers → LeavesOthers (telling clouds) cloud old new
      → LeavesRest clouds cloud old new → rooms_at new.servers cloud ≡ rooms_at old.servers cloud → new.fate ≡ Deliver → StandsAt clouds new cloud q → LinkAt clouds s new (put peers cloud q)
  moves old new peers cloud q is others rest same_rooms fate stands = record {
    shape = rest.shape_stays ∙ is.shape;
    told = λ c. rest.told_stays c ∙ is.told c;
    rooms = λ c lt. rooms_kept clouds old new cloud c rest same_rooms ∙ is.rooms c lt;
    fate = fate;
    stands = λ c lt. elim (cases_eq c cloud) [
      | inl same ↦ subst (λ (n : ℕ). StandsAt clouds new n (put peers cloud q n)) (sym same) (subst (StandsAt clouds new cloud) (sym (put_here peers cloud q)) stands)
      | inr ne ↦ subst (StandsAt clouds new c) (sym (put_other peers cloud q c ne)) (others.stands c (peers c) ne (is.stands c lt))
    ];
  }

  -- what the cloud of a link executes, in the session's words
  pub executes : (old : LocalLink V) (peers : ℕ → Peer) (cloud : ℕ) (request : Request) (reply : Reply) (q : Peer) → LinkAt clouds s old peers → cloud < s.shape.n
      → Exec old.servers.shape (clouds old.shelf.now cloud).told (serving_at old cloud) (peers cloud) request reply q
      → HasVaultExecuted s cloud peers request reply (put peers cloud q)
  executes old peers cloud request reply q is lt exec = record {
    does = subst (Exec s.shape (s.told cloud) (served_at s cloud) (peers cloud) request reply) (sym (put_here peers cloud q)) (by_rooms (by_told (by_shape exec)));
    others = put_other peers cloud q;
  }
    where
      full : List Command → Command → Option FullRoom
      full = full_at old.servers cloud

      by_shape : Exec old.servers.shape (clouds old.shelf.now cloud).told (serving_at old cloud) (peers cloud) request reply q
          → Exec s.shape (clouds old.shelf.now cloud).told (served s.shape cloud full) (peers cloud) request reply q
      by_shape = subst (λ (sh : Shape). Exec sh (clouds old.shelf.now cloud).told (served sh cloud full) (peers cloud) request reply q) is.shape

      by_told : Exec s.shape (clouds old.shelf.now cloud).told (served s.shape cloud full) (peers cloud) request reply q → Exec s.shape (s.told cloud) (served s.shape cloud full) (peers cloud) request reply q
      by_told = subst (λ (b : Bool). Exec s.shape b (served s.shape cloud full) (peers cloud) request reply q) (is.told cloud)

      by_rooms : Exec s.shape (s.told cloud) (served s.shape cloud full) (peers cloud) request reply q → Exec s.shape (s.told cloud) (served_at s cloud) (peers cloud) request reply q
      by_rooms = subst (λ (f : List Command → Command → Option FullRoom). Exec s.shape (s.told cloud) (served s.shape cloud f) (peers cloud) request reply q) (full_is old.servers s cloud is.shape (is.rooms cloud lt))

  -- ---- images

  -- a list that a cloud might have settled as at the one moment of a line
  pub listed : (cloud : ℕ) (m : Moment) (rest : List Moment) (last : ℕ → Peer) (list : List Command) → MaySettleAs (m.peers cloud) list → IsListIn s cloud (m ∷ rest) last list
  listed cloud m rest last list settles = inr (m, contains_here m rest, inl settles)

  pub images_weaker : (old new : LocalLink V) (cloud : ℕ) (P Q : List Command → Type 0) → ((list : List Command) → P list → Q list)
      → ImagesSince (clouds old.shelf.now cloud) (clouds new.shelf.now cloud) (header_in s cloud) P
      → ImagesSince (clouds old.shelf.now cloud) (clouds new.shelf.now cloud) (header_in s cloud) Q
  images_weaker old new cloud P Q less images =
      weaker (clouds old.shelf.now cloud) (clouds new.shelf.now cloud) (StandsForSome (header_in s cloud) P) (StandsForSome (header_in s cloud) Q) images
      (λ image some. (some.0, less some.0 some.1, some.2))

  -- nothing moved
  pub images_still : (old new : LocalLink V) (peers : ℕ → Peer) (moments : List Moment) → LinkAt clouds s old peers → new ≡ old → Images clouds s old new moments peers
  images_still old new peers moments is same cloud lt told =
      subst (λ (l : LocalLink V). ImagesSince (clouds old.shelf.now cloud) (clouds l.shelf.now cloud) (header_in s cloud) (IsListIn s cloud moments peers)) (sym same)
      (images_weaker old old cloud (MaySettleAs (peers cloud)) (IsListIn s cloud moments peers) (λ list settles. inl settles)
      (started (clouds old.shelf.now cloud) (StandsForSome (header_in s cloud) (MaySettleAs (peers cloud))) (now_by old peers is cloud lt told)))

  -- one cloud moved, at the one moment of a line
  pub images_one : (old new : LocalLink V) (peers : ℕ → Peer) (moved : ℕ) (m : Moment) (last : ℕ → Peer) → LinkAt clouds s old peers → m.peers ≡ peers → LeavesRest clouds moved old new
      → (moved < s.shape.n → IsTrue (s.told moved) → ImagesSince (clouds old.shelf.now moved) (clouds new.shelf.now moved) (header_in s moved) (IsListIn s moved (m ∷ []) last))
      → Images clouds s old new (m ∷ []) last
  images_one old new peers moved m last is same rest here cloud lt told = elim (cases_eq cloud moved) [
    | inl e ↦ subst (λ (n : ℕ). ImagesSince (clouds old.shelf.now n) (clouds new.shelf.now n) (header_in s n) (IsListIn s n (m ∷ []) last)) (sym e)
        (here (subst (λ (n : ℕ). n < s.shape.n) e lt) (subst (λ (n : ℕ). IsTrue (s.told n)) e told))
    | inr ne ↦ images_weaker old new cloud (MaySettleAs (peers cloud)) (IsListIn s cloud (m ∷ []) last)
        (λ list settles. listed cloud m [] last list (subst (λ (f : ℕ → Peer). MaySettleAs (f cloud) list) (sym same) settles))
        (left_alone (clouds old.shelf.now cloud) (clouds new.shelf.now cloud) (StandsForSome (header_in s cloud) (MaySettleAs (peers cloud))) (rest.clouds_stay cloud ne) (now_by old peers is cloud lt told))
  ]

  -- one cloud executed a request
  pub images_executed : (old new : LocalLink V) (peers : ℕ → Peer) (cloud : ℕ) (request : Request) (reply : Reply) (last : ℕ → Peer) → LinkAt clouds s old peers → LeavesRest clouds cloud old new
      → (IsTrue (clouds old.shelf.now cloud).told → ImagesSince (clouds old.shelf.now cloud) (clouds new.shelf.now cloud) (header_at old.servers cloud) (MayBecome (serving_at old cloud) (peers cloud) request))
      → Images clouds s old new (before_exec peers cloud request reply ∷ []) last
  images_executed old new peers cloud request reply last is rest images =
      images_one old new peers cloud m last is refl rest (λ lt told. images_weaker old new cloud (MayBecome (served_at s cloud) (peers cloud) request) (IsListIn s cloud (m ∷ []) last)
      (λ list become. inr (m, contains_here m [], inr (refl, become)))
      (by_serving lt (by_header lt (images (subst (λ (b : Bool). IsTrue b) (sym (is.told cloud)) told)))))
    where
      m : Moment
      m = before_exec peers cloud request reply

      by_header : cloud < s.shape.n → ImagesSince (clouds old.shelf.now cloud) (clouds new.shelf.now cloud) (header_at old.servers cloud) (MayBecome (serving_at old cloud) (peers cloud) request)
          → ImagesSince (clouds old.shelf.now cloud) (clouds new.shelf.now cloud) (header_in s cloud) (MayBecome (serving_at old cloud) (peers cloud) request)
      by_header lt = subst (λ (h : Header). ImagesSince (clouds old.shelf.now cloud) (clouds new.shelf.now cloud) h (MayBecome (serving_at old cloud) (peers cloud) request)) (header_is old.servers s cloud is.shape (is.rooms cloud lt))

      by_serving : cloud < s.shape.n → ImagesSince (clouds old.shelf.now cloud) (clouds new.shelf.now cloud) (header_in s cloud) (MayBecome (serving_at old cloud) (peers cloud) request)
          → ImagesSince (clouds old.shelf.now cloud) (clouds new.shelf.now cloud) (header_in s cloud) (MayBecome (served_at s cloud) (peers cloud) request)
      by_serving lt = subst (λ (f : List Command → Request → Outcome). ImagesSince (clouds old.shelf.now cloud) (clouds new.shelf.now cloud) (header_in s cloud) (MayBecome f (peers cloud) request)) (serves_is old s cloud is.shape (is.rooms cloud lt))

  -- ---- lines that were cut

  -- the whole line was carried out
  pub cut_behind : (event : Event) (old new : LocalLink V) (jobs : List (List LaneView)) (v : Vault) (answers : List Line) → Goes clouds s event old new jobs v answers → IsLineCut clouds s event old new v
  cut_behind event old new jobs v answers g = record {
    moments = g.moments;
    last = g.after.peers;
    part = (answers, [], g.after, subst (λ (l : List Moment). VStep s v event answers l g.after) (sym (append-nil g.moments)) g.step, refl);
    left = left_at new g.after.peers g.is_at.link_at;
    images = g.images;
  }

  -- nothing of it was
  pub cut_before : (event : Event) (old new : LocalLink V) (jobs : List (List LaneView)) (v : Vault) → IsAtVault clouds s old jobs v → new ≡ old
      → IsPartOf s v (record { event = event; moments = [] }) v.peers → IsLineCut clouds s event old new v
  cut_before event old new jobs v is same part = record {
    moments = [];
    last = v.peers;
    part = part;
    left = left_at new v.peers (subst (λ (l : LocalLink V). LinkAt clouds s l v.peers) (sym same) is.link_at);
    images = images_still old new v.peers [] is.link_at same;
  }
