-- What the calls beside an ask do to the peer that a cloud stands as.
use Rattle.std.proofs.Common.{◌≡◌, ℕ, ◌+◌, ◌-◌, ◌<◌, ◌≤◌, ◌^◌, Bool, true, false, List, [], ◌∷◌, ◌++◌, min, Option, Some, None, Result, Ok, Err, refl, sym, ap, ◌∙◌, subst, arith, inl, inr, ◌⊎◌}
use Rattle.std.specs.Prelude.{IsTrue, IsSomeAnd, IfOk, OnOk, OnErr}
use Rattle.std.specs.List.{Contains}
use Rattle.share_server.specs.CdBase.shape.Shape.{Shape}
use Rattle.share_server.specs.CdEdges.area.Area.{Area}
use Rattle.share_server.specs.CdEdges.area.Area.TheVariants.{Journal}
use Rattle.share_server.specs.CdEdges.stream.Failed.{Failed}
use Rattle.share_server.specs.CdEdges.Causes.{Rose}
use Rattle.share_server.specs.CdEdges.Disk.{Store, MayLeave, Cloud, Image, IsImage, reads}
use Rattle.share_server.specs.CdEdges.Shelf.{stable, IsCall, HasFailed, KeepsCounts, IsFresh, Refreshes, Arms}
use Rattle.share_server.specs.CdEdges.Shelf as shelves
use Rattle.share_server.proofs.CdEdges.Moments.{moved, stayed}
use Rattle.share_server.proofs.CdEdges.Torn.{only}
use Rattle.share_server.proofs.Openings.{NoneStands}
use Rattle.share_server.specs.JournalStart.rooms.UserRooms.{UserRooms}
use Rattle.share_server.specs.JournalStart.start.Header.{Header}
use Rattle.share_server.specs.CommitJournal.errors.OpenErr.{OpenErr}
use Rattle.share_server.specs.CommitJournal.errors.OpenErr.TheVariants as errors
use Rattle.share_server.specs.CommitJournal.Openings.{OnFault}
use Rattle.share_server.specs.UserDedup.command.Command.{Command}
use Rattle.share_server.specs.UserDedup.Cloud.{counted as number_in}
use Rattle.share_server.specs.UserDedup.Dedup.{IsSound, Begun}
use Rattle.share_server.specs.UserDedup.Exec.{Peer, MaySettleAs, Settles, KeepsPeer as PeerStays, CountsOn, StandsSound}
use Rattle.share_server.specs.UserDedup.Spending.{IsWithin}
use Rattle.share_server.specs.CloudAreas.Peers.{ImagesNow, ImagesSince}
use Rattle.share_server.specs.CloudAreas.Standing.{StandsFor}
use Rattle.share_server.specs.CloudMemory.Rooms.{memory_of}
use Rattle.share_server.specs.CloudOpening.Exact.{Opens}
use Rattle.share_server.specs.CloudOpening.Spared.{IsOkOrFault, MayBegin, Spares}
use Rattle.share_server.specs.CloudStore.Store.{IsOpen}
use Rattle.share_server.specs.Names.{HasNoJournal}
use Rattle.share_server.specs.Openings.{NotBegunIs, OtherStoreIs}
use Rattle.share_server.specs.declared.server.Server.{Server}
use Rattle.share_server.specs.Serving.{IsServing, ReopensAs, settled_with}
use Rattle.local_link.specs.declared.servers.Servers.{Servers}
use Rattle.local_link.specs.declared.link.LocalLink.{LocalLink}
use Rattle.local_link.specs.Tells.{server_at, header_at, rooms_at, IsPeer, LeavesRest}
use Rattle.local_link.specs.Steps.{HasPutServer, IsClosedIn, IsServerClosed, Reopens}
use Rattle.local_link.specs.Calls.{Replaces, Armed, WasBefore, no_commands, MayServe}
use Rattle.local_link.proofs.Standing.{header_put, here_now, there_now, said_of, known_of, closed_serves, closed_stands, counted, ServesByAreas}

-- ---- other rooms

pub rooms_serve : {E : Type 0} (r : Result (Unit {0}) E) (old new : Servers) (cloud : ℕ) (rooms : UserRooms) (c : Cloud) (p : Peer) → cloud < old.shape.n
    → OnOk r ((before : Server) × (after : Server) × HasPutServer old new cloud before after × IsClosedIn rooms after)
    → MayServe old.shape cloud rooms c p → OnOk r (IsPeer new.shape cloud c (server_at new cloud) p)
rooms_serve (Err e) old new cloud rooms c p lt put may = tt
rooms_serve (Ok u) old new cloud rooms c p lt put may =
    closed_stands new cloud rooms c p (subst (λ (s : Shape). cloud < s.n) (sym put.2.shape) lt) closed (subst (λ (s : Shape). MayServe s cloud rooms c p) (sym put.2.shape) may)
  where
    closed : (server : Server) → server_at new cloud ≡ Some server → IsClosedIn rooms server
    closed server is =
        let e : Some put.1 ≡ Some server = sym (here_now old new cloud put.0 put.1 put.2 lt) ∙ is in
        let same : put.1 ≡ server = cc in
        subst (IsClosedIn rooms) same put.3

pub rooms_rest : {E : Type 0} {V : Type 0} (r : Result (Unit {0}) E) (clouds : V → ℕ → Cloud) (cloud : ℕ) (rooms : UserRooms) (old new : LocalLink V) → new.shelf.now ≡ old.shelf.now
    → OnOk r ((before : Server) × (after : Server) × HasPutServer old.servers new.servers cloud before after × IsClosedIn rooms after) → OnErr r (new.servers ≡ old.servers) → LeavesRest clouds cloud old new
rooms_rest (Ok u) clouds cloud rooms old new shelf put err = record {
  clouds_stay = λ other ne. ap (λ v. clouds v other) shelf;
  servers_stay = there_now old.servers new.servers cloud put.0 put.1 put.2;
  shape_stays = put.2.shape;
  told_stays = λ n. ap (λ v. (clouds v n).told) shelf;
}
rooms_rest (Err e) clouds cloud rooms old new shelf put err = record {
  clouds_stay = λ other ne. ap (λ v. clouds v other) shelf;
  servers_stay = λ other ne. ap (λ (s : Servers). server_at s other) err;
  shape_stays = ap (λ (s : Servers). s.shape) err;
  told_stays = λ n. ap (λ v. (clouds v n).told) shelf;
}

-- ---- an opening

stays_sound : (shape : Shape) (cloud : ℕ) (p q : Peer) → PeerStays p q → StandsSound shape cloud p → StandsSound shape cloud q
stays_sound shape cloud p q stays sound list (inl same) = sound list (inl (same ∙ stays.list))
stays_sound shape cloud p q stays sound list (inr some) =
    sound list (inr (subst (λ (l : List Command). IsSomeAnd p.pending (λ command. list ≡ l ++ command ∷ [])) stays.list
    (subst (λ (o : Option Command). IsSomeAnd o (λ command. list ≡ q.list ++ command ∷ [])) stays.pending some)))

settled_sound : (shape : Shape) (cloud : ℕ) (p q : Peer) → Settles p q → StandsSound shape cloud p → StandsSound shape cloud q
settled_sound shape cloud p q settles sound list (inl same) = subst (IsSound shape cloud) (sym same) (sound q.list settles.list)
settled_sound shape cloud p q settles sound list (inr some) = absurd (subst (λ (o : Option Command). IsSomeAnd o (λ command. list ≡ q.list ++ command ∷ [])) settles.pending some)

opened_sound : (begin : Bool) (shape : Shape) (cloud : ℕ) (p q : Peer) (result : Result ℕ OpenErr) → ReopensAs begin p q result → StandsSound shape cloud p → StandsSound shape cloud q
opened_sound begin shape cloud p q (Ok commands) r sound = settled_sound shape cloud p q r.0 sound
opened_sound begin shape cloud p q (Err errors.Fault) r sound = stays_sound shape cloud p q r.0 sound
opened_sound begin shape cloud p q (Err (errors.NotBegun len)) r sound = subst (StandsSound shape cloud) (sym r.0) sound
opened_sound begin shape cloud p q (Err (errors.OtherStore found asked at)) r sound = absurd r
opened_sound begin shape cloud p q (Err (errors.Damaged at byte)) r sound = absurd r

stands_sound : (image : Image) (header : Header) (list : List Command) → StandsFor image header list → IsSound header.shape header.cloud.0 list
unfolding StandsFor
stands_sound image header list s = s.0

module _ (old_servers new_servers : Servers) (cloud : ℕ) (before after : Server) (put : HasPutServer old_servers new_servers cloud before after) (lt : cloud < old_servers.shape.n)
    (old new : ℕ → Cloud) (faults_before faults_now : ℕ) (begin : Bool) (result : Result ℕ OpenErr) (x : Reopens before after old new faults_before faults_now begin result) where
  h : before.store.header ≡ header_at old_servers cloud
  h = header_put old_servers new_servers cloud before after put

  here : server_at new_servers cloud ≡ Some after
  here = here_now old_servers new_servers cloud before after put lt

  pub reopens : (p : Peer) → IsTrue (old cloud).told → IsPeer old_servers.shape cloud (old cloud) (server_at old_servers cloud) p
      → (q : Peer) × IsPeer new_servers.shape cloud (new cloud) (server_at new_servers cloud) q × ReopensAs begin p q result
  reopens p told is =
      let P : Header → Type 0 = λ d. IsTrue (old d.cloud.0).told → IsServing before (old d.cloud.0) p → (q : Peer) × IsServing after (new d.cloud.0) q × ReopensAs begin p q result in
      let e = subst P h (x.peer p) told (known_of (server_at old_servers cloud) before (λ (s : Server). IsServing s (old cloud) p) put.here (is.serving told)) in (
        e.0,
        record {
          faults = e.1.stands.faults;
          armings = e.1.stands.armings;
          serving = λ t. said_of (server_at new_servers cloud) after (λ (s : Server). IsServing s (new cloud) e.0) here e.1;
          sound = λ t. subst (λ (s : Shape). StandsSound s cloud e.0) (sym put.shape) (opened_sound begin old_servers.shape cloud p e.0 result e.2 (is.sound told));
        },
        e.2,
      )

  pub whole_here : IsTrue (old cloud).told → (list : List Command) → StandsFor (reads (old cloud).now) (header_at old_servers cloud) list
      → IsWithin old_servers.shape (rooms_at old_servers cloud) list → MayBegin ((old cloud).now Journal).read begin → IsOkOrFault result
  whole_here =
      subst (λ (d : Header). IsTrue (old d.cloud.0).told → (list : List Command) → StandsFor (reads (old d.cloud.0).now) d list
      → IsWithin d.shape d.rooms list → MayBegin ((old d.cloud.0).now Journal).read begin → IsOkOrFault result) h x.whole

  pub loaded_here : IsTrue (old cloud).told → (list : List Command) → StandsFor (reads (old cloud).now) (header_at old_servers cloud) list
      → IsWithin old_servers.shape (rooms_at old_servers cloud) list
      → IfOk result (λ (commands : ℕ). (commands ≡ number_in list) × IsPeer new_servers.shape cloud (new cloud) (server_at new_servers cloud) (settled_with list (new cloud)))
  loaded_here told list stands within = by_result result (loads told list stands within)
    where
      loads : IsTrue (old cloud).told → (l : List Command) → StandsFor (reads (old cloud).now) (header_at old_servers cloud) l → IsWithin old_servers.shape (rooms_at old_servers cloud) l
          → IfOk result (λ (commands : ℕ). (commands ≡ number_in l) × IsServing after (new cloud) (settled_with l (new cloud)))
      loads =
          subst (λ (d : Header). IsTrue (old d.cloud.0).told → (l : List Command) → StandsFor (reads (old d.cloud.0).now) d l → IsWithin d.shape d.rooms l
          → IfOk result (λ (commands : ℕ). (commands ≡ number_in l) × IsServing after (new d.cloud.0) (settled_with l (new d.cloud.0)))) h x.loaded

      sound_one : (l : List Command) → MaySettleAs (settled_with list (new cloud)) l → IsSound old_servers.shape cloud l
      sound_one l (inl same) = subst (IsSound old_servers.shape cloud) (sym same) (stands_sound (reads (old cloud).now) (header_at old_servers cloud) list stands)
      sound_one l (inr none) = absurd none

      by_result : (r : Result ℕ OpenErr) → IfOk r (λ (commands : ℕ). (commands ≡ number_in list) × IsServing after (new cloud) (settled_with list (new cloud)))
          → IfOk r (λ (commands : ℕ). (commands ≡ number_in list) × IsPeer new_servers.shape cloud (new cloud) (server_at new_servers cloud) (settled_with list (new cloud)))
      by_result (Ok commands) e = (
        e.0,
        record {
          faults = refl;
          armings = refl;
          serving = λ t. said_of (server_at new_servers cloud) after (λ (s : Server). IsServing s (new cloud) (settled_with list (new cloud))) here e.1;
          sound = λ t. subst (λ (s : Shape). StandsSound s cloud (settled_with list (new cloud))) (sym put.shape) sound_one;
        },
      )
      by_result (Err e) y = tt

  pub opens_here : OnOk result (IsSomeAnd (server_at new_servers cloud) (λ (s : Server). IsOpen s.store))
  opens_here = on_ok_said result x.opens
    where
      on_ok_said : (r : Result ℕ OpenErr) → OnOk r (IsOpen after.store) → OnOk r (IsSomeAnd (server_at new_servers cloud) (λ (s : Server). IsOpen s.store))
      on_ok_said (Ok n) is_open = said_of (server_at new_servers cloud) after (λ (s : Server). IsOpen s.store) here is_open
      on_ok_said (Err e) is_open = tt

  pub shut_here : OnErr result (IsSomeAnd (server_at new_servers cloud) (λ (s : Server). ¬ (IsOpen s.store)))
  shut_here = on_err_said result x.shut
    where
      on_err_said : (r : Result ℕ OpenErr) → OnErr r (¬ (IsOpen after.store)) → OnErr r (IsSomeAnd (server_at new_servers cloud) (λ (s : Server). ¬ (IsOpen s.store)))
      on_err_said (Ok n) shut = tt
      on_err_said (Err e) shut = said_of (server_at new_servers cloud) after (λ (s : Server). ¬ (IsOpen s.store)) here shut

  pub counts_here : OnFault result (HasFailed (old cloud) (new cloud) faults_before faults_now) (KeepsCounts (old cloud) (new cloud) faults_before faults_now)
  counts_here =
      subst (λ (d : Header). OnFault result (HasFailed (old d.cloud.0) (new d.cloud.0) faults_before faults_now) (KeepsCounts (old d.cloud.0) (new d.cloud.0) faults_before faults_now)) h x.counts

  pub not_begun_here : IsTrue (old cloud).told → NotBegunIs (old cloud) (new cloud) begin result
  not_begun_here = subst (λ (d : Header). IsTrue (old d.cloud.0).told → NotBegunIs (old d.cloud.0) (new d.cloud.0) begin result) h x.not_begun

  pub exact_here : IsTrue (old cloud).told
      → IsSomeAnd (server_at new_servers cloud) (λ (s : Server). OnFault result (Unit {0}) (Opens (header_at old_servers cloud) begin (reads (old cloud).now) (memory_of s.store.memory) result))
  exact_here told =
      said_of (server_at new_servers cloud) after (λ (s : Server). OnFault result (Unit {0}) (Opens (header_at old_servers cloud) begin (reads (old cloud).now) (memory_of s.store.memory) result)) here
      (subst (λ (d : Header). IsTrue (old d.cloud.0).told → OnFault result (Unit {0}) (Opens d begin (reads (old d.cloud.0).now) (memory_of after.store.memory) result)) h x.exact told)

  pub other_here : IsTrue (old cloud).told → OtherStoreIs ((old cloud).now Journal).read (header_at old_servers cloud) result
  other_here = subst (λ (d : Header). IsTrue (old d.cloud.0).told → OtherStoreIs ((old d.cloud.0).now Journal).read d result) h x.other_store

  pub areas_here : IsTrue (old cloud).told → Spares (header_at old_servers cloud) begin (old cloud) (new cloud) result
  areas_here = subst (λ (d : Header). IsTrue (old d.cloud.0).told → Spares d begin (old d.cloud.0) (new d.cloud.0) result) h x.areas

  pub call_here : IsCall old new cloud faults_before faults_now
  call_here = subst (λ (d : Header). IsCall old new d.cloud.0 faults_before faults_now) h x.call

  pub untold_here : (p : Peer) → (old cloud).told ≡ false → IsPeer old_servers.shape cloud (old cloud) (server_at old_servers cloud) p
      → (q : Peer) × IsPeer new_servers.shape cloud (new cloud) (server_at new_servers cloud) q × PeerStays p q × CountsOn p q
  untold_here p untold is =
      let told : (new cloud).told ≡ (old cloud).told = call_here.told in
      let armings : (new cloud).armings ≡ (old cloud).armings = call_here.armings in
      let never : (A : Type 0) → IsTrue (new cloud).told → A = λ A t. absurd (let f : true ≡ false = sym t ∙ told ∙ untold in cc) in (
        counted p (new cloud),
        record { faults = refl; armings = refl; serving = λ t. never _ t; sound = λ t. never _ t },
        record { list = refl; pending = refl },
        record { faults = let f = is.faults in let l : (old cloud).faults ≤ (new cloud).faults = call_here.later in omega arith; armings = armings ∙ sym is.armings },
      )

  pub opened_images : IsTrue (old cloud).told → (lists : List (List Command)) → ImagesNow (old cloud) (header_at old_servers cloud) (Contains lists)
      → ImagesSince (old cloud) (new cloud) (header_at old_servers cloud) (Contains lists)
  opened_images =
      subst (λ (d : Header). IsTrue (old d.cloud.0).told → (lists : List (List Command)) → ImagesNow (old d.cloud.0) d (Contains lists)
      → ImagesSince (old d.cloud.0) (new d.cloud.0) d (Contains lists)) h x.images

-- ---- a replacement

stable_empty : (now : Store) (image : List ℕ) → now ≡ stable [] → MayLeave now image → image ≡ []
stable_empty now image e left = only [] image (subst (λ (s : Store). MayLeave s image) e left)

empty_images : (cloud : Cloud) → ((area : Area) → cloud.now area ≡ stable []) → (image : Image) → IsImage cloud.now image → (area : Area) → image area ≡ []
empty_images cloud now image left area = stable_empty (cloud.now area) (image area) (now area) (left area)

pub was_before : (old new : Cloud) (result : Result (Unit {0}) Failed) → Refreshes old new result → WasBefore old new
was_before old new (Ok u) r = moved old new (λ (image : Image). IsImage old.now image ⊎ ((area : Area) → image area ≡ [])) r.ok.past (λ image left. inl left) (λ image left. inr (empty_images new r.ok.now image left))
was_before old new (Err e) r = stayed old new (λ (image : Image). IsImage old.now image ⊎ ((area : Area) → image area ≡ [])) r.err (λ image left. inl left)

none_settles : (cloud : Cloud) (list : List Command) → MaySettleAs (no_commands cloud) list → list ≡ []
none_settles cloud list (inl same) = same
none_settles cloud list (inr none) = absurd none

none_sound : (shape : Shape) (number : ℕ) (cloud : Cloud) → StandsSound shape number (no_commands cloud)
none_sound shape number cloud list settles = subst (IsSound shape number) (sym (none_settles cloud list settles)) Begun

-- areas that are all empty stand for no commands, and these are within any rooms
abbrev pub EmptyStands : Type 0
EmptyStands = (image : Image) → ((area : Area) → image area ≡ []) → HasNoJournal image

abbrev pub NoneWithin : Type 0
NoneWithin = (shape : Shape) (rooms : UserRooms) → IsWithin shape rooms []

none_stands : EmptyStands → NoneStands → NoneWithin → (server : Server) (old new : Cloud) → ¬ (IsOpen server.store) → ((area : Area) → new.now area ≡ stable [])
    → new.faults ≡ old.faults → new.armings ≡ old.armings → IsServing server new (no_commands old)
none_stands unbegun none within server old new shut now faults armings = closed_serves server new (no_commands old) shut
    (λ image left. ([], inl refl, none image server.store.header (unbegun image (empty_images new now image left))))
    (sym faults) (sym armings)
    (λ list settles. subst (IsWithin server.store.header.shape server.store.header.rooms) (sym (none_settles old list settles)) (within server.store.header.shape server.store.header.rooms))

module _ (areas : ServesByAreas) (unbegun : EmptyStands) (none : NoneStands) (none_within : NoneWithin)
    (old_servers new_servers : Servers) (cloud : ℕ) (before after : Server) (put : HasPutServer old_servers new_servers cloud before after) (lt : cloud < old_servers.shape.n) (closes : IsServerClosed before after)
    (old new : Cloud) (faults_before faults_now : ℕ) where
  here_after : server_at new_servers cloud ≡ Some after
  here_after = here_now old_servers new_servers cloud before after put lt

  pub none_peer : (IsTrue old.told → IsFresh old new) → new.told ≡ old.told → new.faults ≡ old.faults → new.armings ≡ old.armings
      → IsPeer new_servers.shape cloud new (server_at new_servers cloud) (no_commands old)
  none_peer fresh told faults armings = record {
    faults = sym faults;
    armings = sym armings;
    serving = λ t. said_of (server_at new_servers cloud) after (λ (s : Server). IsServing s new (no_commands old)) here_after
        (none_stands unbegun none none_within after old new closes.shut (fresh (sym told ∙ t)).now faults armings);
    sound = λ t. none_sound new_servers.shape cloud old;
  }

  same_peer : (p : Peer) → (IsTrue old.told → shelves.Stays old new) → new.told ≡ old.told → new.armings ≡ old.armings → IsPeer old_servers.shape cloud old (server_at old_servers cloud) p
      → IsPeer new_servers.shape cloud new (server_at new_servers cloud) (counted p new)
  same_peer p stays told armings is = record {
    faults = refl;
    armings = refl;
    serving = λ t.
        let was : IsTrue old.told = sym told ∙ t in
        let serving = areas before old new p told (stays was).now (known_of (server_at old_servers cloud) before (λ (s : Server). IsServing s old p) put.here (is.serving was)) in
        said_of (server_at new_servers cloud) after (λ (s : Server). IsServing s new (counted p new)) here_after
        (closed_serves after new (counted p new) closes.shut (subst (λ (d : Header). ImagesNow new d (MaySettleAs p)) (sym closes.same) serving.stands.images) refl refl
        (λ list settles. subst (λ (d : Header). IsWithin d.shape d.rooms list) (sym closes.same) (serving.within list settles)));
    sound = λ t. subst (λ (s : Shape). StandsSound s cloud (counted p new)) (sym put.shape) (is.sound (sym told ∙ t));
  }

  rose_of : (p : Peer) → p.faults ≡ old.faults → Rose old.faults new.faults → Rose p.faults new.faults
  rose_of p same rose = subst (λ (n : ℕ). Rose n new.faults) (sym same) rose

  pub replaced : (result : Result (Unit {0}) Failed) → (IsTrue old.told → Refreshes old new result) → new.told ≡ old.told → new.armings ≡ old.armings
      → OnErr result (HasFailed old new faults_before faults_now) → OnOk result (KeepsCounts old new faults_before faults_now)
      → (p : Peer) → IsPeer old_servers.shape cloud old (server_at old_servers cloud) p → (q : Peer) × IsPeer new_servers.shape cloud new (server_at new_servers cloud) q × Replaces p q result
  replaced (Ok u) fresh told armings failed kept p is = (
    no_commands old,
    none_peer (λ t. (fresh t).ok) told kept.cloud armings,
    (refl, refl, sym is.faults, sym is.armings),
  )
  replaced (Err e) fresh told armings failed kept p is = (
    counted p new,
    same_peer p (λ t. (fresh t).err) told armings is,
    (record { list = refl; pending = refl }, rose_of p is.faults failed.cloud, armings ∙ sym is.armings),
  )

  pub freshened : (result : Result (Unit {0}) Failed) → (IsTrue old.told → Refreshes old new result) → new.told ≡ old.told → new.armings ≡ old.armings
      → OnOk result (KeepsCounts old new faults_before faults_now) → OnOk result (IsPeer new_servers.shape cloud new (server_at new_servers cloud) (no_commands old))
  freshened (Ok u) fresh told armings kept = none_peer (λ t. (fresh t).ok) told kept.cloud armings
  freshened (Err e) fresh told armings kept = tt

-- ---- an arming

some_map : {A : Type 0} (P Q : A → Type 0) (o : Option A) → ((x : A) → P x → Q x) → IsSomeAnd o P → IsSomeAnd o Q
some_map P Q (Some x) f p = f x p
some_map P Q None f p = p

pub armed : ServesByAreas → (shape : Shape) (cloud : ℕ) (server : Option Server) (old new : Cloud) (calls keep : ℕ) (p : Peer) → Arms old new calls keep → IsPeer shape cloud old server p
    → (q : Peer) × IsPeer shape cloud new server q × Armed p q
armed areas shape cloud server old new calls keep p arms is = (
  counted p new,
  record {
    faults = refl;
    armings = refl;
    serving = λ t. some_map (λ (s : Server). IsServing s old p) (λ (s : Server). IsServing s new (counted p new)) server (λ s serving. areas s old new p arms.told arms.now serving) (is.serving (sym arms.told ∙ t));
    sound = λ t. is.sound (sym arms.told ∙ t);
  },
  record {
    stays = record { list = refl; pending = refl };
    faults = arms.faults ∙ sym is.faults;
    armings = arms.armings ∙ ap (λ (n : ℕ). min (n + 1) (2 ^ 64 - 1)) (sym is.armings);
  },
)
