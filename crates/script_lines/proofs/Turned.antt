-- The target of a rebuild over the servers of this process, request by request; and the clouds that are read between.
use Rattle.std.proofs.Common.{◌≡◌, ℕ, ◌<◌, Bool, List, [], ◌∷◌, Option, None, refl, sym, ap, ◌∙◌, subst, inl, inr, ◌⊎◌}
use Rattle.std.specs.Prelude.{◌≢◌, IfSome, IsTrue, Ok}
use Rattle.std.specs.List.{Contains}
use Rattle.std.proofs.lemmas.Bool.{cases_eq}
use Rattle.recipe.specs.CdBase.shape.Shape.{Shape}
use Rattle.session_model.specs.CdEdges.Disk.{Cloud}
use Rattle.session_model.proofs.CdEdges.Moments.{joined, weaker}
use Rattle.deletions.specs.Messages.request.Request.{Request}
use Rattle.deletions.specs.Messages.reply.Reply.{Reply}
use Rattle.deletions.specs.Messages.Replies.{IsReply}
use Rattle.session_model.specs.UserDedup.command.Command.{Command}
use Rattle.session_model.specs.UserDedup.Dedup.{FullRoom, Outcome}
use Rattle.session_model.specs.UserDedup.Exec.{Peer, MaySettleAs, KeepsPeer, CountsOn, Settles, Exec, served}
use Rattle.session_model.specs.UserDedup.Link.{Exchange, Talk, Passes, ReadsOneOf, Does, LosesAsk}
use Rattle.session_model.specs.UserDedup.Requests.{asked_at}
use Rattle.session_model.proofs.UserDedup.Asked.{asked_law}
use Rattle.session_model.proofs.UserDedup.Owned.{contains_here, contains_later}
use Rattle.session_model.specs.CloudAreas.Peers.{StandsForSome, ImagesSince, MayBecome}
use Rattle.session_model.specs.UserDedup.Spending.{full_for}
use Rattle.session_jobs.specs.LaneSteps.Runs.{LaneTurn}
use Rattle.session_model.specs.LocalLink.link.LocalLink.{LocalLink}
use Rattle.session_model.specs.LocalLink.Tells.{server_at, rooms_at, header_at, full_at, telling, serving_at, StandsAt, IsPeer, PassesOn}
use Rattle.session_model.proofs.OfLocalLink.Passing.{read_images, adds_none, has_recipe}
use Rattle.session_model.proofs.OfLocalLink.Standing.{peer_moves}
use Rattle.session_model.specs.RestoreJob.Asking.{MayRead}
use Rattle.session_model.specs.RestoreJob.error.RestoreErr.TheVariants as restore_errors
use Rattle.session_model.proofs.RestoreJob.Held.{lost_moves}
use Rattle.session_model.specs.Rebuild.Over.{TargetAlong, AsksTargetOrReads}
use Rattle.session_model.specs.Vault.{Setting, served_at, ExecutesAll}
use Rattle.session_model.proofs.Growing.{stays_in, settles_in}
use Rattle.script_lines.specs.At.{KeepsOtherClouds, header_in}
use Rattle.script_lines.proofs.Going.{leaves_rest, leaves_all, leaves_join, images_weaker, rooms_kept, header_kept, header_is, full_is, serves_is}
use Rattle.session_model.specs.JournalStart.start.Header.{Header}

-- ---- what is read adds nothing

pub may_in : (p q : Peer) → MayRead p q → (list : List Command) → MaySettleAs q list → MaySettleAs p list
may_in p q may = by_way may.0
  where
    by_way : KeepsPeer p q ⊎ Settles p q → (list : List Command) → MaySettleAs q list → MaySettleAs p list
    by_way (inl stays) = stays_in p q stays
    by_way (inr settles) = settles_in p q settles

module _ {V : Type 0} (clouds : V → ℕ → Cloud) where
  -- what stays over any asks
  pub asks_leave : (Is : Exchange → Type 0) (asks : List Exchange) (old new : LocalLink V) → Passes (telling clouds) Is old asks new → KeepsOtherClouds clouds old new × (new.shelf.ghost_name ≡ old.shelf.ghost_name)
  asks_leave Is [] old new same = (leaves_all clouds old new same, ap (λ (l : LocalLink V). l.shelf.ghost_name) same)
  asks_leave Is (e ∷ es) old new chain =
      let rest = asks_leave Is es chain.1.0 new chain.1.2 in
      (leaves_join clouds old chain.1.0 new (leaves_rest clouds old chain.1.0 e.cloud chain.1.1.reached chain.1.1.rest) rest.0, rest.1 ∙ chain.1.1.same_reference)

  -- the cloud that was read
  read_on : (from : List ℕ) (e : Exchange) (old mid : LocalLink V) (p : Peer) → ReadsOneOf from e → PassesOn clouds old e mid → StandsAt clouds old e.cloud p → (q : Peer) × StandsAt clouds mid e.cloud q × MayRead p q
  read_on from e old mid p reads step stands =
      let r : Request = reads.1.0 in
      let asked : asked_at old.servers.shape e.content ≡ Ok r = (asked_law old.servers.shape e.content r step.bytes).1 (record { asked = reads.1.1; recipe = has_recipe old.servers.shape r reads.1.2 }) in
      let x = lost_moves (telling clouds) e.cloud old mid r e.content (restore_errors.Lost (record { 0 = 0 })) (λ a b. Unit {0}) (λ a b. Unit {0})
      (λ list. adds_none old.servers.shape e.cloud (full_at old.servers e.cloud) list r reads.1.2) (λ a at. went a r (step.goes a r asked at)) (λ a b. tt) (λ a b. tt) p stands in
      (x.0, x.1, x.2)
    where
      -- whether a reply came or not
      went : (a : Peer) (r : Request) → (q : Peer) × StandsAt clouds mid e.cloud q × ((KeepsPeer a q × CountsOn a q × (e.reply ≡ None))
          ⊎ ((answer : Reply) × IfSome e.reply (λ (content : List ℕ). IsReply content answer)
          × Exec old.servers.shape (clouds old.shelf.now e.cloud).told (serving_at old e.cloud) a r answer q))
          → (q : Peer) × StandsAt clouds mid e.cloud q × LosesAsk (telling clouds) e.cloud old a r q
      went a r (q, is, inl stays) = (q, is, inl (stays.0, stays.1))
      went a r (q, is, inr heard) = (q, is, inr (heard.0, heard.2))

  module _ (target : ℕ) (from : List ℕ) where
    -- each image since then of a cloud that is read, or not asked
    pub asks_images : (asks : List Exchange) (old new : LocalLink V) (c : ℕ) (p : Peer) → c ≢ target → Passes (telling clouds) (AsksTargetOrReads target from) old asks new → c < old.servers.shape.n
        → IsTrue (clouds old.shelf.now c).told → StandsAt clouds old c p → ImagesSince (clouds old.shelf.now c) (clouds new.shelf.now c) (header_at old.servers c) (MaySettleAs p)
    asks_images [] old new c p ne same lt told is = read_images clouds [] [] old new c p same lt told is
    asks_images (e ∷ es) old new c p ne chain lt told is =
        by_cloud (cases_eq c e.cloud) chain.0 (λ q stands. asks_images es mid new c q ne chain.1.2 (subst (λ (s : Shape). c < s.n) (sym step.rest.shape_stays) lt) (subst (λ (b : Bool). IsTrue b) (sym (step.rest.told_stays c)) told) stands)
      where
        mid : LocalLink V
        mid = chain.1.0

        step : PassesOn clouds old e mid
        step = chain.1.1

        Rest : Type 0
        Rest = (q : Peer) → StandsAt clouds mid c q → ImagesSince (clouds mid.shelf.now c) (clouds new.shelf.now c) (header_at mid.servers c) (MaySettleAs q)

        at_old : (q : Peer) → ImagesSince (clouds mid.shelf.now c) (clouds new.shelf.now c) (header_at mid.servers c) (MaySettleAs q)
            → ImagesSince (clouds mid.shelf.now c) (clouds new.shelf.now c) (header_at old.servers c) (MaySettleAs q)
        at_old q = subst (λ (h : Header). ImagesSince (clouds mid.shelf.now c) (clouds new.shelf.now c) h (MaySettleAs q)) (header_kept clouds old mid e.cloud c step.rest step.rooms)

        alone : c ≢ e.cloud → ((q : Peer) → StandsAt clouds mid c q → ImagesSince (clouds mid.shelf.now c) (clouds new.shelf.now c) (header_at mid.servers c) (MaySettleAs q))
            → ImagesSince (clouds old.shelf.now c) (clouds new.shelf.now c) (header_at old.servers c) (MaySettleAs p)
        alone other rest =
            let here = step.rest.clouds_stay c other in
            let stands = subst (λ (s : Shape). IsPeer s c (clouds mid.shelf.now c) (server_at mid.servers c) p) (sym step.rest.shape_stays)
            (peer_moves old.servers.shape c (clouds old.shelf.now c) (clouds mid.shelf.now c) (server_at old.servers c) (server_at mid.servers c) p here (step.rest.servers_stay c other) is) in
            subst (λ (d : Cloud). ImagesSince d (clouds new.shelf.now c) (header_at old.servers c) (MaySettleAs p)) here (at_old p (rest p stands))

        read : c ≡ e.cloud → ReadsOneOf from e → ((q : Peer) → StandsAt clouds mid c q → ImagesSince (clouds mid.shelf.now c) (clouds new.shelf.now c) (header_at mid.servers c) (MaySettleAs q))
            → ImagesSince (clouds old.shelf.now c) (clouds new.shelf.now c) (header_at old.servers c) (MaySettleAs p)
        read same reads rest =
            let went = subst (λ (n : ℕ). StandsAt clouds old n p → (q : Peer) × StandsAt clouds mid n q × MayRead p q) (sym same) (read_on from e old mid p reads step) is in
            let since = at_old went.0 (rest went.0 went.1) in
            joined (clouds old.shelf.now c) (clouds mid.shelf.now c) (clouds new.shelf.now c) (StandsForSome (header_at old.servers c) (MaySettleAs p))
            (read_images clouds from (e ∷ []) old mid c p (reads, (mid, step, refl)) lt told is)
            (weaker (clouds mid.shelf.now c) (clouds new.shelf.now c) (StandsForSome (header_at old.servers c) (MaySettleAs went.0)) (StandsForSome (header_at old.servers c) (MaySettleAs p)) since
            (λ image some. (some.0, may_in p went.0 went.2 some.0 some.1, some.2)))

        by_cloud : (c ≡ e.cloud) ⊎ (c ≢ e.cloud) → AsksTargetOrReads target from e → ((q : Peer) → StandsAt clouds mid c q → ImagesSince (clouds mid.shelf.now c) (clouds new.shelf.now c) (header_at mid.servers c) (MaySettleAs q))
            → ImagesSince (clouds old.shelf.now c) (clouds new.shelf.now c) (header_at old.servers c) (MaySettleAs p)
        by_cloud (inr other) asks rest = alone other rest
        by_cloud (inl same) (inl at_target) rest = absurd (ne (same ∙ at_target))
        by_cloud (inl same) (inr reads) rest = read same reads rest

-- ---- the target

module _ {V : Type 0} (clouds : V → ℕ → Cloud) (talk : LocalLink V → ℕ → Talk → Type 0) (s : Setting) (target : ℕ) (from : List ℕ) (apart : Contains from target → ⊥) where
  -- the link has the setting's shape, tells of the target where the setting does, and serves it in the setting's rooms
  pub record TargetAt (link : LocalLink V) : Type 0 where
    pub shape : link.servers.shape ≡ s.shape
    pub told : (clouds link.shelf.now target).told ≡ s.told target
    pub rooms : rooms_at link.servers target ≡ s.rooms

  read_at : (asks : List Exchange) (old new : LocalLink V) → Passes (telling clouds) (ReadsOneOf from) old asks new → TargetAt old → TargetAt new
  read_at [] old new same at = subst TargetAt (sym same) at
  read_at (e ∷ es) old new chain at =
      let step = chain.1.1 in
      read_at es chain.1.0 new chain.1.2 (record {
        shape = step.rest.shape_stays ∙ at.shape;
        told = step.rest.told_stays target ∙ at.told;
        rooms = rooms_kept clouds old chain.1.0 e.cloud target step.rest step.rooms ∙ at.rooms;
      })

  asked_at_target : (e : Exchange) (old new : LocalLink V) → e.cloud ≡ target → PassesOn clouds old e new → TargetAt old → TargetAt new
  asked_at_target e old new same step at = record {
    shape = step.rest.shape_stays ∙ at.shape;
    told = step.rest.told_stays target ∙ at.told;
    rooms = rooms_kept clouds old new e.cloud target step.rest step.rooms ∙ at.rooms;
  }

  exec_at : (link : LocalLink V) (p : Peer) (request : Request) (reply : Reply) (q : Peer) → TargetAt link → Does (telling clouds) target link p request reply q → Exec s.shape (s.told target) (served_at s target) p request reply q
  exec_at link p request reply q at does =
      subst (λ (f : List Command → Command → Option FullRoom). Exec s.shape (s.told target) (served s.shape target f) p request reply q) (full_is link.servers s target at.shape at.rooms)
      (subst (λ (b : Bool). Exec s.shape b (served s.shape target (full_at link.servers target)) p request reply q) at.told
      (subst (λ (sh : Shape). Exec sh (clouds link.shelf.now target).told (served sh target (full_at link.servers target)) p request reply q) at.shape does))

  pub along_all : (old new : LocalLink V) (p : Peer) (turns : List (LaneTurn Peer)) (last : Peer) → TargetAlong (telling clouds) talk target from old p turns new last → TargetAt old → ExecutesAll s target p turns last
  along_all old new p [] last x at = x.2
  along_all old new p (t ∷ turns) last x at =
      let mid_at = read_at x.2.0 old x.0 x.2.1 at in (
        x.4,
        (
          x.6.0,
          exec_at x.0 p t.request t.reply x.6.0 mid_at x.6.2,
          along_all x.1 new x.6.0 turns last x.6.3 (asked_at_target _ x.0 x.1 refl x.5.passed.passes mid_at),
        ),
      )

  module _ (told : IsTrue (s.told target)) (lt : target < s.shape.n) where
    abbrev Since : LocalLink V → LocalLink V → (List Command → Type 0) → Type 0
    Since old new P = ImagesSince (clouds old.shelf.now target) (clouds new.shelf.now target) (header_in s target) P

    read_since : (asks : List Exchange) (old new : LocalLink V) (p : Peer) → Passes (telling clouds) (ReadsOneOf from) old asks new → TargetAt old → StandsAt clouds old target p → Since old new (MaySettleAs p)
    read_since asks old new p passes at stands =
        subst (λ (h : Header). ImagesSince (clouds old.shelf.now target) (clouds new.shelf.now target) h (MaySettleAs p)) (header_is old.servers s target at.shape at.rooms)
        (read_images clouds from asks old new target p passes (subst (λ (sh : Shape). target < sh.n) (sym at.shape) lt) (at.told ∙ told) stands)

    heard_since : (old new : LocalLink V) (p : Peer) (r : Request) → TargetAt old
        → ImagesSince (clouds old.shelf.now target) (clouds new.shelf.now target) (header_at old.servers target) (MayBecome (serving_at old target) p r) → Since old new (MayBecome (served_at s target) p r)
    heard_since old new p r at images =
        subst (λ (f : List Command → Request → Outcome). Since old new (MayBecome f p r)) (serves_is old s target at.shape at.rooms)
        (subst (λ (h : Header). ImagesSince (clouds old.shelf.now target) (clouds new.shelf.now target) h (MayBecome (serving_at old target) p r)) (header_is old.servers s target at.shape at.rooms) images)

    since_join : (old mid new : LocalLink V) (P : List Command → Type 0) → Since old mid P → Since mid new P → Since old new P
    since_join old mid new P one two = joined (clouds old.shelf.now target) (clouds mid.shelf.now target) (clouds new.shelf.now target) (StandsForSome (header_in s target) P) one two

    -- Each image since then stands for a list that the target might have settled as before some turn, or may settle as now, or for one
    -- with the command of a turn.
    pub along_since : (P : List Command → Type 0) (old new : LocalLink V) (p : Peer) (turns : List (LaneTurn Peer)) (last : Peer) → TargetAlong (telling clouds) talk target from old p turns new last
        → TargetAt old → StandsAt clouds old target p → ((list : List Command) → MaySettleAs last list → P list)
        → ((t : LaneTurn Peer) → Contains turns t → (list : List Command) → MaySettleAs t.before list ⊎ MayBecome (served_at s target) t.before t.request list → P list) → Since old new P
    along_since P old new p [] last x at stands end each =
        images_weaker clouds s old new target (MaySettleAs p) P (λ list settles. end list (subst (λ (a : Peer). MaySettleAs a list) (sym x.2) settles)) (read_since x.0.0 old new p x.0.1 at stands)
    along_since P old new p (t ∷ turns) last x at stands end each =
        let mid_at = read_at x.2.0 old x.0 x.2.1 at in
        let here = contains_here t turns in
        let heard = heard_since x.0 x.1 p t.request mid_at (x.5.passed.passes.images p t.request (mid_at.told ∙ told) x.3 x.5.passed.read) in
        since_join old x.0 new P
        (images_weaker clouds s old x.0 target (MaySettleAs p) P (λ list settles. each t here list (inl (subst (λ (a : Peer). MaySettleAs a list) (sym x.4) settles))) (read_since x.2.0 old x.0 p x.2.1 at stands))
        (since_join x.0 x.1 new P
        (images_weaker clouds s x.0 x.1 target (MayBecome (served_at s target) p t.request) P
        (λ list becomes. each t here list (inr (subst (λ (a : Peer). MayBecome (served_at s target) a t.request list) (sym x.4) becomes))) heard)
        (along_since P x.1 new x.6.0 turns last x.6.3 (asked_at_target _ x.0 x.1 refl x.5.passed.passes mid_at) x.6.1 end (λ u has. each u (contains_later t turns u has))))
