-- What the lines do to a vault that bring no reply to a lane.
use Rattle.std.proofs.Common.{◌≡◌, ℕ, zero, suc, ◌+◌, ◌<◌, ◌≤◌, Bool, true, false, List, [], ◌∷◌, ◌++◌, map, length, Option, Some, None, refl, sym, ap, ◌∙◌, subst, inl, inr, ◌⊎◌, arith, append-nil}
use Rattle.std.proofs.lemmas.List.{length-append, length-map, map-append}
use Rattle.std.specs.Prelude.{IsTrue, IsSomeAnd, Result, Ok, Err, IfErr, OnErr, nat_lt}
use Rattle.std.specs.Bool.{MatchBool}
use Rattle.std.specs.List.{Contains}
use Rattle.std.proofs.lemmas.Bool.{lt-ltb, ltb-true}
use Rattle.recipe.specs.CdBase.ids.CloudNo.{CloudNo}
use Rattle.recipe.specs.CdBase.ids.UserId.{UserId}
use Rattle.recipe.specs.CdBase.ids.Version.{Version}
use Rattle.recipe.specs.CdBase.shape.Shape.{Shape}
use Rattle.session_model.specs.CdEdges.Causes.{Rose}
use Rattle.session_model.specs.CdEdges.Disk.{Areas, Cloud, Image, IsImage, LeavesOnly}
use Rattle.session_model.specs.CdEdges.Shelf.{Arms, HasFailed, KeepsCounts}
use Rattle.session_model.proofs.CdEdges.Moments.{at_end}
use Rattle.session_model.specs.CommitJournal.errors.OpenErr.{OpenErr}
use Rattle.session_model.specs.CommitJournal.errors.OpenErr.TheVariants as errors
use Rattle.session_model.specs.JournalStart.start.Header.{Header}
use Rattle.session_model.specs.CommitJournal.Openings.{OnFault}
use Rattle.deletions.specs.Messages.request.Request.{Request}
use Rattle.deletions.specs.Messages.Requests.{request_bytes}
use Rattle.session_model.specs.UserDedup.command.Command.{Command}
use Rattle.session_model.specs.UserDedup.Dedup.{FullRoom}
use Rattle.session_model.specs.UserDedup.Requests.{asked_at}
use Rattle.session_model.specs.UserDedup.Exec.{Peer, MaySettleAs, KeepsPeer, CountsOn}
use Rattle.session_model.specs.UserDedup.Link.{LeavesOthers, Talk, ReadsOneOf}
use Rattle.session_model.specs.CloudAreas.Peers.{StandsForSome, ImagesNow, ImagesSince}
use Rattle.session_model.specs.RestoreJob.Asking.{PeersOf, AreOnlyAsked, Leads, HasAskedClouds, is_lost, TellsAll}
use Rattle.session_model.specs.RestoreJob.Refusals.{Names, Causes}
use Rattle.session_model.specs.RestoreJob.error.RestoreErr.{RestoreErr}
use Rattle.session_model.specs.RestoreJob.error.RestoreErr.TheVariants as restore_errors
use Rattle.session_model.specs.SubsetRestore.Ends.{AnyEnds}
use Rattle.session_model.specs.SubsetRestore.Going.{sought}
use Rattle.session_model.specs.ShareServer.server.Server.{Server}
use Rattle.session_model.specs.ShareServer.Serving.{ReopensAs}
use Rattle.session_model.specs.UploadJob.Lanes.{LaneView, lanes_begun, request_at, IsAsked}
use Rattle.session_jobs.specs.LaneSteps.Reached.{IsReached}
use Rattle.session_model.specs.Rebuild.KeptFiles.Kept.{key_of}
use Rattle.session_model.specs.LocalLink.fate.Fate.{Fate}
use Rattle.session_model.specs.LocalLink.fate.Fate.TheVariants as fates
use Rattle.session_model.specs.LocalLink.fate.Fate.TheVariants.{Deliver}
use Rattle.session_model.specs.LocalLink.link.LocalLink.{LocalLink}
use Rattle.session_model.specs.LocalLink.servers.Servers.{Servers}
use Rattle.session_model.specs.LocalLink.Tells.{rooms_at, header_at, is_delivered, telling, StandsAt, LeavesRest}
use Rattle.session_model.specs.LocalLink.Calls.{Armed}
use Rattle.session_model.proofs.OfLocalLink.Passing.{read_images, read_others, read_same}
use Rattle.session_model.proofs.Parts.{put, put_here, put_other}
use Rattle.session_model.specs.Session.event.Event.TheVariants as events
use Rattle.session_model.specs.Session.Spelling.{AreSources}
use Rattle.session_model.specs.Transcript.line.Line.{Line}
use Rattle.session_model.specs.Transcript.line.Line.TheVariants as lines
use Rattle.session_model.specs.Transcript.news.News.TheVariants as news
use Rattle.session_model.specs.Vault.{Setting, JobState, Vault, new_job, lanes_of}
use Rattle.session_model.specs.Steps.{Moment, quiet, cloud_no, version_of, lose_lines, DropStep, IsGetLine, Gets, told_so, IsRestartLine, RestartStep, ReopensUntold, IsOpeningFault}
use Rattle.session_model.specs.Run.{IsListIn}
use Rattle.session_model.specs.Headline.{IsPartOf}
use Rattle.session_model.specs.Session.Texts.{text_of}
use Rattle.script_lines.specs.At.{LinkAt, IsAtVault, KeepsOtherClouds, header_in}
use Rattle.script_lines.specs.Does.{Images, Goes, IsLineCut}
use Rattle.script_lines.specs.Jobs.{job_lanes}
use Rattle.script_lines.specs.Dropping.{IsReplyDropped, Drops}
use Rattle.script_lines.proofs.Getting.{GetsIf, got_by}
use Rattle.script_lines.proofs.Walking.{views_are}
use Rattle.session_model.specs.ShareServer.Refusals.{IsNamedDamage}
use Rattle.script_lines.specs.Stepping.{IsOpeningLine}
use Rattle.script_lines.proofs.Going.{before_exec, now_by, moves, executes, listed, images_weaker, images_still, images_one, images_executed, header_is, asks_rooms}

-- ---- a new job

module _ {V : Type 0} (clouds : V → ℕ → Cloud) (s : Setting) where
  pub upload_goes : (link : LocalLink V) (jobs : List (List LaneView)) (v : Vault) (user : UserId) (path : List ℕ) (version : Version) (bytes : List ℕ) (lanes : List LaneView) (number : ℕ) → IsAtVault clouds s link jobs v
      → lanes ≡ lanes_begun link.servers.shape (version_of user path version bytes) → number ≡ length jobs + 1
      → Goes clouds s (events.Upload user path version bytes) link link (jobs ++ lanes ∷ []) v (lines.Job number ∷ [])
  upload_goes link jobs v user path version bytes lanes number is made counted = record {
    moments = quiet v.peers;
    after = record { peers = v.peers; jobs = v.jobs ++ new_job s (version_of user path version bytes) ∷ [] };
    is_at = record {
      link_at = is.link_at;
      jobs_are = map-append (λ (j : JobState). j.lanes) v.jobs (new_job s (version_of user path version bytes) ∷ [])
          ∙ ap (λ (l : List (List LaneView)). l ++ lanes_begun s.shape (version_of user path version bytes) ∷ []) is.jobs_are
          ∙ ap (λ (l : List LaneView). jobs ++ l ∷ []) (ap (λ (sh : Shape). lanes_begun sh (version_of user path version bytes)) (sym is.link_at.shape) ∙ sym made);
    };
    step = (ap (λ (n : ℕ). lines.Job n ∷ []) (counted ∙ ap (λ (n : ℕ). n + 1) (sym (ap length is.jobs_are) ∙ length-map v.jobs (λ (j : JobState). j.lanes))), refl, refl, refl);
    images = images_still clouds s link link v.peers (quiet v.peers) is.link_at refl;
  }

  -- the job that was made is the last of those that there are now
  pub upload_came : (link : LocalLink V) (jobs later : List (List LaneView)) (v : Vault) (user : UserId) (path : List ℕ) (version : Version) (bytes : List ℕ) (lanes : List LaneView) (number : ℕ) (shape : Shape) → IsAtVault clouds s link jobs v
      → shape ≡ link.servers.shape → lanes ≡ lanes_begun shape (version_of user path version bytes) → later ≡ jobs ++ lanes ∷ [] → number ≡ length later
      → Goes clouds s (events.Upload user path version bytes) link link later v (lines.Job number ∷ [])
  upload_came link jobs later v user path version bytes lanes number shape is same made put counted =
      subst (λ (l : List (List LaneView)). Goes clouds s (events.Upload user path version bytes) link link l v (lines.Job number ∷ [])) (sym put)
      (upload_goes link jobs v user path version bytes lanes number is (made ∙ ap (λ (sh : Shape). lanes_begun sh (version_of user path version bytes)) same) (counted ∙ ap length put ∙ length-append jobs (lanes ∷ [])))

-- ---- requests and replies that are lost

pub lost_text : (job cloud : ℕ) (asks : Option Request) (more : Bool) (before now was text : List ℕ) → IsAsked asks more before now
    → (IsTrue more → text ≡ was ++ text_of (lines.Lost job (cloud_no cloud) ∷ [])) → (more ≡ false → text ≡ was ++ text_of (lines.Step job (cloud_no cloud) news.Done ∷ []))
    → text ≡ was ++ text_of (lose_lines job cloud asks)
lost_text job cloud None more before now was text asked lost done = done asked.0
lost_text job cloud (Some request) more before now was text asked lost done = lost asked.0

module _ {V : Type 0} (clouds : V → ℕ → Cloud) (s : Setting) (job cloud : ℕ) where
  pub lose_goes : (link : LocalLink V) (jobs : List (List LaneView)) (v : Vault) → IsAtVault clouds s link jobs v
      → Goes clouds s (events.Lose job (cloud_no cloud)) link link jobs v (lose_lines job cloud (request_at (lanes_of v.jobs job) cloud))
  lose_goes link jobs v is = record {
    moments = quiet v.peers;
    after = v;
    is_at = is;
    step = (refl, refl, refl);
    images = images_still clouds s link link v.peers (quiet v.peers) is.link_at refl;
  }

  pub record DropGoes (asks : Option Request) (old new : LocalLink V) (jobs : List (List LaneView)) (v : Vault) : Type 0 where
    pub moments : List Moment
    pub after : Vault
    pub is_at : IsAtVault clouds s new jobs after
    pub step : DropStep s job cloud asks v (lose_lines job cloud asks) moments after
    pub images : Images clouds s old new moments after.peers

  drop_lane : (asks : Option Request) (more : Bool) (before content : List ℕ) (old new : LocalLink V) (jobs : List (List LaneView)) (v : Vault) → IsAtVault clouds s old jobs v → cloud < s.shape.n → IsAsked asks more before content
      → ((r : Request) → asks ≡ Some r → asked_at old.servers.shape (request_bytes r) ≡ Ok r) → Drops clouds cloud more content old new → DropGoes asks old new jobs v
  drop_lane None more before content old new jobs v is lt asked reads drops =
      let same : new ≡ old = subst (λ (b : Bool). Drops clouds cloud b content old new) asked.0 drops in
      record {
        moments = quiet v.peers;
        after = v;
        is_at = record { link_at = subst (λ (l : LocalLink V). LinkAt clouds s l v.peers) (sym same) is.link_at; jobs_are = is.jobs_are };
        step = (refl, refl, refl);
        images = images_still clouds s old new v.peers (quiet v.peers) is.link_at same;
      }
  drop_lane (Some r) more before content old new jobs v is lt asked reads drops =
      let x : IsReplyDropped clouds cloud content old new = subst (λ (b : Bool). Drops clouds cloud b content old new) asked.0 drops in
      let read : asked_at old.servers.shape content ≡ Ok r = subst (λ (l : List ℕ). asked_at old.servers.shape l ≡ Ok r) (sym asked.1) (reads r refl) in
      let went = x.goes r (v.peers cloud) read (is.link_at.stands cloud lt) in
      record {
        moments = before_exec v.peers cloud r went.1 ∷ [];
        after = record { peers = put v.peers cloud went.0; jobs = v.jobs };
        is_at = record { link_at = moves clouds s old new v.peers cloud went.0 is.link_at x.others x.rest x.rooms x.fate went.2; jobs_are = is.jobs_are };
        step = (went.1, executes clouds s old v.peers cloud r went.1 went.0 is.link_at lt went.3, refl, refl, refl);
        images = images_executed clouds s old new v.peers cloud r went.1 (put v.peers cloud went.0) is.link_at x.rest (λ told. x.images r (v.peers cloud) read told (is.link_at.stands cloud lt));
      }

  pub drop_goes : (more : Bool) (before content : List ℕ) (old new : LocalLink V) (jobs : List (List LaneView)) (v : Vault) → IsAtVault clouds s old jobs v → cloud < s.shape.n
      → IsAsked (request_at (lanes_of v.jobs job) cloud) more before content
      → ((r : Request) → request_at (lanes_of v.jobs job) cloud ≡ Some r → asked_at old.servers.shape (request_bytes r) ≡ Ok r) → Drops clouds cloud more content old new
      → Goes clouds s (events.Drop job (cloud_no cloud)) old new jobs v (lose_lines job cloud (request_at (lanes_of v.jobs job) cloud))
  drop_goes more before content old new jobs v is lt asked reads drops =
      let g = drop_lane (request_at (lanes_of v.jobs job) cloud) more before content old new jobs v is lt asked reads drops in
      record { moments = g.moments; after = g.after; is_at = g.is_at; step = g.step; images = g.images }

  pub drop_came : (more : Bool) (before content slice : List ℕ) (old new : LocalLink V) (jobs later : List (List LaneView)) (v : Vault) → IsAtVault clouds s old jobs v → cloud < s.shape.n
      → IsReached old.servers.shape (job_lanes jobs job) → IsAsked (request_at (job_lanes jobs job) cloud) more before content → slice ≡ content
      → ((shape : Shape) (lanes : List LaneView) (i : ℕ) (request : Request) → IsReached shape lanes → request_at lanes i ≡ Some request → asked_at shape (request_bytes request) ≡ Ok request)
      → Drops clouds cloud more slice old new → later ≡ jobs → Goes clouds s (events.Drop job (cloud_no cloud)) old new later v (lose_lines job cloud (request_at (lanes_of v.jobs job) cloud))
  drop_came more before content slice old new jobs later v is lt reached asked sliced reads drops same =
      subst (λ (l : List (List LaneView)). Goes clouds s (events.Drop job (cloud_no cloud)) old new l v (lose_lines job cloud (request_at (lanes_of v.jobs job) cloud))) (sym same)
      (drop_goes more before content old new jobs v is lt (subst (λ (views : List LaneView). IsAsked (request_at views cloud) more before content) (sym views) asked)
      (λ r asks. reads old.servers.shape (lanes_of v.jobs job) cloud r (subst (IsReached old.servers.shape) (sym views) reached) asks)
      (subst (λ (l : List ℕ). Drops clouds cloud more l old new) sliced drops))
    where
      views : lanes_of v.jobs job ≡ job_lanes jobs job
      views = views_are v.jobs jobs job is.jobs_are

pub drop_framed : (asks : Option Request) (more : Bool) (before content slice : List ℕ) → slice ≡ content → IsAsked asks more before content → ((r : Request) → asks ≡ Some r → length (request_bytes r) ≤ 4194304) → IsTrue more → length slice ≤ 4194304
drop_framed None more before content slice sliced asked framed is = absurd (let e : true ≡ false = sym is ∙ asked.0 in cc)
drop_framed (Some r) more before content slice sliced asked framed is = subst (λ (l : List ℕ). length l ≤ 4194304) (sym (sliced ∙ asked.1)) (framed r refl)

-- ---- one cloud is armed

module _ {V : Type 0} (clouds : V → ℕ → Cloud) (s : Setting) where
  pub arm_goes : (old new : LocalLink V) (cloud : CloudNo) (calls keep : ℕ) (jobs : List (List LaneView)) (v : Vault) → cloud.0 < old.servers.shape.n
      → Arms (clouds old.shelf.now cloud.0) (clouds new.shelf.now cloud.0) calls keep
      → ((p : Peer) → StandsAt clouds old cloud.0 p → (q : Peer) × StandsAt clouds new cloud.0 q × Armed p q)
      → LeavesOthers (telling clouds) cloud.0 old new → LeavesRest clouds cloud.0 old new → new.servers ≡ old.servers → new.fate ≡ old.fate → IsAtVault clouds s old jobs v
      → Goes clouds s (events.Arm cloud calls keep) old new jobs v (lines.Armed cloud ∷ [])
  arm_goes old new cloud calls keep jobs v below arms armed others rest servers fate is =
      let lt : cloud.0 < s.shape.n = subst (λ (sh : Shape). cloud.0 < sh.n) is.link_at.shape below in
      let went = armed (v.peers cloud.0) (is.link_at.stands cloud.0 lt) in
      let last = put v.peers cloud.0 went.0 in
      record {
        moments = quiet v.peers;
        after = record { peers = last; jobs = v.jobs };
        is_at = record { link_at = moves clouds s old new v.peers cloud.0 went.0 is.link_at others rest (ap (λ (x : Servers). rooms_at x cloud.0) servers) (fate ∙ is.link_at.fate) went.1; jobs_are = is.jobs_are };
        step = (
          record {
            goes = subst (Armed (v.peers cloud.0)) (sym (put_here v.peers cloud.0 went.0)) went.2;
            others = put_other v.peers cloud.0 went.0;
          },
          refl,
          refl,
          refl,
        );
        images = images_one clouds s old new v.peers cloud.0 (record { peers = v.peers; event = None }) last is.link_at refl rest (λ below told. still cloud.0 (record { peers = v.peers; event = None }) last arms (now_by clouds s old v.peers is.link_at cloud.0 below told) refl);
      }
    where
      armed_only : (c d : Cloud) (P : Image → Type 0) → d.past ≡ c.past → d.now ≡ c.now → ((image : Image) → IsImage c.now image → P image) → LeavesOnly c d P
      armed_only c d P past now here = record {
        since = [];
        past = past ∙ sym (append-nil c.past);
        each = λ image left. elim left [
          | inl at ↦ here image (subst (λ (areas : Areas). IsImage areas image) now at)
          | inr none ↦ absurd none
        ];
      }

      still : (c : ℕ) (m : Moment) (last : ℕ → Peer) → Arms (clouds old.shelf.now c) (clouds new.shelf.now c) calls keep → ImagesNow (clouds old.shelf.now c) (header_in s c) (MaySettleAs (v.peers c)) → m.peers ≡ v.peers
          → ImagesSince (clouds old.shelf.now c) (clouds new.shelf.now c) (header_in s c) (IsListIn s c (m ∷ []) last)
      still c m last a now same = images_weaker clouds s old new c (MaySettleAs (v.peers c)) (IsListIn s c (m ∷ []) last)
          (λ list settles. listed clouds s c m [] last list (subst (λ (f : ℕ → Peer). MaySettleAs (f c) list) (sym same) settles))
          (armed_only (clouds old.shelf.now c) (clouds new.shelf.now c) (StandsForSome (header_in s c) (MaySettleAs (v.peers c))) a.past a.now now)

-- ---- a cloud is opened again

lists_for : List Command → Option Command → List (List Command)
lists_for list None = list ∷ []
lists_for list (Some command) = list ∷ (list ++ command ∷ []) ∷ []

listed_in : (held : List Command) (pending : Option Command) (list : List Command) → (list ≡ held) ⊎ IsSomeAnd pending (λ command. list ≡ held ++ command ∷ []) → Contains (lists_for held pending) list
unfolding lists_for
listed_in held None list (inl same) = (0, omega arith, sym same)
listed_in held None list (inr none) = absurd none
listed_in held (Some command) list (inl same) = (0, omega arith, sym same)
listed_in held (Some command) list (inr same) = (1, omega arith, sym same)

settles_in : (held : List Command) (pending : Option Command) (list : List Command) → Contains (lists_for held pending) list → (list ≡ held) ⊎ IsSomeAnd pending (λ command. list ≡ held ++ command ∷ [])
unfolding lists_for
settles_in held None list (zero, lt, same) = inl (sym same)
settles_in held None list (suc k, lt, same) = absurd (let l : suc k < 1 = lt in omega arith)
settles_in held (Some command) list (zero, lt, same) = inl (sym same)
settles_in held (Some command) list (suc zero, lt, same) = inr (sym same)
settles_in held (Some command) list (suc (suc k), lt, same) = absurd (let l : suc (suc k) < 2 = lt in omega arith)

on_opening : (cloud : ℕ) (result : Result ℕ OpenErr) (line : Line) → IsOpeningLine cloud result line → IsRestartLine cloud result line
on_opening cloud (Ok commands) line is = is
on_opening cloud (Err errors.Fault) line is = is
on_opening cloud (Err (errors.NotBegun len)) line is = (is.0, is.1, is.2)
on_opening cloud (Err (errors.Damaged at byte)) line is = (is.0, is.1, is.2)
on_opening cloud (Err (errors.OtherStore found asked place)) line is = (is.0, is.1, is.2)

-- the line of an opening that failed otherwise
pub damaged_line : (cloud : ℕ) (error : OpenErr) (at byte : ℕ) → (error ≡ errors.Fault → ⊥) → IsNamedDamage error at byte → IsOpeningLine cloud (Err error) (lines.Damaged (cloud_no cloud) at byte)
damaged_line cloud errors.Fault at byte other is = absurd (other refl)
damaged_line cloud (errors.NotBegun len) at byte other is = (at, byte, refl, is)
damaged_line cloud (errors.Damaged place found) at byte other is = (at, byte, refl, is)
damaged_line cloud (errors.OtherStore found asked place) at byte other is = (at, byte, refl, is)

-- a fault comes only where the count rose
fault_rose : (result : Result ℕ OpenErr) (p q : Peer) (old new : Cloud) (before now : ℕ) → OnFault result (HasFailed old new before now) (KeepsCounts old new before now) → p.faults ≡ old.faults → q.faults ≡ new.faults → IsOpeningFault result → Rose p.faults q.faults
fault_rose (Err errors.Fault) p q old new before now counts e f is = subst (λ (n : ℕ). Rose n q.faults) (sym e) (subst (λ (n : ℕ). Rose old.faults n) (sym f) counts.cloud)
fault_rose (Ok commands) p q old new before now counts e f is = absurd is
fault_rose (Err (errors.NotBegun len)) p q old new before now counts e f is = absurd is
fault_rose (Err (errors.Damaged at byte)) p q old new before now counts e f is = absurd is
fault_rose (Err (errors.OtherStore found asked place)) p q old new before now counts e f is = absurd is

module _ {V : Type 0} (clouds : V → ℕ → Cloud) (s : Setting) (old new : LocalLink V) (cloud : ℕ) (result : Result ℕ OpenErr) where
  -- what an opening ensures
  pub record Opened (before now : ℕ) : Type 0 where
    pub peer : (p : Peer) → IsTrue (clouds old.shelf.now cloud).told → StandsAt clouds old cloud p → (q : Peer) × StandsAt clouds new cloud q × ReopensAs true p q result
    pub untold : (p : Peer) → (clouds old.shelf.now cloud).told ≡ false → StandsAt clouds old cloud p → (q : Peer) × StandsAt clouds new cloud q × KeepsPeer p q × CountsOn p q
    pub counts : OnFault result (HasFailed (clouds old.shelf.now cloud) (clouds new.shelf.now cloud) before now) (KeepsCounts (clouds old.shelf.now cloud) (clouds new.shelf.now cloud) before now)
    pub images : IsTrue (clouds old.shelf.now cloud).told → (lists : List (List Command)) → ImagesNow (clouds old.shelf.now cloud) (header_at old.servers cloud) (Contains lists)
        → ImagesSince (clouds old.shelf.now cloud) (clouds new.shelf.now cloud) (header_at old.servers cloud) (Contains lists)
    pub rooms : rooms_at new.servers cloud ≡ rooms_at old.servers cloud

  opens_to : (before now : ℕ) (peers : ℕ → Peer) → Opened before now → LinkAt clouds s old peers → cloud < s.shape.n → (line : Line) → IsOpeningLine cloud result line
      → (q : Peer) × StandsAt clouds new cloud q × RestartStep s cloud line (peers cloud) q
  opens_to before now peers o is lt line said = by_told (s.told cloud) refl
    where
      by_told : (b : Bool) → s.told cloud ≡ b → (q : Peer) × StandsAt clouds new cloud q × RestartStep s cloud line (peers cloud) q
      by_told true e =
          let went = o.peer (peers cloud) (is.told cloud ∙ e) (is.stands cloud lt) in
          (went.0, went.1, (result, on_opening cloud result line said, subst (λ (b : Bool). MatchBool b (ReopensAs true (peers cloud) went.0 result) (ReopensUntold result (peers cloud) went.0)) (sym e) went.2))
      by_told false e =
          let went = o.untold (peers cloud) (is.told cloud ∙ e) (is.stands cloud lt) in (
            went.0,
            went.1,
            (
              result,
              on_opening cloud result line said,
              subst (λ (b : Bool). MatchBool b (ReopensAs true (peers cloud) went.0 result) (ReopensUntold result (peers cloud) went.0)) (sym e) (record {
                stays = went.2;
                counts = went.3;
                fault = fault_rose result (peers cloud) went.0 (clouds old.shelf.now cloud) (clouds new.shelf.now cloud) before now o.counts (is.stands cloud lt).faults went.1.faults;
              }),
            ),
          )

  pub restart_goes : (before now : ℕ) (jobs : List (List LaneView)) (v : Vault) (line : Line) → Opened before now → LeavesOthers (telling clouds) cloud old new → LeavesRest clouds cloud old new → new.fate ≡ old.fate
      → IsOpeningLine cloud result line → IsAtVault clouds s old jobs v → cloud < old.servers.shape.n → Goes clouds s (events.Restart (cloud_no cloud)) old new jobs v (line ∷ [])
  restart_goes before now jobs v line o others rest fate said is below =
      let lt : cloud < s.shape.n = subst (λ (sh : Shape). cloud < sh.n) is.link_at.shape below in
      let went = opens_to before now v.peers o is.link_at lt line said in
      let last = put v.peers cloud went.0 in
      record {
        moments = quiet v.peers;
        after = record { peers = last; jobs = v.jobs };
        is_at = record { link_at = moves clouds s old new v.peers cloud went.0 is.link_at others rest o.rooms (fate ∙ is.link_at.fate) went.1; jobs_are = is.jobs_are };
        step = (
          line,
          record {
            goes = subst (RestartStep s cloud line (v.peers cloud)) (sym (put_here v.peers cloud went.0)) went.2;
            others = put_other v.peers cloud went.0;
          },
          refl,
          refl,
          refl,
        );
        images = images_one clouds s old new v.peers cloud (record { peers = v.peers; event = None }) last is.link_at refl rest (λ lt told. seen lt told last);
      }
    where
      seen : cloud < s.shape.n → IsTrue (s.told cloud) → (last : ℕ → Peer) → ImagesSince (clouds old.shelf.now cloud) (clouds new.shelf.now cloud) (header_in s cloud) (IsListIn s cloud (record { peers = v.peers; event = None } ∷ []) last)
      seen lt told last =
          let p = v.peers cloud in
          let lists = lists_for p.list p.pending in
          let run = o.images (is.link_at.told cloud ∙ told) lists in
          let by_header = subst (λ (h : Header). ImagesNow (clouds old.shelf.now cloud) h (Contains lists) → ImagesSince (clouds old.shelf.now cloud) (clouds new.shelf.now cloud) h (Contains lists))
          (header_is old.servers s cloud is.link_at.shape (is.link_at.rooms cloud lt)) run in
          images_weaker clouds s old new cloud (Contains lists) (IsListIn s cloud (record { peers = v.peers; event = None } ∷ []) last)
          (λ list has. listed clouds s cloud (record { peers = v.peers; event = None }) [] last list (settles_in p.list p.pending list has))
          (by_header (λ image at. let x = now_by clouds s old v.peers is.link_at cloud lt told image at in (x.0, listed_in p.list p.pending x.0 x.1, x.2)))

-- ---- a version is read

module _ {V : Type 0} (clouds : V → ℕ → Cloud) (old new : LocalLink V) (named : List ℕ) where
  within_at : (shape : Shape) → AreSources shape named → (c : ℕ) → Contains named c → c < shape.n
  within_at shape are c has = subst (λ (x : ℕ). x < shape.n) has.2 (are.within has.0 c has.1)

  pub get_leaves : (loss : Bool) → HasAskedClouds (telling clouds) named old new loss → AreSources old.servers.shape named → KeepsOtherClouds clouds old new
  get_leaves loss asked are = record {
    shape = asked.shape;
    told = λ c. ap (λ (f : ℕ → Bool). f c) asked.told;
    others = λ c le. read_others clouds named asked.asks old new c asked.passed (λ has. let lt = within_at old.servers.shape are c has in absurd (past c lt le));
  }
    where
      past : (c : ℕ) → c < old.servers.shape.n → old.servers.shape.n ≤ c → ⊥
      past c lt le = omega arith

  pub get_same : (loss : Bool) → HasAskedClouds (telling clouds) named old new loss → new.shelf.ghost_name ≡ old.shelf.ghost_name
  get_same loss asked = read_same clouds named asked.asks old new asked.passed

  pub read_by : (talk : LocalLink V → ℕ → Talk → Type 0) (shape : Shape) (user : UserId) (path : List ℕ) (version : Version) (result : Result (Unit {0}) RestoreErr) (was file : List ℕ) → shape ≡ old.servers.shape → was ≡ []
      → old.fate ≡ Deliver → AnyEnds (telling clouds) talk (sought shape user path version named) old new was file result → OnErr result (file ≡ was)
      → Leads (telling clouds) named old new (Causes (telling clouds) old old.servers.shape user (key_of old.servers.shape path version) result) (GetsIf (sought old.servers.shape user path version named) result file)
  read_by talk shape user path version result was file same empty fate ends kept =
      got_by (telling clouds) talk (sought old.servers.shape user path version named) old new file result (ap is_delivered fate)
      (subst (λ (sh : Shape). AnyEnds (telling clouds) talk (sought sh user path version named) old new [] file result) same
      (subst (λ (l : List ℕ). AnyEnds (telling clouds) talk (sought shape user path version named) old new l file result) empty ends))
      (subst (λ (l : List ℕ). OnErr result (file ≡ l)) empty kept)

  -- want of memory has no line
  pub has_line : (result : Result (Unit {0}) RestoreErr) (file : List ℕ) (line : Line) → IsGetLine result file line → result ≡ Err restore_errors.NoMemory → ⊥
  has_line result file line is want =
      let x = subst (λ (r : Result (Unit {0}) RestoreErr). IsGetLine r file line) want is in
      let f : None ≡ Some x.0 = x.1 in cc

module _ {V : Type 0} (clouds : V → ℕ → Cloud) (s : Setting) (old new : LocalLink V) (named : List ℕ) (result : Result (Unit {0}) RestoreErr) where
  known_told : (peers : ℕ → Peer) → LinkAt clouds s old peers → (user : UserId) (key : _) (before after : ℕ → Peer) → Causes (telling clouds) old old.servers.shape user key result before after
      → Causes (told_so s.shape) s.told s.shape user key result before after
  known_told peers is user key before after causes = by_result result (by_shape causes)
    where
      by_shape : Causes (telling clouds) old old.servers.shape user key result before after → Causes (telling clouds) old s.shape user key result before after
      by_shape = subst (λ (sh : Shape). Causes (telling clouds) old sh user key result before after) is.shape

      told_back : (c : ℕ) → IsTrue (s.told c) → IsTrue (clouds old.shelf.now c).told
      told_back c told = is.told c ∙ told

      by_result : (r : Result (Unit {0}) RestoreErr) → Causes (telling clouds) old s.shape user key r before after → Causes (told_so s.shape) s.told s.shape user key r before after
      by_result (Ok u) causes = tt
      by_result (Err (restore_errors.Missing c)) causes = λ told. causes (told_back c.0 told)
      by_result (Err (restore_errors.Lost c)) causes = tt
      by_result (Err (restore_errors.CloudFault c)) causes = causes
      by_result (Err (restore_errors.CloudDamaged c at byte)) causes = sym (is.told c.0) ∙ causes
      by_result (Err (restore_errors.CloudRotten c one other)) causes = sym (is.told c.0) ∙ causes
      by_result (Err (restore_errors.CloudNoMemory c)) causes = sym (is.told c.0) ∙ causes
      by_result (Err (restore_errors.Strange c kind)) causes = sym (is.told c.0) ∙ causes
      by_result (Err (restore_errors.RecipesDiffer a b place)) causes = tt
      by_result (Err (restore_errors.ShareLength c secret found wanted)) causes = tt
      by_result (Err (restore_errors.BadShare c secret one other)) causes = sym (is.told c.0) ∙ causes
      by_result (Err (restore_errors.BadSecret secret one other)) causes = tt
      by_result (Err (restore_errors.BadPad secret at byte)) causes = tt
      by_result (Err restore_errors.NoMemory) causes = tt

  still_delivers : (fate : Fate) → IsTrue (is_delivered fate) → fate ≡ Deliver
  still_delivers fates.Deliver is = refl
  still_delivers fates.LoseRequest is = absurd (let e : false ≡ true = is in cc)
  still_delivers fates.LoseReply is = absurd (let e : false ≡ true = is in cc)

  -- what a restore ensures
  pub record Read (user : UserId) (path : List ℕ) (version : Version) (file : List ℕ) : Type 0 where
    pub restored : Leads (telling clouds) named old new (Causes (telling clouds) old old.servers.shape user (key_of old.servers.shape path version) result)
        (GetsIf (sought old.servers.shape user path version named) result file)
    pub asked : HasAskedClouds (telling clouds) named old new (is_lost result)
    pub named_so : IfErr result (Names (Contains named))

  module _ (user : UserId) (path : List ℕ) (version : Version) (file : List ℕ) (r : Read user path version file) (v : Vault) (is : LinkAt clouds s old v.peers) where
    shape_is : (x : Shape → Type 0) → x old.servers.shape → x s.shape
    shape_is x = subst x is.shape

    -- each image since the line began
    pub read_since : (c : ℕ) → c < s.shape.n → IsTrue (s.told c) → ImagesSince (clouds old.shelf.now c) (clouds new.shelf.now c) (header_in s c) (MaySettleAs (v.peers c))
    read_since c lt told =
        subst (λ (h : Header). ImagesSince (clouds old.shelf.now c) (clouds new.shelf.now c) h (MaySettleAs (v.peers c))) (header_is old.servers s c is.shape (is.rooms c lt))
        (read_images clouds named r.asked.asks old new c (v.peers c) r.asked.passed (subst (λ (sh : Shape). c < sh.n) (sym is.shape) lt) (is.told c ∙ told) (is.stands c lt))

    gone : AreSources old.servers.shape named → (after : ℕ → Peer) × PeersOf (telling clouds) new (λ c. nat_lt c old.servers.shape.n) after × AreOnlyAsked named v.peers after
        × Causes (telling clouds) old old.servers.shape user (key_of old.servers.shape path version) result v.peers after
        × (TellsAll (telling clouds) old named → GetsIf (sought old.servers.shape user path version named) result file v.peers after)
    gone are = r.restored (λ c. nat_lt c old.servers.shape.n) (λ c has. lt-ltb c old.servers.shape.n (within_at clouds old new named old.servers.shape are c has)) v.peers
        (λ c below. is.stands c (subst (λ (sh : Shape). c < sh.n) is.shape (ltb-true c old.servers.shape.n below)))

    pub get_goes : (jobs : List (List LaneView)) (line : Line) → AreSources old.servers.shape named → map (λ (j : JobState). j.lanes) v.jobs ≡ jobs → IsGetLine result file line
        → Goes clouds s (events.Get user path version named) old new jobs v (line ∷ [])
    get_goes jobs line are jobs_are said =
        let went = gone are in
        let kept = r.asked.lossless (ap is_delivered is.fate) in
        record {
          moments = quiet v.peers;
          after = record { peers = went.0; jobs = v.jobs };
          is_at = record {
            link_at = record {
              shape = r.asked.shape ∙ is.shape;
              told = λ c. ap (λ (f : ℕ → Bool). f c) r.asked.told ∙ is.told c;
              rooms = λ c lt. asks_rooms clouds (ReadsOneOf named) r.asked.asks old new r.asked.passed c ∙ is.rooms c lt;
              fate = still_delivers new.fate kept.1;
              stands = λ c lt. went.1 c (lt-ltb c old.servers.shape.n (subst (λ (sh : Shape). c < sh.n) (sym is.shape) lt));
            };
            jobs_are = jobs_are;
          };
          step = (
            line,
            record {
              result = result;
              file = file;
              line_is = said;
              found = kept.0;
              read = went.2;
              named = r.named_so;
              caused = known_told v.peers is user (key_of s.shape path version) v.peers went.0
                  (subst (λ (sh : Shape). Causes (telling clouds) old old.servers.shape user (key_of sh path version) result v.peers went.0) is.shape went.3);
              told = λ told. subst (λ (sh : Shape). Gets (sought sh user path version named) result file v.peers went.0) is.shape
                  (went.4 (λ c has. is.told c ∙ told c has) (has_line clouds old new named result file line said));
            },
            refl,
            refl,
            refl,
          );
          images = λ c lt told. images_weaker clouds s old new c (MaySettleAs (v.peers c)) (IsListIn s c (quiet v.peers) went.0) (λ list settles. listed clouds s c (record { peers = v.peers; event = None }) [] went.0 list settles) (read_since c lt told);
        }

    pub get_cut : AreSources old.servers.shape named → IsPartOf s v (record { event = events.Get user path version named; moments = [] }) v.peers → IsLineCut clouds s (events.Get user path version named) old new v
    get_cut are part =
        let went = gone are in
        record {
          moments = [];
          last = v.peers;
          part = part;
          left = record {
            faults = λ c lt. let n = (went.2.read c).1.faults in let e = (stands_now went.0 went.1 c lt).faults in subst (λ (x : ℕ). (v.peers c).faults ≤ x) e n;
            armings = λ c lt. sym (went.2.read c).1.armings ∙ (stands_now went.0 went.1 c lt).armings;
            images = λ c lt told. at_end (clouds old.shelf.now c) (clouds new.shelf.now c) (StandsForSome (header_in s c) (MaySettleAs (v.peers c))) (read_since c lt told);
          };
          images = λ c lt told. images_weaker clouds s old new c (MaySettleAs (v.peers c)) (IsListIn s c [] v.peers) (λ list settles. inl settles) (read_since c lt told);
        }
      where
        stands_now : (after : ℕ → Peer) → PeersOf (telling clouds) new (λ c. nat_lt c old.servers.shape.n) after → (c : ℕ) → c < s.shape.n → StandsAt clouds new c (after c)
        stands_now after peers c lt = peers c (lt-ltb c old.servers.shape.n (subst (λ (sh : Shape). c < sh.n) (sym is.shape) lt))
