-- A line that was cut before it moved anything goes on by a fault.
use Rattle.std.proofs.Common.{◌≡◌, ℕ, ◌+◌, ◌-◌, ◌^◌, Bool, true, false, List, [], ◌∷◌, ◌++◌, length, min, Option, Some, None, refl, sym, subst, inl, inr, ◌⊎◌, arith}
use Rattle.std.specs.Prelude.{◌≢◌, Err}
use Rattle.std.specs.Bool.{MatchBool}
use Rattle.std.specs.List.{Contains, range_with_len}
use Rattle.std.proofs.lemmas.Bool.{cases_eq}
use Rattle.session.specs.CdBase.ids.CloudNo.{CloudNo}
use Rattle.session.specs.CdBase.ids.UserId.{UserId}
use Rattle.session.specs.CdBase.ids.Version.{Version}
use Rattle.session.specs.CdEdges.Causes.{Rose}
use Rattle.local_link.specs.CommitJournal.errors.OpenErr.TheVariants as errors
use Rattle.rebuild.specs.Messages.request.Request.{Request}
use Rattle.rebuild.specs.Messages.request.Request.TheVariants as requests
use Rattle.rebuild.specs.Messages.reply.Reply.TheVariants as replies
use Rattle.subset_restore.specs.UserDedup.Exec.{Peer, CountsOn}
use Rattle.subset_restore.proofs.UserDedup.Owned.{contains_here}
use Rattle.local_link.specs.ShareServer.Serving.{ReopensAs}
use Rattle.subset_restore.specs.RestoreJob.Asking.{MayRead}
use Rattle.subset_restore.specs.RestoreJob.error.RestoreErr.TheVariants as restore_errors
use Rattle.rebuild.specs.declared.error.RebuildErr.TheVariants as rebuild_errors
use Rattle.rebuild.specs.Found.{findings}
use Rattle.rebuild.specs.Rebuilding.{nothing_yet}
use Rattle.rebuild.proofs.Telling.{lanes_none}
use Rattle.rebuild.specs.UploadJob.news.LaneNews.TheVariants as lane_news
use Rattle.rebuild.specs.UploadJob.Lanes.{with_state}
use Rattle.rebuild.specs.LaneSteps.Runs.{moved, lane_at}
use Rattle.rebuild.specs.KeptFiles.Kept.{key_of}
use Rattle.local_link.specs.Calls.{Armed}
use Rattle.session.specs.Spelling.{FitsEvent, AreClouds}
use Rattle.session.specs.declared.event.Event.{Event}
use Rattle.session.specs.declared.event.Event.TheVariants as events
use Rattle.session.specs.Transcript.refusal.Refusal.{Refusal}
use Rattle.session.specs.Transcript.refusal.Refusal.TheVariants as refusals
use Rattle.session.specs.Transcript.line.Line.{Line}
use Rattle.session.specs.Transcript.line.Line.TheVariants as lines
use Rattle.session_model.specs.Vault.{Setting, Vault, new_job, lanes_of, with_lanes, OneGoes}
use Rattle.session_model.specs.Steps.{Execution, cloud_no, rebuild_moments, executed, quiet, no_step, step_line, stored_line, lose_lines, all_done, asked_by, version_of, LaneStep, DropStep, list_lines, ReopensUntold, RestartStep, ReplaceStep}
use Rattle.session_model.specs.Headline.{IsPartOf}
use Rattle.session_model.proofs.Seen.{first_finish}
use Rattle.session_model.proofs.Parts.{fault_of, put, put_here, put_other, news_fault, fails, finishes, comes, part_of_get}

-- nothing of the line has passed
abbrev pub IsUnmoved : Setting → Vault → Event → Type 0
IsUnmoved s old event = IsPartOf s old (record { event = event; moments = [] }) old.peers

armed_of : Peer → Peer
armed_of p = record { list = p.list; pending = p.pending; faults = p.faults; armings = min (p.armings + 1) (2 ^ 64 - 1) }

emptied : Peer → Peer
emptied p = record { list = []; pending = None; faults = p.faults + 1; armings = p.armings }

module _ (s : Setting) (old : Vault) where
  -- the cloud goes on so, and the others stay
  one_goes : (cloud : ℕ) (Goes : Peer → Peer → Type 0) (p : Peer) → Goes (old.peers cloud) p → OneGoes cloud Goes old.peers (put old.peers cloud p)
  one_goes cloud Goes p goes = record {
    goes = subst (Goes (old.peers cloud)) (sym (put_here old.peers cloud p)) goes;
    others = put_other old.peers cloud p;
  }

  part_of_upload : (user : UserId) (path : List ℕ) (version : Version) (bytes : List ℕ) → IsUnmoved s old (events.Upload user path version bytes)
  part_of_upload user path version bytes = (
    lines.Job (length old.jobs + 1) ∷ [],
    quiet old.peers,
    record { peers = old.peers; jobs = old.jobs ++ new_job s (version_of user path version bytes) ∷ [] },
    (refl, refl, refl, refl),
    refl,
  )

  -- the step of a lane that has this request, or none
  lane_fails : (job cloud : ℕ) (r : Option Request) → (answers : List Line) × (after : Vault) × (event : Option Execution) × LaneStep s job cloud r old answers (record { peers = old.peers; event = event } ∷ []) after
  lane_fails job cloud None = (no_step job cloud, old, None, (refl, refl, refl))
  lane_fails job cloud (Some request) =
      let views = lanes_of old.jobs job in
      let after = with_state views cloud (moved (lane_at views cloud) replies.Fault).state in (
        step_line job cloud lane_news.Fault ∷ stored_line job views after,
        record { peers = put old.peers cloud (fault_of (old.peers cloud)); jobs = with_lanes old.jobs job after },
        Some (record { cloud = cloud; request = request; reply = replies.Fault }),
        (
          replies.Fault,
          lane_news.Fault,
          after,
          fails s cloud old.peers request,
          refl,
          news_fault (lane_at views cloud).state,
          refl,
          refl,
          refl,
        ),
      )

  part_of_step : (job : ℕ) (lane : CloudNo) → IsUnmoved s old (events.Step job lane)
  part_of_step job lane =
      let x = lane_fails job lane.0 (asked_by old job lane.0) in
      (x.0, record { peers = old.peers; event = x.2 } ∷ [], x.1, x.3, refl)

  drop_fails : (job cloud : ℕ) (r : Option Request) → (answers : List Line) × (after : Vault) × (event : Option Execution) × DropStep s job cloud r old answers (record { peers = old.peers; event = event } ∷ []) after
  drop_fails job cloud None = (no_step job cloud, old, None, (refl, refl, refl))
  drop_fails job cloud (Some request) = (
    lines.Lost job (record { 0 = cloud }) ∷ [],
    record { peers = put old.peers cloud (fault_of (old.peers cloud)); jobs = old.jobs },
    Some (record { cloud = cloud; request = request; reply = replies.Fault }),
    (replies.Fault, fails s cloud old.peers request, refl, refl, refl),
  )

  part_of_drop : (job : ℕ) (lane : CloudNo) → IsUnmoved s old (events.Drop job lane)
  part_of_drop job lane =
      let x = drop_fails job lane.0 (asked_by old job lane.0) in
      (x.0, record { peers = old.peers; event = x.2 } ∷ [], x.1, x.3, refl)

  part_of_lose : (job : ℕ) (lane : CloudNo) → IsUnmoved s old (events.Lose job lane)
  part_of_lose job lane = (lose_lines job lane.0 (asked_by old job lane.0), quiet old.peers, old, (refl, refl, refl), refl)

  part_of_arm : (cloud : CloudNo) (calls keep : ℕ) → IsUnmoved s old (events.Arm cloud calls keep)
  unfolding armed_of
  part_of_arm cloud calls keep = (
    lines.Armed cloud ∷ [],
    quiet old.peers,
    record { peers = put old.peers cloud.0 (armed_of (old.peers cloud.0)); jobs = old.jobs },
    (
      one_goes cloud.0 Armed (armed_of (old.peers cloud.0)) (record { stays = record { list = refl; pending = refl }; faults = refl; armings = refl }),
      refl,
      refl,
      refl,
    ),
    refl,
  )

  part_of_restart : (cloud : CloudNo) → IsUnmoved s old (events.Restart cloud)
  unfolding fault_of
  part_of_restart cloud = (
    line ∷ [],
    quiet old.peers,
    record { peers = put old.peers cloud.0 (fault_of (old.peers cloud.0)); jobs = old.jobs },
    (
      line,
      one_goes cloud.0 (RestartStep s cloud.0 line) (fault_of (old.peers cloud.0)) (Err errors.Fault, refl, by_told (s.told cloud.0) (old.peers cloud.0)),
      refl,
      refl,
      refl,
    ),
    refl,
  )
    where
      line : Line
      line = lines.Fault cloud

      rose : (p : Peer) → Rose p.faults (fault_of p).faults
      rose p = let r : Rose p.faults (p.faults + 1) = omega arith in r

      by_told : (b : Bool) (p : Peer) → MatchBool b (ReopensAs true p (fault_of p) (Err errors.Fault)) (ReopensUntold (Err errors.Fault) p (fault_of p))
      by_told true p = (record { list = refl; pending = refl }, rose p, refl)
      by_told false p = record {
        stays = record { list = refl; pending = refl };
        counts = record { faults = omega arith; armings = refl };
        fault = λ is. rose p;
      }

  part_of_finish_begun : (job : ℕ) → IsUnmoved s old (events.Finish job)
  part_of_finish_begun job =
      let r = finishes s job (range_with_len 0 s.shape.n) old in (
        r.answers ++ lines.End job (all_done (lanes_of r.new.jobs job)) ∷ [],
        r.moments,
        r.new,
        (r.answers, r.lanes_run, refl),
        comes s r.moments old.peers r.new.peers (first_finish s job (range_with_len 0 s.shape.n) old r.answers r.moments r.new r.lanes_run),
      )

  -- the first page fails
  part_of_list : (user : UserId) (cloud : CloudNo) → IsUnmoved s old (events.List user cloud)
  part_of_list user cloud = (
    list_lines user cloud.0 (Err why),
    executed old.peers cloud.0 request replies.Fault ∷ [],
    record { peers = put old.peers cloud.0 (fault_of (old.peers cloud.0)); jobs = old.jobs },
    (
      record { before = old.peers; request = request; reply = replies.Fault } ∷ [],
      Err why,
      (
        refl,
        refl,
        (
          put old.peers cloud.0 (fault_of (old.peers cloud.0)),
          fails s cloud.0 old.peers request,
          inl ((why, refl, refl), refl, refl),
        ),
      ),
      refl,
      refl,
      refl,
    ),
    refl,
  )
    where
      why : Refusal
      why = refusals.Fault cloud

      request : Request
      request = requests.List user None

  -- the cloud is emptied, and its new store isn't begun
  part_of_replace : (cloud : CloudNo) → IsUnmoved s old (events.Replace cloud)
  unfolding emptied
  part_of_replace cloud = (
    line ∷ [],
    quiet old.peers,
    record { peers = put old.peers cloud.0 (emptied (old.peers cloud.0)); jobs = old.jobs },
    (
      line,
      one_goes cloud.0 (ReplaceStep s cloud.0 line) (emptied (old.peers cloud.0)) (record {
        list = refl;
        pending = refl;
        armings = refl;
        says = (refl, rose (old.peers cloud.0));
      }),
      refl,
      refl,
      refl,
    ),
    refl,
  )
    where
      line : Line
      line = lines.Fault cloud

      rose : (p : Peer) → Rose p.faults (emptied p).faults
      rose p = let r : Rose p.faults (p.faults + 1) = omega arith in r

  -- the first cloud fails at its first page
  part_of_rebuild_begun : (user : UserId) (target : CloudNo) (from : List ℕ) → AreClouds s.shape from → ¬ Contains from target.0 → IsUnmoved s old (events.Rebuild user target from)
  unfolding fault_of
  part_of_rebuild_begun user target [] are apart = absurd (let n : 0 ≡ s.shape.k = are.count in let m = s.shape.several in omega arith)
  part_of_rebuild_begun user target (cloud ∷ from) are apart = (
    lines.Refused why ∷ [],
    rebuild_moments old.peers target.0 [] (new target.0),
    record { peers = new; jobs = old.jobs },
    (
      record {
        result = Err (rebuild_errors.FromRestore (restore_errors.CloudFault (cloud_no cloud)));
        turns = [];
        lines_are = (why, refl, refl);
        moments_are = refl;
        found = refl;
        executes = stays_target;
        leaves = record {
          read = λ c ne. may c (cases_eq c cloud);
          others = λ c ne out. put_other old.peers cloud (fault_of (old.peers cloud)) c (λ same. out (subst (Contains (cloud ∷ from)) (sym same) (contains_here cloud from)));
          counts = subst (CountsOn (old.peers target.0)) (sym stays_target) (record { faults = omega arith; armings = refl });
        };
        named = (tt, contains_here cloud from);
        caused = rose;
        said = tt;
        ended = tt;
        own = lanes_none s.shape user target.0;
        told = λ told. (
          record {
            found = [];
            front = record { rest = findings s.shape (λ c. (new c).list) (cloud ∷ from) user; split = refl };
            last = nothing_yet;
            brings = (refl, refl, stays_target);
            ends = (refl, (contains_here cloud from, (rose, may cloud (inl refl))));
          },
          tt,
        );
      },
      refl,
    ),
    refl,
  )
    where
      why : Refusal
      why = refusals.Fault (cloud_no cloud)

      new : ℕ → Peer
      new = put old.peers cloud (fault_of (old.peers cloud))

      stays_target : new target.0 ≡ old.peers target.0
      stays_target = put_other old.peers cloud (fault_of (old.peers cloud)) target.0 (λ same. apart (subst (Contains (cloud ∷ from)) (sym same) (contains_here cloud from)))

      rose : Rose (old.peers cloud).faults (new cloud).faults
      rose = subst (λ (p : Peer). Rose (old.peers cloud).faults p.faults) (sym (put_here old.peers cloud (fault_of (old.peers cloud)))) (let r : Rose (old.peers cloud).faults ((old.peers cloud).faults + 1) = omega arith in r)

      may_fault : (p : Peer) → MayRead p (fault_of p)
      may_fault p = (inl (record { list = refl; pending = refl }), record { faults = omega arith; armings = refl })

      may_stay : (p : Peer) → MayRead p p
      may_stay p = (inl (record { list = refl; pending = refl }), record { faults = omega arith; armings = refl })

      may : (c : ℕ) → (c ≡ cloud) ⊎ (c ≢ cloud) → MayRead (old.peers c) (new c)
      may c (inl same) = subst (λ (n : ℕ). MayRead (old.peers n) (new n)) (sym same) (subst (MayRead (old.peers cloud)) (sym (put_here old.peers cloud (fault_of (old.peers cloud)))) (may_fault (old.peers cloud)))
      may c (inr ne) = subst (MayRead (old.peers c)) (sym (put_other old.peers cloud (fault_of (old.peers cloud)) c ne)) (may_stay (old.peers c))

  -- the deletion fails
  part_of_delete : (user : UserId) (path : List ℕ) (version : Version) (cloud : CloudNo) → IsUnmoved s old (events.Delete user path version cloud)
  part_of_delete user path version cloud = (
    lines.Fault cloud ∷ [],
    executed old.peers cloud.0 request replies.Fault ∷ [],
    record { peers = put old.peers cloud.0 (fault_of (old.peers cloud.0)); jobs = old.jobs },
    ((replies.Fault, lines.Fault cloud, fails s cloud.0 old.peers request, refl, refl, refl), refl),
    refl,
  )
    where
      request : Request
      request = requests.Delete user (key_of s.shape path version).0 version

  pub unmoved : (jobs : ℕ) (event : Event) → FitsEvent s.shape jobs event → IsUnmoved s old event
  unmoved jobs (events.Upload user path version bytes) fits = part_of_upload user path version bytes
  unmoved jobs (events.Step job lane) fits = part_of_step job lane
  unmoved jobs (events.Lose job lane) fits = part_of_lose job lane
  unmoved jobs (events.Drop job lane) fits = part_of_drop job lane
  unmoved jobs (events.Finish job) fits = part_of_finish_begun job
  unmoved jobs (events.Get user path version clouds) fits = part_of_get s old user path version clouds fits.1
  unmoved jobs (events.Arm cloud calls keep) fits = part_of_arm cloud calls keep
  unmoved jobs (events.Restart cloud) fits = part_of_restart cloud
  unmoved jobs (events.List user cloud) fits = part_of_list user cloud
  unmoved jobs (events.Replace cloud) fits = part_of_replace cloud
  unmoved jobs (events.Rebuild user target from) fits = part_of_rebuild_begun user target from fits.1.0 fits.1.1
  unmoved jobs (events.Delete user path version cloud) fits = part_of_delete user path version cloud
