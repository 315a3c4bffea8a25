-- A finish that was cut goes on by a fault of each lane that is left.
use Rattle.std.proofs.Common.{◌≡◌, ℕ, ◌+◌, Bool, true, false, cond, List, [], ◌∷◌, ◌++◌, map, length, All, Option, Some, None, refl, sym, ap, ◌∙◌, subst, inl, inr, ◌⊎◌, arith, append-nil, append_assoc, eq-eqb, eqb}
use Rattle.std.specs.Prelude.{◌≢◌}
use Rattle.std.specs.Bool.{MatchBool}
use Rattle.std.specs.List.{Contains, range_with_len}
use Rattle.std.specs.Prelude.{Err}
use Rattle.std.proofs.lemmas.Bool.{cases_eq, ne_eqb}
use Rattle.session.specs.CdBase.ids.UserId.{UserId}
use Rattle.session.specs.CdBase.ids.Version.{Version}
use Rattle.session.specs.CdEdges.Causes.{Rose}
use Rattle.subset_restore.specs.RestoreJob.Asking.{MayRead}
use Rattle.subset_restore.specs.RestoreJob.error.RestoreErr.TheVariants as restore_errors
use Rattle.session.specs.Transcript.refusal.Refusal.TheVariants as refusals
use Rattle.std.proofs.lemmas.List.{map-append}
use Rattle.std.proofs.lemmas.List.Elements.{Contains-append_left, Contains-append_right}
use Rattle.rebuild.specs.Messages.request.Request.{Request}
use Rattle.rebuild.specs.Messages.reply.Reply.TheVariants as replies
use Rattle.subset_restore.specs.UserDedup.command.Command.{Command}
use Rattle.subset_restore.specs.UserDedup.Exec.{Peer, MaySettleAs, Exec, ExecTold, ExecUntold}
use Rattle.subset_restore.proofs.UserDedup.Owned.{contains_here, contains_later, contains_nothing, contains_cases}
use Rattle.rebuild.specs.UploadJob.news.LaneNews.{LaneNews}
use Rattle.rebuild.specs.UploadJob.news.LaneNews.TheVariants as lane_news
use Rattle.rebuild.specs.UploadJob.Lane.{LaneState, Asking, Sending, Committing, Done, Refused, news_of}
use Rattle.rebuild.specs.UploadJob.Lanes.{with_state}
use Rattle.rebuild.specs.LaneSteps.Runs.{LaneTurn, Progress, starting, request_of, progress_after, LaneRun, LaneAlong, Tell, lane_at}
use Rattle.subset_restore.specs.Subsets.{subsets, IsSubset}
use Rattle.subset_restore.specs.Going.{sought}
use Rattle.subset_restore.proofs.Choices.{first_choice, only_choice}
use Rattle.subset_restore.proofs.Elements.{all_of, of_all}
use Rattle.session.specs.Spelling.{AreSources}
use Rattle.session.specs.declared.event.Event.{Event}
use Rattle.session.specs.declared.event.Event.TheVariants as events
use Rattle.session.specs.Transcript.line.Line.{Line}
use Rattle.session.specs.Transcript.line.Line.TheVariants as lines
use Rattle.session_model.specs.Vault.{Setting, Vault, HasVaultExecuted, served_at, lanes_of, with_lanes}
use Rattle.session_model.specs.Steps.{Moment, quiet, cloud_no, moment_of, step_line, stored_line, all_done, FinishLanes, NoneFrom, Gets, VStep}
use Rattle.session_model.specs.Run.{IsListIn}
use Rattle.session_model.specs.Headline.{Begun, ComesTo, IsPartOf}
use Rattle.session_model.specs.Cut.{FinishCut}
use Rattle.session_model.proofs.Ranged.{is_chosen}
use Rattle.session_model.proofs.Seen.{FirstIs, first_step, first_finish}

-- ---- moments

pub listed_later : (s : Setting) (c : ℕ) (before : List Moment) (old : Vault) (event : Event) (answers : List Line) (moments : List Moment) (new : Vault) → VStep s old event answers moments new
    → (list : List Command) → IsListIn s c before old.peers list → IsListIn s c (before ++ moments) new.peers list
listed_later s c before old event answers moments new step list (inr x) = inr (x.0, Contains-append_left before moments x.0 x.1, x.2)
listed_later s c before old event answers moments new step list (inl settles) = by_first (first_step s old event answers moments new step)
  where
    by_first : FirstIs old.peers moments new.peers → IsListIn s c (before ++ moments) new.peers list
    by_first (inl x) = inl (subst (λ (f : ℕ → Peer). MaySettleAs (f c) list) (sym x.1) settles)
    by_first (inr x) = inr (x.0, Contains-append_right before moments x.0 (subst (λ (l : List Moment). Contains l x.0) (sym x.2) (contains_here x.0 x.1)), inl (subst (λ (f : ℕ → Peer). MaySettleAs (f c) list) (sym x.3) settles))

pub listed_here : (s : Setting) (c : ℕ) (before moments : List Moment) (last : ℕ → Peer) (list : List Command) → IsListIn s c moments last list → IsListIn s c (before ++ moments) last list
listed_here s c before moments last list (inl settles) = inl settles
listed_here s c before moments last list (inr x) = inr (x.0, Contains-append_right before moments x.0 x.1, x.2)

-- a part of a line
pub listed_part : (s : Setting) (c : ℕ) (before : List Moment) (old : Vault) (b : Begun) (last : ℕ → Peer) → IsPartOf s old b last
    → (list : List Command) → IsListIn s c before old.peers list → IsListIn s c (before ++ b.moments) last list
listed_part s c before old b last is list (inr x) = inr (x.0, Contains-append_left before b.moments x.0 x.1, x.2)
listed_part s c before old b last is list (inl settles) =
    by_moments b.moments is.1 (first_step s old b.event is.0 (b.moments ++ is.1) is.2 is.3) is.4
  where
    by_moments : (moments rest : List Moment) → FirstIs old.peers (moments ++ rest) is.2.peers → ComesTo rest is.2.peers last
        → IsListIn s c (before ++ moments) last list
    by_moments [] [] (inl x) comes = inl (subst (λ (f : ℕ → Peer). MaySettleAs (f c) list) (sym (comes ∙ x.1)) settles)
    by_moments [] [] (inr x) comes = absurd (let f : [] ≡ x.0 ∷ x.1 = x.2 in cc)
    by_moments [] (m ∷ rest) (inl x) comes = absurd (let f : m ∷ rest ≡ [] = x.0 in cc)
    by_moments [] (m ∷ rest) (inr x) comes =
        let same : m ≡ x.0 = (let f : m ∷ rest ≡ x.0 ∷ x.1 = x.2 in cc) in
        inl (subst (λ (f : ℕ → Peer). MaySettleAs (f c) list) (sym (comes ∙ ap (λ (n : Moment). n.peers) same ∙ x.3)) settles)
    by_moments (m ∷ moments) rest (inl x) comes = absurd (let f : m ∷ (moments ++ rest) ≡ [] = x.0 in cc)
    by_moments (m ∷ moments) rest (inr x) comes =
        let same : m ≡ x.0 = (let f : m ∷ (moments ++ rest) ≡ x.0 ∷ x.1 = x.2 in cc) in
        inr (
          m,
          Contains-append_right before (m ∷ moments) m (contains_here m moments),
          inl (subst (λ (f : ℕ → Peer). MaySettleAs (f c) list) (sym (ap (λ (n : Moment). n.peers) same ∙ x.3)) settles),
        )

-- ---- one fault

unfoldable pub fault_of : Peer → Peer
fault_of p = record { list = p.list; pending = p.pending; faults = p.faults + 1; armings = p.armings }

pub put : (ℕ → Peer) → ℕ → Peer → ℕ → Peer
put peers cloud p x = cond (eqb x cloud) p (peers x)

pub put_here : (peers : ℕ → Peer) (cloud : ℕ) (p : Peer) → put peers cloud p cloud ≡ p
unfolding put
put_here peers cloud p = ap (λ (b : Bool). cond b p (peers cloud)) (eq-eqb cloud cloud refl)

pub put_other : (peers : ℕ → Peer) (cloud : ℕ) (p : Peer) (x : ℕ) → x ≢ cloud → put peers cloud p x ≡ peers x
unfolding put
put_other peers cloud p x ne = ap (λ (b : Bool). cond b p (peers x)) (ne_eqb x cloud ne)

pub news_fault : (state : LaneState) → news_of state replies.Fault ≡ Some lane_news.Fault
news_fault (Asking batch rest) = refl
news_fault (Sending batch flags rest) = refl
news_fault Committing = refl
news_fault Done = refl
news_fault Refused = refl

module _ (s : Setting) where
  pub exec_fault : (cloud : ℕ) (p : Peer) (request : Request) → Exec s.shape (s.told cloud) (served_at s cloud) p request replies.Fault (fault_of p)
  unfolding fault_of
  exec_fault cloud p request = record { counts = record { faults = omega arith; armings = refl }; does = by_told (s.told cloud) }
    where
      by_told : (b : Bool) → MatchBool b (ExecTold (served_at s cloud) p request replies.Fault (fault_of p)) (ExecUntold s.shape p request replies.Fault (fault_of p))
      by_told true = inr (record { reply_is = refl; rose = omega arith; left = inl (record { list = refl; pending = refl }) })
      by_told false = record { kind = tt; memory = λ e. cc; fault = λ e. omega arith; stays = record { list = refl; pending = refl } }

  pub fails : (cloud : ℕ) (peers : ℕ → Peer) (request : Request) → HasVaultExecuted s cloud peers request replies.Fault (put peers cloud (fault_of (peers cloud)))
  fails cloud peers request = record {
    does = subst (Exec s.shape (s.told cloud) (served_at s cloud) (peers cloud) request replies.Fault) (sym (put_here peers cloud (fault_of (peers cloud)))) (exec_fault cloud (peers cloud) request);
    others = put_other peers cloud (fault_of (peers cloud));
  }

  -- by one fault, where it may go on
  end_now : (cloud : ℕ) (p : Progress) (old : ℕ → Peer) → (turns : List (LaneTurn (ℕ → Peer))) × (at : Progress) × (news : List LaneNews) × (mid : ℕ → Peer)
      × LaneRun (HasVaultExecuted s cloud) p old turns at mid × Tell p.lane turns news × FirstIs old (map (moment_of cloud) turns) mid
  end_now cloud p old = by_stop p.stopped refl (request_of p.lane) refl
    where
      by_stop : (b : Bool) → p.stopped ≡ b → (r : Option Request) → request_of p.lane ≡ r → (turns : List (LaneTurn (ℕ → Peer))) × (at : Progress) × (news : List LaneNews) × (mid : ℕ → Peer)
          × LaneRun (HasVaultExecuted s cloud) p old turns at mid × Tell p.lane turns news × FirstIs old (map (moment_of cloud) turns) mid
      by_stop true e r asks = ([], p, [], old, (inl e, refl, refl), refl, inl (refl, refl))
      by_stop false e None asks = ([], p, [], old, (inr asks, refl, refl), refl, inl (refl, refl))
      by_stop false e (Some r) asks =
          let t : LaneTurn (ℕ → Peer) = record { before = old; request = r; reply = replies.Fault } in
          let mid = put old cloud (fault_of (old cloud)) in (
            t ∷ [],
            progress_after p replies.Fault,
            lane_news.Fault ∷ [],
            mid,
            (e, refl, asks, (mid, fails cloud old r, (inl refl, refl, refl))),
            (lane_news.Fault, [], news_fault p.lane.state, refl, refl),
            inr (moment_of cloud t, [], refl, refl),
          )

  -- a lane that has gone on for a while, and then to an end
  pub record Goes (cloud : ℕ) (p : Progress) (old : ℕ → Peer) (turns : List (LaneTurn (ℕ → Peer))) (last : ℕ → Peer) : Type 0 where
    pub more : List (LaneTurn (ℕ → Peer))
    pub at : Progress
    pub news : List LaneNews
    pub mid : ℕ → Peer
    pub run : LaneRun (HasVaultExecuted s cloud) p old (turns ++ more) at mid
    pub tell : Tell p.lane (turns ++ more) news
    pub first : FirstIs last (map (moment_of cloud) more) mid

  goes : (cloud : ℕ) (p : Progress) (old : ℕ → Peer) (turns : List (LaneTurn (ℕ → Peer))) (told : List LaneNews) (at : Progress) (last : ℕ → Peer) → LaneAlong (HasVaultExecuted s cloud) p old turns at last → Tell p.lane turns told → Goes cloud p old turns last
  goes cloud p old [] told at last along tell =
      let e = end_now cloud p old in
      record { more = e.0; at = e.1; news = e.2; mid = e.3; run = e.4; tell = e.5; first = subst (λ (f : ℕ → Peer). FirstIs f (map (moment_of cloud) e.0) e.3) (sym along.1) e.6 }
  goes cloud p old (t ∷ turns) told at last along tell =
      let r = goes cloud (progress_after p t.reply) along.3.0 turns tell.1 at last along.3.2 tell.3 in
      record { more = r.more; at = r.at; news = tell.0 ∷ r.news; mid = r.mid; run = (along.0, along.1, along.2, (along.3.0, along.3.1, r.run)); tell = (tell.0, r.news, tell.2, r.tell, refl); first = r.first }

  -- all lanes, each by one fault at most
  pub record Finishes (job : ℕ) (clouds : List ℕ) (old : Vault) : Type 0 where
    pub answers : List Line
    pub moments : List Moment
    pub new : Vault
    pub lanes_run : FinishLanes s job clouds old answers moments new

  lane_finishes : (job cloud : ℕ) (clouds : List ℕ) (old : Vault) (turns : List (LaneTurn (ℕ → Peer))) (at : Progress) (news : List LaneNews) (mid : ℕ → Peer) → LaneRun (HasVaultExecuted s cloud) (starting (lane_at (lanes_of old.jobs job) cloud)) old.peers turns at mid
      → Tell (lane_at (lanes_of old.jobs job) cloud) turns news → (rest : Finishes job clouds (record { peers = mid; jobs = with_lanes old.jobs job (with_state (lanes_of old.jobs job) cloud at.lane.state) }))
      → FinishLanes s job (cloud ∷ clouds) old (map (step_line job cloud) news ++ stored_line job (lanes_of old.jobs job) (with_state (lanes_of old.jobs job) cloud at.lane.state) ++ rest.answers) (map (moment_of cloud) turns ++ rest.moments) rest.new
  lane_finishes job cloud clouds old turns at news mid run tell rest = (
    turns,
    at,
    news,
    record { peers = mid; jobs = with_lanes old.jobs job (with_state (lanes_of old.jobs job) cloud at.lane.state) },
    with_state (lanes_of old.jobs job) cloud at.lane.state,
    rest.answers,
    rest.moments,
    run,
    tell,
    refl,
    refl,
    refl,
    refl,
    rest.lanes_run,
  )

  pub finishes : (job : ℕ) (clouds : List ℕ) (old : Vault) → Finishes job clouds old
  finishes job [] old = record { answers = []; moments = []; new = old; lanes_run = (refl, refl, refl) }
  finishes job (cloud ∷ clouds) old =
      let e = end_now cloud (starting (lane_at (lanes_of old.jobs job) cloud)) old.peers in
      let rest = finishes job clouds (record { peers = e.3; jobs = with_lanes old.jobs job (with_state (lanes_of old.jobs job) cloud e.1.lane.state) }) in
      record { answers = _; moments = _; new = rest.new; lanes_run = lane_finishes job cloud clouds old e.0 e.1 e.2 e.3 e.4 e.5 rest }

  -- the clouds are as at the next of these moments, or as they are left
  pub comes : (moments : List Moment) (old new : ℕ → Peer) → FirstIs old moments new → ComesTo moments new old
  comes [] old new (inl x) = sym x.1
  comes [] old new (inr x) = absurd (let f : [] ≡ x.0 ∷ x.1 = x.2 in cc)
  comes (m ∷ rest) old new (inl x) = absurd (let f : m ∷ rest ≡ [] = x.0 in cc)
  comes (m ∷ rest) old new (inr x) = sym x.3 ∙ ap (λ (n : Moment). n.peers) (let f : m ∷ rest ≡ x.0 ∷ x.1 = x.2 in let g : x.0 ≡ m = cc in g)

  first_both : (old : ℕ → Peer) (moments rest : List Moment) (mid new : ℕ → Peer) → FirstIs old moments mid → FirstIs mid rest new → FirstIs old (moments ++ rest) new
  first_both old moments rest mid new (inr x) two = inr (x.0, x.1 ++ rest, ap (λ (l : List Moment). l ++ rest) x.2, x.3)
  first_both old moments rest mid new (inl x) (inl y) = inl (ap (λ (l : List Moment). l ++ rest) x.0 ∙ y.0, y.1 ∙ x.1)
  first_both old moments rest mid new (inl x) (inr y) = inr (y.0, y.1, ap (λ (l : List Moment). l ++ rest) x.0 ∙ y.2, y.3 ∙ x.1)

  -- what is left of the lanes
  pub record Rest (job : ℕ) (clouds : List ℕ) (old : Vault) (moments : List Moment) (last : ℕ → Peer) : Type 0 where
    pub answers : List Line
    pub more : List Moment
    pub new : Vault
    pub lanes_run : FinishLanes s job clouds old answers (moments ++ more) new
    pub first : FirstIs last more new.peers

  rest_of : (job : ℕ) (clouds : List ℕ) (old : Vault) (moments : List Moment) (last : ℕ → Peer) → FinishCut s job clouds old moments last → Rest job clouds old moments last
  rest_of job [] old moments last f = record { answers = []; more = []; new = old; lanes_run = (refl, append-nil moments ∙ f.0, refl); first = inl (refl, sym f.1) }
  rest_of job (cloud ∷ clouds) old moments last f = by_where f.5 (λ at rest cut. rest_of job clouds (record { peers = f.3; jobs = with_lanes old.jobs job (with_state (lanes_of old.jobs job) cloud at.lane.state) }) rest last cut)
    where
      by_where : ((LaneAlong (HasVaultExecuted s cloud) (starting (lane_at (lanes_of old.jobs job) cloud)) old.peers f.0 f.1 f.3) × (moments ≡ map (moment_of cloud) f.0) × (last ≡ f.3))
          ⊎ ((LaneRun (HasVaultExecuted s cloud) (starting (lane_at (lanes_of old.jobs job) cloud)) old.peers f.0 f.1 f.3) × ((rest : List Moment) × (moments ≡ map (moment_of cloud) f.0 ++ rest) × FinishCut s job clouds (record { peers = f.3; jobs = with_lanes old.jobs job (with_state (lanes_of old.jobs job) cloud f.1.lane.state) }) rest last))
          → ((at : Progress) (rest : List Moment) → FinishCut s job clouds (record { peers = f.3; jobs = with_lanes old.jobs job (with_state (lanes_of old.jobs job) cloud at.lane.state) }) rest last
          → Rest job clouds (record { peers = f.3; jobs = with_lanes old.jobs job (with_state (lanes_of old.jobs job) cloud at.lane.state) }) rest last) → Rest job (cloud ∷ clouds) old moments last
      by_where (inl x) again =
          let g = goes cloud (starting (lane_at (lanes_of old.jobs job) cloud)) old.peers f.0 f.2 f.1 f.3 x.0 f.4 in
          let left : Vault = record { peers = g.mid; jobs = with_lanes old.jobs job (with_state (lanes_of old.jobs job) cloud g.at.lane.state) } in
          let rest = finishes job clouds left in
          let lines_of : List Line = map (step_line job cloud) g.news ++ stored_line job (lanes_of old.jobs job) (with_state (lanes_of old.jobs job) cloud g.at.lane.state) ++ rest.answers in
          record {
            answers = lines_of;
            more = map (moment_of cloud) g.more ++ rest.moments;
            new = rest.new;
            lanes_run = subst (λ (l : List Moment). FinishLanes s job (cloud ∷ clouds) old lines_of l rest.new)
                (ap (λ (l : List Moment). l ++ rest.moments) (map-append (moment_of cloud) f.0 g.more) ∙ append_assoc (map (moment_of cloud) f.0) (map (moment_of cloud) g.more) rest.moments ∙ ap (λ (l : List Moment). l ++ (map (moment_of cloud) g.more ++ rest.moments)) (sym x.1))
                (lane_finishes job cloud clouds old (f.0 ++ g.more) g.at g.news g.mid g.run g.tell rest);
            first = subst (λ (p : ℕ → Peer). FirstIs p (map (moment_of cloud) g.more ++ rest.moments) rest.new.peers) (sym x.2)
                (first_both f.3 (map (moment_of cloud) g.more) rest.moments g.mid rest.new.peers g.first (first_finish s job clouds left rest.answers rest.moments rest.new rest.lanes_run));
          }
      by_where (inr x) again =
          let rest = again f.1 x.1.0 x.1.2 in
          let lines_of : List Line = map (step_line job cloud) f.2 ++ stored_line job (lanes_of old.jobs job) (with_state (lanes_of old.jobs job) cloud f.1.lane.state) ++ rest.answers in
          record {
            answers = lines_of;
            more = rest.more;
            new = rest.new;
            lanes_run = subst (λ (l : List Moment). FinishLanes s job (cloud ∷ clouds) old lines_of l rest.new)
                (sym (append_assoc (map (moment_of cloud) f.0) x.1.0 rest.more) ∙ ap (λ (l : List Moment). l ++ rest.more) (sym x.1.1))
                (lane_finishes job cloud clouds old f.0 f.1 f.2 f.3 x.0 f.4 (record { answers = rest.answers; moments = x.1.0 ++ rest.more; new = rest.new; lanes_run = rest.lanes_run }));
            first = rest.first;
          }

  pub part_of_finish : (job : ℕ) (old : Vault) (moments : List Moment) (last : ℕ → Peer) → FinishCut s job (range_with_len 0 s.shape.n) old moments last
      → IsPartOf s old (record { event = events.Finish job; moments = moments }) last
  part_of_finish job old moments last cut =
      let r = rest_of job (range_with_len 0 s.shape.n) old moments last cut in
      (r.answers ++ lines.End job (all_done (lanes_of r.new.jobs job)) ∷ [], r.more, r.new, (r.answers, r.lanes_run, refl), comes r.more last r.new.peers r.first)

  -- ---- a get

  fault_rose : (p : Peer) → Rose p.faults (fault_of p).faults
  unfolding fault_of
  fault_rose p = let r : Rose p.faults (p.faults + 1) = omega arith in r

  may_fault : (p : Peer) → MayRead p (fault_of p)
  unfolding fault_of
  may_fault p = (inl (record { list = refl; pending = refl }), record { faults = omega arith; armings = refl })

  may_stay : (p : Peer) → MayRead p p
  may_stay p = (inl (record { list = refl; pending = refl }), record { faults = omega arith; armings = refl })

  -- these clouds fail
  abbrev faults_at : List ℕ → (ℕ → Peer) → ℕ → Peer
  faults_at [] peers = peers
  faults_at (cloud ∷ clouds) peers = put (faults_at clouds peers) cloud (fault_of (peers cloud))

  fails_at : (clouds : List ℕ) (peers : ℕ → Peer) (c : ℕ) → Contains clouds c → faults_at clouds peers c ≡ fault_of (peers c)
  fails_at [] peers c has = absurd (contains_nothing c has)
  fails_at (cloud ∷ clouds) peers c has = elim (cases_eq c cloud) [
    | inl same ↦ subst (λ (n : ℕ). put (faults_at clouds peers) cloud (fault_of (peers cloud)) n ≡ fault_of (peers n)) (sym same) (put_here (faults_at clouds peers) cloud (fault_of (peers cloud)))
    | inr ne ↦ put_other (faults_at clouds peers) cloud (fault_of (peers cloud)) c ne ∙ fails_at clouds peers c (behind ne (contains_cases cloud clouds c has))
  ]
    where
      behind : c ≢ cloud → (cloud ≡ c) ⊎ Contains clouds c → Contains clouds c
      behind ne (inl same) = absurd (ne (sym same))
      behind ne (inr later) = later

  stays_at : (clouds : List ℕ) (peers : ℕ → Peer) (c : ℕ) → (Contains clouds c → ⊥) → faults_at clouds peers c ≡ peers c
  stays_at [] peers c out = refl
  stays_at (cloud ∷ clouds) peers c out =
      put_other (faults_at clouds peers) cloud (fault_of (peers cloud)) c (λ same. out (subst (Contains (cloud ∷ clouds)) (sym same) (contains_here cloud clouds)))
      ∙ stays_at clouds peers c (λ later. out (contains_later cloud clouds c later))

  may_at : (clouds : List ℕ) (peers : ℕ → Peer) (c : ℕ) → MayRead (peers c) (faults_at clouds peers c)
  may_at [] peers c = may_stay (peers c)
  may_at (cloud ∷ clouds) peers c = elim (cases_eq c cloud) [
    | inl same ↦ subst (λ (n : ℕ). MayRead (peers n) (put (faults_at clouds peers) cloud (fault_of (peers cloud)) n)) (sym same)
        (subst (MayRead (peers cloud)) (sym (put_here (faults_at clouds peers) cloud (fault_of (peers cloud)))) (may_fault (peers cloud)))
    | inr ne ↦ subst (MayRead (peers c)) (sym (put_other (faults_at clouds peers) cloud (fault_of (peers cloud)) c ne)) (may_at clouds peers c)
  ]

  rose_at : (clouds : List ℕ) (peers : ℕ → Peer) (c : ℕ) → Contains clouds c → Rose (peers c).faults (faults_at clouds peers c).faults
  rose_at clouds peers c has = subst (λ (p : Peer). Rose (peers c).faults p.faults) (sym (fails_at clouds peers c has)) (fault_rose (peers c))

  -- A get that goes on by a fault of this cloud, where some clouds fail so that none gives the file.
  part_by_faults : (old : Vault) (user : UserId) (path : List ℕ) (version : Version) (clouds failing : List ℕ) (cloud : ℕ) → Contains clouds cloud → Contains failing cloud
      → ((c : ℕ) → Contains failing c → Contains clouds c)
      → Gets (sought s.shape user path version clouds) (Err (restore_errors.CloudFault (cloud_no cloud))) [] old.peers (faults_at failing old.peers)
      → IsPartOf s old (record { event = events.Get user path version clouds; moments = [] }) old.peers
  part_by_faults old user path version clouds failing cloud has fails within gets = (
    line ∷ [],
    quiet old.peers,
    record { peers = faults_at failing old.peers; jobs = old.jobs },
    (
      line,
      record {
        result = Err (restore_errors.CloudFault (cloud_no cloud));
        file = [];
        line_is = (refusals.Fault (cloud_no cloud), refl, refl);
        found = refl;
        read = record { read = may_at failing old.peers; others = λ c out. stays_at failing old.peers c (λ f. out (within c f)) };
        named = has;
        caused = rose_at failing old.peers cloud fails;
        told = λ told. gets;
      },
      refl,
      refl,
      refl,
    ),
    refl,
  )
    where
      line : Line
      line = lines.Refused (refusals.Fault (cloud_no cloud))

  -- the first choice has a cloud
  first_cloud : (clouds subset : List ℕ) → IsSubset s.shape.k clouds subset → (cloud : ℕ) × Contains subset cloud
  first_cloud clouds [] is = absurd (let n : 0 ≡ s.shape.k = is.count in let m = s.shape.several in omega arith)
  first_cloud clouds (cloud ∷ subset) is = (cloud, contains_here cloud subset)

  -- from more than k clouds each fails
  part_of_more : (old : Vault) (user : UserId) (path : List ℕ) (version : Version) (clouds : List ℕ) → AreSources s.shape clouds → length clouds ≢ s.shape.k
      → IsPartOf s old (record { event = events.Get user path version clouds; moments = [] }) old.peers
  part_of_more old user path version clouds are more =
      let first = first_choice s.shape.k clouds are.count in
      let is = is_chosen s.shape clouds first.0 are (subst (λ (l : List (List ℕ)). Contains l first.0) (sym first.2) (contains_here first.0 first.1)) in
      let some = first_cloud clouds first.0 is in
      let has = of_all (Contains clouds) first.0 some.0 is.among some.1 in
      part_by_faults old user path version clouds clouds some.0 has has (λ c f. f) (record {
        comes = record {
          first = first.0;
          rest = first.1;
          first_is = first.2;
          ends = (some.1, rose_at clouds old.peers some.0 has);
          none = all_of (NoneFrom (sought s.shape user path version clouds) old.peers (faults_at clouds old.peers)) (subsets s.shape.k clouds) (λ subset among. inr (none_of subset (is_chosen s.shape clouds subset are among)));
        };
        exact = λ none. absurd (none some.0 has (rose_at clouds old.peers some.0 has));
        just = λ few. absurd (more few);
      })
    where
      none_of : (subset : List ℕ) → IsSubset s.shape.k clouds subset → (c : ℕ) × Contains subset c × Rose (old.peers c).faults (faults_at clouds old.peers c).faults
      none_of subset is = let c = first_cloud clouds subset is in (c.0, c.1, rose_at clouds old.peers c.0 (of_all (Contains clouds) subset c.0 is.among c.1))

  -- from just k clouds the first fails
  part_of_just : (old : Vault) (user : UserId) (path : List ℕ) (version : Version) (clouds : List ℕ) → AreSources s.shape clouds → length clouds ≡ s.shape.k
      → IsPartOf s old (record { event = events.Get user path version clouds; moments = [] }) old.peers
  part_of_just old user path version [] are few = absurd (let n : 0 ≡ s.shape.k = few in let m = s.shape.several in omega arith)
  part_of_just old user path version (cloud ∷ clouds) are few =
      let has = contains_here cloud clouds in
      let fails = contains_here cloud [] in
      let all = only_choice s.shape.k (cloud ∷ clouds) few in
      let new = faults_at (cloud ∷ []) old.peers in
      let rose = rose_at (cloud ∷ []) old.peers cloud fails in
      part_by_faults old user path version (cloud ∷ clouds) (cloud ∷ []) cloud has fails (λ c f. here c f) (record {
        comes = record {
          first = cloud ∷ clouds;
          rest = [];
          first_is = all;
          ends = (has, rose);
          none = subst (All (NoneFrom (sought s.shape user path version (cloud ∷ clouds)) old.peers new)) (sym all)
              (all_of (NoneFrom (sought s.shape user path version (cloud ∷ clouds)) old.peers new) ((cloud ∷ clouds) ∷ []) (λ subset among. inr (cloud, only subset among, rose)));
        };
        exact = λ none. absurd (none cloud has rose);
        just = λ few. record {
          ends = (has, rose);
          read = inl (record {
            front = [];
            rest = clouds;
            split = refl;
            read = λ c has ne. absurd (contains_nothing c has);
            stops = (rose, may_at (cloud ∷ []) old.peers cloud);
            others = λ c out. stays_at (cloud ∷ []) old.peers c out;
          });
        };
      })
    where
      here : (c : ℕ) → Contains (cloud ∷ []) c → Contains (cloud ∷ clouds) c
      here c has = elim (contains_cases cloud [] c has) [
        | inl same ↦ subst (Contains (cloud ∷ clouds)) same (contains_here cloud clouds)
        | inr none ↦ absurd (contains_nothing c none)
      ]

      only : (subset : List ℕ) → Contains ((cloud ∷ clouds) ∷ []) subset → Contains subset cloud
      only subset has = elim (contains_cases (cloud ∷ clouds) [] subset has) [
        | inl same ↦ subst (λ (l : List ℕ). Contains l cloud) same (contains_here cloud clouds)
        | inr none ↦ absurd (contains_nothing subset none)
      ]

  pub part_of_get : (old : Vault) (user : UserId) (path : List ℕ) (version : Version) (clouds : List ℕ) → AreSources s.shape clouds
      → IsPartOf s old (record { event = events.Get user path version clouds; moments = [] }) old.peers
  part_of_get old user path version clouds are = elim (cases_eq (length clouds) s.shape.k) [
    | inl few ↦ part_of_just old user path version clouds are few
    | inr more ↦ part_of_more old user path version clouds are more
  ]
