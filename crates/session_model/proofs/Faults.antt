-- An answer says that a device failed only where that cloud's count of faults rose.
use Rattle.std.proofs.Common.{◌≡◌, ℕ, zero, suc, ◌+◌, ◌-◌, ◌^◌, ◌<◌, ◌≤◌, Bool, true, false, List, [], ◌∷◌, ◌++◌, length, map, Option, Some, None, Result, Ok, Err, refl, sym, ap, ◌∙◌, subst, inl, inr, arith}
use Rattle.std.specs.Prelude.{slice_get, if◌then◌else◌}
use Rattle.std.specs.Bool.{MatchBool}
use Rattle.std.specs.List.{Contains, range_with_len}
use Rattle.std.proofs.lemmas.Bool.{cases_lt}
use Rattle.std.proofs.lemmas.List.Elements.{Contains-append_cases}
use Rattle.std.proofs.lemmas.Option.{same_Some}
use Rattle.session.specs.CdBase.ids.CloudNo.{CloudNo}
use Rattle.session.specs.CdBase.ids.Tag.{Tag}
use Rattle.session.specs.CdBase.ids.UserId.{UserId}
use Rattle.session.specs.CdBase.ids.Version.{Version}
use Rattle.session.specs.CdEdges.Causes.{Rose}
use Rattle.session.specs.CdEdges.Disk.{Cloud}
use Rattle.local_link.specs.CommitJournal.errors.OpenErr.{OpenErr}
use Rattle.local_link.specs.CommitJournal.errors.OpenErr.TheVariants as errors
use Rattle.rebuild.specs.Messages.request.Request.{Request}
use Rattle.rebuild.specs.Messages.request.Request.TheVariants as requests
use Rattle.rebuild.specs.Messages.reply.Reply.{Reply}
use Rattle.rebuild.specs.Messages.reply.Reply.TheVariants as replies
use Rattle.subset_restore.specs.UserDedup.command.Command.{Command}
use Rattle.subset_restore.specs.UserDedup.command.Command.TheVariants as commands
use Rattle.subset_restore.specs.UserDedup.file_list.FileEntry.{FileEntry}
use Rattle.subset_restore.specs.UserDedup.Cloud.{user_view}
use Rattle.subset_restore.specs.UserDedup.Dedup.{FullRoom, delete_outcome, by_room, unless_full}
use Rattle.subset_restore.specs.UserDedup.Pages.{page_of, entry_at}
use Rattle.subset_restore.specs.UserDedup.Exec.{Peer, ExecTold, ExecUntold}
use Rattle.subset_restore.proofs.UserDedup.Owned.{contains_cases, contains_nothing}
use Rattle.subset_restore.specs.UserDedup.Spending.{full_for}
use Rattle.local_link.specs.ShareServer.Serving.{ReopensAs}
use Rattle.rebuild.specs.UploadJob.news.LaneNews.{LaneNews}
use Rattle.rebuild.specs.UploadJob.news.LaneNews.TheVariants as lane_news
use Rattle.rebuild.specs.UploadJob.Lane.{lane_request}
use Rattle.rebuild.specs.UploadJob.Lanes.{LaneView}
use Rattle.rebuild.specs.UploadJob.Lanes as lanes
use Rattle.rebuild.specs.LaneSteps.Runs.{LaneTurn, Progress, LaneRun, Tell, lane_at, progress_after, starting}
use Rattle.subset_restore.specs.RestoreJob.Refusals.{Causes}
use Rattle.subset_restore.specs.RestoreJob.error.RestoreErr.{RestoreErr}
use Rattle.subset_restore.specs.RestoreJob.error.RestoreErr.TheVariants as restore_errors
use Rattle.rebuild.specs.declared.error.RebuildErr.{RebuildErr}
use Rattle.rebuild.specs.declared.error.RebuildErr.TheVariants as rebuild_errors
use Rattle.rebuild.specs.declared.skips.Rebuilt.{Rebuilt}
use Rattle.rebuild.specs.Over.{ReadCaused}
use Rattle.rebuild.specs.Over as rebuilding
use Rattle.rebuild.proofs.Turning.{fault_rose}
use Rattle.rebuild.proofs.Landing.{news_fault}
use Rattle.subset_restore.specs.Refusals.{refusal_of}
use Rattle.rebuild.specs.KeptFiles.Kept.{key_of}
use Rattle.session.specs.declared.event.Event.{Event}
use Rattle.session.specs.declared.event.Event.TheVariants as events
use Rattle.session.specs.Transcript.news.News.TheVariants as news
use Rattle.session.specs.Transcript.refusal.Refusal.{Refusal}
use Rattle.session.specs.Transcript.refusal.Refusal.TheVariants as refusals
use Rattle.session.specs.Transcript.refusal.TargetWhy.TheVariants as target_whys
use Rattle.session.specs.Transcript.line.Line.{Line}
use Rattle.session.specs.Transcript.line.Line.TheVariants as lines
use Rattle.session_model.specs.Vault.{Setting, Vault, HasVaultExecuted, served_at, lanes_of, opening}
use Rattle.session_model.specs.Steps.{Moment, cloud_no, step_line, stored_line, LaneStep, DropStep, FinishLanes, IsGetLine, GetStep, behind_page, EndsListing, ListRun, entry_line, list_lines, told_so, IsRestartLine, RestartStep, ReopensUntold, IsReplaceLine, skip_line, IsDeleteLine, DeleteStep, rebuild_refusal, AreRebuildLines, RebuildStep, lose_lines, asked_by, VStep}
use Rattle.session_model.specs.Run.{Answered, Turns}
use Rattle.session_model.specs.Headline.{Session, IsRun}
use Rattle.session_model.specs.Faults.{IsTarget, SaysFault, FaultsRose}
use Rattle.session_model.proofs.Counts.{keeps_executes, keeps_run, keeps_finish, keeps_step, keeps_turns, keeps_last}

-- ---- counts

-- a count that rose goes on, and one that goes on and rises has risen
pub rose_on : (a b d : ℕ) → ((f : ℕ) → f < 2 ^ 64 → f ≤ b → f ≤ d) → Rose a b → Rose a d
rose_on a b d on rose = elim (cases_lt a (2 ^ 64 - 1)) [
  | inl lt ↦ (let up = on (a + 1) (omega (arith, lt)) (omega (arith, lt, rose)) in omega (arith, lt, up))
  | inr past ↦ (let top = on (2 ^ 64 - 1) (omega arith) (omega (arith, past, rose)) in omega (arith, past, top))
]

pub then_rose : (a b d : ℕ) → ((f : ℕ) → f < 2 ^ 64 → f ≤ a → f ≤ b) → Rose b d → Rose a d
then_rose a b d on rose = elim (cases_lt a (2 ^ 64 - 1)) [
  | inl lt ↦ (let up = on a (omega (arith, lt)) (omega arith) in omega (arith, lt, up, rose))
  | inr past ↦ (let top = on (2 ^ 64 - 1) (omega arith) past in omega (arith, past, top, rose))
]

same_Err : {A : Type 0} {one other : Refusal} → ◌≡◌ {A = Result A Refusal} (Err one) (Err other) → one ≡ other
same_Err e = cc

-- a rebuild that ended so
abbrev failed_by : RebuildErr → Result Rebuilt RebuildErr
failed_by e = Err e

-- ---- which lines say it

-- of lines none of which says it none does
none_of : {A : Type 0} (Says : Line → Type 0) (f : A → Line) → ((x : A) → Says (f x) → ⊥) → (xs : List A) (line : Line) → Contains (map f xs) line → Says line → ⊥
none_of Says f none [] line has says = contains_nothing line has
none_of Says f none (x ∷ xs) line has says = elim (contains_cases (f x) (map f xs) line has) [
  | inl same ↦ none x (subst Says (sym same) says)
  | inr later ↦ none_of Says f none xs line later says
]

-- one line is all that is answered
alone : (Says : Line → Type 0) (only line : Line) (answers : List Line) → answers ≡ only ∷ [] → Contains answers line → Says line → Says only
alone Says only line answers e has says = elim (contains_cases only [] line (subst (λ (l : List Line). Contains l line) e has)) [
  | inl same ↦ subst Says (sym same) says
  | inr none ↦ absurd (contains_nothing line none)
]

module _ (event : Event) (c : ℕ) where
  abbrev Says : Line → Type 0
  Says line = SaysFault line event c

  step_says : (job cloud : ℕ) (told : LaneNews) → Says (step_line job cloud told) → (told ≡ lane_news.Fault) × (cloud ≡ c)
  step_says job cloud (lane_news.Known known asked) says = absurd says
  step_says job cloud (lane_news.Stored new sent) says = absurd says
  step_says job cloud lane_news.Committed says = absurd says
  step_says job cloud lane_news.Exists says = absurd says
  step_says job cloud (lane_news.Lacking place) says = absurd says
  step_says job cloud (lane_news.Full room used need limit) says = absurd says
  step_says job cloud lane_news.Fault says = (refl, says)
  step_says job cloud (lane_news.Damaged at byte) says = absurd says
  step_says job cloud (lane_news.Rotten named found) says = absurd says
  step_says job cloud lane_news.NoMemory says = absurd says

  stored_by : (b : Bool) (job : ℕ) (line : Line) → Contains (if b then lines.JobStored job ∷ [] else []) line → Says line → ⊥
  stored_by true job line has says = alone Says (lines.JobStored job) line (lines.JobStored job ∷ []) refl has says
  stored_by false job line has says = contains_nothing line has

  stored_says : (job : ℕ) (old new : List LaneView) (line : Line) → Contains (stored_line job old new) line → Says line → ⊥
  stored_says job old new line has says = stored_by _ job line has says

  -- a refusal of a restore
  abbrev FaultAt : RestoreErr → Type 0
  FaultAt (restore_errors.CloudFault at) = at.0 ≡ c
  FaultAt e = ⊥

  refusal_says : (e : RestoreErr) (why : Refusal) → refusal_of e ≡ Some why → Says (lines.Refused why) → FaultAt e
  refusal_says (restore_errors.Missing at) why is says = subst (λ (r : Refusal). Says (lines.Refused r)) (sym (same_Some (refusals.Missing at) why is)) says
  refusal_says (restore_errors.Lost at) why is says = subst (λ (r : Refusal). Says (lines.Refused r)) (sym (same_Some (refusals.Lost at) why is)) says
  refusal_says (restore_errors.CloudFault at) why is says = subst (λ (r : Refusal). Says (lines.Refused r)) (sym (same_Some (refusals.Fault at) why is)) says
  refusal_says (restore_errors.CloudDamaged at place byte) why is says = subst (λ (r : Refusal). Says (lines.Refused r)) (sym (same_Some (refusals.Damaged at place byte) why is)) says
  refusal_says (restore_errors.CloudRotten at named found) why is says = subst (λ (r : Refusal). Says (lines.Refused r)) (sym (same_Some (refusals.Rotten at named found) why is)) says
  refusal_says (restore_errors.CloudNoMemory at) why is says = subst (λ (r : Refusal). Says (lines.Refused r)) (sym (same_Some (refusals.NoMemory at) why is)) says
  refusal_says (restore_errors.Strange at kind) why is says = subst (λ (r : Refusal). Says (lines.Refused r)) (sym (same_Some (refusals.Strange at kind) why is)) says
  refusal_says (restore_errors.RecipesDiffer a b place) why is says = subst (λ (r : Refusal). Says (lines.Refused r)) (sym (same_Some (refusals.RecipesDiffer a b place) why is)) says
  refusal_says (restore_errors.ShareLength at secret found wanted) why is says = subst (λ (r : Refusal). Says (lines.Refused r)) (sym (same_Some (refusals.ShareLength at secret found wanted) why is)) says
  refusal_says (restore_errors.BadShare at secret named found) why is says = subst (λ (r : Refusal). Says (lines.Refused r)) (sym (same_Some (refusals.BadShare at secret named found) why is)) says
  refusal_says (restore_errors.BadSecret secret named found) why is says = subst (λ (r : Refusal). Says (lines.Refused r)) (sym (same_Some (refusals.BadSecret secret named found) why is)) says
  refusal_says (restore_errors.BadPad secret at byte) why is says = subst (λ (r : Refusal). Says (lines.Refused r)) (sym (same_Some (refusals.BadPad secret at byte) why is)) says
  refusal_says restore_errors.NoMemory why is says = absurd (let f : None ≡ Some why = is in cc)

  -- ---- what one cloud executes

  module _ (s : Setting) where
    -- a request of a lane that is answered so
    lane_rose : (lane : LaneView) (cloud : ℕ) (old : ℕ → Peer) (request : Request) (reply : Reply) (new : ℕ → Peer) → lane_request lane.work lane.state ≡ Some request
        → HasVaultExecuted s cloud old request reply new → reply ≡ replies.Fault → Rose (old cloud).faults (new cloud).faults
    lane_rose lane cloud old request reply new asks x is =
        fault_rose s.shape cloud (full_for s.shape s.rooms) (s.told cloud) lane.work lane.state request reply (old cloud) (new cloud) asks x.does is

    asks_of : (views : List LaneView) (cloud : ℕ) (request : Request) → lanes.request_at views cloud ≡ Some request → lane_request (lane_at views cloud).work (lane_at views cloud).state ≡ Some request
    asks_of [] cloud request e = absurd (let f : None ≡ Some request = e in cc)
    asks_of (lane ∷ views) zero request e = e
    asks_of (lane ∷ views) (suc cloud) request e = asks_of views cloud request e

    lane_says : (job cloud : ℕ) (asked : Option Request) (old : Vault) (answers : List Line) (moments : List Moment) (new : Vault) → lanes.request_at (lanes_of old.jobs job) cloud ≡ asked
        → LaneStep s job cloud asked old answers moments new → (line : Line) → Contains answers line → Says line → Rose (old.peers c).faults (new.peers c).faults
    lane_says job cloud None old answers moments new asks x line has says = absurd (alone Says _ line answers x.0 has says)
    lane_says job cloud (Some request) old answers moments new asks x line has says =
        let views = lanes_of old.jobs job in
        elim (contains_cases (step_line job cloud x.1) (stored_line job views x.2) line (subst (λ (l : List Line). Contains l line) x.8 has)) [
          | inl same ↦ (let y = step_says job cloud x.1 (subst Says (sym same) says) in
              subst (λ (n : ℕ). Rose (old.peers n).faults (new.peers n).faults) y.1
              (lane_rose (lane_at views cloud) cloud old.peers request x.0 new.peers (asks_of views cloud request asks) x.3
              (news_fault (lane_at views cloud).state x.0 (x.5 ∙ ap (λ (n : LaneNews). Some n) y.0))))
          | inr stored ↦ absurd (stored_says job views x.2 line stored says)
        ]

    run_says : (job cloud : ℕ) (p : Progress) (old : ℕ → Peer) (turns : List (LaneTurn (ℕ → Peer))) (last : Progress) (new : ℕ → Peer) → LaneRun (HasVaultExecuted s cloud) p old turns last new
        → (told : List LaneNews) → Tell p.lane turns told → (line : Line) → Contains (map (step_line job cloud) told) line → Says line → Rose (old c).faults (new c).faults
    run_says job cloud p old [] last new run told tell line has says = absurd (contains_nothing line (subst (λ (l : List LaneNews). Contains (map (step_line job cloud) l) line) tell has))
    run_says job cloud p old (t ∷ turns) last new run told tell line has says =
        let mid = run.3.0 in
        let rest = progress_after p t.reply in
        elim (contains_cases (step_line job cloud tell.0) (map (step_line job cloud) tell.1) line (subst (λ (l : List LaneNews). Contains (map (step_line job cloud) l) line) tell.4 has)) [
          | inl same ↦ (let y = step_says job cloud tell.0 (subst Says (sym same) says) in
              rose_on (old c).faults (mid c).faults (new c).faults (λ f small. keeps_run f small s c cloud rest mid turns last new run.3.2)
              (subst (λ (n : ℕ). Rose (old n).faults (mid n).faults) y.1
              (lane_rose p.lane cloud old t.request t.reply mid run.2 run.3.1 (news_fault p.lane.state t.reply (tell.2 ∙ ap (λ (n : LaneNews). Some n) y.0)))))
          | inr later ↦ then_rose (old c).faults (mid c).faults (new c).faults (λ f small. keeps_executes f small s c cloud old mid t.request t.reply run.3.1)
              (run_says job cloud rest mid turns last new run.3.2 tell.1 tell.3 line later says)
        ]

    finish_says : (job : ℕ) (clouds : List ℕ) (old : Vault) (answers : List Line) (moments : List Moment) (new : Vault) → FinishLanes s job clouds old answers moments new
        → (line : Line) → Contains answers line → Says line → Rose (old.peers c).faults (new.peers c).faults
    finish_says job [] old answers moments new x line has says = absurd (contains_nothing line (subst (λ (l : List Line). Contains l line) x.0 has))
    finish_says job (cloud ∷ clouds) old answers moments new x line has says =
        let views = lanes_of old.jobs job in
        let p = starting (lane_at views cloud) in
        elim (Contains-append_cases (map (step_line job cloud) x.2 ++ stored_line job views x.4) x.5 line (subst (λ (l : List Line). Contains l line) x.11 has)) [
          | inl here ↦ elim (Contains-append_cases (map (step_line job cloud) x.2) (stored_line job views x.4) line here) [
            | inl told ↦ rose_on (old.peers c).faults (x.3.peers c).faults (new.peers c).faults (λ f small. keeps_finish f small s c job clouds x.3 x.5 x.6 new x.13)
                (run_says job cloud p old.peers x.0 x.1 x.3.peers x.7 x.2 x.8 line told says)
            | inr stored ↦ absurd (stored_says job views x.4 line stored says)
          ]
          | inr later ↦ then_rose (old.peers c).faults (x.3.peers c).faults (new.peers c).faults (λ f small. keeps_run f small s c cloud p old.peers x.0 x.1 x.3.peers x.7)
              (finish_says job clouds x.3 x.5 x.6 new x.13 line later says)
        ]

    -- ---- a listing

    list_rose : (user : UserId) (above : Option (Tag × Version)) (cloud : ℕ) (old : ℕ → Peer) (reply : Reply) (new : ℕ → Peer)
        → HasVaultExecuted s cloud old (requests.List user above) reply new → reply ≡ replies.Fault → Rose (old cloud).faults (new cloud).faults
    list_rose user above cloud old reply new x is = by_told (s.told cloud) x.does.does
      where
        by_told : (b : Bool) → MatchBool b (ExecTold (served_at s cloud) (old cloud) (requests.List user above) reply (new cloud)) (ExecUntold s.shape (old cloud) (requests.List user above) reply (new cloud))
            → Rose (old cloud).faults (new cloud).faults
        by_told true (inl a) = absurd (let f : replies.Entries (page_of (user_view s.shape a.before user).files above) ≡ replies.Fault = sym a.served ∙ is in cc)
        by_told true (inr f) = f.rose
        by_told false u = u.fault is

    refused_says : (cloud : ℕ) (reply : Reply) (why : Refusal) → EndsListing cloud reply (Err why) → Says (lines.Refused why) → (reply ≡ replies.Fault) × (cloud ≡ c)
    refused_says cloud (replies.Entries page) why ends says = absurd (let f : Err why ≡ Ok page = ends.1 in cc)
    refused_says cloud replies.Fault why ends says = (refl, subst (λ (r : Refusal). Says (lines.Refused r)) (same_Err ends.2 ∙ sym (same_Some (refusals.Fault (cloud_no cloud)) ends.0 ends.1)) says)
    refused_says cloud (replies.Hello n k own format) why ends says = absurd (let f : None ≡ Some ends.0 = ends.1 in cc)
    refused_says cloud (replies.Known flags) why ends says = absurd (let f : None ≡ Some ends.0 = ends.1 in cc)
    refused_says cloud (replies.Stored new) why ends says = absurd (let f : None ≡ Some ends.0 = ends.1 in cc)
    refused_says cloud replies.Committed why ends says = absurd (let f : None ≡ Some ends.0 = ends.1 in cc)
    refused_says cloud replies.Exists why ends says = absurd (let f : None ≡ Some ends.0 = ends.1 in cc)
    refused_says cloud (replies.Lacking place) why ends says = absurd (let f : None ≡ Some ends.0 = ends.1 in cc)
    refused_says cloud (replies.Recipe bytes) why ends says = absurd (let f : None ≡ Some ends.0 = ends.1 in cc)
    refused_says cloud replies.Missing why ends says = absurd (let f : None ≡ Some ends.0 = ends.1 in cc)
    refused_says cloud (replies.Shares shares) why ends says = absurd (let f : None ≡ Some ends.0 = ends.1 in cc)
    refused_says cloud (replies.NotYours place) why ends says = absurd (let f : None ≡ Some ends.0 = ends.1 in cc)
    refused_says cloud replies.Deleted why ends says = absurd (let f : None ≡ Some ends.0 = ends.1 in cc)
    refused_says cloud (replies.Full room used need limit) why ends says = absurd (let f : None ≡ Some ends.0 = ends.1 in cc)
    refused_says cloud (replies.Damaged at byte) why ends says = absurd (subst (λ (r : Refusal). Says (lines.Refused r)) (same_Err ends.2 ∙ sym (same_Some (refusals.Damaged (cloud_no cloud) at byte) ends.0 ends.1)) says)
    refused_says cloud (replies.Rotten named found) why ends says = absurd (subst (λ (r : Refusal). Says (lines.Refused r)) (same_Err ends.2 ∙ sym (same_Some (refusals.Rotten (cloud_no cloud) named found) ends.0 ends.1)) says)
    refused_says cloud (replies.Malformed at) why ends says = absurd (let f : None ≡ Some ends.0 = ends.1 in cc)
    refused_says cloud replies.NoMemory why ends says = absurd (subst (λ (r : Refusal). Says (lines.Refused r)) (same_Err ends.2 ∙ sym (same_Some (refusals.NoMemory (cloud_no cloud)) ends.0 ends.1)) says)

    listing_says : (user : UserId) (cloud : ℕ) (above : Option (Tag × Version)) (old : ℕ → Peer) (turns : List (LaneTurn (ℕ → Peer))) (why : Refusal) (new : ℕ → Peer)
        → ListRun s user cloud above old turns (Err why) new → Says (lines.Refused why) → Rose (old c).faults (new c).faults
    listing_says user cloud above old [] why new run says = absurd run
    listing_says user cloud above old (t ∷ turns) why new run says = elim run.2.2 [
      | inl x ↦ (let y = refused_says cloud t.reply why x.0 says in
          subst (λ (g : ℕ → Peer). Rose (old c).faults (g c).faults) (sym x.2)
          (subst (λ (n : ℕ). Rose (old n).faults (run.2.0 n).faults) y.1
          (list_rose user above cloud old t.reply run.2.0 (subst (λ (r : Request). HasVaultExecuted s cloud old r t.reply run.2.0) run.1 run.2.1) y.0)))
      | inr x ↦ by_rest (slice_get x.0 (length x.0 - 1)) x.0 x.1 x.4 (λ w more says. listing_says user cloud (slice_get x.0 (length x.0 - 1)) run.2.0 turns w new more says) x.5
    ]
      where
        by_rest : (from : Option (Tag × Version)) (page : List (Tag × Version)) (rest : Result (List (Tag × Version)) Refusal) → Err why ≡ behind_page page rest
            → ((w : Refusal) → ListRun s user cloud from run.2.0 turns (Err w) new → Says (lines.Refused w) → Rose (run.2.0 c).faults (new c).faults)
            → ListRun s user cloud from run.2.0 turns rest new → Rose (old c).faults (new c).faults
        by_rest from page (Ok entries) e again more = absurd (let f : Err why ≡ Ok (page ++ entries) = e in cc)
        by_rest from page (Err w) e again more =
            then_rose (old c).faults (run.2.0 c).faults (new c).faults (λ f small. keeps_executes f small s c cloud old run.2.0 t.request t.reply run.2.1)
            (again w more (subst (λ (r : Refusal). Says (lines.Refused r)) (same_Err e) says))

    list_says : (user : UserId) (cloud : ℕ) (old : ℕ → Peer) (turns : List (LaneTurn (ℕ → Peer))) (listed : Result (List (Tag × Version)) Refusal) (new : ℕ → Peer) (answers : List Line)
        → ListRun s user cloud None old turns listed new → answers ≡ list_lines user cloud listed → (line : Line) → Contains answers line → Says line → Rose (old c).faults (new c).faults
    list_says user cloud old turns (Ok entries) new answers run is line has says =
        elim (contains_cases (lines.Entries user (cloud_no cloud) (length entries)) (map entry_line entries) line (subst (λ (l : List Line). Contains l line) is has)) [
          | inl same ↦ absurd (subst Says (sym same) says)
          | inr later ↦ absurd (none_of Says entry_line (λ entry none. none) entries line later says)
        ]
    list_says user cloud old turns (Err why) new answers run is line has says = listing_says user cloud None old turns why new run (alone Says (lines.Refused why) line answers is has says)

    -- ---- a get

    get_says : (user : UserId) (path : List ℕ) (version : Version) (clouds : List ℕ) (old : ℕ → Peer) (only : Line) (new : ℕ → Peer) → GetStep s user path version clouds old only new → Says only
        → Rose (old c).faults (new c).faults
    get_says user path version clouds old only new g says = by_result g.result g.line_is g.caused
      where
        of_error : (e : RestoreErr) → FaultAt e → Causes (told_so s.shape) s.told s.shape user (key_of s.shape path version) (Err e) old new → Rose (old c).faults (new c).faults
        of_error (restore_errors.Missing at) is caused = absurd is
        of_error (restore_errors.Lost at) is caused = absurd is
        of_error (restore_errors.CloudFault at) is caused = subst (λ (n : ℕ). Rose (old n).faults (new n).faults) is caused
        of_error (restore_errors.CloudDamaged at place byte) is caused = absurd is
        of_error (restore_errors.CloudRotten at named found) is caused = absurd is
        of_error (restore_errors.CloudNoMemory at) is caused = absurd is
        of_error (restore_errors.Strange at kind) is caused = absurd is
        of_error (restore_errors.RecipesDiffer a b place) is caused = absurd is
        of_error (restore_errors.ShareLength at secret found wanted) is caused = absurd is
        of_error (restore_errors.BadShare at secret named found) is caused = absurd is
        of_error (restore_errors.BadSecret secret named found) is caused = absurd is
        of_error (restore_errors.BadPad secret at byte) is caused = absurd is
        of_error restore_errors.NoMemory is caused = absurd is

        by_result : (result : Result (Unit {0}) RestoreErr) → IsGetLine result g.file only → Causes (told_so s.shape) s.told s.shape user (key_of s.shape path version) result old new
            → Rose (old c).faults (new c).faults
        by_result (Ok u) is caused = absurd (subst Says is says)
        by_result (Err e) is caused = of_error e (refusal_says e is.0 is.1 (subst Says is.2 says)) caused

    -- ---- an opening, a replacement

    restart_says : (cloud : ℕ) (only : Line) (old new : Peer) → RestartStep s cloud only old new → Says only → (cloud ≡ c) × Rose old.faults new.faults
    restart_says cloud only old new r says = by_result r.0 r.1 r.2
      where
        by_result : (result : Result ℕ OpenErr) → IsRestartLine cloud result only → MatchBool (s.told cloud) (ReopensAs true old new result) (ReopensUntold result old new) → (cloud ≡ c) × Rose old.faults new.faults
        by_result (Ok commands) is opens = absurd (subst Says is says)
        by_result (Err errors.Fault) is opens = (subst Says is says, by_told (s.told cloud) opens)
          where
            by_told : (b : Bool) → MatchBool b (ReopensAs true old new (Err errors.Fault)) (ReopensUntold (Err errors.Fault) old new) → Rose old.faults new.faults
            by_told true x = x.1
            by_told false x = x.fault tt
        by_result (Err (errors.NotBegun len)) is opens = absurd (subst Says is.2 says)
        by_result (Err (errors.OtherStore found asked at)) is opens = absurd (subst Says is.2 says)
        by_result (Err (errors.Damaged at byte)) is opens = absurd (subst Says is.2 says)

    replace_says : (told : Bool) (cloud before after : ℕ) (only : Line) → IsReplaceLine told cloud before after only → Says only → (cloud ≡ c) × Rose before after
    replace_says told cloud before after (lines.Replaced at) is says = absurd says
    replace_says told cloud before after (lines.Fault at) is says = (ap (λ (n : CloudNo). n.0) (sym is.0) ∙ says, is.1)
    replace_says told cloud before after (lines.Damaged at place byte) is says = absurd says
    replace_says told cloud before after (lines.Opened shape) is says = absurd is
    replace_says told cloud before after (lines.Done count) is says = absurd is
    replace_says told cloud before after (lines.Job job) is says = absurd is
    replace_says told cloud before after (lines.Step job lane news) is says = absurd is
    replace_says told cloud before after (lines.JobStored job) is says = absurd is
    replace_says told cloud before after (lines.Lost job lane) is says = absurd is
    replace_says told cloud before after (lines.End job stored) is says = absurd is
    replace_says told cloud before after (lines.Got bytes) is says = absurd is
    replace_says told cloud before after (lines.Refused why) is says = absurd is
    replace_says told cloud before after (lines.Entries user at count) is says = absurd is
    replace_says told cloud before after (lines.Entry tag version) is says = absurd is
    replace_says told cloud before after (lines.Armed at) is says = absurd is
    replace_says told cloud before after (lines.Restarted at commands) is says = absurd is
    replace_says told cloud before after (lines.Rebuilt user at files skipped) is says = absurd is
    replace_says told cloud before after (lines.Skipped tag version why) is says = absurd is
    replace_says told cloud before after (lines.Deleted at) is says = absurd is
    replace_says told cloud before after (lines.Missing at) is says = absurd is
    replace_says told cloud before after (lines.Full at room used need limit) is says = absurd is
    replace_says told cloud before after (lines.Rotten at named found) is says = absurd is
    replace_says told cloud before after (lines.NoMemory at) is says = absurd is
    replace_says told cloud before after (lines.Strange at kind) is says = absurd is

    -- ---- a deletion

    not_failed : (entry : Option FileEntry) (command : Command) (full : Command → Option FullRoom) → (unless_full full (delete_outcome entry command)).reply ≡ replies.Fault → ⊥
    not_failed None command full e = cc
    not_failed (Some entry) command full e = by_full (full command) e
      where
        by_full : (room : Option FullRoom) → (by_room (delete_outcome (Some entry) command) room).reply ≡ replies.Fault → ⊥
        by_full None e = cc
        by_full (Some f) e = cc

    delete_rose : (user : UserId) (tag : Tag) (version : Version) (cloud : ℕ) (old : ℕ → Peer) (reply : Reply) (new : ℕ → Peer)
        → HasVaultExecuted s cloud old (requests.Delete user tag version) reply new → reply ≡ replies.Fault → Rose (old cloud).faults (new cloud).faults
    delete_rose user tag version cloud old reply new x is = by_told (s.told cloud) x.does.does
      where
        by_told : (b : Bool) → MatchBool b (ExecTold (served_at s cloud) (old cloud) (requests.Delete user tag version) reply (new cloud)) (ExecUntold s.shape (old cloud) (requests.Delete user tag version) reply (new cloud))
            → Rose (old cloud).faults (new cloud).faults
        by_told true (inl a) =
            absurd (not_failed (entry_at (user_view s.shape a.before user).files (tag, version)) (commands.Delete user tag version) (full_for s.shape s.rooms a.before) (sym a.served ∙ is))
        by_told true (inr f) = f.rose
        by_told false u = u.fault is

    deleted_says : (cloud : ℕ) (reply : Reply) (only : Line) → IsDeleteLine cloud reply only → Says only → (reply ≡ replies.Fault) × (cloud ≡ c)
    deleted_says cloud replies.Deleted only is says = absurd (subst Says is says)
    deleted_says cloud replies.Missing only is says = absurd (subst Says is says)
    deleted_says cloud (replies.Full room used need limit) only is says = absurd (subst Says is says)
    deleted_says cloud replies.Fault only is says = (refl, subst Says is says)
    deleted_says cloud (replies.Damaged at byte) only is says = absurd (subst Says is says)
    deleted_says cloud (replies.Rotten named found) only is says = absurd (subst Says is says)
    deleted_says cloud (replies.Hello n k own format) only is says = absurd is
    deleted_says cloud (replies.Known flags) only is says = absurd is
    deleted_says cloud (replies.Stored new) only is says = absurd is
    deleted_says cloud replies.Committed only is says = absurd is
    deleted_says cloud replies.Exists only is says = absurd is
    deleted_says cloud (replies.Lacking place) only is says = absurd is
    deleted_says cloud (replies.Recipe bytes) only is says = absurd is
    deleted_says cloud (replies.Shares shares) only is says = absurd is
    deleted_says cloud (replies.NotYours place) only is says = absurd is
    deleted_says cloud (replies.Entries entries) only is says = absurd is
    deleted_says cloud (replies.Malformed at) only is says = absurd is
    deleted_says cloud replies.NoMemory only is says = absurd is

    delete_says : (user : UserId) (path : List ℕ) (version : Version) (cloud : ℕ) (old : ℕ → Peer) (answers : List Line) (moments : List Moment) (new : ℕ → Peer) → DeleteStep s user path version cloud old answers moments new
        → (line : Line) → Contains answers line → Says line → Rose (old c).faults (new c).faults
    delete_says user path version cloud old answers moments new x line has says =
        let y = deleted_says cloud x.0 x.1 x.3 (alone Says x.1 line answers x.4 has says) in
        subst (λ (n : ℕ). Rose (old n).faults (new n).faults) y.1 (delete_rose user (key_of s.shape path version).0 version cloud old x.0 new x.2 y.0)

    -- ---- a rebuild

    rebuilt_says : (user : UserId) (target : ℕ) (from : List ℕ) (old : ℕ → Peer) (answers : List Line) (moments : List Moment) (new : ℕ → Peer) → RebuildStep s user target from old answers moments new
        → ((n : ℕ) → IsTarget event n → target ≡ n) → (line : Line) → Contains answers line → Says line → Rose (old c).faults (new c).faults
    rebuilt_says user target from old answers moments new r is_target line has says = by_result r.result r.lines_are r.caused
      where
        of_read : (e : RestoreErr) → FaultAt e → ReadCaused (told_so s.shape) s.told e old new → Rose (old c).faults (new c).faults
        of_read (restore_errors.Missing at) is caused = absurd is
        of_read (restore_errors.Lost at) is caused = absurd is
        of_read (restore_errors.CloudFault at) is caused = subst (λ (n : ℕ). Rose (old n).faults (new n).faults) is caused
        of_read (restore_errors.CloudDamaged at place byte) is caused = absurd is
        of_read (restore_errors.CloudRotten at named found) is caused = absurd is
        of_read (restore_errors.CloudNoMemory at) is caused = absurd is
        of_read (restore_errors.Strange at kind) is caused = absurd is
        of_read (restore_errors.RecipesDiffer a b place) is caused = absurd is
        of_read (restore_errors.ShareLength at secret found wanted) is caused = absurd is
        of_read (restore_errors.BadShare at secret named found) is caused = absurd is
        of_read (restore_errors.BadSecret secret named found) is caused = absurd is
        of_read (restore_errors.BadPad secret at byte) is caused = absurd is
        of_read restore_errors.NoMemory is caused = absurd is

        of_error : (e : RebuildErr) (why : Refusal) → rebuild_refusal e ≡ Some why → Says (lines.Refused why) → rebuilding.CausesRebuildEnd (told_so s.shape) s.told target (failed_by e) old new → Rose (old c).faults (new c).faults
        of_error (rebuild_errors.FromRestore e) why is says caused = of_read e (refusal_says e why is says) caused
        of_error rebuild_errors.TargetLost why is says caused = absurd (subst (λ (w : Refusal). Says (lines.Refused w)) (sym (same_Some (refusals.Target target_whys.Lost) why is)) says)
        of_error rebuild_errors.TargetFault why is says caused =
            subst (λ (n : ℕ). Rose (old n).faults (new n).faults) (is_target c (subst (λ (w : Refusal). Says (lines.Refused w)) (sym (same_Some (refusals.Target target_whys.Fault) why is)) says)) caused
        of_error (rebuild_errors.TargetDamaged at byte) why is says caused = absurd (subst (λ (w : Refusal). Says (lines.Refused w)) (sym (same_Some (refusals.Target (target_whys.Damaged at byte)) why is)) says)
        of_error (rebuild_errors.TargetRotten named found) why is says caused = absurd (subst (λ (w : Refusal). Says (lines.Refused w)) (sym (same_Some (refusals.Target (target_whys.Rotten named found)) why is)) says)
        of_error (rebuild_errors.TargetFull room used need limit) why is says caused =
            absurd (subst (λ (w : Refusal). Says (lines.Refused w)) (sym (same_Some (refusals.Target (target_whys.Full room used need limit)) why is)) says)
        of_error (rebuild_errors.TargetLacking place) why is says caused = absurd (subst (λ (w : Refusal). Says (lines.Refused w)) (sym (same_Some (refusals.Target (target_whys.Lacking place)) why is)) says)
        of_error rebuild_errors.TargetNoMemory why is says caused = absurd (subst (λ (w : Refusal). Says (lines.Refused w)) (sym (same_Some (refusals.Target target_whys.NoMemory) why is)) says)
        of_error (rebuild_errors.TargetStrange kind) why is says caused = absurd (subst (λ (w : Refusal). Says (lines.Refused w)) (sym (same_Some (refusals.Target (target_whys.Strange kind)) why is)) says)
        of_error rebuild_errors.NoMemory why is says caused = absurd (let f : None ≡ Some why = is in cc)

        by_result : (result : Result Rebuilt RebuildErr) → AreRebuildLines user target result answers → rebuilding.CausesRebuildEnd (told_so s.shape) s.told target result old new → Rose (old c).faults (new c).faults
        by_result (Ok rebuilt) is caused =
            elim (contains_cases (lines.Rebuilt user (cloud_no target) rebuilt.files (length rebuilt.skipped)) (map skip_line rebuilt.skipped) line (subst (λ (l : List Line). Contains l line) is has)) [
              | inl same ↦ absurd (subst Says (sym same) says)
              | inr later ↦ absurd (none_of Says skip_line (λ skip none. none) rebuilt.skipped line later says)
            ]
        by_result (Err e) is caused = of_error e is.0 is.1 (alone Says (lines.Refused is.0) line answers is.2 has says) caused

-- ---- every line

lose_says : (event : Event) (c job cloud : ℕ) (asked : Option Request) (answers : List Line) → answers ≡ lose_lines job cloud asked → (line : Line) → Contains answers line → SaysFault line event c → ⊥
lose_says event c job cloud None answers is line has says = alone (Says event c) (lines.Step job (cloud_no cloud) news.Done) line answers is has says
lose_says event c job cloud (Some request) answers is line has says = alone (Says event c) (lines.Lost job (cloud_no cloud)) line answers is has says

drop_says : (s : Setting) (event : Event) (c job cloud : ℕ) (asked : Option Request) (old : Vault) (answers : List Line) (moments : List Moment) (new : Vault) → DropStep s job cloud asked old answers moments new
    → (line : Line) → Contains answers line → SaysFault line event c → ⊥
drop_says s event c job cloud None old answers moments new x line has says = alone (Says event c) (lines.Step job (cloud_no cloud) news.Done) line answers x.0 has says
drop_says s event c job cloud (Some request) old answers moments new x line has says = alone (Says event c) (lines.Lost job (cloud_no cloud)) line answers x.4 has says

-- of one cloud that goes on
one_rose : (c cloud : ℕ) (old new : ℕ → Peer) → (cloud ≡ c) × Rose (old cloud).faults (new cloud).faults → Rose (old c).faults (new c).faults
one_rose c cloud old new x = subst (λ (n : ℕ). Rose (old n).faults (new n).faults) x.0 x.1

pub says_rose : (s : Setting) (c : ℕ) (old : Vault) (event : Event) (answers : List Line) (moments : List Moment) (new : Vault) → VStep s old event answers moments new
    → (line : Line) → Contains answers line → SaysFault line event c → Rose (old.peers c).faults (new.peers c).faults
says_rose s c old (events.Upload user path version bytes) answers moments new x line has says =
    absurd (alone (Says (events.Upload user path version bytes) c) (lines.Job (length old.jobs + 1)) line answers x.0 has says)
says_rose s c old (events.Step job lane) answers moments new x line has says =
    lane_says (events.Step job lane) c s job lane.0 (asked_by old job lane.0) old answers moments new refl x line has says
says_rose s c old (events.Lose job lane) answers moments new x line has says = absurd (lose_says (events.Lose job lane) c job lane.0 (asked_by old job lane.0) answers x.0 line has says)
says_rose s c old (events.Drop job lane) answers moments new x line has says = absurd (drop_says s (events.Drop job lane) c job lane.0 (asked_by old job lane.0) old answers moments new x line has says)
says_rose s c old (events.Finish job) answers moments new x line has says =
    let e = events.Finish job in
    elim (Contains-append_cases x.0 _ line (subst (λ (l : List Line). Contains l line) x.2 has)) [
      | inl here ↦ finish_says e c s job (range_with_len 0 s.shape.n) old x.0 moments new x.1 line here says
      | inr last ↦ absurd (alone (Says e c) _ line _ refl last says)
    ]
says_rose s c old (events.Get user path version clouds) answers moments new x line has says =
    let e = events.Get user path version clouds in
    get_says e c s user path version clouds old.peers x.0 new.peers x.1 (alone (Says e c) x.0 line answers x.2 has says)
says_rose s c old (events.Arm cloud calls keep) answers moments new x line has says = absurd (alone (Says (events.Arm cloud calls keep) c) (lines.Armed cloud) line answers x.1 has says)
says_rose s c old (events.Restart cloud) answers moments new x line has says =
    let e = events.Restart cloud in
    one_rose c cloud.0 old.peers new.peers (restart_says e c s cloud.0 x.0 (old.peers cloud.0) (new.peers cloud.0) x.1.goes (alone (Says e c) x.0 line answers x.2 has says))
says_rose s c old (events.List user cloud) answers moments new x line has says =
    list_says (events.List user cloud) c s user cloud.0 old.peers x.0 x.1 new.peers answers x.2 x.3 line has says
says_rose s c old (events.Replace cloud) answers moments new x line has says =
    let e = events.Replace cloud in
    one_rose c cloud.0 old.peers new.peers
    (replace_says e c s (s.told cloud.0) cloud.0 (old.peers cloud.0).faults (new.peers cloud.0).faults x.0 x.1.goes.says (alone (Says e c) x.0 line answers x.2 has says))
says_rose s c old (events.Rebuild user target from) answers moments new x line has says =
    rebuilt_says (events.Rebuild user target from) c s user target.0 from old.peers answers moments new.peers x.0 (λ n is. is) line has says
says_rose s c old (events.Delete user path version cloud) answers moments new x line has says =
    delete_says (events.Delete user path version cloud) c s user path version cloud.0 old.peers answers moments new.peers x.0 line has says

-- ---- a session

turns_say : (s : Setting) (c : ℕ) (history : List Answered) (old new : Vault) → Turns s old history new → (a : Answered) → Contains history a → (line : Line) → Contains a.answers line → SaysFault line a.event c
    → Rose (old.peers c).faults (new.peers c).faults
turns_say s c [] old new turns a among line has says = absurd (contains_nothing a among)
turns_say s c (b ∷ more) old new turns a among line has says = elim (contains_cases b more a among) [
  | inl same ↦ (let has_b = subst (λ (x : Answered). Contains x.answers line) (sym same) has in
      let says_b = subst (λ (x : Answered). SaysFault line x.event c) (sym same) says in
      rose_on (old.peers c).faults (b.after.peers c).faults (new.peers c).faults (λ f small. keeps_turns f small s c more b.after new turns.2)
      (says_rose s c old b.event b.answers b.moments b.after turns.1 line has_b says_b))
  | inr later ↦ then_rose (old.peers c).faults (b.after.peers c).faults (new.peers c).faults (λ f small. keeps_step f small s c old b.event b.answers b.moments b.after turns.1)
      (turns_say s c more b.after new turns.2 a later line has says)
]

pub faults_rose : (clouds : ℕ → Cloud) (run : Session) → IsRun clouds run → FaultsRose clouds run
faults_rose clouds run is a line cloud among has says =
    let s = run.setting in
    rose_on (clouds cloud).faults (run.between.peers cloud).faults (run.last cloud).faults (λ f small. keeps_last f small s cloud run.between run.begun run.last is.begun)
    (turns_say s cloud run.history (opening clouds) run.between is.answered a among line has says)
