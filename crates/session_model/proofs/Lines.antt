-- The line at which a cloud commits a version.
use Rattle.std.proofs.Common.{◌≡◌, ℕ, zero, suc, ◌+◌, ◌-◌, Bool, true, false, cond, List, [], ◌∷◌, ◌++◌, length, map, Option, Some, None, refl, sym, ap, ◌∙◌, subst, inl, inr, ◌⊎◌, arith}
use Rattle.std.specs.Prelude.{IsTrue, slice_get, not, Result, Ok, Err}
use Rattle.std.specs.Bool.{MatchBool}
use Rattle.std.specs.List.{Contains}
use Rattle.std.proofs.lemmas.List.Elements.{Contains-append_cases, Contains-append_left, Contains-append_right}
use Rattle.session.specs.CdBase.ids.Tag.{Tag}
use Rattle.session.specs.CdBase.ids.UserId.{UserId}
use Rattle.session.specs.CdBase.ids.Version.{Version}
use Rattle.session.specs.CdBase.shape.Shape.{Shape}
use Rattle.subset_restore.specs.CaontRs.Package.{share}
use Rattle.rebuild.specs.FileRecipe.FileRecipe.{secrets}
use Rattle.local_link.specs.CommitJournal.errors.OpenErr.{OpenErr}
use Rattle.local_link.specs.CommitJournal.errors.OpenErr.TheVariants as errors
use Rattle.rebuild.specs.Messages.request.Request.{Request}
use Rattle.rebuild.specs.Messages.reply.Reply.{Reply}
use Rattle.rebuild.specs.Messages.reply.Reply.TheVariants as replies
use Rattle.subset_restore.specs.UserDedup.command.Command.{Command}
use Rattle.subset_restore.specs.UserDedup.Cloud.{fingerprint}
use Rattle.subset_restore.specs.UserDedup.Exec.{Peer, MaySettleAs, ExecTold, ExecUntold}
use Rattle.subset_restore.proofs.UserDedup.Owned.{contains_cases, contains_nothing, contains_here, contains_later}
use Rattle.subset_restore.specs.UserDedup.Spending.{full_for}
use Rattle.subset_restore.specs.UserDedup.Cloud.{strings_in}
use Rattle.rebuild.specs.UploadJob.news.LaneNews.{LaneNews}
use Rattle.rebuild.specs.UploadJob.news.LaneNews.TheVariants as lane_news
use Rattle.rebuild.specs.UploadJob.Upload.{FileVersion, work_of}
use Rattle.rebuild.specs.UploadJob.Lane.{lane_request, news_of}
use Rattle.rebuild.specs.UploadJob.Lanes.{LaneView}
use Rattle.rebuild.specs.UploadJob.Lanes as lanes
use Rattle.rebuild.specs.LaneSteps.Runs.{LaneTurn, Progress, LaneRun, Tell, starting, request_of, progress_after, lane_at}
use Rattle.subset_restore.specs.RestoreJob.error.RestoreErr.{RestoreErr}
use Rattle.rebuild.specs.declared.error.RebuildErr.{RebuildErr}
use Rattle.rebuild.specs.declared.skips.Skip.{Skip}
use Rattle.rebuild.specs.declared.skips.Rebuilt.{Rebuilt}
use Rattle.rebuild.specs.KeptFiles.Kept.{Keeps, key_of}
use Rattle.rebuild.proofs.KeptFiles.Keeping.{keeps_still, harmless_all}
use Rattle.session.specs.declared.event.Event.{Event}
use Rattle.session.specs.declared.event.Event.TheVariants as events
use Rattle.session.specs.Transcript.refusal.Refusal.{Refusal}
use Rattle.session.specs.Transcript.line.Line.{Line}
use Rattle.session.specs.Transcript.line.Line.TheVariants as lines
use Rattle.session.specs.Transcript.news.News.TheVariants as news
use Rattle.session_model.specs.Vault.{Setting, Vault, HasVaultExecuted, served_at, lanes_of}
use Rattle.session_model.specs.Steps.{Moment, moment_of, as_told, cloud_no, step_line, lose_lines, stored_line, all_done, LaneStep, DropStep, FinishLanes, IsGetLine, entry_line, list_lines, IsRestartLine, RestartStep, IsReplaceLine, skip_word, skip_line, AreRebuildLines, IsDeleteLine, VStep}
use Rattle.session_model.proofs.Growing.{Grows, grows_run, grows_finish}
use Rattle.session_model.proofs.Jobs.{AreOf, Brings, job_of, work_at, asks_at, lane_moved}
use Rattle.session_model.proofs.Committed.{IsUpload, executed_keeps}
use Rattle.session_model.proofs.Seen.{FirstIs, first_finish}

-- ---- what the line says

told_committed : (x : LaneNews) → as_told x ≡ news.Committed → x ≡ lane_news.Committed
told_committed (lane_news.Known known asked) e = cc
told_committed (lane_news.Stored new sent) e = cc
told_committed lane_news.Committed e = refl
told_committed lane_news.Exists e = cc
told_committed (lane_news.Lacking place) e = cc
told_committed (lane_news.Full room used need limit) e = cc
told_committed lane_news.Fault e = cc
told_committed (lane_news.Damaged at byte) e = cc
told_committed (lane_news.Rotten named found) e = cc
told_committed lane_news.NoMemory e = cc

-- the line of a step is that of a Commit
pub record IsThat (job cloud : ℕ) (x : LaneNews) (j c : ℕ) : Type 0 where
  pub job_is : job ≡ j
  pub cloud_is : cloud ≡ c
  pub told_is : x ≡ lane_news.Committed

is_that : (job cloud : ℕ) (x : LaneNews) (j c : ℕ) → step_line job cloud x ≡ lines.Step j (cloud_no c) news.Committed → IsThat job cloud x j c
is_that job cloud x j c e = record {
  job_is = cc;
  cloud_is = (let f : cloud_no cloud ≡ cloud_no c = cc in ap (λ n. n.0) f);
  told_is = told_committed x (let f : as_told x ≡ news.Committed = cc in f);
}

not_stored : (job : ℕ) (b : Bool) (j c : ℕ) → Contains (cond b (lines.JobStored job ∷ []) []) (lines.Step j (cloud_no c) news.Committed) → ⊥
not_stored job true j c has = elim (contains_cases (lines.JobStored job) [] (lines.Step j (cloud_no c) news.Committed) has) [
  | inl same ↦ let f : lines.JobStored job ≡ lines.Step j (cloud_no c) news.Committed = same in cc
  | inr none ↦ contains_nothing _ none
]
not_stored job false j c has = contains_nothing _ has

not_one : (line : Line) (answers : List Line) (j c : ℕ) → answers ≡ line ∷ [] → (line ≡ lines.Step j (cloud_no c) news.Committed → ⊥) → Contains answers (lines.Step j (cloud_no c) news.Committed) → ⊥
not_one line answers j c e not has = elim (contains_cases line [] (lines.Step j (cloud_no c) news.Committed) (subst (λ (l : List Line). Contains l (lines.Step j (cloud_no c) news.Committed)) e has)) [
  | inl same ↦ not same
  | inr none ↦ contains_nothing _ none
]

mapped : {A B : Type 0} (f : A → B) (xs : List A) (y : B) → Contains (map f xs) y → (x : A) × Contains xs x × (f x ≡ y)
mapped f [] y has = absurd (contains_nothing y has)
mapped f (x ∷ xs) y has = elim (contains_cases (f x) (map f xs) y has) [
  | inl same ↦ (x, contains_here x xs, same)
  | inr later ↦ (let z = mapped f xs y later in (z.0, contains_later x xs z.0 z.1, z.2))
]

not_listed : (user : UserId) (cloud : ℕ) (listed : Result (List (Tag × Version)) Refusal) (j c : ℕ) → Contains (list_lines user cloud listed) (lines.Step j (cloud_no c) news.Committed) → ⊥
not_listed user cloud (Ok entries) j c has = elim (contains_cases _ (map entry_line entries) (lines.Step j (cloud_no c) news.Committed) has) [
  | inl same ↦ let f : lines.Entries user (cloud_no cloud) (length entries) ≡ lines.Step j (cloud_no c) news.Committed = same in cc
  | inr later ↦ (let x = mapped entry_line entries (lines.Step j (cloud_no c) news.Committed) later in let f : lines.Entry x.0.0 x.0.1 ≡ lines.Step j (cloud_no c) news.Committed = x.2 in cc)
]
not_listed user cloud (Err why) j c has = not_one (lines.Refused why) _ j c refl (λ e. cc) has

not_skipped : (skips : List Skip) (j c : ℕ) → Contains (map skip_line skips) (lines.Step j (cloud_no c) news.Committed) → ⊥
not_skipped skips j c has =
    let x = mapped skip_line skips (lines.Step j (cloud_no c) news.Committed) has in
    let f : lines.Skipped x.0.tag x.0.version (skip_word x.0.why) ≡ lines.Step j (cloud_no c) news.Committed = x.2 in
    cc

not_rebuilt : (user : UserId) (target : ℕ) (result : Result Rebuilt RebuildErr) (answers : List Line) (j c : ℕ) → AreRebuildLines user target result answers → Contains answers (lines.Step j (cloud_no c) news.Committed) → ⊥
not_rebuilt user target (Ok rebuilt) answers j c are has =
    elim (contains_cases _ (map skip_line rebuilt.skipped) (lines.Step j (cloud_no c) news.Committed) (subst (λ (l : List Line). Contains l (lines.Step j (cloud_no c) news.Committed)) are has)) [
      | inl same ↦ let f : lines.Rebuilt user (cloud_no target) rebuilt.files (length rebuilt.skipped) ≡ lines.Step j (cloud_no c) news.Committed = same in cc
      | inr later ↦ not_skipped rebuilt.skipped j c later
    ]
not_rebuilt user target (Err e) answers j c are has = not_one (lines.Refused are.0) answers j c are.2 (λ q. cc) has

not_deleted : (cloud : ℕ) (reply : Reply) (line : Line) (j c : ℕ) → IsDeleteLine cloud reply line → line ≡ lines.Step j (cloud_no c) news.Committed → ⊥
not_deleted cloud replies.Deleted line j c is e = let f : lines.Deleted (cloud_no cloud) ≡ lines.Step j (cloud_no c) news.Committed = sym is ∙ e in cc
not_deleted cloud replies.Missing line j c is e = let f : lines.Missing (cloud_no cloud) ≡ lines.Step j (cloud_no c) news.Committed = sym is ∙ e in cc
not_deleted cloud (replies.Full room used need limit) line j c is e = let f : lines.Full (cloud_no cloud) room used need limit ≡ lines.Step j (cloud_no c) news.Committed = sym is ∙ e in cc
not_deleted cloud replies.Fault line j c is e = let f : lines.Fault (cloud_no cloud) ≡ lines.Step j (cloud_no c) news.Committed = sym is ∙ e in cc
not_deleted cloud (replies.Damaged at byte) line j c is e = let f : lines.Damaged (cloud_no cloud) at byte ≡ lines.Step j (cloud_no c) news.Committed = sym is ∙ e in cc
not_deleted cloud (replies.Rotten named found) line j c is e = let f : lines.Rotten (cloud_no cloud) named found ≡ lines.Step j (cloud_no c) news.Committed = sym is ∙ e in cc
not_deleted cloud (replies.Hello n k own format) line j c is e = is
not_deleted cloud (replies.Known flags) line j c is e = is
not_deleted cloud (replies.Stored new) line j c is e = is
not_deleted cloud replies.Committed line j c is e = is
not_deleted cloud replies.Exists line j c is e = is
not_deleted cloud (replies.Lacking place) line j c is e = is
not_deleted cloud (replies.Recipe bytes) line j c is e = is
not_deleted cloud (replies.Shares shares) line j c is e = is
not_deleted cloud (replies.NotYours place) line j c is e = is
not_deleted cloud (replies.Entries entries) line j c is e = is
not_deleted cloud (replies.Malformed at) line j c is e = is
not_deleted cloud replies.NoMemory line j c is e = is

-- the strings that the cloud has at these moments and behind them are known
pub record Sees (Known : List ℕ → Type 0) (c : ℕ) (moments : List Moment) (new : ℕ → Peer) : Type 0 where
  pub here : (m : Moment) → Contains moments m → (string : List ℕ) → Contains (strings_in (m.peers c).list) string → Known string
  pub behind : (string : List ℕ) → Contains (strings_in (new c).list) string → Known string

sees_first : (Known : List ℕ → Type 0) (c : ℕ) (old : ℕ → Peer) (moments : List Moment) (new : ℕ → Peer) → FirstIs old moments new → Sees Known c moments new → (string : List ℕ) → Contains (strings_in (old c).list) string → Known string
sees_first Known c old moments new (inl x) sees string has = sees.behind string (subst (λ (f : ℕ → Peer). Contains (strings_in (f c).list) string) (sym x.1) has)
sees_first Known c old moments new (inr x) sees string has =
    sees.here x.0 (subst (λ (l : List Moment). Contains l x.0) (sym x.2) (contains_here x.0 x.1)) string (subst (λ (f : ℕ → Peer). Contains (strings_in (f c).list) string) (sym x.3) has)

-- a lane without a request has no turns
no_turns : {S : Type 0} (Does : S → Request → Reply → S → Type 0) (lane : LaneView) (old : S) (turns : List (LaneTurn S)) (last : Progress) (new : S) (tells : List LaneNews) → request_of lane ≡ None
    → LaneRun Does (starting lane) old turns last new → Tell lane turns tells → Contains tells lane_news.Committed → ⊥
no_turns Does lane old [] last new tells asks run tell has = contains_nothing _ (subst (λ (l : List LaneNews). Contains l lane_news.Committed) tell has)
no_turns Does lane old (t ∷ turns) last new tells asks run tell has = let f : None ≡ Some t.request = sym asks ∙ run.2 in cc

-- the work of a lane that has a request
work_here : (shape : Shape) (v : FileVersion) (views : List LaneView) (cloud : ℕ) (request : Request) → AreOf shape v 0 views → request_of (lane_at views cloud) ≡ Some request → (lane_at views cloud).work ≡ work_of shape v cloud
work_here shape v views cloud request of asks = work_at shape v 0 views cloud request of (asks_back views cloud asks) ∙ ap (work_of shape v) (let e : 0 + cloud ≡ cloud = omega arith in e)
  where
    asks_back : (views : List LaneView) (cloud : ℕ) → request_of (lane_at views cloud) ≡ Some request → lanes.request_at views cloud ≡ Some request
    asks_back [] cloud e = e
    asks_back (lane ∷ views) zero e = e
    asks_back (lane ∷ views) (suc cloud) e = asks_back views cloud e

module _ (s : Setting) (c : ℕ) (told : IsTrue (s.told c)) (v : FileVersion) (good : IsUpload v) (Known : List ℕ → Type 0)
    (apart : (string secret : List ℕ) → Known string → Contains (secrets v.file) secret → fingerprint string ≡ fingerprint (share s.shape c secret) → string ≡ share s.shape c secret) where
  -- each list that the cloud may settle as keeps the version
  abbrev pub KeepsAll : Peer → Type 0
  KeepsAll p = (list : List Command) → MaySettleAs p list → Keeps s.shape c list v.user v.path v.number v.file

  pub keeps_on : (p q : Peer) → KeepsAll p → Grows p q → KeepsAll q
  keeps_on p q keeps grows list settles =
      let x = grows list settles in
      subst (λ (l : List Command). Keeps s.shape c l v.user v.path v.number v.file) (sym x.1.1)
      (keeps_still s.shape c x.0 x.1.0 v.user v.path v.number v.file (harmless_all v.user (key_of s.shape v.path v.number) x.1.0 x.1.2) (keeps x.0 x.2))

  commit_exec : (lane : LaneView) (request : Request) (old new : ℕ → Peer) (reply : Reply) → lane.work ≡ work_of s.shape v c → lane_request lane.work lane.state ≡ Some request
      → HasVaultExecuted s c old request reply new → news_of lane.state reply ≡ Some lane_news.Committed → ((string : List ℕ) → Contains (strings_in (new c).list) string → Known string) → KeepsAll (new c)
  commit_exec lane request old new reply work asks x told_is ok =
      executed_keeps s.shape c (full_for s.shape s.rooms) v good Known apart lane request (old c) (new c) reply work asks
      (subst (λ (b : Bool). MatchBool b (ExecTold (served_at s c) (old c) request reply (new c)) (ExecUntold s.shape (old c) request reply (new c))) told x.does.does) told_is ok

  commit_run : (p : Progress) (old : ℕ → Peer) (turns : List (LaneTurn (ℕ → Peer))) (last : Progress) (new : ℕ → Peer) (tells : List LaneNews) → LaneRun (HasVaultExecuted s c) p old turns last new → Tell p.lane turns tells
      → p.lane.work ≡ work_of s.shape v c → Contains tells lane_news.Committed → Sees Known c (map (moment_of c) turns) new → KeepsAll (new c)
  commit_run p old [] last new tells run tell work has sees = absurd (contains_nothing lane_news.Committed (subst (λ (l : List LaneNews). Contains l lane_news.Committed) tell has))
  commit_run p old (t ∷ turns) last new tells run tell work has sees =
      let mid = run.3.0 in
      elim (contains_cases tell.0 tell.1 lane_news.Committed (subst (λ (l : List LaneNews). Contains l lane_news.Committed) tell.4 has)) [
        | inl same ↦ keeps_on (mid c) (new c)
            (commit_exec p.lane t.request old mid t.reply work run.2 run.3.1 (tell.2 ∙ ap (λ (x : LaneNews). Some x) same) (ok_mid turns run.3.2 (λ m later. sees.here m (contains_later (moment_of c t) (map (moment_of c) turns) m later)) sees.behind))
            (grows_run s c told c (progress_after p t.reply) mid turns last new run.3.2)
        | inr later ↦ commit_run (progress_after p t.reply) mid turns last new tell.1 run.3.2 tell.3 work later
            (record { here = λ m among. sees.here m (contains_later (moment_of c t) (map (moment_of c) turns) m among); behind = sees.behind })
      ]
    where
      ok_mid : (turns : List (LaneTurn (ℕ → Peer))) → LaneRun (HasVaultExecuted s c) (progress_after p t.reply) run.3.0 turns last new
          → ((m : Moment) → Contains (map (moment_of c) turns) m → (string : List ℕ) → Contains (strings_in (m.peers c).list) string → Known string)
          → ((string : List ℕ) → Contains (strings_in (new c).list) string → Known string) → (string : List ℕ) → Contains (strings_in (run.3.0 c).list) string → Known string
      ok_mid [] r here behind string has = behind string (subst (λ (f : ℕ → Peer). Contains (strings_in (f c).list) string) (sym r.2) has)
      ok_mid (u ∷ us) r here behind string has = here (moment_of c u) (contains_here (moment_of c u) (map (moment_of c) us)) string (subst (λ (f : ℕ → Peer). Contains (strings_in (f c).list) string) (sym r.1) has)

  module _ (vs : List FileVersion) (j : ℕ) (uploaded : slice_get vs (j - 1) ≡ Some v) where
    lanes_are : (old : Vault) (job : ℕ) → Brings s.shape old.jobs vs → job ≡ j → AreOf s.shape v 0 (lanes_of old.jobs job)
    lanes_are old job b e =
        job_of s.shape old.jobs (job - 1) v b.are (ap (λ (l : List FileVersion). slice_get l (job - 1)) b.those ∙ ap (λ (n : ℕ). slice_get vs (n - 1)) e ∙ uploaded)

    commit_lane : (job cloud : ℕ) (request : Option Request) (old : Vault) (answers : List Line) (moments : List Moment) (new : Vault) → lanes.request_at (lanes_of old.jobs job) cloud ≡ request
        → LaneStep s job cloud request old answers moments new → Brings s.shape old.jobs vs → Contains answers (lines.Step j (cloud_no c) news.Committed) → Sees Known c moments new.peers → KeepsAll (new.peers c)
    commit_lane job cloud None old answers moments new asks x b has sees =
        absurd (not_one (lines.Step job (cloud_no cloud) news.Done) answers j c x.0 (λ e. cc) has)
    commit_lane job cloud (Some request) old answers moments new asks x b has sees =
        elim (contains_cases (step_line job cloud x.1) (stored_line job (lanes_of old.jobs job) x.2) (lines.Step j (cloud_no c) news.Committed) (subst (λ (l : List Line). Contains l (lines.Step j (cloud_no c) news.Committed)) x.8 has)) [
          | inl same ↦ committed (is_that job cloud x.1 j c same)
          | inr stored ↦ absurd (not_stored job _ j c stored)
        ]
      where
        committed : IsThat job cloud x.1 j c → KeepsAll (new.peers c)
        committed is =
            let P : ℕ → Type 0 = λ n. HasVaultExecuted s n old.peers request x.0 new.peers → lanes.request_at (lanes_of old.jobs job) n ≡ Some request → news_of (lane_at (lanes_of old.jobs job) n).state x.0 ≡ Some x.1 → KeepsAll (new.peers c) in
            subst P (sym is.cloud_is) (λ does asked tells.
            commit_exec (lane_at (lanes_of old.jobs job) c) request old.peers new.peers x.0
            (work_at s.shape v 0 (lanes_of old.jobs job) c request (lanes_are old job b is.job_is) asked ∙ ap (work_of s.shape v) (let e : 0 + c ≡ c = omega arith in e))
            (asks_at (lanes_of old.jobs job) c request asked) does (tells ∙ ap (λ (y : LaneNews). Some y) is.told_is) sees.behind) x.3 asks x.5

    commit_finish : (job : ℕ) (clouds : List ℕ) (old : Vault) (answers : List Line) (moments : List Moment) (new : Vault) → FinishLanes s job clouds old answers moments new → Brings s.shape old.jobs vs
        → Contains answers (lines.Step j (cloud_no c) news.Committed) → Sees Known c moments new.peers → KeepsAll (new.peers c)
    commit_finish job [] old answers moments new f b has sees = absurd (contains_nothing _ (subst (λ (l : List Line). Contains l (lines.Step j (cloud_no c) news.Committed)) f.0 has))
    commit_finish job (cloud ∷ clouds) old answers moments new f b has sees =
        found (Contains-append_cases (map (step_line job cloud) f.2 ++ stored_line job (lanes_of old.jobs job) f.4) f.5 (lines.Step j (cloud_no c) news.Committed) (subst (λ (l : List Line). Contains l (lines.Step j (cloud_no c) news.Committed)) f.11 has))
        (λ later. commit_finish job clouds f.3 f.5 f.6 new f.13 (lane_moved s.shape old.jobs f.3.jobs job cloud f.1.lane.state f.4 vs f.9 f.10 b) later
        (record { here = λ m among. sees.here m (subst (λ (l : List Moment). Contains l m) (sym f.12) (Contains-append_right (map (moment_of cloud) f.0) f.6 m among)); behind = sees.behind }))
      where
        behind_mid : (string : List ℕ) → Contains (strings_in (f.3.peers c).list) string → Known string
        behind_mid = sees_first Known c f.3.peers f.6 new.peers (first_finish s job clouds f.3 f.5 f.6 new f.13)
            (record { here = λ m among. sees.here m (subst (λ (l : List Moment). Contains l m) (sym f.12) (Contains-append_right (map (moment_of cloud) f.0) f.6 m among)); behind = sees.behind })

        committed : (x : LaneNews) → Contains f.2 x → IsThat job cloud x j c → KeepsAll (new.peers c)
        committed x among is =
            let tells = subst (Contains f.2) is.told_is among in
            let P : ℕ → Type 0 = λ n. LaneRun (HasVaultExecuted s n) (starting (lane_at (lanes_of old.jobs job) n)) old.peers f.0 f.1 f.3.peers → Tell (lane_at (lanes_of old.jobs job) n) f.0 f.2
            → Sees Known c (map (moment_of n) f.0) f.3.peers → KeepsAll (f.3.peers c) in
            keeps_on (f.3.peers c) (new.peers c)
            (subst P (sym is.cloud_is) (λ run tell seen. by_lane run tell seen tells) f.7 f.8
            (record { here = λ m among. sees.here m (subst (λ (l : List Moment). Contains l m) (sym f.12) (Contains-append_left (map (moment_of cloud) f.0) f.6 m among)); behind = behind_mid }))
            (grows_finish s c told job clouds f.3 f.5 f.6 new f.13)
          where
            by_lane : LaneRun (HasVaultExecuted s c) (starting (lane_at (lanes_of old.jobs job) c)) old.peers f.0 f.1 f.3.peers → Tell (lane_at (lanes_of old.jobs job) c) f.0 f.2 → Sees Known c (map (moment_of c) f.0) f.3.peers
                → Contains f.2 lane_news.Committed → KeepsAll (f.3.peers c)
            by_lane run tell seen tells = by_request (request_of (lane_at (lanes_of old.jobs job) c)) refl
              where
                by_request : (r : Option Request) → request_of (lane_at (lanes_of old.jobs job) c) ≡ r → KeepsAll (f.3.peers c)
                by_request (Some r) asks = commit_run (starting (lane_at (lanes_of old.jobs job) c)) old.peers f.0 f.1 f.3.peers f.2 run tell
                    (work_here s.shape v (lanes_of old.jobs job) c r (lanes_are old job b is.job_is) asks) tells seen
                by_request None asks = absurd (no_turns (HasVaultExecuted s c) (lane_at (lanes_of old.jobs job) c) old.peers f.0 f.1 f.3.peers f.2 asks run tell tells)

        found : Contains (map (step_line job cloud) f.2 ++ stored_line job (lanes_of old.jobs job) f.4) (lines.Step j (cloud_no c) news.Committed) ⊎ Contains f.5 (lines.Step j (cloud_no c) news.Committed)
            → (Contains f.5 (lines.Step j (cloud_no c) news.Committed) → KeepsAll (new.peers c)) → KeepsAll (new.peers c)
        found (inl here) go = elim (Contains-append_cases (map (step_line job cloud) f.2) (stored_line job (lanes_of old.jobs job) f.4) (lines.Step j (cloud_no c) news.Committed) here) [
          | inl steps ↦ (let x = mapped (step_line job cloud) f.2 (lines.Step j (cloud_no c) news.Committed) steps in committed x.0 x.1 (is_that job cloud x.0 j c x.2))
          | inr stored ↦ absurd (not_stored job _ j c stored)
        ]
        found (inr later) go = go later

    pub commit_step : (old : Vault) (event : Event) (answers : List Line) (moments : List Moment) (new : Vault) → VStep s old event answers moments new → Brings s.shape old.jobs vs
        → Contains answers (lines.Step j (cloud_no c) news.Committed) → Sees Known c moments new.peers → KeepsAll (new.peers c)
    commit_step old (events.Upload user path version bytes) answers moments new x b has sees = absurd (not_one _ answers j c x.0 (λ e. cc) has)
    commit_step old (events.Step job lane) answers moments new x b has sees = commit_lane job lane.0 (lanes.request_at (lanes_of old.jobs job) lane.0) old answers moments new refl x b has sees
    commit_step old (events.Lose job lane) answers moments new x b has sees = absurd (not_lose (lanes.request_at (lanes_of old.jobs job) lane.0) x.0 has)
      where
        not_lose : (r : Option Request) → answers ≡ lose_lines job lane.0 r → Contains answers (lines.Step j (cloud_no c) news.Committed) → ⊥
        not_lose None e has = not_one _ answers j c e (λ q. cc) has
        not_lose (Some r) e has = not_one _ answers j c e (λ q. cc) has
    commit_step old (events.Drop job lane) answers moments new x b has sees = absurd (not_drop (lanes.request_at (lanes_of old.jobs job) lane.0) x has)
      where
        not_drop : (r : Option Request) → DropStep s job lane.0 r old answers moments new → Contains answers (lines.Step j (cloud_no c) news.Committed) → ⊥
        not_drop None y has = not_one _ answers j c y.0 (λ q. cc) has
        not_drop (Some r) y has = not_one _ answers j c y.4 (λ q. cc) has
    commit_step old (events.Finish job) answers moments new x b has sees =
        elim (Contains-append_cases x.0 (lines.End job (all_done (lanes_of new.jobs job)) ∷ []) (lines.Step j (cloud_no c) news.Committed) (subst (λ (l : List Line). Contains l (lines.Step j (cloud_no c) news.Committed)) x.2 has)) [
          | inl steps ↦ commit_finish job _ old x.0 moments new x.1 b steps sees
          | inr end ↦ absurd (not_one (lines.End job (all_done (lanes_of new.jobs job))) _ j c refl (λ q. cc) end)
        ]
    commit_step old (events.Get user path version clouds) answers moments new x b has sees = absurd (not_one x.0 answers j c x.2 (not_get x.1.result x.1.file x.0 x.1.line_is) has)
      where
        not_get : (result : Result (Unit {0}) RestoreErr) (file : List ℕ) (line : Line) → IsGetLine result file line → line ≡ lines.Step j (cloud_no c) news.Committed → ⊥
        not_get (Ok u) file line is e = let f : lines.Got file ≡ lines.Step j (cloud_no c) news.Committed = sym is ∙ e in cc
        not_get (Err r) file line is e = let f : lines.Refused is.0 ≡ lines.Step j (cloud_no c) news.Committed = sym is.2 ∙ e in cc
    commit_step old (events.Arm cloud calls keep) answers moments new x b has sees = absurd (not_one _ answers j c x.1 (λ e. cc) has)
    commit_step old (events.Restart cloud) answers moments new x b has sees = absurd (not_one x.0 answers j c x.2 (by_line (x.1.goes)) has)
      where
        not_restart : (result : Result ℕ OpenErr) (line : Line) → IsRestartLine cloud.0 result line → line ≡ lines.Step j (cloud_no c) news.Committed → ⊥
        not_restart (Ok commands) line is e = let f : lines.Restarted (cloud_no cloud.0) commands ≡ lines.Step j (cloud_no c) news.Committed = sym is ∙ e in cc
        not_restart (Err errors.Fault) line is e = let f : lines.Fault (cloud_no cloud.0) ≡ lines.Step j (cloud_no c) news.Committed = sym is ∙ e in cc
        not_restart (Err (errors.NotBegun len)) line is e = let f : lines.Damaged (cloud_no cloud.0) is.0 is.1 ≡ lines.Step j (cloud_no c) news.Committed = sym is.2 ∙ e in cc
        not_restart (Err (errors.OtherStore found asked at)) line is e = let f : lines.Damaged (cloud_no cloud.0) is.0 is.1 ≡ lines.Step j (cloud_no c) news.Committed = sym is.2 ∙ e in cc
        not_restart (Err (errors.Damaged at byte)) line is e = let f : lines.Damaged (cloud_no cloud.0) is.0 is.1 ≡ lines.Step j (cloud_no c) news.Committed = sym is.2 ∙ e in cc

        by_line : RestartStep s cloud.0 x.0 (old.peers cloud.0) (new.peers cloud.0) → x.0 ≡ lines.Step j (cloud_no c) news.Committed → ⊥
        by_line r = not_restart r.0 x.0 r.1
    commit_step old (events.List user cloud) answers moments new x b has sees =
        absurd (not_listed user cloud.0 x.1 j c (subst (λ (l : List Line). Contains l (lines.Step j (cloud_no c) news.Committed)) x.3 has))
    commit_step old (events.Replace cloud) answers moments new x b has sees =
        absurd (not_one x.0 answers j c x.2 (λ e. subst (IsReplaceLine (s.told cloud.0) cloud.0 (old.peers cloud.0).faults (new.peers cloud.0).faults) e x.1.goes.says) has)
    commit_step old (events.Rebuild user target from) answers moments new x b has sees = absurd (not_rebuilt user target.0 x.0.result answers j c x.0.lines_are has)
    commit_step old (events.Delete user path version cloud) answers moments new x b has sees =
        absurd (not_one x.0.1 answers j c x.0.4 (not_deleted cloud.0 x.0.0 x.0.1 j c x.0.3) has)
