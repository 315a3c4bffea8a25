-- Cases that compute, for whoever doubts a definition.
use Rattle.std.proofs.Common.{◌≡◌, ℕ, zero, suc, ◌+◌, ◌<◌, true, false, List, [], ◌∷◌, length, get_or, Some, None, refl, ap, subst, inl, inr, arith}
use Rattle.std.specs.Prelude.{◌≢◌, IsTrue, All, slice_get, Ok, Err}
use Rattle.session.specs.CdBase.ids.Tag.{Tag}
use Rattle.session.specs.CdBase.ids.UserId.{UserId}
use Rattle.session.specs.CdBase.ids.Version.{Version}
use Rattle.session.specs.CdBase.shape.Shape.{Shape}
use Rattle.session.specs.CdEdges.Disk.{Cloud}
use Rattle.rebuild.specs.Messages.request.Request.TheVariants as requests
use Rattle.rebuild.specs.Messages.reply.Reply.TheVariants as replies
use Rattle.subset_restore.proofs.UserDedup.Owned.{contains_here}
use Rattle.rebuild.specs.UploadJob.Upload.{FileVersion}
use Rattle.rebuild.specs.UploadJob.Lane.{LaneState, Committing, Done, Refused}
use Rattle.rebuild.specs.UploadJob.Lanes.{LaneView}
use Rattle.rebuild.specs.LaneSteps.Runs.{starting, progress_after, no_lane}
use Rattle.session.specs.Scripts.{jobs_of}
use Rattle.session.specs.declared.event.Event.{Event}
use Rattle.session.specs.declared.event.Event.TheVariants as events
use Rattle.rebuild.specs.declared.error.SkipWhy.TheVariants as whys
use Rattle.rebuild.specs.declared.error.RebuildErr.TheVariants as rebuild_errors
use Rattle.session.specs.Transcript.line.SkipWord.TheVariants as words
use Rattle.session.specs.Transcript.line.Line.{Line}
use Rattle.session.specs.Transcript.line.Line.TheVariants as lines
use Rattle.session.specs.Transcript.news.News.TheVariants as news
use Rattle.session.specs.Transcript.refusal.Refusal.TheVariants as refusals
use Rattle.session_model.specs.Vault.{Setting, Vault, new_job, opening}
use Rattle.session_model.specs.Steps.{Moment, quiet, cloud_no, version_of, lose_lines, all_done, stored_line, LaneStep, EndsListing, IsReplaceLine, AreRebuildLines, VStep}
use Rattle.session_model.specs.Run.{Answered}
use Rattle.session_model.specs.Kept.{uploads, IsJobNumberOf, EndsKept, IsVersionKept}
use Rattle.session_model.specs.Headline.{Session, IsRun, due, GivesVersion}

shape : Shape
shape = record { n = 4; k = 3; several = omega arith; spare = omega arith; few = omega arith }

user : UserId
user = record { 0 = 7 }

-- versions 1 and 2 of a user's file `a`: one byte, and none
one : FileVersion
one = version_of user (97 ∷ []) (record { 0 = 1 }) (65 ∷ [])

two : FileVersion
two = version_of user (97 ∷ []) (record { 0 = 2 }) []

upload : FileVersion → Event
upload v = events.Upload v.user v.path v.number v.file

script : List Event
script = upload one ∷ events.Step 1 (cloud_no 0) ∷ upload two ∷ events.Finish 2 ∷ []

-- ---- jobs are numbered by their uploads

two_jobs : jobs_of 0 script ≡ 2
unfolding script upload
two_jobs = refl

second_job : IsJobNumberOf script 2 two
unfolding script upload
second_job = (1, refl, refl)

-- ---- what a deletion ends

-- the version at the cloud of the line
deleted_ends : EndsKept 2 one (events.Delete user (97 ∷ []) (record { 0 = 1 }) (cloud_no 2))
unfolding one
deleted_ends = (refl, refl, refl, refl)

-- not at another cloud
elsewhere_lasts : ¬ EndsKept 1 one (events.Delete user (97 ∷ []) (record { 0 = 1 }) (cloud_no 2))
elsewhere_lasts ends = let same : 2 ≡ 1 = ends.0 in omega arith

third_job : (v : FileVersion) → IsJobNumberOf script 3 v → ⊥
unfolding script upload
third_job v is =
    let place : is.0 ≡ 2 = (let e : 3 ≡ is.0 + 1 = is.1 in omega arith) in
    let none : slice_get (uploads script) 2 ≡ Some v = subst (λ (n : ℕ). slice_get (uploads script) n ≡ Some v) place is.2 in
    let f : None ≡ Some v = none in cc

-- ---- lists and replacements

-- a full page is no last one
not_last : (cloud : ℕ) (page : List (Tag × Version)) → length page ≡ 256 → EndsListing cloud (replies.Entries page) (Ok page) → ⊥
not_last cloud page full ends = let lt : length page < 256 = ends.0 in omega (arith, full, lt)

-- no entry is left out
none_left_out : (cloud : ℕ) (entry : Tag × Version) → EndsListing cloud (replies.Entries (entry ∷ [])) (Ok []) → ⊥
none_left_out cloud entry ends = let e : Ok [] ≡ Ok (entry ∷ []) = ends.1 in cc

-- a replaced cloud has no commands, whatever is answered
replaced_empty : (s : Setting) (old new : Vault) (answers : List Line) (moments : List Moment) → VStep s old (events.Replace (cloud_no 2)) answers moments new → (new.peers 2).list ≡ []
replaced_empty s old new answers moments step = step.1.goes.list

-- behind a fault it isn't called replaced
not_replaced : (cloud faults : ℕ) → IsReplaceLine true cloud faults (faults + 1) (lines.Replaced (cloud_no cloud)) → ⊥
not_replaced cloud faults says = let e : faults + 1 ≡ faults = says.1 in omega (arith, e)

-- a told cloud isn't called damaged
not_damaged : (cloud faults at byte : ℕ) → IsReplaceLine true cloud faults faults (lines.Damaged (cloud_no cloud) at byte) → ⊥
not_damaged cloud faults at byte says = let f : true ≡ false = says.1 in cc

-- ---- lanes

-- a lane without a request sends nothing
nothing_sent : (old new : Vault) (answers : List Line) (moments : List Moment) (s : Setting) → LaneStep s 1 2 None old answers moments new
    → (answers ≡ lines.Step 1 (cloud_no 2) news.Done ∷ []) × (new ≡ old)
nothing_sent old new answers moments s step = (step.0, step.2)

lost_nothing : lose_lines 1 2 None ≡ lines.Step 1 (cloud_no 2) news.Done ∷ []
lost_nothing = refl

lost_request : lose_lines 1 2 (Some requests.Hello) ≡ lines.Lost 1 (cloud_no 2) ∷ []
lost_request = refl

lane : LaneState → LaneView
lane state = record { work = no_lane.work; state = state }

-- the step that commits the last lane tells that the job is stored, and none does so again
last_lane : stored_line 1 (lane Done ∷ lane Committing ∷ []) (lane Done ∷ lane Done ∷ []) ≡ lines.JobStored 1 ∷ []
unfolding lane
last_lane = refl

one_lane : stored_line 1 (lane Committing ∷ lane Committing ∷ []) (lane Done ∷ lane Committing ∷ []) ≡ []
unfolding lane
one_lane = refl

refused_lane : all_done (lane Done ∷ lane Refused ∷ []) ≡ false
unfolding lane
refused_lane = refl

-- a finish goes on behind the first Lacking of a lane, and not behind the second
lacked_once : (progress_after (starting (lane Committing)) (replies.Lacking 0)).stopped ≡ false
unfolding lane
lacked_once = refl

lacked_twice : (progress_after (progress_after (starting (lane Committing)) (replies.Lacking 0)) (replies.Lacking 0)).stopped ≡ true
unfolding lane
lacked_twice = refl

-- ---- answers

-- the first upload is job 1 and no other
first_job : (s : Setting) (clouds : ℕ → Cloud) (job : ℕ) (moments : List Moment) (new : Vault) → VStep s (opening clouds) (upload one) (lines.Job job ∷ []) moments new → job ≡ 1
unfolding upload
first_job s clouds job moments new step = let e : lines.Job job ∷ [] ≡ lines.Job 1 ∷ [] = step.0 in cc

-- a rebuild that brought nothing and skipped one version says both; one that memory ran out in says nothing
skipped_one : (tag : Tag) (version : Version) → AreRebuildLines user 2 (Ok (record { files = 0; skipped = record { tag = tag; version = version; why = whys.TargetExists } ∷ [] }))
    (lines.Rebuilt user (cloud_no 2) 0 1 ∷ lines.Skipped tag version words.TargetExists ∷ [])
skipped_one tag version = refl

none_told : (answers : List Line) → AreRebuildLines user 2 (Err rebuild_errors.NoMemory) answers → ⊥
none_told answers are = let f : None ≡ Some are.0 = are.1 in cc

-- before the clouds are opened no line is due
unopened : (run : Session) → run.opened ≡ false → run.history ≡ [] → due run ≡ []
unopened run closed none = rw (closed, none) refl

-- a get of a version that its clouds acknowledged isn't answered by other bytes, nor by a refusal other than a fault
no_other_bytes : (clouds : List ℕ) (a : Answered) → GivesVersion clouds one a (lines.Got (66 ∷ []) ∷ []) → ⊥
unfolding one
no_other_bytes clouds a gives =
    let bytes : 66 ∷ [] ≡ 65 ∷ [] = gives in
    let same : 66 ≡ 65 = ap (λ (l : List ℕ). get_or l 0 0) bytes in
    omega (arith, same)

not_missing : (clouds : List ℕ) (a : Answered) (cloud : ℕ) → GivesVersion clouds one a (lines.Refused (refusals.Missing (cloud_no cloud)) ∷ []) → ⊥
not_missing clouds a cloud gives = gives

-- ---- a run: the script of the one line `upload 7 61 1 41`

single : (P : ℕ → Type 0) (x : ℕ) → P x → All P (x ∷ [])
single P x holds zero d lt = holds
single P x holds (suc k) d lt = absurd (omega arith)

uploaded : Setting → (ℕ → Cloud) → Session
uploaded s clouds =
    let after : Vault = record { peers = (opening clouds).peers; jobs = new_job s one ∷ [] } in record {
      setting = s;
      opened = true;
      history = record {
        before = opening clouds;
        event = upload one;
        answers = lines.Job 1 ∷ [];
        moments = quiet (opening clouds).peers;
        after = after;
      } ∷ [];
      between = after;
      begun = None;
      last = (opening clouds).peers;
    }

uploaded_run : (s : Setting) (clouds : ℕ → Cloud) → IsRun clouds (uploaded s clouds)
unfolding uploaded upload one user
uploaded_run s clouds = record {
  unopened = λ e. absurd (let f : true ≡ false = e in cc);
  lines = (
    record {
      allowed = omega arith;
      named = record {
        some = omega arith;
        few = omega arith;
        no_zero = single (λ byte. byte ≢ 0) 97 (λ (e : 97 ≡ 0). omega (arith, e));
      };
      few = omega arith;
    },
    (omega arith, single (λ byte. byte < 256) 97 (omega arith), omega arith, single (λ byte. byte < 256) 65 (omega arith)),
    tt,
  );
  answered = (refl, (refl, refl, refl, refl), refl);
  begun = refl;
}

uploaded_due : (s : Setting) (clouds : ℕ → Cloud) → due (uploaded s clouds) ≡ lines.Opened s.shape ∷ lines.Job 1 ∷ []
unfolding uploaded
uploaded_due s clouds = refl

-- ---- what is acknowledged

module _ (s : Setting) (v w : Vault) (told : IsTrue (s.told 0)) where
  line : Event → List Line → Answered
  line event answers = record { before = v; event = event; answers = answers; moments = []; after = w }

  -- the newest first: job 1 was committed at cloud 0, and a get was answered since
  history : List Answered
  history =
      line (events.Get user (97 ∷ []) (record { 0 = 1 }) (0 ∷ 1 ∷ 2 ∷ [])) (lines.Got (65 ∷ []) ∷ [])
      ∷ line (events.Step 1 (cloud_no 0)) (lines.Step 1 (cloud_no 0) news.Committed ∷ [])
      ∷ line (upload one) (lines.Job 1 ∷ []) ∷ []

  kept_there : IsVersionKept s history 0 one
  unfolding history line upload
  kept_there = (told, inr (inr ((told, inl (1, (0, refl, refl), contains_here (lines.Step 1 (cloud_no 0) news.Committed) [])), λ ends. ends)))
