-- Cases that compute, for whoever doubts a definition of a user's own session.
use Rattle.std.proofs.Common.{◌≡◌, ◌≢◌, ℕ, zero, suc, ◌<◌, true, false, List, [], ◌∷◌, map, None, Ok, refl, sym, ap, subst, inl, inr, ◌⊎◌, arith}
use Rattle.std.specs.Prelude.{All, IsTrue, IsSomeAnd}
use Rattle.std.specs.List.{Contains}
use Rattle.recipe.specs.CdBase.ids.UserId.{UserId}
use Rattle.recipe.specs.CdBase.ids.Version.{Version}
use Rattle.session_model.specs.CdEdges.Causes.{Rose}
use Rattle.session_model.specs.CdEdges.Disk.{Cloud}
use Rattle.rabin_chunker.specs.Cuts.{start_at, ends_after, last_end, ends}
use Rattle.session_model.specs.CaontRs.Package.{share}
use Rattle.session_model.specs.FileRecipe.FileRecipe.{secrets}
use Rattle.session_model.specs.JournalStart.rooms.UserRooms.{UserRooms}
use Rattle.session_model.specs.Messages.request.Request.TheVariants as requests
use Rattle.session_model.specs.Messages.reply.Reply.TheVariants as replies
use Rattle.session_model.specs.UserDedup.Cloud.{strings_in}
use Rattle.session_model.specs.UserDedup.Exec.{Peer}
use Rattle.session_model.proofs.UserDedup.Owned.{contains_cases, contains_nothing}
use Rattle.session_model.proofs.UserDedup.Rows.{shape}
use Rattle.session_model.specs.UploadJob.Upload.{FileVersion, shares_for}
use Rattle.session_model.specs.LaneSteps.Runs.{LaneTurn}
use Rattle.session_model.specs.LocalLink.Calls.{no_commands}
use Rattle.session_model.specs.Session.event.Event.{Event}
use Rattle.session_model.specs.Session.event.Event.TheVariants as events
use Rattle.session_model.specs.Session.Spelling.{IsUpload}
use Rattle.session_model.specs.Transcript.line.Line.{Line}
use Rattle.session_model.specs.Transcript.line.Line.TheVariants as lines
use Rattle.session_model.specs.Transcript.news.News.TheVariants as news
use Rattle.session_model.specs.Vault.{Setting, Vault, HasVaultExecuted, new_job, opening}
use Rattle.session_model.specs.Steps.{Moment, quiet, moment_of, cloud_no, version_of, RestartStep}
use Rattle.session_model.specs.Run.{Answered}
use Rattle.session_model.specs.Kept.{IsDispersed}
use Rattle.session_model.specs.Headline.{Session, IsRun, script_in, moments_in}
use Rattle.two_worlds.specs.Worlds.{mine, answers_from, is_arm, IsSentAt, ClashAsked, MayStand, ArmsNone, IsCalm, sent_strings}

abbrev seven : UserId
seven = record { 0 = 7 }

abbrev eight : UserId
eight = record { 0 = 8 }

abbrev first : Version
first = record { 0 = 1 }

abbrev upload : UserId → Event
upload user = events.Upload user (97 ∷ []) first (65 ∷ [])

-- two users: user 7 has jobs 1 and 3, user 8 has job 2
abbrev script : List Event
script =
    upload seven ∷ upload eight ∷ events.Step 2 (cloud_no 0) ∷ events.Step 1 (cloud_no 0) ∷ events.Lose 2 (cloud_no 1) ∷ events.Restart (cloud_no 0)
    ∷ upload seven ∷ events.Finish 3 ∷ events.Delete eight (97 ∷ []) first (cloud_no 2) ∷ events.List seven (cloud_no 0) ∷ events.Replace (cloud_no 1)
    ∷ events.Drop 3 (cloud_no 2) ∷ events.Finish 2 ∷ events.Rebuild eight (cloud_no 3) (0 ∷ 1 ∷ 2 ∷ []) ∷ []

-- job 3 is job 2 of user 7; lines of nobody are in both scripts
lines_of_seven : mine seven script
    ≡ upload seven ∷ events.Step 1 (cloud_no 0) ∷ events.Restart (cloud_no 0) ∷ upload seven ∷ events.Finish 2 ∷ events.List seven (cloud_no 0) ∷ events.Replace (cloud_no 1)
    ∷ events.Drop 2 (cloud_no 2) ∷ []
lines_of_seven = refl

-- job 2 is job 1 of user 8
lines_of_eight : mine eight script
    ≡ upload eight ∷ events.Step 1 (cloud_no 0) ∷ events.Lose 1 (cloud_no 1) ∷ events.Restart (cloud_no 0) ∷ events.Delete eight (97 ∷ []) first (cloud_no 2) ∷ events.Replace (cloud_no 1)
    ∷ events.Finish 1 ∷ events.Rebuild eight (cloud_no 3) (0 ∷ 1 ∷ 2 ∷ []) ∷ []
lines_of_eight = refl

-- a user without lines has the lines of nobody
lines_of_nine : mine (record { 0 = 9 }) script ≡ events.Restart (cloud_no 0) ∷ events.Replace (cloud_no 1) ∷ []
lines_of_nine = refl

-- answers: those of the user's own lines, the jobs with the user's numbers; what nobody's lines are told isn't among them
module _ (v : Vault) where
  abbrev answered : Event → List Line → Answered
  answered event answers = record { before = v; event = event; answers = answers; moments = []; after = v }

  abbrev history : List Answered
  history =
      answered (upload seven) (lines.Job 1 ∷ []) ∷ answered (upload eight) (lines.Job 2 ∷ [])
      ∷ answered (events.Step 2 (cloud_no 0)) (lines.Step 2 (cloud_no 0) (news.Known 0 1) ∷ [])
      ∷ answered (events.Restart (cloud_no 0)) (lines.Restarted (cloud_no 0) 5 ∷ [])
      ∷ answered (events.Step 1 (cloud_no 0)) (lines.Step 1 (cloud_no 0) (news.Known 0 1) ∷ [])
      ∷ answered (upload eight) (lines.Job 3 ∷ [])
      ∷ answered (events.Finish 3) (lines.Step 3 (cloud_no 0) news.Committed ∷ lines.JobStored 3 ∷ lines.End 3 true ∷ []) ∷ []

  answers_of_seven : answers_from seven [] history ≡ lines.Job 1 ∷ lines.Step 1 (cloud_no 0) (news.Known 0 1) ∷ []
  answers_of_seven = refl

  answers_of_eight : answers_from eight [] history
      ≡ lines.Job 1 ∷ lines.Step 1 (cloud_no 0) (news.Known 0 1) ∷ lines.Job 2 ∷ lines.Step 2 (cloud_no 0) news.Committed ∷ lines.JobStored 2 ∷ lines.End 2 true ∷ []
  answers_of_eight = refl

-- ---- a session that meets the premises: two users upload empty files, one lists its own, and a cloud is opened again

module _ (rooms : UserRooms) (clouds : ℕ → Cloud) (fresh : MayStand shape clouds) where
  abbrev all_told : Setting
  all_told = record { shape = shape; rooms = rooms; told = λ c. true }

  abbrev empty_file : UserId → FileVersion
  empty_file user = version_of user (97 ∷ []) first []

  abbrev begun : ℕ → Peer
  begun c = no_commands (clouds c)

  abbrev after_one : Vault
  after_one = record { peers = begun; jobs = new_job all_told (empty_file seven) ∷ [] }

  abbrev after_two : Vault
  after_two = record { peers = begun; jobs = new_job all_told (empty_file seven) ∷ new_job all_told (empty_file eight) ∷ [] }

  abbrev listing : LaneTurn (ℕ → Peer)
  listing = record { before = begun; request = requests.List seven None; reply = replies.Entries [] }

  abbrev calm_history : List Answered
  calm_history =
      record { before = opening clouds; event = events.Upload seven (97 ∷ []) first []; answers = lines.Job 1 ∷ []; moments = quiet begun; after = after_one }
      ∷ record { before = after_one; event = events.Upload eight (97 ∷ []) first []; answers = lines.Job 2 ∷ []; moments = quiet begun; after = after_two }
      ∷ record { before = after_two; event = events.List seven (cloud_no 0); answers = lines.Entries seven (cloud_no 0) 0 ∷ []; moments = moment_of 0 listing ∷ []; after = after_two }
      ∷ record { before = after_two; event = events.Restart (cloud_no 0); answers = lines.Restarted (cloud_no 0) 0 ∷ []; moments = quiet begun; after = after_two }
      ∷ []

  abbrev calm_session : Session
  calm_session = record { setting = all_told; opened = true; history = calm_history; between = after_two; begun = None; last = begun }

  listed : HasVaultExecuted all_told 0 begun (requests.List seven None) (replies.Entries []) begun
  listed = record {
    does = record {
      counts = record { faults = omega arith; armings = refl };
      does = inl (record { before = []; settled = inl refl; served = refl; list = refl; pending = refl });
    };
    others = λ other ne. refl;
  }

  reopened : RestartStep all_told 0 (lines.Restarted (cloud_no 0) 0) (begun 0) (begun 0)
  reopened = (Ok 0, refl, (record { list = inl refl; pending = refl }, refl, refl, refl))

  single : (P : ℕ → Type 0) (x : ℕ) → P x → All P (x ∷ [])
  single P x holds zero d lt = holds
  single P x holds (suc i) d lt = absurd (omega arith)

  nothing_in : (P : ℕ → Type 0) → All P []
  nothing_in P i d lt = absurd (omega arith)

  an_upload : (jobs : ℕ) → jobs < 1000 → IsUpload jobs (97 ∷ []) []
  an_upload jobs below = record {
    allowed = below;
    named = record { some = omega arith; few = omega arith; no_zero = single (λ byte. byte ≢ 0) 97 (λ (e : 97 ≡ 0). omega (arith, e)) };
    few = omega arith;
  }

  calm_run : IsRun clouds calm_session
  calm_run = record {
    unopened = λ e. absurd (let f : true ≡ false = e in cc);
    lines = (
      an_upload 0 (omega arith),
      (omega arith, single (λ byte. byte < 256) 97 (omega arith), omega arith, nothing_in (λ byte. byte < 256)),
      (
        an_upload 1 (omega arith),
        (omega arith, single (λ byte. byte < 256) 97 (omega arith), omega arith, nothing_in (λ byte. byte < 256)),
        (omega arith, omega arith, (omega arith, tt, tt)),
      ),
    );
    answered = (
      refl,
      (refl, refl, refl, refl),
      (
        refl,
        (refl, refl, refl, refl),
        (
          refl,
          (listing ∷ [], Ok [], (refl, refl, (begun, listed, inl ((omega arith, refl), refl, refl))), refl, refl, refl),
          (
            refl,
            (lines.Restarted (cloud_no 0) 0, record { goes = reopened; others = λ other ne. refl }, refl, refl, refl),
            refl,
          ),
        ),
      ),
    );
    begun = refl;
  }

  no_secrets : secrets [] ≡ []
  unfolding secrets ends ends_after last_end start_at
  no_secrets = refl

  abbrev quiet_moment : Moment
  quiet_moment = record { peers = begun; event = None }

  abbrev asking_moment : Moment
  asking_moment = moment_of 0 listing

  by_moment : (P : Moment → Type 0) → P quiet_moment → P asking_moment → (m : Moment) → Contains (quiet_moment ∷ quiet_moment ∷ asking_moment ∷ quiet_moment ∷ []) m → P m
  by_moment P calm asks m has = elim (contains_cases quiet_moment (quiet_moment ∷ asking_moment ∷ quiet_moment ∷ []) m has) [
    | inl same ↦ subst P same calm
    | inr more ↦ elim (contains_cases quiet_moment (asking_moment ∷ quiet_moment ∷ []) m more) [
      | inl same ↦ subst P same calm
      | inr later ↦ elim (contains_cases asking_moment (quiet_moment ∷ []) m later) [
        | inl same ↦ subst P same asks
        | inr last ↦ elim (contains_cases quiet_moment [] m last) [
          | inl same ↦ subst P same calm
          | inr none ↦ absurd (contains_nothing m none)
        ]
      ]
    ]
  ]

  no_share : (c : ℕ) (y : List ℕ) (v : FileVersion) → Contains (empty_file seven ∷ empty_file eight ∷ []) v → Contains (shares_for shape c v.file) y → ⊥
  no_share c y v has share_has = of_empty v.file (empty_of (contains_cases (empty_file seven) (empty_file eight ∷ []) v has)) share_has
    where
      empty_of : (empty_file seven ≡ v) ⊎ Contains (empty_file eight ∷ []) v → v.file ≡ []
      empty_of (inl same) = ap (λ (w : FileVersion). w.file) (sym same)
      empty_of (inr later) = elim (contains_cases (empty_file eight) [] v later) [
        | inl same ↦ ap (λ (w : FileVersion). w.file) (sym same)
        | inr none ↦ absurd (contains_nothing v none)
      ]

      of_empty : (file : List ℕ) → file ≡ [] → Contains (shares_for shape c file) y → ⊥
      of_empty file none h =
          contains_nothing y (subst (λ (l : List (List ℕ)). Contains (map (share shape c) l) y) no_secrets (subst (λ (f : List ℕ). Contains (shares_for shape c f) y) none h))

  -- no string is dispersed or asked
  no_string : (c : ℕ) (y : List ℕ) → IsDispersed shape (script_in calm_session) (moments_in calm_session) begun c y ⊎ IsSentAt (moments_in calm_session) c y → ⊥
  no_string c y (inl (inl x)) = no_share c y x.0 x.1 x.2
  no_string c y (inl (inr (inl x))) = by_moment (λ m. Contains (strings_in (m.peers c).list) y → ⊥) (λ h. contains_nothing y h) (λ h. contains_nothing y h) x.0 x.1 x.2
  no_string c y (inl (inr (inr x))) = contains_nothing y x
  no_string c y (inr x) =
      by_moment (λ m. IsSomeAnd m.event (λ e. (e.cloud ≡ c) × Contains (sent_strings e.request) y) → ⊥) (λ h. h) (λ h. contains_nothing y h.1) x.0 x.1 x.2

  pub is_calm : IsCalm clouds calm_session
  is_calm = record {
    ran = record { is = calm_run; whole = whole; told = all; still = still };
    arms = arms;
    clash = λ x. no_string x.cloud x.one (first_of x);
  }
    where
      whole : calm_session.begun ≡ None
      whole = refl

      all : (cloud : ℕ) → cloud < calm_session.setting.shape.n → IsTrue (calm_session.setting.told cloud)
      all cloud below = refl

      still : (cloud : ℕ) → cloud < calm_session.setting.shape.n → ¬ Rose (clouds cloud).faults (calm_session.last cloud).faults
      still cloud below = fresh cloud below

      arms : ArmsNone calm_session
      arms event has = elim (contains_cases (events.Upload seven (97 ∷ []) first []) (events.Upload eight (97 ∷ []) first [] ∷ events.List seven (cloud_no 0) ∷ events.Restart (cloud_no 0) ∷ []) event has) [
        | inl same ↦ ap is_arm (sym same)
        | inr later ↦ elim (contains_cases (events.Upload eight (97 ∷ []) first []) (events.List seven (cloud_no 0) ∷ events.Restart (cloud_no 0) ∷ []) event later) [
          | inl same ↦ ap is_arm (sym same)
          | inr more ↦ elim (contains_cases (events.List seven (cloud_no 0)) (events.Restart (cloud_no 0) ∷ []) event more) [
            | inl same ↦ ap is_arm (sym same)
            | inr last ↦ elim (contains_cases (events.Restart (cloud_no 0)) [] event last) [
              | inl same ↦ ap is_arm (sym same)
              | inr none ↦ absurd (contains_nothing event none)
            ]
          ]
        ]
      ]

      first_of : (x : ClashAsked calm_session) → IsDispersed shape (script_in calm_session) (moments_in calm_session) begun x.cloud x.one ⊎ IsSentAt (moments_in calm_session) x.cloud x.one
      first_of x = x.first
