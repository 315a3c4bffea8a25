-- Which clouds beyond the last one are told is nothing to a session.
use Rattle.std.proofs.Common.{◌≡◌, ℕ, ◌<◌, ◌-◌, Bool, true, false, List, [], ◌∷◌, length, Option, Some, None, Result, Ok, Err, sym, ◌∙◌, subst, inl, inr, arith}
use Rattle.std.specs.Prelude.{All, IsTrue, IfErr, slice_get}
use Rattle.std.specs.Bool.{MatchBool}
use Rattle.std.specs.List.{Contains, range_with_len}
use Rattle.std.proofs.lemmas.List.Elements.{All-contains}
use Rattle.recipe.specs.CdBase.ids.Tag.{Tag}
use Rattle.recipe.specs.CdBase.ids.UserId.{UserId}
use Rattle.recipe.specs.CdBase.ids.Version.{Version}
use Rattle.recipe.specs.CdBase.shape.Shape.{Shape}
use Rattle.session_model.specs.JournalStart.rooms.UserRooms.{UserRooms}
use Rattle.session_model.specs.Messages.request.Request.{Request}
use Rattle.session_model.specs.Messages.request.Request.TheVariants as requests
use Rattle.session_model.specs.Messages.reply.Reply.{Reply}
use Rattle.session_model.specs.UserDedup.Exec.{Peer, Exec}
use Rattle.session_model.proofs.UserDedup.Owned.{contains_here, contains_later, contains_cases}
use Rattle.session_model.specs.ShareServer.Serving.{ReopensAs}
use Rattle.session_model.specs.UploadJob.Lanes as lanes
use Rattle.session_model.specs.LaneSteps.Runs.{LaneTurn, Progress, LaneRun, progress_after}
use Rattle.session_model.specs.RestoreJob.error.RestoreErr.{RestoreErr}
use Rattle.session_model.specs.RestoreJob.error.RestoreErr.TheVariants as refusals
use Rattle.session_model.specs.RestoreJob.Refusals.{Names, Causes}
use Rattle.session_model.specs.Rebuild.error.RebuildErr.{RebuildErr}
use Rattle.session_model.specs.Rebuild.error.RebuildErr.TheVariants as errors
use Rattle.session_model.specs.Rebuild.skips.Rebuilt.{Rebuilt}
use Rattle.session_model.specs.Rebuild.Over.{HandsOn, ReadCaused}
use Rattle.session_model.specs.Rebuild.Over as rebuilding
use Rattle.session_model.specs.KeptFiles.Kept.{key_of}
use Rattle.session_model.specs.Session.event.Event.{Event}
use Rattle.session_model.specs.Session.event.Event.TheVariants as events
use Rattle.session_model.specs.Session.Spelling.{FitsEvent}
use Rattle.session_model.specs.Session.Scripts.{AreLines, jobs_after}
use Rattle.session_model.specs.Transcript.refusal.Refusal.{Refusal}
use Rattle.session_model.specs.Transcript.line.Line.{Line}
use Rattle.session_model.specs.Vault.{Setting, Vault, HasVaultExecuted, ExecutesAll, OneGoes, served_at, lanes_of}
use Rattle.session_model.specs.Steps.{Moment, told_so, LaneStep, DropStep, FinishLanes, GetStep, ListRun, ReopensUntold, RestartStep, IsReplaceLine, ReplaceStep, AllTold, RebuildStep, VStep}
use Rattle.session_model.specs.Run.{Answered, Turns, script_of}
use Rattle.two_worlds.proofs.Lines.{in_range}

module _ (shape : Shape) (rooms : UserRooms) (one two : ℕ → Bool) (yes_one : (c : ℕ) → c < shape.n → one c ≡ true) (yes_two : (c : ℕ) → c < shape.n → two c ≡ true) where
  abbrev s : Setting
  s = record { shape = shape; rooms = rooms; told = one }

  abbrev t : Setting
  t = record { shape = shape; rooms = rooms; told = two }

  same : (c : ℕ) → c < shape.n → one c ≡ two c
  same c below = yes_one c below ∙ sym (yes_two c below)

  never : (c : ℕ) → c < shape.n → one c ≡ false → ⊥
  never c below none = let no : true ≡ false = sym (yes_one c below) ∙ none in cc

  module _ (cloud : ℕ) (below : cloud < shape.n) where
    exec_there : (p : Peer) (request : Request) (reply : Reply) (q : Peer) → Exec shape (one cloud) (served_at s cloud) p request reply q → Exec shape (two cloud) (served_at t cloud) p request reply q
    exec_there p request reply q x = subst (λ (b : Bool). Exec shape b (served_at s cloud) p request reply q) (same cloud below) x

    executes_there : (old new : ℕ → Peer) (request : Request) (reply : Reply) → HasVaultExecuted s cloud old request reply new → HasVaultExecuted t cloud old request reply new
    executes_there old new request reply x = record { does = exec_there (old cloud) request reply (new cloud) x.does; others = x.others }

    run_there : (p : Progress) (old : ℕ → Peer) (turns : List (LaneTurn (ℕ → Peer))) (last : Progress) (new : ℕ → Peer) → LaneRun (HasVaultExecuted s cloud) p old turns last new → LaneRun (HasVaultExecuted t cloud) p old turns last new
    run_there p old [] last new run = run
    run_there p old (u ∷ turns) last new run =
        (run.0, run.1, run.2, (run.3.0, executes_there old run.3.0 u.request u.reply run.3.1, run_there (progress_after p u.reply) run.3.0 turns last new run.3.2))

    list_there : (user : UserId) (above : Option (Tag × Version)) (old : ℕ → Peer) (turns : List (LaneTurn (ℕ → Peer))) (listed : Result (List (Tag × Version)) Refusal) (new : ℕ → Peer)
        → ListRun s user cloud above old turns listed new → ListRun t user cloud above old turns listed new
    list_there user above old [] listed new run = run
    list_there user above old (u ∷ turns) listed new run =
        let there = executes_there old run.2.0 u.request u.reply run.2.1 in
        elim run.2.2 [
          | inl x ↦ (run.0, run.1, (run.2.0, there, inl x))
          | inr x ↦ (run.0, run.1, (run.2.0, there, inr (x.0, x.1, x.2, x.3, x.4, list_there user (slice_get x.0 (length x.0 - 1)) run.2.0 turns x.1 new x.5)))
        ]

    all_there : (old : Peer) (turns : List (LaneTurn Peer)) (new : Peer) → ExecutesAll s cloud old turns new → ExecutesAll t cloud old turns new
    all_there old [] new x = x
    all_there old (u ∷ turns) new x = (x.0, (x.1.0, exec_there old u.request u.reply x.1.0 x.1.1, all_there x.1.0 turns new x.1.2))

    lane_there : (job : ℕ) (request : Option Request) (old : Vault) (answers : List Line) (moments : List Moment) (new : Vault) → LaneStep s job cloud request old answers moments new
        → LaneStep t job cloud request old answers moments new
    lane_there job None old answers moments new x = x
    lane_there job (Some request) old answers moments new x = (x.0, x.1, x.2, executes_there old.peers new.peers request x.0 x.3, x.4, x.5, x.6, x.7, x.8)

    drop_there : (job : ℕ) (request : Option Request) (old : Vault) (answers : List Line) (moments : List Moment) (new : Vault) → DropStep s job cloud request old answers moments new
        → DropStep t job cloud request old answers moments new
    drop_there job None old answers moments new x = x
    drop_there job (Some request) old answers moments new x = (x.0, executes_there old.peers new.peers request x.0 x.1, x.2, x.3, x.4)

    restart_there : (line : Line) (p q : Peer) → RestartStep s cloud line p q → RestartStep t cloud line p q
    restart_there line p q x = (x.0, x.1, subst (λ (b : Bool). MatchBool b (ReopensAs true p q x.0) (ReopensUntold x.0 p q)) (same cloud below) x.2)

    replace_there : (line : Line) (p q : Peer) → ReplaceStep s cloud line p q → ReplaceStep t cloud line p q
    replace_there line p q x = record {
      list = x.list;
      pending = x.pending;
      armings = x.armings;
      says = subst (λ (b : Bool). IsReplaceLine b cloud p.faults q.faults line) (same cloud below) x.says;
    }

  finish_there : (job : ℕ) (clouds : List ℕ) → ((c : ℕ) → Contains clouds c → c < shape.n) → (old : Vault) (answers : List Line) (moments : List Moment) (new : Vault)
      → FinishLanes s job clouds old answers moments new → FinishLanes t job clouds old answers moments new
  finish_there job [] below old answers moments new f = f
  finish_there job (cloud ∷ clouds) below old answers moments new f = (
    f.0,
    f.1,
    f.2,
    f.3,
    f.4,
    f.5,
    f.6,
    run_there cloud (below cloud (contains_here cloud clouds)) _ old.peers f.0 f.1 f.3.peers f.7,
    f.8,
    f.9,
    f.10,
    f.11,
    f.12,
    finish_there job clouds (λ c has. below c (contains_later cloud clouds c has)) f.3 f.5 f.6 new f.13,
  )

  -- ---- what is read

  module _ (clouds : List ℕ) (within : (c : ℕ) → Contains clouds c → c < shape.n) where
    restore_caused : (user : UserId) (key : Tag × Version) (r : Result (Unit {0}) RestoreErr) (old new : ℕ → Peer) → IfErr r (Names (Contains clouds))
        → Causes (told_so shape) one shape user key r old new → Causes (told_so shape) two shape user key r old new
    restore_caused user key (Ok x) old new named c = c
    restore_caused user key (Err (refusals.Missing cloud)) old new named c = λ told. c (yes_one cloud.0 (within cloud.0 named))
    restore_caused user key (Err (refusals.Lost cloud)) old new named c = c
    restore_caused user key (Err (refusals.CloudFault cloud)) old new named c = c
    restore_caused user key (Err (refusals.CloudDamaged cloud at byte)) old new named c = absurd (never cloud.0 (within cloud.0 named) c)
    restore_caused user key (Err (refusals.CloudRotten cloud hash found)) old new named c = absurd (never cloud.0 (within cloud.0 named) c)
    restore_caused user key (Err (refusals.CloudNoMemory cloud)) old new named c = absurd (never cloud.0 (within cloud.0 named) c)
    restore_caused user key (Err (refusals.Strange cloud kind)) old new named c = absurd (never cloud.0 (within cloud.0 named) c)
    restore_caused user key (Err (refusals.RecipesDiffer a b place)) old new named c = c
    restore_caused user key (Err (refusals.ShareLength cloud secret found wanted)) old new named c = c
    restore_caused user key (Err (refusals.BadShare cloud secret hash found)) old new named c = absurd (never cloud.0 (within cloud.0 named) c)
    restore_caused user key (Err (refusals.BadSecret secret hash found)) old new named c = c
    restore_caused user key (Err (refusals.BadPad secret at byte)) old new named c = c
    restore_caused user key (Err refusals.NoMemory) old new named c = c

    get_there : (user : UserId) (path : List ℕ) (version : Version) (old new : ℕ → Peer) (line : Line) → GetStep s user path version clouds old line new → GetStep t user path version clouds old line new
    get_there user path version old new line x = record {
      result = x.result;
      file = x.file;
      line_is = x.line_is;
      found = x.found;
      read = x.read;
      named = x.named;
      caused = restore_caused user (key_of shape path version) x.result old new x.named x.caused;
      told = λ all. x.told (λ c has. yes_one c (within c has));
    }

    read_caused : (e : RestoreErr) (old new : ℕ → Peer) → Names (Contains clouds) e → ReadCaused (told_so shape) one e old new → ReadCaused (told_so shape) two e old new
    read_caused (refusals.Missing cloud) old new named c = c
    read_caused (refusals.Lost cloud) old new named c = c
    read_caused (refusals.CloudFault cloud) old new named c = c
    read_caused (refusals.CloudDamaged cloud at byte) old new named c = absurd (never cloud.0 (within cloud.0 named) c)
    read_caused (refusals.CloudRotten cloud hash found) old new named c = absurd (never cloud.0 (within cloud.0 named) c)
    read_caused (refusals.CloudNoMemory cloud) old new named c = absurd (never cloud.0 (within cloud.0 named) c)
    read_caused (refusals.Strange cloud kind) old new named c = absurd (never cloud.0 (within cloud.0 named) c)
    read_caused (refusals.RecipesDiffer a b place) old new named c = c
    read_caused (refusals.ShareLength cloud secret found wanted) old new named c = c
    read_caused (refusals.BadShare cloud secret hash found) old new named c = absurd (never cloud.0 (within cloud.0 named) c)
    read_caused (refusals.BadSecret secret hash found) old new named c = c
    read_caused (refusals.BadPad secret at byte) old new named c = c
    read_caused refusals.NoMemory old new named c = c

    rebuild_caused : (target : ℕ) → target < shape.n → (r : Result Rebuilt RebuildErr) (old new : ℕ → Peer) → HandsOn clouds r
        → rebuilding.CausesRebuildEnd (told_so shape) one target r old new → rebuilding.CausesRebuildEnd (told_so shape) two target r old new
    rebuild_caused target below (Ok x) old new hands c = c
    rebuild_caused target below (Err (errors.FromRestore e)) old new hands c = read_caused e old new hands.1 c
    rebuild_caused target below (Err errors.TargetLost) old new hands c = c
    rebuild_caused target below (Err errors.TargetFault) old new hands c = c
    rebuild_caused target below (Err (errors.TargetDamaged at byte)) old new hands c = absurd (never target below c)
    rebuild_caused target below (Err (errors.TargetRotten hash found)) old new hands c = absurd (never target below c)
    rebuild_caused target below (Err (errors.TargetFull room used need limit)) old new hands c = c
    rebuild_caused target below (Err (errors.TargetLacking place)) old new hands c = absurd (never target below c)
    rebuild_caused target below (Err errors.TargetNoMemory) old new hands c = c
    rebuild_caused target below (Err (errors.TargetStrange kind)) old new hands c = c
    rebuild_caused target below (Err errors.NoMemory) old new hands c = c

    rebuild_there : (user : UserId) (target : ℕ) → target < shape.n → (old : ℕ → Peer) (answers : List Line) (moments : List Moment) (new : ℕ → Peer) → RebuildStep s user target clouds old answers moments new
        → RebuildStep t user target clouds old answers moments new
    rebuild_there user target below old answers moments new x = record {
      result = x.result;
      turns = x.turns;
      lines_are = x.lines_are;
      moments_are = x.moments_are;
      found = x.found;
      executes = all_there target below (old target) x.turns (new target) x.executes;
      leaves = x.leaves;
      named = x.named;
      caused = rebuild_caused target below x.result old new x.named x.caused;
      said = x.said;
      ended = x.ended;
      own = x.own;
      told = λ all. x.told all_one;
    }
      where
        all_one : AllTold s (target ∷ clouds)
        all_one c has = elim (contains_cases target clouds c has) [
          | inl e ↦ subst (λ (d : ℕ). IsTrue (one d)) e (yes_one target below)
          | inr later ↦ yes_one c (within c later)
        ]

  -- ---- lines

  inside : (clouds : List ℕ) → All (λ cloud. cloud < shape.n) clouds → (c : ℕ) → Contains clouds c → c < shape.n
  inside clouds within c has = All-contains (λ cloud. cloud < shape.n) clouds c within has

  every_lane : (c : ℕ) → Contains (range_with_len 0 shape.n) c → c < shape.n
  every_lane c has = let h = in_range 0 shape.n c has in omega (arith, h)

  one_there : (cloud : ℕ) (G H : Peer → Peer → Type 0) (old new : ℕ → Peer) → ((p q : Peer) → G p q → H p q) → OneGoes cloud G old new → OneGoes cloud H old new
  one_there cloud G H old new there x = record { goes = there (old cloud) (new cloud) x.goes; others = x.others }

  step_there : (jobs : ℕ) (event : Event) → FitsEvent shape jobs event → (old : Vault) (answers : List Line) (moments : List Moment) (new : Vault) → VStep s old event answers moments new → VStep t old event answers moments new
  step_there jobs (events.Upload user path version bytes) fits old answers moments new x = x
  step_there jobs (events.Step job lane) fits old answers moments new x = lane_there lane.0 fits.1 job (lanes.request_at (lanes_of old.jobs job) lane.0) old answers moments new x
  step_there jobs (events.Lose job lane) fits old answers moments new x = x
  step_there jobs (events.Drop job lane) fits old answers moments new x = drop_there lane.0 fits.1 job (lanes.request_at (lanes_of old.jobs job) lane.0) old answers moments new x
  step_there jobs (events.Finish job) fits old answers moments new x = (x.0, finish_there job (range_with_len 0 shape.n) every_lane old x.0 moments new x.1, x.2)
  step_there jobs (events.Get user path version clouds) fits old answers moments new x =
      (x.0, get_there clouds (inside clouds fits.1.within) user path version old.peers new.peers x.0 x.1, x.2, x.3, x.4)
  step_there jobs (events.Arm cloud calls keep) fits old answers moments new x = x
  step_there jobs (events.Restart cloud) fits old answers moments new x =
      (x.0, one_there cloud.0 (RestartStep s cloud.0 x.0) (RestartStep t cloud.0 x.0) old.peers new.peers (restart_there cloud.0 fits x.0) x.1, x.2, x.3, x.4)
  step_there jobs (events.List user cloud) fits old answers moments new x = (x.0, x.1, list_there cloud.0 fits user None old.peers x.0 x.1 new.peers x.2, x.3, x.4, x.5)
  step_there jobs (events.Replace cloud) fits old answers moments new x =
      (x.0, one_there cloud.0 (ReplaceStep s cloud.0 x.0) (ReplaceStep t cloud.0 x.0) old.peers new.peers (replace_there cloud.0 fits x.0) x.1, x.2, x.3, x.4)
  step_there jobs (events.Rebuild user target from) fits old answers moments new x =
      (rebuild_there from (inside from fits.1.0.within) user target.0 fits.0 old.peers answers moments new.peers x.0, x.1)
  step_there jobs (events.Delete user path version cloud) fits old answers moments new x =
      ((x.0.0, x.0.1, executes_there cloud.0 fits.1 old.peers new.peers (requests.Delete user (key_of shape path version).0 version) x.0.0 x.0.2, x.0.3, x.0.4, x.0.5), x.1)

  turns_there : (jobs : ℕ) (history : List Answered) → AreLines shape jobs (script_of history) → (old new : Vault) → Turns s old history new → Turns t old history new
  turns_there jobs [] ls old new x = x
  turns_there jobs (a ∷ more) ls old new x =
      (x.0, step_there jobs a.event ls.0 old a.answers a.moments a.after x.1, turns_there (jobs_after jobs a.event) more ls.2 a.after new x.2)

-- Turns are turns in each setting of the same shape and rooms in which the same clouds are told.
pub turns_in : (s t : Setting) → s.shape ≡ t.shape → s.rooms ≡ t.rooms → ((c : ℕ) → c < s.shape.n → s.told c ≡ true) → ((c : ℕ) → c < t.shape.n → t.told c ≡ true)
    → (history : List Answered) → AreLines s.shape 0 (script_of history) → (old new : Vault) → Turns s old history new → Turns t old history new
turns_in s t shapes rooms yes_s yes_t history ls old new x =
    let mid : Setting = record { shape = t.shape; rooms = t.rooms; told = s.told } in
    let e : s ≡ mid = λ i. record { shape = shapes i; rooms = rooms i; told = s.told } in
    turns_there t.shape t.rooms s.told t.told (subst (λ (h : Shape). (c : ℕ) → c < h.n → s.told c ≡ true) shapes yes_s) yes_t 0 history
    (subst (λ (h : Shape). AreLines h 0 (script_of history)) shapes ls) old new (subst (λ (w : Setting). Turns w old history new) e x)
