-- Replies that speak of a user's own commands.
use Rattle.std.proofs.Common.{◌≡◌, ℕ, Bool, List, [], ◌∷◌, ◌++◌, ◌-◌, length, map, Option, Some, None, Result, sym, ap, subst, ◌∙◌, inl, inr}
use Rattle.std.specs.Prelude.{MatchOption, fold, slice_get}
use Rattle.std.specs.Bool.{MatchBool}
use Rattle.std.specs.List.{Contains}
use Rattle.std.proofs.lemmas.List.Elements.{Contains-append_cases, Contains-append_left}
use Rattle.session.specs.CdBase.ids.Tag.{Tag}
use Rattle.session.specs.CdBase.ids.UserId.{UserId}
use Rattle.session.specs.CdBase.ids.Version.{Version}
use Rattle.session.specs.CdBase.shape.Shape.{Shape}
use Rattle.session.specs.CdEdges.Disk.{Cloud}
use Rattle.session.specs.JournalStart.rooms.UserRooms.{UserRooms}
use Rattle.rebuild.specs.Messages.request.Request.{Request}
use Rattle.rebuild.specs.Messages.request.Request.TheVariants as requests
use Rattle.rebuild.specs.Messages.reply.Reply.{Reply}
use Rattle.subset_restore.specs.UserDedup.command.Command.{Command}
use Rattle.subset_restore.specs.UserDedup.Cloud.{user_of, commands_of, no_view, view_after, user_view, held_string}
use Rattle.subset_restore.specs.UserDedup.Requests.{asker}
use Rattle.subset_restore.specs.UserDedup.Owning.{first_lacking}
use Rattle.subset_restore.specs.UserDedup.Dedup.{Outcome, FullRoom, answer_by_view, shares_reply, answer_over, HeldAlike, room_for, by_room, unless_full}
use Rattle.subset_restore.specs.UserDedup.Exec.{Peer, MaySettleAs, Exec, ExecTold, ExecUntold}
use Rattle.subset_restore.specs.UserDedup.Served.{served_by}
use Rattle.subset_restore.specs.UserDedup.Spending.{HoldsItself, full_for}
use Rattle.subset_restore.proofs.UserDedup.Owned.{contains_cases, contains_nothing, contains_here}
use Rattle.subset_restore.proofs.UserDedup.Replies.{same_reply}
use Rattle.subset_restore.proofs.UserDedup.Sound.{by_asker}
use Rattle.subset_restore.proofs.UserDedup.Spending.{full_alone}
use Rattle.rebuild.specs.UploadJob.Lanes as lanes
use Rattle.rebuild.specs.LaneSteps.Runs.{LaneTurn, Progress, LaneRun, progress_after}
use Rattle.session.specs.declared.event.Event.{Event}
use Rattle.session.specs.declared.event.Event.TheVariants as events
use Rattle.session.specs.Transcript.refusal.Refusal.{Refusal}
use Rattle.session.specs.Transcript.line.Line.{Line}
use Rattle.session_model.specs.Vault.{Setting, Vault, HasVaultExecuted, served_at, lanes_of, with_peer, ExecutesAll}
use Rattle.session_model.specs.Steps.{Moment, quiet, moment_of, turn_moment, target_moments, LaneStep, DropStep, FinishLanes, ListRun, VStep}
use Rattle.session_model.specs.Run.{Answered, Turns, moments_of}
use Rattle.session_model.specs.Headline.{Session, Begun, IsRun, IsPartOf, IsOwnReply, own_reply, IsPrivate, moments_begun}
use Rattle.session_model.proofs.With.{executes_with}

-- ---- one reply

abbrev no_command : Option Command
no_command = None

by_rooms : (o : Outcome) (room : Option FullRoom) (reply : Reply) → reply ≡ (by_room o room).reply → IsOwnReply reply → reply ≡ o.reply
by_rooms o None reply e own = e
by_rooms o (Some f) reply e own = absurd (subst IsOwnReply e own)

no_shares : (found : Option ℕ) (strings : List (List ℕ)) (reply : Reply) → reply ≡ shares_reply found strings → IsOwnReply reply → ⊥
no_shares (Some place) strings reply e own = subst IsOwnReply e own
no_shares None strings reply e own = subst IsOwnReply e own

by_view : (shape : Shape) (cloud : ℕ) (list : List Command) (request : Request) (reply : Reply) → reply ≡ (answer_over shape cloud list request).reply → IsOwnReply reply → reply ≡ own_reply shape cloud list request
by_view shape cloud list requests.Hello reply e own = e
by_view shape cloud list (requests.Query user fps) reply e own = e
by_view shape cloud list (requests.Put user shares) reply e own = e
by_view shape cloud list (requests.Commit user tag version recipe) reply e own = e
by_view shape cloud list (requests.GetRecipe user tag version) reply e own = e
by_view shape cloud list (requests.GetShares user fps) reply e own = absurd (no_shares (first_lacking (user_view shape list user).own fps) _ reply e own)
by_view shape cloud list (requests.List user after) reply e own = e
by_view shape cloud list (requests.Delete user tag version) reply e own = e

-- the view is made of the user's own commands
pub own_alone : (shape : Shape) (cloud : ℕ) (one two : List Command) (request : Request) → commands_of (asker request) two ≡ commands_of (asker request) one → own_reply shape cloud two request ≡ own_reply shape cloud one request
own_alone shape cloud one two request same =
    ap (λ (commands : List Command). (answer_by_view shape cloud (fold (view_after shape) no_view commands) (λ fp. None) request).reply) same

-- what another user's strings are doesn't matter to a request that adds a command
held_alike : (shape : Shape) (cloud : ℕ) (one two : List Command) (request : Request) (command : Command) → (answer_over shape cloud one request).adds ≡ Some command
    → HeldAlike (user_view shape one (asker request)) (held_string one) (held_string two) request
held_alike shape cloud one two requests.Hello command adds = tt
held_alike shape cloud one two (requests.Query user fps) command adds = tt
held_alike shape cloud one two (requests.Put user shares) command adds = tt
held_alike shape cloud one two (requests.Commit user tag version recipe) command adds = tt
held_alike shape cloud one two (requests.GetRecipe user tag version) command adds = tt
held_alike shape cloud one two (requests.GetShares user fps) command adds = absurd (let none : no_command ≡ Some command = adds in cc)
held_alike shape cloud one two (requests.List user after) command adds = tt
held_alike shape cloud one two (requests.Delete user tag version) command adds = tt

-- so what is served for it follows from the asking user's own commands, as does which of the user's rooms is full
pub served_alone : (rooms : UserRooms) (shape : Shape) (cloud : ℕ) (one two : List Command) (request : Request) (command : Command)
    → commands_of (asker request) two ≡ commands_of (asker request) one → (answer_over shape cloud one request).adds ≡ Some command
    → HoldsItself (one ++ command ∷ []) → HoldsItself (two ++ command ∷ [])
    → served_by rooms shape cloud two request ≡ served_by rooms shape cloud one request
served_alone rooms shape cloud one two request command same adds first second =
    let view = ap (λ (commands : List Command). fold (view_after shape) no_view commands) same in
    let answer : answer_over shape cloud two request ≡ answer_over shape cloud one request =
    same_reply shape cloud one two request view (held_alike shape cloud one two request command adds) in
    let asked : commands_of (user_of command) two ≡ commands_of (user_of command) one =
    subst (λ (user : UserId). commands_of user two ≡ commands_of user one) (sym (by_asker shape cloud one request command adds)) same in
    let room : full_for shape rooms two command ≡ full_for shape rooms one command = full_alone shape rooms two one command asked second first in
    ap (unless_full (full_for shape rooms two)) answer
    ∙ ap (λ (o : Option Command). by_room (answer_over shape cloud one request) (room_for (full_for shape rooms two) o)) adds
    ∙ ap (λ (o : Option FullRoom). by_room (answer_over shape cloud one request) o) room
    ∙ ap (λ (o : Option Command). by_room (answer_over shape cloud one request) (room_for (full_for shape rooms one) o)) (sym adds)

module _ (s : Setting) where
  private_exec : (cloud : ℕ) (old new : ℕ → Peer) (request : Request) (reply : Reply) → HasVaultExecuted s cloud old request reply new → IsPrivate s (record { peers = old; event = Some (record { cloud = cloud; request = request; reply = reply }) })
  private_exec cloud old new request reply x told own =
      by_exec (subst (λ (b : Bool). MatchBool b (ExecTold (served_at s cloud) (old cloud) request reply (new cloud)) (ExecUntold s.shape (old cloud) request reply (new cloud))) told x.does.does)
    where
      by_exec : ExecTold (served_at s cloud) (old cloud) request reply (new cloud) → (list : List Command) × MaySettleAs (old cloud) list × (reply ≡ own_reply s.shape cloud list request)
      by_exec (inl a) = (
        a.before,
        a.settled,
        by_view s.shape cloud a.before request reply
            (by_rooms (answer_over s.shape cloud a.before request) (room_for (full_for s.shape s.rooms a.before) (answer_over s.shape cloud a.before request).adds) reply a.served own) own,
      )
      by_exec (inr f) = absurd (subst IsOwnReply f.reply_is own)

  private_one : (m n : Moment) → IsPrivate s m → Contains (m ∷ []) n → IsPrivate s n
  private_one m n is has = elim (contains_cases m [] n has) [
    | inl same ↦ subst (IsPrivate s) same is
    | inr none ↦ absurd (contains_nothing n none)
  ]

  private_quiet : (peers : ℕ → Peer) (moments : List Moment) → moments ≡ quiet peers → (m : Moment) → Contains moments m → IsPrivate s m
  private_quiet peers moments e m has = private_one (record { peers = peers; event = None }) m tt (subst (λ (l : List Moment). Contains l m) e has)

  private_run_of : (cloud : ℕ) (p : Progress) (old : ℕ → Peer) (turns : List (LaneTurn (ℕ → Peer))) (last : Progress) (new : ℕ → Peer) → LaneRun (HasVaultExecuted s cloud) p old turns last new
      → (m : Moment) → Contains (map (moment_of cloud) turns) m → IsPrivate s m
  private_run_of cloud p old [] last new run m has = absurd (contains_nothing m has)
  private_run_of cloud p old (t ∷ turns) last new run m has = elim (contains_cases (moment_of cloud t) (map (moment_of cloud) turns) m has) [
    | inl same ↦ subst (IsPrivate s) same (subst (λ (peers : ℕ → Peer). IsPrivate s (record { peers = peers; event = Some (record { cloud = cloud; request = t.request; reply = t.reply }) })) (sym run.1)
        (private_exec cloud old run.3.0 t.request t.reply run.3.1))
    | inr later ↦ private_run_of cloud (progress_after p t.reply) run.3.0 turns last new run.3.2 m later
  ]

  private_finish : (job : ℕ) (clouds : List ℕ) (old : Vault) (answers : List Line) (moments : List Moment) (new : Vault) → FinishLanes s job clouds old answers moments new
      → (m : Moment) → Contains moments m → IsPrivate s m
  private_finish job [] old answers moments new f m has = absurd (contains_nothing m (subst (λ (l : List Moment). Contains l m) f.1 has))
  private_finish job (cloud ∷ clouds) old answers moments new f m has =
      let turns = f.0 in let mid = f.3 in let rest = f.6 in
      elim (Contains-append_cases (map (moment_of cloud) turns) rest m (subst (λ (l : List Moment). Contains l m) f.12 has)) [
        | inl here ↦ private_run_of cloud _ old.peers turns f.1 mid.peers f.7 m here
        | inr later ↦ private_finish job clouds mid f.5 rest new f.13 m later
      ]

  private_lane : (job cloud : ℕ) (request : Option Request) (old : Vault) (answers : List Line) (moments : List Moment) (new : Vault) → LaneStep s job cloud request old answers moments new
      → (m : Moment) → Contains moments m → IsPrivate s m
  private_lane job cloud None old answers moments new x m has = private_quiet old.peers moments x.1 m has
  private_lane job cloud (Some request) old answers moments new x m has = private_one _ m (private_exec cloud old.peers new.peers request x.0 x.3) (subst (λ (l : List Moment). Contains l m) x.4 has)

  private_drop : (job cloud : ℕ) (request : Option Request) (old : Vault) (answers : List Line) (moments : List Moment) (new : Vault) → DropStep s job cloud request old answers moments new
      → (m : Moment) → Contains moments m → IsPrivate s m
  private_drop job cloud None old answers moments new x m has = private_quiet old.peers moments x.1 m has
  private_drop job cloud (Some request) old answers moments new x m has = private_one _ m (private_exec cloud old.peers new.peers request x.0 x.1) (subst (λ (l : List Moment). Contains l m) x.2 has)

  private_list : (user : UserId) (cloud : ℕ) (above : Option (Tag × Version)) (old : ℕ → Peer) (turns : List (LaneTurn (ℕ → Peer))) (listed : Result (List (Tag × Version)) Refusal) (new : ℕ → Peer)
      → ListRun s user cloud above old turns listed new → (m : Moment) → Contains (map (moment_of cloud) turns) m → IsPrivate s m
  private_list user cloud above old [] listed new run m has = absurd run
  private_list user cloud above old (t ∷ turns) listed new run m has = elim (contains_cases (moment_of cloud t) (map (moment_of cloud) turns) m has) [
    | inl same ↦ subst (IsPrivate s) same (subst (λ (peers : ℕ → Peer). IsPrivate s (record { peers = peers; event = Some (record { cloud = cloud; request = t.request; reply = t.reply }) })) (sym run.0)
        (private_exec cloud old run.2.0 t.request t.reply run.2.1))
    | inr later ↦ elim run.2.2 [
      | inl x ↦ absurd (contains_nothing m (subst (λ (l : List (LaneTurn (ℕ → Peer))). Contains (map (moment_of cloud) l) m) x.1 later))
      | inr x ↦ private_list user cloud (slice_get x.0 (length x.0 - 1)) run.2.0 turns x.1 new x.5 m later
    ]
  ]

  private_target : (old : ℕ → Peer) (target : ℕ) (p : Peer) (turns : List (LaneTurn Peer)) (end : Peer) → ExecutesAll s target p turns end
      → (m : Moment) → Contains (target_moments old target turns end) m → IsPrivate s m
  private_target old target p [] end x m has = private_one (record { peers = with_peer old target end; event = None }) m tt has
  private_target old target p (t ∷ turns) end x m has = elim (contains_cases (turn_moment old target t) (target_moments old target turns end) m has) [
    | inl same ↦ subst (IsPrivate s) same (private_exec target (with_peer old target t.before) (with_peer old target x.1.0) t.request t.reply
        (executes_with s target old t.before t.request t.reply x.1.0 (subst (λ (a : Peer). Exec s.shape (s.told target) (served_at s target) a t.request t.reply x.1.0) (sym x.0) x.1.1)))
    | inr later ↦ private_target old target x.1.0 turns end x.1.2 m later
  ]

  private_step : (old : Vault) (event : Event) (answers : List Line) (moments : List Moment) (new : Vault) → VStep s old event answers moments new → (m : Moment) → Contains moments m → IsPrivate s m
  private_step old (events.Upload user path version bytes) answers moments new x m has = private_quiet old.peers moments x.1 m has
  private_step old (events.Step job lane) answers moments new x m has = private_lane job lane.0 (lanes.request_at (lanes_of old.jobs job) lane.0) old answers moments new x m has
  private_step old (events.Lose job lane) answers moments new x m has = private_quiet old.peers moments x.1 m has
  private_step old (events.Drop job lane) answers moments new x m has = private_drop job lane.0 (lanes.request_at (lanes_of old.jobs job) lane.0) old answers moments new x m has
  private_step old (events.Finish job) answers moments new x m has = private_finish job _ old x.0 moments new x.1 m has
  private_step old (events.Get user path version clouds) answers moments new x m has = private_quiet old.peers moments x.3 m has
  private_step old (events.Arm cloud calls keep) answers moments new x m has = private_quiet old.peers moments x.2 m has
  private_step old (events.Restart cloud) answers moments new x m has = private_quiet old.peers moments x.3 m has
  private_step old (events.List user cloud) answers moments new x m has =
      private_list user cloud.0 None old.peers x.0 x.1 new.peers x.2 m (subst (λ (l : List Moment). Contains l m) x.4 has)
  private_step old (events.Replace cloud) answers moments new x m has = private_quiet old.peers moments x.3 m has
  private_step old (events.Rebuild user target from) answers moments new x m has =
      elim (contains_cases (record { peers = old.peers; event = None }) (target_moments old.peers target.0 x.0.turns (new.peers target.0)) m (subst (λ (l : List Moment). Contains l m) x.0.moments_are has)) [
        | inl same ↦ private_one (record { peers = old.peers; event = None }) m tt (subst (Contains (record { peers = old.peers; event = None } ∷ [])) same (contains_here (record { peers = old.peers; event = None }) []))
        | inr later ↦ private_target old.peers target.0 (old.peers target.0) x.0.turns (new.peers target.0) x.0.executes m later
      ]
  private_step old (events.Delete user path version cloud) answers moments new x m has =
      private_one _ m (private_exec cloud.0 old.peers new.peers _ x.0.0 x.0.2) (subst (λ (l : List Moment). Contains l m) x.0.5 has)

  private_turns : (history : List Answered) (old new : Vault) → Turns s old history new → (m : Moment) → Contains (moments_of history) m → IsPrivate s m
  private_turns [] old new t m has = absurd (contains_nothing m has)
  private_turns (a ∷ more) old new t m has = elim (Contains-append_cases a.moments (moments_of more) m has) [
    | inl here ↦ private_step old a.event a.answers a.moments a.after t.1 m here
    | inr later ↦ private_turns more a.after new t.2 m later
  ]

  private_begun : (between : Vault) (begun : Option Begun) (last : ℕ → Peer) → MatchOption begun (last ≡ between.peers) (λ b. IsPartOf s between b last) → (m : Moment) → Contains (moments_begun begun) m → IsPrivate s m
  private_begun between None last x m has = absurd (contains_nothing m has)
  private_begun between (Some b) last x m has =
      private_step between b.event x.0 (b.moments ++ x.1) x.2 x.3 m (Contains-append_left b.moments x.1 m has)

pub private_run : (clouds : ℕ → Cloud) (run : Session) → IsRun clouds run → (m : Moment) → Contains (moments_of run.history ++ moments_begun run.begun) m → IsPrivate run.setting m
private_run clouds run is m has = elim (Contains-append_cases (moments_of run.history) (moments_begun run.begun) m has) [
  | inl here ↦ private_turns run.setting run.history _ run.between is.answered m here
  | inr later ↦ private_begun run.setting run.between run.begun run.last is.begun m later
]
