-- The target's turns.
use Rattle.std.proofs.Common.{◌≡◌, ◌⊎◌, ℕ, Bool, true, false, cond, List, [], ◌∷◌, Option, Some, None, Result, Ok, Err, refl, sym, ap, ◌∙◌, subst, inl, inr, arith, length, map, ◌==◌}
use Rattle.std.specs.Prelude.{IsTrue, bytes_eq}
use Rattle.std.specs.Bool.{MatchBool}
use Rattle.std.specs.List.{list_all}
use Rattle.lane_steps.specs.CdEdges.Causes.{Rose}
use Rattle.lane_steps.specs.CdBase.rooms.Room.{Room}
use Rattle.lane_steps.specs.UserDedup.Cloud.{fingerprint}
use Rattle.lane_steps.specs.CdBase.ids.Fp.{Fp}
use Rattle.lane_steps.specs.CdBase.ids.Tag.{Tag}
use Rattle.lane_steps.specs.CdBase.ids.UserId.{UserId}
use Rattle.lane_steps.specs.CdBase.ids.Version.{Version}
use Rattle.lane_steps.specs.CdBase.shape.Shape.{Shape}
use Rattle.lane_steps.specs.Messages.request.Request.{Request}
use Rattle.lane_steps.specs.Messages.request.Request.TheVariants as requests
use Rattle.lane_steps.specs.Messages.reply.Reply.{Reply}
use Rattle.lane_steps.specs.Messages.reply.Reply.TheVariants as replies
use Rattle.lane_steps.specs.UserDedup.command.Command.{Command}
use Rattle.lane_steps.specs.UserDedup.command.Command.TheVariants as commands
use Rattle.lane_steps.specs.UserDedup.file_list.FileEntry.{FileEntry}
use Rattle.lane_steps.specs.UserDedup.view.View.{View}
use Rattle.lane_steps.specs.UserDedup.Cloud.{user_view}
use Rattle.lane_steps.specs.UserDedup.Owning.{first_lacking, new_strings}
use Rattle.lane_steps.specs.UserDedup.Pages.{entry_at}
use Rattle.lane_steps.specs.UserDedup.Requests.{fps_of}
use Rattle.lane_steps.specs.UserDedup.Dedup.{FullRoom, put_outcome, commit_outcome, by_room, unless_full}
use Rattle.lane_steps.specs.UserDedup.Exec.{Peer, Exec, ExecTold, ExecUntold, CountsOn, served}
use Rattle.lane_steps.specs.UserDedup.Link.{LinkTelling, Talk, Does, LeavesOthers}
use Rattle.lane_steps.specs.UploadJob.news.LaneNews.{LaneNews}
use Rattle.lane_steps.specs.UploadJob.news.LaneNews.TheVariants as news
use Rattle.lane_steps.specs.UploadJob.Upload.{Work}
use Rattle.lane_steps.specs.UploadJob.Lane.{LaneState, Asking, Sending, Committing, Done, Refused, onward, lane_request, news_of, unflagged}
use Rattle.lane_steps.specs.Runs.{LaneTurn, Progress, request_of, progress_after, LaneAlong, Tell}
use Rattle.lane_steps.specs.Steps.{Heard}
use Rattle.lane_steps.proofs.Runs.{others_on, Alike, does_alike}
use Rattle.lane_steps.proofs.Finishing.{no_others}
use Rattle.rebuild.specs.declared.error.RebuildErr.{RebuildErr}
use Rattle.rebuild.specs.declared.error.RebuildErr.TheVariants as errors
use Rattle.rebuild.specs.Rebuilding.{Progressed, lane_ended, last_said}
use Rattle.kept_files.proofs.RestoreJob.Leading.{counts_on}
use Rattle.rebuild.specs.Over.{TargetAlong}
use Rattle.rebuild.specs.Filling.{EndsBy, IsVersionThere, StopsBy, last_of}
use Rattle.rebuild.proofs.Telling.{some_request}

-- ---- which replies a told target gives

-- those that it serves
abbrev pub Answered : LaneState → Reply → Type 0
Answered (Asking batch rest) (replies.Known marks) = Unit {0}
Answered (Sending batch marks rest) (replies.Stored new) = Unit {0}
Answered (Sending batch marks rest) (replies.Full room used need limit) = Unit {0}
Answered Committing replies.Committed = Unit {0}
Answered Committing replies.Exists = Unit {0}
Answered Committing (replies.Lacking place) = Unit {0}
Answered Committing (replies.Full room used need limit) = Unit {0}
Answered state reply = ⊥

put_kind : (batch : List (List ℕ)) (marks : List ℕ) (rest : List (List (List ℕ))) (full : Command → Option FullRoom) (user : UserId) (new : List (List ℕ)) → Answered (Sending batch marks rest) (unless_full full (put_outcome user new)).reply
put_kind batch marks rest full user [] = tt
put_kind batch marks rest full user (s ∷ ss) = by_full (full (commands.Put user (s ∷ ss)))
  where
    by_full : (room : Option FullRoom) → Answered (Sending batch marks rest) (by_room (record { reply = replies.Stored (length (s ∷ ss)); adds = Some (commands.Put user (s ∷ ss)) }) room).reply
    by_full None = tt
    by_full (Some room) = tt

commit_kind : (full : Command → Option FullRoom) (lack : Option ℕ) (entry : Option FileEntry) (command : Command) (recipe : List ℕ) → Answered Committing (unless_full full (commit_outcome lack entry command recipe)).reply
commit_kind full (Some place) entry command recipe = tt
commit_kind full None (Some entry) command recipe = by_same (bytes_eq entry.recipe recipe)
  where
    by_same : (b : Bool) → Answered Committing (cond b replies.Committed replies.Exists)
    by_same true = tt
    by_same false = tt
commit_kind full None None command recipe = by_full (full command)
  where
    by_full : (room : Option FullRoom) → Answered Committing (by_room (record { reply = replies.Committed; adds = Some command }) room).reply
    by_full None = tt
    by_full (Some room) = tt

module _ (shape : Shape) (cloud : ℕ) (full : List Command → Command → Option FullRoom) where
  served_kind : (w : Work) (state : LaneState) (request : Request) (list : List Command) → lane_request w state ≡ Some request → Answered state (served shape cloud full list request).reply
  served_kind w (Asking batch rest) request list e = subst (λ (r : Request). Answered (Asking batch rest) (served shape cloud full list r).reply) (some_request (requests.Query w.user (map fingerprint batch)) request e) tt
  served_kind w (Sending batch marks rest) request list e =
      subst (λ (r : Request). Answered (Sending batch marks rest) (served shape cloud full list r).reply) (some_request (requests.Put w.user (unflagged batch marks)) request e)
      (put_kind batch marks rest (full list) w.user (new_strings (user_view shape list w.user).own (unflagged batch marks)))
  served_kind w Committing request list e =
      let v : View = user_view shape list w.user in
      subst (λ (r : Request). Answered Committing (served shape cloud full list r).reply) (some_request (requests.Commit w.user w.tag w.version w.recipe) request e)
      (commit_kind (full list) (first_lacking v.own (fps_of shape w.recipe)) (entry_at v.files (w.tag, w.version)) (commands.Commit w.user w.tag w.version w.recipe) w.recipe)
  served_kind w Done request list e = absurd cc
  served_kind w Refused request list e = absurd cc

  no_fault : (w : Work) (state : LaneState) (request : Request) (list : List Command) → lane_request w state ≡ Some request → (served shape cloud full list request).reply ≡ replies.Fault → ⊥
  no_fault w state request list asks e = never state (subst (Answered state) e (served_kind w state request list asks))
    where
      never : (state : LaneState) → Answered state replies.Fault → ⊥
      never (Asking batch rest) x = x
      never (Sending batch marks rest) x = x
      never Committing x = x
      never Done x = x
      never Refused x = x

  -- a told target serves the request, or its device failed
  pub expected : (w : Work) (state : LaneState) (request : Request) (reply : Reply) (p q : Peer) → lane_request w state ≡ Some request → Exec shape true (served shape cloud full) p request reply q → Answered state reply ⊎ (reply ≡ replies.Fault)
  expected w state request reply p q asks x =
      let does : ExecTold (served shape cloud full) p request reply q = x.does in
      elim does [
        | inl a ↦ inl (subst (Answered state) (sym a.served) (served_kind w state request a.before asks))
        | inr f ↦ inr f.reply_is
      ]

  -- one that answers fault failed, told or not
  pub fault_rose : (told : Bool) (w : Work) (state : LaneState) (request : Request) (reply : Reply) (p q : Peer) → lane_request w state ≡ Some request → Exec shape told (served shape cloud full) p request reply q → reply ≡ replies.Fault → Rose p.faults q.faults
  fault_rose told w state request reply p q asks x is = by_told told x.does
    where
      by_told : (b : Bool) → MatchBool b (ExecTold (served shape cloud full) p request reply q) (ExecUntold shape p request reply q) → Rose p.faults q.faults
      by_told true (inl a) = absurd (no_fault w state request a.before asks (sym a.served ∙ is))
      by_told true (inr f) = f.rose
      by_told false u = u.fault is

  -- one that gives a reply which no told target gives isn't told
  pub untold_by : (told : Bool) (w : Work) (state : LaneState) (request : Request) (said : Reply) (p q : Peer) → lane_request w state ≡ Some request → Exec shape told (served shape cloud full) p request said q
      → ((at : LaneState) → Answered at said → ⊥) → (said ≡ replies.Fault → ⊥) → told ≡ false
  untold_by true w state request said p q asks x none not =
      elim (expected w state request said p q asks x) [
        | inl answered ↦ absurd (none state answered)
        | inr fault ↦ absurd (not fault)
      ]
  untold_by false w state request said p q asks x none not = refl

  -- none answers that its memory ran out
  pub no_memory : (told : Bool) (w : Work) (state : LaneState) (request : Request) (p q : Peer) → lane_request w state ≡ Some request → Exec shape told (served shape cloud full) p request replies.NoMemory q → ⊥
  no_memory true w state request p q asks x =
      elim (expected w state request replies.NoMemory p q asks x) [
        | inl answered ↦ never_memory state answered
        | inr fault ↦ (let f : replies.NoMemory ≡ replies.Fault = fault in cc)
      ]
    where
      never_memory : (at : LaneState) → Answered at replies.NoMemory → ⊥
      never_memory (Asking batch rest) a = a
      never_memory (Sending batch marks rest) a = a
      never_memory Committing a = a
      never_memory Done a = a
      never_memory Refused a = a
  no_memory false w state request p q asks x = let u : ExecUntold shape p request replies.NoMemory q = x.does in u.memory refl

pub never_damaged : (place byte : ℕ) (at : LaneState) → Answered at (replies.Damaged place byte) → ⊥
never_damaged place byte (Asking batch rest) a = a
never_damaged place byte (Sending batch marks rest) a = a
never_damaged place byte Committing a = a
never_damaged place byte Done a = a
never_damaged place byte Refused a = a

pub never_rotten : (named hash : Fp) (at : LaneState) → Answered at (replies.Rotten named hash) → ⊥
never_rotten named hash (Asking batch rest) a = a
never_rotten named hash (Sending batch marks rest) a = a
never_rotten named hash Committing a = a
never_rotten named hash Done a = a
never_rotten named hash Refused a = a

-- ---- a lane behind such a reply

-- it goes on
abbrev pub GoesFurther : Progress → Type 0
GoesFurther p = (p.stopped ≡ false) × ((request : Request) × (request_of p.lane ≡ Some request))

-- it has no request any more, or was stopped
abbrev pub HasEnded : Progress → Type 0
HasEnded p = IsTrue p.stopped ⊎ (request_of p.lane ≡ None)

abbrev pub BringEnds : Result Bool RebuildErr → LaneState → Reply → Type 0
BringEnds (Ok there) state said = IsVersionThere there state said
BringEnds (Err e) state said = StopsBy e state said

-- what the rebuild makes of its end
abbrev pub EndsAll : LaneState → LaneState → Reply → Type 0
EndsAll before state said =
    (due : Result Bool RebuildErr) × BringEnds due state said
    × ((told : LaneNews) (r : Result Bool RebuildErr) → news_of before said ≡ Some told → EndsBy (Some told) r → r ≡ due)

onward_asks : (w : Work) (batches : List (List (List ℕ))) → (request : Request) × (lane_request w (onward batches) ≡ Some request)
onward_asks w [] = (requests.Commit w.user w.tag w.version w.recipe, refl)
onward_asks w (batch ∷ rest) = (requests.Query w.user (map fingerprint batch), refl)

past_asks : (w : Work) (b : Bool) (batch : List (List ℕ)) (marks : List ℕ) (rest : List (List (List ℕ))) → (request : Request) × (lane_request w (cond b (onward rest) (Sending batch marks rest)) ≡ Some request)
past_asks w true batch marks rest = onward_asks w rest
past_asks w false batch marks rest = (requests.Put w.user (unflagged batch marks), refl)

onward_lacks : (batches : List (List (List ℕ))) (place : ℕ) (key : Tag × Version) (r : Progressed) → (lane_ended key (onward batches) (replies.Lacking place) r).stop ≡ Some (replies.Lacking place)
onward_lacks [] place key r = refl
onward_lacks (batch ∷ rest) place key r = refl

abbrev pub at_state : Work → LaneState → Bool → Progress
at_state w state lacked = record { lane = record { work = w; state = state }; lacked = lacked; stopped = false }

-- what follows by the reply, and by what it tells
abbrev pub Follows : Work → LaneState → Bool → Reply → Type 0
Follows w state lacked reply =
    GoesFurther (progress_after (at_state w state lacked) reply)
    ⊎ (HasEnded (progress_after (at_state w state lacked) reply) × EndsAll state (progress_after (at_state w state lacked) reply).lane.state reply)

abbrev only : (before : LaneState) (said : Reply) (due : Result Bool RebuildErr) → Type 0
only before said due = (told : LaneNews) (r : Result Bool RebuildErr) → news_of before said ≡ Some told → EndsBy (Some told) r → r ≡ due

by_news : (o : Option LaneNews) (told : LaneNews) (r : Result Bool RebuildErr) → o ≡ Some told → EndsBy (Some told) r → EndsBy o r
by_news o told r e ends = subst (λ (x : Option LaneNews). EndsBy x r) (sym e) ends

lacking_follows : (w : Work) (lacked : Bool) (place : ℕ) → Follows w Committing lacked (replies.Lacking place)
lacking_follows w true place = inr (inl refl, (Err (errors.TargetLacking place), (refl, onward_lacks w.batches place), λ told r e ends. by_news (Some (news.Lacking place)) told r e ends))
lacking_follows w false place = inl (refl, onward_asks w w.batches)

full_ends : (state : LaneState) (room : Room) (used need limit : ℕ) → news_of state (replies.Full room used need limit) ≡ Some (news.Full room used need limit) → EndsAll state Refused (replies.Full room used need limit)
full_ends state room used need limit is = (Err (errors.TargetFull room used need limit), (refl, λ key r. refl), λ told r e ends. by_news (Some (news.Full room used need limit)) told r (sym is ∙ e) ends)

follows_answered : (w : Work) (state : LaneState) (lacked : Bool) (reply : Reply) → Answered state reply → Follows w state lacked reply
follows_answered w (Asking batch rest) lacked (replies.Hello n k own format) is = absurd is
follows_answered w (Asking batch rest) lacked (replies.Known known) is = inl (refl, past_asks w (list_all (λ flag. flag == 1) known) batch known rest)
follows_answered w (Asking batch rest) lacked (replies.Stored new) is = absurd is
follows_answered w (Asking batch rest) lacked replies.Committed is = absurd is
follows_answered w (Asking batch rest) lacked replies.Exists is = absurd is
follows_answered w (Asking batch rest) lacked (replies.Lacking place) is = absurd is
follows_answered w (Asking batch rest) lacked (replies.Recipe bytes) is = absurd is
follows_answered w (Asking batch rest) lacked replies.Missing is = absurd is
follows_answered w (Asking batch rest) lacked (replies.Shares shares) is = absurd is
follows_answered w (Asking batch rest) lacked (replies.NotYours place) is = absurd is
follows_answered w (Asking batch rest) lacked (replies.Entries entries) is = absurd is
follows_answered w (Asking batch rest) lacked replies.Deleted is = absurd is
follows_answered w (Asking batch rest) lacked (replies.Full room used need limit) is = absurd is
follows_answered w (Asking batch rest) lacked replies.Fault is = absurd is
follows_answered w (Asking batch rest) lacked (replies.Damaged at byte) is = absurd is
follows_answered w (Asking batch rest) lacked (replies.Rotten named hash) is = absurd is
follows_answered w (Asking batch rest) lacked (replies.Malformed at) is = absurd is
follows_answered w (Asking batch rest) lacked replies.NoMemory is = absurd is
follows_answered w (Sending batch marks rest) lacked (replies.Hello n k own format) is = absurd is
follows_answered w (Sending batch marks rest) lacked (replies.Known known) is = absurd is
follows_answered w (Sending batch marks rest) lacked (replies.Stored new) is = inl (refl, onward_asks w rest)
follows_answered w (Sending batch marks rest) lacked replies.Committed is = absurd is
follows_answered w (Sending batch marks rest) lacked replies.Exists is = absurd is
follows_answered w (Sending batch marks rest) lacked (replies.Lacking place) is = absurd is
follows_answered w (Sending batch marks rest) lacked (replies.Recipe bytes) is = absurd is
follows_answered w (Sending batch marks rest) lacked replies.Missing is = absurd is
follows_answered w (Sending batch marks rest) lacked (replies.Shares shares) is = absurd is
follows_answered w (Sending batch marks rest) lacked (replies.NotYours place) is = absurd is
follows_answered w (Sending batch marks rest) lacked (replies.Entries entries) is = absurd is
follows_answered w (Sending batch marks rest) lacked replies.Deleted is = absurd is
follows_answered w (Sending batch marks rest) lacked (replies.Full room used need limit) is = inr (inr refl, full_ends (Sending batch marks rest) room used need limit refl)
follows_answered w (Sending batch marks rest) lacked replies.Fault is = absurd is
follows_answered w (Sending batch marks rest) lacked (replies.Damaged at byte) is = absurd is
follows_answered w (Sending batch marks rest) lacked (replies.Rotten named hash) is = absurd is
follows_answered w (Sending batch marks rest) lacked (replies.Malformed at) is = absurd is
follows_answered w (Sending batch marks rest) lacked replies.NoMemory is = absurd is
follows_answered w Committing lacked (replies.Hello n k own format) is = absurd is
follows_answered w Committing lacked (replies.Known known) is = absurd is
follows_answered w Committing lacked (replies.Stored new) is = absurd is
follows_answered w Committing lacked replies.Committed is = inr (inr refl, (Ok true, refl, λ told r e ends. by_news (Some news.Committed) told r e ends))
follows_answered w Committing lacked replies.Exists is = inr (inr refl, (Ok false, (refl, refl), λ told r e ends. by_news (Some news.Exists) told r e ends))
follows_answered w Committing lacked (replies.Lacking place) is = lacking_follows w lacked place
follows_answered w Committing lacked (replies.Recipe bytes) is = absurd is
follows_answered w Committing lacked replies.Missing is = absurd is
follows_answered w Committing lacked (replies.Shares shares) is = absurd is
follows_answered w Committing lacked (replies.NotYours place) is = absurd is
follows_answered w Committing lacked (replies.Entries entries) is = absurd is
follows_answered w Committing lacked replies.Deleted is = absurd is
follows_answered w Committing lacked (replies.Full room used need limit) is = inr (inr refl, full_ends Committing room used need limit refl)
follows_answered w Committing lacked replies.Fault is = absurd is
follows_answered w Committing lacked (replies.Damaged at byte) is = absurd is
follows_answered w Committing lacked (replies.Rotten named hash) is = absurd is
follows_answered w Committing lacked (replies.Malformed at) is = absurd is
follows_answered w Committing lacked replies.NoMemory is = absurd is
follows_answered w Done lacked reply is = absurd is
follows_answered w Refused lacked reply is = absurd is

follows_fault : (w : Work) (state : LaneState) (lacked : Bool) (request : Request) → lane_request w state ≡ Some request → Follows w state lacked replies.Fault
follows_fault w (Asking batch rest) lacked request asks = inr (inl refl, (Err errors.TargetFault, (refl, λ key r. refl), λ told r e ends. by_news (Some news.Fault) told r e ends))
follows_fault w (Sending batch marks rest) lacked request asks = inr (inl refl, (Err errors.TargetFault, (refl, λ key r. refl), λ told r e ends. by_news (Some news.Fault) told r e ends))
follows_fault w Committing lacked request asks = inr (inl refl, (Err errors.TargetFault, (refl, λ key r. refl), λ told r e ends. by_news (Some news.Fault) told r e ends))
follows_fault w Done lacked request asks = absurd cc
follows_fault w Refused lacked request asks = absurd cc

pub follows : (w : Work) (state : LaneState) (lacked : Bool) (request : Request) (reply : Reply) → lane_request w state ≡ Some request → Answered state reply ⊎ (reply ≡ replies.Fault) → Follows w state lacked reply
follows w state lacked request reply asks (inl answered) = follows_answered w state lacked reply answered
follows w state lacked request reply asks (inr fault) = subst (Follows w state lacked) (sym fault) (follows_fault w state lacked request asks)

-- ---- the target's turns over the link

-- the turns from one state that the target stood for
pub record PeerTurns {L : Type 0} (t : LinkTelling L) (talk : L → ℕ → Talk → Type 0) (target : ℕ) (from : List ℕ) (base old new : L) (lane last : Progress) (told : List LaneNews) (p : Peer) : Type 0 where
  pub end : Peer
  pub turns : List (LaneTurn Peer)
  pub along : TargetAlong t talk target from old p turns new end
  pub runs : LaneAlong (Does t target base) lane p turns last end
  pub tells : Tell lane.lane turns told
  pub stands : t.stands new target end
  pub counts : CountsOn p end
  pub others : LeavesOthers t target old new

pub peer_turns : {L : Type 0} (t : LinkTelling L) (talk : L → ℕ → Talk → Type 0) (target : ℕ) (from : List ℕ) (base old new : L) (lane last : Progress) (turns : List (LaneTurn L)) (told : List LaneNews) (p : Peer)
    → Alike t base old → LaneAlong (Heard t talk target) lane old turns last new → Tell lane.lane turns told → t.stands old target p → PeerTurns t talk target from base old new lane last told p
peer_turns {L} t talk target from base old new lane last [] told p alike along tell stands = record {
  end = p;
  turns = [];
  along = (([], along.1), subst (λ (x : L). t.stands x target p) (sym along.1) stands, refl);
  runs = (along.0, refl);
  tells = tell;
  stands = subst (λ (x : L). t.stands x target p) (sym along.1) stands;
  counts = record { faults = omega arith; armings = refl };
  others = subst (λ (x : L). LeavesOthers t target old x) (sym along.1) (no_others t target old);
}
peer_turns {L} t talk target from base old new lane last (turn ∷ turns) told p alike along tell stands =
    let mid : L = along.3.0 in
    let heard = along.3.1 in
    let went = heard.goes p stands in
    let others = heard.passed.others in
    let next : Alike t base mid = record { shape = others.shape ∙ alike.shape; told = others.told ∙ alike.told; full = others.full ∙ alike.full } in
    let rest = peer_turns t talk target from base mid new (progress_after lane turn.reply) last turns tell.1 went.0 next along.3.2 tell.3 went.1 in
    let one : LaneTurn Peer = record { before = p; request = turn.request; reply = turn.reply } in
    record {
      end = rest.end;
      turns = one ∷ rest.turns;
      along = (old, mid, ([], refl), stands, refl, heard, (went.0, went.1, went.2, rest.along));
      runs = (along.0, refl, along.2, (went.0, does_alike t target base old p went.0 turn.request turn.reply alike went.2, rest.runs));
      tells = (tell.0, tell.1, tell.2, rest.tells, tell.4);
      stands = rest.stands;
      counts = counts_on p went.0 rest.end went.2.counts rest.counts;
      others = others_on t target old mid new others rest.others;
    }

-- the last turn of some
pub record LastTurn (Goes : Peer → Request → Reply → Peer → Type 0) (lane last : Progress) (old : Peer) (turns : List (LaneTurn Peer)) (told : List LaneNews) (new : Peer) : Type 0 where
  pub work : Work
  pub state : LaneState
  pub lacked : Bool
  pub before : Peer
  pub request : Request
  pub reply : Reply
  pub tells : LaneNews
  pub counts : CountsOn old before
  pub said : last_said turns ≡ Some reply
  pub says : last_of told ≡ Some tells
  pub told_is : news_of state reply ≡ Some tells
  pub asks : lane_request work state ≡ Some request
  pub goes : Goes before request reply new
  pub last_is : last ≡ progress_after (record { lane = record { work = work; state = state }; lacked = lacked; stopped = false }) reply

pub last_turn : (Goes : Peer → Request → Reply → Peer → Type 0) (counts : (p q : Peer) (request : Request) (reply : Reply) → Goes p request reply q → CountsOn p q) (lane last : Progress) (old new : Peer) (t : LaneTurn Peer) (turns : List (LaneTurn Peer)) (told : List LaneNews) → LaneAlong Goes lane old (t ∷ turns) last new → Tell lane.lane (t ∷ turns) told
    → LastTurn Goes lane last old (t ∷ turns) told new
last_turn Goes counts lane last old new t [] told along tell = record {
  counts = record { faults = omega arith; armings = refl };
  work = lane.lane.work;
  state = lane.lane.state;
  lacked = lane.lacked;
  before = old;
  request = t.request;
  reply = t.reply;
  tells = tell.0;
  said = refl;
  says = ap last_of (tell.4 ∙ ap (λ (l : List LaneNews). tell.0 ∷ l) tell.3);
  told_is = tell.2;
  asks = along.2;
  goes = subst (λ (q : Peer). Goes old t.request t.reply q) (sym along.3.2.1) along.3.1;
  last_is = along.3.2.0 ∙ (λ i. progress_after (record { lane = lane.lane; lacked = lane.lacked; stopped = along.0 i }) t.reply);
}
last_turn Goes counts lane last old new t (u ∷ turns) told along tell =
    let rest = last_turn Goes counts (progress_after lane t.reply) last along.3.0 new u turns tell.1 along.3.2 tell.3 in
    record {
      counts = counts_on old along.3.0 rest.before (counts old along.3.0 t.request t.reply along.3.1) rest.counts;
      work = rest.work;
      state = rest.state;
      lacked = rest.lacked;
      before = rest.before;
      request = rest.request;
      reply = rest.reply;
      tells = rest.tells;
      said = rest.said;
      says = ap last_of tell.4 ∙ more_last tell.0 tell.1 rest.tells rest.says;
      told_is = rest.told_is;
      asks = rest.asks;
      goes = rest.goes;
      last_is = rest.last_is;
    }
  where
    more_last : (first : LaneNews) (more : List LaneNews) (one : LaneNews) → last_of more ≡ Some one → last_of (first ∷ more) ≡ Some one
    more_last first [] one e = absurd (let f : None ≡ Some one = e in cc)
    more_last first (next ∷ more) one e = e
