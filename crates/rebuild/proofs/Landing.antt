-- A lane brought to its end at the target.
use Rattle.std.proofs.Common.{◌≡◌, ◌⊎◌, ℕ, ◌<◌, ◌≤◌, ◌+◌, zero, suc, Bool, true, false, cond, List, [], ◌∷◌, ◌++◌, length, map, Option, Some, None, Result, Ok, Err, refl, sym, ap, ◌∙◌, subst, inl, inr, arith, eqb, eq-eqb, append-nil}
use Rattle.std.specs.Prelude.{IsTrue, MatchOption, ◌==◌}
use Rattle.std.specs.List.{count_by, range_with_len}
use Rattle.std.proofs.lemmas.Option.{same_Some}
use Rattle.std.proofs.lemmas.Bool.{cases_eq}
use Rattle.std.proofs.lemmas.List.{length-map}
use Rattle.std.proofs.lemmas.List.FromFn.{length-range_with_len}
use Rattle.lane_steps.specs.CdEdges.Causes.{Rose}
use Rattle.lane_steps.specs.CdBase.Limits.{IsPath}
use Rattle.lane_steps.specs.CdBase.shape.Shape.{Shape}
use Rattle.lane_steps.specs.Messages.request.Request.{Request}
use Rattle.lane_steps.specs.Messages.reply.Reply.{Reply}
use Rattle.lane_steps.specs.Messages.reply.Reply.TheVariants as replies
use Rattle.lane_steps.specs.UserDedup.command.Command.{Command}
use Rattle.lane_steps.specs.UserDedup.Dedup.{Outcome, FullRoom}
use Rattle.lane_steps.specs.UserDedup.Exec.{Peer, Exec, CountsOn, served}
use Rattle.lane_steps.specs.UserDedup.Link.{LinkTelling, Talk, Does, LosesAsk, LeavesOthers, serves}
use Rattle.lane_steps.proofs.UserDedup.Owned.{contains_here}
use Rattle.lane_steps.specs.UploadJob.news.LaneNews.{LaneNews}
use Rattle.lane_steps.specs.UploadJob.news.LaneNews.TheVariants as news
use Rattle.lane_steps.specs.UploadJob.Upload.{FileVersion, Work, work_of}
use Rattle.lane_steps.specs.UploadJob.Lane.{LaneState, Asking, Sending, Committing, Done, Refused, lane_request, news_of, unflagged}
use Rattle.lane_steps.specs.UploadJob.Lanes.{LaneView, begun, idle, lane_begun, with_state}
use Rattle.lane_steps.specs.Runs.{LaneTurn, Progress, starting, request_of, progress_after, LaneRun, LaneAlong, Tell, lane_at}
use Rattle.lane_steps.specs.declared.error.StepErr.{StepErr}
use Rattle.lane_steps.specs.declared.error.StepErr.TheVariants as step_errors
use Rattle.lane_steps.specs.Steps.{Heard, LaneSteps, LostAsk}
use Rattle.lane_steps.proofs.Views.{lane_with}
use Rattle.lane_steps.proofs.Runs.{run_of, along_more, tell_more, Alike}
use Rattle.kept_files.specs.RestoreJob.Asking.{MayRead}
use Rattle.kept_files.proofs.RestoreJob.Leading.{rose_on, may_stay, counts_on, put, put_here, put_other}
use Rattle.rebuild.specs.declared.error.RebuildErr.{RebuildErr}
use Rattle.rebuild.specs.declared.error.RebuildErr.TheVariants as errors
use Rattle.rebuild.specs.Found.{Finding}
use Rattle.rebuild.specs.Rebuilding.{Progressed, lane_ended, lane_of, last_said, BringsOne, BringsAll, IsNoLack, StopsAs}
use Rattle.rebuild.specs.Over.{LeadsWithTarget, TargetAlong, ThenLost}
use Rattle.rebuild.specs.Filling.{BringsTold, BringCaused, BringHolds, EndsBy, IsFilledFurther, LaneCut, failed_as, last_of}
use Rattle.rebuild.specs.Turns.{LaneEnded, LaneGoes, SaidLast}
use Rattle.rebuild.proofs.Telling.{goes_along, goes_there, reply_always}
use Rattle.rebuild.proofs.Lacking.{never_lacking}
use Rattle.rebuild.proofs.Cutting.{first_request, goes_on, same_counts, with_fault, with_first}
use Rattle.rebuild.proofs.Turning.{BringEnds, fault_rose, peer_turns, EndsAll, GoesFurther, HasEnded, PeerTurns, expected, follows, last_turn, untold_by, no_memory, never_damaged, never_rotten}

-- ---- one cloud of the link

-- where the target went by its turns
pub record Moved {L A : Type 0} (t : LinkTelling L) (talk : L → ℕ → Talk → Type 0) (target : ℕ) (from : List ℕ) (old new : L) (result : Result A RebuildErr)
    (Always : List (LaneTurn Peer) → Peer → Peer → Type 0) (Related : List (LaneTurn Peer) → Peer → Peer → Peer → Type 0) (p : Peer) : Type 0 where
  pub end : Peer
  pub turns : List (LaneTurn Peer)
  pub last : L
  pub at : Peer
  pub stands : t.stands new target end
  pub counts : CountsOn p end
  pub along : TargetAlong t talk target from old p turns last at
  pub then : ThenLost t target last at result new end
  pub always : Always turns p end
  pub told : IsTrue (t.told old target) → Related turns p at end

pub target_leads : {L A : Type 0} (t : LinkTelling L) (talk : L → ℕ → Talk → Type 0) (target : ℕ) (from : List ℕ) (old new : L) (result : Result A RebuildErr)
    (Always : List (LaneTurn Peer) → Peer → Peer → Type 0) (Related : List (LaneTurn Peer) → Peer → Peer → Peer → Type 0) → LeavesOthers t target old new
    → ((p : Peer) → t.stands old target p → Moved t talk target from old new result Always Related p)
    → LeadsWithTarget t talk target from old new result (λ turns before after. Always turns (before target) (after target)) (λ turns before at after. Related turns (before target) at (after target))
target_leads {L} t talk target from old new result Always Related others moves these all before peers =
    let m = moves (before target) (peers target (all target (contains_here target from))) in
    let after : ℕ → Peer = put before target m.end in
    let here : m.end ≡ after target = sym (put_here before target m.end) in (
      after,
      m.turns,
      m.last,
      m.at,
      λ x one. by_place m.end m.stands x one (cases_eq x target),
      record {
        read = λ x ne. subst (λ (q : Peer). MayRead (before x) q) (sym (put_other before target m.end x ne)) (may_stay (before x));
        others = λ x ne out. put_other before target m.end x ne;
        counts = subst (λ (q : Peer). CountsOn (before target) q) here m.counts;
      },
      m.along,
      subst (λ (q : Peer). ThenLost t target m.last m.at result new q) here m.then,
      subst (λ (q : Peer). Always m.turns (before target) q) here m.always,
      λ told. subst (λ (q : Peer). Related m.turns (before target) m.at q) here (m.told (told target (contains_here target from))),
    )
  where
    by_place : (q : Peer) → t.stands new target q → (x : ℕ) → IsTrue (these x) → (x ≡ target) ⊎ (x ≡ target → ⊥) → t.stands new x (put before target q x)
    by_place q stands x reach (inl e) = subst (λ (y : ℕ). t.stands new y (put before target q y)) (sym e) (subst (t.stands new target) (sym (put_here before target q)) stands)
    by_place q stands x reach (inr ne) = subst (t.stands new x) (sym (put_other before target q x ne)) (others.stands x (before x) ne (peers x reach))

-- ---- a told target

none_not_some : (request : Request) → None ≡ Some request → ⊥
none_not_some request e = cc

-- what goes further hasn't ended
not_both : (p : Progress) → GoesFurther p → HasEnded p → ⊥
not_both p further (inl stopped) = let e : false ≡ true = sym further.0 ∙ stopped in cc
not_both p further (inr none) = none_not_some further.1.0 (sym none ∙ further.1.1)

module _ (shape : Shape) (target : ℕ) (full : List Command → Command → Option FullRoom) where
  serve : List Command → Request → Outcome
  serve = served shape target full

  abbrev Turned : Peer → Request → Reply → Peer → Type 0
  Turned = Exec shape true (served shape target full)

  turned_counts : (p q : Peer) (request : Request) (reply : Reply) → Turned p request reply q → CountsOn p q
  turned_counts p q request reply x = x.counts

  -- the end of a lane
  record LaneEnd (v : FileVersion) (last : Progress) (start : Peer) (turns : List (LaneTurn Peer)) (told : List LaneNews) : Type 0 where
    pub state : LaneState
    pub reply : Reply
    pub tells : LaneNews
    pub said : last_said turns ≡ Some reply
    pub says : last_of told ≡ Some tells
    pub told_is : news_of state reply ≡ Some tells
    pub way : GoesFurther last ⊎ (HasEnded last × EndsAll state last.lane.state reply)

  lane_end : (v : FileVersion) (last : Progress) (start end : Peer) (t : LaneTurn Peer) (turns : List (LaneTurn Peer)) (told : List LaneNews) → LaneAlong Turned (lane_of shape target v) start (t ∷ turns) last end
      → Tell (lane_of shape target v).lane (t ∷ turns) told → LaneEnd v last start (t ∷ turns) told
  lane_end v last start end t turns told along tell =
      let lt = last_turn Turned turned_counts (lane_of shape target v) last start end t turns told along tell in
      let f = follows lt.work lt.state lt.lacked lt.request lt.reply lt.asks (expected shape target full lt.work lt.state lt.request lt.reply lt.before end lt.asks lt.goes) in
      record {
        state = lt.state;
        reply = lt.reply;
        tells = lt.tells;
        said = lt.said;
        says = lt.says;
        told_is = lt.told_is;
        way = subst (λ (p : Progress). GoesFurther p ⊎ (HasEnded p × EndsAll lt.state p.lane.state lt.reply)) (sym lt.last_is) f;
      }

  by_due : (v : FileVersion) (due : Result Bool RebuildErr) (last : Progress) (said : Reply) (turns : List (LaneTurn Peer)) (start at end : Peer) → BringEnds due last.lane.state said
      → LaneRun Turned (lane_of shape target v) start turns last end → last_said turns ≡ Some said → BringsTold shape target (served shape target full) v due turns start at end
  by_due v (Ok there) last said turns start at end ends run is = record { last = last; said = said; run = run; said_is = is; ends = ends }
  by_due v (Err errors.TargetFault) last said turns start at end ends run is = record { last = last; said = said; run = run; said_is = is; ends = ends }
  by_due v (Err (errors.TargetDamaged place byte)) last said turns start at end ends run is = record { last = last; said = said; run = run; said_is = is; ends = ends }
  by_due v (Err (errors.TargetRotten named hash)) last said turns start at end ends run is = record { last = last; said = said; run = run; said_is = is; ends = ends }
  by_due v (Err (errors.TargetFull room used need limit)) last said turns start at end ends run is = record { last = last; said = said; run = run; said_is = is; ends = ends }
  by_due v (Err (errors.TargetLacking place)) last said turns start at end ends run is = record { last = last; said = said; run = run; said_is = is; ends = ends }
  by_due v (Err errors.TargetNoMemory) last said turns start at end ends run is = record { last = last; said = said; run = run; said_is = is; ends = ends }
  by_due v (Err (errors.FromRestore e)) last said turns start at end ends run is = absurd ends.0
  by_due v (Err errors.TargetLost) last said turns start at end ends run is = absurd ends.0
  by_due v (Err (errors.TargetStrange kind)) last said turns start at end ends run is = absurd ends.0
  by_due v (Err errors.NoMemory) last said turns start at end ends run is = absurd ends.0

  begun_further : (v : FileVersion) → GoesFurther (lane_of shape target v)
  begun_further v = (refl, first_request (work_of shape v target))

  -- a lane that ended
  pub brought_told : (v : FileVersion) (last : Progress) (start at end : Peer) (turns : List (LaneTurn Peer)) (told : List LaneNews) (r : Result Bool RebuildErr) → LaneAlong Turned (lane_of shape target v) start turns last end → HasEnded last
      → Tell (lane_of shape target v).lane turns told → EndsBy (last_of told) r → BringsTold shape target (served shape target full) v r turns start at end
  brought_told v last start at end [] told r along ended tell ends = absurd (not_both last (subst GoesFurther (sym along.0) (begun_further v)) ended)
  brought_told v last start at end (t ∷ turns) told r along ended tell ends =
      let e = lane_end v last start end t turns told along tell in
      elim e.way [
        | inl further ↦ absurd (not_both last further ended)
        | inr way ↦
            let same : r ≡ way.1.0 = way.1.2 e.tells r e.told_is (subst (λ (o : Option LaneNews). EndsBy o r) e.says ends) in
            subst (λ (x : Result Bool RebuildErr). BringsTold shape target (served shape target full) v x (t ∷ turns) start at end) (sym same)
            (by_due v way.1.0 last e.reply (t ∷ turns) start at end way.1.1 (run_of Turned (lane_of shape target v) last start end (t ∷ turns) along ended) e.said)
      ]

  -- a lane that was cut
  stop_by : (f : Finding) (fs : List Finding) (r next : Progressed) (start at : Peer) (turns : List (LaneTurn Peer)) (said : Reply) (e : RebuildErr) → BringsOne shape target (served shape target full) f.key f.found r start turns next at
      → next.stop ≡ Some said → StopsAs said e → IsNoLack e → IsFilledFurther shape target (served shape target full) (f ∷ fs) r start turns at
  stop_by f fs r next start at turns said e one stop stops whole = record {
    front = f ∷ [];
    left = fs;
    split = refl;
    more = [];
    last = next;
    end = at;
    brings = (
      next,
      at,
      turns,
      [],
      one,
      refl,
      subst (λ (o : Option Reply). MatchOption o (BringsAll shape target (served shape target full) [] next at [] next at) (λ s. (nothing ≡ []) × (next ≡ next) × (at ≡ at))) (sym stop) (refl, refl, refl),
    );
    comes = refl;
    counts = same_counts shape target (served shape target full) at;
    ends = inr (said, e, stop, stops, whole);
  }
    where
      nothing : List (LaneTurn Peer)
      nothing = []

  goes_by : (f : Finding) (fs : List Finding) (r next : Progressed) (start at : Peer) (turns : List (LaneTurn Peer)) → BringsOne shape target (served shape target full) f.key f.found r start turns next at → next.stop ≡ None
      → IsFilledFurther shape target (served shape target full) (f ∷ fs) r start turns at
  goes_by f fs r next start at turns one goes =
      subst (λ (l : List (LaneTurn Peer)). IsFilledFurther shape target (served shape target full) (f ∷ fs) r start l at) (append-nil turns)
      (with_first shape target (served shape target full) f fs r next start at at turns [] one goes (goes_on shape target (served shape target full) fs next at goes))

  no_lack : (said : Reply) (e : RebuildErr) → StopsAs said e → ((place : ℕ) → said ≡ replies.Lacking place → ⊥) → IsNoLack e
  no_lack said (errors.FromRestore e) stops none = tt
  no_lack said errors.TargetLost stops none = tt
  no_lack said errors.TargetFault stops none = tt
  no_lack said (errors.TargetDamaged place byte) stops none = tt
  no_lack said (errors.TargetRotten named hash) stops none = tt
  no_lack said (errors.TargetFull room used need limit) stops none = tt
  no_lack said (errors.TargetLacking place) stops none = none place stops
  no_lack said errors.TargetNoMemory stops none = tt
  no_lack said (errors.TargetStrange kind) stops none = tt
  no_lack said errors.NoMemory stops none = tt

  cut_ended : (v : FileVersion) (due : Result Bool RebuildErr) (last : Progress) (said : Reply) (turns : List (LaneTurn Peer)) (start at : Peer) → BringEnds due last.lane.state said
      → LaneRun Turned (lane_of shape target v) start turns last at → last_said turns ≡ Some said → ((place : ℕ) → said ≡ replies.Lacking place → ⊥) → LaneCut shape target (served shape target full) v start turns at
  cut_ended v due last said turns start at ends run is whole f fs r found none = by_due_cut due ends
    where
      next : Progressed
      next = lane_ended f.key last.lane.state said r

      one : BringsOne shape target (served shape target full) f.key f.found r start turns next at
      one = subst (λ (o : Result FileVersion _). BringsOne shape target (served shape target full) f.key o r start turns next at) (sym found) (last, said, run, is, refl)

      stop_done : last.lane.state ≡ Done → next.stop ≡ None
      stop_done e = ap (λ (s : LaneState). (lane_ended f.key s said r).stop) e

      stop_exists : last.lane.state ≡ Refused → said ≡ replies.Exists → next.stop ≡ None
      stop_exists e x = (λ i. (lane_ended f.key (e i) (x i) r).stop)

      by_due_cut : (due : Result Bool RebuildErr) → BringEnds due last.lane.state said → IsFilledFurther shape target (served shape target full) (f ∷ fs) r start turns at
      by_due_cut (Ok true) ends = goes_by f fs r next start at turns one (stop_done ends)
      by_due_cut (Ok false) ends = goes_by f fs r next start at turns one (stop_exists ends.0 ends.1)
      by_due_cut (Err e) ends = stop_by f fs r next start at turns said e one (ends.1 f.key r) ends.0 (no_lack said e ends.0 whole)

  pub lane_cut : (v : FileVersion) (last : Progress) (start at : Peer) (turns : List (LaneTurn Peer)) (told : List LaneNews) → IsPath v.path → length v.file ≤ 67108864 → LaneAlong Turned (lane_of shape target v) start turns last at
      → Tell (lane_of shape target v).lane turns told → LaneCut shape target (served shape target full) v start turns at
  lane_cut v last start at [] told named few along tell f fs r found none =
      let further = subst GoesFurther (sym along.0) (begun_further v) in
      with_fault shape target (served shape target full) f fs r v last start at [] further.1.0 found along further.0 further.1.1
  lane_cut v last start at (t ∷ turns) told named few along tell f fs r found none =
      let e = lane_end v last start at t turns told along tell in
      elim e.way [
        | inl further ↦ with_fault shape target (served shape target full) f fs r v last start at (t ∷ turns) further.1.0 found along further.0 further.1.1
        | inr way ↦ cut_ended v way.1.0 last e.reply (t ∷ turns) start at way.1.1 (run_of Turned (lane_of shape target v) last start at (t ∷ turns) along way.0) e.said
            (λ place lacks. never_lacking shape target full v last start at (t ∷ turns) place named few along (e.said ∙ ap (λ (x : Reply). Some x) lacks)) f fs r found none
      ]

-- ---- over a link

pub run_along : {S : Type 0} (Goes : S → Request → Reply → S → Type 0) (p last : Progress) (old new : S) (turns : List (LaneTurn S)) → LaneRun Goes p old turns last new → LaneAlong Goes p old turns last new × HasEnded last
run_along Goes p last old new [] run = ((run.1, run.2), subst HasEnded (sym run.1) run.0)
run_along Goes p last old new (t ∷ turns) run =
    let r = run_along Goes (progress_after p t.reply) last run.3.0 new turns run.3.2 in
    ((run.0, run.1, run.2, (run.3.0, run.3.1, r.0)), r.1)

-- the reply that such news tell
abbrev pub Tells : LaneNews → Reply → Type 0
Tells news.Fault reply = reply ≡ replies.Fault
Tells (news.Damaged at byte) reply = reply ≡ replies.Damaged at byte
Tells (news.Rotten named hash) reply = reply ≡ replies.Rotten named hash
Tells (news.Full room used need limit) reply = reply ≡ replies.Full room used need limit
Tells (news.Lacking place) reply = reply ≡ replies.Lacking place
Tells news.NoMemory reply = reply ≡ replies.NoMemory
Tells told reply = Unit {0}

tells_as : (one told : LaneNews) (reply : Reply) → Some one ≡ Some told → Tells one reply → Tells told reply
tells_as one told reply e x = subst (λ (n : LaneNews). Tells n reply) (same_Some one told e) x

none_told : (told : LaneNews) → None ≡ Some told → ⊥
none_told told e = cc

pub news_tells : (state : LaneState) (reply : Reply) (told : LaneNews) → news_of state reply ≡ Some told → Tells told reply
news_tells (Asking batch rest) (replies.Hello n k own format) told e = absurd (none_told told e)
news_tells (Asking batch rest) (replies.Known known) told e = tells_as (news.Known (count_by (λ flag. flag == 1) known) (length batch)) told (replies.Known known) e tt
news_tells (Asking batch rest) (replies.Stored new) told e = absurd (none_told told e)
news_tells (Asking batch rest) replies.Committed told e = tells_as news.Committed told replies.Committed e tt
news_tells (Asking batch rest) replies.Exists told e = tells_as news.Exists told replies.Exists e tt
news_tells (Asking batch rest) (replies.Lacking place) told e = tells_as (news.Lacking place) told (replies.Lacking place) e refl
news_tells (Asking batch rest) (replies.Recipe bytes) told e = absurd (none_told told e)
news_tells (Asking batch rest) replies.Missing told e = absurd (none_told told e)
news_tells (Asking batch rest) (replies.Shares shares) told e = absurd (none_told told e)
news_tells (Asking batch rest) (replies.NotYours place) told e = absurd (none_told told e)
news_tells (Asking batch rest) (replies.Entries entries) told e = absurd (none_told told e)
news_tells (Asking batch rest) replies.Deleted told e = absurd (none_told told e)
news_tells (Asking batch rest) (replies.Full room used need limit) told e = tells_as (news.Full room used need limit) told (replies.Full room used need limit) e refl
news_tells (Asking batch rest) replies.Fault told e = tells_as news.Fault told replies.Fault e refl
news_tells (Asking batch rest) (replies.Damaged at byte) told e = tells_as (news.Damaged at byte) told (replies.Damaged at byte) e refl
news_tells (Asking batch rest) (replies.Rotten named hash) told e = tells_as (news.Rotten named hash) told (replies.Rotten named hash) e refl
news_tells (Asking batch rest) (replies.Malformed at) told e = absurd (none_told told e)
news_tells (Asking batch rest) replies.NoMemory told e = tells_as news.NoMemory told replies.NoMemory e refl
news_tells (Sending batch marks rest) (replies.Hello n k own format) told e = absurd (none_told told e)
news_tells (Sending batch marks rest) (replies.Known known) told e = absurd (none_told told e)
news_tells (Sending batch marks rest) (replies.Stored new) told e = tells_as (news.Stored new (length (unflagged batch marks))) told (replies.Stored new) e tt
news_tells (Sending batch marks rest) replies.Committed told e = tells_as news.Committed told replies.Committed e tt
news_tells (Sending batch marks rest) replies.Exists told e = tells_as news.Exists told replies.Exists e tt
news_tells (Sending batch marks rest) (replies.Lacking place) told e = tells_as (news.Lacking place) told (replies.Lacking place) e refl
news_tells (Sending batch marks rest) (replies.Recipe bytes) told e = absurd (none_told told e)
news_tells (Sending batch marks rest) replies.Missing told e = absurd (none_told told e)
news_tells (Sending batch marks rest) (replies.Shares shares) told e = absurd (none_told told e)
news_tells (Sending batch marks rest) (replies.NotYours place) told e = absurd (none_told told e)
news_tells (Sending batch marks rest) (replies.Entries entries) told e = absurd (none_told told e)
news_tells (Sending batch marks rest) replies.Deleted told e = absurd (none_told told e)
news_tells (Sending batch marks rest) (replies.Full room used need limit) told e = tells_as (news.Full room used need limit) told (replies.Full room used need limit) e refl
news_tells (Sending batch marks rest) replies.Fault told e = tells_as news.Fault told replies.Fault e refl
news_tells (Sending batch marks rest) (replies.Damaged at byte) told e = tells_as (news.Damaged at byte) told (replies.Damaged at byte) e refl
news_tells (Sending batch marks rest) (replies.Rotten named hash) told e = tells_as (news.Rotten named hash) told (replies.Rotten named hash) e refl
news_tells (Sending batch marks rest) (replies.Malformed at) told e = absurd (none_told told e)
news_tells (Sending batch marks rest) replies.NoMemory told e = tells_as news.NoMemory told replies.NoMemory e refl
news_tells Committing (replies.Hello n k own format) told e = absurd (none_told told e)
news_tells Committing (replies.Known known) told e = absurd (none_told told e)
news_tells Committing (replies.Stored new) told e = absurd (none_told told e)
news_tells Committing replies.Committed told e = tells_as news.Committed told replies.Committed e tt
news_tells Committing replies.Exists told e = tells_as news.Exists told replies.Exists e tt
news_tells Committing (replies.Lacking place) told e = tells_as (news.Lacking place) told (replies.Lacking place) e refl
news_tells Committing (replies.Recipe bytes) told e = absurd (none_told told e)
news_tells Committing replies.Missing told e = absurd (none_told told e)
news_tells Committing (replies.Shares shares) told e = absurd (none_told told e)
news_tells Committing (replies.NotYours place) told e = absurd (none_told told e)
news_tells Committing (replies.Entries entries) told e = absurd (none_told told e)
news_tells Committing replies.Deleted told e = absurd (none_told told e)
news_tells Committing (replies.Full room used need limit) told e = tells_as (news.Full room used need limit) told (replies.Full room used need limit) e refl
news_tells Committing replies.Fault told e = tells_as news.Fault told replies.Fault e refl
news_tells Committing (replies.Damaged at byte) told e = tells_as (news.Damaged at byte) told (replies.Damaged at byte) e refl
news_tells Committing (replies.Rotten named hash) told e = tells_as (news.Rotten named hash) told (replies.Rotten named hash) e refl
news_tells Committing (replies.Malformed at) told e = absurd (none_told told e)
news_tells Committing replies.NoMemory told e = tells_as news.NoMemory told replies.NoMemory e refl
news_tells Done (replies.Hello n k own format) told e = absurd (none_told told e)
news_tells Done (replies.Known known) told e = absurd (none_told told e)
news_tells Done (replies.Stored new) told e = absurd (none_told told e)
news_tells Done replies.Committed told e = tells_as news.Committed told replies.Committed e tt
news_tells Done replies.Exists told e = tells_as news.Exists told replies.Exists e tt
news_tells Done (replies.Lacking place) told e = tells_as (news.Lacking place) told (replies.Lacking place) e refl
news_tells Done (replies.Recipe bytes) told e = absurd (none_told told e)
news_tells Done replies.Missing told e = absurd (none_told told e)
news_tells Done (replies.Shares shares) told e = absurd (none_told told e)
news_tells Done (replies.NotYours place) told e = absurd (none_told told e)
news_tells Done (replies.Entries entries) told e = absurd (none_told told e)
news_tells Done replies.Deleted told e = absurd (none_told told e)
news_tells Done (replies.Full room used need limit) told e = tells_as (news.Full room used need limit) told (replies.Full room used need limit) e refl
news_tells Done replies.Fault told e = tells_as news.Fault told replies.Fault e refl
news_tells Done (replies.Damaged at byte) told e = tells_as (news.Damaged at byte) told (replies.Damaged at byte) e refl
news_tells Done (replies.Rotten named hash) told e = tells_as (news.Rotten named hash) told (replies.Rotten named hash) e refl
news_tells Done (replies.Malformed at) told e = absurd (none_told told e)
news_tells Done replies.NoMemory told e = tells_as news.NoMemory told replies.NoMemory e refl
news_tells Refused (replies.Hello n k own format) told e = absurd (none_told told e)
news_tells Refused (replies.Known known) told e = absurd (none_told told e)
news_tells Refused (replies.Stored new) told e = absurd (none_told told e)
news_tells Refused replies.Committed told e = tells_as news.Committed told replies.Committed e tt
news_tells Refused replies.Exists told e = tells_as news.Exists told replies.Exists e tt
news_tells Refused (replies.Lacking place) told e = tells_as (news.Lacking place) told (replies.Lacking place) e refl
news_tells Refused (replies.Recipe bytes) told e = absurd (none_told told e)
news_tells Refused replies.Missing told e = absurd (none_told told e)
news_tells Refused (replies.Shares shares) told e = absurd (none_told told e)
news_tells Refused (replies.NotYours place) told e = absurd (none_told told e)
news_tells Refused (replies.Entries entries) told e = absurd (none_told told e)
news_tells Refused replies.Deleted told e = absurd (none_told told e)
news_tells Refused (replies.Full room used need limit) told e = tells_as (news.Full room used need limit) told (replies.Full room used need limit) e refl
news_tells Refused replies.Fault told e = tells_as news.Fault told replies.Fault e refl
news_tells Refused (replies.Damaged at byte) told e = tells_as (news.Damaged at byte) told (replies.Damaged at byte) e refl
news_tells Refused (replies.Rotten named hash) told e = tells_as (news.Rotten named hash) told (replies.Rotten named hash) e refl
news_tells Refused (replies.Malformed at) told e = absurd (none_told told e)
news_tells Refused replies.NoMemory told e = tells_as news.NoMemory told replies.NoMemory e refl

pub news_fault : (state : LaneState) (reply : Reply) → news_of state reply ≡ Some news.Fault → reply ≡ replies.Fault
news_fault state reply e = news_tells state reply news.Fault e

-- what such news say of the target that told them
abbrev CausedBy : Bool → LaneNews → Peer → Peer → Type 0
CausedBy known news.Fault p q = Rose p.faults q.faults
CausedBy known (news.Damaged at byte) p q = known ≡ false
CausedBy known (news.Rotten named hash) p q = known ≡ false
CausedBy known (news.Lacking place) p q = known ≡ false
CausedBy known news.NoMemory p q = ⊥
CausedBy known told p q = Unit {0}

caused_end : (known : Bool) (tells : LaneNews) (r : Result Bool RebuildErr) (p q : Peer) → EndsBy (Some tells) r → CausedBy known tells p q → BringCaused known r p q
caused_end known news.Committed r p q is by = subst (λ (x : Result Bool RebuildErr). BringCaused known x p q) (sym is) tt
caused_end known news.Exists r p q is by = subst (λ (x : Result Bool RebuildErr). BringCaused known x p q) (sym is) tt
caused_end known (news.Full room used need limit) r p q is by = subst (λ (x : Result Bool RebuildErr). BringCaused known x p q) (sym is) tt
caused_end known (news.Lacking place) r p q is by = subst (λ (x : Result Bool RebuildErr). BringCaused known x p q) (sym is) by
caused_end known news.Fault r p q is by = subst (λ (x : Result Bool RebuildErr). BringCaused known x p q) (sym is) by
caused_end known (news.Damaged at byte) r p q is by = subst (λ (x : Result Bool RebuildErr). BringCaused known x p q) (sym is) by
caused_end known (news.Rotten named hash) r p q is by = subst (λ (x : Result Bool RebuildErr). BringCaused known x p q) (sym is) by
caused_end known news.NoMemory r p q is by = subst (λ (x : Result Bool RebuildErr). BringCaused known x p q) (sym is) (absurd by)
caused_end known (news.Known marks asked) r p q is by = subst (λ (x : Result Bool RebuildErr). BringCaused known x p q) (sym is) tt
caused_end known (news.Stored new sent) r p q is by = subst (λ (x : Result Bool RebuildErr). BringCaused known x p q) (sym is) tt

said_end : (tells : LaneNews) (r : Result Bool RebuildErr) (reply : Reply) (turns : List (LaneTurn Peer)) → EndsBy (Some tells) r → last_said turns ≡ Some reply → Tells tells reply → SaidLast r turns
said_end news.Committed r reply turns is said so = subst (λ (x : Result Bool RebuildErr). SaidLast x turns) (sym is) tt
said_end news.Exists r reply turns is said so = subst (λ (x : Result Bool RebuildErr). SaidLast x turns) (sym is) tt
said_end (news.Full room used need limit) r reply turns is said so = subst (λ (x : Result Bool RebuildErr). SaidLast x turns) (sym is) (said ∙ ap (λ (x : Reply). Some x) so)
said_end (news.Lacking place) r reply turns is said so = subst (λ (x : Result Bool RebuildErr). SaidLast x turns) (sym is) (said ∙ ap (λ (x : Reply). Some x) so)
said_end news.Fault r reply turns is said so = subst (λ (x : Result Bool RebuildErr). SaidLast x turns) (sym is) (said ∙ ap (λ (x : Reply). Some x) so)
said_end (news.Damaged at byte) r reply turns is said so = subst (λ (x : Result Bool RebuildErr). SaidLast x turns) (sym is) (said ∙ ap (λ (x : Reply). Some x) so)
said_end (news.Rotten named hash) r reply turns is said so = subst (λ (x : Result Bool RebuildErr). SaidLast x turns) (sym is) (said ∙ ap (λ (x : Reply). Some x) so)
said_end news.NoMemory r reply turns is said so = subst (λ (x : Result Bool RebuildErr). SaidLast x turns) (sym is) (said ∙ ap (λ (x : Reply). Some x) so)
said_end (news.Known known asked) r reply turns is said so = subst (λ (x : Result Bool RebuildErr). SaidLast x turns) (sym is) tt
said_end (news.Stored new sent) r reply turns is said so = subst (λ (x : Result Bool RebuildErr). SaidLast x turns) (sym is) tt

-- what an executed request says of the target, by the news of its reply
caused_news : (shape : Shape) (target : ℕ) (full : List Command → Command → Option FullRoom) (known : Bool) (w : Work) (state : LaneState) (request : Request) (reply : Reply) (tells : LaneNews) (p mid q : Peer) → CountsOn p mid
    → lane_request w state ≡ Some request → Exec shape known (served shape target full) mid request reply q → ((place : ℕ) → reply ≡ replies.Lacking place → known ≡ false) → Tells tells reply → CausedBy known tells p q
caused_news shape target full known w state request reply news.Committed p mid q counts asks goes lacks so = tt
caused_news shape target full known w state request reply news.Exists p mid q counts asks goes lacks so = tt
caused_news shape target full known w state request reply (news.Full room used need limit) p mid q counts asks goes lacks so = tt
caused_news shape target full known w state request reply (news.Lacking place) p mid q counts asks goes lacks so = lacks place so
caused_news shape target full known w state request reply news.Fault p mid q counts asks goes lacks so =
    rose_on p.faults mid.faults q.faults counts.faults (fault_rose shape target full known w state request reply mid q asks goes so)
caused_news shape target full known w state request reply (news.Damaged at byte) p mid q counts asks goes lacks so =
    untold_by shape target full known w state request (replies.Damaged at byte) mid q asks (subst (λ (x : Reply). Exec shape known (served shape target full) mid request x q) so goes) (never_damaged at byte)
    (λ e. let f : replies.Damaged at byte ≡ replies.Fault = e in cc)
caused_news shape target full known w state request reply (news.Rotten named hash) p mid q counts asks goes lacks so =
    untold_by shape target full known w state request (replies.Rotten named hash) mid q asks (subst (λ (x : Reply). Exec shape known (served shape target full) mid request x q) so goes) (never_rotten named hash)
    (λ e. let f : replies.Rotten named hash ≡ replies.Fault = e in cc)
caused_news shape target full known w state request reply news.NoMemory p mid q counts asks goes lacks so =
    no_memory shape target full known w state request mid q asks (subst (λ (x : Reply). Exec shape known (served shape target full) mid request x q) so goes)
caused_news shape target full known w state request reply (news.Known marks asked) p mid q counts asks goes lacks so = tt
caused_news shape target full known w state request reply (news.Stored new sent) p mid q counts asks goes lacks so = tt

then_none : {L : Type 0} (t : LinkTelling L) (target : ℕ) (link : L) (q : Peer) (o : Option LaneNews) (r : Result Bool RebuildErr) → EndsBy o r → ThenLost t target link q r link q
then_none t target link q None r is = subst (λ (x : Result Bool RebuildErr). ThenLost t target link q x link q) (sym is) (refl, refl)
then_none t target link q (Some news.Committed) r is = subst (λ (x : Result Bool RebuildErr). ThenLost t target link q x link q) (sym is) (refl, refl)
then_none t target link q (Some news.Exists) r is = subst (λ (x : Result Bool RebuildErr). ThenLost t target link q x link q) (sym is) (refl, refl)
then_none t target link q (Some (news.Full room used need limit)) r is = subst (λ (x : Result Bool RebuildErr). ThenLost t target link q x link q) (sym is) (refl, refl)
then_none t target link q (Some (news.Lacking place)) r is = subst (λ (x : Result Bool RebuildErr). ThenLost t target link q x link q) (sym is) (refl, refl)
then_none t target link q (Some news.Fault) r is = subst (λ (x : Result Bool RebuildErr). ThenLost t target link q x link q) (sym is) (refl, refl)
then_none t target link q (Some (news.Damaged at byte)) r is = subst (λ (x : Result Bool RebuildErr). ThenLost t target link q x link q) (sym is) (refl, refl)
then_none t target link q (Some (news.Rotten named hash)) r is = subst (λ (x : Result Bool RebuildErr). ThenLost t target link q x link q) (sym is) (refl, refl)
then_none t target link q (Some news.NoMemory) r is = subst (λ (x : Result Bool RebuildErr). ThenLost t target link q x link q) (sym is) (refl, refl)
then_none t target link q (Some (news.Known known asked)) r is = subst (λ (x : Result Bool RebuildErr). ThenLost t target link q x link q) (sym is) (refl, refl)
then_none t target link q (Some (news.Stored new sent)) r is = subst (λ (x : Result Bool RebuildErr). ThenLost t target link q x link q) (sym is) (refl, refl)

loses_counts : {L : Type 0} (t : LinkTelling L) (cloud : ℕ) (old : L) (p q : Peer) (request : Request) → LosesAsk t cloud old p request q → CountsOn p q
loses_counts t cloud old p q request (inl stays) = stays.1
loses_counts t cloud old p q request (inr x) = x.1.counts

lane_in : (f : ℕ → LaneView) (a n i : ℕ) → i < n → lane_at (map f (range_with_len a n)) i ≡ f (a + i)
lane_in f a zero i lt = absurd (omega arith)
lane_in f a (suc n) zero lt = ap f (omega arith)
lane_in f a (suc n) (suc i) lt = lane_in f (a + 1) n i (omega arith) ∙ ap f (omega arith)

-- the lane of a cloud in a job for the target alone
abbrev alone_in : Shape → FileVersion → ℕ → ℕ → LaneView
alone_in shape v target cloud = cond (eqb cloud target) (begun (work_of shape v cloud)) (idle shape v)

pub lane_is : (shape : Shape) (v : FileVersion) (target : ℕ) → target < shape.n → starting (lane_at (lane_begun shape v target) target) ≡ lane_of shape target v
lane_is shape v target lt =
    let zero_is : 0 + target ≡ target = omega arith in
    ap starting (lane_in (alone_in shape v target) 0 shape.n target lt) ∙ ap (λ (c : ℕ). starting (alone_in shape v target c)) zero_is
    ∙ ap (λ (b : Bool). starting (cond b (begun (work_of shape v target)) (idle shape v))) (eq-eqb target target refl)

-- a lane goes on with its own work
pub along_work : {S : Type 0} (Goes : S → Request → Reply → S → Type 0) (p last : Progress) (old new : S) (turns : List (LaneTurn S)) → LaneAlong Goes p old turns last new → last.lane.work ≡ p.lane.work
along_work Goes p last old new [] along = ap (λ (x : Progress). x.lane.work) along.0
along_work Goes p last old new (t ∷ turns) along = along_work Goes (progress_after p t.reply) last along.3.0 new turns along.3.2

pub lane_still : {S : Type 0} (Goes : S → Request → Reply → S → Type 0) (views : List LaneView) (i : ℕ) (last : Progress) (old new : S) (turns : List (LaneTurn S)) → i < length views → LaneAlong Goes (starting (lane_at views i)) old turns last new
    → lane_at (with_state views i last.lane.state) i ≡ last.lane
lane_still Goes views i last old new turns lt along =
    let work = along_work Goes (starting (lane_at views i)) last old new turns along in
    lane_with views i last.lane.state lt ∙ (λ k. record { work = sym work k; state = last.lane.state })

pub lanes_long : (shape : Shape) (v : FileVersion) (target : ℕ) → length (lane_begun shape v target) ≡ shape.n
lanes_long shape v target = length-map (range_with_len 0 shape.n) (alone_in shape v target) ∙ length-range_with_len 0 shape.n

module _ {L : Type 0} (t : LinkTelling L) (talk : L → ℕ → Talk → Type 0) (shape : Shape) (target : ℕ) (from : List ℕ) (v : FileVersion) (named : IsPath v.path) (few : length v.file ≤ 67108864) (old : L) (same : t.shape old ≡ shape) where
  abbrev Brought : L → Result Bool RebuildErr → Peer → Type 0
  Brought new r p = Moved t talk target from old new r (BringHolds (t.told old target) (LaneGoes (lane_of shape target v)) (LaneEnded (lane_of shape target v)) r) (BringsTold shape target (serves t old target) v r) p

  alike : Alike t old old
  alike = record { shape = refl; told = refl; full = refl }

  abbrev Went : L → Progress → List LaneNews → Peer → Type 0
  Went new last told p = PeerTurns t talk target from old old new (lane_of shape target v) last told p

  went : (new : L) (lane last : Progress) (turns : List (LaneTurn L)) (told : List LaneNews) (p : Peer) → lane ≡ lane_of shape target v → LaneAlong (Heard t talk target) lane old turns last new → Tell lane.lane turns told → t.stands old target p
      → Went new last told p
  went new lane last turns told p is along tell stands =
      peer_turns t talk target from old old new (lane_of shape target v) last turns told p alike
      (subst (λ (x : Progress). LaneAlong (Heard t talk target) x old turns last new) is along) (subst (λ (x : Progress). Tell x.lane turns told) is tell) stands

  -- as a told target does it
  as_told : (last : Progress) (p q : Peer) (turns : List (LaneTurn Peer)) → IsTrue (t.told old target) → LaneAlong (Does t target old) (lane_of shape target v) p turns last q
      → LaneAlong (Exec shape true (served shape target (t.full old target))) (lane_of shape target v) p turns last q
  as_told last p q turns told along =
      subst (λ (s : Shape). LaneAlong (Exec s true (served s target (t.full old target))) (lane_of shape target v) p turns last q) same
      (subst (λ (b : Bool). LaneAlong (Exec (t.shape old) b (served (t.shape old) target (t.full old target))) (lane_of shape target v) p turns last q) told along)

  -- one whose lane ended by a share that is lacking isn't told
  not_told : (last : Progress) (p q : Peer) (turns : List (LaneTurn Peer)) (place : ℕ) → LaneAlong (Does t target old) (lane_of shape target v) p turns last q → last_said turns ≡ Some (replies.Lacking place) → t.told old target ≡ false
  not_told last p q turns place along said = by_told (t.told old target) refl
    where
      by_told : (b : Bool) → t.told old target ≡ b → t.told old target ≡ false
      by_told true e = absurd (never_lacking shape target (t.full old target) v last p q turns place named few (as_told last p q turns e along) said)
      by_told false e = e

  does_counts : (p q : Peer) (request : Request) (reply : Reply) → Does t target old p request reply q → CountsOn p q
  does_counts p q request reply x = x.counts

  goes_by_turns : (last : Progress) (p q : Peer) (turns : List (LaneTurn Peer)) → LaneAlong (Does t target old) (lane_of shape target v) p turns last q → LaneGoes (lane_of shape target v) turns
  goes_by_turns last p q turns along = goes_along (Does t target old) (lane_of shape target v) last p q turns along

  ended_by : (last : Progress) (p q : Peer) (turns : List (LaneTurn Peer)) → LaneAlong (Does t target old) (lane_of shape target v) p turns last q → HasEnded last → LaneEnded (lane_of shape target v) turns
  ended_by last p q turns along ended = subst HasEnded (goes_there (Does t target old) (lane_of shape target v) last p q turns along) ended

  holds_by : (last : Progress) (p q : Peer) (turns : List (LaneTurn Peer)) (told : List LaneNews) (r : Result Bool RebuildErr) → LaneAlong (Does t target old) (lane_of shape target v) p turns last q → HasEnded last → Tell (lane_of shape target v).lane turns told → EndsBy (last_of told) r
      → BringHolds (t.told old target) (LaneGoes (lane_of shape target v)) (LaneEnded (lane_of shape target v)) r turns p q
  holds_by last p q [] told r along ended tell ends =
      let is : r ≡ Err errors.NoMemory = subst (λ (l : List LaneNews). EndsBy (last_of l) r) tell ends in
      record {
        caused = subst (λ (x : Result Bool RebuildErr). BringCaused (t.told old target) x p q) (sym is) tt;
        said = subst (λ (x : Result Bool RebuildErr). SaidLast x []) (sym is) tt;
        ended = reply_always r _ (ended_by last p q [] along ended);
        own = tt;
      }
  holds_by last p q (u ∷ turns) told r along ended tell ends =
      let lt = last_turn (Does t target old) does_counts (lane_of shape target v) last p q u turns told along tell in
      let is = subst (λ (o : Option LaneNews). EndsBy o r) lt.says ends in
      let so = news_tells lt.state lt.reply lt.tells lt.told_is in
      record {
        caused = caused_end (t.told old target) lt.tells r p q is
            (caused_news (t.shape old) target (t.full old target) (t.told old target) lt.work lt.state lt.request lt.reply lt.tells p lt.before q lt.counts lt.asks lt.goes
            (λ place is. not_told last p q (u ∷ turns) place along (lt.said ∙ ap (λ (x : Reply). Some x) is)) so);
        said = said_end lt.tells r lt.reply (u ∷ turns) is lt.said so;
        ended = reply_always r _ (ended_by last p q (u ∷ turns) along ended);
        own = goes_by_turns last p q (u ∷ turns) along;
      }

  pub ended_moves : (new : L) (lane last : Progress) (turns : List (LaneTurn L)) (told : List LaneNews) (r : Result Bool RebuildErr) (p : Peer) → lane ≡ lane_of shape target v → LaneRun (Heard t talk target) lane old turns last new → Tell lane.lane turns told
      → EndsBy (last_of told) r → t.stands old target p → Brought new r p
  ended_moves new lane last turns told r p is run tell ends stands =
      let along = run_along (Heard t talk target) lane last old new turns run in
      let w = went new lane last turns told p is along.0 tell stands in
      record {
        end = w.end;
        turns = w.turns;
        last = new;
        at = w.end;
        stands = w.stands;
        counts = w.counts;
        along = w.along;
        then = then_none t target new w.end (last_of told) r ends;
        always = holds_by last p w.end w.turns told r w.runs along.1 w.tells ends;
        told = λ is_told. subst (λ (s : Shape). BringsTold shape target (served s target (t.full old target)) v r w.turns p w.end w.end) (sym same)
            (brought_told shape target (t.full old target) v last p w.end w.end w.turns told r (as_told last p w.end w.turns is_told w.runs) along.1 w.tells ends);
      }

  cut_told : (last : Progress) (p q : Peer) (turns : List (LaneTurn Peer)) (told : List LaneNews) → IsTrue (t.told old target) → LaneAlong (Does t target old) (lane_of shape target v) p turns last q → Tell (lane_of shape target v).lane turns told
      → LaneCut shape target (serves t old target) v p turns q
  cut_told last p q turns told is_told along tell =
      subst (λ (s : Shape). LaneCut shape target (served s target (t.full old target)) v p turns q) (sym same)
      (lane_cut shape target (t.full old target) v last p q turns told named few (as_told last p q turns is_told along) tell)

  -- memory ran out behind these turns
  pub memory_moves : (new : L) (lane last : Progress) (turns : List (LaneTurn L)) (told : List LaneNews) (p : Peer) → lane ≡ lane_of shape target v → LaneAlong (Heard t talk target) lane old turns last new → Tell lane.lane turns told → t.stands old target p
      → Brought new (Err errors.NoMemory) p
  memory_moves new lane last turns told p is along tell stands =
      let w = went new lane last turns told p is along tell stands in
      record {
        end = w.end;
        turns = w.turns;
        last = new;
        at = w.end;
        stands = w.stands;
        counts = w.counts;
        along = w.along;
        then = (refl, refl);
        always = record { caused = tt; said = tt; ended = tt; own = goes_by_turns last p w.end w.turns w.runs };
        told = λ is_told. cut_told last p w.end w.turns told is_told w.runs w.tells;
      }

  lost_by : (mid new : L) (lane last : Progress) (turns : List (LaneTurn L)) (told : List LaneNews) (p : Peer) (request : Request) → lane ≡ lane_of shape target v → LaneAlong (Heard t talk target) lane old turns last mid → Tell lane.lane turns told → t.stands old target p
      → LostAsk t target mid request new → Brought new (Err errors.TargetLost) p
  lost_by mid new lane last turns told p request is along tell stands lost =
      let w = went mid lane last turns told p is along tell stands in
      let g = lost.goes w.end w.stands in
      record {
        end = g.0;
        turns = w.turns;
        last = mid;
        at = w.end;
        stands = g.1;
        counts = counts_on p w.end g.0 w.counts (loses_counts t target mid w.end g.0 request g.2);
        along = w.along;
        then = (request, lost, g.2);
        always = record { caused = tt; said = tt; ended = tt; own = goes_by_turns last p w.end w.turns w.runs };
        told = λ is_told. cut_told last p w.end w.turns told is_told w.runs w.tells;
      }

  -- the next step failed
  abbrev Step : L → List LaneView → Option Request → StepErr → L → List LaneView → Type 0
  Step mid views o e new after = LaneSteps t talk target mid views o (Err e) new after

  pub lost_moves : (mid new : L) (views after : List LaneView) (lane last : Progress) (turns : List (LaneTurn L)) (told : List LaneNews) (p : Peer) (o : Option Request) → lane ≡ lane_of shape target v → LaneAlong (Heard t talk target) lane old turns last mid
      → Tell lane.lane turns told → t.stands old target p → Step mid views o step_errors.Lost new after → Brought new (Err errors.TargetLost) p
  lost_moves mid new views after lane last turns told p None is along tell stands step = absurd step
  lost_moves mid new views after lane last turns told p (Some request) is along tell stands step = lost_by mid new lane last turns told p request is along tell stands step.0

  pub strange_moves : (mid new : L) (views after : List LaneView) (lane last : Progress) (turns : List (LaneTurn L)) (told : List LaneNews) (p : Peer) (o : Option Request) (kind : ℕ) → lane ≡ lane_of shape target v → LaneAlong (Heard t talk target) lane old turns last mid
      → Tell lane.lane turns told → t.stands old target p → Step mid views o (step_errors.Strange kind) new after → Brought new (Err (errors.TargetStrange kind)) p
  strange_moves mid new views after lane last turns told p None kind is along tell stands step = absurd step
  strange_moves mid new views after lane last turns told p (Some request) kind is along tell stands step =
      let w = went mid lane last turns told p is along tell stands in
      absurd (step.0.unheard w.end w.stands)

  same_link : (mid new : L) (lane last : Progress) (turns : List (LaneTurn L)) (told : List LaneNews) (p : Peer) → lane ≡ lane_of shape target v → LaneAlong (Heard t talk target) lane old turns last mid → Tell lane.lane turns told → t.stands old target p → new ≡ mid
      → Brought new (Err errors.NoMemory) p
  same_link mid new lane last turns told p is along tell stands e =
      subst (λ (x : L). Brought x (Err errors.NoMemory) p) (sym e) (memory_moves mid lane last turns told p is along tell stands)

  pub step_memory : (mid new : L) (views after : List LaneView) (lane last : Progress) (turns : List (LaneTurn L)) (told : List LaneNews) (p : Peer) (o : Option Request) → o ≡ request_of last.lane → lane_at views target ≡ last.lane → last.stopped ≡ false
      → lane ≡ lane_of shape target v → LaneAlong (Heard t talk target) lane old turns last mid → Tell lane.lane turns told → t.stands old target p → Step mid views o step_errors.NoMemory new after → Brought new (Err errors.NoMemory) p
  step_memory mid new views after lane last turns told p None asks here on is along tell stands step = same_link mid new lane last turns told p is along tell stands step.0
  step_memory mid new views after lane last turns told p (Some request) asks here on is along tell stands step =
      elim step.0 [
        | inl e ↦ same_link mid new lane last turns told p is along tell stands e
        | inr untaken ↦
            let w = went mid lane last turns told p is along tell stands in
            let h = untaken.heard w.end w.stands in
            let turn : LaneTurn L = record { before = mid; request = request; reply = h.0 } in
            memory_moves new lane (progress_after last h.0) (turns ++ turn ∷ []) (told ++ h.1 ∷ []) p is
            (along_more (Heard t talk target) lane last old mid new turns turn along on refl (sym asks) h.3)
            (tell_more (Heard t talk target) lane last old mid turns turn told h.1 along tell (subst (λ (x : LaneView). news_of x.state h.0 ≡ Some h.1) here h.2)) stands
      ]

  pub step_moves : (mid new : L) (views after : List LaneView) (lane last : Progress) (turns : List (LaneTurn L)) (told : List LaneNews) (p : Peer) (e : StepErr) → lane_at views target ≡ last.lane → last.stopped ≡ false
      → lane ≡ lane_of shape target v → LaneAlong (Heard t talk target) lane old turns last mid → Tell lane.lane turns told → t.stands old target p → Step mid views (request_of last.lane) e new after → Brought new (Err (failed_as e)) p
  step_moves mid new views after lane last turns told p step_errors.Lost here on is along tell stands step = lost_moves mid new views after lane last turns told p (request_of last.lane) is along tell stands step
  step_moves mid new views after lane last turns told p (step_errors.Strange kind) here on is along tell stands step = strange_moves mid new views after lane last turns told p (request_of last.lane) kind is along tell stands step
  step_moves mid new views after lane last turns told p step_errors.NoMemory here on is along tell stands step =
      step_memory mid new views after lane last turns told p (request_of last.lane) refl here on is along tell stands step
