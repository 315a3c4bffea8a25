-- A lane of a told cloud that nothing hinders comes to Done.
use Rattle.std.proofs.Common.{◌≡◌, ◌≢◌, ◌⊎◌, ℕ, ◌^◌, ◌<◌, ◌≤◌, Bool, true, false, cond, List, [], ◌∷◌, ◌++◌, map, Option, Some, None, refl, sym, ap, ◌∙◌, subst, inl, inr, arith}
use Rattle.std.specs.Prelude.{IsTrue, ◌||◌, ◌==◌}
use Rattle.std.specs.Bool.{MatchBool}
use Rattle.std.specs.List.{Contains, list_all}
use Rattle.std.proofs.lemmas.Option.{same_Some}
use Rattle.session_model.specs.CdEdges.Causes.{Rose}
use Rattle.lane_steps.specs.CdBase.shape.Shape.{Shape}
use Rattle.lane_steps.specs.Messages.request.Request.{Request}
use Rattle.lane_steps.specs.Messages.reply.Reply.{Reply}
use Rattle.lane_steps.specs.Messages.reply.Reply.TheVariants as replies
use Rattle.lane_steps.specs.UserDedup.command.Command.{Command}
use Rattle.lane_steps.specs.UserDedup.Dedup.{FullRoom}
use Rattle.lane_steps.specs.UserDedup.Exec.{Peer, Answers, Exec, ExecTold, ExecUntold}
use Rattle.lane_steps.specs.UserDedup.Spending.{full_for}
use Rattle.lane_steps.proofs.UserDedup.Owned.{contains_here, contains_later}
use Rattle.lane_steps.specs.UploadJob.news.LaneNews.{LaneNews}
use Rattle.lane_steps.specs.UploadJob.news.LaneNews.TheVariants as lane_news
use Rattle.lane_steps.specs.UploadJob.Upload.{Work}
use Rattle.lane_steps.specs.UploadJob.Lane.{LaneState, Asking, Sending, Committing, Done, Refused, lane_after, lane_request, news_of, onward}
use Rattle.lane_steps.specs.Runs.{LaneTurn, Progress, LaneRun, Tell, is_lacking, progress_after, stops_at}
use Rattle.session_model.proofs.RebuildLaws.Lacking.{Covers, Stands, onward_brought, owned_at, past_all, turn_stands, turn_whole}
use Rattle.session_model.proofs.RebuildLaws.Turning.{Answered, expected, fault_rose}
use Rattle.session_model.specs.Vault.{Setting, HasVaultExecuted, served_at}
use Rattle.session_model.specs.Steps.{step_line}
use Rattle.session_model.proofs.Counts.{keeps_executes, keeps_run}
use Rattle.session_model.proofs.Faults.{rose_on, then_rose}
use Rattle.session_laws.specs.Stored.{SaysRefused}

-- ---- which replies a told cloud gives

not_fault : (state : LaneState) → Answered state replies.Fault → ⊥
not_fault (Asking batch rest) x = x
not_fault (Sending batch marks rest) x = x
not_fault Committing x = x
not_fault Done x = x
not_fault Refused x = x

not_memory : (state : LaneState) → Answered state replies.NoMemory → ⊥
not_memory (Asking batch rest) x = x
not_memory (Sending batch marks rest) x = x
not_memory Committing x = x
not_memory Done x = x
not_memory Refused x = x

-- none of these stops a lane but a second lack
goes_on : (lacked : Bool) (reply : Reply) → (reply ≡ replies.Fault → ⊥) → (reply ≡ replies.NoMemory → ⊥) → ((place : ℕ) → lacked ≡ true → reply ≡ replies.Lacking place → ⊥) → stops_at lacked reply ≡ false
goes_on lacked (replies.Hello n k own format) fault memory lack = refl
goes_on lacked (replies.Known known) fault memory lack = refl
goes_on lacked (replies.Stored new) fault memory lack = refl
goes_on lacked replies.Committed fault memory lack = refl
goes_on lacked replies.Exists fault memory lack = refl
goes_on true (replies.Lacking place) fault memory lack = absurd (lack place refl refl)
goes_on false (replies.Lacking place) fault memory lack = refl
goes_on lacked (replies.Recipe bytes) fault memory lack = refl
goes_on lacked replies.Missing fault memory lack = refl
goes_on lacked (replies.Shares shares) fault memory lack = refl
goes_on lacked (replies.NotYours place) fault memory lack = refl
goes_on lacked (replies.Entries entries) fault memory lack = refl
goes_on lacked replies.Deleted fault memory lack = refl
goes_on lacked (replies.Full room used need limit) fault memory lack = refl
goes_on lacked replies.Fault fault memory lack = absurd (fault refl)
goes_on lacked (replies.Damaged at byte) fault memory lack = refl
goes_on lacked (replies.Rotten named hash) fault memory lack = refl
goes_on lacked (replies.Malformed at) fault memory lack = refl
goes_on lacked replies.NoMemory fault memory lack = absurd (memory refl)

onward_open : (batches : List (List (List ℕ))) → onward batches ≡ Refused → ⊥
onward_open [] e = cc
onward_open (batch ∷ rest) e = cc

past_open : (b : Bool) (batch : List (List ℕ)) (marks : List ℕ) (rest : List (List (List ℕ))) → cond b (onward rest) (Sending batch marks rest) ≡ Refused → ⊥
past_open true batch marks rest e = onward_open rest e
past_open false batch marks rest e = cc

abbrev IsFree : ℕ → ℕ → LaneNews → Type 0
IsFree job cloud told = SaysRefused (step_line job cloud told) → ⊥

-- one that tells of no refusal refuses nothing
stays_open : (job cloud : ℕ) (w : Work) (state : LaneState) (reply : Reply) (told : LaneNews) → Answered state reply → news_of state reply ≡ Some told → IsFree job cloud told → lane_after w state reply ≡ Refused → ⊥
stays_open job cloud w (Asking batch rest) (replies.Hello n k own format) told is news free e = absurd is
stays_open job cloud w (Asking batch rest) (replies.Known known) told is news free e = past_open (list_all (λ flag. flag == 1) known) batch known rest e
stays_open job cloud w (Asking batch rest) (replies.Stored new) told is news free e = absurd is
stays_open job cloud w (Asking batch rest) replies.Committed told is news free e = absurd is
stays_open job cloud w (Asking batch rest) replies.Exists told is news free e = absurd is
stays_open job cloud w (Asking batch rest) (replies.Lacking place) told is news free e = absurd is
stays_open job cloud w (Asking batch rest) (replies.Recipe bytes) told is news free e = absurd is
stays_open job cloud w (Asking batch rest) replies.Missing told is news free e = absurd is
stays_open job cloud w (Asking batch rest) (replies.Shares shares) told is news free e = absurd is
stays_open job cloud w (Asking batch rest) (replies.NotYours place) told is news free e = absurd is
stays_open job cloud w (Asking batch rest) (replies.Entries entries) told is news free e = absurd is
stays_open job cloud w (Asking batch rest) replies.Deleted told is news free e = absurd is
stays_open job cloud w (Asking batch rest) (replies.Full room used need limit) told is news free e = absurd is
stays_open job cloud w (Asking batch rest) replies.Fault told is news free e = absurd is
stays_open job cloud w (Asking batch rest) (replies.Damaged at byte) told is news free e = absurd is
stays_open job cloud w (Asking batch rest) (replies.Rotten named hash) told is news free e = absurd is
stays_open job cloud w (Asking batch rest) (replies.Malformed at) told is news free e = absurd is
stays_open job cloud w (Asking batch rest) replies.NoMemory told is news free e = absurd is
stays_open job cloud w (Sending batch marks rest) (replies.Hello n k own format) told is news free e = absurd is
stays_open job cloud w (Sending batch marks rest) (replies.Known known) told is news free e = absurd is
stays_open job cloud w (Sending batch marks rest) (replies.Stored new) told is news free e = onward_open rest e
stays_open job cloud w (Sending batch marks rest) replies.Committed told is news free e = absurd is
stays_open job cloud w (Sending batch marks rest) replies.Exists told is news free e = absurd is
stays_open job cloud w (Sending batch marks rest) (replies.Lacking place) told is news free e = absurd is
stays_open job cloud w (Sending batch marks rest) (replies.Recipe bytes) told is news free e = absurd is
stays_open job cloud w (Sending batch marks rest) replies.Missing told is news free e = absurd is
stays_open job cloud w (Sending batch marks rest) (replies.Shares shares) told is news free e = absurd is
stays_open job cloud w (Sending batch marks rest) (replies.NotYours place) told is news free e = absurd is
stays_open job cloud w (Sending batch marks rest) (replies.Entries entries) told is news free e = absurd is
stays_open job cloud w (Sending batch marks rest) replies.Deleted told is news free e = absurd is
stays_open job cloud w (Sending batch marks rest) (replies.Full room used need limit) told is news free e = free (subst (λ (n : LaneNews). SaysRefused (step_line job cloud n)) (same_Some (lane_news.Full room used need limit) told news) tt)
stays_open job cloud w (Sending batch marks rest) replies.Fault told is news free e = absurd is
stays_open job cloud w (Sending batch marks rest) (replies.Damaged at byte) told is news free e = absurd is
stays_open job cloud w (Sending batch marks rest) (replies.Rotten named hash) told is news free e = absurd is
stays_open job cloud w (Sending batch marks rest) (replies.Malformed at) told is news free e = absurd is
stays_open job cloud w (Sending batch marks rest) replies.NoMemory told is news free e = absurd is
stays_open job cloud w Committing (replies.Hello n k own format) told is news free e = absurd is
stays_open job cloud w Committing (replies.Known known) told is news free e = absurd is
stays_open job cloud w Committing (replies.Stored new) told is news free e = absurd is
stays_open job cloud w Committing replies.Committed told is news free e = cc
stays_open job cloud w Committing replies.Exists told is news free e = free (subst (λ (n : LaneNews). SaysRefused (step_line job cloud n)) (same_Some lane_news.Exists told news) tt)
stays_open job cloud w Committing (replies.Lacking place) told is news free e = onward_open w.batches e
stays_open job cloud w Committing (replies.Recipe bytes) told is news free e = absurd is
stays_open job cloud w Committing replies.Missing told is news free e = absurd is
stays_open job cloud w Committing (replies.Shares shares) told is news free e = absurd is
stays_open job cloud w Committing (replies.NotYours place) told is news free e = absurd is
stays_open job cloud w Committing (replies.Entries entries) told is news free e = absurd is
stays_open job cloud w Committing replies.Deleted told is news free e = absurd is
stays_open job cloud w Committing (replies.Full room used need limit) told is news free e = free (subst (λ (n : LaneNews). SaysRefused (step_line job cloud n)) (same_Some (lane_news.Full room used need limit) told news) tt)
stays_open job cloud w Committing replies.Fault told is news free e = absurd is
stays_open job cloud w Committing (replies.Damaged at byte) told is news free e = absurd is
stays_open job cloud w Committing (replies.Rotten named hash) told is news free e = absurd is
stays_open job cloud w Committing (replies.Malformed at) told is news free e = absurd is
stays_open job cloud w Committing replies.NoMemory told is news free e = absurd is
stays_open job cloud w Done reply told is news free e = absurd is
stays_open job cloud w Refused reply told is news free e = absurd is

state_done : (w : Work) (state : LaneState) → lane_request w state ≡ None → (state ≡ Refused → ⊥) → state ≡ Done
state_done w (Asking batch rest) none going = absurd cc
state_done w (Sending batch marks rest) none going = absurd cc
state_done w Committing none going = absurd cc
state_done w Done none going = refl
state_done w Refused none going = absurd (going refl)

-- behind a first lack the lane is at its first batch
lack_stands : (shape : Shape) (w : Work) (cloud : ℕ) (full : List Command → Command → Option FullRoom) (state : LaneState) (reply : Reply) (q : Peer) → Answered state reply → is_lacking reply ≡ true → Stands shape w cloud full (lane_after w state reply) q
lack_stands shape w cloud full state (replies.Hello n k own format) q is lacks = absurd cc
lack_stands shape w cloud full state (replies.Known known) q is lacks = absurd cc
lack_stands shape w cloud full state (replies.Stored new) q is lacks = absurd cc
lack_stands shape w cloud full state replies.Committed q is lacks = absurd cc
lack_stands shape w cloud full state replies.Exists q is lacks = absurd cc
lack_stands shape w cloud full (Asking batch rest) (replies.Lacking place) q is lacks = absurd is
lack_stands shape w cloud full (Sending batch marks rest) (replies.Lacking place) q is lacks = absurd is
lack_stands shape w cloud full Done (replies.Lacking place) q is lacks = absurd is
lack_stands shape w cloud full Refused (replies.Lacking place) q is lacks = absurd is
lack_stands shape w cloud full Committing (replies.Lacking place) q is lacks = λ list may. onward_brought w.batches w.batches (owned_at shape w list) (past_all w.batches (owned_at shape w list))
lack_stands shape w cloud full state (replies.Recipe bytes) q is lacks = absurd cc
lack_stands shape w cloud full state replies.Missing q is lacks = absurd cc
lack_stands shape w cloud full state (replies.Shares shares) q is lacks = absurd cc
lack_stands shape w cloud full state (replies.NotYours place) q is lacks = absurd cc
lack_stands shape w cloud full state (replies.Entries entries) q is lacks = absurd cc
lack_stands shape w cloud full state replies.Deleted q is lacks = absurd cc
lack_stands shape w cloud full state (replies.Full room used need limit) q is lacks = absurd cc
lack_stands shape w cloud full state replies.Fault q is lacks = absurd cc
lack_stands shape w cloud full state (replies.Damaged at byte) q is lacks = absurd cc
lack_stands shape w cloud full state (replies.Rotten named hash) q is lacks = absurd cc
lack_stands shape w cloud full state (replies.Malformed at) q is lacks = absurd cc
lack_stands shape w cloud full state replies.NoMemory q is lacks = absurd cc

-- ---- a lane

-- a lane that may come to Done, at this state of its cloud
pub record IsAtWork (s : Setting) (cloud : ℕ) (p : Progress) (q : Peer) : Type 0 where
  pub covers : Covers s.shape p.lane.work
  pub brought : p.lacked ≡ true → Stands s.shape p.lane.work cloud (full_for s.shape s.rooms) p.lane.state q
  pub going : p.lane.state ≡ Refused → ⊥
  pub on : p.stopped ≡ false

module _ (s : Setting) (c : ℕ) (told : IsTrue (s.told c)) (job : ℕ) where
  told_exec : (p q : Peer) (request : Request) (reply : Reply) → Exec s.shape (s.told c) (served_at s c) p request reply q → Exec s.shape true (served_at s c) p request reply q
  told_exec p q request reply x = subst (λ (b : Bool). Exec s.shape b (served_at s c) p request reply q) told x

  -- it works on behind a reply
  works_on : (p : Progress) (old mid : Peer) (request : Request) (reply : Reply) (news : LaneNews) → IsAtWork s c p old → lane_request p.lane.work p.lane.state ≡ Some request → Exec s.shape true (served_at s c) old request reply mid
      → Answers (served_at s c) old request reply mid → Answered p.lane.state reply → news_of p.lane.state reply ≡ Some news → IsFree job c news → IsAtWork s c (progress_after p reply) mid
  works_on p old mid request reply news work asks x a is says free = record {
    covers = work.covers;
    brought = λ lacked. by_lack p.lacked refl lacked;
    going = stays_open job c p.lane.work p.lane.state reply news is says free;
    on = goes_on p.lacked reply (λ e. not_fault p.lane.state (subst (Answered p.lane.state) e is)) (λ e. not_memory p.lane.state (subst (Answered p.lane.state) e is))
        (λ place lacked e. turn_whole s.shape c (full_for s.shape s.rooms) p.lane.work work.covers p.lane.state old mid request reply place asks (work.brought lacked) x e);
  }
    where
      by_lack : (b : Bool) → p.lacked ≡ b → (b || is_lacking reply) ≡ true → Stands s.shape p.lane.work c (full_for s.shape s.rooms) (lane_after p.lane.work p.lane.state reply) mid
      by_lack true e lacked = turn_stands s.shape p.lane.work c (full_for s.shape s.rooms) p.lane.state old mid request reply asks (work.brought e) a
      by_lack false e lacked = lack_stands s.shape p.lane.work c (full_for s.shape s.rooms) p.lane.state reply mid is lacked

  pub run_done : (p last : Progress) (old new : ℕ → Peer) (turns : List (LaneTurn (ℕ → Peer))) (tells : List LaneNews) → IsAtWork s c p (old c) → LaneRun (HasVaultExecuted s c) p old turns last new → Tell p.lane turns tells
      → ¬ Rose (old c).faults (new c).faults → ((news : LaneNews) → Contains tells news → IsFree job c news) → last.lane.state ≡ Done
  run_done p last old new [] tells work run tell still free = elim run.0 [
    | inl stopped ↦ (let f : false ≡ true = sym work.on ∙ stopped in cc)
    | inr none ↦ ap (λ (q : Progress). q.lane.state) run.1 ∙ state_done p.lane.work p.lane.state none work.going
  ]
  run_done p last old new (t ∷ turns) tells work run tell still free =
      let mid : ℕ → Peer = run.3.0 in
      let x = run.3.1 in
      let later : (f : ℕ) → f < 2 ^ 64 → f ≤ (mid c).faults → f ≤ (new c).faults = λ f small below. keeps_run f small s c c (progress_after p t.reply) mid turns last new run.3.2 below in
      let earlier : (f : ℕ) → f < 2 ^ 64 → f ≤ (old c).faults → f ≤ (mid c).faults = λ f small below. keeps_executes f small s c c old mid t.request t.reply x below in
      let exec = told_exec (old c) (mid c) t.request t.reply x.does in
      let does : ExecTold (served_at s c) (old c) t.request t.reply (mid c) = exec.does in
      elim does [
        | inr fails ↦ absurd (still (rose_on (old c).faults (mid c).faults (new c).faults later fails.rose))
        | inl a ↦ elim (expected s.shape c (full_for s.shape s.rooms) p.lane.work p.lane.state t.request t.reply (old c) (mid c) run.2 exec) [
          | inr fault ↦ absurd (still (rose_on (old c).faults (mid c).faults (new c).faults later
              (fault_rose s.shape c (full_for s.shape s.rooms) true p.lane.work p.lane.state t.request t.reply (old c) (mid c) run.2 exec fault)))
          | inl is ↦
              run_done (progress_after p t.reply) last mid new turns tell.1
              (works_on p (old c) (mid c) t.request t.reply tell.0 work run.2 exec a is tell.2 (free tell.0 (subst (λ (l : List LaneNews). Contains l tell.0) (sym tell.4) (contains_here tell.0 tell.1))))
              run.3.2 tell.3 (λ rose. still (then_rose (old c).faults (mid c).faults (new c).faults earlier rose))
              (λ news has. free news (subst (λ (l : List LaneNews). Contains l news) (sym tell.4) (contains_later tell.0 tell.1 news has)))
        ]
      ]
