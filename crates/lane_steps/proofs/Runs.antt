-- A lane that goes on over a link.
use Rattle.std.proofs.Common.{◌≡◌, ◌⊎◌, ℕ, Bool, false, List, [], ◌∷◌, ◌++◌, Option, Some, None, refl, sym, ap, ◌∙◌, subst}
use Rattle.std.specs.Prelude.{IsTrue}
use Rattle.grammar.specs.CdBase.shape.Shape.{Shape}
use Rattle.upload_job.specs.Messages.request.Request.{Request}
use Rattle.upload_job.specs.Messages.reply.Reply.{Reply}
use Rattle.upload_job.specs.Messages.Replies.{IsReply}
use Rattle.upload_job.specs.UserDedup.command.Command.{Command}
use Rattle.upload_job.specs.UserDedup.Dedup.{FullRoom}
use Rattle.upload_job.specs.UserDedup.Exec.{Peer, Exec, served}
use Rattle.upload_job.specs.UserDedup.Link.{LinkTelling, Talk, Does, LeavesOthers}
use Rattle.upload_job.specs.declared.news.LaneNews.{LaneNews}
use Rattle.upload_job.specs.Lane.{news_of}
use Rattle.lane_steps.specs.Runs.{LaneTurn, Progress, request_of, progress_after, LaneRun, LaneAlong, Tell}
use Rattle.lane_steps.specs.Steps.{Heard, SayTheSame, TalksBy}

-- ---- one turn more

pub along_more : {S : Type 0} (Goes : S → Request → Reply → S → Type 0) (p at : Progress) (old mid new : S) (turns : List (LaneTurn S)) (turn : LaneTurn S)
    → LaneAlong Goes p old turns at mid → at.stopped ≡ false → turn.before ≡ mid → request_of at.lane ≡ Some turn.request → Goes mid turn.request turn.reply new
    → LaneAlong Goes p old (turns ++ turn ∷ []) (progress_after at turn.reply) new
along_more {S} Goes p at old mid new [] turn along on before asks goes = (
  subst (λ (x : Progress). x.stopped ≡ false) along.0 on,
  before ∙ along.1,
  subst (λ (x : Progress). request_of x.lane ≡ Some turn.request) along.0 asks,
  (new, subst (λ (x : S). Goes x turn.request turn.reply new) along.1 goes, (ap (λ (x : Progress). progress_after x turn.reply) along.0, refl)),
)
along_more Goes p at old mid new (first ∷ turns) turn along on before asks goes =
    (along.0, along.1, along.2, (along.3.0, along.3.1, along_more Goes (progress_after p first.reply) at along.3.0 mid new turns turn along.3.2 on before asks goes))

pub tell_more : {S : Type 0} (Goes : S → Request → Reply → S → Type 0) (p at : Progress) (old mid : S) (turns : List (LaneTurn S)) (turn : LaneTurn S) (news : List LaneNews) (told : LaneNews)
    → LaneAlong Goes p old turns at mid → Tell p.lane turns news → news_of at.lane.state turn.reply ≡ Some told → Tell p.lane (turns ++ turn ∷ []) (news ++ told ∷ [])
tell_more Goes p at old mid [] turn news told along tell e =
    (told, [], subst (λ (x : Progress). news_of x.lane.state turn.reply ≡ Some told) along.0 e, refl, ap (λ (l : List LaneNews). l ++ told ∷ []) tell)
tell_more Goes p at old mid (first ∷ turns) turn news told along tell e = (
  tell.0,
  tell.1 ++ told ∷ [],
  tell.2,
  tell_more Goes (progress_after p first.reply) at along.3.0 mid turns turn tell.1 told along.3.2 tell.3 e,
  ap (λ (l : List LaneNews). l ++ told ∷ []) tell.4,
)

-- behind its last turn the lane is at its end
pub run_of : {S : Type 0} (Goes : S → Request → Reply → S → Type 0) (p last : Progress) (old new : S) (turns : List (LaneTurn S))
    → LaneAlong Goes p old turns last new → IsTrue last.stopped ⊎ (request_of last.lane ≡ None) → LaneRun Goes p old turns last new
run_of Goes p last old new [] along ends = (subst (λ (x : Progress). IsTrue x.stopped ⊎ (request_of x.lane ≡ None)) along.0 ends, along.0, along.1)
run_of Goes p last old new (turn ∷ turns) along ends =
    (along.0, along.1, along.2, (along.3.0, along.3.1, run_of Goes (progress_after p turn.reply) last along.3.0 new turns along.3.2 ends))

-- ---- the other clouds

pub others_on : {L : Type 0} (t : LinkTelling L) (cloud : ℕ) (old mid new : L) → LeavesOthers t cloud old mid → LeavesOthers t cloud mid new → LeavesOthers t cloud old new
others_on t cloud old mid new one two = record {
  stands = λ other p ne stands. two.stands other p ne (one.stands other p ne stands);
  reaches = two.reaches ∙ one.reaches;
  shape = two.shape ∙ one.shape;
  told = two.told ∙ one.told;
  full = two.full ∙ one.full;
}

-- ---- what the cloud stands for

-- two links tell the same of what their clouds do
pub record Alike {L : Type 0} (t : LinkTelling L) (one two : L) : Type 0 where
  pub shape : t.shape two ≡ t.shape one
  pub told : t.told two ≡ t.told one
  pub full : t.full two ≡ t.full one

alike_on : {L : Type 0} (t : LinkTelling L) (cloud : ℕ) (one two three : L) → Alike t one two → LeavesOthers t cloud two three → Alike t one three
alike_on t cloud one two three alike others = record { shape = others.shape ∙ alike.shape; told = others.told ∙ alike.told; full = others.full ∙ alike.full }

pub does_alike : {L : Type 0} (t : LinkTelling L) (cloud : ℕ) (one two : L) (p q : Peer) (request : Request) (reply : Reply) → Alike t one two → Does t cloud two p request reply q → Does t cloud one p request reply q
does_alike t cloud one two p q request reply alike does =
    subst (λ (f : ℕ → List Command → Command → Option FullRoom). Exec (t.shape one) (t.told one cloud) (served (t.shape one) cloud (f cloud)) p request reply q) alike.full
    (subst (λ (b : ℕ → Bool). Exec (t.shape one) (b cloud) (served (t.shape one) cloud (t.full two cloud)) p request reply q) alike.told
    (subst (λ (s : Shape). Exec s (t.told two cloud) (served s cloud (t.full two cloud)) p request reply q) alike.shape does))

peers_run_from : {L : Type 0} (t : LinkTelling L) (talk : L → ℕ → Talk → Type 0) (cloud : ℕ) (base : L) (lane last : Progress) (old new : L) (turns : List (LaneTurn L)) (p : Peer) → Alike t base old
    → LaneRun (Heard t talk cloud) lane old turns last new → t.stands old cloud p
    → (q : Peer) × t.stands new cloud q × (others : List (LaneTurn Peer)) × SayTheSame turns others × LaneRun (Does t cloud base) lane p others last q
peers_run_from t talk cloud base lane last old new [] p alike run stands =
    (p, subst (λ x. t.stands x cloud p) (sym run.2) stands, [], tt, (run.0, run.1, refl))
peers_run_from t talk cloud base lane last old new (turn ∷ turns) p alike run stands =
    let heard = run.3.1 in
    let went = heard.goes p stands in
    let rest = peers_run_from t talk cloud base (progress_after lane turn.reply) last run.3.0 new turns went.0 (alike_on t cloud base old run.3.0 alike heard.passed.others) run.3.2 went.1 in (
      rest.0,
      rest.1,
      record { before = p; request = turn.request; reply = turn.reply } ∷ rest.2,
      (refl, refl, rest.3),
      (run.0, refl, run.2, (went.0, does_alike t cloud base old p went.0 turn.request turn.reply alike went.2, rest.4)),
    )

peers_along_from : {L : Type 0} (t : LinkTelling L) (talk : L → ℕ → Talk → Type 0) (cloud : ℕ) (base : L) (lane last : Progress) (old new : L) (turns : List (LaneTurn L)) (p : Peer) → Alike t base old
    → LaneAlong (Heard t talk cloud) lane old turns last new → t.stands old cloud p
    → (q : Peer) × t.stands new cloud q × (others : List (LaneTurn Peer)) × SayTheSame turns others × LaneAlong (Does t cloud base) lane p others last q
peers_along_from t talk cloud base lane last old new [] p alike run stands =
    (p, subst (λ x. t.stands x cloud p) (sym run.1) stands, [], tt, (run.0, refl))
peers_along_from t talk cloud base lane last old new (turn ∷ turns) p alike run stands =
    let heard = run.3.1 in
    let went = heard.goes p stands in
    let rest = peers_along_from t talk cloud base (progress_after lane turn.reply) last run.3.0 new turns went.0 (alike_on t cloud base old run.3.0 alike heard.passed.others) run.3.2 went.1 in (
      rest.0,
      rest.1,
      record { before = p; request = turn.request; reply = turn.reply } ∷ rest.2,
      (refl, refl, rest.3),
      (run.0, refl, run.2, (went.0, does_alike t cloud base old p went.0 turn.request turn.reply alike went.2, rest.4)),
    )

pub peers_run : {L : Type 0} (t : LinkTelling L) (talk : L → ℕ → Talk → Type 0) (cloud : ℕ) (lane last : Progress) (old new : L) (turns : List (LaneTurn L)) (p : Peer)
    → LaneRun (Heard t talk cloud) lane old turns last new → t.stands old cloud p
    → (q : Peer) × t.stands new cloud q × (others : List (LaneTurn Peer)) × SayTheSame turns others × LaneRun (Does t cloud old) lane p others last q
peers_run t talk cloud lane last old new turns p run stands = peers_run_from t talk cloud old lane last old new turns p (record { shape = refl; told = refl; full = refl }) run stands

pub peers_along : {L : Type 0} (t : LinkTelling L) (talk : L → ℕ → Talk → Type 0) (cloud : ℕ) (lane last : Progress) (old new : L) (turns : List (LaneTurn L)) (p : Peer)
    → LaneAlong (Heard t talk cloud) lane old turns last new → t.stands old cloud p
    → (q : Peer) × t.stands new cloud q × (others : List (LaneTurn Peer)) × SayTheSame turns others × LaneAlong (Does t cloud old) lane p others last q
peers_along t talk cloud lane last old new turns p run stands = peers_along_from t talk cloud old lane last old new turns p (record { shape = refl; told = refl; full = refl }) run stands

-- ---- what was said

pub talks_run : {L : Type 0} (t : LinkTelling L) (talk : L → ℕ → Talk → Type 0) (cloud : ℕ) (lane last : Progress) (old new : L) (turns : List (LaneTurn L)) (before : Talk)
    → LaneRun (Heard t talk cloud) lane old turns last new → talk old cloud before → (after : Talk) × talk new cloud after × TalksBy turns before after
talks_run t talk cloud lane last old new [] before run says = (before, subst (λ x. talk x cloud before) (sym run.2) says, refl)
talks_run t talk cloud lane last old new (turn ∷ turns) before run says =
    let heard = run.3.1 in
    let one = heard.passed.says before says in
    let rest = talks_run t talk cloud (progress_after lane turn.reply) last run.3.0 new turns _ run.3.2 one.1 in
    (rest.0, rest.1, (subst (λ (l : List ℕ). IsReply l turn.reply) one.0 heard.is, rest.2))

pub talks_along : {L : Type 0} (t : LinkTelling L) (talk : L → ℕ → Talk → Type 0) (cloud : ℕ) (lane last : Progress) (old new : L) (turns : List (LaneTurn L)) (before : Talk)
    → LaneAlong (Heard t talk cloud) lane old turns last new → talk old cloud before → (after : Talk) × talk new cloud after × TalksBy turns before after
talks_along t talk cloud lane last old new [] before run says = (before, subst (λ x. talk x cloud before) (sym run.1) says, refl)
talks_along t talk cloud lane last old new (turn ∷ turns) before run says =
    let heard = run.3.1 in
    let one = heard.passed.says before says in
    let rest = talks_along t talk cloud (progress_after lane turn.reply) last run.3.0 new turns _ run.3.2 one.1 in
    (rest.0, rest.1, (subst (λ (l : List ℕ). IsReply l turn.reply) one.0 heard.is, rest.2))
