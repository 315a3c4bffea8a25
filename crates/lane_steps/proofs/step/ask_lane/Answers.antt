use Rattle.std.proofs.Common.{◌≡◌, ◌<◌, ℕ, List, length, Ok, refl, sym, ap, ◌∙◌, subst, arith, rules}
use Rattle.upload_job.specs.Messages.Requests.{request_bytes}
use Rattle.upload_job.specs.UserDedup.Requests.{asked_at}
use Rattle.grammar.specs.CdBase.Reading.{AreBytes}
use Rattle.lane_steps.specs.Runs.{lane_at}
use Rattle.lane_steps.proofs.Alone.{any_sent, any_counts}
use Rattle.lane_steps.specs.Steps.{TakesReply}
use Rattle.lane_steps.proofs.Views.{request_here}
use Rattle.lane_steps.proofs.Suits.{does_suit, is_answer}
use Rattle.lane_steps.proofs.Asking.{SuitsLane, some_is, passed_by, taken, lost_by, reached_on, way_on}
use Rattle.lane_steps.proofs.step.ask_lane.Goals as goal

pub ask-requires-clause-framed : goal.ask-requires-clause-framed
ask-requires-clause-framed g c =
    let asks = c.requires.asks in
    let sent = any_sent (g.L.Link.tells.shape c.args.link.now) c.args.job.now c.args.lane.0 asks.0 c.requires.way asks.1 in
    omega (arith, sent.framed, ap length asks.2)

pub returns-in-Ok-clause-steps : goal.returns-in-Ok-clause-steps
returns-in-Ok-clause-steps g c r e =
    let t = g.L.Link.tells in
    let old = c.args.link.now in
    let views = c.args.job.now in
    let cloud = c.args.lane.0 in
    let small : cloud < 256 = search rules in
    let asks = c.requires.asks in
    let content : c.args.request.now ≡ request_bytes r = asks.2 ∙ ap request_bytes (some_is asks.0 r (sym asks.1 ∙ e)) in
    let sent = any_sent (t.shape old) views cloud r c.requires.way e in
    let asked : asked_at (t.shape old) c.args.request.now ≡ Ok r = ap (asked_at (t.shape old)) content ∙ sent.read in
    let ask = c.in-Ok.ensures in
    let suits : SuitsLane t cloud (lane_at views cloud) old r = λ p q reply stands does.
    is_answer (t.shape old) (lane_at views cloud).work (lane_at views cloud).state r reply (any_counts (t.shape old) views cloud r c.requires.way e) (sym (request_here views cloud) ∙ e)
    (does_suit t cloud old p q r reply (g.met.L.Link.sound old) small sent.fits.0 sent.fits.1 stands does) in
    taken t g.L.Link.talk cloud old views r c.ask.new.reply c.take_reply.result c.ask.new.self c.take_reply.new.job
    (subst AreBytes c.content.ensures.value c.take_reply.ensures.bytes)
    (passed_by t g.L.Link.talk cloud old r c.args.request.now c.ask.new.reply c.ask.new.self content sent.read ask.passes ask.others ask.says ask.says_else)
    (ask.exec r asked) suits
    (subst (λ (l : List ℕ). TakesReply views cloud l c.take_reply.result c.take_reply.new.job) c.content.ensures.value c.take_reply.ensures.takes)

pub returns-in-Ok-clause-reached : goal.returns-in-Ok-clause-reached
returns-in-Ok-clause-reached g c =
    λ reached. reached_on (g.L.Link.tells.shape c.args.link.now) c.args.job.now c.args.lane.0 c.content.result.now c.take_reply.result c.take_reply.new.job reached c.take_reply.ensures.takes

pub returns-in-Ok-clause-way : goal.returns-in-Ok-clause-way
returns-in-Ok-clause-way g c =
    way_on (g.L.Link.tells.shape c.args.link.now) c.args.job.now c.args.lane.0 c.content.result.now c.take_reply.result c.take_reply.new.job c.requires.way c.take_reply.ensures.takes

pub returns-in-Err-clause-reached : goal.returns-in-Err-clause-reached
returns-in-Err-clause-reached g c = λ reached. reached

pub returns-in-Err-clause-steps : goal.returns-in-Err-clause-steps
returns-in-Err-clause-steps g c r e =
    let t = g.L.Link.tells in
    let asks = c.requires.asks in
    let content : c.args.request.now ≡ request_bytes r = asks.2 ∙ ap request_bytes (some_is asks.0 r (sym asks.1 ∙ e)) in
    let sent = any_sent (t.shape c.args.link.now) c.args.job.now c.args.lane.0 r c.requires.way e in
    let asked : asked_at (t.shape c.args.link.now) c.args.request.now ≡ Ok r = ap (asked_at (t.shape c.args.link.now)) content ∙ sent.read in
    let ask = c.in-Err.ensures in
    (lost_by t c.args.lane.0 c.args.link.now r c.args.request.now c.ask.new.self content sent.read ask.passes ask.others ask.lost (ask.exec r asked), refl)
