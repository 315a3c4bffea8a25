use Rattle.std.proofs.Common.{ℕ, Bool, [], List, Option, Result, Err, sym, ap, ◌∙◌, subst}
use Rattle.lane_steps.specs.CdBase.Numbers.{numbers_of}
use Rattle.lane_steps.specs.CdBase.ids.Tag.{Tag}
use Rattle.lane_steps.specs.CdBase.ids.Version.{Version}
use Rattle.lane_steps.specs.Messages.request.Request.{Request}
use Rattle.lane_steps.proofs.UserDedup.Owned.{contains_later}
use Rattle.lane_steps.specs.UserDedup.Dedup.{Outcome}
use Rattle.lane_steps.specs.UserDedup.Link.{serves}
use Rattle.lane_steps.specs.UserDedup.command.Command.{Command}
use Rattle.rebuild.specs.declared.error.RebuildErr.{RebuildErr}
use Rattle.rebuild.specs.declared.error.SkipWhy.{SkipWhy}
use Rattle.rebuild.specs.Entering.{EntryBrought, EntryTold, stopped_as}
use Rattle.rebuild.specs.Filling.{BringHolds}
use Rattle.rebuild.specs.Turns.{EndsLane, OwnLanes}
use Rattle.rebuild.specs.Over.{HasRebuildCause, LeadsWithTarget, is_lost}
use Rattle.rebuild.specs.Steps.{found_of}
use Rattle.rebuild.proofs.Joining.{read_then, read_stops, then_stopped, stopped_holds, stopped_told, own_holds, found_brought, serves_same}
use Rattle.rebuild.proofs.Joining.{stopped_lost}
use Rattle.rebuild.proofs.Passing.{asked_as, asked_on, asked_reads, asked_wider, own_on, own_reads, own_wider}
use Rattle.rebuild.proofs.entries.rebuild_entry.Goals as goal

abbrev bad : RebuildErr → Result (Option SkipWhy) RebuildErr
bad e = Err e

pub find_version-requires-clause-reached : goal.find_version-requires-clause-reached
find_version-requires-clause-reached g c cloud has = c.requires.reached cloud (contains_later c.args.refill.target.0 (numbers_of c.args.clouds.now) cloud has)

pub returns-in-Ok-clause-rebuilt : goal.returns-in-Ok-clause-rebuilt
returns-in-Ok-clause-rebuilt g c =
    let t = g.L.Link.tells in
    let talk = g.L.Link.talk in
    let target = c.args.refill.target.0 in
    let from = numbers_of c.args.clouds.now in
    let old = c.args.link.now in
    let mid = c.find_version.new.link in
    let new = c.bring_found.new.link in
    let key : Tag × Version = (c.args.tag, c.args.version) in
    let r : Result (Option SkipWhy) RebuildErr = c.bring_found.result in
    let asked = c.in-Ok.ensures.asked in
    let own = c.bring_found.ensures.own in
    let apart = c.requires.apart in
    let second = subst (λ (serve : List Command → Request → Outcome). LeadsWithTarget t talk target [] mid new r (λ turns before after. BringHolds (t.told mid target) (OwnLanes c.args.refill.shape c.args.refill.user target) (EndsLane c.args.refill.shape c.args.refill.user target) r turns (before target) (after target))
    (λ turns before at after. EntryBrought c.args.refill.shape target serve key (found_of c.args.refill.user key c.in-Ok.found) r turns (before target) at (after target))) (serves_same t target old mid asked.shape asked.full)
    (c.bring_found.ensures.brings c.args.tag) in
    read_then t talk target from old mid new r _ _ _ _ _ _ apart (asked.asks, asked.passed) asked.told c.in-Ok.ensures.told second
    (λ turns a b d one leaves x y. own_holds t old c.args.refill.shape c.args.refill.user target (t.told mid target) r turns (b target) a d (ap (λ (f : ℕ → Bool). f target) asked.told) own (one.others target apart) y)
    (λ turns a b at d one leaves x y. found_brought c.args.refill.shape c.args.refill.user target (serves t old target) from key c.in-Ok.found r turns a b at d apart own one leaves x y)

pub returns-in-Err-clause-rebuilt : goal.returns-in-Err-clause-rebuilt
returns-in-Err-clause-rebuilt g c =
    let t = g.L.Link.tells in
    let talk = g.L.Link.talk in
    let target = c.args.refill.target.0 in
    let from = numbers_of c.args.clouds.now in
    let old = c.args.link.now in
    let new = c.find_version.new.link in
    let serve = serves t old target in
    let key : Tag × Version = (c.args.tag, c.args.version) in
    let e = c.in-Err.e in
    let asked = c.in-Err.ensures.asked in
    let apart = c.requires.apart in
    subst (λ (x : RebuildErr). LeadsWithTarget t talk target from old new (bad x) (HasRebuildCause t old c.args.refill.shape c.args.refill.user target (bad x)) (EntryTold c.args.refill.shape c.args.refill.user target serve from key (bad x))) (sym c.stopped.ensures)
    (read_stops t talk target from old new (bad (stopped_as e)) _ _ _ _ apart (asked.asks, asked.passed) c.in-Err.ensures.told (λ p q same. then_stopped (Option SkipWhy) t target new p q e same)
    (λ a b one x. stopped_holds (Option SkipWhy) t old c.args.refill.shape c.args.refill.user target e a b x) (λ a b one x. stopped_told c.args.refill.shape c.args.refill.user target serve from key e a b (one.others target apart) x))

pub returns-in-Ok-clause-asked : goal.returns-in-Ok-clause-asked
returns-in-Ok-clause-asked g c =
    let t = g.L.Link.tells in
    let target = c.args.refill.target.0 in
    let from = numbers_of c.args.clouds.now in
    asked_on t target from c.args.link.now c.find_version.new.link c.bring_found.new.link _ (asked_reads t target from c.args.link.now c.find_version.new.link _ c.in-Ok.ensures.asked)
    (asked_wider t target from c.find_version.new.link c.bring_found.new.link _ c.bring_found.ensures.asked)

pub returns-in-Err-clause-asked : goal.returns-in-Err-clause-asked
returns-in-Err-clause-asked g c =
    let t = g.L.Link.tells in
    let target = c.args.refill.target.0 in
    let from = numbers_of c.args.clouds.now in
    asked_as t target from c.args.link.now c.find_version.new.link _ _ (sym (ap (λ (x : RebuildErr). is_lost (bad x)) c.stopped.ensures ∙ stopped_lost (Option SkipWhy) c.in-Err.e))
    (asked_reads t target from c.args.link.now c.find_version.new.link _ c.in-Err.ensures.asked)

pub returns-in-Ok-clause-lanes : goal.returns-in-Ok-clause-lanes
returns-in-Ok-clause-lanes g c =
    let t = g.L.Link.tells in
    let target = c.args.refill.target.0 in
    let from = numbers_of c.args.clouds.now in
    own_on t c.args.refill.shape c.args.refill.user target from c.args.link.now c.find_version.new.link c.bring_found.new.link (own_reads t c.args.refill.shape c.args.refill.user target from c.args.link.now c.find_version.new.link _ c.in-Ok.ensures.asked)
    (own_wider t c.args.refill.shape c.args.refill.user target from c.find_version.new.link c.bring_found.new.link c.bring_found.ensures.lanes)

pub returns-in-Err-clause-lanes : goal.returns-in-Err-clause-lanes
returns-in-Err-clause-lanes g c = own_reads g.L.Link.tells c.args.refill.shape c.args.refill.user c.args.refill.target.0 (numbers_of c.args.clouds.now) c.args.link.now c.find_version.new.link _ c.in-Err.ensures.asked
