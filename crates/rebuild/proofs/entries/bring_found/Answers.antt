use Rattle.std.proofs.Common.{refl, ◌∙◌, Bool, [], Option, Some, Result, Ok, Err, sym, ap, subst}
use Rattle.lane_steps.specs.CdBase.ids.Tag.{Tag}
use Rattle.lane_steps.specs.CdBase.ids.Version.{Version}
use Rattle.lane_steps.proofs.UserDedup.Owned.{contains_nothing}
use Rattle.rebuild.specs.Steps.{found_of}
use Rattle.rebuild.specs.declared.error.SkipWhy.{SkipWhy}
use Rattle.rebuild.specs.declared.error.RebuildErr.{RebuildErr}
use Rattle.lane_steps.specs.UserDedup.Link.{serves}
use Rattle.lane_steps.specs.UploadJob.Upload.{FileVersion}
use Rattle.rebuild.specs.Over.{LeadsWithTarget}
use Rattle.rebuild.specs.Entering.{EntryBrought, entered_as}
use Rattle.rebuild.specs.Filling.{BringHolds}
use Rattle.rebuild.specs.Turns.{EndsLane, OwnLanes}
use Rattle.rebuild.proofs.Telling.{lanes_one, said_as, ends_one, reply_of}
use Rattle.rebuild.proofs.Joining.{skipped_leads, leads_as, then_err, entered_told, refused_told, bring_caused_as, version_is}
use Rattle.rebuild.proofs.Going.{lost_as}
use Rattle.rebuild.proofs.Passing.{asked_as, asked_none, own_none}
use Rattle.rebuild.proofs.entries.bring_found.Goals as goal

abbrev came : Bool → Result Bool RebuildErr
came entered = Ok entered

abbrev refused : RebuildErr → Result Bool RebuildErr
refused e = Err e

abbrev ok : Option SkipWhy → Result (Option SkipWhy) RebuildErr
ok skip = Ok skip

pub returns-in-Ok-clause-brings : goal.returns-in-Ok-clause-brings
returns-in-Ok-clause-brings g c tag =
    let t = g.L.Link.tells in
    let talk = g.L.Link.talk in
    let target = c.args.refill.target.0 in
    let old = c.args.link.now in
    let new = c.bring.new.link in
    let serve = serves t old target in
    let key : Tag × Version = (tag, c.args.version) in
    let v : FileVersion = record { user = c.args.refill.user; path = c.as_slice.result.now; number = c.args.version; file = c.as_slice-in-Version.result.now } in
    let clause : Result FileVersion SkipWhy → Option SkipWhy → Type 0 = λ f s. LeadsWithTarget t talk target [] old new (ok s) (λ turns before after. BringHolds (t.told old target) (OwnLanes c.args.refill.shape c.args.refill.user target) (EndsLane c.args.refill.shape c.args.refill.user target) (ok s) turns (before target) (after target))
    (λ turns before at after. EntryBrought c.args.refill.shape target serve key f (ok s) turns (before target) at (after target)) in
    subst (λ (f : Result FileVersion SkipWhy). clause f c.skip_of.result) (sym (ap (found_of c.args.refill.user key) c.in-Version.is ∙ version_is c.args.refill.user c.args.version _ _ _ _ c.as_slice.ensures c.as_slice-in-Version.ensures))
    (subst (λ (s : Option SkipWhy). clause (Ok v) s) (sym c.skip_of.ensures)
    (leads_as t talk target [] old new (came c.in-Ok.entered) (ok (entered_as c.in-Ok.entered)) _ _ _ _ (c.in-Ok.ensures.brings [] (λ has. contains_nothing target has)) (λ last p q x. x)
    (λ turns a b x. record { caused = tt; said = tt; ended = tt; own = lanes_one c.args.refill.shape c.args.refill.user target v turns refl x.own })
    (λ turns a at b x. entered_told c.args.refill.shape target serve key v c.in-Ok.entered turns (a target) at (b target) x)))

pub returns-in-Err-clause-brings : goal.returns-in-Err-clause-brings
returns-in-Err-clause-brings g c tag =
    let t = g.L.Link.tells in
    let talk = g.L.Link.talk in
    let target = c.args.refill.target.0 in
    let old = c.args.link.now in
    let new = c.bring.new.link in
    let serve = serves t old target in
    let key : Tag × Version = (tag, c.args.version) in
    let e : RebuildErr = c.in-Err.e in
    let r : Result (Option SkipWhy) RebuildErr = Err e in
    let v : FileVersion = record { user = c.args.refill.user; path = c.as_slice.result.now; number = c.args.version; file = c.as_slice-in-Version.result.now } in
    let clause : Result FileVersion SkipWhy → Type 0 = λ f. LeadsWithTarget t talk target [] old new r (λ turns before after. BringHolds (t.told old target) (OwnLanes c.args.refill.shape c.args.refill.user target) (EndsLane c.args.refill.shape c.args.refill.user target) r turns (before target) (after target))
    (λ turns before at after. EntryBrought c.args.refill.shape target serve key f r turns (before target) at (after target)) in
    subst clause (sym (ap (found_of c.args.refill.user key) c.in-Version.is ∙ version_is c.args.refill.user c.args.version _ _ _ _ c.as_slice.ensures c.as_slice-in-Version.ensures))
    (leads_as t talk target [] old new (refused e) r _ _ _ _ (c.in-Err.ensures.brings [] (λ has. contains_nothing target has)) (λ last p q x. then_err Bool (Option SkipWhy) t target last new p q e x)
    (λ turns a b x. record { caused = bring_caused_as Bool (Option SkipWhy) (t.told old target) e (a target) (b target) x.caused; said = said_as Bool (Option SkipWhy) e turns x.said; ended = reply_of r _ _ (ends_one c.args.refill.shape c.args.refill.user target v turns refl x.own) x.ended; own = lanes_one c.args.refill.shape c.args.refill.user target v turns refl x.own })
    (λ turns a at b x. refused_told c.args.refill.shape target serve key v e turns (a target) at (b target) x))

pub returns-in-Skipped-clause-brings : goal.returns-in-Skipped-clause-brings
returns-in-Skipped-clause-brings g c tag =
    let t = g.L.Link.tells in
    let talk = g.L.Link.talk in
    let target = c.args.refill.target.0 in
    let link = c.args.link.now in
    let serve = serves t link target in
    let key : Tag × Version = (tag, c.args.version) in
    let r : Result (Option SkipWhy) RebuildErr = Ok (Some c.in-Skipped.why) in
    let clause : Result FileVersion SkipWhy → Type 0 = λ f. LeadsWithTarget t talk target [] link link r (λ turns before after. BringHolds (t.told link target) (OwnLanes c.args.refill.shape c.args.refill.user target) (EndsLane c.args.refill.shape c.args.refill.user target) r turns (before target) (after target))
    (λ turns before at after. EntryBrought c.args.refill.shape target serve key f r turns (before target) at (after target)) in
    subst clause (sym (ap (found_of c.args.refill.user key) c.in-Skipped.is)) (skipped_leads t talk target link (t.told link target) c.args.refill.shape c.args.refill.user serve key c.in-Skipped.why)

pub returns-in-Err-clause-asked : goal.returns-in-Err-clause-asked
returns-in-Err-clause-asked g c = asked_as g.L.Link.tells c.args.refill.target.0 [] c.args.link.now c.bring.new.link _ _ (lost_as Bool (Option SkipWhy) c.in-Err.e) c.in-Err.ensures.asked

pub returns-in-Skipped-clause-asked : goal.returns-in-Skipped-clause-asked
returns-in-Skipped-clause-asked g c = asked_none g.L.Link.tells c.args.refill.target.0 [] c.args.link.now

pub returns-in-Ok-clause-lanes : goal.returns-in-Ok-clause-lanes
returns-in-Ok-clause-lanes g c = c.in-Ok.ensures.lanes

pub returns-in-Err-clause-lanes : goal.returns-in-Err-clause-lanes
returns-in-Err-clause-lanes g c = c.in-Err.ensures.lanes

pub returns-in-Skipped-clause-lanes : goal.returns-in-Skipped-clause-lanes
returns-in-Skipped-clause-lanes g c = own_none g.L.Link.tells c.args.refill.shape c.args.refill.user c.args.refill.target.0 [] c.args.link.now
