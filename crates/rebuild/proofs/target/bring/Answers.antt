use Rattle.std.proofs.Common.{◌≡◌, ◌<◌, ◌≤◌, List, [], ◌++◌, length, Option, Result, Ok, Err, false, true, refl, sym, ap, ◌∙◌, subst, arith}
use Rattle.lane_steps.specs.CdBase.shape.Shape.{Shape}
use Rattle.lane_steps.specs.UploadJob.news.LaneNews.{LaneNews}
use Rattle.lane_steps.specs.UploadJob.Upload.{FileVersion}
use Rattle.lane_steps.specs.UploadJob.Lanes.{LaneView, with_state}
use Rattle.lane_steps.specs.Reached.{IsOnItsWay, ForOne, BegunAlone}
use Rattle.lane_steps.specs.Runs.{Progress, starting, lane_at}
use Rattle.rebuild.specs.Rebuilding.{lane_of}
use Rattle.rebuild.proofs.Landing.{target_leads, step_moves, lane_is, lanes_long, ended_moves, memory_moves, lane_still}
use Rattle.lane_steps.specs.UserDedup.Link.{serves}
use Rattle.lane_steps.specs.Steps.{Heard}
use Rattle.lane_steps.specs.declared.error.StepErr.{StepErr}
use Rattle.lane_steps.proofs.Finishing.{no_others}
use Rattle.rebuild.specs.declared.error.RebuildErr.{RebuildErr}
use Rattle.rebuild.specs.Over.{LeadsWithTarget, is_lost}
use Rattle.rebuild.specs.Turns.{LaneEnded, LaneGoes}
use Rattle.rebuild.specs.Filling.{BringHolds, BringsTold, EndsBy, OfTarget, failed_as, last_of}
use Rattle.rebuild.proofs.Joining.{ends_own, failed_own, failed_found}
use Rattle.rebuild.proofs.Passing.{asked_lane, asked_none, failed_lost, lane_own, own_none}
use Rattle.std.proofs.Common.{Bool}
use Rattle.rebuild.proofs.target.bring.Goals as goal

abbrev bad : RebuildErr → Result Bool RebuildErr
bad e = Err e

pub returns-in-Err-clause-brings : goal.returns-in-Err-clause-brings
returns-in-Err-clause-brings g c =
    let t = g.L.Link.tells in
    let target = c.args.refill.target.0 in
    let link = c.args.link.now in
    let v : FileVersion = record { user = c.args.refill.user; path = c.args.path.now; number = c.args.version; file = c.args.file.now } in
    let lane = lane_of c.args.refill.shape target v in
    let few : length v.file ≤ 67108864 = c.requires.few in
    λ from apart. target_leads t g.L.Link.talk target from link link _ _ _ (no_others t target link)
    (λ p stands. memory_moves t g.L.Link.talk c.args.refill.shape target from v c.requires.path few link c.requires.shape link lane lane [] [] p refl (refl, refl) refl stands)

pub finish_any-requires-clause-below : goal.finish_any-requires-clause-below
finish_any-requires-clause-below g c = let e = lanes_long c.args.refill.shape (record { user = c.args.refill.user; path = c.args.path.now; number = c.args.version; file = c.args.file.now }) c.args.refill.target.0 in let lt = c.requires.within in omega (arith, ap length c.in-Ok.ensures)

pub finish_any-requires-clause-way : goal.finish_any-requires-clause-way
finish_any-requires-clause-way g c =
    let v : FileVersion = record { user = c.args.refill.user; path = c.args.path.now; number = c.args.version; file = c.args.file.now } in
    subst (λ (s : Shape). IsOnItsWay s c.in-Ok.job) (sym c.requires.shape)
    (subst (IsOnItsWay c.args.refill.shape) (sym c.in-Ok.ensures) (ForOne (BegunAlone v c.args.refill.target.0 c.requires.path c.requires.few (omega arith) (omega arith))))

pub returns-in-Ok-finish_any-clause-brings : goal.returns-in-Ok-finish_any-clause-brings
returns-in-Ok-finish_any-clause-brings g c =
    let t = g.L.Link.tells in
    let talk = g.L.Link.talk in
    let target = c.args.refill.target.0 in
    let shape = c.args.refill.shape in
    let old = c.args.link.now in
    let new = c.finish_any.new.link in
    let v : FileVersion = record { user = c.args.refill.user; path = c.args.path.now; number = c.args.version; file = c.args.file.now } in
    let is = ap (λ (l : List LaneView). starting (lane_at l target)) c.in-Ok.ensures ∙ lane_is shape v target c.requires.within in
    let f = c.in-Ok-finish_any.ensures.finishes in
    let few : length v.file ≤ 67108864 = c.requires.few in
    λ from apart. target_leads t talk target from old new _ _ _ c.in-Ok-finish_any.ensures.others
    (λ p stands. ended_moves t talk shape target from v c.requires.path few old c.requires.shape new (starting (lane_at c.in-Ok.job target)) f.1 f.0 f.2 c.ended.result p is f.3 f.4
    (subst (λ (o : Option LaneNews). EndsBy o c.ended.result) (c.last_news.ensures ∙ ap last_of (c.deref.ensures.value ∙ f.5 ∙ ap (λ (l : List LaneNews). l ++ f.2) c.clear.ensures.items)) c.ended.ensures) stands)

pub returns-clause-brings : goal.returns-clause-brings
returns-clause-brings g c =
    let t = g.L.Link.tells in
    let talk = g.L.Link.talk in
    let target = c.args.refill.target.0 in
    let shape = c.args.refill.shape in
    let old = c.args.link.now in
    let new = c.finish_any.new.link in
    let v : FileVersion = record { user = c.args.refill.user; path = c.args.path.now; number = c.args.version; file = c.args.file.now } in
    let is = ap (λ (l : List LaneView). starting (lane_at l target)) c.in-Ok.ensures ∙ lane_is shape v target c.requires.within in
    let e : StepErr = c.in-Err-finish_any.e in
    let f = c.in-Err-finish_any.ensures.finishes in
    let below : target < length c.in-Ok.job = (let all = lanes_long shape v target in let lt = c.requires.within in omega (arith, ap length c.in-Ok.ensures)) in
    let here = lane_still (Heard t talk target) c.in-Ok.job target f.1 old f.3 f.0 below f.4 in
    let few : length v.file ≤ 67108864 = c.requires.few in
    λ from apart.
    let result : Result Bool RebuildErr = Err c.failed.result in
    let due : result ≡ Err (failed_as e) = ap (λ (x : RebuildErr). bad x) c.failed.ensures in
    let clause : Result Bool RebuildErr → Type 0 = λ r. LeadsWithTarget t talk target from old new r (λ turns before after. BringHolds (t.told old target) (LaneGoes (lane_of shape target v)) (LaneEnded (lane_of shape target v)) r turns (before target) (after target)) (λ turns before at after. BringsTold shape target (serves t old target) v r turns (before target) at (after target)) in
    subst clause (sym due)
    (target_leads t talk target from old new (Err (failed_as e)) _ _ c.in-Err-finish_any.ensures.others
    (λ p stands. step_moves t talk shape target from v c.requires.path few old c.requires.shape f.3 new (with_state c.in-Ok.job target f.1.lane.state) c.finish_any.new.job (starting (lane_at c.in-Ok.job target)) f.1 f.0 f.2 p e here f.7 is f.4 f.5 stands f.8))

pub returns-in-Err-clause-own : goal.returns-in-Err-clause-own
returns-in-Err-clause-own g c = tt

pub returns-in-Err-clause-asked : goal.returns-in-Err-clause-asked
returns-in-Err-clause-asked g c = asked_none g.L.Link.tells c.args.refill.target.0 [] c.args.link.now

pub returns-in-Ok-finish_any-clause-own : goal.returns-in-Ok-finish_any-clause-own
returns-in-Ok-finish_any-clause-own g c = (ends_own _ c.ended.result c.ended.ensures).0

pub returns-in-Ok-finish_any-clause-asked : goal.returns-in-Ok-finish_any-clause-asked
returns-in-Ok-finish_any-clause-asked g c =
    let e = c.in-Ok-finish_any.ensures in
    let own = (ends_own _ c.ended.result c.ended.ensures).1 in
    asked_lane g.L.Link.tells g.L.Link.talk c.args.refill.target.0 c.args.link.now c.in-Ok.job _ (Ok tt) c.finish_any.new.link c.finish_any.new.job _ (is_lost c.ended.result) e.finishes e.others e.later
    (λ lost. absurd (let f : false ≡ true = sym own ∙ lost in cc)) (λ h. (own, (e.lossless h).1))

pub returns-clause-own : goal.returns-clause-own
returns-clause-own g c = subst (λ (x : RebuildErr). OfTarget (bad x)) (sym c.failed.ensures) (failed_own c.in-Err-finish_any.e)

pub returns-clause-asked : goal.returns-clause-asked
returns-clause-asked g c =
    let e = c.in-Err-finish_any.ensures in
    let is = ap (λ (x : RebuildErr). is_lost (bad x)) c.failed.ensures in
    asked_lane g.L.Link.tells g.L.Link.talk c.args.refill.target.0 c.args.link.now c.in-Ok.job _ (Err c.in-Err-finish_any.e) c.finish_any.new.link c.finish_any.new.job _ (is_lost (bad c.failed.result)) e.finishes e.others e.later
    (λ lost. failed_lost c.in-Err-finish_any.e _ _ e.lost (sym is ∙ lost)) (λ h. (is ∙ failed_found c.in-Err-finish_any.e (e.lossless h).0, (e.lossless h).1))

pub returns-in-Err-clause-lanes : goal.returns-in-Err-clause-lanes
returns-in-Err-clause-lanes g c = own_none g.L.Link.tells c.args.refill.shape c.args.refill.user c.args.refill.target.0 [] c.args.link.now

pub returns-in-Ok-finish_any-clause-lanes : goal.returns-in-Ok-finish_any-clause-lanes
returns-in-Ok-finish_any-clause-lanes g c =
    let v : FileVersion = record { user = c.args.refill.user; path = c.args.path.now; number = c.args.version; file = c.args.file.now } in
    let is = ap (λ (l : List LaneView). starting (lane_at l c.args.refill.target.0)) c.in-Ok.ensures ∙ lane_is c.args.refill.shape v c.args.refill.target.0 c.requires.within in
    lane_own g.L.Link.tells g.L.Link.talk c.args.refill.shape c.args.refill.target.0 v c.args.link.now c.in-Ok.job _ (Ok tt) c.finish_any.new.link c.finish_any.new.job _ (ap (λ (p : Progress). p.lane.work) is) c.in-Ok-finish_any.ensures.finishes

pub returns-clause-lanes : goal.returns-clause-lanes
returns-clause-lanes g c =
    let v : FileVersion = record { user = c.args.refill.user; path = c.args.path.now; number = c.args.version; file = c.args.file.now } in
    let is = ap (λ (l : List LaneView). starting (lane_at l c.args.refill.target.0)) c.in-Ok.ensures ∙ lane_is c.args.refill.shape v c.args.refill.target.0 c.requires.within in
    lane_own g.L.Link.tells g.L.Link.talk c.args.refill.shape c.args.refill.target.0 v c.args.link.now c.in-Ok.job _ (Err c.in-Err-finish_any.e) c.finish_any.new.link c.finish_any.new.job _ (ap (λ (p : Progress). p.lane.work) is) c.in-Err-finish_any.ensures.finishes
