use Rattle.std.proofs.Common.{◌<◌, ℕ, List, sym, subst}
use Rattle.lane_steps.specs.UploadJob.news.LaneNews.{LaneNews}
use Rattle.lane_steps.specs.Steps.{Finishes}
use Rattle.lane_steps.proofs.Reaching.{reached_len}
use Rattle.ports_link.specs.Tells.{telling}
use Rattle.backup_command.specs.Steps.{Talked, PutsLaneLines}
use Rattle.backup_command.proofs.LaneAsks.{reached_own}
use Rattle.backup_command.proofs.Pieces.{sends_all}
use Rattle.backup_command.proofs.Walking.{goes, leaves_all, talks_all, lost_all}
use Rattle.backup_command.proofs.Working.{works_all}
use Rattle.backup_command.proofs.lanes.bring_one.Goals as goal

pub finish_lane-came-requires-clause-below : goal.finish_lane-came-requires-clause-below
finish_lane-came-requires-clause-below g c =
    subst (λ (n : ℕ). c.args.lane.0 < n) (sym (reached_len c.args.link.now.shape c.args.job.now c.requires.reached))
    c.requires.below

pub returns-clause-goes : goal.returns-clause-goes
returns-clause-goes g c behind port same ready =
    let tells = g.P.Ports.tells in
    let faults = g.P.Ports.faults in
    let new = c.finish_lane-came.new.link in
    let f = subst (λ (l : List LaneNews). Finishes (telling tells faults) (Talked tells) c.args.lane.0 c.args.link.now
    c.args.job.now l c.finish_lane-came.result new c.finish_lane-came.new.job c.finish_lane-came.new.told.items)
    c.clear.ensures.items c.finish_lane-came.ensures.finishes in
    goes tells faults behind (c.args.lane, port) c.args.job.now c.finish_lane-came.new.job c.args.link.now new
    c.finish_lane-came.result c.finish_lane-came.new.told.items c.put_lane.result c.args.text.now c.put_lane.new.text
    (subst (λ (n : ℕ). c.args.lane.0 < n) (sym (reached_len c.args.link.now.shape c.args.job.now c.requires.reached))
    c.requires.below) f
    (subst (λ (l : List LaneNews). PutsLaneLines c.args.lane.0 c.finish_lane-came.result l c.put_lane.result c.args.text.now
    c.put_lane.new.text) c.as_slice.ensures.value c.put_lane.ensures) same ready

pub returns-clause-leaves : goal.returns-clause-leaves
returns-clause-leaves g c =
    leaves_all g.P.Ports.tells g.P.Ports.faults c.args.lane.0 c.args.job.now c.finish_lane-came.new.job c.args.link.now
    c.finish_lane-came.new.link c.finish_lane-came.result c.clear.new.self.items c.finish_lane-came.new.told.items
    c.finish_lane-came.ensures.finishes

pub returns-clause-talks : goal.returns-clause-talks
returns-clause-talks g c =
    talks_all g.P.Ports.tells g.P.Ports.faults c.args.lane.0 c.args.job.now c.finish_lane-came.new.job c.args.link.now
    c.finish_lane-came.new.link c.finish_lane-came.result c.clear.new.self.items c.finish_lane-came.new.told.items
    c.put_lane.result c.args.text.now c.put_lane.new.text c.finish_lane-came.ensures.finishes
    (subst (λ (l : List LaneNews). PutsLaneLines c.args.lane.0 c.finish_lane-came.result l c.put_lane.result c.args.text.now
    c.put_lane.new.text) c.as_slice.ensures.value c.put_lane.ensures)

pub returns-clause-lost : goal.returns-clause-lost
returns-clause-lost g c =
    lost_all g.P.Ports.tells g.P.Ports.faults c.args.lane.0 c.args.job.now c.finish_lane-came.new.job c.args.link.now
    c.finish_lane-came.new.link c.finish_lane-came.result c.clear.new.self.items c.finish_lane-came.new.told.items
    c.put_lane.result c.args.text.now c.put_lane.new.text c.finish_lane-came.ensures.finishes
    (subst (λ (l : List LaneNews). PutsLaneLines c.args.lane.0 c.finish_lane-came.result l c.put_lane.result c.args.text.now
    c.put_lane.new.text) c.as_slice.ensures.value c.put_lane.ensures)

pub returns-clause-works : goal.returns-clause-works
returns-clause-works g c =
    works_all g.P.Ports.tells g.P.Ports.faults c.args.lane.0 c.args.job.now c.finish_lane-came.new.job c.args.link.now
    c.finish_lane-came.new.link c.finish_lane-came.result c.clear.new.self.items c.finish_lane-came.new.told.items
    c.finish_lane-came.ensures.finishes

pub returns-clause-sends : goal.returns-clause-sends
returns-clause-sends g c =
    sends_all g.P.Ports.tells g.P.Ports.faults c.args.lane.0 c.args.job.now c.finish_lane-came.new.job c.args.link.now
    c.finish_lane-came.new.link c.finish_lane-came.result c.clear.new.self.items c.finish_lane-came.new.told.items
    (reached_own c.args.link.now.shape c.args.job.now c.requires.reached c.args.lane.0) c.finish_lane-came.ensures.finishes
