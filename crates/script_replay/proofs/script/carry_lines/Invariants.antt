use Rattle.std.proofs.Common.{◌≡◌, ◌≤◌, ◌-◌, [], length}
use Rattle.two_worlds.specs.Session.Lines.{script_limit}
use Rattle.script_lines.specs.SessionModel.Vault.{Setting}
use Rattle.script_lines.specs.Jobs.{AreReached}
use Rattle.replay_core.specs.Going.{ReplayStart, HasCome}
use Rattle.script_replay.proofs.script.carry_lines.Given as goal

abbrev pub invariant-lines : goal.invariant-lines
invariant-lines g l = record {
  come : (start : ReplayStart) (s : Setting)
      → HasCome g.V.Shelf.cloud_at start s l.fn.link [] l.fn.reader (g.S.Source.left l.fn.source) (g.S.Source.faults l.fn.source) (g.K.Sink.written l.fn.sink) (g.K.Sink.faults l.fn.sink) 0
      → HasCome g.V.Shelf.cloud_at start s l.link l.jobs l.reader (g.S.Source.left l.source) (g.S.Source.faults l.source) (g.K.Sink.written l.sink) (g.K.Sink.faults l.sink) l.events;
  shape : l.link.servers.shape ≡ l.fn.link.servers.shape;
  reached : AreReached l.fn.link.servers.shape l.jobs;
  few : length l.jobs ≤ 1000;
  counted : l.events ≤ l.reader.taken;
  limited : l.reader.taken ≤ script_limit;
  same_reference : l.link.shelf.ghost_name ≡ l.fn.link.shelf.ghost_name;
}

abbrev pub decreases-lines : goal.decreases-lines
decreases-lines g l = script_limit - l.reader.taken
