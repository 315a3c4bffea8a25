use Rattle.cd_edges.proofs.Windows.{held_taken}
use Rattle.cd_edges.proofs.window.Window.take_line.Goals as goal

pub returns : goal.returns
returns c = held_taken c.self.inside.bytes.items c.self.inside.from c.self.inside.filled c.args.n c.args.self.now _ c.self.view_is c.requires
