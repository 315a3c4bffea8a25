use Rattle.std.proofs.Common.{ap}
use Rattle.cd_edges.specs.Held.{Held}
use Rattle.cd_edges.proofs.Windows.{skipped}
use Rattle.cd_edges.proofs.window.Window.skip.Goals as goal

pub returns : goal.returns
returns c = skipped c.self.inside.bytes.items c.args.self.now.ahead c.self.inside.from c.self.inside.filled c.args.n (ap (λ (h : Held). h.ahead) c.self.view_is) c.requires
