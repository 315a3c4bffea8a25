use Rattle.std.proofs.Common.{ap, ◌∙◌}
use Rattle.cd_edges.specs.Held.{Held}
use Rattle.cd_edges.proofs.Windows.{cut_part}
use Rattle.cd_edges.proofs.window.Window.cut.Goals as goal

pub returns : goal.returns
returns c = cut_part c.self.inside.bytes.items c.shrink_to.new.self.items c.args.self.now.ahead c.self.inside.from c.self.inside.filled c.self.invariant.2
    (c.shrink_to.ensures.items ∙ c.truncate.ensures.items) (ap (λ (h : Held). h.ahead) c.self.view_is)
