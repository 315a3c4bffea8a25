use Rattle.std.proofs.Common.{length, sym, ap, ◌∙◌}
use Rattle.record_body.specs.InPlace.{Walk}
use Rattle.record_body.proofs.Walks.{length-read}
use Rattle.record_body.proofs.items.KeptItems.len.Goals as goal

pub returns : goal.returns
returns c = sym (length-read c.self.inside.body.now c.self.inside.at c.self.inside.count c.self.invariant) ∙ ap (λ (w : Walk). length w.items) c.self.view_is
