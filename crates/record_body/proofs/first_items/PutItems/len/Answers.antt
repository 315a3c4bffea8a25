use Rattle.std.proofs.Common.{length, sym, ap, ◌∙◌}
use Rattle.record_body.specs.FirstInPlace.{FirstWalk}
use Rattle.record_body.proofs.FirstWalks.{length-read}
use Rattle.record_body.proofs.first_items.PutItems.len.Goals as goal

pub returns : goal.returns
returns c = sym (length-read c.self.inside.body.now c.self.inside.at c.self.inside.count c.self.invariant) ∙ ap (λ (w : FirstWalk). length w.items) c.self.view_is
