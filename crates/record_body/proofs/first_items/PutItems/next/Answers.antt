use Rattle.std.proofs.Common.{◌-◌, arith, refl, sym, ap, ◌∙◌}
use Rattle.record_body.specs.FirstInPlace.{FirstWalk}
use Rattle.record_body.proofs.FirstWalks.{none_left, item_there, steps}
use Rattle.record_body.proofs.first_items.PutItems.next.Goals as goal

pub returns-then-self-eq0 : goal.returns-then-self-eq0
returns-then-self-eq0 c =
    (sym (ap (λ (w : FirstWalk). w.items) c.self.view_is) ∙ none_left c.self.inside.body.now c.self.inside.at c.self.inside.count c.if-self-eq0.true, refl)

pub invariant_of-self : goal.invariant_of-self
invariant_of-self c = (steps c.self.inside.body.now c.self.inside.at c.self.inside.count c.in-Some.next (c.self.inside.count - 1) c.in-Some.item c.self.invariant (omega arith) c.in-Some.ensures).lies

pub returns-in-Some : goal.returns-in-Some
returns-in-Some c =
    rw (← c.self.view_is) (steps c.self.inside.body.now c.self.inside.at c.self.inside.count c.in-Some.next (c.self.inside.count - 1) c.in-Some.item c.self.invariant (omega arith) c.in-Some.ensures).over

pub returns-in-None : goal.returns-in-None
returns-in-None c = absurd (item_there c.self.inside.body.now c.self.inside.at c.self.inside.count (c.self.inside.count - 1) c.self.invariant (omega arith) c.in-None.ensures)
