use Rattle.session.proofs.Fronts.{head_taken}
use Rattle.session.proofs.front.Front.take.Goals as goal

pub returns-then-is_empty-clause-taken : goal.returns-then-is_empty-clause-taken
returns-then-is_empty-clause-taken c =
    head_taken c.self.inside.head c.self.inside.packed c.args.self.now c.take_head.new.head _ c.self.view_is c.self.invariant.0 (c.is_empty.ensures.0 c.if-is_empty.true) c.in_ok-len.ensures.taken
