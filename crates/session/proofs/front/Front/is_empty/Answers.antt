use Rattle.session.proofs.Fronts.{empty_front, uploading}
use Rattle.session.proofs.front.Front.is_empty.Goals as goal

pub returns-clause-empty : goal.returns-clause-empty
returns-clause-empty c = λ h. rw (← c.self.view_is) (empty_front c.self.inside.head c.self.inside.packed c.self.invariant.0 (c.is_empty.ensures.0 h))

pub returns-clause-some : goal.returns-clause-some
returns-clause-some c = λ e. rw (← c.self.view_is) (uploading c.self.inside.head c.self.inside.packed c.is_empty.result c.self.invariant.0 c.is_empty.ensures.1 e)
