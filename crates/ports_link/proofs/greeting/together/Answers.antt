use Rattle.std.proofs.Common.{[], length}
use Rattle.ports_link.proofs.CloudLists.{all_shaped, are_greeted}
use Rattle.ports_link.proofs.greeting.together.Goals as goal

pub shape_of_first-shape-requires-clause-shaped : goal.shape_of_first-shape-requires-clause-shaped
shape_of_first-shape-requires-clause-shaped c = all_shaped c.args.asked
    (length c.args.dialled.now) [] c.args.greetings.now c.requires.asked

pub returns-in-Ok : goal.returns-in-Ok
returns-in-Ok c = are_greeted c.args.asked c.args.dialled.now c.args.greetings.now _ c.requires.long c.requires.asked
    c.shape_of_first-shape.ensures c.in-Ok.ensures
