use Rattle.std.proofs.Common.{◌≡◌, ◌++◌, length}
use Rattle.ports_link.specs.Hellos.{lines_by}
use Rattle.ports_link.proofs.greeting.lines_of.Given as goal

abbrev pub invariant-lines : goal.invariant-lines
invariant-lines l = l.lines.items ++ lines_by l.replies l.ports ≡ lines_by l.greetings l.dialled

abbrev pub decreases-lines : goal.decreases-lines
decreases-lines l = length l.replies
