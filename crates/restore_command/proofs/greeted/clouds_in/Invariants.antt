use Rattle.std.proofs.Common.{◌≡◌, ◌++◌, length}
use Rattle.ports_link.specs.Hellos.{clouds_of}
use Rattle.restore_command.proofs.greeted.clouds_in.Given as goal

abbrev pub invariant-lines : goal.invariant-lines
invariant-lines l = l.clouds ++ clouds_of l.rest ≡ clouds_of l.lines

abbrev pub decreases-lines : goal.decreases-lines
decreases-lines l = length l.rest
