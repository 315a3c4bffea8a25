use Rattle.std.proofs.Common.{length}
use Rattle.ports_link.proofs.link.+have_ports.Given as goal

abbrev pub decreases-have_ports : goal.decreases-have_ports
decreases-have_ports l = length l.clouds.now
