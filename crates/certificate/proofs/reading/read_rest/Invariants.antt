use Rattle.std.proofs.Common.{◌+◌, ◌<◌, length}
use Rattle.certificate.proofs.Turns.{Follows}
use Rattle.certificate.proofs.reading.read_rest.Given as goal

abbrev pub invariant-lines : goal.invariant-lines
invariant-lines l = record {
  few : l.number + length l.rest < length l.bytes + 3;
  follows : Follows l.bytes l.stage l.number l.rest;
}

abbrev pub decreases-lines : goal.decreases-lines
decreases-lines l = length l.rest
