use Rattle.std.proofs.Common.{rules}
use Rattle.record_checks.proofs.Faults.{in_one}
use Rattle.record_checks.proofs.places.is_in_one.Goals as goal

pub returns : goal.returns
returns c = search (rules, in_one)
