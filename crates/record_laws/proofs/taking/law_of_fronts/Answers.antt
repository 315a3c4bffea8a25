use Rattle.std.proofs.Common.{refl}
use Rattle.record_laws.proofs.Taken.{front_begun, front_next, noted_next, chain_whole, by_bytes}
use Rattle.record_laws.proofs.taking.law_of_fronts.Goals as goal

pub returns : goal.returns
returns c = record {
  begun = front_begun;
  next = front_next;
  whole = chain_whole;
  by_bytes = by_bytes;
  unmarked = refl;
  marked = noted_next;
}
