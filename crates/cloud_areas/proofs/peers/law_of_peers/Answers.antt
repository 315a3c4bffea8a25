use Rattle.journal_halves.proofs.CdEdges.Moments.{at_end}
use Rattle.user_dedup.specs.Exec.{MaySettleAs}
use Rattle.cloud_areas.specs.Peers.{StandsForSome}
use Rattle.cloud_areas.proofs.Settled.{kept, added, listed, alike}
use Rattle.cloud_areas.proofs.peers.law_of_peers.Goals as goal

pub returns : goal.returns
returns c = record {
  kept = kept;
  added = added;
  lists = listed;
  last = λ header old new p since. at_end old new (StandsForSome header (MaySettleAs p)) since;
  alike = alike;
}
