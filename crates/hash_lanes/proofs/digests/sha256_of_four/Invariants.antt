use Rattle.hash_lanes.specs.Lanes.{lane}
use Rattle.hash_lanes.proofs.Runs.{LaneAt}
use Rattle.hash_lanes.proofs.digests.sha256_of_four.Given as goal

abbrev pub invariant-blocks-2 : goal.invariant-blocks-2
invariant-blocks-2 l = LaneAt l.first l.tail0.blocks l.t (lane 0 l.state) l.digest0
    × LaneAt l.second l.tail1.blocks l.t (lane 1 l.state) l.digest1
    × LaneAt l.third l.tail2.blocks l.t (lane 2 l.state) l.digest2
    × LaneAt l.fourth l.tail3.blocks l.t (lane 3 l.state) l.digest3
