use Rattle.std.proofs.Common.{◌+◌, arith}
use Rattle.rabin_chunker.proofs.Scanning.{slice_lt, slice_rolled}
use Rattle.rabin_chunker.proofs.Laning.{lane_moved}
use Rattle.rabin_chunker.proofs.scan.moved.Goals as goal

pub roll-first-requires : goal.roll-first-requires
roll-first-requires c = slice_lt c.args.piece.now c.args.at c.args.lanes.first (omega (arith, c.requires.room)) (omega (arith, c.requires.within)) (λ i. (c.type_inv.piece i).fits) c.requires.lanes.first

pub roll-second-requires : goal.roll-second-requires
roll-second-requires c = slice_lt c.args.piece.now (c.args.at + 256) c.args.lanes.second (omega (arith, c.requires.room)) (omega (arith, c.requires.within)) (λ i. (c.type_inv.piece i).fits) c.requires.lanes.second

pub roll-third-requires : goal.roll-third-requires
roll-third-requires c = slice_lt c.args.piece.now (c.args.at + 512) c.args.lanes.third (omega (arith, c.requires.room)) (omega (arith, c.requires.within)) (λ i. (c.type_inv.piece i).fits) c.requires.lanes.third

pub roll-fourth-requires : goal.roll-fourth-requires
roll-fourth-requires c = slice_lt c.args.piece.now (c.args.at + 768) c.args.lanes.fourth (omega (arith, c.requires.room)) (omega (arith, c.requires.within)) (λ i. (c.type_inv.piece i).fits) c.requires.lanes.fourth

pub returns : goal.returns
returns c = record {
  first = slice_rolled c.args.piece.now c.args.at c.args.lanes.first c.roll-first.result (omega (arith, c.requires.room)) (omega (arith, c.requires.within)) (λ i. (c.type_inv.piece i).fits) c.requires.lanes.first c.roll-first.ensures.is;
  second = lane_moved c.args.piece.now c.args.at 256 (c.args.at + 208) c.args.lanes.second c.roll-second.result (omega (arith, c.requires.room)) (omega arith) (omega (arith, c.requires.within)) (λ i. (c.type_inv.piece i).fits) c.requires.lanes.second c.roll-second.ensures.is;
  third = lane_moved c.args.piece.now c.args.at 512 (c.args.at + 464) c.args.lanes.third c.roll-third.result (omega (arith, c.requires.room)) (omega arith) (omega (arith, c.requires.within)) (λ i. (c.type_inv.piece i).fits) c.requires.lanes.third c.roll-third.ensures.is;
  fourth = lane_moved c.args.piece.now c.args.at 768 (c.args.at + 720) c.args.lanes.fourth c.roll-fourth.result (omega (arith, c.requires.room)) (omega arith) (omega (arith, c.requires.within)) (λ i. (c.type_inv.piece i).fits) c.requires.lanes.fourth c.roll-fourth.ensures.is;
}
