use Rattle.std.proofs.Common.{◌≡◌, ◌+◌, arith}
use Rattle.rabin_chunker.proofs.Laning.{primed_none, primed_more, primed_whole}
use Rattle.rabin_chunker.proofs.scan.lanes_at.Goals as goal

pub loop-count-init : goal.loop-count-init
loop-count-init c = record {
  within = omega arith;
  second = primed_none c.args.piece.now (c.args.at + 208);
  third = primed_none c.args.piece.now (c.args.at + 464);
  fourth = primed_none c.args.piece.now (c.args.at + 720);
  second_lt = omega arith;
  third_lt = omega arith;
  fourth_lt = omega arith;
}

pub loop-count-preserved : goal.loop-count-preserved
loop-count-preserved c =
    let i = c.loop-count.invariant in
    record {
      within = omega (arith, c.loop-count-test.true);
      second = primed_more c.args.piece.now (c.args.at + 208) c.loop-count.count c.loop-count.second c.roll-second.result c.loop-count-test.true (omega (arith, c.requires.within)) (λ i. (c.type_inv.piece i).fits) i.second c.roll-second.ensures.is;
      third = primed_more c.args.piece.now (c.args.at + 464) c.loop-count.count c.loop-count.third c.roll-third.result c.loop-count-test.true (omega (arith, c.requires.within)) (λ i. (c.type_inv.piece i).fits) i.third c.roll-third.ensures.is;
      fourth = primed_more c.args.piece.now (c.args.at + 720) c.loop-count.count c.loop-count.fourth c.roll-fourth.result c.loop-count-test.true (omega (arith, c.requires.within)) (λ i. (c.type_inv.piece i).fits) i.fourth c.roll-fourth.ensures.is;
      second_lt = c.roll-second.ensures.below;
      third_lt = c.roll-third.ensures.below;
      fourth_lt = c.roll-fourth.ensures.below;
    }

pub returns : goal.returns
returns c =
    let i = c.loop-count.invariant in
    let all : c.loop-count.count ≡ 48 = omega (arith, i.within, c.loop-count-test.false) in
    record {
      first = c.requires.kept;
      second = primed_whole c.args.piece.now (c.args.at + 208) c.loop-count.count (c.args.at + 256) c.loop-count.second all (omega arith) i.second;
      third = primed_whole c.args.piece.now (c.args.at + 464) c.loop-count.count (c.args.at + 512) c.loop-count.third all (omega arith) i.third;
      fourth = primed_whole c.args.piece.now (c.args.at + 720) c.loop-count.count (c.args.at + 768) c.loop-count.fourth all (omega arith) i.fourth;
    }
