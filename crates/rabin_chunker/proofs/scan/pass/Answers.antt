use Rattle.std.proofs.Common.{◌≡◌, ℕ, ◌+◌, ◌-◌, ◌∙◌, ap, arith, add-zero, slice_range}
use Rattle.rabin_chunker.specs.Cuts.{fingerprint_of}
use Rattle.rabin_chunker.proofs.Scanning.{unmarked_more}
use Rattle.rabin_chunker.proofs.Laning.{lane_unmarked, lanes_unmarked}
use Rattle.rabin_chunker.proofs.scan.pass.Goals as goal

pub loop-count-init : goal.loop-count-init
loop-count-init c = record {
  within = omega arith;
  lanes = rw (add-zero c.args.at) c.lanes_at-lanes.ensures;
  first = λ q a b. absurd (omega arith);
  second = λ q a b. absurd (omega arith);
  third = λ q a b. absurd (omega arith);
  fourth = λ q a b. absurd (omega arith);
}

pub loop-count-preserved : goal.loop-count-preserved
loop-count-preserved c =
    let i = c.loop-count.invariant in
    let l = c.moved-lanes.ensures in
    let off = c.any_is_marked.ensures c.if-any_is_marked.false in
    let e : c.args.at + (c.loop-count.count + 1) ≡ c.args.at + c.loop-count.count + 1 = omega arith in
    record {
      within = omega (arith, c.loop-count-test.true);
      lanes = rw e l;
      first = rw e (unmarked_more c.args.piece.now c.args.at (c.args.at + c.loop-count.count + 1) c.moved-lanes.result.first i.first l.first off.first);
      second = lane_unmarked c.args.piece.now (c.args.at + 256) c.args.at c.loop-count.count 256 c.moved-lanes.result.second i.second l.second off.second;
      third = lane_unmarked c.args.piece.now (c.args.at + 512) c.args.at c.loop-count.count 512 c.moved-lanes.result.third i.third l.third off.third;
      fourth = lane_unmarked c.args.piece.now (c.args.at + 768) c.args.at c.loop-count.count 768 c.moved-lanes.result.fourth i.fourth l.fourth off.fourth;
    }

pub returns-clause-kept : goal.returns-clause-kept
returns-clause-kept c =
    let e : c.args.at + c.loop-count.count + 768 ≡ c.args.at + 1024 = omega (arith, c.loop-count.invariant.within, c.loop-count-test.false) in
    c.loop-count.invariant.lanes.fourth ∙ ap (λ (x : ℕ). fingerprint_of (slice_range c.args.piece.now (x - 48) x)) e

pub returns-clause-unmarked : goal.returns-clause-unmarked
returns-clause-unmarked c =
    let i = c.loop-count.invariant in
    lanes_unmarked c.args.piece.now c.args.at c.loop-count.count (omega (arith, i.within, c.loop-count-test.false)) i.first i.second i.third i.fourth
