use Rattle.std.proofs.Common.{◌≡◌, ◌+◌, ◌-◌, ◌∙◌, sym, slice_range, arith}
use Rattle.rabin_chunker.specs.Cuts.{fingerprint_of}
use Rattle.rabin_chunker.specs.Lanes.{IsUnmarked}
use Rattle.rabin_chunker.proofs.Scanning.{slice_lt, slice_rolled, slice_two, unmarked_more}
use Rattle.rabin_chunker.proofs.scan.scan_pairs.Goals as goal

pub loop-at-init : goal.loop-at-init
loop-at-init c = record {
  past = omega arith;
  within = omega (arith, c.requires.some);
  kept = c.requires.kept;
  unmarked = λ q a b. absurd (omega arith);
}

pub roll-one-requires : goal.roll-one-requires
roll-one-requires c = slice_lt c.args.piece.now c.loop-at.at c.loop-at.sum (omega (arith, c.requires.room, c.loop-at.invariant.past))
    (omega (arith, c.requires.within, c.loop-at.invariant.within)) (λ i. (c.type_inv.piece i).fits) c.loop-at.invariant.kept

pub roll_two-sum-requires : goal.roll_two-sum-requires
roll_two-sum-requires c = slice_lt c.args.piece.now c.loop-at.at c.loop-at.sum (omega (arith, c.requires.room, c.loop-at.invariant.past))
    (omega (arith, c.requires.within, c.loop-at.invariant.within)) (λ i. (c.type_inv.piece i).fits) c.loop-at.invariant.kept

pub roll-last-requires : goal.roll-last-requires
roll-last-requires c = slice_lt c.args.piece.now c.loop-at.at c.loop-at.sum (omega (arith, c.requires.room, c.loop-at.invariant.past))
    (omega (arith, c.requires.within, c.loop-at.invariant.within)) (λ i. (c.type_inv.piece i).fits) c.loop-at.invariant.kept

pub returns-then-is_marked-clause-kept : goal.returns-then-is_marked-clause-kept
returns-then-is_marked-clause-kept c =
    slice_rolled c.args.piece.now c.loop-at.at c.loop-at.sum c.roll-one.result (omega (arith, c.requires.room, c.loop-at.invariant.past))
    (omega (arith, c.requires.within, c.loop-at-test.true)) (λ i. (c.type_inv.piece i).fits) c.loop-at.invariant.kept c.roll-one.ensures.is

pub returns-then-at-to-clause-kept : goal.returns-then-at-to-clause-kept
returns-then-at-to-clause-kept c =
    slice_rolled c.args.piece.now c.loop-at.at c.loop-at.sum c.roll-last.result (omega (arith, c.requires.room, c.loop-at.invariant.past))
    (omega (arith, c.requires.within, c.if-at-to.true)) (λ i. (c.type_inv.piece i).fits) c.loop-at.invariant.kept c.roll-last.ensures.is

pub returns-then-is_marked-2-clause-kept : goal.returns-then-is_marked-2-clause-kept
returns-then-is_marked-2-clause-kept c =
    slice_two c.args.piece.now c.loop-at.at c.loop-at.sum c.roll-one.result c.roll_two-sum.result (omega (arith, c.requires.room, c.loop-at.invariant.past))
    (omega (arith, c.requires.within, c.loop-at-test.true)) (λ i. (c.type_inv.piece i).fits) c.loop-at.invariant.kept c.roll-one.ensures.is c.roll_two-sum.ensures

pub returns-then-is_marked-2-clause-unmarked : goal.returns-then-is_marked-2-clause-unmarked
returns-then-is_marked-2-clause-unmarked c =
    let first : c.roll-one.result ≡ fingerprint_of (slice_range c.args.piece.now (c.loop-at.at + 1 - 48) (c.loop-at.at + 1)) =
    slice_rolled c.args.piece.now c.loop-at.at c.loop-at.sum c.roll-one.result (omega (arith, c.requires.room, c.loop-at.invariant.past))
    (omega (arith, c.requires.within, c.loop-at-test.true)) (λ i. (c.type_inv.piece i).fits) c.loop-at.invariant.kept c.roll-one.ensures.is in
    let e : c.loop-at.at + 2 ≡ c.loop-at.at + 1 + 1 = omega arith in
    rw e (unmarked_more c.args.piece.now c.args.from (c.loop-at.at + 1) c.roll-one.result c.loop-at.invariant.unmarked first (sym c.is_marked.ensures ∙ c.if-is_marked.false))

pub loop-at-preserved : goal.loop-at-preserved
loop-at-preserved c =
    let first : c.roll-one.result ≡ fingerprint_of (slice_range c.args.piece.now (c.loop-at.at + 1 - 48) (c.loop-at.at + 1)) =
    slice_rolled c.args.piece.now c.loop-at.at c.loop-at.sum c.roll-one.result (omega (arith, c.requires.room, c.loop-at.invariant.past))
    (omega (arith, c.requires.within, c.loop-at-test.true)) (λ i. (c.type_inv.piece i).fits) c.loop-at.invariant.kept c.roll-one.ensures.is in
    let both : c.roll_two-sum.result ≡ fingerprint_of (slice_range c.args.piece.now (c.loop-at.at + 2 - 48) (c.loop-at.at + 2)) =
    slice_two c.args.piece.now c.loop-at.at c.loop-at.sum c.roll-one.result c.roll_two-sum.result (omega (arith, c.requires.room, c.loop-at.invariant.past))
    (omega (arith, c.requires.within, c.loop-at-test.true)) (λ i. (c.type_inv.piece i).fits) c.loop-at.invariant.kept c.roll-one.ensures.is c.roll_two-sum.ensures in
    let e : c.loop-at.at + 2 ≡ c.loop-at.at + 1 + 1 = omega arith in
    let once : IsUnmarked c.args.piece.now c.args.from (c.loop-at.at + 2) =
    rw e (unmarked_more c.args.piece.now c.args.from (c.loop-at.at + 1) c.roll-one.result c.loop-at.invariant.unmarked first (sym c.is_marked.ensures ∙ c.if-is_marked.false)) in
    record {
      past = omega (arith, c.loop-at.invariant.past);
      within = omega (arith, c.loop-at-test.true);
      kept = both;
      unmarked = unmarked_more c.args.piece.now c.args.from (c.loop-at.at + 2) c.roll_two-sum.result once both (sym c.is_marked-in-loop-at.ensures ∙ c.if-is_marked-2.false);
    }
