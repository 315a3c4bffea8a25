use Rattle.std.proofs.Common.{sym, arith, eqb-true}
use Rattle.std.proofs.lemmas.Bool.{eqb-false}
use Rattle.certificate.proofs.Turns.{starts, follows_on, follows_wrong, follows_end, follows_more}
use Rattle.certificate.proofs.reading.read_rest.Goals as goal

pub lines-init : goal.lines-init
lines-init c = record { few = omega arith; follows = starts c.args.bytes.now }

pub lines-preserved : goal.lines-preserved
lines-preserved c =
    let few = c.lines.invariant.few in
    let shorter = c.in-Ok.ensures.shorter in
    rw c.stage_after-stage.ensures (record {
      few = omega (arith, few, shorter);
      follows = follows_on c.args.bytes.now c.lines.stage c.lines.number c.lines.rest.now c.in-Ok.read.1.now c.in-Ok.read.0 shorter c.in-Ok.ensures.reads c.lines.invariant.follows;
    })

pub returns-in-Err-clause-wrong : goal.returns-in-Err-clause-wrong
returns-in-Err-clause-wrong c = follows_wrong c.args.bytes.now c.lines.stage c.lines.number c.lines.rest.now c.in-Err.wrong c.lines.invariant.follows c.in-Err.ensures.wrong

pub returns-then-is_empty-clause-reads : goal.returns-then-is_empty-clause-reads
returns-then-is_empty-clause-reads c =
    follows_end c.args.bytes.now c.lines.stage c.lines.number c.lines.rest.now (sym c.lines-test.ensures) (eqb-true _ _ (sym c.if-is_empty.ensures)) c.lines.invariant.follows

pub returns-else-is_empty-clause-wrong : goal.returns-else-is_empty-clause-wrong
returns-else-is_empty-clause-wrong c =
    follows_more c.args.bytes.now c.lines.stage c.lines.number c.lines.rest.now (sym c.lines-test.ensures) (eqb-false _ _ (sym c.if-is_empty.ensures)) c.lines.invariant.follows
