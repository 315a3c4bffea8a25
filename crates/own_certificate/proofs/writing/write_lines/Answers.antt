use Rattle.std.proofs.Common.{arith}
use Rattle.own_certificate.proofs.Indexing.{length-own}
use Rattle.own_certificate.proofs.Parting.{write_further, write_done, write_failed, on_err_given}
use Rattle.own_certificate.proofs.writing.write_lines.Goals as goal

pub loop-index-preserved : goal.loop-index-preserved
loop-index-preserved c =
    write_further _ _ c.loop-index.out c.write_line.new.out c.loop-index.index c.line.result c.loop-index.invariant (c.line.ensures.line c.requires (omega (arith, c.loop-index-test.true)))
    c.in_ok-write_line.ensures.ok

pub returns-clause-ok : goal.returns-clause-ok
returns-clause-ok c =
    let all = length-own c.args.heading c.args.memory.now c.args.lines.now.shares.items c.args.lines.now.files.items c.args.lines.now.count c.requires in
    write_done _ _ c.loop-index.out c.loop-index.index c.loop-index.invariant (omega (arith, all, c.loop-index-test.false))

pub returns-in_err-write_line-clause-err : goal.returns-in_err-write_line-clause-err
returns-in_err-write_line-clause-err c =
    on_err_given c.from_residual.result _ (write_failed _ _ c.loop-index.out c.write_line.new.out c.loop-index.index c.loop-index.invariant c.in_err-write_line.ensures.err)
