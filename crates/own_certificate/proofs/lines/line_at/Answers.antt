use Rattle.std.proofs.Common.{arith, refl}
use Rattle.own_certificate.proofs.Indexing.{at_heading, at_share, at_file, at_end}
use Rattle.own_certificate.proofs.lines.line_at.Goals as goal

pub returns-then-index-eq0-clause-line : goal.returns-then-index-eq0-clause-line
returns-then-index-eq0-clause-line c = λ of low. at_heading c.args.heading c.args.memory.now c.args.shares.now c.args.files.now c.args.count of c.args.index (omega (arith, c.if-index-eq0.true))

pub returns-then-share-shares-clause-line : goal.returns-then-share-shares-clause-line
returns-then-share-shares-clause-line c = λ of low.
    at_share c.args.heading c.args.memory.now c.args.shares.now c.args.files.now c.args.count of c.args.index _ (omega (arith, c.if-index-eq0.false)) (omega (arith, c.if-share-shares.true)) refl
    c.share_line.result c.share_line.ensures.line

pub returns-then-file-files-clause-line : goal.returns-then-file-files-clause-line
returns-then-file-files-clause-line c = λ of low.
    at_file c.args.heading c.args.memory.now c.args.shares.now c.args.files.now c.args.count of c.args.index _ (omega (arith, c.if-index-eq0.false)) (omega (arith, c.if-share-shares.false))
    (omega (arith, c.if-file-files.true)) refl c.file_line.result c.file_line.ensures.line

pub returns-clause-line : goal.returns-clause-line
returns-clause-line c = λ of low.
    at_end c.args.heading c.args.memory.now c.args.shares.now c.args.files.now c.args.count of c.args.index (omega (arith, c.if-index-eq0.false)) (omega (arith, c.if-share-shares.false))
    (omega (arith, c.if-file-files.false)) low

pub returns-clause-fits : goal.returns-clause-fits
returns-clause-fits c = λ of cloud. of.few
