use Rattle.std.proofs.Common.{sym, subst}
use Rattle.own_certificate.specs.Inner.{AreLinesOf}
use Rattle.own_certificate.proofs.lines.OwnLines.line.Goals as goal

pub returns-clause-line : goal.returns-clause-line
returns-clause-line c = λ of low.
    c.line_at.ensures.line (subst (λ s. AreLinesOf s c.as_slice-files.result.now c.args.self.now.count c.args.memory.now) (sym c.as_slice-shares.ensures.value)
    (subst (λ f. AreLinesOf c.args.self.now.shares.items f c.args.self.now.count c.args.memory.now) (sym c.as_slice-files.ensures.value) of)) low

pub returns-clause-fits : goal.returns-clause-fits
returns-clause-fits c = λ of cloud.
    c.line_at.ensures.fits (subst (λ s. AreLinesOf s c.as_slice-files.result.now c.args.self.now.count c.args.memory.now) (sym c.as_slice-shares.ensures.value)
    (subst (λ f. AreLinesOf c.args.self.now.shares.items f c.args.self.now.count c.args.memory.now) (sym c.as_slice-files.ensures.value) of)) cloud
