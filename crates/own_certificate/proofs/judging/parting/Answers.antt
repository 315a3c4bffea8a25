use Rattle.std.proofs.Common.{◌≡◌, ◌≢◌, ◌++◌, true, false, arith, refl, sym, ap, ◌∙◌, subst}
use Rattle.audit_base.specs.Certificate.Lines.{certificate_line}
use Rattle.own_certificate.proofs.Indexing.{length-own}
use Rattle.own_certificate.proofs.Parting.{line_got, reach_further, reach_parted, reach_over, reach_done}
use Rattle.own_certificate.proofs.judging.parting.Goals as goal

pub loop-index-preserved : goal.loop-index-preserved
loop-index-preserved c =
    let got = line_got c.as_slice.result.now _ _ (certificate_line c.line.result) c.as_slice.ensures c.in_ok-write_line.ensures.ok c.clear.ensures in
    reach_further _ c.args.text.now c.loop-index.rest.now c.in-Some.more.now c.loop-index.index c.line.result c.loop-index.invariant
    (c.line.ensures.line c.requires.lines (omega (arith, c.loop-index-test.true))) (c.line.ensures.fits c.requires.lines c.requires.cloud)
    (c.in-Some.ensures ∙ ap (λ l. l ++ c.in-Some.more.now) got)

pub returns-in-None-clause-parts : goal.returns-in-None-clause-parts
returns-in-None-clause-parts c =
    let got = line_got c.as_slice.result.now _ _ (certificate_line c.line.result) c.as_slice.ensures c.in_ok-write_line.ensures.ok c.clear.ensures in
    let all = length-own c.args.heading c.args.memory.now c.args.lines.now.shares.items c.args.lines.now.files.items c.args.lines.now.count c.requires.lines in
    reach_parted _ c.args.text.now c.loop-index.rest.now c.loop-index.index c.line.result c.loop-index.invariant (omega (arith, all, c.loop-index-test.true))
    (c.line.ensures.line c.requires.lines (omega (arith, c.loop-index-test.true)))
    (λ more. subst (λ l. c.loop-index.rest.now ≢ l ++ more) got (c.in-None.ensures more))

pub returns-then-is_over-clause-parts : goal.returns-then-is_over-clause-parts
returns-then-is_over-clause-parts c =
    let all = length-own c.args.heading c.args.memory.now c.args.lines.now.shares.items c.args.lines.now.files.items c.args.lines.now.count c.requires.lines in
    reach_done _ c.args.text.now c.loop-index.rest.now c.loop-index.index c.loop-index.invariant (omega (arith, all, c.loop-index-test.false, c.loop-index.auto.index-end))
    (c.is_over.ensures.0 c.if-is_over.true)

pub returns-clause-parts : goal.returns-clause-parts
returns-clause-parts c =
    let all = length-own c.args.heading c.args.memory.now c.args.lines.now.shares.items c.args.lines.now.files.items c.args.lines.now.count c.requires.lines in
    reach_over _ c.args.text.now c.loop-index.rest.now c.loop-index.index _ c.loop-index.invariant (omega (arith, c.loop-index-test.false, c.loop-index.auto.index-end)) (sym all)
    (λ none. absurd (let no : true ≡ false = sym (c.is_over.ensures.1 none) ∙ c.if-is_over.false in cc))
