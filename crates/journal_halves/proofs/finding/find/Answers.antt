use Rattle.std.proofs.Common.{◌≡◌, Ok, Err, sym, ◌∙◌, subst}
use Rattle.cd_edges.specs.declared.area.Area.TheVariants.{Journal}
use Rattle.cd_edges.specs.Disk.{Areas}
use Rattle.cd_edges.proofs.Moments.{told_on}
use Rattle.journal_halves.specs.Findings.{LookIs, FindIs}
use Rattle.journal_halves.proofs.Looks.{first_damaged, second_damaged}
use Rattle.journal_halves.proofs.finding.find.Goals as goal

pub returns-in-Err-clause-found : goal.returns-in-Err-clause-found
returns-in-Err-clause-found g c told =
    let journal = ((g.V.Shelf.cloud_at c.args.shelf.now c.args.cloud.0).now Journal).read in
    first_damaged journal c.in-Err.error (c.in-Err.ensures.found told)

pub returns-in-Err-look-clause-found : goal.returns-in-Err-look-clause-found
returns-in-Err-look-clause-found g c told =
    let number = c.args.cloud.0 in
    let c0 = g.V.Shelf.cloud_at c.args.shelf.now number in let c1 = g.V.Shelf.cloud_at c.look.new.shelf number in
    let told1 = told_on c0 c1 c.look.ensures.call.told told in
    second_damaged (c0.now Journal).read c.in-Ok.first c.in-Err-look.error (c.in-Ok.ensures.found told)
    (subst (λ (a : Areas). LookIs (a Journal).read 1 (Err c.in-Err-look.error)) c.look.ensures.stays.now (c.in-Err-look.ensures.found told1))

pub returns-in-Ok-look-clause-found : goal.returns-in-Ok-look-clause-found
returns-in-Ok-look-clause-found g c told =
    let number = c.args.cloud.0 in
    let c0 = g.V.Shelf.cloud_at c.args.shelf.now number in let c1 = g.V.Shelf.cloud_at c.look.new.shelf number in let c2 = g.V.Shelf.cloud_at c.look-in-Ok.new.shelf number in
    let told1 = told_on c0 c1 c.look.ensures.call.told told in let told2 = told_on c1 c2 c.look-in-Ok.ensures.call.told told1 in
    let later : c2.now ≡ c1.now = c.look-in-Ok.ensures.stays.now in let same : c2.now ≡ c0.now = later ∙ c.look.ensures.stays.now in
    let first = subst (λ (a : Areas). LookIs (a Journal).read 0 (Ok c.in-Ok.first)) (sym same) (c.in-Ok.ensures.found told) in
    let second = subst (λ (a : Areas). LookIs (a Journal).read 1 (Ok c.in-Ok-look.second)) (sym later) (c.in-Ok-look.ensures.found told1) in
    subst (λ (a : Areas). FindIs (a Journal).read c.answer.result) same (c.answer.ensures.found told2 c.in-Ok.first c.in-Ok-look.second first second c.choose.ensures)

pub returns-in-Ok-look-clause-start : goal.returns-in-Ok-look-clause-start
returns-in-Ok-look-clause-start g c = c.answer.ensures.start c.in-Ok.first c.in-Ok-look.second c.choose.ensures c.in-Ok.ensures.start c.in-Ok-look.ensures.start
