use Rattle.std.proofs.Common.{ℕ, List, ◌+◌, Ok, Err, sym, subst, ◌∙◌, arith}
use Rattle.std.specs.List.{Contains}
use Rattle.std.proofs.lemmas.List.{length-map}
use Rattle.user_dedup.specs.CdBase.Numbers.{numbers_of}
use Rattle.user_dedup.specs.CdBase.ids.CloudNo.{CloudNo}
use Rattle.restore_job.specs.Asking.{among, is_loss}
use Rattle.restore_job.specs.Brought.{Extends, HasShares}
use Rattle.restore_job.specs.Steps.{room_of}
use Rattle.restore_job.proofs.Causing.{names_to}
use Rattle.restore_job.proofs.Leading.{asked_as}
use Rattle.restore_job.proofs.Ending.{refused_batch, opened_batch}
use Rattle.std.proofs.Common.{Result}
use Rattle.restore_job.specs.declared.error.RestoreErr.{RestoreErr}
use Rattle.restore_job.specs.Exchanges.{BatchOpened, BatchUnread}
use Rattle.restore_job.proofs.Speaking.{unlost, unlost_as}
use Rattle.restore_job.proofs.Beside.{lost_spoken}
use Rattle.restore_job.proofs.Readable.{readable_end}
use Rattle.restore_job.proofs.batch.restore_batch.Goals as goal

abbrev bad : RestoreErr → Result (Unit {0}) RestoreErr
bad e = Err e

pub returns-in-Ok-open_batch-clause-told : goal.returns-in-Ok-open_batch-clause-told
returns-in-Ok-open_batch-clause-told g c tag version these =
    opened_batch (among these g.L.Link.tells) c.args.batch.now.shape c.args.batch.now.user (tag, version) (numbers_of c.args.sources.now.clouds.now) c.args.sources.now.points.now c.args.batch.now.firsts.now c.args.sources.now.recipes.now c.args.batch.now.place c.args.batch.now.count c.args.link.now c.fetch_batch.new.link c.clear.new.self c.fetch_batch.new.rooms c.args.out.now c.open_batch.new.out (Ok tt)
    c.requires.points (length-map c.args.sources.now.clouds.now (λ (cloud : CloudNo). cloud.0) ∙ c.requires.pairs) (λ j lt. c.clear.ensures.empty j (let room = c.requires.room in omega arith)) (c.in-Ok.ensures.told tag version these) c.in-Ok-open_batch.ensures.opens tt

pub returns-in-Err-open_batch-clause-asked : goal.returns-in-Err-open_batch-clause-asked
returns-in-Err-open_batch-clause-asked g c = asked_as g.L.Link.tells (numbers_of c.args.sources.now.clouds.now) c.args.link.now c.fetch_batch.new.link _ (is_loss c.in-Err-open_batch.e) (sym c.in-Err-open_batch.ensures.found) c.in-Ok.ensures.asked

pub returns-in-Err-open_batch-clause-told : goal.returns-in-Err-open_batch-clause-told
returns-in-Err-open_batch-clause-told g c tag version these =
    opened_batch (among these g.L.Link.tells) c.args.batch.now.shape c.args.batch.now.user (tag, version) (numbers_of c.args.sources.now.clouds.now) c.args.sources.now.points.now c.args.batch.now.firsts.now c.args.sources.now.recipes.now c.args.batch.now.place c.args.batch.now.count c.args.link.now c.fetch_batch.new.link c.clear.new.self c.fetch_batch.new.rooms c.args.out.now c.open_batch.new.out (Err c.in-Err-open_batch.e)
    c.requires.points (length-map c.args.sources.now.clouds.now (λ (cloud : CloudNo). cloud.0) ∙ c.requires.pairs) (λ j lt. c.clear.ensures.empty j (let room = c.requires.room in omega arith)) (c.in-Ok.ensures.told tag version these) c.in-Err-open_batch.ensures.opens c.in-Err-open_batch.ensures.alone

pub returns-in-Err-clause-told : goal.returns-in-Err-clause-told
returns-in-Err-clause-told g c tag version these =
    refused_batch (among these g.L.Link.tells) c.args.batch.now.shape c.args.batch.now.user (tag, version) (numbers_of c.args.sources.now.clouds.now) c.args.batch.now.firsts.now c.args.sources.now.recipes.now c.args.batch.now.place c.args.batch.now.count c.args.link.now c.fetch_batch.new.link c.clear.new.self c.fetch_batch.new.rooms c.args.out.now c.in-Err.e (c.in-Err.ensures.told tag version these)

pub returns-in-Err-open_batch-clause-named : goal.returns-in-Err-open_batch-clause-named
returns-in-Err-open_batch-clause-named g c = names_to (λ x. ⊥) (Contains (numbers_of c.args.sources.now.clouds.now)) c.in-Err-open_batch.e (λ x none. absurd none) c.in-Err-open_batch.ensures.alone

pub returns-in-Ok-open_batch-clause-brought : goal.returns-in-Ok-open_batch-clause-brought
returns-in-Ok-open_batch-clause-brought g c =
    subst (λ (l : List ℕ). Extends c.args.batch.now.shape l c.args.batch.now.firsts.now c.args.sources.now.recipes.now c.args.batch.now.place (c.args.batch.now.place + c.args.batch.now.count) c.args.out.now c.open_batch.new.out) c.requires.points
    (c.in-Ok-open_batch.ensures.brought c.args.sources.now.recipes.now
    (λ j lt. subst (λ (l : List ℕ). HasShares c.args.sources.now.recipes.now (c.args.batch.now.place + j) l (room_of c.fetch_batch.new.rooms j)) (c.clear.ensures.empty j (let room = c.requires.room in omega arith)) (c.in-Ok.ensures.came j lt)))

pub returns-in-Ok-open_batch-clause-said : goal.returns-in-Ok-open_batch-clause-said
returns-in-Ok-open_batch-clause-said g c =
    let said = c.in-Ok.ensures.said in (
      said.0,
      said.1,
      BatchOpened c.clear.new.self c.fetch_batch.new.rooms said.0 c.args.out.now c.open_batch.new.out (Ok tt) (λ j lt. c.clear.ensures.empty j (let room = c.requires.room in omega arith)) said.2 c.in-Ok-open_batch.ensures.opened,
    )

pub returns-in-Err-open_batch-clause-said : goal.returns-in-Err-open_batch-clause-said
returns-in-Err-open_batch-clause-said g c =
    let said = c.in-Ok.ensures.said in
    unlost (bad c.in-Err-open_batch.e) _ (
      said.0,
      said.1,
      BatchOpened c.clear.new.self c.fetch_batch.new.rooms said.0 c.args.out.now c.open_batch.new.out (Err c.in-Err-open_batch.e) (λ j lt. c.clear.ensures.empty j (let room = c.requires.room in omega arith)) said.2 c.in-Err-open_batch.ensures.opened,
    )

pub returns-in-Err-clause-said : goal.returns-in-Err-clause-said
returns-in-Err-clause-said g c =
    unlost_as Unit Unit c.in-Err.e _ _
    (λ said. (said.0, said.1, BatchUnread c.clear.new.self c.fetch_batch.new.rooms said.0 c.args.out.now c.in-Err.e (λ j lt. c.clear.ensures.empty j (let room = c.requires.room in omega arith)) said.2))
    c.in-Err.ensures.said

pub returns-in-Err-open_batch-clause-beside : goal.returns-in-Err-open_batch-clause-beside
returns-in-Err-open_batch-clause-beside g c =
    let said = c.in-Ok.ensures.said in
    lost_spoken g.L.Link.talk c.args.link.now c.fetch_batch.new.link said.0 (bad c.in-Err-open_batch.e) said.1.0

pub returns-in-Err-open_batch-clause-readable : goal.returns-in-Err-open_batch-clause-readable
returns-in-Err-open_batch-clause-readable g c =
    readable_end g.L.Link.tells c.args.link.now c.fetch_batch.new.link c.in-Err-open_batch.e c.in-Ok.ensures.readable
