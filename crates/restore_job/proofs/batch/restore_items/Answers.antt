use Rattle.std.proofs.Common.{◌≡◌, ◌≤◌, ◌<◌, ◌+◌, ◌-◌, ◌∙◌, ℕ, [], length, refl, subst, arith}
use Rattle.std.specs.Prelude.{min}
use Rattle.user_dedup.specs.CdBase.Numbers.{numbers_of}
use Rattle.restore_job.specs.Asking.{among}
use Rattle.restore_job.proofs.Leading.{leads_none, asked_on}
use Rattle.restore_job.specs.Brought.{AreSecrets}
use Rattle.restore_job.proofs.Bringing.{extends_none, extends_on}
use Rattle.restore_job.proofs.Taking.{grows_on, grows_none}
use Rattle.restore_job.proofs.Ending.{restoring_none, restoring_more, restoring_stops, restoring_all}
use Rattle.restore_job.proofs.Speaking.{unlost_as, items_none, items_more, items_end, items_stop}
use Rattle.restore_job.proofs.Beside.{lost_on}
use Rattle.restore_job.proofs.Readable.{none_asked, none_asked_to, readable_on, readable_stop}
use Rattle.restore_job.specs.declared.error.RestoreErr.TheVariants as errors
use Rattle.restore_job.proofs.batch.restore_items.Goals as goal

pub returns-in-Err-clause-told : goal.returns-in-Err-clause-told
returns-in-Err-clause-told g c tag version these = leads_none (among these g.L.Link.tells) (numbers_of c.args.sources.now.clouds.now) c.args.link.now _ _ (λ a ready alike. tt) (λ a ready. tt)

pub loop-place-init : goal.loop-place-init
loop-place-init g c = record {
  restoring = restoring_none g.L.Link.tells c.args.shape c.args.user (numbers_of c.args.sources.now.clouds.now) c.args.firsts.now c.args.sources.now.recipes.now c.args.link.now c.args.out.now;
  grows = grows_none c.args.out.now;
  within = omega arith;
  extends = extends_none c.args.shape (numbers_of c.args.sources.now.clouds.now) c.args.firsts.now c.args.sources.now.recipes.now 0 0 c.args.out.now refl;
  rooms = c.in-Ok.ensures;
  said = items_none g.L.Link.tells g.L.Link.talk c.args.shape c.args.user c.args.sources.now.clouds.now c.args.sources.now.points.now c.args.firsts.now c.args.sources.now.recipes.now c.args.link.now c.args.out.now;
  readable = none_asked g.L.Link.tells c.args.link.now;
}

pub returns-in-Err-restore_batch-clause-told : goal.returns-in-Err-restore_batch-clause-told
returns-in-Err-restore_batch-clause-told g c =
    restoring_stops g.L.Link.tells c.args.shape c.args.user (numbers_of c.args.sources.now.clouds.now) c.args.firsts.now c.args.sources.now.recipes.now c.args.link.now c.loop-place.link c.restore_batch.new.link c.loop-place.place c.size_of-count.result
    c.args.out.now c.loop-place.out c.restore_batch.new.out c.in-Err-restore_batch.e c.loop-place.invariant.restoring c.loop-place-test.true c.size_of-count.ensures c.in-Err-restore_batch.ensures.told

pub loop-place-preserved : goal.loop-place-preserved
loop-place-preserved g c = record {
  restoring = restoring_more g.L.Link.tells c.args.shape c.args.user (numbers_of c.args.sources.now.clouds.now) c.args.firsts.now c.args.sources.now.recipes.now c.args.link.now c.loop-place.link c.restore_batch.new.link c.loop-place.place c.size_of-count.result
      c.args.out.now c.loop-place.out c.restore_batch.new.out c.loop-place.invariant.restoring c.loop-place-test.true c.size_of-count.ensures c.in-Ok-restore_batch.ensures.asked c.in-Ok-restore_batch.ensures.told;
  grows = grows_on c.args.out.now c.loop-place.out c.restore_batch.new.out c.loop-place.invariant.grows c.in-Ok-restore_batch.ensures.grows;
  within = (let lt : c.loop-place.place < length c.args.firsts.now = c.loop-place-test.true in let size : c.size_of-count.result ≡ min 256 (length c.args.firsts.now - c.loop-place.place) = c.size_of-count.ensures in omega arith);
  extends = extends_on c.args.shape (numbers_of c.args.sources.now.clouds.now) c.args.firsts.now c.args.sources.now.recipes.now 0 c.loop-place.place (c.loop-place.place + c.size_of-count.result) c.args.out.now c.loop-place.out c.restore_batch.new.out
      c.loop-place.invariant.extends c.in-Ok-restore_batch.ensures.brought;
  rooms = c.in-Ok-restore_batch.ensures.rooms ∙ c.loop-place.invariant.rooms;
  said = items_more g.L.Link.tells g.L.Link.talk c.args.shape c.args.user c.args.sources.now.clouds.now c.args.sources.now.points.now c.args.firsts.now c.args.sources.now.recipes.now c.args.link.now c.loop-place.link c.restore_batch.new.link c.loop-place.place c.size_of-count.result
      c.args.out.now c.loop-place.out c.restore_batch.new.out c.loop-place-test.true c.size_of-count.ensures c.in-Ok-restore_batch.ensures.said c.loop-place.invariant.said;
  readable = readable_on g.L.Link.tells c.args.link.now c.loop-place.link c.restore_batch.new.link
      c.loop-place.invariant.readable c.in-Ok-restore_batch.ensures.readable;
}

pub returns-clause-told : goal.returns-clause-told
returns-clause-told g c =
    restoring_all g.L.Link.tells c.args.shape c.args.user (numbers_of c.args.sources.now.clouds.now) c.args.firsts.now c.args.sources.now.recipes.now c.args.link.now c.loop-place.link c.loop-place.place c.args.out.now c.loop-place.out c.loop-place.invariant.restoring c.loop-place-test.false

pub returns-clause-brought : goal.returns-clause-brought
returns-clause-brought g c =
    let within : c.loop-place.place ≤ length c.args.firsts.now = c.loop-place.invariant.within in
    let past : length c.args.firsts.now ≤ c.loop-place.place = c.loop-place-test.false in
    let all : c.loop-place.place ≡ length c.args.firsts.now = omega arith in
    let e = c.loop-place.invariant.extends in
    (e.0, e.1, subst (λ (n : ℕ). AreSecrets c.args.shape (numbers_of c.args.sources.now.clouds.now) c.args.firsts.now c.args.sources.now.recipes.now n e.0) all (e.2 [] refl))

pub returns-in-Err-restore_batch-clause-asked : goal.returns-in-Err-restore_batch-clause-asked
returns-in-Err-restore_batch-clause-asked g c =
    asked_on g.L.Link.tells (numbers_of c.args.sources.now.clouds.now) c.args.link.now c.loop-place.link c.restore_batch.new.link _ c.loop-place.invariant.restoring.asked c.in-Err-restore_batch.ensures.asked

pub returns-clause-said : goal.returns-clause-said
returns-clause-said g c =
    items_end g.L.Link.tells g.L.Link.talk c.args.shape c.args.user c.args.sources.now.clouds.now c.args.sources.now.points.now c.args.firsts.now c.args.sources.now.recipes.now c.args.link.now c.loop-place.link c.loop-place.place c.args.out.now c.loop-place.out c.loop-place-test.false c.loop-place.invariant.said

pub returns-in-Err-restore_batch-clause-said : goal.returns-in-Err-restore_batch-clause-said
returns-in-Err-restore_batch-clause-said g c =
    unlost_as Unit Unit c.in-Err-restore_batch.e _ _
    (items_stop g.L.Link.tells g.L.Link.talk c.args.shape c.args.user c.args.sources.now.clouds.now c.args.sources.now.points.now c.args.firsts.now c.args.sources.now.recipes.now c.args.link.now c.loop-place.link c.restore_batch.new.link c.loop-place.place c.size_of-count.result
    c.args.out.now c.loop-place.out c.restore_batch.new.out c.in-Err-restore_batch.e c.loop-place-test.true c.size_of-count.ensures c.loop-place.invariant.said)
    c.in-Err-restore_batch.ensures.said

pub returns-in-Err-restore_batch-clause-beside : goal.returns-in-Err-restore_batch-clause-beside
returns-in-Err-restore_batch-clause-beside g c =
    let said = c.loop-place.invariant.said in
    lost_on g.L.Link.talk (Unit {0}) (Unit {0}) c.args.link.now c.loop-place.link c.restore_batch.new.link said.log
    c.in-Err-restore_batch.e said.spoken.0 c.in-Err-restore_batch.ensures.beside

pub returns-in-Err-clause-readable : goal.returns-in-Err-clause-readable
returns-in-Err-clause-readable g c = none_asked_to g.L.Link.tells c.args.link.now errors.NoMemory

pub returns-in-Err-restore_batch-clause-readable : goal.returns-in-Err-restore_batch-clause-readable
returns-in-Err-restore_batch-clause-readable g c =
    readable_stop g.L.Link.tells c.args.link.now c.loop-place.link c.restore_batch.new.link c.in-Err-restore_batch.e
    c.loop-place.invariant.readable c.in-Err-restore_batch.ensures.readable

pub returns-clause-readable : goal.returns-clause-readable
returns-clause-readable g c = c.loop-place.invariant.readable
