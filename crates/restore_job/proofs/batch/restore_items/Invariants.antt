use Rattle.std.proofs.Common.{◌≡◌, ◌≤◌, ◌-◌, length}
use Rattle.user_dedup.specs.CdBase.Numbers.{numbers_of}
use Rattle.restore_job.specs.Brought.{Extends}
use Rattle.restore_job.specs.Steps.{Grows}
use Rattle.restore_job.proofs.Ending.{Restoring}
use Rattle.restore_job.proofs.Speaking.{ItemsAlong}
use Rattle.restore_job.proofs.Readable.{AllReadable}
use Rattle.restore_job.proofs.batch.restore_items.Given as goal

abbrev pub invariant-loop-place : goal.invariant-loop-place
invariant-loop-place g l = record {
  restoring : Restoring g.L.Link.tells l.shape l.user (numbers_of l.sources.clouds.now) l.firsts l.sources.recipes.now l.fn.link l.link l.place l.fn.out l.out;
  grows : Grows l.fn.out l.out;
  within : l.place ≤ length l.firsts;
  extends : Extends l.shape (numbers_of l.sources.clouds.now) l.firsts l.sources.recipes.now 0 l.place l.fn.out l.out;
  rooms : length l.rooms ≡ 256;
  said : ItemsAlong g.L.Link.tells g.L.Link.talk l.shape l.user l.sources.clouds.now l.sources.points.now l.firsts l.sources.recipes.now l.fn.link l.link l.place l.fn.out l.out;
  readable : AllReadable g.L.Link.tells l.fn.link l.link;
}

abbrev pub decreases-loop-place : goal.decreases-loop-place
decreases-loop-place g l = length l.firsts - l.place
