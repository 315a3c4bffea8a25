use Rattle.std.proofs.Common.{length}
use Rattle.user_dedup.specs.CdBase.Numbers.{numbers_of}
use Rattle.restore_job.proofs.Asks.{Fetched}
use Rattle.restore_job.proofs.Speaking.{SaidAlong}
use Rattle.restore_job.proofs.Readable.{AllReadable}
use Rattle.restore_job.proofs.fetching.fetch_recipes.Given as goal

abbrev pub invariant-clouds : goal.invariant-clouds
invariant-clouds g l = record {
  fetched : Fetched g.L.Link.tells l.shape l.fn.link l.link l.request (numbers_of l.clouds) (numbers_of l.rest) l.recipes;
  said : SaidAlong g.L.Link.tells g.L.Link.talk l.shape l.request l.clouds l.rest l.fn.link l.link l.recipes;
  readable : AllReadable g.L.Link.tells l.fn.link l.link;
}

abbrev pub decreases-clouds : goal.decreases-clouds
decreases-clouds g l = length l.rest
