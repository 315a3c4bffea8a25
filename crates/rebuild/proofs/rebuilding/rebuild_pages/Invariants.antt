use Rattle.std.proofs.Common.{◌+◌, ◌-◌, ◌^◌, length}
use Rattle.lane_steps.specs.CdBase.Numbers.{numbers_of}
use Rattle.rebuild.specs.Several.{progress_of}
use Rattle.rebuild.proofs.Pages.{Paged}
use Rattle.rebuild.proofs.rebuilding.rebuild_pages.Given as goal

abbrev pub invariant-pages : goal.invariant-pages
invariant-pages g l = Paged g.L.Link.tells g.L.Link.talk l.refill.target.0 (numbers_of l.clouds) l.refill.shape l.refill.user l.first.0 l.fn.link l.link l.above (progress_of l.rebuilt)

abbrev pub decreases-pages : goal.decreases-pages
decreases-pages g l = (2 ^ 32 + 2 ^ 64) - (l.rebuilt.files + length l.rebuilt.skipped)
