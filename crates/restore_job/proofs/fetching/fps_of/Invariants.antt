use Rattle.std.proofs.Common.{◌≡◌, take}
use Rattle.user_dedup.specs.Owning.{fps_in}
use Rattle.restore_job.proofs.fetching.fps_of.Given as goal

abbrev pub invariant-loop-item : goal.invariant-loop-item
invariant-loop-item l = l.fps ≡ fps_in (take l.item-index l.items)
