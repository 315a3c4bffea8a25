use Rattle.std.proofs.Common.{◌≡◌, drop}
use Rattle.server_reads.specs.UserDedup.Owning.{is_among}
use Rattle.server_commands.specs.Picked.{fps_of}
use Rattle.server_commands.proofs.news.has_fp.Given as goal

abbrev pub invariant-loop-new : goal.invariant-loop-new
invariant-loop-new l = is_among (fps_of l.news) l.fp ≡ is_among (fps_of (drop l.new-index l.news)) l.fp
