use Rattle.std.proofs.Common.{length}
use Rattle.rebuild.proofs.target.+last_news.Given as goal

abbrev pub decreases-last_news : goal.decreases-last_news
decreases-last_news l = length l.told.now
