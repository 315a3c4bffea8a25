use Rattle.session_jobs.proofs.Numbered.{stored_at}
use Rattle.session_jobs.proofs.jobs.Jobs.is_stored.Goals as goal

pub returns : goal.returns
returns c = stored_at c.args.self.now c.self.inside.items.items c.args.job c.index.result.now c.stored.result c.self.view_is c.index.ensures c.requires c.stored.ensures
