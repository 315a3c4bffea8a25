use Rattle.container_log.proofs.Blobs.{laid_at, later_at, crashed_at}
use Rattle.container_log.proofs.laws.law_of_reading.Goals as goal

pub returns-clause-laid : goal.returns-clause-laid
returns-clause-laid c = laid_at

pub returns-clause-later : goal.returns-clause-later
returns-clause-later c = later_at

pub returns-clause-crashed : goal.returns-clause-crashed
returns-clause-crashed c = crashed_at
