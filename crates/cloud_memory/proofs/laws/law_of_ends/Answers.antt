use Rattle.cloud_memory.proofs.Beginning.{ends_begun}
use Rattle.cloud_memory.proofs.EndsLaw.{put_ends, commit_ends, delete_ends}
use Rattle.cloud_memory.proofs.laws.law_of_ends.Goals as goal

pub returns : goal.returns
returns c = record { begun = ends_begun; puts = put_ends; commits = commit_ends; deletes = delete_ends }
