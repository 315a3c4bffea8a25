use Rattle.cloud_memory.proofs.Beginning.{none_placed}
use Rattle.cloud_memory.proofs.PlacingLaw.{put_placed, commit_placed, delete_placed}
use Rattle.cloud_memory.proofs.laws.law_of_placing.Goals as goal

pub returns : goal.returns
returns c = record { begun = none_placed; puts = put_placed; commits = commit_placed; deletes = delete_placed }
