use Rattle.cloud_memory.proofs.Recording.{put_record, parts_laid, commit_record}
use Rattle.cloud_memory.proofs.laws.law_of_records.Goals as goal

pub returns : goal.returns
returns c = record { puts = put_record; laid = λ user news m. parts_laid user m news; commits = commit_record }
