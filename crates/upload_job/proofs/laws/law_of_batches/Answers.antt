use Rattle.std.proofs.Common.{[]}
use Rattle.user_dedup.proofs.New.{are_new}
use Rattle.upload_job.specs.Upload.{shares_for, wanted_for}
use Rattle.upload_job.proofs.Batches.{batches_joined, batch_sized}
use Rattle.upload_job.proofs.laws.law_of_batches.Goals as goal

pub returns : goal.returns
returns c = record {
  joined = λ shape v cloud. batches_joined (wanted_for shape cloud v.file);
  first = λ shape v cloud. are_new [] (shares_for shape cloud v.file);
  sizes = λ shape v cloud i batch e. batch_sized (wanted_for shape cloud v.file) i batch e;
}
