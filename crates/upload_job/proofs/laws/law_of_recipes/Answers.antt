use Rattle.upload_job.proofs.Naming.{fps_named}
use Rattle.upload_job.proofs.laws.law_of_recipes.Goals as goal

pub returns : goal.returns
returns c = λ shape v cloud name few. fps_named shape cloud v.path v.file name few
