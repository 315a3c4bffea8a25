use Rattle.upload_spool.proofs.Jobs.{job_begun, job_resumed, job_answered}
use Rattle.upload_spool.proofs.laws.law_of_jobs.Goals as goal

pub returns : goal.returns
returns c = record { begun = job_begun; resumed = job_resumed; answered = job_answered }
