use Rattle.upload_spool.proofs.Readings.{job_read, lane_read}
use Rattle.upload_spool.proofs.laws.law_of_records.Goals as goal

pub returns : goal.returns
returns c = record { job = job_read; lane = lane_read }
