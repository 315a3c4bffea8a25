-- What session_jobs says, for callers.
pub use Rattle.session_jobs.specs.Jobs.{job_lanes, with_job, AreReached}
