use Rattle.replay_core.specs.ScriptLines.At.{KeepsOtherClouds}
use Rattle.generated_session.proofs.Along.{is_job, job_finished, job_cut}
use Rattle.generated_session.proofs.carrying.finish_job.Goals as goal

pub returns-in-Ok-clause-makes : goal.returns-in-Ok-clause-makes
returns-in-Ok-clause-makes g c = λ begun s files script count job.
    let clouds = g.V.Shelf.cloud_at in
    let old = c.args.link.now in
    let n = c.args.numbers.now in
    let views = c.args.job.now in
    let came = c.in-Ok.ensures.does s job.made.come.at job.made.jobs count job.made.come.is_at (is_job clouds begun s files script count n views old job) job.views_are in
    job_finished clouds begun s files script count n views old job c.law_of_moments.ensures.later c.law_of_moments.ensures.here c.finish_lanes.new.link c.finish_lanes.new.numbers c.finish_lanes.ensures.leaves
    (came.0, came.1, came.3)

pub returns-in-Err-clause-stops : goal.returns-in-Err-clause-stops
returns-in-Err-clause-stops g c = λ begun s files script count job.
    let clouds = g.V.Shelf.cloud_at in
    let old = c.args.link.now in
    let n = c.args.numbers.now in
    let views = c.args.job.now in
    let part = c.in-Err.ensures.cut s job.made.come.at job.made.jobs count job.made.come.is_at (is_job clouds begun s files script count n views old job) job.views_are in
    job_cut clouds begun s files script count n views old job c.finish_lanes.new.link c.finish_lanes.ensures.leaves part (c.law_of_parts.ensures.finish s count job.made.come.at part.moments part.last part.cut)
