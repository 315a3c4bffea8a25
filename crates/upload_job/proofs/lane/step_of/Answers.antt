use Rattle.std.proofs.Common.{ℕ, List, sym, ◌∙◌, subst}
use Rattle.upload_job.specs.declared.lane.LaneStage.{LaneStage}
use Rattle.upload_job.specs.declared.lane.LaneStage.TheVariants as stages
use Rattle.upload_job.specs.Index.{StepIsByReply, state_in}
use Rattle.upload_job.proofs.lane.step_of.Goals as goal

pub returns-in-Bringing : goal.returns-in-Bringing
returns-in-Bringing c = λ w all len items batches.
    subst (λ (s : LaneStage). StepIsByReply w all (state_in all s) c.args.reply c.after_bringing.result) (sym c.in-Bringing.is)
    (c.after_bringing.ensures w all (len ∙ sym c.as_slice.ensures.len) items batches)

pub returns-in-Sending : goal.returns-in-Sending
returns-in-Sending c = λ w all len items batches.
    subst (λ (s : LaneStage). StepIsByReply w all (state_in all s) c.args.reply c.after_sending.result) (sym (c.in-Sending.is))
    (subst (λ (fs : List ℕ). StepIsByReply w all (state_in all (stages.Sending c.in-Sending.from fs)) c.args.reply c.after_sending.result) c.as_slice-in-Sending-2.ensures
    (c.after_sending.ensures w all (len ∙ sym c.as_slice-in-Sending.ensures.len)))
