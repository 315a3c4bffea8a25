use Rattle.delete_command.proofs.Ending.{lost, refused, through}
use Rattle.delete_command.proofs.deleting.delete.Goals as goal

pub returns-in-Ok-clause-deleted : goal.returns-in-Ok-clause-deleted
returns-in-Ok-clause-deleted g c =
    through _ _ _ c.carry.new.text c.as_slice.result.now c.in-Ok.gone c.status_of.result c.in-Ok.ensures.carries
    c.as_slice.ensures c.status_of.ensures c.write_text.ensures

pub returns-in-Err-Refused-clause-deleted : goal.returns-in-Err-Refused-clause-deleted
returns-in-Err-Refused-clause-deleted g c =
    refused _ _ _ c.carry.new.text c.in-Err-Refused.why
    (rw c.in-Err-Refused.field-0-is at c.in-Err-Refused.ensures.carries) c.write_hello.ensures

pub returns-in-Err-Lost-clause-deleted : goal.returns-in-Err-Lost-clause-deleted
returns-in-Err-Lost-clause-deleted g c =
    lost _ _ _ c.carry.new.text c.as_slice-in-Err-Lost.result.now
    (rw c.in-Err-Lost.field-0-is at c.in-Err-Lost.ensures.carries) c.as_slice-in-Err-Lost.ensures
    c.write_text-in-Err-Lost.ensures
