use Rattle.std.proofs.Common.{◌≡◌, inl, refl}
use Rattle.ports_link.specs.Hellos.{hello}
use Rattle.ports_link.proofs.Sending.{sends_none}
use Rattle.backup_command.proofs.EndingTexts.{lost, refused, through, too_long}
use Rattle.backup_command.proofs.Finishing.{sent_of_file}
use Rattle.backup_command.proofs.backing.backup.Goals as goal

pub returns-in-Err-TooLong-clause-backed_up : goal.returns-in-Err-TooLong-clause-backed_up
returns-in-Err-TooLong-clause-backed_up g c =
    too_long _ _ _ _ c.in-Err-TooLong.byte (rw c.in-Err-TooLong.field-0-is at c.in-Err-TooLong.ensures.reads)
    (rw c.in-Err-TooLong.field-0-is at c.write_too_long.ensures) refl refl

pub returns-in-Ok-carry-clause-backed_up : goal.returns-in-Ok-carry-clause-backed_up
returns-in-Ok-carry-clause-backed_up g c =
    through _ _ _ _ c.in-Ok.file c.carry.new.text c.as_slice.result.now c.in-Ok-carry.stored c.status_of.result
    c.in-Ok.ensures.reads c.in-Ok-carry.ensures.carries c.as_slice.ensures c.status_of.ensures c.write_text.ensures

pub returns-in-Err-Refused-clause-backed_up : goal.returns-in-Err-Refused-clause-backed_up
returns-in-Err-Refused-clause-backed_up g c =
    refused _ _ _ _ c.in-Ok.file c.carry.new.text c.in-Err-Refused.why
    (rw c.in-Err-Refused.field-0-is at c.in-Err-Refused.ensures.carries) c.write_hello.ensures

pub returns-in-Err-Lost-clause-backed_up : goal.returns-in-Err-Lost-clause-backed_up
returns-in-Err-Lost-clause-backed_up g c =
    lost _ _ _ _ c.in-Ok.file c.carry.new.text c.as_slice-in-Err-Lost.result.now c.in-Ok.ensures.reads
    (rw c.in-Err-Lost.field-0-is at c.in-Err-Lost.ensures.carries) c.as_slice-in-Err-Lost.ensures
    c.write_text-in-Err-Lost.ensures

pub returns-in-Err-Failed-clause-sends : goal.returns-in-Err-Failed-clause-sends
returns-in-Err-Failed-clause-sends g c = λ told. inl (sends_none (λ content. content ≡ hello) (g.P.Ports.tells c.args.ports.now))

pub returns-in-Err-TooLong-clause-sends : goal.returns-in-Err-TooLong-clause-sends
returns-in-Err-TooLong-clause-sends g c = λ told. inl (sends_none (λ content. content ≡ hello) (g.P.Ports.tells c.args.ports.now))

pub returns-in-Err-NoMemory-clause-sends : goal.returns-in-Err-NoMemory-clause-sends
returns-in-Err-NoMemory-clause-sends g c = λ told. inl (sends_none (λ content. content ≡ hello) (g.P.Ports.tells c.args.ports.now))

pub returns-in-Ok-carry-clause-sends : goal.returns-in-Ok-carry-clause-sends
returns-in-Ok-carry-clause-sends g c = λ told. sent_of_file _ _ c.in-Ok.file c.in-Ok.ensures.reads (c.carry.ensures.sends told)

pub returns-in-Err-Refused-clause-sends : goal.returns-in-Err-Refused-clause-sends
returns-in-Err-Refused-clause-sends g c = λ told. sent_of_file _ _ c.in-Ok.file c.in-Ok.ensures.reads (c.carry.ensures.sends told)

pub returns-in-Err-Lost-clause-sends : goal.returns-in-Err-Lost-clause-sends
returns-in-Err-Lost-clause-sends g c = λ told. sent_of_file _ _ c.in-Ok.file c.in-Ok.ensures.reads (c.carry.ensures.sends told)

pub returns-in-Err-Undialled-clause-sends : goal.returns-in-Err-Undialled-clause-sends
returns-in-Err-Undialled-clause-sends g c = λ told. sent_of_file _ _ c.in-Ok.file c.in-Ok.ensures.reads (c.carry.ensures.sends told)

pub returns-in-Err-Unheard-clause-sends : goal.returns-in-Err-Unheard-clause-sends
returns-in-Err-Unheard-clause-sends g c = λ told. sent_of_file _ _ c.in-Ok.file c.in-Ok.ensures.reads (c.carry.ensures.sends told)

pub returns-clause-sends : goal.returns-clause-sends
returns-clause-sends g c = λ told. sent_of_file _ _ c.in-Ok.file c.in-Ok.ensures.reads (c.carry.ensures.sends told)
