use Rattle.std.proofs.Common.{◌≡◌, inl, refl}
use Rattle.backup_command.specs.PortsLink.Hellos.{hello}
use Rattle.backup_command.proofs.PortsLinkLaws.Sending.{sends_none}
use Rattle.backup_command.proofs.Finishing.{sent_of_file}
use Rattle.spool_command.specs.Spooled.{Carried, ReadTooMuch}
use Rattle.spool_command.proofs.Carried.{untouched_spared}
use Rattle.spool_command.proofs.spooling.spool.Goals as goal

pub returns-in-Err-TooLong-clause-spooled : goal.returns-in-Err-TooLong-clause-spooled
returns-in-Err-TooLong-clause-spooled g c =
    ReadTooMuch c.in-Err-TooLong.byte (rw c.in-Err-TooLong.field-0-is at c.in-Err-TooLong.ensures.reads)
    (rw c.in-Err-TooLong.field-0-is at c.write_too_long.ensures) (record { tells = refl; faults = refl; folder_is = refl })

pub returns-in-Err-TooLong-clause-spared : goal.returns-in-Err-TooLong-clause-spared
returns-in-Err-TooLong-clause-spared g c = untouched_spared (g.V.Shelf.cloud_at c.args.shelf.now 0)

pub returns-in-Err-Failed-clause-spared : goal.returns-in-Err-Failed-clause-spared
returns-in-Err-Failed-clause-spared g c = untouched_spared (g.V.Shelf.cloud_at c.args.shelf.now 0)

pub returns-in-Err-NoMemory-clause-spared : goal.returns-in-Err-NoMemory-clause-spared
returns-in-Err-NoMemory-clause-spared g c = untouched_spared (g.V.Shelf.cloud_at c.args.shelf.now 0)

pub returns-clause-spooled : goal.returns-clause-spooled
returns-clause-spooled g c =
    Carried c.in-Ok.bytes c.carry-came.result c.carry-came.new.text c.in-Ok.ensures.reads c.carry-came.ensures.carries
    c.write_end.ensures

pub returns-in-Err-Failed-clause-sends : goal.returns-in-Err-Failed-clause-sends
returns-in-Err-Failed-clause-sends g c = λ told. inl (sends_none (λ content. content ≡ hello) (g.P.Ports.tells c.args.ports.now))

pub returns-in-Err-TooLong-clause-sends : goal.returns-in-Err-TooLong-clause-sends
returns-in-Err-TooLong-clause-sends g c = λ told. inl (sends_none (λ content. content ≡ hello) (g.P.Ports.tells c.args.ports.now))

pub returns-in-Err-NoMemory-clause-sends : goal.returns-in-Err-NoMemory-clause-sends
returns-in-Err-NoMemory-clause-sends g c = λ told. inl (sends_none (λ content. content ≡ hello) (g.P.Ports.tells c.args.ports.now))

pub returns-clause-sends : goal.returns-clause-sends
returns-clause-sends g c = λ told. sent_of_file _ _ c.in-Ok.bytes c.in-Ok.ensures.reads (c.carry-came.ensures.sends told)
