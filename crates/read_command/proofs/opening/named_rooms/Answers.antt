use Rattle.std.proofs.Common.{Result, Err, sym, subst}
use Rattle.commit_journal.specs.CdEdges.area.Area.TheVariants.{Journal}
use Rattle.commit_journal.specs.JournalHalves.found.Found.{Found}
use Rattle.commit_journal.specs.JournalHalves.found.FindErr.{FindErr}
use Rattle.commit_journal.specs.JournalHalves.Findings.{FindIs}
use Rattle.read_command.specs.Disks.{NamesRooms, Current, Unbegun, Broken}
use Rattle.read_command.proofs.opening.named_rooms.Goals as goal

pub returns-in-Ok-clause-named : goal.returns-in-Ok-clause-named
returns-in-Ok-clause-named g c = λ told. Current c.in-Ok.found.half c.in-Ok.found.start (c.in-Ok.ensures.found told)

pub returns-in-Err-NotBegun-clause-named : goal.returns-in-Err-NotBegun-clause-named
returns-in-Err-NotBegun-clause-named g c = λ told.
    let journal = ((g.V.Shelf.cloud_at c.args.link.now.shelf.now c.args.cloud.0).now Journal).read in
    let none = subst (λ (e : FindErr). let answer : Result Found FindErr = Err e in FindIs journal answer) c.in-Err-NotBegun.field-0-is (c.in-Err-NotBegun.ensures.found told) in
    subst (NamesRooms ((g.V.Shelf.cloud_at c.args.link.now.shelf.now c.args.cloud.0).now Journal).read) (sym c.usual.ensures.rooms)
    (Unbegun (record { first = none.0; second = none.1 }))

pub returns-in-Err-Damaged-clause-named : goal.returns-in-Err-Damaged-clause-named
returns-in-Err-Damaged-clause-named g c = λ told.
    subst (NamesRooms ((g.V.Shelf.cloud_at c.args.link.now.shelf.now c.args.cloud.0).now Journal).read) (sym c.usual-in-Err-Damaged.ensures.rooms)
    (Broken c.in-Err-Damaged.field-0-0 c.in-Err-Damaged.field-0-1
    (subst (λ (e : FindErr). let answer : Result Found FindErr = Err e in FindIs ((g.V.Shelf.cloud_at c.args.link.now.shelf.now c.args.cloud.0).now Journal).read answer) c.in-Err-Damaged.field-0-is (c.in-Err-Damaged.ensures.found told)))
