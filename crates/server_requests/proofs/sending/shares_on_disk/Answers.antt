use Rattle.std.proofs.Common.{◌≡◌}
use Rattle.server_commands.specs.ContainerLog.States.{State}
use Rattle.server_commands.specs.CloudDisk.Disk.{Disk}
use Rattle.server_commands.specs.ServerReads.CloudMemory.Rooms.{memory_of}
use Rattle.server_requests.proofs.Contents.{shares_by_on}
use Rattle.server_requests.proofs.Readings.{reads_shares, lent_back}
use Rattle.server_requests.proofs.sending.shares_on_disk.Goals as goal

pub returns-clause-untouched : goal.returns-clause-untouched
returns-clause-untouched g c = λ place.
    let put : State → Disk = λ (s : State). record c.args.disk.now { shares = s } in
    lent_back c.shares.result _ _ _ put c.args.disk.now.shares c.shares_mut.result.now c.shares.new.log c.shares_mut.ensures.value (c.shares.ensures.untouched place)

pub returns-clause-disk : goal.returns-clause-disk
returns-clause-disk g c =
    reads_shares c.args.disk.now c.shares_mut.result.now c.shares.new.log _ _ c.shares_mut.ensures.value c.shares.ensures.stays c.shares.ensures.log

pub returns-clause-says : goal.returns-clause-says
returns-clause-says g c =
    shares_by_on c.shares.result (memory_of c.args.memory.now) c.args.user c.args.fps.now _ c.shares.new.reply (c.shares.new.shelf ≡ c.args.shelf.now) (c.shares.new.log ≡ c.shares_mut.result.now)
    (λ place is. (c.shares.ensures.foreign place is).3) c.shares.ensures.untouched c.shares.ensures.kind
