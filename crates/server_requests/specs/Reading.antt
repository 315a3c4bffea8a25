-- What reading through the logs leaves of a disk. No public clause cites this module.
use Rattle.std.specs.Prelude.{◌≡◌}
use Rattle.server_commands.specs.CdEdges.Disk.{Cloud}
use Rattle.server_commands.specs.CloudDisk.Disk.{Disk}
use Rattle.server_commands.specs.ServerReads.Found.{ReadsLog}

-- The journal stays. Of the two logs only the containers have changed that they keep, which agree with the told cloud's areas as they did.
pub record ReadsDisk (old new : Disk) (before after : Cloud) : Type 0 where
  pub journal : new.journal ≡ old.journal
  pub shares : ReadsLog old.shares new.shares before after
  pub recipes : ReadsLog old.recipes new.recipes before after
