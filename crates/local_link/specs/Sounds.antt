-- A told cloud stands for sound lists alone.
use Rattle.std.specs.Prelude.{ℕ}
use Rattle.share_server.specs.CdEdges.Disk.{Cloud}
use Rattle.share_server.specs.UserDedup.Link.{TellsSound}
use Rattle.local_link.specs.declared.link.LocalLink.{LocalLink}
use Rattle.local_link.specs.Tells.{telling}

pub tells_sound : {V : Type 0} (clouds : V → ℕ → Cloud) (link : LocalLink V) → TellsSound (telling clouds) link
tells_sound clouds link cloud p told is = is.sound told
