-- The servers of this process and the jobs at a vault.
use Rattle.std.specs.Prelude.{◌≡◌, ℕ, ◌<◌, ◌≤◌, List, map}
use Rattle.session_model.specs.CdEdges.Disk.{Cloud}
use Rattle.session_model.specs.JournalStart.start.Header.{Header}
use Rattle.session_model.specs.UserDedup.Exec.{Peer}
use Rattle.session_model.specs.UploadJob.Lanes.{LaneView}
use Rattle.session_model.specs.LocalLink.fate.Fate.TheVariants.{Deliver}
use Rattle.session_model.specs.LocalLink.link.LocalLink.{LocalLink}
use Rattle.session_model.specs.LocalLink.Tells.{rooms_at, StandsAt}
use Rattle.session_model.specs.ShareServer.Names.{header_of}
use Rattle.session_model.specs.Vault.{Setting, JobState, Vault}

-- the header of a cloud of the session's store
abbrev pub header_in : Setting → ℕ → Header
header_in s cloud = header_of s.shape s.rooms cloud

-- The link has the setting's shape, tells of the clouds that the setting tells of, serves each cloud in the setting's
-- rooms, and loses nothing of the next ask; and each cloud stands for its peer.
pub record LinkAt {V : Type 0} (clouds : V → ℕ → Cloud) (s : Setting) (link : LocalLink V) (peers : ℕ → Peer)
    : Type 0 where
  pub shape : link.servers.shape ≡ s.shape
  pub told : (cloud : ℕ) → (clouds link.shelf.now cloud).told ≡ s.told cloud
  pub rooms : (cloud : ℕ) → cloud < s.shape.n → rooms_at link.servers cloud ≡ s.rooms
  pub fate : link.fate ≡ Deliver
  pub stands : (cloud : ℕ) → cloud < s.shape.n → StandsAt clouds link cloud (peers cloud)

-- So at the vault's clouds, and the jobs are the vault's.
pub record IsAtVault {V : Type 0} (clouds : V → ℕ → Cloud) (s : Setting) (link : LocalLink V)
    (jobs : List (List LaneView))
    (v : Vault) : Type 0 where
  pub link_at : LinkAt clouds s link v.peers
  pub jobs_are : map (λ (j : JobState). j.lanes) v.jobs ≡ jobs

-- The shape stays, and of which clouds the shelf tells; a cloud that the store doesn't have is as it was.
pub record KeepsOtherClouds {V : Type 0} (clouds : V → ℕ → Cloud) (old new : LocalLink V) : Type 0 where
  pub shape : new.servers.shape ≡ old.servers.shape
  pub told : (cloud : ℕ) → (clouds new.shelf.now cloud).told ≡ (clouds old.shelf.now cloud).told
  pub others : (cloud : ℕ) → old.servers.shape.n ≤ cloud → clouds new.shelf.now cloud ≡ clouds old.shelf.now cloud
