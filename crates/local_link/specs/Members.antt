-- The servers of all clouds of a store.
use Rattle.std.specs.Prelude.{◌≡◌, ℕ, List, length, Some, slice_get}
use Rattle.share_server.specs.CdBase.shape.Shape.{Shape}
use Rattle.share_server.specs.Names.{header_of}
use Rattle.share_server.specs.declared.server.Server.{Server}

-- A server of the cloud of this number in a store of this shape, in some rooms.
pub record IsServerOf (shape : Shape) (number : ℕ) (server : Server) : Type 0 where
  pub header_is : server.store.header ≡ header_of shape server.store.header.rooms number

-- One server for each cloud, at the place of its number.
pub record AreServers (shape : Shape) (servers : List Server) : Type 0 where
  pub count : length servers ≡ shape.n
  pub each : (number : ℕ) (server : Server) → slice_get servers number ≡ Some server → IsServerOf shape number server
