-- A restore over ports: what it is asked for, and the ports around it.
use Rattle.std.specs.Prelude.{ℕ, List, map, Ok}
use Rattle.ports_link.specs.CdBase.ids.CloudNo.{CloudNo}
use Rattle.ports_link.specs.CdBase.ids.Tag.{Tag}
use Rattle.ports_link.specs.CdBase.ids.UserId.{UserId}
use Rattle.ports_link.specs.CdBase.ids.Version.{Version}
use Rattle.ports_link.specs.CdBase.shape.Shape.{Shape}
use Rattle.subset_restore.specs.CaontRs.Package.{tag as tag_at}
use Rattle.ports_link.specs.CdEdges.Ports.{Telling}
use Rattle.ports_link.specs.declared.greeting.Greeted.{Greeted}
use Rattle.ports_link.specs.declared.judging.AskedClouds.TheVariants as asked
use Rattle.ports_link.specs.Dialled.{AreDialled}
pub use Rattle.ports_link.specs.Hellos.{ports_of}
use Rattle.ports_link.specs.Meeting.{MeetsAll}
use Rattle.ports_link.specs.Sending.{SendsOnly}
use Rattle.ports_link.specs.UserDedup.Link.{IsReading}

-- What is asked for, of how many addresses, what the ports tell before and after it, and how often they have failed.
pub record RestoreCall : Type 0 where
  pub user : UserId
  pub path : List ℕ
  pub version : Version
  pub addresses : ℕ
  pub before : Telling
  pub after : Telling
  pub faults_before : ℕ
  pub faults_after : ℕ

-- the tag of the file in a store of this shape
abbrev pub tag_in : Shape → List ℕ → Tag
tag_in shape path = record { 0 = tag_at shape path }

-- the clouds of some lines
abbrev pub named_in : List (CloudNo × ℕ) → List CloudNo
named_in lines = map (λ (line : CloudNo × ℕ). line.0) lines

-- Each address was dialled, in order, and asked Hello before the next was dialled, and each reply was as asked: they are
-- as many clouds of a shape as give a file back, or more, and they rise.
abbrev pub HasMetClouds : RestoreCall → Greeted → Telling → Type 0
HasMetClouds call greeted behind = MeetsAll asked.Restore call.addresses call.before behind (Ok greeted)

-- On no port anything was sent but frames of requests that add nothing to any list, or pieces of them.
abbrev pub OnlyReads : Telling → Telling → Type 0
OnlyReads = SendsOnly IsReading

-- Some ports were dialled, and every other port is as it was.
abbrev pub RestoreDialsOnly : Telling → Telling → Type 0
RestoreDialsOnly before after = (dialled : List ℕ) × AreDialled before after dialled
