-- The chain by which areas of format 1 stand for a list.
use Rattle.std.specs.Prelude.{◌≡◌, List}
use Rattle.journal_halves.specs.CdEdges.area.Area.TheVariants.{Journal}
use Rattle.journal_halves.specs.CdEdges.Disk.{Image}
use Rattle.journal_halves.specs.Halves.{half_len}
use Rattle.journal_halves.specs.Journals.{Where}
use Rattle.journal_halves.specs.JournalStart.start.Header.{Header}
use Rattle.compact_memories.specs.UserDedup.command.Command.{Command}
use Rattle.compact_memories.specs.CloudAreas.FormatOne.{Lays}
use Rattle.compact_memories.specs.CloudAreas.Standing.{Chain, where_of, IsChain}

-- The journal's chain, by these bytes, says the list and lays it.
pub record HasChainOne (image : Image) (header : Header) (list : List Command) (w : Where) : Type 0 where
  pub chain_of : Chain
  pub bytes : where_of chain_of ≡ w
  pub is_chain : IsChain header half_len (image Journal) chain_of
  pub lays : Lays header image list chain_of
