use Rattle.compact_lists.proofs.RoomLaws.{strings_kept}
use Rattle.compact_lists.proofs.laws.law_of_compact_strings.Goals as goal

pub returns : goal.returns
returns c = strings_kept
