use Rattle.std.proofs.Common.{refl}
use Rattle.user_dedup.specs.Compact.{compact}
use Rattle.user_dedup.proofs.Compacting.{same_own, same_entries, same_held}
use Rattle.user_dedup.proofs.CompactSound.{compact_sound}
use Rattle.user_dedup.proofs.spent.law_of_compact_lists.Goals as goal

pub returns : goal.returns
unfolding compact
returns c = record { none = λ shape. refl; own = same_own; entries = same_entries; held = same_held; sound = compact_sound }
