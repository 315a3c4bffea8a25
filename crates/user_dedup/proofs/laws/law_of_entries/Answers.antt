use Rattle.user_dedup.proofs.Sound.{found_entry, no_entry}
use Rattle.user_dedup.proofs.laws.law_of_entries.Goals as goal

pub returns : goal.returns
returns c = record { some = found_entry; none = no_entry }
