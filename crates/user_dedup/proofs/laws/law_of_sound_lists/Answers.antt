use Rattle.user_dedup.specs.Dedup.{Begun, Added}
use Rattle.user_dedup.proofs.Sound.{sound_before, was_there, keys_apart, entries_owned}
use Rattle.user_dedup.proofs.laws.law_of_sound_lists.Goals as goal

pub returns : goal.returns
returns c = record {
  begun = λ shape cloud. Begun;
  added = λ shape cloud list request command sound fits recipe adds. Added list request command sound fits recipe adds;
  before = sound_before;
  there = was_there;
  apart = keys_apart;
  owned = entries_owned;
}
