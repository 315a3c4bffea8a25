use Rattle.first_laws.proofs.Stood.{is_sound, none_unbegun, by_chain, header_of, by_one}
use Rattle.first_laws.proofs.standing.law_of_first_standing.Goals as goal

pub returns : goal.returns
returns c = record { sound = is_sound; only = none_unbegun; header = header_of; chain = by_chain; one = by_one }
