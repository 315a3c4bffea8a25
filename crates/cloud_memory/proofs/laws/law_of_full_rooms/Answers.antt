use Rattle.cloud_memory.proofs.FullRooms.{full_put_is, full_commit_is}
use Rattle.cloud_memory.proofs.laws.law_of_full_rooms.Goals as goal

pub returns : goal.returns
returns c = record {
  puts = λ shape cloud rooms list user m strings news sound r within of new. full_put_is shape cloud rooms list user m sound r within strings news of new;
  commits = λ shape cloud rooms list user m tag version recipe sound r within. full_commit_is shape cloud rooms list user m sound r within tag version recipe;
}
