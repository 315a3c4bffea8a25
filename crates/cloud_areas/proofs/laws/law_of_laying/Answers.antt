use Rattle.cloud_areas.proofs.Laid.{laid_behind, ends_more, laid_has_room, blobs_laid, blobs_end}
use Rattle.cloud_areas.proofs.laws.law_of_laying.Goals as goal

pub returns : goal.returns
returns c = record {
  behind = laid_behind;
  blobs = blobs_laid;
  blobs_end = blobs_end;
  ends = λ region records list command body laid shares recipes is ends by. ends_more region records list command body laid is shares recipes ends by;
  room = λ region records list command body laid shares recipes is rooms ends by. laid_has_room region records list command body laid is shares recipes ends by rooms;
}
