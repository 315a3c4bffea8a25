use Rattle.checkpoints.specs.CloudMemory.Rooms.{memory_of}
use Rattle.cloud_store.proofs.Held.{put_lays, none_held, is_put, recipe_staged}
use Rattle.cloud_store.proofs.laws.law_of_new_strings.Goals as goal

pub returns : goal.returns
returns c = record {
  laid = λ list chain s cloud user news strings serves of new.
      put_lays list user news strings (memory_of s.memory) of new.apart (none_held list (memory_of s.memory) serves.known.remembers.placed);
  put = is_put;
  recipe = recipe_staged;
}
