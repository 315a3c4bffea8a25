use Rattle.std.proofs.Common.{◌≡◌, ◌+◌, ◌-◌, ◌<◌, ◌≤◌, ℕ, List, [], map}
use Rattle.user_dedup.specs.Recipe.recipe.Recipe.{Recipe}
use Rattle.restore_job.specs.Brought.{Extends, HasShares}
use Rattle.std.specs.List.{flat_map}
use Rattle.restore_job.specs.Restored.{Given, secrets_opened, string_at}
use Rattle.restore_job.specs.Exchanges.{OpenedTo}
use Rattle.restore_job.specs.Steps.{Grows, room_of}
use Rattle.restore_job.proofs.Taking.{Opening}
use Rattle.restore_job.proofs.opening.open_batch.Given as goal

abbrev pub invariant-loop-j : goal.invariant-loop-j
invariant-loop-j l = record {
  opening : (all : List Given) → l.points ≡ map (λ given. given.cloud) all
      → ((j : ℕ) → j < l.count → room_of l.rooms j ≡ flat_map (λ given. string_at given (l.place + j)) all)
      → Opening (secrets_opened l.shape l.firsts all l.place l.count) (secrets_opened l.shape l.firsts all (l.place + l.j) (l.count - l.j)) l.fn.out l.out;
  grows : Grows l.fn.out l.out;
  within : l.j ≤ l.count;
  opened_to : OpenedTo l.shape l.points l.firsts l.rooms l.place l.j l.fn.out l.out;
  extends : (recipes : List Recipe) → ((j : ℕ) → j < l.count → HasShares recipes (l.place + j) [] (room_of l.rooms j)) → Extends l.shape l.points l.firsts recipes l.place (l.place + l.j) l.fn.out l.out;
}
