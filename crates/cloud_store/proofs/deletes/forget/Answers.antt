use Rattle.std.proofs.Common.{rules, ◌≡◌, [], ap, ◌∙◌}
use Rattle.checkpoints.specs.UserDedup.Owning.{fps_in}
use Rattle.checkpoints.specs.UserDedup.Requests.{fps_of}
use Rattle.cloud_store.proofs.deletes.forget.Goals as goal

pub returns-in-Ok-clause-remembers : goal.returns-in-Ok-clause-remembers
returns-in-Ok-clause-remembers c cloud list entry sound r there is =
    let named : fps_of c.args.shape c.args.recipe.now ≡ fps_in c.in-Ok.view.items = search rules in
    c.delete.ensures.remembers c.args.shape cloud list entry sound r there (ap (fps_of c.args.shape) is ∙ named)

pub returns-in-Err-clause-remembers : goal.returns-in-Err-clause-remembers
returns-in-Err-clause-remembers c cloud list entry sound r there is =
    let none : fps_of c.args.shape c.args.recipe.now ≡ [] = search rules in
    c.delete_entry.ensures.remembers c.args.shape cloud list entry sound r there (ap (fps_of c.args.shape) is ∙ none)
