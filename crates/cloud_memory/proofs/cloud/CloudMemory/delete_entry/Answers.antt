use Rattle.std.proofs.Common.{◌∙◌, [], ◌∷◌, ◌++◌, subst, sym, ap}
use Rattle.cloud_areas.specs.UserDedup.command.Command.TheVariants as commands
use Rattle.file_index.specs.Files.{key_of}
use Rattle.cloud_memory.specs.Memory.{Remembers}
use Rattle.cloud_memory.specs.Rooms.{memory_of}
use Rattle.cloud_memory.specs.Steps.{without_entry}
use Rattle.cloud_memory.proofs.DeleteLaw.{delete_remembered}
use Rattle.cloud_memory.proofs.cloud.CloudMemory.delete_entry.Goals as goal

pub returns-clause-taken : goal.returns-clause-taken
returns-clause-taken c = λ i. record {
  places = c.args.self.now.shares.places;
  owners = c.args.self.now.shares.owners;
  files = c.remove.ensures.removed i;
  spent = c.args.self.now.spent;
  shares_end = c.args.self.now.shares_end;
  recipes_end = c.args.self.now.recipes_end;
}

pub returns-clause-remembers : goal.returns-clause-remembers
returns-clause-remembers c = λ shape cloud list entry sound r there names.
    subst (Remembers shape (list ++ commands.Delete c.args.user c.args.tag.now c.args.version ∷ []))
    (sym (returns-clause-taken c ∙ ap (λ l. without_entry l c.args.user (key_of c.args.user.0 c.args.tag.now.0 c.args.version.0) (memory_of c.args.self.now)) (sym names)))
    (delete_remembered shape cloud list c.args.user c.args.tag.now c.args.version entry (memory_of c.args.self.now) sound r there)
