use Rattle.std.proofs.Common.{ap, ℕ, ◌+◌, subst}
use Rattle.cd_edges.specs.declared.area.Area.TheVariants.{Journal}
use Rattle.journal_halves.specs.Halves.{half_len}
use Rattle.journal_halves.specs.declared.choice.Choice.{Choice}
use Rattle.journal_halves.specs.Choices.{IsChosen}
use Rattle.journal_halves.proofs.Looks.{is_current, are_equal, none_begun}
use Rattle.journal_halves.proofs.finding.answer.Goals as goal

pub returns-in-Current-clause-found : goal.returns-in-Current-clause-found
returns-in-Current-clause-found g c told first second one two chosen =
    let journal = ((g.V.Shelf.cloud_at c.args.shelf.now c.args.cloud.0).now Journal).read in
    is_current journal first second one two c.in-Current.found (subst (λ (choice : Choice). IsChosen first second choice) c.in-Current.is chosen)

pub returns-in-Equal-clause-found : goal.returns-in-Equal-clause-found
returns-in-Equal-clause-found g c told first second one two chosen =
    let journal = ((g.V.Shelf.cloud_at c.args.shelf.now c.args.cloud.0).now Journal).read in
    are_equal journal first second one two c.in-Equal.start _ (subst (λ (choice : Choice). IsChosen first second choice) c.in-Equal.is chosen) (ap (λ (n : ℕ). half_len + n) c.epoch_place.ensures.value)

pub returns-in-Ok-clause-found : goal.returns-in-Ok-clause-found
returns-in-Ok-clause-found g c told first second one two chosen =
    let journal = ((g.V.Shelf.cloud_at c.args.shelf.now c.args.cloud.0).now Journal).read in
    none_begun journal first second one two c.in-Ok.len (subst (λ (choice : Choice). IsChosen first second choice) c.in-Neither.is chosen) (c.in-Ok.ensures.len told)
