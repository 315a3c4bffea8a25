use Rattle.subset_restore.proofs.Marks.{noted}
use Rattle.subset_restore.proofs.refusals.Refusals.note.Goals as goal

pub returns : goal.returns
returns c tries subset tracks =
    noted tries subset c.args.refusal c.args.self.now c.mark.new.marks c.first_behind-self.result _ c.refuser_of.ensures c.mark.ensures.within c.mark.ensures.marks c.first_behind-self.ensures tracks
