use Rattle.std.proofs.Common.{refl}
use Rattle.journal_halves.specs.CdEdges.area.Area.TheVariants.{Journal}
use Rattle.journal_halves.specs.Journals.{all_bodies}
use Rattle.journal_halves.specs.States as records
use Rattle.commit_journal.specs.declared.journal.Stage.TheVariants.{AtEnd}
use Rattle.commit_journal.specs.States.{JournalState, state_of}
use Rattle.commit_journal.proofs.Steps.{appending, apart, ended_more}
use Rattle.commit_journal.proofs.journal.Journal.append.Goals as goal

pub returns-in_err-append-clause-any_moment : goal.returns-in_err-append-clause-any_moment
returns-in_err-append-clause-any_moment g c told w is =
    let number = c.args.cloud.0 in
    appending (state_of c.args.self.now) (g.V.Shelf.cloud_at c.args.shelf.now number) (g.V.Shelf.cloud_at c.append.new.shelf number) w c.args.body.now is (c.append.ensures.any_moment told (all_bodies w) is.read)

pub returns-clause-any_moment : goal.returns-clause-any_moment
returns-clause-any_moment g c told w is =
    let number = c.args.cloud.0 in
    appending (state_of c.args.self.now) (g.V.Shelf.cloud_at c.args.shelf.now number) (g.V.Shelf.cloud_at c.append.new.shelf number) w c.args.body.now is (c.append.ensures.any_moment told (all_bodies w) is.read)

pub returns-in_err-append-clause-other : goal.returns-in_err-append-clause-other
returns-in_err-append-clause-other g c told w is =
    let number = c.args.cloud.0 in
    apart (state_of c.args.self.now) (g.V.Shelf.cloud_at c.args.shelf.now number) (g.V.Shelf.cloud_at c.append.new.shelf number) w c.args.body.now is (c.append.ensures.any_moment told (all_bodies w) is.read)

pub returns-clause-other : goal.returns-clause-other
returns-clause-other g c told w is =
    let number = c.args.cloud.0 in
    apart (state_of c.args.self.now) (g.V.Shelf.cloud_at c.args.shelf.now number) (g.V.Shelf.cloud_at c.append.new.shelf number) w c.args.body.now is (c.append.ensures.any_moment told (all_bodies w) is.read)

pub returns-clause-added : goal.returns-clause-added
returns-clause-added g c told w is =
    let number = c.args.cloud.0 in let before = state_of c.args.self.now in
    let after : JournalState = record before { stage = AtEnd; current = records.state_of c.append.new.self } in
    let more = c.in_ok-append.ensures.added told (all_bodies w) is.read in
    ended_more before after ((g.V.Shelf.cloud_at c.args.shelf.now number).now Journal) ((g.V.Shelf.cloud_at c.append.new.shelf number).now Journal) w c.args.body.now is more.0 more.1 c.append.ensures.half refl
