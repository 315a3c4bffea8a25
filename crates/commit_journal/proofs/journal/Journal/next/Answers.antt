use Rattle.journal_halves.specs.CdEdges.area.Area.TheVariants.{Journal}
use Rattle.journal_halves.specs.Journals.{all_bodies}
use Rattle.journal_halves.specs.States as records
use Rattle.commit_journal.specs.States.{state_of}
use Rattle.commit_journal.proofs.Steps.{half_stays, took_is, step_is, err_is}
use Rattle.commit_journal.proofs.journal.Journal.next.Goals as goal

pub returns-in-Ok-clause-reads : goal.returns-in-Ok-clause-reads
returns-in-Ok-clause-reads g c told w is =
    let self = c.args.self.now in let now = records.state_of c.next.new.self in
    let store = (g.V.Shelf.cloud_at c.args.shelf.now c.args.cloud.0).now Journal in
    took_is (state_of self) (state_of c.took.new.self) now store w c.in-Ok.more c.took.result is (half_stays (records.state_of self.records) now c.in-Ok.more c.in-Ok.ensures.step) (c.in-Ok.ensures.reads told (all_bodies w) is.read) c.took.ensures.took

pub returns-in-Err-clause-reads : goal.returns-in-Err-clause-reads
returns-in-Err-clause-reads g c told w is =
    let self = c.args.self.now in let now = records.state_of c.next.new.self in
    let store = (g.V.Shelf.cloud_at c.args.shelf.now c.args.cloud.0).now Journal in
    err_is (state_of self) (state_of self) now store w c.in-Err.error (c.in-Err.ensures.reads told (all_bodies w) is.read)

pub returns-in-Ok-clause-step : goal.returns-in-Ok-clause-step
returns-in-Ok-clause-step g c =
    let self = c.args.self.now in let now = records.state_of c.next.new.self in
    step_is (records.state_of self.records) (record (state_of self) { current = now }) (state_of c.took.new.self) c.in-Ok.more c.took.result c.in-Ok.ensures.step c.took.ensures.took
