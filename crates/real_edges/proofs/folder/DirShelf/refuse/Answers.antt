use Rattle.real_edges.proofs.Counts.{called}
use Rattle.real_edges.proofs.folder.DirShelf.refuse.Goals as goal

pub returns-clause-call : goal.returns-clause-call
returns-clause-call g c =
    let e = c.count_fault.ensures in
    called c.args.self.now.tally c.count_fault.new.self c.args.cloud.0 e.others e.later e.armings e.total_later
