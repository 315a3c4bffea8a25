use Rattle.std.proofs.Common.{◌≡◌, ◌*◌, length, ◌∙◌, rules}
use Rattle.cd_edges.specs.declared.area.Area.TheVariants.{Journal}
use Rattle.journal_halves.specs.Halves.{half_len}
use Rattle.journal_halves.proofs.Looks.{read_ahead, counted}
use Rattle.journal_halves.proofs.finding.look.Goals as goal

pub returns-in-Ok-clause-found : goal.returns-in-Ok-clause-found
returns-in-Ok-clause-found g c told =
    let journal = ((g.V.Shelf.cloud_at c.args.shelf.now c.args.cloud.0).now Journal).read in
    let size : length c.read.new.out ≡ 65541 = search rules in
    c.judge.ensures.looks journal (c.split_at.ensures.front ∙ read_ahead journal c.read.new.out (c.args.half * half_len) c.in-Ok.count size (c.in-Ok.ensures.bytes told))

pub returns-in-Ok-clause-counts : goal.returns-in-Ok-clause-counts
returns-in-Ok-clause-counts g c = counted c.judge.result _ _ c.judge.ensures.handled c.in-Ok.ensures.uncounted
