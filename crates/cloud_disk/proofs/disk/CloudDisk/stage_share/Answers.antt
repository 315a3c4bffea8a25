use Rattle.std.proofs.Common.{refl, sym, subst}
use Rattle.commit_journal.specs.States as journals
use Rattle.cloud_disk.specs.Disk.{Disk, IsOn, Stages}
use Rattle.cloud_disk.proofs.Standing.{on_alike, stage_area, stage_end, stage_kept, stages_more}
use Rattle.cloud_disk.proofs.disk.CloudDisk.stage_share.Goals as goal

pub returns-clause-places : goal.returns-clause-places
returns-clause-places c blobs staged =
    let old = c.self.inside.shares in
    let s = subst (λ (d : Disk). Stages d.shares blobs) (sym c.self.view_is) staged in
    stages_more c.stage.result old c.stage.new.self c.args.share.now blobs s c.stage.ensures.ok (c.stage.ensures.place s.strings s.staged) (c.stage.ensures.staged s.strings s.staged)

pub returns-clause-on : goal.returns-clause-on
returns-clause-on c header list chain cloud stood =
    let inside = c.self.inside in let blob = c.args.share.now in
    let disk : Disk = record { journal = journals.state_of inside.journal; shares = inside.shares; recipes = inside.recipes } in
    let on = subst (λ (d : Disk). IsOn header list chain d cloud) (sym c.self.view_is) stood in
    on_alike header list chain disk (record disk { shares = c.stage.new.self }) cloud refl (stage_area c.stage.result inside.shares c.stage.new.self blob c.stage.ensures.ok c.stage.ensures.err)
    (stage_end c.stage.result inside.shares c.stage.new.self blob c.stage.ensures.ok c.stage.ensures.err) refl refl (stage_kept c.stage.result inside.shares c.stage.new.self blob c.stage.ensures.ok c.stage.ensures.err) refl on
