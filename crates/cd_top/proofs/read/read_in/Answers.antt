use Rattle.std.proofs.Common.{refl}
use Rattle.command_words.specs.Views.{asked_read}
use Rattle.cd_top.proofs.ReadClosing.{no_place, read_to}
use Rattle.cd_top.proofs.read.read_in.Goals as goal

pub returns-in-Err : goal.returns-in-Err
returns-in-Err g c = no_place _ _ _ c.root.ensures.stays refl c.in-Err.ensures.cause.failed

pub returns : goal.returns
returns g c =
    read_to c.finish_read.result (asked_read c.args.asked.now) c.read_file-end.result
    (g.V.Shelf.cloud_at c.root.new.self) _ _ (g.V.Shelf.faults c.root.new.self) _ _ _ _ _ _ _ _
    c.root.ensures.stays c.in-Ok.ensures.cause.still c.read_file-end.ensures.reads c.read_file-end.ensures.counts
    c.read_file-end.ensures.kept c.read_file-end.ensures.areas c.read_file-end.ensures.armings c.read_file-end.ensures.anyway c.finish_read.ensures
