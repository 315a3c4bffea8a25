use Rattle.std.proofs.Common.{refl, sym, string_bytes}
use Rattle.std.proofs.lemmas.List.{length-map}
use Rattle.command_words.specs.Views.{asked_resume}
use Rattle.cd_top.specs.Spool.{NoKept}
use Rattle.cd_top.proofs.Spooling.{unplaced_job, alone_in, resumed_in}
use Rattle.cd_top.proofs.spool.resume_in.Goals as goal

pub returns-in-Err : goal.returns-in-Err
returns-in-Err g c = NoKept (unplaced_job _ _ refl refl refl refl c.root.ensures.stays c.in-Err.ensures.cause.failed)

pub returns : goal.returns
returns g c =
    resumed_in c.resume.result (asked_resume c.args.asked.now) _ _ (g.V.Shelf.cloud_at c.root.new.self) _ _
    (g.V.Shelf.faults c.root.new.self) _ _ _ (sym (length-map c.args.asked.now.addresses.now string_bytes))
    c.root.ensures.stays c.in-Ok.ensures.cause.still c.resume.ensures.resumed
    (alone_in _ c.resume.ensures.call c.resume.ensures.others c.resume.ensures.told c.resume.ensures.later)
    c.resume.ensures.sends
