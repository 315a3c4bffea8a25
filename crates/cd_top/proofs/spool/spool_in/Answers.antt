use Rattle.std.proofs.Common.{refl, sym, string_bytes}
use Rattle.std.proofs.lemmas.List.{length-map}
use Rattle.command_words.specs.Views.{asked_spool}
use Rattle.cd_top.specs.Spool.{NoFolder}
use Rattle.cd_top.proofs.Spooling.{unplaced_job, alone_in, spooled_in}
use Rattle.cd_top.proofs.spool.spool_in.Goals as goal

pub returns-in-Err : goal.returns-in-Err
returns-in-Err g c = NoFolder refl (unplaced_job _ _ refl refl refl refl c.root.ensures.stays c.in-Err.ensures.cause.failed)

pub returns : goal.returns
returns g c =
    spooled_in c.spool.result (asked_spool c.args.asked.now) _ _ _ (g.V.Shelf.cloud_at c.root.new.self) _ _
    (g.V.Shelf.faults c.root.new.self) _ _ _ _ _ (sym (length-map c.args.asked.now.file.addresses.now string_bytes))
    c.root.ensures.stays c.in-Ok.ensures.cause.still (record { user = refl; path = refl; version = refl })
    c.spool.ensures.spooled c.spool.ensures.spared
    (alone_in _ c.spool.ensures.call c.spool.ensures.others c.spool.ensures.told c.spool.ensures.later)
    c.spool.ensures.sends
