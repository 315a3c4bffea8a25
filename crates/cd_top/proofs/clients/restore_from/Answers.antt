use Rattle.std.proofs.Common.{sym, string_bytes}
use Rattle.std.proofs.lemmas.List.{length-map}
use Rattle.command_words.specs.Views.{asked_restore}
use Rattle.cd_top.proofs.Placing.{restored_by}
use Rattle.cd_top.proofs.clients.restore_from.Goals as goal

pub returns : goal.returns
returns g c =
    restored_by c.restore.result (asked_restore c.args.asked.now) _ _ _ _ _ _
    (sym (length-map c.args.asked.now.addresses.now string_bytes)) c.restore.ensures.fetched
    c.restore.ensures.others c.restore.ensures.sends c.restore.ensures.told
