use Rattle.std.proofs.Common.{sym, string_bytes}
use Rattle.std.proofs.lemmas.List.{length-map}
use Rattle.command_words.specs.Views.{asked_delete}
use Rattle.cd_top.proofs.Placing.{deleted_by}
use Rattle.cd_top.proofs.clients.delete_at.Goals as goal

pub returns : goal.returns
returns g c =
    deleted_by c.delete.result (asked_delete c.args.asked.now) _ _ _
    (sym (length-map c.args.asked.now.addresses.now string_bytes)) c.delete.ensures.deleted
    c.delete.ensures.others c.delete.ensures.sends c.delete.ensures.told
