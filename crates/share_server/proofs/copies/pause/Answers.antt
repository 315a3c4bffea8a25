use Rattle.std.proofs.Common.{sym, ap, ◌∙◌, subst}
use Rattle.server_requests.specs.CloudStore.store.CloudStore.{CloudStore}
use Rattle.blob_copy.specs.Copying.{IsCopying}
use Rattle.share_server.proofs.Copied.{ended, still_copied}
use Rattle.share_server.proofs.copies.pause.Goals as goal

pub returns-clause-copied : goal.returns-clause-copied
returns-clause-copied c list chain cloud is =
    let old = c.args.store.now in let copying = c.args.copies.now.copying in let new = c.forget.new.store in
    let kept = c.keep_ends.ensures.store in let ready = c.forget.ensures in
    let was : IsCopying list chain c.keep_ends.new.store copying cloud = subst (λ (s : CloudStore). IsCopying list chain s copying cloud) (sym kept) is in
    record {
      serves = ready.serves list chain copying cloud was;
      copied = still_copied list chain c.keep_ends.new.store new copying cloud was ready.settled.disk.shares ready.settled.disk.recipes ready.journal ready.same
          c.keep_ends.new.copies (c.keep_ends.ensures.copies ∙ ap (λ (x : CloudStore). ended x copying) (sym kept));
    }
