use Rattle.std.proofs.Common.{◌≡◌, ◌<◌, Ok, sym, ap, ◌∙◌, subst}
use Rattle.blob_copy.specs.declared.copying.Copying.{Copying}
use Rattle.server_requests.specs.CdEdges.Disk.{reads}
use Rattle.blob_copy.specs.Copies.{HasCopied}
use Rattle.blob_copy.specs.Copying.{AreAllCopied}
use Rattle.server_requests.specs.CloudStore.store.CloudStore.{CloudStore}
use Rattle.share_server.specs.Copies.{MatchCopied, copied_so_far}
use Rattle.share_server.proofs.Copied.{stepped, read_right, nothing_copied}
use Rattle.share_server.proofs.copies.go_on.Goals as goal

pub returns-in-Ok-clause-goes : goal.returns-in-Ok-clause-goes
returns-in-Ok-clause-goes g c =
    let old = c.args.store.now in let from = c.args.copies.now.copying in let s = c.step.ensures in let e = c.in-Ok.ensures in let p = c.pause.ensures in
    let Same = c.step.new.shelf ≡ c.args.shelf.now in
    record {
      any_moment = s.any_moment;
      copied = λ list chain is. p.copied list chain _ (e.copying list chain is);
      answers = λ list chain is. tt;
      step = subst (λ (to : Copying). MatchCopied (Ok c.in-Ok.more) (copied_so_far old from < copied_so_far old to) (AreAllCopied old to × Same) (to ≡ from)) (sym p.copying)
          (stepped c.in-Ok.more _ _ _ _ (AreAllCopied old c.step.new.copying × Same) _ e.step (λ done. (done.0, done.1)));
      right = λ told. subst (λ (to : Copying). HasCopied old from to (reads (g.V.Shelf.cloud_at c.args.shelf.now old.header.cloud.0).now) (reads (g.V.Shelf.cloud_at c.step.new.shelf old.header.cloud.0).now)) (sym p.copying)
          (read_right c.in-Ok.more _ _ _ _ _ (e.copied told) e.step (λ done. nothing_copied old from c.step.new.copying _ _ done.3));
      laid = p.laid e.laid;
      rotten = λ told. tt;
      beside = e.beside;
      same = p.same ∙ ap (λ (x : CloudStore). record x { disk = c.pause.new.store.disk }) s.same;
      settled = p.ready.settled;
      ready = p.ready;
      call = s.call;
      counts = e.counts;
    }
