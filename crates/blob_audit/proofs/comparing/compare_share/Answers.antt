use Rattle.std.proofs.Common.{ℕ, List, subst}
use Rattle.audit_base.specs.CdEdges.area.Area.TheVariants.{Shares}
use Rattle.audit_base.specs.UserDedup.Cloud.{fingerprint}
use Rattle.blob_audit.specs.Holding.{ShareAlong}
use Rattle.blob_audit.specs.Steps.{IsWholeBlob, BlobJudgedAs}
use Rattle.blob_audit.proofs.Compared.{blob_judged, judged_calm}
use Rattle.blob_audit.proofs.Joining.{retold}
use Rattle.blob_audit.proofs.Windowed.{on_ok}
use Rattle.blob_audit.proofs.comparing.compare_share.Goals as goal

pub returns-in-Ok-clause-read : goal.returns-in-Ok-clause-read
returns-in-Ok-clause-read g c =
    let fp = c.args.fp in let place = c.args.place in let r = c.judge_bytes.result in
    retold _ (ShareAlong fp.0 place c.args.held.now c.args.window.now c.hold.new.held c.hold.new.window) _ _ _ _ _ _ r (judged_calm _ _ _ r c.judge_bytes.ensures.judged)
    (λ image told was. (
      blob_judged _ _ _ r (subst (λ (bytes : List ℕ). BlobJudgedAs (IsWholeBlob bytes place.len fp) fp (fingerprint bytes) r) (c.bytes_in.ensures.bytes (image Shares) (told was)) c.judge_bytes.ensures.judged),
      on_ok r (told was),
    ))
    c.in-Ok.ensures.read
