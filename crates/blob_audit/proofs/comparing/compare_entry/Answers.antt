use Rattle.std.proofs.Common.{ℕ, List, refl, subst}
use Rattle.audit_base.specs.CdEdges.area.Area.TheVariants.{Recipes}
use Rattle.audit_base.specs.UserDedup.Cloud.{fingerprint}
use Rattle.audit_base.specs.Whole.{stored_at, tables_of}
use Rattle.blob_audit.specs.Holding.{EntryAlong}
use Rattle.blob_audit.specs.Steps.{IsFine, BlobJudgedAs}
use Rattle.blob_audit.proofs.Compared.{blob_judged, judged_calm}
use Rattle.blob_audit.proofs.Joining.{retold}
use Rattle.blob_audit.proofs.Windowed.{on_ok}
use Rattle.blob_audit.proofs.comparing.compare_entry.Goals as goal

pub returns-in-Ok-clause-read : goal.returns-in-Ok-clause-read
returns-in-Ok-clause-read g c =
    let e = c.args.entry in let r = c.judge_entry.result in let t = tables_of c.args.memory.now in let user = c.args.user in let shape = c.args.shape in
    retold _ (EntryAlong shape t user e c.args.held.now c.args.window.now c.hold.new.held c.hold.new.window) _ _ _ _ _ _ r (judged_calm _ _ _ r c.judge_entry.ensures.judged)
    (λ image told was. (
      blob_judged _ _ _ r (subst (λ (bytes : List ℕ). BlobJudgedAs (IsFine shape t user e bytes) e.fp (fingerprint bytes) r) (c.bytes_in.ensures.bytes (image Recipes) (told was)) c.judge_entry.ensures.judged),
      on_ok r (told was),
    ))
    c.in-Ok.ensures.read

pub returns-in-Ok-hash_long-clause-read : goal.returns-in-Ok-hash_long-clause-read
returns-in-Ok-hash_long-clause-read g c =
    let e = c.args.entry in let r = c.judge_long.result in let t = tables_of c.args.memory.now in let user = c.args.user in
    retold _ (EntryAlong c.args.shape t user e c.args.held.now c.args.window.now (record { at = 0; asked = 0; count = 0 }) c.hash_long.new.window) _ _ _ _ _ _ r c.judge_long.ensures.calm
    (λ image found was.
    (blob_judged _ _ _ r (c.judge_long.ensures.judged t user (stored_at (image Recipes) e.at e.len) found), on_ok r (record { bytes = refl })))
    c.in-Ok-hash_long.ensures.read
