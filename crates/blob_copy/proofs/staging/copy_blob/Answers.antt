use Rattle.std.proofs.Common.{length}
use Rattle.blob_copy.proofs.Gathered.{one_staged}
use Rattle.blob_copy.proofs.staging.copy_blob.Goals as goal

pub returns-in-Ok-stage-clause-staged : goal.returns-in-Ok-stage-clause-staged
returns-in-Ok-stage-clause-staged g c =
    one_staged _ _ (record { named = c.args.named.now; at = c.args.at; len = length c.args.out.now }) c.args.log.now c.read_blob.new.log c.stage.new.self _ c.read_blob.ensures.log c.in-Ok.ensures.read c.in-Ok-stage.ensures.ok c.requires.room
