use Rattle.std.proofs.Common.{◌∷◌, [], length, ap, ◌∙◌, arith}
use Rattle.std.proofs.lemmas.Iterator.Adapters.{YieldsList-from_vec}
use Rattle.std.proofs.lemmas.Iterator.Consumers.{YieldsList-turn}
use Rattle.std.proofs.lemmas.List.{length-append}
use Rattle.upload_job.proofs.Begun.{begun_more}
use Rattle.upload_job.proofs.beginning.lanes_of.Goals as goal

pub loop-file-preserved : goal.loop-file-preserved
loop-file-preserved c =
    let began = c.into_iter-file-iterator.ensures.into_iter_gives in
    let all = YieldsList-from_vec c.args.files.items began.0 (began.1 ∙ c.args.files.ok.0) in
    let at = YieldsList-turn all c.loop-file.yielded c.loop-file.file-iterator c.loop-file.yielded_by c.next.result c.next.new.self c.in-Some.file c.in-Some.is c.next.ensures.steps in
    let lanes = ap length c.in_ok-push.ensures.items ∙ length-append c.loop-file.lanes.items (c.in_ok-lane_of.field-0 ∷ []) in
    let files = length-append c.loop-file.yielded (c.in-Some.file ∷ []) in
    record {
      len = omega (arith, c.loop-file.invariant.len);
      each = begun_more c.args.shape.k c.args.files.items c.loop-file.lanes.items c.push.new.self.items (length c.loop-file.yielded) c.in-Some.file c.in_ok-lane_of.field-0
          c.loop-file.invariant.len at.0 at.1 c.in_ok-lane_of.ensures c.in_ok-push.ensures.items c.loop-file.invariant.each;
    }
