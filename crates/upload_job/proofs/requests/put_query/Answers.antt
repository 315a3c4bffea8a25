use Rattle.std.proofs.Common.{◌≡◌, ◌++◌, length, ◌∙◌}
use Rattle.std.proofs.Common.{◌∷◌, rules}
use Rattle.std.specs.Int.{w16, w32, to_be_bytes}
use Rattle.std.proofs.lemmas.Result.{on_ok_weaker}
use Rattle.upload_job.proofs.Sending.{query_spelled}
use Rattle.upload_job.proofs.requests.put_query.Goals as goal

pub returns : goal.returns
returns c =
    let head : c.extend.new.self ≡ (c.args.out.now ++ 2 ∷ to_be_bytes w32 c.args.user.0) ++ to_be_bytes w16 (length c.args.batch.now) = search rules in
    on_ok_weaker c.put_each_fp.result (λ h. h ∙ query_spelled c.args.out.now c.extend.new.self c.args.user c.args.batch.now head) c.put_each_fp.ensures
