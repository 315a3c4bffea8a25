use Rattle.std.proofs.Common.{◌≡◌, ℕ, List, length, ◌++◌, ap, ◌∙◌, arith}
use Rattle.messages.specs.MessageFields.Shares.{share_bytes}
use Rattle.server_reads.proofs.Along.{sent_one}
use Rattle.server_reads.proofs.sending.put_from.Goals as goal

pub returns-in-Ok-clause-ok : goal.returns-in-Ok-clause-ok
returns-in-Ok-clause-ok g c =
    let share = c.read_blob.new.out in
    let long : length share ≡ c.args.place.len = omega (arith, c.read_blob.auto.out, c.split_at_mut-share.ensures.front_len) in
    sent_one c.args.fp.now c.args.reply.now c.append_share.new.out share c.args.place.len c.append_share.ensures long c.requires.some c.requires.few c.in-Ok.ensures.hashed

pub returns-in-Ok-clause-blob : goal.returns-in-Ok-clause-blob
returns-in-Ok-clause-blob g c = λ told agreed b place_is len_is same at.
    let part : length b.blob ≡ length c.split_at_mut-share.result.0.now = omega (arith, len_is, c.split_at_mut-share.ensures.front_len) in
    c.append_share.ensures ∙ ap (λ (s : List ℕ). c.args.reply.now ++ share_bytes s) (c.in-Ok.ensures.blob told agreed b place_is part same at)
