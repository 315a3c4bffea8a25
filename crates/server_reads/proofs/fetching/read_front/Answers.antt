use Rattle.std.proofs.Common.{◌≡◌, length, ap, ◌∙◌, arith}
use Rattle.cloud_memory.specs.UserDedup.Cloud.{fingerprint}
use Rattle.server_reads.proofs.Keys.{take_front}
use Rattle.server_reads.proofs.fetching.read_front.Goals as goal

pub returns-in-Ok-clause-hashed : goal.returns-in-Ok-clause-hashed
returns-in-Ok-clause-hashed g c =
    let recipe = c.read_blob.new.out in
    let long : length recipe ≡ c.args.entry.now.len = omega (arith, c.read_blob.auto.out, c.split_at_mut-recipe.ensures.front_len) in
    ap fingerprint (take_front c.args.entry.now.len recipe c.split_at_mut-recipe.result.1.now long) ∙ c.in-Ok.ensures.hashed

pub returns-in-Ok-clause-blob : goal.returns-in-Ok-clause-blob
returns-in-Ok-clause-blob g c = λ told agreed b place_is len_is same at.
    let recipe = c.read_blob.new.out in
    let long : length recipe ≡ c.args.entry.now.len = omega (arith, c.read_blob.auto.out, c.split_at_mut-recipe.ensures.front_len) in
    let part : length b.blob ≡ length c.split_at_mut-recipe.result.0.now = omega (arith, len_is, c.split_at_mut-recipe.ensures.front_len) in
    take_front c.args.entry.now.len recipe c.split_at_mut-recipe.result.1.now long ∙ c.in-Ok.ensures.blob told agreed b place_is part same at
