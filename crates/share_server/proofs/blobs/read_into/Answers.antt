use Rattle.std.proofs.Common.{ℕ, drop, subst}
use Rattle.server_requests.specs.CdEdges.Shelf.{ReadsFrom}
use Rattle.share_server.proofs.Appending.{came, blob_came, appends_came}
use Rattle.share_server.proofs.blobs.read_into.Goals as goal

pub returns-in-Ok-read_behind-clause-blob : goal.returns-in-Ok-read_behind-clause-blob
returns-in-Ok-read_behind-clause-blob g c told =
    let area = ((g.V.Shelf.cloud_at c.args.shelf.now c.args.cloud.0).now c.args.area).read in
    let out = c.args.out.now in let place = c.args.place in let count = c.in-Ok-read_behind.count in let given = c.read_behind.new.bytes in
    let w =
    came out c.resize.new.self c.as_mut_slice.result.now given c.truncate.new.self place.len count c.len-before.result c.in-Some.whole c.len-before.ensures c.in-Some.ensures.1
    c.in-Ok.ensures.ok c.as_mut_slice.ensures.value c.read_behind.ensures.kept c.read_behind.auto.bytes c.in-Ok-read_behind.ensures.within c.truncate.ensures in
    blob_came area out given c.truncate.new.self place count c.ended.result w c.ended.ensures
    (subst (λ (n : ℕ). ReadsFrom area place.at count (drop n given)) c.len-before.ensures (c.in-Ok-read_behind.ensures.bytes told))

pub returns-in-Ok-read_behind-clause-appends : goal.returns-in-Ok-read_behind-clause-appends
returns-in-Ok-read_behind-clause-appends g c =
    let out = c.args.out.now in let len = c.args.place.len in let count = c.in-Ok-read_behind.count in let given = c.read_behind.new.bytes in
    let w =
    came out c.resize.new.self c.as_mut_slice.result.now given c.truncate.new.self len count c.len-before.result c.in-Some.whole c.len-before.ensures c.in-Some.ensures.1
    c.in-Ok.ensures.ok c.as_mut_slice.ensures.value c.read_behind.ensures.kept c.read_behind.auto.bytes c.in-Ok-read_behind.ensures.within c.truncate.ensures in
    appends_came out given c.truncate.new.self len count c.ended.result w c.ended.ensures
