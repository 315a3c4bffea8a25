use Rattle.std.proofs.Common.{◌≤◌, ◌+◌, ◌/◌, ◌%◌, length, arith}
use Rattle.container_log.proofs.Agreeing.{read_within, place_parts, agrees_found, agrees_read}
use Rattle.container_log.proofs.reading.read_kept.Goals as goal

pub returns-in-Some-clause-bytes : goal.returns-in-Some-clause-bytes
returns-in-Some-clause-bytes g c told all =
    let place = c.args.place in let out = c.find.new.out in
    let found = c.in-Some.ensures.found in
    let held = ((g.V.Shelf.cloud_at c.args.shelf.now c.args.cloud.0).now c.args.area).read in
    let few : place % 4194304 + length out ≤ 4194304 = omega (arith, c.if-from-out.false, c.find.auto.out) in
    read_within held found.0 out (place / 4194304) (place % 4194304) place c.in-Some.count
    (agrees_found held found.0 (place / 4194304) c.args.cache.now.kept all found.1) (place_parts place) few found.2

pub returns-in-Some-clause-agrees : goal.returns-in-Some-clause-agrees
returns-in-Some-clause-agrees g c told all =
    agrees_read ((g.V.Shelf.cloud_at c.args.shelf.now c.args.cloud.0).now c.args.area).read (c.args.place / 4194304) c.args.cache.now c.find.new.self all c.in-Some.ensures.front
