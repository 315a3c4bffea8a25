use Rattle.std.proofs.Common.{◌-◌, ◌/◌, ◌%◌, length, ap, ◌∙◌}
use Rattle.container_log.proofs.Agreeing.{read_within, place_parts, few_of}
use Rattle.container_log.proofs.Turning.{none_first}
use Rattle.container_log.specs.Caches.{Cache, kept_of}
use Rattle.container_log.proofs.reading.read_new.Goals as goal

pub returns-in-Ok-clause-bytes : goal.returns-in-Ok-clause-bytes
returns-in-Ok-clause-bytes g c told =
    let place = c.args.place in let out = c.copy_from-count.new.out in
    read_within ((g.V.Shelf.cloud_at c.args.shelf.now c.args.cloud.0).now c.args.area).read c.fill.new.self out (place / 4194304) (place % 4194304) place c.copy_from-count.result
    (c.in-Ok.ensures.read told) (place_parts place) (few_of place (length c.args.out.now) (length out) c.copy_from-count.auto.out c.requires.within) c.copy_from-count.ensures

pub put-requires : goal.put-requires
put-requires g c =
    let number = c.args.place / 4194304 in let old = c.args.cache.now in
    ap (λ (x : Cache). kept_of x.kept number) c.room.ensures.room ∙ none_first number (old.keep - 1) old.kept c.requires.none
