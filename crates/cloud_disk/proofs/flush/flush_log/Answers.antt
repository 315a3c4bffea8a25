use Rattle.cloud_disk.proofs.Holding.{cloud_same, images_kept, flushed, area_flushed, moments_of}
use Rattle.cloud_disk.proofs.flush.flush_log.Goals as goal

pub returns-clause-any_moment : goal.returns-clause-any_moment
returns-clause-any_moment g c told blobs h =
    let number = c.args.cloud.0 in
    images_kept c.args.log.now (g.V.Shelf.cloud_at c.args.shelf.now number) (g.V.Shelf.cloud_at c.flush.new.shelf number) blobs h (c.flush.ensures.any_moment told)

pub returns-clause-held : goal.returns-clause-held
returns-clause-held g c told blobs staged h has =
    let number = c.args.cloud.0 in
    flushed c.flush.result c.args.log.now c.flush.new.self (g.V.Shelf.cloud_at c.args.shelf.now number) (g.V.Shelf.cloud_at c.flush.new.shelf number) blobs staged h
    c.flush.ensures.log (c.flush.ensures.end staged has) (λ none. cloud_same g.V.Shelf.cloud_at c.flush.new.shelf c.args.shelf.now number (c.flush.ensures.nothing none).0) (c.flush.ensures.written told)
    (c.flush.ensures.placed told staged has) (c.flush.ensures.kept told) (c.flush.ensures.agrees told)

pub returns-clause-moments : goal.returns-clause-moments
returns-clause-moments g c told =
    let number = c.args.cloud.0 in
    moments_of c.flush.result c.args.log.now (g.V.Shelf.cloud_at c.args.shelf.now number) (g.V.Shelf.cloud_at c.flush.new.shelf number)
    (λ none. cloud_same g.V.Shelf.cloud_at c.flush.new.shelf c.args.shelf.now number (c.flush.ensures.nothing none).0) (c.flush.ensures.moments told)

pub returns-clause-whole : goal.returns-clause-whole
returns-clause-whole g c told =
    let number = c.args.cloud.0 in
    area_flushed c.flush.result c.args.log.now (g.V.Shelf.cloud_at c.args.shelf.now number) (g.V.Shelf.cloud_at c.flush.new.shelf number)
    (λ none. cloud_same g.V.Shelf.cloud_at c.flush.new.shelf c.args.shelf.now number (c.flush.ensures.nothing none).0) (c.flush.ensures.written told) (c.flush.ensures.placed told) (c.flush.ensures.kept told)
