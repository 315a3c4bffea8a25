use Rattle.blob_copy.proofs.Stopped.{nothing_keeps, nothing_images}
use Rattle.blob_copy.proofs.steps.step.Goals as goal

pub returns-clause-any_moment : goal.returns-clause-any_moment
returns-clause-any_moment g c = λ list chain is.
    let old = g.V.Shelf.cloud_at c.args.shelf.now c.args.store.now.header.cloud.0 in
    nothing_keeps c.args.store.now c.requires.settled c.requires.open c.args.copying.now c.requires.laid old old list chain is

pub returns-clause-images : goal.returns-clause-images
returns-clause-images g c = λ told.
    let old = g.V.Shelf.cloud_at c.args.shelf.now c.args.store.now.header.cloud.0 in
    nothing_images c.args.store.now c.requires.settled c.requires.open c.args.copying.now c.requires.laid old old
