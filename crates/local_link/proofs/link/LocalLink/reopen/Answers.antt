use Rattle.std.proofs.lemmas.Bool.{ltb-true}
use Rattle.local_link.proofs.Standing.{rest_by, others_by, rooms_same, here_now}
use Rattle.local_link.proofs.Calling.{reopens, loaded_here, whole_here, opens_here, shut_here, not_begun_here, counts_here, untold_here, opened_images, exact_here, other_here, areas_here, call_here}
use Rattle.local_link.proofs.link.LocalLink.reopen.Goals as goal

pub returns-clause-peer : goal.returns-clause-peer
returns-clause-peer g c = λ p told is.
    let e = c.reopen.ensures in
    reopens c.args.self.now.servers c.reopen.new.self c.args.cloud.0 e.0 e.1 e.2 (ltb-true c.args.cloud.0 c.args.self.now.servers.shape.n c.requires)
    (g.V.Shelf.cloud_at c.args.self.now.shelf.now) (g.V.Shelf.cloud_at c.reopen.new.shelf) _ _ c.args.begin c.reopen.result e.3 p told is

pub returns-clause-images : goal.returns-clause-images
returns-clause-images g c = λ told lists.
    let e = c.reopen.ensures in
    opened_images c.args.self.now.servers c.reopen.new.self c.args.cloud.0 e.0 e.1 e.2 (ltb-true c.args.cloud.0 c.args.self.now.servers.shape.n c.requires)
    (g.V.Shelf.cloud_at c.args.self.now.shelf.now) (g.V.Shelf.cloud_at c.reopen.new.shelf) _ _ c.args.begin c.reopen.result e.3 told lists

pub returns-clause-rest : goal.returns-clause-rest
returns-clause-rest g c = let e = c.reopen.ensures in rest_by g.V.Shelf.cloud_at c.args.cloud.0 c.args.self.now _ e.0 e.1 _ _ e.2 e.3.call

pub returns-clause-others : goal.returns-clause-others
returns-clause-others g c =
    let e = c.reopen.ensures in
    let lt = ltb-true c.args.cloud.0 c.args.self.now.servers.shape.n c.requires in
    others_by g.V.Shelf.cloud_at c.args.cloud.0 c.args.self.now _ (rest_by g.V.Shelf.cloud_at c.args.cloud.0 c.args.self.now _ e.0 e.1 _ _ e.2 e.3.call)
    (rooms_same _ _ e.0 e.1 e.2.here (here_now c.args.self.now.servers c.reopen.new.self c.args.cloud.0 e.0 e.1 e.2 lt) e.3.same)

pub returns-clause-opens : goal.returns-clause-opens
returns-clause-opens g c =
    let e = c.reopen.ensures in
    opens_here c.args.self.now.servers c.reopen.new.self c.args.cloud.0 e.0 e.1 e.2 (ltb-true c.args.cloud.0 c.args.self.now.servers.shape.n c.requires)
    (g.V.Shelf.cloud_at c.args.self.now.shelf.now) (g.V.Shelf.cloud_at c.reopen.new.shelf) _ _ c.args.begin c.reopen.result e.3

pub returns-clause-shut : goal.returns-clause-shut
returns-clause-shut g c =
    let e = c.reopen.ensures in
    shut_here c.args.self.now.servers c.reopen.new.self c.args.cloud.0 e.0 e.1 e.2 (ltb-true c.args.cloud.0 c.args.self.now.servers.shape.n c.requires)
    (g.V.Shelf.cloud_at c.args.self.now.shelf.now) (g.V.Shelf.cloud_at c.reopen.new.shelf) _ _ c.args.begin c.reopen.result e.3

pub returns-clause-not_begun : goal.returns-clause-not_begun
returns-clause-not_begun g c =
    let e = c.reopen.ensures in
    not_begun_here c.args.self.now.servers c.reopen.new.self c.args.cloud.0 e.0 e.1 e.2 (ltb-true c.args.cloud.0 c.args.self.now.servers.shape.n c.requires)
    (g.V.Shelf.cloud_at c.args.self.now.shelf.now) (g.V.Shelf.cloud_at c.reopen.new.shelf) _ _ c.args.begin c.reopen.result e.3

pub returns-clause-untold : goal.returns-clause-untold
returns-clause-untold g c =
    let e = c.reopen.ensures in
    untold_here c.args.self.now.servers c.reopen.new.self c.args.cloud.0 e.0 e.1 e.2 (ltb-true c.args.cloud.0 c.args.self.now.servers.shape.n c.requires)
    (g.V.Shelf.cloud_at c.args.self.now.shelf.now) (g.V.Shelf.cloud_at c.reopen.new.shelf) _ _ c.args.begin c.reopen.result e.3

pub returns-clause-counts : goal.returns-clause-counts
returns-clause-counts g c =
    let e = c.reopen.ensures in
    counts_here c.args.self.now.servers c.reopen.new.self c.args.cloud.0 e.0 e.1 e.2 (ltb-true c.args.cloud.0 c.args.self.now.servers.shape.n c.requires)
    (g.V.Shelf.cloud_at c.args.self.now.shelf.now) (g.V.Shelf.cloud_at c.reopen.new.shelf) _ _ c.args.begin c.reopen.result e.3

pub returns-clause-loaded : goal.returns-clause-loaded
returns-clause-loaded g c told list stands =
    let e = c.reopen.ensures in
    loaded_here c.args.self.now.servers c.reopen.new.self c.args.cloud.0 e.0 e.1 e.2 (ltb-true c.args.cloud.0 c.args.self.now.servers.shape.n c.requires)
    (g.V.Shelf.cloud_at c.args.self.now.shelf.now) (g.V.Shelf.cloud_at c.reopen.new.shelf) _ _ c.args.begin c.reopen.result e.3 told list stands

pub returns-clause-whole : goal.returns-clause-whole
returns-clause-whole g c told list stands =
    let e = c.reopen.ensures in
    whole_here c.args.self.now.servers c.reopen.new.self c.args.cloud.0 e.0 e.1 e.2 (ltb-true c.args.cloud.0 c.args.self.now.servers.shape.n c.requires)
    (g.V.Shelf.cloud_at c.args.self.now.shelf.now) (g.V.Shelf.cloud_at c.reopen.new.shelf) _ _ c.args.begin c.reopen.result e.3 told list stands

pub returns-clause-begins : goal.returns-clause-begins
returns-clause-begins g c = c.reopen.ensures.3.begins

pub returns-clause-exact : goal.returns-clause-exact
returns-clause-exact g c =
    let e = c.reopen.ensures in
    exact_here c.args.self.now.servers c.reopen.new.self c.args.cloud.0 e.0 e.1 e.2 (ltb-true c.args.cloud.0 c.args.self.now.servers.shape.n c.requires)
    (g.V.Shelf.cloud_at c.args.self.now.shelf.now) (g.V.Shelf.cloud_at c.reopen.new.shelf) _ _ c.args.begin c.reopen.result e.3

pub returns-clause-other_store : goal.returns-clause-other_store
returns-clause-other_store g c =
    let e = c.reopen.ensures in
    other_here c.args.self.now.servers c.reopen.new.self c.args.cloud.0 e.0 e.1 e.2 (ltb-true c.args.cloud.0 c.args.self.now.servers.shape.n c.requires)
    (g.V.Shelf.cloud_at c.args.self.now.shelf.now) (g.V.Shelf.cloud_at c.reopen.new.shelf) _ _ c.args.begin c.reopen.result e.3

pub returns-clause-areas : goal.returns-clause-areas
returns-clause-areas g c =
    let e = c.reopen.ensures in
    areas_here c.args.self.now.servers c.reopen.new.self c.args.cloud.0 e.0 e.1 e.2 (ltb-true c.args.cloud.0 c.args.self.now.servers.shape.n c.requires)
    (g.V.Shelf.cloud_at c.args.self.now.shelf.now) (g.V.Shelf.cloud_at c.reopen.new.shelf) _ _ c.args.begin c.reopen.result e.3

pub returns-clause-call : goal.returns-clause-call
returns-clause-call g c =
    let e = c.reopen.ensures in
    call_here c.args.self.now.servers c.reopen.new.self c.args.cloud.0 e.0 e.1 e.2 (ltb-true c.args.cloud.0 c.args.self.now.servers.shape.n c.requires)
    (g.V.Shelf.cloud_at c.args.self.now.shelf.now) (g.V.Shelf.cloud_at c.reopen.new.shelf) _ _ c.args.begin c.reopen.result e.3

pub returns-clause-rooms : goal.returns-clause-rooms
returns-clause-rooms g c =
    let e = c.reopen.ensures in
    let lt = ltb-true c.args.cloud.0 c.args.self.now.servers.shape.n c.requires in
    rooms_same _ _ e.0 e.1 e.2.here (here_now c.args.self.now.servers c.reopen.new.self c.args.cloud.0 e.0 e.1 e.2 lt) e.3.same
